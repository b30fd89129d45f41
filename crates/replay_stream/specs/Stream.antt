-- What reads and writes of a replay come to, where the bytes that the reader has left and those that the writer holds are known.
use Rattle.std.specs.Prelude.{◌≡◌, ℕ, ◌<◌, List, [], ◌++◌, length, Option, IfSome}
use Rattle.std.specs.Io.KnownBytes.{Consumes, Appends, IsAtEnd}
use mathlib.Core.List.{flatten}
use Rattle.trace.specs.Replay.{Replay, replay_text, pieces_text}

-- a read of n bytes, which stand behind those at hand; where there is room, it is of none at the end alone
abbrev pub Reads : Option (List ℕ) → Option (List ℕ) → List ℕ → List ℕ → ℕ → Type 0
Reads before after held input n =
    (p : List ℕ) × (length p ≡ n) × Consumes before after p × (input ≡ held ++ p) × (n ≡ 0 → length held < 6236 → IsAtEnd after)

-- all that a reader had left came in pieces, and a writer holds their text and the last lines behind what it held
abbrev pub WritesPieces : Replay → Option (List ℕ) → Option (List ℕ) → Option (List ℕ) → Type 0
WritesPieces start log before after = IfSome log (λ xs. (ps : List (List ℕ)) × (flatten ps ≡ xs) × Appends before after (pieces_text start [] ps))

-- a writer holds the whole text of all that a reader had left behind what it held
abbrev pub WritesReplay : Option (List ℕ) → Option (List ℕ) → Option (List ℕ) → Type 0
WritesReplay log before after = IfSome log (λ xs. Appends before after (replay_text xs))
