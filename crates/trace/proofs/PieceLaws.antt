-- A log in pieces: what one piece left stands before the next, and the texts stand one behind the other.
use Rattle.std.proofs.Common.{Some, None, Ok, Err, ◌≡◌, ℕ, zero, suc, ◌<◌, ◌≤◌, Bool, true, false, List, [], ◌∷◌, ◌++◌, length, drop, sym, refl, ap, ◌∙◌, append_assoc, append-nil, arith, length-drop}
use mathlib.Core.List.{append_cancel_left, flatten}
use lib.Seq.{drop-length}
use Rattle.words.proofs.Booleans.{never}
use Rattle.trace_records.specs.Record.{Decoded, decode_of}
use Rattle.trace_records.proofs.DecodeLaws.{unfinished_size}
use Rattle.trace.specs.Replay.{Replay, ReplayOutcome, unless_stopped, advance_of, outcome, text_before, outcome_of, closing, pieces_text}
use Rattle.trace.specs.Ensured.{Turns}
use Rattle.trace.proofs.ReplayLaws.{took, one_record, outcome_advances}

-- some bytes and others behind them: what the first left stands before the others
abbrev Joins : Replay → List ℕ → List ℕ → Type 0
Joins r s t = outcome_of r (s ++ t) ≡ text_before (outcome_of r s).text (outcome_of (outcome_of r s).left ((outcome_of r s).rest ++ t))

joins_by : (b : Bool) (r : Replay) (s t : List ℕ) → (advance_of r s).more ≡ b
    → (b ≡ true → Joins (advance_of r s).left (drop (advance_of r s).taken s) t)
    → Joins r s t
joins_by true r s t e h = rw (outcome_advances r s t, one_record r s, e, h refl, append_assoc)
joins_by false r s t e h = rw (outcome_advances r s t, one_record r s, e)

joins_within : (k : ℕ) (r : Replay) (s t : List ℕ) → length s ≤ k → Joins r s t
joins_within zero r s t h = joins_by (advance_of r s).more r s t refl (λ e. absurd (omega (arith, (took r s).0, (took r s).1 e)))
joins_within (suc k) r s t h =
    let a = advance_of r s in
    joins_by a.more r s t refl (λ e. joins_within k a.left (drop a.taken s) t (simp length-drop (omega (arith, (took r s).1 e))))

joins : (r : Replay) (s t : List ℕ) → Joins r s t
joins r s t = joins_within (length s) r s t (omega arith)

-- there is nothing to answer in these bytes before more come
abbrev Settled : Replay → List ℕ → Type 0
Settled r s = outcome_of r s ≡ outcome [] r s

settles : (r : Replay) (s : List ℕ) → Settled (outcome_of r s).left (outcome_of r s).rest
settles r s =
    let o = outcome_of r s in
    let more = outcome_of o.left o.rest in
    let same : o ≡ text_before o.text more = rw (append-nil s, append-nil o.rest) at (joins r s []) in
    let none : [] ≡ more.text = append_cancel_left o.text [] more.text (append-nil o.text ∙ ap (λ (x : ReplayOutcome). x.text) same) in
    rw (sym none, sym (ap (λ (x : ReplayOutcome). x.left) same), sym (ap (λ (x : ReplayOutcome). x.rest) same))

pub pieces_joined : (ps : List (List ℕ)) (r : Replay) (held : List ℕ) → Settled r held
    → pieces_text r held ps
    ≡ (outcome_of r (held ++ flatten ps)).text ++ closing (outcome_of r (held ++ flatten ps)).left.answered (length (outcome_of r (held ++ flatten ps)).rest)
unfolding flatten
pieces_joined [] r held h = rw (append-nil held, h)
pieces_joined (p ∷ ps) r held h =
    let o = outcome_of r (held ++ p) in
    rw (← append_assoc held p (flatten ps), joins r (held ++ p) (flatten ps), pieces_joined ps o.left o.rest (settles r (held ++ p)), append_assoc)

-- what is left is the beginning of a record, which has fewer bytes than the longest
left_by : (b : Bool) (r : Replay) (s : List ℕ) (d : Decoded) → decode_of s ≡ d → (unless_stopped b r s d).more ≡ false
    → length (drop (unless_stopped b r s d).taken s) < 37
left_by true r s d q e = rw (drop-length s) (omega arith)
left_by false r s (Ok (Some g)) q e = never cc
left_by false r s (Err b) q e = rw (drop-length s) (omega arith)
left_by false r s (Ok None) q e = unfinished_size s q

rest_by : (b : Bool) (r : Replay) (s : List ℕ) → (advance_of r s).more ≡ b
    → (b ≡ true → length (outcome_of (advance_of r s).left (drop (advance_of r s).taken s)).rest < 37)
    → length (outcome_of r s).rest < 37
unfolding advance_of
rest_by true r s e h = rw (one_record r s, e) (h refl)
rest_by false r s e h = rw (one_record r s, e) (left_by r.stopped r s (decode_of s) refl e)

rest_within : (k : ℕ) (r : Replay) (s : List ℕ) → length s ≤ k → length (outcome_of r s).rest < 37
rest_within zero r s h = rest_by (advance_of r s).more r s refl (λ e. absurd (omega (arith, (took r s).0, (took r s).1 e)))
rest_within (suc k) r s h =
    let a = advance_of r s in
    rest_by a.more r s refl (λ e. rest_within k a.left (drop a.taken s) (simp length-drop (omega (arith, (took r s).1 e))))

pub held_at_most : (r : Replay) (s : List ℕ) → length (outcome_of r s).rest < 37
held_at_most r s = rest_within (length s) r s (omega arith)

-- a turn, where the bytes that were not taken stay at hand
pub turns : (start left : Replay) (piece text held : List ℕ) (k : ℕ) → outcome_of start piece ≡ outcome text left (drop k piece) → held ≡ drop k piece
    → Turns start piece left held text
turns start left piece text held k h e = record { comes_to = rw e h; few = rw e (rw h at (held_at_most start piece)) }
