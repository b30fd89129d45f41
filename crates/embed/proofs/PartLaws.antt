-- The two words of show name the part of the map table that it hands back.
use mathlib.Core.Path.{◌≡◌, refl, sym, ap, ◌∙◌}
use mathlib.Core.Logic.{◌≢◌}
use mathlib.Core.Bool.{Bool, true, false, cond}
use mathlib.Core.List.{List, [], ◌∷◌}
use mathlib.Core.Option.{Option, none, some}
use Prim.Native.Nat.{ℕ, ◌-◌}
use borrow.Author.Tests.{ne_eqb, eqb-true}
use lib.Dec.{eqb}
use lib.ListN.{length, get_or, take, drop}
use Rattle.std.proofs.lemmas.List.{length-take, take_min, nil_from_length}
use Rattle.tables.specs.Row.{bounds_of, row_of}
use Rattle.std.specs.declared.ops.Range.{Range}
use Rattle.records.specs.Monitor.{guest_of}
use Rattle.commands.specs.Tests.{first_refusal}
use Rattle.commands.specs.State.{Answered, state}
use Rattle.commands.specs.Command.{view, tests_of, result_with, result_of}
use Rattle.commands.specs.declared.decision.Decision.{Decision}
use Rattle.commands.proofs.CommandLaws.{applying}
use Rattle.records.specs.declared.guest.Guest.{Guest}
use Rattle.records.specs.declared.monitor.Monitor.{Monitor}
use Rattle.answers.specs.declared.answer.Answer.{Answer}
use Rattle.host_guests.specs.Calls.{show_command, shown_unless, shown_by, show_of}
use Rattle.host_guests.proofs.GuestLaws.{show_performed}
use Rattle.embed.specs.Part.{part_words}

-- show, by the record g of slot v
module _ (v : ℕ) (r : Monitor) (m : List ℕ) (g : Guest) (e : g ≡ guest_of r v) where
  pub show_told : (d : Decision) → result_with [] m d ≡ result_of (show_command v) (view [] m v g) → d.answer ≡ (show_of v r m).answer
  show_told d h = ap (λ (a : Answered). a.answer) (applying (show_command v) (state [] m r) v g (result_with [] m d) refl e h ∙ show_performed v (state [] m r))

  module _ (row : List ℕ) (s : row ≡ (shown_by v g m).part) where
    handed : row ≡ (show_of v r m).part
    unfolding show_of
    handed = rw (← e) s

    pub part_empty : length row ≡ 0 → 0 ∷ 0 ∷ [] ≡ part_words v r m
    part_empty h = let none : length (show_of v r m).part ≡ 0 = rw handed at h in rw none

    pub part_there : length row ≢ 0 → (b : Range ℕ) → b ≡ bounds_of (length m) v → b.start ∷ length row ∷ [] ≡ part_words v r m
    part_there h b q = rw (q, handed, ne_eqb (length (show_of v r m).part) 0 (rw handed at h))

take_taken : (k : ℕ) (l : List ℕ) → take (length (take k l)) l ≡ take k l
take_taken k l = rw length-take (take_min k l)

-- the words from some word of a table on, named by where they begin and how many they are
named_part : (a k : ℕ) (m : List ℕ) (b : Bool) → eqb (length (take k (drop a m))) 0 ≡ b
    → take (length (take k (drop a m))) (drop (cond b 0 a) m) ≡ take k (drop a m)
named_part a k m true e = let none = eqb-true (length (take k (drop a m))) 0 e in rw none (sym (nil_from_length (take k (drop a m)) none))
named_part a k m false e = take_taken k (drop a m)

-- the part that the two words name is the one that show hands back
pub part_shown : (v : ℕ) (r : Monitor) (m : List ℕ) → take (get_or (part_words v r m) 1 0) (drop (get_or (part_words v r m) 0 0) m) ≡ (show_of v r m).part
unfolding show_of
part_shown v r m = go (first_refusal (tests_of (show_command v) (view [] m v (guest_of r v))))
  where
    go : (q : Option Answer)
        → let n = length (shown_unless q (row_of m v)).part in
        take n (drop (cond (eqb n 0) 0 (bounds_of (length m) v).start) m) ≡ (shown_unless q (row_of m v)).part
    go none = let b = bounds_of (length m) v in named_part b.start (b.end - b.start) m (eqb (length (row_of m v)) 0) refl
    go (some a) = refl
