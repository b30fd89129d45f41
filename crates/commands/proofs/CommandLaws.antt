-- Laws over any call as a value: how its code finds its result, and what every call leaves.
use mathlib.Core.Path.{◌≡◌, refl}
use mathlib.Core.Logic.{◌≢◌}
use mathlib.Core.Bool.{Bool, true, false, cond}
use mathlib.Core.List.{List}
use mathlib.Core.Option.{Option, none, some}
use Prim.Native.Nat.{ℕ, ◌≤◌}
use borrow.Author.Tests.{le-ltb}
use lib.ListN.{length}
use Rattle.tables.specs.Length.{map_holds, lengths_hold}
use Rattle.answers.specs.declared.answer.Answer.{Answer}
use Rattle.answers.specs.declared.answer.Answer.TheVariants.{BadLength, NoGuest}
use Rattle.records.specs.Monitor.{zero_guest, guest_of}
use Rattle.records.specs.declared.guest.Guest.{Guest}
use Rattle.records.proofs.ChangeLaws.{change_other, change_count}
use Rattle.commands.specs.State.{State, Answered, answered}
use Rattle.commands.specs.Tests.{first_refusal}
use Rattle.commands.specs.Command.{View, view, Tables, no_table, map_table, both_tables, Slot, given_slot, lowest_free, no_slot, slot_number, Success, success_answer, Effect, answer_only, change_record, write_tables, Command, tests_of, effect_of, unless_refused, Result, result_by, result_of, view_of, applied, effected, performed}

-- what a call decides by the record of its slot, applied, is the call
pub applying : (k : Command) (s : State) (v : ℕ) (g : Guest) (o : Result) → v ≡ slot_number k.slot s.monitor → g ≡ guest_of s.monitor v
    → o ≡ result_of k (view s.frames s.map v g) → applied v s o ≡ performed k s
applying k s v g o n e h = rw h (rw e (rw n))

-- what holds of every effect that only answers, and of the effect of a call whose tests pass, holds of what the call does
pub command_either : (P : Effect → Type 0) (k : Command) (x : View) → ((a : Answer) → P (answer_only a)) → (first_refusal (tests_of k x) ≡ none → P (effect_of k x))
    → P (unless_refused (first_refusal (tests_of k x)) (effect_of k x))
command_either P k x told does = on (first_refusal (tests_of k x)) refl
  where
    on : (q : Option Answer) → first_refusal (tests_of k x) ≡ q → P (unless_refused q (effect_of k x))
    on none e = does e
    on (some a) e = told a

-- of any call: it leaves the state and answers something, or leaves another and answers a success
pub performed_either : (P : Answered → Type 0) (k : Command) (s : State) → ((a : Answer) → P (answered s a))
    → ((t : State) (y : Success) → P (answered t (success_answer y))) → P (performed k s)
performed_either P k s same other =
    command_either (λ e. P (effected (slot_number k.slot s.monitor) s e)) k (view_of (slot_number k.slot s.monitor) s) (λ a. same a)
    (λ q. on (effect_of k (view_of (slot_number k.slot s.monitor) s)))
  where
    on : (e : Effect) → P (effected (slot_number k.slot s.monitor) s e)
    on (answer_only a) = same a
    on (change_record d y) = other _ y
    on (write_tables f m d y) = other _ y

-- any call leaves every record but that of its slot, and as many as there were
pub performed_other : (k : Command) (s : State) (u : ℕ) → u ≢ slot_number k.slot s.monitor → guest_of (performed k s).left.monitor u ≡ guest_of s.monitor u
performed_other k s u n =
    let v = slot_number k.slot s.monitor in
    change_other s.monitor v (result_of k (view_of v s)).decision.change u n

pub performed_count : (k : Command) (s : State) → length (performed k s).left.monitor.guests ≡ length s.monitor.guests
performed_count k s =
    let v = slot_number k.slot s.monitor in
    change_count s.monitor v (result_of k (view_of v s)).decision.change

module _ (frames map : List ℕ) (v : ℕ) (g h : Guest) where
  -- what an effect leaves is not a matter of the record
  same_effect : (e : Effect) → result_by (view frames map v g) e ≡ result_by (view frames map v h) e
  same_effect (answer_only a) = refl
  same_effect (change_record d y) = refl
  same_effect (write_tables f m d y) = refl

  -- refused with one answer or another, whatever else
  either_refused : (b : Bool) (a c : Answer) (d e : Effect)
      → result_by (view frames map v g) (unless_refused (cond b (some a) (some c)) d) ≡ result_by (view frames map v h) (unless_refused (cond b (some a) (some c)) e)
  either_refused true a c d e = refl
  either_refused false a c d e = refl

  -- a call of a slot above 7 comes to the same with any record
  pub any_record : (k : Command) → 8 ≤ v → result_of k (view frames map v g) ≡ result_of k (view frames map v h)
  any_record k l = by_slot k.slot k.tables
    where
      with_parts : Slot → Tables → Command
      with_parts u t = record { tables = t; slot = u; tests = k.tests; effect = k.effect }

      by_slot : (u : Slot) (t : Tables) → result_of (with_parts u t) (view frames map v g) ≡ result_of (with_parts u t) (view frames map v h)
      by_slot (given_slot w) no_table = rw (le-ltb v 8 l)
      by_slot (given_slot w) map_table =
          rw (le-ltb v 8 l) (either_refused (map_holds (length map)) NoGuest BadLength (k.effect (view frames map v g)) (k.effect (view frames map v h)))
      by_slot (given_slot w) both_tables =
          rw (le-ltb v 8 l)
          (either_refused (lengths_hold (length frames) (length map)) NoGuest BadLength (k.effect (view frames map v g)) (k.effect (view frames map v h)))
      by_slot lowest_free t =
          same_effect (unless_refused (first_refusal (tests_of (with_parts lowest_free t) (view frames map v g))) (k.effect (view frames map v zero_guest)))
      by_slot no_slot t =
          same_effect (unless_refused (first_refusal (tests_of (with_parts no_slot t) (view frames map v g))) (k.effect (view frames map v zero_guest)))
