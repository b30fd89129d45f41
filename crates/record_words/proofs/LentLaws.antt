-- A call decided on the record that words say, with its change and its answer put back as words, is the call on what is lent.
use mathlib.Core.Path.{◌≡◌, refl, ap, sym, ◌∙◌}
use mathlib.Core.Bool.{false}
use mathlib.Core.List.{List}
use Prim.Native.Nat.{ℕ}
use Rattle.answers.specs.Answer.{numbers_of}
use Rattle.records.specs.Monitor.{guest_of}
use Rattle.records.specs.Change.{alters, with_change}
use Rattle.records.specs.declared.guest.Guest.{Guest}
use Rattle.records.specs.declared.change.Change.{Change}
use Rattle.records.specs.declared.change.Change.TheVariants.{Kept}
use Rattle.commands.specs.State.{State, state, Answered}
use Rattle.commands.specs.Command.{View, view, slot_number, Effect, answer_only, change_record, write_tables, Command, effect_of, Result, result_with, result_by, result_of, performed}
use Rattle.commands.specs.declared.decision.Decision.{Decision}
use Rattle.commands.proofs.CommandLaws.{command_either, applying}
use Rattle.record_words.specs.Words.{monitor_in, words_after, answer_words}
use Rattle.record_words.proofs.WordLaws.{records_kept}
use Rattle.record_words.specs.Lent.{lent, lent_after}

-- what an effect does to the record of its slot
abbrev change_by : Effect → Change
change_by (answer_only a) = Kept
change_by (change_record d y) = d
change_by (write_tables f m d y) = d

-- a call whose effect changes no record decides no change
keeps_record : (k : Command) (x : View) → change_by (effect_of k x) ≡ Kept → (result_of k x).decision.change ≡ Kept
keeps_record k x h = command_either (λ e. (result_by x e).decision.change ≡ Kept) k x (λ a. refl) (λ q. on (effect_of k x) h)
  where
    on : (e : Effect) → change_by e ≡ Kept → (result_by x e).decision.change ≡ Kept
    on (answer_only a) p = refl
    on (change_record d y) p = p
    on (write_tables f m d y) p = p

lent_done : (call : State → Answered) (w f m : List ℕ) (z : Answered) → z ≡ call (state f m (monitor_in w))
    → lent (words_after w z.left.monitor) z.left.frames z.left.map (answer_words (numbers_of z.answer)) ≡ lent_after call w f m
unfolding lent_after
lent_done call w f m z e = rw e

-- any call, decided on the record of its slot
module _ (k : Command) (w f m : List ℕ) {v : ℕ} (n : v ≡ slot_number k.slot (monitor_in w)) {g : Guest} (e : g ≡ guest_of (monitor_in w) v)
    {f' m' : List ℕ} {d : Decision} (h : result_with f' m' d ≡ result_of k (view f m v g)) {a' : List ℕ} (told : a' ≡ answer_words (numbers_of d.answer))
  where
    pub lent_put : {w' : List ℕ} → w' ≡ words_after w (with_change (monitor_in w) v d.change) → lent w' f' m' a' ≡ lent_after (performed k) w f m
    lent_put put = rw (put, told) (lent_done (performed k) w f m _ (applying k (state f m (monitor_in w)) v g (result_with f' m' d) n e h))

    -- a change that alters no record leaves every word
    pub lent_unaltered : alters d.change ≡ false → lent w f' m' a' ≡ lent_after (performed k) w f m
    lent_unaltered same = lent_put (rw same (sym (records_kept w)))

    -- with no word of the records written
    pub lent_kept : change_by (effect_of k (view f m v g)) ≡ Kept → lent w f' m' a' ≡ lent_after (performed k) w f m
    lent_kept keeps =
        let same : d.change ≡ Kept = ap (λ (r : Result). r.decision.change) h ∙ keeps_record k (view f m v g) keeps in
        lent_unaltered (rw same)
