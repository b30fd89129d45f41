-- How an access comes out, by what its code finds on the way.
use mathlib.Core.Path.{◌≡◌}
use mathlib.Core.List.{List}
use Prim.Native.Nat.{ℕ, ◌<◌, ◌≤◌}
use borrow.Author.Tests.{lt-ltb, le-ltb}
use lib.ListN.{length, get_or}
use Rattle.words.specs.Granule.{granule_of}
use Rattle.words.specs.MapWord.{map_word_of}
use Rattle.tables.specs.Length.{width_of}
use Rattle.tables.specs.Row.{row_of}
use Rattle.pairs.specs.Pair.{granule_state}
use Rattle.pairs.specs.declared.pairs.GranuleState.{GranuleState}
use Rattle.tables.proofs.RowLaws.{in_row, off_row}
use Rattle.pairs.proofs.PairLaws.{granule_in_row}
use Rattle.records.specs.declared.guest.Guest.{Guest}
use Rattle.guest_aborts.specs.Calls.{unbacked, access_answer, guest_access_of}

-- an access of slot v, whose row is `words`, in the granule g that holds the address
module _ (frames map : List ℕ) (v : ℕ) (h : v < 8) (words : List ℕ) (e : words ≡ row_of map v) (a g : ℕ) (eg : g ≡ granule_of a) (guest : Guest) where
  pub access_beyond : length words ≤ g → guest_access_of frames map v a guest ≡ unbacked a guest
  unfolding guest_access_of
  access_beyond l = rw (← eg, le-ltb g (width_of (length map)) (off_row map v g words e l h))

  pub access_within : g < length words → (k : GranuleState) → k ≡ granule_state frames v g (map_word_of (get_or words g 0))
      → guest_access_of frames map v a guest ≡ access_answer a guest k
  unfolding guest_access_of
  access_within l k ek = rw (← eg, lt-ltb g (width_of (length map)) (in_row map v g words e l).granule, ← granule_in_row frames map v g words e l, ← ek)
