-- Document 01, "Tables": "The state keeps the guest record of each of eight slots: live, run, enrolled and three feature bitmaps." Document 02,
-- Wish 1: "The record keeps the kind".
use Rattle.std.specs.Prelude.{Bool, true, false, cond, not, ◌&&◌, List, [], ◌∷◌, ℕ, zero, suc, eqb, ltb, get_or, set, replicate}
use mir.Val.{bool_byte}
use Rattle.records.specs.declared.guest.Guest.{Guest}
use Rattle.records.specs.declared.monitor.Monitor.{Monitor}

-- a record field by field: only in guest_with, in the two that set some fields and keep the others, and in its words
abbrev guest_with : Bool → Bool → Bool → Bool → ℕ → ℕ → ℕ → Guest
guest_with l k r e a b c = record { live = l; legacy = k; run = r; enrolled = e; std = a; std_hyp = b; vendor_hyp = c }

abbrev pub with_flags : Bool → Bool → Bool → Bool → Guest → Guest
with_flags l k r e g = guest_with l k r e g.std g.std_hyp g.vendor_hyp

abbrev pub with_bitmaps : ℕ → ℕ → ℕ → Guest → Guest
with_bitmaps a b c g = guest_with g.live g.legacy g.run g.enrolled a b c

-- the number of words of a record
abbrev pub guest_length : ℕ
guest_length = 7

-- a record as the words that a caller of the library lends: a flag is 1 where it is set, else 0
abbrev pub words_of : Guest → List ℕ
words_of g =
    bool_byte g.live ∷ bool_byte g.legacy ∷ bool_byte g.run ∷ bool_byte g.enrolled
    ∷ g.std ∷ g.std_hyp ∷ g.vendor_hyp ∷ []

-- a flag word other than 0 counts as set
abbrev is_set : ℕ → Bool
is_set n = not (eqb n 0)

-- the record that its words say
abbrev pub guest_in : List ℕ → Guest
guest_in w =
    guest_with (is_set (get_or w 0 0)) (is_set (get_or w 1 0)) (is_set (get_or w 2 0)) (is_set (get_or w 3 0)) (get_or w 4 0) (get_or w 5 0) (get_or w 6 0)

abbrev pub zero_guest : Guest
zero_guest = guest_with false false false false 0 0 0

-- "create sets every field anew": live, and "The supported limits, also the first values, are 0, 0 and 1." Of a guest that knows no ranges,
-- legacy here: "such a guest counts as enrolled from creation".
abbrev pub new_guest : Bool → Guest
new_guest legacy = with_flags true legacy false legacy (with_bitmaps 0 0 1 zero_guest)

-- "Run: marks the guest as run"
abbrev pub mark_run : Guest → Guest
mark_run g = with_flags g.live g.legacy true g.enrolled g

-- "enroll": the flag alone changes
abbrev pub enroll : Guest → Guest
enroll g = with_flags g.live g.legacy g.run true g

-- "Fresh tables and records are all zero."
abbrev pub fresh : Monitor
fresh = record { guests = replicate 8 zero_guest }

-- the record of slot v; "there are 8 guest slots, 0 to 7", and another has no guest
unfoldable pub guest_of : Monitor → ℕ → Guest
guest_of m v = cond (ltb v 8) (get_or m.guests v zero_guest) zero_guest

-- the state with slot v's record put in; where there is no such slot, nothing changes
unfoldable pub with_guest : Monitor → ℕ → Guest → Monitor
with_guest m v g = cond (ltb v 8) (record { guests = set m.guests v g }) m

-- verdict 2, "slot above 7 or not live", passed: whatever record a caller holds for a slot above 7, there is no guest
abbrev pub live_in : ℕ → Guest → Bool
live_in v g = ltb v 8 && g.live

-- the lowest of n slots from v on that isn't live, or v + n
unfoldable pub free_from : Monitor → ℕ → ℕ → ℕ
free_from m v zero = v
free_from m v (suc n) = cond (guest_of m v).live (free_from m (suc v) n) v

-- "the lowest slot that isn't live", or 8 where all eight are
abbrev pub free_slot : Monitor → ℕ
free_slot m = free_from m 0 8
