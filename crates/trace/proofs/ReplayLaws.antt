-- A replay of some bytes goes on from where it got, whatever bytes follow: good and bad records stay so when more bytes come.
use Rattle.std.proofs.Common.{Some, None, Ok, Err, ◌≡◌, ℕ, zero, suc, ◌<◌, ◌≤◌, Bool, true, false, List, [], ◌∷◌, ◌++◌, length, drop, sym, refl, ◌∙◌, arith, length-drop}
use lib.Seq.{drop-append-le, drop-length}
use Rattle.words.proofs.Booleans.{never}
use Rattle.trace_records.specs.Record.{Decoded, decode_of}
use Rattle.trace_records.proofs.DecodeLaws.{record_size, record_stays}
use Rattle.trace_records.proofs.BadLaws.{bad_stays}
use Rattle.trace.specs.Replay.{Replay, replay, Advance, advance_by, unless_stopped, advance_of, ReplayOutcome, outcome, text_before, read_on, record_by_record, outcome_of}

-- what a record comes to, by what the bytes are
pub advance_decoded : (r : Replay) (s : List ℕ) (d : Decoded) → r.stopped ≡ false → decode_of s ≡ d → advance_of r s ≡ advance_by r s d
unfolding advance_of
advance_decoded r s d e q = rw (e, q)

-- an advance takes no more than there is, and a byte at least where it goes on
took_by : (b : Bool) (r : Replay) (s : List ℕ) (d : Decoded) → decode_of s ≡ d
    → ((unless_stopped b r s d).taken ≤ length s)
    × ((unless_stopped b r s d).more ≡ true → 0 < (unless_stopped b r s d).taken)
took_by true r s d e = (omega arith, λ h. (never cc))
took_by false r s (Ok (Some g)) e = let size = record_size s g.call g.size e in (omega arith, λ h. omega arith)
took_by false r s (Err b) e = (omega arith, λ h. (never cc))
took_by false r s (Ok None) e = (omega arith, λ h. (never cc))

pub took : (r : Replay) (s : List ℕ) → ((advance_of r s).taken ≤ length s) × ((advance_of r s).more ≡ true → 0 < (advance_of r s).taken)
unfolding advance_of
took r s = took_by r.stopped r s (decode_of s) refl

-- where there are no bytes, nothing is done
nothing_by : (k : ℕ) (r : Replay) (b : Bool) → r.stopped ≡ b → record_by_record k r [] ≡ outcome [] r []
unfolding advance_of decode_of
nothing_by zero r b e = refl
nothing_by (suc k) r true e = rw e
nothing_by (suc k) r false e = rw e

nothing : (k : ℕ) (r : Replay) → record_by_record k r [] ≡ outcome [] r []
nothing k r = nothing_by k r r.stopped refl

pub no_bytes : (r : Replay) → outcome_of r [] ≡ outcome [] r []
unfolding outcome_of
no_bytes r = refl

goes_same : (b : Bool) (f g : Replay → List ℕ → ReplayOutcome) (a : Advance) (s : List ℕ)
    → (b ≡ true → f a.left (drop a.taken s) ≡ g a.left (drop a.taken s))
    → read_on b f a s ≡ read_on b g a s
goes_same true f g a s h = rw (h refl)
goes_same false f g a s h = refl

-- fuel for each byte is enough
enough : (j k : ℕ) (r : Replay) (s : List ℕ) → length s ≤ j → length s ≤ k → record_by_record j r s ≡ record_by_record k r s
enough zero k r [] hj hk = sym (nothing k r)
enough zero k r (x ∷ s) hj hk = absurd (omega arith)
enough (suc j) zero r [] hj hk = nothing (suc j) r
enough (suc j) zero r (x ∷ s) hj hk = absurd (omega arith)
enough (suc j) (suc k) r s hj hk =
    let a = advance_of r s in
    goes_same a.more (λ t b. record_by_record j t b) (λ t b. record_by_record k t b) a s
    (λ e.
    let some = (took r s).1 e in
    enough j k a.left (drop a.taken s) (simp length-drop (omega arith)) (simp length-drop (omega arith)))

-- the first record, and then the others
pub one_record : (r : Replay) (s : List ℕ) → outcome_of r s ≡ read_on (advance_of r s).more (λ t b. outcome_of t b) (advance_of r s) s
unfolding outcome_of
one_record r s =
    let a = advance_of r s in
    enough (length s) (suc (length s)) r s (omega arith) (omega arith)
    ∙ goes_same a.more (λ t b. record_by_record (length s) t b) (λ t b. record_by_record (length b) t b) a s
    (λ e. enough (length s) (length (drop a.taken s)) a.left (drop a.taken s) (simp length-drop (omega arith)) (omega arith))

-- after a bad record all bytes are passed over
pub stopped_outcome : (r : Replay) (s : List ℕ) → r.stopped ≡ true → outcome_of r s ≡ outcome [] r []
unfolding advance_of
stopped_outcome r s e = one_record r s ∙ rw (e, drop-length s)

advances_by : (r : Replay) (s t : List ℕ) (b : Bool) → r.stopped ≡ b → (d : Decoded) → decode_of s ≡ d
    → outcome_of r (s ++ t)
    ≡ text_before (unless_stopped b r s d).text
    (outcome_of (unless_stopped b r s d).left (drop (unless_stopped b r s d).taken s ++ t))
unfolding advance_of
advances_by r s t true e d q = stopped_outcome r (s ++ t) e ∙ rw (stopped_outcome r (drop (length s) s ++ t) e)
advances_by r s t false e (Ok (Some g)) q =
    let size = record_size s g.call g.size q in
    one_record r (s ++ t) ∙ rw (e, record_stays s t g.call g.size q, drop-append-le g.size s t size.1)
advances_by r s t false e (Err b) q =
    let end = replay r.state r.answered true in
    one_record r (s ++ t) ∙ rw (e, bad_stays s t q, drop-length (s ++ t), stopped_outcome end (drop (length s) s ++ t) refl)
advances_by r s t false e (Ok None) q = refl

-- the bytes at hand come to their first record, and then to what is left of them, whatever follows
pub outcome_advances : (r : Replay) (s t : List ℕ)
    → outcome_of r (s ++ t) ≡ text_before (advance_of r s).text (outcome_of (advance_of r s).left (drop (advance_of r s).taken s ++ t))
unfolding advance_of
outcome_advances r s t = advances_by r s t r.stopped refl (decode_of s) refl
