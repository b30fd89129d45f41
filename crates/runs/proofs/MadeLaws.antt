-- What holds of the first state, and is kept by every call that does not refuse, holds wherever a call is made. So what every such call makes
-- greater, in the states with some P that is kept, rises from call to call. And no call is made elsewhere: the pieces hang on what calls do in these states alone.
use mathlib.Core.Path.{◌≡◌, refl, ap}
use mathlib.Core.List.{List, [], ◌∷◌, ◌++◌}
use Prim.Native.Nat.{ℕ, zero, suc, ◌-◌, ◌≤◌, ◌<◌}
use native.Mathlib.Omega.{arith}
use Rattle.runs.specs.Run.{complete, refused, out_of_fuel, End, ended, after, go_on, carry_on, and_then, pieces}
use Rattle.runs.specs.Made.{further, calls_carried, next_piece, calls_made, Every, Rising}

every_append : {S : Type 0} (P : S → Type 0) (xs ys : List S) → Every P xs → Every P ys → Every P (xs ++ ys)
every_append P [] ys h k = k
every_append P (x ∷ xs) ys h k = (h.0, every_append P xs ys h.1 k)

every_left : {S : Type 0} (P : S → Type 0) (xs ys : List S) → Every P (xs ++ ys) → Every P xs
every_left P [] ys h = tt
every_left P (x ∷ xs) ys h = (h.0, every_left P xs ys h.1)

every_right : {S : Type 0} (P : S → Type 0) (xs ys : List S) → Every P (xs ++ ys) → Every P ys
every_right P [] ys h = h
every_right P (x ∷ xs) ys h = every_right P xs ys h.1

module _ {S R : Type 0} (P : S → Type 0) where
  -- P of the state that an end leaves, if it goes on from there
  abbrev Leaves : End S R → Type 0
  Leaves (ended k s complete) = P s
  Leaves (ended k s (refused r)) = Unit {0}
  Leaves (ended k s out_of_fuel) = Unit {0}

  leaves_after : (k : ℕ) (e : End S R) → Leaves e → Leaves (after k e)
  leaves_after k (ended d s complete) h = h
  leaves_after k (ended d s (refused r)) h = tt
  leaves_after k (ended d s out_of_fuel) h = tt

  module _ (call : ℕ → S → End S R) (keeps : (m : ℕ) (s : S) (k : ℕ) (t : S) → 1 ≤ m → P s → call m s ≡ ended k t complete → P t) where
    carried_every : (f m : ℕ) (s : S) → P s → Every P (calls_carried call f m s)
    carried_every zero m s p = tt
    carried_every (suc f) zero s p = tt
    carried_every (suc f) (suc m) s p = (p, on (λ k t q. carried_every f k t q) (call (suc m) s) refl)
      where
        on : ((k : ℕ) (t : S) → P t → Every P (calls_carried call f k t)) → (e : End S R) → call (suc m) s ≡ e
            → Every P (further (λ k t. calls_carried call f k t) (suc m) e)
        on ih (ended k t complete) e = ih (suc m - k) t (keeps (suc m) s k t (omega arith) p e)
        on ih (ended k t (refused r)) e = tt
        on ih (ended k t out_of_fuel) e = tt

    carried_leaves : (f m : ℕ) (s : S) → P s → Leaves (carry_on call f m s)
    carried_leaves zero zero s p = p
    carried_leaves zero (suc m) s p = tt
    carried_leaves (suc f) zero s p = p
    carried_leaves (suc f) (suc m) s p = on (λ k t q. carried_leaves f k t q) (call (suc m) s) refl
      where
        on : ((k : ℕ) (t : S) → P t → Leaves (carry_on call f k t)) → (e : End S R) → call (suc m) s ≡ e
            → Leaves (go_on (λ k t. carry_on call f k t) (suc m) e)
        on ih (ended k t complete) e = leaves_after k (carry_on call f (suc m - k) t) (ih (suc m - k) t (keeps (suc m) s k t (omega arith) p e))
        on ih (ended k t (refused r)) e = tt
        on ih (ended k t out_of_fuel) e = tt

    pub made_every : (ms : List ℕ) (s : S) → P s → Every P (calls_made call ms s)
    made_every [] s p = tt
    made_every (m ∷ ms) s p =
        every_append P (calls_carried call m m s) (next_piece (λ t. calls_made call ms t) (carry_on call m m s)) (carried_every m m s p)
        (on (λ t q. made_every ms t q) (carry_on call m m s) (carried_leaves m m s p))
      where
        on : ((t : S) → P t → Every P (calls_made call ms t)) → (e : End S R) → Leaves e → Every P (next_piece (λ t. calls_made call ms t) e)
        on ih (ended k t complete) h = ih t h
        on ih (ended k t (refused r)) h = tt
        on ih (ended k t out_of_fuel) h = tt

pub every_first : {S : Type 0} (P Q : S → Type 0) (xs : List S) → Every (λ s. P s × Q s) xs → Every P xs
every_first P Q [] h = tt
every_first P Q (x ∷ xs) h = (h.0.0, every_first P Q xs h.1)

module _ {S R : Type 0} (P : S → Type 0) (f : S → ℕ) (call : ℕ → S → End S R)
    (keeps : (m : ℕ) (s : S) (k : ℕ) (t : S) → 1 ≤ m → P s → call m s ≡ ended k t complete → P t)
    (rises : (m : ℕ) (s : S) (k : ℕ) (t : S) → 1 ≤ m → P s → call m s ≡ ended k t complete → f s < f t) where
  abbrev Higher : ℕ → S → Type 0
  Higher n s = n < f s

  abbrev Above : ℕ → S → Type 0
  Above n s = Higher n s × P s

  stays_above : (n m : ℕ) (s : S) (k : ℕ) (t : S) → 1 ≤ m → Above n s → call m s ≡ ended k t complete → Above n t
  stays_above n m s k t h p e = (omega (arith, rises m s k t h p.1 e, p.0), keeps m s k t h p.1 e)

  next_after : (next : S → List S) (k : ℕ) (e : End S R) → next_piece next (after k e) ≡ next_piece next e
  next_after next k (ended d s complete) = refl
  next_after next k (ended d s (refused r)) = refl
  next_after next k (ended d s out_of_fuel) = refl

  -- the calls for a piece, then those for the pieces after it, which are made above where it ended
  module _ (next : S → List S) (above : (n : ℕ) (t : S) → Above n t → Every (Above n) (next t)) (rising : (t : S) → P t → Rising f (next t)) where
    next_above : (n : ℕ) (e : End S R) → Leaves (Above n) e → Every (Above n) (next_piece next e)
    next_above n (ended k t complete) h = above n t h
    next_above n (ended k t (refused r)) h = tt
    next_above n (ended k t out_of_fuel) h = tt

    carried_rising : (g m : ℕ) (s : S) → P s → Rising f (calls_carried call g m s ++ next_piece next (carry_on call g m s))
    carried_rising zero zero s i = rising s i
    carried_rising zero (suc m) s i = tt
    carried_rising (suc g) zero s i = rising s i
    carried_rising (suc g) (suc m) s i = on (λ k t j. carried_rising g k t j) (call (suc m) s) refl
      where
        on : ((k : ℕ) (t : S) → P t → Rising f (calls_carried call g k t ++ next_piece next (carry_on call g k t))) → (e : End S R) → call (suc m) s ≡ e
            → Rising f (s ∷ (further (λ k t. calls_carried call g k t) (suc m) e ++ next_piece next (go_on (λ k t. carry_on call g k t) (suc m) e)))
        on ih (ended k t complete) e =
            let n = f s in
            let left = suc m - k in
            let p : Above n t = (rises (suc m) s k t (omega arith) i e, keeps (suc m) s k t (omega arith) i e) in
            let last = carry_on call g left t in
            rw (next_after next k last) (
              every_first (Higher n) P (calls_carried call g left t ++ next_piece next last)
                  (every_append (Above n) (calls_carried call g left t) (next_piece next last) (carried_every (Above n) call (stays_above n) g left t p)
                  (next_above n last (carried_leaves (Above n) call (stays_above n) g left t p))),
              ih left t p.1,
            )
        on ih (ended k t (refused r)) e = (tt, tt)
        on ih (ended k t out_of_fuel) e = (tt, tt)

  pub made_rising : (ms : List ℕ) (s : S) → P s → Rising f (calls_made call ms s)
  made_rising [] s i = tt
  made_rising (m ∷ ms) s i =
      carried_rising (λ t. calls_made call ms t) (λ n t h. made_every (Above n) call (stays_above n) ms t h) (λ t j. made_rising ms t j) m m s i

module _ {S R : Type 0} (call other : ℕ → S → End S R) where
  -- the two calls do the same in a state
  abbrev pub SameIn : S → Type 0
  SameIn s = (m : ℕ) → other m s ≡ call m s

  carried_same : (f m : ℕ) (s : S) → Every SameIn (calls_carried call f m s) → carry_on other f m s ≡ carry_on call f m s
  carried_same zero zero s h = refl
  carried_same zero (suc m) s h = refl
  carried_same (suc f) zero s h = refl
  carried_same (suc f) (suc m) s h = rw (h.0 (suc m)) (on (λ k t q. carried_same f k t q) (call (suc m) s) h.1)
    where
      on : ((k : ℕ) (t : S) → Every SameIn (calls_carried call f k t) → carry_on other f k t ≡ carry_on call f k t) → (e : End S R)
          → Every SameIn (further (λ k t. calls_carried call f k t) (suc m) e)
          → go_on (λ k t. carry_on other f k t) (suc m) e ≡ go_on (λ k t. carry_on call f k t) (suc m) e
      on ih (ended k t complete) q = ap (after k) (ih (suc m - k) t q)
      on ih (ended k t (refused r)) q = refl
      on ih (ended k t out_of_fuel) q = refl

  pub made_same : (ms : List ℕ) (s : S) → Every SameIn (calls_made call ms s) → pieces other ms s ≡ pieces call ms s
  made_same [] s h = refl
  made_same (m ∷ ms) s h =
      let next = next_piece (λ t. calls_made call ms t) (carry_on call m m s) in
      rw (carried_same m m s (every_left SameIn (calls_carried call m m s) next h))
      (on (λ t q. made_same ms t q) (carry_on call m m s) (every_right SameIn (calls_carried call m m s) next h))
    where
      on : ((t : S) → Every SameIn (calls_made call ms t) → pieces other ms t ≡ pieces call ms t) → (e : End S R)
          → Every SameIn (next_piece (λ t. calls_made call ms t) e) → and_then e (λ t. pieces other ms t) ≡ and_then e (λ t. pieces call ms t)
      on ih (ended k t complete) q = ap (after k) (ih t q)
      on ih (ended k t (refused r)) q = refl
      on ih (ended k t out_of_fuel) q = refl
