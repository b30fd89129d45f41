-- Tests in their order: where they refuse nothing, each has passed; those made one after another are those of one list.
use mathlib.Core.Path.{◌≡◌, refl}
use mathlib.Core.Bool.{Bool, true, false, cond}
use mathlib.Core.List.{[], ◌∷◌, ◌++◌}
use mathlib.Core.Option.{Option, none, some}
use Rattle.commands.specs.Tests.{Tests, first_refusal, afterwards}

through : {A : Type 0} (a : Bool) (q : Option A) (r : A) → cond a q (some r) ≡ none → (a ≡ true) × (q ≡ none)
through true q r h = (refl, h)
through false q r h = (cc, cc)

-- every test holds
abbrev pub Passes : {A : Type 0} → Tests A → Type 0
Passes [] = Unit {0}
Passes (t ∷ ts) = (t.0 ≡ true) × Passes ts

pub all_pass : {A : Type 0} (ts : Tests A) → first_refusal ts ≡ none → Passes ts
all_pass [] h = tt
all_pass (t ∷ ts) h = let p = through t.0 (first_refusal ts) t.1 h in (p.0, all_pass ts p.1)

-- tests made one after another, after those that came to q
abbrev pub all_after : {A : Type 0} → Option A → Tests A → Option A
all_after q [] = q
all_after q (t ∷ ts) = all_after (afterwards q t.0 t.1) ts

after_some : {A : Type 0} (r : A) (ts : Tests A) → all_after (some r) ts ≡ some r
after_some r [] = refl
after_some r (t ∷ ts) = after_some r ts

after_first : {A : Type 0} (a : Bool) (q : Option A) (r : A) (ts us : Tests A) → all_after q ts ≡ first_refusal us → all_after (cond a q (some r)) ts ≡ cond a (first_refusal us) (some r)
after_first true q r ts us h = h
after_first false q r ts us h = after_some r ts

pub tests_in_order : {A : Type 0} (ts : Tests A) → all_after none ts ≡ first_refusal ts
tests_in_order [] = refl
tests_in_order (t ∷ ts) = after_first t.0 none t.1 ts ts (tests_in_order ts)

-- and tests made after those of a list are those of both lists joined
pub tests_in_order_after : {A : Type 0} (ts us : Tests A) → all_after (first_refusal ts) us ≡ first_refusal (ts ++ us)
tests_in_order_after [] us = tests_in_order us
tests_in_order_after (t ∷ ts) us = after_first t.0 (first_refusal ts) t.1 us (ts ++ us) (tests_in_order_after ts us)
