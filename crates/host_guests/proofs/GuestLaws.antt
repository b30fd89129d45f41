-- What show answers, as the call that it is.
use mathlib.Core.Path.{◌≡◌, refl}
use mathlib.Core.List.{List}
use mathlib.Core.Option.{Option, none, some}
use Prim.Native.Nat.{ℕ}
use Rattle.tables.specs.Row.{row_of}
use Rattle.commands.specs.State.{State, answered}
use Rattle.commands.specs.Tests.{first_refusal}
use Rattle.commands.specs.Command.{answer_only, tests_of, unless_refused, view_of, effected, performed}
use Rattle.answers.specs.declared.answer.Answer.{Answer}
use Rattle.answers.specs.declared.answer.Answer.TheVariants.{Done}
use Rattle.host_guests.specs.Calls.{shown_unless, show_command, show_of}

-- the answer alone, as the call that show is
told_shown : (q : Option Answer) (s : State) (v : ℕ) (row : List ℕ)
    → effected v s (unless_refused q (answer_only (Done 0))) ≡ answered s (shown_unless q row).answer
told_shown none s v row = refl
told_shown (some a) s v row = refl

pub show_performed : (v : ℕ) (s : State) → performed (show_command v) s ≡ answered s (show_of v s.monitor s.map).answer
unfolding show_of
show_performed v s = told_shown (first_refusal (tests_of (show_command v) (view_of v s))) s v (row_of s.map v)
