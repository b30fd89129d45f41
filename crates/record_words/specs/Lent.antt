-- The calls as a program in C or Rust makes them: on words that it lends.
use Rattle.std.specs.Prelude.{List, ℕ}
use Rattle.answers.specs.Answer.{numbers_of}
use Rattle.commands.specs.State.{State, state, Answered}
use Rattle.record_words.specs.Words.{monitor_in, words_after, answer_words}

-- what a caller finds after a call: the words of the records, the frame table, the map table, and the words of the answer
pub record Lent : Type 0 where
  pub records : List ℕ
  pub frames : List ℕ
  pub map : List ℕ
  pub answer : List ℕ

abbrev pub lent : List ℕ → List ℕ → List ℕ → List ℕ → Lent
lent w f m a = record { records = w; frames = f; map = m; answer = a }

-- a call made on the records that the words w say, and the tables f and m
unfoldable pub lent_after : (State → Answered) → List ℕ → List ℕ → List ℕ → Lent
lent_after call w f m =
    let a = call (state f m (monitor_in w)) in
    lent (words_after w a.left.monitor) a.left.frames a.left.map (answer_words (numbers_of a.answer))
