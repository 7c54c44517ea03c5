-- What the call gives that reads a stored answer, and what it leaves in the lent memory. Assumes nothing.
use Rattle.std.specs.Prelude.{cond, List, ◌++◌, ℕ, leb, length, drop}
use Rattle.rules.specs.Actions.{Answer, answered, refused}
use Rattle.memory.specs.Memory.{zeros}
use Rattle.answer.specs.Layout.{answer_length}
use Rattle.answer.specs.Image.{image_of}
use Rattle.decode.specs.declared.Unread.{Unread}
use Rattle.decode.specs.declared.Unread.TheVariants as U
use Rattle.decode.specs.declared.Loaded.{Loaded}
use Rattle.decode.specs.declared.Loaded.TheVariants as L
use Rattle.decode.specs.Stored.{Stored, answer, refusal, read_text}

-- the numbers of the reader's questions
abbrev pub number_of : Unread → ℕ
number_of U.MemoryTooShort = 2
number_of U.IllegalLine = 21
number_of U.Misplaced = 22

-- what is told: an answer was read, or a refusal, by its number; or the reader's own question that is answered no
pub data Outcome : Type 0 where
  an_answer : Outcome
  a_refusal : ℕ → Outcome
  not_read : ℕ → Outcome

abbrev pub told : Loaded → Outcome
told L.Answer = an_answer
told (L.Refusal n) = a_refusal n
told (L.Unread e) = not_read (number_of e)

-- with the answer memory: the image of an answer; cleared where none was read
abbrev pub held : Answer Stored → Outcome × List ℕ
held (answered (answer r)) = (an_answer, image_of r)
held (answered (refusal n)) = (a_refusal n, zeros answer_length)
held (refused n) = (not_read n, zeros answer_length)

-- places beyond the published length stay
abbrev pub with_rest : Outcome × List ℕ → List ℕ → Outcome × List ℕ
with_rest x rest = (x.0, x.1 ++ rest)

-- question 2, then the reading
unfoldable pub loaded : List ℕ → List ℕ → Outcome × List ℕ
loaded text a = cond (leb answer_length (length a)) (with_rest (held (read_text text)) (drop answer_length a)) (told (L.Unread U.MemoryTooShort), a)
