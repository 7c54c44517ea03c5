-- The numbers of the questions. Assumes nothing.
use Rattle.std.specs.Prelude.{ℕ}
use Rattle.refusals.specs.declared.Refusal.{Refusal}
use Rattle.refusals.specs.declared.Refusal.TheVariants as R

-- the number of the question that is answered no
abbrev pub number_of : Refusal → ℕ
number_of R.ScriptTooLong = 1
number_of R.MemoryTooShort = 2
number_of R.UnknownByte = 3
number_of R.NumberTooLarge = 4
number_of R.UnexpectedWord = 5
number_of R.UnboundName = 6
number_of R.NameTaken = 7
number_of R.NotCallable = 8
number_of R.OutsideMethod = 9
number_of R.BlockEnded = 10
number_of R.OverLimit = 11
number_of R.NoFunction = 12
number_of R.UndeclaredAttribute = 13
number_of R.NotAnObject = 14
number_of R.UnknownMember = 15
number_of R.MissingArgument = 16
number_of R.NeedsReceiver = 17
number_of R.Subtraction = 18
number_of R.KindsClash = 19
number_of R.WaitingListFull = 20
