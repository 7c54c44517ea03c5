-- `live::line` meets its contract. Assumes nothing.
use Rattle.std.proofs.Common.{refl}
use Rattle.live.proofs.Laws.{line_is}
use Rattle.live.specs.Questions.{questions, words_of, line_of}
use Rattle.live.proofs.line.Goals as goal

pub returns-in-ScriptTooLong : goal.returns-in-ScriptTooLong
unfolding questions words_of line_of
returns-in-ScriptTooLong c = line_is c.in-ScriptTooLong.is refl

pub returns-in-MemoryTooShort : goal.returns-in-MemoryTooShort
unfolding questions words_of line_of
returns-in-MemoryTooShort c = line_is c.in-MemoryTooShort.is refl

pub returns-in-UnknownByte : goal.returns-in-UnknownByte
unfolding questions words_of line_of
returns-in-UnknownByte c = line_is c.in-UnknownByte.is refl

pub returns-in-NumberTooLarge : goal.returns-in-NumberTooLarge
unfolding questions words_of line_of
returns-in-NumberTooLarge c = line_is c.in-NumberTooLarge.is refl

pub returns-in-UnexpectedWord : goal.returns-in-UnexpectedWord
unfolding questions words_of line_of
returns-in-UnexpectedWord c = line_is c.in-UnexpectedWord.is refl

pub returns-in-UnboundName : goal.returns-in-UnboundName
unfolding questions words_of line_of
returns-in-UnboundName c = line_is c.in-UnboundName.is refl

pub returns-in-NameTaken : goal.returns-in-NameTaken
unfolding questions words_of line_of
returns-in-NameTaken c = line_is c.in-NameTaken.is refl

pub returns-in-NotCallable : goal.returns-in-NotCallable
unfolding questions words_of line_of
returns-in-NotCallable c = line_is c.in-NotCallable.is refl

pub returns-in-OutsideMethod : goal.returns-in-OutsideMethod
unfolding questions words_of line_of
returns-in-OutsideMethod c = line_is c.in-OutsideMethod.is refl

pub returns-in-BlockEnded : goal.returns-in-BlockEnded
unfolding questions words_of line_of
returns-in-BlockEnded c = line_is c.in-BlockEnded.is refl

pub returns-in-OverLimit : goal.returns-in-OverLimit
unfolding questions words_of line_of
returns-in-OverLimit c = line_is c.in-OverLimit.is refl

pub returns-in-NoFunction : goal.returns-in-NoFunction
unfolding questions words_of line_of
returns-in-NoFunction c = line_is c.in-NoFunction.is refl

pub returns-in-UndeclaredAttribute : goal.returns-in-UndeclaredAttribute
unfolding questions words_of line_of
returns-in-UndeclaredAttribute c = line_is c.in-UndeclaredAttribute.is refl

pub returns-in-NotAnObject : goal.returns-in-NotAnObject
unfolding questions words_of line_of
returns-in-NotAnObject c = line_is c.in-NotAnObject.is refl

pub returns-in-UnknownMember : goal.returns-in-UnknownMember
unfolding questions words_of line_of
returns-in-UnknownMember c = line_is c.in-UnknownMember.is refl

pub returns-in-MissingArgument : goal.returns-in-MissingArgument
unfolding questions words_of line_of
returns-in-MissingArgument c = line_is c.in-MissingArgument.is refl

pub returns-in-NeedsReceiver : goal.returns-in-NeedsReceiver
unfolding questions words_of line_of
returns-in-NeedsReceiver c = line_is c.in-NeedsReceiver.is refl

pub returns-in-Subtraction : goal.returns-in-Subtraction
unfolding questions words_of line_of
returns-in-Subtraction c = line_is c.in-Subtraction.is refl

pub returns-in-KindsClash : goal.returns-in-KindsClash
unfolding questions words_of line_of
returns-in-KindsClash c = line_is c.in-KindsClash.is refl

pub returns-in-WaitingListFull : goal.returns-in-WaitingListFull
unfolding questions words_of line_of
returns-in-WaitingListFull c = line_is c.in-WaitingListFull.is refl
