-- `decode::read_last` meets its contract. Assumes nothing.
use Rattle.std.proofs.Common.{rules, ap, ◌∙◌}
use Rattle.memory.specs.Memory.{zeros}
use Rattle.decode.specs.Load.{held}
use Rattle.decode.proofs.Turns.{last_illegal, last_cut, last_done}
use Rattle.decode.proofs.read_last.Goals as goal

pub returns-in_default : goal.returns-in_default
returns-in_default c = λ p h. rw c.give_up.ensures.0 (last_illegal p _ (c.in_default.ensures p h) (c.give_up.ensures.1 ∙ ap zeros (search rules)))

pub returns-then-taken-text : goal.returns-then-taken-text
returns-then-taken-text c = λ p h. rw c.give_up-then-taken-text.ensures.0 (last_cut (c.in-Some.ensures p h) c.if-taken-text.true (c.give_up-then-taken-text.ensures.1 ∙ ap zeros (search rules)))

pub returns : goal.returns
returns c = λ p h. let g = c.in-Some.ensures p h in ap held (last_done g c.if-taken-text.false) ∙ c.finish.ensures g.at g.reached
