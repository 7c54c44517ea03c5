-- `flows::pass_callers` meets its contract. Assumes nothing.
use mathlib.Core.Path.{ap, ◌∙◌}
use Rattle.flows.specs.Left.{callers_left}
use Rattle.flows.proofs.Callers.{passing_start, passing_below, passing_inside, passing_more, passing_done}
use Rattle.flows.proofs.pass_callers.Goals as goal

pub loop-i-init : goal.loop-i-init
loop-i-init c = passing_start (ap callers_left c.into_iter-i-iterator.ensures.into_iter_gives ∙ c.of-i-items.ensures)

pub argument-requires : goal.argument-requires
argument-requires c = record { i_lt_insns = passing_below c.loop-i.invariant c.in-Some.ensures.steps c.requires.flows_known c.requires.f_lt_functions }

pub pass_one-x-requires : goal.pass_one-x-requires
pass_one-x-requires c = record { operand_inside = passing_inside c.loop-i.invariant c.in-Some.ensures.steps c.argument.ensures c.requires.flows_known }

pub loop-i-preserved : goal.loop-i-preserved
loop-i-preserved c = passing_more c.loop-i.invariant c.in-Some.ensures.steps c.argument.ensures c.pass_one-x.ensures

pub returns : goal.returns
returns c = passing_done c.loop-i.invariant c.in-None.ensures.steps.0
