-- `flows::join_sets` meets its contract. Assumes nothing.
use borrow.Author.Rules.{rules}
use mathlib.Core.Path.{◌≡◌, ap, ◌∙◌}
use Rattle.std.specs.Prelude.{None}
use Rattle.flows.specs.Left.{callers_left}
use Rattle.flows.proofs.Joining.{sum_start, sum_done, sum_below, sum_argues, sum_same, sum_more, sum_other}
use Rattle.flows.proofs.join_sets.Goals as goal

pub loop-i-init : goal.loop-i-init
loop-i-init c = sum_start (ap callers_left c.into_iter-i-iterator.ensures.into_iter_gives ∙ c.of-i-items.ensures)

pub argument_at-at-requires : goal.argument_at-at-requires
argument_at-at-requires c = record { i_lt_insns = sum_below c.loop-i.invariant c.in-Some.ensures.steps c.requires.flows_known c.requires.f_lt_functions }

pub words_of-requires : goal.words_of-requires
words_of-requires c = record { operand_inside = sum_argues c.loop-i.invariant c.in-Some.ensures.steps c.requires.flows_known c.argument_at-at.ensures.is c.standing_words-o.ensures }

pub returns-in_err-sum : goal.returns-in_err-sum
returns-in_err-sum c =
    let e : c.from_residual.result ≡ None = search rules in
    rw e (sum_other c.loop-i.invariant c.in-Some.ensures.steps c.standing_words-o.result c.argument_at-at.ensures.is c.standing_words-o.ensures
    c.words_of.ensures c.with_kind.ensures c.in_err-sum.was)

pub loop-i-preserved : goal.loop-i-preserved
loop-i-preserved c =
    sum_same c.loop-i.invariant c.in-Some.ensures.steps c.standing_words-o.result c.argument_at-at.ensures.is c.standing_words-o.ensures (search rules)

pub loop-i-preserved-then-ne : goal.loop-i-preserved-then-ne
loop-i-preserved-then-ne c =
    sum_more c.loop-i.invariant c.in-Some.ensures.steps c.standing_words-o.result c.argument_at-at.ensures.is c.standing_words-o.ensures
    c.words_of.ensures c.with_kind.ensures c.in_ok-sum.sum c.in_ok-sum.was

pub returns : goal.returns
returns c = sum_done c.loop-i.invariant c.in-None.ensures.steps.0 c.set.ensures
