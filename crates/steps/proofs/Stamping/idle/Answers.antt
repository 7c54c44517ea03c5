-- `steps::Stamping::idle` meets its contract. Assumes nothing.
use Rattle.steps.proofs.Kept.{its_operands}
use Rattle.steps.proofs.Methods.{idle_read, idle_other}
use mathlib.Core.Path.{sym, ◌∙◌}
use Rattle.kinds.proofs.Told.{set_tag}
use Rattle.steps.proofs.Stamping.idle.Goals as goal

pub operand_words-o-requires-clause-count_bound : goal.operand_words-o-requires-clause-count_bound
operand_words-o-requires-clause-count_bound c = let o = its_operands c.requires.facing in o.range

pub operand_words-o-requires-clause-operand_inside : goal.operand_words-o-requires-clause-operand_inside
operand_words-o-requires-clause-operand_inside c = let o = its_operands c.requires.facing in rw c.tables.ensures.1 (o.receiver (rw c.in-Read.is at c.access.ensures))

pub returns-in-Read : goal.returns-in-Read
returns-in-Read c =
    rw (c.index-in-Read.ensures, c.is_set.ensures ∙ sym (set_tag _ c.operand_words-o.result.bits))
    (idle_read c.args.tables.now c.args.state.now c.args.self.now.words.now c.requires.facing c.requires.stamped (rw c.in-Read.is at c.access.ensures)
    c.operand_words-o.result (rw (c.tables.ensures.0, c.tables.ensures.1) at c.operand_words-o.ensures))

pub returns-in-Neither : goal.returns-in-Neither
returns-in-Neither c =
    rw c.index.ensures (idle_other c.args.tables.now c.args.state.now c.args.self.now.words.now c.requires.facing c.requires.stamped (rw c.in-Neither.is at c.access.ensures))
