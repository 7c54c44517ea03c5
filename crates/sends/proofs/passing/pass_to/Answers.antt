-- `sends::passing::pass_to` meets its contract. Assumes nothing.
use Rattle.sends.proofs.passing.Passes.{passes-is, passed_to, pushed_to, surely_kept, kept_on}
use Rattle.sends.proofs.passing.pass_to.Goals as goal

pub returns-in-Some-true : goal.returns-in-Some-true
returns-in-Some-true c =
    kept_on c.args.state.now (surely_kept
    (rw (c.tables-tables.ensures.0, c.tables-tables.ensures.1) at c.passed_words-k.ensures) (rw (c.tables-tables.ensures.0, c.tables-tables.ensures.1) at c.insn_words-old.ensures)
    (rw (c.in-Some-true.is, c.in-Some-true.field-0-test) at c.compare.ensures))

pub returns-in-Some-false : goal.returns-in-Some-false
returns-in-Some-false c =
    pushed_to (rw (c.tables-tables.ensures.0, c.tables-tables.ensures.1) at c.passed_words-k.ensures) (rw (c.tables-tables.ensures.0, c.tables-tables.ensures.1) at c.insn_words-old.ensures)
    c.push_insn.result (rw (c.in-Some-false.is, c.in-Some-false.field-0-test) at c.compare.ensures) c.push_insn.ensures

pub returns-in-None : goal.returns-in-None
returns-in-None c =
    passed_to c.args.state.now (passes-is (rw (c.tables-tables.ensures.0, c.tables-tables.ensures.1) at c.passed_words-k.ensures) c.kind.ensures) c.wake_if_wider.result c.wake_if_wider.ensures
