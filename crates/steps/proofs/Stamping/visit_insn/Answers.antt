-- `steps::Stamping::visit_insn` meets its contract. Assumes nothing.
use mathlib.Core.Path.{ap}
use Rattle.steps.specs.Methods.{with_epoch}
use Rattle.steps.proofs.Kept.{its_operands}
use Rattle.steps.proofs.Methods.{read_asked, insn_read, insn_set, insn_quiet, insn_other}
use Rattle.steps.proofs.Stamping.visit_insn.Goals as goal

pub decisive_words-k-requires : goal.decisive_words-k-requires
decisive_words-k-requires c = record { operands = rw c.tables.ensures.1 (its_operands c.requires.facing) }

pub stamp-requires-clause-state_matches : goal.stamp-requires-clause-state_matches
stamp-requires-clause-state_matches c =
    rw c.tables-in-Read.ensures.1 (read_asked c.args.tables.now c.args.state.now c.visit_timed.new.state c.args.self.now.words.now c.visit_timed.new.self.words.now c.requires.facing
    c.requires.stamped c.visit_timed.ensures.visited (rw c.in-Read.is at c.access.ensures) c.decisive_words-k.result (rw (c.tables.ensures.0, c.tables.ensures.1) at c.decisive_words-k.ensures)).0

pub stamp-requires-clause-classes_below : goal.stamp-requires-clause-classes_below
stamp-requires-clause-classes_below c =
    rw c.tables-in-Read.ensures.1 (read_asked c.args.tables.now c.args.state.now c.visit_timed.new.state c.args.self.now.words.now c.visit_timed.new.self.words.now c.requires.facing
    c.requires.stamped c.visit_timed.ensures.visited (rw c.in-Read.is at c.access.ensures) c.decisive_words-k.result (rw (c.tables.ensures.0, c.tables.ensures.1) at c.decisive_words-k.ensures)).1

pub returns-in-Read-clause-timely : goal.returns-in-Read-clause-timely
returns-in-Read-clause-timely c = rw c.index.ensures (insn_read c.args.tables.now c.args.state.now c.visit_timed.new.state c.args.self.now.words.now c.visit_timed.new.self.words.now
    c.requires.facing c.requires.stamped c.visit_timed.ensures.visited (ap (with_epoch _) c.in_ok-visit_timed.was)
    (rw c.in-Read.is at c.access.ensures) (rw (c.tables-in-Read.ensures.0, c.tables-in-Read.ensures.1) at c.stamp.ensures))

pub returns-then-state-waiting-clause-timely : goal.returns-then-state-waiting-clause-timely
returns-then-state-waiting-clause-timely c =
    insn_set c.args.tables.now c.args.state.now c.visit_timed.new.state c.args.self.now.words.now c.visit_timed.new.self.words.now c.requires.facing
    c.requires.stamped c.visit_timed.ensures.visited (ap (with_epoch _) c.in_ok-visit_timed.was) (rw c.in-Setting.is at c.access.ensures)
    (rw (c.tables.ensures.0, c.tables.ensures.1) at c.decisive_words-k.ensures) c.unsettle.ensures

pub returns-else-state-waiting-clause-timely : goal.returns-else-state-waiting-clause-timely
returns-else-state-waiting-clause-timely c =
    insn_quiet c.args.tables.now c.args.state.now c.visit_timed.new.state c.args.self.now.words.now c.visit_timed.new.self.words.now c.requires.facing
    c.requires.stamped c.visit_timed.ensures.visited (ap (with_epoch _) c.in_ok-visit_timed.was) (rw c.in-Setting.is at c.access.ensures) c.if-state-waiting.false

pub returns-in-Neither-clause-timely : goal.returns-in-Neither-clause-timely
returns-in-Neither-clause-timely c =
    insn_other c.args.tables.now c.args.state.now c.visit_timed.new.state c.args.self.now.words.now c.visit_timed.new.self.words.now c.requires.facing
    c.requires.stamped c.visit_timed.ensures.visited (ap (with_epoch _) c.in_ok-visit_timed.was) (rw c.in-Neither.is at c.access.ensures)
