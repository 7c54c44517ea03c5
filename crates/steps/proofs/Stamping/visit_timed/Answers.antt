-- `steps::Stamping::visit_timed` meets its contract. Assumes nothing.
use mathlib.Core.Bool.{true≢false}
use Prim.Native.Nat.{◌<◌}
use mathlib.Core.Path.{◌≡◌, sym, ◌∙◌}
use borrow.Author.Rules.{rules}
use Rattle.std.specs.Prelude.{Err}
use Rattle.rules.proofs.Wellformed.Tests.{or_false_lem, and-true}
use Rattle.steps.proofs.Methods.{not_other, timed_no, timed_changed, timed_kept, timed_stamped}
use Rattle.steps.proofs.Stamping.visit_timed.Goals as goal
use Rattle.steps.proofs.Stamping.visit_timed.Goals.{in-Neither, in_default}

pub returns-in_err-step_insn-clause-visited : goal.returns-in_err-step_insn-clause-visited
returns-in_err-step_insn-clause-visited c =
    let e : c.from_residual.result ≡ Err c.in_err-step_insn.field-0.0 = search rules in
    rw e (timed_no c.args.tables.now c.args.state.now c.step_insn.new.state c.args.self.now.words.now c.requires.dated c.step_insn.ensures c.in_err-step_insn.was)

pub returns-then-ne-state-clause-visited : goal.returns-then-ne-state-clause-visited
returns-then-ne-state-clause-visited c =
    timed_changed c.args.tables.now c.args.state.now c.step_insn.new.state c.args.self.now.words.now c.requires.dated c.step_insn.ensures c.in_ok-step_insn.was

pub returns-then-matches-state-clause-visited : goal.returns-then-matches-state-clause-visited
returns-then-matches-state-clause-visited c =
    let n = or_false_lem _ _ c.if-ne-state.false in
    let k = n.0 in
    let same : c.insn_words.result ≡ c.insn_words-kind.result = search rules in
    let b = and-true _ _ c.if-matches-state.true in
    let plain : c.args.entry.insn.tag < 13 = elim c.match-matches.branch [ in-Neither w ↦ rw w.in-Neither.is at c.access.ensures | in_default w ↦ absurd (true≢false (sym b.0 ∙ w.matches-is)) ] in
    rw c.index.ensures
    (timed_stamped c.args.tables.now c.args.state.now c.step_insn.new.state c.args.self.now.words.now c.requires.dated c.step_insn.ensures c.requires.facing
    c.in_ok-step_insn.was (rw (c.tables-2.ensures.0, c.tables-2.ensures.1) at c.insn_words.ensures) (rw (c.tables.ensures.0, c.tables.ensures.1) at c.insn_words-kind.ensures)
    same (not_other _ _ n.1) plain b.1)

pub returns-else-matches-state-clause-visited : goal.returns-else-matches-state-clause-visited
returns-else-matches-state-clause-visited c =
    let n = or_false_lem _ _ c.if-ne-state.false in
    let k = n.0 in
    timed_kept c.args.tables.now c.args.state.now c.step_insn.new.state c.args.self.now.words.now c.requires.dated c.step_insn.ensures c.requires.facing
    c.in_ok-step_insn.was (rw (c.tables-2.ensures.0, c.tables-2.ensures.1) at c.insn_words.ensures) (rw (c.tables.ensures.0, c.tables.ensures.1) at c.insn_words-kind.ensures)
    (search rules) (not_other _ _ n.1)
