-- `cursor::terms::create_instance` meets its contract. Assumes nothing.
use mathlib.Core.Path.{refl, ap}
use Rattle.program.specs.declared.Op.TheVariants.{New}
use Rattle.program.specs.declared.Given.TheVariants.{Zero}
use Rattle.program.specs.declared.Opnd.TheVariants.{Insn}
use Rattle.lexer.proofs.Tried.{failed}
use Rattle.cursor.specs.Promises.{parsed_at}
use Rattle.cursor.specs.Cursor.{count_cur}
use Rattle.cursor.specs.outcomes.Parsed.{Done}
use Rattle.cursor.proofs.Leaves.{push-done, push_stops, still_there}
use Rattle.cursor.proofs.terms.Terms.{create_no1, create_bare, create_no2, create_yes}
use Rattle.cursor.proofs.terms.create_instance.Goals as goal

pub returns-in_err-i-clause-did : goal.returns-in_err-i-clause-did
returns-in_err-i-clause-did c = λ E w d e f h.
    rw (failed _ c.from_residual.ensures.1)
    (create_no1 _ _ _ w d c.args.k _ h
    (push_stops _ _ d c.args.draft.now.limits (New c.args.k) Zero c.push_insn.new.self.counts _ (rw (← e, ← f) at c.in_err-i.ensures.did) _ refl _ w) refl E)

pub push_call-requires : goal.push_call-requires
push_call-requires c = still_there (New c.args.k) 0 _ c.in_ok-i.ensures.did.ok.counts c.requires

pub returns-in_err-push_call-clause-did : goal.returns-in_err-push_call-clause-did
returns-in_err-push_call-clause-did c = λ E w d e f h.
    let p = c.program-program.ensures in
    let o = Insn c.in_ok-i.i in
    let c1 = count_cur c.push_insn.new.self.counts d in
    let c2 = count_cur c.push_call.new.draft.counts d in
    rw (failed _ c.from_residual-in_err-push_call.ensures.1)
    (create_no2 _ _ _ w d c.args.k _ h {p = Done c1 o}
    (push-done _ _ d c.args.draft.now.limits (New c.args.k) Zero c.push_insn.new.self.counts _ (rw (← e, ← f) at c.in_ok-i.ensures.did) _ refl _ w) {c1 = c1} {o = o} refl
    (rw (p.script, p.words, p.counts) at c.constructor_of.ensures) c.in-Some.is {p2 = parsed_at c2 c.push_call.result}
    (rw c.push_insn.ensures.kept.limits at (c.push_call.ensures.adds c.args.script.now w c1 e refl)) (ap (parsed_at c2) c.in_err-push_call.was) E)

pub returns-in_ok-push_call-clause-did : goal.returns-in_ok-push_call-clause-did
returns-in_ok-push_call-clause-did c = λ E w d e f h.
    let p = c.program-program.ensures in
    let o = Insn c.in_ok-i.i in
    let c1 = count_cur c.push_insn.new.self.counts d in
    let c2 = count_cur c.push_call.new.draft.counts d in
    create_yes _ _ _ w d c.args.k _ h {p = Done c1 o}
    (push-done _ _ d c.args.draft.now.limits (New c.args.k) Zero c.push_insn.new.self.counts _ (rw (← e, ← f) at c.in_ok-i.ensures.did) _ refl _ w) {c1 = c1} {o = o} refl
    (rw (p.script, p.words, p.counts) at c.constructor_of.ensures) c.in-Some.is {p2 = parsed_at c2 c.push_call.result}
    (rw c.push_insn.ensures.kept.limits at (c.push_call.ensures.adds c.args.script.now w c1 e refl)) (ap (parsed_at c2) c.in_ok-push_call.was) E

pub returns-in_default-clause-did : goal.returns-in_default-clause-did
returns-in_default-clause-did c = λ E w d e f h.
    let p = c.program-program.ensures in
    let o = Insn c.in_ok-i.i in
    let c1 = count_cur c.push_insn.new.self.counts d in
    create_bare _ _ _ w d c.args.k _ h {p = Done c1 o}
    (push-done _ _ d c.args.draft.now.limits (New c.args.k) Zero c.push_insn.new.self.counts _ (rw (← e, ← f) at c.in_ok-i.ensures.did) _ refl _ w) {c1 = c1} {o = o} refl
    (rw (p.script, p.words, p.counts) at c.constructor_of.ensures) c.in_default.is E
