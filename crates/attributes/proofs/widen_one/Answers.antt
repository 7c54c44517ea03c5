-- `attributes::widen_one` meets its contract. Assumes nothing.
use mathlib.Core.Path.{◌≡◌}
use Rattle.std.specs.Prelude.{Err}
use borrow.Author.Rules.{rules}
use Rattle.kinds.proofs.Same.{eq_same, ne_same}
use Rattle.attributes.proofs.Found.{ivar_there}
use Rattle.attributes.proofs.Widened.{widen_none, widen_refused, widen_same, widen_new}
use Rattle.refusals.specs.declared.Refusal.TheVariants.{UnknownMember}
use Rattle.attributes.proofs.widen_one.Goals as goal

pub ivar_at-old-requires : goal.ivar_at-old-requires
ivar_at-old-requires c = record { c_lt_classes = ivar_there _ _ c.ivar_named.ensures c.requires.state_matches c.requires.x_lt_classes (rw c.in_ok-a.was at c.ok_or.ensures.ok_part) }

pub set_ivar-requires : goal.set_ivar-requires
set_ivar-requires c = record { c_lt_classes = ivar_there _ _ c.ivar_named.ensures c.requires.state_matches c.requires.x_lt_classes (rw c.in_ok-a.was at c.ok_or.ensures.ok_part) }

pub returns-in_err-union : goal.returns-in_err-union
returns-in_err-union c =
    let e : c.from_residual-in_err-union.result ≡ Err c.in_err-union.field-0.0 = search rules in
    rw e (widen_refused c.args.program.now.script.now c.args.program.now.words.now c.args.program.now.counts c.args.state.now c.args.n c.args.k
    c.args.x.0 c.ivar_named.ensures c.requires.state_matches c.requires.x_lt_classes
    (rw c.in_ok-a.was at c.ok_or.ensures.ok_part) c.ivar_at-old.ensures c.union.ensures c.in_err-union.was)

pub returns-then-eq : goal.returns-then-eq
returns-then-eq c = widen_same c.args.program.now.script.now c.args.program.now.words.now c.args.program.now.counts c.args.state.now c.args.n c.args.k
    c.args.x.0 c.ivar_named.ensures c.requires.state_matches c.requires.x_lt_classes
    (rw c.in_ok-a.was at c.ok_or.ensures.ok_part) c.ivar_at-old.ensures c.union.ensures c.in_ok-union.was (eq_same _ _ (search rules))

pub returns : goal.returns
returns c = widen_new c.args.program.now.script.now c.args.program.now.words.now c.args.program.now.counts c.args.state.now c.args.n c.args.k
    c.args.x.0 c.ivar_named.ensures c.requires.state_matches c.requires.x_lt_classes
    (rw c.in_ok-a.was at c.ok_or.ensures.ok_part) c.ivar_at-old.ensures c.union.ensures c.in_ok-union.was c.wake_reads.result (ne_same _ _ (search rules)) c.set_ivar.ensures c.wake_reads.ensures

pub returns-in_err-a : goal.returns-in_err-a
returns-in_err-a c =
    let e : c.from_residual.result ≡ Err UnknownMember = search rules in
    rw e (widen_none c.args.program.now.script.now c.args.program.now.words.now c.args.program.now.counts c.args.state.now c.args.n c.args.k
    c.args.x.0 c.ivar_named.ensures
    (rw c.in_err-a.was at c.ok_or.ensures.ok_part))
