-- `attributes::read_one` meets its contract. Assumes nothing.
use Rattle.attributes.proofs.Found.{ivar_there, got, got_none}
use mathlib.Core.Path.{◌≡◌}
use Rattle.std.specs.Prelude.{Err}
use borrow.Author.Rules.{rules}
use Rattle.refusals.specs.declared.Refusal.TheVariants.{UnknownMember}
use Rattle.attributes.proofs.read_one.Goals as goal

pub ivar_at-requires : goal.ivar_at-requires
ivar_at-requires c = record { c_lt_classes = ivar_there _ _ c.ivar_named.ensures c.requires.state_matches c.requires.x_lt_classes (rw c.in_ok-place.was at c.ok_or.ensures.ok_part) }

pub returns : goal.returns
returns c =
    got c.args.state.now.sizes c.args.state.now.words.now c.args.program.now.script.now c.args.program.now.words.now c.args.program.now.counts c.args.n c.args.k c.args.x.0
    c.ivar_named.ensures c.requires.state_matches c.requires.x_lt_classes (rw c.in_ok-place.was at c.ok_or.ensures.ok_part) c.ivar_at.ensures c.union.ensures

pub returns-in_err-place : goal.returns-in_err-place
returns-in_err-place c =
    let e : c.from_residual.result ≡ Err UnknownMember = search rules in
    rw e (got_none c.args.state.now.sizes c.args.state.now.words.now c.args.program.now.script.now c.args.program.now.words.now c.args.program.now.counts
    c.args.n c.args.k c.args.x.0 c.ivar_named.ensures (rw c.in_err-place.was at c.ok_or.ensures.ok_part))
