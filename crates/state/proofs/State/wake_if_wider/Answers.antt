-- `state::State::wake_if_wider` meets its contract. Assumes nothing.
use mathlib.Core.Path.{◌≡◌, refl, sym}
use Rattle.std.specs.Prelude.{Err}
use borrow.Author.Rules.{rules}
use Rattle.kinds.proofs.Same.{eq_same, ne_same}
use Rattle.state.proofs.Wakes.{wake_refused, wake_same, wake_wider}
use Rattle.state.proofs.State.wake_if_wider.Goals as goal

pub returns-in_err-union : goal.returns-in_err-union
returns-in_err-union c =
    let e : c.from_residual.result ≡ Err c.in_err-union.field-0.0 = search rules in
    record {
      lent = record { words = refl; sizes = refl };
      did = rw e (wake_refused c.args.self.now.sizes c.args.self.now.words.now c.args.self.now.regs c.args.i.0 c.args.k c.kind_at-old.ensures
          c.union.ensures c.in_err-union.field-0.0 c.in_err-union.was);
    }

pub returns-then-eq : goal.returns-then-eq
returns-then-eq c = record {
  lent = record { words = refl; sizes = refl };
  did = wake_same c.args.self.now.sizes c.args.self.now.words.now c.args.self.now.regs c.args.i.0 c.args.k c.kind_at-old.ensures c.union.ensures c.args.self.now.ready
      c.in_ok-union.field-0 c.in_ok-union.was (sym (eq_same _ _ (search rules))) refl;
}

pub returns : goal.returns
returns c = record {
  lent = c.push_insn.ensures.lent;
  did = wake_wider c.args.self.now.sizes c.args.self.now.words.now c.args.self.now.regs c.args.i.0 c.args.k c.kind_at-old.ensures c.union.ensures
      c.in_ok-union.field-0 c.in_ok-union.was (sym (ne_same _ _ (search rules))) refl c.push_insn.ensures.did;
}
