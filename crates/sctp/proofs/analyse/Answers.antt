-- `sctp::analyse` meets its contract. Assumes nothing.
use mathlib.Core.Path.{refl, ap}
use native.Mathlib.Omega.{arith}
use Rattle.state.specs.Acted.{acted_of}
use Rattle.sctp.proofs.Parts.{filled}
use Rattle.sctp.proofs.Whole.{started-reaching, begun_fresh, users-kept}
use Rattle.sctp.proofs.analyse.Goals as goal

pub invariant_of-tables : goal.invariant_of-tables
invariant_of-tables c =
    record { used = users-kept c.requires.analysed.indexed.ready.insns c.begin.auto.users c.begin.ensures.1.aside c.requires.analysed.users }

pub run_lent-requires-clause-stamps_fresh : goal.run_lent-requires-clause-stamps_fresh
run_lent-requires-clause-stamps_fresh c =
    let s = c.begin.new.state in
    let f = filled 0 s.sizes.insns s.sizes.insns c.args.stamps.now c.fill.new.self (omega (arith, c.requires.stamps_len, s.ready.held.insns)) refl (c.fill.ensures.after (λ _ h. h)) in
    begun_fresh s _ (omega (arith, f.only.len_same, c.requires.stamps_len)) refl f

pub run_lent-requires-clause-reaching : goal.run_lent-requires-clause-reaching
run_lent-requires-clause-reaching c =
    rw c.begin.ensures.0.sizes (started-reaching c.begin.ensures.1.started (ap (acted_of _) c.in_ok-begin.was))
