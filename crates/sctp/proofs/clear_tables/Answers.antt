-- `sctp::clear_tables` meets its contract. Assumes nothing.
use mathlib.Core.Path.{refl}
use Prim.Native.Nat.{◌*◌}
use native.Mathlib.Omega.{arith}
use Rattle.memory.specs.Layout.{row_words}
use Rattle.sctp.proofs.Parts.{filled, tables_cleared}
use Rattle.state.specs.Layout.{live_blocks_at, called_at, reads_at}
use Rattle.sctp.proofs.clear_tables.Goals as goal

pub returns : goal.returns
returns c =
    let z = c.args.sizes in
    let r = c.requires in
    let a = filled 0 z.insns z.insns c.args.words.now c.fill.new.self (omega (arith, r.len, r.insns)) refl (c.fill.ensures.after (λ _ h. h)) in
    let b = filled live_blocks_at z.blocks _ _ c.fill-2.new.self (omega (arith, a.only.len_same, r.len, r.blocks)) (omega arith) (c.fill-2.ensures.after (λ _ h. h)) in
    let d = filled called_at (row_words * z.functions) _ _ c.fill-3.new.self (omega (arith, b.only.len_same, a.only.len_same, r.len, r.functions)) (omega arith) (c.fill-3.ensures.after (λ _ h. h)) in
    let e = filled reads_at (row_words * z.classes) _ _ c.fill-4.new.self
    (omega (arith, d.only.len_same, b.only.len_same, a.only.len_same, r.len, r.classes)) (omega arith) (c.fill-4.ensures.after (λ _ h. h)) in
    tables_cleared r a b d e
