-- Rows that are read, in the rules' words. Assumes nothing.
use mathlib.Core.Path.{◌≡◌, refl, sym, ap, ◌∙◌}
use mathlib.Core.List.{List, [], map}
use Prim.Native.Nat.{ℕ, ◌+◌, ◌-◌, ◌*◌, ◌%◌, ◌^◌, ◌<◌}
use lib.ListN.{get_or, get_or-map}
use Rattle.kinds.specs.declared.Kind.TheVariants.{Nil}
use Rattle.rules.specs.Program as P
use Rattle.rules.specs.Program.{same_opnd}
use Rattle.rules.specs.Reading.{new_block}
use Rattle.program.specs.Layout.{insns_at, opnds_at, blocks_at, functions_at, insn_words, function_words}
use Rattle.program.specs.Tab.{tab}
use Rattle.program.specs.Rows.{insn_at, opnd_at, opnds_in, opnd_of, nth, op_from, op_in, instruction_at, owner_from, fun_at, function_in, block_at}
use Rattle.program.specs.View.{program_view, instructions_of, functions_of, blocks_of, ProgramReady, limits_of, ProgramDid, Grew, ReadsInsn, ReadsFun, ReadsBlock, block_for, next_block, more_blocks}
use Rattle.program.specs.View.{unchanged}
use Rattle.program.specs.declared.Counts.{Counts}
use Rattle.program.specs.declared.bounds.Limits.{Limits}
use Rattle.program.specs.declared.Opnd.{Opnd}
use Rattle.program.specs.declared.Opnd.TheVariants.{Const}
use Rattle.program.specs.declared.Op.{Op}
use Rattle.std.specs.Prelude.{Option}
use Rattle.ids.specs.declared.ClassId.{ClassId}
use Rattle.program.proofs.Tables.{tab-at}
use Rattle.program.proofs.Viewing.{functions-length}

pub instruction-is : (s m : List ℕ) (c : Counts) (i : ℕ) → i < c.insns → P.instruction (program_view s m c) i ≡ instruction_at s m i
unfolding instructions_of
instruction-is s m c i h = tab-at (instruction_at s m) c.insns i (record { block = 0; op = P.New 0 }) h

pub op-is : (s m : List ℕ) (c : Counts) (i : ℕ) → i < c.insns
    → P.op_of (program_view s m c) i ≡ op_in s (insn_at m i).op (map opnd_of (opnds_in m (opnds_at + 2 * (insn_at m i).first) (insn_at m i).count))
unfolding instruction_at
op-is s m c i h = ap (λ (x : P.Instruction). x.op) (instruction-is s m c i h)

module _ {m : List ℕ} {c : Counts} (i : ℕ) (r : ProgramReady m c) where
  pub insn_read : {o : Op} → i < c.insns → o ≡ op_from (get_or m (insns_at + insn_words * i) 0) (get_or m (insns_at + insn_words * i + 2) 0) (get_or m (insns_at + insn_words * i + 3) 0)
      → ReadsInsn m c i
      (record {
        block = record { 0 = get_or m (insns_at + insn_words * i + 1) 0 % 2 ^ 32 };
        op = o;
        first = get_or m (insns_at + insn_words * i + 4) 0;
        count = get_or m (insns_at + insn_words * i + 5) 0;
      })
  unfolding instruction_at insn_at
  insn_read h e =
      rw e (record { row = refl; is = λ s. instruction-is s m c i h; range = r.ranges i h; inside = r.inside i h })

  pub fun_read : {o : Option ClassId} → i < c.functions → o ≡ owner_from (get_or m (functions_at + function_words * i + 2) 0)
      → ReadsFun m c i
      (record {
        name = record { start = get_or m (functions_at + function_words * i) 0; len = get_or m (functions_at + function_words * i + 1) 0 };
        class = o;
        entry = record { 0 = get_or m (functions_at + function_words * i + 3) 0 % 2 ^ 32 };
      })
  unfolding functions_of fun_at
  fun_read h e =
      rw e
      (record { row = refl; is = λ s. tab-at (λ f. function_in s (fun_at m f)) c.functions i (record { name = []; class = mathlib.Core.Option.none; entry = 0 }) h })

  pub block_read : i < c.blocks → ReadsBlock m c i (get_or m (blocks_at + 2 * i) 0 % 2 ^ 32)
  unfolding blocks_of block_at
  block_read h = record { is = λ s. tab-at (block_at m) c.blocks i 0 h }

pub operand_read : (m : List ℕ) (at n j : ℕ) {o : Opnd} → j < n → o ≡ opnd_at m (at + 2 * j) → opnd_of o ≡ nth (map opnd_of (opnds_in m at n)) j
unfolding opnds_in
operand_read m at n j h e =
    ap opnd_of (e ∙ sym (tab-at (λ i. opnd_at m (at + 2 * i)) n j (Const Nil) h)) ∙ sym (get_or-map opnd_of (tab (λ i. opnd_at m (at + 2 * i)) n) j (Const Nil))

-- ---- the next block is one of the last function

pub next-is : (l : Limits) {m m' : List ℕ} {c : Counts} {g : Grew} (f : ℕ) → f ≡ c.functions - 1 → ProgramDid (block_for (limits_of l) f) unchanged c.blocks (more_blocks c) m c m' g
    → ProgramDid (next_block (limits_of l)) unchanged c.blocks (more_blocks c) m c m' g
unfolding new_block
next-is l {m = m} {c = c} f e d = let h = rw e at d in record { is = λ s r. rw (functions-length s m c.functions) (h.is s r); ok = d.ok }
