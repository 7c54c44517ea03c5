-- The three sorts together are the rules' lists. Assumes nothing.
use mathlib.Core.Bool.{Bool as 𝔹, true, false, cond, ◌&&◌}
use mathlib.Core.Path.{◌≡◌, refl, sym, ap, ap₂, ◌∙◌, subst}
use mathlib.Core.List.{List, map}
use Prim.Native.Nat.{ℕ, ◌+◌, ◌*◌, ◌≤◌, ◌<◌}
use native.Mathlib.Omega.{arith}
use lib.Dec.{eqb}
use lib.ListN.{length}
use Rattle.std.specs.Prelude.{Some, None}
use Rattle.rules.specs.Lists.{keep, has}
use Rattle.rules.specs.Program as P
use Rattle.rules.specs.Program.{code, parameters, returns, entry}
use Rattle.program.specs.Rows.{insn_at, block_at, instruction_at, op_in, opnd_of, opnds_in}
use Rattle.program.specs.View.{program_view, ProgramReady, instructions_of}
use Rattle.program.specs.declared.Counts.{Counts}
use Rattle.program.specs.declared.Op.{Op}
use Rattle.program.proofs.Reading.{instruction-is}
use Rattle.memory.specs.Layout.{instructions_most, blocks_room}
use Rattle.program.specs.Layout.{opnds_at}
use Rattle.chains.specs.Layout.{sort_words, returns_at, chains_size}
use Rattle.chains.specs.Chains.{is_param, is_return, key_of, is_key, belongs, pick, at, self, ChainsOnly, All, Chains, returns_of, ChainIs, Index}
use Rattle.chains.proofs.Laws.{block-is}
use Rattle.chains.proofs.Lists.{pick_ext, keep-pick, places-tab, chained_same}

param_is : (s : List ℕ) (o : Op) (l : List P.Opnd) → has (P.about (op_in s o l)).place ≡ is_param o
param_is s o l = grind arith

return_is : (s : List ℕ) (o : Op) (l : List P.Opnd) → has (P.returned (op_in s o l)) ≡ is_return o
return_is s o l = grind arith

module _ (s m : List ℕ) (c : Counts) where
  pub code_is : (b : ℕ) → code (program_view s m c) b ≡ pick (λ j. eqb (insn_at m j).block.0 b) 0 c.insns
  unfolding code instructions_of instruction_at
  code_is b = places-tab (λ (x : P.Instruction). eqb x.block b) (instruction_at s m) c.insns

  has-place : (j : ℕ) → j < c.insns → has (P.about (P.op_of (program_view s m c) j)).place ≡ is_param (insn_at m j).op
  unfolding instruction_at
  has-place j h =
      ap (λ (x : P.Instruction). has (P.about x.op).place) (instruction-is s m c j h)
      ∙ param_is s (insn_at m j).op (map opnd_of (opnds_in m (opnds_at + 2 * (insn_at m j).first) (insn_at m j).count))

  key_0 : (j b : ℕ) → eqb (insn_at m j).block.0 b ≡ belongs m 0 b j
  unfolding key_of
  key_0 j b = refl

  both : (t : 𝔹) (k b : ℕ) → (eqb k b && t) ≡ is_key (cond t (Some k) None) b
  both true k b = with_true (eqb k b)
    where
      with_true : (t : 𝔹) → (t && true) ≡ t
      with_true true = refl
      with_true false = refl
  both false k b = with_false (eqb k b)
    where
      with_false : (t : 𝔹) → (t && false) ≡ false
      with_false true = refl
      with_false false = refl

  key_1 : (j b : ℕ) → (eqb (insn_at m j).block.0 b && is_param (insn_at m j).op) ≡ belongs m 1 b j
  unfolding key_of
  key_1 j b = both (is_param (insn_at m j).op) (insn_at m j).block.0 b

  key_2 : (j b : ℕ) → (eqb (block_at m (insn_at m j).block.0) b && is_return (insn_at m j).op) ≡ belongs m 2 b j
  unfolding key_of
  key_2 j b = both (is_return (insn_at m j).op) (block_at m (insn_at m j).block.0) b

  params_is : (f : ℕ) → parameters (program_view s m c) f ≡ pick (belongs m 1 (entry (program_view s m c) f)) 0 c.insns
  unfolding parameters
  params_is f =
      ap (keep (λ i. has (P.about (P.op_of (program_view s m c) i)).place)) (code_is (entry (program_view s m c) f))
      ∙ (keep-pick (λ i. has (P.about (P.op_of (program_view s m c) i)).place) (λ j. eqb (insn_at m j).block.0 (entry (program_view s m c) f)) 0 c.insns
      ∙ pick_ext _ _ 0 c.insns (λ i g. ap (λ t. eqb (insn_at m i).block.0 (entry (program_view s m c) f) && t) (has-place i (omega arith)) ∙ key_1 i (entry (program_view s m c) f)))

  returns_is : ProgramReady m c → (f : ℕ) → returns_of (program_view s m c) f ≡ pick (belongs m 2 f) 0 c.insns
  unfolding returns_of instructions_of instruction_at
  returns_is ok f =
      places-tab (λ (x : P.Instruction). eqb (P.function_at (program_view s m c) x.block) f && has (P.returned x.op)) (instruction_at s m) c.insns
      ∙ pick_ext _ _ 0 c.insns
      (λ i g.
      ap₂ {C = 𝔹} (λ x t. eqb x f && t) (block-is s m c (insn_at m i).block.0 (ok.inside i (omega arith)))
      (return_is s (insn_at m i).op (map opnd_of (opnds_in m (opnds_at + 2 * (insn_at m i).first) (insn_at m i).count)))
      ∙ key_2 i f)

-- a sort's chains stay where other words change
kept : (m : List ℕ) (n sort a : ℕ) {w w' : List ℕ} → All m n sort w → ChainsOnly a sort_words w w' → n ≤ instructions_most → (sort_words * sort + sort_words ≤ a) → All m n sort w'
kept m n sort a {w} {w'} d o few h b l =
    rw (o.others (sort_words * sort + b) (λ p q. omega arith))
    (chained_same self (at w (sort_words * sort + blocks_room)) self (at w' (sort_words * sort + blocks_room)) n 0 0 _ _ (omega arith)
    (λ i p q. (refl, o.others (sort_words * sort + blocks_room + i) (λ x y. omega arith))) (d b l))

pub index_is : {m : List ℕ} {c : Counts} {w w1 w2 w3 : List ℕ} → ProgramReady m c → chains_size ≤ length w
    → Chains m c.insns 0 w w1 → Chains m c.insns 1 w1 w2 → Chains m c.insns 2 w2 w3 → Index m c w3
index_is {m} {c} {w3 = w3} ok room d e f =
    let few = ok.insns in
    let d0 = kept m c.insns 0 returns_at (kept m c.insns 0 sort_words d.held e.only few (omega arith)) f.only few (omega arith) in
    let d1 = kept m c.insns 1 returns_at e.held f.only few (omega arith) in
    record {
      len = omega (arith, d.only.len_same, e.only.len_same, f.only.len_same);
      codes = λ s b h. subst (λ l. ChainIs w3 c.insns 0 b l) (sym (code_is s m c b ∙ pick_ext _ _ 0 c.insns (λ i g. key_0 s m c i b))) (d0 b h);
      params = λ s k g h. subst (λ l. ChainIs w3 c.insns 1 (entry (program_view s m c) k) l) (sym (params_is s m c k)) (d1 (entry (program_view s m c) k) h);
      returning = λ s b h. subst (λ l. ChainIs w3 c.insns 2 b l) (sym (returns_is s m c ok b)) (f.held b h);
    }
