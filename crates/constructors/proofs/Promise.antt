-- A finished reading gives what the walk asks: the blocks that terminators name are there. Assumes nothing.
use mathlib.Core.Bool.{true, false≢true}
use mathlib.Core.Option.{Option, none, some}
use mathlib.Core.Path.{◌≡◌, refl, sym, ap, ◌∙◌}
use mathlib.Core.List.{List, [], ◌∷◌}
use Prim.Native.Nat.{ℕ, ◌+◌, ◌<◌}
use native.Mathlib.Omega.{arith}
use lib.Dec.{eqb}
use Rattle.rules.specs.Lists.{any, final}
use Rattle.rules.specs.Program as P
use Rattle.rules.specs.Program.{about, op_of, successors}
use Rattle.rules.specs.Constructors.{end_of}
use Rattle.rules.specs.Finished.{Finished}
use Rattle.rules.proofs.Paths.Jumps.{next_in_lem}
use Rattle.program.specs.Rows.{insn_at, block_at}
use Rattle.program.specs.View.{program_view, blocks_of}
use Rattle.program.specs.declared.Counts.{Counts}
use Rattle.program.proofs.Tables.{tab-length}
use Rattle.program.proofs.Reading.{op-is}
use Rattle.chains.proofs.Whole.{code_is}
use Rattle.constructors.specs.Walks.{ends_from, targets, WalkInside}
use Rattle.constructors.proofs.Endings.{codes_of, final_or, final_cons, last-below, term_onward}

module _ (m : List ℕ) (c : Counts) (b : ℕ) where
  abbrev by : List ℕ → Option ℕ → Option P.Terminator
  by s o = elim o [ none ↦ none | some i ↦ (about (op_of (program_view s m c) i)).terminator ]

  end_by : (s l : List ℕ) → codes_of m c.insns b ≡ l → end_of (program_view s m c) b ≡ by s (final l)
  unfolding end_of
  end_by s l e = ap (λ (r : List ℕ). by s (final r)) (code_is s m c b ∙ e)

  below : (y : ℕ) (l : List ℕ) → codes_of m c.insns b ≡ y ∷ l → final_or y l < c.insns
  below y l e = let z : 0 + c.insns ≡ c.insns = omega arith in omega (arith, last-below (λ j. eqb (insn_at m j).block.0 b) 0 c.insns y l e)

  -- where a block leads is the same for any script
  leads_by : (s : List ℕ) (y : ℕ) (l : List ℕ) → codes_of m c.insns b ≡ y ∷ l → successors (end_of (program_view s m c) b) ≡ targets (ends_from (insn_at m (final_or y l)).op)
  leads_by s y l e =
      ap successors (end_by s (y ∷ l) e ∙ (ap (by s) (final_cons y l) ∙ ap (λ (o : P.Op). (about o).terminator) (op-is s m c (final_or y l) (below y l e))))
      ∙ term_onward s (insn_at m (final_or y l)).op _

pub inside_of : {L : P.Limits} (s₀ m : List ℕ) (c : Counts) → Finished L (program_view s₀ m c) → WalkInside m c
unfolding blocks_of
inside_of {L} s₀ m c R = record { inside = λ s b t h q. go b (codes_of m c.insns b) refl s t q }
  where
    go : (b : ℕ) (l : List ℕ) → codes_of m c.insns b ≡ l → (s : List ℕ) (t : ℕ) → any (eqb t) (successors (end_of (program_view s m c) b)) ≡ true → t < c.blocks
    go b [] e s t q = absurd (false≢true (sym (ap (λ o. any (eqb t) (successors o)) (end_by m c b s [] e)) ∙ q))
    go b (y ∷ l) e s t q = omega (arith, next_in_lem (program_view s₀ m c) L R b t (ap (any (eqb t)) (leads_by m c b s₀ y l e ∙ sym (leads_by m c b s y l e)) ∙ q), tab-length (block_at m) c.blocks)
