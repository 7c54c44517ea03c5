-- Which entry a step takes. Assumes nothing.
use mathlib.Core.Bool.{Bool as 𝔹, true, false, not, cond, ◌&&◌, ◌||◌}
use mathlib.Core.Logic.{◌⊎◌, inl, inr}
use mathlib.Core.Path.{◌≡◌, refl, sym, ap, ◌∙◌, subst}
use mathlib.Core.List.{List, [], ◌∷◌}
use Prim.Native.Nat.{ℕ, zero, suc, ◌+◌, ◌≤◌, ◌<◌}
use native.Mathlib.Omega.{arith}
use borrow.Author.Tests.{eqb-true}
use lib.Dec.{eqb}
use lib.ListN.{length}
use Rattle.rules.specs.Program.{Limits, Program}
use Rattle.rules.specs.Machine.{State, state_of, take_block, take_insn, drain_block, step, visit, taken}
use Rattle.state.specs.declared.Sizes.{Sizes}
use Rattle.state.specs.declared.Regs.{Regs}
use Rattle.state.specs.Acted.{Acted, On, Refused}
use Rattle.state.specs.View.{Attrs, insns_of, blocks_of, state_view, StateReady}
use Rattle.state.specs.Changes.{StateDid, ReadyAfter, TookInsn}
use Rattle.machine.specs.blocks.Blocks.{HasCode, CodeIs, blocks_in, ReadyNext, BlockStepped}
use Rattle.machine.proofs.blocks.Indexed.{has_code, code_is}
use Rattle.program.specs.View.{ReadsInsn}
use Rattle.program.specs.declared.Counts.{Counts}
use Rattle.program.specs.declared.Row.{Row}
use Rattle.records.specs.Records.{row_of}
use Rattle.records.specs.declared.Record.{Record}
use Rattle.records.proofs.Rows.{record_row}
use Rattle.state.proofs.Pushes.{insns-length, blocks-length}
use Rattle.machine.specs.Analysed.{Analysed, MachineFits}
use Rattle.memory.specs.Layout.{blocks_room}
use Rattle.steps.specs.Steps.{insns_in, block_next, RecordOf, Front}

-- ---- the chains of blocks

module _ {s p : List ℕ} {c : Counts} {x u : List ℕ} {z : Sizes} {m : List ℕ} {q : Regs} (a : Analysed s p c x u z) (r : StateReady z m q) where
  few : z.blocks ≤ blocks_room
  few = let h = r.held in h.blocks

  pub code-held : HasCode z x
  code-held = has_code z p c x a.indexed.index a.indexed.sized.insns few

  pub code_fits : (P : Program) (v : Attrs) → MachineFits s p c P v → CodeIs z x P v
  code_fits P v f = subst (λ (Q : Program). CodeIs z x Q v) (sym f.is) (code_is z p c x a.indexed.index a.indexed.sized.insns few s v)

-- ---- the instruction in front

-- its row, from its record
pub front-row : {s p : List ℕ} {c : Counts} {x u : List ℕ} {z : Sizes} {m : List ℕ} {q a : Regs} {i : ℕ} {r : Record} {w : Row} → Analysed s p c x u z → TookInsn z m q i a → RecordOf p m q r
    → w ≡ row_of r → ReadsInsn p c i w
front-row {s} {p} {c} {x} {u} {z} {m} {q} {a} {i} A t h e =
    subst (ReadsInsn p c i) (sym (e ∙ ap row_of (h i (insns_of m a) t.is))) (record_row i A.indexed.ready (omega (arith, t.below, A.indexed.sized.insns)))

-- the instruction that is taken is the one in front
pub front_insn : {z : Sizes} {m : List ℕ} {q a : Regs} {i : ℕ} → StateReady z m q → TookInsn z m q i a → Front z m q i
front_insn r t = record { below = let h = r.held in omega (arith, t.below, h.insns); inside = λ _. t.below; is = λ _ j l e. first_of (sym e ∙ t.is) }
  where
    first_of : {x y : ℕ} {k w : List ℕ} → x ∷ k ≡ y ∷ w → x ≡ y
    first_of e = cc

pub take-front : (L : Limits) (p : Program) (i : ℕ) (l q : List ℕ) (s : State) → l ≡ i ∷ q → state_of L p (visit L p i (taken false q s.block_worklist s)) ≡ take_insn L p l s
take-front L p i l q s e = rw e

pub insn_stepped : (z : Sizes) (m : List ℕ) (q : Regs) {fits : Program → Attrs → Type 0} {i : ℕ} {a : Regs} {w : List ℕ} {r : Acted} → TookInsn z m q i a
    → StateDid z fits (λ L P. visit L P i) m a w r → BlockStepped z fits (λ L P t. take_insn L P (insns_in t) t) m q w r
insn_stepped z m q {fits} {i} {a} {w} {r} t d = record {
  is = λ L room p v h.
      ap (state_of L p) (d.is L room p v h) ∙ ap (λ (s : State). state_of L p (visit L p i s)) (t.state v)
      ∙ take-front L p i (insns_of m q) (insns_of m a) (state_view z v m q) t.is;
  ok = next_ready r d.ok;
}
  where
    next_ready : (b : Acted) → ReadyAfter z a w b → ReadyNext z q w b
    next_ready (On b) h = record { ready = h.ready; count = h.count ∙ t.count }
    next_ready (Refused n) h = tt

-- ---- the rules' step, by what waits

module _ (L : Limits) (p : Program) (s : State) where
  drain_some : (w : List ℕ) → 0 < length w → drain_block L p w s ≡ take_block L p w s
  drain_some [] h = absurd (omega arith)
  drain_some (b ∷ w) h = refl

  drain_none : (w : List ℕ) → length w ≡ 0 → drain_block L p w s ≡ take_insn L p s.insn_worklist s
  drain_none [] h = refl
  drain_none (b ∷ w) h = absurd (omega arith)

  insn_none : (q : List ℕ) → length q ≡ 0 → take_insn L p q s ≡ take_block L p s.block_worklist s
  insn_none [] h = refl
  insn_none (i ∷ q) h = absurd (omega arith)

  by_phase : (d : 𝔹) → s.draining ≡ d → step L p s ≡ cond d (drain_block L p s.block_worklist) (take_insn L p s.insn_worklist) s
  unfolding step
  by_phase d e = ap (λ (x : 𝔹). cond x (drain_block L p s.block_worklist) (take_insn L p s.insn_worklist) s) e

  draining-block : s.draining ≡ true → 0 < length s.block_worklist → step L p s ≡ take_block L p s.block_worklist s
  draining-block e h = by_phase true e ∙ drain_some s.block_worklist h

  last_block : (d : 𝔹) → s.draining ≡ d → length s.insn_worklist ≡ 0 → step L p s ≡ take_block L p s.block_worklist s
  last_block true e h = by_phase true e ∙ go s.block_worklist refl
    where
      go : (w : List ℕ) → s.block_worklist ≡ w → drain_block L p w s ≡ take_block L p w s
      go [] q = insn_none s.insn_worklist h ∙ ap (λ (l : List ℕ). take_block L p l s) q
      go (b ∷ w) q = refl
  last_block false e h = by_phase false e ∙ insn_none s.insn_worklist h

  next_insn : (d : 𝔹) → s.draining ≡ d → (d ≡ true → length s.block_worklist ≡ 0) → step L p s ≡ take_insn L p s.insn_worklist s
  next_insn true e h = by_phase true e ∙ drain_none s.block_worklist (h refl)
  next_insn false e h = by_phase false e

-- ---- which it is

pub positive : (n : ℕ) → eqb n 0 ≡ false → 0 < n
positive zero e = absurd (let z : ◌≡◌ {A = ℕ} 0 1 = cc in omega arith)
positive (suc n) e = omega arith

block_by : (d b i : 𝔹) → ((d && not b) || i) ≡ true → (i ≡ true) ⊎ ((d ≡ true) × (b ≡ false))
block_by true true true h = inl refl
block_by true false true h = inl refl
block_by false b true h = inl refl
block_by true true false h = inl h
block_by true false false h = inr (refl, refl)
block_by false b false h = inl h

insn_by : (d b i : 𝔹) → ((d && not b) || i) ≡ false → (i ≡ false) × (d ≡ true → b ≡ true)
insn_by true true i h = (h, λ e. refl)
insn_by true false i h = (cc, λ e. cc)
insn_by false b i h = (h, λ e. cc)

differ : true ≡ false → ⊥
differ e = let z : ◌≡◌ {A = ℕ} 0 1 = cc in omega arith

module _ (z : Sizes) (m : List ℕ) (q : Regs) where
  pub some_block : {t : 𝔹} → t ≡ block_next q → t ≡ true → 0 < q.insns.len + q.blocks.len → 0 < q.blocks.len
  some_block e h lt = go (block_by q.draining (eqb q.blocks.len 0) (eqb q.insns.len 0) (sym e ∙ h))
    where
      go : (eqb q.insns.len 0 ≡ true) ⊎ ((q.draining ≡ true) × (eqb q.blocks.len 0 ≡ false)) → 0 < q.blocks.len
      go (inl i) = omega (arith, eqb-true q.insns.len 0 i)
      go (inr b) = positive q.blocks.len b.1

  pub some_insn : {t : 𝔹} → t ≡ block_next q → t ≡ false → 0 < q.insns.len
  some_insn e h = positive q.insns.len (insn_by q.draining (eqb q.blocks.len 0) (eqb q.insns.len 0) (sym e ∙ h)).0

  pub front-block : {t : 𝔹} → t ≡ block_next q → t ≡ true → Front z m q 0
  front-block e h = record { below = omega arith; inside = λ b. absurd (differ (sym h ∙ e ∙ b)); is = λ b. absurd (differ (sym h ∙ e ∙ b)) }

  pub block-step : {fits less : Program → Attrs → Type 0} {t : 𝔹} {w : List ℕ} {r : Acted} → t ≡ block_next q → t ≡ true → ((P : Program) (v : Attrs) → less P v → fits P v)
      → BlockStepped z fits (λ L P s. take_block L P (blocks_in s) s) m q w r → BlockStepped z less step m q w r
  block-step e h g d = record { is = λ L room p v a. d.is L room p v (g p v a) ∙ sym (go L p v (block_by q.draining (eqb q.blocks.len 0) (eqb q.insns.len 0) (sym e ∙ h))); ok = d.ok }
    where
      go : (L : Limits) (p : Program) (v : Attrs) → (eqb q.insns.len 0 ≡ true) ⊎ ((q.draining ≡ true) × (eqb q.blocks.len 0 ≡ false))
          → step L p (state_view z v m q) ≡ take_block L p (blocks_of m q) (state_view z v m q)
      go L p v (inl i) = last_block L p (state_view z v m q) q.draining refl (insns-length m q ∙ eqb-true q.insns.len 0 i)
      go L p v (inr b) = draining-block L p (state_view z v m q) b.0 (let k = positive q.blocks.len b.1 in omega (arith, blocks-length m q))

  pub insn_step : {fits : Program → Attrs → Type 0} {t : 𝔹} {w : List ℕ} {r : Acted} → t ≡ block_next q → t ≡ false
      → BlockStepped z fits (λ L P s. take_insn L P (insns_in s) s) m q w r → BlockStepped z fits step m q w r
  insn_step e h d =
      let b = insn_by q.draining (eqb q.blocks.len 0) (eqb q.insns.len 0) (sym e ∙ h) in
      record {
        is = λ L room p v a. d.is L room p v a ∙ sym (next_insn L p (state_view z v m q) q.draining refl (λ k. blocks-length m q ∙ eqb-true q.blocks.len 0 (b.1 k)));
        ok = d.ok;
      }
