-- A block goes live, and a block is taken. Assumes nothing.
use mathlib.Core.Bool.{Bool as 𝔹, true, false}
use mathlib.Core.Path.{◌≡◌, refl, sym, ap, ◌∙◌, subst}
use mathlib.Core.List.{List, ◌∷◌}
use Prim.Native.Nat.{ℕ, ◌+◌}
use lib.ListN.{get_or}
use Rattle.std.specs.Prelude.{Result, Ok}
use Rattle.refusals.specs.declared.Refusal.{Refusal}
use Rattle.rules.specs.Program.{Limits, Program, code}
use Rattle.rules.specs.Machine.{State, set_live, go_live, state_of, take_block, taken}
use Rattle.state.specs.declared.Sizes.{Sizes}
use Rattle.state.specs.declared.Regs.{Regs}
use Rattle.state.specs.declared.State as S
use Rattle.state.specs.Acted.{Acted, On, Refused, acted_of}
use Rattle.state.specs.View.{live_of, blocks_of, state_view}
use Rattle.state.specs.Changes as C
use Rattle.state.specs.Changes.{ReadyAfter, StateDid, push_all}
use Rattle.state.specs.Methods.{Did, Put, TookBlock}
use Rattle.state.proofs.Lists.{lives_old, lives_new}
use Rattle.state.proofs.Methods.{along_start, along_put, along_last, along_end, lent_on, did_at, did_fits}
use Rattle.machine.specs.blocks.Blocks.{CodeIs, ReadyNext, BlockStepped, Stepped, blocks_in}

module _ (s : S.State) (x : List ℕ) (b : ℕ) {y : 𝔹} (e : y ≡ get_or (live_of s.sizes s.words.now) b false) where
  pub live-old : y ≡ true → Did (CodeIs s.sizes x) (λ L p. go_live L p b) s s (Ok tt)
  live-old h = along_end (along_start s) (λ L room p v _. lives_old s.sizes s.words.now s.regs b L p v (sym e ∙ h))

  pub live-new : {t u : S.State} (r : Result (Unit {0}) Refusal) → y ≡ false → Put (set_live b) s t → Did (CodeIs t.sizes x) (λ L p. push_all L p (code p b)) t u r
      → Did (CodeIs s.sizes x) (λ L p. go_live L p b) s u r
  live-new r h d w = along_last
      (along_put (along_start s) (λ L p. push_all L p (code p b)) d (λ L room p v _. lives_new s.sizes s.words.now s.regs b L p v (sym e ∙ h))) r w
      (λ p v a. rw d.lent.sizes a) (λ L room p v a. refl)

pub next-ready : (z : Sizes) (q a : Regs) (w : List ℕ) (r : Acted) → a.count ≡ q.count + 1 → ReadyAfter z a w r → ReadyNext z q w r
next-ready z q a w (On b) e h = record { ready = h.ready; count = h.count ∙ e }
next-ready z q a w (Refused n) e h = tt

take-front : (L : Limits) (p : Program) (b : ℕ) (l w : List ℕ) (s : State) → l ≡ b ∷ w → state_of L p (go_live L p b (taken true s.insn_worklist w s)) ≡ take_block L p l s
take-front L p b l w s e = rw e

stepped : (z : Sizes) (m : List ℕ) (q : Regs) (x : List ℕ) {b : ℕ} {a : Regs} {w : List ℕ} {r : Acted} → C.TookBlock z m q b a
    → StateDid z (CodeIs z x) (λ L p. go_live L p b) m a w r → BlockStepped z (CodeIs z x) (λ L p s. take_block L p (blocks_in s) s) m q w r
stepped z m q x {b} {a} {w} {r} t d = record {
  is = λ L room p v h.
      ap (state_of L p) (d.is L room p v h) ∙ ap (λ (s : State). state_of L p (go_live L p b s)) (t.state v)
      ∙ take-front L p b (blocks_of m q) (blocks_of m a) (state_view z v m q) t.is;
  ok = next-ready z q a w r t.count d.ok;
}

pub block_stepped : {s t u : S.State} (x : List ℕ) (r : Result (Unit {0}) Refusal) {b : ℕ} → TookBlock b s t → Did (CodeIs t.sizes x) (λ L p. go_live L p b) t u r
    → Stepped (CodeIs s.sizes x) (λ L p s. take_block L p (blocks_in s) s) s u r
block_stepped {s} {t} {u} x r {b} k d =
    record {
      lent = lent_on k.lent d.lent;
      step = stepped s.sizes s.words.now s.regs x k.took (subst
          (λ (m : List ℕ). StateDid s.sizes (CodeIs s.sizes x) (λ L p. go_live L p b) m t.regs u.words.now (acted_of u.regs r)) k.words
          (did_at k.lent.sizes (did_fits d (λ p v a. rw k.lent.sizes a))));
    }
