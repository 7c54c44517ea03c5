-- The ways through add_call. Assumes nothing.
use mathlib.Core.Bool.{Bool as 𝔹, true, false, cond}
use mathlib.Core.Path.{◌≡◌, refl, sym, ap, ap₂, ◌∙◌}
use Prim.Native.Nat.{ℕ, ◌≤◌, ◌<◌}
use borrow.Author.Tests.{le-leb, lt-leb, le-ltb, not-true, not-false}
use lib.Dec.{leb, ltb}
use lib.ListN.{length}
use Rattle.rules.specs.Actions.{Answer, answered, refused, if_answered, ask}
use Rattle.rules.specs.Program.{Limits, Program, about, op_of, entry, parameters}
use Rattle.rules.specs.Machine.{State, marked, add_caller, push_block, add_call}
use Rattle.memory.specs.Layout.{worklist_most}
use Rattle.state.specs.declared.Sizes.{Sizes}
use Rattle.state.specs.declared.Regs.{Regs}
use Rattle.state.specs.declared.State as S
use Rattle.state.specs.View.{Attrs, called_of, state_view}
use Rattle.state.specs.Changes.{Every}
use Rattle.state.specs.Methods.{view, Added, Did}
use Rattle.state.proofs.Pushes.{blocks-length}
use Rattle.state.proofs.Methods.{Along, along_step, along_stop, along_end, along_refused, ready_at}
use Rattle.std.specs.Prelude.{Result, Ok, Err}
use Rattle.refusals.specs.declared.Refusal.{Refusal}
use Rattle.refusals.specs.declared.Refusal.TheVariants.{MissingArgument}
use Rattle.sends.specs.calls.Calls.{CallIs}

-- the rest of a new call
abbrev asks : ℕ → ℕ → Answer (Unit {0} × State) → Answer (Unit {0} × State)
asks n k a = if_answered a (λ r. ask 16 (leb n k) r.1)

pub old-is : (L : Limits) (p : Program) (i f : ℕ) (s : State) → marked s.called_by f i ≡ true → add_call L p i f s ≡ answered (tt, s)
unfolding add_call
old-is L p i f s e = rw e

new_is : (L : Limits) (p : Program) (i f : ℕ) (s : State) → marked s.called_by f i ≡ false
    → add_call L p i f s ≡ asks (length (parameters p f)) (length (about (op_of p i)).listed) (push_block L p (entry p f) (add_caller f i s))
unfolding add_call
new_is L p i f s e = rw e

-- a new call where no entry has room, for a way out of `add_call` that no answer names
pub call-full : (L : Limits) (p : Program) (i f : ℕ) (s : State) → L.worklist ≡ worklist_most → marked s.called_by f i ≡ false → worklist_most ≤ length s.block_worklist
    → add_call L p i f s ≡ refused 20
unfolding push_block
call-full L p i f s room e h =
    let t : ltb (length s.block_worklist) L.worklist ≡ false = ap (ltb (length s.block_worklist)) room ∙ le-ltb (length s.block_worklist) worklist_most h in
    rw (new_is L p i f s e, t)

pub ruleset full = (call-full, blocks-length)

module _ (s : S.State) (i f e n k : ℕ) {t : S.State} {b : 𝔹} (a : Added f i s t b) where
  was : b ≡ false → marked (called_of s.sizes s.words.now) f i ≡ true
  was h = not-false (marked (called_of s.sizes s.words.now) f i) (sym a.added.told ∙ h)

  wasn't : b ≡ true → marked (called_of s.sizes s.words.now) f i ≡ false
  wasn't h = not-true (marked (called_of s.sizes s.words.now) f i) (sym a.added.told ∙ h)

  same-sizes : (v : Attrs) → view v t ≡ state_view s.sizes v t.words.now s.regs
  same-sizes v = ap₂ (λ (z : Sizes) (q : Regs). state_view z v t.words.now q) a.lent.sizes a.regs

  pub call-old : b ≡ false → Did (CallIs i f e n k) (λ L p. add_call L p i f) s t (Ok tt)
  call-old h = record {
    lent = a.lent;
    did = record {
      is = λ L room p v g.
          let y = view v s in
          let u : state_view s.sizes v t.words.now s.regs ≡ y = a.added.put.is v s.regs ∙ ap (λ (x : 𝔹). cond x y (add_caller f i y)) (was h) in
          ap (λ (q : Regs). answered (tt, state_view s.sizes v t.words.now q)) a.regs ∙ ap (λ (x : State). answered (tt, x)) u ∙ sym (old-is L p i f y (was h));
      ok = record { ready = ready_at t a.lent.sizes; count = ap (λ (q : Regs). q.count) a.regs };
    };
  }

  module _ (h : b ≡ true) where
    new : Along (CallIs i f e n k) (λ L p y. asks n k (push_block L p e y)) (λ L p. add_call L p i f) s t
    new = record {
      lent = a.lent;
      count = ap (λ (q : Regs). q.count) a.regs;
      same = λ L room p v g.
          let y = view v s in
          let u : view v t ≡ add_caller f i y = same-sizes v ∙ a.added.put.is v s.regs ∙ ap (λ (x : 𝔹). cond x y (add_caller f i y)) (wasn't h) in
          ap (λ (x : State). asks n k (push_block L p e x)) u ∙ rw (← g.entered, ← g.params, ← g.args) (sym (new_is L p i f y (wasn't h)));
    }

    module _ {u : S.State} {r : Result (Unit {0}) Refusal} (d : Did Every (λ L p. push_block L p e) t u r) where
      pub call-stop : {x : Refusal} → r ≡ Err x → Did (CallIs i f e n k) (λ L p. add_call L p i f) s u (Err x)
      call-stop ex = along_stop new (λ L p. ask 16 (leb n k)) d ex (λ p v g. tt) (λ L room p v g. refl)

      pushed : {x : Unit {0}} → r ≡ Ok x → Along (CallIs i f e n k) (λ L p. ask 16 (leb n k)) (λ L p. add_call L p i f) s u
      pushed ex = along_step new d ex (λ p v g. tt) (λ L room p v g. refl)

      pub call-new : {x : Unit {0}} → r ≡ Ok x → n ≤ k → Did (CallIs i f e n k) (λ L p. add_call L p i f) s u (Ok tt)
      call-new ex le = along_end (pushed ex) (λ L room p v g. rw (le-leb n k le))

      pub call-short : {x : Unit {0}} → r ≡ Ok x → k < n → Did (CallIs i f e n k) (λ L p. add_call L p i f) s u (Err MissingArgument)
      call-short ex lt = along_refused (pushed ex) MissingArgument (λ L room p v g. rw (lt-leb n k lt))
