-- A bare call leaves no callers but those before and itself, of its function. Assumes nothing.
use mathlib.Core.Bool.{Bool as 𝔹, true, false, not}
use mathlib.Core.Logic.{◌⊎◌, inl, inr}
use mathlib.Core.Path.{◌≡◌, sym, ap, ◌∙◌, subst}
use mathlib.Core.List.{List, [], ◌∷◌, ◌++◌}
use Prim.Native.Nat.{ℕ}
use lib.ListN.{get_or}
use Rattle.kinds.specs.declared.Kind.{Kind}
use Rattle.kinds.specs.declared.Kind.TheVariants.{Empty}
use Rattle.rules.specs.Actions.{answered, each}
use Rattle.rules.specs.Lists.{has}
use Rattle.rules.specs.Program.{Limits, Program, function, entry, parameters}
use Rattle.rules.specs.Machine.{State, marked, add_caller, with_insns, with_blocks, kind_of, wake_if_wider, add_call, pass_arguments, place_of, argument}
use Rattle.rules.proofs.Exactness.Answers.{answer, after, asked, Same, wake_if_wider-is, add_call-is}
use Rattle.rules.proofs.Exactness.Grow.{mark_cases}
use Rattle.sends.specs.Sends.{call_static}

module _ (L : Limits) (p : Program) where
  woken_called : (k : Kind) (x : ℕ) (s t : State) → ((t ≡ s) × Same (get_or s.kinds x Empty) k) ⊎ (t ≡ with_insns (s.insn_worklist ++ x ∷ []) s) → t.called_by ≡ s.called_by
  woken_called k x s t (inl e) = ap (λ (u : State). u.called_by) e.0
  woken_called k x s t (inr e) = ap (λ (u : State). u.called_by) e

  each-called : (i : ℕ) (l : List ℕ) (s : State) {r : Unit {0} × State}
      → each l (λ x s. wake_if_wider L p (kind_of s (argument L p (place_of L p x) i)) x s) s ≡ answered r → r.1.called_by ≡ s.called_by
  each-called i [] s e = ap (λ (u : Unit {0} × State). u.1.called_by) (sym (answer e))
  each-called i (x ∷ l) s e =
      let k = kind_of s (argument L p (place_of L p x) i) in
      let a = after (wake_if_wider L p k x s) _ e in
      each-called i l a.0.1 a.2 ∙ woken_called k x s a.0.1 (wake_if_wider-is L p k x s a.1)

  passed-called : (i f : ℕ) (s : State) {r : Unit {0} × State} → pass_arguments L p i f s ≡ answered r → r.1.called_by ≡ s.called_by
  unfolding pass_arguments
  passed-called i f s e = each-called i (parameters p f) s e

  pub static_called : (i f : ℕ) (s : State) {r : Unit {0} × State} → call_static L p i f s ≡ answered r → (g : ℕ) → marked r.1.called_by g i ≡ true → (marked s.called_by g i ≡ true) ⊎ (g ≡ f)
  static_called i f s {r} e g h =
      let a = after (add_call L p i f s) _ e in
      let b = asked 17 (not (has (function p f).class)) (tt, a.0.1) _ a.2 in
      go a.0.1 (add_call-is L p i f s a.1) (ap (λ (t : List (List 𝔹)). marked t g i) (sym (passed-called i f a.0.1 b.1)) ∙ h)
    where
      one : (marked s.called_by g i ≡ true) ⊎ ((g ≡ f) × (i ≡ i)) → (marked s.called_by g i ≡ true) ⊎ (g ≡ f)
      one (inl m) = inl m
      one (inr m) = inr m.0

      go : (t : State) → ((marked s.called_by f i ≡ true) × (t ≡ s)) ⊎ ((marked s.called_by f i ≡ false) × (t ≡ add_caller f i (with_blocks (s.block_worklist ++ entry p f ∷ []) s)))
          → marked t.called_by g i ≡ true → (marked s.called_by g i ≡ true) ⊎ (g ≡ f)
      go t (inl m) k = inl (subst (λ (u : State). marked u.called_by g i ≡ true) m.1 k)
      go t (inr m) k = one (mark_cases s.called_by f i g i (subst (λ (u : State). marked u.called_by g i ≡ true) m.1 k))
