-- Environments in rising order of names: what `bind` and `lookup` do to them. Assumes nothing.
use mathlib.Core.Path.{◌≡◌, refl, sym, ap, ◌∙◌}
use mathlib.Core.Bool.{Bool, true, false}
use mathlib.Core.List.{[], ◌∷◌}
use mathlib.Core.Option.{Option, none, some}
use Rattle.rules.specs.Lists.{same, precedes}
use Rattle.rules.specs.Program.{Name, Opnd}
use Rattle.rules.specs.Reading.{Env, lookup, bind}
use Rattle.variables.proofs.scopes.Order.{impossible, OrderStands, before, equal, behind, stands, same_self, precedes_trans}
use Rattle.variables.specs.Scopes.{Above, Sorted}

pub above_trans : (j k : Name) (e : Env) → precedes j k ≡ true → Above k e → Above j e
above_trans j k [] p a = tt
above_trans j k (x ∷ e) p a = (precedes_trans j k x.0 p a.0, above_trans j k e p a.1)

-- one step of a lookup
module _ (k : Name) (x : Name × Opnd) (e : Env) where
  pub lookup-here : x.0 ≡ k → lookup k (x ∷ e) ≡ some x.1
  lookup-here p = rw (p, same_self k, lookup)

  pub lookup-on : same x.0 k ≡ false → lookup k (x ∷ e) ≡ lookup k e
  lookup-on p = rw (p, lookup)

-- one step of a binding
module _ (n : Name) (v : Opnd) (x : Name × Opnd) (e : Env) where
  pub bind-front : precedes n x.0 ≡ true → bind n v (x ∷ e) ≡ (n, v) ∷ x ∷ e
  bind-front p = rw (p, bind)

  pub bind-here : precedes n x.0 ≡ false → same n x.0 ≡ true → bind n v (x ∷ e) ≡ (n, v) ∷ e
  bind-here p q = rw (p, q, bind)

  pub bind-behind : precedes n x.0 ≡ false → same n x.0 ≡ false → bind n v (x ∷ e) ≡ x ∷ bind n v e
  bind-behind p q = rw (p, q, bind)

pub absent : (k : Name) (e : Env) → Above k e → lookup k e ≡ none
absent k [] a = refl
absent k (x ∷ e) a = lookup-on k x e (off (stands k x.0)) ∙ absent k e a.1
  where
    off : OrderStands k x.0 → same x.0 k ≡ false
    off (before p q r s) = s
    off (equal p q r) = impossible a.0 q
    off (behind p q r s) = s

-- ---- bind keeps the order

module _ (k n : Name) (v : Opnd) where
  bind-above-step : (x : Name × Opnd) (e : Env) → precedes k n ≡ true → Above k (x ∷ e) → Above k (bind n v e) → OrderStands n x.0 → Above k (bind n v (x ∷ e))
  bind-above-step x e p a h (before q r s t) = rw (bind-front n v x e q) (p, a)
  bind-above-step x e p a h (equal q r s) = rw (bind-here n v x e r s) (p, a.1)
  bind-above-step x e p a h (behind q r s t) = rw (bind-behind n v x e q s) (a.0, h)

  pub bind-above : (e : Env) → precedes k n ≡ true → Above k e → Above k (bind n v e)
  bind-above [] p a = (p, tt)
  bind-above (x ∷ e) p a = bind-above-step x e p a (bind-above e p a.1) (stands n x.0)

module _ (n : Name) (v : Opnd) where
  bind_sorted_step : (x : Name × Opnd) (e : Env) → Sorted (x ∷ e) → Sorted (bind n v e) → OrderStands n x.0 → Sorted (bind n v (x ∷ e))
  bind_sorted_step x e s h (before q r t u) = rw (bind-front n v x e q) ((q, above_trans n x.0 e q s.0), s)
  bind_sorted_step x e s h (equal q r t) = rw (bind-here n v x e r t) (rw (sym q) at s.0, s.1)
  bind_sorted_step x e s h (behind q r t u) = rw (bind-behind n v x e q t) (bind-above x.0 n v e r s.0, h)

  pub bind_sorted : (e : Env) → Sorted e → Sorted (bind n v e)
  bind_sorted [] s = (tt, tt)
  bind_sorted (x ∷ e) s = bind_sorted_step x e s (bind_sorted e s.1) (stands n x.0)

-- ---- lookups after a binding

module _ (n : Name) (v : Opnd) where
  bound-step : (x : Name × Opnd) (e : Env) → lookup n (bind n v e) ≡ some v → OrderStands n x.0 → lookup n (bind n v (x ∷ e)) ≡ some v
  bound-step x e h (before q r s t) = rw (bind-front n v x e q) (lookup-here n (n, v) (x ∷ e) refl)
  bound-step x e h (equal q r s) = rw (bind-here n v x e r s) (lookup-here n (n, v) e refl)
  bound-step x e h (behind q r s t) = rw (bind-behind n v x e q s) (lookup-on n x (bind n v e) t ∙ h)

  pub bound : (e : Env) → lookup n (bind n v e) ≡ some v
  bound [] = lookup-here n (n, v) [] refl
  bound (x ∷ e) = bound-step x e (bound e) (stands n x.0)

module _ (n k : Name) (v : Opnd) (other : same n k ≡ false) where
  unbound_step : (x : Name × Opnd) (e : Env) → lookup k (bind n v e) ≡ lookup k e → OrderStands n x.0 → lookup k (bind n v (x ∷ e)) ≡ lookup k (x ∷ e)
  unbound_step x e h (before q r s t) = rw (bind-front n v x e q) (lookup-on k (n, v) (x ∷ e) other)
  unbound_step x e h (equal q r s) = rw (bind-here n v x e r s) (lookup-on k (n, v) e other ∙ sym (lookup-on k x e (rw q at other)))
  unbound_step x e h (behind q r s t) = rw (bind-behind n v x e q s) (ap (λ o. elim (same x.0 k) [ true ↦ some x.1 | false ↦ o ]) h)

  pub unbound : (e : Env) → lookup k (bind n v e) ≡ lookup k e
  unbound [] = lookup-on k (n, v) [] other
  unbound (x ∷ e) = unbound_step x e (unbound e) (stands n x.0)

-- ---- environments with equal lookups are equal

pub none-some : {A : Type 0} {v : Opnd} {o : Option Opnd} → o ≡ none → o ≡ some v → A
none-some {A} {v} {o} e f = impossible (ap given (sym f ∙ e)) refl
  where
    given : Option Opnd → Bool
    given none = true
    given (some x) = false

some_eq : (v w : Opnd) → some v ≡ some w → v ≡ w
some_eq v w e = cc

module _ (x y : Name × Opnd) (e f : Env) (s : Sorted (x ∷ e)) (t : Sorted (y ∷ f)) (h : (k : Name) → lookup k (x ∷ e) ≡ lookup k (y ∷ f)) where
  tails : x.0 ≡ y.0 → (k : Name) → lookup k e ≡ lookup k f
  tails q k = by (stands x.0 k)
    where
      on : same x.0 k ≡ false → lookup k e ≡ lookup k f
      on r = sym (lookup-on k x e r) ∙ (h k ∙ lookup-on k y f (rw q at r))

      by : OrderStands x.0 k → lookup k e ≡ lookup k f
      by (before p q r s) = on r
      by (equal p _ _) = absent k e (rw p at s.0) ∙ sym (absent k f (rw (sym q ∙ p) at t.0))
      by (behind p q r s) = on r

  heads : OrderStands x.0 y.0 → x ≡ y
  heads (before p q r u) = none-some (absent x.0 (y ∷ f) (p, above_trans x.0 y.0 f p t.0)) (sym (h x.0) ∙ lookup-here x.0 x e refl)
  heads (equal p q r) = pair p (some_eq x.1 y.1 (sym (lookup-here y.0 x e p) ∙ (h y.0 ∙ lookup-here y.0 y f refl)))
    where
      pair : x.0 ≡ y.0 → x.1 ≡ y.1 → x ≡ y
      pair a b i = (a i, b i)
  heads (behind p q r u) = none-some (absent y.0 (x ∷ e) (q, above_trans y.0 x.0 e q s.0)) (h y.0 ∙ lookup-here y.0 y f refl)

pub extensional : (e f : Env) → Sorted e → Sorted f → ((k : Name) → lookup k e ≡ lookup k f) → e ≡ f
extensional [] [] s t h = refl
extensional [] (y ∷ f) s t h = none-some (sym (h y.0)) (lookup-here y.0 y f refl)
extensional (x ∷ e) [] s t h = none-some (h x.0) (lookup-here x.0 x e refl)
extensional (x ∷ e) (y ∷ f) s t h =
    let p = heads x y e f s t h (stands x.0 y.0) in
    cons p (extensional e f s.1 t.1 (tails x y e f s t h (ap (λ z. z.0) p)))
  where
    cons : x ≡ y → e ≡ f → x ∷ e ≡ y ∷ f
    cons a b = cc

-- what is bound already may be bound again
pub rebound : (n : Name) (v : Opnd) (e : Env) → Sorted e → lookup n e ≡ some v → bind n v e ≡ e
rebound n v e s h = extensional (bind n v e) e (bind_sorted n v e s) s (λ k. by k (stands n k))
  where
    by : (k : Name) → OrderStands n k → lookup k (bind n v e) ≡ lookup k e
    by k (before p q r s) = unbound n k v r e
    by k (equal p q r) = rw (← p) (bound n v e ∙ sym h)
    by k (behind p q r s) = unbound n k v r e
