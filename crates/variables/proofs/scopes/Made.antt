-- Bindings in the order in which they were made, and the environment that they come to. Assumes nothing.
use mathlib.Core.Path.{◌≡◌, refl, sym, ap, ◌∙◌}
use mathlib.Core.List.{[], ◌∷◌, ◌++◌}
use mathlib.Core.Option.{Option, none, some}
use Rattle.rules.specs.Program.{Name, Opnd}
use Rattle.rules.specs.Reading.{Env, lookup, bind, all_keys}
use Rattle.variables.specs.Scopes.{Sorted, Bindings, over, env_of}
use Rattle.variables.proofs.scopes.Order.{OrderStands, before, equal, behind, stands}
use Rattle.variables.proofs.scopes.Sorted.{lookup-here, lookup-on, bind_sorted, bound, unbound, extensional}

pub over_sorted : (p : Bindings) (e : Env) → Sorted e → Sorted (over p e)
unfolding over
over_sorted [] e s = s
over_sorted (x ∷ p) e s = bind_sorted x.0 x.1 (over p e) (over_sorted p e s)

pub env_sorted : (p : Bindings) → Sorted (env_of p)
env_sorted p = over_sorted p [] tt

pub over_append : (p q : Bindings) (e : Env) → over (p ++ q) e ≡ over p (over q e)
unfolding over
over_append [] q e = refl
over_append (x ∷ p) q e = ap (bind x.0 x.1) (over_append p q e)

pub all-over : (l r : Env) → all_keys l r ≡ over l r
unfolding over
all-over [] r = refl
all-over (x ∷ l) r = ap (bind x.0 x.1) (all-over l r)

-- ---- a lookup finds the latest

abbrev pub or : Option Opnd → Option Opnd → Option Opnd
or none o = o
or (some v) o = some v

lookup-step : (k : Name) (x : Name × Opnd) (p : Bindings) (e f : Env) → lookup k f ≡ or (lookup k p) (lookup k e) → OrderStands x.0 k
    → lookup k (bind x.0 x.1 f) ≡ or (lookup k (x ∷ p)) (lookup k e)
lookup-step k x p e f h (before q r s t) = unbound x.0 k x.1 s f ∙ (h ∙ ap (λ o. or o (lookup k e)) (sym (lookup-on k x p s)))
lookup-step k x p e f h (equal q r s) = rw (lookup-here k x p q) (rw (← q) (bound x.0 x.1 f))
lookup-step k x p e f h (behind q r s t) = unbound x.0 k x.1 s f ∙ (h ∙ ap (λ o. or o (lookup k e)) (sym (lookup-on k x p s)))

pub lookup-over : (k : Name) (p : Bindings) (e : Env) → lookup k (over p e) ≡ or (lookup k p) (lookup k e)
unfolding over
lookup-over k [] e = refl
lookup-over k (x ∷ p) e = lookup-step k x p e (over p e) (lookup-over k p e) (stands x.0 k)

or_none : (o : Option Opnd) → or o none ≡ o
or_none none = refl
or_none (some v) = refl

pub lookup-env : (k : Name) (p : Bindings) → lookup k (env_of p) ≡ lookup k p
lookup-env k p = lookup-over k p [] ∙ or_none (lookup k p)

or_assoc : (a b c : Option Opnd) → or (or a b) c ≡ or a (or b c)
or_assoc none b c = refl
or_assoc (some v) b c = refl

pub lookup_append : (k : Name) (p q : Bindings) → lookup k (p ++ q) ≡ or (lookup k p) (lookup k q)
lookup_append k [] q = refl
lookup_append k (x ∷ p) q = step (lookup_append k p q) (stands x.0 k)
  where
    step : lookup k (p ++ q) ≡ or (lookup k p) (lookup k q) → OrderStands x.0 k → lookup k (x ∷ p ++ q) ≡ or (lookup k (x ∷ p)) (lookup k q)
    step h (before a b c d) = lookup-on k x (p ++ q) c ∙ (h ∙ ap (λ o. or o (lookup k q)) (sym (lookup-on k x p c)))
    step h (equal a b c) = lookup-here k x (p ++ q) a ∙ ap (λ o. or o (lookup k q)) (sym (lookup-here k x p a))
    step h (behind a b c d) = lookup-on k x (p ++ q) c ∙ (h ∙ ap (λ o. or o (lookup k q)) (sym (lookup-on k x p c)))

-- what bindings come to may stand for them
pub over-env : (p : Bindings) (e : Env) → Sorted e → over (env_of p) e ≡ over p e
over-env p e s = extensional (over (env_of p) e) (over p e) (over_sorted (env_of p) e s) (over_sorted p e s)
    (λ k. lookup-over k (env_of p) e ∙ (ap (λ o. or o (lookup k e)) (lookup-env k p) ∙ sym (lookup-over k p e)))
