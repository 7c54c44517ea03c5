-- A row: bindings in rising order of names. Where `bind` puts a name, and how the names of two rows come together. Assumes nothing.
use mathlib.Core.Path.{◌≡◌, refl, ap, ◌∙◌}
use mathlib.Core.Bool.{true}
use mathlib.Core.List.{[], ◌∷◌, ◌++◌}
use Rattle.rules.specs.Lists.{precedes}
use Rattle.rules.specs.Program.{Name, Opnd}
use Rattle.rules.specs.Reading.{Env, bind, all_keys}
use Rattle.variables.specs.Scopes.{Above, Sorted}
use Rattle.variables.proofs.scopes.Order.{same_self, precedes-self, precedes_trans, below-not, below_differ}
use Rattle.variables.proofs.scopes.Sorted.{bind-front, bind-here, bind-behind, bind-above}

-- every name of e is below k
abbrev pub RowBelow : Env → Name → Type 0
RowBelow [] k = Unit {0}
RowBelow (x ∷ e) k = (precedes x.0 k ≡ true) × RowBelow e k

pub below_trans : (e : Env) (j k : Name) → RowBelow e j → precedes j k ≡ true → RowBelow e k
below_trans [] j k b p = tt
below_trans (x ∷ e) j k b p = (precedes_trans x.0 j k b.0 p, below_trans e j k b.1 p)

-- a name below a row comes first
pub bind-first : (n : Name) (v : Opnd) (e : Env) → Above n e → bind n v e ≡ (n, v) ∷ e
bind-first n v [] a = refl
bind-first n v (x ∷ e) a = bind-front n v x e a.0

-- a name above a part of a row goes behind it
pub bind-past : (n : Name) (v : Opnd) (e f : Env) → RowBelow e n → bind n v (e ++ f) ≡ e ++ bind n v f
bind-past n v [] f b = refl
bind-past n v (x ∷ e) f b =
    bind-behind n v x (e ++ f) (below-not x.0 n b.0) (below_differ x.0 n b.0) ∙ ap (λ l. x ∷ l) (bind-past n v e f b.1)

-- of a row in two parts
above-part : (k : Name) (e : Env) (y : Name × Opnd) (f : Env) → Above k (e ++ y ∷ f) → precedes k y.0 ≡ true
above-part k [] y f a = a.0
above-part k (x ∷ e) y f a = above-part k e y f a.1

pub sorted_below : (e : Env) (y : Name × Opnd) (f : Env) → Sorted (e ++ y ∷ f) → RowBelow e y.0
sorted_below [] y f s = tt
sorted_below (x ∷ e) y f s = (above-part x.0 e y f s.0, sorted_below e y f s.1)

pub sorted_rest : (e f : Env) → Sorted (e ++ f) → Sorted f
sorted_rest [] f s = s
sorted_rest (x ∷ e) f s = sorted_rest e f s.1

-- ---- bind, where its place is known

module _ (n : Name) (v : Opnd) (e : Env) where
  -- the name stands there already
  pub bind-at : (y : Name × Opnd) (f : Env) → Sorted (e ++ y ∷ f) → y.0 ≡ n → bind n v (e ++ y ∷ f) ≡ e ++ (n, v) ∷ f
  bind-at y f s p =
      bind-past n v e (y ∷ f) (rw p at (sorted_below e y f s))
      ∙ ap (λ l. e ++ l) (bind-here n v y f (rw p (precedes-self n)) (rw p (same_self n)))

  -- it comes between two parts
  pub bind_between : (f : Env) → RowBelow e n → Above n f → bind n v (e ++ f) ≡ e ++ (n, v) ∷ f
  bind_between f b a = bind-past n v e f b ∙ ap (λ l. e ++ l) (bind-first n v f a)

-- ---- the names of two rows

pub above-all : (k : Name) (l r : Env) → Above k l → Above k r → Above k (all_keys l r)
above-all k [] r a b = b
above-all k (x ∷ l) r a b = bind-above k x.0 x.1 (all_keys l r) a.0 (above-all k l r a.1 b)

pub all_left : (x : Name × Opnd) (l r : Env) → Above x.0 l → Above x.0 r → all_keys (x ∷ l) r ≡ x ∷ all_keys l r
all_left x l r a b = bind-first x.0 x.1 (all_keys l r) (above-all x.0 l r a b)

pub all_right : (y : Name × Opnd) (l r : Env) → Above y.0 l → all_keys l (y ∷ r) ≡ y ∷ all_keys l r
all_right y [] r a = refl
all_right y (x ∷ l) r a =
    ap (bind x.0 x.1) (all_right y l r a.1) ∙ bind-behind x.0 x.1 y (all_keys l r) (below-not y.0 x.0 a.0) (below_differ y.0 x.0 a.0)

pub all_both : (x y : Name × Opnd) (l r : Env) → x.0 ≡ y.0 → Above x.0 l → all_keys (x ∷ l) (y ∷ r) ≡ x ∷ all_keys l r
all_both x y l r p a =
    ap (bind x.0 x.1) (all_right y l r (rw p at a)) ∙ bind-here x.0 x.1 y (all_keys l r) (rw p (precedes-self y.0)) (rw p (same_self y.0))
