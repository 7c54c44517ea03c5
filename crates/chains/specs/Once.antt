-- A chain and an index are held in one way at most. Assumes nothing.
use Rattle.std.specs.Prelude.{List, [], ◌∷◌, ℕ, suc, ◌-◌, length}
use Rattle.std.specs.Coded.{le_prop}
use native.Mathlib.Nat.{ℕ_set}
use Rattle.program.specs.declared.Counts.{Counts}
use Rattle.chains.specs.Chains.{self, link_in, cells_from, ChainsChained, Chained, Index}

pub ChainsChained-prop : (item link : ℕ → ℕ) (n k h : ℕ) (l : List ℕ) → IsProp (ChainsChained item link n k h l)
unfolding ChainsChained
ChainsChained-prop item link n k h [] = ℕ_set h n
ChainsChained-prop item link n k h (x ∷ l) =
    λ u v i. (
      le_prop u.0 v.0 i,
      le_prop u.1 v.1 i,
      ℕ_set x (item h) u.2 v.2 i,
      ChainsChained-prop item link n (suc h) (link h) l u.3 v.3 i,
    )

pub Chained-prop : (w : List ℕ) (h : ℕ) → IsProp (Chained w h)
Chained-prop w h = ChainsChained-prop self (link_in w) (length w) h h (cells_from (link_in w) (length w) (length w - h) h)

pub Index-prop : (m : List ℕ) (c : Counts) (w : List ℕ) → IsProp (Index m c w)
Index-prop m c w x y =
    λ i. record {
      len = le_prop x.len y.len i;
      codes = λ s b h. ChainsChained-prop _ _ _ _ _ _ (x.codes s b h) (y.codes s b h) i;
      params = λ s f h g. ChainsChained-prop _ _ _ _ _ _ (x.params s f h g) (y.params s f h g) i;
      returning = λ s f h. ChainsChained-prop _ _ _ _ _ _ (x.returning s f h) (y.returning s f h) i;
    }
