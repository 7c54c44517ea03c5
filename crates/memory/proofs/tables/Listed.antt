-- Laws of tables as functions of their places. Assumes nothing.
use mathlib.Core.Path.{◌≡◌, refl, sym, ap, ap₂, ◌∙◌}
use mathlib.Core.List.{List, [], ◌∷◌}
use Prim.Native.Nat.{ℕ, zero, suc, ◌<◌}
use native.Mathlib.Nat.{suc_inj}
use native.Mathlib.Omega.{arith}
use lib.ListN.{length, get_or, set}
use Rattle.memory.specs.tables.Tables.{listed, rows}

module _ {A : Type 0} where
  pub listed-length : (n : ℕ) (f : ℕ → A) → length (listed n f) ≡ n
  unfolding listed
  listed-length zero f = refl
  listed-length (suc n) f = ap suc (listed-length n (λ i. f (suc i)))

  pub listed_at : (n : ℕ) (f : ℕ → A) (i : ℕ) (d : A) → i < n → get_or (listed n f) i d ≡ f i
  unfolding listed
  listed_at zero f i d h = absurd (omega arith)
  listed_at (suc n) f zero d h = refl
  listed_at (suc n) f (suc i) d h = listed_at n (λ k. f (suc k)) i d (omega arith)

  pub listed_same : (n : ℕ) (f g : ℕ → A) → ((i : ℕ) → i < n → g i ≡ f i) → listed n g ≡ listed n f
  unfolding listed
  listed_same zero f g e = refl
  listed_same (suc n) f g e = ap₂ ◌∷◌ (e 0 (omega arith)) (listed_same n (λ i. f (suc i)) (λ i. g (suc i)) (λ i h. e (suc i) (omega arith)))

  -- one place differs
  pub listed-set : (n : ℕ) (f g : ℕ → A) (i : ℕ) (v : A) → (i < n → g i ≡ v) → ((j : ℕ) → j < n → (j ≡ i → ⊥) → g j ≡ f j) → listed n g ≡ set (listed n f) i v
  unfolding listed
  listed-set zero f g i v e o = refl
  listed-set (suc n) f g zero v e o =
      ap₂ ◌∷◌ (e (omega arith)) (listed_same n (λ i. f (suc i)) (λ i. g (suc i)) (λ j h. o (suc j) (omega arith) (λ q. omega arith)))
  listed-set (suc n) f g (suc i) v e o =
      ap₂ ◌∷◌ (o 0 (omega arith) (λ q. omega arith))
      (listed-set n (λ k. f (suc k)) (λ k. g (suc k)) i v (λ h. e (omega arith)) (λ j h q. o (suc j) (omega arith) (λ r. q (suc_inj r))))

module _ {A : Type 0} where
  module _ (a : ℕ) (b : ℕ → ℕ) (f g : ℕ → ℕ → A) where
    pub rows_same : ((x y : ℕ) → x < a → y < b x → g x y ≡ f x y) → rows a b g ≡ rows a b f
    rows_same e = listed_same a (λ x. listed (b x) (f x)) (λ x. listed (b x) (g x)) (λ x h. listed_same (b x) (f x) (g x) (λ y k. e x y h k))

    -- one place of row x differs
    pub rows-set : (x y : ℕ) (v : A) → x < a → (y < b x → g x y ≡ v) → ((w z : ℕ) → w < a → z < b w → (w ≡ x → z ≡ y → ⊥) → g w z ≡ f w z)
        → rows a b g ≡ set (rows a b f) x (set (get_or (rows a b f) x []) y v)
    rows-set x y v h e o =
        listed-set a (λ w. listed (b w) (f w)) (λ w. listed (b w) (g w)) x (set (get_or (rows a b f) x []) y v)
        (λ _. listed-set (b x) (f x) (g x) y v e (λ z k q. o x z h k (λ _ r. q r)) ∙ ap (λ (l : List A). set l y v) (sym (listed_at a (λ w. listed (b w) (f w)) x [] h)))
        (λ w k q. listed_same (b w) (f w) (g w) (λ z l. o w z k l (λ r _. q r)))

  pub rows_row : (a : ℕ) (b : ℕ → ℕ) (f : ℕ → ℕ → A) (x : ℕ) → x < a → get_or (rows a b f) x [] ≡ listed (b x) (f x)
  rows_row a b f x h = listed_at a (λ w. listed (b w) (f w)) x [] h

  pub rows_at : (a : ℕ) (b : ℕ → ℕ) (f : ℕ → ℕ → A) (x y : ℕ) (d : A) → x < a → y < b x → get_or (get_or (rows a b f) x []) y d ≡ f x y
  rows_at a b f x y d h k = ap (λ (l : List A). get_or l y d) (rows_row a b f x h) ∙ listed_at (b x) (f x) y d k
