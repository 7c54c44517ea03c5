-- Lists by their elements. Assumes nothing.
use mathlib.Core.Path.{◌≡◌, refl, sym, ap, ap₂, ◌∙◌}
use mathlib.Core.List.{List, [], ◌∷◌, ◌++◌}
use Prim.Native.Nat.{ℕ, zero, suc, ◌+◌, ◌≤◌, ◌<◌}
use native.Mathlib.Nat.{not-suc-le-zero}
use native.Mathlib.Numerals.{add-one}
use native.Mathlib.Omega.{arith}
use native.Mathlib.Decide.{ℕ_discrete}
use lib.ListN.{length, get_or, set, take, length-append, get_or-append}
use lib.Seq.{get_or_at, set_at, set-append_left, take-append-le}
use Rattle.program.specs.Tab.{tab}

module _ {A : Type 0} where
  pub tab-length : (f : ℕ → A) (n : ℕ) → length (tab f n) ≡ n
  unfolding tab
  tab-length f zero = refl
  tab-length f (suc n) = rw (length-append, tab-length f n) (omega arith)

  pub tab-more : (f : ℕ → A) (n : ℕ) → tab f (n + 1) ≡ tab f n ++ f n ∷ []
  unfolding tab
  tab-more f n = rw add-one

  pub tab_ext : (f g : ℕ → A) (n : ℕ) → ((i : ℕ) → i < n → f i ≡ g i) → tab f n ≡ tab g n
  unfolding tab
  tab_ext f g zero h = refl
  tab_ext f g (suc n) h = ap₂ {C = List A} (λ l x. l ++ x ∷ []) (tab_ext f g n (λ i k. h i (omega arith))) (h n (omega arith))

  pub tab-at : (f : ℕ → A) (n i : ℕ) (d : A) → i < n → get_or (tab f n) i d ≡ f i
  unfolding tab
  tab-at f zero i d h = absurd (not-suc-le-zero h)
  tab-at f (suc n) i d h =
      elim (ℕ_discrete i n) [
        | yes e ↦ rw e (get_or_at (tab f n) (f n) [] d n (tab-length f n))
        | no e ↦ get_or-append (tab f n) (f n ∷ []) d i (omega (arith, tab-length f n)) ∙ tab-at f n i d (omega arith)
      ]

  pub tab-add : (f : ℕ → A) (n k : ℕ) → tab f (n + k) ≡ tab f n ++ tab (λ j. f (n + j)) k
  unfolding tab
  tab-add f n zero = let e : n + 0 ≡ n = omega arith in rw (e, mathlib.Core.List.append-nil)
  tab-add f n (suc k) =
      let e : n + suc k ≡ suc (n + k) = omega arith in
      rw e (rw (tab-add f n k) (mathlib.Core.List.append_assoc (tab f n) (tab (λ j. f (n + j)) k) (f (n + k) ∷ [])))

  -- the first k of them
  pub tab-take : (f : ℕ → A) (n k : ℕ) → k ≤ n → take k (tab f n) ≡ tab f k
  unfolding tab
  tab-take f zero k h = let e : k ≡ 0 = omega arith in rw e
  tab-take f (suc n) k h =
      elim (ℕ_discrete k (suc n)) [
        | yes e ↦ rw e (lib.Seq.take_all (suc n) (tab f n ++ f n ∷ []) (omega (arith, length-append (tab f n) (f n ∷ []), tab-length f n)))
        | no e ↦ take-append-le k (tab f n) (f n ∷ []) (omega (arith, tab-length f n)) ∙ tab-take f n k (omega arith)
      ]

  -- one of them changed
  pub tab-set : (f g : ℕ → A) (n k : ℕ) → k < n → ((i : ℕ) → i < n → (i ≡ k → ⊥) → g i ≡ f i) → tab g n ≡ set (tab f n) k (g k)
  unfolding tab
  tab-set f g zero k h e = absurd (not-suc-le-zero h)
  tab-set f g (suc n) k h e =
      elim (ℕ_discrete k n) [
        | yes p ↦
            rw p
            (ap (λ (l : List A). l ++ g n ∷ []) (tab_ext g f n (λ i q. e i (omega arith) (λ z. omega arith)))
            ∙ sym (set_at (tab f n) (f n) [] (g n) n (tab-length f n)))
        | no p ↦
            ap₂ {C = List A} (λ l x. l ++ x ∷ []) (tab-set f g n k (omega arith) (λ i q z. e i (omega arith) z)) (e n (omega arith) (λ z. p (sym z)))
            ∙ sym (set-append_left (tab f n) (f n ∷ []) k (g k) (omega (arith, tab-length f n)))
      ]
