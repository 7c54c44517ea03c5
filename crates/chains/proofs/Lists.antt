-- Laws on picked numbers and chains. Assumes nothing.
use mathlib.Core.Bool.{Bool as 𝔹, true, false, ◌&&◌}
use mathlib.Core.Path.{◌≡◌, refl, sym, ap, ap₂, ◌∙◌, subst}
use mathlib.Core.List.{List, [], ◌∷◌}
use Prim.Native.Nat.{ℕ, zero, suc, ◌+◌, ◌-◌, ◌≤◌, ◌<◌}
use native.Mathlib.Omega.{arith}
use borrow.Author.Tests.{lt-ltb, le-ltb}
use Rattle.rules.specs.Lists.{cons_if, keep, places_from, places}
use Rattle.program.specs.Tab.{tab}
use Rattle.program.proofs.Tables.{tab_ext, tab-add}
use Rattle.chains.specs.Chains.{pick, ChainsChained, cells_from, self}

-- ---- picked numbers

module _ (t : ℕ → 𝔹) where
  pub pick-suc : (k f : ℕ) → pick t k (suc f) ≡ cons_if (t k) k (pick t (suc k) f)
  unfolding pick
  pick-suc k f = refl

  -- one more in front, by the places where the count stands
  pub pick_down : (i n : ℕ) → 0 < i → i ≤ n → pick t (i - 1) (n - (i - 1)) ≡ cons_if (t (i - 1)) (i - 1) (pick t i (n - i))
  pick_down i n h g =
      let a : n - (i - 1) ≡ suc (n - i) = omega arith in
      let b : suc (i - 1) ≡ i = omega arith in
      ap (pick t (i - 1)) a ∙ (pick-suc (i - 1) (n - i) ∙ ap (λ k. cons_if (t (i - 1)) (i - 1) (pick t k (n - i))) b)

  pub pick_end : (n : ℕ) → pick t n (n - n) ≡ []
  unfolding pick
  pick_end n = let e : n - n ≡ 0 = omega arith in rw e

pub pick_ext : (t u : ℕ → 𝔹) (k f : ℕ) → ((i : ℕ) → i < k + f → t i ≡ u i) → pick t k f ≡ pick u k f
unfolding pick
pick_ext t u k zero h = refl
pick_ext t u k (suc f) h = ap₂ {C = List ℕ} (λ a l. cons_if a k l) (h k (omega arith)) (pick_ext t u (suc k) f (λ i g. h i (omega arith)))

keep-cons_if : (g : ℕ → 𝔹) (a : 𝔹) (k : ℕ) (l m : List ℕ) → keep g l ≡ m → keep g (cons_if a k l) ≡ cons_if (a && g k) k m
keep-cons_if g true k l m e = ap (cons_if (g k) k) e
keep-cons_if g false k l m e = e

pub keep-pick : (g t : ℕ → 𝔹) (k f : ℕ) → keep g (pick t k f) ≡ pick (λ i. t i && g i) k f
unfolding pick
keep-pick g t k zero = refl
keep-pick g t k (suc f) = keep-cons_if g (t k) k (pick t (suc k) f) (pick (λ i. t i && g i) (suc k) f) (keep-pick g t (suc k) f)

module _ {A : Type 0} where
  pub tab_cons : (f : ℕ → A) (n : ℕ) → tab f (suc n) ≡ f 0 ∷ tab (λ j. f (suc j)) n
  unfolding tab
  tab_cons f n = let e : suc n ≡ 1 + n = omega arith in
      ap (tab f) e
      ∙ (tab-add f 1 n ∙ ap (λ l. f 0 ∷ l) (tab_ext (λ j. f (1 + j)) (λ j. f (suc j)) n (λ i h. let z : 1 + i ≡ suc i = omega arith in ap f z)))

  places-from : (F : A → 𝔹) (g : ℕ → A) (k n : ℕ) → places_from k F (tab (λ j. g (k + j)) n) ≡ pick (λ i. F (g i)) k n
  unfolding tab pick
  places-from F g k zero = refl
  places-from F g k (suc n) =
      let z : k + 0 ≡ k = omega arith in
      ap (places_from k F) (tab_cons (λ j. g (k + j)) n)
      ∙ ap₂ {C = List ℕ} (λ x l. cons_if (F (g x)) k l) z
      (ap (places_from (suc k) F) (tab_ext (λ j. g (k + suc j)) (λ j. g (suc k + j)) n (λ i h. let y : k + suc i ≡ suc k + i = omega arith in ap g y))
      ∙ places-from F g (suc k) n)

  -- the places of a table's rows that pass
  pub places-tab : (F : A → 𝔹) (g : ℕ → A) (n : ℕ) → places F (tab g n) ≡ pick (λ i. F (g i)) 0 n
  places-tab F g n = ap (places_from 0 F) (tab_ext g (λ j. g (0 + j)) n (λ i h. let y : i ≡ 0 + i = omega arith in ap g y)) ∙ places-from F g 0 n

-- ---- chains

module _ (item link : ℕ → ℕ) (n : ℕ) where
  pub chained_below : (k k' h : ℕ) (l : List ℕ) → k' ≤ k → ChainsChained item link n k h l → ChainsChained item link n k' h l
  unfolding ChainsChained
  chained_below k k' h [] g d = d
  chained_below k k' h (x ∷ l) g d = (omega (arith, d.0), d.1, d.2, d.3)

  pub chained_end : (k : ℕ) → ChainsChained item link n k n []
  unfolding ChainsChained
  chained_end k = refl

  -- a cell in front
  pub chained_more : (h x : ℕ) (l : List ℕ) → h < n → x ≡ item h → ChainsChained item link n (suc h) (link h) l → ChainsChained item link n h h (x ∷ l)
  unfolding ChainsChained
  chained_more h x l g e d = (omega arith, g, e, d)

  pub chained_none : (k h : ℕ) (l : List ℕ) → ChainsChained item link n k h l → n ≤ h → l ≡ []
  unfolding ChainsChained
  chained_none k h [] d g = refl
  chained_none k h (x ∷ l) d g = absurd (omega (arith, d.1))

  -- the list has a first element, held by the first cell
  pub record Starts (h : ℕ) (l : List ℕ) : Type 0 where
    pub rest : List ℕ
    pub is : l ≡ item h ∷ rest
    pub onward : ChainsChained item link n (suc h) (link h) rest

  pub chained_some : (k h : ℕ) (l : List ℕ) → ChainsChained item link n k h l → h < n → Starts h l
  unfolding ChainsChained
  chained_some k h [] d g = absurd (omega arith)
  chained_some k h (x ∷ l) d g = record { rest = l; is = ap (λ z. z ∷ l) d.2; onward = d.3 }

  pub chained_low : (k h : ℕ) (l : List ℕ) → ChainsChained item link n k h l → k ≤ n → k ≤ h
  unfolding ChainsChained
  chained_low k h [] d g = omega arith
  chained_low k h (x ∷ l) d g = d.0

-- the cells from k on stay
pub chained_same : (item link item' link' : ℕ → ℕ) (n a k h : ℕ) (l : List ℕ) → a ≤ k
    → ((i : ℕ) → a ≤ i → i < n → (item' i ≡ item i) × (link' i ≡ link i)) → ChainsChained item link n k h l → ChainsChained item' link' n k h l
unfolding ChainsChained
chained_same item link item' link' n a k h [] g e d = d
chained_same item link item' link' n a k h (x ∷ l) g e d =
    let s = e h (omega (arith, d.0)) d.1 in (
      d.0,
      d.1,
      d.2 ∙ sym s.0,
      rw s.1 (chained_same item link item' link' n a (suc h) (link h) l (omega (arith, d.0)) e d.3),
    )

-- from its first cell on
pub chained_here : (item link : ℕ → ℕ) (n k h : ℕ) (l : List ℕ) → ChainsChained item link n k h l → ChainsChained item link n h h l
unfolding ChainsChained
chained_here item link n k h [] d = d
chained_here item link n k h (x ∷ l) d = (omega arith, d.1, d.2, d.3)

-- a chain of numbers is what its links lead to
pub cells_is : (link : ℕ → ℕ) (n f k h : ℕ) (l : List ℕ) → ChainsChained self link n k h l → n - k ≤ f → cells_from link n f h ≡ l
unfolding ChainsChained cells_from
cells_is link n zero k h [] d g = refl
cells_is link n (suc f) k h [] d g = rw (le-ltb h n (omega arith)) refl
cells_is link n zero k h (x ∷ l) d g = absurd (omega (arith, d.0, d.1))
cells_is link n (suc f) k h (x ∷ l) d g =
    rw (lt-ltb h n d.1) (ap₂ {C = List ℕ} (λ y z. y ∷ z) (sym d.2) (cells_is link n f (suc h) (link h) l d.3 (omega (arith, d.0, d.1))))

-- what is left at a cell: it, and what is left from its link on
pub cells_none : (link : ℕ → ℕ) (n f h : ℕ) → n ≤ h → cells_from link n f h ≡ []
unfolding cells_from
cells_none link n zero h g = refl
cells_none link n (suc f) h g = rw (le-ltb h n g) refl

module _ (link : ℕ → ℕ) (n h : ℕ) (g : h < n) (d : ChainsChained self link n h h (cells_from link n (n - h) h)) where
  onward : ChainsChained self link n (link h) (link h) (chained_some self link n h h _ d g).rest
  onward = chained_here self link n (suc h) (link h) _ (chained_some self link n h h _ d g).onward

  rest_is : cells_from link n (n - link h) (link h) ≡ (chained_some self link n h h _ d g).rest
  rest_is = cells_is link n (n - link h) (link h) (link h) _ onward (omega arith)

  pub cells_more : cells_from link n (n - h) h ≡ h ∷ cells_from link n (n - link h) (link h)
  cells_more = (chained_some self link n h h _ d g).is ∙ ap (λ l. h ∷ l) (sym rest_is)

  pub cells_held : ChainsChained self link n (link h) (link h) (cells_from link n (n - link h) (link h))
  cells_held = subst (λ l. ChainsChained self link n (link h) (link h) l) (sym rest_is) onward
