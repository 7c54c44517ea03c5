-- Entries, bindings and rows of a memory, and what a store does to them. Assumes nothing.
use Prim.Native.Nat.{ℕ, zero, suc, ◌+◌, ◌-◌, ◌≤◌, ◌<◌}
use mathlib.Core.Path.{◌≡◌, refl, ap, ◌∙◌}
use mathlib.Core.List.{List, [], ◌∷◌, ◌++◌}
use native.Mathlib.Omega.{arith}
use lib.ListN.{length, get_or, set, length-set}
use lib.Seq.{get_or-set_same, get_or-set_other}
use Rattle.variables.specs.Layout.{entries_most, variables_size}
use Rattle.variables.specs.Memory.{entry_of, entry, put, binding_in, made, vars, row, Kept}
use Rattle.variables.specs.Scopes.{over, env_of}
use Rattle.variables.proofs.scopes.Made.{over_append}

-- ---- a store

module _ (m : List ℕ) (i w x : ℕ) where
  pub put_is : (m' : List ℕ) → m' ≡ set (set m i w) (entries_most + i) x → m' ≡ put m i w x
  unfolding put
  put_is m' e = e

  pub put-length : length (put m i w x) ≡ length m
  unfolding put
  put-length = simp length-set

  pub put_this : variables_size ≤ length m → i < entries_most → entry (put m i w x) i ≡ entry_of w x
  unfolding entry put
  put_this h l =
      let a : get_or (set (set m i w) (entries_most + i) x) i 0 ≡ w = get_or-set_other (set m i w) (entries_most + i) i x 0 (λ z. omega arith) ∙ get_or-set_same m i w 0 (omega arith) in
      let b : get_or (set (set m i w) (entries_most + i) x) (entries_most + i) 0 ≡ x = get_or-set_same (set m i w) (entries_most + i) x 0 (omega (arith, length-set m i w)) in
      rw (a, b)

  pub put_other : (j : ℕ) → i < entries_most → j < entries_most → (j ≡ i → ⊥) → entry (put m i w x) j ≡ entry m j
  unfolding entry put
  put_other j l g n =
      let a : get_or (set (set m i w) (entries_most + i) x) j 0 ≡ get_or m j 0
      = get_or-set_other (set m i w) (entries_most + i) j x 0 (λ z. omega arith) ∙ get_or-set_other m i j w 0 n in
      let b : get_or (set (set m i w) (entries_most + i) x) (entries_most + j) 0 ≡ get_or m (entries_most + j) 0
      = get_or-set_other (set m i w) (entries_most + i) (entries_most + j) x 0 (λ z. n (omega arith)) ∙ get_or-set_other m i (entries_most + j) w 0 (λ z. omega arith) in
      rw (a, b)

  pub put-beyond : i < entries_most → (k : ℕ) → variables_size ≤ k → get_or (put m i w x) k 0 ≡ get_or m k 0
  unfolding put
  put-beyond l k h = get_or-set_other (set m i w) (entries_most + i) k x 0 (λ z. omega arith) ∙ get_or-set_other m i k w 0 (λ z. omega arith)

-- ---- what is kept

pub kept-all : (lo hi : ℕ) (m : List ℕ) → Kept lo hi m m
kept-all lo hi m = record { same = λ i a b. refl; beyond = λ k a. refl }

pub kept_trans : {lo hi : ℕ} {m m' m'' : List ℕ} → Kept lo hi m m' → Kept lo hi m' m'' → Kept lo hi m m''
kept_trans f g = record { same = λ i a b. g.same i a b ∙ f.same i a b; beyond = λ k a. g.beyond k a ∙ f.beyond k a }

pub kept-part : (lo hi lo' hi' : ℕ) (m m' : List ℕ) → lo ≤ lo' → hi' ≤ hi → Kept lo hi m m' → Kept lo' hi' m m'
kept-part lo hi lo' hi' m m' a b f = record { same = λ i p q. f.same i (omega arith) (omega arith); beyond = f.beyond }

-- a store outside
pub kept_put : (lo hi : ℕ) (m : List ℕ) (i w x : ℕ) → i < entries_most → hi ≤ entries_most → ((j : ℕ) → lo ≤ j → j < hi → j ≡ i → ⊥) → Kept lo hi m (put m i w x)
kept_put lo hi m i w x l g n = record { same = λ j p q. put_other m i w x j l (omega arith) (n j p q); beyond = put-beyond m i w x l }

-- ---- bindings and rows of equal entries

pub made_move : (s m m' : List ℕ) (lo lo' n : ℕ) → ((i : ℕ) → i < n → entry m' (lo' + i) ≡ entry m (lo + i)) → made s m' lo' n ≡ made s m lo n
unfolding made
made_move s m m' lo lo' zero h = refl
made_move s m m' lo lo' (suc n) h = rw (h n (omega arith), made_move s m m' lo lo' n (λ i l. h i (omega arith)))

pub made_kept : (s m m' : List ℕ) (lo n a b : ℕ) → Kept a b m m' → a ≤ lo → lo + n ≤ b → made s m' lo n ≡ made s m lo n
made_kept s m m' lo n a b k p q = made_move s m m' lo lo n (λ i l. k.same (lo + i) (omega arith) (omega arith))

pub row_move : (s m m' : List ℕ) (lo lo' n : ℕ) → ((i : ℕ) → i < n → entry m' (lo' + i) ≡ entry m (lo + i)) → row s m' lo' n ≡ row s m lo n
unfolding row
row_move s m m' lo lo' zero h = refl
row_move s m m' lo lo' (suc n) h =
    let a : lo + 0 ≡ lo = omega arith in
    let b : lo' + 0 ≡ lo' = omega arith in
    let e : entry m' lo' ≡ entry m lo = rw (a, b) at (h 0 (omega arith)) in
    rw (
      e,
      row_move s m m' (lo + 1) (lo' + 1) n (λ i l.
          let c : (lo + 1) + i ≡ lo + (i + 1) = omega arith in
          let d : (lo' + 1) + i ≡ lo' + (i + 1) = omega arith in
          rw (c, d) (h (i + 1) (omega arith))),
    )

pub row_kept : (s m m' : List ℕ) (lo n a b : ℕ) → Kept a b m m' → a ≤ lo → lo + n ≤ b → row s m' lo n ≡ row s m lo n
row_kept s m m' lo n a b k p q = row_move s m m' lo lo n (λ i l. k.same (lo + i) (omega arith) (omega arith))

pub row_split : (s m : List ℕ) (lo n k : ℕ) → row s m lo (n + k) ≡ row s m lo n ++ row s m (lo + n) k
unfolding row
row_split s m lo zero k =
    let a : 0 + k ≡ k = omega arith in
    let b : lo + 0 ≡ lo = omega arith in
    rw (a, b)
row_split s m lo (suc n) k =
    let a : suc n + k ≡ suc (n + k) = omega arith in
    let b : lo + suc n ≡ (lo + 1) + n = omega arith in
    rw (a, b) (ap (λ l. binding_in s (entry m lo) ∷ l) (row_split s m (lo + 1) n k))

-- a row by its first entry
pub row_first : (s m : List ℕ) (lo n : ℕ) → 0 < n → row s m lo n ≡ binding_in s (entry m lo) ∷ row s m (lo + 1) (n - 1)
unfolding row
row_first s m lo zero h = absurd (omega arith)
row_first s m lo (suc n) h = let e : suc n - 1 ≡ n = omega arith in rw e

-- a row cut at i
pub cut : (s m : List ℕ) (lo n i : ℕ) → i ≤ n → row s m lo n ≡ row s m lo i ++ row s m (lo + i) (n - i)
cut s m lo n i h = let e : n ≡ i + (n - i) = omega arith in ap (row s m lo) e ∙ row_split s m lo i (n - i)

pub made_split : (s m : List ℕ) (lo n k : ℕ) → made s m lo (n + k) ≡ made s m (lo + n) k ++ made s m lo n
unfolding made
made_split s m lo n zero = let a : n + 0 ≡ n = omega arith in rw a
made_split s m lo n (suc k) =
    let a : n + suc k ≡ suc (n + k) = omega arith in
    let b : lo + (n + k) ≡ (lo + n) + k = omega arith in
    rw (a, b) (ap (λ l. binding_in s (entry m ((lo + n) + k)) ∷ l) (made_split s m lo n k))

-- the bindings from mark on, over the older
pub vars_split : (s m : List ℕ) (mark n : ℕ) → mark ≤ n → vars s m n ≡ over (made s m mark (n - mark)) (vars s m mark)
vars_split s m mark n h =
    let e : n ≡ mark + (n - mark) = omega arith in
    let z : 0 + mark ≡ mark = omega arith in
    ap (λ k. vars s m k) e ∙ (ap env_of (rw z at (made_split s m 0 mark (n - mark))) ∙ over_append (made s m mark (n - mark)) (made s m 0 mark) [])

pub vars-kept : (s m m' : List ℕ) (n a b : ℕ) → Kept a b m m' → a ≤ 0 → n ≤ b → vars s m' n ≡ vars s m n
vars-kept s m m' n a b k p q = ap env_of (made_kept s m m' 0 n a b k p (omega arith))
