-- A function's callers, word by word of their row. Assumes nothing.
use mathlib.Core.Bool.{Bool as 𝔹, true, false}
use mathlib.Core.Path.{◌≡◌, refl, sym, ap, ap₂, ◌∙◌}
use mathlib.Core.List.{List, [], ◌∷◌, ◌++◌}
use Prim.Native.Nat.{ℕ, zero, suc, ◌+◌, ◌*◌, ◌≤◌, ◌<◌}
use native.Mathlib.Omega.{arith}
use lib.ListN.{length, get_or}
use Rattle.ids.specs.Sets.{members_from}
use Rattle.ids.proofs.Walk.{no_members}
use Rattle.rules.specs.Lists.{cons_if}
use Rattle.rules.specs.Machine.{marked}
use Rattle.rules.proofs.Exactness.Flows.{row_in}
use Rattle.memory.specs.tables.Bits.{RowWord}
use Rattle.memory.proofs.tables.Listed.{listed-length, rows_row}
use Rattle.memory.proofs.tables.Words.{from, from_end, from_at, from_row}
use Rattle.state.specs.declared.Sizes.{Sizes}
use Rattle.state.specs.View.{called_of}
use Rattle.state.specs.Changes.{marks_from}
use Rattle.flows.specs.Left.{callers_in}

-- ---- a function's callers

abbrev pub All : (ℕ → Type 0) → List ℕ → Type 0
All f [] = Unit
All f (i ∷ l) = f i × All f l

module _ (row : List 𝔹) where
  abbrev Set-in : ℕ → Type 0
  Set-in i = get_or row i false ≡ true

  pub all_in : (n k : ℕ) → length row ≤ k + n → All Set-in (from row k)
  all_in zero k h = rw (from_end row k (omega arith)) tt
  all_in (suc n) k h = rw (from_at row k) (go (get_or row k false) refl (all_in n (suc k) (omega arith)))
    where
      go : (b : 𝔹) → get_or row k false ≡ b → All Set-in (from row (suc k)) → All Set-in (cons_if b k (from row (suc k)))
      go true e r = (e, r)
      go false e r = r

pub row-length : (z : Sizes) (w : List ℕ) (f : ℕ) → f < z.functions → length (get_or (called_of z w) f []) ≡ z.insns
unfolding called_of
row-length z w f h = ap length (rows_row z.functions (λ _. z.insns) _ f h) ∙ listed-length z.insns _

pub caller_below : (z : Sizes) (w : List ℕ) (f i : ℕ) → f < z.functions → marked (called_of z w) f i ≡ true → i < z.insns
caller_below z w f i lt h = let e = row-length z w f lt in omega (arith, row_in (get_or (called_of z w) f []) i h)

-- ---- the walk

module _ (t : List (List 𝔹)) (f k : ℕ) {v : ℕ} where
  pub word_start : RowWord (get_or t f []) k v → callers_in t f k v ≡ marks_from t f (k * 64)
  unfolding marks_from
  word_start h = sym (from_row (get_or t f []) k v h)

  pub word_none : v ≡ 0 → callers_in t f k v ≡ marks_from t f ((k + 1) * 64)
  word_none e =
      ap₂ (λ (x : ℕ) (y : ℕ). members_from 64 (k * 64) x ++ marks_from t f y) e (omega arith) ∙ ap (λ (l : List ℕ). l ++ marks_from t f ((k + 1) * 64)) (no_members 64 (k * 64))

pub word_next : (t : List (List 𝔹)) (f k : ℕ) {v x : ℕ} → v ≡ 0 → RowWord (get_or t f []) (k + 1) x → callers_in t f k v ≡ callers_in t f (k + 1) x
word_next t f k e h = word_none t f k e ∙ sym (word_start t f (k + 1) h)

pub words_end : (z : Sizes) (w : List ℕ) (f k : ℕ) {v : ℕ} → f < z.functions → v ≡ 0 → z.insns ≤ (k + 1) * 64 → callers_in (called_of z w) f k v ≡ []
unfolding marks_from
words_end z w f k lt e le = word_none (called_of z w) f k e ∙ from_end (get_or (called_of z w) f []) ((k + 1) * 64) (let n = row-length z w f lt in omega arith)
