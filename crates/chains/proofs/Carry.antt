-- Words copied, and an index carried to another memory by copying what is in use of it. Assumes nothing.
use mathlib.Core.Path.{◌≡◌, refl, sym, ap, ◌∙◌}
use mathlib.Core.List.{List}
use Prim.Native.Nat.{ℕ, ◌+◌, ◌*◌, ◌≤◌, ◌<◌}
use native.Mathlib.Omega.{arith}
use native.Mathlib.Decide.{ℕ_discrete}
use lib.ListN.{length, get_or, set, drop, length-set, length-drop}
use lib.Seq.{get_or-set_same, get_or-set_other, get_or-drop}
use Rattle.program.specs.declared.Counts.{Counts}
use Rattle.memory.specs.Layout.{instructions_most, blocks_room}
use Rattle.chains.specs.Layout.{sort_words, returns_at, chains_size}
use Rattle.chains.specs.Chains.{at, self, ChainsOnly, Copied, ChainIs, Carried}
use Rattle.chains.proofs.Lists.{chained_same}

-- ---- words copied

pub record Copying (base a n : ℕ) (w t₀ t : List ℕ) (i : ℕ) : Type 0 where
  pub high : i ≤ n
  pub only : ChainsOnly (base + a) n t₀ t
  pub here : (k : ℕ) → k < i → get_or t (base + (a + k)) 0 ≡ get_or w (a + k) 0

pub copy_start : (base a n : ℕ) (w t : List ℕ) → Copying base a n w t t 0
copy_start base a n w t = record { high = omega arith; only = record { len_same = refl; others = λ k h. refl }; here = λ k h. absurd (omega arith) }

module _ {base a n : ℕ} {w t₀ t : List ℕ} {i : ℕ} (z : Copying base a n w t₀ t i) where
  pub copy_more : base + (a + n) ≤ length t₀ → i < n → Copying base a n w t₀ (set t (base + (a + i)) (get_or w (a + i) 0)) (i + 1)
  copy_more r h =
      record {
        high = omega arith;
        only = record {
          len_same = length-set t (base + (a + i)) (get_or w (a + i) 0) ∙ z.only.len_same;
          others = λ k g. get_or-set_other t (base + (a + i)) k (get_or w (a + i) 0) 0 (λ q. g (omega arith) (omega arith)) ∙ z.only.others k g;
        };
        here = λ k g.
            elim (ℕ_discrete k i) [
              | yes q ↦ rw q (get_or-set_same t (base + (a + i)) (get_or w (a + i) 0) 0 (omega (arith, z.only.len_same)))
              | no q ↦ get_or-set_other t (base + (a + i)) (base + (a + k)) (get_or w (a + i) 0) 0 (λ x. q (omega arith)) ∙ z.here k (omega arith)
            ];
      }

  pub copy_done : n ≤ i → Copied base a n w t₀ t
  copy_done h = record { only = z.only; here = λ k g. z.here k (omega arith) }

-- ---- an index carried

-- a chain reads no word but those in use
chain_carried : (w w' : List ℕ) (n sort b : ℕ) (l : List ℕ) → b < blocks_room
    → ((j : ℕ) → j < blocks_room + n → get_or w' (sort_words * sort + j) 0 ≡ get_or w (sort_words * sort + j) 0) → ChainIs w n sort b l
    → ChainIs w' n sort b l
chain_carried w w' n sort b l h e d =
    rw (e b (omega arith))
    (chained_same self (at w (sort_words * sort + blocks_room)) self (at w' (sort_words * sort + blocks_room)) n 0 0 (get_or w (sort_words * sort + b) 0) l (omega arith)
    (λ i g k.
    let q : sort_words * sort + blocks_room + i ≡ sort_words * sort + (blocks_room + i) = omega arith in
    (refl, ap (λ (j : ℕ). get_or w' j 0) q ∙ e (blocks_room + i) (omega arith) ∙ sym (ap (λ (j : ℕ). get_or w j 0) q)))
    d)

module _ (c : Counts) {base : ℕ} {w t t₁ t₂ t₃ : List ℕ} {n : ℕ} (few : c.insns ≤ instructions_most) (e : n ≡ blocks_room + c.insns)
    (x : Copied base 0 n w t t₁) (y : Copied base sort_words n w t₁ t₂) (z : Copied base returns_at n w t₂ t₃) where
  long : length t₃ ≡ length t
  long = z.only.len_same ∙ y.only.len_same ∙ x.only.len_same

  first : (j : ℕ) → j < blocks_room + c.insns → get_or (drop base t₃) (sort_words * 0 + j) 0 ≡ get_or w (sort_words * 0 + j) 0
  first j h = get_or-drop base t₃ (0 + j) 0 ∙ z.only.others (base + (0 + j)) (λ a b. omega arith) ∙ y.only.others (base + (0 + j)) (λ a b. omega arith) ∙ x.here j (omega arith)

  second : (j : ℕ) → j < blocks_room + c.insns → get_or (drop base t₃) (sort_words * 1 + j) 0 ≡ get_or w (sort_words * 1 + j) 0
  second j h = get_or-drop base t₃ (sort_words + j) 0 ∙ z.only.others (base + (sort_words + j)) (λ a b. omega arith) ∙ y.here j (omega arith)

  third : (j : ℕ) → j < blocks_room + c.insns → get_or (drop base t₃) (sort_words * 2 + j) 0 ≡ get_or w (sort_words * 2 + j) 0
  third j h = get_or-drop base t₃ (returns_at + j) 0 ∙ z.here j (omega arith)

  pub index-carried : base + chains_size ≤ length t → Carried c base w t t₃
  index-carried room = record {
    only = record {
      len_same = long;
      others = λ k g. z.only.others k (λ a b. g (omega arith) (omega arith)) ∙ y.only.others k (λ a b. g (omega arith) (omega arith)) ∙ x.only.others k (λ a b. g (omega arith) (omega arith));
    };
    index = λ m i. record {
      len = let l = length-drop base t₃ in let o = long in omega arith;
      codes = λ s b h. chain_carried w (drop base t₃) c.insns 0 b _ h first (i.codes s b h);
      params = λ s f h k. chain_carried w (drop base t₃) c.insns 1 _ _ k second (i.params s f h k);
      returning = λ s f h. chain_carried w (drop base t₃) c.insns 2 f _ h third (i.returning s f h);
    };
  }
