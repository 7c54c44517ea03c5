-- What each way through the functions shows, on plain values. Assumes nothing.
use mathlib.Core.Bool.{Bool as 𝔹, true, false}
use mathlib.Core.Path.{◌≡◌, refl, sym, ap, ◌∙◌}
use mathlib.Core.List.{List, ◌∷◌}
use Prim.Native.Nat.{ℕ, suc, ◌+◌, ◌-◌, ◌*◌, ◌≤◌, ◌<◌}
use native.Mathlib.Decide.{ℕ_discrete}
use native.Mathlib.Omega.{arith}
use borrow.Author.Tests.{eq-eqb, ne_eqb}
use lib.ListN.{length, get_or, set, length-set}
use lib.Seq.{get_or-set_same, get_or-set_other}
use Rattle.std.specs.Prelude.{Option, Some, None, cond, []}
use Rattle.std.specs.Bool.{then_some}
use Rattle.rules.specs.Lists.{cons_if}
use Rattle.chains.specs.declared.Sort.{Sort}
use Rattle.chains.specs.declared.Sort.TheVariants.{Code, Params, Returns}
use Rattle.program.specs.Rows.{insn_at, block_at}
use Rattle.program.specs.View.{program_view, blocks_of, ReadsBlock}
use Rattle.program.proofs.Tables.{tab-at}
use Rattle.rules.specs.Program as P
use Rattle.program.specs.declared.Counts.{Counts}
use Rattle.program.specs.declared.Row.{Row}
use Rattle.memory.specs.Layout.{instructions_most, blocks_room}
use Rattle.chains.specs.Layout.{sort_words, chains_size}
use Rattle.chains.specs.Chains.{is_param, is_return, key_of, is_key, belongs, place_of, pick, ChainsChained, at, self, ChainsOnly, ChainsFilled, ChainsHeld}
use Rattle.chains.proofs.Lists.{pick_down, pick_end, chained_below, chained_end, chained_more, chained_same}

-- ---- keys

pub block-is : (s m : List ℕ) (c : Counts) (b : ℕ) → b < c.blocks → P.function_at (program_view s m c) b ≡ block_at m b
unfolding blocks_of
block-is s m c b h = tab-at (block_at m) c.blocks b 0 h

module _ (m : List ℕ) (i : ℕ) {r : Row} (e : r ≡ insn_at m i) {sort : Sort} where
  pub key_code : sort ≡ Code → Some r.block.0 ≡ key_of m (place_of sort) i
  unfolding key_of
  key_code h = rw h (ap (λ (x : Row). Some x.block.0) e)

  pub key_params : sort ≡ Params → {t : 𝔹} → t ≡ is_param r.op → then_some t r.block.0 ≡ key_of m (place_of sort) i
  unfolding key_of
  key_params h {t} q = rw (h, sym (ap (λ (x : Row). is_param x.op) e), sym q, sym (ap (λ (x : Row). x.block.0) e)) (some_if t)
    where
      some_if : (t : 𝔹) → then_some t r.block.0 ≡ cond t (Some r.block.0) None
      some_if true = refl
      some_if false = refl

  pub key_return : sort ≡ Returns → {t : 𝔹} → t ≡ is_return r.op → t ≡ true → Some (block_at m r.block.0) ≡ key_of m (place_of sort) i
  unfolding key_of
  key_return h q y = rw (h, sym (ap (λ (x : Row). is_return x.op) e), sym q, y) (ap (λ (x : Row). Some (block_at m x.block.0)) e)

  -- by the function that is read of its block
  pub key_read : {c : Counts} {f : ℕ} → sort ≡ Returns → ReadsBlock m c r.block.0 f → r.block.0 < c.blocks → {t : 𝔹} → t ≡ is_return r.op → t ≡ true
      → Some f ≡ key_of m (place_of sort) i
  key_read {c} h d g q y = ap Some (sym (d.is []) ∙ block-is [] m c r.block.0 g) ∙ key_return h q y

  pub key_no_return : sort ≡ Returns → {t : 𝔹} → t ≡ is_return r.op → t ≡ false → None ≡ key_of m (place_of sort) i
  unfolding key_of
  key_no_return h q y = rw (h, sym (ap (λ (x : Row). is_return x.op) e), sym q, y) refl

-- ---- chains

pub place_low : (s : Sort) → place_of s < 3
place_low Code = omega arith
place_low Params = omega arith
place_low Returns = omega arith

pub record Chaining (m : List ℕ) (n sort : ℕ) (w₀ w : List ℕ) (i : ℕ) : Type 0 where
  pub high : i ≤ n
  pub only : ChainsOnly (sort_words * sort) sort_words w₀ w
  pub held : ChainsHeld m n sort i w

pub chain_start : (m : List ℕ) (n sort : ℕ) (v w : List ℕ) → ChainsFilled (sort_words * sort) blocks_room n v w → Chaining m n sort w w n
chain_start m n sort v w f =
    record {
      high = omega arith;
      only = record { len_same = refl; others = λ k g. refl };
      held = λ b h. rw (f.here b h, pick_end (belongs m sort b) n) (chained_end self (at w (sort_words * sort + blocks_room)) n n);
    }

module _ {m : List ℕ} {n sort : ℕ} {w₀ w : List ℕ} {i : ℕ} (z : Chaining m n sort w₀ w i) where
  module _ (h : 0 < i) where
    picked : (o : Option ℕ) → o ≡ key_of m sort (i - 1) → (b : ℕ)
        → pick (belongs m sort b) (i - 1) (n - (i - 1)) ≡ cons_if (is_key o b) (i - 1) (pick (belongs m sort b) i (n - i))
    picked o key b = rw key (pick_down (belongs m sort b) i n h z.high)

    skip : (o : Option ℕ) → o ≡ key_of m sort (i - 1) → ((b : ℕ) → b < blocks_room → is_key o b ≡ false) → Chaining m n sort w₀ w (i - 1)
    skip o key other =
        record {
          high = omega (arith, z.high);
          only = z.only;
          held = λ b l. rw (picked o key b, other b l) (chained_below self (at w (sort_words * sort + blocks_room)) n i (i - 1) _ _ (omega arith) (z.held b l));
        }

    pub chain_none : None ≡ key_of m sort (i - 1) → Chaining m n sort w₀ w (i - 1)
    chain_none key = skip None key (λ b l. refl)

    pub chain_skip : (k : ℕ) → Some k ≡ key_of m sort (i - 1) → blocks_room ≤ k → Chaining m n sort w₀ w (i - 1)
    chain_skip k key g = skip (Some k) key (λ b l. ne_eqb k b (λ q. omega arith))

  module _ (h : 0 < i) (k : ℕ) (key : Some k ≡ key_of m sort (i - 1)) where
    module _ (room : chains_size ≤ length w₀) (few : n ≤ instructions_most) (good : sort < 3) (g : k < blocks_room) where
      abbrev w1 : List ℕ
      w1 = set w (sort_words * sort + blocks_room + (i - 1)) (get_or w (sort_words * sort + k) 0)

      abbrev w2 : List ℕ
      w2 = set w1 (sort_words * sort + k) (i - 1)

      linked : (j : ℕ) → j < instructions_most → get_or w2 (sort_words * sort + blocks_room + j) 0 ≡ get_or w1 (sort_words * sort + blocks_room + j) 0
      linked j l = get_or-set_other w1 (sort_words * sort + k) (sort_words * sort + blocks_room + j) (i - 1) 0 (λ q. omega arith)

      -- the cells behind the new one stay
      stays : (x : ℕ) (l : List ℕ) → ChainsChained self (at w (sort_words * sort + blocks_room)) n i x l → ChainsChained self (at w2 (sort_words * sort + blocks_room)) n i x l
      stays x l d =
          chained_same self (at w (sort_words * sort + blocks_room)) self (at w2 (sort_words * sort + blocks_room)) n i i x l (omega arith)
          (λ j p q. (
            refl,
            linked j (omega arith) ∙ get_or-set_other w (sort_words * sort + blocks_room + (i - 1)) (sort_words * sort + blocks_room + j)
                (get_or w (sort_words * sort + k) 0) 0 (λ y. omega arith),
          )) d

      inside : length w1 ≡ length w₀
      inside = length-set w (sort_words * sort + blocks_room + (i - 1)) (get_or w (sort_words * sort + k) 0) ∙ z.only.len_same

      own : ChainsChained self (at w2 (sort_words * sort + blocks_room)) n (i - 1) (get_or w2 (sort_words * sort + k) 0) ((i - 1) ∷ pick (belongs m sort k) i (n - i))
      own =
          let p : suc (i - 1) ≡ i = omega arith in
          rw (get_or-set_same w1 (sort_words * sort + k) (i - 1) 0 (omega (arith, inside)))
          (chained_more self (at w2 (sort_words * sort + blocks_room)) n (i - 1) (i - 1) _ (omega (arith, z.high)) refl
          (rw (p, linked (i - 1) (omega (arith, z.high)), get_or-set_same w (sort_words * sort + blocks_room + (i - 1)) (get_or w (sort_words * sort + k) 0) 0 (omega (arith, z.high, z.only.len_same)))
          (stays _ _ (z.held k g))))

      other : (b : ℕ) → b < blocks_room → (k ≡ b → ⊥) → ChainsChained self (at w2 (sort_words * sort + blocks_room)) n (i - 1)
          (get_or w2 (sort_words * sort + b) 0) (pick (belongs m sort b) i (n - i))
      other b l ne =
          rw (
            get_or-set_other w1 (sort_words * sort + k) (sort_words * sort + b) (i - 1) 0 (λ q. ne (omega arith)),
            get_or-set_other w (sort_words * sort + blocks_room + (i - 1)) (sort_words * sort + b) (get_or w (sort_words * sort + k) 0) 0 (λ q. omega arith),
          )
          (chained_below self (at w2 (sort_words * sort + blocks_room)) n i (i - 1) _ _ (omega arith) (stays _ _ (z.held b l)))

      pub chain_more : Chaining m n sort w₀ w2 (i - 1)
      chain_more =
          record {
            high = omega (arith, z.high);
            only = record {
              len_same = length-set w1 (sort_words * sort + k) (i - 1) ∙ inside;
              others = λ x y.
                  get_or-set_other w1 (sort_words * sort + k) x (i - 1) 0 (λ q. y (omega arith) (omega arith))
                  ∙ (get_or-set_other w (sort_words * sort + blocks_room + (i - 1)) x (get_or w (sort_words * sort + k) 0) 0 (λ q. y (omega arith) (omega (arith, z.high))) ∙ z.only.others x y);
            };
            held = λ b l.
                elim (ℕ_discrete k b) [
                  | yes q ↦ rw (picked h (Some k) key b, eq-eqb k b q, ← q) own
                  | no q ↦ rw (picked h (Some k) key b, ne_eqb k b q) (other b l q)
                ];
          }
