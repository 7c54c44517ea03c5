-- What the limits say of a program's numbers: under the built-in ones the bound, and so the count, fits 64 bits. Assumes nothing.
use Prim.Native.Nat.{ℕ, suc, ◌+◌, ◌*◌, ◌^◌, ◌≤◌, ◌<◌}
use native.Mathlib.Omega.{arith}
use native.Mathlib.Nat.{le_trans, mul-le-mul_right, mul-le-mul_left}
use mathlib.Core.Path.{◌≡◌}
use mathlib.Core.Bool.{Bool as 𝔹, true, false, ◌&&◌}
use mathlib.Core.List.{List, [], ◌∷◌}
use lib.ListN.{length}
use lib.Dec.{leb, lit<, lit≤}
use Rattle.rules.specs.Lists.{all, has, sum, cons_if, places_from, places}
use Rattle.rules.specs.Program.{Limits, limits, Op, Instruction, Class, Program, about, returned, listed_count}
use Rattle.rules.specs.Uses.{uses}
use Rattle.rules.specs.Bound.{number, use_count, bound_by, bound}
use Rattle.rules.specs.Finished.{within_limits, Finished}
use Rattle.rules.proofs.Exactness.Sums.{sum_bound}
use Rattle.rules.proofs.Exactness.Promise.{and_left, and_right, le_of, all_in}

pub record Within (L : Limits) (p : Program) : Type 0 where
  pub functions : length p.functions ≤ L.functions
  pub classes : length p.classes ≤ L.classes
  pub blocks : length p.blocks ≤ L.blocks
  pub instructions : length p.instructions ≤ L.instructions
  pub operands : listed_count p ≤ L.operands
  pub ivars : all (λ (c : Class). leb (length c.ivars) L.ivars) p.classes ≡ true

module _ (L : Limits) (p : Program) where
  pub within : within_limits p L ≡ true → Within L p
  unfolding within_limits
  within e =
      let a = and_left (f && c && b && i && o) v e in
      let a₁ = and_left (f && c && b && i) o a in
      let a₂ = and_left (f && c && b) i a₁ in
      let a₃ = and_left (f && c) b a₂ in
      record {
        functions = le_of _ _ (and_left f c a₃);
        classes = le_of _ _ (and_right f c a₃);
        blocks = le_of _ _ (and_right (f && c) b a₂);
        instructions = le_of _ _ (and_right (f && c && b) i a₁);
        operands = le_of _ _ (and_right (f && c && b && i) o a);
        ivars = and_right (f && c && b && i && o) v e;
      }
    where
      f : 𝔹
      f = leb (length p.functions) L.functions

      c : 𝔹
      c = leb (length p.classes) L.classes

      b : 𝔹
      b = leb (length p.blocks) L.blocks

      i : 𝔹
      i = leb (length p.instructions) L.instructions

      o : 𝔹
      o = leb (listed_count p) L.operands

      v : 𝔹
      v = all (λ (c : Class). leb (length c.ivars) L.ivars) p.classes

  pub classes-few : within_limits p L ≡ true → length p.classes ≤ L.classes
  classes-few e = (within e).classes

-- ---- the bound

places-few : {A : Type 0} (f : A → 𝔹) (k : ℕ) (l : List A) → length (places_from k f l) ≤ length l
places-few f k [] = omega arith
places-few f k (x ∷ l) = go (f x) (places-few f (suc k) l)
  where
    go : (b : 𝔹) → length (places_from (suc k) f l) ≤ length l → length (cons_if b k (places_from (suc k) f l)) ≤ suc (length l)
    go true h = omega arith
    go false h = omega arith

mul_mono : (a b c d : ℕ) → a ≤ b → c ≤ d → a * c ≤ b * d
mul_mono a b c d h k = le_trans (mul-le-mul_right c h) (mul-le-mul_left b k)

module _ (p : Program) where
  uses_in : (i : ℕ) → length (uses p i) ≤ length p.instructions
  unfolding uses
  uses_in i = places-few _ 0 p.instructions

  number-few : (t : Op → 𝔹) → number p t ≤ length p.instructions
  number-few t = places-few (λ (x : Instruction). t x.op) 0 p.instructions

  uses-few : use_count p ≤ length p.instructions * length p.instructions
  uses-few = le_trans (sum_bound (λ i. length (uses p i)) (places (λ (x : Instruction). true) p.instructions) (length p.instructions) (λ i m. few i))
      (mul-le-mul_right (length p.instructions) (places-few (λ (x : Instruction). true) 0 p.instructions))
    where
      few : (i : ℕ) → length (uses p i) ≤ length p.instructions
      few i = uses_in i

  -- the formula grows with its numbers
  bound_mono : (N E S R G D P F h N' E' S' R' G' D' P' F' h' : ℕ) → N ≤ N' → E ≤ E' → S ≤ S' → R ≤ R' → G ≤ G' → D ≤ D' → P ≤ P' → F ≤ F' → h ≤ h' → bound_by p N E S R G D P F h ≤ bound_by p N' E' S' R' G' D' P' F' h'
  bound_mono N E S R G D P F h N' E' S' R' G' D' P' F' h' n e s r g d q f k =
      let hE = mul_mono h h' E E' k e in
      let SR = mul_mono (S * R) (S' * R') (1 + h) (1 + h') (mul_mono S S' R R' s r) (omega arith) in
      let GD = mul_mono (G * D) (G' * D') h h' (mul_mono G G' D D' g d) k in
      let SF = mul_mono S S' F F' s f in
      add2 _ _ _ _ (mul_mono _ _ (1 + P) (1 + P') (times _ _ _ (add4 _ _ _ _ _ _ _ _ n hE SR GD)) (omega arith)) SF
    where
      add2 : (a b c d : ℕ) → a ≤ b → c ≤ d → a + c ≤ b + d
      add2 a b c d h k = omega arith

      add4 : (a b c d w x y z : ℕ) → a ≤ w → b ≤ x → c ≤ y → d ≤ z → a + b + c + d ≤ w + x + y + z
      add4 a b c d w x y z h i j k = omega arith

      times : (k a b : ℕ) → a ≤ b → k * a ≤ k * b
      times k a b h = mul_mono k k a b (omega arith) h

  -- under limits that are none above the built-in ones it fits 63 bits
  pub bound-small : (L : Limits) → Finished L p → L.functions ≤ 128 → L.classes ≤ 64 → L.instructions ≤ 2048 → L.ivars ≤ 64 → bound p < 2 ^ 63
  unfolding bound
  bound-small L R hf hc hi ha =
      let w = within L p R.limits in
      let i = le_trans w.instructions hi in
      let n : (t : Op → 𝔹) → number p t ≤ 2048 = λ t. le_trans (number-few t) i in
      let d : sum (λ (c : Class). length c.ivars) p.classes ≤ 64 * 64 =
      le_trans (sum_bound (λ (c : Class). length c.ivars) p.classes 64 (λ c m. le_trans (le_of (length c.ivars) L.ivars (all_in (λ (c : Class). leb (length c.ivars) L.ivars) p.classes w.ivars m)) ha)) (mul-le-mul_right 64 (le_trans w.classes hc)) in
      le_trans (below _ _ (bound_mono _ _ _ _ _ _ _ _ _ 2048 (2048 * 2048) 2048 2048 2048 (64 * 64) 2048 128 66
      i (le_trans uses-few (mul_mono _ 2048 _ 2048 i i)) (n (λ o. has (about o).callee)) (n (λ o. has (returned o))) (n (λ o. has (about o).gets)) d (n (λ o. has (about o).place)) (le_trans w.functions hf) (two (le_trans w.classes hc)))) (lit< tt)
    where
      below : (a b : ℕ) → a ≤ b → suc a ≤ suc b
      below a b h = omega arith

      two : length p.classes ≤ 64 → length p.classes + 2 ≤ 66
      two h = omega arith

  pub bound-fits : Finished limits p → bound p < 2 ^ 64
  bound-fits R = le_trans (bound-small limits R (lit≤ tt) (lit≤ tt) (lit≤ tt) (lit≤ tt)) (lit≤ tt)
