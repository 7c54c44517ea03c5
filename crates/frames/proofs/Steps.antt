-- What each step of a cursor writes: the laws of the functions `step_..`. Assumes nothing.
use mathlib.Core.Bool.{Bool as 𝔹}
use mathlib.Core.Path.{◌≡◌, sym, ap, ◌∙◌}
use mathlib.Core.List.{List, [], ◌∷◌, ◌++◌, append_assoc, append-nil}
use Prim.Native.Nat.{ℕ, zero, suc, ◌+◌, ◌-◌, ◌*◌, ◌/◌, ◌%◌, ◌^◌, ◌≤◌, ◌<◌}
use native.Mathlib.Nat.{div-eq_of_lt, div-lt_iff_lt-mul, pow-le-pow_right, one-le-pow}
use native.Mathlib.Decide.{dec_lt}
use native.Mathlib.Numerals.{add-one}
use native.Mathlib.Omega.{arith}
use Rattle.std.specs.Prelude.{Option, None, Some}
use lib.ListN.{length, take, drop, length-append, length-drop, drop_of_length-le}
use lib.Seq.{take_at, drop_at, drop-drop, take_all, length-take-le, take-append-add, drop-append-add}
use borrow.Rule.Slice.PartMut.{mid_of, put_mid}
use borrow.Author.Tests.{lt-ltb, le-ltb, ne_eqb}
use Rattle.ids.specs.declared.BlockId.{BlockId}
use Rattle.ids.specs.declared.FunId.{FunId}
use Rattle.ids.specs.declared.InsnId.{InsnId}
use Rattle.rules.specs.Lists.{concat}
use Rattle.rules.specs.Sorts.{of_caller}
use Rattle.rules.specs.Frames.{frame_line}
use Rattle.answer.specs.Image.{listed, functions_in, blocks_in, instructions_in, count_in, live_in, tag_in, payload_in, start_in, user_in, word_in, bits_in}
use Rattle.memory.specs.Layout.{functions_most, blocks_most, instructions_most, uses_most}
use Rattle.frames.specs.declared.NextFrame.{NextFrame}
use Rattle.frames.specs.declared.NextFrame.TheVariants.{Totals, Block, Instruction, Use, Caller}
use Rattle.frames.specs.declared.Frame.{Frame}
use Rattle.frames.specs.declared.Frame.TheVariants as F
use Rattle.frames.specs.Text.{
  totals_line,
  block_line,
  kind_line,
  use_line,
  caller_line,
  use_lines,
  caller_lines,
  from_caller,
  from_use,
  from_kind,
  from_block,
  frame_text,
  rest_at,
  left_at,
  line_most,
}
use Rattle.frames.specs.Text.{Wrote, Stepped, Gives}

-- ---- lists

module _ (g : ℕ → List ℕ) (i n : ℕ) where
  listed_more : i < n → concat (listed g i (n - i)) ≡ g i ++ concat (listed g (i + 1) (n - (i + 1)))
  listed_more h = let e : n - i ≡ suc (n - (i + 1)) = omega arith in rw (e, add-one)

  listed-none : n ≤ i → concat (listed g i (n - i)) ≡ []
  listed-none h = let e : n - i ≡ 0 = omega arith in rw e

-- numbers that have no text are left out
listed-skip : (g : ℕ → List ℕ) (k i n : ℕ) → ((m : ℕ) → i ≤ m → m < i + k → g m ≡ []) → concat (listed g i (n - i)) ≡ concat (listed g (i + k) (n - (i + k)))
listed-skip g zero i n h = let e : i + 0 ≡ i = omega arith in rw e
listed-skip g (suc k) i n h = go (dec_lt i n) (listed-skip g k (i + 1) n (λ m p q. h m (omega arith) (omega arith)))
  where
    go : Dec (i < n) → concat (listed g (i + 1) (n - (i + 1))) ≡ concat (listed g (i + 1 + k) (n - (i + 1 + k)))
        → concat (listed g i (n - i)) ≡ concat (listed g (i + suc k) (n - (i + suc k)))
    go (yes lt) rest =
        let e : i + suc k ≡ i + 1 + k = omega arith in
        rw (e, listed_more g i n lt, h i (omega arith) (omega arith)) rest
    go (no ge) rest = listed-none g i n (omega arith) ∙ sym (listed-none g (i + suc k) n (omega arith))

-- ---- totals, blocks, kinds

module _ {a : List ℕ} where
  pub totals_step : {f b i k : ℕ} → (f ≡ functions_in a) × (f ≤ functions_most) → (b ≡ blocks_in a) × (b ≤ blocks_most)
      → (i ≡ instructions_in a) × (i ≤ instructions_most) → k ≡ count_in a
      → Stepped a Totals (Some (F.Totals (record { functions = f; blocks = b; instructions = i; count = k }))) (Some (Block (record { 0 = 0 })))
  unfolding totals_line
  totals_step f b i k = record { text = rw (f.0, b.0, i.0, k); falls = omega arith }

  pub block_end : {b : BlockId} {r n : ℕ} → (r ≡ blocks_in a) × (r ≤ blocks_most) → n ≡ b.0 → r ≤ n → Stepped a (Block b) None (Some (Instruction (record { 0 = 0 })))
  unfolding from_block
  block_end {b} r e h = record { text = rw (listed-none (block_line a) b.0 (blocks_in a) (omega (arith, r.0))); falls = omega arith }

  pub block_more : {b : BlockId} {r n : ℕ} {l : 𝔹} → (r ≡ blocks_in a) × (r ≤ blocks_most) → n ≡ b.0 → n < r → l ≡ live_in a b.0
      → Stepped a (Block b) (Some (F.Block b l)) (Some (Block (record { 0 = b.0 + 1 })))
  unfolding from_block block_line
  block_more {b} is x h e =
      record { text = rw (listed_more (block_line a) b.0 (blocks_in a) (omega (arith, is.0)), e, append_assoc); falls = omega (arith, is.1) }

  pub kind_end : {i : InsnId} {r n s : ℕ} → (r ≡ instructions_in a) × (r ≤ instructions_most) → n ≡ i.0 → r ≤ n → (s ≡ start_in a 0) × (s ≤ uses_most)
      → Stepped a (Instruction i) None (Some (Use (record { 0 = 0 }) s))
  unfolding from_kind
  kind_end {i} r e h s = record { text = rw (listed-none (kind_line a) i.0 (instructions_in a) (omega (arith, r.0)), s.0); falls = omega arith }

  pub kind_more : {i : InsnId} {r n t p : ℕ} → (r ≡ instructions_in a) × (r ≤ instructions_most) → n ≡ i.0 → n < r → t ≡ tag_in a i.0 → p ≡ payload_in a i.0
      → Stepped a (Instruction i) (Some (F.Kind i t p)) (Some (Instruction (record { 0 = i.0 + 1 })))
  unfolding from_kind kind_line
  kind_more {i} r e h t p =
      record { text = rw (listed_more (kind_line a) i.0 (instructions_in a) (omega (arith, r.0)), t, p, append_assoc); falls = omega (arith, r.1) }

-- ---- uses

module _ (a : List ℕ) where
  -- the uses of all instructions from one on
  pub uses-all : (i : ℕ) → concat (listed (use_lines a) i (instructions_in a - i)) ++ from_caller a 0 0 ≡ from_use a i (start_in a i)
  unfolding from_use use_lines
  uses-all i = go (dec_lt i (instructions_in a))
    where
      go : Dec (i < instructions_in a) → concat (listed (use_lines a) i (instructions_in a - i)) ++ from_caller a 0 0 ≡ from_use a i (start_in a i)
      go (yes lt) = rw (lt-ltb i (instructions_in a) lt, listed_more (use_lines a) i (instructions_in a) lt, add-one)
      go (no ge) = let h : instructions_in a ≤ i = omega arith in rw (le-ltb i (instructions_in a) h, listed-none (use_lines a) i (instructions_in a) h)

  past-uses : (i j : ℕ) → instructions_in a ≤ i → from_use a i j ≡ from_caller a 0 0
  unfolding from_use
  past-uses i j h = rw (le-ltb i (instructions_in a) h)

  spent_uses : (i j : ℕ) → i < instructions_in a → start_in a (suc i) ≤ j → from_use a i j ≡ concat (listed (use_lines a) (suc i) (instructions_in a - suc i)) ++ from_caller a 0 0
  unfolding from_use
  spent_uses i j lt h = rw (lt-ltb i (instructions_in a) lt, listed-none (use_line a i) j (start_in a (suc i)) h)

  next-uses : (i j : ℕ) → i < instructions_in a → start_in a (i + 1) ≤ j → from_use a i j ≡ from_use a (i + 1) (start_in a (i + 1))
  next-uses i j lt h = spent_uses i j lt (rw add-one at h) ∙ rw add-one (uses-all (suc i))

  more-uses : (i j : ℕ) → i < instructions_in a → j < start_in a (i + 1) → from_use a i j ≡ use_line a i j ++ from_use a i (j + 1)
  unfolding from_use
  more-uses i j lt h = rw (lt-ltb i (instructions_in a) lt, listed_more (use_line a i) j (start_in a (suc i)) (rw add-one at h)) (simp append_assoc)

module _ {a : List ℕ} {i : InsnId} {j : ℕ} {r n : ℕ} (is : (r ≡ instructions_in a) × (r ≤ instructions_most)) (x : n ≡ i.0) where
  pub use_end : r ≤ n → Stepped a (Use i j) None (Some (Caller (record { 0 = 0 }) (record { 0 = 0 })))
  use_end h = record { text = past-uses a i.0 j (omega (arith, is.0)); falls = omega arith }

  pub use_next : {e : ℕ} → n < r → (e ≡ start_in a (i.0 + 1)) × (e ≤ uses_most) → e ≤ j → Stepped a (Use i j) None (Some (Use (record { 0 = i.0 + 1 }) e))
  use_next h e k = record { text = rw e.0 (next-uses a i.0 j (omega (arith, is.0)) (omega (arith, e.0))); falls = omega (arith, is.1, e.1) }

  pub use_more : {e : ℕ} {u : InsnId} → n < r → (e ≡ start_in a (i.0 + 1)) × (e ≤ uses_most) → j < e → u.0 ≡ user_in a j
      → Stepped a (Use i j) (Some (F.Use i u)) (Some (Use i (j + 1)))
  unfolding use_line
  use_more h e k u = record { text = more-uses a i.0 j (omega (arith, is.0)) (omega (arith, e.0)) ∙ rw u; falls = omega (arith, e.1) }

-- ---- callers

module _ (a : List ℕ) where
  -- the callers of all functions from one on
  pub callers-all : (f : ℕ) → concat (listed (caller_lines a) f (functions_in a - f)) ≡ from_caller a f 0
  unfolding from_caller caller_lines
  callers-all f = go (dec_lt f (functions_in a))
    where
      go : Dec (f < functions_in a) → concat (listed (caller_lines a) f (functions_in a - f)) ≡ from_caller a f 0
      go (yes lt) = let z : instructions_in a - 0 ≡ instructions_in a = omega arith in rw (lt-ltb f (functions_in a) lt, listed_more (caller_lines a) f (functions_in a) lt, add-one, z)
      go (no ge) = let h : functions_in a ≤ f = omega arith in rw (le-ltb f (functions_in a) h, listed-none (caller_lines a) f (functions_in a) h)

  past-callers : (f n : ℕ) → functions_in a ≤ f → from_caller a f n ≡ []
  unfolding from_caller
  past-callers f n h = rw (le-ltb f (functions_in a) h)

  spent_callers : (f n : ℕ) → f < functions_in a → instructions_in a ≤ n → from_caller a f n ≡ concat (listed (caller_lines a) (suc f) (functions_in a - suc f))
  unfolding from_caller
  spent_callers f n lt h = rw (lt-ltb f (functions_in a) lt, listed-none (caller_line a f) n (instructions_in a) h)

  next-callers : (f n : ℕ) → f < functions_in a → instructions_in a ≤ n → from_caller a f n ≡ from_caller a (f + 1) 0
  next-callers f n lt h = spent_callers f n lt h ∙ rw add-one (callers-all (suc f))

  more-callers : (f n : ℕ) → f < functions_in a → n < instructions_in a → from_caller a f n ≡ caller_line a f n ++ from_caller a f (n + 1)
  unfolding from_caller
  more-callers f n lt h = rw (lt-ltb f (functions_in a) lt, listed_more (caller_line a f) n (instructions_in a) h) (simp append_assoc)

  skip-callers : (f n k : ℕ) → f < functions_in a → ((m : ℕ) → n ≤ m → m < n + k → caller_line a f m ≡ []) → from_caller a f n ≡ from_caller a f (n + k)
  unfolding from_caller
  skip-callers f n k lt h = rw (lt-ltb f (functions_in a) lt, listed-skip (caller_line a f) k n (instructions_in a) h)

  -- a word that has no bit from n on has none later
  no_bits : (f n m : ℕ) → bits_in a f n ≡ 0 → n ≤ m → m < (n / 64 + 1) * 64 → bits_in a f m ≡ 0
  unfolding word_in
  no_bits f n m z le lt =
      let q : m / 64 ≡ n / 64 = omega arith in
      let r : n % 64 ≤ m % 64 = omega arith in
      let w = word_in a f n in
      let e : word_in a f m ≡ w = rw q in
      let p : 0 < 2 ^ (n % 64) = one-le-pow (n % 64) 2 (omega arith) in
      let x : w < 1 * 2 ^ (n % 64) = (div-lt_iff_lt-mul p).0 (omega (arith, z)) in
      let y : 2 ^ (n % 64) ≤ 2 ^ (m % 64) = pow-le-pow_right (let two : 0 < 2 = omega arith in two) r in
      rw e (div-eq_of_lt (omega (arith, x, y)))

  no_line : (f m : ℕ) → bits_in a f m % 2 ≡ 0 → caller_line a f m ≡ []
  unfolding caller_line
  no_line f m z = rw z

  a_line : (f m : ℕ) → (bits_in a f m % 2 ≡ 0 → ⊥) → caller_line a f m ≡ frame_line of_caller (f ∷ m ∷ [])
  unfolding caller_line
  a_line f m h = rw (ne_eqb (bits_in a f m % 2) 0 h)

module _ {a : List ℕ} {f : FunId} {i : InsnId} {q m : ℕ} (fs : (q ≡ functions_in a) × (q ≤ functions_most)) (x : m ≡ f.0) where
  pub caller_end : q ≤ m → Stepped a (Caller f i) None None
  caller_end h = record { text = past-callers a f.0 i.0 (omega (arith, fs.0)); falls = omega arith }

  module _ {r n : ℕ} (lt : m < q) (is : (r ≡ instructions_in a) × (r ≤ instructions_most)) (y : n ≡ i.0) where
    pub caller_next : r ≤ n → Stepped a (Caller f i) None (Some (Caller (record { 0 = f.0 + 1 }) (record { 0 = 0 })))
    caller_next h = record { text = next-callers a f.0 i.0 (omega (arith, fs.0)) (omega (arith, is.0)); falls = omega (arith, fs.1) }

    module _ {w : ℕ} (more : n < r) (bits : w ≡ bits_in a f.0 i.0) where
      pub caller_skip : w ≡ 0 → Stepped a (Caller f i) None (Some (Caller f (record { 0 = (i.0 / 64 + 1) * 64 })))
      caller_skip z =
          let k = i.0 in
          let k' = (k / 64 + 1) * 64 in
          let e : k + (k' - k) ≡ k' = omega arith in
          let none : (j : ℕ) → k ≤ j → j < k + (k' - k) → caller_line a f.0 j ≡ [] =
          λ j le l. no_line a f.0 j (rw (no_bits a f.0 k j (sym bits ∙ z) le (omega arith))) in
          record { text = rw e at (skip-callers a f.0 k (k' - k) (omega (arith, fs.0)) none); falls = omega (arith, is.1) }

      pub caller_none : w % 2 ≡ 0 → Stepped a (Caller f i) None (Some (Caller f (record { 0 = i.0 + 1 })))
      caller_none z =
          record {
            text = more-callers a f.0 i.0 (omega (arith, fs.0)) (omega (arith, is.0)) ∙ rw (no_line a f.0 i.0 (rw bits at z));
            falls = omega (arith, is.1);
          }

      pub caller_more : (w % 2 ≡ 0 → ⊥) → Stepped a (Caller f i) (Some (F.Caller f i)) (Some (Caller f (record { 0 = i.0 + 1 })))
      caller_more z =
          record {
            text = more-callers a f.0 i.0 (omega (arith, fs.0)) (omega (arith, is.0)) ∙ rw (a_line a f.0 i.0 (rw bits at z));
            falls = omega (arith, is.1);
          }

-- ---- the frames one after the other

-- at the loop's head of `next`: places that have no frame are passed
pub record Passing (a : List ℕ) (from c : Option NextFrame) : Type 0 where
  pub text : rest_at a from ≡ rest_at a c
  pub falls : left_at c ≤ left_at from

module _ {a : List ℕ} {from c : Option NextFrame} (g : Passing a from c) where
  module _ {at : NextFrame} {f : Option Frame} {c' : Option NextFrame} (e : c ≡ Some at) (s : Stepped a at f c') where
    pub passing_less : left_at c' < left_at c
    passing_less = rw e s.falls

    pub passing_more : f ≡ None → Passing a from c'
    passing_more n = record { text = g.text ∙ rw e (rw n at s.text); falls = omega (arith, g.falls, passing_less) }

    pub passing_found : {x : Frame} → f ≡ Some x → Gives a from f c'
    passing_found {x} n = rw n (record { text = g.text ∙ rw e (rw n at s.text); falls = omega (arith, g.falls, passing_less); ended = tt })

-- ---- fill

-- the tail of memory, and memory with another tail
tail_is : (at : ℕ) (d : List ℕ) → mid_of at (length d - at) d ≡ drop at d
tail_is at d = take_all (length d - at) (drop at d) (rw length-drop (omega arith))

put_tail : (at : ℕ) (d u : List ℕ) → put_mid at (length d - at) d u ≡ take at d ++ u
put_tail at d u =
    let l : length (drop at d) ≤ length d - at = rw length-drop (omega arith) in
    let e : drop (length d - at) (drop at d) ≡ [] = drop_of_length-le (drop at d) l in
    rw (e, append-nil)

-- what was written in the tail, and what stands behind it
wrote_text : {t d d' : List ℕ} {n : ℕ} → Wrote t d n d' → take n d' ≡ t
wrote_text {t} {d} {d'} {n} w = rw w.is (take_at t (drop (length t) d) n (sym w.len))

wrote_kept : {t d d' : List ℕ} {n : ℕ} → Wrote t d n d' → drop n d' ≡ drop n d
wrote_kept {t} {d} {d'} {n} w = ap (drop n) w.is ∙ drop_at t (drop (length t) d) n (sym w.len) ∙ ap (λ (k : ℕ). drop k d) (sym w.len)

-- at the loop's head: what stands, with what is left, is the whole
pub record Filling (a : List ℕ) (from : Option NextFrame) (d out : List ℕ) (c : Option NextFrame) (at : ℕ) : Type 0 where
  pub wide : line_most ≤ length d
  pub len_same : length out ≡ length d
  pub room : at ≤ length d
  pub text : rest_at a from ≡ take at out ++ rest_at a c
  pub kept : drop at out ≡ drop at d
  pub falls : left_at c ≤ left_at from
  pub first : left_at c ≡ left_at from → at ≡ 0

module _ {a : List ℕ} {from : Option NextFrame} {d out : List ℕ} {c : Option NextFrame} {at : ℕ} (g : Filling a from d out c at) where
  pub filling_more : {u : List ℕ} {f : Frame} {c' : Option NextFrame} {n : ℕ} → Gives a c (Some f) c'
      → Wrote (frame_text f) (mid_of at (length out - at) out) n u → length u ≡ length (mid_of at (length out - at) out)
      → Filling a from d (put_mid at (length out - at) out u) c' (at + n)
  filling_more {u} {f} {c'} {n} s w l =
      let le : at ≤ length out = omega (arith, g.room, g.len_same) in
      let k : length (take at out) ≡ at = length-take-le at out le in
      let m : length u ≡ length out - at = l ∙ rw (tail_is at out) (length-drop at out) in
      let p : rest_at a c ≡ take n u ++ rest_at a c' = rw (wrote_text w) s.text in
      let x : take (at + n) (take at out ++ u) ≡ take at out ++ take n u =
      rw k at (take-append-add (take at out) u n) in
      let y : drop (at + n) (take at out ++ u) ≡ drop n u = rw k at (drop-append-add (take at out) u n) in
      let z : drop n u ≡ drop (at + n) d =
      wrote_kept w ∙ ap (drop n) (tail_is at out ∙ g.kept) ∙ drop-drop n at d in
      rw (put_tail at out u)
      (record {
        wide = g.wide;
        len_same = rw (length-append, k, m) (omega (arith, g.len_same));
        room = omega (arith, w.fits, g.len_same);
        text = g.text ∙ rw (p, x, append_assoc);
        kept = y ∙ z;
        falls = omega (arith, g.falls, s.falls);
        first = λ q. absurd (omega (arith, g.falls, s.falls));
      })
