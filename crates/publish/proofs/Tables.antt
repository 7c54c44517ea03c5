-- The tables of the final state, place by place. Assumes nothing.
use mathlib.Core.Bool.{Bool as 𝔹, false}
use mathlib.Core.Path.{◌≡◌, refl, sym, ap, ◌∙◌}
use mathlib.Core.List.{List, [], ◌∷◌, map}
use Prim.Native.Nat.{ℕ, zero, suc, ◌+◌, ◌-◌, ◌*◌, ◌/◌, ◌%◌, ◌≤◌, ◌<◌}
use native.Mathlib.Omega.{arith}
use borrow.Rule.Slice.PartMut.{put_mid}
use native.Mathlib.Nat.{not-suc-le-zero, le_of_suc-le-suc}
use lib.ListN.{length, get_or, take, drop, length-map, get_or-map}
use lib.Seq.{take_all, get_or-drop, drop-drop, ext_get_or}
use mir.Val.{bool_byte}
use Rattle.kinds.specs.declared.Kind.{Kind}
use Rattle.kinds.specs.declared.Kind.TheVariants.{Empty}
use Rattle.kinds.specs.Kinds.{bit_of, tag_of, payload_of}
use Rattle.kinds.proofs.Same.{bit_of_lem}
use Rattle.memory.specs.Memory.{over}
use Rattle.memory.specs.tables.Tables.{rows}
use Rattle.memory.specs.tables.Bits.{RowWord}
use Rattle.memory.proofs.tables.Listed.{listed-length}
use Rattle.state.specs.declared.Sizes.{Sizes}
use Rattle.state.specs.View.{kinds_of, live_of, called_of}
use Rattle.state.proofs.Tables.{called-length}
use Rattle.answer.specs.Layout.{live_at, tags_at, payloads_at, callers_at}
use Rattle.answer.specs.Image.{word_of, words_of}
use Rattle.answer.proofs.Laws.{in_table, words-length, word-known, rows-length, map_at}
use Rattle.memory.specs.Layout.{row_words}
use Rattle.publish.specs.Final.{GivenBy, caller_words, with_state}

module _ (z : Sizes) (m : List ℕ) where
  pub live-length : length (live_of z m) ≡ z.blocks
  unfolding live_of
  live-length = listed-length z.blocks _

  pub kinds-length : length (kinds_of z m) ≡ z.insns
  unfolding kinds_of
  kinds-length = listed-length z.insns _

-- ---- the words that a function gives, one behind the other

-- at a loop's head the first i of xs are what a function gives
pub record Giving (gives : ℕ → ℕ → Type 0) (n : ℕ) (xs : List ℕ) (i : ℕ) : Type 0 where
  pub each : (t : List ℕ) → GivenBy gives n t → (k : ℕ) → k < i → get_or xs k 0 ≡ get_or t k 0

module _ {gives : ℕ → ℕ → Type 0} {n : ℕ} where
  module _ {i : ℕ} {xs : List ℕ} (m : Giving gives n xs i) (l : length xs ≡ n) where
    pub each_done : (at : ℕ) (a : List ℕ) → length xs ≤ i → (t : List ℕ) → GivenBy gives n t → put_mid at (at + n - at) a xs ≡ over at t a
    unfolding over
    each_done at a h t g =
        let e : xs ≡ t = ext_get_or 0 xs t (l ∙ sym g.len) (λ k lt. m.each t g k (omega arith)) in
        let k : at + n - at ≡ length t = omega (arith, g.len) in
        rw (e, k, drop-drop) refl

-- ---- live flags and kinds

module _ (z : Sizes) (m : List ℕ) where
  pub lives-length : length (map bit_of (live_of z m)) ≡ z.blocks
  lives-length = length-map (live_of z m) bit_of ∙ live-length z m

  pub live_word : (b : ℕ) {w : ℕ} {t : 𝔹} → t ≡ get_or (live_of z m) b false → w ≡ bool_byte t → w ≡ get_or (map bit_of (live_of z m)) b 0
  live_word b {t = t} e f = f ∙ bit_of_lem t ∙ ap bit_of e ∙ sym (get_or-map bit_of (live_of z m) b false)

  module _ (f : Kind → ℕ) where
    pub mapped-length : length (map f (kinds_of z m)) ≡ z.insns
    mapped-length = length-map (kinds_of z m) f ∙ kinds-length z m

    pub kind_word : f Empty ≡ 0 → (i : ℕ) {w : ℕ} {k : Kind} → k ≡ get_or (kinds_of z m) i Empty → w ≡ f k → w ≡ get_or (map f (kinds_of z m)) i 0
    kind_word o i e q = q ∙ ap f e ∙ sym (get_or-map f (kinds_of z m) i Empty) ∙ ap (get_or (map f (kinds_of z m)) i) o

-- ---- callers

-- word q of a row
words-at : (k : ℕ) (row : List 𝔹) (q : ℕ) → q < k → get_or (words_of k row) q 0 ≡ word_of (take 64 (drop (q * 64) row))
unfolding words_of
words-at zero row q h = absurd (not-suc-le-zero h)
words-at (suc k) row zero h = refl
words-at (suc k) row (suc q) h =
    let e : 64 + q * 64 ≡ suc q * 64 = omega arith in
    words-at k (drop 64 row) q (le_of_suc-le-suc h) ∙ ap (λ (l : List 𝔹). word_of (take 64 l)) (lib.Seq.drop-drop (q * 64) 64 row ∙ ap (λ (n : ℕ). drop n row) e)

words-total : (rows : List (List 𝔹)) → length (caller_words rows) ≡ length rows * row_words
unfolding caller_words
words-total rows =
    let e : take (length rows) (map (words_of row_words) rows) ≡ map (words_of row_words) rows = take_all (length rows) (map (words_of row_words) rows) (rw length-map (omega arith)) in
    rw e at (rows-length row_words rows (length rows) (omega arith))

-- word j of all rows
word_at : (rows : List (List 𝔹)) (f q : ℕ) → f < length rows → q < row_words → get_or (caller_words rows) (f * row_words + q) 0 ≡ word_of (take 64 (drop (q * 64) (get_or rows f [])))
unfolding caller_words
word_at rows f q h k =
    let ws = map (words_of row_words) rows in
    let t : get_or ws f [] ≡ words_of row_words (get_or rows f []) = map_at (words_of row_words) rows f [] [] h in
    let l : q < length (get_or ws f []) = rw (t, words-length) k in
    rw (rows-length row_words rows f (omega arith)) at (in_table ws f q l) ∙ ap (λ (l : List ℕ). get_or l q 0) t ∙ words-at row_words (get_or rows f []) q k

pub row_word : (rows : List (List 𝔹)) (j w : ℕ) → j / row_words < length rows → RowWord (get_or rows (j / row_words) []) (j % row_words) w → w ≡ get_or (caller_words rows) j 0
row_word rows j w h g =
    let row = get_or rows (j / row_words) [] in
    let q = j % row_words in
    let e : j / row_words * row_words + q ≡ j = omega arith in
    word-known 64 w (drop (q * 64) row) g.small (λ n lt. g.bits n lt ∙ ap bit_of (sym (get_or-drop (q * 64) row n false)))
    ∙ sym (word_at rows (j / row_words) q h (omega arith))
    ∙ ap (λ (n : ℕ). get_or (caller_words rows) n 0) e

module _ (z : Sizes) (m : List ℕ) where
  pub callers-length : length (caller_words (called_of z m)) ≡ z.functions * row_words
  callers-length = words-total (called_of z m) ∙ ap (λ (n : ℕ). n * row_words) (called-length z m)

  pub caller_word : (j : ℕ) {w x : ℕ} → j < z.functions * 32 → RowWord (get_or (called_of z m) (j / 32) []) (j % 32) x → w ≡ x → w ≡ get_or (caller_words (called_of z m)) j 0
  caller_word j {x = x} h r e = e ∙ row_word (called_of z m) j x (omega (arith, called-length z m)) r

-- ---- all of them

module _ (z : Sizes) (m : List ℕ) (count : ℕ) (a₀ : List ℕ) {a₁ a₂ a₃ a₄ a₅ : List ℕ} where
  pub state_written : a₁ ≡ over 0 (z.functions ∷ z.blocks ∷ z.insns ∷ count ∷ []) a₀ → a₂ ≡ over live_at (map bit_of (live_of z m)) a₁ → a₃ ≡ over tags_at (map tag_of (kinds_of z m)) a₂
      → a₄ ≡ over payloads_at (map payload_of (kinds_of z m)) a₃ → a₅ ≡ over callers_at (caller_words (called_of z m)) a₄ → a₅ ≡ with_state z m count a₀
  unfolding with_state
  state_written e₁ e₂ e₃ e₄ e₅ = e₅ ∙ rw (e₄, e₃, e₂, e₁)
