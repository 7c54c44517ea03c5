-- Laws of tables and of rows of bits. Assumes nothing.
use mathlib.Core.Bool.{Bool as 𝔹, true, false, not}
use mathlib.Core.Path.{◌≡◌, refl, sym, ap, ap₂, ◌∙◌}
use mathlib.Core.List.{List, [], ◌∷◌, ◌++◌, map, append-nil, append_assoc}
use Prim.Native.Nat.{ℕ, zero, suc, ◌+◌, ◌-◌, ◌*◌, ◌/◌, ◌%◌, ◌^◌, ◌≤◌, ◌<◌}
use native.Mathlib.Nat.{not-suc-le-zero, le_of_suc-le-suc, div-one, zero-div, div-div-eq-div-mul, pow-succ', add-mul-div_left, add-mul-mod_self_left, div-eq_of_lt, mod-eq_of_lt, add-div_left}
use native.Mathlib.Nat.{add-mod_left, add_comm}
use native.Mathlib.Decide.{dec_lt}
use native.Mathlib.Numerals.{add-one}
use native.Mathlib.Omega.{arith}
use lib.Dec.{eqb}
use lib.ListN.{length, get_or, take, drop, length-append, length-drop, take-append-drop, get_or-append}
use lib.Seq.{take-nil, length-take-le, get_or-append-add, get_or-take, get_or-drop}
use Rattle.kinds.specs.Kinds.{bit_of}
use Rattle.rules.specs.Lists.{concat}
use Rattle.answer.specs.Image.{starts_from, word_of, words_of, listed}

-- ---- lists

-- the number i of table k, of tables that stand one behind the other
pub in_table : (ts : List (List ℕ)) (k i : ℕ) → i < length (get_or ts k []) → get_or (concat ts) (length (concat (take k ts)) + i) 0 ≡ get_or (get_or ts k []) i 0
in_table [] zero i h = absurd (not-suc-le-zero h)
in_table [] (suc k) i h = absurd (not-suc-le-zero h)
in_table (t ∷ ts) zero i h = let e : 0 + i ≡ i = omega arith in rw e (get_or-append t (concat ts) 0 i h)
in_table (t ∷ ts) (suc k) i h =
    let l = length (concat (take k ts)) in
    let e : length (t ++ concat (take k ts)) + i ≡ length t + (l + i) = rw length-append (omega arith) in
    rw (e, get_or-append-add t (concat ts) (l + i) 0) (in_table ts k i h)

-- g of the places of a list is the list
pub listed-is : {A : Type 0} (g : ℕ → A) (l : List A) (d : A) (k : ℕ) → ((i : ℕ) → i < length l → g (k + i) ≡ get_or l i d) → listed g k (length l) ≡ l
listed-is g [] d k h = refl
listed-is g (x ∷ l) d k h =
    let e : k + 0 ≡ k = omega arith in
    ap₂ ◌∷◌ (rw e at (h 0 (omega arith))) (listed-is g l d (suc k) (λ i lt. let f : k + suc i ≡ suc k + i = omega arith in rw f at (h (suc i) (omega arith))))

-- ---- starts

pub starts-length : (k : ℕ) (ls : List (List ℕ)) → length (starts_from k ls) ≡ suc (length ls)
unfolding starts_from
starts-length k [] = refl
starts-length k (l ∷ ls) = ap suc (starts-length (k + length l) ls)

pub starts-at : (k : ℕ) (ls : List (List ℕ)) (i : ℕ) → i ≤ length ls → get_or (starts_from k ls) i 0 ≡ k + length (concat (take i ls))
unfolding starts_from
starts-at k [] zero h = omega arith
starts-at k [] (suc i) h = absurd (not-suc-le-zero h)
starts-at k (l ∷ ls) zero h = omega arith
starts-at k (l ∷ ls) (suc i) h = rw (starts-at (k + length l) ls i (le_of_suc-le-suc h), length-append) (omega arith)

-- ---- rows of bits

pub bit_small : (b : 𝔹) → bit_of b < 2
bit_small true = omega arith
bit_small false = omega arith

pub bit_back : (b : 𝔹) → not (eqb (bit_of b) 0) ≡ b
bit_back true = refl
bit_back false = refl

word_bit : (l : List 𝔹) (k : ℕ) → word_of l / 2 ^ k % 2 ≡ bit_of (get_or l k false)
unfolding word_of
word_bit [] k = rw (zero-div (2 ^ k))
word_bit (b ∷ l) zero = rw (div-one (bit_of b + 2 * word_of l), add-mul-mod_self_left (bit_of b) 2 (word_of l)) (mod-eq_of_lt (bit_small b))
word_bit (b ∷ l) (suc k) =
    let e : (bit_of b + 2 * word_of l) / 2 ≡ word_of l = rw (add-mul-div_left (bit_of b) (word_of l) (let p : 0 < 2 = omega arith in p), div-eq_of_lt (bit_small b)) (omega arith) in
    rw (pow-succ' 2 k, ← div-div-eq-div-mul (bit_of b + 2 * word_of l) 2 (2 ^ k), e) (word_bit l k)

pub words-length : (k : ℕ) (row : List 𝔹) → length (words_of k row) ≡ k
unfolding words_of
words-length zero row = refl
words-length (suc k) row = ap suc (words-length k (drop 64 row))

-- bit n % 64 of word n / 64 is bit n of the row
pub words_bit : (k : ℕ) (row : List 𝔹) (n : ℕ) → n < k * 64 → get_or (words_of k row) (n / 64) 0 / 2 ^ (n % 64) % 2 ≡ bit_of (get_or row n false)
unfolding words_of
words_bit zero row n h = absurd (omega arith)
words_bit (suc k) row n h = go (dec_lt n 64) (words_bit k (drop 64 row))
  where
    go : Dec (n < 64) → ((m : ℕ) → m < k * 64 → get_or (words_of k (drop 64 row)) (m / 64) 0 / 2 ^ (m % 64) % 2 ≡ bit_of (get_or (drop 64 row) m false))
        → get_or (words_of (suc k) row) (n / 64) 0 / 2 ^ (n % 64) % 2 ≡ bit_of (get_or row n false)
    go (yes lt) rest = rw (div-eq_of_lt lt, mod-eq_of_lt lt, word_bit (take 64 row) n, get_or-take 64 row n false lt)
    go (no ge) rest =
        let m = n - 64 in
        let e : n ≡ 64 + m = omega arith in
        let d : n / 64 ≡ suc (m / 64) = ap (λ (x : ℕ). x / 64) e ∙ add-div_left m (let p : 0 < 64 = omega arith in p) ∙ add-one (m / 64) in
        let r : n % 64 ≡ m % 64 = ap (λ (x : ℕ). x % 64) e ∙ add-mod_left 64 m in
        rw (d, r, rest m (omega arith), get_or-drop 64 row m false) (ap (λ (x : ℕ). bit_of (get_or row x false)) (sym e))

-- a number is known by its bits
pub word-known : (m x : ℕ) (l : List 𝔹) → x < 2 ^ m → ((n : ℕ) → n < m → x / 2 ^ n % 2 ≡ bit_of (get_or l n false)) → x ≡ word_of (take m l)
unfolding word_of
word-known zero x l h bits = omega arith
word-known (suc m) x l h bits = go l lowest (word-known m (x / 2) (drop 1 l) half shifted)
  where
    lowest : x % 2 ≡ bit_of (get_or l 0 false)
    lowest = rw (div-one x) at (bits 0 (omega arith))

    half : x / 2 < 2 ^ m
    half = let p : x < 2 * 2 ^ m = rw (pow-succ' 2 m) at h in omega arith

    shifted : (n : ℕ) → n < m → x / 2 / 2 ^ n % 2 ≡ bit_of (get_or (drop 1 l) n false)
    shifted n lt = rw (div-div-eq-div-mul x 2 (2 ^ n), ← pow-succ' 2 n, get_or-drop 1 l n false, add_comm 1 n, add-one) (bits (suc n) (omega arith))

    go : (l : List 𝔹) → x % 2 ≡ bit_of (get_or l 0 false) → x / 2 ≡ word_of (take m (drop 1 l)) → x ≡ word_of (take (suc m) l)
    go [] e f = let z : x / 2 ≡ 0 = f ∙ rw (take-nil m) in omega arith
    go (b ∷ l) e f = omega arith

-- words that have the bits of a row are its words
pub words-known : (k : ℕ) (ws : List ℕ) (row : List 𝔹) → length ws ≡ k → ((j : ℕ) → j < k → get_or ws j 0 < 2 ^ 64)
    → ((n : ℕ) → n < k * 64 → get_or ws (n / 64) 0 / 2 ^ (n % 64) % 2 ≡ bit_of (get_or row n false)) → ws ≡ words_of k row
unfolding words_of
words-known zero [] row e small bits = refl
words-known zero (w ∷ ws) row e small bits = absurd (omega arith)
words-known (suc k) [] row e small bits = absurd (omega arith)
words-known (suc k) (w ∷ ws) row e small bits =
    ap₂ ◌∷◌ (word-known 64 w row (small 0 (omega arith)) (λ n lt. rw (div-eq_of_lt lt, mod-eq_of_lt lt) at (bits n (omega arith))))
    (words-known k ws (drop 64 row) (omega arith) (λ j lt. small (suc j) (omega arith)) (λ n lt. next n (bits (64 + n) (omega arith))))
  where
    next : (n : ℕ) → get_or (w ∷ ws) ((64 + n) / 64) 0 / 2 ^ ((64 + n) % 64) % 2 ≡ bit_of (get_or row (64 + n) false)
        → get_or ws (n / 64) 0 / 2 ^ (n % 64) % 2 ≡ bit_of (get_or (drop 64 row) n false)
    next n h =
        let d : (64 + n) / 64 ≡ suc (n / 64) = add-div_left n (let p : 0 < 64 = omega arith in p) ∙ add-one (n / 64) in
        rw (get_or-drop 64 row n false) (rw (d, add-mod_left 64 n) at h)

module _ (k : ℕ) where
  -- the words of the rows before row f
  pub rows-length : (rows : List (List 𝔹)) (f : ℕ) → f ≤ length rows → length (concat (take f (map (words_of k) rows))) ≡ f * k
  rows-length rows zero h = omega arith
  rows-length [] (suc f) h = absurd (not-suc-le-zero h)
  rows-length (r ∷ rows) (suc f) h = rw (length-append, words-length k r, rows-length rows f (le_of_suc-le-suc h)) (omega arith)

-- ---- lists of lists

pub map_at : {A B : Type 0} (g : A → B) (l : List A) (i : ℕ) (d : A) (e : B) → i < length l → get_or (map g l) i e ≡ g (get_or l i d)
map_at g [] i d e h = absurd (not-suc-le-zero h)
map_at g (x ∷ l) zero d e h = refl
map_at g (x ∷ l) (suc i) d e h = map_at g l i d e (le_of_suc-le-suc h)

pub front-most : (ls : List (List ℕ)) (i : ℕ) → length (concat (take i ls)) ≤ length (concat ls)
front-most ls zero = omega arith
front-most [] (suc i) = omega arith
front-most (l ∷ ls) (suc i) = let h = front-most ls i in rw (length-append l (concat (take i ls)), length-append l (concat ls)) (omega arith)

pub front-more : (ls : List (List ℕ)) (i : ℕ) → i < length ls → length (concat (take (suc i) ls)) ≡ length (concat (take i ls)) + length (get_or ls i [])
front-more [] i h = absurd (not-suc-le-zero h)
front-more (l ∷ ls) zero h = rw length-append (omega arith)
front-more (l ∷ ls) (suc i) h = rw (length-append l (concat (take (suc i) ls)), length-append l (concat (take i ls)), front-more ls i (le_of_suc-le-suc h)) (omega arith)

pub front-table : (ts : List (List ℕ)) (k : ℕ) → k < length ts → concat (take (suc k) ts) ≡ concat (take k ts) ++ get_or ts k []
front-table [] k h = absurd (not-suc-le-zero h)
front-table (t ∷ ts) zero h = append-nil t
front-table (t ∷ ts) (suc k) h = rw (front-table ts k (le_of_suc-le-suc h), append_assoc)

-- ---- tables that are known by their numbers: what publishing has to know of the tables that it copies

module _ (k : ℕ) where
  pub rows-known : (t : List ℕ) (rows : List (List 𝔹)) → length t ≡ length rows * k → ((j : ℕ) → j < length t → get_or t j 0 < 2 ^ 64)
      → ((f n : ℕ) → f < length rows → n < k * 64 → get_or t (f * k + n / 64) 0 / 2 ^ (n % 64) % 2 ≡ bit_of (get_or (get_or rows f []) n false))
      → t ≡ concat (map (words_of k) rows)
  rows-known [] [] e small bits = refl
  rows-known (x ∷ t) [] e small bits = absurd (omega arith)
  rows-known t (row ∷ rows) e small bits =
      let l : k ≤ length t = omega arith in
      let m : length (take k t) ≡ k = length-take-le k t l in
      let d : length (drop k t) ≡ length rows * k = length-drop k t ∙ (omega arith) in
      sym (take-append-drop k t)
      ∙ ap₂ ◌++◌
      (words-known k (take k t) row m (λ j lt. rw (get_or-take k t j 0 lt) (small j (omega arith)))
      (λ n lt. let q : n / 64 < k = omega arith in rw (get_or-take k t (n / 64) 0 q) (rw (front (n / 64)) at (bits 0 n (omega arith) lt))))
      (rows-known (drop k t) rows d (λ j lt. rw (get_or-drop k t j 0) (small (k + j) (omega arith)))
      (λ f n lf lt. rw (get_or-drop k t (f * k + n / 64) 0, next f (n / 64)) (bits (suc f) n (omega arith) lt)))
    where
      front : (q : ℕ) → 0 * k + q ≡ q
      front q = omega arith

      next : (f q : ℕ) → k + (f * k + q) ≡ suc f * k + q
      next f q = omega arith
