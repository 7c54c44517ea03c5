-- Rows of bits with one more, and where rows of pairs start. Assumes nothing.
use mathlib.Core.Bool.{Bool as 𝔹, true, false, ◌||◌}
use mathlib.Core.Path.{◌≡◌, refl, sym, ap, ap₂, ◌∙◌, subst}
use mathlib.Core.List.{List, [], ◌∷◌, ◌++◌, map}
use Prim.Native.Nat.{ℕ, zero, suc, ◌+◌, ◌-◌, ◌*◌, ◌/◌, ◌%◌, ◌^◌, ◌≤◌, ◌<◌}
use Rattle.answer.proofs.Laws.{bit_small}
use native.Mathlib.Nat.{le_trans, pow-le-pow_right, pow-succ', div-eq_of_lt, mod-eq_of_lt, add-div_left, add-mod_left}
use native.Mathlib.Numerals.{add-one}
use native.Mathlib.Decide.{dec_lt}
use native.Mathlib.Omega.{arith}
use lib.Dec.{eqb, ltb}
use lib.ListN.{length, get_or, set, take, drop, length-append}
use borrow.Author.Tests.{eq-eqb, ne_eqb, lt-ltb, le-ltb}
use lib.Seq.{take-set-lt}
use Rattle.std.proofs.lemmas.List.{take-set-le, drop-set-lt, drop-set-add, get_or-take, get_or-drop, map-append, length-take}
use Rattle.kinds.specs.Kinds.{bit_of}
use Rattle.rules.specs.Lists.{cons_if, any, keep, concat}
use Rattle.rules.proofs.Wellformed.Tables.{any_snoc}
use Rattle.answer.specs.Image.{word_of, words_of, listed, starts_from}
use Rattle.decode.specs.Stored.{pair_row, bit_row}
use Rattle.decode.specs.Standing.{Climbs, Each, before_row}
use Rattle.decode.proofs.Pairs.{first_at, Rises, listed_same, pair_row-rises, row_pairs, pairs_of}

-- ---- lists

pub listed_set : {A : Type 0} (g h : ℕ → A) (i n j : ℕ) (x : A) → j < n → h (i + j) ≡ x → ((k : ℕ) → (k ≡ i + j → ⊥) → h k ≡ g k) → listed h i n ≡ set (listed g i n) j x
listed_set g h i zero j x lt e o = absurd (omega arith)
listed_set g h i (suc n) zero x lt e o =
    let z : i + 0 ≡ i = omega arith in
    ap₂ (λ y l. y ∷ l) (ap h (sym z) ∙ e) (listed_same h g (suc i) n (λ k p q. o k (λ w. omega arith)))
listed_set g h i (suc n) (suc j) x lt e o =
    let z : i + suc j ≡ suc i + j = omega arith in
    ap₂ (λ y l. y ∷ l) (o i (λ w. omega arith)) (listed_set g h (suc i) n j x (omega arith) (ap h (sym z) ∙ e) (λ k ne. o k (λ w. ne (w ∙ z))))

-- ---- bits

-- a row of bits with one more
pub bits_more : (n x : ℕ) (l : List ℕ) → x < n → bit_row n (l ++ x ∷ []) ≡ set (bit_row n l) x true
bits_more n x l lt =
    let z : 0 + x ≡ x = omega arith in
    listed_set (λ k. any (eqb k) l) (λ k. any (eqb k) (l ++ x ∷ [])) 0 n x true lt
    (any_snoc (eqb (0 + x)) l x ∙ rw (z, eq-eqb x x refl) (either (any (eqb x) l)))
    (λ k ne. any_snoc (eqb k) l x ∙ rw (ne_eqb k x (λ e. ne (e ∙ sym z))) (neither (any (eqb k) l)))
  where
    either : (b : 𝔹) → b || (true || false) ≡ true
    either true = refl
    either false = refl

    neither : (b : 𝔹) → b || (false || false) ≡ b
    neither true = refl
    neither false = refl

word_more : (row : List 𝔹) (n : ℕ) → n < length row → get_or row n false ≡ false → word_of (set row n true) ≡ word_of row + 2 ^ n
unfolding word_of
word_more [] n lt e = absurd (omega arith)
word_more (b ∷ row) zero lt e = rw e (omega arith)
word_more (b ∷ row) (suc n) lt e = rw (word_more row n (omega arith) e, pow-succ' 2 n) (omega arith)

-- the words of a row with one more
pub words_more : (k : ℕ) (row : List 𝔹) (n : ℕ) → n < length row → n < k * 64 → get_or row n false ≡ false
    → words_of k (set row n true) ≡ set (words_of k row) (n / 64) (get_or (words_of k row) (n / 64) 0 + 2 ^ (n % 64))
unfolding words_of
words_more zero row n l h e = absurd (omega arith)
words_more (suc k) row n l h e = go (dec_lt n 64) (words_more k (drop 64 row))
  where
    go : Dec (n < 64)
        → ((m : ℕ) → m < length (drop 64 row) → m < k * 64 → get_or (drop 64 row) m false ≡ false
        → words_of k (set (drop 64 row) m true) ≡ set (words_of k (drop 64 row)) (m / 64) (get_or (words_of k (drop 64 row)) (m / 64) 0 + 2 ^ (m % 64)))
        → words_of (suc k) (set row n true) ≡ set (words_of (suc k) row) (n / 64) (get_or (words_of (suc k) row) (n / 64) 0 + 2 ^ (n % 64))
    go (yes lt) f =
        let w = word_more (take 64 row) n (rw (length-take 64 row) (omega arith)) (get_or-take 64 row n false lt ∙ e) in
        rw (div-eq_of_lt lt, mod-eq_of_lt lt, take-set-lt 64 row n true lt, drop-set-lt 64 row n true lt, w) refl
    go (no ge) f =
        let m = n - 64 in
        let q : n ≡ 64 + m = omega arith in
        let d : n / 64 ≡ suc (m / 64) = ap (λ (x : ℕ). x / 64) q ∙ add-div_left m (let p : 0 < 64 = omega arith in p) ∙ add-one (m / 64) in
        let r : n % 64 ≡ m % 64 = ap (λ (x : ℕ). x % 64) q ∙ add-mod_left 64 m in
        let s : drop 64 (set row n true) ≡ set (drop 64 row) m true = ap (λ (x : ℕ). drop 64 (set row x true)) q ∙ drop-set-add 64 row m true in
        let g : get_or (drop 64 row) m false ≡ false = get_or-drop 64 row m false ∙ ap (λ (x : ℕ). get_or row x false) (sym q) ∙ e in
        let t = f m (rw (lib.ListN.length-drop 64 row) (omega arith)) (omega arith) g in
        rw (d, r, take-set-le 64 row n true (omega arith), s, t) refl

word_small : (l : List 𝔹) → word_of l < 2 ^ length l
unfolding word_of
word_small [] = omega arith
word_small (b ∷ l) = let p = pow-succ' 2 (length l) in let w = word_small l in let s = bit_small b in rw p (omega arith)

-- each word of a row is one of 64 bits
pub words_small : (k : ℕ) (row : List 𝔹) (q : ℕ) → get_or (words_of k row) q 0 < 2 ^ 64
unfolding words_of
words_small zero row q = omega arith
words_small (suc k) row (suc q) = words_small k (drop 64 row) q
words_small (suc k) row zero =
    let n : length (take 64 row) ≤ 64 = rw (length-take 64 row) (omega arith) in
    let p : 2 ^ length (take 64 row) ≤ 2 ^ 64 = pow-le-pow_right (let two : 0 < 2 = omega arith in two) n in
    le_trans (word_small (take 64 row)) p

-- ---- pairs

pub pair_row_more : (k : ℕ) (l : List (ℕ × ℕ)) (p : ℕ × ℕ) → pair_row k (l ++ p ∷ []) ≡ pair_row k l ++ cons_if (eqb p.0 k) p.1 []
pair_row_more k [] p = refl
pair_row_more k (q ∷ l) p = go (eqb q.0 k) (pair_row_more k l p)
  where
    go : (b : 𝔹) → pair_row k (l ++ p ∷ []) ≡ pair_row k l ++ cons_if (eqb p.0 k) p.1 [] → cons_if b q.1 (pair_row k (l ++ p ∷ [])) ≡ cons_if b q.1 (pair_row k l) ++ cons_if (eqb p.0 k) p.1 []
    go true e = ap (λ (z : List ℕ). q.1 ∷ z) e
    go false e = e

rises-past : (n x : ℕ) (l : List ℕ) → Rises n (l ++ x ∷ []) → (n ≤ x) × (any (eqb x) l ≡ false)
rises-past n x [] h = (h.0, refl)
rises-past n x (y ∷ l) h =
    let r = rises-past (suc y) x l h.1 in
    (omega (arith, h.0, r.0), rw (ne_eqb x y (λ e. omega (arith, r.0)), r.1) refl)

-- the number of a pair that rises above others is not yet in its row
pub fresh : (l : List (ℕ × ℕ)) (p : ℕ × ℕ) → Climbs 0 0 (l ++ p ∷ []) → any (eqb p.1) (pair_row p.0 l) ≡ false
fresh l p h =
    let e : pair_row p.0 (l ++ p ∷ []) ≡ pair_row p.0 l ++ p.1 ∷ [] = pair_row_more p.0 l p ∙ rw (eq-eqb p.0 p.0 refl) refl in
    (rises-past 0 p.1 (pair_row p.0 l) (subst (λ (z : List ℕ). Rises 0 z) e (pair_row-rises p.0 (l ++ p ∷ []) h))).1

keep_more : {A : Type 0} (f : A → 𝔹) (l : List A) (x : A) → length (keep f (l ++ x ∷ [])) ≡ length (keep f l) + bit_of (f x)
keep_more f [] x = go (f x)
  where
    go : (b : 𝔹) → length (cons_if b x []) ≡ 0 + bit_of b
    go true = omega arith
    go false = omega arith
keep_more f (y ∷ l) x = go (f y) (keep_more f l x)
  where
    go : (b : 𝔹) → length (keep f (l ++ x ∷ [])) ≡ length (keep f l) + bit_of (f x) → length (cons_if b y (keep f (l ++ x ∷ []))) ≡ length (cons_if b y (keep f l)) + bit_of (f x)
    go true e = omega (arith, e)
    go false e = e

-- a pair of row a or a later one stands before no row up to a
pub before_same : (k : ℕ) (l : List (ℕ × ℕ)) (p : ℕ × ℕ) → k ≤ p.0 → before_row k (l ++ p ∷ []) ≡ before_row k l
before_same k l p le = keep_more (λ q. ltb q.0 k) l p ∙ rw (le-ltb p.0 k le) (omega arith)

-- all pairs stand before a row behind them
pub before_all : (k : ℕ) (l : List (ℕ × ℕ)) → Each (λ p. p.0 < k) l → before_row k l ≡ length l
before_all k [] h = refl
before_all k (p ∷ l) h = rw (lt-ltb p.0 k h.0) (ap suc (before_all k l h.1))

before_next : (k : ℕ) (l : List (ℕ × ℕ)) → before_row (suc k) l ≡ before_row k l + length (pair_row k l)
before_next k [] = refl
before_next k (p ∷ l) = go (dec_lt p.0 k) (dec_lt k p.0) (before_next k l)
  where
    go : Dec (p.0 < k) → Dec (k < p.0) → before_row (suc k) l ≡ before_row k l + length (pair_row k l) → before_row (suc k) (p ∷ l) ≡ before_row k (p ∷ l) + length (pair_row k (p ∷ l))
    go (yes a) b e = rw (lt-ltb p.0 (suc k) (omega arith), lt-ltb p.0 k a, ne_eqb p.0 k (λ z. omega arith)) (omega (arith, e))
    go (no a) (yes b) e = rw (le-ltb p.0 (suc k) (omega arith), le-ltb p.0 k (omega arith), ne_eqb p.0 k (λ z. omega arith)) e
    go (no a) (no b) e = rw (lt-ltb p.0 (suc k) (omega arith), le-ltb p.0 k (omega arith), eq-eqb p.0 k (omega arith)) (omega (arith, e))

before_first : (l : List (ℕ × ℕ)) → before_row 0 l ≡ 0
before_first [] = refl
before_first (p ∷ l) = rw (le-ltb p.0 0 (omega arith)) (before_first l)

starts_rows : (i n : ℕ) (l : List (ℕ × ℕ)) → starts_from (before_row i l) (listed (λ k. pair_row k l) i n) ≡ listed (λ k. before_row k l) i (suc n)
unfolding starts_from
starts_rows i zero l = refl
starts_rows i (suc n) l =
    ap (λ (z : List ℕ). before_row i l ∷ z)
    (ap (λ (x : ℕ). starts_from x (listed (λ k. pair_row k l) (suc i) n)) (sym (before_next i l)) ∙ starts_rows (suc i) n l)

-- where the rows of pairs start
pub starts_of : (n : ℕ) (l : List (ℕ × ℕ)) → starts_from 0 (listed (λ k. pair_row k l) 0 n) ≡ listed (λ k. before_row k l) 0 (suc n)
starts_of n l = ap (λ (x : ℕ). starts_from x (listed (λ k. pair_row k l) 0 n)) (sym (before_first l)) ∙ starts_rows 0 n l

-- the second numbers of the pairs of rows
pub seconds_of : (k : ℕ) (ls : List (List ℕ)) → map (λ (p : ℕ × ℕ). p.1) (pairs_of k ls) ≡ concat ls
seconds_of k [] = refl
seconds_of k (l ∷ ls) = map-append (λ (p : ℕ × ℕ). p.1) (row_pairs k l) (pairs_of (suc k) ls) ∙ ap₂ ◌++◌ (seconds l) (seconds_of (suc k) ls)
  where
    seconds : (l : List ℕ) → map (λ (p : ℕ × ℕ). p.1) (row_pairs k l) ≡ l
    seconds [] = refl
    seconds (x ∷ l) = ap (λ (z : List ℕ). x ∷ z) (seconds l)

-- the last of rising pairs has the greatest first number
pub firsts_to : (a n : ℕ) (l : List (ℕ × ℕ)) (p : ℕ × ℕ) → Climbs a n (l ++ p ∷ []) → (a ≤ p.0) × Each (λ q. q.0 < suc p.0) (l ++ p ∷ [])
firsts_to a n [] p h = (first_at a n p h.0, (omega arith, tt))
firsts_to a n (q ∷ l) p h =
    let r = firsts_to q.0 (suc q.1) l p h.1 in
    let f = first_at a n q h.0 in
    (omega (arith, r.0), (omega (arith, r.0), r.1))
