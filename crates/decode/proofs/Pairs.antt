-- Rising pairs of numbers, and the rows that they make. Assumes nothing.
use mathlib.Core.Bool.{Bool as 𝔹, true, false, ◌&&◌, ◌||◌}
use mathlib.Core.Logic.{◌⊎◌, inl, inr}
use mathlib.Core.Path.{◌≡◌, refl, sym, ap, ap₂, ◌∙◌, subst}
use mathlib.Core.List.{List, [], ◌∷◌, ◌++◌, map, append-nil}
use Prim.Native.Nat.{ℕ, zero, suc, ◌+◌, ◌≤◌, ◌<◌}
use native.Mathlib.Decide.{dec_lt}
use native.Mathlib.Omega.{arith}
use lib.Dec.{eqb, ltb, leb}
use lib.ListN.{length, length-append, length-map}
use borrow.Author.Tests.{eqb-true, eqb-false, eq-eqb, ne_eqb, ltb-true, lt-ltb, leb-true, le-leb}
use Rattle.rules.specs.Lists.{cons_if, any, places_from, concat}
use Rattle.rules.proofs.Wellformed.Tests.{and-true, true-and, and3_true, or_true_lem}
use Rattle.answer.specs.Image.{listed}
use Rattle.decode.specs.Stored.{rising, pair_before, pair_follows, pair_row, bit_row}
use Rattle.decode.specs.Standing.{At, Climbs, Each, Under}
use Rattle.decode.proofs.Lines.{each-append}

-- ---- lists of numbers

-- they rise from n on
abbrev pub Rises : ℕ → List ℕ → Type 0
Rises n [] = Unit {0}
Rises n (x ∷ l) = (n ≤ x) × Rises (suc x) l

abbrev pub Below : ℕ → List ℕ → Type 0
Below top l = Each (λ x. x < top) l

rises_less : (m n : ℕ) (l : List ℕ) → m ≤ n → Rises n l → Rises m l
rises_less m n [] le h = tt
rises_less m n (x ∷ l) le h = (omega (arith, h.0), h.1)

pub rising-rises : (low top : ℕ) (l : List ℕ) → rising low top l ≡ true → Rises low l × Below top l
rising-rises low top [] h = (tt, tt)
rising-rises low top (x ∷ l) h =
    let a = and3_true (leb low x) (ltb x top) (rising (suc x) top l) h in
    let r = rising-rises (suc x) top l a.2 in
    ((leb-true low x a.0, r.0), (ltb-true x top a.1, r.1))

pub rises-rising : (low top : ℕ) (l : List ℕ) → Rises low l → Below top l → rising low top l ≡ true
rises-rising low top [] h b = refl
rises-rising low top (x ∷ l) h b = true-and (true-and (le-leb low x h.0) (lt-ltb x top b.0)) (rises-rising (suc x) top l h.1 b.1)

module _ {A : Type 0} (g h : ℕ → A) where
  pub listed_same : (i n : ℕ) → ((k : ℕ) → i ≤ k → k < i + n → g k ≡ h k) → listed g i n ≡ listed h i n
  listed_same i zero e = refl
  listed_same i (suc n) e = ap₂ (λ (x : A) (l : List A). x ∷ l) (e i (omega arith) (omega arith)) (listed_same (suc i) n (λ k p q. e k (omega arith) (omega arith)))

module _ {A : Type 0} (g : ℕ → A) where
  pub listed-length : (i n : ℕ) → length (listed g i n) ≡ n
  listed-length i zero = refl
  listed-length i (suc n) = ap suc (listed-length (suc i) n)

  pub listed-each : (P : A → Type 0) (i n : ℕ) → ((k : ℕ) → i ≤ k → k < i + n → P (g k)) → Each P (listed g i n)
  listed-each P i zero h = tt
  listed-each P i (suc n) h = (h i (omega arith) (omega arith), listed-each P (suc i) n (λ k p q. h k (omega arith) (omega arith)))

pub listed-map : {A B : Type 0} (f : A → B) (g : ℕ → A) (i n : ℕ) → map f (listed g i n) ≡ listed (λ k. f (g k)) i n
listed-map f g i zero = refl
listed-map f g i (suc n) = ap (λ l. f (g i) ∷ l) (listed-map f g (suc i) n)

-- ---- numbers as a row of bits

not_among : (k n : ℕ) (l : List ℕ) → k < n → Rises n l → any (eqb k) l ≡ false
not_among k n [] lt h = refl
not_among k n (x ∷ l) lt h = rw (ne_eqb k x (λ e. omega (arith, h.0)), not_among k (suc x) l (omega (arith, h.0)) h.1) refl

places-bits_from : (k n : ℕ) (l : List ℕ) → Rises k l → Below (k + n) l → places_from k (λ b. b) (listed (λ j. any (eqb j) l) k n) ≡ l
places-bits_from k zero [] h b = refl
places-bits_from k zero (x ∷ l) h b = absurd (omega (arith, h.0, b.0))
places-bits_from k (suc n) [] h b = places-bits_from (suc k) n [] tt tt
places-bits_from k (suc n) (x ∷ l) h b = go (dec_lt k x) (λ p. places-bits_from (suc k) n (x ∷ l) p more) (λ p q. places-bits_from (suc k) n l p q)
  where
    e : k + suc n ≡ suc k + n
    e = omega arith

    more : Below (suc k + n) (x ∷ l)
    more = subst (λ (m : ℕ). Below m (x ∷ l)) e b

    go : Dec (k < x)
        → (Rises (suc k) (x ∷ l) → places_from (suc k) (λ b. b) (listed (λ j. any (eqb j) (x ∷ l)) (suc k) n) ≡ x ∷ l)
        → (Rises (suc k) l → Below (suc k + n) l → places_from (suc k) (λ b. b) (listed (λ j. any (eqb j) l) (suc k) n) ≡ l)
        → cons_if (any (eqb k) (x ∷ l)) k (places_from (suc k) (λ b. b) (listed (λ j. any (eqb j) (x ∷ l)) (suc k) n)) ≡ x ∷ l
    go (yes lt) f g = rw (not_among k x (x ∷ l) lt (omega arith, h.1)) (f (omega arith, h.1))
    go (no ge) f g =
        let q : k ≡ x = omega (arith, h.0) in
        let s = listed_same (λ j. any (eqb j) (x ∷ l)) (λ j. any (eqb j) l) (suc k) n (λ j p r. rw (ne_eqb j x (λ z. omega arith)) refl) in
        rw (eq-eqb k x q, s, g (rw q h.1) more.1) (ap (λ (y : ℕ). y ∷ l) q)

places-rise : {A : Type 0} (k : ℕ) (f : A → 𝔹) (l : List A) → Rises k (places_from k f l) × Below (k + length l) (places_from k f l)
places-rise k f [] = (tt, tt)
places-rise k f (x ∷ l) = go (f x) (places-rise (suc k) f l)
  where
    e : suc k + length l ≡ k + suc (length l)
    e = omega arith

    go : (b : 𝔹) → Rises (suc k) (places_from (suc k) f l) × Below (suc k + length l) (places_from (suc k) f l)
        → Rises k (cons_if b k (places_from (suc k) f l)) × Below (k + suc (length l)) (cons_if b k (places_from (suc k) f l))
    go true h = ((omega arith, h.0), (omega arith, subst (λ (m : ℕ). Below m (places_from (suc k) f l)) e h.1))
    go false h = (rises_less k (suc k) _ (omega arith) h.0, subst (λ (m : ℕ). Below m (places_from (suc k) f l)) e h.1)

pub places_rise : {A : Type 0} (f : A → 𝔹) (l : List A) → Rises 0 (places_from 0 f l) × Below (length l) (places_from 0 f l)
places_rise f l = let z = places-rise 0 f l in let e : 0 + length l ≡ length l = omega arith in (z.0, subst (λ (m : ℕ). Below m (places_from 0 f l)) e z.1)

pub places-bit_row : (n : ℕ) (l : List ℕ) → Rises 0 l → Below n l → places_from 0 (λ b. b) (bit_row n l) ≡ l
places-bit_row n l h b = let e : 0 + n ≡ n = omega arith in places-bits_from 0 n l h (rw e b)

bit_row-places_from : (k : ℕ) (row : List 𝔹) → listed (λ j. any (eqb j) (places_from k (λ b. b) row)) k (length row) ≡ row
bit_row-places_from k [] = refl
bit_row-places_from k (b ∷ row) = go b (bit_row-places_from (suc k) row) (places-rise (suc k) (λ b. b) row).0
  where
    go : (b : 𝔹) → listed (λ j. any (eqb j) (places_from (suc k) (λ b. b) row)) (suc k) (length row) ≡ row → Rises (suc k) (places_from (suc k) (λ b. b) row)
        → listed (λ j. any (eqb j) (cons_if b k (places_from (suc k) (λ b. b) row))) k (suc (length row)) ≡ b ∷ row
    go true e r =
        let s = listed_same (λ j. any (eqb j) (k ∷ places_from (suc k) (λ b. b) row)) (λ j. any (eqb j) (places_from (suc k) (λ b. b) row)) (suc k) (length row)
        (λ j p q. rw (ne_eqb j k (λ z. omega arith)) refl) in
        rw (eq-eqb k k refl, s, e) refl
    go false e r = rw (not_among k (suc k) (places_from (suc k) (λ b. b) row) (omega arith) r, e) refl

pub bit_row-places : (row : List 𝔹) → bit_row (length row) (places_from 0 (λ b. b) row) ≡ row
bit_row-places row = bit_row-places_from 0 row

-- ---- pairs

at_before : (q p : ℕ × ℕ) → pair_before q p ≡ true → At q.0 (suc q.1) p
at_before q p h = go (or_true_lem (ltb q.0 p.0) (eqb q.0 p.0 && ltb q.1 p.1) h)
  where
    go : (ltb q.0 p.0 ≡ true) ⊎ (eqb q.0 p.0 && ltb q.1 p.1 ≡ true) → At q.0 (suc q.1) p
    go (inl e) = inl (ltb-true q.0 p.0 e)
    go (inr e) = let z = and-true (eqb q.0 p.0) (ltb q.1 p.1) e in inr (sym (eqb-true q.0 p.0 z.0), ltb-true q.1 p.1 z.1)

before_at : (q p : ℕ × ℕ) → At q.0 (suc q.1) p → pair_before q p ≡ true
before_at q p (inl h) = rw (lt-ltb q.0 p.0 h) refl
before_at q p (inr h) = rw (eq-eqb q.0 p.0 (sym h.0), lt-ltb q.1 p.1 h.1) (or-right (ltb q.0 p.0))
  where
    or-right : (b : 𝔹) → b || true ≡ true
    or-right true = refl
    or-right false = refl

at-trans : (a n : ℕ) (q p : ℕ × ℕ) → At a n q → At q.0 (suc q.1) p → At a n p
at-trans a n q p (inl h) (inl g) = inl (omega arith)
at-trans a n q p (inl h) (inr g) = inl (omega (arith, g.0))
at-trans a n q p (inr h) (inl g) = inl (omega (arith, h.0))
at-trans a n q p (inr h) (inr g) = inr (g.0 ∙ h.0, omega (arith, h.1, g.1))

-- one more that follows the last
climbs-last : (q p : ℕ × ℕ) (l : List (ℕ × ℕ)) → Climbs q.0 (suc q.1) l → pair_follows (q ∷ l) p ≡ true → At q.0 (suc q.1) p
climbs-last q p [] h f = at_before q p (and-true (pair_before q p) true f).0
climbs-last q p (r ∷ l) h f = at-trans q.0 (suc q.1) r p h.0 (climbs-last r p l h.1 f)

follows_tail : (q p : ℕ × ℕ) (l : List (ℕ × ℕ)) → pair_follows (q ∷ l) p ≡ true → pair_follows l p ≡ true
follows_tail q p [] f = refl
follows_tail q p (r ∷ l) f = f

climbs_more : (a n : ℕ) (l : List (ℕ × ℕ)) (p : ℕ × ℕ) → Climbs a n l → At a n p → pair_follows l p ≡ true → Climbs a n (l ++ p ∷ [])
climbs_more a n [] p h g f = (g, tt)
climbs_more a n (q ∷ l) p h g f = (h.0, climbs_more q.0 (suc q.1) l p h.1 (climbs-last q p l h.1 f) (follows_tail q p l f))

at_zero : (p : ℕ × ℕ) → At 0 0 p
at_zero p = go (dec_lt 0 p.0)
  where
    go : Dec (0 < p.0) → At 0 0 p
    go (yes h) = inl h
    go (no h) = inr (omega arith, omega arith)

pub climbs-more : (l : List (ℕ × ℕ)) (p : ℕ × ℕ) → Climbs 0 0 l → pair_follows l p ≡ true → Climbs 0 0 (l ++ p ∷ [])
climbs-more l p h f = climbs_more 0 0 l p h (at_zero p) f

-- in a rising list each follows those before it
pub climbs_follows : (a n : ℕ) (l : List (ℕ × ℕ)) (p : ℕ × ℕ) (m : List (ℕ × ℕ)) → Climbs a n (l ++ p ∷ m) → pair_follows l p ≡ true
climbs_follows a n [] p m h = refl
climbs_follows a n (q ∷ []) p m h = rw (before_at q p h.1.0) refl
climbs_follows a n (q ∷ r ∷ l) p m h = climbs_follows q.0 (suc q.1) (r ∷ l) p m h.1

-- ---- rows of pairs

abbrev pub row_pairs : ℕ → List ℕ → List (ℕ × ℕ)
row_pairs n l = map (λ x. (n, x)) l

-- the pairs of rows, counted from k
abbrev pub pairs_of : ℕ → List (List ℕ) → List (ℕ × ℕ)
pairs_of k [] = []
pairs_of k (l ∷ ls) = row_pairs k l ++ pairs_of (suc k) ls

pair_row-row : (n : ℕ) (l : List ℕ) (m : List (ℕ × ℕ)) → pair_row n (row_pairs n l ++ m) ≡ l ++ pair_row n m
pair_row-row n [] m = refl
pair_row-row n (x ∷ l) m = rw (eq-eqb n n refl, pair_row-row n l m) refl

pair_row_other : (k n : ℕ) (l : List ℕ) (m : List (ℕ × ℕ)) → (n ≡ k → ⊥) → pair_row k (row_pairs n l ++ m) ≡ pair_row k m
pair_row_other k n [] m ne = refl
pair_row_other k n (x ∷ l) m ne = rw (ne_eqb n k ne) (pair_row_other k n l m ne)

pub first_at : (a n : ℕ) (p : ℕ × ℕ) → At a n p → a ≤ p.0
first_at a n p (inl g) = omega arith
first_at a n p (inr g) = omega (arith, g.0)

pair_row_none : (k a n : ℕ) (m : List (ℕ × ℕ)) → k < a → Climbs a n m → pair_row k m ≡ []
pair_row_none k a n [] lt h = refl
pair_row_none k a n (p ∷ m) lt h = let le = first_at a n p h.0 in rw (ne_eqb p.0 k (λ e. omega arith)) (pair_row_none k p.0 (suc p.1) m (omega arith) h.1)

-- the first row of rising pairs, and those behind it
record Split (i n : ℕ) (l : List (ℕ × ℕ)) : Type 0 where
  row : List ℕ
  rest : List (ℕ × ℕ)
  is : l ≡ row_pairs i row ++ rest
  rises : Rises n row
  climbs : Climbs (suc i) 0 rest

split : (i n : ℕ) (l : List (ℕ × ℕ)) → Climbs i n l → Split i n l
split i n [] h = record { row = []; rest = []; is = refl; rises = tt; climbs = tt }
split i n (p ∷ l) h = go h.0 h.1 (λ c. split i (suc p.1) l c)
  where
    go : At i n p → Climbs p.0 (suc p.1) l → (Climbs i (suc p.1) l → Split i (suc p.1) l) → Split i n (p ∷ l)
    go (inl lt) c f = record { row = []; rest = p ∷ l; is = refl; rises = tt; climbs = (low (dec_lt (suc i) p.0), c) }
      where
        low : Dec (suc i < p.0) → At (suc i) 0 p
        low (yes g) = inl g
        low (no g) = inr (omega arith, omega arith)
    go (inr e) c f =
        let s = f (subst (λ (a : ℕ). Climbs a (suc p.1) l) e.0 c) in
        record {
          row = p.1 ∷ s.row;
          rest = s.rest;
          is = ap₂ (λ (x : ℕ) (m : List (ℕ × ℕ)). (x, p.1) ∷ m) e.0 s.is;
          rises = (e.1, s.rises);
          climbs = s.climbs;
        }

abbrev FirstBelow : ℕ → List (ℕ × ℕ) → Type 0
FirstBelow top l = Each (λ p. p.0 < top) l

pub after_each : {A : Type 0} (P : A → Type 0) (l m : List A) → Each P (l ++ m) → Each P m
after_each P [] m h = h
after_each P (x ∷ l) m h = after_each P l m h.1

-- the rows of rising pairs, and their pairs
pairs-rows : (i n : ℕ) (l : List (ℕ × ℕ)) → Climbs i 0 l → FirstBelow (i + n) l → pairs_of i (listed (λ k. pair_row k l) i n) ≡ l
pairs-rows i zero [] h b = refl
pairs-rows i zero (p ∷ l) h b = absurd (low h.0)
  where
    low : At i 0 p → ⊥
    low (inl g) = omega (arith, b.0)
    low (inr g) = omega (arith, b.0, g.0)
pairs-rows i (suc n) l h b =
    let s = split i 0 l h in
    go s.row s.rest s.is s.climbs (λ c g. pairs-rows (suc i) n s.rest c g)
  where
    e : i + suc n ≡ suc i + n
    e = omega arith

    go : (row : List ℕ) (rest : List (ℕ × ℕ)) → l ≡ row_pairs i row ++ rest → Climbs (suc i) 0 rest
        → (Climbs (suc i) 0 rest → FirstBelow (suc i + n) rest → pairs_of (suc i) (listed (λ k. pair_row k rest) (suc i) n) ≡ rest)
        → pairs_of i (listed (λ k. pair_row k l) i (suc n)) ≡ l
    go row rest q c f =
        let m = row_pairs i row ++ rest in
        let own : pair_row i m ≡ row = pair_row-row i row rest ∙ rw (pair_row_none i (suc i) 0 rest (omega arith) c) (append-nil row) in
        let others = listed_same (λ k. pair_row k m) (λ k. pair_row k rest) (suc i) n (λ k p r. pair_row_other k i row rest (λ z. omega arith)) in
        let all_below : FirstBelow (suc i + n) rest = after_each (λ p. p.0 < suc i + n) (row_pairs i row) rest
        (subst (λ (x : ℕ). FirstBelow x m) e (subst (λ (x : List (ℕ × ℕ)). FirstBelow (i + suc n) x) q b)) in
        subst (λ (x : List (ℕ × ℕ)). pairs_of i (listed (λ k. pair_row k x) i (suc n)) ≡ x) (sym q) (rw (own, others, f c all_below) refl)

pub pairs_back : (n : ℕ) (l : List (ℕ × ℕ)) → Climbs 0 0 l → Each (λ p. p.0 < n) l → pairs_of 0 (listed (λ k. pair_row k l) 0 n) ≡ l
pairs_back n l h b = let e : 0 + n ≡ n = omega arith in pairs-rows 0 n l h (subst (λ (x : ℕ). FirstBelow x l) (sym e) b)

-- the pairs of rows, and their rows
pub rows-pairs : (i : ℕ) (ls : List (List ℕ)) → listed (λ k. pair_row k (pairs_of i ls)) i (length ls) ≡ ls
rows-pairs i [] = refl
rows-pairs i (l ∷ ls) =
    let own : pair_row i (row_pairs i l ++ pairs_of (suc i) ls) ≡ l = pair_row-row i l (pairs_of (suc i) ls) ∙ rw (none-pair_row (suc i) ls i (omega arith)) (append-nil l) in
    let others = listed_same (λ k. pair_row k (row_pairs i l ++ pairs_of (suc i) ls)) (λ k. pair_row k (pairs_of (suc i) ls)) (suc i) (length ls)
    (λ k p r. pair_row_other k i l (pairs_of (suc i) ls) (λ z. omega arith)) in
    rw (own, others, rows-pairs (suc i) ls) refl
  where
    none-pair_row : (j : ℕ) (ls : List (List ℕ)) (k : ℕ) → k < j → pair_row k (pairs_of j ls) ≡ []
    none-pair_row j [] k lt = refl
    none-pair_row j (l ∷ ls) k lt = pair_row_other k j l (pairs_of (suc j) ls) (λ z. omega arith) ∙ none-pair_row (suc j) ls k (omega arith)

-- rising rows have rising pairs
climbs_less : (i n : ℕ) (m : List (ℕ × ℕ)) → Climbs (suc i) 0 m → Climbs i n m
climbs_less i n [] h = tt
climbs_less i n (p ∷ m) h = (low h.0, h.1)
  where
    low : At (suc i) 0 p → At i n p
    low (inl g) = inl (omega arith)
    low (inr g) = inl (omega (arith, g.0))

row-climbs : (i n : ℕ) (l : List ℕ) (m : List (ℕ × ℕ)) → Rises n l → Climbs (suc i) 0 m → Climbs i n (row_pairs i l ++ m)
row-climbs i n [] m h c = climbs_less i n m c
row-climbs i n (x ∷ l) m h c = (inr (refl, h.0), row-climbs i (suc x) l m h.1 c)

pub pairs-climb : (i : ℕ) (ls : List (List ℕ)) → Each (λ l. Rises 0 l) ls → Climbs i 0 (pairs_of i ls)
pairs-climb i [] h = tt
pairs-climb i (l ∷ ls) h = row-climbs i 0 l (pairs_of (suc i) ls) h.0 (pairs-climb (suc i) ls h.1)

row-under : (m n i : ℕ) (l : List ℕ) → i < m → Below n l → Under m n (row_pairs i l)
row-under m n i [] lt h = tt
row-under m n i (x ∷ l) lt h = ((lt, h.0), row-under m n i l lt h.1)

pub pairs-under : (m n i : ℕ) (ls : List (List ℕ)) → i + length ls ≡ m → Each (Below n) ls → Under m n (pairs_of i ls)
pairs-under m n i [] e h = tt
pairs-under m n i (l ∷ ls) e h =
    each-append (λ p. (p.0 < m) × (p.1 < n)) (row_pairs i l) (pairs_of (suc i) ls) (row-under m n i l (omega arith) h.0) (pairs-under m n (suc i) ls (omega arith) h.1)

-- a row of rising pairs rises, below what they are below
pair_row_rises : (a n k m : ℕ) (l : List (ℕ × ℕ)) → Climbs a n l → (a ≡ k → m ≤ n) → ((a ≡ k → ⊥) → m ≡ 0) → Rises m (pair_row k l)
pair_row_rises a n k m [] h f g = tt
pair_row_rises a n k m (p ∷ l) h f g =
    go (eqb p.0 k) refl h.0 (pair_row_rises p.0 (suc p.1) k (suc p.1) l h.1) (λ z. pair_row_rises p.0 (suc p.1) k m l h.1 (λ e. absurd (z e)))
  where
    here : p.0 ≡ k → At a n p → m ≤ p.1
    here e (inl lt) = omega (arith, g (λ z. omega arith))
    here e (inr q) = omega (arith, q.1, f (sym q.0 ∙ e))

    go : (b : 𝔹) → eqb p.0 k ≡ b → At a n p → ((p.0 ≡ k → suc p.1 ≤ suc p.1) → ((p.0 ≡ k → ⊥) → suc p.1 ≡ 0) → Rises (suc p.1) (pair_row k l))
        → ((p.0 ≡ k → ⊥) → ((p.0 ≡ k → ⊥) → m ≡ 0) → Rises m (pair_row k l)) → Rises m (cons_if b p.1 (pair_row k l))
    go true e q r s = let z = eqb-true p.0 k e in (here z q, r (λ y. omega arith) (λ y. absurd (y z)))
    go false e q r s = none (dec_lt k p.0)
      where
        ne : p.0 ≡ k → ⊥
        ne = eqb-false p.0 k e

        low : p.0 < k → At a n p → m ≡ 0
        low lt (inl y) = g (λ z. omega arith)
        low lt (inr y) = g (λ z. omega (arith, y.0))

        none : Dec (k < p.0) → Rises m (pair_row k l)
        none (yes lt) = rw (pair_row_none k p.0 (suc p.1) l lt h.1) tt
        none (no ge) = s ne (λ y. low (omega arith) q)

pub pair_row-rises : (k : ℕ) (l : List (ℕ × ℕ)) → Climbs 0 0 l → Rises 0 (pair_row k l)
pair_row-rises k l h = pair_row_rises 0 0 k 0 l h (λ e. omega arith) (λ e. refl)

pub pair_row-all_below : (m n k : ℕ) (l : List (ℕ × ℕ)) → Under m n l → Below n (pair_row k l)
pair_row-all_below m n k [] h = tt
pair_row-all_below m n k (p ∷ l) h = go (eqb p.0 k) (pair_row-all_below m n k l h.1)
  where
    go : (b : 𝔹) → Below n (pair_row k l) → Below n (cons_if b p.1 (pair_row k l))
    go true f = (h.0.1, f)
    go false f = f

pub pairs-length : (k : ℕ) (ls : List (List ℕ)) → length (pairs_of k ls) ≡ length (concat ls)
pairs-length k [] = refl
pairs-length k (l ∷ ls) =
    length-append (row_pairs k l) (pairs_of (suc k) ls) ∙ ap₂ ◌+◌ (length-map l (λ x. (k, x))) (pairs-length (suc k) ls) ∙ sym (length-append l (concat ls))
