-- Laws of lent memory, and what each way through the functions shows. Assumes nothing.
use Prim.Native.Nat.{ℕ, zero, suc, ◌+◌, ◌-◌, ◌≤◌, ◌<◌}
use mathlib.Core.Path.{◌≡◌, refl, sym, ap, ◌∙◌}
use mathlib.Core.List.{List, [], ◌∷◌, ◌++◌, append_assoc, append-nil}
use native.Mathlib.Decide.{dec_lt}
use native.Mathlib.Omega.{arith}
use lib.ListN.{length, get_or, take, drop, length-replicate, length-append, length-take, length-drop, replicate-append-replicate, get_or-append}
use lib.Seq.{take_at, drop_at, get_or-drop, get_or-take, get_or-append-add, length-take-le, ext_get_or}
use Rattle.memory.specs.Memory.{zeros, Blank, over, filled}

-- ---- cleared places

pub zeros-length : (n : ℕ) → length (zeros n) ≡ n
unfolding zeros
zeros-length n = length-replicate n 0

pub zeros-at : (n k : ℕ) → get_or (zeros n) k 0 ≡ 0
unfolding zeros
zeros-at zero k = refl
zeros-at (suc n) zero = refl
zeros-at (suc n) (suc k) = zeros-at n k

pub zeros_split : (m n : ℕ) → zeros (m + n) ≡ zeros m ++ zeros n
unfolding zeros
zeros_split m n = sym (replicate-append-replicate m n 0)

pub blank : (d : List ℕ) (m n : ℕ) → d ≡ zeros m → m ≡ n → Blank d n
blank d m n e k = record { is = rw k at e; len = ap length e ∙ zeros-length m ∙ k }

-- ---- tables

pub filled-length : (n : ℕ) (t : List ℕ) → length t ≤ n → length (filled n t) ≡ n
unfolding filled
filled-length n t h = rw (length-append, zeros-length) (omega arith)

pub filled-full : (t : List ℕ) → filled (length t) t ≡ t
unfolding filled zeros
filled-full t = let e : length t - length t ≡ 0 = omega arith in rw e (append-nil t)

-- a filled table holds the table's numbers, and 0 behind them
pub filled_at : (n : ℕ) (t : List ℕ) (i : ℕ) → get_or (filled n t) i 0 ≡ get_or t i 0
unfolding filled
filled_at n [] i = zeros-at (n - 0) i
filled_at n (x ∷ t) zero = refl
filled_at n (x ∷ t) (suc i) = behind t (zeros (n - suc (length t))) i (zeros-at (n - suc (length t)))
  where
    behind : (t z : List ℕ) (i : ℕ) → ((k : ℕ) → get_or z k 0 ≡ 0) → get_or (t ++ z) i 0 ≡ get_or t i 0
    behind [] z i h = h i
    behind (x ∷ t) z zero h = refl
    behind (x ∷ t) z (suc i) h = behind t z i h

-- the number i of the table that stands behind the places t
pub table_at : (t u z : List ℕ) (at i : ℕ) → length t ≡ at → i < length u → get_or (t ++ (u ++ z)) (at + i) 0 ≡ get_or u i 0
table_at t u z at i e h = rw (← e, get_or-append-add t (u ++ z) i 0) (get_or-append u z 0 i h)

-- one table more behind those that stand in cleared memory
pub grow : (t u a a' : List ℕ) (at k n : ℕ) → length t ≡ at → length u ≡ k → a ≡ t ++ zeros (k + n) → a' ≡ over at u a → a' ≡ (t ++ u) ++ zeros n
unfolding over
grow t u a a' at k n lt lu ea e =
    let l : length (t ++ zeros k) ≡ at + k = rw (length-append, zeros-length) (omega arith) in
    e ∙ rw (ea, lu, take_at t (zeros (k + n)) at lt, zeros_split k n, ← append_assoc t (zeros k) (zeros n), drop_at (t ++ zeros k) (zeros n) (at + k) l, append_assoc t u (zeros n))

-- the same for a table that does not fill its k places
pub grow_table : (t u a a' : List ℕ) (at k n : ℕ) → length t ≡ at → length u ≤ k → a ≡ t ++ zeros (k + n) → a' ≡ over at u a → a' ≡ (t ++ filled k u) ++ zeros n
unfolding filled
grow_table t u a a' at k n lt le ea e =
    let m = k - length u in
    let s : k + n ≡ length u + (m + n) = omega arith in
    let g : a' ≡ (t ++ u) ++ zeros (m + n) = grow t u a a' at (length u) (m + n) lt refl (rw s at ea) e in
    g ∙ rw (zeros_split m n, ← append_assoc (t ++ u) (zeros m) (zeros n), append_assoc t u (zeros m))

-- ---- tables that lie apart

-- the table, and the rest of memory
pub over-length : (at : ℕ) (t d : List ℕ) → at + length t ≤ length d → length (over at t d) ≡ length d
unfolding over
over-length at t d h = simp (length-append, length-take, length-drop) (omega arith)

pub over_in : (at : ℕ) (t d : List ℕ) (i : ℕ) → at ≤ length d → i < length t → get_or (over at t d) (at + i) 0 ≡ get_or t i 0
unfolding over
over_in at t d i h lt = table_at (take at d) t (drop (at + length t) d) at i (length-take-le at d h) lt

pub over_out : (at : ℕ) (t d : List ℕ) (i : ℕ) → at ≤ length d → (at ≤ i → i < at + length t → ⊥) → get_or (over at t d) i 0 ≡ get_or d i 0
unfolding over
over_out at t d i h out = go (dec_lt i at)
  where
    p : length (take at d) ≡ at
    p = length-take-le at d h

    go : Dec (i < at) → get_or (take at d ++ (t ++ drop (at + length t) d)) i 0 ≡ get_or d i 0
    go (yes lt) = get_or-append (take at d) (t ++ drop (at + length t) d) 0 i (omega (arith, p)) ∙ get_or-take at d i 0 lt
    go (no ge) =
        let k = i - (at + length t) in
        let o : at + length t ≤ i = elim (dec_lt i (at + length t)) [ yes z ↦ absurd (out (omega arith) z) | no z ↦ omega arith ] in
        let e : i ≡ length (take at d) + (length t + k) = omega (arith, p) in
        let f : i ≡ at + length t + k = omega arith in
        ap (λ (x : ℕ). get_or (take at d ++ (t ++ drop (at + length t) d)) x 0) e
        ∙ get_or-append-add (take at d) (t ++ drop (at + length t) d) (length t + k) 0
        ∙ get_or-append-add t (drop (at + length t) d) k 0
        ∙ get_or-drop (at + length t) d k 0
        ∙ ap (λ (x : ℕ). get_or d x 0) (sym f)

-- memory is known by the table in it and by the rest
pub over-known : (at : ℕ) (t d d' : List ℕ) → at + length t ≤ length d → length d' ≡ length d → ((i : ℕ) → i < length t → get_or d' (at + i) 0 ≡ get_or t i 0)
    → ((i : ℕ) → (at ≤ i → i < at + length t → ⊥) → get_or d' i 0 ≡ get_or d i 0) → d' ≡ over at t d
over-known at t d d' room l in' out =
    ext_get_or 0 d' (over at t d) (l ∙ sym (over-length at t d room)) (λ i lt. go i (dec_lt i at) (dec_lt i (at + length t)))
  where
    at_in : at ≤ length d
    at_in = omega arith

    go : (i : ℕ) → Dec (i < at) → Dec (i < at + length t) → get_or d' i 0 ≡ get_or (over at t d) i 0
    go i (yes lt) m = let o : at ≤ i → i < at + length t → ⊥ = λ a b. omega arith in out i o ∙ sym (over_out at t d i at_in o)
    go i (no ge) (yes lt) =
        let k = i - at in
        let e : i ≡ at + k = omega arith in
        ap (λ (x : ℕ). get_or d' x 0) e ∙ in' k (omega arith) ∙ sym (over_in at t d k at_in (omega arith)) ∙ ap (λ (x : ℕ). get_or (over at t d) x 0) (sym e)
    go i (no ge) (no gt) = let o : at ≤ i → i < at + length t → ⊥ = λ a b. omega arith in out i o ∙ sym (over_out at t d i at_in o)

-- two tables that lie apart can be written in either order
pub over_apart : (i j : ℕ) (l t d : List ℕ) → i + length l ≤ j → j + length t ≤ length d → over i l (over j t d) ≡ over j t (over i l d)
over_apart i j l t d h k =
    let m : length (over i l d) ≡ length d = over-length i l d (omega arith) in
    let n : length (over j t d) ≡ length d = over-length j t d k in
    over-known j t (over i l d) (over i l (over j t d)) (omega arith) (over-length i l (over j t d) (omega arith) ∙ n ∙ sym m)
    (λ q lt. over_out i l (over j t d) (j + q) (omega arith) (λ a b. omega arith) ∙ over_in j t d q (omega arith) lt)
    (λ q out. go q out (dec_lt q i) (dec_lt q (i + length l)))
  where
    n : length (over j t d) ≡ length d
    n = over-length j t d k

    same : (q : ℕ) → (j ≤ q → q < j + length t → ⊥) → (i ≤ q → q < i + length l → ⊥) → get_or (over i l (over j t d)) q 0 ≡ get_or (over i l d) q 0
    same q out o = over_out i l (over j t d) q (omega (arith, n)) o ∙ over_out j t d q (omega arith) out ∙ sym (over_out i l d q (omega arith) o)

    go : (q : ℕ) → (j ≤ q → q < j + length t → ⊥) → Dec (q < i) → Dec (q < i + length l) → get_or (over i l (over j t d)) q 0 ≡ get_or (over i l d) q 0
    go q out (yes a) b = same q out (λ x y. omega arith)
    go q out (no a) (no b) = same q out (λ x y. omega arith)
    go q out (no a) (yes b) =
        let r = q - i in
        let e : q ≡ i + r = omega arith in
        ap (λ (x : ℕ). get_or (over i l (over j t d)) x 0) e ∙ over_in i l (over j t d) r (omega (arith, n)) (omega arith)
        ∙ sym (ap (λ (x : ℕ). get_or (over i l d) x 0) e ∙ over_in i l d r (omega arith) (omega arith))
