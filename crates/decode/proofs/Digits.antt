-- What a number's loop keeps. Assumes nothing.
use mathlib.Core.Path.{◌≡◌, refl, sym, ap, ◌∙◌}
use mathlib.Core.List.{List, [], ◌∷◌, ◌++◌, append_assoc, append-nil}
use Prim.Native.Nat.{ℕ, suc, ◌+◌, ◌-◌, ◌*◌, ◌^◌, ◌≤◌, ◌<◌}
use native.Mathlib.Nat.{pow-succ', pow-le-pow_right, le_trans}
use native.Mathlib.Omega.{arith}
use lib.ListN.{length, get_or, set, take, drop, drop_of_length-le, length-set}
use lib.Seq.{drop-cons, take_all, take-suc-set}
use Rattle.std.specs.Prelude.{Option, Some, None, option_map}
use Rattle.decode.specs.Lines.{if_some, digit_in, digits_in, numbers_in}
use Rattle.decode.proofs.Lines.{digit-back}
use Rattle.decode.proofs.Places.{digits_here}

pub record Numbering (t : List ℕ) (at k n i : ℕ) : Type 0 where
  pub in_range : i ≤ k
  pub small : n < 16 ^ i
  pub is : digits_in k 0 (drop at t) ≡ digits_in (k - i) n (drop (at + i) t)
  pub fits : at + i ≤ length t

pub numbering_start : (t : List ℕ) (at k : ℕ) → at ≤ length t → Numbering t at k 0 0
numbering_start t at k le = let a : k - 0 ≡ k = omega arith in let b : at + 0 ≡ at = omega arith in record { in_range = omega arith; small = omega arith; is = rw (a, b) refl; fits = omega arith }

pub small_64 : (n i : ℕ) → n < 16 ^ i → i < 16 → n < 2 ^ 60
small_64 n i h lt =
    let w : i ≤ 15 = omega arith in
    let p : 16 ^ i ≤ 16 ^ 15 = pow-le-pow_right (let q : 0 < 16 = omega arith in q) w in
    le_trans h (omega (arith, p))

module _ {t : List ℕ} {at k n i : ℕ} (g : Numbering t at k n i) (lt : i < k) where
  here : at + i < length t → digits_in k 0 (drop at t) ≡ if_some (digit_in (get_or t (at + i) 0)) (λ d. digits_in (k - (i + 1)) (n * 16 + d) (drop (at + (i + 1)) t))
  here h =
      let a : k - i ≡ suc (k - (i + 1)) = omega arith in
      let b : suc (at + i) ≡ at + (i + 1) = omega arith in
      g.is ∙ rw a (digits_here t (at + i) (k - (i + 1)) n h ∙ rw b refl)

  pub numbering_more : {d : ℕ} → at + i < length t → Some d ≡ digit_in (get_or t (at + i) 0) → Numbering t at k (n * 16 + d) (i + 1)
  numbering_more {d} h e =
      let b = digit-back (get_or t (at + i) 0) d (sym e) in
      let s = g.small in
      let z = b.1 in
      let p : 16 ^ (i + 1) ≡ 16 * 16 ^ i = let q : i + 1 ≡ suc i = omega arith in ap (λ (x : ℕ). 16 ^ x) q ∙ pow-succ' 16 i in
      record { in_range = omega arith; small = omega (arith, p); is = here h ∙ rw (← e) refl; fits = omega arith }

  pub numbering_bad : at + i < length t → None ≡ digit_in (get_or t (at + i) 0) → digits_in k 0 (drop at t) ≡ None
  numbering_bad h e = here h ∙ rw (← e) refl

  pub numbering_short : length t ≤ at + i → digits_in k 0 (drop at t) ≡ None
  numbering_short h =
      let a : k - i ≡ suc (k - (i + 1)) = omega arith in
      g.is ∙ rw (a, drop_of_length-le t h) refl

pub numbering_done : {t : List ℕ} {at k n i : ℕ} → Numbering t at k n i → k ≤ i → (digits_in k 0 (drop at t) ≡ Some (n, drop (at + k) t)) × (at + k ≤ length t)
numbering_done {t} {at} {k} {n} {i} g h =
    let a : k - i ≡ 0 = omega (arith, g.in_range) in
    let b : i ≡ k = omega (arith, g.in_range) in
    (g.is ∙ rw (a, b) refl, omega (arith, g.fits))

-- ---- several

-- numbers in front of those that are read
abbrev pub in_front : List ℕ → Option (List ℕ × List ℕ) → Option (List ℕ × List ℕ)
in_front l o = option_map (λ y. (l ++ y.0, y.1)) o

pub record Several (t : List ℕ) (start : ℕ) (ws out : List ℕ) (k at : ℕ) : Type 0 where
  pub in_range : k ≤ length ws
  pub len_same : length out ≡ length ws
  pub fits : at ≤ length t
  pub is : numbers_in ws (drop start t) ≡ in_front (take k out) (numbers_in (drop k ws) (drop at t))

pub several_start : (t : List ℕ) (start : ℕ) (ws out : List ℕ) → length ws ≡ length out → start ≤ length t → Several t start ws out 0 start
several_start t start ws out e le = record { in_range = omega arith; len_same = sym e; fits = le; is = same (numbers_in ws (drop start t)) }
  where
    same : (o : Option (List ℕ × List ℕ)) → o ≡ in_front [] o
    same None = refl
    same (Some y) = refl

module _ {t : List ℕ} {start : ℕ} {ws out : List ℕ} {k at : ℕ} (g : Several t start ws out k at) (lt : k < length ws) where
  pub several_bad : {w : ℕ} → w ≡ get_or ws k 0 → digits_in (2 * w) 0 (drop at t) ≡ None → numbers_in ws (drop start t) ≡ None
  several_bad {w} e n =
      let d : w + w ≡ 2 * w = omega arith in
      g.is ∙ rw (drop-cons ws k 0 lt, ← e, d, n) refl

  pub several_more : {w n : ℕ} → w ≡ get_or ws k 0 → digits_in (2 * w) 0 (drop at t) ≡ Some (n, drop (at + 2 * w) t) → at + 2 * w ≤ length t
      → Several t start ws (set out k n) (k + 1) (at + 2 * w)
  several_more {w} {n} e d f =
      let z : w + w ≡ 2 * w = omega arith in
      let s : k + 1 ≡ suc k = omega arith in
      let lo : k < length out = omega (arith, g.len_same) in
      record {
        in_range = omega arith;
        len_same = length-set out k n ∙ g.len_same;
        fits = f;
        is = g.is ∙ rw (drop-cons ws k 0 lt, ← e, z, d, s, take-suc-set out k n lo) (joined (take k out) n (numbers_in (drop (suc k) ws) (drop (at + 2 * w) t)));
      }
    where
      joined : (l : List ℕ) (n : ℕ) (o : Option (List ℕ × List ℕ)) → in_front l (if_some o (λ y. Some (n ∷ y.0, y.1))) ≡ in_front (l ++ n ∷ []) o
      joined l n None = refl
      joined l n (Some y) = rw (append_assoc l (n ∷ []) y.0) refl

pub several_done : {t : List ℕ} {start : ℕ} {ws out : List ℕ} {k at : ℕ} → Several t start ws out k at → length out ≤ k → (numbers_in ws (drop start t) ≡ Some (out, drop at t)) × (at ≤ length t)
several_done {t} {start} {ws} {out} {k} {at} g le =
    let a : k ≡ length out = omega (arith, g.in_range, g.len_same) in
    let l : length ws ≤ k = omega (arith, g.len_same) in
    let m : length out ≤ k = omega arith in
    (g.is ∙ rw (take_all k out m, drop_of_length-le ws l, append-nil out) refl, g.fits)
