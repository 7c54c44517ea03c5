-- A legal frame is read from its line, and its line is what was read. Assumes nothing.
use mathlib.Core.Bool.{Bool as 𝔹, true, false, not, cond, ◌&&◌, false≢true}
use mathlib.Core.Path.{◌≡◌, refl, sym, ap, ap₂, ◌∙◌}
use mathlib.Core.List.{List, [], ◌∷◌, ◌++◌, map, append_assoc}
use Prim.Native.Nat.{ℕ, zero, suc, ◌+◌, ◌-◌, ◌*◌, ◌/◌, ◌%◌, ◌^◌, ◌≤◌, ◌<◌}
use native.Mathlib.Nat.{mod-lt, div-lt_iff_lt-mul}
use native.Mathlib.Omega.{arith}
use lib.Dec.{eqb, leb, ltb, lit<}
use lib.ListN.{length, length-append}
use borrow.Author.Tests.{eqb-true, ltb-true, ltb-false, leb-true, lt-ltb, le-leb, lt-leb}
use Rattle.std.specs.Prelude.{Option, Some, None, find, option_map}
use Rattle.kinds.specs.Kinds.{bit_of}
use Rattle.rules.specs.Lists.{concat}
use Rattle.rules.specs.Sorts.{Sort, of_totals, of_block, of_kind, of_use, of_caller, of_refusal, sort_byte, widths}
use Rattle.rules.specs.Frames.{digit_of, digits, field, fields, frame_line, refusal_frame}
use Rattle.rules.proofs.Wellformed.Tests.{and-true}
use Rattle.frames.specs.declared.Frame.{Frame}
use Rattle.frames.specs.declared.Frame.TheVariants as F
use Rattle.frames.proofs.Laws.{digits-front}
use Rattle.frames.specs.Table.{sorts, sort_from}
use Rattle.frames.specs.Text.{sort_of, numbers_of, frame_text}
use Rattle.decode.specs.Lines.{if_some, only_if, digit_in, digits_in, numbers_in, end_in, number_limits, all_below, legal_numbers, frame_from, legal_from, behind_byte, frame_in, frames_from}
use Rattle.decode.specs.Standing.{Each, legal_frame}

-- ---- options

pub Some-same : {A : Type 0} {x y : A} → Some x ≡ Some y → x ≡ y
Some-same e = cc

pub None-Some : {A B : Type 0} {y : A} → ◌≡◌ {A = Option A} None (Some y) → B
None-Some {A = A} e = absurd (false≢true (ap (λ (o : Option A). elim o [ None ↦ false | Some x ↦ true ]) e))

-- the first of two was there
pub came : {A B : Type 0} (m : Option A) (k : A → Option B) {r : B} → if_some m k ≡ Some r → (a : A) × (m ≡ Some a) × (k a ≡ Some r)
came None k e = None-Some e
came (Some a) k e = (a, refl, e)

pub kept_only : {A : Type 0} (b : 𝔹) (x : A) {r : A} → only_if b x ≡ Some r → (b ≡ true) × (x ≡ r)
kept_only true x e = (refl, Some-same e)
kept_only false x e = None-Some e

-- ---- digits

digit-there : (d : ℕ) → d < 16 → digit_in (digit_of d) ≡ Some d
digit-there d h = go (ltb d 10) refl
  where
    go : (b : 𝔹) → ltb d 10 ≡ b → digit_in (digit_of d) ≡ Some d
    go true p =
        let k = ltb-true d 10 p in
        let s : d + 48 - 48 ≡ d = omega arith in
        rw (p, le-leb 48 (d + 48) (omega arith), lt-ltb (d + 48) 58 (omega arith), s) refl
    go false p =
        let k = ltb-false d 10 p in
        let s : d + 87 - 87 ≡ d = omega arith in
        rw (p, not_digit (d + 87) (omega arith), le-leb 97 (d + 87) (omega arith), lt-ltb (d + 87) 103 (omega arith), s) refl
      where
        not_digit : (c : ℕ) → 58 ≤ c → leb 48 c && ltb c 58 ≡ false
        not_digit c l = rw (le-leb 48 c (omega arith), borrow.Author.Tests.le-ltb c 58 l) refl

pub digit-back : (c d : ℕ) → digit_in c ≡ Some d → (digit_of d ≡ c) × (d < 16)
digit-back c d = go (leb 48 c && ltb c 58) (leb 97 c && ltb c 103) refl refl
  where
    go : (p q : 𝔹) → leb 48 c && ltb c 58 ≡ p → leb 97 c && ltb c 103 ≡ q
        → cond p (Some (c - 48)) (cond q (Some (c - 87)) None) ≡ Some d → (digit_of d ≡ c) × (d < 16)
    go true q p' q' e =
        let a = and-true (leb 48 c) (ltb c 58) p' in
        let l = leb-true 48 c a.0 in
        let h = ltb-true c 58 a.1 in
        let x : c - 48 ≡ d = Some-same e in
        let y : c ≡ d + 48 = omega arith in
        (rw (lt-ltb d 10 (omega arith)) (sym y), omega arith)
    go false true p' q' e =
        let a = and-true (leb 97 c) (ltb c 103) q' in
        let l = leb-true 97 c a.0 in
        let h = ltb-true c 103 a.1 in
        let x : c - 87 ≡ d = Some-same e in
        let y : c ≡ d + 87 = omega arith in
        (rw (borrow.Author.Tests.le-ltb d 10 (omega arith)) (sym y), omega arith)
    go false false p' q' e = None-Some e

-- ---- numbers

-- the last digit, behind the others
last : ℕ × List ℕ → Option (ℕ × List ℕ)
last x = digits_in 1 x.0 x.1

number-last : (k n : ℕ) (l : List ℕ) → digits_in (suc k) n l ≡ if_some (digits_in k n l) last
unfolding last
number-last zero n [] = refl
number-last zero n (c ∷ l) = refl
number-last (suc k) n [] = refl
number-last (suc k) n (c ∷ l) = go (λ d. number-last k (n * 16 + d) l) (digit_in c)
  where
    go : ((d : ℕ) → digits_in (suc k) (n * 16 + d) l ≡ if_some (digits_in k (n * 16 + d) l) last)
        → (o : Option ℕ) → if_some o (λ d. digits_in (suc k) (n * 16 + d) l) ≡ if_some (if_some o (λ d. digits_in k (n * 16 + d) l)) last
    go h None = refl
    go h (Some d) = h d

number-there : (k n : ℕ) (l : List ℕ) → n < 16 ^ k → digits_in k 0 (digits k n l) ≡ Some (n, l)
unfolding last
number-there zero n l h = let z : n ≡ 0 = omega arith in rw z refl
number-there (suc k) n l h =
    let m : n / 16 < 16 ^ k = (div-lt_iff_lt-mul (lit< tt)).1 (omega arith) in
    let d = mod-lt n {m = 16} (lit< tt) in
    let s : n / 16 * 16 + n % 16 ≡ n = omega arith in
    number-last k 0 (digits k (n / 16) (digit_of (n % 16) ∷ l))
    ∙ rw (number-there k (n / 16) (digit_of (n % 16) ∷ l) m, digit-there (n % 16) d, s) refl

pub number-back : (k : ℕ) (l : List ℕ) (x : ℕ × List ℕ) → digits_in k 0 l ≡ Some x → (digits k x.0 x.1 ≡ l) × (x.0 < 16 ^ k)
unfolding last
number-back zero l x e = let z = Some-same e in (ap (λ (y : ℕ × List ℕ). y.1) (sym z), rw (← z) (lit< tt))
number-back (suc k) l x e =
    let c = came (digits_in k 0 l) last (sym (number-last k 0 l) ∙ e) in
    go c.0.0 c.0.1 (number-back k l c.0 c.1) c.2
  where
    go : (m : ℕ) (r : List ℕ) → (digits k m r ≡ l) × (m < 16 ^ k) → digits_in 1 m r ≡ Some x → (digits (suc k) x.0 x.1 ≡ l) × (x.0 < 16 ^ suc k)
    go m [] h q = None-Some q
    go m (y ∷ r) h q =
        let c = came (digit_in y) (λ d. digits_in 0 (m * 16 + d) r) q in
        let d = c.0 in
        let b = digit-back y d c.1 in
        let z : (m * 16 + d, r) ≡ x = Some-same c.2 in
        let lt = b.1 in
        let ml = h.1 in
        let u : (m * 16 + d) / 16 ≡ m = omega arith in
        let v : (m * 16 + d) % 16 ≡ d = omega arith in
        rw (← z) (rw (u, v, b.0) h.0, omega arith)

-- ---- numbers of several widths

-- as many numbers as widths, each within its width
abbrev Fits : List ℕ → List ℕ → Type 0
Fits [] [] = Unit {0}
Fits [] (n ∷ ns) = ⊥
Fits (w ∷ ws) [] = ⊥
Fits (w ∷ ws) (n ∷ ns) = (n < 16 ^ (w + w)) × Fits ws ns

-- in front of l
fields-front : (w n : ℕ) (ws ns l : List ℕ) → concat (fields (w ∷ ws) (n ∷ ns)) ++ l ≡ digits (w + w) n (concat (fields ws ns) ++ l)
fields-front w n ws ns l = append_assoc (field w n) (concat (fields ws ns)) l ∙ sym (digits-front (w + w) n (concat (fields ws ns) ++ l))

numbers-there : (ws ns l : List ℕ) → Fits ws ns → numbers_in ws (concat (fields ws ns) ++ l) ≡ Some (ns, l)
numbers-there [] [] l h = refl
numbers-there [] (n ∷ ns) l h = absurd h
numbers-there (w ∷ ws) [] l h = absurd h
numbers-there (w ∷ ws) (n ∷ ns) l h = rw (fields-front w n ws ns l, number-there (w + w) n (concat (fields ws ns) ++ l) h.0, numbers-there ws ns l h.1) refl

numbers-back : (ws l : List ℕ) (y : List ℕ × List ℕ) → numbers_in ws l ≡ Some y → (concat (fields ws y.0) ++ y.1 ≡ l) × Fits ws y.0
numbers-back [] l y e = let z = Some-same e in rw (← z) (refl, tt)
numbers-back (w ∷ ws) l y e =
    let a = came (digits_in (w + w) 0 l) _ e in
    let b = came (numbers_in ws a.0.1) _ a.2 in
    joined a.0 b.0 (number-back (w + w) l a.0 a.1) (numbers-back ws a.0.1 b.0 b.1) (Some-same b.2)
  where
    joined : (x : ℕ × List ℕ) (r : List ℕ × List ℕ) → (digits (w + w) x.0 x.1 ≡ l) × (x.0 < 16 ^ (w + w)) → (concat (fields ws r.0) ++ r.1 ≡ x.1) × Fits ws r.0
        → (x.0 ∷ r.0, r.1) ≡ y → (concat (fields (w ∷ ws) y.0) ++ y.1 ≡ l) × Fits (w ∷ ws) y.0
    joined x r n m z = rw (← z) (fields-front w x.0 ws r.0 r.1 ∙ rw (m.0) n.0, (n.1, m.1))

-- ---- sorts, ends

find-back : (f : Sort → 𝔹) (l : List Sort) (s : Sort) → find f l ≡ Some s → f s ≡ true
find-back f [] s e = None-Some e
find-back f (x ∷ l) s e = go (f x) refl (λ q. find-back f l s q) e
  where
    go : (b : 𝔹) → f x ≡ b → (find f l ≡ Some s → f s ≡ true) → cond b (Some x) (find f l) ≡ Some s → f s ≡ true
    go true p h q = rw (← Some-same q) p
    go false p h q = h q

byte-there : (s : Sort) → (sort_from (sort_byte s) ≡ Some s) × (sort_byte s < 16 ^ 2)
byte-there of_totals = (refl, lit< tt)
byte-there of_block = (refl, lit< tt)
byte-there of_kind = (refl, lit< tt)
byte-there of_use = (refl, lit< tt)
byte-there of_caller = (refl, lit< tt)
byte-there of_refusal = (refl, lit< tt)

end-back : (l r : List ℕ) → end_in l ≡ Some r → l ≡ 10 ∷ r
end-back [] r e = None-Some e
end-back (c ∷ l) r e = let z = kept_only (eqb c 10) l e in ap₂ (λ (x : ℕ) (y : List ℕ). x ∷ y) (eqb-true c 10 z.0) z.1

-- ---- the table's limits are within its widths

abbrev within_widths : List ℕ → List ℕ → 𝔹
within_widths [] ls = true
within_widths (w ∷ ws) [] = true
within_widths (w ∷ ws) (l ∷ ls) = leb l (16 ^ (w + w)) && within_widths ws ls

limits-within : (s : Sort) → within_widths (widths s) (number_limits s) ≡ true
limits-within of_totals = refl
limits-within of_block = refl
limits-within of_kind = refl
limits-within of_use = refl
limits-within of_caller = refl
limits-within of_refusal = refl

below_fits : (ws ls ns : List ℕ) → length ls ≡ length ws → length ns ≡ length ws → within_widths ws ls ≡ true → all_below ns ls ≡ true → Fits ws ns
below_fits [] ls [] e f w b = tt
below_fits [] ls (n ∷ ns) e f w b = absurd (omega arith)
below_fits (v ∷ ws) ls [] e f w b = absurd (omega arith)
below_fits (v ∷ ws) [] (n ∷ ns) e f w b = absurd (omega arith)
below_fits (v ∷ ws) (l ∷ ls) (n ∷ ns) e f w b =
    let x = and-true (leb l (16 ^ (v + v))) (within_widths ws ls) w in
    let y = and-true (ltb n l) (all_below ns ls) b in
    let p = leb-true l (16 ^ (v + v)) x.0 in
    let q = ltb-true n l y.0 in
    (omega arith, below_fits ws ls ns (omega arith) (omega arith) x.1 y.1)

limits-length : (s : Sort) → length (number_limits s) ≡ length (widths s)
limits-length of_totals = refl
limits-length of_block = refl
limits-length of_kind = refl
limits-length of_use = refl
limits-length of_caller = refl
limits-length of_refusal = refl

pub numbers-length : (f : Frame) → length (numbers_of f) ≡ length (widths (sort_of f))
numbers-length (F.Totals t) = refl
numbers-length (F.Block b t) = refl
numbers-length (F.Kind i t p) = refl
numbers-length (F.Use i u) = refl
numbers-length (F.Caller f i) = refl
numbers-length (F.Refusal n) = refl

-- ---- frames

legal_fits : (f : Frame) → legal_frame f ≡ true → Fits (widths (sort_of f)) (numbers_of f)
unfolding legal_numbers
legal_fits f h =
    let s = sort_of f in
    below_fits (widths s) (number_limits s) (numbers_of f) (limits-length s) (numbers-length f) (limits-within s) (and-true (all_below (numbers_of f) (number_limits s)) _ h).0

-- a frame is that of its numbers
frame-again : (f : Frame) → frame_from (sort_of f) (numbers_of f) ≡ f
frame-again (F.Totals t) = refl
frame-again (F.Block b true) = refl
frame-again (F.Block b false) = refl
frame-again (F.Kind i t p) = refl
frame-again (F.Use i u) = refl
frame-again (F.Caller f i) = refl
frame-again (F.Refusal n) = refl

pub bit_again : (t : ℕ) → t < 2 → bit_of (not (eqb t 0)) ≡ t
bit_again zero h = refl
bit_again (suc zero) h = refl
bit_again (suc (suc t)) h = absurd (omega arith)

-- and the numbers of a legal frame are that frame's
numbers-again : (s : Sort) (ns : List ℕ) → Fits (widths s) ns → legal_numbers s ns ≡ true → (sort_of (frame_from s ns) ≡ s) × (numbers_of (frame_from s ns) ≡ ns)
unfolding legal_numbers
numbers-again of_totals (a ∷ b ∷ c ∷ d ∷ []) h l = (refl, refl)
numbers-again of_block (a ∷ b ∷ []) h l =
    let x = (and-true (all_below (a ∷ b ∷ []) (number_limits of_block)) true l).0 in
    let y = (and-true (ltb b 2) true (and-true (ltb a _) (ltb b 2 && true) x).1).0 in
    (refl, rw (bit_again b (ltb-true b 2 y)) refl)
numbers-again of_kind (a ∷ b ∷ c ∷ []) h l = (refl, refl)
numbers-again of_use (a ∷ b ∷ []) h l = (refl, refl)
numbers-again of_caller (a ∷ b ∷ []) h l = (refl, refl)
numbers-again of_refusal (a ∷ []) h l = (refl, refl)
numbers-again of_totals [] h l = absurd h
numbers-again of_totals (a ∷ []) h l = absurd h.1
numbers-again of_totals (a ∷ b ∷ []) h l = absurd h.1.1
numbers-again of_totals (a ∷ b ∷ c ∷ []) h l = absurd h.1.1.1
numbers-again of_totals (a ∷ b ∷ c ∷ d ∷ e ∷ ns) h l = absurd h.1.1.1.1
numbers-again of_block [] h l = absurd h
numbers-again of_block (a ∷ []) h l = absurd h.1
numbers-again of_block (a ∷ b ∷ c ∷ ns) h l = absurd h.1.1
numbers-again of_kind [] h l = absurd h
numbers-again of_kind (a ∷ []) h l = absurd h.1
numbers-again of_kind (a ∷ b ∷ []) h l = absurd h.1.1
numbers-again of_kind (a ∷ b ∷ c ∷ d ∷ ns) h l = absurd h.1.1.1
numbers-again of_use [] h l = absurd h
numbers-again of_use (a ∷ []) h l = absurd h.1
numbers-again of_use (a ∷ b ∷ c ∷ ns) h l = absurd h.1.1
numbers-again of_caller [] h l = absurd h
numbers-again of_caller (a ∷ []) h l = absurd h.1
numbers-again of_caller (a ∷ b ∷ c ∷ ns) h l = absurd h.1.1
numbers-again of_refusal [] h l = absurd h
numbers-again of_refusal (a ∷ b ∷ ns) h l = absurd h.1

-- ---- frames and their lines

-- the bytes of a line before its end
abbrev pub inner : Sort → List ℕ → List ℕ
inner s ns = concat (fields (1 ∷ widths s) (sort_byte s ∷ ns))

pub text-is : (f : Frame) → frame_text f ≡ inner (sort_of f) (numbers_of f) ++ 10 ∷ []
unfolding frame_line refusal_frame
text-is (F.Totals t) = refl
text-is (F.Block b t) = refl
text-is (F.Kind i t p) = refl
text-is (F.Use i u) = refl
text-is (F.Caller f i) = refl
text-is (F.Refusal n) = refl

line-front : (s : Sort) (ns l : List ℕ) → (inner s ns ++ 10 ∷ []) ++ l ≡ digits 2 (sort_byte s) (concat (fields (widths s) ns) ++ 10 ∷ l)
line-front s ns l = append_assoc (inner s ns) (10 ∷ []) l ∙ fields-front 1 (sort_byte s) (widths s) ns (10 ∷ l)

pub frame-there : (f : Frame) (l : List ℕ) → legal_frame f ≡ true → frame_in (frame_text f ++ l) ≡ Some (f, l)
unfolding frame_in behind_byte legal_from
frame-there f l h =
    let s = sort_of f in
    let b = byte-there s in
    ap frame_in (ap (λ (z : List ℕ). z ++ l) (text-is f) ∙ line-front s (numbers_of f) l)
    ∙ rw (
      number-there 2 (sort_byte s) (concat (fields (widths s) (numbers_of f)) ++ 10 ∷ l) b.1,
      b.0,
      numbers-there (widths s) (numbers_of f) (10 ∷ l) (legal_fits f h),
      h,
      frame-again f,
    )
    refl

only-mapped : (b : 𝔹) (f : Frame) (rest : List ℕ) → only_if {A = Frame × List ℕ} b (f, rest) ≡ option_map {U = Frame × List ℕ} (λ (f : Frame). (f, rest)) (only_if b f)
only-mapped true f rest = refl
only-mapped false f rest = refl

pub frame-back : (l : List ℕ) (x : Frame × List ℕ) → frame_in l ≡ Some x → (frame_text x.0 ++ x.1 ≡ l) × (legal_frame x.0 ≡ true)
unfolding frame_in behind_byte legal_from
frame-back l x e =
    let a = came (digits_in 2 0 l) _ e in
    let b = came (sort_from a.0.0) _ a.2 in
    let c = came (numbers_in (widths b.0) a.0.1) _ b.2 in
    let d = came (end_in c.0.1) _ c.2 in
    let g = kept_only (legal_numbers b.0 c.0.0) (frame_from b.0 c.0.0, d.0) (only-mapped (legal_numbers b.0 c.0.0) (frame_from b.0 c.0.0) d.0 ∙ d.2) in
    let n = numbers-back (widths b.0) a.0.1 c.0 c.1 in
    let r = numbers-again b.0 c.0.0 n.1 g.0 in
    rw (← g.1) (joined a.0 b.0 c.0 d.0 (frame_from b.0 c.0.0)
    (number-back 2 l a.0 a.1).0
    (eqb-true (sort_byte b.0) a.0.0 (find-back (λ s. eqb (sort_byte s) a.0.0) sorts b.0 b.1))
    n.0
    (end-back c.0.1 d.0 d.1)
    r
    g.0)
  where
    joined : (t : ℕ × List ℕ) (s : Sort) (ns : List ℕ × List ℕ) (rest : List ℕ) (f : Frame)
        → digits 2 t.0 t.1 ≡ l → sort_byte s ≡ t.0 → concat (fields (widths s) ns.0) ++ ns.1 ≡ t.1 → ns.1 ≡ 10 ∷ rest
        → (sort_of f ≡ s) × (numbers_of f ≡ ns.0) → legal_numbers s ns.0 ≡ true → (frame_text f ++ rest ≡ l) × (legal_frame f ≡ true)
    joined t s ns rest f p q r u v h =
        (ap (λ (z : List ℕ). z ++ rest) (text-is f ∙ ap₂ (λ (x : Sort) (y : List ℕ). inner x y ++ 10 ∷ []) v.0 v.1) ∙ line-front s ns.0 rest ∙ rw (← u, q, r) p, rw (v.0, v.1) h)

-- ---- texts

pub text_long : (f : Frame) → 0 < length (frame_text f)
text_long f = rw (text-is f) (omega (arith, length-append (inner (sort_of f) (numbers_of f)) (10 ∷ [])))

abbrev pub text_all : List Frame → List ℕ
text_all fs = concat (map frame_text fs)

pub each-append : {A : Type 0} (P : A → Type 0) (l m : List A) → Each P l → Each P m → Each P (l ++ m)
each-append P [] m h g = g
each-append P (x ∷ l) m h g = (h.0, each-append P l m h.1 g)

abbrev pub LegalFrames : List Frame → Type 0
LegalFrames fs = Each (λ f. legal_frame f ≡ true) fs

step-frames : (turns : ℕ) (t : List ℕ) (x : Frame × List ℕ) → frame_in t ≡ Some x → frames_from (suc turns) t ≡ if_some (frames_from turns x.1) (λ fs. Some (x.0 ∷ fs))
unfolding frame_in behind_byte
step-frames turns [] x e = None-Some e
step-frames turns (c ∷ t) x e = rw e refl

pub text-there : (turns : ℕ) (fs : List Frame) → LegalFrames fs → length (text_all fs) ≤ turns → frames_from turns (text_all fs) ≡ Some fs
text-there zero [] h le = refl
text-there (suc turns) [] h le = refl
text-there zero (f ∷ fs) h le = absurd (omega (arith, text_long f, length-append (frame_text f) (text_all fs)))
text-there (suc turns) (f ∷ fs) h le =
    let a = text_long f in
    let b = length-append (frame_text f) (text_all fs) in
    step-frames turns (frame_text f ++ text_all fs) (f, text_all fs) (frame-there f (text_all fs) h.0)
    ∙ rw (text-there turns fs h.1 (omega arith)) refl

pub text-back : (turns : ℕ) (t : List ℕ) (fs : List Frame) → frames_from turns t ≡ Some fs → (text_all fs ≡ t) × LegalFrames fs
text-back turns [] fs e = rw (← Some-same e) (refl, tt)
text-back zero (c ∷ t) fs e = None-Some e
text-back (suc turns) (c ∷ t) fs e =
    let a = came (frame_in (c ∷ t)) _ e in
    let b = came (frames_from turns a.0.1) _ a.2 in
    let z : a.0.0 ∷ b.0 ≡ fs = Some-same b.2 in
    let r = text-back turns a.0.1 b.0 b.1 in
    let l = frame-back (c ∷ t) a.0 a.1 in
    rw (← z) (ap (λ (m : List ℕ). frame_text a.0.0 ++ m) r.0 ∙ l.0, (l.1, r.1))
