-- A text is read as frames exactly where each of its lines is a legal frame ended by byte 10. Assumes nothing.
use mathlib.Core.Bool.{Bool as 𝔹, true, false, cond, false≢true}
use mathlib.Core.Logic.{◌↔◌}
use mathlib.Core.Path.{◌≡◌, refl, sym, ap, ap₂, ◌∙◌}
use mathlib.Core.List.{List, [], ◌∷◌, ◌++◌, append_assoc, append-nil}
use Prim.Native.Nat.{ℕ, zero, suc, ◌+◌, ◌/◌, ◌%◌}
use native.Mathlib.Omega.{arith}
use lib.Dec.{eqb, ltb}
use lib.ListN.{length}
use borrow.Author.Tests.{ne_eqb}
use Rattle.std.specs.Prelude.{Option, Some, None}
use Rattle.rules.specs.Lists.{concat, all}
use Rattle.rules.specs.Sorts.{sort_byte, widths}
use Rattle.rules.specs.Frames.{digit_of, digits, field, fields}
use Rattle.rules.proofs.Wellformed.Tests.{and-true, true-and}
use Rattle.frames.specs.declared.Frame.{Frame}
use Rattle.frames.specs.Text.{sort_of, numbers_of, frame_text}
use Rattle.decode.specs.Lines.{frame_in, frames_in, push_on, lines_in, whole_frame, legal_line}
use Rattle.decode.specs.Standing.{Each, legal_frame}
use Rattle.decode.proofs.Lines.{each-append, LegalFrames, text_all, inner, text-is, frame-there, frame-back, text-there, text-back}

-- ---- a line has one byte 10, its last

abbrev Inner : List ℕ → Type 0
Inner l = Each (λ c. eqb c 10 ≡ false) l

digit-inner : (n : ℕ) → eqb (digit_of n) 10 ≡ false
digit-inner n = go (ltb n 10)
  where
    go : (b : 𝔹) → eqb (cond b (n + 48) (n + 87)) 10 ≡ false
    go true = ne_eqb (n + 48) 10 (λ e. omega arith)
    go false = ne_eqb (n + 87) 10 (λ e. omega arith)

digits-inner : (k n : ℕ) (l : List ℕ) → Inner l → Inner (digits k n l)
digits-inner zero n l h = h
digits-inner (suc k) n l h = digits-inner k (n / 16) (digit_of (n % 16) ∷ l) (digit-inner (n % 16), h)

fields-inner : (ws ns : List ℕ) → Inner (concat (fields ws ns))
fields-inner [] ns = tt
fields-inner (w ∷ ws) [] = tt
fields-inner (w ∷ ws) (n ∷ ns) = each-append (λ c. eqb c 10 ≡ false) (field w n) (concat (fields ws ns)) (digits-inner (w + w) n [] tt) (fields-inner ws ns)

lines-front : (b l : List ℕ) → Inner b → lines_in (b ++ 10 ∷ l) ≡ (b ++ 10 ∷ []) ∷ lines_in l
lines-front [] l h = refl
lines-front (c ∷ b) l h = rw (h.0, lines-front b l h.1) refl

frame-split : (f : Frame) (l : List ℕ) → lines_in (frame_text f ++ l) ≡ frame_text f ∷ lines_in l
frame-split f l =
    let b = inner (sort_of f) (numbers_of f) in
    let t = text-is f in
    ap lines_in (ap (λ (z : List ℕ). z ++ l) t ∙ append_assoc b (10 ∷ []) l)
    ∙ lines-front b l (fields-inner (1 ∷ widths (sort_of f)) (sort_byte (sort_of f) ∷ numbers_of f))
    ∙ ap (λ (z : List ℕ). z ∷ lines_in l) (sym t)

-- ---- frames are lines, and legal lines are frames

legal_numbers-line : (f : Frame) → legal_frame f ≡ true → legal_line (frame_text f) ≡ true
legal_numbers-line f h = let e : frame_in (frame_text f) ≡ Some (f, []) = ap frame_in (sym (append-nil (frame_text f))) ∙ frame-there f [] h in ap whole_frame e

frames-lines : (fs : List Frame) → LegalFrames fs → all legal_line (lines_in (text_all fs)) ≡ true
frames-lines [] h = refl
frames-lines (f ∷ fs) h = rw (frame-split f (text_all fs)) (true-and (legal_numbers-line f h.0) (frames-lines fs h.1))

line-frame : (l : List ℕ) → legal_line l ≡ true → (f : Frame) × (frame_text f ≡ l) × (legal_frame f ≡ true)
line-frame l h = go (frame_in l) refl h
  where
    go : (o : Option (Frame × List ℕ)) → frame_in l ≡ o → whole_frame o ≡ true → (f : Frame) × (frame_text f ≡ l) × (legal_frame f ≡ true)
    go None e w = absurd (false≢true w)
    go (Some (f, [])) e w = let z = frame-back l (f, []) e in (f, sym (append-nil (frame_text f)) ∙ z.0, z.1)
    go (Some (f, c ∷ m)) e w = absurd (false≢true w)

lines-frames : (ls : List (List ℕ)) → all legal_line ls ≡ true → (fs : List Frame) × (text_all fs ≡ concat ls) × LegalFrames fs
lines-frames [] h = ([], refl, tt)
lines-frames (l ∷ ls) h =
    let z = and-true (legal_line l) (all legal_line ls) h in
    let a = line-frame l z.0 in
    let b = lines-frames ls z.1 in
    (a.0 ∷ b.0, ap₂ ◌++◌ a.1 b.1, (a.2, b.2))

push-concat : (c : ℕ) (ls : List (List ℕ)) → concat (push_on c ls) ≡ c ∷ concat ls
push-concat c [] = refl
push-concat c (l ∷ ls) = refl

lines-joined : (t : List ℕ) → concat (lines_in t) ≡ t
lines-joined [] = refl
lines-joined (c ∷ t) = go (eqb c 10) (lines-joined t)
  where
    go : (b : 𝔹) → concat (lines_in t) ≡ t → concat (cond b ((c ∷ []) ∷ lines_in t) (push_on c (lines_in t))) ≡ c ∷ t
    go true e = ap (λ (z : List ℕ). c ∷ z) e
    go false e = push-concat c (lines_in t) ∙ ap (λ (z : List ℕ). c ∷ z) e

pub lines_told : (t : List ℕ) → (all legal_line (lines_in t) ≡ true) ↔ ((fs : List Frame) × (frames_in t ≡ Some fs))
unfolding frames_in
lines_told t = (there, back)
  where
    there : all legal_line (lines_in t) ≡ true → (fs : List Frame) × (frames_in t ≡ Some fs)
    there h =
        let a = lines-frames (lines_in t) h in
        let e : text_all a.0 ≡ t = a.1 ∙ lines-joined t in
        (a.0, rw e at (text-there (length (text_all a.0)) a.0 a.2 (omega arith)))

    back : (fs : List Frame) × (frames_in t ≡ Some fs) → all legal_line (lines_in t) ≡ true
    back x = let z = text-back (length t) t x.0 x.1 in rw (← z.0) (frames-lines x.0 z.1)
