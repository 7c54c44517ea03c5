-- Reading at a place of a text: what stands there, and where the text goes on. Assumes nothing.
use mathlib.Core.Path.{◌≡◌, refl, sym, ap, ◌∙◌}
use mathlib.Core.List.{List, [], ◌∷◌, ◌++◌}
use Prim.Native.Nat.{ℕ, suc, ◌+◌, ◌*◌, ◌<◌}
use native.Mathlib.Omega.{arith}
use lib.Dec.{eqb}
use lib.ListN.{length, get_or, drop, length-append}
use lib.Seq.{drop-cons, drop_at, drop-drop}
use Rattle.std.specs.Prelude.{Some}
use Rattle.rules.specs.Lists.{concat, sum}
use Rattle.rules.specs.Sorts.{Sort, sort_byte, widths}
use Rattle.rules.specs.Frames.{field, fields}
use Rattle.frames.specs.declared.Frame.{Frame}
use Rattle.frames.specs.Text.{sort_of, numbers_of, frame_text}
use Rattle.frames.proofs.Laws.{digits-length}
use Rattle.decode.specs.Lines.{if_some, only_if, digit_in, digits_in, end_in, frame_in}
use Rattle.decode.proofs.Lines.{inner, text-is, numbers-length, frame-back}

module _ (t : List ℕ) (at : ℕ) where
  -- a digit, and the digits behind it
  pub digits_here : (k n : ℕ) → at < length t → digits_in (suc k) n (drop at t) ≡ if_some (digit_in (get_or t at 0)) (λ d. digits_in k (n * 16 + d) (drop (suc at) t))
  digits_here k n h = ap (digits_in (suc k) n) (drop-cons t at 0 h)

  -- the end of a line
  pub end_here : at < length t → end_in (drop at t) ≡ only_if (eqb (get_or t at 0) 10) (drop (suc at) t)
  end_here h = ap end_in (drop-cons t at 0 h)

  -- behind a frame
  pub frame_place : (f : Frame) (rest : List ℕ) → frame_in (drop at t) ≡ Some (f, rest) → rest ≡ drop (at + length (frame_text f)) t
  frame_place f rest e =
      let z : frame_text f ++ rest ≡ drop at t = (frame-back (drop at t) (f, rest) e).0 in
      sym (drop_at (frame_text f) rest (length (frame_text f)) refl) ∙ ap (drop (length (frame_text f))) z ∙ drop-drop (length (frame_text f)) at t

-- how long the lines of a sort are: two digits a byte, and the end
abbrev pub line_size : Sort → ℕ
line_size s = 2 * (1 + sum (λ w. w) (widths s)) + 1

numbers-size : (ws ns : List ℕ) → length ns ≡ length ws → length (concat (fields ws ns)) ≡ 2 * sum (λ w. w) ws
numbers-size [] ns e = omega arith
numbers-size (w ∷ ws) [] e = absurd (omega arith)
numbers-size (w ∷ ws) (n ∷ ns) e =
    length-append (field w n) (concat (fields ws ns)) ∙ omega (arith, digits-length (w + w) n, numbers-size ws ns (omega arith))

pub text_size : (f : Frame) → length (frame_text f) ≡ line_size (sort_of f)
text_size f =
    let s = sort_of f in
    ap length (text-is f)
    ∙ length-append (inner s (numbers_of f)) (10 ∷ [])
    ∙ omega (arith, numbers-size (1 ∷ widths s) (sort_byte s ∷ numbers_of f) (omega (arith, numbers-length f)))
