-- Reading goes on frame by frame: what is read of a text from a place on. Assumes nothing.
use mathlib.Core.Bool.{Bool as 𝔹, true, false, ◌&&◌}
use mathlib.Core.Path.{◌≡◌, refl, ap}
use mathlib.Core.List.{List, [], ◌∷◌, ◌++◌}
use Prim.Native.Nat.{ℕ, zero, suc, ◌≤◌, ◌<◌}
use native.Mathlib.Omega.{arith}
use lib.ListN.{length, length-append}
use Rattle.std.specs.Prelude.{Option, Some, None}
use Rattle.rules.specs.Actions.{refused, if_answered}
use Rattle.frames.specs.declared.Frame.{Frame}
use Rattle.decode.specs.Lines.{if_some, frame_in, frames_from, frames_in}
use Rattle.rules.proofs.Wellformed.Tables.{final_snoc}
use Rattle.decode.specs.Stored.{pair_before, pair_follows, Progress, read_frame, read_end, read_rest, or_refused, read_from}
use Rattle.decode.proofs.Lines.{None-Some, frame-back, text_long}

-- behind a frame less is left
pub frame_shorter : (t : List ℕ) (f : Frame) (rest : List ℕ) → frame_in t ≡ Some (f, rest) → length rest < length t
frame_shorter t f rest e = rw (← (frame-back t (f, rest) e).0, length-append) (omega (arith, text_long f))

more_turns : (m n : ℕ) (t : List ℕ) → length t ≤ m → length t ≤ n → frames_from m t ≡ frames_from n t
more_turns m n [] p q = refl
more_turns zero n (c ∷ t) p q = absurd (omega arith)
more_turns (suc m) zero (c ∷ t) p q = absurd (omega arith)
more_turns (suc m) (suc n) (c ∷ t) p q = go (frame_in (c ∷ t)) refl (λ rest u v. more_turns m n rest u v)
  where
    go : (o : Option (Frame × List ℕ)) → frame_in (c ∷ t) ≡ o → ((rest : List ℕ) → length rest ≤ m → length rest ≤ n → frames_from m rest ≡ frames_from n rest)
        → if_some o (λ x. if_some (frames_from m x.1) (λ fs. Some (x.0 ∷ fs))) ≡ if_some o (λ x. if_some (frames_from n x.1) (λ fs. Some (x.0 ∷ fs)))
    go None e h = refl
    go (Some (f, rest)) e h = let lt = frame_shorter (c ∷ t) f rest e in rw (h rest (omega arith) (omega arith)) refl

-- the frames of a text: its first, and those of the rest
frames-next : (t : List ℕ) (f : Frame) (rest : List ℕ) → frame_in t ≡ Some (f, rest) → frames_in t ≡ if_some (frames_in rest) (λ fs. Some (f ∷ fs))
unfolding frame_in frames_in
frames-next [] f rest e = None-Some e
frames-next (c ∷ t) f rest e =
    let lt = frame_shorter (c ∷ t) f rest e in
    rw (e, more_turns (length t) (length rest) rest (omega arith) (omega arith)) refl

-- at the end of the text
pub read_done : (p : Option Progress) → read_from p [] ≡ or_refused 22 (if_some p read_end)
unfolding read_from frames_in
read_done None = refl
read_done (Some q) = refl

-- where no legal frame stands
pub read_bad : (p : Option Progress) (t : List ℕ) → 0 < length t → frame_in t ≡ None → read_from p t ≡ refused 21
unfolding read_from frames_in
read_bad p [] h e = absurd (omega arith)
read_bad p (c ∷ t) h e = rw e refl

-- behind a legal frame: question 22 may refuse it, and then only 21 is asked of the rest
pub read_next : (p : Option Progress) (t : List ℕ) (f : Frame) (rest : List ℕ) → frame_in t ≡ Some (f, rest) → read_from p t ≡ read_from (if_some p (λ q. read_frame q f)) rest
unfolding read_from
read_next p t f rest e = rw (frames-next t f rest e) (go (frames_in rest) p)
  where
    one : (p : Option Progress) (fs : List Frame) → if_some p (λ q. read_rest q (f ∷ fs)) ≡ if_some (if_some p (λ q. read_frame q f)) (λ q. read_rest q fs)
    one None fs = refl
    one (Some q) fs = refl

    go : (o : Option (List Frame)) (p : Option Progress)
        → if_answered (or_refused 21 (if_some o (λ fs. Some (f ∷ fs)))) (λ fs. or_refused 22 (if_some p (λ q. read_rest q fs)))
        ≡ if_answered (or_refused 21 o) (λ fs. or_refused 22 (if_some (if_some p (λ q. read_frame q f)) (λ q. read_rest q fs)))
    go None p = refl
    go (Some fs) p = ap (or_refused 22) (one p fs)

-- ---- whether a pair rises is asked of the last one alone

pub follows_none : (p : ℕ × ℕ) → pair_follows [] p ≡ true
follows_none p = refl

pub follows_last : (l : List (ℕ × ℕ)) (q p : ℕ × ℕ) → pair_follows (l ++ q ∷ []) p ≡ pair_before q p
follows_last l q p = rw (final_snoc l q) (last (pair_before q p))
  where
    last : (b : 𝔹) → b && true ≡ b
    last true = refl
    last false = refl
