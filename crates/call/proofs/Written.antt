-- The frames of what the call gives and leaves are those that 01's program `live` writes. Assumes nothing.
use mathlib.Core.Bool.{true}
use mathlib.Core.Option.{none, some}
use mathlib.Core.Path.{◌≡◌, refl, sym, ◌∙◌, subst}
use mathlib.Core.List.{List}
use Prim.Native.Nat.{ℕ}
use native.Mathlib.Omega.{arith}
use lib.ListN.{take}
use Rattle.std.specs.Prelude.{Some}
use Rattle.rules.specs.Actions.{Answer, answered, refused}
use Rattle.rules.specs.Lists.{concat}
use Rattle.rules.specs.Program.{limits}
use Rattle.rules.specs.Frames.{Analysis, analyze, refusal_frame, live}
use Rattle.answer.specs.Layout.{answer_length}
use Rattle.frames.specs.declared.NextFrame.TheVariants.{Totals}
use Rattle.frames.specs.Text.{Run}
use Rattle.frames.proofs.Written.{live_written, live-refused}
use Rattle.call.specs.Call.{Lent, long_enough, after}
use Rattle.call.proofs.Facts.{number_in, number_is, answered_exactly}

module _ (script : List ℕ) (l : Lent) where
  -- the pieces that `frames::Frames::fill` writes from the answer part, joined
  pub answer-frames : (after script l).number ≡ none → {ts : List (List ℕ)} → Run (take answer_length (after script l).lent.answer) (Some Totals) ts → concat ts ≡ live script
  answer-frames e {ts} w =
      let x = answered_exactly script l e in
      live_written script x.0 x.1.is (subst (λ (a : List ℕ). Run a (Some Totals) ts) x.1.held w)

  -- the frame of a refusal, for parts that are long enough
  pub refusal_frame_lem : (n : ℕ) → long_enough l ≡ true → (after script l).number ≡ some n → refusal_frame n ≡ live script
  refusal_frame_lem n h e = go (analyze limits script) refl (sym (number_is script l h) ∙ e)
    where
      go : (x : Answer Analysis) → analyze limits script ≡ x → number_in script l x ≡ some n → refusal_frame n ≡ live script
      go (answered a) q f = let z : ◌≡◌ {A = ℕ} 0 1 = cc in absurd (omega arith)
      go (refused m) q f = let z : m ≡ n = cc in live-refused script n (rw z at q)
