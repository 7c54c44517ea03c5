-- The pieces that are written from the answer memory of an analysis, joined, are its frames. Assumes nothing.
use mathlib.Core.Bool.{Bool as 𝔹, true, false, cond}
use mathlib.Core.Path.{◌≡◌, refl, sym, ap, ap₂, ◌∙◌}
use mathlib.Core.List.{List, [], ◌∷◌, ◌++◌, map, append_assoc}
use Rattle.std.specs.Prelude.{Option, None, Some}
use Prim.Native.Nat.{ℕ, zero, suc, ◌+◌, ◌-◌, ◌<◌}
use native.Mathlib.Omega.{arith}
use lib.ListN.{length, take, get_or}
use Rattle.kinds.specs.declared.Kind.{Kind}
use Rattle.kinds.specs.declared.Kind.TheVariants.{Empty}
use Rattle.rules.specs.Lists.{concat, places_from}
use Rattle.rules.specs.Actions.{answered, refused}
use Rattle.rules.specs.Program.{limits, Program}
use Rattle.rules.specs.Machine.{State}
use Rattle.rules.specs.Uses.{uses}
use Rattle.rules.specs.Sorts.{of_use, of_caller}
use Rattle.rules.specs.Frames.{each_at, frame_line, totals_frame, block_frame, kind_frame, use_frames, caller_frames, frames, refusal_frame, Analysis, analyze, live}
use Rattle.answer.specs.Record.{Record, Legal, Shaped, users_from, answer_record}
use Rattle.answer.specs.Image.{listed, image_of, functions_in, blocks_in, instructions_in, start_in, user_in, users_in, calls_in}
use Rattle.answer.proofs.Image.{functions-is, blocks_is, instructions-is, count-is, live-is, tag_is, payload-is, users-is, calls_is}
use Rattle.answer.proofs.Answered.{answer-published}
use Rattle.frames.specs.declared.NextFrame.{NextFrame}
use Rattle.frames.specs.declared.NextFrame.TheVariants.{Totals}
use Rattle.frames.specs.Text.{record_text, totals_line, block_line, kind_line, use_line, caller_line, use_lines, caller_lines, from_kind}
use Rattle.frames.specs.Text.{from_block, rest_of, rest_at, Piece, Run, ended, piece}
use Rattle.frames.proofs.Steps.{uses-all, callers-all}

-- ---- lists

-- f of the elements of a list and their places, by the places
each-listed : {A : Type 0} (f : ℕ → A → List ℕ) (g : ℕ → List ℕ) (l : List A) (d : A) (k : ℕ) → ((i : ℕ) → i < length l → g (k + i) ≡ f (k + i) (get_or l i d))
    → concat (listed g k (length l)) ≡ each_at f k l
each-listed f g [] d k h = refl
each-listed f g (x ∷ l) d k h =
    let e : k + 0 ≡ k = omega arith in
    ap₂ ◌++◌ (rw e at (h 0 (omega arith))) (each-listed f g l d (suc k) (λ i lt. let e : k + suc i ≡ suc k + i = omega arith in rw e at (h (suc i) (omega arith))))

map-listed : (h : ℕ → List ℕ) (u : ℕ → ℕ) (i n : ℕ) → concat (listed (λ j. h (u j)) i n) ≡ concat (map h (listed u i n))
map-listed h u i zero = refl
map-listed h u i (suc n) = ap (λ (z : List ℕ). h (u i) ++ z) (map-listed h u (suc i) n)

-- h of the places of a row that hold
places-listed : (h : ℕ → List ℕ) (c : ℕ → 𝔹) (row : List 𝔹) (k : ℕ) → ((i : ℕ) → i < length row → c (k + i) ≡ get_or row i false)
    → concat (listed (λ n. cond (c n) (h n) []) k (length row)) ≡ concat (map h (places_from k (λ b. b) row))
places-listed h c [] k e = refl
places-listed h c (b ∷ row) k e =
    let z : k + 0 ≡ k = omega arith in
    let x : c k ≡ b = rw z at (e 0 (omega arith)) in
    let rest = places-listed h c row (suc k) (λ i lt. let y : k + suc i ≡ suc k + i = omega arith in rw y at (e (suc i) (omega arith))) in
    rw x (go b rest)
  where
    go : (b : 𝔹) → concat (listed (λ n. cond (c n) (h n) []) (suc k) (length row)) ≡ concat (map h (places_from (suc k) (λ b. b) row))
        → cond b (h k) [] ++ concat (listed (λ n. cond (c n) (h n) []) (suc k) (length row)) ≡ concat (map h (places_from k (λ b. b) (b ∷ row)))
    go true e = ap (λ (z : List ℕ). h k ++ z) e
    go false e = e

-- ---- the image of a record

module _ (r : Record) (ok : Legal r) where
  totals-text : totals_line (image_of r) ≡ totals_frame (length r.callers) (length r.live) (length r.kinds) r.count
  unfolding totals_line
  totals-text = rw (functions-is r ok, blocks_is r ok, instructions-is r ok, count-is r ok)

  block-text : (b : ℕ) → b < length r.live → block_line (image_of r) b ≡ block_frame b (get_or r.live b false)
  unfolding block_line
  block-text b h = rw (live-is r ok b h)

  kind-text : (i : ℕ) → i < length r.kinds → kind_line (image_of r) i ≡ kind_frame i (get_or r.kinds i Empty)
  unfolding kind_line
  kind-text i h = rw (tag_is r ok i h, payload-is r ok i h)

  use_text : (i : ℕ) → i < length r.kinds → use_lines (image_of r) i ≡ use_frames i (get_or r.users i [])
  unfolding use_lines use_line users_in
  use_text i h =
      map-listed (λ m. frame_line of_use (i ∷ m ∷ [])) (user_in (image_of r)) (start_in (image_of r) i) (start_in (image_of r) (suc i) - start_in (image_of r) i)
      ∙ ap (use_frames i) (users-is r ok i h)

  caller-text : (f : ℕ) → f < length r.callers → caller_lines (image_of r) f ≡ caller_frames f (get_or r.callers f [])
  unfolding caller_lines caller_line
  caller-text f h =
      rw (instructions-is r ok, ← ok.rows f h)
      (places-listed (λ n. frame_line of_caller (f ∷ n ∷ [])) (calls_in (image_of r) f) (get_or r.callers f []) 0
      (λ n k. let z : 0 + n ≡ n = omega arith in rw z (calls_is r ok f n h (omega (arith, ok.rows f h)))))

  blocks-text : concat (listed (block_line (image_of r)) 0 (blocks_in (image_of r) - 0)) ≡ each_at block_frame 0 r.live
  blocks-text =
      let n : blocks_in (image_of r) - 0 ≡ length r.live = omega (arith, blocks_is r ok) in
      rw n (each-listed block_frame (block_line (image_of r)) r.live false 0 (λ b h. let z : 0 + b ≡ b = omega arith in rw z (block-text b h)))

  kinds-text : concat (listed (kind_line (image_of r)) 0 (instructions_in (image_of r) - 0))
      ≡ each_at kind_frame 0 r.kinds
  kinds-text =
      let n : instructions_in (image_of r) - 0 ≡ length r.kinds = omega (arith, instructions-is r ok) in
      rw n (each-listed kind_frame (kind_line (image_of r)) r.kinds Empty 0 (λ i h. let z : 0 + i ≡ i = omega arith in rw z (kind-text i h)))

  uses-text : concat (listed (use_lines (image_of r)) 0 (instructions_in (image_of r) - 0)) ≡ each_at use_frames 0 r.users
  uses-text =
      let n : instructions_in (image_of r) - 0 ≡ length r.users = omega (arith, instructions-is r ok, ok.lists) in
      rw n (each-listed use_frames (use_lines (image_of r)) r.users [] 0 (λ i h. let z : 0 + i ≡ i = omega arith in rw z (use_text i (omega (arith, ok.lists)))))

  callers-text : concat (listed (caller_lines (image_of r)) 0 (functions_in (image_of r) - 0)) ≡ each_at caller_frames 0 r.callers
  callers-text =
      let n : functions_in (image_of r) - 0 ≡ length r.callers = omega (arith, functions-is r ok) in
      rw n (each-listed caller_frames (caller_lines (image_of r)) r.callers [] 0 (λ f h. let z : 0 + f ≡ f = omega arith in rw z (caller-text f h)))

  -- what the image tells is the record's text
  pub image_text : rest_of (image_of r) Totals ≡ record_text r
  unfolding record_text from_block from_kind
  image_text =
      simp append_assoc
      (ap₂ ◌++◌ totals-text
      (ap₂ ◌++◌ blocks-text
      (ap₂ ◌++◌ kinds-text
      (sym (uses-all (image_of r) 0) ∙ ap₂ ◌++◌ uses-text (sym (callers-all (image_of r) 0) ∙ callers-text)))))

-- ---- the record of an analysis

users-each : (p : Program) (ks : List Kind) (i : ℕ) → each_at (λ i k. use_frames i (uses p i)) i ks ≡ each_at use_frames i (users_from p i (length ks))
users-each p [] i = refl
users-each p (k ∷ ks) i = ap (λ (z : List ℕ). use_frames i (uses p i) ++ z) (users-each p ks (suc i))

-- its text is the analysis's frames
pub record_frames : (p : Program) (s : State) → Shaped p s → record_text (answer_record p s) ≡ frames p s
unfolding record_text frames
record_frames p s sh = rw (users-each p s.kinds 0, sh.functions, sh.blocks, sh.instructions)

-- so the image of the record tells the frames
pub image_frames : (p : Program) (s : State) → Shaped p s → Legal (answer_record p s) → rest_of (image_of (answer_record p s)) Totals ≡ frames p s
image_frames p s sh ok = image_text (answer_record p s) ok ∙ record_frames p s sh

-- ---- pieces

pub run-text : {a : List ℕ} {c : Option NextFrame} {ts : List (List ℕ)} → Run a c ts → concat ts ≡ rest_at a c
run-text ended = refl
run-text (piece p rest) = rw (run-text rest) (sym p.text)

-- a piece that begins at the end is empty, and may be the last
pub last_piece : (a d : List ℕ) → Piece a None d None 0 d
last_piece a d = record { text = refl; kept = refl; fits = omega arith; count = refl; onward = tt }

pub last_run : (a d : List ℕ) → Run a None (take 0 d ∷ [])
last_run a d = piece (last_piece a d) ended

-- the pieces that are written from the image of an analysis's record, joined
pub frames_written : (p : Program) (s : State) {ts : List (List ℕ)} → Shaped p s → Legal (answer_record p s) → Run (image_of (answer_record p s)) (Some Totals) ts → concat ts ≡ frames p s
frames_written p s sh ok w = run-text w ∙ image_frames p s sh ok

-- of an answered script they are what `live` writes
pub live_written : (script : List ℕ) (a : Analysis) {ts : List (List ℕ)} → analyze limits script ≡ answered a
    → Run (image_of (answer_record a.program a.state)) (Some Totals) ts → concat ts ≡ live script
unfolding live
live_written script a e w = let p = answer-published script a e in rw e (frames_written a.program a.state p.shaped p.legal w)

-- and of a refused one the refusal's frame is
pub live-refused : (script : List ℕ) (n : ℕ) → analyze limits script ≡ refused n → refusal_frame n ≡ live script
unfolding live
live-refused script n e = rw e
