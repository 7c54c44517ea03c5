-- The text that answer memory tells, frame by frame (01, "Frames"), and what a piece of it is. Assumes nothing.
use Rattle.std.specs.Prelude.{cond, ◌≡◌, List, [], ◌∷◌, ◌++◌, ℕ, suc, ◌+◌, ◌-◌, ◌*◌, ◌≤◌, ◌<◌, ltb, length, take, drop, Option, None, Some, IfNone, OnSome}
use Rattle.kinds.specs.Kinds.{bit_of}
use Rattle.rules.specs.Lists.{concat}
use Rattle.rules.specs.Sorts.{Sort, of_totals, of_block, of_kind, of_use, of_caller, of_refusal}
use Rattle.rules.specs.Frames.{each_at, frame_line, totals_frame, block_frame, kind_frame, use_frames, caller_frames, refusal_frame}
use Rattle.answer.specs.Record.{Record}
use Rattle.answer.specs.Image.{listed, functions_in, blocks_in, instructions_in, count_in, live_in, tag_in, payload_in, start_in, user_in, calls_in}
use Rattle.memory.specs.Layout.{functions_most, blocks_most, instructions_most, uses_most}
use Rattle.frames.specs.declared.NextFrame.{NextFrame}
use Rattle.frames.specs.declared.NextFrame.TheVariants.{Totals, Block, Instruction, Use, Caller}
use Rattle.frames.specs.declared.Frame.{Frame}
use Rattle.frames.specs.declared.Frame.TheVariants as F

-- the frames of a record: the totals, then each sort in turn
unfoldable pub record_text : Record → List ℕ
record_text r =
    totals_frame (length r.callers) (length r.live) (length r.kinds) r.count
    ++ each_at block_frame 0 r.live
    ++ each_at kind_frame 0 r.kinds
    ++ each_at use_frames 0 r.users
    ++ each_at caller_frames 0 r.callers

-- ---- frames: their sort, their numbers, their line

abbrev pub sort_of : Frame → Sort
sort_of (F.Totals t) = of_totals
sort_of (F.Block b t) = of_block
sort_of (F.Kind i t p) = of_kind
sort_of (F.Use i u) = of_use
sort_of (F.Caller f i) = of_caller
sort_of (F.Refusal n) = of_refusal

abbrev pub numbers_of : Frame → List ℕ
numbers_of (F.Totals t) = t.functions ∷ t.blocks ∷ t.instructions ∷ t.count ∷ []
numbers_of (F.Block b t) = b.0 ∷ bit_of t ∷ []
numbers_of (F.Kind i t p) = i.0 ∷ t ∷ p ∷ []
numbers_of (F.Use i u) = i.0 ∷ u.0 ∷ []
numbers_of (F.Caller f i) = f.0 ∷ i.0 ∷ []
numbers_of (F.Refusal n) = n ∷ []

abbrev pub frame_text : Frame → List ℕ
frame_text (F.Refusal n) = refusal_frame n
frame_text f = frame_line (sort_of f) (numbers_of f)

-- and none where there is no frame
abbrev pub text_of : Option Frame → List ℕ
text_of None = []
text_of (Some f) = frame_text f

-- ---- the frames that answer memory a tells, whatever it holds

module _ (a : List ℕ) where
  unfoldable pub totals_line : List ℕ
  totals_line = totals_frame (functions_in a) (blocks_in a) (instructions_in a) (count_in a)

  unfoldable pub block_line : ℕ → List ℕ
  block_line b = block_frame b (live_in a b)

  unfoldable pub kind_line : ℕ → List ℕ
  kind_line i = frame_line of_kind (i ∷ tag_in a i ∷ payload_in a i ∷ [])

  unfoldable pub use_line : ℕ → ℕ → List ℕ
  use_line i j = frame_line of_use (i ∷ user_in a j ∷ [])

  unfoldable pub caller_line : ℕ → ℕ → List ℕ
  caller_line f n = cond (calls_in a f n) (frame_line of_caller (f ∷ n ∷ [])) []

  -- all uses of an instruction, all callers of a function
  unfoldable pub use_lines : ℕ → List ℕ
  use_lines i = concat (listed (use_line i) (start_in a i) (start_in a (suc i) - start_in a i))

  unfoldable pub caller_lines : ℕ → List ℕ
  caller_lines f = concat (listed (caller_line f) 0 (instructions_in a))

  -- the frames from one on, to the end: from a function's caller, from the use at place j, from a kind, from a block
  unfoldable pub from_caller : ℕ → ℕ → List ℕ
  from_caller f n =
      cond (ltb f (functions_in a)) (concat (listed (caller_line f) n (instructions_in a - n)) ++ concat (listed caller_lines (suc f) (functions_in a - suc f))) []

  unfoldable pub from_use : ℕ → ℕ → List ℕ
  from_use i j =
      cond (ltb i (instructions_in a)) (concat (listed (use_line i) j (start_in a (suc i) - j)) ++ concat (listed use_lines (suc i) (instructions_in a - suc i))) []
      ++ from_caller 0 0

  unfoldable pub from_kind : ℕ → List ℕ
  from_kind i = concat (listed kind_line i (instructions_in a - i)) ++ from_use 0 (start_in a 0)

  unfoldable pub from_block : ℕ → List ℕ
  from_block b = concat (listed block_line b (blocks_in a - b)) ++ from_kind 0

  -- the frames that are left at a place; at the first one, all
  abbrev pub rest_of : NextFrame → List ℕ
  rest_of Totals = totals_line ++ from_block 0
  rest_of (Block b) = from_block b.0
  rest_of (Instruction i) = from_kind i.0
  rest_of (Use i j) = from_use i.0 j
  rest_of (Caller f n) = from_caller f.0 n.0

  -- and behind the last one none
  abbrev pub rest_at : Option NextFrame → List ℕ
  rest_at None = []
  rest_at (Some c) = rest_of c

-- more than the steps of any one sort
abbrev pub round : ℕ
round = (instructions_most + 1) * (uses_most + 1)

-- a number that falls with each step from place to place
abbrev pub left_of : NextFrame → ℕ
left_of Totals = 5 * round
left_of (Block b) = 4 * round + (blocks_most - b.0)
left_of (Instruction i) = 3 * round + (instructions_most - i.0)
left_of (Use i j) = 2 * round + ((instructions_most - i.0) * (uses_most + 1) + (uses_most - j))
left_of (Caller f n) = round + ((functions_most - f.0) * (instructions_most + 1) + (instructions_most - n.0))

abbrev pub left_at : Option NextFrame → ℕ
left_at None = 0
left_at (Some c) = left_of c

-- no line is longer, its end included
abbrev pub line_most : ℕ
line_most = 32

-- ---- text in a lent buffer d, which then is d'

-- the text t stands at the start, n bytes long, and the rest is as it was
pub record Wrote (t d : List ℕ) (n : ℕ) (d' : List ℕ) : Type 0 where
  pub is : d' ≡ t ++ drop (length t) d
  pub len : n ≡ length t
  pub fits : n ≤ length d'
  pub count : n ≡ length (take n d')

-- at place c of answer memory a stands the frame f, if one does, and c' is behind it
pub record Stepped (a : List ℕ) (c : NextFrame) (f : Option Frame) (c' : Option NextFrame) : Type 0 where
  pub text : rest_of a c ≡ text_of f ++ rest_at a c'
  pub falls : left_at c' < left_of c

-- f is the first frame from c on, and c' is behind it; or there is none, and c' is the end
pub record Gives (a : List ℕ) (c : Option NextFrame) (f : Option Frame) (c' : Option NextFrame) : Type 0 where
  pub text : rest_at a c ≡ text_of f ++ rest_at a c'
  pub falls : OnSome f (left_at c' < left_at c)
  pub ended : IfNone f (c' ≡ None)

-- the n bytes at the start are what was left at c up to what is left at c', and the rest is as it was.
-- Free: how far a piece goes, n and with it c', of which 01 says nothing. What holds of it: whole frames are written, within the buffer, and as long as frames
-- are left a piece goes on
pub record Piece (a : List ℕ) (c : Option NextFrame) (d : List ℕ) (c' : Option NextFrame) (n : ℕ) (d' : List ℕ) : Type 0 where
  pub text : rest_at a c ≡ take n d' ++ rest_at a c'
  pub kept : drop n d' ≡ drop n d
  pub fits : n ≤ length d'
  pub count : n ≡ length (take n d')
  pub onward : OnSome c (left_at c' < left_at c)

-- texts written one after the other, from a place to the end
pub data Run (a : List ℕ) : Option NextFrame → List (List ℕ) → Type 0 where
  ended : Run a None []
  piece : {c c' : Option NextFrame} {d d' : List ℕ} {n : ℕ} {ts : List (List ℕ)} → Piece a c d c' n d' → Run a c' ts → Run a c (take n d' ∷ ts)
