-- How far the code's decoder has come, and a frame, a piece of text taken by it. Assumes nothing.
use Rattle.std.specs.Prelude.{◌&&◌, ◌||◌, eqb, ltb, ◌≡◌, ◌≤◌, ◌<◌, ◌-◌, List, ◌++◌, ℕ, suc, length, drop, Option, Some, None, MatchOption}
use Rattle.rules.specs.Actions.{refused}
use Rattle.memory.specs.Memory.{zeros}
use Rattle.answer.specs.Layout.{answer_length}
use Rattle.frames.specs.Text.{line_most}
use Rattle.frames.specs.declared.Frame.{Frame}
use Rattle.decode.specs.declared.Partial.{Partial}
use Rattle.decode.specs.declared.Decoder.{Decoder}
use Rattle.decode.specs.declared.Decoder.TheVariants as D
use Rattle.decode.specs.Lines.{frame_in}
use Rattle.decode.specs.Stored.{Begun, Progress, nothing, lone, begun, pair_before, pair_follows, with_frame, read_from}
use Rattle.decode.specs.Standing.{Each, Sound, begun_image}

-- the code's partial answer s and the answer memory m are those of b
pub record Stands (b : Begun) (s : Partial) (m : List ℕ) : Type 0 where
  pub sound : Sound b
  pub totals : b.totals ≡ s.totals
  pub live : length b.live ≡ s.live
  pub kinds : length b.kinds ≡ s.kinds
  pub uses : length b.uses ≡ s.uses
  pub firsts : Each (λ p. p.0 < suc s.row) b.uses
  pub above : (p : ℕ × ℕ) → pair_follows b.uses p ≡ (ltb s.row p.0 || (eqb s.row p.0 && (eqb s.uses 0 || ltb s.user p.1)))
  pub calls : length b.calls ≡ s.calls
  pub calls_above : (p : ℕ × ℕ) → pair_follows b.calls p ≡ (eqb s.calls 0 || pair_before (s.function, s.caller) p)
  pub row : s.row ≤ b.totals.instructions
  pub is : m ≡ begun_image s.row b

abbrev pub Took : Begun → Frame → Option Partial → List ℕ → Type 0
Took b f r m = MatchOption r (with_frame b f ≡ None) (λ s. (c : Begun) × (with_frame b f ≡ Some c) × Stands c s m)

-- the code's decoder and the answer memory m are those of a reading that has come to p
abbrev pub Reached : Option Progress → Decoder → List ℕ → Type 0
Reached p D.Nothing m = (p ≡ Some nothing) × (m ≡ zeros answer_length)
Reached p (D.Refusal n) m = (p ≡ Some (lone n)) × (m ≡ zeros answer_length)
Reached p (D.Answer s) m = (b : Begun) × (p ≡ Some (begun b)) × Stands b s m
Reached p D.Misplaced m = p ≡ None

-- those of some reading, in memory of the published length
pub record Underway (r : Decoder) (m : List ℕ) : Type 0 where
  pub len : length m ≡ answer_length
  pub at : Option Progress
  pub is : Reached at r m

-- the piece t is taken up to its place n, where no whole line stands any more, and what is left is shorter than the longest line
pub record TakenTo (p : Option Progress) (t : List ℕ) (r : Decoder) (n : ℕ) (m : List ℕ) : Type 0 where
  pub at : Option Progress
  pub reached : Reached at r m
  pub goes_on : (rest : List ℕ) → read_from p (t ++ rest) ≡ read_from at (drop n t ++ rest)
  pub in_range : n ≤ length t
  pub stops : frame_in (drop n t) ≡ None
  pub few : length t - n < line_most

-- in the piece t stands a line that is illegal, whatever follows
abbrev pub IllegalIn : Option Progress → List ℕ → Type 0
IllegalIn p t = (rest : List ℕ) → read_from p (t ++ rest) ≡ refused 21
