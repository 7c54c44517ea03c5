-- How an answer stands while it is read: what holds of it, and its answer memory. Assumes nothing.
use Rattle.std.specs.Prelude.{Bool as 𝔹, true, ◌≡◌, ◌⊎◌, List, [], ◌∷◌, map, ℕ, suc, ◌+◌, ◌*◌, ◌≤◌, ◌<◌, ltb, length}
use Rattle.kinds.specs.Kinds.{bit_of, tag_of, payload_of}
use Rattle.rules.specs.Lists.{concat, keep}
use Rattle.memory.specs.Memory.{filled}
use Rattle.memory.specs.Layout.{functions_most, blocks_most, instructions_most, uses_most, row_words}
use Rattle.answer.specs.Image.{words_of, listed}
use Rattle.frames.specs.declared.Frame.{Frame}
use Rattle.frames.specs.declared.Frame.TheVariants as F
use Rattle.frames.specs.Text.{sort_of, numbers_of}
use Rattle.decode.specs.Lines.{legal_numbers}
use Rattle.decode.specs.Stored.{legal_kind, Begun, told_all, pair_row, bit_row}

-- ---- what holds of it

-- its numbers are those of a legal frame
abbrev pub legal_frame : Frame → 𝔹
legal_frame f = legal_numbers (sort_of f) (numbers_of f)

-- P of each element
abbrev pub Each : {A : Type 0} → (A → Type 0) → List A → Type 0
Each P [] = Unit {0}
Each P (x ∷ l) = P x × Each P l

-- a pair at (a, n) or above it
abbrev pub At : ℕ → ℕ → ℕ × ℕ → Type 0
At a n p = (a < p.0) ⊎ ((p.0 ≡ a) × (n ≤ p.1))

-- pairs that rise from (a, n) on
abbrev pub Climbs : ℕ → ℕ → List (ℕ × ℕ) → Type 0
Climbs a n [] = Unit {0}
Climbs a n (p ∷ l) = At a n p × Climbs p.0 (suc p.1) l

-- pairs below two totals
abbrev pub Under : ℕ → ℕ → List (ℕ × ℕ) → Type 0
Under m n l = Each (λ p. (p.0 < m) × (p.1 < n)) l

-- its totals are legal; kinds came behind the blocks, and pairs behind the kinds; kinds are legal; pairs rise, below the totals
pub record Sound (b : Begun) : Type 0 where
  pub totals : legal_frame (F.Totals b.totals) ≡ true
  pub live_few : length b.live ≤ b.totals.blocks
  pub kinds_few : length b.kinds ≤ b.totals.instructions
  pub kinds_late : (b.kinds ≡ []) ⊎ (length b.live ≡ b.totals.blocks)
  pub pairs_late : ((b.uses ≡ []) × (b.calls ≡ [])) ⊎ (told_all b ≡ true)
  pub kinds : Each (λ k. legal_kind b.totals.functions k ≡ true) b.kinds
  pub uses_rise : Climbs 0 0 b.uses
  pub uses_under : Under b.totals.instructions b.totals.instructions b.uses
  pub uses_few : length b.uses ≤ uses_most
  pub calls_rise : Climbs 0 0 b.calls
  pub calls_under : Under b.totals.functions b.totals.instructions b.calls

-- ---- its answer memory

-- how many pairs stand before row k
abbrev pub before_row : ℕ → List (ℕ × ℕ) → ℕ
before_row k l = length (keep (λ p. ltb p.0 k) l)

-- where the rows up to row a start
abbrev pub starts_to : ℕ → List (ℕ × ℕ) → List ℕ
starts_to a l = listed (λ k. before_row k l) 0 (suc a)

abbrev pub caller_rows : Begun → List (List 𝔹)
caller_rows b = listed (λ f. bit_row b.totals.instructions (pair_row f b.calls)) 0 b.totals.functions

abbrev pub begun_tables : ℕ → Begun → List (List ℕ)
begun_tables a b =
    (b.totals.functions ∷ b.totals.blocks ∷ b.totals.instructions ∷ b.totals.count ∷ [])
    ∷ filled blocks_most (map bit_of b.live)
    ∷ filled instructions_most (map tag_of b.kinds)
    ∷ filled instructions_most (map payload_of b.kinds)
    ∷ filled (instructions_most + 1) (starts_to a b.uses)
    ∷ filled uses_most (map (λ (p : ℕ × ℕ). p.1) b.uses)
    ∷ filled (functions_most * row_words) (concat (map (words_of row_words) (caller_rows b)))
    ∷ []

-- its answer memory, where the rows up to row a have their starts
unfoldable pub begun_image : ℕ → Begun → List ℕ
begun_image a b = concat (begun_tables a b)
