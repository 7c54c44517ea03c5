-- The answer memory with the final state in it. Assumes nothing.
use Rattle.std.specs.Prelude.{Bool as 𝔹, ◌≡◌, List, [], ◌∷◌, map, ℕ, ◌<◌, length, get_or}
use Rattle.kinds.specs.Kinds.{bit_of, tag_of, payload_of}
use Rattle.rules.specs.Lists.{concat}
use Rattle.memory.specs.Memory.{over}
use Rattle.state.specs.declared.Sizes.{Sizes}
use Rattle.state.specs.View.{kinds_of, live_of, called_of}
use Rattle.answer.specs.Layout.{live_at, tags_at, payloads_at, callers_at}
use Rattle.answer.specs.Image.{words_of}
use Rattle.memory.specs.Layout.{row_words}

-- the callers of all functions, a row of words for each
unfoldable pub caller_words : List (List 𝔹) → List ℕ
caller_words rows = concat (map (words_of row_words) rows)

-- the totals, the live flags, the kinds and the callers in answer memory a
unfoldable pub with_state : Sizes → List ℕ → ℕ → List ℕ → List ℕ
with_state z m count a =
    over callers_at (caller_words (called_of z m))
    (over payloads_at (map payload_of (kinds_of z m))
    (over tags_at (map tag_of (kinds_of z m))
    (over live_at (map bit_of (live_of z m))
    (over 0 (z.functions ∷ z.blocks ∷ z.insns ∷ count ∷ []) a))))

-- t is the n words that a function gives for 0, 1 and so on: what it gives for i is word i
pub record GivenBy (gives : ℕ → ℕ → Type 0) (n : ℕ) (t : List ℕ) : Type 0 where
  pub len : length t ≡ n
  pub each : (i w : ℕ) → i < n → gives i w → w ≡ get_or t i 0
