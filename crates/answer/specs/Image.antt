-- The answer memory of a record, and what is read from answer memory. Assumes nothing.
use Rattle.std.specs.Prelude.{Bool as 𝔹, not, ◌≡◌, List, [], ◌∷◌, ◌++◌, map, ℕ, zero, suc, ◌+◌, ◌-◌, ◌*◌, ◌/◌, ◌%◌, ◌^◌, min, eqb, length, get_or, take, drop}
use Rattle.kinds.specs.Kinds.{bit_of, tag_of, payload_of, kind_from}
use Rattle.rules.specs.Lists.{concat}
use Rattle.memory.specs.Memory.{zeros, filled}
use Rattle.memory.specs.Layout.{functions_most, blocks_most, instructions_most, uses_most, row_words}
use Rattle.answer.specs.Layout.{live_at, tags_at, payloads_at, starts_at, users_at, callers_at, answer_length}
use Rattle.answer.specs.Record.{Record, Legal}

-- ---- tables of a record

-- where each of the lists starts if they stand one behind the other from k on, and where the last one ends
unfoldable pub starts_from : ℕ → List (List ℕ) → List ℕ
starts_from k [] = k ∷ []
starts_from k (l ∷ ls) = k ∷ starts_from (k + length l) ls

-- the number with these bits, the lowest first
unfoldable pub word_of : List 𝔹 → ℕ
word_of [] = 0
word_of (b ∷ l) = bit_of b + 2 * word_of l

-- a row of bits in k words of 64
unfoldable pub words_of : ℕ → List 𝔹 → List ℕ
words_of zero row = []
words_of (suc k) row = word_of (take 64 row) ∷ words_of k (drop 64 row)

-- the totals, then each table in its places
abbrev pub tables_of : Record → List (List ℕ)
tables_of r =
    (length r.callers ∷ length r.live ∷ length r.kinds ∷ r.count ∷ [])
    ∷ filled blocks_most (map bit_of r.live)
    ∷ filled instructions_most (map tag_of r.kinds)
    ∷ filled instructions_most (map payload_of r.kinds)
    ∷ filled (instructions_most + 1) (starts_from 0 r.users)
    ∷ filled uses_most (concat r.users)
    ∷ filled (functions_most * row_words) (concat (map (words_of row_words) r.callers))
    ∷ []

-- the answer memory of a record: the tables, one behind the other
unfoldable pub image_of : Record → List ℕ
image_of r = concat (tables_of r)

-- the first k tables of the image stand, and the memory behind them is cleared
pub record Standing (r : Record) (k : ℕ) (a : List ℕ) : Type 0 where
  pub is : a ≡ concat (take k (tables_of r)) ++ zeros (answer_length - length (concat (take k (tables_of r))))
  pub len : length a ≡ answer_length

-- ---- answer memory a, whatever it holds

module _ {A : Type 0} (g : ℕ → A) where
  -- g of n numbers from i on
  abbrev pub listed : ℕ → ℕ → List A
  listed i zero = []
  listed i (suc n) = g i ∷ listed (suc i) n

module _ (a : List ℕ) where
  -- the totals. Here and below, a number above its limit, which no record has, counts as the limit
  unfoldable pub functions_in : ℕ
  functions_in = min (get_or a 0 0) functions_most

  unfoldable pub blocks_in : ℕ
  blocks_in = min (get_or a 1 0) blocks_most

  unfoldable pub instructions_in : ℕ
  instructions_in = min (get_or a 2 0) instructions_most

  unfoldable pub count_in : ℕ
  count_in = get_or a 3 0

  -- of a block; of an instruction
  unfoldable pub live_in : ℕ → 𝔹
  live_in b = not (eqb (get_or a (live_at + b) 0) 0)

  unfoldable pub tag_in : ℕ → ℕ
  tag_in i = get_or a (tags_at + i) 0

  unfoldable pub payload_in : ℕ → ℕ
  payload_in i = get_or a (payloads_at + i) 0

  -- where the users of instruction i start, and the user at a place
  unfoldable pub start_in : ℕ → ℕ
  start_in i = min (get_or a (starts_at + i) 0) uses_most

  unfoldable pub user_in : ℕ → ℕ
  user_in j = min (get_or a (users_at + j) 0) instructions_most

  -- the word of function f that has instruction n's bit; from that bit on; whether n calls f
  unfoldable pub word_in : ℕ → ℕ → ℕ
  word_in f n = get_or a (callers_at + (f * row_words + n / 64)) 0

  abbrev pub bits_in : ℕ → ℕ → ℕ
  bits_in f n = word_in f n / 2 ^ (n % 64)

  abbrev pub calls_in : ℕ → ℕ → 𝔹
  calls_in f n = not (eqb (bits_in f n % 2) 0)

  -- the users of instruction i
  unfoldable pub users_in : ℕ → List ℕ
  users_in i = listed user_in (start_in i) (start_in (suc i) - start_in i)

  -- the record that the memory holds
  unfoldable pub record_in : Record
  record_in = record {
    count = count_in;
    live = listed live_in 0 blocks_in;
    kinds = listed (λ i. kind_from (tag_in i) (payload_in i)) 0 instructions_in;
    users = listed users_in 0 instructions_in;
    callers = listed (λ f. listed (calls_in f) 0 instructions_in) 0 functions_in;
  }

-- answer memory that holds a legal record, and nothing in the places that the record does not use
pub record WellFormed (a : List ℕ) : Type 0 where
  pub legal : Legal (record_in a)
  pub is : a ≡ image_of (record_in a)
