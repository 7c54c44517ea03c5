-- Rows of bits in a memory of 64-bit words, the lowest bit of a row's first word first. Assumes nothing.
use Rattle.std.specs.Prelude.{Bool as 𝔹, false, not, ◌≡◌, List, [], ◌∷◌, ℕ, suc, ◌+◌, ◌*◌, ◌/◌, ◌%◌, ◌^◌, ◌≤◌, ◌<◌, eqb, get_or, set, drop, Option, Some, None}
use Rattle.std.specs.Int.Bits.{bit_or}
use Rattle.ids.specs.Sets.{members_from}
use Rattle.kinds.specs.Kinds.{bit_of}
use Rattle.rules.specs.Lists.{places_from}
use Rattle.memory.specs.tables.Tables.{listed}

-- bit n of the row whose first word is at base
unfoldable pub bit_at : List ℕ → ℕ → ℕ → 𝔹
bit_at m base n = not (eqb (get_or m (base + n / 64) 0 / 2 ^ (n % 64) % 2) 0)

-- the memory with that bit set
unfoldable pub with_bit : List ℕ → ℕ → ℕ → List ℕ
with_bit m base n = set m (base + n / 64) (bit_or (get_or m (base + n / 64) 0) (2 ^ (n % 64)))

-- the places, from k on, of the first n values of b that are true: rising
unfoldable pub after : (ℕ → 𝔹) → ℕ → ℕ → List ℕ
after b n k = places_from k (λ t. t) (drop k (listed n b))

-- what the walk finds, and the places behind it
abbrev pub goes_on : (ℕ → 𝔹) → ℕ → Option ℕ → List ℕ
goes_on b n (Some j) = j ∷ after b n (suc j)
goes_on b n None = []

abbrev pub BitsWithin : ℕ → ℕ → Option ℕ → Type 0
BitsWithin k n (Some j) = (k ≤ j) × (j < n)
BitsWithin k n None = Unit

-- r is the first place from k on
pub record Next (b : ℕ → 𝔹) (n k : ℕ) (r : Option ℕ) : Type 0 where
  pub is : after b n k ≡ goes_on b n r
  pub ok : BitsWithin k n r

-- w is word k of a row of bits; there are none behind the row's end
pub record RowWord (row : List 𝔹) (k w : ℕ) : Type 0 where
  pub small : w < 2 ^ 64
  pub bits : (j : ℕ) → j < 64 → w / 2 ^ j % 2 ≡ bit_of (get_or row (k * 64 + j) false)

-- i is the lowest of the bits of w, v is w without it, wherever the places of the bits are counted from
pub record LowestBit (w i v : ℕ) : Type 0 where
  pub walk : (k : ℕ) → members_from 64 k w ≡ (k + i) ∷ members_from 64 k v
  pub below : i < 64
  pub falls : v < w
