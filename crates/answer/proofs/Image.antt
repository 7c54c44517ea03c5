-- A legal record is found again in its answer memory. Assumes nothing.
use mathlib.Core.Bool.{false}
use mathlib.Core.Path.{◌≡◌, refl, sym, ap, ◌∙◌}
use mathlib.Core.List.{[], map}
use Prim.Native.Nat.{ℕ, suc, ◌+◌, ◌-◌, ◌*◌, ◌/◌, ◌≤◌, ◌<◌}
use native.Mathlib.Nat.{min-eq_left}
use native.Mathlib.Omega.{arith}
use lib.Seq.{take_all}
use lib.ListN.{length, get_or, take, length-append, length-map, get_or-map}
use Rattle.kinds.specs.declared.Kind.TheVariants.{Empty}
use Rattle.kinds.specs.Kinds.{bit_of, tag_of, payload_of, kind_from}
use Rattle.kinds.proofs.Same.{kept}
use Rattle.rules.specs.Lists.{concat}
use Rattle.memory.specs.Memory.{filled}
use Rattle.memory.proofs.Laws.{filled-length, filled_at}
use Rattle.memory.specs.Layout.{functions_most, blocks_most, instructions_most, uses_most, row_words}
use Rattle.answer.specs.Layout.{live_at, tags_at, payloads_at, starts_at, users_at, callers_at, answer_length}
use Rattle.answer.specs.Record.{Record, Legal}
use Rattle.answer.specs.Image.{
  starts_from,
  words_of,
  tables_of,
  image_of,
  listed,
  functions_in,
  blocks_in,
  instructions_in,
  count_in,
  live_in,
  tag_in,
  payload_in,
  start_in,
  user_in,
  word_in,
  calls_in,
}
use Rattle.answer.specs.Image.{users_in, record_in, WellFormed}
use Rattle.answer.proofs.Laws.{in_table, listed-is, starts-length, starts-at, bit_back, words-length, words_bit, rows-length, map_at, front-most, front-more}

module _ (r : Record) (ok : Legal r) where
  -- ---- how long the tables are

  len-live : length (filled blocks_most (map bit_of r.live)) ≡ blocks_most
  len-live = filled-length blocks_most _ (rw length-map ok.blocks)

  len_tags : length (filled instructions_most (map tag_of r.kinds)) ≡ instructions_most
  len_tags = filled-length instructions_most _ (rw length-map ok.instructions)

  len_payloads : length (filled instructions_most (map payload_of r.kinds)) ≡ instructions_most
  len_payloads = filled-length instructions_most _ (rw length-map ok.instructions)

  len-starts : length (filled (instructions_most + 1) (starts_from 0 r.users)) ≡ instructions_most + 1
  len-starts = filled-length (instructions_most + 1) _ (rw starts-length (omega (arith, ok.lists, ok.instructions)))

  len-users : length (filled uses_most (concat r.users)) ≡ uses_most
  len-users = filled-length uses_most _ ok.uses

  pub all-rows : length (concat (map (words_of row_words) r.callers)) ≡ length r.callers * row_words
  all-rows = rw take-map at (rows-length row_words r.callers (length r.callers) (omega arith))
    where
      take-map : take (length r.callers) (map (words_of row_words) r.callers) ≡ map (words_of row_words) r.callers
      take-map = take_all (length r.callers) _ (rw length-map (omega arith))

  len-rows : length (filled (functions_most * row_words) (concat (map (words_of row_words) r.callers))) ≡ functions_most * row_words
  len-rows = filled-length (functions_most * row_words) _ (rw all-rows (omega (arith, ok.functions)))

  pub image_length : length (image_of r) ≡ answer_length
  unfolding image_of
  image_length = simp (length-append, len-live, len_tags, len_payloads, len-starts, len-users, len-rows)

  -- ---- where they stand

  at_table : (k at i : ℕ) → length (concat (take k (tables_of r))) ≡ at → i < length (get_or (tables_of r) k []) → get_or (image_of r) (at + i) 0 ≡ get_or (get_or (tables_of r) k []) i 0
  unfolding image_of
  at_table k at i e h = rw e at (in_table (tables_of r) k i h)

  pub at-live : length (concat (take 1 (tables_of r))) ≡ live_at
  at-live = refl

  pub at_tags : length (concat (take 2 (tables_of r))) ≡ tags_at
  at_tags = simp (length-append, len-live)

  pub at_payloads : length (concat (take 3 (tables_of r))) ≡ payloads_at
  at_payloads = simp (length-append, len-live, len_tags)

  pub at-starts : length (concat (take 4 (tables_of r))) ≡ starts_at
  at-starts = simp (length-append, len-live, len_tags, len_payloads)

  pub at-users : length (concat (take 5 (tables_of r))) ≡ users_at
  at-users = simp (length-append, len-live, len_tags, len_payloads, len-starts)

  pub at-callers : length (concat (take 6 (tables_of r))) ≡ callers_at
  at-callers = simp (length-append, len-live, len_tags, len_payloads, len-starts, len-users)

  -- ---- what is read from the image

  pub functions-is : functions_in (image_of r) ≡ length r.callers
  unfolding functions_in image_of
  functions-is = min-eq_left ok.functions

  pub blocks_is : blocks_in (image_of r) ≡ length r.live
  unfolding blocks_in image_of
  blocks_is = min-eq_left ok.blocks

  pub instructions-is : instructions_in (image_of r) ≡ length r.kinds
  unfolding instructions_in image_of
  instructions-is = min-eq_left ok.instructions

  pub count-is : count_in (image_of r) ≡ r.count
  unfolding count_in image_of
  count-is = refl

  pub live-is : (b : ℕ) → b < length r.live → live_in (image_of r) b ≡ get_or r.live b false
  unfolding live_in
  live-is b h =
      let e : get_or (image_of r) (live_at + b) 0 ≡ bit_of (get_or r.live b false) =
      at_table 1 live_at b at-live (rw len-live (omega (arith, ok.blocks)))
      ∙ filled_at blocks_most (map bit_of r.live) b
      ∙ get_or-map bit_of r.live b false in
      rw e (bit_back (get_or r.live b false))

  pub tag_is : (i : ℕ) → i < length r.kinds → tag_in (image_of r) i ≡ tag_of (get_or r.kinds i Empty)
  unfolding tag_in
  tag_is i h =
      at_table 2 tags_at i at_tags (rw len_tags (omega (arith, ok.instructions)))
      ∙ filled_at instructions_most (map tag_of r.kinds) i
      ∙ get_or-map tag_of r.kinds i Empty

  pub payload-is : (i : ℕ) → i < length r.kinds → payload_in (image_of r) i ≡ payload_of (get_or r.kinds i Empty)
  unfolding payload_in
  payload-is i h =
      at_table 3 payloads_at i at_payloads (rw len_payloads (omega (arith, ok.instructions)))
      ∙ filled_at instructions_most (map payload_of r.kinds) i
      ∙ get_or-map payload_of r.kinds i Empty

  pub start_is : (i : ℕ) → i ≤ length r.kinds → start_in (image_of r) i ≡ length (concat (take i r.users))
  unfolding start_in
  start_is i h =
      let e : get_or (image_of r) (starts_at + i) 0 ≡ length (concat (take i r.users)) =
      at_table 4 starts_at i at-starts (rw len-starts (omega (arith, ok.instructions)))
      ∙ filled_at (instructions_most + 1) (starts_from 0 r.users) i
      ∙ starts-at 0 r.users i (omega (arith, ok.lists))
      ∙ (omega arith) in
      rw e (min-eq_left (omega (arith, front-most r.users i, ok.uses)))

  pub user_is : (j : ℕ) → j < length (concat r.users) → user_in (image_of r) j ≡ get_or (concat r.users) j 0
  unfolding user_in
  user_is j h =
      let e : get_or (image_of r) (users_at + j) 0 ≡ get_or (concat r.users) j 0 =
      at_table 5 users_at j at-users (rw len-users (omega (arith, ok.uses))) ∙ filled_at uses_most (concat r.users) j in
      rw e (min-eq_left (omega (arith, ok.numbers j h, ok.instructions)))

  word-is : (f n : ℕ) → f < length r.callers → n < length r.kinds → word_in (image_of r) f n ≡ get_or (words_of row_words (get_or r.callers f [])) (n / 64) 0
  unfolding word_in
  word-is f n h k =
      let ws = map (words_of row_words) r.callers in
      let m : n / 64 < row_words = omega (arith, ok.instructions) in
      let t : get_or ws f [] ≡ words_of row_words (get_or r.callers f []) = map_at (words_of row_words) r.callers f [] [] h in
      let l : n / 64 < length (get_or ws f []) = rw (t, words-length) m in
      at_table 6 callers_at (f * row_words + n / 64) at-callers (rw len-rows (omega (arith, ok.functions)))
      ∙ filled_at (functions_most * row_words) (concat ws) (f * row_words + n / 64)
      ∙ (rw (rows-length row_words r.callers f (omega arith)) at (in_table ws f (n / 64) l))
      ∙ rw t

  pub calls_is : (f n : ℕ) → f < length r.callers → n < length r.kinds → calls_in (image_of r) f n ≡ get_or (get_or r.callers f []) n false
  calls_is f n h k =
      rw (word-is f n h k, words_bit row_words (get_or r.callers f []) n (omega (arith, ok.instructions)))
      (bit_back (get_or (get_or r.callers f []) n false))

  -- the users of an instruction
  pub users-is : (i : ℕ) → i < length r.kinds → users_in (image_of r) i ≡ get_or r.users i []
  unfolding users_in
  users-is i h =
      let us = r.users in
      let s = length (concat (take i us)) in
      let hu : i < length us = omega (arith, ok.lists) in
      let more = front-more us i hu in
      let e : start_in (image_of r) (suc i) - start_in (image_of r) i ≡ length (get_or us i []) = rw (start_is i (omega arith), start_is (suc i) (omega arith)) (omega arith) in
      rw (e, start_is i (omega arith))
      (listed-is (user_in (image_of r)) (get_or us i []) 0 s (λ j lt. user_is (s + j) (omega (arith, front-most us (suc i))) ∙ in_table us i j lt))

  -- the record that the image holds is the record
  pub record_back : record_in (image_of r) ≡ r
  unfolding record_in
  record_back =
      let a = image_of r in
      let live : listed (live_in a) 0 (blocks_in a) ≡ r.live =
      rw blocks_is (listed-is _ r.live false 0 (λ b h. let z : 0 + b ≡ b = omega arith in rw z (live-is b h))) in
      let kinds : listed (λ i. kind_from (tag_in a i) (payload_in a i)) 0 (instructions_in a) ≡ r.kinds =
      rw instructions-is (listed-is _ r.kinds Empty 0 (λ i h. let z : 0 + i ≡ i = omega arith in rw (z, tag_is i h, payload-is i h) (kept _ (ok.fits i h)))) in
      let users : listed (users_in a) 0 (instructions_in a) ≡ r.users =
      rw (instructions-is, ← ok.lists) (listed-is _ r.users [] 0 (λ i h. let z : 0 + i ≡ i = omega arith in rw z (users-is i (omega (arith, ok.lists))))) in
      let callers : listed (λ f. listed (calls_in a f) 0 (instructions_in a)) 0 (functions_in a) ≡ r.callers =
      rw functions-is (listed-is _ r.callers [] 0 (λ f h. let z : 0 + f ≡ f = omega arith in
      rw (z, instructions-is, ← ok.rows f h)
      (listed-is _ (get_or r.callers f []) false 0 (λ n k. let y : 0 + n ≡ n = omega arith in rw y (calls_is f n h (omega (arith, ok.rows f h))))))) in
      rw (count-is, live, kinds, users, callers)

-- a record is known by its image
pub image_one : (r q : Record) → Legal r → Legal q → image_of r ≡ image_of q → r ≡ q
image_one r q ok legal e = sym (record_back r ok) ∙ ap record_in e ∙ record_back q legal

pub image_well : (r : Record) → Legal r → WellFormed (image_of r)
image_well r ok = let e = record_back r ok in record { legal = rw e ok; is = rw e }
