-- The answer memory of an answer that is begun, and what one more frame changes in it. Assumes nothing.
use mathlib.Core.Bool.{Bool as 𝔹, true, false}
use mathlib.Core.Path.{◌≡◌, refl, sym, ap, ap₂, ◌∙◌}
use mathlib.Core.List.{List, [], ◌∷◌, ◌++◌, map, append-nil, append_assoc}
use Prim.Native.Nat.{ℕ, zero, suc, ◌+◌, ◌-◌, ◌*◌, ◌/◌, ◌%◌, ◌^◌, ◌≤◌, ◌<◌}
use native.Mathlib.Nat.{zero-div, not-suc-le-zero}
use native.Mathlib.Omega.{arith}
use lib.ListN.{length, get_or, set, take, drop, length-append, length-map, replicate}
use lib.Dec.{eqb}
use borrow.Author.Tests.{eq-eqb, ne_eqb}
use Rattle.std.proofs.lemmas.List.{get_or-set_same, map-set, set_at, set-append_left, set-append_right, map-append}
use Rattle.kinds.specs.declared.Kind.{Kind}
use Rattle.kinds.specs.Kinds.{bit_of, tag_of, payload_of}
use Rattle.rules.specs.Lists.{any, concat}
use Rattle.memory.specs.Memory.{zeros, Blank, over, filled}
use Rattle.memory.proofs.Laws.{zeros-length, zeros-at, zeros_split, filled-length, filled_at, grow}
use Rattle.memory.specs.Layout.{functions_most, blocks_most, instructions_most, uses_most, row_words}
use Rattle.answer.specs.Layout.{live_at, tags_at, payloads_at, starts_at, users_at, callers_at, answer_length}
use Rattle.answer.specs.Image.{starts_from, words_of, listed, image_of}
use Rattle.frames.specs.declared.Totals.{Totals}
use Rattle.answer.proofs.Laws.{words-known, words-length, rows-length, map_at, in_table}
use Rattle.decode.specs.Stored.{Begun, told_all, pair_row, bit_row, told_record}
use Rattle.decode.specs.Standing.{Each, Sound, before_row, begun_image, begun_tables, caller_rows, starts_to}
use Rattle.decode.proofs.Pairs.{listed_same, listed-length, pairs_of, pairs_back}
use Rattle.decode.proofs.Begun.{told_is, only_totals}
use Rattle.decode.proofs.Records.{each_change, totals-within}
use Rattle.decode.proofs.Rows.{before_same, before_all, pair_row_more, bits_more, words_more, listed_set, starts_of, seconds_of, words_small}

-- ---- tables one behind the other

-- a store in one of them
set_table : (ts : List (List ℕ)) (k i x : ℕ) → i < length (get_or ts k []) → set (concat ts) (length (concat (take k ts)) + i) x ≡ concat (set ts k (set (get_or ts k []) i x))
set_table [] zero i x h = absurd (not-suc-le-zero h)
set_table [] (suc k) i x h = absurd (not-suc-le-zero h)
set_table (t ∷ ts) zero i x h = let e : 0 + i ≡ i = omega arith in rw e (set-append_left t (concat ts) i x h)
set_table (t ∷ ts) (suc k) i x h =
    let l = length (concat (take k ts)) in
    let e : length (t ++ concat (take k ts)) + i ≡ length t + (l + i) = omega (arith, length-append t (concat (take k ts))) in
    let d : length t + (l + i) - length t ≡ l + i = omega arith in
    rw e (set-append_right t (concat ts) (length t) (length t + (l + i)) x refl (omega arith) ∙ rw (d, set_table ts k i x h) refl)

-- one more number in a table that has room
filled_more : (n : ℕ) (l : List ℕ) (x : ℕ) → length l < n → set (filled n l) (length l) x ≡ filled n (l ++ x ∷ [])
unfolding filled zeros
filled_more n l x h =
    let m = n - length (l ++ x ∷ []) in
    let e : n - length l ≡ suc m = omega (arith, length-append l (x ∷ [])) in
    rw e (set_at l 0 (replicate m 0) x (length l) refl ∙ sym (append_assoc l (x ∷ []) (replicate m 0)))

-- a store in what is in use of a table
filled_set : (n : ℕ) (l : List ℕ) (i x : ℕ) → i < length l → set (filled n l) i x ≡ filled n (set l i x)
unfolding filled
filled_set n l i x h = set-append_left l (zeros (n - length l)) i x h ∙ rw (lib.ListN.length-set l i x) refl

listed_end : {A : Type 0} (g : ℕ → A) (i n : ℕ) → listed g i (suc n) ≡ listed g i n ++ g (i + n) ∷ []
listed_end g i zero = let e : i + 0 ≡ i = omega arith in rw e refl
listed_end g i (suc n) = let e : i + suc n ≡ suc i + n = omega arith in ap (λ l. g i ∷ l) (listed_end g (suc i) n ∙ rw e refl)

get_listed : {A : Type 0} (g : ℕ → A) (d : A) (i n j : ℕ) → j < n → get_or (listed g i n) j d ≡ g (i + j)
get_listed g d i zero j lt = absurd (omega arith)
get_listed g d i (suc n) zero lt = let e : i + 0 ≡ i = omega arith in rw e refl
get_listed g d i (suc n) (suc j) lt = let e : i + suc j ≡ suc i + j = omega arith in rw e (get_listed g d (suc i) n j (omega arith))

-- ---- those of an answer that is begun

-- what is within the memory's room
pub record Roomy (a : ℕ) (b : Begun) : Type 0 where
  pub functions : b.totals.functions ≤ functions_most
  pub instructions : b.totals.instructions ≤ instructions_most
  pub live : length b.live ≤ blocks_most
  pub kinds : length b.kinds ≤ instructions_most
  pub starts : a ≤ instructions_most
  pub uses : length b.uses ≤ uses_most

pub begun_roomy : (a : ℕ) (b : Begun) → Sound b → a ≤ b.totals.instructions → Roomy a b
begun_roomy a b h le =
    let w = totals-within b.totals h.totals in
    record {
      functions = w.functions;
      instructions = w.instructions;
      live = omega (arith, h.live_few, w.blocks);
      kinds = omega (arith, h.kinds_few, w.instructions);
      starts = omega (arith, w.instructions);
      uses = h.uses_few;
    }

words_size : (rows : List (List 𝔹)) → length (concat (map (words_of row_words) rows)) ≡ length rows * row_words
words_size [] = refl
words_size (row ∷ rows) = length-append (words_of row_words row) (concat (map (words_of row_words) rows)) ∙ omega (arith, words-length row_words row, words_size rows)

-- how many places the first k tables take
abbrev sizes : List (List ℕ) → ℕ
sizes [] = 0
sizes (t ∷ ts) = length t + sizes ts

sizes-length : (ts : List (List ℕ)) → length (concat ts) ≡ sizes ts
sizes-length [] = refl
sizes-length (t ∷ ts) = length-append t (concat ts) ∙ ap (λ (x : ℕ). length t + x) (sizes-length ts)

record Lengths (a : ℕ) (b : Begun) : Type 0 where
  live : length (filled blocks_most (map bit_of b.live)) ≡ blocks_most
  tags : length (filled instructions_most (map tag_of b.kinds)) ≡ instructions_most
  payloads : length (filled instructions_most (map payload_of b.kinds)) ≡ instructions_most
  starts : length (filled (instructions_most + 1) (starts_to a b.uses)) ≡ instructions_most + 1
  users : length (filled uses_most (map (λ (p : ℕ × ℕ). p.1) b.uses)) ≡ uses_most
  callers : length (filled (functions_most * row_words) (concat (map (words_of row_words) (caller_rows b)))) ≡ functions_most * row_words

lengths : (a : ℕ) (b : Begun) → Roomy a b → Lengths a b
lengths a b r =
    let rows : length (caller_rows b) ≡ b.totals.functions = listed-length (λ f. bit_row b.totals.instructions (pair_row f b.calls)) 0 b.totals.functions in
    record {
      live = filled-length blocks_most (map bit_of b.live) (rw length-map r.live);
      tags = filled-length instructions_most (map tag_of b.kinds) (rw length-map r.kinds);
      payloads = filled-length instructions_most (map payload_of b.kinds) (rw length-map r.kinds);
      starts = filled-length (instructions_most + 1) (starts_to a b.uses) (omega (arith, r.starts, listed-length (λ k. before_row k b.uses) 0 (suc a)));
      users = filled-length uses_most (map (λ (p : ℕ × ℕ). p.1) b.uses) (rw length-map r.uses);
      callers = filled-length (functions_most * row_words) (concat (map (words_of row_words) (caller_rows b))) (omega (arith, r.functions, rows, words_size (caller_rows b)));
    }

module _ (a : ℕ) (b : Begun) (r : Roomy a b) where
  -- the first k tables end where the next is said to begin
  at : (k n : ℕ) → sizes (take k (begun_tables a b)) ≡ n → length (concat (take k (begun_tables a b))) ≡ n
  at k n e = sizes-length (take k (begun_tables a b)) ∙ e

  -- the image is of the published length
  pub begun-length : length (begun_image a b) ≡ answer_length
  unfolding begun_image
  begun-length =
      let s = lengths a b r in
      sizes-length (begun_tables a b) ∙ omega (arith, s.live, s.tags, s.payloads, s.starts, s.users, s.callers)

  -- a store of x at place i of table k, which begins at n
  stored : (k n i x : ℕ) → sizes (take k (begun_tables a b)) ≡ n → i < length (get_or (begun_tables a b) k [])
      → set (begun_image a b) (n + i) x ≡ concat (set (begun_tables a b) k (set (get_or (begun_tables a b) k []) i x))
  unfolding begun_image
  stored k n i x e h = ap (λ (m : ℕ). set (concat (begun_tables a b)) (m + i) x) (sym (at k n e)) ∙ set_table (begun_tables a b) k i x h

  -- a block
  pub live_stored : (t : 𝔹) → length b.live < blocks_most → begun_image a (record b { live = b.live ++ t ∷ [] }) ≡ set (begun_image a b) (live_at + length b.live) (bit_of t)
  unfolding begun_image
  live_stored t h =
      let s = lengths a b r in
      let e : length (map bit_of b.live) ≡ length b.live = length-map b.live bit_of in
      let f : set (filled blocks_most (map bit_of b.live)) (length b.live) (bit_of t) ≡ filled blocks_most (map bit_of (b.live ++ t ∷ [])) =
      rw (← e) (filled_more blocks_most (map bit_of b.live) (bit_of t) (omega arith)) ∙ ap (filled blocks_most) (sym (map-append bit_of b.live (t ∷ []))) in
      sym (stored 1 live_at (length b.live) (bit_of t) (omega arith) (omega (arith, s.live)) ∙ rw f refl)

  -- an instruction's kind: its byte, then its payload
  pub kind_stored : (k : Kind) → length b.kinds < instructions_most
      → begun_image a (record b { kinds = b.kinds ++ k ∷ [] })
      ≡ set (set (begun_image a b) (tags_at + length b.kinds) (tag_of k)) (payloads_at + length b.kinds) (payload_of k)
  unfolding begun_image
  kind_stored k h =
      let s = lengths a b r in
      let n = length b.kinds in
      let e : length (map tag_of b.kinds) ≡ n = length-map b.kinds tag_of in
      let e' : length (map payload_of b.kinds) ≡ n = length-map b.kinds payload_of in
      let f : set (filled instructions_most (map tag_of b.kinds)) n (tag_of k) ≡ filled instructions_most (map tag_of (b.kinds ++ k ∷ [])) =
      rw (← e) (filled_more instructions_most (map tag_of b.kinds) (tag_of k) (omega arith)) ∙ ap (filled instructions_most) (sym (map-append tag_of b.kinds (k ∷ []))) in
      let f' : set (filled instructions_most (map payload_of b.kinds)) n (payload_of k) ≡ filled instructions_most (map payload_of (b.kinds ++ k ∷ [])) =
      rw (← e') (filled_more instructions_most (map payload_of b.kinds) (payload_of k) (omega arith)) ∙ ap (filled instructions_most) (sym (map-append payload_of b.kinds (k ∷ []))) in
      let ts = set (begun_tables a b) 2 (filled instructions_most (map tag_of (b.kinds ++ k ∷ []))) in
      let g : set (begun_image a b) (tags_at + n) (tag_of k) ≡ concat ts =
      stored 2 tags_at n (tag_of k) (omega (arith, s.live)) (omega (arith, s.tags)) ∙ rw f refl in
      let l : length (filled instructions_most (map tag_of (b.kinds ++ k ∷ [])))
      ≡ instructions_most = filled-length instructions_most (map tag_of (b.kinds ++ k ∷ [])) (rw (length-map, length-append) (omega arith)) in
      let m : length (concat (take 3 ts)) ≡ payloads_at = sizes-length (take 3 ts) ∙ omega (arith, s.live, l) in
      sym
      (ap (λ (z : List ℕ). set z (payloads_at + n) (payload_of k)) g
      ∙ ap (λ (z : ℕ). set (concat ts) (z + n) (payload_of k)) (sym m)
      ∙ set_table ts 3 n (payload_of k) (omega (arith, s.payloads))
      ∙ rw f' refl)

  -- the start of the next row: all pairs so far stand before it
  pub start_stored : suc a ≤ instructions_most → Each (λ p. p.0 < suc a) b.uses → begun_image (suc a) b ≡ set (begun_image a b) (starts_at + suc a) (length b.uses)
  unfolding begun_image
  start_stored h pair_before =
      let s = lengths a b r in
      let l : length (starts_to a b.uses) ≡ suc a = listed-length (λ k. before_row k b.uses) 0 (suc a) in
      let z : 0 + suc a ≡ suc a = omega arith in
      let m : starts_to a b.uses ++ length b.uses ∷ [] ≡ starts_to (suc a) b.uses =
      sym (listed_end (λ k. before_row k b.uses) 0 (suc a) ∙ ap (λ (x : ℕ). starts_to a b.uses ++ x ∷ []) (rw z (before_all (suc a) b.uses pair_before))) in
      let f : set (filled (instructions_most + 1) (starts_to a b.uses)) (suc a) (length b.uses) ≡ filled (instructions_most + 1) (starts_to (suc a) b.uses) =
      ap (λ (i : ℕ). set (filled (instructions_most + 1) (starts_to a b.uses)) i (length b.uses)) (sym l)
      ∙ filled_more (instructions_most + 1) (starts_to a b.uses) (length b.uses) (omega (arith, l))
      ∙ ap (filled (instructions_most + 1)) m in
      sym (stored 4 starts_at (suc a) (length b.uses) (omega (arith, s.live, s.tags, s.payloads)) (omega (arith, s.starts)) ∙ rw f refl)

  -- a use in row a
  pub use_stored : (p : ℕ × ℕ) → p.0 ≡ a → length b.uses < uses_most → begun_image a (record b { uses = b.uses ++ p ∷ [] }) ≡ set (begun_image a b) (users_at + length b.uses) p.1
  unfolding begun_image
  use_stored p q h =
      let s = lengths a b r in
      let snd = λ (p : ℕ × ℕ). p.1 in
      let e : length (map snd b.uses) ≡ length b.uses = length-map b.uses snd in
      let t : starts_to a (b.uses ++ p ∷ []) ≡ starts_to a b.uses = listed_same (λ k. before_row k (b.uses ++ p ∷ [])) (λ k. before_row k b.uses) 0
      (suc a) (λ k u v. before_same k b.uses p (omega (arith, q))) in
      let f : set (filled uses_most (map snd b.uses)) (length b.uses) p.1 ≡ filled uses_most (map snd (b.uses ++ p ∷ [])) =
      rw (← e) (filled_more uses_most (map snd b.uses) p.1 (omega arith)) ∙ ap (filled uses_most) (sym (map-append snd b.uses (p ∷ []))) in
      rw t (sym (stored 5 users_at (length b.uses) p.1 (omega (arith, s.live, s.tags, s.payloads, s.starts)) (omega (arith, s.users)) ∙ rw f refl))

  -- the place of the word that has instruction p.1's bit in the row of function p.0, and what stands there
  module _ (p : ℕ × ℕ) (f : p.0 < b.totals.functions) (n : p.1 < b.totals.instructions) where
    abbrev row : List 𝔹
    row = bit_row b.totals.instructions (pair_row p.0 b.calls)

    abbrev place : ℕ
    place = p.0 * row_words + p.1 / 64

    row-at : get_or (caller_rows b) p.0 [] ≡ row
    row-at = let z : 0 + p.0 ≡ p.0 = omega arith in get_listed (λ k. bit_row b.totals.instructions (pair_row k b.calls)) [] 0 b.totals.functions p.0 f ∙ rw z refl

    words-at : get_or (map (words_of row_words) (caller_rows b)) p.0 [] ≡ words_of row_words row
    words-at = map_at (words_of row_words) (caller_rows b) p.0 [] []
        (omega (arith, listed-length (λ k. bit_row b.totals.instructions (pair_row k b.calls)) 0 b.totals.functions))
        ∙ ap (words_of row_words) row-at

    front : length (concat (take p.0 (map (words_of row_words) (caller_rows b)))) ≡ p.0 * row_words
    front = rows-length row_words (caller_rows b) p.0 (omega (arith, listed-length (λ k. bit_row b.totals.instructions (pair_row k b.calls)) 0 b.totals.functions))

    word : p.1 / 64 < length (words_of row_words row)
    word = omega (arith, words-length row_words row, r.instructions, n)

    in_use : place < length (concat (map (words_of row_words) (caller_rows b)))
    in_use = omega (arith, words_size (caller_rows b), listed-length (λ k. bit_row b.totals.instructions (pair_row k b.calls)) 0 b.totals.functions, r.instructions, n, f)

    word-in : get_or (begun_image a b) (callers_at + place) 0 ≡ get_or (words_of row_words row) (p.1 / 64) 0
    unfolding begun_image
    word-in =
        let s = lengths a b r in
        let w = map (words_of row_words) (caller_rows b) in
        ap (λ (m : ℕ). get_or (begun_image a b) (m + place) 0) (sym (at 6 callers_at (omega (arith, s.live, s.tags, s.payloads, s.starts, s.users))))
        ∙ in_table (begun_tables a b) 6 place (omega (arith, s.callers, r.functions, f, n, r.instructions))
        ∙ filled_at (functions_most * row_words) (concat w) place
        ∙ ap (λ (m : ℕ). get_or (concat w) (m + p.1 / 64) 0) (sym front)
        ∙ in_table w p.0 (p.1 / 64) (rw (words-at) word)
        ∙ ap (λ (l : List ℕ). get_or l (p.1 / 64) 0) words-at

    -- a caller that is new
    pub call_stored : any (eqb p.1) (pair_row p.0 b.calls) ≡ false
        → begun_image a (record b { calls = b.calls ++ p ∷ [] }) ≡ set (begun_image a b) (callers_at + place) (get_or (begun_image a b) (callers_at + place) 0 + 2 ^ (p.1 % 64))
    unfolding begun_image
    call_stored new =
        let s = lengths a b r in
        let N = b.totals.instructions in
        let w = map (words_of row_words) (caller_rows b) in
        let x = get_or (words_of row_words row) (p.1 / 64) 0 + 2 ^ (p.1 % 64) in
        let clear : get_or row p.1 false ≡ false =
        (let z : 0 + p.1 ≡ p.1 = omega arith in get_listed (λ k. any (eqb k) (pair_row p.0 b.calls)) false 0 N p.1 n ∙ rw z new) in
        let more : words_of row_words (set row p.1 true) ≡ set (words_of row_words row) (p.1 / 64) x =
        words_more row_words row p.1 (omega (arith, listed-length (λ k. any (eqb k) (pair_row p.0 b.calls)) 0 N)) (omega (arith, r.instructions)) clear in
        let rows : caller_rows (record b { calls = b.calls ++ p ∷ [] }) ≡ set (caller_rows b) p.0 (set row p.1 true) =
        listed_set (λ k. bit_row N (pair_row k b.calls)) (λ k. bit_row N (pair_row k (b.calls ++ p ∷ []))) 0 b.totals.functions p.0 (set row p.1 true) f own other in
        let words : map (words_of row_words) (caller_rows (record b { calls = b.calls ++ p ∷ [] })) ≡ set w p.0 (set (get_or w p.0 []) (p.1 / 64) x) =
        ap (map (words_of row_words)) rows
        ∙ map-set (words_of row_words) (caller_rows b) p.0 (set row p.1 true)
        ∙ ap (set w p.0) (more ∙ ap (λ (l : List ℕ). set l (p.1 / 64) x) (sym words-at)) in
        let table : concat (map (words_of row_words) (caller_rows (record b { calls = b.calls ++ p ∷ [] }))) ≡ set (concat w) place x =
        ap concat words ∙ sym (set_table w p.0 (p.1 / 64) x (rw (words-at) word)) ∙ ap (λ (m : ℕ). set (concat w) (m + p.1 / 64) x) front in
        let g : set (filled (functions_most * row_words) (concat w)) place x
        ≡ filled (functions_most * row_words) (concat (map (words_of row_words) (caller_rows (record b { calls = b.calls ++ p ∷ [] })))) =
        filled_set (functions_most * row_words) (concat w) place x in_use ∙ ap (filled (functions_most * row_words)) (sym table) in
        ap concat (ap (λ (t : List ℕ). set (begun_tables a b) 6 t) (sym g))
        ∙ sym (stored 6 callers_at place x (omega (arith, s.live, s.tags, s.payloads, s.starts, s.users)) (omega (arith, s.callers, r.functions, f, n, r.instructions)))
        ∙ ap (λ (y : ℕ). set (begun_image a b) (callers_at + place) (y + 2 ^ (p.1 % 64))) (sym word-in)
      where
        own : bit_row b.totals.instructions (pair_row (0 + p.0) (b.calls ++ p ∷ [])) ≡ set row p.1 true
        own =
            let z : 0 + p.0 ≡ p.0 = omega arith in
            rw z (ap (bit_row b.totals.instructions) (pair_row_more p.0 b.calls p ∙ rw (eq-eqb p.0 p.0 refl) refl) ∙ bits_more b.totals.instructions p.1 (pair_row p.0 b.calls) n)

        other : (k : ℕ) → (k ≡ 0 + p.0 → ⊥) → bit_row b.totals.instructions (pair_row k (b.calls ++ p ∷ [])) ≡ bit_row b.totals.instructions (pair_row k b.calls)
        other k ne = ap (bit_row b.totals.instructions) (pair_row_more k b.calls p ∙ rw (ne_eqb p.0 k (λ e. ne (omega (arith, e)))) (append-nil (pair_row k b.calls)))

    -- and its word stays one of 64 bits
    pub call_fits : any (eqb p.1) (pair_row p.0 b.calls) ≡ false → get_or (begun_image a b) (callers_at + place) 0 + 2 ^ (p.1 % 64) < 2 ^ 64
    call_fits new =
        let N = b.totals.instructions in
        let w = words_of row_words row in
        let x = get_or w (p.1 / 64) 0 + 2 ^ (p.1 % 64) in
        let clear : get_or row p.1 false ≡ false =
        (let z : 0 + p.1 ≡ p.1 = omega arith in get_listed (λ k. any (eqb k) (pair_row p.0 b.calls)) false 0 N p.1 n ∙ rw z new) in
        let more : words_of row_words (set row p.1 true) ≡ set w (p.1 / 64) x =
        words_more row_words row p.1 (omega (arith, listed-length (λ k. any (eqb k) (pair_row p.0 b.calls)) 0 N)) (omega (arith, r.instructions)) clear in
        let e : get_or (words_of row_words (set row p.1 true)) (p.1 / 64) 0 ≡ x =
        ap (λ (l : List ℕ). get_or l (p.1 / 64) 0) more ∙ get_or-set_same w (p.1 / 64) x 0 word in
        rw (word-in, ← e) (words_small row_words (set row p.1 true) (p.1 / 64))

-- ---- at the beginning and at the end

no_words : (k n : ℕ) → words_of k (bit_row n []) ≡ zeros k
no_words k n =
    sym (words-known k (zeros k) (bit_row n []) (zeros-length k) (λ j lt. rw (zeros-at k j) (omega arith))
    (λ j lt. rw (zeros-at k (j / 64), zero-div (2 ^ (j % 64)), clear 0 n j) refl))
  where
    clear : (i n j : ℕ) → get_or (listed (λ k. any (eqb k) []) i n) j false ≡ false
    clear i zero j = refl
    clear i (suc n) zero = refl
    clear i (suc n) (suc j) = clear (suc i) n j

no_callers : (i f n : ℕ) → concat (map (words_of row_words) (listed (λ k. bit_row n []) i f)) ≡ zeros (f * row_words)
unfolding zeros
no_callers i zero n = refl
no_callers i (suc f) n =
    let e : suc f * row_words ≡ row_words + f * row_words = omega arith in
    rw e (ap₂ ◌++◌ (no_words row_words n) (no_callers (suc i) f n) ∙ sym (zeros_split row_words (f * row_words)))

filled_zeros : (n m : ℕ) → m ≤ n → filled n (zeros m) ≡ zeros n
unfolding filled
filled_zeros n m h = let e : m + (n - m) ≡ n = omega arith in rw (zeros-length m) (sym (zeros_split m (n - m)) ∙ ap zeros e)

filled_none : (n : ℕ) → filled n [] ≡ zeros n
unfolding filled
filled_none n = let e : n - 0 ≡ n = omega arith in rw e refl

filled_zero : (n : ℕ) → filled (n + 1) (0 ∷ []) ≡ zeros (n + 1)
unfolding zeros
filled_zero n = filled_zeros (n + 1) 1 (omega arith)

join_zeros : (m n : ℕ) (k l : List ℕ) → k ≡ zeros m → l ≡ zeros n → k ++ l ≡ zeros (m + n)
join_zeros m n k l d e = ap₂ ◌++◌ d e ∙ sym (zeros_split m n)

pub totals_stored : (t : Totals) (m : List ℕ) → t.functions ≤ functions_most → Blank m answer_length
    → begun_image 0 (only_totals t) ≡ over 0 (t.functions ∷ t.blocks ∷ t.instructions ∷ t.count ∷ []) m
unfolding begun_image
totals_stored t m h b =
    let u = t.functions ∷ t.blocks ∷ t.instructions ∷ t.count ∷ [] in
    let C = functions_most * row_words in
    let I = instructions_most in
    let blank : m ≡ [] ++ zeros (4 + (answer_length - 4)) = b.is in
    let callers : filled C (concat (map (words_of row_words) (listed (λ f. bit_row t.instructions []) 0 t.functions))) ++ [] ≡ zeros C =
    append-nil (filled C (concat (map (words_of row_words) (listed (λ f. bit_row t.instructions []) 0 t.functions))))
    ∙ ap (filled C) (no_callers 0 t.functions t.instructions) ∙ filled_zeros C (t.functions * row_words) (omega arith) in
    let users = join_zeros uses_most C (filled uses_most []) _ (filled_none uses_most) callers in
    let starts = join_zeros (I + 1) (uses_most + C) (filled (I + 1) (0 ∷ [])) _ (filled_zero I) users in
    let payloads = join_zeros I (I + 1 + (uses_most + C)) (filled I []) _ (filled_none I) starts in
    let tags = join_zeros I (I + (I + 1 + (uses_most + C))) (filled I []) _ (filled_none I) payloads in
    let live = join_zeros blocks_most (I + (I + (I + 1 + (uses_most + C)))) (filled blocks_most []) _ (filled_none blocks_most) tags in
    ap (λ (z : List ℕ). u ++ z) live ∙ sym (grow [] u m (over 0 u m) 0 4 (answer_length - 4) refl refl blank refl)

-- the whole answer
pub image_begun : (b : Begun) → Sound b → told_all b ≡ true → begun_image b.totals.instructions b ≡ image_of (told_record b)
unfolding begun_image image_of told_record
image_begun b h all =
    let N = b.totals.instructions in
    let e = told_is b all in
    let rows : length (caller_rows b) ≡ b.totals.functions = listed-length (λ f. bit_row N (pair_row f b.calls)) 0 b.totals.functions in
    let users = listed (λ i. pair_row i b.uses) 0 N in
    let ps : pairs_of 0 users ≡ b.uses = pairs_back N b.uses h.uses_rise (each_change (λ p. (p.0 < N) × (p.1 < N)) (λ p. p.0 < N) b.uses (λ p x. x.0) h.uses_under) in
    let s : starts_from 0 users ≡ starts_to N b.uses = starts_of N b.uses in
    let u : concat users ≡ map (λ (p : ℕ × ℕ). p.1) b.uses = sym (seconds_of 0 users) ∙ ap (map (λ (p : ℕ × ℕ). p.1)) ps in
    rw (rows, e.0, e.1, s, u) refl
