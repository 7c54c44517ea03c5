-- Publishing an answer: its tables are placed one behind the other in cleared memory, which then is the image. Assumes nothing.
use mathlib.Core.Path.{◌≡◌, refl, sym, ap, ◌∙◌}
use mathlib.Core.List.{List, [], ◌∷◌, ◌++◌, map, append-nil}
use Prim.Native.Nat.{ℕ, suc, ◌+◌, ◌-◌, ◌*◌, ◌≤◌, ◌<◌}
use native.Mathlib.Omega.{arith}
use lib.ListN.{length, get_or, take, length-append, length-map}
use Rattle.kinds.specs.Kinds.{bit_of, tag_of, payload_of}
use Rattle.rules.specs.Lists.{concat}
use Rattle.memory.specs.Memory.{zeros, Blank, over, filled}
use Rattle.memory.proofs.Laws.{zeros-length, filled-length, filled-full, grow_table, over-length, over_apart}
use Rattle.memory.specs.Layout.{functions_most, blocks_most, instructions_most, uses_most, row_words}
use Rattle.answer.specs.Layout.{live_at, tags_at, payloads_at, starts_at, users_at, callers_at, answer_length}
use Rattle.answer.specs.Record.{Record, Legal}
use Rattle.answer.specs.Image.{starts_from, words_of, tables_of, image_of, Standing}
use Rattle.answer.proofs.Laws.{front-table, starts-length}
use Rattle.answer.proofs.Image.{all-rows, at-live, at_tags, at_payloads, at-starts, at-users, at-callers, image_length}

-- one table more of those that stand one behind the other in `total` places
next-table : (ts : List (List ℕ)) (k at size total : ℕ) (u a a' : List ℕ) → k < length ts → length (concat (take k ts)) ≡ at → get_or ts k [] ≡ filled size u
    → length u ≤ size → at + size ≤ total → a ≡ concat (take k ts) ++ zeros (total - length (concat (take k ts))) → a' ≡ over at u a
    → (a' ≡ concat (take (suc k) ts) ++ zeros (total - length (concat (take (suc k) ts)))) × (length a' ≡ total)
next-table ts k at size total u a a' h l f s room g e =
    let n = total - (at + size) in
    let t = concat (take k ts) in
    let c : concat (take (suc k) ts) ≡ t ++ filled size u = front-table ts k h ∙ ap (λ (z : List ℕ). t ++ z) f in
    let m : length (concat (take (suc k) ts)) ≡ at + size = ap length c ∙ rw (length-append, l, filled-length size u s) in
    let z : total - at ≡ size + n = omega arith in
    let i : a ≡ t ++ zeros (size + n) = rw (l, z) at g in
    let x : a' ≡ concat (take (suc k) ts) ++ zeros n = grow_table t u a a' at size n l s i e ∙ ap (λ (y : List ℕ). y ++ zeros n) (sym c) in (
      x ∙ ap (λ (y : ℕ). concat (take (suc k) ts) ++ zeros (total - y)) (sym m),
      ap length x ∙ rw (length-append, zeros-length) (omega arith),
    )

module _ (r : Record) (ok : Legal r) where
  pub stand_none : {a : List ℕ} → Blank a answer_length → Standing r 0 a
  stand_none b = record { is = b.is; len = b.len }

  pub stand_all : {a : List ℕ} → Standing r 7 a → a ≡ image_of r
  unfolding image_of zeros
  stand_all g = let e : answer_length - length (concat (tables_of r)) ≡ 0 = omega (arith, image_length r ok) in g.is ∙ rw e (append-nil (concat (tables_of r)))

  -- table k, of so many places, from `at` on
  stand_next : (k at size : ℕ) (u : List ℕ) {a a' : List ℕ} → k < 7 → length (concat (take k (tables_of r))) ≡ at → get_or (tables_of r) k [] ≡ filled size u
      → length u ≤ size → at + size ≤ answer_length → Standing r k a → a' ≡ over at u a → Standing r (suc k) a'
  stand_next k at size u {a} {a'} h l f s room g e =
      let x = next-table (tables_of r) k at size answer_length u a a' h l f s room g.is e in
      record { is = x.0; len = x.1 }

  module _ {a a' : List ℕ} where
    pub stand_totals : Standing r 0 a → a' ≡ over 0 (length r.callers ∷ length r.live ∷ length r.kinds ∷ r.count ∷ []) a → Standing r 1 a'
    stand_totals =
        stand_next 0 0 4 (length r.callers ∷ length r.live ∷ length r.kinds ∷ r.count ∷ []) (omega arith) refl
        (sym (filled-full (length r.callers ∷ length r.live ∷ length r.kinds ∷ r.count ∷ []))) (omega arith) (omega arith)

    pub stand_live : Standing r 1 a → a' ≡ over live_at (map bit_of r.live) a → Standing r 2 a'
    stand_live = stand_next 1 live_at blocks_most (map bit_of r.live) (omega arith) (at-live r ok) refl (rw length-map ok.blocks) (omega arith)

    pub stand_tags : Standing r 2 a → a' ≡ over tags_at (map tag_of r.kinds) a → Standing r 3 a'
    stand_tags = stand_next 2 tags_at instructions_most (map tag_of r.kinds) (omega arith) (at_tags r ok) refl (rw length-map ok.instructions) (omega arith)

    pub stand_payloads : Standing r 3 a → a' ≡ over payloads_at (map payload_of r.kinds) a → Standing r 4 a'
    stand_payloads = stand_next 3 payloads_at instructions_most (map payload_of r.kinds) (omega arith) (at_payloads r ok) refl (rw length-map ok.instructions) (omega arith)

    pub stand_starts : Standing r 4 a → a' ≡ over starts_at (starts_from 0 r.users) a → Standing r 5 a'
    stand_starts =
        stand_next 4 starts_at (instructions_most + 1) (starts_from 0 r.users) (omega arith) (at-starts r ok) refl
        (rw starts-length (omega (arith, ok.lists, ok.instructions))) (omega arith)

    pub stand_users : Standing r 5 a → a' ≡ over users_at (concat r.users) a → Standing r 6 a'
    stand_users = stand_next 5 users_at uses_most (concat r.users) (omega arith) (at-users r ok) refl ok.uses (omega arith)

    pub stand_callers : Standing r 6 a → a' ≡ over callers_at (concat (map (words_of row_words) r.callers)) a → Standing r 7 a'
    stand_callers =
        stand_next 6 callers_at (functions_most * row_words) (concat (map (words_of row_words) r.callers)) (omega arith) (at-callers r ok) refl
        (rw (all-rows r ok) (omega (arith, ok.functions))) (omega arith)

  -- ---- the uses are written first, then the rest

  module _ (a₀ : List ℕ) (b : Blank a₀ answer_length) where
    abbrev totals : List ℕ
    totals = length r.callers ∷ length r.live ∷ length r.kinds ∷ r.count ∷ []

    abbrev with_uses : List ℕ → List ℕ
    with_uses a = over users_at (concat r.users) (over starts_at (starts_from 0 r.users) a)

    -- a table in front of them
    past : (i : ℕ) (l a : List ℕ) → i + length l ≤ starts_at → length a ≡ answer_length → over i l (with_uses a) ≡ with_uses (over i l a)
    past i l a h e =
        let s : starts_at + length (starts_from 0 r.users) ≤ users_at = rw starts-length (omega (arith, ok.lists, ok.instructions)) in
        let n : length (over starts_at (starts_from 0 r.users) a) ≡ answer_length = over-length starts_at (starts_from 0 r.users) a (omega arith) ∙ e in
        over_apart i users_at l (concat r.users) (over starts_at (starts_from 0 r.users) a) (omega arith) (omega (arith, ok.uses, n))
        ∙ ap (over users_at (concat r.users)) (over_apart i starts_at l (starts_from 0 r.users) a h (omega arith))

    pub published : {a₁ a₂ : List ℕ} → a₁ ≡ over users_at (concat r.users) (over starts_at (starts_from 0 r.users) a₀)
        → a₂ ≡ over callers_at (concat (map (words_of row_words) r.callers)) (over payloads_at (map payload_of r.kinds) (over tags_at (map tag_of r.kinds)
        (over live_at (map bit_of r.live) (over 0 (length r.callers ∷ length r.live ∷ length r.kinds ∷ r.count ∷ []) a₁))))
        → a₂ ≡ image_of r
    published {a₁} {a₂} e₁ e₂ =
        let kinds : length r.kinds ≤ instructions_most = ok.instructions in
        let g₁ = stand_totals (stand_none b) refl in
        let g₂ = stand_live g₁ refl in
        let g₃ = stand_tags g₂ refl in
        let g₄ = stand_payloads g₃ refl in
        let g₆ = stand_users (stand_starts g₄ refl) refl in
        let p₁ : over 0 totals a₁ ≡ with_uses (over 0 totals a₀) = ap (over 0 totals) e₁ ∙ past 0 totals a₀ (omega arith) b.len in
        let p₂ = ap (over live_at (map bit_of r.live)) p₁ ∙ past live_at (map bit_of r.live) _ (rw length-map (omega (arith, ok.blocks))) g₁.len in
        let p₃ = ap (over tags_at (map tag_of r.kinds)) p₂ ∙ past tags_at (map tag_of r.kinds) _ (rw length-map (omega arith)) g₂.len in
        let p₄ = ap (over payloads_at (map payload_of r.kinds)) p₃ ∙ past payloads_at (map payload_of r.kinds) _ (rw length-map (omega arith)) g₃.len in
        stand_all (stand_callers g₆ (e₂ ∙ ap (over callers_at (concat (map (words_of row_words) r.callers))) p₄))
