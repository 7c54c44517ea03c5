-- The users that stand in the answer memory are two tables of the answer's record. Assumes nothing.
use mathlib.Core.Path.{◌≡◌, sym, ap, ◌∙◌}
use mathlib.Core.List.{List, [], ◌++◌}
use Prim.Native.Nat.{ℕ, zero, suc, ◌+◌, ◌-◌, ◌≤◌, ◌<◌}
use native.Mathlib.Omega.{arith}
use native.Mathlib.Decide.{dec_lt}
use native.Mathlib.Nat.{not-suc-le-zero}
use native.Mathlib.Numerals.{add-one}
use lib.ListN.{length, get_or, take, get_or-append}
use lib.Seq.{get_or-append-add, take_all}
use Rattle.rules.specs.Lists.{concat}
use Rattle.rules.specs.Program.{Program}
use Rattle.rules.specs.Uses as R
use Rattle.program.specs.View.{program_view, ProgramReady}
use Rattle.program.specs.declared.Counts.{Counts}
use Rattle.program.proofs.Tables.{tab-length, tab-at}
use Rattle.machine.specs.Analysed.{Users}
use Rattle.memory.specs.Memory.{over}
use Rattle.memory.proofs.Laws.{over-length, over_in, over_out, over-known}
use Rattle.answer.specs.Layout.{answer_length, starts_at, users_at}
use Rattle.answer.specs.Record.{users_from}
use Rattle.answer.specs.Image.{starts_from}
use Rattle.answer.proofs.Laws.{starts-length, starts-at, front-more, front-table}
use Rattle.answer.proofs.Uses.{users-length}
use Rattle.memory.specs.Layout.{uses_most}

users-at : (p : Program) (i n k : ℕ) → k < n → get_or (users_from p i n) k [] ≡ R.uses p (i + k)
users-at p i zero k h = absurd (not-suc-le-zero h)
users-at p i (suc n) zero h = let e : i ≡ i + 0 = omega arith in ap (R.uses p) e
users-at p i (suc n) (suc k) h = let e : suc i + k ≡ i + suc k = omega arith in users-at p (suc i) n k (omega arith) ∙ ap (R.uses p) e

-- a place in neither table
abbrev pub Outside : Counts → List ℕ → ℕ → Type 0
Outside c a k = (starts_at ≤ k → k < starts_at + (c.insns + 1) → ⊥) × (users_at ≤ k → k < users_at + get_or a (starts_at + c.insns) 0 → ⊥)

module _ (s m : List ℕ) (c : Counts) (a a' : List ℕ) (ready : ProgramReady m c) (len : length a ≡ answer_length) (same : length a' ≡ length a) (u : Users m c a')
    (others : (k : ℕ) → Outside c a' k → get_or a' k 0 ≡ get_or a k 0) where
  abbrev p : Program
  p = program_view s m c

  abbrev us : List (List ℕ)
  us = users_from p 0 c.insns

  abbrev start : ℕ → ℕ
  start i = get_or a' (starts_at + i) 0

  abbrev front : ℕ → List ℕ
  front i = concat (take i us)

  row : (i : ℕ) → i < c.insns → get_or us i [] ≡ R.uses p i
  row i h = let e : 0 + i ≡ i = omega arith in users-at p 0 c.insns i h ∙ ap (R.uses p) e

  -- the users of instruction i stand between two starts
  size : (i : ℕ) → i < c.insns → start (i + 1) - start i ≡ length (R.uses p i)
  size i h = sym (tab-length (λ q. get_or a' (users_at + start i + q) 0) (start (i + 1) - start i)) ∙ ap length (u.part s i h)

  starts : (i : ℕ) → i ≤ c.insns → start i ≡ length (front i)
  starts zero h = u.begins
  starts (suc i) h =
      let l : i < length us = omega (arith, users-length p 0 c.insns) in
      let k : i < c.insns = omega arith in
      let r : start i ≤ start (i + 1) = u.rises i k in
      let e : start (suc i) ≡ start (i + 1) = ap start (sym (add-one i)) in
      e ∙ omega (arith, starts i (omega arith), size i k, front-more us i l, ap length (row i k))

  all_of : front c.insns ≡ concat us
  all_of = ap concat (take_all c.insns us (omega (arith, users-length p 0 c.insns)))

  total : start c.insns ≡ length (concat us)
  total = starts c.insns (omega arith) ∙ ap length all_of

  users : (i : ℕ) → i ≤ c.insns → (j : ℕ) → j < length (front i) → get_or a' (users_at + j) 0 ≡ get_or (front i) j 0
  users zero h j lt = absurd (not-suc-le-zero lt)
  users (suc i) h j lt = rw (front-table us i l) (go (users i (omega arith)) (dec_lt j (length (front i))))
    where
      l : i < length us
      l = omega (arith, users-length p 0 c.insns)

      k : i < c.insns
      k = omega arith

      both : length (front (suc i)) ≡ length (front i) + length (get_or us i [])
      both = front-more us i l

      go : ((k : ℕ) → k < length (front i) → get_or a' (users_at + k) 0 ≡ get_or (front i) k 0) → Dec (j < length (front i)) → get_or a' (users_at + j) 0 ≡ get_or (front i ++ get_or us i []) j 0
      go before (yes z) = before j z ∙ sym (get_or-append (front i) (get_or us i []) 0 j z)
      go before (no z) =
          let q = j - length (front i) in
          let e : j ≡ length (front i) + q = omega arith in
          let b = starts i (omega arith) in
          let n : q < start (i + 1) - start i = omega (arith, size i k, both, ap length (row i k)) in
          let f : users_at + j ≡ users_at + start i + q = omega (arith, b) in
          ap (λ (x : ℕ). get_or a' x 0) f
          ∙ sym (tab-at (λ q. get_or a' (users_at + start i + q) 0) (start (i + 1) - start i) q 0 n)
          ∙ ap (λ (t : List ℕ). get_or t q 0) (u.part s i k ∙ sym (row i k))
          ∙ sym (ap (λ (x : ℕ). get_or (front i ++ get_or us i []) x 0) e ∙ get_or-append-add (front i) (get_or us i []) q 0)

  pub uses_written : a' ≡ over users_at (concat us) (over starts_at (starts_from 0 us) a)
  uses_written =
      over-known users_at (concat us) (over starts_at ss a) a' (omega (arith, mid, fits)) (same ∙ sym (over-length starts_at ss a room))
      (λ j h. users c.insns (omega arith) j (omega (arith, ap length all_of)) ∙ ap (λ (t : List ℕ). get_or t j 0) all_of)
      (λ k out. go k out (dec_lt k starts_at) (dec_lt k (starts_at + length ss)))
    where
      ss : List ℕ
      ss = starts_from 0 us

      many : length ss ≡ c.insns + 1
      many = starts-length 0 us ∙ omega (arith, users-length p 0 c.insns)

      room : starts_at + length ss ≤ length a
      room = omega (arith, many, ready.insns)

      mid : length (over starts_at ss a) ≡ answer_length
      mid = over-length starts_at ss a room ∙ len

      fits : length (concat us) ≤ uses_most
      fits = omega (arith, total, u.total)

      else' : (k : ℕ) → (users_at ≤ k → k < users_at + length (concat us) → ⊥) → (starts_at ≤ k → k < starts_at + length ss → ⊥) → get_or a' k 0 ≡ get_or (over starts_at ss a) k 0
      else' k out o =
          others k (λ x y. o x (omega (arith, many)), λ x y. out x (omega (arith, total)))
          ∙ sym (over_out starts_at ss a k (omega arith) o)

      go : (k : ℕ) → (users_at ≤ k → k < users_at + length (concat us) → ⊥) → Dec (k < starts_at) → Dec (k < starts_at + length ss) → get_or a' k 0 ≡ get_or (over starts_at ss a) k 0
      go k out (yes x) y = else' k out (λ l h. omega arith)
      go k out (no x) (no y) = else' k out (λ l h. omega arith)
      go k out (no x) (yes y) =
          let i = k - starts_at in
          let e : k ≡ starts_at + i = omega arith in
          let h : i ≤ c.insns = omega (arith, many) in
          ap (λ (x : ℕ). get_or a' x 0) e
          ∙ starts i h
          ∙ sym (ap (λ (x : ℕ). get_or (over starts_at ss a) x 0) e ∙ over_in starts_at ss a i (omega arith) (omega arith) ∙ starts-at 0 us i (omega (arith, users-length p 0 c.insns)) ∙ omega arith)
