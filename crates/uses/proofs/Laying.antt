-- The chains laid out one after the other. Assumes nothing.
use mathlib.Core.Path.{◌≡◌, refl, sym, ap, ap₂, ◌∙◌}
use mathlib.Core.Logic.{◌⊎◌}
use mathlib.Core.List.{List, [], ◌∷◌, ◌++◌, append-nil, append_assoc}
use Prim.Native.Nat.{ℕ, suc, ◌+◌, ◌-◌, ◌≤◌, ◌<◌}
use native.Mathlib.Decide.{ℕ_discrete}
use native.Mathlib.Omega.{arith}
use lib.ListN.{length, get_or, set, length-set, length-append}
use lib.Seq.{get_or-set_same, get_or-set_other}
use Rattle.program.specs.Tab.{tab}
use Rattle.program.specs.View.{ProgramReady}
use Rattle.program.specs.declared.Counts.{Counts}
use Rattle.program.proofs.Tables.{tab_ext, tab-more}
use Rattle.chains.specs.Chains.{at}
use Rattle.chains.proofs.Lists.{Starts, chained_below, chained_none, chained_some, chained_low}
use Rattle.memory.specs.Layout.{instructions_most, uses_most}
use Rattle.uses.specs.Layout.{items_at, links_at}
use Rattle.uses.specs.Users.{sum_to, users_of, users_to, Cells, Linked, words, Uses}
use Rattle.uses.proofs.Totals.{uses-is, users-room, sum_more, sum_mono}

-- the users of the instructions before j stand in their place
pub record Laying (m : List ℕ) (n a b : ℕ) (u₀ u : List ℕ) (pos j : ℕ) : Type 0 where
  pub len_same : length u ≡ length u₀
  pub high : j ≤ n
  pub pos_is : pos ≡ users_to m n j
  pub starts : (k : ℕ) → k < j → get_or u (a + k) 0 ≡ users_to m n k
  pub parts : (k : ℕ) → k < j → words u (b + users_to m n k) (length (users_of m n k)) ≡ users_of m n k
  pub others : (k : ℕ) → (a ≤ k → k < a + j → ⊥) → (b ≤ k → k < b + pos → ⊥) → get_or u k 0 ≡ get_or u₀ k 0

-- and of j those in front
pub record Copying (m : List ℕ) (n a b : ℕ) (w v u : List ℕ) (j pos h : ℕ) : Type 0 where
  pub len_same : length u ≡ length v
  pub high : j < n
  pub front : List ℕ
  pub rest : List ℕ
  pub whole : front ++ rest ≡ users_of m n j
  pub cells : Cells w 0 h rest
  pub pos_is : pos ≡ users_to m n j + length front
  pub starts : (k : ℕ) → k < j + 1 → get_or u (a + k) 0 ≡ users_to m n k
  pub parts : (k : ℕ) → k < j → words u (b + users_to m n k) (length (users_of m n k)) ≡ users_of m n k
  pub own : words u (b + users_to m n j) (length front) ≡ front
  pub others : (k : ℕ) → (b ≤ k → k < b + pos → ⊥) → get_or u k 0 ≡ get_or v k 0

sum-none : (g : ℕ → ℕ) → sum_to g 0 ≡ 0
unfolding sum_to
sum-none g = refl

-- a word elsewhere changes
words_same : (u : List ℕ) (a n k v : ℕ) → (k < a) ⊎ (a + n ≤ k) → words (set u k v) a n ≡ words u a n
words_same u a n k v h = tab_ext (λ q. get_or (set u k v) (a + q) 0) (λ q. get_or u (a + q) 0) n (λ q g. get_or-set_other u k (a + q) v 0 (λ z. apart h q g z))
  where
    apart : (k < a) ⊎ (a + n ≤ k) → (q : ℕ) → q < n → a + q ≡ k → ⊥
    apart (mathlib.Core.Logic.inl x) q g z = omega arith
    apart (mathlib.Core.Logic.inr x) q g z = omega arith

module _ {m : List ℕ} {c : Counts} (ok : ProgramReady m c) (a b : ℕ) (u₀ : List ℕ) (order : a + (instructions_most + 1) ≤ b) (room : b + uses_most ≤ length u₀) where
  abbrev N : ℕ
  N = c.insns

  pub lay_start : Laying m c.insns a b u₀ u₀ 0 0
  unfolding sum_to
  lay_start =
      record {
        len_same = refl;
        high = omega arith;
        pos_is = refl;
        starts = λ k h. absurd (omega arith);
        parts = λ k h. absurd (omega arith);
        others = λ k g h. refl;
      }

  module _ {u : List ℕ} {pos j : ℕ} (z : Laying m c.insns a b u₀ u pos j) where
    start-room : (x : ℕ) → x ≤ N → a + x < length u
    start-room x h = omega (arith, ok.insns, z.len_same)

    -- where j's users start
    starts-on : (k : ℕ) → k < j + 1 → get_or (set u (a + j) pos) (a + k) 0 ≡ users_to m N k
    starts-on k h =
        elim (ℕ_discrete k j) [
          | yes q ↦ rw q (get_or-set_same u (a + j) pos 0 (start-room j z.high) ∙ z.pos_is)
          | no q ↦ get_or-set_other u (a + j) (a + k) pos 0 (λ x. q (omega arith)) ∙ z.starts k (omega arith)
        ]

    parts_on : (k : ℕ) → k < j → words (set u (a + j) pos) (b + users_to m N k) (length (users_of m N k)) ≡ users_of m N k
    parts_on k h =
        words_same u (b + users_to m N k) (length (users_of m N k)) (a + j) pos (mathlib.Core.Logic.inl (omega (arith, ok.insns, z.high))) ∙ z.parts k h

    others-on : (k : ℕ) → (a ≤ k → k < a + (j + 1) → ⊥) → (b ≤ k → k < b + pos → ⊥) → get_or (set u (a + j) pos) k 0 ≡ get_or u₀ k 0
    others-on k g h = get_or-set_other u (a + j) k pos 0 (λ x. g (omega arith) (omega arith)) ∙ z.others k (λ p q. g p (omega arith)) h

    pub copy_start : {w : List ℕ} {e : ℕ} → Linked m c.insns 0 e w → j < c.insns → Copying m c.insns a b w (set u (a + j) pos) (set u (a + j) pos) j pos (get_or w j 0)
    unfolding tab
    copy_start {w} {e} l h =
        let y : N - 0 ≡ N = omega arith in
        record {
          len_same = refl;
          high = h;
          front = [];
          rest = users_of m N j;
          whole = refl;
          cells = chained_below (at w items_at) (at w links_at) uses_most e 0 (get_or w j 0) (users_of m N j) (omega arith) (rw y at (l.cells j h));
          pos_is = omega (arith, z.pos_is);
          starts = starts-on;
          parts = parts_on;
          own = refl;
          others = λ k h. refl;
        }

    pub on_room : b + uses_most ≤ length (set u (a + j) pos)
    on_room = omega (arith, length-set u (a + j) pos, z.len_same)

    pub copy_done : {w u' : List ℕ} {pos' h : ℕ} → Copying m c.insns a b w (set u (a + j) pos) u' j pos' h → uses_most ≤ h → Laying m c.insns a b u₀ u' pos' (j + 1)
    copy_done {w} {u'} {pos'} {h} y g =
        let e : y.rest ≡ [] = chained_none (at w items_at) (at w links_at) uses_most 0 h y.rest y.cells g in
        let f : y.front ≡ users_of m N j = sym (append-nil y.front) ∙ (sym (ap (λ l. y.front ++ l) e) ∙ y.whole) in
        record {
          len_same = y.len_same ∙ (length-set u (a + j) pos ∙ z.len_same);
          high = omega (arith, y.high);
          pos_is = omega (arith, y.pos_is, ap length f, sum_more (λ x. length (users_of m N x)) j);
          starts = y.starts;
          parts = λ k l.
              elim (ℕ_discrete k j) [
                | yes q ↦ rw q (ap (λ (l : List ℕ). words u' (b + users_to m N j) (length l)) (sym f) ∙ (y.own ∙ f))
                | no q ↦ y.parts k (omega arith)
              ];
          others = λ k p q. y.others k q ∙ others-on k p (λ x l. q x (omega (arith, y.pos_is, z.pos_is)));
        }

    pub lay_done : c.insns ≤ j → Uses m c a b u₀ (set u (a + c.insns) pos)
    lay_done h =
        let e : j ≡ N = omega (arith, z.high) in
        let s : (k : ℕ) → k < N + 1 → get_or (set u (a + N) pos) (a + k) 0 ≡ users_to m N k = λ k g. rw e at (starts-on k (omega arith)) in
        record {
          len_same = length-set u (a + N) pos ∙ z.len_same;
          begins = s 0 (omega arith) ∙ sum-none (λ x. length (users_of m N x));
          rises = λ k g. omega (arith, s k (omega arith), s (k + 1) (omega arith), sum_more (λ x. length (users_of m N x)) k);
          total = omega (arith, s N (omega arith), users-room ok N);
          part = λ t k g.
              let p = s k (omega arith) in
              let n = s (k + 1) (omega arith) in
              let len : get_or (set u (a + N) pos) (a + (k + 1)) 0 - get_or (set u (a + N) pos) (a + k) 0 ≡ length (users_of m N k) = omega (arith, p, n, sum_more (λ x. length (users_of m N x)) k) in
              ap₂ {C = List ℕ} (λ x y. words (set u (a + N) pos) (b + x) y) p len ∙ ((rw e at (parts_on k (omega arith))) ∙ sym (uses-is ok t k));
          others = λ k g h.
              let p : get_or (set u (a + N) pos) (a + N) 0 ≡ pos = s N (omega arith) ∙ sym (z.pos_is ∙ ap (users_to m N) e) in
              rw e at (others-on k (λ x l. g x (omega arith)) (λ x l. h x (omega (arith, p))));
        }

module _ {m : List ℕ} {c : Counts} (ok : ProgramReady m c) (a b : ℕ) (order : a + (instructions_most + 1) ≤ b) {w v u : List ℕ} {j pos h : ℕ}
    (z : Copying m c.insns a b w v u j pos h) (g : h < uses_most) where
  abbrev M : ℕ
  M = c.insns

  more : Starts (at w items_at) (at w links_at) uses_most h z.rest
  more = chained_some (at w items_at) (at w links_at) uses_most 0 h z.rest z.cells g

  pub copy_rises : h < get_or w (links_at + h) 0
  copy_rises = omega (arith, chained_low (at w items_at) (at w links_at) uses_most (suc h) (get_or w (links_at + h) 0) more.rest more.onward (omega arith))

  abbrev x : ℕ
  x = get_or w (items_at + h) 0

  whole : (z.front ++ x ∷ []) ++ more.rest ≡ users_of m M j
  whole = append_assoc z.front (x ∷ []) more.rest ∙ (sym (ap (λ l. z.front ++ l) more.is) ∙ z.whole)

  pub copy_room : pos < uses_most
  copy_room =
      omega (
        arith,
        z.pos_is,
        z.high,
        ap length whole,
        length-append (z.front ++ x ∷ []) more.rest,
        length-append z.front (x ∷ []),
        sum_mono (λ k. length (users_of m M k)) j M z.high,
        users-room ok M,
      )

  pub copy_more : b + uses_most ≤ length v → Copying m c.insns a b w v (set u (b + pos) (get_or w (items_at + h) 0)) j (pos + 1) (get_or w (links_at + h) 0)
  copy_more room =
      let here : b + users_to m M j + length z.front ≡ b + pos = omega (arith, z.pos_is) in
      let size : length (z.front ++ x ∷ []) ≡ length z.front + 1 = length-append z.front (x ∷ []) in
      record {
        len_same = length-set u (b + pos) x ∙ z.len_same;
        high = z.high;
        front = z.front ++ x ∷ [];
        rest = more.rest;
        whole = whole;
        cells = chained_below (at w items_at) (at w links_at) uses_most (suc h) 0 (get_or w (links_at + h) 0) more.rest (omega arith) more.onward;
        pos_is = omega (arith, z.pos_is, size);
        starts = λ k l. get_or-set_other u (b + pos) (a + k) x 0 (λ y. omega (arith, ok.insns, z.high)) ∙ z.starts k l;
        parts = λ k l.
            words_same u (b + users_to m M k) (length (users_of m M k)) (b + pos) x (mathlib.Core.Logic.inr (omega (arith, z.pos_is, sum_mono (λ y. length (users_of m M y)) k j l))) ∙ z.parts k l;
        own =
            ap (words (set u (b + pos) x) (b + users_to m M j)) size
            ∙ (tab-more (λ q. get_or (set u (b + pos) x) (b + users_to m M j + q) 0) (length z.front)
            ∙ ap₂ {C = List ℕ} (λ l y. l ++ y ∷ [])
            (words_same u (b + users_to m M j) (length z.front) (b + pos) x (mathlib.Core.Logic.inr (omega (arith, z.pos_is))) ∙ z.own)
            (ap (λ k. get_or (set u (b + pos) x) k 0) here ∙ get_or-set_same u (b + pos) x 0 (omega (arith, z.len_same, copy_room))));
        others = λ k q. get_or-set_other u (b + pos) k x 0 (λ y. q (omega arith) (omega arith)) ∙ z.others k (λ p l. q p (omega arith));
      }
