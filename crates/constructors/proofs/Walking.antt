-- What each way through the walk shows, on plain values. Assumes nothing.
use mathlib.Core.Bool.{Bool as 𝔹, true, false, cond, or-true}
use mathlib.Core.Path.{◌≡◌, refl, sym, ap, ◌∙◌, subst}
use mathlib.Core.List.{List, [], ◌∷◌}
use mathlib.Core.Logic.{◌⊎◌, inl, inr}
use Prim.Native.Nat.{ℕ, zero, suc, ◌+◌, ◌-◌, ◌*◌, ◌≤◌, ◌<◌}
use native.Mathlib.Decide.{ℕ_discrete}
use native.Mathlib.Numerals.{add-one}
use native.Mathlib.Omega.{arith}
use borrow.Author.Tests.{eq-eqb, ne_eqb}
use lib.Dec.{eqb}
use lib.ListN.{length, get_or, set, length-set}
use lib.Seq.{get_or-set_same, get_or-set_other}
use Rattle.rules.specs.Program.{Program, successors}
use Rattle.rules.specs.Constructors.{Walk, end_of, walk_each, walk, reverse_post_order}
use Rattle.program.specs.View.{program_view, blocks_of}
use Rattle.program.specs.Rows.{block_at}
use Rattle.program.specs.declared.Counts.{Counts}
use Rattle.program.proofs.Tables.{tab-length}
use Rattle.chains.specs.Chains.{ChainsFilled}
use Rattle.ids.specs.declared.BlockId.{BlockId}
use Rattle.memory.specs.Layout.{blocks_room}
use Rattle.constructors.specs.Layout.{order_at, walk_size}
use Rattle.constructors.specs.declared.Ends.{Ends}
use Rattle.constructors.specs.declared.Ends.TheVariants.{Return, Jump, IfTrue, Open}
use Rattle.constructors.specs.Walks.{targets, Ended, WalkInside, unseen, out_of, Marks, WalkGood, Same, walk_of, visit_of, WalkDid, Walked}

-- ---- marks

module _ (w : List ℕ) (b : ℕ) (e : get_or w b 0 ≡ 0) (l : b < length w) where
  unseen-above : (k : ℕ) → k ≤ b → unseen (set w b 1) k ≡ unseen w k
  unfolding unseen
  unseen-above zero h = refl
  unseen-above (suc k) h = rw (get_or-set_other w b k 1 0 (λ q. omega arith), unseen-above k (omega arith))

  unseen-mark : (k : ℕ) → b < k → unseen (set w b 1) k + 1 ≡ unseen w k
  unfolding unseen
  unseen-mark zero h = absurd (omega arith)
  unseen-mark (suc k) h =
      elim (ℕ_discrete k b) [
        | yes q ↦ rw (q, get_or-set_same w b 1 0 l, unseen-above b (omega arith), eq-eqb (get_or w b 0) 0 e) (omega arith)
        | no q ↦ rw (get_or-set_other w b k 1 0 q) (omega (arith, unseen-mark k (omega arith)))
      ]

  marks_more : (k : ℕ) (v : List ℕ) → Marks w k v → Marks (set w b 1) k (b ∷ v)
  marks_more k v f x h =
      elim (ℕ_discrete x b) [
        | yes q ↦ rw (eq-eqb x b q, q, get_or-set_same w b 1 0 l)
        | no q ↦ rw (ne_eqb x b q, get_or-set_other w b x 1 0 q) (f x h)
      ]

out_mark : (w : List ℕ) (b : ℕ) → b < blocks_room → (n : ℕ) → out_of (set w b 1) n ≡ out_of w n
unfolding out_of
out_mark w b h zero = refl
out_mark w b h (suc n) = rw (get_or-set_other w b (order_at + n) 1 0 (λ z. omega arith), out_mark w b h n)

-- ---- blocks left behind

module _ (w : List ℕ) (n b : ℕ) where
  unseen-push : (k : ℕ) → k ≤ blocks_room → unseen (set w (order_at + n) b) k ≡ unseen w k
  unfolding unseen
  unseen-push zero h = refl
  unseen-push (suc k) h = rw (get_or-set_other w (order_at + n) k b 0 (λ z. omega arith), unseen-push k (omega arith))

  marks_push : (k : ℕ) (v : List ℕ) → k ≤ blocks_room → Marks w k v → Marks (set w (order_at + n) b) k v
  marks_push k v h f x l = rw (get_or-set_other w (order_at + n) x b 0 (λ z. omega arith)) (f x l)

  out_push : (k : ℕ) → k ≤ n → out_of (set w (order_at + n) b) k ≡ out_of w k
  unfolding out_of
  out_push zero h = refl
  out_push (suc k) h = rw (get_or-set_other w (order_at + n) (order_at + k) b 0 (λ z. omega arith), out_push k (omega arith))

  out_more : order_at + n < length w → out_of (set w (order_at + n) b) (n + 1) ≡ b ∷ out_of w n
  unfolding out_of
  out_more h = rw (add-one, get_or-set_same w (order_at + n) b 0 h, out_push n (omega arith))

module _ (k : ℕ) (w : List ℕ) (n b : ℕ) (ok : WalkGood k w n) (l : b < k) where
  pub push-good : n < k → n + 1 + unseen w k ≤ k → WalkGood k (set w (order_at + n) b) (n + 1)
  push-good h r =
      record {
        len = omega (arith, ok.len, length-set w (order_at + n) b);
        few = ok.few;
        room = rw (unseen-push w n b k ok.few) r;
        order = λ i g.
            elim (ℕ_discrete i n) [
              | yes q ↦ rw (q, get_or-set_same w (order_at + n) b 0 (omega (arith, ok.len, ok.few))) l
              | no q ↦ rw (get_or-set_other w (order_at + n) (order_at + i) b 0 (λ z. q (omega arith))) (ok.order i (omega arith))
            ];
      }

  push-same : n < k → (v : Walk) → Same k w n v → Same k (set w (order_at + n) b) (n + 1) (record { visited = v.visited; order = b ∷ v.order })
  push-same h v s =
      record {
        visited = marks_push w n b k v.visited ok.few s.visited;
        order = out_more w n b (omega (arith, ok.len, ok.few)) ∙ ap (λ o. b ∷ o) s.order;
      }

-- ---- a walk

module _ (p : Program) where
  -- what a walk does after the mark, by the blocks that b leads to
  pub walk_to : (f b : ℕ) (v : Walk) (ts : List ℕ) → successors (end_of p b) ≡ ts
      → walk p (suc f) b v
      ≡ record {
        visited = (walk_each p (walk p f) ts (record { visited = b ∷ v.visited; order = v.order })).visited;
        order = b ∷ (walk_each p (walk p f) ts (record { visited = b ∷ v.visited; order = v.order })).order;
      }
  unfolding walk
  walk_to f b v ts e = rw e

module _ (m : List ℕ) (c : Counts) {w : List ℕ} {n : ℕ} {b : ℕ} (ok : WalkGood c.blocks w n) (l : b < c.blocks) (e : get_or w b 0 ≡ 0) where
  abbrev K : ℕ
  K = c.blocks

  abbrev w1 : List ℕ
  w1 = set w b 1

  long : b < length w
  long = omega (arith, ok.len, ok.few)

  one_less : unseen w1 K + 1 ≡ unseen w K
  one_less = unseen-mark w b e long K l

  pub mark-good : WalkGood c.blocks (set w b 1) n
  mark-good =
      record {
        len = omega (arith, ok.len, length-set w b 1);
        few = ok.few;
        room = omega (arith, ok.room, one_less);
        order = λ i h. rw (get_or-set_other w b (order_at + i) 1 0 (λ z. omega (arith, ok.few))) (ok.order i h);
      }

  pub mark-falls : (t : ℕ) → 2 * unseen w K ≡ t → 2 * unseen (set w b 1) K + 1 < t
  mark-falls t f = omega (arith, one_less)

  module _ {w2 : List ℕ} {n2 : ℕ} (ts : List ℕ) (onward : (s : List ℕ) → successors (end_of (program_view s m c) b) ≡ ts)
      (d : WalkDid (λ s f v. walk_each (program_view s m c) (walk (program_view s m c) f) ts v) c.blocks (set w b 1) n w2 n2) where
    fits : n2 + 1 + unseen w2 K ≤ K
    fits = omega (arith, d.room, one_less, ok.room)

    pub leave : (w' : List ℕ) (r : ℕ) → r ≡ n2 + 1 → w' ≡ set w2 (order_at + n2) b → WalkDid (walk_of m c b) c.blocks w n w' r
    leave w' r er ew =
        let h : n2 < K = omega (arith, d.room, one_less, ok.room) in
        rw (er, ew)
        (record {
          is = λ s f g v k.
              let one : f ≡ suc (f - 1) = omega (arith, one_less) in
              let inner = d.is s (f - 1) (omega (arith, one_less)) (b ∷ v) (marks_more w b e long K v k) in
              let start : out_of w1 n ≡ out_of w n = out_mark w b (omega (arith, ok.few)) n in
              subst (λ (z : Walk). Same K (set w2 (order_at + n2) b) (n2 + 1) z)
              (sym (ap (λ x. walk (program_view s m c) x b (record { visited = v; order = out_of w n })) one
              ∙ walk_to (program_view s m c) (f - 1) b (record { visited = v; order = out_of w n }) ts (onward s)))
              (push-same K w2 n2 b d.good l h _ (subst (λ (o : List ℕ).
              Same K w2 n2 (walk_each (program_view s m c) (walk (program_view s m c) (f - 1)) ts (record { visited = b ∷ v; order = o })))
              start inner));
          fewer = rw (unseen-push w2 n2 b K ok.few) (omega (arith, d.fewer, one_less));
          room = rw (unseen-push w2 n2 b K ok.few) (omega (arith, d.room, one_less));
          good = push-good K w2 n2 b d.good l h fits;
          len_same = length-set w2 (order_at + n2) b ∙ (d.len_same ∙ length-set w b 1);
        })

-- ---- the blocks that it leads to

abbrev pub Each : List ℕ → Counts → List ℕ → List ℕ → ℕ → Walk → Walk
Each m c ts s f v = walk_each (program_view s m c) (walk (program_view s m c) f) ts v

each_none : (m : List ℕ) (c : Counts) {w : List ℕ} {n : ℕ} → WalkGood c.blocks w n → WalkDid (Each m c []) c.blocks w n w n
each_none m c ok =
    record {
      is = λ s f g v k. record { visited = k; order = refl };
      fewer = omega arith;
      room = omega arith;
      good = ok;
      len_same = refl;
    }

each_one : (m : List ℕ) (c : Counts) (t : ℕ) {w w2 : List ℕ} {n n2 : ℕ} → WalkDid (visit_of m c t) c.blocks w n w2 n2 → WalkDid (Each m c (t ∷ [])) c.blocks w n w2 n2
each_one m c t d = record { is = d.is; fewer = d.fewer; room = d.room; good = d.good; len_same = d.len_same }

each_two : (m : List ℕ) (c : Counts) (t u : ℕ) {w w2 w3 : List ℕ} {n n2 n3 : ℕ} → WalkDid (visit_of m c t) c.blocks w n w2 n2 → WalkDid (visit_of m c u) c.blocks w2 n2 w3 n3
    → WalkDid (Each m c (t ∷ u ∷ [])) c.blocks w n w3 n3
each_two m c t u {w} {w2} {w3} {n} {n2} {n3} d d' =
    record {
      is = λ s f g v k.
          let a = d.is s f g v k in
          let first : Walk = visit_of m c t s f (record { visited = v; order = out_of w n }) in
          subst (λ (o : List ℕ). Same c.blocks w3 n3 (visit_of m c u s f (record { visited = first.visited; order = o }))) a.order
          (d'.is s f (omega (arith, d.fewer)) first.visited a.visited);
      fewer = omega (arith, d.fewer, d'.fewer);
      room = omega (arith, d.room, d'.room);
      good = d'.good;
      len_same = d'.len_same ∙ d.len_same;
    }

module _ {m : List ℕ} {c : Counts} {w : List ℕ} {n b : ℕ} {r : Ends} (ok : WalkGood c.blocks w n) (l : b < c.blocks) (e : get_or w b 0 ≡ 0) (en : Ended m c b r) where
  leads : (ts : List ℕ) → targets r ≡ ts → (s : List ℕ) → successors (end_of (program_view s m c) b) ≡ ts
  leads ts q s = en.onward s ∙ q

  abbrev pub Onward : List ℕ → ℕ → Type 0
  Onward w2 n2 = WalkDid (Each m c (targets r)) c.blocks (set w b 1) n w2 n2

  pub onward_none : (r ≡ Return) ⊎ (r ≡ Open) → Onward (set w b 1) n
  onward_none q = subst (λ (ts : List ℕ). WalkDid (Each m c ts) c.blocks (set w b 1) n (set w b 1) n) (sym (nowhere q)) (each_none m c (mark-good m c ok l e))
    where
      nowhere : (r ≡ Return) ⊎ (r ≡ Open) → targets r ≡ []
      nowhere (inl e) = ap targets e
      nowhere (inr e) = ap targets e

  module _ {t : BlockId} {w2 : List ℕ} {n2 : ℕ} (d : WalkDid (visit_of m c t.0) c.blocks (set w b 1) n w2 n2) where
    pub onward_jump : r ≡ Jump t → Onward w2 n2
    onward_jump q = subst (λ (ts : List ℕ). WalkDid (Each m c ts) c.blocks (set w b 1) n w2 n2) (sym (ap targets q)) (each_one m c t.0 d)

    pub onward_choice : {u : BlockId} {w3 : List ℕ} {n3 : ℕ} → WalkDid (visit_of m c u.0) c.blocks w2 n2 w3 n3 → r ≡ IfTrue t u → Onward w3 n3
    onward_choice {u} {w3} {n3} d' q = subst (λ (ts : List ℕ). WalkDid (Each m c ts) c.blocks (set w b 1) n w3 n3) (sym (ap targets q)) (each_two m c t.0 u.0 d d')

  module _ {w2 : List ℕ} {n2 : ℕ} (d : Onward w2 n2) where
    pub walk_is : {w' : List ℕ} {k : ℕ} → k ≡ n2 + 1 → w' ≡ set w2 (order_at + n2) b → WalkDid (walk_of m c b) c.blocks w n w' k
    walk_is er ew = leave m c ok l e (targets r) (leads (targets r) refl) d _ _ er ew

  module _ (inn : WalkInside m c) {t : BlockId} where
    pub jump_inside : r ≡ Jump t → t.0 < c.blocks
    jump_inside q = inn.inside [] b t.0 l (rw (leads (t.0 ∷ []) (ap targets q) [], eq-eqb t.0 t.0 refl) refl)

    pub then_inside : {u : BlockId} → r ≡ IfTrue t u → t.0 < c.blocks
    then_inside {u} q = inn.inside [] b t.0 l (rw (leads (t.0 ∷ u.0 ∷ []) (ap targets q) [], eq-eqb t.0 t.0 refl) refl)

    pub else_inside : {u : BlockId} → r ≡ IfTrue u t → t.0 < c.blocks
    else_inside {u} q = inn.inside [] b t.0 l (rw (leads (u.0 ∷ t.0 ∷ []) (ap targets q) [], eq-eqb t.0 t.0 refl) (or-true (eqb t.0 u.0)))

-- after a visit: what the next call asks
module _ (c : Counts) {w : List ℕ} {n b : ℕ} (ok : WalkGood c.blocks w n) (l : b < c.blocks) (e : get_or w b 0 ≡ 0) {F : List ℕ → ℕ → Walk → Walk}
    {w2 : List ℕ} {n2 : ℕ} (d : WalkDid F c.blocks (set w b 1) n w2 n2) where
  less : unseen (set w b 1) c.blocks + 1 ≡ unseen w c.blocks
  less = unseen-mark w b e (omega (arith, ok.len, ok.few)) c.blocks l

  pub next-falls : (t : ℕ) → 2 * unseen w c.blocks ≡ t → 2 * unseen w2 c.blocks + 1 < t
  next-falls t f = omega (arith, d.fewer, less)

-- ---- from an entry

unseen_le : (w : List ℕ) (k : ℕ) → unseen w k ≤ k
unfolding unseen
unseen_le w zero = omega arith
unseen_le w (suc k) = go (eqb (get_or w k 0) 0) (unseen_le w k)
  where
    go : (t : 𝔹) → unseen w k ≤ k → unseen w k + cond t 1 0 ≤ suc k
    go true h = omega arith
    go false h = omega arith

module _ (c : Counts) {v w : List ℕ} (f : ChainsFilled 0 blocks_room 0 v w) (long : walk_size ≤ length v) (few : c.blocks ≤ order_at) where
  pub clear-word : (b : ℕ) → b < c.blocks → get_or w b 0 ≡ 0
  clear-word b h = let e : 0 + b ≡ b = omega arith in sym (ap (λ k. get_or w k 0) e) ∙ f.here b (omega arith)

  pub clear-good : WalkGood c.blocks w 0
  clear-good =
      record {
        len = omega (arith, f.only.len_same);
        few = few;
        room = omega (arith, unseen_le w c.blocks);
        order = λ i h. absurd (omega arith);
      }

  pub walk-done : (m : List ℕ) {b : ℕ} {w' : List ℕ} {r : ℕ} → WalkDid (walk_of m c b) c.blocks w 0 w' r → Walked m c b w' r
  unfolding reverse_post_order blocks_of out_of
  walk-done m {b} {w'} {r} d =
      record {
        order = λ s.
            let a = d.is s c.blocks (unseen_le w c.blocks) [] (λ x h. rw (clear-word x h)) in
            a.order ∙ ap (λ k. (walk (program_view s m c) k b (record { visited = []; order = [] })).order) (sym (tab-length (block_at m) c.blocks));
        inside = d.good.order;
        few = omega (arith, d.good.room);
        len = d.good.len;
      }
