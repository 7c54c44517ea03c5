-- What each way through the linking shows, on plain values. Assumes nothing.
use mathlib.Core.Bool.{Bool as 𝔹, true, false, ◌||◌, or-true, or-false}
use mathlib.Core.Path.{◌≡◌, refl, sym, ap, ◌∙◌, subst}
use mathlib.Core.List.{List, [], ◌∷◌, map}
use Prim.Native.Nat.{ℕ, zero, suc, ◌+◌, ◌-◌, ◌*◌, ◌≤◌, ◌<◌, min}
use native.Mathlib.Decide.{ℕ_discrete}
use native.Mathlib.Numerals.{add-one}
use native.Mathlib.Omega.{arith}
use borrow.Author.Tests.{both_ways, eqb-true, eqb-false, eq-eqb, ne_eqb, lt-ltb, le-ltb, ltb-true, ltb-false}
use lib.ListN.{length, get_or, set, length-set}
use lib.Seq.{get_or-set_same, get_or-set_other}
use Rattle.rules.specs.Lists.{any, cons_if}
use Rattle.program.specs.Tab.{tab}
use Rattle.rules.specs.Program as P
use Rattle.program.specs.Rows.{opnds_in, opnd_at, opnd_of, nth, insn_at}
use Rattle.program.proofs.Reading.{operand_read}
use Rattle.std.specs.Prelude.{Option, Some, None, unwrap_or, is_some, nat_eq, ltb}
use Rattle.std.specs.Option.{option_eq}
use Rattle.program.specs.View.{ProgramReady}
use Rattle.program.specs.declared.Counts.{Counts}
use Rattle.program.specs.declared.Row.{Row}
use Rattle.program.specs.declared.Opnd.{Opnd}
use Rattle.program.specs.declared.Opnd.TheVariants.{Const, Insn}
use Rattle.kinds.specs.declared.Kind.{Kind}
use Rattle.ids.specs.declared.InsnId.{InsnId}
use Rattle.program.proofs.Tables.{tab-more}
use Rattle.program.proofs.Committing.{any_snoc}
use Rattle.chains.specs.Chains.{pick, ChainsChained, at, ChainsFilled}
use Rattle.chains.proofs.Lists.{pick-suc, pick_end, chained_below, chained_end, chained_more, chained_same}
use Rattle.memory.specs.Layout.{instructions_most, uses_most}
use Rattle.program.specs.Layout.{opnds_at}
use Rattle.uses.specs.Layout.{items_at, links_at, uses_size}
use Rattle.uses.specs.Users.{most_of, used_at, used_to, names, names_to, uses_at, first_of, Cells, front, UsersPut, Linked}
use Rattle.uses.proofs.Totals.{used_room, sum_more, same_names}

-- ---- a cell

pub first_some : (w : List ℕ) (h : ℕ) → h < uses_most → Some (get_or w (items_at + h) 0) ≡ first_of w h
unfolding first_of
first_some w h g = rw (lt-ltb h uses_most g)

pub first-none : (w : List ℕ) (h : ℕ) → uses_most ≤ h → None ≡ first_of w h
unfolding first_of
first-none w h g = rw (le-ltb h uses_most g)

module _ (w : List ℕ) (h : ℕ) {r : Option ℕ} (d : r ≡ first_of w h) where
  pub cell_some : {i : ℕ} → r ≡ Some i → (h < uses_most) × (i ≡ get_or w (items_at + h) 0)
  cell_some {i} e = go (ltb h uses_most) refl
    where
      go : (t : 𝔹) → ltb h uses_most ≡ t → (h < uses_most) × (i ≡ get_or w (items_at + h) 0)
      go true p = let g = ltb-true h uses_most p in (g, ap (λ o. unwrap_or o 0) (sym e ∙ d ∙ sym (first_some w h g)))
      go false p = absurd (both_ways false refl (ap is_some (first-none w h (ltb-false h uses_most p) ∙ sym d ∙ e)))

  pub cell_none : r ≡ None → uses_most ≤ h
  cell_none e = go (ltb h uses_most) refl
    where
      go : (t : 𝔹) → ltb h uses_most ≡ t → uses_most ≤ h
      go true p = absurd (both_ways false refl (ap is_some (sym e ∙ d ∙ sym (first_some w h (ltb-true h uses_most p)))))
      go false p = ltb-false h uses_most p

-- the test for a user
same_some : (o : Option ℕ) (i : ℕ) → option_eq nat_eq o (Some i) ≡ true → o ≡ Some i
same_some None i p = absurd (both_ways false refl p)
same_some (Some x) i p = ap Some (eqb-true x i p)

other_some : (o : Option ℕ) (i : ℕ) → option_eq nat_eq o (Some i) ≡ false → o ≡ Some i → ⊥
other_some None i p q = both_ways false refl (ap (λ x. option_eq nat_eq x (Some i)) q ∙ eq-eqb i i refl)
other_some (Some x) i p q = eqb-false x i p (ap (λ o. unwrap_or o 0) q)

front-new : (w : List ℕ) (e i h : ℕ) (l : List ℕ) → Cells w e h l → (first_of w h ≡ Some i → ⊥) → front i l ≡ i ∷ l
unfolding ChainsChained
front-new w e i h [] d ne = refl
front-new w e i h (x ∷ l) d ne = rw (ne_eqb x i (λ q. ne (sym (first_some w h d.1) ∙ ap Some (sym d.2 ∙ q))))

front-old : (w : List ℕ) (e i h : ℕ) (l : List ℕ) → Cells w e h l → first_of w h ≡ Some i → front i l ≡ l
unfolding ChainsChained
front-old w e i h [] d q = absurd (both_ways false refl (ap is_some (first-none w h (omega arith) ∙ q)))
front-old w e i h (x ∷ l) d q = rw (eq-eqb x i (d.2 ∙ ap (λ o. unwrap_or o 0) (first_some w h d.1 ∙ q)))

module _ (w : List ℕ) (e i j : ℕ) {x : Option ℕ} (q : x ≡ first_of w (get_or w j 0)) {t : 𝔹} (test : t ≡ option_eq nat_eq x (Some i)) where
  pub link_old : t ≡ true → UsersPut e i j w w e
  link_old y =
      record {
        len_same = refl;
        low = omega arith;
        high = omega arith;
        own = λ l d. rw (front-old w e i (get_or w j 0) l d (sym q ∙ same_some x i (sym test ∙ y))) d;
        others = λ k l h ne d. d;
      }

  module _ (not_same : t ≡ false) (room : uses_size ≤ length w) (some : 0 < e) (high : e ≤ uses_most) (inside : j < instructions_most) where
    abbrev d : ℕ
    d = e - 1

    abbrev w1 : List ℕ
    w1 = set w (items_at + d) i

    abbrev w2 : List ℕ
    w2 = set w1 (links_at + d) (get_or w j 0)

    abbrev w3 : List ℕ
    w3 = set w2 j d

    low_word : (k : ℕ) → k < instructions_most → (k ≡ j → ⊥) → get_or w3 k 0 ≡ get_or w k 0
    low_word k h n =
        get_or-set_other w2 j k d 0 n
        ∙ (get_or-set_other w1 (links_at + d) k (get_or w j 0) 0 (λ z. omega arith) ∙ get_or-set_other w (items_at + d) k i 0 (λ z. omega arith))

    item_word : (y : ℕ) → y < uses_most → (y ≡ d → ⊥) → get_or w3 (items_at + y) 0 ≡ get_or w (items_at + y) 0
    item_word y h n =
        get_or-set_other w2 j (items_at + y) d 0 (λ z. omega arith)
        ∙ (get_or-set_other w1 (links_at + d) (items_at + y) (get_or w j 0) 0 (λ z. omega arith) ∙ get_or-set_other w (items_at + d) (items_at + y) i 0 (λ z. n (omega arith)))

    link_word : (y : ℕ) → y < uses_most → (y ≡ d → ⊥) → get_or w3 (links_at + y) 0 ≡ get_or w (links_at + y) 0
    link_word y h n =
        get_or-set_other w2 j (links_at + y) d 0 (λ z. omega arith)
        ∙ (get_or-set_other w1 (links_at + d) (links_at + y) (get_or w j 0) 0 (λ z. n (omega arith)) ∙ get_or-set_other w (items_at + d) (links_at + y) i 0 (λ z. omega arith))

    len1 : length w1 ≡ length w
    len1 = length-set w (items_at + d) i

    len2 : length w2 ≡ length w
    len2 = length-set w1 (links_at + d) (get_or w j 0) ∙ len1

    item_new : get_or w3 (items_at + d) 0 ≡ i
    item_new =
        get_or-set_other w2 j (items_at + d) d 0 (λ z. omega arith)
        ∙ (get_or-set_other w1 (links_at + d) (items_at + d) (get_or w j 0) 0 (λ z. omega arith) ∙ get_or-set_same w (items_at + d) i 0 (omega arith))

    link_new-word : get_or w3 (links_at + d) 0 ≡ get_or w j 0
    link_new-word =
        get_or-set_other w2 j (links_at + d) d 0 (λ z. omega arith) ∙ get_or-set_same w1 (links_at + d) (get_or w j 0) 0 (omega (arith, len1))

    stays : (h : ℕ) (l : List ℕ) → Cells w e h l → Cells w3 e h l
    stays h l c =
        chained_same (at w items_at) (at w links_at) (at w3 items_at) (at w3 links_at) uses_most e e h l (omega arith)
        (λ y p g. (item_word y g (λ z. omega arith), link_word y g (λ z. omega arith))) c

    pub link_new : UsersPut e i j w w3 (e - 1)
    link_new =
        record {
          len_same = length-set w2 j d ∙ len2;
          low = omega arith;
          high = omega arith;
          own = λ l c.
              let s : suc d ≡ e = omega arith in
              rw (front-new w e i (get_or w j 0) l c (λ z. other_some x i (sym test ∙ not_same) (q ∙ z)), get_or-set_same w2 j d 0 (omega (arith, len2)))
              (chained_more (at w3 items_at) (at w3 links_at) uses_most d i l (omega arith) (sym item_new) (rw (s, link_new-word) (stays (get_or w j 0) l c)));
          others = λ k l h n c. rw (low_word k h n) (chained_below (at w3 items_at) (at w3 links_at) uses_most e d _ l (omega arith) (stays _ l c));
        }

-- ---- an instruction's operands

module _ (m : List ℕ) (i : ℕ) where
  names-none : (j : ℕ) → names_to m i 0 j ≡ false
  unfolding names_to opnds_in tab
  names-none j = refl

  names_more : (q j : ℕ) → names_to m i (q + 1) j ≡ (names_to m i q j || names j (opnd_at m (opnds_at + 2 * (insn_at m i).first + 2 * q)))
  unfolding names_to opnds_in
  names_more q j =
      ap (any (names j)) (tab-more (λ k. opnd_at m (opnds_at + 2 * (insn_at m i).first + 2 * k)) q)
      ∙ any_snoc (names j) (tab (λ k. opnd_at m (opnds_at + 2 * (insn_at m i).first + 2 * k)) q) (opnd_at m (opnds_at + 2 * (insn_at m i).first + 2 * q))

front-pick : (i : ℕ) (u : ℕ → 𝔹) (k f : ℕ) → i < k → front i (pick u k f) ≡ i ∷ pick u k f
unfolding pick
front-pick i u k zero h = refl
front-pick i u k (suc f) h = go (u k) (front-pick i u (suc k) f (omega arith))
  where
    go : (t : 𝔹) → front i (pick u (suc k) f) ≡ i ∷ pick u (suc k) f → front i (cons_if t k (pick u (suc k) f)) ≡ i ∷ cons_if t k (pick u (suc k) f)
    go true e = rw (ne_eqb k i (λ q. omega arith))
    go false e = e

front-more : (t : 𝔹) (i : ℕ) (u : ℕ → 𝔹) (k f : ℕ) → i < k → front i (cons_if t i (pick u k f)) ≡ i ∷ pick u k f
front-more true i u k f h = rw (eq-eqb i i refl)
front-more false i u k f h = front-pick i u k f h

-- the operand of a row, by its names
names_read : (m : List ℕ) (i q j : ℕ) {r : Row} (o : Opnd) → r ≡ insn_at m i → q < r.count
    → opnd_of o ≡ nth (map opnd_of (opnds_in m (opnds_at + 2 * r.first) r.count)) q → names j o ≡ names j (opnd_at m (opnds_at + 2 * (insn_at m i).first + 2 * q))
names_read m i q j {r} o e h is =
    sym (same_names j o)
    ∙ (ap (P.same_opnd (P.Insn j)) (is ∙ sym (operand_read m (opnds_at + 2 * r.first) r.count q h refl))
    ∙ (same_names j (opnd_at m (opnds_at + 2 * r.first + 2 * q)) ∙ ap (λ (x : Row). names j (opnd_at m (opnds_at + 2 * x.first + 2 * q))) e))

-- the users from instruction i + 1 on, and i where it is among the first q operands
pub record Turning (m : List ℕ) (n i used : ℕ) (w₀ w : List ℕ) (e q : ℕ) : Type 0 where
  pub len : uses_size ≤ length w
  pub cells : (j : ℕ) → j < n → Cells w e (get_or w j 0) (cons_if (names_to m i q j) i (pick (uses_at m j) (i + 1) (n - (i + 1))))
  pub room : used_to m i + used ≤ e + q
  pub few : e ≤ uses_most
  pub used_is : used ≡ used_at m i

pub turn_start : {m : List ℕ} {n i e : ℕ} {w : List ℕ} {r : Row} {k u : ℕ} → r ≡ insn_at m i → k ≡ most_of r.op → u ≡ min r.count k → Linked m n (i + 1) e w
    → Turning m n i u w w e 0
unfolding used_at
turn_start {m} {n} {i} {e} {w} {r} {k} {u} p y z l =
    let is : u ≡ used_at m i = z ∙ rw (y, p) in
    record {
      len = l.len;
      cells = λ j h. rw (names-none m i j) (l.cells j h);
      room = omega (arith, l.room, sum_more (used_at m) i);
      few = l.few;
      used_is = is;
    }

module _ {m : List ℕ} {n i used : ℕ} {w₀ w : List ℕ} {e q : ℕ} (z : Turning m n i used w₀ w e q) where
  module _ (g : q < used) {r : Row} (at_row : r ≡ insn_at m i) (h : q < r.count) (o : Opnd)
      (is : opnd_of o ≡ nth (map opnd_of (opnds_in m (opnds_at + 2 * r.first) r.count)) q) where
    more : (j : ℕ) → names_to m i (q + 1) j ≡ (names_to m i q j || names j o)
    more j = names_more m i q j ∙ sym (ap (λ x. names_to m i q j || x) (names_read m i q j o at_row h is))

    same : ((j : ℕ) → j < n → names j o ≡ false) → Turning m n i used w₀ w e (q + 1)
    same f =
        record {
          len = z.len;
          cells = λ j h. rw (more j, f j h, or-false (names_to m i q j)) (z.cells j h);
          room = omega (arith, z.room);
          few = z.few;
          used_is = z.used_is;
        }

    pub turn_const : {k : Kind} → o ≡ Const k → Turning m n i used w₀ w e (q + 1)
    turn_const y = same (λ j h. ap (names j) y)

    pub turn_far : {t : InsnId} → o ≡ Insn t → n ≤ t.0 → Turning m n i used w₀ w e (q + 1)
    turn_far {t} y f = same (λ j h. ap (names j) y ∙ ne_eqb j t.0 (λ x. omega arith))

    linked : {t : InsnId} {w' : List ℕ} {r : ℕ} → o ≡ Insn t → t.0 < n → UsersPut e i t.0 w w' r
        → Cells w' r (get_or w' t.0 0) (cons_if (names_to m i (q + 1) t.0) i (pick (uses_at m t.0) (i + 1) (n - (i + 1))))
    linked {t} y f p =
        let name : names t.0 o ≡ true = ap (names t.0) y ∙ eq-eqb t.0 t.0 refl in
        rw (more t.0, name, or-true (names_to m i q t.0))
        (rw (front-more (names_to m i q t.0) i (uses_at m t.0) (i + 1) (n - (i + 1)) (omega arith)) at
        (p.own (cons_if (names_to m i q t.0) i (pick (uses_at m t.0) (i + 1) (n - (i + 1)))) (z.cells t.0 f)))

    pub turn_link : {t : InsnId} {w' : List ℕ} {r : ℕ} → o ≡ Insn t → t.0 < n → n ≤ instructions_most → UsersPut e i t.0 w w' r → Turning m n i used w₀ w' r (q + 1)
    turn_link {t} {w'} {r} y f b p =
        record {
          len = omega (arith, z.len, p.len_same);
          cells = λ j h.
              elim (ℕ_discrete j t.0) [
                | yes x ↦ subst (λ (k : ℕ). Cells w' r (get_or w' k 0) (cons_if (names_to m i (q + 1) k) i (pick (uses_at m k) (i + 1) (n - (i + 1))))) (sym x) (linked y f p)
                | no x ↦
                    let no_name : names j o ≡ false = ap (names j) y ∙ ne_eqb j t.0 x in
                    rw (more j, no_name, or-false (names_to m i q j)) (p.others j _ (omega arith) x (z.cells j h))
              ];
          room = omega (arith, z.room, p.low);
          few = omega (arith, z.few, p.high);
          used_is = z.used_is;
        }

  pub turn_done : q ≡ used → i < n → Linked m n i e w
  unfolding uses_at
  turn_done g h =
      let is : q ≡ used_at m i = omega (arith, z.used_is) in
      record {
        len = z.len;
        cells = λ j l.
            let a : n - i ≡ suc (n - (i + 1)) = omega arith in
            rw (a, pick-suc (uses_at m j) i (n - (i + 1)), ← add-one i) (rw is at (z.cells j l));
        room = omega (arith, z.room);
        few = z.few;
      }

-- ---- all instructions

pub all_start : {m v w : List ℕ} {c : Counts} → ProgramReady m c → uses_size ≤ length v → ChainsFilled 0 instructions_most uses_most v w → Linked m c.insns c.insns uses_most w
all_start {m} {v} {w} {c} ok room f =
    record {
      len = omega (arith, f.only.len_same);
      cells = λ j h.
          let a : 0 + j ≡ j = omega arith in
          rw (sym (ap (λ k. get_or w k 0) a) ∙ f.here j (omega (arith, ok.insns)), pick_end (uses_at m j) c.insns) (chained_end (at w items_at) (at w links_at) uses_most uses_most);
      room = used_room ok;
      few = omega arith;
    }
