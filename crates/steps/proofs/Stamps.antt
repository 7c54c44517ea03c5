-- Stamps: a visit that is left out, and the stamps after one that is not. Assumes nothing.
use mathlib.Core.Bool.{true, false}
use mathlib.Core.Logic.{◌⊎◌, inl, inr}
use mathlib.Core.Path.{◌≡◌, refl, sym, ap, ◌∙◌, subst}
use mathlib.Core.List.{List, [], ◌∷◌}
use Prim.Native.Nat.{ℕ, ◌+◌, ◌≤◌, ◌<◌}
use native.Mathlib.Omega.{arith}
use borrow.Author.Tests.{eqb-true}
use lib.Dec.{eqb}
use lib.ListN.{length, get_or, set, length-append}
use lib.Seq.{get_or-append-add}
use Rattle.kinds.specs.declared.Kind.TheVariants.{Empty}
use Rattle.kinds.specs.Kinds.{kind_from}
use Rattle.rules.specs.Actions.{Answer, answered, refused}
use Rattle.rules.specs.Program.{Limits, Program}
use Rattle.rules.specs.Machine.{State, state_of, take_insn, visit, taken}
use Rattle.rules.proofs.Exactness.Answers.{answer, never}
use Rattle.memory.proofs.tables.Listed.{listed-length}
use Rattle.program.specs.View as P
use Rattle.program.specs.View.{ReadsInsn}
use Rattle.program.specs.declared.Counts.{Counts}
use Rattle.records.specs.Records.{record_at, row_of}
use Rattle.records.specs.declared.Record.{Record}
use Rattle.records.proofs.Rows.{record_row}
use Rattle.state.specs.declared.Sizes.{Sizes}
use Rattle.state.specs.declared.Regs.{Regs}
use Rattle.state.specs.declared.State as S
use Rattle.state.specs.Acted.{Acted, On, Refused}
use Rattle.state.specs.View.{Attrs, kinds_of, insns_of, blocks_of, state_view}
use Rattle.state.specs.Changes.{TookInsn}
use Rattle.state.proofs.Pushes.{insns-length, blocks-length}
use Rattle.machine.specs.blocks.Blocks.{BlockStepped}
use Rattle.machine.specs.Analysed.{Analysed, MachineFits}
use Rattle.machine.proofs.States.{attrs, attrs-fit}
use Rattle.idle.proofs.Idle.{Alike, visit-idle, visit_still}
use Rattle.settled.specs.Reads.{name_of, SettledFor, whole}
use Rattle.settled.proofs.Settling.{none_settled}
use Rattle.settled.proofs.Stamps.{whole_tables, same_or, put-long, put-tables, put-here, put_other}
use Rattle.settled.proofs.Sorts.{op-aside}
use Rattle.memory.specs.Layout.{instructions_most, worklist_most}
use Rattle.state.specs.Layout.{kind_bits_at, state_length, stamps_at}
use Rattle.std.specs.Prelude.{Result, Ok, Err}
use Rattle.refusals.specs.declared.Refusal.{Refusal}
use Rattle.refusals.specs.Refusals.{number_of}
use Rattle.steps.specs.Steps.{insns_in, block_next, RecordOf, Facing, Front}
use Rattle.steps.specs.Stamps.{tables_of, stamp_of, Idles, Passes, StampsFresh, Fronts, Dated, Stamped, Visited, Timely}
use Rattle.steps.proofs.Stepping.{take-front}

-- ---- the tables, with the stamps behind them

-- of a memory m the tables were lent, and came back as w; o is the memory after it
pub record Back (m w o : List ℕ) : Type 0 where
  pub tables : tables_of o ≡ w
  pub long : length o ≡ state_length
  pub stamps : (i : ℕ) → stamp_of o i ≡ stamp_of m i

pub whole_stamp : (s : S.State) (a : List ℕ) (i : ℕ) → stamp_of (whole s a) i ≡ get_or a i 0
whole_stamp s a i = ap (λ (k : ℕ). get_or (whole s a) (k + i) 0) (sym s.ready.held.len) ∙ get_or-append-add s.words.now a i 0

pub whole_back : (s t : S.State) (a : List ℕ) → length (whole s a) ≡ state_length → Back (whole s a) t.words.now (whole t a)
whole_back s t a long = record {
  tables = whole_tables t a;
  long = let l = length-append s.words.now a in let n = length-append t.words.now a in let h = s.ready.held.len in let k = t.ready.held.len in omega arith;
  stamps = λ i. whole_stamp t a i ∙ sym (whole_stamp s a i);
}

-- ---- a later epoch

-- all stamps are of an earlier one
pub stale : {s p : List ℕ} {c : Counts} {z : Sizes} {m w : List ℕ} {q r : Regs} {e : ℕ} → Dated s p c z m q e → length w ≡ state_length
    → ((k : ℕ) → stamp_of w k ≡ stamp_of m k) → r.count ≡ q.count + 1
    → Dated s p c z w r (e + 1)
stale D l k n = record {
  long = l;
  past = λ i h t. let a = D.past i h t in let b = k i in omega arith;
  idle = λ i h t f. absurd (let a = D.past i h t in let b = k i in omega arith);
  slow = let a = D.slow in omega arith;
}

-- at the start none is of the epoch, and no read is settled for a class
pub fresh_stamped : {s p : List ℕ} {c : Counts} {z : Sizes} {m : List ℕ} {q : Regs} → StampsFresh z m q → Stamped s p c z m q 1
fresh_stamped {s} {p} {c} {z} {m} F = record {
  dated = record {
    long = F.long;
    past = λ i h t. let a = F.none i h in omega arith;
    idle = λ i h t f. absurd (let a = F.none i h in omega arith);
    slow = omega arith;
  };
  reads = λ i h t. subst (SettledFor s p c z (tables_of m) (name_of (record_at p i)) i) (sym (F.none i h)) none_settled;
}

-- ---- a visit that is left out

pub skipped : {s p : List ℕ} {c : Counts} {z : Sizes} {m : List ℕ} {q a : Regs} {e i j : ℕ} → Stamped s p c z m q e → Passes s p c z (tables_of m) i → Fronts z (tables_of m) q i
    → TookInsn z (tables_of m) q j a
    → Timely s p c z (λ L P t. take_insn L P (insns_in t) t) m q m a (Ok e)
skipped {s} {p} {c} {z} {m} {q} {a} {e} {i} {j} S h F t =
    let D = S.dated in
    let passes : Passes s p c z (tables_of m) j = subst (Passes s p c z (tables_of m)) (sym (F.is j (insns_of (tables_of m) a) t.is)) h in
    record {
      step = record {
        is = λ L room P v f.
            ap (state_of L P) (sym (passes.is L room P v f a)) ∙ ap (λ (t : State). state_of L P (visit L P j t)) (t.state v)
            ∙ take-front L P j (insns_of (tables_of m) q) (insns_of (tables_of m) a) (state_view z v (tables_of m) q) t.is;
        ok = record { ready = t.ready; count = t.count };
      };
      stamps = record { dated = record { long = D.long; past = D.past; idle = D.idle; slow = let a = D.slow in let b = t.count in omega arith }; reads = S.reads };
    }

-- ---- the instruction in front

module _ {z : Sizes} {m : List ℕ} {q : Regs} {i : ℕ} (F : Fronts z m q i) (some : 0 < q.insns.len) where
  pub rest : (l : List ℕ) → insns_of m q ≡ l → (k : List ℕ) × (insns_of m q ≡ i ∷ k)
  rest [] e = absurd (let n = sym (insns-length m q) ∙ ap length e in omega arith)
  rest (j ∷ k) e = (k, e ∙ ap (λ (n : ℕ). n ∷ k) (F.is j k e))

  -- those that wait behind it
  abbrev pub behind : List ℕ
  behind = (rest (insns_of m q) refl).0

  pub front : insns_of m q ≡ i ∷ behind
  front = (rest (insns_of m q) refl).1

  pub record_is : (p : List ℕ) {n : Record} → RecordOf p m q n → n ≡ record_at p i
  record_is p h = h i behind front

-- ---- after a visit

pub state_of_lem : (L : Limits) (Q : Program) (a : Answer (Unit {0} × State)) (t : State) → state_of L Q a ≡ answered t → a ≡ answered (tt, t)
state_of_lem L Q (answered r) t e = ap (λ (u : State). answered (tt, u)) (answer e)
state_of_lem L Q (refused n) t e = never e

pub row_read : {s p : List ℕ} {c : Counts} {x u : List ℕ} {z : Sizes} {i : ℕ} → Analysed s p c x u z → i < z.insns → ReadsInsn p c i (row_of (record_at p i))
row_read {i = i} A h = record_row i A.indexed.ready (let k = A.indexed.sized.insns in omega arith)

-- the tables m before it, and w after it
module _ {s p : List ℕ} {c : Counts} {x u : List ℕ} {z : Sizes} {m : List ℕ} {q : Regs} {i : ℕ} {w : List ℕ} {r : Regs} (A : Analysed s p c x u z)
    (F : Fronts z m q i) (some : 0 < q.insns.len) (d : BlockStepped z (MachineFits s p c) (λ L P t. take_insn L P (insns_in t) t) m q w (On r)) where
  abbrev pub began : Attrs → State
  began v = taken false (behind F some) (blocks_of m q) (state_view z v m q)

  pub visited : (L : Limits) → L.worklist ≡ worklist_most → (Q : Program) (v : Attrs) → MachineFits s p c Q v → visit L Q i (began v) ≡ answered (tt, state_view z v w r)
  visited L room Q v f = state_of_lem L Q (visit L Q i (began v)) (state_view z v w r) (take-front L Q i (insns_of m q) (behind F some) (state_view z v m q) (front F some) ∙ sym (d.is L room Q v f))

  inside : i < length (kinds_of z m)
  unfolding kinds_of
  inside = let n = listed-length z.insns (λ (k : ℕ). kind_from (get_or m k 0) (get_or m (kind_bits_at + k) 0)) in let h = F.inside in omega arith

  module _ (same_kind : get_or (kinds_of z w) i Empty ≡ get_or (kinds_of z m) i Empty) (blocks : r.blocks.len ≡ q.blocks.len) where
    same_blocks : length (blocks_of w r) ≡ length (blocks_of m q)
    same_blocks = blocks-length w r ∙ blocks ∙ sym (blocks-length m q)

    still : (L : Limits) → L.worklist ≡ worklist_most → (Q : Program) (v : Attrs) → MachineFits s p c Q v → Alike (began v) (state_view z v w r)
    still L room Q v f = visit_still L Q i (began v) (state_view z v w r) inside (visited L room Q v f) same_blocks same_kind

    stays : (j : ℕ) → Idles s p c z m j → Idles s p c z w j
    stays j I =
        let S = A.indexed.suited in
        let a = still A.indexed.limits S.room.worklist (P.program_view s p c) (attrs s p c A.indexed.limits S) (attrs-fit s p c A.indexed.limits S) in
        (λ L room Q v f t k l b. I L room Q v f t (k ∙ a.kinds) (l ∙ a.live) (b ∙ a.called_by))

    idles : {n : Record} → RecordOf p m q n → n.tag < 13 → r.insns.len + 1 ≡ q.insns.len → Idles s p c z m i
    idles {n} h t e L room Q v f g k l b =
        visit-idle L Q i (began v) (state_view z v w r) (op-aside (record_at p i) (row_read A F.inside) f L (subst (λ (y : Record). y.tag < 13) (record_is F some p h) t)) inside
        (visited L room Q v f)
        (let a = insns-length w r in let o = sym (insns-length m q) ∙ ap length (front F some) in let y = same_blocks in omega arith) same_kind g (record { kinds = k; live = l; called_by = b })

-- ---- the stamps after a visit: m before it, and w what came back of the tables

pub few : {s p : List ℕ} {c : Counts} {x u : List ℕ} {z : Sizes} {m : List ℕ} {q : Regs} {i : ℕ} {n : Record} → Facing s p c x u z m q i n → i < instructions_most
few F = let h = F.ready.held in let a = h.insns in let b = F.front.inside in omega arith

pub front_of_lem : {z : Sizes} {m : List ℕ} {q : Regs} {i : ℕ} → Front z m q i → block_next q ≡ false → Fronts z m q i
front_of_lem F b = record { inside = F.inside b; is = F.is b }

module _ {s p : List ℕ} {c : Counts} {z : Sizes} {m : List ℕ} {q : Regs} {e : ℕ} {w o : List ℕ} (S : Dated s p c z m q e) (B : Back m w o) where
  abbrev Visits : List ℕ → Regs → Result ℕ Refusal → Type 0
  Visits l r t = Visited s p c z (λ L P t. take_insn L P (insns_in t) t) m q l r t

  abbrev SteppedTo : List ℕ → Acted → Type 0
  SteppedTo l y = BlockStepped z (MachineFits s p c) (λ L P t. take_insn L P (insns_in t) t) (tables_of m) q l y

  came_back : {y : Acted} → SteppedTo w y → SteppedTo (tables_of o) y
  came_back {y} d = subst (λ (l : List ℕ). SteppedTo l y) (sym B.tables) d

  pub visit_no : {r : Regs} {x : Refusal} → SteppedTo w (Refused (number_of x)) → Visits o r (Err x)
  visit_no d = record { step = came_back d; dated = tt; others = λ k _. B.stamps k }

  pub visit_changed : {r : Regs} → SteppedTo w (On r) → Visits o r (Ok (e + 1))
  visit_changed d = record { step = came_back d; dated = stale S B.long B.stamps d.ok.count; others = λ k _. B.stamps k }

  module _ {x u : List ℕ} {i : ℕ} {n : Record} {r : Regs} (F : Facing s p c x u z (tables_of m) q i n) (d : SteppedTo w (On r))
      (same_kind : get_or (kinds_of z w) i Empty ≡ get_or (kinds_of z (tables_of m)) i Empty) (ring_same : r.blocks.len ≡ q.blocks.len) where
    kept : (j : ℕ) → Idles s p c z (tables_of m) j → Idles s p c z w j
    kept = stays F.analysed F.front F.some d same_kind ring_same

    dates_kept : Dated s p c z o r e
    dates_kept = record {
      long = B.long;
      past = λ k l t. let a = S.past k l t in let b = B.stamps k in omega arith;
      idle = λ k l t g. subst (λ (y : List ℕ). Idles s p c z y k) (sym B.tables) (kept k (S.idle k l t (sym (B.stamps k) ∙ g)));
      slow = let a = S.slow in let b = d.ok.count in omega arith;
    }

    pub visit-kept : Visits o r (Ok e)
    visit-kept = record { step = came_back d; dated = dates_kept; others = λ k _. B.stamps k }

    pub visit_stamped : n.tag < 13 → eqb (r.insns.len + 1) q.insns.len ≡ true → Visits (set o (stamps_at + i) e) r (Ok e)
    visit_stamped l t =
        let here : Idles s p c z (tables_of o) i = subst (λ (y : List ℕ). Idles s p c z y i) (sym B.tables)
        (kept i (idles F.analysed F.front F.some d same_kind ring_same F.record_of l
        (eqb-true (r.insns.len + 1) q.insns.len t))) in
        record {
          step = subst (λ (y : List ℕ). SteppedTo y (On r)) (sym (put-tables o i e B.long)) (came_back d);
          dated = record {
            long = put-long o i e B.long;
            past = λ k a h. at_most k a h (same_or k i);
            idle = λ k a h y. subst (λ (y : List ℕ). Idles s p c z y k) (sym (put-tables o i e B.long)) (each_idles here k a h y (same_or k i));
            slow = dates_kept.slow;
          };
          others = λ k h. put_other o i e B.long k (apart l k h) ∙ B.stamps k;
        }
      where
        apart : n.tag < 13 → (k : ℕ) → 13 ≤ (record_at p k).tag → k ≡ i → ⊥
        apart l k h a = let b = ap (λ (y : Record). y.tag) (record_is F.front F.some p F.record_of) in let d = ap (λ (j : ℕ). (record_at p j).tag) a in omega arith

        at_most : (k : ℕ) → k < z.insns → (record_at p k).tag < 13 → (k ≡ i) ⊎ (k ≡ i → ⊥) → stamp_of (set o (stamps_at + i) e) k ≤ e
        at_most k a h (inl y) =
            subst (λ (j : ℕ). stamp_of (set o (stamps_at + i) e) j ≤ e) (sym y) (let v = put-here o i e B.long (few F) in omega arith)
        at_most k a h (inr y) = let v = put_other o i e B.long k y in let b = dates_kept.past k a h in omega arith

        each_idles : Idles s p c z (tables_of o) i → (k : ℕ) → k < z.insns → (record_at p k).tag < 13
            → stamp_of (set o (stamps_at + i) e) k ≡ e → (k ≡ i) ⊎ (k ≡ i → ⊥)
            → Idles s p c z (tables_of o) k
        each_idles here k a h y (inl j) = subst (Idles s p c z (tables_of o)) (sym j) here
        each_idles here k a h y (inr j) = dates_kept.idle k a h (sym (put_other o i e B.long k j) ∙ y)
