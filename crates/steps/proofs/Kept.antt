-- Stamps of the reads of attributes: a visit, a setting and a block that goes live leave them settled, or their stamps are made anew. Assumes nothing.
use mathlib.Core.Bool.{Bool as 𝔹, true, false, ◌&&◌}
use mathlib.Core.Logic.{◌⊎◌, inl, inr}
use mathlib.Core.Path.{◌≡◌, refl, sym, ap, ◌∙◌, subst}
use mathlib.Core.List.{List, [], ◌∷◌}
use Prim.Native.Nat.{ℕ, ◌+◌, ◌^◌, ◌≤◌, ◌<◌}
use native.Mathlib.Omega.{arith}
use borrow.Author.Tests.{eqb-true}
use lib.Dec.{eqb}
use lib.ListN.{length, get_or, set}
use Rattle.kinds.specs.declared.Kind.{Kind}
use Rattle.kinds.specs.declared.Kind.TheVariants.{Empty}
use Rattle.rules.specs.Actions.{answered}
use Rattle.rules.specs.Program.{Limits, Program}
use Rattle.rules.specs.Machine.{State, take_block, take_insn, step, visit, go_live, taken}
use Rattle.rules.proofs.Exactness.Answers.{answer}
use Rattle.rules.proofs.Wellformed.Tests.{and-true}
use Rattle.program.specs.View as P
use Rattle.program.specs.declared.Counts.{Counts}
use Rattle.program.specs.declared.Name.{Name}
use Rattle.program.specs.View.{ReadsInsn}
use Rattle.program.specs.Rows.{name_in, nth}
use Rattle.records.specs.Records.{record_at, row_of}
use Rattle.records.specs.declared.Record.{Record}
use Rattle.state.specs.declared.Sizes.{Sizes}
use Rattle.state.specs.declared.Regs.{Regs}
use Rattle.state.specs.Acted.{Acted, On, Refused}
use Rattle.state.specs.View.{Attrs, kinds_of, blocks_of, state_view, StateReady}
use Rattle.state.proofs.Pushes.{insns-length}
use Rattle.machine.specs.opnds.Reads.{kind_in}
use Rattle.machine.proofs.opnds.Given.{kind_of_lem}
use Rattle.machine.specs.blocks.Blocks.{blocks_in, BlockStepped}
use Rattle.kinds.specs.declared.words.Words.{Words}
use Rattle.kinds.specs.InWords.{words_of}
use Rattle.machine.specs.receivers.Receivers.{StateMatches, ClassesBelow}
use Rattle.machine.specs.Analysed.{Analysed, MachineFits, Steady}
use Rattle.machine.proofs.States.{attrs, attrs-fit}
use Rattle.visits.specs.Visits.{operands_of, Visiting}
use Rattle.visits.proofs.Given.{matches}
use Rattle.idle.specs.Settled.{Covered, Settled}
use Rattle.idle.proofs.Others.{other-kind}
use Rattle.idle.proofs.Settled.{visit_settled, visit_quiet, set-covered, live_settled}
use Rattle.settled.specs.Reads.{name_of, SettledFor, Operands, Decides, Unsettled}
use Rattle.settled.proofs.Settling.{none_settled}
use Rattle.settled.proofs.Stamps.{same_or, put-long, put-tables, put-here, put_other}
use Rattle.settled.proofs.Sorts.{op_sets, read-op, set-op, range, read-inside, read_below, set-inside, read-passes}
use Rattle.memory.specs.Layout.{worklist_most}
use Rattle.state.specs.Layout.{stamps_at}
use Rattle.std.specs.Prelude.{Result, Ok, Err}
use Rattle.refusals.specs.declared.Refusal.{Refusal}
use Rattle.refusals.specs.Refusals.{number_of}
use Rattle.steps.specs.Steps.{insns_in, block_next, RecordOf, Facing, Front}
use Rattle.steps.specs.Stamps.{tables_of, stamp_of, Idles, Passes, Stamped, Visited, Timely}
use Rattle.steps.proofs.Stepping.{some_insn, block-step, insn_step}
use Rattle.steps.proofs.Stamps.{Back, stale, front, record_is, state_of_lem, row_read, began, visited, few, front_of_lem}

-- ---- the instruction in front, by its record n

module _ {s p : List ℕ} {c : Counts} {x u : List ℕ} {z : Sizes} {m : List ℕ} {q : Regs} {i : ℕ} {n : Record} (F : Facing s p c x u z m q i n) where
  its_record : n ≡ record_at p i
  its_record = record_is F.front F.some p F.record_of

  visiting : Visiting s p c x z m q i (row_of n)
  visiting = record {
    indexed = F.analysed.indexed;
    steady = F.steady;
    ready = F.ready;
    below = F.front.inside;
    read = subst (λ (y : Record). ReadsInsn p c i (row_of y)) (sym its_record) (row_read F.analysed F.front.inside);
  }

  fitting : MachineFits s p c (P.program_view s p c) (attrs s p c F.analysed.indexed.limits F.analysed.indexed.suited)
  fitting = attrs-fit s p c F.analysed.indexed.limits F.analysed.indexed.suited

  pub its_operands : Operands p c z n
  its_operands = record { ready = F.analysed.indexed.ready; range = range n visiting fitting; receiver = read-inside n visiting fitting; value = set-inside n visiting fitting }

  -- what is asked where the stamp of a read is made
  pub stamp_asked : n.tag ≡ 13 → (o : Words) → Decides p z m n (words_of o) → StateMatches z p c × ((o.tag ≡ 8 → ClassesBelow z.classes o.bits) × (i < z.insns))
  stamp_asked e o d = (matches visiting, (read_below n visiting fitting e o (d.receiver e), F.front.inside))

-- ---- a visit that surely does nothing

module _ {s p : List ℕ} {c : Counts} {x u : List ℕ} {z : Sizes} {m : List ℕ} {q : Regs} {i e : ℕ} {n : Record} (F : Facing s p c x u z (tables_of m) q i n) (S : Stamped s p c z m q e) where
  pub read_idles : n.tag ≡ 13 → (o : Words) → words_of o ≡ kind_in (kinds_of z (tables_of m)) (nth (operands_of p (row_of n)) 0) → (eqb o.tag 8 && eqb (stamp_of m i) o.bits) ≡ true
      → Passes s p c z (tables_of m) i
  read_idles k o l g =
      let b = and-true (eqb o.tag 8) (eqb (stamp_of m i) o.bits) g in
      let K : SettledFor s p c z (tables_of m) (name_of n) i (stamp_of m i) =
      subst (λ (y : Record). SettledFor s p c z (tables_of m) (name_of y) i (stamp_of m i)) (sym (its_record F)) (S.reads i F.front.inside (subst (λ (y : Record). y.tag ≡ 13) (its_record F) k)) in
      record { is = λ L room. read-passes n (visiting F).read k o l (eqb-true o.tag 8 b.0) (subst (SettledFor s p c z (tables_of m) (name_of n) i) (eqb-true (stamp_of m i) o.bits b.1) K) L }

  pub other_idles : n.tag < 13 → eqb (stamp_of m i) e ≡ true → Passes s p c z (tables_of m) i
  other_idles l g =
      let I = S.dated.idle i F.front.inside (subst (λ (y : Record). y.tag < 13) (its_record F) l) (eqb-true (stamp_of m i) e g) in
      record { is = λ L room P v f q. I L room P v f (state_view z v (tables_of m) q) refl refl refl }

-- ---- what leaves a read settled: the tables m before a visit of i, and w after it

module _ {s p : List ℕ} {c : Counts} {x u : List ℕ} {z : Sizes} {m : List ℕ} {q : Regs} {i : ℕ} {n : Record} {w : List ℕ} {r : Regs} (F : Facing s p c x u z m q i n)
    (d : BlockStepped z (MachineFits s p c) (λ L P t. take_insn L P (insns_in t) t) m q w (On r)) {j : ℕ} (apart : j ≡ i → ⊥) where
  abbrev limits : Limits
  limits = F.analysed.indexed.limits

  roomy : limits.worklist ≡ worklist_most
  roomy = F.analysed.indexed.suited.room.worklist

  abbrev before : Attrs → State
  before v = began F.analysed F.front F.some d v

  went_so : (P : Program) (v : Attrs) → MachineFits s p c P v → visit limits P i (before v) ≡ answered (tt, state_view z v w r)
  went_so P v f = visited F.analysed F.front F.some d limits roomy P v f

  module _ {a : Name} {b : ℕ} (S : SettledFor s p c z m a j b) where
    -- an instruction that sets no attribute
    other_settled : (record_at p i).tag ≤ 13 → SettledFor s p c z w a j b
    other_settled t = record {
      is = λ P v f. visit_settled limits P (name_in s a) j b i (before v) (state_view z v w r) (went_so P v f)
          (op_sets (record_at p i) (row_read F.analysed F.front.inside) f t) apart (S.is P v f);
    }

    -- a setting of a kind that the read's kind covers
    covered_settled : 13 < (record_at p i).tag → {k : Kind} → k ≡ kind_in (kinds_of z m) (nth (operands_of p (row_of (record_at p i))) 1)
        → Covered (get_or (kinds_of z w) j Empty) k → SettledFor s p c z w a j b
    covered_settled t {k} e h = record {
      is = λ P v f.
          let G = went_so P v f in
          let o = nth (operands_of p (row_of (record_at p i))) 1 in
          let own = other-kind limits P i j (before v) (state_view z v w r) G apart in
          set-covered limits P (name_in s a) j b i _ _ o (before v) (state_view z v w r) (set-op (record_at p i) (row_read F.analysed F.front.inside) f t) G apart
          (subst (Covered (get_or (kinds_of z m) j Empty)) (e ∙ sym (kind_of_lem (before v) o)) (subst (λ (y : Kind). Covered y k) own h)) (S.is P v f);
    }

  -- a visit that put no instruction in
  quiet_settled : j < z.insns → (record_at p j).tag ≡ 13 → r.insns.len + 1 ≡ q.insns.len → {b : ℕ} → SettledFor s p c z m (name_of (record_at p j)) j b
      → SettledFor s p c z w (name_of (record_at p j)) j b
  quiet_settled l t e {b} S = record {
    is = λ P v f.
        visit_quiet limits P (name_in s (name_of (record_at p j))) j b i _ (before v) (state_view z v w r) (went_so P v f) apart (read-op (record_at p j) (row_read F.analysed l) f t)
        (let y = insns-length w r in let o = sym (insns-length m q) ∙ ap length (front F.front F.some) in omega arith) (S.is P v f);
  }

-- ---- all stamps after a visit

module _ {s p : List ℕ} {c : Counts} {x u : List ℕ} {z : Sizes} {m : List ℕ} {q : Regs} {i e : ℕ} {n : Record} {w : List ℕ} {r : Regs} {t : ℕ}
    (F : Facing s p c x u z (tables_of m) q i n) (S : Stamped s p c z m q e)
    (G : Visited s p c z (λ L P y. take_insn L P (insns_in y) y) m q w r (Ok t)) where
  abbrev Comes : List ℕ → Type 0
  Comes l = Timely s p c z (λ L P y. take_insn L P (insns_in y) y) m q l r (Ok t)

  -- of another sort than a read
  other_sort : {j : ℕ} → (record_at p j).tag ≡ 13 → ((record_at p i).tag ≡ 13 → ⊥) → j ≡ i → ⊥
  other_sort h k a = k (ap (λ (y : ℕ). (record_at p y).tag) (sym a) ∙ h)

  -- the stamps of reads are made anew, and all else stays
  comes : {l : List ℕ} → length l ≡ length w → tables_of l ≡ tables_of w → ((j : ℕ) → (record_at p j).tag < 13 → stamp_of l j ≡ stamp_of w j)
      → ((j : ℕ) → j < z.insns → (record_at p j).tag ≡ 13 → SettledFor s p c z (tables_of w) (name_of (record_at p j)) j (stamp_of l j)) → Comes l
  comes {l} long same stamps reads = record {
    step = subst (λ (y : List ℕ). BlockStepped z (MachineFits s p c) (λ L P y. take_insn L P (insns_in y) y) (tables_of m) q y (On r)) (sym same) G.step;
    stamps = record {
      dated = record {
        long = long ∙ G.dated.long;
        past = λ j a h. let b = G.dated.past j a h in let k = stamps j h in omega arith;
        idle = λ j a h k. subst (λ (y : List ℕ). Idles s p c z y j) (sym same) (G.dated.idle j a h (sym (stamps j h) ∙ k));
        slow = G.dated.slow;
      };
      reads = λ j a h. subst (λ (y : List ℕ). SettledFor s p c z y (name_of (record_at p j)) j (stamp_of l j)) (sym same) (reads j a h);
    };
  }

  -- a stamp that was not touched
  as_before : {j : ℕ} → (record_at p j).tag ≡ 13 → SettledFor s p c z (tables_of w) (name_of (record_at p j)) j (stamp_of m j)
      → SettledFor s p c z (tables_of w) (name_of (record_at p j)) j (stamp_of w j)
  as_before {j} h = subst (SettledFor s p c z (tables_of w) (name_of (record_at p j)) j) (sym (G.others j (omega arith)))

  pub other-on : n.tag < 13 → Comes w
  other-on l =
      let k = subst (λ (y : Record). y.tag < 13) (its_record F) l in
      comes refl refl (λ j h. refl) (λ j a h. as_before h (other_settled F G.step (other_sort h (λ g. omega arith)) (S.reads j a h) (omega arith)))

  pub read-on : n.tag ≡ 13 → {b : ℕ} → SettledFor s p c z (tables_of w) (name_of n) i b → Comes (set w (stamps_at + i) b)
  read-on k {b} K =
      let l = G.dated.long in
      let tag : (record_at p i).tag ≡ 13 = sym (ap (λ (y : Record). y.tag) (its_record F)) ∙ k in
      comes (put-long w i b l ∙ sym l) (put-tables w i b l) (λ j h. put_other w i b l j (λ a. let y = ap (λ (y : ℕ). (record_at p y).tag) a in omega arith)) (λ j a h. go j a h tag (same_or j i))
    where
      own : SettledFor s p c z (tables_of w) (name_of (record_at p i)) i b
      own = subst (λ (y : Record). SettledFor s p c z (tables_of w) (name_of y) i b) (its_record F) K

      go : (j : ℕ) → j < z.insns → (record_at p j).tag ≡ 13 → (record_at p i).tag ≡ 13 → (j ≡ i) ⊎ (j ≡ i → ⊥)
          → SettledFor s p c z (tables_of w) (name_of (record_at p j)) j (stamp_of (set w (stamps_at + i) b) j)
      go j a h tag (inl y) =
          subst (λ (y : ℕ). SettledFor s p c z (tables_of w) (name_of (record_at p y)) y (stamp_of (set w (stamps_at + i) b) y)) (sym y)
          (subst (SettledFor s p c z (tables_of w) (name_of (record_at p i)) i) (sym (put-here w i b G.dated.long (few F))) own)
      go j a h tag (inr y) =
          subst (SettledFor s p c z (tables_of w) (name_of (record_at p j)) j) (sym (put_other w i b G.dated.long j y)) (as_before h (other_settled F G.step y (S.reads j a h) (omega arith)))

  module _ (k : 13 < n.tag) where
    tag : 13 < (record_at p i).tag
    tag = subst (λ (y : Record). 13 < y.tag) (its_record F) k

    -- a setting that woke no read
    pub quiet_on : r.insns.len + 1 ≡ q.insns.len → Comes w
    quiet_on h = comes refl refl (λ j h. refl) (λ j a y. as_before y (quiet_settled F G.step (other_sort y (λ o. let b = tag in omega arith)) a y h (S.reads j a y)))

    -- one that woke reads, after which only the reads kept their stamps whose kinds cover the kind that was set
    pub unsettled_on : {v : Kind} {l : List ℕ} → Decides p z (tables_of m) n v → Unsettled p z v z.insns w l → Comes l
    unsettled_on {v} {l} D U = comes U.long U.tables kept (λ j a h. go j a h (U.stamps j) (U.reads j a h))
      where
        kept : (j : ℕ) → (record_at p j).tag < 13 → stamp_of l j ≡ stamp_of w j
        kept j h = same (U.stamps j)
          where
            same : (stamp_of l j ≡ stamp_of w j) ⊎ ((stamp_of l j ≡ 0) × ((record_at p j).tag ≡ 13)) → stamp_of l j ≡ stamp_of w j
            same (inl y) = y
            same (inr y) = absurd (let o = y.1 in omega arith)

        value : v ≡ kind_in (kinds_of z (tables_of m)) (nth (operands_of p (row_of (record_at p i))) 1)
        value = D.value k ∙ ap (λ (y : Record). kind_in (kinds_of z (tables_of m)) (nth (operands_of p (row_of y)) 1)) (its_record F)

        none : (j : ℕ) → stamp_of l j ≡ 0 → SettledFor s p c z (tables_of w) (name_of (record_at p j)) j (stamp_of l j)
        none j y = subst (SettledFor s p c z (tables_of w) (name_of (record_at p j)) j) (sym y) none_settled

        go : (j : ℕ) → j < z.insns → (record_at p j).tag ≡ 13 → (stamp_of l j ≡ stamp_of w j) ⊎ ((stamp_of l j ≡ 0) × ((record_at p j).tag ≡ 13))
            → (stamp_of l j ≡ 0) ⊎ Covered (get_or (kinds_of z (tables_of w)) j Empty) v
            → SettledFor s p c z (tables_of w) (name_of (record_at p j)) j (stamp_of l j)
        go j a h (inr y) o = none j y.0
        go j a h (inl y) (inl o) = none j o
        go j a h (inl y) (inr o) =
            subst (SettledFor s p c z (tables_of w) (name_of (record_at p j)) j) (sym y)
            (as_before h (covered_settled F G.step (other_sort h (λ o. let b = tag in omega arith)) (S.reads j a h) tag value o))

-- ---- the step, by what it takes

pub facing : {s p : List ℕ} {c : Counts} {x u : List ℕ} {z : Sizes} {m : List ℕ} {q : Regs} {i : ℕ} {n : Record} {t : 𝔹} → Analysed s p c x u z → Steady s p c z m → StateReady z m q
    → q.count < 2 ^ 63
    → (block_next q ≡ false → RecordOf p m q n) → Front z m q i → t ≡ block_next q → t ≡ false → Facing s p c x u z m q i n
facing {z = z} {m = m} {q = q} A T R k h F b f =
    record { analysed = A; steady = T; ready = R; some = some_insn z m q b f; small = k; record_of = h (sym b ∙ f); front = front_of_lem F (sym b ∙ f) }

live-kept : (L : Limits) (P : Program) (n : List ℕ) (j b : ℕ) (l : List ℕ) (t e : State) → take_block L P l t ≡ answered e → Settled P n j b t.kinds t.ivar_kinds t.ivar_reads
    → Settled P n j b e.kinds e.ivar_kinds e.ivar_reads
live-kept L P n j b [] t e q h = subst (λ (y : State). Settled P n j b y.kinds y.ivar_kinds y.ivar_reads) (answer q) h
live-kept L P n j b (x ∷ l) t e q h = live_settled L P n j b x (taken true t.insn_worklist l t) e (state_of_lem L P (go_live L P x (taken true t.insn_worklist l t)) e q) h

module _ {s p : List ℕ} {c : Counts} {z : Sizes} {m : List ℕ} {q : Regs} {t : 𝔹} (b : t ≡ block_next q) where
  pub timely_insn : {w : List ℕ} {r : Regs} {a : Result ℕ Refusal} → t ≡ false → Timely s p c z (λ L P y. take_insn L P (insns_in y) y) m q w r a → Timely s p c z step m q w r a
  timely_insn h d = record { step = insn_step z (tables_of m) q b h d.step; stamps = d.stamps }

  module _ {fits : Program → Attrs → Type 0} {w o : List ℕ} (h : t ≡ true) (f : (P : Program) (v : Attrs) → MachineFits s p c P v → fits P v) (B : Back m w o) where
    block_came : {a : Acted} → BlockStepped z fits (λ L P y. take_block L P (blocks_in y) y) (tables_of m) q w a → BlockStepped z (MachineFits s p c) step (tables_of m) q (tables_of o) a
    block_came {a} d = subst (λ (l : List ℕ). BlockStepped z (MachineFits s p c) step (tables_of m) q l a) (sym B.tables) (block-step z (tables_of m) q b h f d)

    pub block_no : {r : Regs} {a : Refusal} → BlockStepped z fits (λ L P y. take_block L P (blocks_in y) y) (tables_of m) q w (Refused (number_of a)) → Timely s p c z step m q o r (Err a)
    block_no d = record { step = block_came d; stamps = tt }

    pub timely_block : {x u : List ℕ} {e : ℕ} {r : Regs} → Analysed s p c x u z → Stamped s p c z m q e → BlockStepped z fits (λ L P y. take_block L P (blocks_in y) y) (tables_of m) q w (On r)
        → Timely s p c z step m q o r (Ok (e + 1))
    timely_block {x} {u} {e} {r} A S d = record {
      step = block_came d;
      stamps = record {
        dated = stale S.dated B.long B.stamps d.ok.count;
        reads = λ j a i.
            subst (SettledFor s p c z (tables_of o) (name_of (record_at p j)) j) (sym (B.stamps j))
            (subst (λ (l : List ℕ). SettledFor s p c z l (name_of (record_at p j)) j (stamp_of m j)) (sym B.tables) (kept (S.reads j a i)));
      };
    }
      where
        kept : {n : Name} {j y : ℕ} → SettledFor s p c z (tables_of m) n j y → SettledFor s p c z w n j y
        kept {n} {j} {y} K = record {
          is = λ P v a.
              let L = A.indexed.limits in
              live-kept L P (name_in s n) j y (blocks_of (tables_of m) q) (state_view z v (tables_of m) q) (state_view z v w r)
              (sym (d.is L A.indexed.suited.room.worklist P v (f P v a))) (K.is P v a);
        }
