-- Steps of a state that is lent, with its stamps beside it. Assumes nothing.
use mathlib.Core.Bool.{Bool as 𝔹, true, false, not, ◌&&◌}
use mathlib.Core.Path.{◌≡◌, refl, sym, ap, ◌∙◌, subst}
use mathlib.Core.List.{List, ◌++◌}
use Prim.Native.Nat.{ℕ, ◌+◌, ◌<◌}
use borrow.Author.Tests.{eqb-true}
use lib.Dec.{eqb}
use lib.ListN.{get_or, set}
use Rattle.std.specs.Prelude.{Result, Ok, Err}
use Rattle.refusals.specs.declared.Refusal.{Refusal}
use Rattle.kinds.specs.declared.Kind.{Kind}
use Rattle.kinds.specs.declared.Kind.TheVariants.{Empty}
use Rattle.rules.specs.Program.{Program}
use Rattle.rules.specs.Machine.{step, visit, take_block}
use Rattle.program.specs.declared.Counts.{Counts}
use Rattle.program.specs.Rows.{nth}
use Rattle.records.specs.Records.{row_of}
use Rattle.records.specs.declared.Record.{Record}
use Rattle.state.specs.declared.Sizes.{Sizes}
use Rattle.state.specs.declared.State.{State}
use Rattle.state.specs.Acted.{acted_of}
use Rattle.state.specs.View.{Attrs, kinds_of}
use Rattle.state.specs.Changes as C
use Rattle.state.specs.Methods.{Did, TookInsn}
use Rattle.state.proofs.Methods.{lent_on, did_at}
use Rattle.machine.specs.declared.tables.Tables.{Tables}
use Rattle.machine.specs.opnds.Reads.{kind_in}
use Rattle.machine.specs.blocks.Blocks.{CodeIs, blocks_in, BlockStepped, Stepped}
use Rattle.machine.specs.Analysed.{Analysed, MachineFits}
use Rattle.machine.specs.receivers.Receivers.{StateMatches, ClassesBelow}
use Rattle.kinds.specs.declared.words.Words.{Words}
use Rattle.kinds.specs.InWords.{words_of}
use Rattle.visits.specs.Visits.{operands_of}
use Rattle.settled.specs.Reads.{whole, name_of, SettledFor, Decides, Unsettled}
use Rattle.settled.proofs.Stamps.{whole_tables, whole_set}
use Rattle.steps.specs.Stamps.{tables_of, Passes, Visited, Timely}
use Rattle.steps.specs.Steps.{block_next, Facing}
use Rattle.steps.specs.Methods.{Step, insn_next, FacingIn, DatedIn, StampedIn, VisitedIn, TimelyIn}
use Rattle.steps.proofs.Stepping.{insn_stepped, code_fits}
use Rattle.steps.proofs.Stamps.{Back, whole_stamp, whole_back, skipped, visit_no, visit_changed, visit-kept, visit_stamped}
use Rattle.steps.proofs.Kept.{stamp_asked, read_idles, other_idles, read-on, other-on, quiet_on, unsettled_on, timely_insn, block_no, timely_block}

-- the instruction in front is taken off and visited
pub insn_done : {fits : Program → Attrs → Type 0} {i : ℕ} {s t u : State} (r : Result (Unit {0}) Refusal) → TookInsn i s t → Did fits (λ L P. visit L P i) t u r → Stepped fits insn_next s u r
insn_done {fits} {i} {s} {t} {u} r k d = record {
  lent = lent_on k.lent d.lent;
  step = insn_stepped s.sizes s.words.now s.regs k.took (subst
      (λ (m : List ℕ). C.StateDid s.sizes fits (λ L P. visit L P i) m t.regs u.words.now (acted_of u.regs r)) k.words (did_at k.lent.sizes d));
}

pub not_other : (a b : ℕ) → not (eqb a b) ≡ false → a ≡ b
not_other a b h = go (eqb a b) refl h
  where
    go : (y : 𝔹) → eqb a b ≡ y → not y ≡ false → a ≡ b
    go true e k = eqb-true a b e
    go false e k = absurd cc

module _ (T : Tables) where
  abbrev script : List ℕ
  script = T.code.program.script.now

  abbrev words : List ℕ
  words = T.code.program.words.now

  abbrev counts : Counts
  counts = T.code.program.counts

  abbrev FacingAt : State → List ℕ → ℕ → Record → Type 0
  FacingAt s m i n = Facing script words counts T.code.chains.now T.users.now s.sizes m s.regs i n

  abbrev Fits : Program → Attrs → Type 0
  Fits = MachineFits script words counts

  facing_back : (s : State) (a : List ℕ) {i : ℕ} {n : Record} → FacingIn T s i n → FacingAt s (tables_of (whole s a)) i n
  facing_back s a {i} {n} F = subst (λ (m : List ℕ). FacingAt s m i n) (sym (whole_tables s a)) F

  -- what a step came to, over the memory as a whole
  stepped_back : {fits : Program → Attrs → Type 0} {f : Step} {s t : State} {r y : Result (Unit {0}) Refusal} (a : List ℕ) → Stepped fits f s t r → r ≡ y
      → BlockStepped s.sizes fits f (tables_of (whole s a)) s.regs t.words.now (acted_of t.regs y)
  stepped_back {fits} {f} {s} {t} {r} {y} a d h = subst (λ (x : Result (Unit {0}) Refusal). BlockStepped s.sizes fits f (tables_of (whole s a)) s.regs t.words.now (acted_of t.regs x)) h
      (subst (λ (m : List ℕ). BlockStepped s.sizes fits f m s.regs t.words.now (acted_of t.regs r)) (sym (whole_tables s a)) d.step)

  -- ---- a visit

  module _ (s t : State) (a : List ℕ) {e : ℕ} {r : Result (Unit {0}) Refusal} (D : DatedIn T s a e) (d : Stepped Fits insn_next s t r) where
    back : Back (whole s a) t.words.now (whole t a)
    back = whole_back s t a D.long

    pub timed_no : {x : Refusal} → r ≡ Err x → VisitedIn T s a t a (Err x)
    timed_no h = record { lent = d.lent; visited = visit_no D back (stepped_back a d h) }

    pub timed_changed : {y : Unit {0}} → r ≡ Ok y → VisitedIn T s a t a (Ok (e + 1))
    timed_changed h = record { lent = d.lent; visited = visit_changed D back (stepped_back a d h) }

    module _ {i : ℕ} {n : Record} (F : FacingIn T s i n) {y : Unit {0}} (h : r ≡ Ok y) {v w : Words} (g : words_of v ≡ get_or (kinds_of t.sizes t.words.now) i Empty)
        (k : words_of w ≡ get_or (kinds_of s.sizes s.words.now) i Empty) (same : v ≡ w) (ring : t.regs.blocks.len ≡ s.regs.blocks.len) where
      same_kind : get_or (kinds_of s.sizes t.words.now) i Empty ≡ get_or (kinds_of s.sizes (tables_of (whole s a))) i Empty
      same_kind =
          ap (λ (z : Sizes). get_or (kinds_of z t.words.now) i Empty) (sym d.lent.sizes) ∙ sym g ∙ ap words_of same ∙ k
          ∙ ap (λ (m : List ℕ). get_or (kinds_of s.sizes m) i Empty) (sym (whole_tables s a))

      pub timed_kept : VisitedIn T s a t a (Ok e)
      timed_kept = record { lent = d.lent; visited = visit-kept D back (facing_back s a F) (stepped_back a d h) same_kind ring }

      pub timed_stamped : n.tag < 13 → eqb (t.regs.insns.len + 1) s.regs.insns.len ≡ true → VisitedIn T s a t (set a i e) (Ok e)
      timed_stamped l b = record {
        lent = d.lent;
        visited = subst (λ (o : List ℕ). Visited script words counts s.sizes insn_next (whole s a) s.regs o t.regs (Ok e)) (sym (whole_set t a i e))
            (visit_stamped D back (facing_back s a F) (stepped_back a d h) same_kind ring l b);
      }

  -- ---- the stamps of reads after it

  module _ (s t : State) (a b : List ℕ) {i e : ℕ} {n : Record} {r : Result ℕ Refusal} (F : FacingIn T s i n) (S : StampedIn T s a e) (V : VisitedIn T s a t b r) where
    pub insn_no : {x : Refusal} → r ≡ Err x → TimelyIn insn_next T s a t b (Err x)
    insn_no {x} h =
        let G = subst (λ (y : Result ℕ Refusal). Visited script words counts s.sizes insn_next (whole s a) s.regs (whole t b) t.regs y) h V.visited in
        record { lent = V.lent; timely = record { step = G.step; stamps = tt } }

    -- what is asked where the stamp of a read is made
    pub read_asked : n.tag ≡ 13 → (o : Words) → Decides words s.sizes s.words.now n (words_of o) → StateMatches t.sizes words counts × (o.tag ≡ 8 → ClassesBelow t.sizes.classes o.bits)
    read_asked k o d =
        let a = stamp_asked F k o d in
        subst (λ (z : Sizes). StateMatches z words counts × (o.tag ≡ 8 → ClassesBelow z.classes o.bits)) (sym V.lent.sizes) (a.0, a.1.0)

    module _ {k : ℕ} (h : r ≡ Ok k) where
      abbrev Comes : List ℕ → Type 0
      Comes o = Timely script words counts s.sizes insn_next (whole s a) s.regs o t.regs (Ok k)

      done : Visited script words counts s.sizes insn_next (whole s a) s.regs (whole t b) t.regs (Ok k)
      done = subst (λ (y : Result ℕ Refusal). Visited script words counts s.sizes insn_next (whole s a) s.regs (whole t b) t.regs y) h V.visited

      pub insn_read : n.tag ≡ 13 → {x : ℕ} → SettledFor script words counts t.sizes t.words.now (name_of n) i x → TimelyIn insn_next T s a t (set b i x) (Ok k)
      insn_read g {x} K =
          let K' = subst (λ (z : Sizes). SettledFor script words counts z t.words.now (name_of n) i x) V.lent.sizes K in
          let K'' = subst (λ (m : List ℕ). SettledFor script words counts s.sizes m (name_of n) i x) (sym (whole_tables t b)) K' in
          record { lent = V.lent; timely = subst Comes (sym (whole_set t b i x)) (read-on (facing_back s a F) S done g K'') }

      pub insn_set : {v : Kind} {l : List ℕ} → 13 < n.tag → Decides words s.sizes s.words.now n v
          → Unsettled words t.sizes v t.sizes.insns (whole t b) (whole t l) → TimelyIn insn_next T s a t l (Ok k)
      insn_set {v} {l} g d U =
          let d' = subst (λ (m : List ℕ). Decides words s.sizes m n v) (sym (whole_tables s a)) d in
          let U' = subst (λ (z : Sizes). Unsettled words z v z.insns (whole t b) (whole t l)) V.lent.sizes U in
          record { lent = V.lent; timely = unsettled_on (facing_back s a F) S done g d' U' }

      pub insn_quiet : 13 < n.tag → t.regs.insns.len + 1 ≡ s.regs.insns.len → TimelyIn insn_next T s a t b (Ok k)
      insn_quiet l g = record { lent = V.lent; timely = quiet_on (facing_back s a F) S done l g }

      pub insn_other : n.tag < 13 → TimelyIn insn_next T s a t b (Ok k)
      insn_other l = record { lent = V.lent; timely = other-on (facing_back s a F) S done l }

  -- ---- a visit that surely does nothing

  module _ (s : State) (a : List ℕ) {i e : ℕ} {n : Record} (F : FacingIn T s i n) (S : StampedIn T s a e) where
    pub idle_read : n.tag ≡ 13 → (o : Words) → words_of o ≡ kind_in (kinds_of s.sizes s.words.now) (nth (operands_of words (row_of n)) 0)
        → (eqb o.tag 8 && eqb (get_or a i 0) o.bits) ≡ true → Passes script words counts s.sizes s.words.now i
    idle_read k o l g = subst (λ (m : List ℕ). Passes script words counts s.sizes m i) (whole_tables s a)
        (read_idles (facing_back s a F) S k o (l ∙ ap (λ (m : List ℕ). kind_in (kinds_of s.sizes m) (nth (operands_of words (row_of n)) 0)) (sym (whole_tables s a)))
        (ap (λ (x : ℕ). eqb o.tag 8 && eqb x o.bits) (whole_stamp s a i) ∙ g))

    pub idle_other : n.tag < 13 → eqb (get_or a i 0) e ≡ true → Passes script words counts s.sizes s.words.now i
    idle_other l g = subst (λ (m : List ℕ). Passes script words counts s.sizes m i) (whole_tables s a)
        (other_idles (facing_back s a F) S l (ap (λ (x : ℕ). eqb x e) (whole_stamp s a i) ∙ g))

    pub idle_taken : {j : ℕ} {t : State} → Passes script words counts s.sizes s.words.now i → TookInsn j s t → TimelyIn insn_next T s a t a (Ok e)
    idle_taken {j} {t} P k =
        let P' = subst (λ (m : List ℕ). Passes script words counts s.sizes m i) (sym (whole_tables s a)) P in
        let k' = subst (λ (m : List ℕ). C.TookInsn s.sizes m s.regs j t.regs) (sym (whole_tables s a)) k.took in
        record {
          lent = k.lent;
          timely = subst (λ (m : List ℕ). Timely script words counts s.sizes insn_next (whole s a) s.regs (m ++ a) t.regs (Ok e)) (sym k.words)
              (skipped S P' (facing_back s a F).front k');
        }

  -- ---- the step, by what it takes

  -- the stamps that a step leaves, by another name
  pub stamps_are : {f : Step} {s t : State} {a k l : List ℕ} {r : Result ℕ Refusal} → k ≡ l → TimelyIn f T s a t l r → TimelyIn f T s a t k r
  stamps_are {f} {s} {t} {a} {k} {l} {r} e d = subst (λ (o : List ℕ). TimelyIn f T s a t o r) (sym e) d

  module _ (s t : State) (a : List ℕ) {y : 𝔹} (b : y ≡ block_next s.regs) where
    pub step_insn : {l : List ℕ} {r : Result ℕ Refusal} → y ≡ false → TimelyIn insn_next T s a t l r → TimelyIn step T s a t l r
    step_insn h d = record { lent = d.lent; timely = timely_insn b h d.timely }

    module _ {e : ℕ} (A : Analysed script words counts T.code.chains.now T.users.now s.sizes) (S : StampedIn T s a e) (h : y ≡ true) {r : Result (Unit {0}) Refusal}
        (d : Stepped (CodeIs s.sizes T.code.chains.now) (λ L P x. take_block L P (blocks_in x) x) s t r) where
      pub step_no : {x : Refusal} → r ≡ Err x → TimelyIn step T s a t a (Err x)
      step_no g = record { lent = d.lent; timely = block_no b h (code_fits A s.ready) (whole_back s t a S.dated.long) (stepped_back a d g) }

      pub step_block : {x : Unit {0}} → r ≡ Ok x → TimelyIn step T s a t a (Ok (e + 1))
      step_block g = record { lent = d.lent; timely = timely_block b h (code_fits A s.ready) (whole_back s t a S.dated.long) A S (stepped_back a d g) }
