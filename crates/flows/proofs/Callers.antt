-- The arguments of a function's callers, and a Param's kind. Assumes nothing.
use Rattle.std.specs.Prelude.{Ok as Of, Some as Set, Option, Some, None}
use mathlib.Core.Bool.{Bool as 𝔹, true, false, cond, ◌||◌}
use mathlib.Core.Path.{◌≡◌, refl, sym, ap, ◌∙◌}
use mathlib.Core.Option.{none, some}
use mathlib.Core.List.{List, [], ◌∷◌, map}
use Prim.Native.Nat.{ℕ, zero, suc, ◌+◌, ◌*◌, ◌≤◌, ◌<◌}
use native.Mathlib.Omega.{arith}
use lib.Bits.{bit_or}
use lib.ListN.{length, get_or, drop, get_or-eq_default}
use lib.Seq.{get_or-drop}
use Rattle.kinds.specs.declared.Kind.{Kind}
use Rattle.kinds.specs.declared.Kind.TheVariants.{Empty, Nil, Objects}
use Rattle.kinds.specs.Kinds.{is_set}
use Rattle.kinds.specs.Union.{Joined, union_all}
use Rattle.rules.specs.Actions.{lift}
use Rattle.rules.specs.Values.{to_answer}
use Rattle.rules.specs.Lists.{has}
use Rattle.rules.specs.Program as P
use Rattle.rules.specs.Program.{Limits, Program, Param, about, op_of, function_of}
use Rattle.rules.specs.Machine.{State, marked, kind_of, join_all, opnd_set, callers_of, place_of, argument, flows_in, rule}
use Rattle.program.specs.declared.Op.{Op}
use Rattle.program.specs.declared.Op.TheVariants.{Jump, IfTrue, Return, SendStatic, SendDynamic, Compute, Phi, SelfParam, New, GetIvar, SetIvar}
use Rattle.program.specs.declared.Op.TheVariants.{Param as ParamOp}
use Rattle.program.specs.declared.Opnd.{Opnd}
use Rattle.program.specs.declared.Opnd.TheVariants.{Const, Insn}
use Rattle.program.specs.declared.Counts.{Counts}
use Rattle.program.specs.declared.reader.Program.{Program as Tables}
use Rattle.program.specs.Rows.{opnd_of, opnds_in, op_in}
use Rattle.program.specs.declared.Row.{Row}
use Rattle.program.specs.View.{program_view, ReadsInsn}
use Rattle.program.proofs.Areas.{given-length}
use Rattle.program.proofs.Reading.{operand_read}
use Rattle.state.specs.declared.Sizes.{Sizes}
use Rattle.state.specs.View.{kinds_of, called_of}
use Rattle.state.specs.View.{state_view}
use Rattle.state.specs.Changes.{marks_from}
use Rattle.machine.specs.opnds.Reads.{OperandInside, kind_in, StateReads}
use Rattle.machine.proofs.opnds.Given.{kind_of_lem}
use Rattle.program.specs.Layout.{opnds_at}
use Rattle.flows.specs.declared.Pass.{Pass}
use Rattle.flows.specs.declared.Classes.{Classes}
use Rattle.flows.specs.Tally.{Nothing, least, taken_all, finish, union_over, FitsAt, TallyFits}
use Rattle.kinds.specs.InWords.{AsSet, as_set}
use Rattle.flows.specs.Flows.{tally_of, Passed, Argues, ArguesAt, FlowsSound, FlowsKnown, PassedIn, pass_before, ByPasses, with_kind, join_sets, SetsFrom, ParamIs}
use Rattle.flows.proofs.Whole.{union-over}
use Rattle.flows.proofs.Sets.{sets-union}
use Rattle.flows.proofs.Rows.{All, all_in, caller_below}
use Rattle.flows.proofs.Tallied.{passed_none, passed_append}

-- ---- arguments

-- how many operands of a sort stand before its arguments
abbrev pub skip_of : Op → ℕ
skip_of (Jump b) = 0
skip_of (IfTrue b e) = 0
skip_of Return = 0
skip_of (SendStatic f) = 0
skip_of (SendDynamic m) = 1
skip_of (Compute o) = 0
skip_of (Phi b e) = 0
skip_of (ParamOp k) = 0
skip_of (SelfParam c) = 0
skip_of (New c) = 0
skip_of (GetIvar m) = 0
skip_of (SetIvar m) = 0

listed-is : (s : List ℕ) (o : Op) (l : List P.Opnd) → has (about (op_in s o l)).callee ≡ true → (about (op_in s o l)).listed ≡ drop (skip_of o) l
listed-is s (Jump b) l h = cc
listed-is s (IfTrue b e) l h = cc
listed-is s Return l h = cc
listed-is s (SendStatic f) l h = refl
listed-is s (SendDynamic m) l h = refl
listed-is s (Compute o) l h = cc
listed-is s (Phi b e) l h = cc
listed-is s (ParamOp k) l h = cc
listed-is s (SelfParam c) l h = cc
listed-is s (New c) l h = cc
listed-is s (GetIvar m) l h = cc
listed-is s (SetIvar m) l h = cc

at-any : (l : List P.Opnd) (i : ℕ) (d e : P.Opnd) → i < length l → get_or l i d ≡ get_or l i e
at-any [] i d e h = absurd (omega arith)
at-any (x ∷ l) zero d e h = refl
at-any (x ∷ l) (suc i) d e h = at-any l i d e (omega arith)

-- a row's operands lie in their table
pub row_inside : (p : Tables) {i : ℕ} {x : Row} → ReadsInsn p.words.now p.counts i x → x.first + x.count ≤ opnds_at
row_inside p d = let a = d.range in let b = p.ready.opnds in let d = p.ready.listed in let e = p.ready.insns in omega arith

module _ (p : Tables) (i n : ℕ) {x : Row} (d : ReadsInsn p.words.now p.counts i x) where
  abbrev m : List ℕ
  m = p.words.now

  abbrev c : Counts
  c = p.counts

  abbrev skip : ℕ
  skip = skip_of x.op

  abbrev given : List P.Opnd
  given = map opnd_of (opnds_in m (opnds_at + 2 * x.first) x.count)

  argument_is : (L : Limits) (s : List ℕ) → has (about (op_of (program_view s m c) i)).callee ≡ true → argument L (program_view s m c) n i ≡ get_or given (skip + n) (P.Const Empty)
  argument_is L s h =
      let e : op_of (program_view s m c) i ≡ op_in s x.op given = ap (λ (y : P.Instruction). y.op) (d.is s) in
      let g : has (about (op_in s x.op given)).callee ≡ true = rw e at h in
      ap (λ (y : P.Op). get_or (about y).listed n (P.Const Empty)) e
      ∙ ap (λ (y : List P.Opnd). get_or y n (P.Const Empty)) (listed-is s x.op given g)
      ∙ get_or-drop skip given n (P.Const Empty)

  pub argument-here : skip + n < x.count → ArguesAt m c i n (Some (opnds_at + 2 * x.first + 2 * (skip + n)))
  argument-here lt = record {
    is = record {
      is = λ L s h.
          operand_read m (opnds_at + 2 * x.first) x.count (skip + n) lt refl
          ∙ at-any given (skip + n) (P.Const Nil) (P.Const Empty) (let k = given-length m (opnds_at + 2 * x.first) x.count in omega arith)
          ∙ sym (argument_is L s h);
    };
    inside = let a = row_inside p d in let b = p.ready.len_mem in omega arith;
  }

  pub argument-none : x.count ≤ skip + n → ArguesAt m c i n None
  argument-none le = record {
    is = record {
      is = λ L s h.
          sym (argument_is L s h ∙ get_or-eq_default given (P.Const Empty) (let k = given-length m (opnds_at + 2 * x.first) x.count in omega arith));
    };
    inside = tt;
  }

pub fits-inside : (z : Sizes) (r : Opnd) → FitsAt z.insns (opnd_of r) → OperandInside z r
fits-inside z (Const k) f = tt
fits-inside z (Insn j) f = f

-- ---- pass_callers at its loop's head: l is left of the callers

pub caller-within : {m : List ℕ} {c : Counts} {z : Sizes} {t : List (List 𝔹)} → FlowsKnown m c z t → {i : ℕ} → i < z.insns → i < c.insns
caller-within q lt = let e = q.sizes in omega arith

pub record Passing (m : List ℕ) (c : Counts) (z : Sizes) (w : List ℕ) (f n : ℕ) (x₀ x : Pass) (l : List ℕ) : Type 0 where
  pub callers : All (λ i. marked (called_of z w) f i ≡ true) l
  pub on : (L : Limits) (s : List ℕ) (y : Pass) → FlowsSound (program_view s m c) z.insns (called_of z w) → Passed (kinds_of z w) (map (argument L (program_view s m c) n) l) x y
      → Passed (kinds_of z w) (map (argument L (program_view s m c) n) (marks_from (called_of z w) f 0)) x₀ y

pub passing_start : {m : List ℕ} {c : Counts} {z : Sizes} {w : List ℕ} {f n : ℕ} {x : Pass} {l : List ℕ} → l ≡ marks_from (called_of z w) f 0 → Passing m c z w f n x x l
unfolding marks_from
passing_start {z = z} {w} {f} e =
    rw e (record { callers = all_in (get_or (called_of z w) f []) (length (get_or (called_of z w) f [])) 0 (omega arith); on = λ L s y so p. p })

module _ {m : List ℕ} {c : Counts} {z : Sizes} {w : List ℕ} {f n : ℕ} {x₀ x : Pass} {l : List ℕ} (g : Passing m c z w f n x₀ x l) where
  module _ {i : ℕ} {k : List ℕ} (steps : l ≡ i ∷ k) where
    here : All (λ j. marked (called_of z w) f j ≡ true) (i ∷ k)
    here = rw steps at g.callers

    pub passing_below : FlowsKnown m c z (called_of z w) → f < z.functions → i < c.insns
    passing_below q lt = caller-within q (caller_below z w f i lt here.0)

    module _ {o : Opnd} (a : Argues m c i n o) where
      pub passing_inside : FlowsKnown m c z (called_of z w) → OperandInside z o
      passing_inside q = fits-inside z o (rw (a.is P.limits q.script (q.sound.calls f i here.0)) (q.sound.listed i n))

      pub passing_more : {x' : Pass} → Passed (kinds_of z w) (opnd_of o ∷ []) x x' → Passing m c z w f n x₀ x' k
      passing_more {x'} p = record {
        callers = here.1;
        on = λ L s y so r.
            let b : opnd_of o ≡ argument L (program_view s m c) n i = a.is L s (so.calls f i here.0) in
            g.on L s y so
            (rw steps (passed_append (kinds_of z w) (argument L (program_view s m c) n i ∷ []) (map (argument L (program_view s m c) n) k) x x' y (rw b at p) r));
      }

  pub passing_done : l ≡ [] → PassedIn m c z w f n 0 x₀ x
  passing_done e = record { passed = λ L s so. g.on L s x so (rw e (passed_none (kinds_of z w) x)) }

-- ---- a step of join_sets

pub join_step : (ks : List Kind) (x : Classes) (o : P.Opnd) (l : List P.Opnd) {r : Option Classes} → with_kind x (kind_in ks o) ≡ r
    → join_sets ks x.met x.union (o ∷ l) ≡ elim r [ Some y ↦ join_sets ks y.met y.union l | None ↦ None ]
unfolding join_sets
join_step ks x o l {r} e = go (as_set (kind_in ks o)) e
  where
    next : Option Classes → AsSet
    next a = elim a [ Some y ↦ join_sets ks y.met y.union l | None ↦ None ]

    go : (a : AsSet) → ◌≡◌ {A = Option Classes} (elim a [ Some t ↦ Some (record { union = bit_or x.union t; met = x.met || is_set (kind_in ks o) }) | None ↦ None ]) r
        → ◌≡◌ {A = AsSet} (elim a [ Some t ↦ join_sets ks (x.met || is_set (kind_in ks o)) (bit_or x.union t) l | None ↦ None ]) (next r)
    go (Some t) h = ap next h
    go None h = ap next h

pub join-none : (ks : List Kind) (b : 𝔹) (s : ℕ) → join_sets ks b s [] ≡ Set (cond b s 0)
unfolding join_sets
join-none ks b s = refl

-- ---- a Param

all-callers : (t : List (List 𝔹)) (L : Limits) (p : Program) (s : State) (f : ℕ) → s.called_by ≡ t → marks_from t f 0 ≡ callers_of L p s f
unfolding marks_from
all-callers t L p s f e = rw (sym e)

arguments_fit : (L : Limits) (p : Program) (z : Sizes) (t : List (List 𝔹)) (n : ℕ) (l : List ℕ) → FlowsSound p z.insns t → TallyFits z.insns (map (argument L p n) l)
arguments_fit L p z t n [] so = tt
arguments_fit L p z t n (i ∷ l) so = (so.listed i n, arguments_fit L p z t n l so)

place_is : (L : Limits) (p : Program) (i n : ℕ) → op_of p i ≡ Param n → place_of L p i ≡ n
place_is L p i n e = ap (λ (o : P.Op). elim (about o).place [ none ↦ 0 | some k ↦ k ]) e

param_is : (L : Limits) (p : Program) (i n : ℕ) (s : State) → op_of p i ≡ Param n
    → rule L p i (Param n) s ≡ lift (to_answer (union_all Empty (map (kind_of s) (opnd_set (map (argument L p n) (callers_of L p s (function_of p i))))))) s
unfolding rule join_all flows_in
param_is L p i n s e =
    ap (λ (k : ℕ). lift (to_answer (union_all Empty (map (kind_of s) (opnd_set (map (argument L p k) (callers_of L p s (function_of p i))))))) s) (place_is L p i n e)

pub kinds_of_lem : (s : State) (l : List P.Opnd) → map (kind_in s.kinds) l ≡ map (kind_of s) l
kinds_of_lem s [] = refl
kinds_of_lem s (o ∷ l) = rw (kind_of_lem s o, kinds_of_lem s l)

finish-same : (ks : List Kind) (n a : ℕ) (t : Rattle.flows.specs.Tally.Tally) → finish [] n a t ≡ finish ks n a t
finish-same ks n a Nothing = refl
finish-same ks n a (Rattle.flows.specs.Tally.One w j) = refl
finish-same ks n a (Rattle.flows.specs.Tally.Many j) = refl

-- two passes over the same operands come to the union of their set
pub two_passes : (ks : List Kind) (n : ℕ) (l : List P.Opnd) {x y : Pass} {r : Joined} → Passed ks l (pass_before n) x
    → Passed ks l (pass_before x.least) y → r ≡ finish [] n x.least (tally_of y.tally) → TallyFits n l
    → r ≡ union_all Empty (map (kind_in ks) (opnd_set l))
unfolding union_over
two_passes ks n l {x} {y} {r} px py e f =
    let a : x.least ≡ least ks n l = px.lowest in
    let t : tally_of y.tally ≡ taken_all ks x.least Nothing l = py.told in
    let h : r ≡ union_over ks n l = e ∙ finish-same ks n x.least (tally_of y.tally) ∙ rw (t, a) in
    h ∙ union-over ks n l f

-- the union of the arguments, in the rule's words
param_union : {m : List ℕ} {c : Counts} {z : Sizes} {w : List ℕ} {f n : ℕ} {r : Joined}
    → ((L : Limits) (u : List ℕ) → FlowsSound (program_view u m c) z.insns (called_of z w)
    → r ≡ union_all Empty (map (kind_in (kinds_of z w)) (opnd_set (map (argument L (program_view u m c) n) (marks_from (called_of z w) f 0)))))
    → (i : ℕ) → StateReads z (ParamIs m c z (called_of z w) i f n) (λ L p. rule L p i (Param n)) w r
param_union {m} {c} {z} {w} {f} {n} {r} h i = record {
  is = λ L p v g q.
      let u = program_view g.script m c in
      let s = state_view z v w q in
      let l = map (argument L u n) (marks_from (called_of z w) f 0) in
      let k : r ≡ union_all Empty (map (kind_of s) (opnd_set l)) = h L g.script g.sound ∙ ap (union_all Empty) (kinds_of_lem s (opnd_set l)) in
      let b : l ≡ map (argument L u n) (callers_of L u s (function_of u i)) = ap (map (argument L u n)) (all-callers (called_of z w) L u s f refl ∙ ap (callers_of L u s) (sym g.function)) in
      rw g.program (ap (λ (j : Joined). lift (to_answer j) s) (k ∙ ap (λ (o : List P.Opnd). union_all Empty (map (kind_of s) (opnd_set o))) b) ∙ sym (param_is L u i n s g.op));
}

pub param_kind : {m : List ℕ} {c : Counts} {z : Sizes} {w : List ℕ} {f n : ℕ} {walks : Pass → Pass → Type 0} {r : Joined}
    → ((x y : Pass) → walks x y → PassedIn m c z w f n 0 x y) → ByPasses z.insns walks r
    → (i : ℕ) → StateReads z (ParamIs m c z (called_of z w) i f n) (λ L p. rule L p i (Param n)) w r
param_kind {m} {c} {z} {w} {f} {n} h g =
    param_union (λ L u so.
    let l = map (argument L (program_view u m c) n) (marks_from (called_of z w) f 0) in
    two_passes (kinds_of z w) z.insns l ((h _ _ g.first).passed L u so) ((h _ _ g.again).passed L u so) g.is
    (arguments_fit L (program_view u m c) z (called_of z w) n (marks_from (called_of z w) f 0) so))

pub param_set : {m : List ℕ} {c : Counts} {z : Sizes} {w : List ℕ} {f n : ℕ} {x : AsSet} {s : ℕ} → SetsFrom m c z w f n 0 false 0 x → x ≡ Set s → 0 < s
    → (i : ℕ) → StateReads z (ParamIs m c z (called_of z w) i f n) (λ L p. rule L p i (Param n)) w (Of (Objects s))
param_set {m} {c} {z} {w} {f} {n} {s = s} h e lt =
    param_union (λ L u so.
    let l = map (argument L (program_view u m c) n) (marks_from (called_of z w) f 0) in
    sets-union (kinds_of z w) z.insns s l (arguments_fit L (program_view u m c) z (called_of z w) n (marks_from (called_of z w) f 0) so) (sym (h.passed L u so) ∙ e) lt)
