-- Where a returned operand stands, and the classes of what has flowed back to a call, joined at once. Assumes nothing.
use Rattle.std.specs.Prelude.{Option, Ok as Of, Some, None}
use mathlib.Core.Bool.{Bool as 𝔹, true, false}
use mathlib.Core.Path.{◌≡◌, sym, ap, ◌∙◌}
use mathlib.Core.List.{List, [], ◌∷◌, ◌++◌}
use Prim.Native.Nat.{ℕ, suc, ◌+◌, ◌*◌, ◌≤◌, ◌<◌}
use native.Mathlib.Omega.{arith}
use lib.ListN.{length}
use Rattle.kinds.specs.declared.Kind.{Kind}
use Rattle.kinds.specs.declared.Kind.TheVariants.{Nil, Objects}
use Rattle.rules.specs.Program as P
use Rattle.rules.specs.Machine.{marked}
use Rattle.program.specs.declared.Opnd.{Opnd}
use Rattle.program.specs.declared.Opnd.TheVariants.{Const}
use Rattle.program.specs.declared.reader.Program.{Program as Tables}
use Rattle.program.specs.declared.Counts.{Counts}
use Rattle.program.specs.Rows.{opnd_of, opnd_at}
use Rattle.program.specs.declared.Row.{Row}
use Rattle.program.specs.View.{ReadsInsn}
use Rattle.program.specs.View.{program_view}
use Rattle.program.proofs.Reading.{operand_read}
use Rattle.state.specs.declared.Sizes.{Sizes}
use Rattle.state.specs.View.{kinds_of, called_of}
use Rattle.state.proofs.Tables.{called-length}
use Rattle.machine.specs.opnds.Reads.{kind_in, StateReads}
use Rattle.program.specs.Layout.{opnds_at}
use Rattle.flows.specs.declared.Classes.{Classes}
use Rattle.flows.specs.Flows.{with_kind, set_from, join_sets}
use Rattle.flows.proofs.Callers.{join_step, join-none, row_inside}
use Rattle.flows.proofs.Sets.{sets-union}
use Rattle.flows.specs.returning.Returning.{call_kind, Returns, ReturnsAt, back_from, BackIn, JoinsBack, JoinedAll}
use Rattle.flows.proofs.returning.Opnds.{returned-some, returned_none}
use Rattle.flows.proofs.returning.Passes.{Walking, walk_more, walk_done, back_past, back_on, back_skip, back_none, call-union}

-- ---- where a returned operand stands

module _ (p : Tables) (j : ℕ) {x : Row} (d : ReadsInsn p.words.now p.counts j x) where
  abbrev m : List ℕ
  m = p.words.now

  pub return_here : 0 < x.count → ReturnsAt m p.counts j (Some (opnds_at + 2 * x.first))
  return_here lt =
      let e : opnds_at + 2 * x.first ≡ opnds_at + 2 * x.first + 2 * 0 = omega arith in
      let a = row_inside p d in
      let b = p.ready.len_mem in
      (returned-some m p.counts j d (operand_read m (opnds_at + 2 * x.first) x.count 0 lt (ap (opnd_at m) e)), omega arith)

  pub return_none : x.count ≤ 0 → ReturnsAt m p.counts j None
  return_none le = returned_none m p.counts j d le

module _ {m : List ℕ} {c : Counts} {j : ℕ} {r : Option ℕ} (h : ReturnsAt m c j r) where
  pub returns_some : (at : ℕ) {o : Opnd} → r ≡ Some at → o ≡ opnd_at m at → Returns m c j o
  returns_some at e f = rw f ((rw e at h).0)

  pub returns_none : r ≡ None → Returns m c j (Const Nil)
  returns_none e = rw e at h

-- ---- join_returns at its loop's head

-- the rest joins x as all operands do x₀, whatever follows
pub record Gathers (ks : List Kind) (x₀ x : Classes) (os rest : List P.Opnd) : Type 0 where
  pub on : (k : List P.Opnd) → join_sets ks x₀.met x₀.union (os ++ k) ≡ join_sets ks x.met x.union (rest ++ k)

abbrev pub Gathering : List ℕ → Counts → ℕ → List Kind → Classes → Classes → List ℕ → Type 0
Gathering m c f ks x₀ x l = Walking m c f (Gathers ks x₀ x) l

module _ {m : List ℕ} {c : Counts} {f : ℕ} (z : Sizes) (w : List ℕ) {x₀ x : Classes} {l : List ℕ} (g : Gathering m c f (kinds_of z w) x₀ x l) where
  pub gather_more : {j : ℕ} {n : List ℕ} {o : Opnd} {v : Kind} {y : Option Classes} (t : Classes) → l ≡ j ∷ n → Returns m c j o → v ≡ kind_in (kinds_of z w) (opnd_of o)
      → y ≡ with_kind x v → y ≡ Some t → Gathering m c f (kinds_of z w) x₀ t n
  gather_more {v = v} t is r ev ey et =
      walk_more g is
      (λ a os o rest told q.
      let ek : kind_in (kinds_of z w) o ≡ v = ap (kind_in (kinds_of z w)) (sym (r.is a o told)) ∙ sym ev in
      record { on = λ k. q.on k ∙ join_step (kinds_of z w) x o (rest ++ k) (ap (with_kind x) ek ∙ sym ey ∙ et) })

  pub gather_done : l ≡ [] → JoinsBack m c z w f x₀ (Some x)
  gather_done e = record { joins = λ a. (walk_done g e a).on }

-- ---- join_called at its loop's head; k₀ is the first function

pub record Summed (m : List ℕ) (c : Counts) (z : Sizes) (w : List ℕ) (i k₀ : ℕ) (x : Classes) (k : ℕ) : Type 0 where
  pub on : (u : List ℕ) → join_sets (kinds_of z w) false 0 (back_from (program_view u m c) (called_of z w) i k₀)
      ≡ join_sets (kinds_of z w) x.met x.union (back_from (program_view u m c) (called_of z w) i k)

module _ {m : List ℕ} {c : Counts} {z : Sizes} {w : List ℕ} {i k₀ : ℕ} {x : Classes} {k : ℕ} (g : Summed m c z w i k₀ x k) where
  module _ (lt : k < z.functions) {a : 𝔹} (ea : a ≡ marked (called_of z w) k i) where
    pub summed_more : {y : Option Classes} (t : Classes) → a ≡ true → JoinsBack m c z w k x y → y ≡ Some t → Summed m c z w i k₀ t (k + 1)
    summed_more t h p ey = record {
      on = λ u.
          let j : JoinsBack m c z w k x (Some t) = rw ey at p in
          g.on u ∙ ap (join_sets (kinds_of z w) x.met x.union) (back_on (program_view u m c) (called_of z w) i k (let n = called-length z w in omega arith) (sym ea ∙ h))
          ∙ j.joins u (back_from (program_view u m c) (called_of z w) i (suc k))
          ∙ ap (λ (y : ℕ). join_sets (kinds_of z w) t.met t.union (back_from (program_view u m c) (called_of z w) i y)) (omega arith);
    }

    pub summed_past : a ≡ false → Summed m c z w i k₀ x (k + 1)
    summed_past h = record {
      on = λ u.
          g.on u ∙ ap (join_sets (kinds_of z w) x.met x.union) (back_past (program_view u m c) (called_of z w) i k (let n = called-length z w in omega arith) (sym ea ∙ h)
          ∙ ap (back_from (program_view u m c) (called_of z w) i) (omega arith));
    }

  pub summed_done : {n r : ℕ} → k₀ + n ≤ z.functions → k₀ + n ≤ k → r ≡ set_from x → JoinedAll m c z w i k₀ n (Some r)
  summed_done le more h = record {
    joined = λ s es a u.
        let v = program_view u m c in
        let t = called_of z w in
        let d : back_from v t i k ≡ [] = back_none v t i (length t) k (omega arith) (λ f e. let y = (a.only f e).1 in omega arith) in
        ap (join_sets (kinds_of z w) false 0) (back_skip v t i k₀ (let y = called-length z w in omega arith) (λ f e. (a.only f e).0))
        ∙ g.on u ∙ ap (join_sets (kinds_of z w) x.met x.union) d ∙ join-none (kinds_of z w) x.met x.union ∙ ap Some (sym h) ∙ es;
  }

-- ---- the kind

pub call-kind-set : {m : List ℕ} {c : Counts} {z : Sizes} {w : List ℕ} {i f n : ℕ} {r : Option ℕ} {s : ℕ} → JoinedAll m c z w i f n r → r ≡ Some s → 0 < s
    → StateReads z (BackIn m c z (called_of z w) i f n) (λ L p. call_kind L p i) w (Of (Objects s))
call-kind-set {m} {c} {z} {w} {i} {s = s} q e lt =
    call-union (λ u a fits. sets-union (kinds_of z w) z.insns s (back_from (program_view u m c) (called_of z w) i 0) fits (q.joined s e a u) lt)
