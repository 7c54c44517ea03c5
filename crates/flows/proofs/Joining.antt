-- join_sets at the heads of its loops. Assumes nothing.
use Rattle.std.specs.Prelude.{Option, Some, None}
use mathlib.Core.Bool.{Bool as 𝔹, true, false, ◌||◌}
use mathlib.Core.Path.{◌≡◌, refl, sym, ap, ap₂, subst, ◌∙◌}
use mathlib.Core.List.{List, [], ◌∷◌, map}
use Prim.Native.Nat.{ℕ, ◌<◌}
use native.Mathlib.Omega.{arith}
use lib.Bits.{bit_or, or_self}
use lib.ListN.{length, get_or}
use Rattle.ids.proofs.Bits.{or_assoc}
use Rattle.kinds.specs.declared.Kind.{Kind}
use Rattle.kinds.specs.declared.Kind.TheVariants.{Empty}
use Rattle.kinds.specs.Kinds.{kind_from, is_set}
use Rattle.rules.specs.Program as P
use Rattle.rules.specs.Program.{Limits}
use Rattle.rules.specs.Machine.{marked, argument}
use Rattle.program.specs.declared.Opnd.{Opnd}
use Rattle.program.specs.declared.Counts.{Counts}
use Rattle.program.specs.Rows.{opnd_of}
use Rattle.program.specs.View.{program_view}
use Rattle.program.proofs.Forms.{opnd_const}
use Rattle.state.specs.declared.Sizes.{Sizes}
use Rattle.state.specs.View.{kinds_of, called_of}
use Rattle.state.specs.Changes.{marks_from}
use Rattle.machine.specs.opnds.Reads.{OperandInside, kind_in}
use Rattle.kinds.specs.declared.words.Words.{Words}
use Rattle.flows.specs.declared.Classes.{Classes}
use Rattle.kinds.specs.InWords.{AsSet, as_set}
use Rattle.flows.specs.Flows.{Argues, operand_of, FlowsSound, FlowsKnown, with_kind, set_from, join_sets, SetsFrom}
use Rattle.flows.proofs.Rows.{All, all_in, caller_below}
use Rattle.flows.proofs.Callers.{fits-inside, caller-within, join_step, join-none}

-- ---- an operand that was joined

or_again : (b c : 𝔹) → ((b || c) || c) ≡ (b || c)
or_again true c = refl
or_again false true = refl
or_again false false = refl

-- joined again, it changes nothing
abbrev pub Absorbed : List Kind → Classes → Words → Type 0
Absorbed ks x o = with_kind x (kind_in ks (opnd_of (operand_of o))) ≡ Some x

-- no classes yet
abbrev nothing : Classes
nothing = record { union = 0; met = false }

module _ (ks : List Kind) where
  absorbed_none : Absorbed ks nothing (record { tag = 0; bits = 0 })
  unfolding kind_from
  absorbed_none =
      let e : kind_in ks (opnd_of (operand_of (record { tag = 0; bits = 0 }))) ≡ Empty = ap (λ (o : Opnd). kind_in ks (opnd_of o)) (sym (opnd_const 0 (λ h. omega arith) refl)) in
      ap (with_kind nothing) e

  absorbed_next : (x : Classes) {y : Classes} (o : Words) → with_kind x (kind_in ks (opnd_of (operand_of o))) ≡ Some y → Absorbed ks y o
  absorbed_next x {y} o e = go (as_set k) e
    where
      k : Kind
      k = kind_in ks (opnd_of (operand_of o))

      go : (a : Option ℕ) → ◌≡◌ {A = Option Classes} (elim a [ Some t ↦ Some (record { union = bit_or x.union t; met = x.met || is_set k }) | None ↦ None ]) (Some y)
          → ◌≡◌ {A = Option Classes} (elim a [ Some t ↦ Some (record { union = bit_or y.union t; met = y.met || is_set k }) | None ↦ None ]) (Some y)
      go (Some t) h =
          let z : record { union = bit_or x.union t; met = x.met || is_set k } ≡ y = cc in
          subst (λ (v : Classes). Some (record { union = bit_or v.union t; met = v.met || is_set k }) ≡ Some v) z
          (ap₂ (λ (u : ℕ) (d : 𝔹). Some (record { union = u; met = d })) (or_assoc x.union t t ∙ ap (bit_or x.union) (or_self t)) (or_again x.met (is_set k)))
      go None h = cc

-- ---- sums over a list of callers

module _ (m : List ℕ) (c : Counts) (z : Sizes) (w : List ℕ) (f n : ℕ) where
  -- the union of the classes x with the arguments of the callers in l
  pub record SetsOver (x : Classes) (l : List ℕ) (r : AsSet) : Type 0 where
    pub passed : (L : Limits) (u : List ℕ) → FlowsSound (program_view u m c) z.insns (called_of z w) → r ≡ join_sets (kinds_of z w) x.met x.union (map (argument L (program_view u m c) n) l)

  -- what is left are the callers in l, and o came last
  pub record Left (x : Classes) (o : Words) (l : List ℕ) : Type 0 where
    pub sums : (r : AsSet) → SetsOver x l r → SetsFrom m c z w f n 0 false 0 r
    pub callers : All (λ i. marked (called_of z w) f i ≡ true) l
    pub last : Absorbed (kinds_of z w) x o

module _ {m : List ℕ} {c : Counts} {z : Sizes} {w : List ℕ} {f n : ℕ} where
  pub sum_start : {l : List ℕ} → l ≡ marks_from (called_of z w) f 0 → Left m c z w f n nothing (record { tag = 0; bits = 0 }) l
  unfolding marks_from
  sum_start e =
      rw e
      (record {
        sums = λ r h. record { passed = h.passed };
        callers = all_in (get_or (called_of z w) f []) (length (get_or (called_of z w) f [])) 0 (omega arith);
        last = absorbed_none (kinds_of z w);
      })

  module _ {q : Classes} {o : Words} {l : List ℕ} (g : Left m c z w f n q o l) where
    pub sum_done : {r : ℕ} → l ≡ [] → r ≡ set_from q → SetsFrom m c z w f n 0 false 0 (Some r)
    sum_done {r} is e = g.sums (Some r) (record { passed = λ L u _. rw is (ap Some e ∙ sym (join-none (kinds_of z w) q.met q.union)) })

    module _ {i : ℕ} {k : List ℕ} (steps : l ≡ i ∷ k) where
      here : Left m c z w f n q o (i ∷ k)
      here = rw steps at g

      pub sum_below : FlowsKnown m c z (called_of z w) → f < z.functions → i < c.insns
      sum_below p lt = caller-within p (caller_below z w f i lt here.callers.0)

      pub sum_argues : FlowsKnown m c z (called_of z w) → {a b : Opnd} → Argues m c i n a → b ≡ a → OperandInside z b
      sum_argues p {a} d e = rw e (fits-inside z a (rw (d.is P.limits p.script (p.sound.calls f i here.callers.0)) (p.sound.listed i n)))

      module _ (x : Words) {a : Opnd} (d : Argues m c i n a) (ex : operand_of x ≡ a) where
        argued : (L : Limits) (u : List ℕ) → FlowsSound (program_view u m c) z.insns (called_of z w) → opnd_of (operand_of x) ≡ argument L (program_view u m c) n i
        argued L u so = ap opnd_of ex ∙ d.is L u (so.calls f i here.callers.0)

        abbrev args : Limits → List ℕ → List ℕ → List P.Opnd
        args L u j = map (argument L (program_view u m c) n) j

        step : (L : Limits) (u : List ℕ) → FlowsSound (program_view u m c) z.insns (called_of z w)
            → join_sets (kinds_of z w) q.met q.union (args L u (i ∷ k)) ≡ join_sets (kinds_of z w) q.met q.union (opnd_of (operand_of x) ∷ args L u k)
        step L u so = ap (λ (y : P.Opnd). join_sets (kinds_of z w) q.met q.union (y ∷ args L u k)) (sym (argued L u so))

        -- it is the operand that came last
        pub sum_same : x ≡ o → Left m c z w f n q o k
        sum_same e = record {
          sums = λ r y.
              here.sums r (record {
                passed = λ L u so.
                    y.passed L u so
                    ∙ sym (step L u so ∙ ap (λ (t : Words). join_sets (kinds_of z w) q.met q.union (opnd_of (operand_of t) ∷ args L u k)) e
                    ∙ join_step (kinds_of z w) q (opnd_of (operand_of o)) (args L u k) here.last);
              });
          callers = here.callers.1;
          last = here.last;
        }

        module _ {j : Kind} {y : Option Classes} (ej : j ≡ kind_in (kinds_of z w) (opnd_of (operand_of x))) (ey : y ≡ with_kind q j) where
          joined : {r : Option Classes} → y ≡ r → with_kind q (kind_in (kinds_of z w) (opnd_of (operand_of x))) ≡ r
          joined e = sym (ey ∙ ap (with_kind q) ej) ∙ e

          pub sum_more : (t : Classes) → y ≡ Some t → Left m c z w f n t x k
          sum_more t e = record {
            sums = λ r p.
                here.sums r (record { passed = λ L u so. p.passed L u so ∙ sym (step L u so ∙ join_step (kinds_of z w) q (opnd_of (operand_of x)) (args L u k) (joined e)) });
            callers = here.callers.1;
            last = absorbed_next (kinds_of z w) q x (joined e);
          }

          pub sum_other : y ≡ None → SetsFrom m c z w f n 0 false 0 None
          sum_other e = here.sums None (record { passed = λ L u so. sym (step L u so ∙ join_step (kinds_of z w) q (opnd_of (operand_of x)) (args L u k) (joined e)) })
