-- The reads of an attribute that met a class wait: the loop of wake_reads. Assumes nothing.
use mathlib.Core.Bool.{Bool as 𝔹, true, false}
use mathlib.Core.Path.{◌≡◌, refl, sym, ap, ◌∙◌}
use mathlib.Core.List.{List, ◌∷◌}
use Prim.Native.Nat.{ℕ, ◌+◌}
use native.Mathlib.Numerals.{add-one}
use Rattle.ids.specs.declared.InsnId.{InsnId}
use Rattle.rules.specs.Actions.{if_answered, each}
use Rattle.rules.specs.Lists.{keep, is_just_name}
use Rattle.rules.specs.Program as P
use Rattle.rules.specs.Program.{Limits, limits, Program, no_program, about, op_of}
use Rattle.rules.specs.Machine.{State, Acts, push_insn}
use Rattle.program.specs.declared.Counts.{Counts}
use Rattle.program.specs.declared.Name.{Name}
use Rattle.program.specs.Rows.{name_in}
use Rattle.program.specs.View as Prog
use Rattle.state.specs.declared.State as S
use Rattle.state.specs.View.{Attrs, reads_of}
use Rattle.state.specs.Changes.{marks_from, Following, Every}
use Rattle.state.specs.Methods.{view, Did}
use Rattle.state.proofs.Pushes.{push_keeps, no_attrs}
use Rattle.state.proofs.Methods.{Along, along_step, lent_same, came}
use Rattle.std.specs.Prelude.{Option, Some, Result, Ok}
use Rattle.refusals.specs.declared.Refusal.{Refusal}
use Rattle.memory.specs.Layout.{worklist_most}
use Rattle.attributes.specs.Attributes.{ProgramIs, wake_reads}

-- ---- whether an instruction reads attribute n

abbrev gets_name : Program → P.Name → ℕ → 𝔹
gets_name p n i = is_just_name (about (op_of p i)).gets n

-- ---- the first of a list, where the elements are tested

kept_first : (L : Limits) (p : Program) (t : ℕ → 𝔹) (i : ℕ) (l : List ℕ) (s : State) → t i ≡ true
    → each (keep t (i ∷ l)) (push_insn L p) s ≡ if_answered (push_insn L p i s) (λ r. each (keep t l) (push_insn L p) r.1)
kept_first L p t i l s e = rw e refl

left_first : (L : Limits) (p : Program) (t : ℕ → 𝔹) (i : ℕ) (l : List ℕ) (s : State) → t i ≡ false → each (keep t (i ∷ l)) (push_insn L p) s ≡ each (keep t l) (push_insn L p) s
left_first L p t i l s e = rw e refl

-- ---- at the loop's head: what is left from here comes to what the whole comes to

abbrev from_read : (s : List ℕ) (n : Name) (t : List (List 𝔹)) (c from : ℕ) → Limits → Program → Acts (Unit {0})
from_read s n t c from L p = each (keep (gets_name p (name_in s n)) (marks_from t c from)) (push_insn L p)

pub record Waking (s pm : List ℕ) (pc : Counts) (n : Name) (c : ℕ) (s₀ st : S.State) (from : ℕ) : Type 0 where
  pub reads : reads_of st.sizes st.words.now ≡ reads_of s₀.sizes s₀.words.now
  pub along : Along (ProgramIs s pm pc) (from_read s n (reads_of s₀.sizes s₀.words.now) c from) (λ L p. wake_reads L p c (name_in s n)) s₀ st

reads_all : (c : ℕ) (st : S.State) (L : Limits) (p : Program) (v : Attrs) (n : P.Name)
    → each (keep (gets_name p n) (marks_from (reads_of st.sizes st.words.now) c 0)) (push_insn L p) (view v st) ≡ wake_reads L p c n (view v st)
unfolding wake_reads marks_from
reads_all c st L p v n = refl

pub waking_start : (s pm : List ℕ) (pc : Counts) (n : Name) (c : ℕ) (st : S.State) → Waking s pm pc n c st st 0
waking_start s pm pc n c st = record { reads = refl; along = record { lent = lent_same st; count = refl; same = λ L room p v h. reads_all c st L p v (name_in s n) } }

module _ {s pm : List ℕ} {pc : Counts} {n : Name} {c : ℕ} {s₀ st : S.State} {from : ℕ} (g : Waking s pm pc n c s₀ st from)
    {r : Option InsnId} (u : Following (reads_of st.sizes st.words.now) c st.sizes.insns from r) where
  left : {t : Option InsnId} → r ≡ t → Following (reads_of s₀.sizes s₀.words.now) c s₀.sizes.insns from t
  left e = rw (g.reads, g.along.lent.sizes) at (rw e at u)

  module _ {i : InsnId} (e : r ≡ Some i) where
    module _ {b : 𝔹} (t : b ≡ gets_name (Prog.program_view s pm pc) (name_in s n) i.0) where
      here : (L : Limits) (p : Program) (v : Attrs) → from_read s n (reads_of s₀.sizes s₀.words.now) c from L p (view v st)
          ≡ each (keep (gets_name p (name_in s n)) (i.0 ∷ marks_from (reads_of s₀.sizes s₀.words.now) c (i.0 + 1))) (push_insn L p) (view v st)
      here L p v =
          ap (λ (y : List ℕ). each (keep (gets_name p (name_in s n)) y) (push_insn L p) (view v st)) (left e).is
          ∙ sym (ap (λ (y : ℕ). each (keep (gets_name p (name_in s n)) (i.0 ∷ marks_from (reads_of s₀.sizes s₀.words.now) c y)) (push_insn L p) (view v st)) (add-one i.0))

      told : {a : 𝔹} → b ≡ a → (p : Program) (v : Attrs) → ProgramIs s pm pc p v → gets_name p (name_in s n) i.0 ≡ a
      told y p v h = ap (λ (j : Program). gets_name j (name_in s n) i.0) h.program ∙ sym t ∙ y

      module _ (yes : b ≡ true) {w : S.State} {a : Result (Unit {0}) Refusal} (d : Did Every (λ L p. push_insn L p i.0) st w a) where
        turn : (L : Limits) → L.worklist ≡ worklist_most → (p : Program) (v : Attrs) → ProgramIs s pm pc p v
            → from_read s n (reads_of s₀.sizes s₀.words.now) c from L p (view v st)
            ≡ if_answered (push_insn L p i.0 (view v st)) (λ y. from_read s n (reads_of s₀.sizes s₀.words.now) c (i.0 + 1) L p y.1)
        turn L f p v h =
            here L p v ∙ kept_first L p (gets_name p (name_in s n)) i.0 (marks_from (reads_of s₀.sizes s₀.words.now) c (i.0 + 1)) (view v st) (told yes p v h)

        pub waking_more : {y : Unit {0}} → a ≡ Ok y → Waking s pm pc n c s₀ w (i.0 + 1)
        waking_more y = record {
          reads = push_keeps (λ (x : State). x.ivar_reads) (λ l x. refl) limits refl no_program i.0 (view no_attrs st) (view no_attrs w) (came d y limits refl no_program no_attrs tt) ∙ g.reads;
          along = along_step g.along d y (λ p v h. tt) turn;
        }

      pub waking_skip : b ≡ false → Waking s pm pc n c s₀ st (i.0 + 1)
      waking_skip u = record {
        reads = g.reads;
        along = record {
          lent = g.along.lent;
          count = g.along.count;
          same = λ L room p v h.
              sym (here L p v ∙ left_first L p (gets_name p (name_in s n)) i.0 (marks_from (reads_of s₀.sizes s₀.words.now) c (i.0 + 1)) (view v st) (told u p v h))
              ∙ g.along.same L room p v h;
        };
      }
