-- StateCleared tables with the attributes' first kinds hold the rules' blank state. Assumes nothing.
use mathlib.Core.Path.{◌≡◌, refl, sym, ap, ap₂, ◌∙◌}
use mathlib.Core.List.{List, [], ◌∷◌, ◌++◌}
use Prim.Native.Nat.{ℕ, zero, suc, ◌+◌, ◌*◌, ◌<◌}
use native.Mathlib.Omega.{arith}
use lib.ListN.{length, get_or}
use Rattle.kinds.specs.Kinds.{kind_from, kind_at, kinds_at}
use Rattle.kinds.specs.declared.Kind.{Kind}
use Rattle.rules.specs.Program as R
use Rattle.rules.specs.Program.{Limits, class}
use Rattle.rules.specs.Machine.{blank}
use Rattle.memory.specs.tables.Tables.{listed}
use Rattle.memory.proofs.tables.Listed.{listed_same}
use Rattle.program.specs.Rows.{class_at, ivars_of}
use Rattle.program.specs.View as P
use Rattle.program.specs.View.{classes_of}
use Rattle.program.specs.declared.Counts.{Counts}
use Rattle.program.proofs.Tables.{tab-at, tab-length}
use Rattle.program.proofs.Viewing.{functions-length, classes-length, blocks-length, instructions-length}
use Rattle.state.specs.declared.Sizes.{Sizes}
use Rattle.state.specs.View as Mem
use Rattle.state.specs.View.{Attrs, state_view, StateHeld, StateCleared, no_entries, SizesOf}
use Rattle.state.proofs.Blank.{blank_view}
use Rattle.constructors.specs.firsts.Firsts.{FirstsOnly, all_kinds_at}
use Rattle.machine.specs.Analysed.{MachineSized, MachineFits}
use Rattle.memory.specs.Layout.{classes_most, ivars_most}
use Rattle.state.specs.Layout.{live_blocks_at, ivar_kinds_at, ivar_bits_at, called_at, reads_at, state_size}

-- ---- lists of kinds

listed-last : {A : Type 0} (n : ℕ) (f : ℕ → A) → listed (suc n) f ≡ listed n f ++ f n ∷ []
unfolding listed
listed-last zero f = refl
listed-last (suc n) f = ap (λ (l : List _). f 0 ∷ l) (listed-last n (λ i. f (suc i)))

kinds-listed : (u : List ℕ) (t p n : ℕ) → kinds_at u t p n ≡ listed n (λ a. kind_at u (t + a) (p + a))
unfolding kinds_at listed
kinds-listed u t p zero = refl
kinds-listed u t p (suc n) = ap (λ (l : List Kind). l ++ kind_at u (t + n) (p + n) ∷ []) (kinds-listed u t p n) ∙ sym (listed-last n (λ a. kind_at u (t + a) (p + a)))

-- ---- sizes

module _ (s p : List ℕ) (c : Counts) (z : Sizes) (e : MachineSized c z) where
  pub sizes_of_lem : SizesOf (P.program_view s p c) z
  sizes_of_lem = record {
    functions = e.functions ∙ sym (functions-length s p c.functions);
    classes = e.classes ∙ sym (classes-length s p c.classes);
    blocks = e.blocks ∙ sym (blocks-length p c.blocks);
    insns = e.insns ∙ sym (instructions-length s p c.insns);
  }

  attrs-at : (v : Attrs) → MachineFits s p c (P.program_view s p c) v → (k : ℕ) → k < c.classes → v.count k ≡ ivars_of p k
  unfolding classes_of class_at
  attrs-at v f k h = f.attrs k ∙ ap (λ (x : R.Class). length x.ivars) (tab-at (class_at s p) c.classes k R.built_in h) ∙ tab-length _ (ivars_of p k)

  pub held_at : (m : List ℕ) → P.ProgramReady p c → length m ≡ state_size → StateHeld z m
  held_at m r l = record {
    len = l;
    functions = omega (arith, e.functions, r.functions);
    classes = omega (arith, e.classes, r.classes);
    blocks = omega (arith, e.blocks, r.blocks);
    insns = omega (arith, e.insns, r.insns);
  }

  -- ---- the state_view

  module _ (r : P.ProgramReady p c) (m w : List ℕ) (g : StateCleared z m) (o : FirstsOnly ivar_kinds_at ivar_bits_at (classes_most * ivars_most) m w) where
    cleared_still : StateCleared z w
    cleared_still = record {
      held = held_at w r (o.len_same ∙ g.held.len);
      kinds = λ i h. let few = g.held.insns in o.others i (λ a b. omega arith) (λ a b. omega arith) ∙ g.kinds i h;
      live = λ b h. let few = g.held.blocks in o.others (live_blocks_at + b) (λ a k. omega arith) (λ a k. omega arith) ∙ g.live b h;
      called = λ j h. o.others (called_at + j) (λ a b. omega arith) (λ a b. omega arith) ∙ g.called j h;
      reads = λ j h. o.others (reads_at + j) (λ a b. omega arith) (λ a b. omega arith) ∙ g.reads j h;
    }

    row_is : (v : Attrs) → MachineFits s p c (P.program_view s p c) v → (k : ℕ) → k < c.classes
        → listed (v.count k) (λ a. kind_from (get_or w (ivar_kinds_at + (k * ivars_most + a)) 0) (get_or w (ivar_bits_at + (k * ivars_most + a)) 0))
        ≡ kinds_at w (ivar_kinds_at + ivars_most * k) (ivar_bits_at + ivars_most * k) (ivars_of p k)
    row_is v f k h =
        ap (λ (n : ℕ). listed n (λ a. kind_from (get_or w (ivar_kinds_at + (k * ivars_most + a)) 0) (get_or w (ivar_bits_at + (k * ivars_most + a)) 0))) (attrs-at v f k h)
        ∙ listed_same (ivars_of p k) (λ a. kind_at w (ivar_kinds_at + ivars_most * k + a) (ivar_bits_at + ivars_most * k + a))
        (λ a. kind_from (get_or w (ivar_kinds_at + (k * ivars_most + a)) 0) (get_or w (ivar_bits_at + (k * ivars_most + a)) 0))
        (λ a l. let x : ivar_kinds_at + (k * ivars_most + a) ≡ ivar_kinds_at + ivars_most * k + a = omega arith in
        let y : ivar_bits_at + (k * ivars_most + a) ≡ ivar_bits_at + ivars_most * k + a = omega arith in
        ap₂ (λ (i j : ℕ). kind_from (get_or w i 0) (get_or w j 0)) x y)
        ∙ sym (kinds-listed w (ivar_kinds_at + ivars_most * k) (ivar_bits_at + ivars_most * k) (ivars_of p k))

    ivars_are : (v : Attrs) → MachineFits s p c (P.program_view s p c) v → Mem.ivars_of z v w ≡ all_kinds_at p c ivar_kinds_at ivar_bits_at w
    unfolding Mem.ivars_of
    ivars_are v f =
        ap (λ (n : ℕ). listed n (λ k. listed (v.count k) (λ a. kind_from (get_or w (ivar_kinds_at + (k * ivars_most + a)) 0) (get_or w (ivar_bits_at + (k * ivars_most + a)) 0)))) e.classes
        ∙ listed_same c.classes (λ k. kinds_at w (ivar_kinds_at + ivars_most * k) (ivar_bits_at + ivars_most * k) (ivars_of p k))
        (λ k. listed (v.count k) (λ a. kind_from (get_or w (ivar_kinds_at + (k * ivars_most + a)) 0) (get_or w (ivar_bits_at + (k * ivars_most + a)) 0)))
        (λ k h. row_is v f k h)

    pub filled_view : (L : Limits) (v : Attrs) → MachineFits s p c (P.program_view s p c) v
        → state_view z v w no_entries ≡ blank L (P.program_view s p c) (all_kinds_at p c ivar_kinds_at ivar_bits_at w)
    filled_view L v f = blank_view z w cleared_still L (P.program_view s p c) v sizes_of_lem ∙ ap (blank L (P.program_view s p c)) (ivars_are v f)
