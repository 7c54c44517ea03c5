-- The first kinds of a class's attributes in a table. Assumes nothing.
use Rattle.std.specs.Prelude.{Bool as 𝔹, true, false, ◌≡◌, Result, Ok, Err, ⊤, List, ℕ, ◌+◌, ◌*◌, ◌≤◌, ◌<◌, length, get_or}
use Rattle.kinds.specs.Kinds.{kinds_at}
use Rattle.kinds.specs.declared.Kind.{Kind}
use Rattle.kinds.specs.declared.Kind.TheVariants.{Empty, Nil}
use Rattle.refusals.specs.Refusals.{number_of}
use Rattle.refusals.specs.declared.Refusal.{Refusal}
use Rattle.rules.specs.Actions.{Answer, answered, refused}
use Rattle.rules.specs.Program.{Limits}
use Rattle.rules.specs.Constructors.{first_kinds}
use Rattle.rules.specs.Machine.{first_kinds_from}
use Rattle.memory.specs.tables.Tables.{listed}
use Rattle.program.specs.Tab.{tab}
use Rattle.program.specs.Rows.{fun_at, ivars_of}
use Rattle.program.specs.View.{program_view}
use Rattle.program.specs.declared.Counts.{Counts}
use Rattle.memory.specs.Layout.{classes_most, ivars_most}
use Rattle.constructors.specs.Flows.{holds}

-- nothing for an attribute that is surely set, else Nil
abbrev pub start_of : 𝔹 → Kind
start_of true = Empty
start_of false = Nil

-- only the n words from a on and the n words from b on may have changed
pub record FirstsOnly (a b n : ℕ) (u u' : List ℕ) : Type 0 where
  pub len_same : length u' ≡ length u
  pub others : (i : ℕ) → (a ≤ i → i < a + n → ⊥) → (b ≤ i → i < b + n → ⊥) → get_or u' i 0 ≡ get_or u i 0

pub record PutsKinds (tags payloads n bits : ℕ) (u u' : List ℕ) : Type 0 where
  pub only : FirstsOnly tags payloads n u u'
  pub here : kinds_at u' tags payloads n ≡ tab (λ a. start_of (holds a bits)) n

-- functions begin at blocks
pub record Entries (m : List ℕ) (c : Counts) : Type 0 where
  pub inside : (f : ℕ) → f < c.functions → (fun_at m f).entry.0 < c.blocks

-- an answer, or a refusal by its number
abbrev pub outcome : {A : Type 0} → Result ⊤ Refusal → A → Answer A
outcome (Ok u) l = answered l
outcome (Err e) l = refused (number_of e)

pub record FirstIs (s m : List ℕ) (c : Counts) (k tags payloads : ℕ) (u u' : List ℕ) (r : Result ⊤ Refusal) : Type 0 where
  pub is : outcome r (kinds_at u' (tags + ivars_most * k) (payloads + ivars_most * k) (ivars_of m k)) ≡ first_kinds (program_view s m c) k
  pub only : FirstsOnly (tags + ivars_most * k) (payloads + ivars_most * k) 64 u u'

-- the kinds in the tables of all classes
abbrev pub all_kinds_at : List ℕ → Counts → ℕ → ℕ → List ℕ → List (List Kind)
all_kinds_at m c tags payloads u = listed c.classes (λ k. kinds_at u (tags + ivars_most * k) (payloads + ivars_most * k) (ivars_of m k))

pub record FirstsAre (s m : List ℕ) (c : Counts) (tags payloads : ℕ) (u u' : List ℕ) (r : Result ⊤ Refusal) : Type 0 where
  pub is : (L : Limits) → outcome r (all_kinds_at m c tags payloads u') ≡ first_kinds_from L (program_view s m c) 0 c.classes
  pub only : FirstsOnly tags payloads (classes_most * ivars_most) u u'
