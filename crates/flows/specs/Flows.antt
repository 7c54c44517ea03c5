-- What the passes promise over the operands of callers. Assumes nothing.
use Rattle.std.specs.Prelude.{Bool as 𝔹, true, cond, ◌||◌, ◌≡◌, List, [], ◌∷◌, map, ℕ, ◌+◌, ◌<◌, length, get_or, Option, Some, None, Ok, ◌⊎◌}
use Rattle.std.specs.Int.Bits.{bit_or}
use Rattle.kinds.specs.declared.Kind.{Kind}
use Rattle.kinds.specs.declared.Kind.TheVariants.{Empty, Objects}
use Rattle.kinds.specs.Kinds.{is_set}
use Rattle.kinds.specs.Union.{Joined}
use Rattle.rules.specs.Lists.{has}
use Rattle.rules.specs.Program as P
use Rattle.rules.specs.Program.{Limits, Program, Param, about, op_of, function_of}
use Rattle.rules.specs.Machine.{marked, argument as argumentOf}
use Rattle.program.specs.declared.Opnd.{Opnd}
use Rattle.program.specs.declared.Opnd.TheVariants.{Const}
use Rattle.program.specs.declared.Counts.{Counts}
use Rattle.program.specs.declared.Program.{Program as Tables}
use Rattle.program.specs.Rows.{opnd_of, opnd_from, opnd_at}
use Rattle.program.specs.View.{program_view, ProgramReady}
use Rattle.state.specs.declared.Sizes.{Sizes}
use Rattle.state.specs.View.{Attrs, kinds_of, called_of}
use Rattle.state.specs.Changes.{marks_from}
use Rattle.flows.specs.declared.Tally.{Tally as Told}
use Rattle.flows.specs.declared.Tally.TheVariants.{Nothing as NothingYet, One as Single, Many as Several}
use Rattle.flows.specs.declared.Pass.{Pass}
use Rattle.kinds.specs.declared.words.Words.{Words}
use Rattle.kinds.specs.InWords.{AsSet, as_set}
use Rattle.flows.specs.declared.Classes.{Classes}
use Rattle.machine.specs.opnds.Reads.{kind_in}
use Rattle.flows.specs.Tally.{Tally, Nothing, One, Many, add, least, taken_all, finish, FitsAt}

abbrev pub tally_of : Told → Tally
tally_of NothingYet = Nothing
tally_of (Single o k) = One (opnd_of o) k
tally_of (Several j) = Many j

-- r is t with one operand more, whose kind is k
pub record TallyAdds (t : Told) (k : Kind) (o : Opnd) (r : Told) : Type 0 where
  pub is : (ks : List Kind) → k ≡ kind_in ks (opnd_of o) → tally_of r ≡ add ks (tally_of t) (opnd_of o)

-- a pass over a list of operands leads from x to y
pub record Passed (ks : List Kind) (l : List P.Opnd) (x y : Pass) : Type 0 where
  pub same : y.bound ≡ x.bound
  pub lowest : y.least ≡ least ks x.least l
  pub told : tally_of y.tally ≡ taken_all ks x.bound (tally_of x.tally) l

-- a pass at its start
abbrev pub pass_before : ℕ → Pass
pass_before a = record { bound = a; least = a; tally = NothingYet }

-- r is what a walk comes to that takes all, or that goes again and takes what stands before the least Any that it met
pub record ByPasses (n : ℕ) (walks : Pass → Pass → Type 0) (r : Joined) : Type 0 where
  pub once : Pass
  pub twice : Pass
  pub first : walks (pass_before n) once
  pub again : walks (pass_before once.least) twice
  pub is : r ≡ finish [] n once.least (tally_of twice.tally)

-- r is the set s, if there is one that isn't empty, else what a walk comes to
abbrev pub Joins : Option ℕ → ℕ → (Pass → Pass → Type 0) → Joined → Type 0
Joins s n walks r = ((t : ℕ) × (s ≡ Some t) × (0 < t) × (r ≡ Ok (Objects t))) ⊎ ByPasses n walks r

-- r is the argument that i has for place n, if i is a call
pub record Argues (m : List ℕ) (c : Counts) (i n : ℕ) (r : Opnd) : Type 0 where
  pub is : (L : Limits) (s : List ℕ) → has (about (op_of (program_view s m c) i)).callee ≡ true → opnd_of r ≡ argumentOf L (program_view s m c) n i

-- the operand that stands at a word, Empty for none
abbrev pub standing : List ℕ → Option ℕ → Opnd
standing m (Some at) = opnd_at m at
standing m None = Const Empty

-- both words of that operand are among the words m
abbrev pub PlaceInside : List ℕ → Option ℕ → Type 0
PlaceInside m (Some at) = at + 1 < length m
PlaceInside m None = Unit {0}

-- the argument that i has for place n stands at word r, if i is a call
pub record ArguesAt (m : List ℕ) (c : Counts) (i n : ℕ) (r : Option ℕ) : Type 0 where
  pub is : Argues m c i n (standing m r)
  pub inside : PlaceInside m r

-- the kind that two words stand for, and the operand
abbrev pub operand_of : Words → Opnd
operand_of x = opnd_from x.tag x.bits

-- the callers are calls, and no argument is Any or a result beyond the program's
pub record FlowsSound (p : Program) (n : ℕ) (t : List (List 𝔹)) : Type 0 where
  pub calls : (f i : ℕ) → marked t f i ≡ true → has (about (op_of p i)).callee ≡ true
  pub listed : (i k : ℕ) → FitsAt n (get_or (about (op_of p i)).listed k (P.Const Empty))

pub record FlowsKnown (m : List ℕ) (c : Counts) (z : Sizes) (t : List (List 𝔹)) : Type 0 where
  pub script : List ℕ
  pub ready : ProgramReady m c
  pub sizes : z.insns ≡ c.insns
  pub sound : FlowsSound (program_view script m c) z.insns t

-- the same, of tables and a state
abbrev pub FlowsOf : Tables → Sizes → List ℕ → Type 0
FlowsOf p z w = FlowsKnown p.words.now p.counts z (called_of z w)

-- the arguments for place n of the callers of f that are not below k
pub record PassedIn (m : List ℕ) (c : Counts) (z : Sizes) (w : List ℕ) (f n k : ℕ) (x y : Pass) : Type 0 where
  pub passed : (L : Limits) (s : List ℕ) → FlowsSound (program_view s m c) z.insns (called_of z w)
      → Passed (kinds_of z w) (map (argumentOf L (program_view s m c) n) (marks_from (called_of z w) f k)) x y

-- the classes x with those of one kind more, unless it is a name or Any
abbrev pub with_kind : Classes → Kind → Option Classes
with_kind x k = elim (as_set k) [ Some t ↦ Some (record { union = bit_or x.union t; met = x.met || is_set k }) | None ↦ None ]

-- their set: 0 where none of the kinds was a set
abbrev pub set_from : Classes → ℕ
set_from x = cond x.met x.union 0

-- the union of s with the classes of operands, if none is a name or Any: 0 unless one is a set, of them or before (b)
unfoldable pub join_sets : List Kind → 𝔹 → ℕ → List P.Opnd → AsSet
join_sets ks b s [] = Some (cond b s 0)
join_sets ks b s (o ∷ l) = elim (as_set (kind_in ks o)) [ Some t ↦ join_sets ks (b || is_set (kind_in ks o)) (bit_or s t) l | None ↦ None ]

-- of the arguments for place n of the callers of f that are not below k
pub record SetsFrom (m : List ℕ) (c : Counts) (z : Sizes) (w : List ℕ) (f n k : ℕ) (b : 𝔹) (s : ℕ) (r : AsSet) : Type 0 where
  pub passed : (L : Limits) (u : List ℕ) → FlowsSound (program_view u m c) z.insns (called_of z w)
      → r ≡ join_sets (kinds_of z w) b s (map (argumentOf L (program_view u m c) n) (marks_from (called_of z w) f k))

-- instruction i is the Param with place n of function f
pub record ParamIs (m : List ℕ) (c : Counts) (z : Sizes) (t : List (List 𝔹)) (i f n : ℕ) (p : Program) (v : Attrs) : Type 0 where
  pub script : List ℕ
  pub program : p ≡ program_view script m c
  pub sound : FlowsSound (program_view script m c) z.insns t
  pub function : function_of (program_view script m c) i ≡ f
  pub op : op_of (program_view script m c) i ≡ Param n
