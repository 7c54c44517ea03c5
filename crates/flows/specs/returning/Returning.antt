-- What the passes over returned operands promise, and what they rely on. Assumes nothing.
use Rattle.std.specs.Prelude.{Bool as 𝔹, true, false, ◌≡◌, List, [], ◌∷◌, ◌++◌, map, ℕ, ◌+◌, ◌≤◌, ◌<◌, length, get_or, drop, Option, Some, None}
use Rattle.std.proofs.Math.Option.{some}
use Rattle.kinds.specs.declared.Kind.{Kind}
use Rattle.kinds.specs.declared.Kind.TheVariants.{Nil}
use Rattle.rules.specs.Actions.{◌>>=◌, the}
use Rattle.rules.specs.Lists.{places_from, concat}
use Rattle.rules.specs.Program as P
use Rattle.rules.specs.Program.{Limits, Program, op_of, returned, returns}
use Rattle.rules.specs.Machine.{Acts, marked, join_all, flows_back}
use Rattle.program.specs.declared.Opnd.{Opnd}
use Rattle.program.specs.declared.Opnd.TheVariants.{Const}
use Rattle.program.specs.declared.Counts.{Counts}
use Rattle.program.specs.Rows.{opnd_of, opnd_at}
use Rattle.program.specs.View.{program_view, ProgramReady}
use Rattle.state.specs.declared.Sizes.{Sizes}
use Rattle.state.specs.View.{Attrs, kinds_of, called_of}
use Rattle.chains.specs.Chains.{Index}
use Rattle.chains.specs.declared.view.Indexed.{Indexed}
use Rattle.flows.specs.declared.Pass.{Pass}
use Rattle.flows.specs.declared.Classes.{Classes}
use Rattle.flows.specs.Tally.{FitsAt}
use Rattle.flows.specs.Flows.{Passed, join_sets}

-- the end of a call's rule: the kind of what has flowed back to it
unfoldable pub call_kind : Limits → Program → ℕ → Acts Kind
call_kind L p i = do
  vs ← the (λ s. flows_back L p s i)
  join_all vs

-- r is the operand of instruction j, if that is a Return
pub record Returns (m : List ℕ) (c : Counts) (j : ℕ) (r : Opnd) : Type 0 where
  pub is : (s : List ℕ) (o : P.Opnd) → returned (op_of (program_view s m c) j) ≡ some o → opnd_of r ≡ o

-- that operand stands at a word, and is nil without one
abbrev pub ReturnsAt : List ℕ → Counts → ℕ → Option ℕ → Type 0
ReturnsAt m c j (Some at) = Returns m c j (opnd_at m at) × (at + 1 < length m)
ReturnsAt m c j None = Returns m c j (Const Nil)

-- these instructions are Returns, and these are their operands
unfoldable pub ReturnGives : Program → List ℕ → List P.Opnd → Type 0
ReturnGives p [] [] = Unit {0}
ReturnGives p [] (o ∷ os) = ⊥
ReturnGives p (j ∷ l) [] = ⊥
ReturnGives p (j ∷ l) (o ∷ os) = (returned (op_of p j) ≡ some o) × ReturnGives p l os

-- the returned operands of the functions from k on that i has called
unfoldable pub back_from : Program → List (List 𝔹) → ℕ → ℕ → List P.Opnd
back_from p t i k = concat (map (returns p) (places_from k (λ row. get_or row i false) (drop k t)))

-- no returned operand is Any or a result beyond the program's
pub record ReturnSound (p : Program) (n : ℕ) : Type 0 where
  pub fits : (j : ℕ) (o : P.Opnd) → returned (op_of p j) ≡ some o → FitsAt n o

-- the program in memory and its index
pub record Backs (m : List ℕ) (c : Counts) (z : Sizes) (x : List ℕ) : Type 0 where
  pub script : List ℕ
  pub ready : ProgramReady m c
  pub sizes : z.insns ≡ c.insns
  pub index : Index m c x
  pub sound : ReturnSound (program_view script m c) z.insns

-- the same, of a program with its chains and a state
abbrev pub BacksOf : Indexed → Sizes → Type 0
BacksOf c z = Backs c.program.words.now c.program.counts z c.chains.now

-- i has called none but the n functions from f on
pub record ReturnAmong (t : List (List 𝔹)) (i f n : ℕ) : Type 0 where
  pub only : (g : ℕ) → marked t g i ≡ true → (f ≤ g) × (g < f + n)

-- the program is the one in memory
pub record BackIn (m : List ℕ) (c : Counts) (z : Sizes) (t : List (List 𝔹)) (i f n : ℕ) (p : Program) (v : Attrs) : Type 0 where
  pub script : List ℕ
  pub program : p ≡ program_view script m c
  pub sound : ReturnSound (program_view script m c) z.insns
  pub among : ReturnAmong t i f n

-- a pass over the operands of the Returns of f; over those of all functions that i has called, if they are among n from f on
pub record PassedBack (m : List ℕ) (c : Counts) (z : Sizes) (w : List ℕ) (f : ℕ) (x y : Pass) : Type 0 where
  pub passed : (s : List ℕ) → Passed (kinds_of z w) (returns (program_view s m c) f) x y

pub record PassedAll (m : List ℕ) (c : Counts) (z : Sizes) (w : List ℕ) (i f n : ℕ) (x y : Pass) : Type 0 where
  pub passed : ReturnAmong (called_of z w) i f n → (s : List ℕ) → Passed (kinds_of z w) (back_from (program_view s m c) (called_of z w) i 0) x y

-- the classes x become r by operands l, whatever follows
abbrev pub ReturnJoins : List Kind → List P.Opnd → Classes → Option Classes → Type 0
ReturnJoins ks l x (Some y) = (k : List P.Opnd) → join_sets ks x.met x.union (l ++ k) ≡ join_sets ks y.met y.union k
ReturnJoins ks l x None = Unit {0}

-- by the operands of the Returns of f
pub record JoinsBack (m : List ℕ) (c : Counts) (z : Sizes) (w : List ℕ) (f : ℕ) (x : Classes) (r : Option Classes) : Type 0 where
  pub joins : (u : List ℕ) → ReturnJoins (kinds_of z w) (returns (program_view u m c) f) x r

-- r is the union of the classes of what has flowed back to i, if there are such and it has called none but the n functions from f on
pub record JoinedAll (m : List ℕ) (c : Counts) (z : Sizes) (w : List ℕ) (i f n : ℕ) (r : Option ℕ) : Type 0 where
  pub joined : (s : ℕ) → r ≡ Some s → ReturnAmong (called_of z w) i f n → (u : List ℕ) → join_sets (kinds_of z w) false 0 (back_from (program_view u m c) (called_of z w) i 0) ≡ Some s
