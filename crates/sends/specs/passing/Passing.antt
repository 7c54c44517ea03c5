-- What passing arguments relies on. Assumes nothing.
use Rattle.std.specs.Prelude.{Bool as 𝔹, true, false, Option, Some, None, ◌≡◌, List, ℕ, ◌≤◌, ◌<◌, length, get_or, Ok}
use Rattle.kinds.specs.declared.Kind.{Kind}
use Rattle.kinds.specs.declared.Kind.TheVariants.{Empty}
use Rattle.kinds.specs.Kinds.{same_kind}
use Rattle.kinds.specs.Union.{union_of}
use Rattle.rules.specs.Actions.{◌>>=◌, the}
use Rattle.rules.specs.Lists.{has}
use Rattle.rules.specs.Program as P
use Rattle.rules.specs.Program.{Limits, Program, about, op_of, parameters}
use Rattle.rules.specs.Machine.{Acts, kind_of, wake_if_wider, place_of, argument}
use Rattle.program.specs.declared.Counts.{Counts}
use Rattle.program.specs.declared.reader.Program.{Program as Tables}
use Rattle.program.specs.View.{program_view, ProgramReady}
use Rattle.state.specs.declared.Sizes.{Sizes}
use Rattle.state.specs.declared.Regs.{Regs}
use Rattle.state.specs.Acted.{On}
use Rattle.state.specs.View.{Attrs, kinds_of}
use Rattle.state.specs.View.{StateReady}
use Rattle.state.specs.Changes.{StateDid}
use Rattle.machine.specs.opnds.Reads.{kind_in}
use Rattle.chains.specs.Chains.{ChainIs}
use Rattle.flows.specs.Tally.{FitsAt}
use Rattle.memory.specs.Layout.{instructions_most, blocks_room}
use Rattle.chains.specs.Layout.{chains_size}

-- what pass_arguments does for one Param
unfoldable pub pass_to : Limits → Program → ℕ → ℕ → Acts (Unit {0})
pass_to L p i x = do
  k ← the (λ s. kind_of s (argument L p (place_of L p x) i))
  wake_if_wider L p k x

-- there is a chain of Params for entry block e, in a program of n instructions
pub record HasParams (n : ℕ) (x : List ℕ) (e : ℕ) : Type 0 where
  pub long : chains_size ≤ length x
  pub below : e < blocks_room
  pub few : n ≤ instructions_most
  pub list : List ℕ
  pub held : ChainIs x n 1 e list

-- instruction i is a call, and none of its arguments is Any or a result beyond the program's
pub record Caller (m : List ℕ) (c : Counts) (z : Sizes) (i : ℕ) : Type 0 where
  pub script : List ℕ
  pub ready : ProgramReady m c
  pub sizes : z.insns ≡ c.insns
  pub below : i < c.insns
  pub call : has (about (op_of (program_view script m c) i)).callee ≡ true
  pub listed : (k : ℕ) → FitsAt z.insns (get_or (about (op_of (program_view script m c) i)).listed k (P.Const Empty))

-- n is the place of Param j
pub record ParamPlaced (m : List ℕ) (c : Counts) (j n : ℕ) : Type 0 where
  pub is : (L : Limits) (s : List ℕ) → place_of L (program_view s m c) j ≡ n

-- k is the kind of the argument that i has for Param j, if i is a call
pub record ArgumentPasses (m : List ℕ) (c : Counts) (z : Sizes) (w : List ℕ) (i j : ℕ) (k : Kind) : Type 0 where
  pub is : (L : Limits) (s : List ℕ) → has (about (op_of (program_view s m c) i)).callee ≡ true → k ≡ kind_in (kinds_of z w) (argument L (program_view s m c) (place_of L (program_view s m c) j) i)

-- the union of a with k is a kind other than a
pub record Widens (a k : Kind) : Type 0 where
  pub union : Kind
  pub is : union_of a k ≡ Ok union
  pub other : same_kind union a ≡ false

-- what an answer tells of the union of a with k
abbrev pub CoversTells : Kind → Kind → Option 𝔹 → Type 0
CoversTells a k (Some true) = union_of a k ≡ Ok a
CoversTells a k (Some false) = Widens a k
CoversTells a k None = Unit {0}

-- the kind of the argument that i has for Param j leaves the kind of j as it is
pub record Keeps (m : List ℕ) (c : Counts) (z : Sizes) (w : List ℕ) (i j : ℕ) : Type 0 where
  pub kind : Kind
  pub passes : ArgumentPasses m c z w i j kind
  pub same : union_of (get_or (kinds_of z w) j Empty) kind ≡ Ok (get_or (kinds_of z w) j Empty)

-- the program is the one in memory, and instruction i a call
pub record CallIn (m : List ℕ) (c : Counts) (i : ℕ) (p : Program) (v : Attrs) : Type 0 where
  pub script : List ℕ
  pub program : p ≡ program_view script m c
  pub call : has (about (op_of (program_view script m c) i)).callee ≡ true

-- and the chain for entry block e holds the Params of function f
pub record PassIn (m : List ℕ) (c : Counts) (z : Sizes) (x : List ℕ) (i f e : ℕ) (p : Program) (v : Attrs) : Type 0 where
  pub call : CallIn m c i p v
  pub params : ChainIs x z.insns 1 e (parameters p f)

-- an action that leaves the state as it is, whatever waits
pub record PassIdle (z : Sizes) (fits : Program → Attrs → Type 0) (f : Limits → Program → Acts (Unit {0})) (m : List ℕ) : Type 0 where
  pub is : (q : Regs) → StateReady z m q → StateDid z fits f m q m (On q)

-- the same of values that are lent
abbrev pub CallerOf : Tables → Sizes → ℕ → Type 0
CallerOf p z i = Caller p.words.now p.counts z i

abbrev pub PassesOf : Tables → Sizes → List ℕ → ℕ → ℕ → Kind → Type 0
PassesOf p z w i j k = ArgumentPasses p.words.now p.counts z w i j k

abbrev pub KeepsOf : Tables → Sizes → List ℕ → ℕ → ℕ → Type 0
KeepsOf p z w i j = Keeps p.words.now p.counts z w i j

abbrev pub PassOf : Tables → List ℕ → Sizes → ℕ → ℕ → ℕ → Program → Attrs → Type 0
PassOf p x z i f e = PassIn p.words.now p.counts z x i f e
