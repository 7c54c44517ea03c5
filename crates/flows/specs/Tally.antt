-- The union of a set of operands in the reference's order, found by two passes over the operands as they come, or one. Assumes nothing.
use Rattle.std.specs.Prelude.{Bool as 𝔹, true, false, not, cond, ◌&&◌, ◌≡◌, List, [], ◌∷◌, ℕ, ◌<◌, ltb, Ok}
use Rattle.kinds.specs.declared.Kind.{Kind}
use Rattle.kinds.specs.declared.Kind.TheVariants.{Empty, Any}
use Rattle.kinds.specs.Kinds.{is_empty, is_any}
use Rattle.kinds.specs.Union.{Joined, union_of, join_of}
use Rattle.rules.specs.Program.{Opnd, Const, Insn, same_opnd}
use Rattle.machine.specs.opnds.Reads.{kind_in}

-- what was met so far: no operand, one operand and its kind, or the union of several
pub data Tally : Type 0 where
  Nothing : Tally
  One : Opnd → Kind → Tally
  Many : Joined → Tally

module _ (ks : List Kind) where
  -- the least instruction below a whose kind is Any
  abbrev pub lower : ℕ → Opnd → ℕ
  lower a (Const k) = a
  lower a (Insn j) = cond (is_any (kind_in ks (Insn j)) && ltb j a) j a

  unfoldable pub least : ℕ → List Opnd → ℕ
  least a [] = a
  least a (o ∷ l) = least (lower a o) l

  -- a pass takes what stands before its bound, and is neither Empty nor Any
  abbrev pub before : ℕ → Opnd → 𝔹
  before a (Const k) = true
  before a (Insn j) = ltb j a

  abbrev pub solid : Kind → 𝔹
  solid k = not (is_empty k) && not (is_any k)

  abbrev pub add : Tally → Opnd → Tally
  add Nothing o = One o (kind_in ks o)
  add (One w j) o = cond (same_opnd o w) (One w j) (Many (union_of j (kind_in ks o)))
  add (Many j) o = Many (join_of j (kind_in ks o))

  unfoldable pub take : ℕ → Tally → Opnd → Tally
  take a t o = cond (before a o && solid (kind_in ks o)) (add t o) t

  unfoldable pub taken_all : ℕ → Tally → List Opnd → Tally
  taken_all a t [] = t
  taken_all a t (o ∷ l) = taken_all a (take a t o) l

  abbrev pub close : Tally → Joined
  close Nothing = Ok Empty
  close (One w j) = Ok j
  close (Many j) = j

  -- an Any makes the rest Any, unless there is a refusal before it; n is no instruction
  abbrev pub finish : ℕ → ℕ → Tally → Joined
  finish n a t = cond (ltb a n) (join_of (close t) Any) (close t)

  unfoldable pub union_over : ℕ → List Opnd → Joined
  union_over n l = finish n (least n l) (taken_all (least n l) Nothing l)

-- no constant is Any, and the others are results of the first n instructions
abbrev pub FitsAt : ℕ → Opnd → Type 0
FitsAt n (Const k) = is_any k ≡ false
FitsAt n (Insn j) = j < n

abbrev pub TallyFits : ℕ → List Opnd → Type 0
TallyFits n [] = Unit {0}
TallyFits n (o ∷ l) = FitsAt n o × TallyFits n l
