-- The users of each instruction's result: chains in the work memory, then one after the other. Assumes nothing.
use Rattle.std.specs.Prelude.{Bool as 𝔹, false, cond, ◌≡◌, Option, Some, None, List, [], ◌∷◌, ℕ, zero, suc, ◌+◌, ◌-◌, ◌*◌, ◌≤◌, ◌<◌, min, eqb, ltb, length, get_or}
use Rattle.rules.specs.Lists.{any}
use Rattle.rules.specs.Uses.{uses}
use Rattle.program.specs.Tab.{tab}
use Rattle.program.specs.Rows.{opnds_in, insn_at}
use Rattle.program.specs.View.{program_view}
use Rattle.program.specs.declared.Counts.{Counts}
use Rattle.program.specs.declared.Op.{Op}
use Rattle.program.specs.declared.Op.TheVariants.{Jump, IfTrue, Return, SendStatic, SendDynamic, Compute, Phi, Param, SelfParam, New, GetIvar, SetIvar}
use Rattle.program.specs.declared.Opnd.{Opnd}
use Rattle.program.specs.declared.Opnd.TheVariants.{Const, Insn}
use Rattle.chains.specs.Chains.{pick, ChainsChained, at}
use Rattle.memory.specs.Layout.{instructions_most, uses_most}
use Rattle.program.specs.Layout.{opnds_at}
use Rattle.uses.specs.Layout.{items_at, links_at, uses_size}

-- how many operands a sort can have; a call no more than all calls and joins together
abbrev pub most_of : Op → ℕ
most_of (Jump b) = 0
most_of (IfTrue b e) = 1
most_of Return = 1
most_of (SendStatic f) = uses_most
most_of (SendDynamic m) = uses_most
most_of (Compute o) = 2
most_of (Phi b e) = 2
most_of (Param k) = 0
most_of (SelfParam c) = 0
most_of (New c) = 0
most_of (GetIvar m) = 1
most_of (SetIvar m) = 2

-- how many of its operands instruction i uses, and those before i together
unfoldable pub used_at : List ℕ → ℕ → ℕ
used_at m i = min (insn_at m i).count (most_of (insn_at m i).op)

unfoldable pub sum_to : (ℕ → ℕ) → ℕ → ℕ
sum_to g zero = 0
sum_to g (suc k) = sum_to g k + g k

abbrev pub used_to : List ℕ → ℕ → ℕ
used_to m i = sum_to (used_at m) i

abbrev pub names : ℕ → Opnd → 𝔹
names j (Const k) = false
names j (Insn i) = eqb j i.0

-- whether j is among the first q operands of instruction i, and among all
unfoldable pub names_to : List ℕ → ℕ → ℕ → ℕ → 𝔹
names_to m i q j = any (names j) (opnds_in m (opnds_at + 2 * (insn_at m i).first) q)

unfoldable pub uses_at : List ℕ → ℕ → ℕ → 𝔹
uses_at m j i = names_to m i (used_at m i) j

-- the users of j among n instructions
abbrev pub users_of : List ℕ → ℕ → ℕ → List ℕ
users_of m n j = pick (uses_at m j) 0 n

-- the user in a cell
unfoldable pub first_of : List ℕ → ℕ → Option ℕ
first_of w h = cond (ltb h uses_most) (Some (get_or w (items_at + h) 0)) None

-- a list as a chain of cells, none below e
abbrev pub Cells : List ℕ → ℕ → ℕ → List ℕ → Type 0
Cells w e h l = ChainsChained (at w items_at) (at w links_at) uses_most e h l

-- i in front of a list, unless it is there
abbrev pub front : ℕ → List ℕ → List ℕ
front i [] = i ∷ []
front i (x ∷ l) = cond (eqb x i) (x ∷ l) (i ∷ x ∷ l)

pub record UsersPut (e i j : ℕ) (w w' : List ℕ) (r : ℕ) : Type 0 where
  pub len_same : length w' ≡ length w
  pub low : e ≤ r + 1
  pub high : r ≤ e
  pub own : (l : List ℕ) → Cells w e (get_or w j 0) l → Cells w' r (get_or w' j 0) (front i l)
  pub others : (k : ℕ) (l : List ℕ) → k < instructions_most → (k ≡ j → ⊥) → Cells w e (get_or w k 0) l → Cells w' r (get_or w' k 0) l

-- the users from instruction i on are linked; there is room for those before it
pub record Linked (m : List ℕ) (n i e : ℕ) (w : List ℕ) : Type 0 where
  pub len : uses_size ≤ length w
  pub cells : (j : ℕ) → j < n → Cells w e (get_or w j 0) (pick (uses_at m j) i (n - i))
  pub room : used_to m i ≤ e
  pub few : e ≤ uses_most

-- the users of the instructions before j, together
abbrev pub users_to : List ℕ → ℕ → ℕ → ℕ
users_to m n j = sum_to (λ k. length (users_of m n k)) j

-- n words from a place on
abbrev pub words : List ℕ → ℕ → ℕ → List ℕ
words u a n = tab (λ q. get_or u (a + q) 0) n

pub record Uses (m : List ℕ) (c : Counts) (starts users : ℕ) (u u' : List ℕ) : Type 0 where
  pub len_same : length u' ≡ length u
  pub begins : get_or u' (starts + 0) 0 ≡ 0
  pub rises : (j : ℕ) → j < c.insns → get_or u' (starts + j) 0 ≤ get_or u' (starts + (j + 1)) 0
  pub total : get_or u' (starts + c.insns) 0 ≤ uses_most
  pub part : (s : List ℕ) (j : ℕ) → j < c.insns
      → words u' (users + get_or u' (starts + j) 0) (get_or u' (starts + (j + 1)) 0 - get_or u' (starts + j) 0) ≡ uses (program_view s m c) j
  pub others : (k : ℕ) → (starts ≤ k → k < starts + (c.insns + 1) → ⊥) → (users ≤ k → k < users + get_or u' (starts + c.insns) 0 → ⊥) → get_or u' k 0 ≡ get_or u k 0
