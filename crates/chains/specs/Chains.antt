-- Lists held as chains in a memory, and the chains of code, Params and Returns. Assumes nothing.
use Rattle.std.specs.Prelude.{Bool as 𝔹, true, false, cond, ◌&&◌, ◌≡◌, Option, Some, None, List, [], ◌∷◌, ℕ, zero, suc, ◌+◌, ◌-◌, ◌*◌, ◌≤◌, ◌<◌, eqb, ltb, length, get_or, drop}
use Rattle.rules.specs.Lists.{cons_if, places, has}
use Rattle.rules.specs.Program as P
use Rattle.rules.specs.Program.{code, parameters, returns, entry}
use Rattle.program.specs.Rows.{insn_at, block_at}
use Rattle.program.specs.View.{program_view}
use Rattle.program.specs.declared.Op.{Op}
use Rattle.program.specs.declared.Op.TheVariants.{Jump, IfTrue, Return, SendStatic, SendDynamic, Compute, Phi, Param, SelfParam, New, GetIvar, SetIvar}
use Rattle.program.specs.declared.Counts.{Counts}
use Rattle.memory.specs.Layout.{blocks_room}
use Rattle.chains.specs.declared.Sort.{Sort}
use Rattle.chains.specs.declared.Sort.TheVariants.{Code, Params, Returns}
use Rattle.chains.specs.Layout.{sort_words, chains_size}

abbrev pub is_param : Op → 𝔹
is_param (Jump b) = false
is_param (IfTrue b e) = false
is_param Return = false
is_param (SendStatic f) = false
is_param (SendDynamic m) = false
is_param (Compute o) = false
is_param (Phi b e) = false
is_param (Param k) = true
is_param (SelfParam c) = false
is_param (New c) = false
is_param (GetIvar m) = false
is_param (SetIvar m) = false

abbrev pub is_return : Op → 𝔹
is_return (Jump b) = false
is_return (IfTrue b e) = false
is_return Return = true
is_return (SendStatic f) = false
is_return (SendDynamic m) = false
is_return (Compute o) = false
is_return (Phi b e) = false
is_return (Param k) = false
is_return (SelfParam c) = false
is_return (New c) = false
is_return (GetIvar m) = false
is_return (SetIvar m) = false

-- a sort's place among the three
abbrev pub place_of : Sort → ℕ
place_of Code = 0
place_of Params = 1
place_of Returns = 2

-- the chain of a sort that instruction i belongs to
unfoldable pub key_of : List ℕ → ℕ → ℕ → Option ℕ
key_of m sort i =
    cond (eqb sort 0) (Some (insn_at m i).block.0)
    (cond (eqb sort 1) (cond (is_param (insn_at m i).op) (Some (insn_at m i).block.0) None)
    (cond (is_return (insn_at m i).op) (Some (block_at m (insn_at m i).block.0)) None))

abbrev pub is_key : Option ℕ → ℕ → 𝔹
is_key None b = false
is_key (Some k) b = eqb k b

-- whether instruction i belongs to the chain of number b
abbrev pub belongs : List ℕ → ℕ → ℕ → ℕ → 𝔹
belongs m sort b i = is_key (key_of m sort i) b

-- the numbers from k on, f of them, that pass
unfoldable pub pick : (ℕ → 𝔹) → ℕ → ℕ → List ℕ
pick t k zero = []
pick t k (suc f) = cons_if (t k) k (pick t (suc k) f)

-- a list is held as a chain: h is its first cell, none below k; n stands for the end, and the cells rise
unfoldable pub ChainsChained : (item link : ℕ → ℕ) → ℕ → ℕ → ℕ → List ℕ → Type 0
ChainsChained item link n k h [] = h ≡ n
ChainsChained item link n k h (x ∷ l) = (k ≤ h) × (h < n) × (x ≡ item h) × ChainsChained item link n (suc h) (link h) l

-- the numbers that links lead to from h on, at most f of them; one that is not below n ends them
unfoldable pub cells_from : (ℕ → ℕ) → ℕ → ℕ → ℕ → List ℕ
cells_from link n zero h = []
cells_from link n (suc f) h = cond (ltb h n) (h ∷ cells_from link n f (link h)) []

abbrev pub self : ℕ → ℕ
self i = i

abbrev pub link_in : List ℕ → ℕ → ℕ
link_in w i = get_or w i 0

-- h is a cell of a chain through the words of w, or its end
abbrev pub Chained : List ℕ → ℕ → Type 0
Chained w h = ChainsChained self (link_in w) (length w) h h (cells_from (link_in w) (length w) (length w - h) h)

-- the words of a memory from a place on
abbrev pub at : List ℕ → ℕ → ℕ → ℕ
at w a i = get_or w (a + i) 0

-- only the n words from a on may have changed
pub record ChainsOnly (a n : ℕ) (w w' : List ℕ) : Type 0 where
  pub len_same : length w' ≡ length w
  pub others : (k : ℕ) → (a ≤ k → k < a + n → ⊥) → get_or w' k 0 ≡ get_or w k 0

pub record ChainsFilled (a n v : ℕ) (w w' : List ℕ) : Type 0 where
  pub only : ChainsOnly a n w w'
  pub here : (k : ℕ) → k < n → get_or w' (a + k) 0 ≡ v

-- the n words from a on stand in another memory too, in a part of it that starts at base
pub record Copied (base a n : ℕ) (w t t' : List ℕ) : Type 0 where
  pub only : ChainsOnly (base + a) n t t'
  pub here : (k : ℕ) → k < n → get_or t' (base + (a + k)) 0 ≡ get_or w (a + k) 0

-- the chains of a sort, of the instructions from i on
abbrev pub ChainsHeld : List ℕ → ℕ → ℕ → ℕ → List ℕ → Type 0
ChainsHeld m n sort i w =
    (b : ℕ) → b < blocks_room → ChainsChained self (at w (sort_words * sort + blocks_room)) n i (get_or w (sort_words * sort + b) 0) (pick (belongs m sort b) i (n - i))

-- a sort's chain of a number
abbrev pub ChainIs : List ℕ → ℕ → ℕ → ℕ → List ℕ → Type 0
ChainIs w n sort b l = ChainsChained self (at w (sort_words * sort + blocks_room)) n 0 (get_or w (sort_words * sort + b) 0) l

-- there is such a chain
abbrev pub ChainStands : List ℕ → ℕ → ℕ → ℕ → Type 0
ChainStands w n sort b = (l : List ℕ) × ChainIs w n sort b l

abbrev pub All : List ℕ → ℕ → ℕ → List ℕ → Type 0
All m n sort w = (b : ℕ) → b < blocks_room → ChainIs w n sort b (pick (belongs m sort b) 0 n)

pub record Chains (m : List ℕ) (n sort : ℕ) (w w' : List ℕ) : Type 0 where
  pub only : ChainsOnly (sort_words * sort) sort_words w w'
  pub held : All m n sort w'

-- the Return instructions of a function
unfoldable pub returns_of : P.Program → ℕ → List ℕ
returns_of p f = places (λ (x : P.Instruction). eqb (P.function_at p x.block) f && has (P.returned x.op)) p.instructions

pub record Index (m : List ℕ) (c : Counts) (w : List ℕ) : Type 0 where
  pub len : chains_size ≤ length w
  pub codes : (s : List ℕ) (b : ℕ) → b < blocks_room → ChainIs w c.insns 0 b (code (program_view s m c) b)
  pub params : (s : List ℕ) (f : ℕ) → f < c.functions → entry (program_view s m c) f < blocks_room → ChainIs w c.insns 1 (entry (program_view s m c) f) (parameters (program_view s m c) f)
  pub returning : (s : List ℕ) (f : ℕ) → f < blocks_room → ChainIs w c.insns 2 f (returns_of (program_view s m c) f)

-- an index stands in another memory too, from base on
pub record Carried (c : Counts) (base : ℕ) (w t t' : List ℕ) : Type 0 where
  pub only : ChainsOnly base chains_size t t'
  pub index : (m : List ℕ) → Index m c w → Index m c (drop base t')
