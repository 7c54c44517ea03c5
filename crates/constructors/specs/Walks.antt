-- The walk of a constructor's blocks, as the work memory holds it. Assumes nothing.
use Rattle.std.specs.Prelude.{Bool as 𝔹, true, false, not, cond, ◌≡◌, List, [], ◌∷◌, ℕ, zero, suc, ◌+◌, ◌≤◌, ◌<◌, eqb, length, get_or}
use Rattle.rules.specs.Actions.{choose}
use Rattle.rules.specs.Lists.{any, has}
use Rattle.rules.specs.Program.{successors, returned_by}
use Rattle.rules.specs.Constructors.{Walk, end_of, walk, reverse_post_order}
use Rattle.program.specs.View.{program_view}
use Rattle.program.specs.declared.Counts.{Counts}
use Rattle.program.specs.declared.Op.{Op}
use Rattle.program.specs.declared.Op.TheVariants as O
use Rattle.memory.specs.Layout.{blocks_room}
use Rattle.constructors.specs.Layout.{order_at, walk_size}
use Rattle.constructors.specs.declared.Ends.{Ends}
use Rattle.constructors.specs.declared.Ends.TheVariants.{Return, Jump, IfTrue, Open}

abbrev pub ends_from : Op → Ends
ends_from (O.Jump b) = Jump b
ends_from (O.IfTrue b e) = IfTrue b e
ends_from O.Return = Return
ends_from (O.SendStatic f) = Open
ends_from (O.SendDynamic m) = Open
ends_from (O.Compute o) = Open
ends_from (O.Phi b e) = Open
ends_from (O.Param k) = Open
ends_from (O.SelfParam c) = Open
ends_from (O.New c) = Open
ends_from (O.GetIvar m) = Open
ends_from (O.SetIvar m) = Open

abbrev pub targets : Ends → List ℕ
targets Return = []
targets (Jump t) = t.0 ∷ []
targets (IfTrue t u) = t.0 ∷ u.0 ∷ []
targets Open = []

abbrev pub returning : Ends → 𝔹
returning Return = true
returning (Jump t) = false
returning (IfTrue t u) = false
returning Open = false

-- how block b ends, for any script
pub record Ended (m : List ℕ) (c : Counts) (b : ℕ) (r : Ends) : Type 0 where
  pub onward : (s : List ℕ) → successors (end_of (program_view s m c) b) ≡ targets r
  pub leaves : (s : List ℕ) → has (returned_by (end_of (program_view s m c) b)) ≡ returning r

-- the blocks that terminators name are there
pub record WalkInside (m : List ℕ) (c : Counts) : Type 0 where
  pub inside : (s : List ℕ) (b t : ℕ) → b < c.blocks → any (eqb t) (successors (end_of (program_view s m c) b)) ≡ true → t < c.blocks

-- ---- the walk's state

abbrev pub marked : List ℕ → ℕ → 𝔹
marked w b = not (eqb (get_or w b 0) 0)

-- how many of the first k blocks are not yet visited
unfoldable pub unseen : List ℕ → ℕ → ℕ
unseen w zero = 0
unseen w (suc k) = unseen w k + cond (eqb (get_or w k 0) 0) 1 0

-- the blocks left behind, the latest in front
unfoldable pub out_of : List ℕ → ℕ → List ℕ
out_of w zero = []
out_of w (suc n) = get_or w (order_at + n) 0 ∷ out_of w n

-- a list of visited blocks is what the marks say of the first k
abbrev pub Marks : List ℕ → ℕ → List ℕ → Type 0
Marks w k v = (b : ℕ) → b < k → any (eqb b) v ≡ marked w b

pub record WalkGood (k : ℕ) (w : List ℕ) (n : ℕ) : Type 0 where
  pub len : walk_size ≤ length w
  pub few : k ≤ blocks_room
  pub room : n + unseen w k ≤ k
  pub order : (i : ℕ) → i < n → get_or w (order_at + i) 0 < k

pub record Same (k : ℕ) (w : List ℕ) (n : ℕ) (v : Walk) : Type 0 where
  pub visited : Marks w k v.visited
  pub order : out_of w n ≡ v.order

abbrev pub walk_of : List ℕ → Counts → ℕ → List ℕ → ℕ → Walk → Walk
walk_of m c b s f v = walk (program_view s m c) f b v

abbrev pub visit_of : List ℕ → Counts → ℕ → List ℕ → ℕ → Walk → Walk
visit_of m c b s f v = choose (any (eqb b) v.visited) (λ _. v) (λ _. walk (program_view s m c) f b v)

-- F, for any script and any number from the blocks not yet visited up, was done
pub record WalkDid (F : List ℕ → ℕ → Walk → Walk) (k : ℕ) (w : List ℕ) (n : ℕ) (w' : List ℕ) (r : ℕ) : Type 0 where
  pub is : (s : List ℕ) (f : ℕ) → unseen w k ≤ f → (v : List ℕ) → Marks w k v → Same k w' r (F s f (record { visited = v; order = out_of w n }))
  pub fewer : unseen w' k ≤ unseen w k
  pub room : r + unseen w' k ≤ n + unseen w k
  pub good : WalkGood k w' r
  pub len_same : length w' ≡ length w

-- the blocks that b leads to
pub record Walked (m : List ℕ) (c : Counts) (b : ℕ) (w : List ℕ) (n : ℕ) : Type 0 where
  pub order : (s : List ℕ) → out_of w n ≡ reverse_post_order (program_view s m c) b
  pub inside : (i : ℕ) → i < n → get_or w (order_at + i) 0 < c.blocks
  pub few : n ≤ c.blocks
  pub len : walk_size ≤ length w
