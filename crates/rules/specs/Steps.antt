-- 01's steps between blocks under final kinds, and what demand 3 says of an answer. Assumes nothing.
use Rattle.std.specs.Prelude.{true, false, ◌≡◌, ◌↔◌, List, [], ◌∷◌, ◌++◌, map, ℕ, suc, ◌≤◌, get_or, eqb, T}
use Rattle.std.proofs.Math.Option.{none, some}
use Rattle.ids.specs.Sets.{members_of}
use Rattle.kinds.specs.Rules.{admits}
use Rattle.rules.specs.Actions.{Answer, answered, refused}
use Rattle.rules.specs.Lists.{cons_if, to_list, concat, any}
use Rattle.rules.specs.Values.{classes_in}
use Rattle.rules.specs.Program.{Limits, Opnd, Terminator, Jump, IfTrue, Return, Callee, Static, Dynamic, Op, about, Program, op_of, code, entry, method_named, main_function}
use Rattle.rules.specs.Machine.{State, kind_of, at_rest, step, start}
use Rattle.rules.specs.Bound.{bound}
use Rattle.rules.specs.Finished.{Usable}
use Rattle.rules.specs.Frames.{Analysis, analyze}

module _ (p : Program) (s : State) where
  -- a jump's target; the arms that the condition's kind admits
  unfoldable pub arms : Terminator → List ℕ
  arms (Jump b) = b ∷ []
  arms (IfTrue v t e) = cons_if (admits true (kind_of s v)) t (cons_if (admits false (kind_of s v)) e [])
  arms (Return v) = []

  -- the classes of a receiver's kind; none where it is no object kind
  abbrev pub classes : Opnd → List ℕ
  classes r = elim (classes_in (kind_of s r)) [ none ↦ [] | some c ↦ members_of c ]

  -- the function of a bare call; the method in each class of the receiver
  abbrev pub called : Callee → List ℕ
  called (Static f) = f ∷ []
  called (Dynamic r n) = concat (map (λ c. to_list (method_named p c n)) (classes r))

  -- the blocks that an instruction's steps lead to
  unfoldable pub targets : Op → List ℕ
  targets o = concat (map arms (to_list (about o).terminator)) ++ map (entry p) (concat (map called (to_list (about o).callee)))

  abbrev pub Among : ℕ → List ℕ → Type 0
  Among n l = T (any (eqb n) l)

  -- the main entry, and what a chain of steps leads to
  pub data Reached : ℕ → Type 0 where
    main : Reached (entry p (main_function p))
    along : {b c : ℕ} (i : ℕ) → Reached b → Among i (code p b) → Among c (targets (op_of p i)) → Reached c

  -- exactness and bound. The run may take no more steps than the bound, so the count says something only because nothing waits any more
  pub record Exact : Type 0 where
    pub rest : at_rest s ≡ true
    pub count : s.count ≤ bound p
    pub live : (b : ℕ) → (get_or s.live b false ≡ true) ↔ Reached b

-- demand 3: every answer is exact and within the bound
abbrev pub Demand : Type 0
Demand = (L : Limits) → Usable L → (script : List ℕ) (a : Analysis) → analyze L script ≡ answered a → Exact a.program a.state

module _ (L : Limits) (p : Program) where
  -- n steps lead from one state to another, and each takes an entry off a worklist: something waits before it
  pub data Stepped : ℕ → State → State → Type 0 where
    none-taken : {s : State} → Stepped 0 s s
    one_taken : {n : ℕ} {s t e : State} → at_rest s ≡ false → step L p s ≡ answered t → Stepped n t e → Stepped (suc n) s e

  -- as many steps as the count says lead from the start to e
  pub record Counted (e : State) : Type 0 where
    pub first : State
    pub starts : start L p ≡ answered first
    pub steps : Stepped e.count first e

-- demand 3: the count of every answer is the number of steps taken
abbrev pub Counts : Type 0
Counts = (L : Limits) → Usable L → (script : List ℕ) (a : Analysis) → analyze L script ≡ answered a → Counted L a.program a.state

-- a script is answered, and then exactly, or refused by one of the questions; 2 asks about lent memory, and 18 is never answered no
abbrev pub Told : Answer Analysis → Type 0
Told (answered a) = Exact a.program a.state
Told (refused n) = (1 ≤ n) × (n ≤ 20) × (n ≡ 2 → ⊥) × (n ≡ 18 → ⊥)

abbrev pub Answers : Type 0
Answers = (L : Limits) → Usable L → (script : List ℕ) → Told (analyze L script)

-- question 18 is never answered no, whatever the limits
abbrev pub NeverEighteen : Type 0
NeverEighteen = (L : Limits) (script : List ℕ) → analyze L script ≡ refused 18 → ⊥
