-- The analysis as a machine that takes one entry off a worklist at each step (01, "The analysis"; questions 12 to 20). Assumes nothing.
use Rattle.std.specs.Prelude.{Bool as 𝔹, true, false, not, cond, List, [], ◌∷◌, ◌++◌, map, ℕ, zero, suc, ◌+◌, eqb, ltb, leb, length, get_or, set, replicate}
use Rattle.std.proofs.Math.Option.{none, some}
use Rattle.ids.specs.Sets.{members_of}
use Rattle.kinds.specs.declared.Kind.{Kind}
use Rattle.kinds.specs.declared.Kind.TheVariants.{Empty}
use Rattle.kinds.specs.Kinds.{same_kind, is_empty}
use Rattle.kinds.specs.Union.{union_of, union_all}
use Rattle.kinds.specs.Rules.{arith_of, admits}
use Rattle.rules.specs.Actions.{choose, Answer, answered, refused, if_answered, Does, ◌>>=◌, ◌>>◌, give, ask, needed, lift, unless, the, change, each, fold}
use Rattle.rules.specs.Lists.{keep, places, has, concat, is_just_name}
use Rattle.rules.specs.Values.{to_answer, object, classes_in}
use Rattle.rules.specs.Program.{Limits, Name, Opnd, Const, Insn, Terminator, Jump, IfTrue, Return, Static, Dynamic, Op, Ends, Send, Compute, Phi, Param, SelfParam, New, GetIvar, SetIvar, Program, same_opnd, opnd_before, about, function, op_of, block_of, function_of, entry, code, method_named, ivar_named, main_function, parameters, returns}
use Rattle.rules.specs.Uses.{uses}
use Rattle.rules.specs.Constructors.{first_kinds}

-- kinds: by instruction; live: by block; called_by: by function, then by instruction; ivar_kinds: by class, then by the attribute's place; ivar_reads: by class,
-- then by instruction, the reads that met the class; the two worklists (01: waiting lists), the entry taken next in front; draining: blocks are being taken
pub record State : Type 0 where
  pub kinds : List Kind
  pub live : List 𝔹
  pub called_by : List (List 𝔹)
  pub ivar_kinds : List (List Kind)
  pub ivar_reads : List (List 𝔹)
  pub insn_worklist : List ℕ
  pub block_worklist : List ℕ
  pub draining : 𝔹
  pub count : ℕ

abbrev pub Acts : Type 0 → Type 0
Acts A = Does State A

-- ---- the changes of a state

abbrev pub set_kind : ℕ → Kind → State → State
set_kind i k s = record { kinds = set s.kinds i k; live = s.live; called_by = s.called_by; ivar_kinds = s.ivar_kinds; ivar_reads = s.ivar_reads; insn_worklist = s.insn_worklist; block_worklist = s.block_worklist; draining = s.draining; count = s.count }

abbrev pub set_live : ℕ → State → State
set_live b s = record { kinds = s.kinds; live = set s.live b true; called_by = s.called_by; ivar_kinds = s.ivar_kinds; ivar_reads = s.ivar_reads; insn_worklist = s.insn_worklist; block_worklist = s.block_worklist; draining = s.draining; count = s.count }

-- a table of rows of Booleans
abbrev pub mark : List (List 𝔹) → ℕ → ℕ → List (List 𝔹)
mark t a b = set t a (set (get_or t a []) b true)

abbrev pub marked : List (List 𝔹) → ℕ → ℕ → 𝔹
marked t a b = get_or (get_or t a []) b false

abbrev pub add_caller : ℕ → ℕ → State → State
add_caller f i s = record { kinds = s.kinds; live = s.live; called_by = mark s.called_by f i; ivar_kinds = s.ivar_kinds; ivar_reads = s.ivar_reads; insn_worklist = s.insn_worklist; block_worklist = s.block_worklist; draining = s.draining; count = s.count }

abbrev pub add_read : ℕ → ℕ → State → State
add_read c i s = record { kinds = s.kinds; live = s.live; called_by = s.called_by; ivar_kinds = s.ivar_kinds; ivar_reads = mark s.ivar_reads c i; insn_worklist = s.insn_worklist; block_worklist = s.block_worklist; draining = s.draining; count = s.count }

abbrev pub set_ivar_kind : ℕ → ℕ → Kind → State → State
set_ivar_kind c a k s = record { kinds = s.kinds; live = s.live; called_by = s.called_by; ivar_kinds = set s.ivar_kinds c (set (get_or s.ivar_kinds c []) a k); ivar_reads = s.ivar_reads; insn_worklist = s.insn_worklist; block_worklist = s.block_worklist; draining = s.draining; count = s.count }

abbrev pub with_insns : List ℕ → State → State
with_insns l s = record { kinds = s.kinds; live = s.live; called_by = s.called_by; ivar_kinds = s.ivar_kinds; ivar_reads = s.ivar_reads; insn_worklist = l; block_worklist = s.block_worklist; draining = s.draining; count = s.count }

abbrev pub with_blocks : List ℕ → State → State
with_blocks l s = record { kinds = s.kinds; live = s.live; called_by = s.called_by; ivar_kinds = s.ivar_kinds; ivar_reads = s.ivar_reads; insn_worklist = s.insn_worklist; block_worklist = l; draining = s.draining; count = s.count }

-- an entry is off its list: q and w are left, and the count is one more
abbrev pub taken : 𝔹 → List ℕ → List ℕ → State → State
taken d q w s = record { kinds = s.kinds; live = s.live; called_by = s.called_by; ivar_kinds = s.ivar_kinds; ivar_reads = s.ivar_reads; insn_worklist = q; block_worklist = w; draining = d; count = suc s.count }

-- both worklists are empty
abbrev pub at_rest : State → 𝔹
at_rest s = eqb (length s.insn_worklist + length s.block_worklist) 0

-- ---- kinds

-- an operand's kind; once the machine is at rest, 01's final kind
unfoldable pub kind_of : State → Opnd → Kind
kind_of s (Const k) = k
kind_of s (Insn i) = get_or s.kinds i Empty

-- question 19
abbrev pub join : Kind → Kind → Acts Kind
join a b = lift (to_answer (union_of a b))

-- the union of the kinds of operands, from the left
unfoldable pub join_all : List Opnd → Acts Kind
join_all l = do
  ks ← the (λ s. map (kind_of s) l)
  lift (to_answer (union_all Empty ks))

-- a set of operands as a list, in the reference's order
abbrev pub insert_opnd : Opnd → List Opnd → List Opnd
insert_opnd v [] = v ∷ []
insert_opnd v (w ∷ l) = elim (same_opnd v w) [ true ↦ w ∷ l | false ↦ elim (opnd_before v w) [ true ↦ v ∷ w ∷ l | false ↦ w ∷ insert_opnd v l ] ]

abbrev pub opnd_set : List Opnd → List Opnd
opnd_set [] = []
opnd_set (v ∷ l) = insert_opnd v (opnd_set l)

-- question 14, and the classes of a receiver, upward
unfoldable pub classes_of : Opnd → Acts (List ℕ)
classes_of r = do
  k ← the (λ s. kind_of s r)
  c ← needed 14 (classes_in k)
  give (members_of c)

module _ (L : Limits) (p : Program) where
  -- ---- entries are put in at the end; question 20

  unfoldable pub push_insn : ℕ → Acts (Unit {0})
  push_insn i = do
    q ← the (λ (s : State). s.insn_worklist)
    ask 20 (ltb (length q) L.worklist)
    change (with_insns (q ++ i ∷ []))

  unfoldable pub push_block : ℕ → Acts (Unit {0})
  push_block b = do
    w ← the (λ (s : State). s.block_worklist)
    ask 20 (ltb (length w) L.worklist)
    change (with_blocks (w ++ b ∷ []))

  -- an instruction waits if k would change its kind
  unfoldable pub wake_if_wider : Kind → ℕ → Acts (Unit {0})
  wake_if_wider k i = do
    old ← the (λ (s : State). get_or s.kinds i Empty)
    u ← join old k
    unless (same_kind u old) (push_insn i)

  -- a new kind is stored, and the users in live blocks wait, if the union with the old kind is another
  unfoldable pub store : ℕ → Kind → Acts (Unit {0})
  store i k = do
    old ← the (λ (s : State). get_or s.kinds i Empty)
    u ← join old k
    unless (same_kind u old) (do
      change (set_kind i k)
      live ← the (λ (s : State). s.live)
      each (keep (λ j. get_or live (block_of p j) false) (uses p i)) push_insn)

  -- ---- calls

  abbrev pub callers_of : State → ℕ → List ℕ
  callers_of s f = places (λ b. b) (get_or s.called_by f [])

  -- a Param's place, and the argument that a call has for a place
  abbrev pub place_of : ℕ → ℕ
  place_of x = elim (about (op_of p x)).place [ none ↦ 0 | some n ↦ n ]

  abbrev pub argument : ℕ → ℕ → Opnd
  argument n i = get_or (about (op_of p i)).listed n (Const Empty)

  -- a new caller i of f makes f's entry wait; question 16
  unfoldable pub add_call : ℕ → ℕ → Acts (Unit {0})
  add_call i f = do
    old ← the (λ (s : State). marked s.called_by f i)
    unless old (do
      change (add_caller f i)
      push_block (entry p f)
      ask 16 (leb (length (parameters p f)) (length (about (op_of p i)).listed)))

  -- a Param of f waits if the call's argument would change its kind
  unfoldable pub pass_arguments : ℕ → ℕ → Acts (Unit {0})
  pass_arguments i f = each (parameters p f) (λ x. do
    k ← the (λ s. kind_of s (argument (place_of x) i))
    wake_if_wider k x)

  -- what has flowed to a call: the returned operands of every function that it has called
  unfoldable pub flows_back : State → ℕ → List Opnd
  flows_back s i = opnd_set (concat (map (returns p) (places (λ row. get_or row i false) s.called_by)))

  -- what has flowed to a Param: the arguments of its function's callers
  unfoldable pub flows_in : State → ℕ → List Opnd
  flows_in s x = opnd_set (map (argument (place_of x)) (callers_of s (function_of p x)))

  -- ---- the rules

  -- a jump's target waits; a choice's admitted arms wait, then arm first; a returned kind that is not nothing makes the callers wait that it would change
  unfoldable pub leave : ℕ → Terminator → Acts (Unit {0})
  leave i (Jump b) = push_block b
  leave i (IfTrue v t e) = do
    k ← the (λ s. kind_of s v)
    unless (not (admits true k)) (push_block t)
    unless (not (admits false k)) (push_block e)
  leave i (Return v) = do
    k ← the (λ s. kind_of s v)
    cs ← the (λ s. callers_of s (function_of p i))
    unless (is_empty k) (each cs (wake_if_wider k))

  -- question 15 for an attribute; the union with the kind that it has in one class
  unfoldable pub get_ivar : Name → Kind → ℕ → Acts Kind
  get_ivar n k c = do
    a ← needed 15 (ivar_named p c n)
    j ← the (λ (s : State). get_or (get_or s.ivar_kinds c []) a Empty)
    join k j

  -- an attribute of one class is widened; where this changes it, the reads of it that met the class wait
  unfoldable pub set_ivar : Name → Kind → ℕ → Acts (Unit {0})
  set_ivar n k c = do
    a ← needed 15 (ivar_named p c n)
    old ← the (λ (s : State). get_or (get_or s.ivar_kinds c []) a Empty)
    u ← join old k
    unless (same_kind u old) (do
      change (set_ivar_kind c a u)
      rs ← the (λ (s : State). places (λ b. b) (get_or s.ivar_reads c []))
      each (keep (λ i. is_just_name (about (op_of p i)).gets n) rs) push_insn)

  -- the kind that instruction i has now, after what it sets off. A call asks 17 once a new caller is known; a send asks 15 of each class in turn
  unfoldable pub rule : ℕ → Op → Acts Kind
  rule i (Ends t) = do
    leave i t
    give Empty
  rule i (Send (Static f) l) = do
    add_call i f
    ask 17 (not (has (function p f).class))
    pass_arguments i f
    vs ← the (λ s. flows_back s i)
    join_all vs
  rule i (Send (Dynamic r n) l) = do
    cs ← classes_of r
    each cs (λ c. do
      f ← needed 15 (method_named p c n)
      add_call i f
      pass_arguments i f)
    vs ← the (λ s. flows_back s i)
    join_all vs
  rule i (Compute o v w) = do
    j ← the (λ s. kind_of s v)
    k ← the (λ s. kind_of s w)
    lift (to_answer (arith_of o j k))
  rule i (Phi b v c w) = do
    live ← the (λ (s : State). s.live)
    join_all (cond (get_or live b false) (v ∷ []) [] ++ cond (get_or live c false) (w ∷ []) [])
  rule i (Param n) = do
    vs ← the (λ s. flows_in s i)
    join_all vs
  rule i (SelfParam c) = give (object c)
  rule i (New c) = give (object c)
  rule i (GetIvar n r) = do
    cs ← classes_of r
    each cs (λ c. change (add_read c i))
    fold (get_ivar n) Empty cs
  rule i (SetIvar n r v) = do
    cs ← classes_of r
    k ← the (λ s. kind_of s v)
    each cs (set_ivar n k)
    give Empty

  -- ---- steps

  unfoldable pub visit : ℕ → Acts (Unit {0})
  visit i = rule i (op_of p i) >>= store i

  -- a block goes live: its instructions wait
  unfoldable pub go_live : ℕ → Acts (Unit {0})
  go_live b = do
    live ← the (λ (s : State). get_or s.live b false)
    unless live (do
      change (set_live b)
      each (code p b) push_insn)

  abbrev pub state_of : Answer (Unit {0} × State) → Answer State
  state_of (answered r) = answered r.1
  state_of (refused n) = refused n

  abbrev pub take_block : List ℕ → State → Answer State
  take_block [] s = answered s
  take_block (b ∷ w) s = state_of (go_live b (taken true s.insn_worklist w s))

  abbrev pub take_insn : List ℕ → State → Answer State
  take_insn [] s = take_block s.block_worklist s
  take_insn (i ∷ q) s = state_of (visit i (taken false q s.block_worklist s))

  abbrev pub drain_block : List ℕ → State → Answer State
  drain_block [] s = take_insn s.insn_worklist s
  drain_block (b ∷ w) s = take_block (b ∷ w) s

  -- one entry: instructions while any wait, then all waiting blocks
  unfoldable pub step : State → Answer State
  step s = cond s.draining (drain_block s.block_worklist) (take_insn s.insn_worklist) s

  -- at most n steps
  unfoldable pub run : ℕ → State → Answer State
  run zero s = answered s
  run (suc n) s = choose (at_rest s) (λ _. answered s) (λ _. if_answered (step s) (run n))

  -- ---- the start

  abbrev pub table : ℕ → ℕ → List (List 𝔹)
  table a b = replicate a (replicate b false)

  -- no block is live, nothing waits, all kinds are nothing
  abbrev pub blank : List (List Kind) → State
  blank ivar_kinds = record {
    kinds = replicate (length p.instructions) Empty;
    live = replicate (length p.blocks) false;
    called_by = table (length p.functions) (length p.instructions);
    ivar_kinds = ivar_kinds;
    ivar_reads = table (length p.classes) (length p.instructions);
    insn_worklist = [];
    block_worklist = [];
    draining = false;
    count = 0;
  }

  -- the first kinds of the attributes of n classes, from class c on
  abbrev pub first_kinds_from : ℕ → ℕ → Answer (List (List Kind))
  first_kinds_from c zero = answered []
  first_kinds_from c (suc n) = if_answered (first_kinds p c) (λ ks. if_answered (first_kinds_from (suc c) n) (λ l. answered (ks ∷ l)))

  -- question 12, then 13; then the main entry goes live
  unfoldable pub start : Answer State
  start = choose (eqb (length p.functions) 0) (λ _. refused 12) (λ _.
      if_answered (first_kinds_from 0 (length p.classes)) (λ l. state_of (go_live (entry p (main_function p)) (blank l))))
