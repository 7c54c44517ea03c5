-- An instruction that is added: what the row and the flag make of the program. Assumes nothing.
use mathlib.Core.Bool.{Bool, true, false, cond, ◌&&◌, ◌||◌, or-true, or-false, or_assoc}
use mathlib.Core.Path.{◌≡◌, refl, sym, ap, ◌∙◌}
use mathlib.Core.List.{List, [], ◌∷◌, ◌++◌, map}
use Prim.Native.Nat.{ℕ, ◌+◌, ◌*◌, ◌≤◌, ◌<◌}
use native.Mathlib.Omega.{arith}
use native.Mathlib.Decide.{ℕ_discrete}
use lib.Dec.{eqb}
use lib.ListN.{length, set, length-set, length-drop}
use lib.Seq.{get_or-set_same, get_or-set_other}
use borrow.Author.Tests.{eq-eqb, ne_eqb}
use Rattle.kinds.specs.Kinds.{bit_of}
use Rattle.ids.specs.declared.BlockId.{BlockId}
use Rattle.rules.specs.Lists.{any}
use Rattle.rules.specs.Program as P
use Rattle.rules.specs.Program.{about, is_terminator, terminated, listed_count}
use Rattle.rules.proofs.Wellformed.Tables.{sum_snoc}
use Rattle.memory.specs.Layout.{instructions_most}
use Rattle.program.specs.Layout.{insns_at, opnds_at, blocks_at, insn_words}
use Rattle.program.specs.Rows.{opnds_in, opnd_of, op_in, listed_in, ends_block, insn_at, instruction_at, flag_at}
use Rattle.program.specs.View.{program_view, ProgramReady, PutsRow, ProgramRoom, Commits, more_insns}
use Rattle.program.specs.declared.Counts.{Counts}
use Rattle.program.specs.declared.Row.{Row}
use Rattle.program.specs.declared.Op.{Op}
use Rattle.program.proofs.Areas.{Same, opnds-same, given-length, same_above}
use Rattle.program.proofs.Viewing.{Keeps, ready-keep, keeps_then, insn_keep, ivars-keep, firsts-keep, instructions-keep, functions-keep, classes-keep, blocks-keep, free_insns, opnds-end, flags-same}
use Rattle.program.proofs.Viewing.{instructions-more}

-- ---- what the rules ask of one instruction more

pub any_snoc : {A : Type 0} (f : A → Bool) (l : List A) (x : A) → any f (l ++ x ∷ []) ≡ (any f l || f x)
any_snoc f [] x = or-false (f x)
any_snoc f (y ∷ l) x = rw (any_snoc f l x) (sym (or_assoc (f y) (any f l) (f x)))

pub terminated-more : (p : P.Program) (x : P.Instruction) (b : ℕ)
    → terminated (P.with_instruction x p) b ≡ (terminated p b || (eqb x.block b && is_terminator x.op))
unfolding terminated
terminated-more p x b = any_snoc (λ (y : P.Instruction). eqb y.block b && is_terminator y.op) p.instructions x

pub listed_more : (p : P.Program) (x : P.Instruction) → listed_count (P.with_instruction x p) ≡ listed_count p + length (about x.op).listed
unfolding listed_count
listed_more p x = sum_snoc (λ (y : P.Instruction). length (about y.op).listed) p.instructions x

pub ends_is : (s : List ℕ) (o : Op) (l : List P.Opnd) → is_terminator (op_in s o l) ≡ ends_block o
ends_is s o l = grind arith

pub listed-is : (s : List ℕ) (o : Op) (l : List P.Opnd) → length (about (op_in s o l)).listed ≡ listed_in o (length l)
listed-is s o l = grind (arith, length-drop)

-- ---- truths

plain : (t a f : Bool) → f ≡ false → (t || (a && f)) ≡ t
plain true a f e = refl
plain false true f e = e
plain false false f e = refl

-- ---- the flag of a block

row_apart : (l : List ℕ) (k : ℕ) → k < instructions_most → (at v : ℕ) → blocks_at ≤ at → insn_at (set l at v) k ≡ insn_at l k
unfolding insn_at
row_apart l k h at v a =
    rw (
      get_or-set_other l at (insns_at + insn_words * k) v 0 (λ z. omega arith),
      get_or-set_other l at (insns_at + insn_words * k + 1) v 0 (λ z. omega arith),
      get_or-set_other l at (insns_at + insn_words * k + 2) v 0 (λ z. omega arith),
      get_or-set_other l at (insns_at + insn_words * k + 3) v 0 (λ z. omega arith),
      get_or-set_other l at (insns_at + insn_words * k + 4) v 0 (λ z. omega arith),
      get_or-set_other l at (insns_at + insn_words * k + 5) v 0 (λ z. omega arith),
    )

flag_is : (l : List ℕ) (g d : ℕ) → blocks_at + 2 * g + 1 < length l → (t f : Bool) → flag_at l d ≡ bit_of t → f ≡ true
    → flag_at (set l (blocks_at + 2 * g + 1) 1) d ≡ bit_of (t || (eqb g d && f))
flag_is l g d long t f e x =
    elim (ℕ_discrete g d) [
      | yes y ↦ rw (eq-eqb g d y, x, ← y) (get_or-set_same l (blocks_at + 2 * g + 1) 1 0 long ∙ sym (ap bit_of (or-true t)))
      | no y ↦
          rw (ne_eqb g d y)
          (get_or-set_other l (blocks_at + 2 * g + 1) (blocks_at + 2 * d + 1) 1 0 (λ z. y (omega arith)) ∙ e ∙ sym (ap bit_of (or-false t)))
    ]

flag_keeps : {m : List ℕ} {c : Counts} → ProgramReady m c → (l : List ℕ) (d : ℕ) → d < c.blocks → Keeps c l (set l (blocks_at + 2 * d + 1) 1)
flag_keeps {c = c} r l d h =
    let i = r.insns in
    let e = opnds-end r in
    let n = r.blocks in
    record {
      len_same = length-set l (blocks_at + 2 * d + 1) 1;
      insns = λ k p q. get_or-set_other l (blocks_at + 2 * d + 1) k 1 0 (λ z. omega arith);
      opnds = λ k p q. get_or-set_other l (blocks_at + 2 * d + 1) k 1 0 (λ z. omega arith);
      blocks = λ g p. get_or-set_other l (blocks_at + 2 * d + 1) (blocks_at + 2 * g) 1 0 (λ z. omega arith);
      functions = λ k p q. get_or-set_other l (blocks_at + 2 * d + 1) k 1 0 (λ z. omega arith);
      classes = λ k p q. get_or-set_other l (blocks_at + 2 * d + 1) k 1 0 (λ z. omega arith);
      ivars = λ k p q. get_or-set_other l (blocks_at + 2 * d + 1) k 1 0 (λ z. omega arith);
    }

-- ---- the row

module _ {m : List ℕ} {c : Counts} (b : BlockId) (o : Op) (n : ℕ) (r : ProgramReady m c) (room : ProgramRoom b.0 o n c) where
  -- the rules' instruction
  abbrev new : List ℕ → P.Instruction
  new s = record { block = b.0; op = op_in s o (map opnd_of (opnds_in m (opnds_at + 2 * c.opnds) n)) }

  new-listed : (s : List ℕ) → length (about (new s).op).listed ≡ listed_in o n
  new-listed s =
      listed-is s o (map opnd_of (opnds_in m (opnds_at + 2 * c.opnds) n))
      ∙ ap (listed_in o) (given-length m (opnds_at + 2 * c.opnds) n)

  module _ {m' : List ℕ} (K : Keeps c m m') (operands : Same opnds_at blocks_at m m')
      (here : insn_at m' c.insns ≡ record { block = b; op = o; first = c.opnds; count = n }) where
    new_is : (s : List ℕ) → instruction_at s m' c.insns ≡ new s
    unfolding instruction_at
    new_is s =
        let fits : opnds_at + 2 * c.opnds + 2 * n ≤ blocks_at = omega (arith, r.opnds, room.listed, room.opnds, room.insns) in
        rw
        (here, opnds-same m m' (opnds_at + 2 * c.opnds) n (λ k p q. operands k (omega arith) (omega arith)))

    commit_view : (s : List ℕ) → program_view s m' (more_insns o n c) ≡ P.with_instruction (new s) (program_view s m c)
    commit_view s =
        rw (instructions-more s m' c.insns, functions-keep r K s, classes-keep r K s, blocks-keep r K, instructions-keep r K s, new_is s)

    old_or_new : (P : ℕ → Type 0) → ((i : ℕ) → i < c.insns → P i) → P c.insns → (i : ℕ) → i < c.insns + 1 → P i
    old_or_new P f g i h = elim (ℕ_discrete i c.insns) [ yes e ↦ rw e g | no e ↦ f i (omega arith) ]

    commit_ready : ((s : List ℕ) (d : ℕ) → d < c.blocks → flag_at m' d ≡ bit_of (terminated (P.with_instruction (new s) (program_view s m c)) d)) → ProgramReady m' (more_insns o n c)
    commit_ready F =
        record {
          len_mem = rw K.len_same r.len_mem;
          functions = r.functions;
          classes = r.classes;
          blocks = r.blocks;
          insns = omega (arith, room.insns);
          listed = room.listed;
          opnds = omega (arith, r.opnds, room.opnds);
          ivars = λ k h. rw (ivars-keep r K k h) (r.ivars k h);
          ranges =
              old_or_new (λ i. (insn_at m' i).first + (insn_at m' i).count ≤ c.opnds + n)
              (λ i h. rw (insn_keep r K i h) (omega (arith, r.ranges i h))) (rw here (omega arith));
          inside = old_or_new (λ i. (insn_at m' i).block.0 < c.blocks) (λ i h. rw (insn_keep r K i h) (r.inside i h)) (rw here room.block);
          flags = λ s d h. F s d h ∙ sym (ap (λ (p : P.Program). bit_of (terminated p d)) (commit_view s));
          listing = λ s.
              ap (λ (k : ℕ). k + listed_in o n) (r.listing s)
              ∙ ap (λ (k : ℕ). listed_count (program_view s m c) + k) (sym (new-listed s))
              ∙ sym (listed_more (program_view s m c) (new s))
              ∙ sym (ap listed_count (commit_view s));
          firsts = firsts-keep r K;
        }

  -- an instruction that ends no block
  pub commit_plain : {m' : List ℕ} {e : Bool} {k : ℕ} → k ≡ listed_in o n → PutsRow c.insns (record { block = b; op = o; first = c.opnds; count = n }) m m'
      → e ≡ ends_block o → e ≡ false
      → Commits b.0 o n m c m' (record { functions = c.functions; classes = c.classes; blocks = c.blocks; insns = c.insns + 1; opnds = c.opnds + n; listed = c.listed + k })
  commit_plain {m' = m'} listed w p q =
      rw listed
      (
      let K = free_insns r w.only room.insns in
      let i = room.insns in
      let S = same_above w.only opnds_at blocks_at (omega arith) in
      record {
        is = commit_view K S w.here;
        ok =
            commit_ready K S w.here
            (λ s d h.
            flags-same c w.only (omega arith) d h ∙ r.flags s d h
            ∙ ap bit_of
            (sym (terminated-more (program_view s m c) (new s) d ∙ plain (terminated (program_view s m c) d) (eqb b.0 d) (is_terminator (new s).op) (ends_is s o _ ∙ sym p ∙ q))));
        counts = refl;
      })

  -- one that ends its block
  pub commit_end : {m' : List ℕ} {e : Bool} {k : ℕ} → k ≡ listed_in o n → PutsRow c.insns (record { block = b; op = o; first = c.opnds; count = n }) m m'
      → e ≡ ends_block o → e ≡ true
      → Commits b.0 o n m c (set m' (blocks_at + 2 * b.0 + 1) 1)
      (record { functions = c.functions; classes = c.classes; blocks = c.blocks; insns = c.insns + 1; opnds = c.opnds + n; listed = c.listed + k })
  commit_end {m' = m'} listed w p q =
      rw listed
      (
      let i = room.insns in
      let K1 = free_insns r w.only i in
      let at = blocks_at + 2 * b.0 + 1 in
      let K : Keeps c m (set m' at 1) = keeps_then K1 (flag_keeps r m' b.0 room.block) in
      let S : Same opnds_at blocks_at m (set m' at 1) = λ k x y. get_or-set_other m' at k 1 0 (λ z. omega arith) ∙ same_above w.only opnds_at blocks_at (omega arith) k x y in
      let H : insn_at (set m' at 1) c.insns ≡ record { block = b; op = o; first = c.opnds; count = n } = row_apart m' c.insns i at 1 (omega arith) ∙ w.here in
      record {
        is = commit_view K S H;
        ok =
            commit_ready K S H
            (λ s d h.
            flag_is m' b.0 d (omega (arith, r.len_mem, r.blocks, room.block, w.only.len_same)) (terminated (program_view s m c) d) (is_terminator (new s).op)
            (flags-same c w.only (omega arith) d h ∙ r.flags s d h) (ends_is s o _ ∙ sym p ∙ q)
            ∙ ap bit_of (sym (terminated-more (program_view s m c) (new s) d)));
        counts = refl;
      })

  -- either, with the flag as the code leaves it
  pub commit_is : {m' m'' : List ℕ} {k : ℕ} → k ≡ listed_in o n → PutsRow c.insns (record { block = b; op = o; first = c.opnds; count = n }) m m'
      → m'' ≡ cond (ends_block o) (set m' (blocks_at + 2 * b.0 + 1) 1) m'
      → Commits b.0 o n m c m'' (record { functions = c.functions; classes = c.classes; blocks = c.blocks; insns = c.insns + 1; opnds = c.opnds + n; listed = c.listed + k })
  commit_is {m' = m'} {k = k} listed w e = rw e (go (ends_block o) refl)
    where
      go : (t : Bool) → t ≡ ends_block o
          → Commits b.0 o n m c (cond t (set m' (blocks_at + 2 * b.0 + 1) 1) m')
          (record { functions = c.functions; classes = c.classes; blocks = c.blocks; insns = c.insns + 1; opnds = c.opnds + n; listed = c.listed + k })
      go true f = commit_end listed w f refl
      go false f = commit_plain listed w f refl

-- the row alone, behind those in use
pub row-ready : {m m' : List ℕ} {c : Counts} {x : Row} → ProgramReady m c → c.insns < instructions_most → PutsRow c.insns x m m' → ProgramReady m' c
row-ready {c = c} r h w = ready-keep r (free_insns r w.only h) (flags-same c w.only (omega arith))
