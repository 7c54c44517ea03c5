-- What a store leaves of the program. Assumes nothing.
use mathlib.Core.Path.{◌≡◌, sym, ap, ◌∙◌}
use mathlib.Core.List.{List, [], ◌∷◌, ◌++◌}
use Prim.Native.Nat.{ℕ, ◌+◌, ◌*◌, ◌≤◌, ◌<◌}
use native.Mathlib.Omega.{arith}
use native.Mathlib.Decide.{ℕ_discrete}
use lib.ListN.{length, get_or}
use Rattle.kinds.specs.Kinds.{bit_of}
use Rattle.rules.specs.Program as P
use Rattle.rules.specs.Program.{terminated, listed_count}
use Rattle.memory.specs.Layout.{functions_most, classes_most, instructions_most, blocks_room}
use Rattle.program.specs.Layout.{insns_at, opnds_at, blocks_at, functions_at, classes_at, ivars_at, insn_words, function_words, class_words, ivar_row_words}
use Rattle.program.specs.Rows.{insn_at, instruction_at, fun_at, function_in, name_in, ivar_at, ivars_of, first_of, class_at, block_at, flag_at}
use Rattle.program.specs.View.{instructions_of, functions_of, classes_of, blocks_of, program_view, OwnsFrom, ProgramReady, ProgramOnly}
use Rattle.program.specs.declared.Counts.{Counts}
use Rattle.program.proofs.Tables.{tab_ext, tab-more, tab-length}
use Rattle.program.proofs.Areas.{Same, same-below, same_above, opnds-same}

-- the rows in use stay; of a block only its function
pub record Keeps (c : Counts) (m m' : List ℕ) : Type 0 where
  pub len_same : length m' ≡ length m
  pub insns : Same insns_at (insns_at + insn_words * c.insns) m m'
  pub opnds : Same opnds_at (opnds_at + 2 * c.opnds) m m'
  pub blocks : (b : ℕ) → b < c.blocks → get_or m' (blocks_at + 2 * b) 0 ≡ get_or m (blocks_at + 2 * b) 0
  pub functions : Same functions_at (functions_at + function_words * c.functions) m m'
  pub classes : Same classes_at (classes_at + class_words * c.classes) m m'
  pub ivars : Same ivars_at (ivars_at + ivar_row_words * c.classes) m m'

-- the flags of blocks stay
abbrev pub Flags : Counts → List ℕ → List ℕ → Type 0
Flags c m m' = (b : ℕ) → b < c.blocks → flag_at m' b ≡ flag_at m b

pub keeps_then : {c : Counts} {m m' m'' : List ℕ} → Keeps c m m' → Keeps c m' m'' → Keeps c m m''
keeps_then p q =
    record {
      len_same = q.len_same ∙ p.len_same;
      insns = λ k a e. q.insns k a e ∙ p.insns k a e;
      opnds = λ k a e. q.opnds k a e ∙ p.opnds k a e;
      blocks = λ b h. q.blocks b h ∙ p.blocks b h;
      functions = λ k a e. q.functions k a e ∙ p.functions k a e;
      classes = λ k a e. q.classes k a e ∙ p.classes k a e;
      ivars = λ k a e. q.ivars k a e ∙ p.ivars k a e;
    }

-- ---- the functions from which on methods stand

-- the functions' rows stay
pub owns-same : {m m' : List ℕ} {n k x : ℕ} → ((f : ℕ) → f < n → fun_at m' f ≡ fun_at m f) → OwnsFrom m n k x → OwnsFrom m' n k x
owns-same h o = record { high = o.high; owned = λ f g e. o.owned f g (rw (h f g) at e) }

-- a function more
pub owns-more : {m : List ℕ} {n k x : ℕ} → OwnsFrom m n k x → OwnsFrom m (n + 1) k x
owns-more {n = n} o =
    let high = o.high in
    record {
      high = omega arith;
      owned = λ f g e. elim (ℕ_discrete f n) [ yes z ↦ omega arith | no z ↦ o.owned f (omega arith) e ];
    }

-- ---- rows of tables that stay

module _ {m m' : List ℕ} {c : Counts} (r : ProgramReady m c) (K : Keeps c m m') where
  pub insn_keep : (i : ℕ) → i < c.insns → insn_at m' i ≡ insn_at m i
  unfolding insn_at
  insn_keep i h =
      rw (
        K.insns (insns_at + insn_words * i) (omega arith) (omega arith),
        K.insns (insns_at + insn_words * i + 1) (omega arith) (omega arith),
        K.insns (insns_at + insn_words * i + 2) (omega arith) (omega arith),
        K.insns (insns_at + insn_words * i + 3) (omega arith) (omega arith),
        K.insns (insns_at + insn_words * i + 4) (omega arith) (omega arith),
        K.insns (insns_at + insn_words * i + 5) (omega arith) (omega arith),
      )

  instruction-keep : (s : List ℕ) (i : ℕ) → i < c.insns → instruction_at s m' i ≡ instruction_at s m i
  unfolding instruction_at
  instruction-keep s i h =
      let g = r.ranges i h in
      rw (
        insn_keep i h,
        opnds-same m m' (opnds_at + 2 * (insn_at m i).first) (insn_at m i).count (λ k a e. K.opnds k (omega arith) (omega arith)),
      )

  pub instructions-keep : (s : List ℕ) → instructions_of s m' c.insns ≡ instructions_of s m c.insns
  unfolding instructions_of
  instructions-keep s = tab_ext (instruction_at s m') (instruction_at s m) c.insns (instruction-keep s)

  pub fun_keep : (f : ℕ) → f < c.functions → fun_at m' f ≡ fun_at m f
  unfolding fun_at
  fun_keep f h =
      rw (
        K.functions (functions_at + function_words * f) (omega arith) (omega arith),
        K.functions (functions_at + function_words * f + 1) (omega arith) (omega arith),
        K.functions (functions_at + function_words * f + 2) (omega arith) (omega arith),
        K.functions (functions_at + function_words * f + 3) (omega arith) (omega arith),
      )

  pub functions-keep : (s : List ℕ) → functions_of s m' c.functions ≡ functions_of s m c.functions
  unfolding functions_of
  functions-keep s =
      tab_ext (λ f. function_in s (fun_at m' f)) (λ f. function_in s (fun_at m f)) c.functions (λ f h. ap (function_in s) (fun_keep f h))

  pub ivars-keep : (k : ℕ) → k < c.classes → ivars_of m' k ≡ ivars_of m k
  ivars-keep k h = K.classes (classes_at + class_words * k + 2) (omega arith) (omega arith)

  pub firsts-keep : (k : ℕ) → k < c.classes → OwnsFrom m' c.functions k (first_of m' k)
  firsts-keep k h =
      rw (K.classes (classes_at + class_words * k + 3) (omega arith) (omega arith)) (owns-same fun_keep (r.firsts k h))

  pub class-keep : (s : List ℕ) (k : ℕ) → k < c.classes → class_at s m' k ≡ class_at s m k
  unfolding class_at
  class-keep s k h =
      let few = r.ivars k h in
      rw (
        K.classes (classes_at + class_words * k) (omega arith) (omega arith),
        K.classes (classes_at + class_words * k + 1) (omega arith) (omega arith),
        ivars-keep k h,
        tab_ext (λ j. name_in s (ivar_at m' k j)) (λ j. name_in s (ivar_at m k j)) (ivars_of m k)
            (λ j p.
            rw
            (K.ivars (ivars_at + ivar_row_words * k + 2 * j) (omega arith) (omega arith), K.ivars (ivars_at + ivar_row_words * k + 2 * j + 1) (omega arith) (omega arith))),
      )

  pub classes-keep : (s : List ℕ) → classes_of s m' c.classes ≡ classes_of s m c.classes
  unfolding classes_of
  classes-keep s = tab_ext (class_at s m') (class_at s m) c.classes (class-keep s)

  pub blocks-keep : blocks_of m' c.blocks ≡ blocks_of m c.blocks
  unfolding blocks_of block_at
  blocks-keep = tab_ext (block_at m') (block_at m) c.blocks (λ b h. rw (K.blocks b h))

  pub view_keep : (s : List ℕ) → program_view s m' c ≡ program_view s m c
  view_keep s = rw (functions-keep s, classes-keep s, blocks-keep, instructions-keep s)

  pub ready-keep : Flags c m m' → ProgramReady m' c
  ready-keep F =
      record {
        len_mem = rw K.len_same r.len_mem;
        functions = r.functions;
        classes = r.classes;
        blocks = r.blocks;
        insns = r.insns;
        listed = r.listed;
        opnds = r.opnds;
        ivars = λ k h. rw (ivars-keep k h) (r.ivars k h);
        ranges = λ i h. rw (insn_keep i h) (r.ranges i h);
        inside = λ i h. rw (insn_keep i h) (r.inside i h);
        flags = λ s b h. F b h ∙ r.flags s b h ∙ sym (ap (λ (p : P.Program). bit_of (terminated p b)) (view_keep s));
        listing = λ s. r.listing s ∙ sym (ap listed_count (view_keep s));
        firsts = firsts-keep;
      }

-- ---- areas that no row in use lies in

module _ {m : List ℕ} {c : Counts} (r : ProgramReady m c) where
  -- the operands in use end before the blocks
  pub opnds-end : opnds_at + 2 * c.opnds ≤ blocks_at
  opnds-end = omega (arith, r.opnds, r.listed, r.insns)

module _ {m m' : List ℕ} {c : Counts} (r : ProgramReady m c) where
  pub free_opnds : {lo hi : ℕ} → ProgramOnly lo hi m m' → opnds_at + 2 * c.opnds ≤ lo → hi ≤ blocks_at → Keeps c m m'
  free_opnds o l h =
      let i = r.insns in
      record {
        len_same = o.len_same;
        insns = same-below o insns_at (insns_at + insn_words * c.insns) (omega arith);
        opnds = same-below o opnds_at (opnds_at + 2 * c.opnds) (omega arith);
        blocks = λ b p. o.above (blocks_at + 2 * b) (omega arith);
        functions = same_above o functions_at (functions_at + function_words * c.functions) (omega arith);
        classes = same_above o classes_at (classes_at + class_words * c.classes) (omega arith);
        ivars = same_above o ivars_at (ivars_at + ivar_row_words * c.classes) (omega arith);
      }

  pub free_insns : ProgramOnly (insns_at + insn_words * c.insns) (insns_at + insn_words * c.insns + 6) m m' → c.insns < instructions_most → Keeps c m m'
  free_insns o h =
      record {
        len_same = o.len_same;
        insns = same-below o insns_at (insns_at + insn_words * c.insns) (omega arith);
        opnds = same_above o opnds_at (opnds_at + 2 * c.opnds) (omega arith);
        blocks = λ b p. o.above (blocks_at + 2 * b) (omega arith);
        functions = same_above o functions_at (functions_at + function_words * c.functions) (omega arith);
        classes = same_above o classes_at (classes_at + class_words * c.classes) (omega arith);
        ivars = same_above o ivars_at (ivars_at + ivar_row_words * c.classes) (omega arith);
      }

  pub free_blocks : ProgramOnly (blocks_at + 2 * c.blocks) (blocks_at + 2 * c.blocks + 2) m m' → c.blocks < blocks_room → Keeps c m m'
  free_blocks o h =
      let i = r.insns in
      let e = opnds-end r in
      record {
        len_same = o.len_same;
        insns = same-below o insns_at (insns_at + insn_words * c.insns) (omega arith);
        opnds = same-below o opnds_at (opnds_at + 2 * c.opnds) (omega arith);
        blocks = λ b p. o.below (blocks_at + 2 * b) (omega arith);
        functions = same_above o functions_at (functions_at + function_words * c.functions) (omega arith);
        classes = same_above o classes_at (classes_at + class_words * c.classes) (omega arith);
        ivars = same_above o ivars_at (ivars_at + ivar_row_words * c.classes) (omega arith);
      }

  pub free_functions : ProgramOnly (functions_at + function_words * c.functions) (functions_at + function_words * c.functions + 4) m m' → c.functions < functions_most → Keeps c m m'
  free_functions o h =
      let i = r.insns in
      let e = opnds-end r in
      let n = r.blocks in
      record {
        len_same = o.len_same;
        insns = same-below o insns_at (insns_at + insn_words * c.insns) (omega arith);
        opnds = same-below o opnds_at (opnds_at + 2 * c.opnds) (omega arith);
        blocks = λ b p. o.below (blocks_at + 2 * b) (omega arith);
        functions = same-below o functions_at (functions_at + function_words * c.functions) (omega arith);
        classes = same_above o classes_at (classes_at + class_words * c.classes) (omega arith);
        ivars = same_above o ivars_at (ivars_at + ivar_row_words * c.classes) (omega arith);
      }

  pub free_classes : ProgramOnly (classes_at + class_words * c.classes) (classes_at + class_words * c.classes + 4) m m' → c.classes < classes_most → Keeps c m m'
  free_classes o h =
      let i = r.insns in
      let e = opnds-end r in
      let n = r.blocks in
      let f = r.functions in
      record {
        len_same = o.len_same;
        insns = same-below o insns_at (insns_at + insn_words * c.insns) (omega arith);
        opnds = same-below o opnds_at (opnds_at + 2 * c.opnds) (omega arith);
        blocks = λ b p. o.below (blocks_at + 2 * b) (omega arith);
        functions = same-below o functions_at (functions_at + function_words * c.functions) (omega arith);
        classes = same-below o classes_at (classes_at + class_words * c.classes) (omega arith);
        ivars = same_above o ivars_at (ivars_at + ivar_row_words * c.classes) (omega arith);
      }

-- flags stay where nothing of the blocks' table changes
pub flags-same : {lo hi : ℕ} {m m' : List ℕ} (c : Counts) → ProgramOnly lo hi m m' → hi ≤ blocks_at → Flags c m m'
flags-same c o h b p = o.above (blocks_at + 2 * b + 1) (omega arith)

pub flags-below : {lo hi : ℕ} {m m' : List ℕ} (c : Counts) → ProgramOnly lo hi m m' → blocks_at + 2 * c.blocks ≤ lo → Flags c m m'
flags-below c o h b p = o.below (blocks_at + 2 * b + 1) (omega arith)

-- ---- one row more

pub instructions-more : (s m : List ℕ) (n : ℕ) → instructions_of s m (n + 1) ≡ instructions_of s m n ++ instruction_at s m n ∷ []
unfolding instructions_of
instructions-more s m n = tab-more (instruction_at s m) n

pub functions_more : (s m : List ℕ) (n : ℕ) → functions_of s m (n + 1) ≡ functions_of s m n ++ function_in s (fun_at m n) ∷ []
unfolding functions_of
functions_more s m n = tab-more (λ f. function_in s (fun_at m f)) n

pub classes-more : (s m : List ℕ) (n : ℕ) → classes_of s m (n + 1) ≡ classes_of s m n ++ class_at s m n ∷ []
unfolding classes_of
classes-more s m n = tab-more (class_at s m) n

pub blocks_more : (m : List ℕ) (n : ℕ) → blocks_of m (n + 1) ≡ blocks_of m n ++ block_at m n ∷ []
unfolding blocks_of
blocks_more m n = tab-more (block_at m) n

-- ---- lengths

pub instructions-length : (s m : List ℕ) (n : ℕ) → length (instructions_of s m n) ≡ n
unfolding instructions_of
instructions-length s m n = tab-length (instruction_at s m) n

pub functions-length : (s m : List ℕ) (n : ℕ) → length (functions_of s m n) ≡ n
unfolding functions_of
functions-length s m n = tab-length (λ f. function_in s (fun_at m f)) n

pub classes-length : (s m : List ℕ) (n : ℕ) → length (classes_of s m n) ≡ n
unfolding classes_of
classes-length s m n = tab-length (class_at s m) n

pub blocks-length : (m : List ℕ) (n : ℕ) → length (blocks_of m n) ≡ n
unfolding blocks_of
blocks-length m n = tab-length (block_at m) n
