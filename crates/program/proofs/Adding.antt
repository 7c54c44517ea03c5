-- Blocks, functions and classes that are added. Assumes nothing.
use mathlib.Core.Bool.{Bool, true, false, ◌&&◌}
use mathlib.Core.Path.{◌≡◌, refl, sym, ap, ap₂, ◌∙◌}
use mathlib.Core.List.{List, [], ◌∷◌, ◌++◌}
use Prim.Native.Nat.{ℕ, zero, suc, ◌+◌, ◌*◌, ◌≤◌, ◌<◌}
use native.Mathlib.Omega.{arith}
use native.Mathlib.Decide.{ℕ_discrete}
use lib.Dec.{eqb, ltb}
use lib.ListN.{length, get_or}
use borrow.Author.Tests.{lt-ltb, le-ltb, ne_eqb}
use Rattle.kinds.specs.Kinds.{bit_of}
use Rattle.ids.specs.declared.BlockId.{BlockId}
use Rattle.rules.specs.Actions.{answered, refused}
use Rattle.rules.specs.Lists.{any}
use Rattle.rules.specs.Program as P
use Rattle.rules.specs.Program.{is_terminator, terminated, listed_count}
use Rattle.rules.specs.Reading.{Parser, with_program, with_class, new_block_of, new_fun, new_class}
use Rattle.lexer.specs.Names.{name}
use Rattle.memory.specs.Layout.{functions_most, ivars_most}
use Rattle.program.specs.Layout.{classes_at, program_size, class_words}
use Rattle.program.specs.Tab.{tab}
use Rattle.program.specs.Rows.{insn_at, instruction_at, function_in, name_in, owner_in, class_at, ivar_at, ivars_of, first_of, flag_at}
use Rattle.program.specs.View.{instructions_of, functions_of, classes_of, blocks_of, program_view, OwnsFrom, ProgramReady, limits_of, PutsBlock, PutsFun, PutsClass, ProgramDid, DidFun, Starts}
use Rattle.program.specs.View.{grew, stopped, block_for, fun_for, class_for, unchanged, more_blocks, more_functions, more_classes}
use Rattle.program.specs.declared.Counts.{Counts}
use Rattle.program.specs.declared.bounds.Limits.{Limits}
use Rattle.program.specs.declared.Name.{Name}
use Rattle.std.specs.Prelude.{Option, Ok, Err}
use Rattle.refusals.specs.Refusals.{number_of}
use Rattle.refusals.specs.declared.Refusal.{Refusal}
use Rattle.refusals.specs.declared.Refusal.TheVariants.{OverLimit}
use Rattle.ids.specs.declared.ClassId.{ClassId}
use Rattle.program.specs.declared.Function.{Function}
use Rattle.program.proofs.Committing.{any_snoc}
use Rattle.program.proofs.Viewing.{Keeps, owns-same, owns-more, insn_keep, fun_keep, ivars-keep, firsts-keep, instructions-keep, functions-keep, classes-keep, blocks-keep, free_blocks}
use Rattle.program.proofs.Viewing.{free_functions, free_classes, flags-below, functions_more, classes-more, blocks_more, functions-length, classes-length, blocks-length}

-- what the rules ask of a program's instructions alone
pub terminated-same : (p q : P.Program) (b : ℕ) → p.instructions ≡ q.instructions → terminated p b ≡ terminated q b
unfolding terminated
terminated-same p q b e = rw e

pub listed_same : (p q : P.Program) → p.instructions ≡ q.instructions → listed_count p ≡ listed_count q
unfolding listed_count
listed_same p q e = rw e

any_none : {A : Type 0} (t : A → Bool) (f : ℕ → A) (n : ℕ) → ((i : ℕ) → i < n → t (f i) ≡ false) → any t (tab f n) ≡ false
unfolding tab
any_none t f zero h = refl
any_none t f (suc n) h = any_snoc t (tab f n) (f n) ∙ rw (any_none t f n (λ i p. h i (omega arith)), h n (omega arith))

-- no instruction stands in a block that is not there yet
open_block : {m : List ℕ} {c : Counts} → ProgramReady m c → (s : List ℕ) → terminated (program_view s m c) c.blocks ≡ false
unfolding terminated instructions_of instruction_at
open_block {m = m} {c = c} r s =
    any_none (λ (x : P.Instruction). eqb x.block c.blocks && is_terminator x.op) (instruction_at s m) c.insns
    (λ i h. rw (ne_eqb (insn_at m i).block.0 c.blocks (λ e. omega (arith, r.inside i h))))

old_or_new : (P : ℕ → Type 0) (n : ℕ) → ((i : ℕ) → i < n → P i) → P n → (i : ℕ) → i < n + 1 → P i
old_or_new P n f g i h = elim (ℕ_discrete i n) [ yes e ↦ rw e g | no e ↦ f i (omega arith) ]

-- ---- a block

module _ {m m' : List ℕ} {c : Counts} (l : Limits) (f : ℕ) (r : ProgramReady m c) (few : c.blocks < l.blocks) (p : PutsBlock c.blocks f m m') where
  block_keeps : Keeps c m m'
  block_keeps = free_blocks r p.only (omega (arith, l.small.blocks))

  block_view : (s : List ℕ) → program_view s m' (more_blocks c) ≡ P.with_block f (program_view s m c)
  block_view s =
      rw (
        blocks_more m' c.blocks,
        functions-keep r block_keeps s,
        classes-keep r block_keeps s,
        blocks-keep r block_keeps,
        instructions-keep r block_keeps s,
        p.here,
      )

  pub block-ready : ProgramReady m' (more_blocks c)
  block-ready =
      let K = block_keeps in
      record {
        len_mem = rw K.len_same r.len_mem;
        functions = r.functions;
        classes = r.classes;
        blocks = omega (arith, l.small.blocks);
        insns = r.insns;
        listed = r.listed;
        opnds = r.opnds;
        ivars = λ k h. rw (ivars-keep r K k h) (r.ivars k h);
        ranges = λ i h. rw (insn_keep r K i h) (r.ranges i h);
        inside = λ i h. rw (insn_keep r K i h) (omega (arith, r.inside i h));
        flags = λ s.
            let same = instructions-keep r K s in
            old_or_new (λ b. flag_at m' b ≡ bit_of (terminated (program_view s m' (more_blocks c)) b)) c.blocks
            (λ b h.
            flags-below c p.only (omega arith) b h ∙ r.flags s b h
            ∙ ap bit_of (sym (terminated-same (program_view s m' (more_blocks c)) (program_view s m c) b same)))
            (p.flag ∙ ap bit_of (sym (terminated-same (program_view s m' (more_blocks c)) (program_view s m c) c.blocks same ∙ open_block r s)));
        listing = λ s. r.listing s ∙ sym (listed_same (program_view s m' (more_blocks c)) (program_view s m c) (instructions-keep r K s));
        firsts = firsts-keep r K;
      }

  pub block_grew : ProgramDid (block_for (limits_of l) f) unchanged c.blocks (more_blocks c) m c m' (grew c.blocks (more_blocks c))
  unfolding new_block_of
  block_grew =
      record {
        is = λ s q.
            rw (blocks-length m c.blocks, lt-ltb c.blocks l.blocks few)
            (ap (λ (v : P.Program). answered (c.blocks, with_program v q)) (block_view s));
        ok = record { number = refl; counts = refl; ready = block-ready };
      }

pub block-stop : (l : Limits) (m : List ℕ) (c : Counts) (f : ℕ) → l.blocks ≤ c.blocks → ProgramDid (block_for (limits_of l) f) unchanged c.blocks (more_blocks c) m c m (stopped 11)
unfolding new_block_of
block-stop l m c f h = record { is = λ s q. rw (blocks-length m c.blocks, le-ltb c.blocks l.blocks h); ok = tt }

-- ---- a function

module _ {m m' : List ℕ} {c : Counts} (x : Function) (r : ProgramReady m c) (few : c.functions < functions_most) (p : PutsFun c.functions x m m') where
  fun_keeps : Keeps c m m'
  fun_keeps = free_functions r p.only few

  fun_view : (s : List ℕ) → program_view s m' (more_functions c) ≡ P.with_function (function_in s x) (program_view s m c)
  fun_view s =
      rw (
        functions_more s m' c.functions,
        functions-keep r fun_keeps s,
        classes-keep r fun_keeps s,
        blocks-keep r fun_keeps,
        instructions-keep r fun_keeps s,
        p.here,
      )

  fun_ready : ProgramReady m' (more_functions c)
  fun_ready =
      let K = fun_keeps in
      let b = r.blocks in
      record {
        len_mem = rw K.len_same r.len_mem;
        functions = omega arith;
        classes = r.classes;
        blocks = r.blocks;
        insns = r.insns;
        listed = r.listed;
        opnds = r.opnds;
        ivars = λ k h. rw (ivars-keep r K k h) (r.ivars k h);
        ranges = λ i h. rw (insn_keep r K i h) (r.ranges i h);
        inside = λ i h. rw (insn_keep r K i h) (r.inside i h);
        flags = λ s b h.
            flags-below c p.only (omega (arith, r.blocks)) b h ∙ r.flags s b h
            ∙ ap bit_of (sym (terminated-same (program_view s m' (more_functions c)) (program_view s m c) b (instructions-keep r K s)));
        listing = λ s. r.listing s ∙ sym (listed_same (program_view s m' (more_functions c)) (program_view s m c) (instructions-keep r K s));
        firsts = λ k h. owns-more (firsts-keep r K k h);
      }

-- the code asks for the function before the block; the rules ask in the other order, and both refusals are one
module _ {m : List ℕ} {c : Counts} (l : Limits) (n : Name) (k : Option ClassId) where
  pub fun_full : l.functions ≤ c.functions → DidFun l n k m c m c (Err OverLimit)
  unfolding new_fun new_block_of
  fun_full h = record { did = record { is = λ s r. go s r (ltb c.blocks l.blocks) refl; ok = tt }; entry = tt }
    where
      go : (s : List ℕ) (r : Parser) (t : Bool) → ltb c.blocks l.blocks ≡ t → refused 11 ≡ fun_for (limits_of l) n k s (with_program (program_view s m c) r)
      go s r false e = rw (functions-length s m c.functions, blocks-length m c.blocks, e)
      go s r true e = rw (functions-length s m c.functions, blocks-length m c.blocks, e, le-ltb c.functions l.functions h)

  module _ {m1 : List ℕ} {c1 : Counts} where
    pub fun_no_block : {e : Refusal} → ProgramDid (block_for (limits_of l) c.functions) unchanged c.blocks (more_blocks c) m c m1 (stopped (number_of e)) → DidFun l n k m c m1 c1 (Err e)
    unfolding new_fun
    fun_no_block d =
        record {
          did = record { is = λ s r. rw (functions-length s m c.functions, ← d.is s (with_class (owner_in k) r)); ok = tt };
          entry = tt;
        }

    module _ {b : BlockId} (few : c.functions < l.functions) (d : ProgramDid (block_for (limits_of l) c.functions) unchanged c.blocks (more_blocks c) m c m1 (grew b.0 c1)) where
      pub fun_grew : {m2 : List ℕ} → PutsFun c.functions (record { name = n; class = k; entry = b }) m1 m2
          → DidFun l n k m c m2 (more_functions c1) (Ok (record { 0 = c.functions }, b))
      unfolding new_fun
      fun_grew p =
          let counts = d.ok.counts in
          let ready : ProgramReady m1 (more_blocks c) = rw counts at d.ok.ready in
          let x : Function = record { name = n; class = k; entry = b } in
          let room : c.functions < functions_most = omega (arith, l.small.functions) in
          rw counts
          (record {
            did =
                record {
                  is = λ s r.
                      rw (
                        functions-length s m c.functions,
                        ← rw counts at (d.is s (with_class (owner_in k) r)),
                        lt-ltb c.functions l.functions few,
                        fun_view x ready room p s,
                        d.ok.number,
                      );
                  ok = record { number = refl; counts = refl; ready = fun_ready x ready room p };
                };
            entry = d.ok.number;
          })

      pub fun_after : {m2 : List ℕ} → PutsFun c.functions (record { name = n; class = k; entry = b }) m1 m2 → ProgramReady m2 (more_functions c1)
      fun_after p = (fun_grew p).did.ok.ready

-- ---- a class

module _ {m m' : List ℕ} {c : Counts} (l : Limits) (n : Name) (r : ProgramReady m c) (few : c.classes < l.classes) {a : ℕ}
    (owns : OwnsFrom m c.functions c.classes a) (p : PutsClass c.classes n a m m') where
  class_keeps : Keeps c m m'
  class_keeps = free_classes r p.only (omega (arith, l.small.classes))

  class-new : (s : List ℕ) → class_at s m' c.classes ≡ record { name = name_in s n; ivars = [] }
  unfolding class_at tab
  class-new s =
      ap₂ {C = P.Class} (λ a b. record { name = a; ivars = b }) (ap (name_in s) p.here) (ap (tab (λ j. name_in s (ivar_at m' c.classes j))) p.none)

  class_view : (s : List ℕ) → program_view s m' (more_classes c) ≡ P.with_classes (classes_of s m c.classes ++ record { name = name_in s n; ivars = [] } ∷ []) (program_view s m c)
  class_view s =
      rw (
        classes-more s m' c.classes,
        functions-keep r class_keeps s,
        classes-keep r class_keeps s,
        blocks-keep r class_keeps,
        instructions-keep r class_keeps s,
        class-new s,
      )

  pub class-ready : ProgramReady m' (more_classes c)
  class-ready =
      let K = class_keeps in
      let b = r.blocks in
      record {
        len_mem = rw K.len_same r.len_mem;
        functions = r.functions;
        classes = omega (arith, l.small.classes);
        blocks = r.blocks;
        insns = r.insns;
        listed = r.listed;
        opnds = r.opnds;
        ivars =
            old_or_new (λ k. ivars_of m' k ≤ ivars_most) c.classes (λ k h. rw (ivars-keep r K k h) (r.ivars k h)) (omega (arith, p.none));
        ranges = λ i h. rw (insn_keep r K i h) (r.ranges i h);
        inside = λ i h. rw (insn_keep r K i h) (r.inside i h);
        flags = λ s b h.
            flags-below c p.only (omega (arith, r.blocks)) b h ∙ r.flags s b h
            ∙ ap bit_of (sym (terminated-same (program_view s m' (more_classes c)) (program_view s m c) b (instructions-keep r K s)));
        listing = λ s. r.listing s ∙ sym (listed_same (program_view s m' (more_classes c)) (program_view s m c) (instructions-keep r K s));
        firsts =
            old_or_new (λ k. OwnsFrom m' c.functions k (first_of m' k)) c.classes (firsts-keep r K)
            (rw p.first (owns-same (fun_keep r K) owns));
      }

  pub class-grew : ProgramDid (class_for (limits_of l) n) unchanged c.classes (more_classes c) m c m' (grew c.classes (more_classes c))
  unfolding new_class
  class-grew =
      record {
        is = λ s q.
            rw (classes-length s m c.classes, lt-ltb c.classes l.classes few)
            (ap (λ (v : P.Program). answered (c.classes, with_program v q)) (class_view s));
        ok = record { number = refl; counts = refl; ready = class-ready };
      }

pub class-stop : (l : Limits) (m : List ℕ) (c : Counts) (n : Name) → l.classes ≤ c.classes
    → ProgramDid (class_for (limits_of l) n) unchanged c.classes (more_classes c) m c m (stopped 11)
unfolding new_class
class-stop l m c n h = record { is = λ s q. rw (classes-length s m c.classes, le-ltb c.classes l.classes h); ok = tt }

-- ---- the start

-- a class without a name and without attributes
empty_class : (s m : List ℕ) (k : ℕ) → get_or m (classes_at + class_words * k + 1) 0 ≡ 0 → ivars_of m k ≡ 0 → class_at s m k ≡ P.built_in
unfolding class_at tab name
empty_class s m k e f =
    ap₂ {C = P.Class} (λ a b. record { name = a; ivars = b }) (ap (λ (n : ℕ). name s (get_or m (classes_at + class_words * k) 0) n) e)
    (ap (tab (λ j. name_in s (ivar_at m k j))) f)

-- the row of class k stays while those of later classes are stored
row_stays : {k j : ℕ} {x : Name} {f : ℕ} {m m' : List ℕ} → PutsClass j x f m m' → k < j → (d : ℕ) → d < 4
    → get_or m' (classes_at + class_words * k + d) 0 ≡ get_or m (classes_at + class_words * k + d) 0
row_stays {k = k} p h d g = p.only.below (classes_at + class_words * k + d) (omega arith)

pub starts_is : {m m1 m2 m3 m4 : List ℕ} (x : Name) → x.len ≡ 0 → program_size ≤ length m → PutsClass 0 x 0 m m1 → PutsClass 1 x 0 m1 m2 → PutsClass 2 x 0 m2 m3 → PutsClass 3 x 0 m3 m4
    → Starts m4 (record { functions = 0; classes = 4; blocks = 0; insns = 0; opnds = 0; listed = 0 })
unfolding instructions_of functions_of classes_of blocks_of listed_count tab
starts_is {m4 = m4} x z long p0 p1 p2 p3 =
    let len0 : get_or m4 (classes_at + class_words * 0 + 1) 0 ≡ 0 =
    row_stays {k = 0} p3 (omega arith) 1 (omega arith) ∙ row_stays {k = 0} p2 (omega arith) 1 (omega arith) ∙ row_stays {k = 0} p1 (omega arith) 1 (omega arith)
    ∙ ap (λ (n : Name). n.len) p0.here ∙ z in
    let len1 : get_or m4 (classes_at + class_words * 1 + 1) 0 ≡ 0 =
    row_stays {k = 1} p3 (omega arith) 1 (omega arith) ∙ row_stays {k = 1} p2 (omega arith) 1 (omega arith) ∙ ap (λ (n : Name). n.len) p1.here ∙ z in
    let len2 : get_or m4 (classes_at + class_words * 2 + 1) 0 ≡ 0 = row_stays {k = 2} p3 (omega arith) 1 (omega arith) ∙ ap (λ (n : Name). n.len) p2.here ∙ z in
    let len3 : get_or m4 (classes_at + class_words * 3 + 1) 0 ≡ 0 = ap (λ (n : Name). n.len) p3.here ∙ z in
    let none0 : ivars_of m4 0 ≡ 0 =
    row_stays {k = 0} p3 (omega arith) 2 (omega arith) ∙ row_stays {k = 0} p2 (omega arith) 2 (omega arith) ∙ row_stays {k = 0} p1 (omega arith) 2 (omega arith)
    ∙ p0.none in
    let none1 : ivars_of m4 1 ≡ 0 = row_stays {k = 1} p3 (omega arith) 2 (omega arith) ∙ row_stays {k = 1} p2 (omega arith) 2 (omega arith) ∙ p1.none in
    let none2 : ivars_of m4 2 ≡ 0 = row_stays {k = 2} p3 (omega arith) 2 (omega arith) ∙ p2.none in
    let first0 : first_of m4 0 ≡ 0 =
    row_stays {k = 0} p3 (omega arith) 3 (omega arith) ∙ row_stays {k = 0} p2 (omega arith) 3 (omega arith) ∙ row_stays {k = 0} p1 (omega arith) 3 (omega arith)
    ∙ p0.first in
    let first1 : first_of m4 1 ≡ 0 = row_stays {k = 1} p3 (omega arith) 3 (omega arith) ∙ row_stays {k = 1} p2 (omega arith) 3 (omega arith) ∙ p1.first in
    let first2 : first_of m4 2 ≡ 0 = row_stays {k = 2} p3 (omega arith) 3 (omega arith) ∙ p2.first in
    record {
      is = λ s. rw (empty_class s m4 0 len0 none0, empty_class s m4 1 len1 none1, empty_class s m4 2 len2 none2, empty_class s m4 3 len3 p3.none);
      ok =
          record {
            len_mem = omega (arith, p0.only.len_same, p1.only.len_same, p2.only.len_same, p3.only.len_same);
            functions = omega arith;
            classes = omega arith;
            blocks = omega arith;
            insns = omega arith;
            listed = omega arith;
            opnds = omega arith;
            ivars = below_four (λ k. ivars_of m4 k) ivars_most none0 none1 none2 p3.none;
            ranges = λ i h. absurd (omega arith);
            inside = λ i h. absurd (omega arith);
            flags = λ s b h. absurd (omega arith);
            listing = λ s. refl;
            firsts = λ k h. record { high = below_four (λ k. first_of m4 k) 0 first0 first1 first2 p3.first k h; owned = λ f g e. absurd (omega arith) };
          };
    }
  where
    below_four : (w : ℕ → ℕ) (n : ℕ) → w 0 ≡ 0 → w 1 ≡ 0 → w 2 ≡ 0 → w 3 ≡ 0 → (k : ℕ) → k < 4 → w k ≤ n
    below_four w n a b c d zero h = omega arith
    below_four w n a b c d (suc zero) h = omega arith
    below_four w n a b c d (suc (suc zero)) h = omega arith
    below_four w n a b c d (suc (suc (suc zero))) h = omega arith
    below_four w n a b c d (suc (suc (suc (suc k)))) h = absurd (omega arith)
