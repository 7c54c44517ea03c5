-- An attribute that is declared. Assumes nothing.
use mathlib.Core.Bool.{Bool, true, false}
use mathlib.Core.Path.{◌≡◌, refl, sym, ap, ap₂, ◌∙◌}
use Rattle.std.proofs.Common.{Option, Some, None, Ok, Err, is_some}
use mathlib.Core.List.{List, [], ◌∷◌, ◌++◌}
use Prim.Native.Nat.{ℕ, ◌+◌, ◌*◌, ◌≤◌, ◌<◌}
use native.Mathlib.Omega.{arith}
use native.Mathlib.Decide.{ℕ_discrete}
use lib.ListN.{length, get_or, set, length-set}
use lib.Seq.{get_or-set_same, get_or-set_other}
use borrow.Author.Tests.{lt-ltb, le-ltb}
use Rattle.kinds.specs.Kinds.{bit_of}
use Rattle.rules.specs.Actions.{answered}
use Rattle.rules.specs.Lists.{has}
use Rattle.rules.specs.Program as P
use Rattle.rules.specs.Program.{ivar_named}
use Rattle.rules.specs.Reading.{with_program, push_ivar}
use Rattle.program.specs.Tab.{tab}
use Rattle.program.specs.Rows.{name_in, class_at, ivar_at, ivars_of}
use Rattle.program.specs.View.{program_view, classes_of, ProgramReady, Small}
use Rattle.program.specs.declared.Counts.{Counts}
use Rattle.program.specs.declared.bounds.Limits.{Limits}
use Rattle.program.specs.declared.Name.{Name}
use Rattle.program.proofs.Tables.{tab_ext, tab-more, tab-set, tab-length}
use Rattle.program.proofs.Viewing.{Keeps, owns-same, opnds-end, insn_keep, fun_keep, instructions-keep, functions-keep, blocks-keep}
use Rattle.program.proofs.Adding.{terminated-same, listed_same}
use Rattle.memory.specs.Layout.{classes_most, ivars_most}
use Rattle.program.specs.Layout.{blocks_at, classes_at, ivars_at, program_size, class_words, ivar_row_words}
use Rattle.lookups.specs.Look.{ivar_row, PutsIvar, Declares, ivar_found}
use Rattle.refusals.specs.declared.Refusal.TheVariants.{NameTaken, OverLimit}
use Rattle.lookups.proofs.Rows.{ivars_are, class-is}

-- the three stores
pub ivar_put : (m : List ℕ) (k j : ℕ) (n : Name) → program_size ≤ length m → k < classes_most → j < ivars_most
    → PutsIvar k j n m (set (set (set m (ivars_at + ivar_row_words * k + 2 * j) n.start) (ivars_at + ivar_row_words * k + 2 * j + 1) n.len) (classes_at + class_words * k + 2) (j + 1))
ivar_put m k j n long hk hj =
    let at = ivars_at + ivar_row_words * k + 2 * j in
    let row = classes_at + class_words * k + 2 in
    let m1 = set m at n.start in
    let m2 = set m1 (at + 1) n.len in
    let l1 = length-set m at n.start in
    let l2 = length-set m1 (at + 1) n.len in
    record {
      len_same = length-set m2 row (j + 1) ∙ l2 ∙ l1;
      other = λ i a b c.
          get_or-set_other m2 row i (j + 1) 0 c ∙ get_or-set_other m1 (at + 1) i n.len 0 b ∙ get_or-set_other m at i n.start 0 a;
      here =
          ap₂ {C = Name} (λ a b. record { start = a; len = b })
          (get_or-set_other m2 row at (j + 1) 0 (λ z. omega arith) ∙ get_or-set_other m1 (at + 1) at n.len 0 (λ z. omega arith) ∙ get_or-set_same m at n.start 0 (omega arith))
          (get_or-set_other m2 row (at + 1) (j + 1) 0 (λ z. omega arith) ∙ get_or-set_same m1 (at + 1) n.len 0 (omega arith));
      count = get_or-set_same m2 row (j + 1) 0 (omega arith);
    }

-- the counts without the classes
abbrev none_of : Counts → Counts
none_of c = record { functions = c.functions; classes = 0; blocks = c.blocks; insns = c.insns; opnds = c.opnds; listed = c.listed }

module _ {m m' : List ℕ} {c : Counts} {k : ℕ} (n : Name) (r : ProgramReady m c) (hk : k < c.classes) (few : ivars_of m k < ivars_most) (p : PutsIvar k (ivars_of m k) n m m') where
  -- a word outside of the two tables, and one of another class
  apart : (i : ℕ) → i < classes_at → get_or m' i 0 ≡ get_or m i 0
  apart i h = p.other i (λ z. omega arith) (λ z. omega arith) (λ z. omega (arith, r.classes))

  old-class : (s : List ℕ) (d : ℕ) → d < c.classes → (d ≡ k → ⊥) → class_at s m' d ≡ class_at s m d
  unfolding class_at
  old-class s d h e =
      let most = r.classes in
      let here = r.ivars d h in
      rw (
        p.other (classes_at + class_words * d) (λ z. omega arith) (λ z. omega arith) (λ z. omega arith),
        p.other (classes_at + class_words * d + 1) (λ z. omega arith) (λ z. omega arith) (λ z. omega arith),
        p.other (classes_at + class_words * d + 2) (λ z. omega arith) (λ z. omega arith) (λ z. e (omega arith)),
        tab_ext (λ j. name_in s (ivar_at m' d j)) (λ j. name_in s (ivar_at m d j)) (ivars_of m d)
            (λ j q.
            rw (
              p.other (ivars_at + ivar_row_words * d + 2 * j) (λ z. e (omega arith)) (λ z. omega arith) (λ z. omega arith),
              p.other (ivars_at + ivar_row_words * d + 2 * j + 1) (λ z. omega arith) (λ z. e (omega arith)) (λ z. omega arith),
            )),
      )

  new-class : (s : List ℕ) → class_at s m' k ≡ record { name = (P.class (program_view s m c) k).name; ivars = (P.class (program_view s m c) k).ivars ++ name_in s n ∷ [] }
  unfolding class_at
  new-class s =
      let most = r.classes in
      let j = ivars_of m k in
      rw (class-is s m c k hk)
      (ap₂ {C = P.Class} (λ a b. record { name = a; ivars = b })
      (rw (
        p.other (classes_at + class_words * k) (λ z. omega arith) (λ z. omega arith) (λ z. omega arith),
        p.other (classes_at + class_words * k + 1) (λ z. omega arith) (λ z. omega arith) (λ z. omega arith),
      ))
      (ap (tab (λ i. name_in s (ivar_at m' k i))) p.count
      ∙ tab-more (λ i. name_in s (ivar_at m' k i)) j
      ∙ ap₂ {C = List (List ℕ)} (λ l x. l ++ x ∷ [])
      (tab_ext (λ i. name_in s (ivar_at m' k i)) (λ i. name_in s (ivar_at m k i)) j
      (λ i q.
      rw (
        p.other (ivars_at + ivar_row_words * k + 2 * i) (λ z. omega arith) (λ z. omega arith) (λ z. omega arith),
        p.other (ivars_at + ivar_row_words * k + 2 * i + 1) (λ z. omega arith) (λ z. omega arith) (λ z. omega arith),
      )))
      (ap (name_in s) p.here)))

  new-classes : (s : List ℕ)
      → classes_of s m' c.classes
      ≡ set (classes_of s m c.classes) k (record { name = (P.class (program_view s m c) k).name; ivars = (P.class (program_view s m c) k).ivars ++ name_in s n ∷ [] })
  unfolding classes_of
  new-classes s =
      tab-set (class_at s m) (class_at s m') c.classes k hk (old-class s) ∙ ap (set (tab (class_at s m) c.classes) k) (new-class s)

  -- the other tables
  rest-ready : ProgramReady m (none_of c)
  rest-ready =
      record {
        len_mem = r.len_mem;
        functions = r.functions;
        classes = omega arith;
        blocks = r.blocks;
        insns = r.insns;
        listed = r.listed;
        opnds = r.opnds;
        ivars = λ d h. absurd (omega arith);
        ranges = r.ranges;
        inside = r.inside;
        flags = λ s b h. r.flags s b h ∙ ap bit_of (terminated-same (program_view s m c) (program_view s m (none_of c)) b refl);
        listing = λ s. r.listing s ∙ listed_same (program_view s m c) (program_view s m (none_of c)) refl;
        firsts = λ d h. absurd (omega arith);
      }

  rest_keeps : Keeps (none_of c) m m'
  rest_keeps =
      let i = r.insns in
      let e = opnds-end r in
      let b = r.blocks in
      let f = r.functions in
      record {
        len_same = p.len_same;
        insns = λ d a z. apart d (omega arith);
        opnds = λ d a z. apart d (omega arith);
        blocks = λ d a. apart (blocks_at + 2 * d) (omega arith);
        functions = λ d a z. apart d (omega arith);
        classes = λ d a z. absurd (omega arith);
        ivars = λ d a z. absurd (omega arith);
      }

  same-instructions : (s : List ℕ) → (program_view s m' c).instructions ≡ (program_view s m c).instructions
  same-instructions s = instructions-keep rest-ready rest_keeps s

  ivar_view : (s : List ℕ)
      → program_view s m' c
      ≡ P.with_classes
      (set (classes_of s m c.classes) k (record { name = (P.class (program_view s m c) k).name; ivars = (P.class (program_view s m c) k).ivars ++ name_in s n ∷ [] }))
      (program_view s m c)
  ivar_view s =
      λ i.
      record {
        functions = functions-keep rest-ready rest_keeps s i;
        classes = new-classes s i;
        blocks = blocks-keep rest-ready rest_keeps i;
        instructions = same-instructions s i;
      }

  pub ivar_ready : ProgramReady m' c
  ivar_ready =
      record {
        len_mem = rw p.len_same r.len_mem;
        functions = r.functions;
        classes = r.classes;
        blocks = r.blocks;
        insns = r.insns;
        listed = r.listed;
        opnds = r.opnds;
        ivars = λ d h.
            elim (ℕ_discrete d k) [
              | yes e ↦ rw e (omega (arith, p.count))
              | no e ↦ rw (p.other (classes_at + class_words * d + 2) (λ z. omega (arith, r.classes)) (λ z. omega (arith, r.classes)) (λ z. e (omega arith))) (r.ivars d h)
            ];
        ranges = λ i h. rw (insn_keep rest-ready rest_keeps i h) (r.ranges i h);
        inside = λ i h. rw (insn_keep rest-ready rest_keeps i h) (r.inside i h);
        flags = λ s b h.
            apart (blocks_at + 2 * b + 1) (omega (arith, r.blocks)) ∙ r.flags s b h
            ∙ ap bit_of (sym (terminated-same (program_view s m' c) (program_view s m c) b (same-instructions s)));
        listing = λ s. r.listing s ∙ sym (listed_same (program_view s m' c) (program_view s m c) (same-instructions s));
        firsts = λ d h.
            rw (p.other (classes_at + class_words * d + 3) (λ z. omega (arith, r.classes)) (λ z. omega (arith, r.classes)) (λ z. omega arith))
            (owns-same (fun_keep rest-ready rest_keeps) (r.firsts d h));
      }

-- ---- the rules' action

found_has : (o : Option ℕ) {r : Bool} → r ≡ is_some o → has (ivar_found o) ≡ r
found_has (Some j) e = sym e
found_has None e = sym e

count-is : (s m : List ℕ) (c : Counts) (k : ℕ) → k < c.classes → length (P.class (program_view s m c) k).ivars ≡ ivars_of m k
count-is s m c k h = ap length (ivars_are s m c k h) ∙ tab-length (ivar_row s m k) (ivars_of m k)

module _ (l : Limits) (s m : List ℕ) (c : Counts) (k : ℕ) (n : Name) (q : Option ℕ) {t : Bool} {s' m' : List ℕ} {c' : Counts} (es : s' ≡ s) (em : m' ≡ m) (ec : c' ≡ c)
    (found : ivar_found q ≡ ivar_named (program_view s' m' c') k (name_in s' n)) (tested : t ≡ is_some q) where
  has-is : has (ivar_named (program_view s m c) k (name_in s n)) ≡ t
  has-is =
      let same : ivar_named (program_view s' m' c') k (name_in s' n) ≡ ivar_named (program_view s m c) k (name_in s n) = λ i. ivar_named (program_view (es i) (em i) (ec i)) k (name_in (es i) n) in
      ap (has {A = ℕ}) (sym same ∙ sym found) ∙ found_has q tested

  pub ivar_taken : t ≡ true → Declares l k n s m c m (Err NameTaken)
  unfolding push_ivar
  ivar_taken e = record { is = λ r. rw (has-is ∙ e); ok = tt }

  module _ (e : t ≡ false) (hk : k < c.classes) {j : ℕ} (counted : j ≡ ivars_of m' k) where
    counted-here : j ≡ ivars_of m k
    counted-here = counted ∙ ap (λ (x : List ℕ). ivars_of x k) em

    pub ivar_full : l.ivars ≤ j → Declares l k n s m c m (Err OverLimit)
    unfolding push_ivar
    ivar_full h = record { is = λ r. rw (has-is ∙ e, count-is s m c k hk, ← counted-here, le-ltb j l.ivars h); ok = tt }

    pub ivar_done : {m2 : List ℕ} → ProgramReady m c → Small l → j < l.ivars → PutsIvar k j n m m2 → Declares l k n s m c m2 (Ok tt)
    unfolding push_ivar
    ivar_done ready small h p =
        let few : ivars_of m k < ivars_most = omega (arith, small.ivars, counted-here) in
        let puts = rw counted-here at p in
        record {
          is = λ r. rw (has-is ∙ e, count-is s m c k hk, ← counted-here, lt-ltb j l.ivars h) (ap (λ (v : P.Program). answered (tt, with_program v r)) (ivar_view n ready hk few puts s));
          ok = ivar_ready n ready hk few puts;
        }
