-- A kind stored: the users' blocks are read from the program's rows, the users from the answer's memory. Assumes nothing.
use mathlib.Core.Bool.{Bool as 𝔹, true, false}
use mathlib.Core.Path.{◌≡◌, sym, ap, ◌∙◌, subst}
use mathlib.Core.List.{List, [], ◌∷◌}
use Prim.Native.Nat.{ℕ, zero, suc, ◌+◌, ◌-◌, ◌≤◌, ◌<◌}
use native.Mathlib.Omega.{arith}
use lib.ListN.{length, get_or, take, drop}
use lib.Seq.{slice, length-slice, get_or-drop, get_or-take, ext_get_or}
use Rattle.kinds.specs.declared.Kind.{Kind}
use Rattle.kinds.specs.declared.Kind.TheVariants.{Empty}
use Rattle.std.specs.Prelude.{Result, Ok, Err, All}
use Rattle.std.proofs.lemmas.List.{drop-take}
use Rattle.std.proofs.lemmas.List.Elements.{All-from_get_or}
use Rattle.refusals.specs.declared.Refusal.{Refusal}
use Rattle.kinds.specs.Kinds.{same_kind}
use Rattle.kinds.specs.Union.{Joined, union_of}
use Rattle.rules.specs.Lists.{cons_if, places_from}
use Rattle.rules.specs.Program.{Program, Instruction}
use Rattle.rules.specs.Uses.{uses}
use Rattle.rules.specs.Machine.{set_kind, store}
use Rattle.program.specs.Rows.{insn_at, instruction_at}
use Rattle.program.specs.View.{program_view, instructions_of, ProgramReady, ReadsInsn}
use Rattle.program.specs.declared.Counts.{Counts}
use Rattle.program.specs.declared.Row.{Row}
use Rattle.program.proofs.Tables.{tab-at, tab-length}
use Rattle.program.proofs.Viewing.{instructions-length}
use Rattle.uses.specs.Users.{words}
use Rattle.state.specs.declared.Sizes.{Sizes}
use Rattle.state.specs.declared.State.{State}
use Rattle.state.specs.View.{Attrs, kinds_of}
use Rattle.state.specs.Changes.{HomesOf, UsersOf, push_live}
use Rattle.state.specs.Methods.{view, Put, Did}
use Rattle.state.proofs.Wakes.{keep_no, keep-old, keep-new}
use Rattle.state.proofs.Methods.{along_start, along_put, along_last, along_end, along_refused}
use Rattle.answer.specs.Layout.{starts_at, users_at}
use Rattle.memory.specs.Layout.{uses_most}
use Rattle.machine.specs.Analysed.{MachineSized, homes_of, Users, TablesOf}

-- ---- lists

-- n words from a place on are a part of the memory
part-words : (u : List ℕ) (a n : ℕ) → a + n ≤ length u → slice a (a + n) u ≡ words u a n
part-words u a n h =
    let e : length (slice a (a + n) u) ≡ n = length-slice a (a + n) u h ∙ omega arith in
    ext_get_or 0 (slice a (a + n) u) (words u a n) (e ∙ sym (tab-length (λ q. get_or u (a + q) 0) n))
    (λ i l. let k : i < n = omega arith in get_or-drop a (take (a + n) u) i 0 ∙ get_or-take (a + n) u (a + i) 0 (omega arith) ∙ sym (tab-at (λ q. get_or u (a + q) 0) n i 0 k))

-- a place that passes is a place of the list
place-below : {A : Type 0} (f : A → 𝔹) (k : ℕ) (l : List A) (i d : ℕ) → i < length (places_from k f l) → get_or (places_from k f l) i d < k + length l
place-below f k [] i d h = absurd (omega arith)
place-below f k (x ∷ l) i d h = go (f x) i h (λ j. place-below f (suc k) l j d)
  where
    go : (b : 𝔹) (i : ℕ) → i < length (cons_if b k (places_from (suc k) f l)) → ((j : ℕ) → j < length (places_from (suc k) f l) → get_or (places_from (suc k) f l) j d < suc k + length l)
        → get_or (cons_if b k (places_from (suc k) f l)) i d < k + suc (length l)
    go true zero h ih = omega arith
    go true (suc i) h ih = omega (arith, ih i (omega arith))
    go false i h ih = omega (arith, ih i h)

user_below : (p : Program) (j i d : ℕ) → i < length (uses p j) → get_or (uses p j) i d < length p.instructions
unfolding uses
user_below p j i d h = let y = place-below _ 0 p.instructions i d h in omega arith

-- ---- the blocks of instructions

module _ (p : List ℕ) (c : Counts) (z : Sizes) (r : ProgramReady p c) (e : MachineSized c z) where
  home_at : (i : ℕ) → i < c.insns → get_or (homes_of p c) i 0 ≡ (insn_at p i).block.0
  unfolding homes_of
  home_at i h = tab-at (λ i. (insn_at p i).block.0) c.insns i 0 h

  pub homes_of_lem : (s : List ℕ) (v : Attrs) → HomesOf z (homes_of p c) (program_view s p c) v
  unfolding instructions_of instruction_at
  homes_of_lem s v = record {
    at = λ i h. let k : i < c.insns = omega (arith, e.insns) in home_at i k ∙ sym (ap (λ (x : Instruction). x.block) (tab-at (instruction_at s p) c.insns i _ k));
  }

  -- the block that a row has
  pub at_home : {j : ℕ} {row : Row} → j < z.insns → ReadsInsn p c j row → row.block.0 ≡ get_or (homes_of p c) j 0
  at_home {j} h g = ap (λ (y : Row). y.block.0) g.row ∙ sym (home_at j (omega (arith, e.insns)))

  pub block-below : {j : ℕ} {row : Row} → ReadsInsn p c j row → row.block.0 < z.blocks
  block-below g = omega (arith, g.inside, e.blocks)

-- ---- the users of an instruction

module _ (p : List ℕ) (c : Counts) (u : List ℕ) (g : Users p c u) where
  abbrev start : ℕ → ℕ
  start j = get_or u (starts_at + j) 0

  starts_rise : (j k : ℕ) → j + k ≤ c.insns → start j ≤ start (j + k)
  starts_rise j zero h = let e : j + 0 ≡ j = omega arith in rw e (omega arith)
  starts_rise j (suc k) h =
      let e : starts_at + (j + suc k) ≡ starts_at + (j + k + 1) = omega arith in
      let a = starts_rise j k (omega arith) in
      let b = g.rises (j + k) (omega arith) in
      rw e (omega arith)

  start-most : (j : ℕ) → j ≤ c.insns → start j ≤ uses_most
  start-most j h = let e : j + (c.insns - j) ≡ c.insns = omega arith in let a : start j ≤ start c.insns = rw e at (starts_rise j (c.insns - j) (omega arith)) in omega (arith, g.total)

  pub start-few : (z : Sizes) → MachineSized c z → (i : ℕ) → i < z.insns → (get_or u (starts_at + i) 0 ≤ uses_most) × (get_or u (starts_at + (i + 1)) 0 ≤ uses_most)
  start-few z e i h = (start-most i (omega (arith, e.insns)), start-most (i + 1) (omega (arith, e.insns)))

  module _ (i : ℕ) (h : i < c.insns) where
    abbrev from : ℕ
    from = users_at + start i

    abbrev to : ℕ
    to = users_at + start (i + 1)

    ends : from + (start (i + 1) - start i) ≡ to
    ends = omega (arith, g.rises i h)

    inside : to ≤ length u
    inside = omega (arith, start-most (i + 1) (omega arith), g.long)

    users_are : (s : List ℕ) → slice from to u ≡ uses (program_view s p c) i
    users_are s = subst (λ (t : ℕ). slice from t u ≡ uses (program_view s p c) i) ends (part-words u from (start (i + 1) - start i) (omega (arith, ends, inside)) ∙ g.part s i h)

    pub users_of_lem : (z : Sizes) → ProgramReady p c → MachineSized c z → (P : Program) (v : Attrs) → TablesOf p c P v → UsersOf z u from to (homes_of p c) i P v
    users_of_lem z r e P v t =
        subst (λ (Q : Program). UsersOf z u from to (homes_of p c) i Q v) (sym t.is) (record { users = users_are t.script; blocks = homes_of_lem p c z r e t.script v })

  -- the part of the memory that holds them, and that they are instructions
  module _ (z : Sizes) (e : MachineSized c z) (i : ℕ) (h : i < z.insns) where
    pub users-order : users_at + start i ≤ users_at + start (i + 1)
    users-order = omega (arith, g.rises i (omega (arith, e.insns)))

    pub users-inside : users_at + start (i + 1) ≤ length u
    users-inside = inside i (omega (arith, e.insns))

    pub users-part : slice (users_at + start i) (users_at + start (i + 1)) u ≡ take (users_at + start (i + 1) - (users_at + start i)) (drop (users_at + start i) u)
    users-part =
        let n = users_at + start (i + 1) - (users_at + start i) in
        let e : users_at + start i + n ≡ users_at + start (i + 1) = omega (arith, users-order) in
        subst (λ (t : ℕ). slice (users_at + start i) t u ≡ take n (drop (users_at + start i) u)) e (drop-take (users_at + start i) n u)

    pub users-listed : All (λ j. j < z.insns) (take (users_at + start (i + 1) - (users_at + start i)) (drop (users_at + start i) u))
    users-listed =
        let P = program_view [] p c in
        subst (All (λ j. j < z.insns)) (sym (users_are i (omega (arith, e.insns)) []) ∙ users-part)
        (All-from_get_or (λ j. j < z.insns) (uses P i) 0 (λ k l. omega (arith, user_below P i k 0 l, instructions-length [] p c.insns, e.insns)))

-- ---- the ways through store

module _ (p : List ℕ) (c : Counts) (u : List ℕ) (s : State) (g : Users p c u) (r : ProgramReady p c) (e : MachineSized c s.sizes) (i : ℕ) (k : Kind) (h : i < s.sizes.insns)
    {o : Kind} {j : Joined} (eo : o ≡ get_or (kinds_of s.sizes s.words.now) i Empty) (ej : j ≡ union_of o k) where
  joined : {x : Joined} → j ≡ x → union_of (get_or (kinds_of s.sizes s.words.now) i Empty) k ≡ x
  joined f = ap (λ (x : Kind). union_of x k) (sym eo) ∙ sym ej ∙ f

  told : (w : Kind) {t : 𝔹} → same_kind w o ≡ t → same_kind w (get_or (kinds_of s.sizes s.words.now) i Empty) ≡ t
  told w q = ap (same_kind w) (sym eo) ∙ q

  pub refused_way : (n : Refusal) → j ≡ Err n → Did (TablesOf p c) (λ L P. store L P i k) s s (Err n)
  refused_way n f = along_refused (along_start s) n (λ L room P v t. keep_no L P k i (view v s) n (joined f))

  pub same_way : (w : Kind) → j ≡ Ok w → same_kind w o ≡ true → Did (TablesOf p c) (λ L P. store L P i k) s s (Ok tt)
  same_way w f q = along_end (along_start s) (λ L room P v t. keep-old L P k i (view v s) w (joined f) (told w q))

  pub new_way : (w : Kind) {t x : State} (a : Result (Unit {0}) Refusal) → j ≡ Ok w → same_kind w o ≡ false → Put (set_kind i k) s t
      → Did (HomesOf t.sizes (homes_of p c))
      (λ L P. push_live L P (take (users_at + get_or u (starts_at + (i + 1)) 0 - (users_at + get_or u (starts_at + i) 0)) (drop (users_at + get_or u (starts_at + i) 0) u))) t x a
      → Did (TablesOf p c) (λ L P. store L P i k) s x a
  new_way w {t} a f q put d =
      let lt : i < c.insns = omega (arith, e.insns) in
      along_last (along_put (along_start s) (λ L P. push_live L P (uses P i)) put (λ L room P v _. keep-new L P k i (view v s) w (joined f) (told w q))) a d
      (λ P v y. rw put.lent.sizes (users_of_lem p c u g i lt s.sizes r e P v y).blocks)
      (λ L room P v y. ap (λ (l : List ℕ). push_live L P l (view v t)) (sym (users_of_lem p c u g i lt s.sizes r e P v y).users ∙ users-part p c u g s.sizes e i h))
