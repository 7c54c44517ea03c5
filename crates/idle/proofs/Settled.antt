-- A visit of a settled attribute read does nothing, and what else happens leaves the read settled, or wakes it. Assumes nothing.
use Prim.Native.Nat.{ℕ, ◌≤◌, ◌<◌}
use native.Mathlib.Omega.{arith}
use mathlib.Core.Path.{◌≡◌, refl, sym, ap, ◌∙◌, subst}
use mathlib.Core.Logic.{◌⊎◌, inl, inr}
use mathlib.Core.Bool.{Bool as 𝔹, true, false, ◌||◌, or-true, true≢false, false≢true}
use mathlib.Core.Option.{none, some}
use mathlib.Core.List.Memᴰ
use mathlib.Core.List.{List, [], ◌∷◌, ◌++◌}
use lib.ListN.{length, get_or, set, length-append, get_or-eq_default}
use lib.Seq.{set-get_or, get_or-set_other}
use Rattle.std.specs.Prelude.{Ok}
use Rattle.ids.specs.Sets.{members_of}
use Rattle.ids.proofs.Bits.{Either, yes, no, either}
use Rattle.kinds.specs.declared.Kind.{Kind}
use Rattle.kinds.specs.declared.Kind.TheVariants.{Empty, Any}
use Rattle.kinds.specs.Kinds.{same_kind, is_empty, is_name, is_any}
use Rattle.kinds.specs.Union.{lub, union_of}
use Rattle.kinds.proofs.Same.{same_refl, same_eq}
use Rattle.kinds.proofs.Steps.{empty_is, mix_alone}
use Rattle.kinds.proofs.Lub.{lub_comm, lub_mix, below_empty, below-least}
use Rattle.kinds.proofs.Laws.{union-is, union-plain, union_empty_r, lub-plain}
use Rattle.rules.specs.Actions.{Answer, answered, if_answered, ◌>>=◌, change, each, fold}
use Rattle.rules.specs.Lists.{places, same, has, is_just_name}
use Rattle.rules.specs.Values.{classes_in}
use Rattle.rules.specs.Program.{Limits, Name, Opnd, Op, GetIvar, SetIvar, Program, about, class, op_of, code, ivar_named}
use Rattle.rules.specs.Machine.{State, mark, marked, add_read, with_insns, set_live, kind_of, classes_of, store, get_ivar, rule, visit, go_live}
use Rattle.rules.proofs.Exactness.Sums.{◌∈◌, not_in_none, ∈-keep, ∈-places, places-∈, rows_cases, less_or}
use Rattle.rules.proofs.Exactness.Grow.{mark-true}
use Rattle.rules.proofs.Exactness.Promise.{first_in}
use Rattle.rules.proofs.Exactness.Answers.{Stored, Widened, live_uses, woken_reads, go_live-is}
use Rattle.lexer.proofs.Texts.{same_eq as text-eq}
use Rattle.idle.specs.Settled.{Covered, SettledIn, Settled}
use Rattle.idle.proofs.Keeps.{Kept, Widens, Stores, keeps_visit}
use Rattle.idle.proofs.Idle.{store_same}

-- ---- kinds

-- what a kind covers adds nothing to it
pub covered-union : {k j : Kind} → Covered k j → union_of k j ≡ Ok k
covered-union {k} {j} c = go (either (is_name k)) (either (is_empty j)) (either (is_empty k)) (either (same_kind j k))
  where
    -- a name that covers another kind than Empty would be Any
    low : is_name k ≡ true → lub j k ≡ Any → union_of k j ≡ Ok k
    low m e = absurd (true≢false (sym m ∙ ap is_name (sym c.below ∙ e)))

    go : Either (is_name k) → Either (is_empty j) → Either (is_empty k) → Either (same_kind j k) → union_of k j ≡ Ok k
    go (no m) x y z = union-plain k j m c.plain ∙ ap Ok (lub_comm k j ∙ c.below)
    go (yes m) (yes x) y z = ap (union_of k) (empty_is j x) ∙ union_empty_r k
    go (yes m) (no x) (yes y) z = absurd (true≢false (sym m ∙ ap is_name (empty_is k y)))
    go (yes m) (no x) (no y) (yes z) = absurd (true≢false (sym m ∙ ap is_name (sym (same_eq j k z)) ∙ c.plain))
    go (yes m) (no x) (no y) (no z) = low m (lub_mix j k x y ∙ mix_alone j k z (rw m (or-true (is_name j || is_any j))))

covered_empty : (k : Kind) → Covered k Empty
covered_empty k = record { plain = refl; below = below_empty k }

covered-lub : {k a b : Kind} → Covered k a → Covered k b → Covered k (lub a b)
covered-lub {k} {a} {b} x y = record { plain = lub-plain a b x.plain y.plain; below = below-least a b k x.below y.below }

covered-join : {k a b u : Kind} → Covered k a → Covered k b → union_of a b ≡ Ok u → Covered k u
covered-join {k} {a} {b} {u} x y e = subst (Covered k) (sym (union-is a b u e)) (covered-lub x y)

-- ---- the visit of a settled read

mark-same : (t : List (List 𝔹)) (a b : ℕ) → marked t a b ≡ true → mark t a b ≡ t
mark-same t a b e = ap (set t a) (ap (set (get_or t a []) b) (sym e) ∙ set-get_or (get_or t a []) b false) ∙ set-get_or t a []

read_same : (c i : ℕ) (t : State) → marked t.ivar_reads c i ≡ true → add_read c i t ≡ t
read_same c i t e =
    ap
    (λ (rd : List (List 𝔹)). record {
      kinds = t.kinds;
      live = t.live;
      called_by = t.called_by;
      ivar_kinds = t.ivar_kinds;
      ivar_reads = rd;
      insn_worklist = t.insn_worklist;
      block_worklist = t.block_worklist;
      draining = t.draining;
      count = t.count;
    })
    (mark-same t.ivar_reads c i e)

module _ (L : Limits) (p : Program) where
  -- read i of n, of kind k, in state t
  module _ (n : Name) (k : Kind) (i : ℕ) (t : State) where
    -- it is settled in these classes
    abbrev In : List ℕ → Type 0
    In cs = (c : ℕ) → c ∈ cs → SettledIn p n k i t.ivar_kinds t.ivar_reads c

    reads_same : (cs : List ℕ) → In cs → each cs (λ c. change (add_read c i)) t ≡ answered (tt, t)
    reads_same [] h = refl
    reads_same (c ∷ cs) h = ap (λ (s : State). each cs (λ d. change (add_read d i)) s) (read_same c i t (h c (Memᴰ.head refl)).met) ∙ reads_same cs (λ d m. h d (Memᴰ.tail m))

    get_is : (j : Kind) (c : ℕ) → Covered k j → (h : SettledIn p n k i t.ivar_kinds t.ivar_reads c) → get_ivar L p n j c t ≡ answered (lub j (get_or (get_or t.ivar_kinds c []) h.place Empty), t)
    unfolding get_ivar
    get_is j c x h = rw (h.named, union-plain j (get_or (get_or t.ivar_kinds c []) h.place Empty) x.plain h.covered.plain) refl

    -- all that it reads is covered
    gets-covered : (cs : List ℕ) → In cs → (j : Kind) → Covered k j → (u : Kind) × (fold (get_ivar L p n) j cs t ≡ answered (u, t)) × Covered k u
    gets-covered [] h j x = (j, refl, x)
    gets-covered (c ∷ cs) h j x =
        let here = h c (Memᴰ.head refl) in
        let r = gets-covered cs (λ d m. h d (Memᴰ.tail m)) (lub j (get_or (get_or t.ivar_kinds c []) here.place Empty)) (covered-lub x here.covered) in
        (r.0, ap (λ (q : Answer (Kind × State)). if_answered q (λ z. fold (get_ivar L p n) z.0 cs z.1)) (get_is j c x here) ∙ r.1, r.2)

  classes_are : (v : Opnd) (b : ℕ) (t : State) → classes_in (kind_of t v) ≡ some b → classes_of v t ≡ answered (members_of b, t)
  unfolding classes_of
  classes_are v b t e = rw e refl

  -- where the receiver's classes are those that the read is settled for, its visit does nothing
  pub settled_idle : (i : ℕ) (n : Name) (r : Opnd) (b : ℕ) (t : State) → op_of p i ≡ GetIvar n r → classes_in (kind_of t r) ≡ some b → Settled p n i b t.kinds t.ivar_kinds t.ivar_reads
      → visit L p i t ≡ answered (tt, t)
  unfolding visit rule
  settled_idle i n r b t o e h =
      ap (λ (x : Op). (rule L p i x >>= store L p i) t) o
      ∙ ap (λ (q : Answer (Kind × State)). if_answered q (λ z. store L p i z.0 z.1)) gives
      ∙ store_same L p i got.0 t (own, covered-union got.2, same_refl own)
    where
      own : Kind
      own = get_or t.kinds i Empty

      got : (u : Kind) × (fold (get_ivar L p n) Empty (members_of b) t ≡ answered (u, t)) × Covered own u
      got = gets-covered n own i t (members_of b) h Empty (covered_empty own)

      read : List ℕ × State → Answer (Kind × State)
      read q = if_answered (each q.0 (λ c. change (add_read c i)) q.1) (λ z. fold (get_ivar L p n) Empty q.0 z.1)

      gives : rule L p i (GetIvar n r) t ≡ answered (got.0, t)
      gives =
          ap (λ (q : Answer (List ℕ × State)). if_answered q read) (classes_are r b t e)
          ∙ ap (λ (q : Answer (Unit {0} × State)). if_answered q (λ z. fold (get_ivar L p n) Empty (members_of b) z.1)) (reads_same n own i t (members_of b) h)
          ∙ got.1

  -- ---- what leaves a read settled

  -- an attribute's place has one name
  name-at : (c a : ℕ) (m : Name) → ivar_named p c m ≡ some a → same (get_or (class p c).ivars a []) m ≡ true
  unfolding ivar_named
  name-at c a m e = (places-∈ [] (λ (x : Name). same x m) (class p c).ivars a (first_in _ e)).1

  one_name : (c a : ℕ) (m n : Name) → ivar_named p c m ≡ some a → ivar_named p c n ≡ some a → same n m ≡ true
  one_name c a m n e f = subst (λ (x : Name). same x m ≡ true) (text-eq (get_or (class p c).ivars a []) n (name-at c a n f)) (name-at c a m e)

  -- a read of an attribute that met the class is among those that a setting wakes
  woken : (t : State) (m n : Name) (q : Opnd) (c a j : ℕ) → op_of p j ≡ GetIvar n q → marked t.ivar_reads c j ≡ true → ivar_named p c m ≡ some a → ivar_named p c n ≡ some a → j ∈ woken_reads L p t m c
  woken t m n q c a j o k e f =
      let row = get_or t.ivar_reads c [] in
      ∈-keep (λ (i : ℕ). is_just_name (about (op_of p i)).gets m) (places (λ b. b) row) (∈-places false (λ (b : 𝔹). b) row j (inside (less_or j (length row))) k)
      (subst (λ (x : Op). is_just_name (about x).gets m ≡ true) (sym o) (one_name c a m n e f))
    where
      inside : (j < length (get_or t.ivar_reads c [])) ⊎ (length (get_or t.ivar_reads c []) ≤ j) → j < length (get_or t.ivar_reads c [])
      inside (inl h) = h
      inside (inr h) = absurd (true≢false (sym k ∙ get_or-eq_default (get_or t.ivar_reads c []) false h))

  -- no member of a list with no elements
  none_in : (l : List ℕ) {x : ℕ} → length l ≡ 0 → x ∈ l → ⊥
  none_in [] e m = not_in_none m
  none_in (y ∷ l) e m = omega (arith, e)

  -- read j of n, and the classes b
  module _ (n : Name) (j b : ℕ) where
    -- it is settled in state s
    abbrev At : State → Type 0
    At s = Settled p n j b s.kinds s.ivar_kinds s.ivar_reads

    at-kept : Kept At
    at-kept = record {
      insns = λ l s h. h;
      block = λ x s h. h;
      call = λ f i x s h. h;
      read = λ c i s h d m. let x = h d m in record { place = x.place; named = x.named; met = mark-true s.ivar_reads c i d j x.met; covered = x.covered };
    }

    -- another instruction's kind is stored
    kind_stays : (i : ℕ) → (j ≡ i → ⊥) → (k : Kind) (t u : State) → Stored L p i k t u → get_or u.kinds j Empty ≡ get_or t.kinds j Empty
    kind_stays i ne k t u d = ap (λ (x : State). get_or x.kinds j Empty) d.state ∙ get_or-set_other t.kinds i j k Empty ne

    at_stored : (i : ℕ) → (j ≡ i → ⊥) → (k : Kind) (t u : State) → Stored L p i k t u → At t → At u
    at_stored i ne k t u d h =
        subst At (sym d.state)
        (λ c m. subst (λ (x : Kind). SettledIn p n x j t.ivar_kinds t.ivar_reads c) (sym (get_or-set_other t.kinds i j k Empty ne)) (h c m))

    -- an attribute gets another kind, and where the read has met it, a kind that is covered
    at_widened : (m : Name) (k : Kind) (c : ℕ) (t u : State) (w : Widened L p m k c t u) → At t
        → ((d : ℕ) (x : SettledIn p n (get_or t.kinds j Empty) j t.ivar_kinds t.ivar_reads d) → d ≡ c → x.place ≡ w.place → Covered (get_or t.kinds j Empty) w.kind) → At u
    at_widened m k c t u w h f = subst At (sym w.state) (λ d z. now d (h d z) (rows_cases Empty t.ivar_kinds c w.place w.kind d (h d z).place))
      where
        own : Kind
        own = get_or t.kinds j Empty

        iv : List (List Kind)
        iv = set t.ivar_kinds c (set (get_or t.ivar_kinds c []) w.place w.kind)

        now : (d : ℕ) (x : SettledIn p n own j t.ivar_kinds t.ivar_reads d)
            → (get_or (get_or iv d []) x.place Empty ≡ get_or (get_or t.ivar_kinds d []) x.place Empty) ⊎ ((d ≡ c) × (x.place ≡ w.place) × (get_or (get_or iv d []) x.place Empty ≡ w.kind))
            → SettledIn p n own j iv t.ivar_reads d
        now d x (inl e) = record { place = x.place; named = x.named; met = x.met; covered = subst (Covered own) (sym e) x.covered }
        now d x (inr e) = record { place = x.place; named = x.named; met = x.met; covered = subst (Covered own) (sym e.2) (f d x e.0 e.1) }

    -- another instruction's visit, a setting's aside
    pub visit_settled : (i : ℕ) (s e : State) → visit L p i s ≡ answered (tt, e) → (about (op_of p i)).sets ≡ none → (j ≡ i → ⊥)
        → Settled p n j b s.kinds s.ivar_kinds s.ivar_reads → Settled p n j b e.kinds e.ivar_kinds e.ivar_reads
    visit_settled i s e q o ne h = keeps_visit At L p at-kept i s e no_setting (at_stored i ne) q h
      where
        no_setting : Widens At L p (op_of p i) s
        no_setting m r v x = absurd (false≢true (ap has (sym o ∙ ap (λ (y : Op). (about y).sets) x)))

    -- a setting of a kind that the read's kind covers
    pub set-covered : (i : ℕ) (m : Name) (r v : Opnd) (s e : State) → op_of p i ≡ SetIvar m r v → visit L p i s ≡ answered (tt, e) → (j ≡ i → ⊥) → Covered (get_or s.kinds j Empty) (kind_of s v)
        → Settled p n j b s.kinds s.ivar_kinds s.ivar_reads → Settled p n j b e.kinds e.ivar_kinds e.ivar_reads
    set-covered i m r v s e o q ne x h = (keeps_visit Under L p under-kept i s e widens stores q (x, h)).1
      where
        Under : State → Type 0
        Under t = Covered (get_or t.kinds j Empty) (kind_of s v) × At t

        under-kept : Kept Under
        under-kept = record { insns = λ l t h. h; block = λ x t h. h; call = λ f i x t h. h; read = λ c i t h. (h.0, at-kept.read c i t h.1) }

        stores : Stores Under L p i
        stores k t u d h = (subst (λ (z : Kind). Covered z (kind_of s v)) (sym (kind_stays i ne k t u d)) h.0, at_stored i ne k t u d h.1)

        widened : (m : Name) (c : ℕ) (t u : State) → Widened L p m (kind_of s v) c t u → Under t → Under u
        widened m c t u w h = (
          subst (λ (y : State). Covered (get_or y.kinds j Empty) (kind_of s v)) (sym w.state) h.0,
          at_widened m (kind_of s v) c t u w h.1 (λ d x a z. covered-join (subst (Covered (get_or t.kinds j Empty)) (rw (a, z) refl) x.covered) h.0 w.union),
        )

        widens : Widens Under L p (op_of p i) s
        widens m' r' v' z = subst (λ (y : Opnd). (c : ℕ) (t u : State) → Widened L p m' (kind_of s y) c t u → Under t → Under u) (value (sym o ∙ z)) (widened m')
          where
            value : SetIvar m r v ≡ SetIvar m' r' v' → v ≡ v'
            value e = cc

    -- another instruction's visit that put no instruction in: no read of an attribute that it widened has met the class
    pub visit_quiet : (i : ℕ) (q : Opnd) (s e : State) → visit L p i s ≡ answered (tt, e) → (j ≡ i → ⊥) → op_of p j ≡ GetIvar n q → length e.insn_worklist ≡ length s.insn_worklist
        → Settled p n j b s.kinds s.ivar_kinds s.ivar_reads → Settled p n j b e.kinds e.ivar_kinds e.ivar_reads
    visit_quiet i q s e a ne o w h = (keeps_visit Quiet L p kept i s e widens stores a (omega arith, λ _. h)).1 w
      where
        -- nothing was taken off since s, and where nothing was put in, the read is settled
        Quiet : State → Type 0
        Quiet t = (length s.insn_worklist ≤ length t.insn_worklist) × (length t.insn_worklist ≡ length s.insn_worklist → At t)

        longer : (t u : State) (l : List ℕ) → u.insn_worklist ≡ t.insn_worklist ++ l → (length l ≡ 0 → At t → At u) → Quiet t → Quiet u
        longer t u l e f h =
            let z = ap length e ∙ length-append t.insn_worklist l in
            let y = h.0 in
            (omega (arith, y, z), λ w. f (omega (arith, w, y, z)) (h.1 (omega (arith, w, y, z))))

        kept : Kept Quiet
        kept = record {
          insns = λ l t h. longer t (with_insns (t.insn_worklist ++ l) t) l refl (λ _ x. x) h;
          block = λ x t h. h;
          call = λ f i x t h. h;
          read = λ c i t h. (h.0, λ w. at-kept.read c i t (h.1 w));
        }

        stores : Stores Quiet L p i
        stores k t u d h = longer t u (live_uses L p t i) (ap (λ (x : State). x.insn_worklist) d.state) (λ _. at_stored i ne k t u d) h

        widens : Widens Quiet L p (op_of p i) s
        widens m r v z c t u d h = longer t u (woken_reads L p t m c) (ap (λ (x : State). x.insn_worklist) d.state) (λ l g. at_widened m (kind_of s v) c t u d g (met l)) h
          where
            met : length (woken_reads L p t m c) ≡ 0 → (x : ℕ) (y : SettledIn p n (get_or t.kinds j Empty) j t.ivar_kinds t.ivar_reads x) → x ≡ c → y.place ≡ d.place
                → Covered (get_or t.kinds j Empty) d.kind
            met l x y a z =
                absurd
                (none_in (woken_reads L p t m c) l (woken t m n q c d.place j o (subst (λ (x : ℕ). marked t.ivar_reads x j ≡ true) a y.met)
                d.named (subst (λ (x : ℕ). ivar_named p x n ≡ some d.place) a (y.named ∙ ap some z))))

    -- a block that goes live
    pub live_settled : (x : ℕ) (s e : State) → go_live L p x s ≡ answered (tt, e) → Settled p n j b s.kinds s.ivar_kinds s.ivar_reads → Settled p n j b e.kinds e.ivar_kinds e.ivar_reads
    live_settled x s e q h = go (go_live-is L p x s q)
      where
        go : ((get_or s.live x false ≡ true) × (e ≡ s)) ⊎ ((get_or s.live x false ≡ false) × (e ≡ with_insns (s.insn_worklist ++ code p x) (set_live x s))) → At e
        go (inl d) = subst At (sym d.1) h
        go (inr d) = subst At (sym d.1) h
