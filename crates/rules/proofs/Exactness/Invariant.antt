-- What holds of the machine's state between steps, and that each small change keeps it. Assumes nothing.
use Prim.Native.Nat.{ℕ, ◌<◌}
use mathlib.Core.Path.{◌≡◌, refl, sym, ◌∙◌, subst}
use mathlib.Core.Logic.{◌⊎◌, inl, inr}
use mathlib.Core.Bool.{Bool as 𝔹, true, false}
use mathlib.Core.Option.{some}
use mathlib.Core.List.Memᴰ
use mathlib.Core.List.{List, [], ◌∷◌, ◌++◌}
use lib.ListN.{length, get_or, set, length-set}
use lib.Seq.{get_or-set_same}
use Rattle.kinds.specs.declared.Kind.{Kind}
use Rattle.kinds.specs.declared.Kind.TheVariants.{Empty}
use Rattle.kinds.specs.Rules.{admits}
use Rattle.rules.specs.Lists.{has, cons_if, places, is_just_name}
use Rattle.rules.specs.Values.{classes_in}
use Rattle.rules.specs.Program.{Limits, Opnd, Insn, Jump, IfTrue, Return, Static, Dynamic, Op, Ends, Send, Compute, Phi, Param, SelfParam, New, GetIvar, SetIvar, Program, about, op_of, block_of, entry, code, class, main_function, Name, ivar_named}
use Rattle.rules.specs.Uses.{uses}
use Rattle.rules.specs.Machine.{State, set_kind, set_live, marked, add_caller, add_read, set_ivar_kind, with_insns, with_blocks, taken}
use Rattle.rules.proofs.Exactness.Sums.{◌∈◌, not_in_none, ∈-append, ∈-one, ∈-keep, keep-∈, set_cases, rows_cases, rows-length, places-∈}
use Rattle.rules.proofs.Exactness.Laws.{Le, Fine, Laws, wide_classes, le_refl}
use Rattle.rules.proofs.Exactness.Grow.{kind_in, is_live, ivar_at, Up, set-true, mark_cases, Leads, Reach, AboveAt, IsRule, up_add_caller, up_set_kind, up_set_ivar_kind, above_mono, reach_mono, Calls, calls_mono}
use Rattle.rules.proofs.Exactness.Answers.{live_uses, woken_reads}
use Rattle.rules.proofs.Exactness.Data.{Placed, Tables, Data, Own, opnd_steady, data_wake, data_take, data_open, data_call, data_read, data_widen, data_finish, data_store}

-- question 14 was passed by a send, at these kinds
abbrev pub Passed : List Kind → Op → Type 0
Passed ks (Ends t) = Unit {0}
Passed ks (Send (Static f) l) = Unit {0}
Passed ks (Send (Dynamic r n) l) = has (classes_in (kind_in ks r)) ≡ true
Passed ks (Compute o v w) = Unit {0}
Passed ks (Phi b v c w) = Unit {0}
Passed ks (Param n) = Unit {0}
Passed ks (SelfParam c) = Unit {0}
Passed ks (New c) = Unit {0}
Passed ks (GetIvar n r) = Unit {0}
Passed ks (SetIvar n r v) = Unit {0}

abbrev pub is_param : Op → 𝔹
is_param o = has (about o).place

-- a block is live or waits
abbrev pub Soon : List 𝔹 → List ℕ → ℕ → Type 0
Soon live w b = (is_live live b ≡ true) ⊎ (b ∈ w)

module _ (p : Program) where
  -- the tables have a place for each number
  pub record Sizes (ks : List Kind) (lv : List 𝔹) (cb : List (List 𝔹)) (iv : List (List Kind)) (rd : List (List 𝔹)) : Type 0 where
    pub kinds : length ks ≡ length p.instructions
    pub live : length lv ≡ length p.blocks
    pub called : length cb ≡ length p.functions
    pub called_row : (f : ℕ) → f < length p.functions → length (get_or cb f []) ≡ length p.instructions
    pub ivars : length iv ≡ length p.classes
    pub ivars_row : (c : ℕ) → c < length p.classes → length (get_or iv c []) ≡ length (class p c).ivars
    pub reads : length rd ≡ length p.classes
    pub reads_row : (c : ℕ) → c < length p.classes → length (get_or rd c []) ≡ length p.instructions

  pub record FineKinds (ks : List Kind) (iv : List (List Kind)) : Type 0 where
    pub kind : (i : ℕ) → Fine (length p.classes) (length p.functions) (get_or ks i Empty)
    pub ivar : (c a : ℕ) → Fine (length p.classes) (length p.functions) (ivar_at iv c a)

  -- a Param may wait before its block is live
  abbrev pub Fit : List 𝔹 → ℕ → Type 0
  Fit live i = Placed p live i ⊎ (is_param (op_of p i) ≡ true)

  pub record Caller (ks : List Kind) (live : List 𝔹) (w : List ℕ) (f c : ℕ) : Type 0 where
    pub soon : Soon live w (entry p f)
    pub placed : Placed p live c
    pub call : has (about (op_of p c)).callee ≡ true
    pub by : Calls p ks (op_of p c) f

  -- all that an instruction leads to at these kinds is live or waits, and it passed 14 at these kinds
  pub record Done (ks : List Kind) (live : List 𝔹) (w : List ℕ) (i : ℕ) : Type 0 where
    pub leads : (t : ℕ) → Leads p ks (op_of p i) t → Soon live w t
    pub passed : Passed ks (op_of p i)

module _ (L : Limits) (p : Program) where
  -- `pend`: instructions taken off whose work is not finished
  pub record Inv (pend : List ℕ) (s : State) : Type 0 where
    pub sound : (i : ℕ) (u : Kind) → AboveAt L p s i (op_of p i) u → Le (get_or s.kinds i Empty) u
    pub fits : (i : ℕ) → i ∈ s.insn_worklist → Fit p s.live i
    pub queued : (i : ℕ) → i ∈ s.insn_worklist → i < length p.instructions
    pub callers : (f c : ℕ) → marked s.called_by f c ≡ true → Caller p s.kinds s.live s.block_worklist f c
    pub readers : (c i : ℕ) → marked s.ivar_reads c i ≡ true → Placed p s.live i
    pub reach : (b : ℕ) → Soon s.live s.block_worklist b → Reach p s.kinds b
    pub closed : (b i : ℕ) → is_live s.live b ≡ true → i ∈ code p b → (i ∈ pend) ⊎ ((i ∈ s.insn_worklist) ⊎ Done p s.kinds s.live s.block_worklist i)
    pub inside : (b : ℕ) → b ∈ s.block_worklist → b < length p.blocks
    pub rooted : is_live s.live (entry p (main_function p)) ≡ true
    pub sizes : Sizes p s.kinds s.live s.called_by s.ivar_kinds s.ivar_reads
    pub fine : FineKinds p s.kinds s.ivar_kinds
    pub flows : Data L p pend s.insn_worklist s.kinds s.live s.called_by s.ivar_kinds s.ivar_reads

-- the operand that decides where an instruction leads
abbrev watched : Op → List Opnd
watched (Ends (Jump b)) = []
watched (Ends (IfTrue v t e)) = v ∷ []
watched (Ends (Return v)) = []
watched (Send (Static f) l) = []
watched (Send (Dynamic r n) l) = r ∷ []
watched (Compute o v w) = []
watched (Phi b v c w) = []
watched (Param n) = []
watched (SelfParam c) = []
watched (New c) = []
watched (GetIvar n r) = []
watched (SetIvar n r v) = []

watched_used : (o : Op) (v : Opnd) → v ∈ watched o → v ∈ (about o).operands
watched_used (Ends (Jump b)) v m = not_in_none m
watched_used (Ends (IfTrue x t e)) v m = m
watched_used (Ends (Return x)) v m = not_in_none m
watched_used (Send (Static f) l) v m = not_in_none m
watched_used (Send (Dynamic r n) l) v m = Memᴰ.append_left l m
watched_used (Compute o x w) v m = not_in_none m
watched_used (Phi b x c w) v m = not_in_none m
watched_used (Param n) v m = not_in_none m
watched_used (SelfParam c) v m = not_in_none m
watched_used (New c) v m = not_in_none m
watched_used (GetIvar n r) v m = not_in_none m
watched_used (SetIvar n r x) v m = not_in_none m

module _ (p : Program) where
  -- where it leads, and whether it passes, depends on that operand's kind only
  record Steady (o : Op) (ks ks' : List Kind) : Type 0 where
    leads : (t : ℕ) → Leads p ks' o t → Leads p ks o t
    passed : Passed ks o → Passed ks' o

  steady : (o : Op) (ks : List Kind) (i : ℕ) (k : Kind) → Steady o ks (set ks i k) ⊎ (Insn i ∈ watched o)
  steady (Ends (Jump b)) ks i k = inl (record { leads = λ t m. m; passed = λ q. q })
  steady (Ends (IfTrue v x y)) ks i k = go (opnd_steady ks i k v)
    where
      go : (kind_in (set ks i k) v ≡ kind_in ks v) ⊎ (Insn i ≡ v) → Steady (Ends (IfTrue v x y)) ks (set ks i k) ⊎ (Insn i ∈ v ∷ [])
      go (inl e) = inl (record { leads = λ t m. subst (λ (z : Kind). t ∈ cons_if (admits true z) x (cons_if (admits false z) y [])) e m; passed = λ q. q })
      go (inr e) = inr (Memᴰ.head e)
  steady (Ends (Return v)) ks i k = inl (record { leads = λ t m. m; passed = λ q. q })
  steady (Send (Static f) l) ks i k = inl (record { leads = λ t m. m; passed = λ q. q })
  steady (Send (Dynamic r n) l) ks i k = go (opnd_steady ks i k r)
    where
      go : (kind_in (set ks i k) r ≡ kind_in ks r) ⊎ (Insn i ≡ r) → Steady (Send (Dynamic r n) l) ks (set ks i k) ⊎ (Insn i ∈ r ∷ [])
      go (inl e) = inl (record {
        leads = λ t m. record { class = m.class; method = m.method; member = subst (λ (z : Kind). m.class ∈ wide_classes z) e m.member; named = m.named; at = m.at };
        passed = λ q. subst (λ (z : Kind). has (classes_in z) ≡ true) (sym e) q;
      })
      go (inr e) = inr (Memᴰ.head e)
  steady (Compute o v w) ks i k = inl (record { leads = λ t m. m; passed = λ q. q })
  steady (Phi b v c w) ks i k = inl (record { leads = λ t m. m; passed = λ q. q })
  steady (Param n) ks i k = inl (record { leads = λ t m. m; passed = λ q. q })
  steady (SelfParam c) ks i k = inl (record { leads = λ t m. m; passed = λ q. q })
  steady (New c) ks i k = inl (record { leads = λ t m. m; passed = λ q. q })
  steady (GetIvar n r) ks i k = inl (record { leads = λ t m. m; passed = λ q. q })
  steady (SetIvar n r v) ks i k = inl (record { leads = λ t m. m; passed = λ q. q })

  -- an instruction whose work is finished is no longer pending
  finished : (i : ℕ) (s : State) → Done p s.kinds s.live s.block_worklist i → (j : ℕ) → (j ∈ i ∷ []) ⊎ ((j ∈ s.insn_worklist) ⊎ Done p s.kinds s.live s.block_worklist j) → (j ∈ []) ⊎ ((j ∈ s.insn_worklist) ⊎ Done p s.kinds s.live s.block_worklist j)
  finished i s d j (inl m) = inr (inr (rw (∈-one m) d))
  finished i s d j (inr z) = inr z

soon_more : (live : List 𝔹) (w l : List ℕ) {b : ℕ} → Soon live w b → Soon live (w ++ l) b
soon_more live w l (inl e) = inl e
soon_more live w l (inr m) = inr (Memᴰ.append_left l m)

module _ {L : Limits} {p : Program} (K : Laws (length p.classes) (length p.functions)) (T : Tables p) where
  -- instructions wait
  pub inv_wake : (pend l : List ℕ) (s : State) → Inv L p pend s → ((i : ℕ) → i ∈ l → Fit p s.live i × (i < length p.instructions)) → Inv L p pend (with_insns (s.insn_worklist ++ l) s)
  inv_wake pend l s v h = record {
    sound = v.sound;
    fits = λ i m. ∈-append s.insn_worklist l (λ n. v.fits i n) (λ n. (h i n).0) m;
    queued = λ i m. ∈-append s.insn_worklist l (λ n. v.queued i n) (λ n. (h i n).1) m;
    callers = v.callers;
    readers = v.readers;
    reach = v.reach;
    closed = λ b i e m. cl i (v.closed b i e m);
    inside = v.inside;
    rooted = v.rooted;
    sizes = v.sizes;
    fine = v.fine;
    flows = data_wake L p K T l v.flows;
  }
    where
      cl : (i : ℕ) → (i ∈ pend) ⊎ ((i ∈ s.insn_worklist) ⊎ Done p s.kinds s.live s.block_worklist i) → (i ∈ pend) ⊎ ((i ∈ s.insn_worklist ++ l) ⊎ Done p s.kinds s.live s.block_worklist i)
      cl i (inl m) = inl m
      cl i (inr (inl m)) = inr (inl (Memᴰ.append_left l m))
      cl i (inr (inr d)) = inr (inr d)

  -- a block waits
  pub inv_await : (pend : List ℕ) (x : ℕ) (s : State) → Inv L p pend s → Reach p s.kinds x → x < length p.blocks → Inv L p pend (with_blocks (s.block_worklist ++ x ∷ []) s)
  inv_await pend x s v r h = record {
    sound = v.sound;
    fits = v.fits;
    queued = v.queued;
    callers = λ f c e. let a = v.callers f c e in record { soon = soon_more s.live s.block_worklist (x ∷ []) a.soon; placed = a.placed; call = a.call; by = a.by };
    readers = v.readers;
    reach = λ b e. re b e;
    closed = λ b i e m. cl i (v.closed b i e m);
    inside = λ b m. ∈-append s.block_worklist (x ∷ []) (λ n. v.inside b n) (λ n. rw (∈-one n) h) m;
    rooted = v.rooted;
    sizes = v.sizes;
    fine = v.fine;
    flows = v.flows;
  }
    where
      re : (b : ℕ) → Soon s.live (s.block_worklist ++ x ∷ []) b → Reach p s.kinds b
      re b (inl e) = v.reach b (inl e)
      re b (inr m) = ∈-append s.block_worklist (x ∷ []) (λ n. v.reach b (inr n)) (λ n. rw (∈-one n) r) m

      cl : (i : ℕ) → (i ∈ pend) ⊎ ((i ∈ s.insn_worklist) ⊎ Done p s.kinds s.live s.block_worklist i) → (i ∈ pend) ⊎ ((i ∈ s.insn_worklist) ⊎ Done p s.kinds s.live (s.block_worklist ++ x ∷ []) i)
      cl i (inl m) = inl m
      cl i (inr (inl m)) = inr (inl m)
      cl i (inr (inr d)) = inr (inr (record { leads = λ t m. soon_more s.live s.block_worklist (x ∷ []) (d.leads t m); passed = d.passed }))

  -- a caller is noted
  pub inv_add_caller : (pend : List ℕ) (f c : ℕ) (s : State) → c ∈ pend → Inv L p pend s → Caller p s.kinds s.live s.block_worklist f c → Inv L p pend (add_caller f c s)
  inv_add_caller pend f c s m v new = record {
    sound = λ i u h. v.sound i u (above_mono K L p s (add_caller f c s) (up_add_caller K f c s) i (op_of p i) u h);
    fits = v.fits;
    queued = v.queued;
    callers = λ f' c' e. ca f' c' (mark_cases s.called_by f c f' c' e);
    readers = v.readers;
    reach = v.reach;
    closed = v.closed;
    inside = v.inside;
    rooted = v.rooted;
    sizes = let z = v.sizes in record {
      kinds = z.kinds;
      live = z.live;
      called = length-set s.called_by f _ ∙ z.called;
      called_row = λ g h. rows-length false s.called_by f c true g ∙ z.called_row g h;
      ivars = z.ivars;
      ivars_row = z.ivars_row;
      reads = z.reads;
      reads_row = z.reads_row;
    };
    fine = v.fine;
    flows = data_call L p K T f c m v.flows;
  }
    where
      ca : (f' c' : ℕ) → (marked s.called_by f' c' ≡ true) ⊎ ((f' ≡ f) × (c' ≡ c)) → Caller p s.kinds s.live s.block_worklist f' c'
      ca f' c' (inl e) = v.callers f' c' e
      ca f' c' (inr e) = rw (e.0, e.1) new

  -- a read is noted
  pub inv_add_read : (pend : List ℕ) (c i : ℕ) (s : State) → Inv L p pend s → Placed p s.live i → Inv L p pend (add_read c i s)
  inv_add_read pend c i s v al = record {
    sound = v.sound;
    fits = v.fits;
    queued = v.queued;
    callers = v.callers;
    readers = λ c' i' e. re c' i' (mark_cases s.ivar_reads c i c' i' e);
    reach = v.reach;
    closed = v.closed;
    inside = v.inside;
    rooted = v.rooted;
    sizes = let z = v.sizes in record {
      kinds = z.kinds;
      live = z.live;
      called = z.called;
      called_row = z.called_row;
      ivars = z.ivars;
      ivars_row = z.ivars_row;
      reads = length-set s.ivar_reads c _ ∙ z.reads;
      reads_row = λ g h. rows-length false s.ivar_reads c i true g ∙ z.reads_row g h;
    };
    fine = v.fine;
    flows = data_read L p K T c i v.flows;
  }
    where
      re : (c' i' : ℕ) → (marked s.ivar_reads c' i' ≡ true) ⊎ ((c' ≡ c) × (i' ≡ i)) → Placed p s.live i'
      re c' i' (inl e) = v.readers c' i' e
      re c' i' (inr e) = rw e.1 al

  -- an attribute is widened, and its reads wait
  pub inv_widen : (pend : List ℕ) (n : Name) (c a : ℕ) (k : Kind) (s : State) → ivar_named p c n ≡ some a → Inv L p pend s → Le (ivar_at s.ivar_kinds c a) k → Fine (length p.classes) (length p.functions) k → Inv L p pend (with_insns (s.insn_worklist ++ woken_reads L p s n c) (set_ivar_kind c a k s))
  inv_widen pend n c a k s named v le g = record {
    sound = λ i u h. v.sound i u (above_mono K L p s (set_ivar_kind c a k s) (up_set_ivar_kind K c a k s le) i (op_of p i) u h);
    fits = λ i m. ∈-append s.insn_worklist l (λ n. v.fits i n) (λ n. inl (reader i n)) m;
    queued = λ i m. ∈-append s.insn_worklist l (λ n. v.queued i n) (λ n. (reader i n).within) m;
    callers = v.callers;
    readers = v.readers;
    reach = v.reach;
    closed = λ b i e m. cl i (v.closed b i e m);
    inside = v.inside;
    rooted = v.rooted;
    sizes = let z = v.sizes in record {
      kinds = z.kinds;
      live = z.live;
      called = z.called;
      called_row = z.called_row;
      ivars = length-set s.ivar_kinds c _ ∙ z.ivars;
      ivars_row = λ d h. rows-length Empty s.ivar_kinds c a k d ∙ z.ivars_row d h;
      reads = z.reads;
      reads_row = z.reads_row;
    };
    fine = record { kind = v.fine.kind; ivar = λ c' a'. fi c' a' (rows_cases Empty s.ivar_kinds c a k c' a') };
    flows = data_widen L p K T c a n k named s.ivar_kinds s.ivar_reads le v.flows;
  }
    where
      l : List ℕ
      l = woken_reads L p s n c

      reader : (i : ℕ) → i ∈ l → Placed p s.live i
      reader i m =
          let z = keep-∈ (λ i. is_just_name (about (op_of p i)).gets n) (places (λ b. b) (get_or s.ivar_reads c [])) m in
          v.readers c i (places-∈ false (λ (b : 𝔹). b) (get_or s.ivar_reads c []) i z.0).1

      cl : (i : ℕ) → (i ∈ pend) ⊎ ((i ∈ s.insn_worklist) ⊎ Done p s.kinds s.live s.block_worklist i) → (i ∈ pend) ⊎ ((i ∈ s.insn_worklist ++ l) ⊎ Done p s.kinds s.live s.block_worklist i)
      cl i (inl m) = inl m
      cl i (inr (inl m)) = inr (inl (Memᴰ.append_left l m))
      cl i (inr (inr d)) = inr (inr d)

      iv : List (List Kind)
      iv = set s.ivar_kinds c (set (get_or s.ivar_kinds c []) a k)

      fi : (c' a' : ℕ) → (ivar_at iv c' a' ≡ ivar_at s.ivar_kinds c' a') ⊎ ((c' ≡ c) × (a' ≡ a) × (ivar_at iv c' a' ≡ k)) → Fine (length p.classes) (length p.functions) (ivar_at iv c' a')
      fi c' a' (inl e) = rw e (v.fine.ivar c' a')
      fi c' a' (inr e) = rw e.2 g

  -- ---- a kind is stored and the live users wait

  pub inv_store : (i : ℕ) (k : Kind) (s : State) → i < length p.instructions → Inv L p (i ∷ []) s → Done p s.kinds s.live s.block_worklist i
      → Own L p K T i k s.insn_worklist s.kinds s.live s.called_by s.ivar_kinds s.ivar_reads → IsRule L p s i (op_of p i) k → Fine (length p.classes) (length p.functions) k → Inv L p [] (with_insns (s.insn_worklist ++ live_uses L p s i) (set_kind i k s))
  inv_store i k s hi v done own rule g = record {
    sound = λ j u h. so j u (above_mono K L p s t up j (op_of p j) u h) (set_cases Empty s.kinds i k j);
    fits = λ j m. ∈-append s.insn_worklist l (λ n. v.fits j n) (λ n. let a = user j n in inl (record { alive = a.1; within = a.0 })) m;
    queued = λ j m. ∈-append s.insn_worklist l (λ n. v.queued j n) (λ n. (user j n).0) m;
    callers = λ f c e. let a = v.callers f c e in record { soon = a.soon; placed = a.placed; call = a.call; by = calls_mono K L p s.kinds t.kinds up.kinds (op_of p c) f a.by };
    readers = v.readers;
    reach = λ b e. reach_mono K L p up.kinds (v.reach b e);
    closed = λ b j e m. cl b j e m (finished p i s done j (v.closed b j e m)) (steady p (op_of p j) s.kinds i k);
    inside = v.inside;
    rooted = v.rooted;
    sizes = let z = v.sizes in record {
      kinds = length-set s.kinds i k ∙ z.kinds;
      live = z.live;
      called = z.called;
      called_row = z.called_row;
      ivars = z.ivars;
      ivars_row = z.ivars_row;
      reads = z.reads;
      reads_row = z.reads_row;
    };
    fine = record { kind = λ j. fi j (set_cases Empty s.kinds i k j); ivar = v.fine.ivar };
    flows = data_store L p K T i k s.insn_worklist s.kinds s.live s.called_by s.ivar_kinds s.ivar_reads own v.flows (rw v.sizes.kinds hi) old_le (λ f c e. (v.callers f c e).placed);
  }
    where
      l : List ℕ
      l = live_uses L p s i

      t : State
      t = with_insns (s.insn_worklist ++ l) (set_kind i k s)

      old_le : Le (get_or s.kinds i Empty) k
      old_le = v.sound i k rule.above

      up : Up s t
      up = let u = up_set_kind K i k s old_le in record { kinds = u.kinds; live = u.live; called = u.called; ivars = u.ivars }

      user : (j : ℕ) → j ∈ l → (j < length p.instructions) × (is_live s.live (block_of p j) ≡ true)
      user j n = let a = keep-∈ (λ j. get_or s.live (block_of p j) false) (uses p i) n in (T.uses_in i j a.0, a.1)

      so : (j : ℕ) (u : Kind) → AboveAt L p s j (op_of p j) u → (get_or (set s.kinds i k) j Empty ≡ get_or s.kinds j Empty) ⊎ ((j ≡ i) × (get_or (set s.kinds i k) j Empty ≡ k)) → Le (get_or (set s.kinds i k) j Empty) u
      so j u h (inl e) = rw e (v.sound j u h)
      so j u h (inr e) = rw e.1 (rule.least u (subst (λ (x : ℕ). AboveAt L p s x (op_of p x) u) e.0 h))

      fi : (j : ℕ) → (get_or (set s.kinds i k) j Empty ≡ get_or s.kinds j Empty) ⊎ ((j ≡ i) × (get_or (set s.kinds i k) j Empty ≡ k)) → Fine (length p.classes) (length p.functions) (get_or (set s.kinds i k) j Empty)
      fi j (inl e) = rw e (v.fine.kind j)
      fi j (inr e) = rw e.1 g

      cl : (b j : ℕ) → is_live s.live b ≡ true → j ∈ code p b → (j ∈ []) ⊎ ((j ∈ s.insn_worklist) ⊎ Done p s.kinds s.live s.block_worklist j) → Steady p (op_of p j) s.kinds (set s.kinds i k) ⊎ (Insn i ∈ watched (op_of p j)) → (j ∈ []) ⊎ ((j ∈ s.insn_worklist ++ l) ⊎ Done p (set s.kinds i k) s.live s.block_worklist j)
      cl b j e m (inl z) w = inl z
      cl b j e m (inr (inl z)) w = inr (inl (Memᴰ.append_left l z))
      cl b j e m (inr (inr d)) (inl w) = inr (inr (record { leads = λ x n. d.leads x (w.leads x n); passed = w.passed d.passed }))
      cl b j e m (inr (inr d)) (inr w) =
          let a = T.code_in b j m in
          inr (inl (Memᴰ.append_right s.insn_worklist (∈-keep (λ j. get_or s.live (block_of p j) false) (uses p i) (T.in_uses i j a.0 (watched_used (op_of p j) (Insn i) w)) (rw a.1 e))))

  -- its kind is above the rule's already
  pub inv_finish : (i : ℕ) (k : Kind) (s : State) → Inv L p (i ∷ []) s → Done p s.kinds s.live s.block_worklist i
      → Own L p K T i k s.insn_worklist s.kinds s.live s.called_by s.ivar_kinds s.ivar_reads → Le k (get_or s.kinds i Empty) → Le (get_or s.kinds i Empty) k → Inv L p [] s
  inv_finish i k s v done own le ge = record {
    sound = v.sound;
    fits = v.fits;
    queued = v.queued;
    callers = v.callers;
    readers = v.readers;
    reach = v.reach;
    closed = λ b j e m. finished p i s done j (v.closed b j e m);
    inside = v.inside;
    rooted = v.rooted;
    sizes = v.sizes;
    fine = v.fine;
    flows = data_finish L p K T i k s.insn_worklist s.kinds s.live s.called_by s.ivar_kinds s.ivar_reads own v.flows le ge;
  }

  -- ---- an entry is taken off

  pub inv_take_insn : (i : ℕ) (q : List ℕ) (s : State) → s.insn_worklist ≡ i ∷ q → Inv L p [] s → Inv L p (i ∷ []) (taken false q s.block_worklist s)
  inv_take_insn i q s e v = record {
    sound = v.sound;
    fits = λ j m. v.fits j (rw e (Memᴰ.tail m));
    queued = λ j m. v.queued j (rw e (Memᴰ.tail m));
    callers = v.callers;
    readers = v.readers;
    reach = v.reach;
    closed = λ b j h m. cl j (v.closed b j h m);
    inside = v.inside;
    rooted = v.rooted;
    sizes = v.sizes;
    fine = v.fine;
    flows = data_take L p K T i q e v.flows;
  }
    where
      split : (j : ℕ) → (j ≡ i) ⊎ (j ∈ q) → (j ∈ i ∷ []) ⊎ ((j ∈ q) ⊎ Done p s.kinds s.live s.block_worklist j)
      split j (inl z) = inl (Memᴰ.head z)
      split j (inr z) = inr (inl z)

      cl : (j : ℕ) → (j ∈ []) ⊎ ((j ∈ s.insn_worklist) ⊎ Done p s.kinds s.live s.block_worklist j) → (j ∈ i ∷ []) ⊎ ((j ∈ q) ⊎ Done p s.kinds s.live s.block_worklist j)
      cl j (inl z) = not_in_none z
      cl j (inr (inl z)) = split j (Memᴰ.cases_cons (rw e at z))
      cl j (inr (inr d)) = inr (inr d)

  -- ---- a block is taken off

  module _ (b : ℕ) (w : List ℕ) (s : State) (e : s.block_worklist ≡ b ∷ w) (v : Inv L p [] s) where
    here : b ∈ s.block_worklist
    here = rw e (Memᴰ.head refl)

    later : (x : ℕ) → x ∈ w → x ∈ s.block_worklist
    later x m = rw e (Memᴰ.tail m)

    -- a block that is live already
    pub inv_again : is_live s.live b ≡ true → Inv L p [] (taken true s.insn_worklist w s)
    inv_again q = record {
      sound = v.sound;
      fits = v.fits;
      queued = v.queued;
      callers = λ f c h. let a = v.callers f c h in record { soon = soon (entry p f) a.soon; placed = a.placed; call = a.call; by = a.by };
      readers = v.readers;
      reach = λ x h. v.reach x (back x h);
      closed = λ x j h m. cl j (v.closed x j h m);
      inside = λ x m. v.inside x (later x m);
      rooted = v.rooted;
      sizes = v.sizes;
      fine = v.fine;
      flows = v.flows;
    }
      where
        soon : (x : ℕ) → Soon s.live s.block_worklist x → Soon s.live w x
        soon x (inl h) = inl h
        soon x (inr m) = at (Memᴰ.cases_cons (rw e at m))
          where
            at : (x ≡ b) ⊎ (x ∈ w) → Soon s.live w x
            at (inl z) = inl (rw z q)
            at (inr z) = inr z

        back : (x : ℕ) → Soon s.live w x → Soon s.live s.block_worklist x
        back x (inl h) = inl h
        back x (inr m) = inr (later x m)

        cl : (j : ℕ) → (j ∈ []) ⊎ ((j ∈ s.insn_worklist) ⊎ Done p s.kinds s.live s.block_worklist j) → (j ∈ []) ⊎ ((j ∈ s.insn_worklist) ⊎ Done p s.kinds s.live w j)
        cl j (inl z) = inl z
        cl j (inr (inl z)) = inr (inl z)
        cl j (inr (inr d)) = inr (inr (record { leads = λ x m. soon x (d.leads x m); passed = d.passed }))

    -- a block newly live: its instructions wait
    pub inv_open : Inv L p [] (with_insns (s.insn_worklist ++ code p b) (set_live b (taken true s.insn_worklist w s)))
    inv_open = record {
      sound = λ i u h. v.sound i u (above_mono K L p s t up i (op_of p i) u h);
      fits = λ j m. ∈-append s.insn_worklist (code p b) (λ n. fit j (v.fits j n)) (λ n. let a = T.code_in b j n in inl (record { alive = rw a.1 lit; within = a.0 })) m;
      queued = λ j m. ∈-append s.insn_worklist (code p b) (λ n. v.queued j n) (λ n. (T.code_in b j n).0) m;
      callers = λ f c h. let a = v.callers f c h in record { soon = soon (entry p f) a.soon; placed = place c a.placed; call = a.call; by = a.by };
      readers = λ c i h. place i (v.readers c i h);
      reach = λ x h. re x h;
      closed = λ x j h m. cl x j m (set_cases false s.live b true x) h;
      inside = λ x m. v.inside x (later x m);
      rooted = up.live _ v.rooted;
      sizes = let z = v.sizes in record {
        kinds = z.kinds;
        live = length-set s.live b true ∙ z.live;
        called = z.called;
        called_row = z.called_row;
        ivars = z.ivars;
        ivars_row = z.ivars_row;
        reads = z.reads;
        reads_row = z.reads_row;
      };
      fine = v.fine;
      flows = data_open L p K T b v.flows;
    }
      where
        t : State
        t = with_insns (s.insn_worklist ++ code p b) (set_live b (taken true s.insn_worklist w s))

        up : Up s t
        up = record { kinds = λ j. le_refl K _; live = λ x h. set-true s.live b x h; called = λ f c h. h; ivars = λ c a. le_refl K _ }

        lit : is_live t.live b ≡ true
        lit = get_or-set_same s.live b true false (rw v.sizes.live (v.inside b here))

        place : (j : ℕ) → Placed p s.live j → Placed p t.live j
        place j x = record { alive = up.live _ x.alive; within = x.within }

        fit : (j : ℕ) → Fit p s.live j → Fit p t.live j
        fit j (inl x) = inl (place j x)
        fit j (inr x) = inr x

        soon : (x : ℕ) → Soon s.live s.block_worklist x → Soon t.live w x
        soon x (inl h) = inl (up.live x h)
        soon x (inr m) = at (Memᴰ.cases_cons (rw e at m))
          where
            at : (x ≡ b) ⊎ (x ∈ w) → Soon t.live w x
            at (inl z) = inl (rw z lit)
            at (inr z) = inr z

        re' : (x : ℕ) → is_live t.live x ≡ true → (get_or (set s.live b true) x false ≡ get_or s.live x false) ⊎ ((x ≡ b) × (get_or (set s.live b true) x false ≡ true)) → Reach p s.kinds x
        re' x h (inl z) = v.reach x (inl (sym z ∙ h))
        re' x h (inr z) = v.reach x (inr (rw z.0 here))

        re : (x : ℕ) → Soon t.live w x → Reach p s.kinds x
        re x (inl h) = re' x h (set_cases false s.live b true x)
        re x (inr m) = v.reach x (inr (later x m))

        old : (j : ℕ) → (j ∈ []) ⊎ ((j ∈ s.insn_worklist) ⊎ Done p s.kinds s.live s.block_worklist j) → (j ∈ []) ⊎ ((j ∈ s.insn_worklist ++ code p b) ⊎ Done p s.kinds t.live w j)
        old j (inl z) = inl z
        old j (inr (inl z)) = inr (inl (Memᴰ.append_left (code p b) z))
        old j (inr (inr d)) = inr (inr (record { leads = λ x m. soon x (d.leads x m); passed = d.passed }))

        cl : (x j : ℕ) → j ∈ code p x → (get_or (set s.live b true) x false ≡ get_or s.live x false) ⊎ ((x ≡ b) × (get_or (set s.live b true) x false ≡ true)) → is_live t.live x ≡ true → (j ∈ []) ⊎ ((j ∈ s.insn_worklist ++ code p b) ⊎ Done p s.kinds t.live w j)
        cl x j m (inl z) h = old j (v.closed x j (sym z ∙ h) m)
        cl x j m (inr z) h = inr (inl (Memᴰ.append_right s.insn_worklist (rw z.0 at m)))
