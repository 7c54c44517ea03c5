-- What each way through the functions shows, on plain values. Assumes nothing.
use mathlib.Core.Bool.{Bool, true, false, cond}
use mathlib.Core.Path.{◌≡◌, refl, sym, ap, ◌∙◌}
use mathlib.Core.List.{List, [], ◌∷◌}
use Prim.Native.Nat.{ℕ, ◌+◌, ◌-◌, ◌%◌, ◌^◌, ◌≤◌, ◌<◌}
use native.Mathlib.Omega.{arith}
use lib.Dec.{eqb}
use lib.ListN.{length}
use Rattle.kinds.specs.Kinds.{kind_from}
use Rattle.ids.specs.declared.InsnId.{InsnId}
use Rattle.std.specs.Prelude.{Ok, Err, Option, Some, None, IfSome}
use Rattle.std.proofs.Common.{Bor}
use Rattle.std.specs.declared.result.Result.{Result}
use Rattle.refusals.specs.declared.Refusal.{Refusal}
use Rattle.rules.specs.Actions.{Answer, answered, if_answered}
use Rattle.rules.specs.Program as P
use Rattle.rules.specs.Program.{Name, same_opnd}
use Rattle.rules.specs.Reading.{Parser, with_env, with_program, all_keys, push_insn, push, join_vars}
use Rattle.rules.specs.Reading as R
use Rattle.variables.specs.Scopes.{over, env_of, join_one, join_rows}
use Rattle.variables.proofs.scopes.Made.{env_sorted}
use Rattle.variables.proofs.scopes.Rows.{sorted_rest}
use Rattle.variables.proofs.scopes.Joins.{join-rows}
use Rattle.variables.specs.Memory.{opnd_from, made, vars, row, Kept}
use Rattle.variables.specs.Promises as E
use Rattle.variables.specs.Promises.{VariableBinds, BindsAgain, Leaves, Lies, Aside, BothAside, NotesBoth, VariableJoins}
use Rattle.variables.specs.declared.operands.Stored.{Stored}
use Rattle.variables.specs.declared.Joint.{Joint}
use Rattle.variables.specs.declared.Row.{Row}
use Rattle.variables.specs.declared.Rows.{Rows}
use Rattle.variables.proofs.Laws.{noted-part, noted-kept}
use Rattle.variables.proofs.Entries.{kept-all, kept_trans, kept-part, vars-kept, vars_split, row_kept, cut}
use Rattle.program.proofs.Operands.{one_opnd, two_opnds}
use Rattle.program.specs.Rows as Stored
use Rattle.program.specs.Rows.{opnd_of}
use Rattle.program.specs.View.{program_view, ProgramReady, limits_of, ProgramDid, pushing_of, more_insns, insn_of, unchanged}
use Rattle.program.specs.declared.Counts.{Counts}
use Rattle.program.specs.declared.bounds.Limits.{Limits}
use Rattle.program.specs.declared.Opnd.{Opnd}
use Rattle.program.specs.declared.Opnd.TheVariants.{Const, Insn}
use Rattle.program.specs.declared.Op.{Op}
use Rattle.program.specs.declared.Op.TheVariants as O
use Rattle.variables.specs.Layout.{bindings_most, entries_most, variables_size}
use Rattle.phis.specs.Joining.{PhisGrown, Phis, state, joined, JoinReady, One, RowsJoined, Arms, IfEnd}
use Rattle.phis.specs.declared.Blocks.{Blocks}

-- ---- stored operands

-- the program's stored form of an operand is the variables'
stored-is : (t x : ℕ) → opnd_of (Stored.opnd_from t x) ≡ opnd_from t x
unfolding opnd_from Stored.opnd_from
stored-is t x = by (eqb t 10)
  where
    by : (b : Bool) → opnd_of (cond b (Insn (record { 0 = x % 2 ^ 32 })) (Const (kind_from t x))) ≡ cond b (P.Insn (x % 2 ^ 32)) (P.Const (kind_from t x))
    by true = refl
    by false = refl

pub load_is : {o : Opnd} (r : Stored) → o ≡ Stored.opnd_from r.tag r.bits → opnd_of o ≡ E.opnd_of r
load_is r e = ap opnd_of e ∙ stored-is r.tag r.bits

pub store_is : {o : Opnd} {t : ℕ} (x : ℕ) (p : t < 16) → (Stored.opnd_from t x ≡ o) × (t < 16) → E.opnd_of (record { tag = t; bits = x; small = p }) ≡ opnd_of o
store_is {t = t} x p e = sym (stored-is t x) ∙ ap opnd_of e.0

-- ---- counts

grown_self : (c : Counts) → PhisGrown c c
grown_self c = record { functions = refl; classes = refl; blocks = refl; insns = omega arith }

grown_more : (c d : Counts) (o : Op) (n : ℕ) → d ≡ more_insns o n c → PhisGrown c d
grown_more c d o n e = rw e (record { functions = refl; classes = refl; blocks = refl; insns = omega arith })

grown_trans : {c d e : Counts} → PhisGrown c d → PhisGrown d e → PhisGrown c e
grown_trans f g = record { functions = g.functions ∙ f.functions; classes = g.classes ∙ f.classes; blocks = g.blocks ∙ f.blocks; insns = omega (arith, f.insns, g.insns) }

-- ---- phi

-- an instruction's number as an operand
abbrev numbered : Answer (ℕ × Parser) → Answer (P.Opnd × Parser)
numbered a = if_answered a (λ z. answered (P.Insn z.0, z.1))

module _ (l : Limits) (q : Blocks) (v w : Opnd) (p : List ℕ) (c : Counts) where
  pub phi-same : ProgramReady p c → v ≡ w → Phis l q v w p c p c (Ok v)
  unfolding R.phi
  phi-same g e = record { is = λ z r h. rw (one_opnd v w e); ready = (g, grown_self c) }

  in_block : (s : List ℕ) (r : Parser) → r.block ≡ q.at.0
      → push_insn (limits_of l) q.at.0 (P.Phi q.left.0 (opnd_of v) q.right.0 (opnd_of w)) (with_program (program_view s p c) r)
      ≡ push_insn (limits_of l) r.block (P.Phi q.left.0 (opnd_of v) q.right.0 (opnd_of w)) (with_program (program_view s p c) r)
  in_block s r h = ap (λ k. push_insn (limits_of l) k (P.Phi q.left.0 (opnd_of v) q.right.0 (opnd_of w)) (with_program (program_view s p c) r)) (sym h)

  module _ (p' : List ℕ) (d : Counts) (f : v ≡ w → ⊥) where
    abbrev Pushed : Result InsnId Refusal → Type 0
    Pushed x = ProgramDid (pushing_of (limits_of l) q.at.0 (O.Phi q.left q.right) (v ∷ w ∷ [])) unchanged c.insns (more_insns (O.Phi q.left q.right) 2 c) p c p' (insn_of d x)

    pub phi_added : {i : InsnId} → Pushed (Ok i) → Phis l q v w p c p' d (Ok (Insn i))
    unfolding R.phi push
    phi_added g = record { is = λ s r h. rw (two_opnds v w f) (ap numbered (g.is s r ∙ in_block s r h)); ready = (g.ok.ready, grown_more c d (O.Phi q.left q.right) 2 g.ok.counts) }

    pub phi-refused : {k : Refusal} → Pushed (Err k) → Phis l q v w p c p' d (Err k)
    unfolding R.phi push
    phi-refused g = record { is = λ s r h. rw (two_opnds v w f) (ap numbered (g.is s r ∙ in_block s r h)); ready = tt }

-- ---- join_one

module _ (l : Limits) (q : Blocks) (n : ℕ) (x : Joint) (m p : List ℕ) (c : Counts) {v w : Opnd} {p' : List ℕ} {d : Counts}
    (ev : opnd_of v ≡ E.opnd_of x.left) (ew : opnd_of w ≡ E.opnd_of x.right) where
  pub one_bound : {o : Opnd} (r : Stored) {m' : List ℕ} → Phis l q v w p c p' d (Ok o) → E.opnd_of r ≡ opnd_of o → BindsAgain n x.word r.tag r.bits m m'
      → One l q n x m p c m' p' d (Ok (n + 1))
  unfolding join_one
  one_bound {o} r {m'} g i b = record {
    len_same = b.len_same;
    is = λ s z h. rw (b.is s, i, ← ev, ← ew, ← g.is s (with_env (vars s m n) z) h);
    old = b.old;
    aside = b.aside;
    ready = (g.ready.0, (g.ready.1, (omega arith, omega arith)));
  }

  pub one_refused : {k : Refusal} → Phis l q v w p c p' d (Err k) → One l q n x m p c m p' d (Err k)
  unfolding join_one
  one_refused g = record {
    len_same = refl;
    is = λ s z h. rw (← ev, ← ew, ← g.is s (with_env (vars s m n) z) h);
    old = kept-all 0 n m;
    aside = kept-all bindings_most entries_most m;
    ready = tt;
  }

-- ---- join_rows, at its loop's head: what is left to join comes to what the whole comes to

pub record Joining (s : List ℕ) (l : Limits) (q : Blocks) (base : ℕ) (x : Rows) (m₀ p₀ : List ℕ) (t : Option (Bor (List ℕ))) (c : Counts) (m p : List ℕ) (n : ℕ) (d : Counts) (y : Rows) : Type 0 where
  pub big : variables_size ≤ length m
  pub len_same : length m ≡ length m₀
  pub low : Kept 0 base m₀ m
  pub aside : Kept bindings_most entries_most m₀ m
  pub ready : ProgramReady p d
  pub grown : PhisGrown c d
  pub old : base ≤ n
  pub room : n + (y.left.len + y.right.len) ≤ base + (x.left.len + x.right.len)
  pub most : base + (x.left.len + x.right.len) ≤ bindings_most
  pub rows : BothAside s m₀ y
  pub noted : IfSome t (λ b. NotesBoth s m₀ base y.left.lo y.left.len y.right.lo y.right.len b.now)
  pub same : (r : Parser) → r.block ≡ q.at.0
      → join_rows (limits_of l) q.left.0 q.right.0 (vars s m₀ base) (row s m₀ y.left.lo y.left.len) (row s m₀ y.right.lo y.right.len) (state s m n p d r)
      ≡ join_rows (limits_of l) q.left.0 q.right.0 (vars s m₀ base) (row s m₀ x.left.lo x.left.len) (row s m₀ x.right.lo x.right.len) (state s m₀ base p₀ c r)

-- what follows of a value follows where there is one
of_some : {A : Type 0} {P Q : A → Type 0} (t : Option A) → ((x : A) → P x → Q x) → IfSome t P → IfSome t Q
of_some None f h = h
of_some (Some x) f h = f x h

-- what is left of a row when its first k entries are taken
abbrev behind : ℕ → Row → Row
behind k r = record { lo = r.lo + k; len = r.len - k }

behind-aside : {s m : List ℕ} {r : Row} (k : ℕ) → k ≤ r.len → Aside s m r → Aside s m (behind k r)
behind-aside {s} {m} {r} k h a = record {
  low = omega (arith, a.low);
  lies = record { inside = omega (arith, a.lies.inside); sorted = sorted_rest (row s m r.lo k) _ (rw (cut s m r.lo r.len k h) at a.lies.sorted) };
}

module _ {s : List ℕ} {l : Limits} {q : Blocks} {base : ℕ} {x : Rows} {m₀ p₀ : List ℕ} {t : Option (Bor (List ℕ))} {c : Counts} {m p : List ℕ} {n : ℕ} {d : Counts} {y : Rows}
    (g : Joining s l q base x m₀ p₀ t c m p n d y) where
  same_base : vars s m base ≡ vars s m₀ base
  same_base = vars-kept s m₀ m base 0 base g.low (omega arith) (omega arith)

  same_row : (r : Row) → Aside s m₀ r → row s m r.lo r.len ≡ row s m₀ r.lo r.len
  same_row r a = row_kept s m₀ m r.lo r.len bindings_most entries_most g.aside a.low a.lies.inside

  row_aside : (r : Row) → Aside s m₀ r → Aside s m r
  row_aside r a = record { low = a.low; lies = record { inside = a.lies.inside; sorted = rw (same_row r a) a.lies.sorted } }

  pub join_aside : BothAside s m y
  join_aside = record { left = row_aside y.left g.rows.left; right = row_aside y.right g.rows.right }

  pub join-noted : IfSome t (λ b. NotesBoth s m base y.left.lo y.left.len y.right.lo y.right.len b.now)
  join-noted =
      of_some t
      (λ b f. record {
        left = noted-kept m g.low g.aside g.rows.left.low g.rows.left.lies.inside f.left;
        right = noted-kept m g.low g.aside g.rows.right.low g.rows.right.lies.inside f.right;
      })
      g.noted

  pub join-done : ((L : P.Limits) (b c : ℕ) (st : Parser) → join_rows L b c (vars s m base) (row s m y.left.lo y.left.len) (row s m y.right.lo y.right.len) st ≡ answered (tt, st))
      → RowsJoined s l q base x m₀ p₀ c m p d (Ok n)
  join-done a = record {
    len_same = g.len_same;
    is = λ r h.
        sym (a (limits_of l) q.left.0 q.right.0 (state s m n p d r))
        ∙ rw (same_base, same_row y.left g.rows.left, same_row y.right g.rows.right) (g.same r h);
    old = g.low;
    aside = g.aside;
    ready = (g.ready, (g.grown, (g.old, omega (arith, g.room))));
  }

  module _ {z : Joint} (turn : VariableJoins s m base y.left.lo y.left.len y.right.lo y.right.len z) {l' : Limits} (k : l' ≡ l) (m' p' : List ℕ) (d' : Counts) where
    abbrev After : Result ℕ Refusal → Type 0
    After j = One l' q n z m p d m' p' d' j

    rest : {j : Result ℕ Refusal} → After j → (r : Parser) → r.block ≡ q.at.0
        → if_answered (joined s m' p' d' j r) (λ t. join_rows (limits_of l) q.left.0 q.right.0 (vars s m₀ base)
        (row s m₀ (y.left.lo + z.lefts) (y.left.len - z.lefts)) (row s m₀ (y.right.lo + z.rights) (y.right.len - z.rights)) t.1)
        ≡ join_rows (limits_of l) q.left.0 q.right.0 (vars s m₀ base) (row s m₀ x.left.lo x.left.len) (row s m₀ x.right.lo x.right.len) (state s m₀ base p₀ c r)
    rest o r h =
        rw (rw k at (o.is s r h))
        (sym (rw (
          same_base,
          same_row y.left g.rows.left,
          same_row y.right g.rows.right,
          same_row (behind z.lefts y.left) (behind-aside z.lefts turn.lefts g.rows.left),
          same_row (behind z.rights y.right) (behind-aside z.rights turn.rights g.rows.right),
        )
        at (turn.is (limits_of l) q.left.0 q.right.0 (state s m n p d r))) ∙ g.same r h)

    pub join-stop : {k : Refusal} → After (Err k) → RowsJoined s l q base x m₀ p₀ c m' p' d' (Err k)
    join-stop o = record {
      len_same = o.len_same ∙ g.len_same;
      is = λ r h. rest o r h;
      old = kept_trans g.low (kept-part 0 n 0 base m m' (omega arith) g.old o.old);
      aside = kept_trans g.aside o.aside;
      ready = tt;
    }

    pub join_more : {n' : ℕ} → After (Ok n')
        → Joining s l q base x m₀ p₀ t c m' p' n' d' (record { left = behind z.lefts y.left; right = behind z.rights y.right })
    join_more {n'} o =
        let ok = o.ready in
        record {
          big = omega (arith, g.big, o.len_same);
          len_same = o.len_same ∙ g.len_same;
          low = kept_trans g.low (kept-part 0 n 0 base m m' (omega arith) g.old o.old);
          aside = kept_trans g.aside o.aside;
          ready = ok.0;
          grown = grown_trans g.grown ok.1.0;
          old = omega (arith, g.old, ok.1.1.0);
          room = omega (arith, g.room, ok.1.1.1, turn.lefts, turn.rights, turn.some);
          most = g.most;
          rows = record { left = behind-aside z.lefts turn.lefts g.rows.left; right = behind-aside z.rights turn.rights g.rows.right };
          noted = of_some t (λ b f. record { left = noted-part z.lefts turn.lefts f.left; right = noted-part z.rights turn.rights f.right }) g.noted;
          same = λ r h. rest o r h;
        }

-- ---- join_arms

less-most : (p : List ℕ) (c d : Counts) (lo hi hi' : ℕ) (j : Result ℕ Refusal) → hi ≤ hi' → JoinReady p c d lo hi j → JoinReady p c d lo hi' j
less-most p c d lo hi hi' (Ok n) h r = (r.0, (r.1.0, (r.1.1.0, omega (arith, r.1.1.1))))
less-most p c d lo hi hi' (Err e) h r = tt

module _ {mark n : ℕ} {left : Row} (f : Arms mark n left.lo left.len) where
  module _ {s m m1 : List ℕ} {rn : ℕ} (v : Leaves s mark (n - mark) (left.lo + left.len) m m1 rn) where
    abbrev both : Rows
    both = record { left = left; right = record { lo = left.lo + left.len; len = rn } }

    same_left : row s m1 left.lo left.len ≡ row s m left.lo left.len
    same_left = row_kept s m m1 left.lo left.len 0 (left.lo + left.len) v.low (omega arith) (omega arith)

    pub arms_aside : Lies s m left → BothAside s m1 both
    arms_aside t = record {
      left = record { low = f.low; lies = record { inside = t.inside; sorted = rw same_left t.sorted } };
      right = record {
        low = omega (arith, f.low);
        lies = record { inside = omega (arith, f.old, f.room, v.less); sorted = rw v.is (env_sorted (made s m mark (n - mark))) };
      };
    }

    pub arms_room : mark + (left.len + rn) ≤ bindings_most
    arms_room = omega (arith, f.old, f.low, f.room, v.less)

    pub arms-done : {l : Limits} {q : Blocks} {p : List ℕ} {c : Counts} {m' p' : List ℕ} {c' : Counts} {j : Result ℕ Refusal}
        → RowsJoined s l q mark both m1 p c m' p' c' j → IfEnd s l q mark n left.lo left.len m p c m' p' c' j
    arms-done {l} {q} {p} {c} {m'} {p'} {c'} {j} g =
        let base : vars s m1 mark ≡ vars s m mark = vars-kept s m m1 mark 0 (left.lo + left.len) v.low (omega arith) (omega (arith, f.old, f.low, f.room)) in
        record {
          len_same = g.len_same ∙ v.len_same;
          is = λ a e r h.
              let all : join_vars (limits_of l) q.left.0 (over a (vars s m mark)) q.right.0 (over (made s m mark (n - mark)) (vars s m mark))
              (all_keys (over a (vars s m mark)) (over (made s m mark (n - mark)) (vars s m mark))) (state s m mark p c r)
              ≡ join_rows (limits_of l) q.left.0 q.right.0 (vars s m mark) (env_of a) (env_of (made s m mark (n - mark))) (state s m mark p c r)
              = join-rows (limits_of l) q.left.0 q.right.0 (made s m mark (n - mark)) (state s m mark p c r) (env_sorted (made s m 0 mark)) a in
              rw (base, same_left, e, v.is) at (g.is r h) ∙ rw (vars_split s m mark n f.old) (sym all);
          old = kept_trans (kept-part 0 (left.lo + left.len) 0 mark m m1 (omega arith) (omega (arith, f.old, f.low, f.room)) v.low) g.old;
          aside = kept_trans (kept-part 0 (left.lo + left.len) bindings_most left.lo m m1 (omega arith) (omega arith) v.low)
              (kept-part bindings_most entries_most bindings_most left.lo m1 m' (omega arith) (omega (arith, f.room)) g.aside);
          ready = less-most p' c c' mark (mark + (left.len + rn)) (n + left.len) j (omega (arith, f.old, v.less)) g.ready;
        }
