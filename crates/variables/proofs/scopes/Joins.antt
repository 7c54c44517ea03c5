-- The join of variables at an `if`: of all names bound in either arm, those that an arm set are enough. Assumes nothing.
use Prim.Native.Nat.{ℕ, ◌+◌}
use mathlib.Core.Path.{◌≡◌, refl, sym, ap, ◌∙◌}
use mathlib.Core.Bool.{Bool, true, false, not}
use mathlib.Core.List.{[], ◌∷◌}
use mathlib.Core.Option.{Option, none, some}
use lib.Dec.{ltb, leb}
use lib.ListN.{length}
use borrow.Author.Tests.{eq-eqb}
use Rattle.numbers.proofs.Laws.{same_refl_ℤ}
use Rattle.kinds.specs.Kinds.{tag_of, number_of, same_kind}
use Rattle.rules.specs.Actions.{choose, Answer, answered, refused, if_answered, ◌>>◌, ask, give, change}
use Rattle.rules.specs.Lists.{same, precedes, or_else}
use Rattle.rules.specs.Program.{Limits, Name, Opnd, Const, Insn, Op, Phi, same_opnd, about, terminated, listed_count}
use Rattle.rules.specs.Program as P
use Rattle.rules.specs.Reading.{Env, Parser, Reads, with_env, with_program, lookup, bind, nil, value_or_nil, all_keys, push_insn, push, phi, join_vars}
use Rattle.variables.specs.Scopes.{Above, Sorted, Bindings, over, env_of, join_one, join_rows}
use Rattle.variables.proofs.scopes.Order.{OrderStands, before, equal, behind, stands, below-same}
use Rattle.variables.proofs.scopes.Sorted.{above_trans, lookup-here, lookup-on, absent, bind_sorted, bound, unbound, none-some, rebound}
use Rattle.variables.proofs.scopes.Made.{over_sorted, env_sorted, all-over, or, lookup-over, lookup-env, over-env}
use Rattle.variables.proofs.scopes.Rows.{above-all, all_left, all_right, all_both}

-- ---- equal operands need no join

pub same_opnd_lem : (v : Opnd) → same_opnd v v ≡ true
unfolding same_kind
same_opnd_lem (Const k) = rw (eq-eqb (tag_of k) (tag_of k) refl, same_refl_ℤ (number_of k))
same_opnd_lem (Insn i) = eq-eqb i i refl

-- ---- a join leaves the variables alone

abbrev pub EnvIs : {A : Type 0} → Env → Answer (A × Parser) → Type 0
EnvIs e (answered p) = p.1.env ≡ e
EnvIs e (refused n) = Unit {0}

-- three questions, then a change of something else
asks_env : (e : Env) (t u w : Bool) (f : Parser → Parser) (i : ℕ) (st : Parser) → (f st).env ≡ e
    → EnvIs {A = ℕ} e ((ask 10 t >> (ask 11 u >> (ask 11 w >> (change f >> give i)))) st)
asks_env e true true true f i st h = h
asks_env e true true false f i st h = tt
asks_env e true false w f i st h = tt
asks_env e false u w f i st h = tt

give-env : {A B : Type 0} (e : Env) (a : Answer (A × Parser)) (f : A → B) → EnvIs e a → EnvIs e (if_answered a (λ r. answered (f r.0, r.1)))
give-env e (answered p) f h = h
give-env e (refused n) f h = tt

choose-env : {A : Type 0} (e : Env) (t : Bool) (f g : Unit {0} → Answer (A × Parser)) → EnvIs e (f tt) → EnvIs e (g tt) → EnvIs e (choose t f g)
choose-env e true f g h i = h
choose-env e false f g h i = i

module _ (L : Limits) where
  pub insn_env : (b : ℕ) (op : Op) (st : Parser) → EnvIs st.env (push_insn L b op st)
  unfolding push_insn
  insn_env b op st =
      let p = st.program in
      asks_env st.env (not (terminated p b)) (ltb (length p.instructions) L.instructions) (leb (listed_count p + length (about op).listed) L.operands)
      (with_program (P.with_instruction (record { block = b; op = op }) p)) (length p.instructions) st refl

  pub phi-env : (b : ℕ) (v : Opnd) (c : ℕ) (w : Opnd) (st : Parser) → EnvIs st.env (phi L b v c w st)
  unfolding phi push
  phi-env b v c w st = choose-env st.env (same_opnd v w) _ _ refl (give-env st.env (push_insn L st.block (Phi b v c w) st) Insn (insn_env st.block (Phi b v c w) st))

  pub phi-same : (b : ℕ) (v : Opnd) (c : ℕ) (st : Parser) → phi L b v c v st ≡ answered (v, st)
  unfolding phi
  phi-same b v c st = rw (same_opnd_lem v)

module _ (L : Limits) (b : ℕ) (l : Env) (c : ℕ) (r : Env) where
  abbrev join_name : Name → Reads (Unit {0})
  join_name k = join_one L b c k (value_or_nil k l) (value_or_nil k r)

  pub join_cons : (x : Name × Opnd) (keys : Env) (st : Parser) → join_vars L b l c r (x ∷ keys) st ≡ if_answered (join_name x.0 st) (λ p. join_vars L b l c r keys p.1)
  unfolding join_one join_vars
  join_cons x keys st = assoc (phi L b (value_or_nil x.0 l) c (value_or_nil x.0 r) st)
    where
      assoc : (a : Answer (Opnd × Parser))
          → if_answered a (λ p. join_vars L b l c r keys (with_env (bind x.0 p.0 p.1.env) p.1))
          ≡ if_answered {A = Unit {0} × Parser} (if_answered a (λ p. answered (tt, with_env (bind x.0 p.0 p.1.env) p.1))) (λ p. join_vars L b l c r keys p.1)
      assoc (answered p) = refl
      assoc (refused n) = refl

  -- in both arms, and in the environment in force, the name has one operand
  pub record Quiet (k : Name) (e : Env) : Type 0 where
    pub value : Opnd
    pub left : value_or_nil k l ≡ value
    pub right : value_or_nil k r ≡ value
    pub bound : lookup k e ≡ some value

  pub quiet_one : (k : Name) (st : Parser) → Sorted st.env → Quiet k st.env → join_name k st ≡ answered (tt, st)
  unfolding join_one
  quiet_one k st s q = rw (q.left, q.right, phi-same L b q.value c st, rebound k q.value st.env s q.bound)

  -- the step leaves all other names alone
  pub record ScopeStep (k : Name) (e e' : Env) : Type 0 where
    pub sorted : Sorted e'
    pub others : (n : Name) → same k n ≡ false → lookup n e' ≡ lookup n e

  abbrev StepTo : Name → Env → Answer (Unit {0} × Parser) → Type 0
  StepTo k e (answered p) = ScopeStep k e p.1.env
  StepTo k e (refused n) = Unit {0}

  one_step : (k : Name) (st : Parser) → Sorted st.env → StepTo k st.env (join_name k st)
  unfolding join_one
  one_step k st s = go (phi L b (value_or_nil k l) c (value_or_nil k r) st) (phi-env L b (value_or_nil k l) c (value_or_nil k r) st)
    where
      go : (a : Answer (Opnd × Parser)) → EnvIs st.env a → StepTo k st.env (if_answered a (λ p. answered (tt, with_env (bind k p.0 p.1.env) p.1)))
      go (answered p) h = rw h (record { sorted = bind_sorted k p.0 st.env s; others = λ n d. unbound k n p.0 d st.env })
      go (refused n) h = tt

  -- of the names K those of K' are enough
  record Enough (K K' e : Env) : Type 0 where
    all : Sorted K
    set : Sorted K'
    sub : (k : Name) → lookup k K ≡ none → lookup k K' ≡ none
    quiet : (k : Name) → (lookup k K ≡ none → ⊥) → lookup k K' ≡ none → Quiet k e

  none_tail : (k : Name) (x : Name × Opnd) (K : Env) → lookup k (x ∷ K) ≡ none → lookup k K ≡ none
  none_tail k x K z = by (stands x.0 k)
    where
      by : OrderStands x.0 k → lookup k K ≡ none
      by (before p q r s) = sym (lookup-on k x K r) ∙ z
      by (equal p q r) = none-some z (lookup-here k x K p)
      by (behind p q r s) = sym (lookup-on k x K r) ∙ z

  skip_enough : (x : Name × Opnd) (K K' e : Env) → Above x.0 K' → Enough (x ∷ K) K' e → Enough K K' e
  skip_enough x K K' e a h = record {
    all = h.all.1;
    set = h.set;
    sub = λ k z. sub k z (stands x.0 k);
    quiet = λ k n z. h.quiet k (λ w. n (none_tail k x K w)) z;
  }
    where
      sub : (k : Name) → lookup k K ≡ none → OrderStands x.0 k → lookup k K' ≡ none
      sub k z (before p q r s) = h.sub k (lookup-on k x K r ∙ z)
      sub k z (equal p q r) = absent k K' (rw p at a)
      sub k z (behind p q r s) = h.sub k (lookup-on k x K r ∙ z)

  both_enough : (x y : Name × Opnd) (K K' e e' : Env) → x.0 ≡ y.0 → Enough (x ∷ K) (y ∷ K') e → ScopeStep x.0 e e' → Enough K K' e'
  both_enough x y K K' e e' i h t = record {
    all = h.all.1;
    set = h.set.1;
    sub = λ k z. sub k z (stands x.0 k);
    quiet = λ k n z. quiet k n z (stands x.0 k);
  }
    where
      sub : (k : Name) → lookup k K ≡ none → OrderStands x.0 k → lookup k K' ≡ none
      sub k z (before p q r s) = none_tail k y K' (h.sub k (lookup-on k x K r ∙ z))
      sub k z (equal p q r) = absent k K' (rw (sym i ∙ p) at h.set.0)
      sub k z (behind p q r s) = none_tail k y K' (h.sub k (lookup-on k x K r ∙ z))

      other : (k : Name) → (lookup k K ≡ none → ⊥) → lookup k K' ≡ none → same x.0 k ≡ false → Quiet k e'
      other k n z r =
          let w = h.quiet k (λ o. n (none_tail k x K o)) (lookup-on k y K' (rw i at r) ∙ z) in
          record { value = w.value; left = w.left; right = w.right; bound = t.others k r ∙ w.bound }

      quiet : (k : Name) → (lookup k K ≡ none → ⊥) → lookup k K' ≡ none → OrderStands x.0 k → Quiet k e'
      quiet k n z (before p q r s) = other k n z r
      quiet k n z (equal p q r) = absurd (n (absent k K (rw p at h.all.0)))
      quiet k n z (behind p q r s) = other k n z r

  abbrev Same : Env → Type 0
  Same K = (K' : Env) (st : Parser) → Sorted st.env → Enough K K' st.env → join_vars L b l c r K st ≡ join_vars L b l c r K' st

  skip_step : (x : Name × Opnd) (K K' : Env) (st : Parser) → Same K → Above x.0 K' → Sorted st.env → Enough (x ∷ K) K' st.env
      → join_vars L b l c r (x ∷ K) st ≡ join_vars L b l c r K' st
  skip_step x K K' st ih a s h =
      let some-here : lookup x.0 (x ∷ K) ≡ none → ⊥ = λ z. none-some z (lookup-here x.0 x K refl) in
      let q = h.quiet x.0 some-here (absent x.0 K' a) in
      join_cons x K st ∙ (ap (λ (z : Answer (Unit {0} × Parser)). if_answered z (λ p. join_vars L b l c r K p.1)) (quiet_one x.0 st s q)
      ∙ ih K' st s (skip_enough x K K' st.env a h))

  both-step : (x y : Name × Opnd) (K K' : Env) (st : Parser) → Same K → x.0 ≡ y.0 → Sorted st.env → Enough (x ∷ K) (y ∷ K') st.env
      → join_vars L b l c r (x ∷ K) st ≡ join_vars L b l c r (y ∷ K') st
  both-step x y K K' st ih i s h =
      join_cons x K st ∙ (go (join_name x.0 st) (one_step x.0 st s)
      ∙ (ap (λ k. if_answered (join_name k st) (λ p. join_vars L b l c r K' p.1)) i ∙ sym (join_cons y K' st)))
    where
      go : (a : Answer (Unit {0} × Parser)) → StepTo x.0 st.env a
          → if_answered a (λ p. join_vars L b l c r K p.1) ≡ if_answered a (λ p. join_vars L b l c r K' p.1)
      go (answered p) t = ih K' p.1 t.sorted (both_enough x y K K' st.env p.1.env i h t)
      go (refused n) t = refl

  less-step : (x y : Name × Opnd) (K K' : Env) (st : Parser) → Same K → Sorted st.env → Enough (x ∷ K) (y ∷ K') st.env → OrderStands x.0 y.0
      → join_vars L b l c r (x ∷ K) st ≡ join_vars L b l c r (y ∷ K') st
  less-step x y K K' st ih s h (before p q t u) = skip_step x K (y ∷ K') st ih (p, above_trans x.0 y.0 K' p h.set.0) s h
  less-step x y K K' st ih s h (equal p q t) = both-step x y K K' st ih p s h
  less-step x y K K' st ih s h (behind p q t u) =
      none-some (h.sub y.0 (absent y.0 (x ∷ K) (q, above_trans y.0 x.0 K q h.all.0))) (lookup-here y.0 y K' refl)

  join-less : (K : Env) → Same K
  join-less [] [] st s h = refl
  join-less [] (y ∷ K') st s h = none-some (h.sub y.0 refl) (lookup-here y.0 y K' refl)
  join-less (x ∷ K) [] st s h = skip_step x K [] st (join-less K) tt s h
  join-less (x ∷ K) (y ∷ K') st s h = less-step x y K K' st (join-less K) s h (stands x.0 y.0)

-- ---- the names that an arm set

none-none : (kl kr ke : Option Opnd) → or (or kl ke) (or kr ke) ≡ none → or kl kr ≡ none
none-none none none ke h = refl
none-none none (some v) none h = none-some h refl
none-none none (some v) (some w) h = none-some h refl
none-none (some v) kr ke h = none-some h refl

-- a name that neither arm set is bound before them
record Old (kl kr ke : Option Opnd) : Type 0 where
  value : Opnd
  left : or kl ke ≡ some value
  right : or kr ke ≡ some value
  bound : ke ≡ some value

old : (kl kr ke : Option Opnd) → (or (or kl ke) (or kr ke) ≡ none → ⊥) → or kl kr ≡ none → Old kl kr ke
old none none none n h = absurd (n refl)
old none none (some v) n h = record { value = v; left = refl; right = refl; bound = refl }
old (some v) kr ke n h = none-some h refl
old none (some v) ke n h = none-some h refl

module _ (L : Limits) (b c : ℕ) (left right : Bindings) (e : Env) where
  all_lookup : (k : Name) → lookup k (all_keys (over left e) (over right e)) ≡ or (or (lookup k left) (lookup k e)) (or (lookup k right) (lookup k e))
  all_lookup k = rw (all-over (over left e) (over right e), lookup-over k (over left e) (over right e), lookup-over k left e, lookup-over k right e)

  set-lookup : (k : Name) → lookup k (all_keys (env_of left) (env_of right)) ≡ or (lookup k left) (lookup k right)
  set-lookup k = rw (all-over (env_of left) (env_of right), lookup-over k (env_of left) (env_of right), lookup-env k left, lookup-env k right)

  set_enough : Sorted e → Enough L b (over left e) c (over right e) (all_keys (over left e) (over right e)) (all_keys (env_of left) (env_of right)) e
  set_enough s = record {
    all = rw (all-over (over left e) (over right e)) (over_sorted (over left e) (over right e) (over_sorted right e s));
    set = rw (all-over (env_of left) (env_of right)) (over_sorted (env_of left) (env_of right) (env_sorted right));
    sub = λ k z. set-lookup k ∙ none-none (lookup k left) (lookup k right) (lookup k e) (sym (all_lookup k) ∙ z);
    quiet = λ k n z.
        let o = old (lookup k left) (lookup k right) (lookup k e) (λ w. n (all_lookup k ∙ w)) (sym (set-lookup k) ∙ z) in
        record {
          value = o.value;
          left = ap (λ w. or_else w nil) (lookup-over k left e ∙ o.left);
          right = ap (λ w. or_else w nil) (lookup-over k right e ∙ o.right);
          bound = o.bound;
        };
  }

-- ---- the join of two rows

module _ (L : Limits) (b c : ℕ) (right : Bindings) (st : Parser) (s : Sorted st.env) where
  -- it is the rules' join of all names that are bound in either arm
  pub join-rows : (left : Bindings)
      → join_vars L b (over left st.env) c (over right st.env) (all_keys (over left st.env) (over right st.env)) st
      ≡ join_rows L b c st.env (env_of left) (env_of right) st
  unfolding join_rows
  join-rows left =
      join-less L b (over left st.env) c (over right st.env) (all_keys (over left st.env) (over right st.env)) (all_keys (env_of left) (env_of right)) st s
      (set_enough L b c left right st.env s)
      ∙ rw (over-env left st.env s, over-env right st.env s)

  -- the same without an else arm
  pub join_then : join_vars L b st.env c (over right st.env) (all_keys st.env (over right st.env)) st
      ≡ join_rows L b c st.env [] (env_of right) st
  unfolding over
  join_then = join-rows []

-- ---- name by name

module _ (L : Limits) (b c : ℕ) where
  -- a join asks of the two environments only what its names are there
  join_cong : (n : Name) (l r l' r' : Env) → ((k : Name) → precedes n k ≡ true → lookup k l ≡ lookup k l') → ((k : Name) → precedes n k ≡ true → lookup k r ≡ lookup k r')
      → (K : Env) → Above n K → (st : Parser) → join_vars L b l c r K st ≡ join_vars L b l' c r' K st
  unfolding join_vars
  join_cong n l r l' r' f g [] a st = refl
  join_cong n l r l' r' f g (x ∷ K) a st =
      join_cons L b l c r x K st ∙ (rw (f x.0 a.0, g x.0 a.0) (go (join_one L b c x.0 (value_or_nil x.0 l') (value_or_nil x.0 r') st) (join_cong n l r l' r' f g K a.1))
      ∙ sym (join_cons L b l' c r' x K st))
    where
      go : (z : Answer (Unit {0} × Parser)) → ((st : Parser) → join_vars L b l c r K st ≡ join_vars L b l' c r' K st)
          → if_answered z (λ p. join_vars L b l c r K p.1) ≡ if_answered z (λ p. join_vars L b l' c r' K p.1)
      go (answered p) h = h p.1
      go (refused n) h = refl

  -- the first of the names, where the rest don't see it
  first_step : (x : Name × Opnd) (K l r l' r' : Env) (v w : Opnd) (st : Parser) → value_or_nil x.0 l ≡ v → value_or_nil x.0 r ≡ w
      → ((k : Name) → precedes x.0 k ≡ true → lookup k l ≡ lookup k l') → ((k : Name) → precedes x.0 k ≡ true → lookup k r ≡ lookup k r') → Above x.0 K
      → join_vars L b l c r (x ∷ K) st ≡ if_answered (join_one L b c x.0 v w st) (λ p. join_vars L b l' c r' K p.1)
  first_step x K l r l' r' v w st ev ew f g a = join_cons L b l c r x K st ∙ rw (ev, ew) (go (join_one L b c x.0 v w st))
    where
      go : (z : Answer (Unit {0} × Parser)) → if_answered z (λ p. join_vars L b l c r K p.1) ≡ if_answered z (λ p. join_vars L b l' c r' K p.1)
      go (answered p) = join_cong x.0 l r l' r' f g K a p.1
      go (refused n) = refl

  module _ (base : Env) where
    -- names above the first of a row don't see it
    drop-first : (x : Name × Opnd) (l : Env) (k : Name) → precedes x.0 k ≡ true → lookup k (over (x ∷ l) base) ≡ lookup k (over l base)
    unfolding over
    drop-first x l k p = unbound x.0 k x.1 (below-same x.0 k p) (over l base)

    first-is : (x : Name × Opnd) (l : Env) → value_or_nil x.0 (over (x ∷ l) base) ≡ x.1
    unfolding over
    first-is x l = rw (bound x.0 x.1 (over l base))

    old-is : (k : Name) (l : Env) → Above k l → value_or_nil k (over l base) ≡ value_or_nil k base
    old-is k l a = rw (lookup-over k l base, absent k l a)

    pub rows-done : (st : Parser) → join_rows L b c base [] [] st ≡ answered (tt, st)
    unfolding join_rows join_vars
    rows-done st = refl

    -- a name that only one row has, and one that both have
    pub rows_left : (x : Name × Opnd) (l r : Env) (st : Parser) → Above x.0 l → Above x.0 r
        → join_rows L b c base (x ∷ l) r st ≡ if_answered (join_one L b c x.0 x.1 (value_or_nil x.0 base) st) (λ p. join_rows L b c base l r p.1)
    unfolding join_rows
    rows_left x l r st a a' =
        ap (λ K. join_vars L b (over (x ∷ l) base) c (over r base) K st) (all_left x l r a a')
        ∙ first_step x (all_keys l r) (over (x ∷ l) base) (over r base) (over l base) (over r base) x.1 (value_or_nil x.0 base) st
        (first-is x l) (old-is x.0 r a') (drop-first x l) (λ k p. refl) (above-all x.0 l r a a')

    pub rows_right : (y : Name × Opnd) (l r : Env) (st : Parser) → Above y.0 l → Above y.0 r
        → join_rows L b c base l (y ∷ r) st ≡ if_answered (join_one L b c y.0 (value_or_nil y.0 base) y.1 st) (λ p. join_rows L b c base l r p.1)
    unfolding join_rows
    rows_right y l r st a a' =
        ap (λ K. join_vars L b (over l base) c (over (y ∷ r) base) K st) (all_right y l r a)
        ∙ first_step y (all_keys l r) (over l base) (over (y ∷ r) base) (over l base) (over r base) (value_or_nil y.0 base) y.1 st
        (old-is y.0 l a) (first-is y r) (λ k p. refl) (drop-first y r) (above-all y.0 l r a a')

    pub rows_both : (x y : Name × Opnd) (l r : Env) (st : Parser) → x.0 ≡ y.0 → Above x.0 l → Above x.0 r
        → join_rows L b c base (x ∷ l) (y ∷ r) st ≡ if_answered (join_one L b c x.0 x.1 y.1 st) (λ p. join_rows L b c base l r p.1)
    unfolding join_rows
    rows_both x y l r st i a a' =
        ap (λ K. join_vars L b (over (x ∷ l) base) c (over (y ∷ r) base) K st) (all_both x y l r i a)
        ∙ first_step x (all_keys l r) (over (x ∷ l) base) (over (y ∷ r) base) (over l base) (over r base) x.1 y.1 st
        (first-is x l) (rw i (first-is y r)) (drop-first x l) (λ k p. drop-first y r k (rw i at p)) (above-all x.0 l r a a')
