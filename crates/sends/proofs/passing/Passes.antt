-- One Param, the loop of pass_arguments, and that of count_params. Assumes nothing.
use mathlib.Core.Path.{◌≡◌, refl, sym, ap, subst, ◌∙◌}
use Prim.Native.Nat.{ℕ}
use borrow.Author.Tests.{ne_eqb, eqb-true, eqb-false}
use Rattle.std.proofs.lemmas.Bool.{and_parts}
use lib.Bits.{bit_or, or_zero_r}
use lib.ListN.{get_or}
use Rattle.std.specs.Prelude.{Some, Result, Ok}
use mathlib.Core.Bool.{Bool as 𝔹, true, false, ◌&&◌}
use mathlib.Core.List.{List, [], ◌∷◌}
use lib.Dec.{eqb}
use Rattle.std.specs.Bool.{then_some}
use Rattle.rules.specs.Actions.{each}
use Rattle.state.proofs.Methods.{along_start, along_last, along_end}
use Rattle.chains.specs.Chains.{ChainIs}
use Rattle.chains.proofs.Remaining.{Within, chain_within, Each}
use Rattle.machine.proofs.blocks.Walk.{Walking, walk_start, walk_more, walk_done, walk_of}
use Rattle.refusals.specs.declared.Refusal.{Refusal}
use Rattle.kinds.specs.declared.Kind.{Kind}
use Rattle.kinds.specs.declared.Kind.TheVariants.{Empty, Nil, Num, Truth, Fun, Class, Int, Bool, Objects, Any}
use Rattle.kinds.specs.Kinds.{kind_from, same_kind, is_empty, is_name, is_set, is_any}
use Rattle.kinds.proofs.Steps.{empty_is, any-is}
use Rattle.kinds.specs.Union.{set_of, mix_of, lub, union_of}
use Rattle.kinds.proofs.Laws.{union-any_l, union_empty_r, union_idem, union-sets}
use Rattle.kinds.proofs.Same.{same_refl}
use Rattle.rules.specs.Program as P
use Rattle.rules.specs.Program.{Limits, Program, about, parameters}
use Rattle.rules.specs.Machine as R
use Rattle.rules.specs.Machine.{kind_of, push_insn, wake_if_wider, place_of, argument, pass_arguments}
use Rattle.program.specs.declared.Opnd.{Opnd}
use Rattle.program.specs.declared.Counts.{Counts}
use Rattle.program.specs.Rows.{opnd_of}
use Rattle.program.specs.View.{program_view}
use Rattle.state.specs.declared.Sizes.{Sizes}
use Rattle.state.specs.declared.Regs.{Regs}
use Rattle.state.specs.declared.State.{State}
use Rattle.state.specs.View.{Attrs, kinds_of, StateReady}
use Rattle.state.specs.Changes.{Every}
use Rattle.state.specs.Methods.{view, Did}
use Rattle.state.proofs.Wakes.{wake_old, wake_new}
use Rattle.machine.specs.opnds.Reads.{OperandInside, kind_in}
use Rattle.machine.proofs.opnds.Given.{kind_of_lem}
use Rattle.kinds.specs.InWords.{as_set}
use Rattle.flows.specs.Flows.{Argues}
use Rattle.flows.proofs.Callers.{fits-inside}
use Rattle.kinds.proofs.Told.{set_tag}
use Rattle.sends.specs.passing.Passing.{pass_to, HasParams, Caller, ParamPlaced, ArgumentPasses, Widens, Keeps, CallIn, PassIn, PassIdle, CoversTells}

-- ---- one Param

pub argument-inside : {m : List ℕ} {c : Counts} {z : Sizes} {i : ℕ} (n : ℕ) {o : Opnd} → Caller m c z i → Argues m c i n o → OperandInside z o
argument-inside {z = z} n {o} g a = fits-inside z o (rw (a.is P.limits g.script g.call) (g.listed n))

pass-is : (L : Limits) (p : Program) (i j : ℕ) (s : R.State) → wake_if_wider L p (kind_of s (argument L p (place_of L p j) i)) j s ≡ pass_to L p i j s
unfolding pass_to
pass-is L p i j s = refl

pub kind-passed : {m : List ℕ} {c : Counts} {z : Sizes} (w : List ℕ) (i : ℕ) {j n : ℕ} {o : Opnd} {k : Kind} → ParamPlaced m c j n → Argues m c i n o
    → k ≡ kind_in (kinds_of z w) (opnd_of o) → ArgumentPasses m c z w i j k
kind-passed {m} {c} {z} w i d a ek = record {
  is = λ L s h. ek ∙ ap (kind_in (kinds_of z w)) (a.is L s h ∙ ap (λ (t : ℕ). argument L (program_view s m c) t i) (sym (d.is L s)));
}

pub passes-is : {m : List ℕ} {c : Counts} {z : Sizes} {w : List ℕ} {i j : ℕ} {k k' : Kind} → ArgumentPasses m c z w i j k → k' ≡ k → ArgumentPasses m c z w i j k'
passes-is a e = rw e a

module _ {m : List ℕ} {c : Counts} (s : State) {i j : ℕ} {k : Kind} (a : ArgumentPasses m c s.sizes s.words.now i j k) where
  passed : (L : Limits) (p : Program) (v : Attrs) → CallIn m c i p v → pass_to L p i j (view v s) ≡ wake_if_wider L p k j (view v s)
  passed L p v u =
      let y = program_view u.script m c in
      let e : k ≡ kind_of (view v s) (argument L y (place_of L y j) i) = a.is L u.script u.call ∙ sym (kind_of_lem (view v s) (argument L y (place_of L y j) i)) in
      rw u.program (sym (pass-is L y i j (view v s)) ∙ ap (λ (t : Kind). wake_if_wider L y t j (view v s)) (sym e))

  pub passed_to : {t : State} (r : Result (Unit {0}) Refusal) → Did Every (λ L p. wake_if_wider L p k j) s t r → Did (CallIn m c i) (λ L p. pass_to L p i j) s t r
  passed_to r g = along_last (along_start s) r g (λ p v u. tt) (λ L room p v u. passed L p v u)

pub kept_on : {m : List ℕ} {c : Counts} (s : State) {i j : ℕ} → Keeps m c s.sizes s.words.now i j → Did (CallIn m c i) (λ L p. pass_to L p i j) s s (Ok tt)
kept_on s {i} {j} h =
    let o = get_or (kinds_of s.sizes s.words.now) j Empty in
    along_end (along_start s) (λ L room p v u. passed s h.passes L p v u ∙ wake_old L p h.kind j (view v s) o h.same (same_refl o))

-- a is the Param's kind, k the argument's
module _ {m : List ℕ} {c : Counts} {z : Sizes} {w : List ℕ} {i j : ℕ} {k a : Kind} (g : ArgumentPasses m c z w i j k) (ea : a ≡ get_or (kinds_of z w) j Empty) where
  pub surely_kept : union_of a k ≡ Ok a → Keeps m c z w i j
  surely_kept h = record { kind = k; passes = g; same = subst (λ (x : Kind). union_of x k ≡ Ok x) ea h }

module _ {m : List ℕ} {c : Counts} {s : State} {i j : ℕ} {k a : Kind} (g : ArgumentPasses m c s.sizes s.words.now i j k) (ea : a ≡ get_or (kinds_of s.sizes s.words.now) j Empty) where
  pub pushed_to : {t : State} (r : Result (Unit {0}) Refusal) → Widens a k → Did Every (λ L p. push_insn L p j) s t r → Did (CallIn m c i) (λ L p. pass_to L p i j) s t r
  pushed_to r h d =
      along_last (along_start s) r d (λ p v u. tt)
      (λ L room p v u. passed s g L p v u
      ∙ wake_new L p k j (view v s) h.union (ap (λ (x : Kind). union_of x k) (sym ea) ∙ h.is) (ap (λ (x : Kind). same_kind h.union x) (sym ea) ∙ h.other))

-- ---- kinds in words

pub objects_from : {s : ℕ} (x : ℕ) → s ≡ 8 → kind_from s x ≡ Objects x
unfolding kind_from
objects_from x e = rw e

-- a set joined with a kind that is no name and not Any has the classes of both
set-joins : (s : ℕ) (k : Kind) (u : ℕ) → Some u ≡ as_set k → union_of (Objects s) k ≡ Ok (Objects (bit_or s u))
unfolding union_of lub mix_of same_kind
set-joins s Empty u e = let z : u ≡ 0 = cc in rw (z, or_zero_r)
set-joins s Nil u e = let z : u ≡ set_of Nil = cc in rw z
set-joins s (Num n) u e = let z : u ≡ set_of (Num n) = cc in rw z
set-joins s (Truth t) u e = let z : u ≡ set_of (Truth t) = cc in rw z
set-joins s (Fun f) u e = cc
set-joins s (Class c) u e = cc
set-joins s Int u e = let z : u ≡ set_of Int = cc in rw z
set-joins s Bool u e = let z : u ≡ set_of Bool = cc in rw z
set-joins s (Objects t) u e = let z : u ≡ t = cc in rw z (union-sets s t)
set-joins s Any u e = cc

other-set : (x y : ℕ) → (x ≡ y → ⊥) → same_kind (Objects x) (Objects y) ≡ false
unfolding same_kind
other-set x y h = ne_eqb x y h

pub covers_empty : (a k : Kind) → is_empty k ≡ true → union_of a k ≡ Ok a
covers_empty a k e = ap (union_of a) (empty_is k e) ∙ union_empty_r a

pub covers-any : (a k : Kind) → is_any a ≡ true → union_of a k ≡ Ok a
covers-any a k e = rw (any-is a e) (union-any_l k)

module _ (s x t y : ℕ) where
  module _ (h : is_set (kind_from s x) ≡ true) {u : ℕ} (g : Some u ≡ as_set (kind_from t y)) where
    f : s ≡ 8
    f = eqb-true s 8 (set_tag s x ∙ h)

    set-union : union_of (kind_from s x) (kind_from t y) ≡ Ok (Objects (bit_or x u))
    set-union = rw (objects_from x f) (set-joins x (kind_from t y) u g)

    pub covers-set : bit_or x u ≡ x → union_of (kind_from s x) (kind_from t y) ≡ Ok (kind_from s x)
    covers-set h = set-union ∙ ap Ok (ap Objects h ∙ sym (objects_from x f))

    pub widens_set : (bit_or x u ≡ x → ⊥) → Widens (kind_from s x) (kind_from t y)
    widens_set h = record { union = Objects (bit_or x u); is = set-union; other = rw (objects_from x f) (other-set (bit_or x u) x h) }

    -- what a set tells of another kind
    pub set_tells : CoversTells (kind_from s x) (kind_from t y) (Some (eqb (bit_or x u) x))
    set_tells = go (eqb (bit_or x u) x) refl
      where
        go : (b : 𝔹) → eqb (bit_or x u) x ≡ b → CoversTells (kind_from s x) (kind_from t y) (Some b)
        go true e = covers-set (eqb-true (bit_or x u) x e)
        go false e = widens_set (eqb-false (bit_or x u) x e)

  -- and one kind of itself
  pub same_tells : is_name (kind_from s x) ≡ false → (b : 𝔹) → b ≡ (eqb s t && eqb x y) → CoversTells (kind_from s x) (kind_from t y) (then_some b true)
  same_tells n true e =
      let p = and_parts (eqb s t) (eqb x y) (sym e) in
      rw (← eqb-true s t p.0, ← eqb-true x y p.1) (union_idem (kind_from s x) n)
  same_tells n false e = tt

-- ---- a chain of Params: h is what it has left at first

-- its numbers are below the count
pub params_within : {n : ℕ} {x h : List ℕ} {e : ℕ} → HasParams n x e → ((l : List ℕ) → ChainIs x n 1 e l → h ≡ l) → Within n h
params_within {n} {x} {h} {e} u is = rw (is u.list u.held) (chain_within x n 1 e u.list u.held)

module _ {m : List ℕ} {c : Counts} {x : List ℕ} {i e : ℕ} {s : State} {h : List ℕ} (is : (l : List ℕ) → ChainIs x s.sizes.insns 1 e l → h ≡ l) where
  -- an action for each of them is what passing arguments to a function with these Params is
  pub passed_all : {t : State} {r : Result (Unit {0}) Refusal} → Did (CallIn m c i) (λ L p. each h (pass_to L p i)) s t r
      → (f : ℕ) → Did (PassIn m c s.sizes x i f e) (λ L p. pass_arguments L p i f) s t r
  unfolding pass_arguments pass_to
  passed_all d f = walk_of (λ L p. pass_to L p i) (λ p. parameters p f) (λ p v u. (u.call, is (parameters p f) u.params)) d

-- ---- surely_keeps_all: from whatever registers no Param changes

-- a state of these tables; wherever they lie, the rules say the same of them
abbrev pub with_regs : (z : Sizes) (w : List ℕ) (q : Regs) → StateReady z w q → State
with_regs z w q r = record { words = record { ref_ptr = (0, 0); ghost_name = 0; now = w }; sizes = z; regs = q; ready = r }

-- the walk through the Params h has come to l and left the state as it is
abbrev pub Keeping : List ℕ → Counts → ℕ → List ℕ → Sizes → List ℕ → List ℕ → Type 0
Keeping m c i h z w l = (q : Regs) (r : StateReady z w q) → Walking (λ L p. pass_to L p i) (CallIn m c i) h (with_regs z w q r) (with_regs z w q r) l

module _ {m : List ℕ} {c : Counts} {i : ℕ} {h : List ℕ} (z : Sizes) (w : List ℕ) where
  -- one Param further
  pub keeping_more : {j : ℕ} {l : List ℕ} → Keeping m c i h z w (j ∷ l) → {b : 𝔹} → (b ≡ true → Keeps m c z w i j) → b ≡ true → Keeping m c i h z w l
  keeping_more g keeps e q r = walk_more (g q r) refl (kept_on (with_regs z w q r) (keeps e)) refl

  keeping_rest : (l : List ℕ) → Keeping m c i h z w l → Each (Keeps m c z w i) l → Keeping m c i h z w []
  keeping_rest [] g k = g
  keeping_rest (x ∷ l) g k = keeping_rest l (keeping_more g (λ (e : true ≡ true). k.0) refl) k.1

pub kept_all : {m : List ℕ} {c : Counts} {x : List ℕ} {i e : ℕ} (z : Sizes) (w : List ℕ) {h : List ℕ} → HasParams z.insns x e → ((l : List ℕ) → ChainIs x z.insns 1 e l → h ≡ l)
    → Each (Keeps m c z w i) h → (f : ℕ) → PassIdle z (PassIn m c z x i f e) (λ L p. pass_arguments L p i f) w
kept_all {m} {c} {i = i} z w {h} u is k f =
    let start : Keeping m c i h z w h = λ q r. walk_start _ _ h (with_regs z w q r) (params_within u is) in
    record { is = λ q r. (passed_all {s = with_regs z w q r} is (walk_done (keeping_rest z w h start k q r) refl) f).did }
