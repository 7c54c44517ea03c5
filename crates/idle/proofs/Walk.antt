-- One walk of the rules, for each property of actions that a whole has where its parts have it. Assumes nothing.
use Prim.Native.Nat.{ℕ}
use mathlib.Core.Path.{◌≡◌, refl, sym, ap, ◌∙◌}
use mathlib.Core.Bool.{Bool as 𝔹, true, false, not, cond, false≢true}
use mathlib.Core.Option.{Option, none, some}
use mathlib.Core.List.{List, [], ◌∷◌, ◌++◌, map}
use lib.ListN.{get_or}
use Rattle.kinds.specs.declared.Kind.{Kind}
use Rattle.kinds.specs.declared.Kind.TheVariants.{Empty}
use Rattle.kinds.specs.Kinds.{same_kind, is_empty}
use Rattle.kinds.specs.Union.{union_of, union_all}
use Rattle.kinds.specs.Rules.{arith_of, admits}
use Rattle.ids.specs.Sets.{members_of}
use Rattle.rules.specs.Actions.{Answer, answered, refused, ◌>>=◌, ◌>>◌, give, ask, needed, lift, unless, the, each, fold}
use Rattle.rules.specs.Lists.{has}
use Rattle.rules.specs.Values.{to_answer, object, classes_in}
use Rattle.rules.specs.Program.{Limits, Opnd, Terminator, Jump, IfTrue, Return, Static, Dynamic, Op, Ends, Send, Compute, Phi, Param, SelfParam, New, GetIvar, SetIvar, Program, function, function_of}
use Rattle.rules.specs.Program.{method_named, parameters}
use Rattle.rules.specs.Machine.{
  State,
  Acts,
  kind_of,
  join,
  join_all,
  classes_of,
  push_insn,
  push_block,
  wake_if_wider,
  callers_of,
  place_of,
  argument,
  add_call,
  pass_arguments,
  flows_back,
  flows_in,
  leave,
  rule,
}
use Rattle.rules.proofs.Exactness.Grow.{kind_in, kind-is}

-- what the rules look at, attribute reads and settings aside
pub record Alike (s t : State) : Type 0 where
  pub kinds : t.kinds ≡ s.kinds
  pub live : t.live ≡ s.live
  pub called_by : t.called_by ≡ s.called_by

pub alike : (s : State) → Alike s s
alike s = record { kinds = refl; live = refl; called_by = refl }

pub alike_trans : {s t u : State} → Alike s t → Alike t u → Alike s u
alike_trans a b = record { kinds = b.kinds ∙ a.kinds; live = b.live ∙ a.live; called_by = b.called_by ∙ a.called_by }

-- it is the same in states that are alike
abbrev pub Seen : {A : Type 0} → (State → A) → Type 0
Seen f = (s t : State) → Alike s t → f s ≡ f t

kind_seen : (v : Opnd) → Seen (λ s. kind_of s v)
kind_seen v s t a = kind-is s v ∙ ap (λ (ks : List Kind). kind_in ks v) (sym a.kinds) ∙ sym (kind-is t v)

kinds_seen : (l : List Opnd) → Seen (λ s. map (kind_of s) l)
kinds_seen [] s t a = refl
kinds_seen (v ∷ l) s t a = rw (kind_seen v s t a, kinds_seen l s t a) refl

module _ (L : Limits) (p : Program) where
  callers_seen : (f : ℕ) → Seen (λ s. callers_of L p s f)
  callers_seen f s t a = rw a.called_by refl

  back_seen : (i : ℕ) → Seen (λ s. flows_back L p s i)
  unfolding flows_back
  back_seen i s t a = rw a.called_by refl

  in_seen : (i : ℕ) → Seen (λ s. flows_in L p s i)
  unfolding flows_in
  in_seen i s t a = rw a.called_by refl

  -- an instruction that reads and sets no attribute
  abbrev pub aside : Op → 𝔹
  aside (Ends t) = true
  aside (Send c l) = true
  aside (Compute o v w) = true
  aside (Phi b v c w) = true
  aside (Param n) = true
  aside (SelfParam c) = true
  aside (New c) = true
  aside (GetIvar n r) = false
  aside (SetIvar n r v) = false

  -- the property goes from parts to the whole, and the smallest actions have it
  pub record Composes (K : (A : Type 0) → Acts A → Type 0) : Type 1 where
    pub two : {A B : Type 0} (m : Acts A) (k : A → Acts B) → K A m → ((a : A) → K B (k a)) → K B (m >>= k)
    pub told : {A : Type 0} (a : Answer A) → K A (lift a)
    pub looked : {A : Type 0} (f : State → A) → Seen f → K A (the f)
    pub insn : (i : ℕ) → K (Unit {0}) (push_insn L p i)
    pub block : (b : ℕ) → K (Unit {0}) (push_block L p b)
    pub call : (i f : ℕ) → K (Unit {0}) (add_call L p i f)

  module _ {K : (A : Type 0) → Acts A → Type 0} (C : Composes K) where
    pub walk_seq : {B : Type 0} (m : Acts (Unit {0})) (k : Acts B) → K (Unit {0}) m → K B k → K B (m >> k)
    walk_seq m k M N = C.two m (λ _. k) M (λ _. N)

    walk-ask : (n : ℕ) (b : 𝔹) → K (Unit {0}) (ask n b)
    walk-ask n true = C.told (answered tt)
    walk-ask n false = C.told (refused n)

    walk-needed : {A : Type 0} (n : ℕ) (o : Option A) → K A (needed n o)
    walk-needed n none = C.told (refused n)
    walk-needed n (some x) = C.told (answered x)

    walk-unless : (b : 𝔹) (m : Acts (Unit {0})) → K (Unit {0}) m → K (Unit {0}) (unless b m)
    walk-unless true m M = C.told (answered tt)
    walk-unless false m M = M

    pub walk-each : {A : Type 0} (l : List A) (f : A → Acts (Unit {0})) → ((x : A) → K (Unit {0}) (f x)) → K (Unit {0}) (each l f)
    walk-each [] f F = C.told (answered tt)
    walk-each (x ∷ l) f F = walk_seq (f x) (each l f) (F x) (walk-each l f F)

    pub walk-fold : {A B : Type 0} (f : B → A → Acts B) (b : B) (l : List A) → ((b : B) (x : A) → K B (f b x)) → K B (fold f b l)
    walk-fold f b [] F = C.told (answered b)
    walk-fold f b (x ∷ l) F = C.two (f b x) (λ c. fold f c l) (F b x) (λ c. walk-fold f c l F)

    -- an operand's kind, and what is done with it
    pub walk-kind : {B : Type 0} (v : Opnd) (k : Kind → Acts B) → ((j : Kind) → K B (k j)) → K B (the (λ s. kind_of s v) >>= k)
    walk-kind v k N = C.two (the (λ s. kind_of s v)) k (C.looked (λ s. kind_of s v) (kind_seen v)) N

    walk-join_all : (l : List Opnd) → K Kind (join_all l)
    unfolding join_all
    walk-join_all l = C.two (the (λ s. map (kind_of s) l)) (λ ks. lift (to_answer (union_all Empty ks)))
        (C.looked (λ s. map (kind_of s) l) (kinds_seen l)) (λ ks. C.told (to_answer (union_all Empty ks)))

    pub walk-classes : (v : Opnd) → K (List ℕ) (classes_of v)
    unfolding classes_of
    walk-classes v =
        walk-kind v (λ k. needed 14 (classes_in k) >>= (λ c. give (members_of c)))
        (λ k. C.two (needed 14 (classes_in k)) (λ c. give (members_of c)) (walk-needed 14 (classes_in k)) (λ c. C.told (answered (members_of c))))

    walk_wake : (k : Kind) (i : ℕ) → K (Unit {0}) (wake_if_wider L p k i)
    unfolding wake_if_wider
    walk_wake k i =
        C.two (the (λ (s : State). get_or s.kinds i Empty)) (λ old. join old k >>= (λ u. unless (same_kind u old) (push_insn L p i)))
        (C.looked (λ (s : State). get_or s.kinds i Empty) (λ s t a. ap (λ (ks : List Kind). get_or ks i Empty) (sym a.kinds)))
        (λ old. C.two (join old k) (λ u. unless (same_kind u old) (push_insn L p i)) (C.told (to_answer (union_of old k))) (λ u. walk-unless (same_kind u old) (push_insn L p i) (C.insn i)))

    walk-pass : (i f : ℕ) → K (Unit {0}) (pass_arguments L p i f)
    unfolding pass_arguments
    walk-pass i f =
        walk-each (parameters p f) (λ x. the (λ s. kind_of s (argument L p (place_of L p x) i)) >>= (λ k. wake_if_wider L p k x))
        (λ x. walk-kind (argument L p (place_of L p x) i) (λ k. wake_if_wider L p k x) (λ k. walk_wake k x))

    walk-leave : (i : ℕ) (t : Terminator) → K (Unit {0}) (leave L p i t)
    unfolding leave
    walk-leave i (Jump b) = C.block b
    walk-leave i (IfTrue v t e) =
        walk-kind v (λ k. unless (not (admits true k)) (push_block L p t) >> unless (not (admits false k)) (push_block L p e))
        (λ k. walk_seq (unless (not (admits true k)) (push_block L p t)) (unless (not (admits false k)) (push_block L p e))
        (walk-unless (not (admits true k)) (push_block L p t) (C.block t)) (walk-unless (not (admits false k)) (push_block L p e) (C.block e)))
    walk-leave i (Return v) =
        walk-kind v (λ k. the (λ s. callers_of L p s (function_of p i)) >>= (λ cs. unless (is_empty k) (each cs (wake_if_wider L p k))))
        (λ k. C.two (the (λ s. callers_of L p s (function_of p i))) (λ cs. unless (is_empty k) (each cs (wake_if_wider L p k)))
        (C.looked (λ s. callers_of L p s (function_of p i)) (callers_seen (function_of p i)))
        (λ cs. walk-unless (is_empty k) (each cs (wake_if_wider L p k)) (walk-each cs (wake_if_wider L p k) (walk_wake k))))

    walk_back : (i : ℕ) → K Kind (the (λ s. flows_back L p s i) >>= join_all)
    walk_back i = C.two (the (λ s. flows_back L p s i)) join_all (C.looked (λ s. flows_back L p s i) (back_seen i)) walk-join_all

    pub walk-rule : (i : ℕ) (o : Op) → aside o ≡ true → K Kind (rule L p i o)
    unfolding rule
    walk-rule i (Ends t) a = walk_seq (leave L p i t) (give Empty) (walk-leave i t) (C.told (answered Empty))
    walk-rule i (Send (Static f) l) a =
        walk_seq (add_call L p i f) _ (C.call i f)
        (walk_seq (ask 17 (not (has (function p f).class))) _ (walk-ask 17 (not (has (function p f).class)))
        (walk_seq (pass_arguments L p i f) (the (λ s. flows_back L p s i) >>= join_all) (walk-pass i f) (walk_back i)))
    walk-rule i (Send (Dynamic v n) l) a =
        C.two (classes_of v) _ (walk-classes v)
        (λ cs. walk_seq (each cs one) (the (λ s. flows_back L p s i) >>= join_all) (walk-each cs one each_one) (walk_back i))
      where
        one : ℕ → Acts (Unit {0})
        one c = needed 15 (method_named p c n) >>= (λ f. add_call L p i f >> pass_arguments L p i f)

        each_one : (c : ℕ) → K (Unit {0}) (one c)
        each_one c =
            C.two (needed 15 (method_named p c n)) (λ f. add_call L p i f >> pass_arguments L p i f) (walk-needed 15 (method_named p c n))
            (λ f. walk_seq (add_call L p i f) (pass_arguments L p i f) (C.call i f) (walk-pass i f))
    walk-rule i (Compute o v w) a =
        walk-kind v (λ j. the (λ s. kind_of s w) >>= (λ k. lift (to_answer (arith_of o j k)))) (λ j. walk-kind w (λ k. lift (to_answer (arith_of o j k))) (λ k. C.told (to_answer (arith_of o j k))))
    walk-rule i (Phi b v c w) a =
        C.two (the (λ (s : State). s.live)) (λ live. join_all (cond (get_or live b false) (v ∷ []) [] ++ cond (get_or live c false) (w ∷ []) []))
        (C.looked (λ (s : State). s.live) (λ s t a. sym a.live))
        (λ live. walk-join_all (cond (get_or live b false) (v ∷ []) [] ++ cond (get_or live c false) (w ∷ []) []))
    walk-rule i (Param n) a = C.two (the (λ s. flows_in L p s i)) join_all (C.looked (λ s. flows_in L p s i) (in_seen i)) walk-join_all
    walk-rule i (SelfParam c) a = C.told (answered (object c))
    walk-rule i (New c) a = C.told (answered (object c))
    walk-rule i (GetIvar n r) a = absurd (false≢true a)
    walk-rule i (SetIvar n r v) a = absurd (false≢true a)
