-- What each way through the functions shows, on plain values. Assumes nothing.
use mathlib.Core.Bool.{Bool as 𝔹, true, false, cond, ◌&&◌}
use mathlib.Core.Option.{Option, none, some}
use mathlib.Core.Path.{◌≡◌, refl, sym, ap, ap₂, ◌∙◌, subst}
use mathlib.Core.List.{List, [], ◌∷◌, ◌++◌, map}
use Prim.Native.Nat.{ℕ, zero, suc, ◌+◌, ◌-◌, ◌*◌, ◌/◌, ◌%◌, ◌^◌, ◌≤◌, ◌<◌}
use native.Mathlib.Decide.{ℕ_discrete}
use native.Mathlib.Omega.{arith}
use lib.Dec.{eqb}
use lib.ListN.{length, get_or, set, length-set}
use lib.Seq.{get_or-set_same, get_or-set_other}
use Rattle.kinds.specs.Kinds.{kind_from, kind_at, kinds_at}
use Rattle.kinds.specs.declared.Kind.{Kind}
use Rattle.kinds.specs.declared.Kind.TheVariants.{Nil}
use Rattle.ids.specs.declared.FunId.{FunId}
use Rattle.rules.specs.Actions.{Answer, answered, refused}
use Rattle.rules.specs.Lists.{bytes, same, is_just, cons_if, first, places_from}
use Rattle.rules.specs.Program as P
use Rattle.rules.specs.Program.{Program, method_named, constructor_of, entry, class}
use Rattle.rules.specs.Constructors.{first_kind, first_kinds, reverse_post_order, declared, initialized}
use Rattle.program.specs.Tab.{tab}
use Rattle.program.specs.Rows.{fun_at, function_in, ivars_of, class_at}
use Rattle.program.specs.View.{program_view, classes_of, functions_of}
use Rattle.program.specs.declared.Counts.{Counts}
use Rattle.program.specs.declared.Name.{Name}
use Rattle.program.specs.declared.Function.{Function}
use Rattle.program.proofs.Tables.{tab-at, tab_ext, tab-length}
use Rattle.std.specs.Prelude as R
use Rattle.refusals.specs.Refusals.{number_of}
use Rattle.refusals.specs.declared.Refusal.{Refusal}
use Rattle.lookups.specs.Look.{constructor_found, Constructs}
use Rattle.memory.specs.Layout.{ivars_most}
use Rattle.constructors.specs.Flows.{holds, ivar_in, SureIs, FlowAnalyzed}
use Rattle.constructors.proofs.Meeting.{holds-none}
use Rattle.constructors.specs.firsts.Firsts.{start_of, FirstsOnly, PutsKinds, Entries, FirstIs}

-- ---- kinds put

bit_kind : (b : ℕ) → b < 2 → kind_from (1 - b) 0 ≡ start_of (eqb b 1)
unfolding kind_from
bit_kind zero h = refl
bit_kind (suc zero) h = refl
bit_kind (suc (suc b)) h = absurd (omega arith)

kinds-tab : (u : List ℕ) (t p n : ℕ) (f : ℕ → Kind) → ((a : ℕ) → a < n → kind_at u (t + a) (p + a) ≡ f a) → kinds_at u t p n ≡ tab f n
unfolding kinds_at tab
kinds-tab u t p zero f e = refl
kinds-tab u t p (suc n) f e = ap₂ {C = List Kind} (λ l x. l ++ x ∷ []) (kinds-tab u t p n f (λ a h. e a (omega arith))) (e n (omega arith))

pub record Putting (tags payloads n bits : ℕ) (u₀ u : List ℕ) (a : ℕ) : Type 0 where
  pub high : a ≤ n
  pub only : FirstsOnly tags payloads n u₀ u
  pub empty : (x : ℕ) → x < n → get_or u (payloads + x) 0 ≡ 0
  pub here : (x : ℕ) → x < a → kind_at u (tags + x) (payloads + x) ≡ start_of (holds x bits)

module _ {tags payloads n bits : ℕ} {u₀ u : List ℕ} {a : ℕ} (z : Putting tags payloads n bits u₀ u a) where
  pub put-more : tags + n ≤ payloads → payloads + n ≤ length u₀ → a < n → Putting tags payloads n bits u₀ (set u (tags + a) (1 - bits / 2 ^ a % 2)) (a + 1)
  unfolding holds
  put-more apart room g =
      let v : ℕ = 1 - bits / 2 ^ a % 2 in
      record {
        high = omega arith;
        only = record {
          len_same = length-set u (tags + a) v ∙ z.only.len_same;
          others = λ i p q. get_or-set_other u (tags + a) i v 0 (λ x. p (omega arith) (omega arith)) ∙ z.only.others i p q;
        };
        empty = λ x h. get_or-set_other u (tags + a) (payloads + x) v 0 (λ y. omega arith) ∙ z.empty x h;
        here = λ x h.
            elim (ℕ_discrete x a) [
              | yes q ↦
                  rw q
                  (ap₂ {C = Kind} kind_from
                  (get_or-set_same u (tags + a) v 0 (omega (arith, z.only.len_same)))
                  (get_or-set_other u (tags + a) (payloads + a) v 0 (λ y. omega arith) ∙ z.empty a g)
                  ∙ bit_kind (bits / 2 ^ a % 2) (omega arith))
              | no q ↦
                  ap₂ {C = Kind} kind_from
                  (get_or-set_other u (tags + a) (tags + x) v 0 (λ y. q (omega arith)))
                  (get_or-set_other u (tags + a) (payloads + x) v 0 (λ y. omega arith))
                  ∙ z.here x (omega arith)
            ];
      }

  pub put-done : n ≤ a → PutsKinds tags payloads n bits u₀ u
  put-done h = record { only = z.only; here = kinds-tab u tags payloads n (λ x. start_of (holds x bits)) (λ x g. z.here x (omega arith)) }

-- ---- a constructor's number

place-below : {A : Type 0} (k : ℕ) (F : A → 𝔹) (l : List A) (f : ℕ) → first (places_from k F l) ≡ some f → f < k + length l
place-below k F [] f e = absurd (let z : ◌≡◌ {A = ℕ} 0 1 = cc in omega arith)
place-below k F (x ∷ l) f e = go (F x) e (place-below (suc k) F l f)
  where
    go : (t : 𝔹) → first (cons_if t k (places_from (suc k) F l)) ≡ some f → (first (places_from (suc k) F l) ≡ some f → f < suc k + length l) → f < k + suc (length l)
    go true e ih = let q : k ≡ f = cc in omega arith
    go false e ih = omega (arith, ih e)

pub ctor_below : {s m : List ℕ} {c : Counts} {k : ℕ} {r : R.Option (FunId × Name)} {p : FunId × Name} → Constructs s m c k r → r ≡ R.Some p → p.0.0 < c.functions
unfolding method_named functions_of
ctor_below {s} {m} {c} {k} {r} {p} co q =
    omega (
      arith,
      place-below 0 (λ (x : P.Function). is_just x.class k && same x.name (bytes "initialize")) (functions_of s m c.functions) p.0.0 (sym co.is ∙ ap constructor_found q),
      tab-length (λ g. function_in s (fun_at m g)) c.functions,
    )

-- ---- a class

map-tab : {A B : Type 0} (g : A → B) (f : ℕ → A) (n : ℕ) → map g (tab f n) ≡ tab (λ i. g (f i)) n
unfolding tab
map-tab g f zero = refl
map-tab g f (suc n) = map_snoc g (tab f n) (f n) ∙ ap (λ l. l ++ g (f n) ∷ []) (map-tab g f n)
  where
    map_snoc : {A B : Type 0} (g : A → B) (l : List A) (x : A) → map g (l ++ x ∷ []) ≡ map g l ++ g x ∷ []
    map_snoc g [] x = refl
    map_snoc g (y ∷ l) x = ap (λ r. g y ∷ r) (map_snoc g l x)

start_is : (p : Program) (t : 𝔹) → start_of t ≡ first_kind p t
start_is p true = refl
start_is p false = refl

module _ (s m : List ℕ) (c : Counts) (k : ℕ) (h : k < c.classes) where
  ivars_are : (class (program_view s m c) k).ivars ≡ tab (ivar_in s m k) (ivars_of m k)
  unfolding classes_of class_at
  ivars_are = ap (λ (x : P.Class). x.ivars) (tab-at (class_at s m) c.classes k P.built_in h)

  kinds_by : (g : List ℕ → 𝔹) (bits : ℕ) → ((a : ℕ) → a < ivars_of m k → holds a bits ≡ g (ivar_in s m k a))
      → tab (λ a. start_of (holds a bits)) (ivars_of m k) ≡ map (λ n. first_kind (program_view s m c) (g n)) (class (program_view s m c) k).ivars
  kinds_by g bits e =
      tab_ext (λ a. start_of (holds a bits)) (λ a. first_kind (program_view s m c) (g (ivar_in s m k a))) (ivars_of m k)
      (λ a l. ap start_of (e a l) ∙ start_is (program_view s m c) (g (ivar_in s m k a)))
      ∙ (sym (map-tab (λ n. first_kind (program_view s m c) (g n)) (ivar_in s m k) (ivars_of m k)) ∙ sym (ap (map (λ n. first_kind (program_view s m c) (g n))) ivars_are))

  abbrev by : Option ℕ → Answer (List Kind)
  by o = elim o [
    | none ↦ answered (map (λ n. Nil) (class (program_view s m c) k).ivars)
    | some f ↦
        let blocks = reverse_post_order (program_view s m c) (entry (program_view s m c) f) in
        cond (declared (program_view s m c) k blocks)
        (answered (map (λ n. first_kind (program_view s m c) (initialized (program_view s m c) blocks n)) (class (program_view s m c) k).ivars))
        (refused 13)
  ]

  first_by : (o : Option ℕ) → constructor_of (program_view s m c) k ≡ o → first_kinds (program_view s m c) k ≡ by o
  unfolding first_kinds
  first_by o e = ap by e

  wider : {t p n bits : ℕ} {u u' : List ℕ} → n ≤ ivars_most → PutsKinds t p n bits u u' → FirstsOnly t p 64 u u'
  wider few d = record { len_same = d.only.len_same; others = λ i a b. d.only.others i (λ x y. a x (omega arith)) (λ x y. b x (omega arith)) }

  module _ {r : R.Option (FunId × Name)} (few : ivars_of m k ≤ 64) (co : Constructs s m c k r) where
    pub first-none : {tags payloads : ℕ} {u u' : List ℕ} → r ≡ R.None → PutsKinds (tags + ivars_most * k) (payloads + ivars_most * k) (ivars_of m k) 0 u u'
        → FirstIs s m c k tags payloads u u' (R.Ok tt)
    first-none q d =
        record {
          is = ap answered (d.here ∙ kinds_by (λ n. false) 0 (λ a l. holds-none a)) ∙ sym (first_by none (sym co.is ∙ ap constructor_found q));
          only = wider few d;
        }

    module _ {p : FunId × Name} {row : Function} (q : r ≡ R.Some p) (lt : p.0.0 < c.functions) (rw' : row ≡ fun_at m p.0.0) where
      entry-is : entry (program_view s m c) p.0.0 ≡ row.entry.0
      unfolding functions_of
      entry-is = ap (λ (x : P.Function). x.entry) (tab-at (λ g. function_in s (fun_at m g)) c.functions p.0.0 _ lt) ∙ sym (ap (λ (x : Function). x.entry.0) rw')

      found : first_kinds (program_view s m c) k ≡ by (some p.0.0)
      found = first_by (some p.0.0) (sym co.is ∙ ap constructor_found q)

      abbrev blocks : List ℕ
      blocks = reverse_post_order (program_view s m c) (entry (program_view s m c) p.0.0)

      answer_is : {t : 𝔹} → declared (program_view s m c) k blocks ≡ t → first_kinds (program_view s m c) k
          ≡ cond t (answered (map (λ n. first_kind (program_view s m c) (initialized (program_view s m c) blocks n)) (class (program_view s m c) k).ivars)) (refused 13)
      answer_is e =
          found ∙ ap
          (λ t. cond t (answered (map (λ n. first_kind (program_view s m c) (initialized (program_view s m c) blocks n)) (class (program_view s m c) k).ivars)) (refused 13)) e

      told : {sure : R.Result ℕ Refusal} → FlowAnalyzed s m c k row.entry.0 sure → SureIs s m c k blocks sure
      told {sure} an = subst (λ (e : ℕ). SureIs s m c k (reverse_post_order (program_view s m c) e) sure) (sym entry-is) an

      pub first_refused : {e : Refusal} → FlowAnalyzed s m c k row.entry.0 (R.Err e) → (tags payloads : ℕ) (u : List ℕ) → FirstIs s m c k tags payloads u u (R.Err e)
      first_refused {e} an tags payloads u =
          record {
            is = ap (λ (x : Refusal). refused (number_of x)) ((told an).refuses e refl) ∙ sym (answer_is (told an).asked);
            only = record { len_same = refl; others = λ i a b. refl };
          }

      pub first_some : {bits : ℕ} → FlowAnalyzed s m c k row.entry.0 (R.Ok bits) → {tags payloads : ℕ} {u u' : List ℕ}
          → PutsKinds (tags + ivars_most * k) (payloads + ivars_most * k) (ivars_of m k) bits u u' → FirstIs s m c k tags payloads u u' (R.Ok tt)
      first_some {bits} an d =
          record {
            is = ap answered (d.here ∙ kinds_by (initialized (program_view s m c) blocks) bits ((told an).bits bits refl)) ∙ sym (answer_is (told an).asked);
            only = wider few d;
          }

pub entry-below : {m : List ℕ} {c : Counts} {f : ℕ} {row : Function} → Entries m c → f < c.functions → row ≡ fun_at m f → row.entry.0 < c.blocks
entry-below {m} {c} {f} {row} en h e = rw e (en.inside f h)
