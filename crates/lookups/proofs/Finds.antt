-- The first and the latest place of a table that passes a test, and what a search over a range finds. Assumes nothing.
use mathlib.Core.Bool.{Bool, true, false}
use mathlib.Core.Path.{◌≡◌, refl, sym, ap, subst, ◌∙◌}
use mathlib.Core.Option as M
use mathlib.Core.Option.{none, some}
use mathlib.Core.List.{List, [], ◌∷◌, ◌++◌, append-nil}
use Prim.Native.Nat.{ℕ, zero, suc, ◌+◌, ◌-◌, ◌≤◌, ◌<◌}
use native.Mathlib.Omega.{arith}
use native.Mathlib.Decide.{ℕ_discrete}
use denote.Param.Members.{Mut}
use denote.Ref.{Bor}
use lib.ListN.{length}
use Rattle.std.proofs.Common.{Option, Some, None, cond, option_map, unwrap_or}
use Rattle.std.proofs.iter.Yields.{nat_range_steps}
use Rattle.std.proofs.iter.runs.Sources.{nat_range_steps_back}
use Rattle.std.proofs.lemmas.Iterator.{YieldsList, first_from_Range}
use Rattle.std.proofs.lemmas.Iterator.Consumers.{YieldsList-from_shown}
use Rattle.std.proofs.lemmas.Iterator.Search.{find_from_yields_List}
use Rattle.std.specs.Bool.{⊤}
use Rattle.std.specs.Fn.{CalledAt}
use Rattle.std.specs.Iterator.{YieldsThen}
use Rattle.std.specs.Iterator.Adapters.{rev_steps, rev_source}
use Rattle.std.specs.List.{FoldsTo, find}
use Rattle.std.specs.Option.{MatchOption}
use Rattle.std.specs.Prelude.{IfSome}
use Rattle.std.specs.declared.ops.Range.{Range}
use Rattle.std.specs.declared.iter.Rev.{Rev}
use Rattle.rules.specs.Lists.{cons_if, places_from, places, first, final}
use Rattle.program.specs.Tab.{tab}
use Rattle.program.proofs.Tables.{tab-length}
use Rattle.lookups.specs.Look.{ivar_found}

-- the n numbers from a on, the last one first
abbrev down : ℕ → ℕ → List ℕ
down a zero = []
down a (suc n) = (a + n) ∷ down a n

-- a range that is gone through from its end
down_yields : (s : Rev (Range ℕ)) (n : ℕ) → rev_source s ≡ record { start = 0; end = n } → YieldsList (rev_steps nat_range_steps_back) (λ x. x) s (down 0 n)
down_yields s n e =
    let z : n - 0 ≡ n = omega arith in
    subst (λ (l : List ℕ). YieldsList (rev_steps nat_range_steps_back) (λ x. x) s l) (ap (λ (k : Range ℕ). down k.start (k.end - k.start)) e ∙ ap (down 0) z)
    (YieldsList-from_shown (rev_steps nat_range_steps_back) (λ x. x) (λ u. down (rev_source u).start ((rev_source u).end - (rev_source u).start))
    (λ u v p. ap (λ k. length (down (rev_source u).start k)) p.1.0)
    (λ u x v p. step (rev_source u).start (rev_source u).end p.0 p.1.0 p.1.1 p.1.2) s)
  where
    step : (a b : ℕ) {c d x : ℕ} → c ≡ a → 0 < b - a → x ≡ d → b ≡ d + 1 → down a (b - a) ≡ x ∷ down c (d - c)
    step a b {c} {d} {x} e h p q = let more : b - a ≡ suc (d - a) = omega arith in let here : a + (d - a) ≡ x = omega arith in rw (more, here, e)

module _ {A : Type 0} (t : A → Bool) where
  places_snoc : (k : ℕ) (l : List A) (x : A) → places_from k t (l ++ x ∷ []) ≡ places_from k t l ++ cons_if (t x) (k + length l) []
  places_snoc k [] x = let e : k + 0 ≡ k = omega arith in rw e
  places_snoc k (y ∷ l) x = let e : k + suc (length l) ≡ suc k + length l = omega arith in
      rw (places_snoc (suc k) l x, e) (cons_append (t y) k (places_from (suc k) t l) (cons_if (t x) (suc k + length l) []))
    where
      cons_append : (b : Bool) (j : ℕ) (p q : List ℕ) → cons_if b j (p ++ q) ≡ cons_if b j p ++ q
      cons_append true j p q = refl
      cons_append false j p q = refl

  final_snoc : (l : List ℕ) (x : ℕ) → final (l ++ x ∷ []) ≡ some x
  final_snoc [] x = refl
  final_snoc (y ∷ []) x = refl
  final_snoc (y ∷ z ∷ l) x = final_snoc (z ∷ l) x

  module _ (f : ℕ → A) where
    one_more : (n : ℕ) → places t (tab f (suc n)) ≡ places t (tab f n) ++ cons_if (t (f n)) n []
    unfolding tab
    one_more n = places_snoc 0 (tab f n) (f n) ∙ ap (λ (k : ℕ). places t (tab f n) ++ cons_if (t (f n)) k []) (sum (tab-length f n))
      where
        sum : {k : ℕ} → k ≡ n → 0 + k ≡ n
        sum e = omega arith

    more_yes : (n : ℕ) → t (f n) ≡ true → places t (tab f (suc n)) ≡ places t (tab f n) ++ n ∷ []
    more_yes n e = one_more n ∙ rw e

    more_no : (n : ℕ) → t (f n) ≡ false → places t (tab f (suc n)) ≡ places t (tab f n)
    more_no n e = one_more n ∙ rw (e, append-nil (places t (tab f n)))

    -- the latest place that passes
    pub final_is : (n i : ℕ) → i < n → t (f i) ≡ true → ((j : ℕ) → i < j → j < n → t (f j) ≡ false) → some i ≡ final (places t (tab f n))
    final_is zero i h e above = absurd (omega arith)
    final_is (suc n) i h e above =
        elim (ℕ_discrete i n) [
          | yes z ↦ rw z (sym (final_snoc (places t (tab f n)) n) ∙ ap (final {A = ℕ}) (sym (more_yes n (rw z at e))))
          | no z ↦ final_is n i (omega arith) e (λ j p q. above j p (omega arith)) ∙ ap (final {A = ℕ}) (sym (more_no n (above n (omega arith) (omega arith))))
        ]

    -- no place passes
    pub places_none : (n : ℕ) → ((j : ℕ) → j < n → t (f j) ≡ false) → places t (tab f n) ≡ []
    unfolding tab
    places_none zero h = refl
    places_none (suc n) h = more_no n (h n (omega arith)) ∙ places_none n (λ j p. h j (omega arith))

    -- the first place that passes
    first_stays : (n k x : ℕ) → k ≤ n → first (places t (tab f k)) ≡ some x → first (places t (tab f n)) ≡ some x
    first_stays zero k x h e = let z : k ≡ 0 = omega arith in rw z at e
    first_stays (suc n) k x h e =
        elim (ℕ_discrete k (suc n)) [
          | yes z ↦ rw z at e
          | no z ↦ ap (first {A = ℕ}) (one_more n) ∙ front (places t (tab f n)) (cons_if (t (f n)) n []) (first_stays n k x (omega arith) e)
        ]
      where
        front : (p q : List ℕ) → first p ≡ some x → first (p ++ q) ≡ some x
        front [] q e = cc
        front (y ∷ p) q e = e

    pub first_is : (n i : ℕ) → i < n → t (f i) ≡ true → ((j : ℕ) → j < i → t (f j) ≡ false) → some i ≡ first (places t (tab f n))
    first_is n i h e below =
        sym (first_stays n (suc i) i h (ap (first {A = ℕ}) (more_yes i e ∙ ap (λ (l : List ℕ). l ++ i ∷ []) (places_none i below))))

    -- what a search finds among n places: o in the rules' words, and a place that passes
    pub record Finds (n : ℕ) (o : M.Option ℕ) (r : Option ℕ) : Type 0 where
      pub is : ivar_found r ≡ o
      pub here : IfSome r (λ i. (i < n) × (t (f i) ≡ true))

    module _ {n : ℕ} {o : M.Option ℕ} {r : Option ℕ} (g : Finds n o r) where
      pub found_none : r ≡ None → none ≡ o
      found_none e = sym (ap ivar_found e) ∙ g.is

      pub found_or : unwrap_or r 0 ≤ n
      found_or = go r g.here
        where
          go : (r : Option ℕ) → IfSome r (λ i. (i < n) × (t (f i) ≡ true)) → unwrap_or r 0 ≤ n
          go None h = omega arith
          go (Some i) h = omega (arith, h.0)

      module _ {i : ℕ} (e : r ≡ Some i) where
        pub found_some : some i ≡ o
        found_some = sym (ap ivar_found e) ∙ g.is

        pub found_here : (i < n) × (t (f i) ≡ true)
        found_here = subst (λ (q : Option ℕ). IfSome q (λ j. (j < n) × (t (f j) ≡ true))) e g.here

    down_found : (n : ℕ) → Finds n (final (places t (tab f n))) (find (λ i. t (f i)) (down 0 n))
    unfolding tab
    down_found zero = record { is = refl; here = tt }
    down_found (suc n) = let z : 0 + n ≡ n = omega arith in rw z (step (t (f n)) refl (find (λ i. t (f i)) (down 0 n)) (down_found n))
      where
        wider : (r : Option ℕ) → IfSome r (λ i. (i < n) × (t (f i) ≡ true)) → IfSome r (λ i. (i < suc n) × (t (f i) ≡ true))
        wider None h = tt
        wider (Some i) h = (omega (arith, h.0), h.1)

        step : (b : Bool) → t (f n) ≡ b → (r : Option ℕ) → Finds n (final (places t (tab f n))) r → Finds (suc n) (final (places t (tab f (suc n)))) (cond b (Some n) r)
        step true e r h = record { is = final_is (suc n) n (omega arith) e (λ j p q. absurd (omega arith)); here = (omega arith, e) }
        step false e r h = record { is = h.is ∙ ap (final {A = ℕ}) (sym (more_no n e)); here = wider r h.here }

    -- a closure that tests a place leaves its state as it was
    abbrev pub Tests : {F : Type 0} → Mut F (Bor ℕ × Unit {0}) Bool → F → Type 0
    Tests {F} g p = (x : ℕ) (b : Bool) (q : F) → CalledAt g p x b q → (q ≡ p) × (b ≡ t (f x))

    module _ {F : Type 0} {g : Mut F (Bor ℕ × Unit {0}) Bool} {p : F} where
      -- from the start: none passes below the range
      pub first_found : {s : Range ℕ} (u : Range ℕ) {r : Option ℕ}
          → (xs : List ℕ) × (j : F) × YieldsThen nat_range_steps s xs r u × FoldsTo (λ p x q. CalledAt g p x false q) p xs j × MatchOption r ⊤ (λ x. (h : F) × CalledAt g j x true h)
          → ((j : ℕ) → j < s.start → t (f j) ≡ false) → Tests g p → Finds s.end (first (places t (tab f s.end))) r
      first_found {s} u {r} d below tests =
          go r
          (first_from_Range s u p r (λ x. t (f x) ≡ true) (λ x. t (f x) ≡ false) d (λ x q k. sym (tests x true q k).1)
          (λ x q k. ((tests x false q k).0, sym (tests x false q k).1)))
        where
          under : (k : ℕ) → ((j : ℕ) → s.start ≤ j → j < k → t (f j) ≡ false) → (j : ℕ) → j < k → t (f j) ≡ false
          under k h j l = elim (native.Mathlib.Decide.dec_le s.start j) [ yes y ↦ h j y l | no y ↦ below j (omega arith) ]

          go : (r : Option ℕ)
              → MatchOption r ((k : ℕ) → s.start ≤ k → k < s.end → t (f k) ≡ false) (λ i. (s.start ≤ i) × (i < s.end) × (t (f i) ≡ true) × ((k : ℕ) → s.start ≤ k → k < i → t (f k) ≡ false))
              → Finds s.end (first (places t (tab f s.end))) r
          go None h = record { is = ap (first {A = ℕ}) (sym (places_none s.end (under s.end h))); here = tt }
          go (Some i) h = record { is = first_is s.end i h.1 h.2 (under i h.3); here = (h.1, h.2) }

      -- from the end
      pub final_found : {s : Rev (Range ℕ)} (u : Rev (Range ℕ)) {n : ℕ} {r : Option ℕ} → rev_source s ≡ record { start = 0; end = n }
          → (xs : List ℕ) × (j : F) × YieldsThen (rev_steps nat_range_steps_back) s xs r u × FoldsTo (λ p x q. CalledAt g p x false q) p xs j × MatchOption r ⊤ (λ x. (h : F) × CalledAt g j x true h)
          → Tests g p → Finds n (final (places t (tab f n))) r
      final_found {s} u {n} {r} e d tests =
          let found : option_map (λ x. x) r ≡ find (λ i. t (f i)) (down 0 n) = find_from_yields_List (λ i. t (f i)) u p r d (down_yields s n e) tests in
          go r (down_found n) found
        where
          go : (r : Option ℕ) {q : Option ℕ} → Finds n (final (places t (tab f n))) q → option_map (λ x. x) r ≡ q → Finds n (final (places t (tab f n))) r
          go None h e = rw e h
          go (Some i) h e = rw e h
