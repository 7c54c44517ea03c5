-- The attribute places that bear a name. Assumes nothing.
use mathlib.Core.Bool.{Bool as 𝔹, true, false, not, ◌&&◌, ◌||◌, or-true, or-false, false≢true}
use mathlib.Core.Path.{◌≡◌, refl, sym, ap, ap₂, ◌∙◌}
use mathlib.Core.List.{List, [], ◌∷◌}
use Prim.Native.Nat.{ℕ, suc, ◌+◌, ◌-◌, ◌*◌, ◌/◌, ◌%◌, ◌^◌, ◌≤◌, ◌<◌}
use native.Mathlib.Decide.{ℕ_discrete}
use native.Mathlib.Nat.{div_self, div-eq_of_lt}
use native.Mathlib.Omega.{arith}
use borrow.Author.Tests.{eq-eqb, ne_eqb, eqb-true, lt-ltb, le-ltb}
use lib.Bits.{bit_or, shifted_even}
use lib.Pow.{pow_pos, pow-lt, pow-add, shl-shr}
use lib.Dec.{eqb, ltb}
use Rattle.std.specs.Prelude as R
use Rattle.std.specs.Bool.{then_some}
use Rattle.lexer.specs.Names.{name}
use Rattle.rules.specs.Lists.{any, same, has, first, places_from, places}
use Rattle.rules.specs.Program as P
use Rattle.rules.specs.Program.{ivar_named}
use Rattle.program.specs.Tab.{tab}
use Rattle.program.specs.Rows.{name_in, ivars_of, class_at}
use Rattle.program.specs.View.{program_view, classes_of}
use Rattle.program.specs.declared.Counts.{Counts}
use Rattle.program.specs.declared.Name.{Name}
use Rattle.program.proofs.Tables.{tab-at, tab-more}
use Rattle.program.proofs.Committing.{any_snoc}
use Rattle.constructors.specs.Flows.{holds, ivar_in, NamedIs}
use Rattle.constructors.proofs.Meeting.{holds_or, holds-none}

-- ---- one bit

even_pow : (j : ℕ) → 2 ^ suc j % 2 ≡ 0
even_pow j = let e : 1 * 2 ^ suc j ≡ 2 ^ suc j = omega arith in sym (ap (λ x. x % 2) e) ∙ shifted_even 1 j

pub holds_one : (a k : ℕ) → holds a (2 ^ k) ≡ eqb a k
unfolding holds
holds_one a k = elim (ℕ_discrete a k) [
  | yes q ↦ rw q (ap (λ x. eqb (x % 2) 1) (div_self (pow_pos k)) ∙ sym (eq-eqb k k refl))
  | no q ↦ sym (ne_eqb a k q ∙ sym (ne_eqb (2 ^ k / 2 ^ a % 2) 1 (λ z. apart q z)))
]
  where
    above : a < k → 2 ^ k / 2 ^ a % 2 ≡ 0
    above h =
        let e : k ≡ suc (k - suc a) + a = omega arith in
        ap (λ x. 2 ^ x / 2 ^ a % 2) e ∙ (ap (λ x. x / 2 ^ a % 2) (pow-add 2 (suc (k - suc a)) a) ∙ (ap (λ x. x % 2) (shl-shr (2 ^ suc (k - suc a)) a) ∙ even_pow (k - suc a)))

    below : k < a → 2 ^ k / 2 ^ a % 2 ≡ 0
    below h = ap (λ x. x % 2) (div-eq_of_lt (pow-lt h))

    apart : (a ≡ k → ⊥) → 2 ^ k / 2 ^ a % 2 ≡ 1 → ⊥
    apart q z = elim (native.Mathlib.Decide.dec_le a k) [ yes h ↦ omega (arith, above (omega arith)) | no h ↦ omega (arith, below (omega arith)) ]

-- ---- whether there is a place

has_first : {A : Type 0} (k : ℕ) (f : A → 𝔹) (l : List A) → has (first (places_from k f l)) ≡ any f l
has_first k f [] = refl
has_first k f (x ∷ l) = go (f x) (has_first (suc k) f l)
  where
    go : (t : 𝔹) → has (first (places_from (suc k) f l)) ≡ any f l → has (first (Rattle.rules.specs.Lists.cons_if t k (places_from (suc k) f l))) ≡ (t || any f l)
    go true e = refl
    go false e = e

module _ (s m : List ℕ) (c : Counts) (k : ℕ) (h : k < c.classes) (n : List ℕ) where
  named-any : has (ivar_named (program_view s m c) k n) ≡ any (λ x. same x n) (tab (ivar_in s m k) (ivars_of m k))
  unfolding ivar_named classes_of class_at
  named-any = has_first 0 (λ x. same x n) (P.class (program_view s m c) k).ivars ∙ ap (λ (x : P.Class). any (λ y. same y n) x.ivars) (tab-at (class_at s m) c.classes k P.built_in h)

-- ---- the loop

pub record Naming (s m : List ℕ) (k start len bits a : ℕ) : Type 0 where
  pub high : a ≤ ivars_of m k
  pub places : (x : ℕ) → x < 64 → holds x bits ≡ (ltb x a && same (ivar_in s m k x) (name s start len))
  pub some : any (λ x. same x (name s start len)) (tab (ivar_in s m k) a) ≡ not (eqb bits 0)

pub name-start : (s m : List ℕ) (k start len : ℕ) → Naming s m k start len 0 0
unfolding tab
name-start s m k start len =
    record {
      high = omega arith;
      places = λ x h. holds-none x ∙ sym (ap (λ t. t && same (ivar_in s m k x) (name s start len)) (le-ltb x 0 (omega arith)));
      some = refl;
    }

module _ {s m : List ℕ} {k start len bits a : ℕ} (z : Naming s m k start len bits a) (g : a < ivars_of m k) {t : 𝔹} (e : t ≡ same (ivar_in s m k a) (name s start len)) where
  more-some : any (λ x. same x (name s start len)) (tab (ivar_in s m k) (a + 1)) ≡ (any (λ x. same x (name s start len)) (tab (ivar_in s m k) a) || t)
  more-some =
      ap (any (λ x. same x (name s start len)))
      (tab-more (ivar_in s m k) a) ∙ (any_snoc (λ x. same x (name s start len)) (tab (ivar_in s m k) a) (ivar_in s m k a)
      ∙ ap (λ y. any (λ x. same x (name s start len)) (tab (ivar_in s m k) a) || y) (sym e))

  pub name-skip : t ≡ false → Naming s m k start len bits (a + 1)
  name-skip f =
      record {
        high = omega arith;
        places = λ x h. z.places x h ∙ up x;
        some = more-some ∙ (ap (λ y. any (λ x. same x (name s start len)) (tab (ivar_in s m k) a) || y) f ∙ (or-false (any (λ x. same x (name s start len)) (tab (ivar_in s m k) a)) ∙ z.some));
      }
    where
      and-false : (t : 𝔹) → (t && false) ≡ false
      and-false true = refl
      and-false false = refl

      up : (x : ℕ) → (ltb x a && same (ivar_in s m k x) (name s start len)) ≡ (ltb x (a + 1) && same (ivar_in s m k x) (name s start len))
      up x = elim (ℕ_discrete x a) [
        | yes q ↦
            let no_name : same (ivar_in s m k x) (name s start len) ≡ false = ap (λ y. same (ivar_in s m k y) (name s start len)) q ∙ (sym e ∙ f) in
            ap (λ y. ltb x a && y) no_name ∙ (and-false (ltb x a) ∙ sym (ap (λ y. ltb x (a + 1) && y) no_name ∙ and-false (ltb x (a + 1))))
        | no q ↦ ap (λ y. y && same (ivar_in s m k x) (name s start len)) (same_side x q)
      ]
        where
          same_side : (x : ℕ) → (x ≡ a → ⊥) → ltb x a ≡ ltb x (a + 1)
          same_side x q = elim (native.Mathlib.Decide.dec_le a x)
              [ yes l ↦ le-ltb x a l ∙ sym (le-ltb x (a + 1) (omega arith)) | no l ↦ lt-ltb x a (omega arith) ∙ sym (lt-ltb x (a + 1) (omega arith)) ]

  pub name-more : {bit : ℕ} → bit ≡ 2 ^ a → t ≡ true → Naming s m k start len (bit_or bits bit) (a + 1)
  name-more {bit} l f =
      record {
        high = omega arith;
        places = λ x h. holds_or x bits bit ∙ (ap₂ {C = 𝔹} (λ y w. y || w) (z.places x h) (ap (holds x) l ∙ holds_one x a) ∙ up x);
        some = more-some ∙ (ap (λ y. any (λ x. same x (name s start len)) (tab (ivar_in s m k) a) || y) f ∙ (or-true (any (λ x. same x (name s start len)) (tab (ivar_in s m k) a))
            ∙ sym (ap not (ne_eqb (bit_or bits bit) 0 there))));
      }
    where
      there : bit_or bits bit ≡ 0 → ⊥
      there q =
          false≢true
          (sym (holds-none a) ∙ (sym (ap (holds a) q)
          ∙ (holds_or a bits bit ∙ (ap (λ y. holds a bits || y) (ap (holds a) l ∙ (holds_one a a ∙ eq-eqb a a refl)) ∙ or-true (holds a bits)))))

      up : (x : ℕ) → ((ltb x a && same (ivar_in s m k x) (name s start len)) || eqb x a) ≡ (ltb x (a + 1) && same (ivar_in s m k x) (name s start len))
      up x = elim (ℕ_discrete x a) [
        | yes q ↦
            let a-name : same (ivar_in s m k x) (name s start len) ≡ true = ap (λ y. same (ivar_in s m k y) (name s start len)) q ∙ (sym e ∙ f) in
            ap (λ y. (ltb x a && same (ivar_in s m k x) (name s start len)) || y)
            (eq-eqb x a q) ∙ (or-true (ltb x a && same (ivar_in s m k x) (name s start len)) ∙ sym (ap₂ {C = 𝔹} (λ y w. y && w) (lt-ltb x (a + 1) (omega arith)) a-name))
        | no q ↦ ap (λ y. (ltb x a && same (ivar_in s m k x) (name s start len)) || y)
            (ne_eqb x a q) ∙ (or-false (ltb x a && same (ivar_in s m k x) (name s start len)) ∙ ap (λ y. y && same (ivar_in s m k x) (name s start len)) (same_side x q))
      ]
        where
          same_side : (x : ℕ) → (x ≡ a → ⊥) → ltb x a ≡ ltb x (a + 1)
          same_side x q = elim (native.Mathlib.Decide.dec_le a x)
              [ yes l ↦ le-ltb x a l ∙ sym (le-ltb x (a + 1) (omega arith)) | no l ↦ lt-ltb x a (omega arith) ∙ sym (lt-ltb x (a + 1) (omega arith)) ]

module _ {s m : List ℕ} {k bits a : ℕ} {n : Name} (c : Counts) (z : Naming s m k n.start n.len bits a) (e : a ≡ ivars_of m k) (h : k < c.classes) where
  asked : has (ivar_named (program_view s m c) k (name_in s n)) ≡ not (eqb bits 0)
  asked = named-any s m c k h (name_in s n) ∙ (sym (ap (λ y. any (λ x. same x (name_in s n)) (tab (ivar_in s m k) y)) e) ∙ z.some)

  here : (x : ℕ) → x < 64 → holds x bits ≡ (ltb x (ivars_of m k) && same (ivar_in s m k x) (name_in s n))
  here x l = z.places x l ∙ ap (λ y. ltb x y && same (ivar_in s m k x) (name_in s n)) e

  name_by : (t : 𝔹) → eqb bits 0 ≡ t → NamedIs s m c k n (then_some (not t) bits)
  name_by true f = record { places = λ x l. sym (ap (holds x) (eqb-true bits 0 f)) ∙ here x l; declared = asked ∙ ap not f }
  name_by false f = record { places = here; declared = asked ∙ ap not f }

  pub name_told : {r : R.Option ℕ} → r ≡ then_some (not (eqb bits 0)) bits → NamedIs s m c k n r
  name_told e = rw e (name_by (eqb bits 0) refl)
