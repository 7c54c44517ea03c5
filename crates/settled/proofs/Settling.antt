-- What the quick tests say, and the walk through a set of classes. Assumes nothing.
use mathlib.Core.Bool.{Bool as 𝔹, false, not}
use mathlib.Core.Logic.{◌⊎◌, inl, inr}
use mathlib.Core.Path.{◌≡◌, refl, sym, ◌∙◌, subst}
use mathlib.Core.List.Memᴰ
use mathlib.Core.List.{List, [], Memᴰ}
use Prim.Native.Nat.{ℕ, ◌<◌}
use borrow.Author.Tests.{not-false}
use lib.ListN.{get_or}
use Rattle.std.specs.Prelude.{Ok}
use Rattle.ids.specs.Sets.{members_of}
use Rattle.ids.proofs.Walk.{Step, members_done}
use Rattle.kinds.specs.declared.Kind.{Kind}
use Rattle.kinds.specs.declared.Kind.TheVariants.{Empty}
use Rattle.kinds.specs.Kinds.{is_name}
use Rattle.kinds.specs.Union.{union_of}
use Rattle.kinds.proofs.Laws.{union-above}
use Rattle.rules.specs.Machine.{marked}
use Rattle.rules.specs.Program.{Program, ivar_named}
use Rattle.idle.specs.Settled.{Covered, SettledIn}
use Rattle.program.specs.declared.Counts.{Counts}
use Rattle.program.specs.declared.Name.{Name}
use Rattle.program.specs.Rows.{name_in}
use Rattle.program.specs.View as Prog
use Rattle.std.proofs.Common.{Option, Some}
use Rattle.lookups.specs.Look.{ivar_found}
use Rattle.state.specs.declared.Sizes.{Sizes}
use Rattle.state.specs.View.{Attrs, kinds_of, ivars_of, reads_of}
use Rattle.machine.specs.receivers.Receivers.{StateMatches}
use Rattle.machine.proofs.receivers.Walk.{Walking, walk-on}
use Rattle.attributes.proofs.Found.{at_place, at_counted, program-is}
use Rattle.machine.specs.Analysed.{MachineFits}
use Rattle.settled.specs.Reads.{SettledAt, SettledFor}

-- ---- covers

pub covers-plain : (a k : Kind) → is_name k ≡ false → union_of a k ≡ Ok a → Covered a k
covers-plain a k n e = record { plain = n; below = (union-above a k a e).1 }

-- ---- one class

module _ {z : Sizes} {s p : List ℕ} {c : Counts} {m : List ℕ} {i x : ℕ} {n : Name} {k j : Kind} {r : Option ℕ} {a : ℕ} where
  pub settled_at : StateMatches z p c → x < z.classes → {t : 𝔹} → t ≡ marked (reads_of z m) x i → not t ≡ false → ivar_found r ≡ ivar_named (Prog.program_view s p c) x (name_in s n) → r ≡ Some a
      → ((v : Attrs) → a < v.count x → j ≡ get_or (get_or (ivars_of z v m) x []) a Empty) → Covered k j → SettledAt s p c z m n i k x
  settled_at M below {t} met so found e kind covered = record {
    is = λ P v f. record {
      place = a;
      named = at_place s p c x n found (program-is _ _ f) e;
      met = sym met ∙ not-false t so;
      covered = subst (Covered k) (kind v (at_counted s p c x n found (program-is _ _ f) M below e)) covered;
    };
  }

-- ---- all classes of a set

pub none_settled : {s p : List ℕ} {c : Counts} {z : Sizes} {m : List ℕ} {n : Name} {i : ℕ} → SettledFor s p c z m n i 0
none_settled = record { is = λ P v f x h. absurd (Memᴰ.not-nil (subst (Memᴰ x) (members_done 0 refl) h)) }

-- the walk at its loop's head: each class is still ahead, or the read is settled in it
pub record Settling (s p : List ℕ) (c : Counts) (z : Sizes) (m : List ℕ) (n : Name) (i : ℕ) (k : Kind) (b left : ℕ) : Type 0 where
  pub walking : Walking z.classes left
  pub each : (x : ℕ) → Memᴰ x (members_of b) → Memᴰ x (members_of left) ⊎ SettledAt s p c z m n i k x

module _ {s p : List ℕ} {c : Counts} {z : Sizes} {m : List ℕ} {n : Name} {i : ℕ} {k : Kind} {b : ℕ} where
  module _ {left : ℕ} (g : Settling s p c z m n i k b left) where
    pub settling_more : {x rest : ℕ} → Step left x rest → SettledAt s p c z m n i k x → Settling s p c z m n i k b rest
    settling_more {x} {rest} u h = record { walking = walk-on u g.walking; each = λ y a. go y (g.each y a) }
      where
        next : (y : ℕ) → (y ≡ x) ⊎ Memᴰ y (members_of rest) → Memᴰ y (members_of rest) ⊎ SettledAt s p c z m n i k y
        next y (inl e) = inr (subst (SettledAt s p c z m n i k) (sym e) h)
        next y (inr a) = inl a

        go : (y : ℕ) → Memᴰ y (members_of left) ⊎ SettledAt s p c z m n i k y → Memᴰ y (members_of rest) ⊎ SettledAt s p c z m n i k y
        go y (inl a) = next y (Memᴰ.cases_cons (subst (Memᴰ y) u.walk a))
        go y (inr a) = inr a

    pub settling_done : k ≡ get_or (kinds_of z m) i Empty → members_of left ≡ [] → SettledFor s p c z m n i b
    settling_done e done = record { is = λ P v f x h. go P v f x (g.each x h) }
      where
        go : (P : Program) (v : Attrs) → MachineFits s p c P v → (x : ℕ) → Memᴰ x (members_of left) ⊎ SettledAt s p c z m n i k x
            → SettledIn P (name_in s n) (get_or (kinds_of z m) i Empty) i (ivars_of z v m) (reads_of z m) x
        go P v f x (inl a) = absurd (Memᴰ.not-nil (subst (Memᴰ x) done a))
        go P v f x (inr a) = subst (λ (y : Kind). SettledIn P (name_in s n) y i (ivars_of z v m) (reads_of z m) x) e (a.is P v f)
