-- What is surely set, a bit for each attribute. Assumes nothing.
use Rattle.std.specs.Prelude.{Bool as 𝔹, false, ◌&&◌, ◌≡◌, Option, Result, Ok, Err, is_some, is_ok, unwrap_or, List, [], ◌∷◌, ℕ, zero, suc, ◌+◌, ◌-◌, ◌/◌, ◌%◌, ◌^◌, ◌≤◌, ◌<◌, eqb, ltb, get_or}
use Rattle.std.proofs.Math.Option as M
use Rattle.rules.specs.Constructors.{reverse_post_order, sets_of, set_before, initialized, declared}
use Rattle.rules.specs.Lists.{same, any, all, has}
use Rattle.rules.specs.Program.{ivar_named}
use Rattle.program.specs.Rows.{name_in, ivar_at, ivars_of}
use Rattle.program.specs.View.{program_view}
use Rattle.program.specs.declared.Name.{Name}
use Rattle.constructors.specs.Layout.{order_at, outs_at}
use Rattle.refusals.specs.declared.Refusal.{Refusal}
use Rattle.refusals.specs.declared.Refusal.TheVariants.{UndeclaredAttribute}
use Rattle.constructors.specs.Walks.{out_of}
use Rattle.program.specs.declared.Counts.{Counts}

-- whether a set has attribute a
unfoldable pub holds : ℕ → ℕ → 𝔹
holds a x = eqb (x / 2 ^ a % 2) 1

-- f blocks done, from place q of the order on, each with whether attribute a is set at its end
unfoldable pub done_from : List ℕ → ℕ → ℕ → ℕ → List (ℕ × 𝔹)
done_from w a q zero = []
done_from w a q (suc f) = (get_or w (order_at + q) 0, holds a (get_or w (outs_at + q) 0)) ∷ done_from w a (suc q) f

abbrev pub or_false : M.Option 𝔹 → 𝔹
or_false M.none = false
or_false (M.some t) = t

-- the first n places of the order have blocks
pub record FlowPlaced (k : ℕ) (w : List ℕ) (n : ℕ) : Type 0 where
  pub blocks : (i : ℕ) → i < n → get_or w (order_at + i) 0 < k
  pub few : n ≤ order_at

-- r is what is set before block b, by the blocks done from place i on
pub record Before (m : List ℕ) (c : Counts) (w : List ℕ) (n i b r : ℕ) : Type 0 where
  pub is : (s : List ℕ) (a : ℕ) → a < 64 → holds a r ≡ or_false (set_before (program_view s m c) b (done_from w a i (n - i)))

-- ---- what a block sets

-- the names of a class's attributes
abbrev pub ivar_in : List ℕ → List ℕ → ℕ → ℕ → List ℕ
ivar_in s m k a = name_in s (ivar_at m k a)

-- the places of class k's attributes that bear a name, if there is one
pub record NamedIs (s m : List ℕ) (c : Counts) (k : ℕ) (n : Name) (r : Option ℕ) : Type 0 where
  pub places : (a : ℕ) → a < 64 → holds a (unwrap_or r 0) ≡ (ltb a (ivars_of m k) && same (ivar_in s m k a) (name_in s n))
  pub declared : has (ivar_named (program_view s m c) k (name_in s n)) ≡ is_some r

-- a set of attributes of class k, each by a test on its name; or a question that is answered no
pub record FlowTold (s m : List ℕ) (k : ℕ) (yes? : 𝔹) (test : List ℕ → 𝔹) (r : Result ℕ Refusal) : Type 0 where
  pub asked : yes? ≡ is_ok r
  pub bits : (o : ℕ) → r ≡ Ok o → (a : ℕ) → a < ivars_of m k → holds a o ≡ test (ivar_in s m k a)
  pub refuses : (e : Refusal) → r ≡ Err e → e ≡ UndeclaredAttribute

abbrev pub all_declared : List ℕ → List ℕ → Counts → ℕ → List (List ℕ) → 𝔹
all_declared s m c k l = all (λ n. has (ivar_named (program_view s m c) k n)) l

-- what block b sets of class k's attributes
abbrev pub SetsIs : List ℕ → List ℕ → Counts → ℕ → ℕ → Result ℕ Refusal → Type 0
SetsIs s m c k b r = FlowTold s m k (all_declared s m c k (sets_of (program_view s m c) b)) (λ n. any (same n) (sets_of (program_view s m c) b)) r

-- what the blocks of an order surely set
abbrev pub SureIs : List ℕ → List ℕ → Counts → ℕ → List ℕ → Result ℕ Refusal → Type 0
SureIs s m c k blocks r = FlowTold s m k (declared (program_view s m c) k blocks) (initialized (program_view s m c) blocks) r

abbrev pub Surely : List ℕ → List ℕ → Counts → ℕ → List ℕ → ℕ → Result ℕ Refusal → Type 0
Surely s m c k w n r = SureIs s m c k (out_of w n) r

abbrev pub FlowAnalyzed : List ℕ → List ℕ → Counts → ℕ → ℕ → Result ℕ Refusal → Type 0
FlowAnalyzed s m c k b r = SureIs s m c k (reverse_post_order (program_view s m c) b) r
