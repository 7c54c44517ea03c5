-- Attribute reads that are settled: in each class of a set, a visit would find nothing new. Assumes nothing.
use Rattle.std.specs.Prelude.{ℕ, ◌≡◌, Bool as 𝔹, true, false, get_or}
use Rattle.std.proofs.Math.Option.{some}
use mathlib.Core.List.{List, [], Memᴰ}
use Rattle.ids.specs.Sets.{members_of}
use Rattle.kinds.specs.declared.Kind.{Kind}
use Rattle.kinds.specs.declared.Kind.TheVariants.{Empty}
use Rattle.kinds.specs.Kinds.{is_name}
use Rattle.kinds.specs.Union.{Below}
use Rattle.rules.specs.Program.{Name, Program, ivar_named}
use Rattle.rules.specs.Machine.{marked}

-- j is no name, and lies below k
pub record Covered (k j : Kind) : Type 0 where
  pub plain : is_name j ≡ false
  pub below : Below j k

-- class c has attribute n, read i met the class, and kind k covers what the attribute has there
pub record SettledIn (p : Program) (n : Name) (k : Kind) (i : ℕ) (ivars : List (List Kind)) (reads : List (List 𝔹)) (c : ℕ) : Type 0 where
  pub place : ℕ
  pub named : ivar_named p c n ≡ some place
  pub met : marked reads c i ≡ true
  pub covered : Covered k (get_or (get_or ivars c []) place Empty)

-- in each class of the set; ks are the kinds of the instructions
abbrev pub Settled : Program → Name → ℕ → ℕ → List Kind → List (List Kind) → List (List 𝔹) → Type 0
Settled p n i b ks ivars reads = (c : ℕ) → Memᴰ c (members_of b) → SettledIn p n (get_or ks i Empty) i ivars reads c
