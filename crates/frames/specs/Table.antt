-- The code's sorts of frames are those of the table. Assumes nothing.
use Rattle.std.specs.Prelude.{List, [], ◌∷◌, ℕ, eqb, find, Option}
use Rattle.rules.specs.Sorts.{Sort, of_totals, of_block, of_kind, of_use, of_caller, of_refusal, sort_byte}
use Rattle.frames.specs.declared.Sort.TheVariants as S
use Rattle.frames.specs.declared.Sort as D

abbrev pub sort_named : D.Sort → Sort
sort_named S.Totals = of_totals
sort_named S.Block = of_block
sort_named S.Kind = of_kind
sort_named S.Use = of_use
sort_named S.Caller = of_caller
sort_named S.Refusal = of_refusal

abbrev pub sorts : List Sort
sorts = of_totals ∷ of_block ∷ of_kind ∷ of_use ∷ of_caller ∷ of_refusal ∷ []

-- the sort that a byte begins
abbrev pub sort_from : ℕ → Option Sort
sort_from n = find (λ s. eqb (sort_byte s) n) sorts
