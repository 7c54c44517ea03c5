-- A kind in two words, as the tables hold it. Assumes nothing.
use Rattle.std.specs.Prelude.{ℕ, Option, Some, None, cond}
use Rattle.kinds.specs.declared.Kind.{Kind}
use Rattle.kinds.specs.declared.words.Words.{Words}
use Rattle.kinds.specs.Kinds.{kind_from}
use Rattle.kinds.specs.Union.{is_alone, set_of}

-- the kind that two words stand for
abbrev pub words_of : Words → Kind
words_of x = kind_from x.tag x.bits

-- a kind as the set of its classes, unless it is a name or Any
abbrev pub AsSet : Type 0
AsSet = Option ℕ

abbrev pub as_set : Kind → AsSet
as_set k = cond (is_alone k) None (Some (set_of k))
