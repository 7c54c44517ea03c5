-- What is left of a set. Assumes nothing.
use Rattle.std.specs.Prelude.{List, ℕ}
use Rattle.ids.specs.Sets.{members_of}
use Rattle.ids.specs.declared.upward.ClassWalk.{ClassWalk}

abbrev pub members_left : ClassWalk → List ℕ
members_left w = members_of w.set
