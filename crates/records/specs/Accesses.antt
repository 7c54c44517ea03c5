-- What an instruction does to an attribute, by the number of its stored form. Assumes nothing.
use Rattle.std.specs.Prelude.{◌≡◌, ℕ, ◌<◌}
use Rattle.records.specs.declared.Access.{Access}
use Rattle.records.specs.declared.Access.TheVariants.{Neither, Read, Setting}

abbrev pub Accesses : ℕ → Access → Type 0
Accesses n Neither = n < 13
Accesses n Read = n ≡ 13
Accesses n Setting = 13 < n
