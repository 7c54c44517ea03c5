-- The formula gives what was worked out by hand. Assumes nothing.
use mathlib.Core.Bool.{true}
use mathlib.Core.Path.{◌≡◌, refl}
use Rattle.rules.specs.Opened.{opened}
use Rattle.rules.specs.Bounds.{worked, agrees}

pub worked-agrees : agrees worked ≡ true
unfolding opened
worked-agrees = refl
