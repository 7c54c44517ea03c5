-- What is left of a chain. Assumes nothing.
use Rattle.std.specs.Prelude.{List, ℕ, ◌-◌, length}
use Rattle.chains.specs.Chains.{link_in, cells_from}
use Rattle.chains.specs.declared.cells.Chain.{Chain}

abbrev pub left : Chain → List ℕ
left c = cells_from (link_in c.links.now) (length c.links.now) (length c.links.now - c.at) c.at
