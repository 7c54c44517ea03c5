-- `settled::settled_in` meets its contract. Assumes nothing.
use Rattle.attributes.proofs.Found.{ivar_there}
use Rattle.settled.proofs.Settling.{settled_at}
use Rattle.std.proofs.Common.{ap, not}
use Rattle.settled.proofs.settled_in.Goals as goal

pub ivar_words-requires : goal.ivar_words-requires
ivar_words-requires c = record { x_lt_classes = ivar_there _ _ c.ivar_named.ensures c.requires.state_matches c.requires.x_lt_classes.0 c.in-Some.is }

pub returns-in-Some : goal.returns-in-Some
returns-in-Some c =
    λ h.
    settled_at c.requires.state_matches c.requires.x_lt_classes.0 c.has_read.ensures (ap not c.if-not-has_read.false) c.ivar_named.ensures c.in-Some.is
    c.ivar_words.ensures (c.covers.ensures h)
