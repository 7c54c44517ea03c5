-- What stays of a draft while it grows. Assumes nothing.
use Rattle.std.specs.Prelude.{◌≡◌, length}
use Rattle.program.specs.declared.writer.Draft.{Draft}

-- the limits stay, and it goes on in the same memory
pub record DraftKept (d d' : Draft) : Type 0 where
  pub limits : d'.limits ≡ d.limits
  pub loan : d'.words.ghost_name ≡ d.words.ghost_name
  pub room : length d'.words.now ≡ length d.words.now

-- after a refusal nothing has changed
pub record DraftStays (d d' : Draft) : Type 0 where
  pub words : d'.words.now ≡ d.words.now
  pub counts : d'.counts ≡ d.counts
