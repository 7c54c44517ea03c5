-- `reread::reread` meets its contract. Assumes nothing.
use Rattle.std.proofs.Common.{rules}
use Rattle.std.proofs.KnownBytes.{Keeps-refl}
use Rattle.reread.proofs.Laws.{kept_all, written_start, written_all}
use Rattle.reread.proofs.reread.Goals as goal

pub returns-in_err-loaded : goal.returns-in_err-loaded
returns-in_err-loaded g c = kept_all _ _ _ c.in_err-loaded.field-0.0 (search rules) (Keeps-refl _)

pub returns-in_err-bytes : goal.returns-in_err-bytes
returns-in_err-bytes g c = written_start _ _ _ c.in_ok-loaded.ensures c.in_err-bytes.field-0.0 (search rules) (search rules) c.write.ensures.sends c.write.ensures.appends

pub returns : goal.returns
returns g c = written_all _ _ _ c.in_ok-loaded.ensures c.in_ok-bytes.bytes (search rules) c.write.ensures.sends c.write.ensures.appends
