-- What a finished reading guarantees as one test, which 01's starred scripts pass, and one whose objects have attributes. Assumes nothing.
use mathlib.Core.Path.{◌≡◌, refl}
use mathlib.Core.Bool.{Bool as 𝔹, true, ◌&&◌}
use mathlib.Core.List.{List}
use Prim.Native.String.{String}
use lib.Dec.{leb}
use lib.ListN.{length}
use Rattle.rules.specs.Actions.{Answer, answered, refused}
use Rattle.rules.specs.Lists.{bytes, all}
use Rattle.rules.specs.Program.{Limits, limits, Program}
use Rattle.rules.specs.Reading.{parse_program}
use Rattle.rules.specs.Finished.{good_block, good_function, good_instruction, within_limits}
use Rattle.rules.specs.Opened.{opened}
use Rattle.rules.specs.Scripts.{Says, starred}
use Rattle.rules.specs.Traps.{made}
use Rattle.rules.proofs.Exactness.Sums.{from}

abbrev pub promised : Limits → Program → 𝔹
promised L p =
    within_limits p L && leb 4 (length p.classes) && all (good_block p) (from 0 (length p.blocks)) && all (good_function p) (from 0 (length p.functions))
    && all (good_instruction p) (from 0 (length p.instructions))

-- the reading is refused or keeps the promise
abbrev pub keeps : Answer Program → 𝔹
keeps (answered p) = promised limits p
keeps (refused n) = true

abbrev pub kept : List (String × List Says) → 𝔹
kept l = all (λ (x : String × List Says). keeps (parse_program limits (bytes x.0))) l

pub starred-keep : kept starred ≡ true
unfolding opened
starred-keep = refl

pub made-keep : kept made ≡ true
unfolding opened
made-keep = refl
