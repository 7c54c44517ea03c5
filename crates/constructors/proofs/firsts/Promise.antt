-- A finished reading gives that functions begin at blocks. Assumes nothing.
use mathlib.Core.Path.{◌≡◌, ap}
use mathlib.Core.List.{List}
use Prim.Native.Nat.{ℕ, ◌<◌}
use native.Mathlib.Omega.{arith}
use borrow.Author.Tests.{ltb-true}
use lib.Dec.{eqb, ltb}
use lib.ListN.{length}
use Rattle.rules.specs.Lists.{all, to_list}
use Rattle.rules.specs.Program as P
use Rattle.rules.specs.Program.{entry, function, function_at}
use Rattle.rules.specs.Finished.{is_block_of, good_method, good_function, Finished}
use Rattle.rules.proofs.Exactness.Promise.{and_left}
use Rattle.program.specs.Rows.{fun_at, function_in, block_at}
use Rattle.program.specs.View.{program_view, functions_of, blocks_of}
use Rattle.program.specs.declared.Counts.{Counts}
use Rattle.program.proofs.Tables.{tab-at, tab-length}
use Rattle.constructors.specs.firsts.Firsts.{Entries}

module _ (s m : List ℕ) (c : Counts) where
  entry-is : (f : ℕ) → f < c.functions → entry (program_view s m c) f ≡ (fun_at m f).entry.0
  unfolding functions_of
  entry-is f h = ap (λ (x : P.Function). x.entry) (tab-at (λ g. function_in s (fun_at m g)) c.functions f _ h)

  functions_are : length (program_view s m c).functions ≡ c.functions
  unfolding functions_of
  functions_are = tab-length (λ g. function_in s (fun_at m g)) c.functions

  blocks_are : length (program_view s m c).blocks ≡ c.blocks
  unfolding blocks_of
  blocks_are = tab-length (block_at m) c.blocks

  pub entries_of : {L : P.Limits} → Finished L (program_view s m c) → Entries m c
  unfolding good_function
  entries_of R =
      record {
        inside = λ f h.
            let good = and_left (is_block_of (program_view s m c) f (entry (program_view s m c) f))
            (all (good_method (program_view s m c) f) (to_list (function (program_view s m c) f).class))
            (R.functions f (omega (arith, functions_are))) in
            let less = ltb-true (entry (program_view s m c) f) (length (program_view s m c).blocks)
            (and_left (ltb (entry (program_view s m c) f) (length (program_view s m c).blocks))
            (eqb (function_at (program_view s m c) (entry (program_view s m c) f)) f) good) in
            omega (arith, less, entry-is f h, blocks_are);
      }
