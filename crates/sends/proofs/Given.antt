-- What the functions rely on follows from a finished program and its index. Assumes nothing.
use mathlib.Core.Bool.{true}
use mathlib.Core.Path.{◌≡◌, ap}
use mathlib.Core.List.{List}
use Prim.Native.Nat.{ℕ, ◌<◌}
use native.Mathlib.Omega.{arith}
use borrow.Author.Tests.{ltb-true}
use lib.ListN.{length}
use Rattle.rules.specs.Lists.{has}
use Rattle.rules.specs.Program as P
use Rattle.rules.specs.Program.{Limits, Program, about, op_of, function, entry}
use Rattle.rules.specs.Finished.{Finished, good_function}
use Rattle.rules.proofs.Exactness.Promise.{and_left}
use Rattle.program.specs.declared.Counts.{Counts}
use Rattle.program.specs.Rows.{fun_at, function_in}
use Rattle.program.specs.View.{program_view, ProgramReady, functions_of}
use Rattle.program.proofs.Tables.{tab-at}
use Rattle.program.proofs.Viewing.{functions-length, blocks-length}
use Rattle.state.specs.declared.Sizes.{Sizes}
use Rattle.chains.specs.Chains.{Index}
use Rattle.sends.proofs.passing.Given.{caller_of}
use Rattle.sends.specs.Sends.{Calling}

entry_in : (p : Program) (f : ℕ) → good_function p f ≡ true → entry p f < length p.blocks
unfolding good_function
entry_in p f h = ltb-true (entry p f) (length p.blocks) (and_left _ _ (and_left _ _ h))

fun_at_lem : (s m : List ℕ) (c : Counts) (f : ℕ) → f < c.functions → function (program_view s m c) f ≡ function_in s (fun_at m f)
unfolding functions_of
fun_at_lem s m c f lt = tab-at (λ g. function_in s (fun_at m g)) c.functions f _ lt

module _ (L : Limits) (s m : List ℕ) (c : Counts) (z : Sizes) (x : List ℕ) (i : ℕ) where
  pub calling_of : ProgramReady m c → Finished L (program_view s m c) → Index m c x → z.functions ≡ c.functions → z.blocks ≡ c.blocks → z.insns ≡ c.insns → i < c.insns
      → has (about (op_of (program_view s m c) i)).callee ≡ true → Calling z m c x i
  calling_of r g d ef eb ei lt h = record {
    caller = caller_of L s m c z i r g ei lt h;
    index = d;
    functions = ef;
    blocks = eb;
    entries = λ f le.
        let a = functions-length s m c.functions in
        let b = blocks-length m c.blocks in
        let e = entry_in (program_view s m c) f (g.functions f (omega arith)) in
        let t = ap (λ (y : P.Function). y.entry) (fun_at_lem s m c f le) in
        omega arith;
  }
