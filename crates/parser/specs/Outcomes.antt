-- A script read: the rules' program or the number of a refusal. Assumes nothing.
use Rattle.std.specs.Prelude.{◌≡◌, List, ℕ, None, Result, Ok, Err}
use Rattle.refusals.specs.declared.Refusal.{Refusal}
use Rattle.refusals.specs.Refusals.{number_of}
use Rattle.rules.specs.Actions.{Answer, answered, refused}
use Rattle.rules.specs.Program as P
use Rattle.rules.specs.Reading.{parse_program}
use Rattle.program.specs.View as View
use Rattle.program.specs.declared.Counts.{Counts}
use Rattle.program.specs.declared.bounds.Limits.{Limits}
use Rattle.cursor.specs.Cursor.{Cursor}
use Rattle.variables.specs.Layout.{bindings_most}

-- before the first word
abbrev pub start_cur : Counts → Cursor
start_cur n = record { at = 0; counts = n; class = None; receiver = None; block = record { 0 = 0 }; vars = 0; aside = bindings_most; args = 0 }

abbrev pub answer_of : List ℕ → List ℕ → Result Counts Refusal → Answer P.Program
answer_of s m (Ok c) = answered (View.program_view s m c)
answer_of s m (Err e) = refused (number_of e)

abbrev pub OutcomeReadyIf : List ℕ → Result Counts Refusal → Type 0
OutcomeReadyIf m (Ok c) = View.ProgramReady m c
OutcomeReadyIf m (Err e) = Unit {0}

-- the tables hold what the rules read under some limits, or the reading refuses
pub record ReadsWithin (l : Limits) (s m' : List ℕ) (r : Result Counts Refusal) : Type 0 where
  pub is : answer_of s m' r ≡ parse_program (View.limits_of l) s
  pub ok : OutcomeReadyIf m' r

-- the same under the built-in ones.
-- Free: the words of the scratch memory, of which nothing is said; in the tables the words beyond the rows in use (`View.program_view` reads none), and all of them
-- after a refusal. Both memories keep their lengths, as lent slices do
pub record ReadsScript (s m' : List ℕ) (r : Result Counts Refusal) : Type 0 where
  pub is : answer_of s m' r ≡ parse_program P.limits s
  pub ok : OutcomeReadyIf m' r
