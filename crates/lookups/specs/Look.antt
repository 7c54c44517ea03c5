-- What look-ups find, and an attribute that is declared. Assumes nothing.
use Rattle.std.specs.Prelude.{Bool as 𝔹, not, ◌&&◌, ◌≡◌, List, ℕ, ◌+◌, ◌*◌, length, get_or, Option, Some, None, Result, Ok, Err}
use Rattle.std.proofs.Math.Option as M
use Rattle.std.proofs.Math.Option.{none, some}
use Rattle.ids.specs.declared.ClassId.{ClassId}
use Rattle.ids.specs.declared.FunId.{FunId}
use Rattle.refusals.specs.Refusals.{number_of}
use Rattle.refusals.specs.declared.Refusal.{Refusal}
use Rattle.rules.specs.Actions.{Answer, answered, refused}
use Rattle.rules.specs.Lists.{bytes, same, has, is_just}
use Rattle.rules.specs.Program as P
use Rattle.rules.specs.Program.{terminated, constructor_of}
use Rattle.rules.specs.Reading.{Parser, with_program, with_class, class_named, push_ivar}
use Rattle.program.specs.declared.Name.{Name}
use Rattle.program.specs.declared.bounds.Limits.{Limits}
use Rattle.program.specs.declared.Counts.{Counts}
use Rattle.program.specs.Rows.{name_in, owner_in, fun_at, function_in, ivar_at, ivars_of}
use Rattle.program.specs.View.{program_view, ProgramReady, limits_of}
use Rattle.program.specs.Layout.{classes_at, ivars_at, class_words, ivar_row_words}

-- what was found, in the rules' words
abbrev pub fun_found : Option FunId → M.Option ℕ
fun_found (Some f) = some f.0
fun_found None = none

abbrev pub constructor_found : Option (FunId × Name) → M.Option ℕ
constructor_found (Some p) = some p.0.0
constructor_found None = none

abbrev pub ivar_found : Option ℕ → M.Option ℕ
ivar_found (Some j) = some j
ivar_found None = none

-- the name that stands at a word of the tables
abbrev pub name_at : List ℕ → ℕ → Name
name_at m i = record { start = get_or m i 0; len = get_or m (i + 1) 0 }

-- rows, and the tests of them
unfoldable pub fun_row : List ℕ → List ℕ → ℕ → P.Function
fun_row s m f = function_in s (fun_at m f)

unfoldable pub ivar_row : List ℕ → List ℕ → ℕ → ℕ → List ℕ
ivar_row s m c j = name_in s (ivar_at m c j)

unfoldable pub is_fun : List ℕ → P.Function → 𝔹
is_fun n f = same f.name n

unfoldable pub is_method : ℕ → List ℕ → P.Function → 𝔹
is_method c n f = is_just f.class c && same f.name n

unfoldable pub is_main : P.Function → 𝔹
is_main f = same f.name (bytes "main") && not (has f.class)

unfoldable pub is_class : List ℕ → P.Class → 𝔹
is_class n c = same c.name n

unfoldable pub is_ivar : List ℕ → List ℕ → 𝔹
is_ivar n m = same m n

-- the class being read is not yet known
pub record LookKnown (s m : List ℕ) (c : Counts) (k : Option ClassId) (n : Name) (r : Option ClassId) : Type 0 where
  pub is : (p : Parser) → owner_in r ≡ class_named (with_class (owner_in k) (with_program (program_view s m c) p)) (name_in s n)

-- a constructor is found with the place of its name
abbrev pub IsNamed : List ℕ → Option (FunId × Name) → Type 0
IsNamed s (Some p) = name_in s p.1 ≡ bytes "initialize"
IsNamed s None = Unit {0}

pub record Constructs (s m : List ℕ) (c : Counts) (k : ℕ) (r : Option (FunId × Name)) : Type 0 where
  pub is : constructor_found r ≡ constructor_of (program_view s m c) k
  pub named : IsNamed s r

-- question 10's test
pub record LookTells (m : List ℕ) (c : Counts) (b : ℕ) (r : 𝔹) : Type 0 where
  pub is : (s : List ℕ) → r ≡ terminated (program_view s m c) b

-- an attribute's name stands at place j of class k, and the class has one attribute more
pub record PutsIvar (k j : ℕ) (n : Name) (m m' : List ℕ) : Type 0 where
  pub len_same : length m' ≡ length m
  pub other : (i : ℕ) → (i ≡ ivars_at + ivar_row_words * k + 2 * j → ⊥) → (i ≡ ivars_at + ivar_row_words * k + 2 * j + 1 → ⊥) → (i ≡ classes_at + class_words * k + 2 → ⊥)
      → get_or m' i 0 ≡ get_or m i 0
  pub here : ivar_at m' k j ≡ n
  pub count : ivars_of m' k ≡ j + 1

abbrev pub declares : List ℕ → List ℕ → Counts → Result (Unit {0}) Refusal → Parser → Answer (Unit {0} × Parser)
declares s m c (Ok u) r = answered (tt, with_program (program_view s m c) r)
declares s m c (Err e) r = refused (number_of e)

abbrev pub LookReadyIf : List ℕ → Counts → Result (Unit {0}) Refusal → Type 0
LookReadyIf m c (Ok u) = ProgramReady m c
LookReadyIf m c (Err e) = Unit {0}

pub record Declares (l : Limits) (k : ℕ) (n : Name) (s m : List ℕ) (c : Counts) (m' : List ℕ) (d : Result (Unit {0}) Refusal) : Type 0 where
  pub is : (r : Parser) → declares s m' c d r ≡ push_ivar (limits_of l) k (name_in s n) (with_program (program_view s m c) r)
  pub ok : LookReadyIf m' c d
