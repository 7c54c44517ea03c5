-- What each function promises. Assumes nothing.
use Rattle.std.specs.Prelude.{true, cond, ◌≡◌, List, ℕ, zero, suc, ◌+◌, ◌-◌, ◌≤◌, ◌<◌, length, get_or, Some, None, MatchOption, MatchResult}
use Rattle.std.specs.declared.cmp.Ordering.{Ordering}
use Rattle.std.specs.declared.cmp.Ordering.TheVariants.{Less, Equal, Greater}
use Rattle.std.specs.declared.option.Option.{Option}
use Rattle.std.specs.declared.result.Result.{Result}
use Rattle.std.proofs.Math.Option as M
use Rattle.rules.specs.Lists.{same, precedes}
use Rattle.rules.specs.Program.{Limits, Name, Opnd}
use Rattle.rules.specs.Actions.{answered, if_answered}
use Rattle.rules.specs.Reading.{Parser, lookup, bind, value_or_nil}
use Rattle.lexer.specs.Names.{name}
use Rattle.variables.specs.Layout.{bindings_most, entries_most}
use Rattle.variables.specs.Scopes.{env_of, Above, Sorted, join_one, join_rows}
use Rattle.variables.specs.Memory.{start_in, length_in, tag_in, name_in, opnd_from, entry, made, vars, row, Kept}
use Rattle.variables.specs.declared.Joint.{Joint}
use Rattle.variables.specs.declared.Row.{Row}
use Rattle.variables.specs.declared.Rows.{Rows}
use Rattle.variables.specs.declared.operands.Stored.{Stored}

pub record Packed (a k t w : ℕ) : Type 0 where
  pub start : start_in w ≡ a
  pub length : length_in w ≡ k
  pub tag : tag_in w ≡ t

pub record Tagged (w t r : ℕ) : Type 0 where
  pub name : (s : List ℕ) → name_in s r ≡ name_in s w
  pub tag : tag_in r ≡ t

-- the rules' bind, for any script; what was bound before, and what is set aside, stays
pub record VariableBinds (n a k t x : ℕ) (m m' : List ℕ) : Type 0 where
  pub len_same : length m' ≡ length m
  pub is : (s : List ℕ) → vars s m' (n + 1) ≡ bind (name s a k) (opnd_from t x) (vars s m n)
  pub old : Kept 0 n m m'
  pub aside : Kept bindings_most entries_most m m'

pub record BindsAgain (n w t x : ℕ) (m m' : List ℕ) : Type 0 where
  pub len_same : length m' ≡ length m
  pub is : (s : List ℕ) → vars s m' (n + 1) ≡ bind (name_in s w) (opnd_from t x) (vars s m n)
  pub old : Kept 0 n m m'
  pub aside : Kept bindings_most entries_most m m'

-- the operand of entry i
pub record IsAt (m : List ℕ) (i : ℕ) (r : Stored) : Type 0 where
  pub tag : r.tag ≡ tag_in (entry m i).word
  pub bits : r.bits ≡ (entry m i).payload

abbrev pub opnd_of : Stored → Opnd
opnd_of o = opnd_from o.tag o.bits

abbrev pub found_of : Option Stored → M.Option Opnd
found_of (Some o) = M.some (opnd_of o)
found_of None = M.none

-- what the rules' lookup gives
pub record VariableFinds (s m : List ℕ) (n : ℕ) (k : Name) (r : Option Stored) : Type 0 where
  pub is : found_of r ≡ lookup k (vars s m n)

pub record Values (s m : List ℕ) (n w : ℕ) (r : Stored) : Type 0 where
  pub is : opnd_of r ≡ value_or_nil (name_in s w) (vars s m n)

-- the rules' order of two names
abbrev pub Stands : Name → Name → Ordering → Type 0
Stands v w Less = precedes v w ≡ true
Stands v w Equal = v ≡ w
Stands v w Greater = precedes w v ≡ true

-- the row's entries are entries of the columns, their names rising
pub record Lies (s m : List ℕ) (r : Row) : Type 0 where
  pub inside : r.lo + r.len ≤ entries_most
  pub sorted : Sorted (row s m r.lo r.len)

-- they stand behind the bindings
pub record Aside (s m : List ℕ) (r : Row) : Type 0 where
  pub low : bindings_most ≤ r.lo
  pub lies : Lies s m r

pub record BothAside (s m : List ℕ) (x : Rows) : Type 0 where
  pub left : Aside s m x.left
  pub right : Aside s m x.right

-- the name stands at j, or belongs to i: it is below all from i on, and above the one before
pub record VariableStands (s m : List ℕ) (lo n w j : ℕ) : Type 0 where
  pub inside : j < n
  pub is : name_in s (entry m (lo + j)).word ≡ name_in s w

pub record Belongs (s m : List ℕ) (lo n w i : ℕ) : Type 0 where
  pub inside : i ≤ n
  pub below : Above (name_in s w) (row s m (lo + i) (n - i))
  pub above : 0 < i → precedes (name_in s (entry m (lo + (i - 1))).word) (name_in s w) ≡ true

abbrev pub Sought : List ℕ → List ℕ → ℕ → ℕ → ℕ → Result ℕ ℕ → Type 0
Sought s m lo n w r = MatchResult r (VariableStands s m lo n w) (Belongs s m lo n w)

pub record Lifted (at k : ℕ) (m m' : List ℕ) : Type 0 where
  pub len_same : length m' ≡ length m
  pub moved : (i : ℕ) → i < k → entry m' (at + 1 + i) ≡ entry m (at + i)
  pub low : Kept 0 at m m'
  pub high : Kept (at + k + 1) entries_most m m'

-- the rules' bind, on a row
pub record Inserts (s : List ℕ) (lo n w x : ℕ) (m m' : List ℕ) (r : ℕ) : Type 0 where
  pub len_same : length m' ≡ length m
  pub is : row s m' lo r ≡ bind (name_in s w) (opnd_from (tag_in w) x) (row s m lo n)
  pub more : r ≤ n + 1
  pub low : Kept 0 lo m m'

-- the row is what the bindings come to
pub record Leaves (s : List ℕ) (mark k to : ℕ) (m m' : List ℕ) (r : ℕ) : Type 0 where
  pub len_same : length m' ≡ length m
  pub is : row s m' to r ≡ env_of (made s m mark k)
  pub less : r ≤ k
  pub low : Kept 0 to m m'

-- the name that one row has first is below all of the other, or both have one name first
abbrev pub VariablesTurned : List ℕ → List ℕ → ℕ → ℕ → ℕ → ℕ → Option Ordering → Type 0
VariablesTurned s m lo n hi k (Some Less) = (0 < n) × Above (name_in s (entry m lo).word) (row s m hi k)
VariablesTurned s m lo n hi k (Some Greater) = (0 < k) × Above (name_in s (entry m hi).word) (row s m lo n)
VariablesTurned s m lo n hi k (Some Equal) = (0 < n) × ((0 < k) × (name_in s (entry m lo).word ≡ name_in s (entry m hi).word))
VariablesTurned s m lo n hi k None = (n ≡ 0) × (k ≡ 0)

-- ---- notes

-- the number of the latest of n bindings that has the name k, counted from 1; 0 where none has
unfoldable pub latest : List ℕ → List ℕ → Name → ℕ → ℕ
latest s m k zero = 0
latest s m k (suc n) = cond (same (name_in s (entry m n).word) k) (suc n) (latest s m k n)

pub record VariablesBlank (g : List ℕ) : Type 0 where
  pub is : (i : ℕ) → get_or g i 0 ≡ 0

-- g has the latest of base bindings for each of n entries from lo on, as far as it reaches
pub record Noted (s m : List ℕ) (base lo n : ℕ) (g : List ℕ) : Type 0 where
  pub is : (p : ℕ) → lo ≤ p → p < lo + n → p - bindings_most < length g → get_or g (p - bindings_most) 0 ≡ latest s m (name_in s (entry m p).word) base

-- g gets notes for n entries from lo on: none is taken back, and other entries' stay
pub record Fills (lo n : ℕ) (g g' : List ℕ) : Type 0 where
  pub len_same : length g' ≡ length g
  pub more : (i : ℕ) → get_or g' i 0 ≡ 0 → get_or g i 0 ≡ 0
  pub before : (p : ℕ) → bindings_most ≤ p → p < lo → get_or g' (p - bindings_most) 0 ≡ get_or g (p - bindings_most) 0
  pub behind : (p : ℕ) → lo + n ≤ p → get_or g' (p - bindings_most) 0 ≡ get_or g (p - bindings_most) 0

-- of base bindings those from i on are noted for n entries from lo on
pub record Since (s m : List ℕ) (base i lo n : ℕ) (g : List ℕ) : Type 0 where
  pub noted : (p : ℕ) → lo ≤ p → p < lo + n → i < latest s m (name_in s (entry m p).word) base → get_or g (p - bindings_most) 0 ≡ latest s m (name_in s (entry m p).word) base
  pub blank : (p : ℕ) → lo ≤ p → p < lo + n → latest s m (name_in s (entry m p).word) base ≤ i → get_or g (p - bindings_most) 0 ≡ 0

-- binding i is noted after those behind it
pub record Notes (s m : List ℕ) (i lo n : ℕ) (g g' : List ℕ) : Type 0 where
  pub fills : Fills lo n g g'
  pub is : (base : ℕ) → i < base → Since s m base (i + 1) lo n g → Since s m base i lo n g'

-- the u entries from lo on have notes
pub record Full (lo u : ℕ) (g : List ℕ) : Type 0 where
  pub is : (p : ℕ) → lo ≤ p → p < lo + u → get_or g (p - bindings_most) 0 ≡ 0 → ⊥

-- where the first u have notes, the first r have
pub record VariablePasses (g : List ℕ) (lo n u r : ℕ) : Type 0 where
  pub high : r ≤ n
  pub full : Full lo u g → Full lo r g

-- all base bindings are noted
pub record NotesRow (s m : List ℕ) (base lo n : ℕ) (g g' : List ℕ) : Type 0 where
  pub fills : Fills lo n g g'
  pub is : Noted s m base lo n g'

pub record NotesBoth (s m : List ℕ) (base lo n hi k : ℕ) (g : List ℕ) : Type 0 where
  pub left : Noted s m base lo n g
  pub right : Noted s m base hi k g

-- what is left of the join of two rows, after its next name
pub record VariableJoins (s m : List ℕ) (base lo n hi k : ℕ) (x : Joint) : Type 0 where
  pub lefts : x.lefts ≤ n
  pub rights : x.rights ≤ k
  pub some : 0 < x.lefts + x.rights
  pub is : (L : Limits) (b c : ℕ) (st : Parser) → join_rows L b c (vars s m base) (row s m lo n) (row s m hi k) st
      ≡ if_answered (join_one L b c (name_in s x.word) (opnd_of x.left) (opnd_of x.right) st)
      (λ p. join_rows L b c (vars s m base) (row s m (lo + x.lefts) (n - x.lefts)) (row s m (hi + x.rights) (k - x.rights)) p.1)

-- nothing is left, or the next name is joined
abbrev pub Nexts : List ℕ → List ℕ → ℕ → ℕ → ℕ → ℕ → ℕ → Option Joint → Type 0
Nexts s m base lo n hi k r = MatchOption r
    ((L : Limits) (b c : ℕ) (st : Parser) → join_rows L b c (vars s m base) (row s m lo n) (row s m hi k) st ≡ answered (tt, st))
    (VariableJoins s m base lo n hi k)
