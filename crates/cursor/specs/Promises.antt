-- What every reader promises: it does as the rules' action does. Assumes nothing.
use Rattle.std.specs.Prelude.{Bool as 𝔹, true, false, ◌≡◌, List, [], ◌∷◌, ℕ, ◌+◌, ◌*◌, ◌≤◌, ◌<◌, length, get_or}
use Rattle.std.specs.Prelude.{Option, Some, None, Result, Ok, Err}
use Rattle.refusals.specs.declared.Refusal.{Refusal}
use Rattle.refusals.specs.Refusals.{number_of}
use Prim.Native.String.{String}
use Rattle.ids.specs.declared.BlockId.{BlockId}
use Rattle.ids.specs.declared.ClassId.{ClassId}
use Rattle.rules.specs.Actions.{Answer, answered, refused, ◌>>=◌, ◌>>◌, give, ask, when◌then◌else◌}
use Rattle.rules.specs.Lists.{bytes, same}
use Rattle.rules.specs.Program as P
use Rattle.rules.specs.Words.{is_literal}
use Rattle.rules.specs.Reading.{Parser, Reads, peek, pass, next, expect, expect_ident, match_token}
use Rattle.lexer.specs.Lexed.{token_of, same_token, Lexes}
use Rattle.lexer.specs.declared.Token.{Token}
use Rattle.lexer.specs.declared.Word.{Word}
use Rattle.program.specs.Rows.{opnd_of, name_in}
use Rattle.variables.specs.Memory.{entry}
use Rattle.program.specs.View as View
use Rattle.program.specs.View.{Puts}
use Rattle.program.specs.declared.Counts.{Counts}
use Rattle.program.specs.declared.writer.Draft.{Draft}
use Rattle.program.specs.declared.Opnd.{Opnd}
use Rattle.program.specs.declared.Name.{Name}
use Rattle.variables.specs.Layout.{bindings_most, entries_most}
use Rattle.cursor.specs.Layout.{stack_at}
use Rattle.cursor.specs.Cursor.{Cursor, parser_of, move_cur, count_cur, bind_cur, stack_cur, In, CursorStep}
use Rattle.cursor.specs.Steps.{assigns, means}
use Rattle.cursor.specs.outcomes.Parsed.{Parsed}
use Rattle.cursor.specs.outcomes.Parsed.{Done, Refused}
use Rattle.cursor.specs.outcomes.Moved.{Moved}
use Rattle.cursor.specs.outcomes.Ident.{Ident}
use Rattle.cursor.specs.outcomes.Matched.{Matched}

-- a value and the cursor behind it, or the number of a refusal
pub data Out (A : Type 0) : Type 0 where
  done : A → Cursor → Out A
  stop : ℕ → Out A

abbrev pub outcome : {A : Type 0} → List ℕ → List ℕ → List ℕ → Out A → Answer (A × Parser)
outcome s m w (done a c) = answered (a, parser_of s m w c)
outcome s m w (stop e) = refused e

abbrev pub CursorAfter : {A : Type 0} → ℕ → List ℕ → Cursor → List ℕ → List ℕ → List ℕ → Out A → Type 0
CursorAfter k s c w m' w' (done a c') = In s m' w' c' × CursorStep k c w c' w'
CursorAfter k s c w m' w' (stop e) = Unit {0}

-- what a reader does: f, over at least k bytes
pub record CursorDid {A : Type 0} (f : Reads A) (k : ℕ) (s m w : List ℕ) (c : Cursor) (m' w' : List ℕ) (o : Out A) : Type 0 where
  pub is : outcome s m' w' o ≡ f (parser_of s m w c)
  pub ok : CursorAfter k s c w m' w' o

-- the same of one that leaves both memories alone
abbrev pub Onward : {A : Type 0} → ℕ → List ℕ → Cursor → Out A → Type 0
Onward k s c (done a c') = (c' ≡ move_cur c'.at c) × ((c.at + k ≤ c'.at) × (c.at ≤ length s → c'.at ≤ length s))
Onward k s c (stop e) = Unit {0}

pub record Moves {A : Type 0} (f : Reads A) (k : ℕ) (s : List ℕ) (c : Cursor) (o : Out A) : Type 0 where
  pub is : (m w : List ℕ) → outcome s m w o ≡ f (parser_of s m w c)
  pub ok : Onward k s c o

-- the same of one that adds instructions
pub record Longer (m' : List ℕ) (c c' : Cursor) : Type 0 where
  pub ready : View.ProgramReady m' c'.counts
  pub cur : c' ≡ count_cur c'.counts c
  pub functions : c'.counts.functions ≡ c.counts.functions
  pub classes : c'.counts.classes ≡ c.counts.classes
  pub blocks : c'.counts.blocks ≡ c.counts.blocks

abbrev pub CursorGrown : {A : Type 0} → List ℕ → Cursor → Out A → Type 0
CursorGrown m' c (done a c') = Longer m' c c'
CursorGrown m' c (stop e) = Unit {0}

pub record CursorAdds {A : Type 0} (s w : List ℕ) (f : Reads A) (m : List ℕ) (c : Cursor) (m' : List ℕ) (o : Out A) : Type 0 where
  pub is : outcome s m' w o ≡ f (parser_of s m w c)
  pub ok : CursorGrown m' c o

-- ---- the answers

abbrev pub parsed_of : Parsed → Out P.Opnd
parsed_of (Done c v) = done (opnd_of v) c
parsed_of (Refused e) = stop e

abbrev pub moved_of : Moved → Out (Unit {0})
moved_of (Moved.On c) = done tt c
moved_of (Moved.Refused e) = stop e

abbrev pub ident_of : List ℕ → Ident → Out P.Name
ident_of s (Ident.Found c n) = done (name_in s n) c
ident_of s (Ident.Refused e) = stop e

-- where the word is another, nothing moves
abbrev pub matched_of : Cursor → Matched → Out 𝔹
matched_of c (Matched.Yes c') = done true c'
matched_of c Matched.Not = done false c
matched_of c (Matched.Refused e) = stop e

-- the next word
pub record Sees (s : List ℕ) (c : Cursor) (r : Result Word Refusal) : Type 0 where
  pub lexes : Lexes s c.at r

-- k is the token of just the words that have the text t
abbrev pub Spelt : Token → String → Type 0
Spelt k t = (x : List ℕ) → same x (bytes t) ≡ same_token (token_of x) k

-- the rules' `match_token` and `expect`, asked of the word's token. Names and literals have many texts, and some signs are no word; these say what is done
-- there too. Where a text is spelt by the token they are the rules' own
unfoldable pub match_kind : List ℕ → Token → Reads 𝔹
match_kind s k = do
  w ← peek s
  when same_token (token_of w.text) k then (do
    pass s
    give true) else give false

unfoldable pub expect_kind : List ℕ → Token → Reads (Unit {0})
expect_kind s k = do
  w ← next s
  ask 5 (same_token (token_of w.text) k)

-- a literal, whatever number it writes
unfoldable pub match_literal : List ℕ → Reads 𝔹
match_literal s = do
  w ← peek s
  when is_literal w then (do
    pass s
    give true) else give false

unfoldable pub expect_literal : List ℕ → Reads (Unit {0})
expect_literal s = do
  w ← next s
  ask 5 (is_literal w)

-- a name, which lies inside of the script
pub record Idents (s : List ℕ) (c : Cursor) (r : Ident) : Type 0 where
  pub moves : Moves (expect_ident s) 1 s c (ident_of s r)
  pub inside : (c' : Cursor) (n : Name) → r ≡ Ident.Found c' n → c.at ≤ length s → n.start + n.len ≤ length s

pub record Expects (s : List ℕ) (k : Token) (c : Cursor) (r : Moved) : Type 0 where
  pub takes : Moves (expect_kind s k) 1 s c (moved_of r)
  pub moves : (t : String) → Spelt k t → Moves (expect s t) 1 s c (moved_of r)

pub record CursorMatches (s : List ℕ) (k : Token) (c : Cursor) (r : Matched) : Type 0 where
  pub takes : Moves (match_kind s k) 0 s c (matched_of c r)
  pub moves : (t : String) → Spelt k t → Moves (match_token s t) 0 s c (matched_of c r)
  pub further : (c' : Cursor) → r ≡ Matched.Yes c' → c.at < c'.at

pub record LiteralMatches (s : List ℕ) (c : Cursor) (r : Matched) : Type 0 where
  pub takes : Moves (match_literal s) 0 s c (matched_of c r)
  pub further : (c' : Cursor) → r ≡ Matched.Yes c' → c.at < c'.at

pub record LiteralExpects (s : List ℕ) (c : Cursor) (r : Moved) : Type 0 where
  pub takes : Moves (expect_literal s) 1 s c (moved_of r)

-- ---- the same of a script and a place, for every cursor that stands there

-- the word x is the one that is taken
abbrev pub named_by : Cursor → Word → Result Name Refusal → Ident
named_by c x (Ok n) = Ident.Found (move_cur x.next c) n
named_by c x (Err e) = Ident.Refused (number_of e)

abbrev pub ident_at : Cursor → Result (Name × ℕ) Refusal → Ident
ident_at c (Ok n) = Ident.Found (move_cur n.1 c) n.0
ident_at c (Err e) = Ident.Refused (number_of e)

abbrev pub matched_to : Cursor → Option ℕ → Matched
matched_to c (Some n) = Matched.Yes (move_cur n c)
matched_to c None = Matched.Not

abbrev pub matched_at : Cursor → Result (Option ℕ) Refusal → Matched
matched_at c (Ok o) = matched_to c o
matched_at c (Err e) = Matched.Refused (number_of e)

abbrev pub moved_at : Cursor → Result ℕ Refusal → Moved
moved_at c (Ok n) = Moved.On (move_cur n c)
moved_at c (Err e) = Moved.Refused (number_of e)

abbrev pub NameAt : List ℕ → ℕ → Result (Name × ℕ) Refusal → Type 0
NameAt s at r = (c : Cursor) → c.at ≡ at → Idents s c (ident_at c r)

abbrev pub MatchAt : List ℕ → Token → ℕ → Result (Option ℕ) Refusal → Type 0
MatchAt s k at r = (c : Cursor) → c.at ≡ at → CursorMatches s k c (matched_at c r)

abbrev pub NumberAt : List ℕ → ℕ → Result (Option ℕ) Refusal → Type 0
NumberAt s at r = (c : Cursor) → c.at ≡ at → LiteralMatches s c (matched_at c r)

abbrev pub ExpectAt : List ℕ → Token → ℕ → Result ℕ Refusal → Type 0
ExpectAt s k at r = (c : Cursor) → c.at ≡ at → Expects s k c (moved_at c r)

abbrev pub LiteralAt : List ℕ → ℕ → Result ℕ Refusal → Type 0
LiteralAt s at r = (c : Cursor) → c.at ≡ at → LiteralExpects s c (moved_at c r)

-- ---- the steps behind the words

-- a name is bound as the next variable; the rest of scratch memory stays
pub record CursorBinds (c : Cursor) (w w' : List ℕ) (c' : Cursor) : Type 0 where
  pub cur : c' ≡ bind_cur c
  pub long : length w' ≡ length w
  pub old : (i : ℕ) → i < c.vars → entry w' i ≡ entry w i
  pub rows : (i : ℕ) → bindings_most ≤ i → i < entries_most → entry w' i ≡ entry w i
  pub stack : (i : ℕ) → stack_at ≤ i → get_or w' i 0 ≡ get_or w i 0

abbrev pub BindsIf : Cursor → List ℕ → List ℕ → Parsed → Type 0
BindsIf c w w' (Done c' v) = CursorBinds c w w' c'
BindsIf c w w' (Refused e) = Unit {0}

pub record Assigns (s : List ℕ) (n : Name) (v : Opnd) (c : Cursor) (w w' : List ℕ) (r : Parsed) : Type 0 where
  pub is : (m : List ℕ) → outcome s m w' (parsed_of r) ≡ assigns (name_in s n) (opnd_of v) (parser_of s m w c)
  pub ok : BindsIf c w w' r

-- an argument waits behind those that do
pub record Stacks (v : Opnd) (c : Cursor) (w w' : List ℕ) (r : Cursor) : Type 0 where
  pub cur : r ≡ stack_cur (c.args + 1) c
  pub puts : Puts (stack_at + 2 * c.args) (v ∷ []) w w'

-- ---- the same of scratch memory and a number, for every cursor that has the number

abbrev pub StacksAt : ℕ → Opnd → List ℕ → List ℕ → ℕ → Type 0
StacksAt n v w w' k = (c : Cursor) → c.args ≡ n → Stacks v c w w' (stack_cur k c)

abbrev pub bound_to : Cursor → Opnd → Result (Unit {0}) Refusal → Parsed
bound_to c v (Ok u) = Done (bind_cur c) v
bound_to c v (Err e) = Refused (number_of e)

abbrev pub AssignsAt : List ℕ → Name → Opnd → ℕ → List ℕ → List ℕ → Result (Unit {0}) Refusal → Type 0
AssignsAt s n v k w w' r = (c : Cursor) → c.vars ≡ k → Assigns s n v c w w' (bound_to c v r)

-- ---- what a name means, for every cursor with the class, the counts and so many variables

abbrev pub parsed_at : Cursor → Result Opnd Refusal → Parsed
parsed_at c (Ok v) = Done c v
parsed_at c (Err e) = Refused (number_of e)

abbrev pub MeansAt : Name → Option ClassId → ℕ → List ℕ → List ℕ → Counts → List ℕ → Result Opnd Refusal → Type 0
MeansAt n x v s m k w r =
    (c : Cursor) → c.class ≡ x → c.vars ≡ v → c.counts ≡ k → In s m w c → CursorDid (means (name_in s n)) 0 s m w c m w (parsed_of (parsed_at c r))

-- ---- what a block of a draft gets, for every cursor with that block and the draft's counts, whatever scratch memory holds

abbrev pub AddsAt : BlockId → (List ℕ → Reads P.Opnd) → Draft → Draft → Result Opnd Refusal → Type 0
AddsAt b f d d' r =
    (s w : List ℕ) (c : Cursor) → c.block ≡ b → c.counts ≡ d.counts → CursorAdds s w (f s) d.words.now c d'.words.now (parsed_of (parsed_at (count_cur d'.counts c) r))

-- the same of a send, which reads the script
abbrev pub SendsAt : List ℕ → BlockId → Reads P.Opnd → Draft → Draft → Result Opnd Refusal → Type 0
SendsAt s b f d d' r =
    (w : List ℕ) (c : Cursor) → c.block ≡ b → c.counts ≡ d.counts → In s d.words.now w c
    → CursorDid f 0 s d.words.now w c d'.words.now w (parsed_of (parsed_at (count_cur d'.counts c) r))
