-- The ways through the readers of the top level and of the whole script, over a parser. Assumes nothing.
use mathlib.Core.Bool.{Bool, true, false}
use mathlib.Core.Path.{◌≡◌, refl, sym, ap, ◌∙◌}
use mathlib.Core.List.{List}
use Prim.Native.Nat.{ℕ, ◌≤◌}
use lib.ListN.{length}
use Rattle.std.specs.Prelude.{Result, Ok, Err, MatchResult, IsOkAnd}
use Rattle.ids.specs.declared.FunId.{FunId}
use Rattle.refusals.specs.declared.Refusal.{Refusal}
use Rattle.refusals.specs.declared.Refusal.TheVariants as Q
use Rattle.rules.specs.Actions.{loop}
use Rattle.rules.specs.Reading.{turns, parse_top, parse_class}
use Rattle.program.specs.View.{Starts, limits_of}
use Rattle.program.specs.declared.Counts.{Counts}
use Rattle.program.specs.declared.bounds.Limits.{Limits}
use Rattle.memory.specs.Layout.{script_most}
use Rattle.functions.specs.Bodies.{Takes}
use Rattle.parser.specs.Outcomes.{start_cur, ReadsWithin}
use Rattle.lexer.specs.declared.Token.TheVariants as K
use Rattle.lexer.specs.declared.Word.{Word}
use Rattle.cursor.specs.Promises.{Sees, moved_of}
use Rattle.cursor.specs.Parsers.{cursor_of, placed, moved_in}
use Rattle.cursor.specs.declared.Parser.{Parser}
use Rattle.cursor.proofs.Kept.{kept_none, kept_trans, kept_placed}
use Rattle.functions.specs.params.Parsers.{fun_in}
use Rattle.functions.specs.Parsers.{Resting, through, ParserTakes, ParserTaken}
use Rattle.parser.specs.classes.Turning.{ParserTurns}
use Rattle.parser.proofs.Tops as T

def_apart : K.Def ≡ K.EndOfText → ⊥
def_apart e = cc

class_apart : (K.Class ≡ K.EndOfText → ⊥) × (K.Class ≡ K.Def → ⊥)
class_apart = (λ e. cc, λ e. cc)

module _ (p : Parser) (g : Resting p) {r : Result Word Refusal} (v : Sees p.script.now (cursor_of p) r) where
  abbrev Top : Parser → Result Bool Refusal → Type 0
  Top p' t = ParserTurns (λ L s. parse_top L s tt) p p' t

  pub top_none : {e : Refusal} → r ≡ Err e → Top p (Err e)
  top_none f = record { kept = kept_none p; turns = T.top_none p.program.limits g v f }

  module _ {x : Word} (f : r ≡ Ok x) where
    pub top_ends : x.token ≡ K.EndOfText → Top (placed x.next p) (Ok false)
    top_ends z = record { kept = kept_placed refl; turns = T.top_ends p.program.limits g v f refl z }

    module _ (z : x.token ≡ K.Def) {p1 : Parser} {y : Result FunId Refusal} (b : ParserTaken (placed x.next p) p1 y) where
      pub top_def_no : {e : Refusal} → y ≡ Err e → Top p1 (Err e)
      top_def_no i = record { kept = kept_trans (kept_placed refl) b.kept; turns = T.top_def_no p.program.limits g v f refl (λ e. def_apart (sym z ∙ e)) z b.taken (ap (fun_in p1) i) }

      pub top_def : {k : FunId} → y ≡ Ok k → Top p1 (Ok true)
      top_def i = record { kept = kept_trans (kept_placed refl) b.kept; turns = T.top_def p.program.limits g v f refl (λ e. def_apart (sym z ∙ e)) z b.taken (ap (fun_in p1) i) }

    module _ (z : x.token ≡ K.Class) {p1 : Parser} (y : Result (Unit {0}) Refusal) (b : ParserTakes (λ L s. parse_class L s) 1 (placed x.next p) p1 (through p1 y)) where
      n0 : x.token ≡ K.EndOfText → ⊥
      n0 e = class_apart.0 (sym z ∙ e)

      n3 : x.token ≡ K.Def → ⊥
      n3 e = class_apart.1 (sym z ∙ e)

      pub top_class_no : {e : Refusal} → y ≡ Err e → Top p1 (Err e)
      top_class_no i = record { kept = kept_trans (kept_placed refl) b.kept; turns = T.top_class_no p.program.limits g v f refl n0 n3 z {y = moved_in p1 y} b.takes (ap (moved_in p1) i) }

      pub top_class : y ≡ Ok tt → Top p1 (Ok true)
      top_class i = record { kept = kept_trans (kept_placed refl) b.kept; turns = T.top_class p.program.limits g v f refl n0 n3 z {y = moved_in p1 y} b.takes (ap (moved_in p1) i) }

    pub top_other : (x.token ≡ K.EndOfText → ⊥) → (x.token ≡ K.Def → ⊥) → (x.token ≡ K.Class → ⊥) → Top (placed x.next p) (Err Q.UnexpectedWord)
    top_other n0 n3 n4 = record { kept = kept_placed refl; turns = T.top_other p.program.limits g v f refl n0 n3 n4 }

-- ---- read_within

module _ (p : Parser) (l : Limits) (s : List ℕ) (ss : p.script.now ≡ s) (ls : p.program.limits ≡ l) (h : length s ≤ l.script) (k : l.script ≤ script_most)
    (a : Starts p.program.words.now p.program.counts) (e : cursor_of p ≡ start_cur p.program.counts) where
  module _ {p1 : Parser} (y : Result (Unit {0}) Refusal) (b : ParserTakes (λ L s. loop (parse_top L s) (turns s) tt) 0 p p1 (through p1 y)) where
    taken : Takes (loop (parse_top (limits_of l) s) (turns s) tt) 0 s p.program.words.now p.scratch.now (cursor_of p)
        p1.program.words.now p1.scratch.now (moved_of (moved_in p1 y))
    taken = rw (ls, ss) at b.takes

    read_no : {n : Refusal} → y ≡ Err n → ReadsWithin l s p1.program.words.now (Err n)
    read_no i = T.read_no l s h k p.scratch.now a e {y = moved_in p1 y} taken (ap (moved_in p1) i)

    read_yes : y ≡ Ok tt → ReadsWithin l s p1.program.words.now (Ok p1.program.counts)
    read_yes i = T.read-yes l s h k p.scratch.now a e {y = moved_in p1 y} taken (ap (moved_in p1) i)

    -- the outcome with the counts in place of nothing, as `map` gives it
    pub read_all : {R : Unit {0} → Counts → Type 0} (r : Result Counts Refusal) → MatchResult y (λ x. IsOkAnd r (R x)) (λ e. r ≡ Err e)
        → ((x : Unit {0}) (d : Counts) → R x d → d ≡ p1.program.counts) → ReadsWithin l s p1.program.words.now r
    read_all {R} r f g = go y refl f r refl
      where
        go : (z : Result (Unit {0}) Refusal) → y ≡ z → MatchResult z (λ x. IsOkAnd r (R x)) (λ e. r ≡ Err e) → (q : Result Counts Refusal) → r ≡ q → ReadsWithin l s p1.program.words.now r
        go (Ok x) i h (Ok d) j = let k : IsOkAnd {E = Refusal} (Ok d) (R x) = rw j at h in rw (j, g x d k) (read_yes i)
        go (Ok x) i h (Err e) j = let k : IsOkAnd {E = Refusal} (Err e) (R x) = rw j at h in absurd k
        go (Err e) i h q j = rw h (read_no i)
