-- What the loops of the readers keep, over parsers. Assumes nothing.
use mathlib.Core.Bool.{Bool, true, false}
use mathlib.Core.Path.{◌≡◌, refl}
use mathlib.Core.List.{List}
use Prim.Native.Nat.{ℕ, ◌*◌, ◌<◌}
use Rattle.std.specs.Prelude.{Option, Result, Ok, Err}
use Rattle.refusals.specs.declared.Refusal.{Refusal}
use Rattle.rules.specs.Actions.{Turn}
use Rattle.rules.specs.Program as P
use Rattle.rules.specs.Reading.{Reads, parse_expr}
use Rattle.lexer.specs.declared.Token.TheVariants as T
use Rattle.lexer.specs.declared.Word.{Word}
use Rattle.cursor.specs.Cursor.{Cursor, In}
use Rattle.cursor.specs.Promises.{CursorDid, Sees, CursorMatches, Stacks, parsed_of}
use Rattle.cursor.specs.outcomes.Parsed.{Parsed, Done}
use Rattle.cursor.proofs.Kept.{After}
use Rattle.expressions.specs.outcomes.ArgTurn.{ArgTurn}
use Rattle.expressions.specs.outcomes.Args.{Args}
use Rattle.expressions.specs.Readers.{ArgDid, ArgsDid, SuffixDid, arg_in, args_in, suffix_in, ParserArg, ParserArgs, ParserSuffix}
use Rattle.program.specs.View.{limits_of}
use Rattle.program.specs.declared.Opnd.{Opnd}
use Rattle.cursor.specs.Parsers.{cursor_of, matched_in, ParserKept}
use Rattle.cursor.specs.declared.Parser.{Parser}
use Rattle.expressions.proofs.Turns.{ArgsInv, SuffixInv, arg_more, arg_last, arg_no2}

-- arguments were read from p on, up to q
pub record ArgsStand (depth : ℕ) (p q : Parser) : Type 0 where
  pub kept : ParserKept p q
  pub inv : ArgsInv (limits_of p.program.limits) p.script.now (parse_expr (limits_of p.program.limits) p.script.now depth)
      p.program.words.now p.scratch.now (cursor_of p) q.program.words.now q.scratch.now (cursor_of q)

-- what follows the operand v was read from p on, up to q, and came to w
pub record SuffixStand (prec depth : ℕ) (p : Parser) (v : Opnd) (q : Parser) (w : Opnd) : Type 0 where
  pub kept : ParserKept p q
  pub inv : SuffixInv (limits_of p.program.limits) p.script.now (parse_expr (limits_of p.program.limits) p.script.now depth) prec
      p.program.words.now p.scratch.now (cursor_of p) v q.program.words.now q.scratch.now (cursor_of q) w

-- ---- the ends of the readers, and what a later parser did in the words of an earlier one

arg_moved : {L : P.Limits} {s : List ℕ} {E : ℕ → Reads P.Opnd} {m w : List ℕ} {c : Cursor} {m1 w1 m2 w2 : List ℕ} {r : ArgTurn} → m2 ≡ m1 → w2 ≡ w1
    → ArgDid L s E m w c m1 w1 r → ArgDid L s E m w c m2 w2 r
arg_moved e f d = rw (e, f) d

args_moved : {f : Reads (List P.Opnd)} {s m w : List ℕ} {c : Cursor} {m1 w1 m2 w2 : List ℕ} {r : Args} → m2 ≡ m1 → w2 ≡ w1 → ArgsDid f s m w c m1 w1 r → ArgsDid f s m w c m2 w2 r
args_moved e f d = rw (e, f) d

module _ {p p1 : Parser} {m w : List ℕ} (a : After p p1 m w) where
  pub finish_arg : {E : P.Limits → List ℕ → ℕ → Reads P.Opnd} {r : Result Bool Refusal}
      → ArgDid (limits_of p.program.limits) p.script.now (E (limits_of p.program.limits) p.script.now) p.program.words.now p.scratch.now (cursor_of p) m w (arg_in p1 r)
      → ParserArg E p p1 r
  finish_arg d = record { kept = a.kept; did = arg_moved a.words a.scratch d }

  pub finish_args : {f : P.Limits → List ℕ → Reads (List P.Opnd)} {r : Result ℕ Refusal}
      → ArgsDid (f (limits_of p.program.limits) p.script.now) p.script.now p.program.words.now p.scratch.now (cursor_of p) m w (args_in p1 r) → ParserArgs f p p1 r
  finish_args d = record { kept = a.kept; did = args_moved a.words a.scratch d }

  pub arg_at : {E : P.Limits → List ℕ → ℕ → Reads P.Opnd} {p2 : Parser} {r : Result Bool Refusal} → ParserArg E p1 p2 r
      → ArgDid (limits_of p.program.limits) p.script.now (E (limits_of p.program.limits) p.script.now) m w (cursor_of p1) p2.program.words.now p2.scratch.now (arg_in p2 r)
  arg_at d = rw (a.kept.limits, a.kept.script, a.words, a.scratch) at d.did

  pub suffix_at : {f : P.Limits → List ℕ → Reads (Turn P.Opnd P.Opnd)} {v : Opnd} {p2 : Parser} {r : Result (Option Opnd) Refusal} → ParserSuffix f v p1 p2 r
      → SuffixDid (f (limits_of p.program.limits) p.script.now) v p.script.now m w (cursor_of p1) p2.program.words.now p2.scratch.now (suffix_in p2 r)
  suffix_at d = rw (a.kept.limits, a.kept.script, a.words, a.scratch) at d.did

-- an argument, by the word behind it
pub arg_turn : (L : P.Limits) (s : List ℕ) (E : ℕ → Reads P.Opnd) {m w : List ℕ} {c : Cursor} {x : Word} (see : Sees s c (Ok x)) (h : In s m w c)
    (g : x.token ≡ T.Sign 41 → ⊥) {m1 w1 : List ℕ} (p : Parsed) (d : CursorDid (E 0) 1 s m w c m1 w1 (parsed_of p)) (low : 2 * c.args < c.at) {c1 : Cursor} {v : Opnd}
    (f : p ≡ Done c1 v) {w2 : List ℕ} (p2 p3 : Parser) (st : Stacks v c1 w1 w2 (cursor_of p2)) (r : Result Bool Refusal)
    (y : CursorMatches s (T.Sign 44) (cursor_of p2) (matched_in p3 r)) (stays : r ≡ Ok false → p3 ≡ p2) → ArgDid L s E m w c m1 w2 (arg_in p3 r)
arg_turn L s E see h g p d low f p2 p3 st (Ok true) y z = arg_more L s E see refl h g {p = p} d low f st y refl
arg_turn L s E see h g p d low f p2 p3 st (Ok false) y z = rw (z refl) (arg_last L s E see refl h g {p = p} d low f st y refl)
arg_turn L s E see h g p d low f p2 p3 st (Err e) y z = arg_no2 L s E see refl h g {p = p} d low f st y refl
