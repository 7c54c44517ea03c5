-- The ways through the readers of the cycle, over a parser. Assumes nothing.
use mathlib.Core.Bool.{Bool as 𝔹, true}
use mathlib.Core.List.{List}
use mathlib.Core.Path.{◌≡◌, refl, ap}
use Prim.Native.Nat.{ℕ, ◌+◌, ◌-◌, ◌≤◌, ◌<◌}
use native.Mathlib.Omega.{arith}
use Rattle.std.specs.Prelude.{Option, Some, None, Result, Ok, Err}
use Rattle.ids.specs.declared.BlockId.{BlockId}
use Rattle.refusals.specs.declared.Refusal.{Refusal}
use Rattle.rules.specs.Actions.{give}
use Rattle.rules.specs.Program as P
use Rattle.rules.specs.Reading.{expect, phi, end_block, parse_expr, parse_statements, parse_statement, parse_if}
use Rattle.lexer.specs.declared.Token.TheVariants as T
use Rattle.lexer.specs.declared.Word.{Word}
use Rattle.variables.specs.Layout.{entries_most}
use Rattle.variables.specs.Memory.{vars, row}
use Rattle.variables.specs.Promises.{Leaves}
use Rattle.variables.specs.Scopes.{Sorted}
use Rattle.program.specs.Rows.{opnd_of}
use Rattle.kinds.specs.declared.Kind.TheVariants.{Nil}
use Rattle.program.specs.declared.Given.TheVariants.{Zero, One}
use Rattle.phis.specs.Joining.{Phis}
use Rattle.program.specs.Drafts.{DraftKept}
use Rattle.program.specs.declared.writer.Draft.{Draft}
use Rattle.program.specs.declared.Op.TheVariants.{Jump, IfTrue}
use Rattle.program.specs.declared.Opnd.{Opnd}
use Rattle.program.specs.declared.Opnd.TheVariants.{Const}
use Rattle.cursor.specs.Cursor.{Cursor, parser_of}
use Rattle.cursor.specs.Promises.{Out, CursorDid, Sees, parsed_of, moved_of}
use Rattle.cursor.specs.Parsers.{cursor_of, Reading, ParserKept, ParserMatches, ParserDid, operand, parsed_in, moved_in, matched_in}
use Rattle.cursor.specs.declared.Parser.{Parser}
use Rattle.cursor.specs.outcomes.Matched as M
use Rattle.cursor.proofs.Laws.{refuses, arrives, in_counted}
use Rattle.cursor.proofs.Kept.{After, after_none, after_placed, after_kept, after_adds, did_of, reading_of, finish}
use Rattle.expressions.proofs.Readers.{first, adds}
use Rattle.statements.specs.Acts.{stops_at, parse_arm, join_value, finish_if, parse_else}
use Rattle.statements.specs.Shape.{block_cur, vars_cur, before_of, opened_in, stops_in, Halts, StatementInside, OpensElse, JoinsArms, Arm, Within}
use Rattle.statements.specs.Shape.{ParserOpens, ParserAddsEnd, ParserEndsBlock, ParserDidFrom, ParserOpensElse, ParserJoinsArms, ParserFinishesElse}
use Rattle.statements.specs.outcomes.Opened as O
use Rattle.statements.specs.declared.Before.{Before}
use Rattle.statements.specs.declared.Branch.{Branch}
use Rattle.statements.proofs.Cycle as C
use Rattle.statements.proofs.Paths as W
use Rattle.statements.proofs.Paths.{place_block, place_vars, place_aside}
use Rattle.statements.proofs.Standing.{StatementsStand, draft_kept, adds_of, opens_of, else_of, joins_of, finishes_of, from_of, halts_of, after_block, finish_from, finish_opens}
use Rattle.program.specs.View as View

-- ---- parse_block

pub as_arm : (d : ℕ) (j : BlockId) {p p1 : Parser} {o : Out P.Opnd}
    → ParserDid (λ L s. first (parse_statements L s (stops_at true) (parse_statement L s d)) (λ v. first (end_block L s (P.Jump j.0)) (λ u. give v))) 0 p p1 o
    → ParserDid (λ L s. parse_arm L s (parse_statement L s d) j.0) 0 p p1 o
unfolding first parse_arm
as_arm d j a = record { kept = a.kept; did = record { is = a.did.is; ok = a.did.ok } }

pub jumped : (j : BlockId) {p p1 : Parser} {x : Result (Unit {0}) Refusal} → ParserEndsBlock (Jump j) Zero p p1 x → Reading p
    → ParserDid (λ L s. end_block L s (P.Jump j.0)) 0 p p1 (moved_of (moved_in p1 x))
jumped j {p = p} b h = adds b.kept (b.ends.adds p.script.now p.scratch.now (P.Jump j.0) refl) h

-- ---- join_value

module _ (left : BlockId) (v : Opnd) (right : BlockId) (y : Opnd) where
  pub as_value : {p p1 : Parser} {o : Out P.Opnd} → ParserDid (λ L s. first (expect s "end") (λ u. phi L left.0 (opnd_of v) right.0 (opnd_of y))) 1 p p1 o
      → ParserDid (λ L s. join_value L s left.0 (opnd_of v) right.0 (opnd_of y)) 1 p p1 o
  unfolding first join_value
  as_value a = record { kept = a.kept; did = record { is = a.did.is; ok = a.did.ok } }

  pub phis_did : (p : Parser) (d : Draft) (z : Result Opnd Refusal) → DraftKept p.program d
      → Phis p.program.limits (record { at = p.block; left = left; right = right }) v y p.program.words.now p.program.counts d.words.now d.counts z → Reading p
      → ParserDid (λ L s. phi L left.0 (opnd_of v) right.0 (opnd_of y)) 0 p (record p { program = d }) (operand (record p { program = d }) z)
  unfolding parser_of
  phis_did p d (Ok u) k g h =
      let ok = g.ready in
      let n = in_counted h d.counts ok.0 ok.1.functions ok.1.classes (omega (arith, ok.1.blocks)) in
      record { kept = (draft_kept p d k).kept; did = arrives n.1 (omega arith) n.0 (g.is p.script.now (parser_of p.script.now p.program.words.now p.scratch.now (cursor_of p)) refl) }
  phis_did p d (Err e) k g h =
      record { kept = (draft_kept p d k).kept; did = refuses (g.is p.script.now (parser_of p.script.now p.program.words.now p.scratch.now (cursor_of p)) refl) }

-- ---- parse_else

module _ (p : Parser) (q : Branch) (d : ℕ) (h : Reading p) {c₀ : Cursor} (a : Arm c₀ (cursor_of p) q) {p1 : Parser} {u : Result 𝔹 Refusal} (m : ParserMatches T.Else p p1 u) where
  abbrev Rest : Parser → Result Opnd Refusal → Type 0
  Rest p' r =
      ParserDidFrom (λ L s. parse_else L s (parse_statement L s d) c₀.block.0 (vars s p.scratch.now c₀.vars) (opnd_of q.cond) q.first.0 q.join.0 q.last.0 (opnd_of q.value)) 1
      c₀ p p' (operand p' r)

  c1 : After p p1 p.program.words.now p.scratch.now
  c1 = after_placed (after_none p) m.same

  pub else_none : {e : Refusal} → u ≡ Err e → Rest p1 (Err e)
  else_none f = finish_from c1 (C.else_none p.program.limits d q h a m.matches (ap (matched_in p1) f))

  module _ (f : u ≡ Ok true) where
    met : matched_in p1 u ≡ M.Yes (cursor_of p1)
    met = ap (matched_in p1) f

    module _ {p2 : Parser} {x : Result BlockId Refusal} (k : ParserKept p1 p2) (o : (c : Cursor) → Arm c (cursor_of p1) q → ParserOpensElse c q p1 p2 x) where
      c2 : After p p2 p2.program.words.now p2.scratch.now
      c2 = after_kept c1 k

      opened : OpensElse p.program.limits p.script.now p.program.words.now p.scratch.now c₀ (cursor_of p1) q p2.program.words.now p2.scratch.now (opened_in p2 x)
      opened = else_of c1 (o c₀ (C.else_arm p.program.limits d q h a m.matches met))

      pub else_no : {e : Refusal} → x ≡ Err e → Rest p2 (Err e)
      else_no i = finish_from c2 (C.else_no p.program.limits d q h a m.matches met opened (ap (opened_in p2) i))

      module _ {b : BlockId} (i : x ≡ Ok b) where
        pub else_reads : Reading p2
        else_reads = reading_of c2 (C.else_in2 p.program.limits d q h a m.matches met opened (ap (opened_in p2) i))

        module _ {p3 : Parser} (v : Result Opnd Refusal) (r : ParserDid (λ L s. parse_arm L s (parse_statement L s d) q.join.0) 0 p2 p3 (operand p3 v)) where
          c3 : After p p3 p3.program.words.now p3.scratch.now
          c3 = after_kept c2 r.kept

          arm_did : CursorDid (parse_arm (View.limits_of p.program.limits) p.script.now (parse_statement (View.limits_of p.program.limits) p.script.now d) q.join.0) 0
              p.script.now p2.program.words.now p2.scratch.now (cursor_of p2) p3.program.words.now p3.scratch.now (parsed_of (parsed_in p3 v))
          arm_did = did_of c2 r

          pub else_no2 : {e : Refusal} → v ≡ Err e → Rest p3 (Err e)
          else_no2 j = finish_from c3 (C.else_no2 p.program.limits d q h a m.matches met opened (ap (opened_in p2) i) {p = parsed_in p3 v} arm_did (ap (parsed_in p3) j))

          module _ {y : Opnd} (j : v ≡ Ok y) where
            pub else_inside : StatementInside c₀ (cursor_of p3)
            else_inside = C.else_inside p.program.limits d q h a m.matches met opened (ap (opened_in p2) i) {p = parsed_in p3 v} arm_did (ap (parsed_in p3) j)

            pub else_join : q.join.0 < p3.program.counts.blocks
            else_join = C.else_join p.program.limits d q h a m.matches met opened (ap (opened_in p2) i) {p = parsed_in p3 v} arm_did (ap (parsed_in p3) j)

            pub else_sorted : Sorted (row p3.script.now p3.scratch.now q.before.aside (p3.aside - q.before.aside))
            else_sorted =
                rw (c3.kept.script, place_aside c₀ a.place)
                (C.else_sorted p.program.limits d q h a m.matches met opened (ap (opened_in p2) i) {p = parsed_in p3 v} arm_did (ap (parsed_in p3) j))

            pub else_yes : {p4 : Parser} (t : Result Opnd Refusal) → ParserKept p3 p4
                → ((c : Cursor) → q.before ≡ before_of c → StatementInside c (cursor_of p3) → ParserFinishesElse c q b y p3 p4 t)
                → Rest p4 t
            else_yes {p4} t l n =
                finish_from (after_kept c3 l)
                (C.else_yes p.program.limits d q h a m.matches met opened (ap (opened_in p2) i) {p = parsed_in p3 v} arm_did (ap (parsed_in p3) j) {o = parsed_in p4 t}
                (finishes_of c3 (n c₀ a.place else_inside)))

-- ---- parse_if

module _ (p : Parser) (d : ℕ) {p1 : Parser} (u : Result Opnd Refusal) (a : ParserDid (λ L s. parse_expr L s d 0) 1 p p1 (operand p1 u)) where
  abbrev If : Parser → Result Opnd Refusal → Type 0
  If p' r = ParserDid (λ L s. parse_if L s (parse_expr L s d) (parse_statement L s d)) 1 p p' (operand p' r)

  d1 : After p p1 p1.program.words.now p1.scratch.now
  d1 = after_kept (after_none p) a.kept

  pub if_no : {e : Refusal} → u ≡ Err e → If p1 (Err e)
  if_no f = finish d1 (C.if_no p.program.limits d {p = parsed_in p1 u} a.did (ap (parsed_in p1) f))

  module _ {cond : Opnd} (e : u ≡ Ok cond) {p2 : Parser} {x : Result BlockId Refusal} (b : ParserOpens p1 p2 x) where
    d2 : After p p2 p2.program.words.now p1.scratch.now
    d2 = after_adds d1 b.kept

    pub if_no2 : {k : Refusal} → x ≡ Err k → If p2 (Err k)
    if_no2 f = finish d2 (C.if_no2 p.program.limits d {p = parsed_in p1 u} a.did (ap (parsed_in p1) e) (opens_of d1 b) (ap (opened_in p2) f))

    module _ {first : BlockId} (f : x ≡ Ok first) {p3 : Parser} {y : Result BlockId Refusal} (g : ParserOpens p2 p3 y) where
      d3 : After p p3 p3.program.words.now p1.scratch.now
      d3 = after_adds d2 g.kept

      pub if_no3 : {k : Refusal} → y ≡ Err k → If p3 (Err k)
      if_no3 i =
          finish d3
          (C.if_no3 p.program.limits d {p = parsed_in p1 u} a.did (ap (parsed_in p1) e) (opens_of d1 b) (ap (opened_in p2) f) (opens_of d2 g) (ap (opened_in p3) i))

      module _ {join : BlockId} (i : y ≡ Ok join) where
        -- the parser as the then arm begins
        abbrev then_at : Parser
        then_at = record p3 { block = first }

        d4 : After p then_at p3.program.words.now p1.scratch.now
        d4 = after_block d3 first

        module _ {p4 : Parser} (v : Result Opnd Refusal) (r : ParserDid (λ L s. parse_arm L s (parse_statement L s d) join.0) 0 then_at p4 (operand p4 v)) where
          d5 : After p p4 p4.program.words.now p4.scratch.now
          d5 = after_kept d4 r.kept

          then_did : CursorDid (parse_arm (View.limits_of p.program.limits) p.script.now (parse_statement (View.limits_of p.program.limits) p.script.now d) join.0) 0
              p.script.now p3.program.words.now p1.scratch.now (cursor_of then_at) p4.program.words.now p4.scratch.now (parsed_of (parsed_in p4 v))
          then_did = did_of d4 r

          pub if_no4 : {k : Refusal} → v ≡ Err k → If p4 (Err k)
          if_no4 z =
              finish d5
              (C.if_no4 p.program.limits d {p = parsed_in p1 u} a.did (ap (parsed_in p1) e) (opens_of d1 b) (ap (opened_in p2) f) (opens_of d2 g) (ap (opened_in p3) i) refl
              {o = parsed_in p4 v} then_did (ap (parsed_in p4) z))

          module _ {value : Opnd} (z : v ≡ Ok value) where
            pub if_rests : Reading p4
            if_rests =
                reading_of d5
                (C.if_in4 p.program.limits d {p = parsed_in p1 u} a.did (ap (parsed_in p1) e) (opens_of d1 b) (ap (opened_in p2) f) (opens_of d2 g) (ap (opened_in p3) i) refl
                {o = parsed_in p4 v} then_did (ap (parsed_in p4) z))

            abbrev kept_if : Branch
            kept_if = record { before = before_of (cursor_of p1); cond = cond; first = first; join = join; last = p4.block; value = value }

            pub if_arm : Arm (cursor_of p1) (cursor_of p4) kept_if
            if_arm =
                C.if_arm p.program.limits d {p = parsed_in p1 u} a.did (ap (parsed_in p1) e) (opens_of d1 b) (ap (opened_in p2) f) (opens_of d2 g) (ap (opened_in p3) i) refl
                {o = parsed_in p4 v} then_did (ap (parsed_in p4) z) refl refl

            pub if_yes : {p5 : Parser} (t : Result Opnd Refusal) → ParserKept p4 p5
                → ((c : Cursor) → Arm c (cursor_of p4) kept_if
                → ParserDidFrom (λ L s. parse_else L s (parse_statement L s d) c.block.0 (vars s p4.scratch.now c.vars) (opnd_of cond) first.0 join.0 p4.block.0 (opnd_of value)) 1
                c p4 p5 (operand p5 t))
                → If p5 t
            if_yes t l n =
                finish (after_kept d5 l)
                (C.if_yes p.program.limits d {p = parsed_in p1 u} a.did (ap (parsed_in p1) e) (opens_of d1 b) (ap (opened_in p2) f) (opens_of d2 g) (ap (opened_in p3) i) refl
                {o = parsed_in p4 v} then_did (ap (parsed_in p4) z) (from_of d5 (n (cursor_of p1) if_arm)))

-- ---- parse_statements

module _ {arm : 𝔹} {d : ℕ} {p q : Parser} {v : Opnd} (i : StatementsStand arm d p q v) where
  abbrev All : Parser → Result Opnd Refusal → Type 0
  All p' r = ParserDid (λ L s. parse_statements L s (stops_at arm) (parse_statement L s d)) 0 p p' (operand p' r)

  e1 : After p q q.program.words.now q.scratch.now
  e1 = after_kept (after_none p) i.kept

  module _ {x : Result (Option Word) Refusal} (h : Halts q.script.now arm (cursor_of q) (stops_in x)) where
    pub going_none : {e : Refusal} → x ≡ Err e → All q (Err e)
    going_none f = finish e1 (C.going_none i.going (halts_of e1 h) (ap stops_in f))

    pub going_ends : x ≡ Ok None → All q (Ok v)
    going_ends f = finish e1 (C.going_ends i.going (halts_of e1 h) (ap stops_in f))

    module _ {y : Word} (f : x ≡ Ok (Some y)) where
      pub going_reads : Reading q × Sees q.script.now (cursor_of q) (Ok y)
      going_reads = (reading_of e1 i.going.here, h.next y (ap stops_in f))

      module _ {p1 : Parser} (u : Result Opnd Refusal) (r : ParserDid (λ L s. parse_statement L s d) 1 q p1 (operand p1 u)) where
        e2 : After p p1 p1.program.words.now p1.scratch.now
        e2 = after_kept e1 r.kept

        pub going_no : {e : Refusal} → u ≡ Err e → All p1 (Err e)
        going_no g = finish e2 (C.going_no i.going (halts_of e1 h) (ap stops_in f) {p = parsed_in p1 u} (did_of e1 r) (ap (parsed_in p1) g))

        module _ {v1 : Opnd} (g : u ≡ Ok v1) where
          pub going_on : StatementsStand arm d p p1 v1
          going_on = record { kept = e2.kept; going = C.going_on i.going (halts_of e1 h) (ap stops_in f) {p = parsed_in p1 u} (did_of e1 r) (ap (parsed_in p1) g) }

-- ---- open_else

module _ (p : Parser) (q : Branch) (h : Reading p) {c₀ : Cursor} (a : Arm c₀ (cursor_of p) q) {p1 : Parser} {x : Result BlockId Refusal} (o : ParserOpens p p1 x) where
  f1 : After p p1 p1.program.words.now p.scratch.now
  f1 = after_adds (after_none p) o.kept

  pub open_no : {e : Refusal} → x ≡ Err e → ParserOpensElse c₀ q p p1 (Err e)
  open_no f = finish_opens f1 (W.open_no p.program.limits q h a o.opens (ap (opened_in p1) f))

  module _ {b : BlockId} (f : x ≡ Ok b) {p2 : Parser} {y : Result (Unit {0}) Refusal} (g : ParserAddsEnd q.before.block (IfTrue q.first b) (One q.cond) p1 p2 y) where
    f2 : After p p2 p2.program.words.now p.scratch.now
    f2 = after_adds f1 g.kept

    pub open_no2 : {e : Refusal} → y ≡ Err e → ParserOpensElse c₀ q p p2 (Err e)
    open_no2 i = finish_opens f2 (W.open_no2 p.program.limits q h a o.opens (ap (opened_in p1) f) (adds_of f1 g) (ap (moved_in p2) i))

    module _ (i : y ≡ Ok tt) where
      pub open_old : q.before.vars ≤ p2.vars
      open_old = rw (place_vars c₀ a.place) (W.open_old p.program.limits q h a o.opens (ap (opened_in p1) f) (adds_of f1 g) (ap (moved_in p2) i))

      pub open_part : (q.before.vars + (p2.vars - q.before.vars) ≤ q.before.aside) × (q.before.aside + (p2.vars - q.before.vars) ≤ entries_most)
      open_part =
          rw (place_vars c₀ a.place, place_aside c₀ a.place)
          (W.open_part p.program.limits q h a o.opens (ap (opened_in p1) f) (adds_of f1 g) (ap (moved_in p2) i)).1

      pub open_yes : {n : ℕ} {w' : List ℕ} → Leaves p2.script.now q.before.vars (p2.vars - q.before.vars) q.before.aside p2.scratch.now w' n
          → OpensElse p.program.limits p.script.now p.program.words.now p.scratch.now c₀ (cursor_of p) q p2.program.words.now w'
          (O.On (block_cur b (vars_cur q.before.vars (q.before.aside + n) (cursor_of p2))) b)
      open_yes {n} v =
          W.open_yes p.program.limits q h a o.opens (ap (opened_in p1) f) (adds_of f1 g) (ap (moved_in p2) i)
          (rw (f2.kept.script, f2.scratch, place_vars c₀ a.place, place_aside c₀ a.place) at v)
          (ap (λ (z : Before). block_cur b (vars_cur z.vars (z.aside + n) (cursor_of p2))) a.place)

-- ---- finish_if

module _ (p : Parser) (q : Branch) (h : Reading p) {c₀ : Cursor} (a : Arm c₀ (cursor_of p) q) {p1 : Parser} {x : Result (Unit {0}) Refusal}
    (b : ParserAddsEnd q.before.block (IfTrue q.first q.join) (One q.cond) p p1 x) where
  abbrev Bare : Parser → Result Opnd Refusal → Type 0
  Bare p' r =
      ParserDidFrom (λ L s. finish_if L s c₀.block.0 (vars s p.scratch.now c₀.vars) (opnd_of q.cond) q.first.0 q.join.0 q.last.0 (opnd_of q.value) (vars s p.scratch.now p.vars)) 1
      c₀ p p' (operand p' r)

  g1 : After p p1 p1.program.words.now p.scratch.now
  g1 = after_adds (after_none p) b.kept

  pub bare_no : {e : Refusal} → x ≡ Err e → Bare p1 (Err e)
  bare_no f = finish_from g1 (W.bare_no p.program.limits q h a b.adds (ap (moved_in p1) f))

  module _ (f : x ≡ Ok tt) where
    pub bare_reads : Reading p1
    bare_reads = reading_of g1 (W.bare_in p.program.limits q h a b.adds (ap (moved_in p1) f))

    bare_inside : StatementInside c₀ (cursor_of p1)
    bare_inside = W.bare_inside p.program.limits q h a b.adds (ap (moved_in p1) f)

    pub bare_within : Within (cursor_of p1) q.before
    bare_within = record { from = c₀; place = a.place; inside = bare_inside }

    pub bare_join : q.join.0 < p1.program.counts.blocks
    bare_join = W.bare_join p.program.limits q h a b.adds (ap (moved_in p1) f)

    pub bare_sorted : Sorted (row p1.script.now p1.scratch.now q.before.aside (p1.aside - q.before.aside))
    bare_sorted = rw (g1.kept.script, g1.scratch, place_aside c₀ a.place) (W.bare_sorted p.program.limits q h a b.adds (ap (moved_in p1) f))

    module _ {p2 : Parser} {y : Result (Unit {0}) Refusal} (k : ParserKept p1 p2)
        (j : (c : Cursor) → q.before ≡ before_of c → StatementInside c (cursor_of p1) → ParserJoinsArms c (record { at = q.join; left = q.before.block; right = q.first }) p1 p2 y) where
      g2 : After p p2 p2.program.words.now p2.scratch.now
      g2 = after_kept g1 k

      joined : JoinsArms p.program.limits p.script.now p1.program.words.now p.scratch.now c₀ (cursor_of p1) (record { at = q.join; left = q.before.block; right = q.first })
          p2.program.words.now p2.scratch.now (moved_in p2 y)
      joined = joins_of g1 (j c₀ a.place bare_inside)

      pub bare_no2 : {e : Refusal} → y ≡ Err e → Bare p2 (Err e)
      bare_no2 i = finish_from g2 (W.bare_no2 p.program.limits q h a b.adds (ap (moved_in p1) f) joined (ap (moved_in p2) i))

      module _ (i : y ≡ Ok tt) where
        pub bare_rests : Reading p2
        bare_rests = reading_of g2 (W.bare_in2 p.program.limits q h a b.adds (ap (moved_in p1) f) joined (ap (moved_in p2) i))

        pub bare_yes : {p3 : Parser} (t : Result Opnd Refusal)
            → ParserDid (λ L s. join_value L s q.before.block.0 (opnd_of (Const Nil)) q.last.0 (opnd_of q.value)) 1 p2 p3 (operand p3 t)
            → Bare p3 t
        bare_yes t d =
            finish_from (after_kept g2 d.kept)
            (W.bare_yes p.program.limits q h a b.adds (ap (moved_in p1) f) joined (ap (moved_in p2) i) (rw (place_block c₀ a.place) at (did_of g2 d)))
