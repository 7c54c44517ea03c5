-- The ways through the readers of functions, over a parser. Assumes nothing.
use mathlib.Core.Path.{◌≡◌, refl, ap}
use mathlib.Core.Bool.{false}
use mathlib.Core.List.{List}
use Prim.Native.Nat.{ℕ}
use Rattle.std.specs.Prelude.{Result, Ok, Err, None}
use Rattle.ids.specs.declared.FunId.{FunId}
use Rattle.refusals.specs.declared.Refusal.{Refusal}
use Rattle.rules.specs.Program as P
use Rattle.rules.specs.Reading.{Reads, parse_statements, parse_statement, parse_fun}
use Rattle.lexer.specs.declared.Token.TheVariants as T
use Rattle.program.specs.View.{limits_of}
use Rattle.program.specs.declared.Given.TheVariants.{One}
use Rattle.program.specs.declared.Name.{Name}
use Rattle.program.specs.declared.Op.TheVariants.{Return}
use Rattle.program.specs.declared.Opnd.{Opnd}
use Rattle.cursor.specs.Promises.{Out, Expects, CursorDid, parsed_of}
use Rattle.cursor.specs.Parsers.{cursor_of, moved_in, ident_in, parsed_in, operand, ParserKept, ParserIdents, ParserExpects, ParserDid}
use Rattle.cursor.specs.declared.Parser.{Parser}
use Rattle.cursor.proofs.Kept.{After, kept_same, after_same, after_none, after_placed, after_kept, after_adds, after_scratch, expects_of, did_of}
use Rattle.statements.specs.Acts.{stops_at}
use Rattle.statements.specs.Shape.{EndsBlock, ParserEndsBlock}
use Rattle.functions.specs.params.Names.{names_in}
use Rattle.functions.specs.params.Promises.{PushesParams, Funs, Params, funned_of}
use Rattle.functions.specs.params.Parsers.{fun_in, ParserParams, ParserBinds, ParserSelf, ParserEnters}
use Rattle.functions.specs.Bodies.{body_of, Takes, Taken, KnownIf, Heads}
use Rattle.functions.specs.outcomes.OpenedFun.{OpenedFun}
use Rattle.cursor.specs.outcomes.Moved.{Moved}
use Rattle.functions.specs.Parsers.{HeadWaits, BodyWaits, Resting, through, ParserHeads, ParserTakes, ParserTaken}
use Rattle.functions.proofs.Laws as L
use Rattle.variables.specs.Layout.{bindings_most}

-- ---- a parser some steps after p, whose memories hold m and w

module _ {p p1 : Parser} {m w : List ℕ} (a : After p p1 m w) where
  pub takes_end : {A : Type 0} {f : P.Limits → List ℕ → Reads A} {k : ℕ} {o : Out A}
      → Takes (f (limits_of p.program.limits) p.script.now) k p.script.now p.program.words.now p.scratch.now (cursor_of p) m w o → ParserTakes f k p p1 o
  takes_end t = record { kept = a.kept; takes = rw (a.words, a.scratch) t }

  pub takes_of : {A : Type 0} {f : P.Limits → List ℕ → Reads A} {k : ℕ} {p2 : Parser} {o : Out A} → ParserTakes f k p1 p2 o
      → Takes (f (limits_of p.program.limits) p.script.now) k p.script.now m w (cursor_of p1) p2.program.words.now p2.scratch.now o
  takes_of t = rw (a.kept.limits, a.kept.script, a.words, a.scratch) at t.takes

  heads_at : {x : Moved} → Heads p.program.limits p.program.words.now p.scratch.now (cursor_of p) m w x
      → Heads p.program.limits p.program.words.now p.scratch.now (cursor_of p) p1.program.words.now p1.scratch.now x
  heads_at h = rw (a.words, a.scratch) h

  heads_end : (r : Result (Unit {0}) Refusal) → Heads p.program.limits p.program.words.now p.scratch.now (cursor_of p) m w (moved_in p1 r) → ParserHeads p p1 r
  heads_end r h = record { kept = a.kept; heads = heads_at h }

  taken_at : (x : OpenedFun) → Takes (parse_fun (limits_of p.program.limits) p.script.now) 1 p.script.now p.program.words.now p.scratch.now (cursor_of p) m w (funned_of x)
      → KnownIf x → Taken p.program.limits p.script.now p.program.words.now p.scratch.now (cursor_of p) p1.program.words.now p1.scratch.now x
  taken_at x t k = rw (a.words, a.scratch) (record { takes = t; known = k })

  taken_end : (r : Result FunId Refusal) → Takes (parse_fun (limits_of p.program.limits) p.script.now) 1 p.script.now p.program.words.now p.scratch.now (cursor_of p) m w (funned_of (fun_in p1 r))
      → KnownIf (fun_in p1 r) → ParserTaken p p1 r
  taken_end r t k = record { kept = a.kept; taken = taken_at (fun_in p1 r) t k }

-- ---- open_body

abbrev cleared : Parser → Parser
cleared p = record p { vars = 0; aside = bindings_most }

module _ (p : Parser) (g : HeadWaits p) {p1 : Parser} {x : Result (Unit {0}) Refusal} (a : ParserSelf (cleared p) p1 x) where
  kept1 : ParserKept p p1
  kept1 = let k = a.kept.kept in record { script = k.script; limits = k.limits; words_loan = k.words_loan; scratch_loan = k.scratch_loan; words_room = k.words_room; scratch_room = k.scratch_room }

  a1 : After p p1 p1.program.words.now p.scratch.now
  a1 = record { kept = kept1; words = refl; scratch = a.kept.scratch }

  pub heads_no : {e : Refusal} → x ≡ Err e → ParserHeads p p1 (Err e)
  heads_no f = heads_end a1 (Err _) (L.head_no p.program.limits (cursor_of p) g a.pushes (ap (moved_in p1) f))

  module _ (f : x ≡ Ok tt) where
    module _ {p2 : Parser} {y : Result (Unit {0}) Refusal} (b : ParserBinds p1 p2 y) where
      bs : PushesParams p.program.limits p1.program.words.now p.scratch.now (cursor_of p1) p2.program.words.now p2.scratch.now (moved_in p2 y)
      bs = rw (a1.kept.limits, a1.scratch) at b.pushes

      a2 : After p p2 p2.program.words.now p2.scratch.now
      a2 = after_kept a1 b.kept

      pub heads_no2 : {e : Refusal} → y ≡ Err e → ParserHeads p p2 (Err e)
      heads_no2 i = heads_end a2 (Err _) (L.head_no2 p.program.limits (cursor_of p) g a.pushes (ap (moved_in p1) f) bs (ap (moved_in p2) i))

      pub heads_yes : y ≡ Ok tt → ParserHeads p (record p2 { args = 0 }) (Ok tt)
      heads_yes i =
          record {
            kept = kept_same a2.kept refl refl refl;
            heads = L.head_yes p.program.limits (cursor_of p) g a.pushes (ap (moved_in p1) f) bs (ap (moved_in p2) i) refl;
          }

-- ---- parse_body

module _ (p : Parser) (g : BodyWaits p) where
  abbrev Body : Parser → Result (Unit {0}) Refusal → Type 0
  Body p' r = ParserTakes (λ L s. body_of L s (names_in s p.scratch.now p.args)) 1 p p' (through p' r)

  module _ {p1 : Parser} {x : Result (Unit {0}) Refusal} (a : ParserHeads p p1 x) where
    b1 : After p p1 p1.program.words.now p1.scratch.now
    b1 = after_kept (after_none p) a.kept

    pub body_no : {e : Refusal} → x ≡ Err e → Body p1 (Err e)
    body_no f = takes_end b1 (L.body_no g a.heads (ap (moved_in p1) f))

    module _ (f : x ≡ Ok tt) where
      module _ {p2 : Parser} (o : Result Opnd Refusal)
          (b : ParserDid (λ L s. parse_statements L s (stops_at false) (parse_statement L s p.program.limits.depth)) 0 p1 p2 (operand p2 o)) where
        stated : CursorDid (parse_statements (limits_of p.program.limits) p.script.now (stops_at false) (parse_statement (limits_of p.program.limits) p.script.now p.program.limits.depth)) 0
            p.script.now p1.program.words.now p1.scratch.now (cursor_of p1) p2.program.words.now p2.scratch.now (parsed_of (parsed_in p2 o))
        stated = did_of b1 b

        b2 : After p p2 p2.program.words.now p2.scratch.now
        b2 = after_kept b1 b.kept

        pub body_no2 : {e : Refusal} → o ≡ Err e → Body p2 (Err e)
        body_no2 i = takes_end b2 (L.body_no2 g a.heads (ap (moved_in p1) f) stated (ap (parsed_in p2) i))

        module _ {v : Opnd} (i : o ≡ Ok v) where
          module _ {p3 : Parser} {y : Result (Unit {0}) Refusal} (d : ParserEndsBlock Return (One v) p2 p3 y) where
            ends : EndsBlock p.program.limits Return (One v) p2.program.words.now (cursor_of p2) p3.program.words.now (moved_in p3 y)
            ends = rw b2.kept.limits at d.ends

            b3 : After p p3 p3.program.words.now p2.scratch.now
            b3 = after_adds b2 d.kept

            pub body_no3 : {e : Refusal} → y ≡ Err e → Body p3 (Err e)
            body_no3 j = takes_end b3 (L.body_no3 g a.heads (ap (moved_in p1) f) stated (ap (parsed_in p2) i) ends (ap (moved_in p3) j))

            module _ (j : y ≡ Ok tt) {p4 : Parser} {t : Result (Unit {0}) Refusal} (h : ParserExpects T.End p3 p4 t) where
              b4 : After p p4 p3.program.words.now p2.scratch.now
              b4 = after_placed b3 h.same

              shut : Expects p.script.now T.End (cursor_of p3) (moved_in p4 t)
              shut = expects_of b3 h

              pub body_no4 : {e : Refusal} → t ≡ Err e → Body p4 (Err e)
              body_no4 k = takes_end b4 (L.body_no4 g a.heads (ap (moved_in p1) f) stated (ap (parsed_in p2) i) ends (ap (moved_in p3) j) shut (ap (moved_in p4) k))

              b5 : After p (record p4 { receiver = None }) p3.program.words.now p2.scratch.now
              b5 = after_same b4 refl refl refl

              pub body_yes : t ≡ Ok tt → Body (record p4 { receiver = None }) (Ok tt)
              body_yes k = takes_end b5 (L.body_yes g a.heads (ap (moved_in p1) f) stated (ap (parsed_in p2) i) ends (ap (moved_in p3) j) shut (ap (moved_in p4) k) refl)

-- ---- parse_fun

module _ (p : Parser) (g : Resting p) {p1 : Parser} {u : Result Name Refusal} (a : ParserIdents p p1 u) where
  pub c1 : After p p1 p.program.words.now p.scratch.now
  c1 = after_placed (after_none p) a.same

  pub fun_no : {e : Refusal} → u ≡ Err e → ParserTaken p p1 (Err e)
  fun_no f = taken_end c1 (Err _) (L.fun_no p.program.limits g a.idents (ap (ident_in p1) f)) tt

  module _ {n : Name} (f : u ≡ Ok n) {p2 : Parser} {x : Result FunId Refusal} (b : ParserEnters n p1 p2 x) where
    entered : Funs p.program.limits n p.program.words.now (cursor_of p1) p2.program.words.now (fun_in p2 x)
    entered = rw (c1.kept.limits, c1.words) at b.funs

    c2 : After p p2 p2.program.words.now p.scratch.now
    c2 = after_adds c1 b.kept

    pub fun_no2 : {e : Refusal} → x ≡ Err e → ParserTaken p p2 (Err e)
    fun_no2 i = taken_end c2 (Err _) (L.fun_no2 p.program.limits g a.idents (ap (ident_in p1) f) entered (ap (fun_in p2) i)) tt

    module _ {k : FunId} (i : x ≡ Ok k) {p3 : Parser} {y : Result (Unit {0}) Refusal} (d : ParserExpects (T.Sign 40) p2 p3 y) where
      c3 : After p p3 p2.program.words.now p.scratch.now
      c3 = after_placed c2 d.same

      opened : Expects p.script.now (T.Sign 40) (cursor_of p2) (moved_in p3 y)
      opened = expects_of c2 d

      pub fun_no3 : {e : Refusal} → y ≡ Err e → ParserTaken p p3 (Err e)
      fun_no3 j = taken_end c3 (Err _) (L.fun_no3 p.program.limits g a.idents (ap (ident_in p1) f) entered (ap (fun_in p2) i) opened (ap (moved_in p3) j)) tt

      module _ (j : y ≡ Ok tt) where
        module _ {p4 : Parser} {t : Result (Unit {0}) Refusal} (q : ParserParams p3 p4 t) where
          named : Params p.script.now p.scratch.now (cursor_of p3) p4.scratch.now (moved_in p4 t)
          named = rw (c3.kept.script, c3.scratch) at q.named

          c4 : After p p4 p2.program.words.now p4.scratch.now
          c4 = after_scratch c3 q.kept q.program

          pub fun_no4 : {e : Refusal} → t ≡ Err e → ParserTaken p p4 (Err e)
          fun_no4 l = taken_end c4 (Err _) (L.fun_no4 p.program.limits g a.idents (ap (ident_in p1) f) entered (ap (fun_in p2) i) opened (ap (moved_in p3) j) named (ap (moved_in p4) l)) tt

          module _ (l : t ≡ Ok tt) {p5 : Parser} {v : Result (Unit {0}) Refusal} (r : ParserExpects (T.Sign 41) p4 p5 v) where
            c5 : After p p5 p2.program.words.now p4.scratch.now
            c5 = after_placed c4 r.same

            closed : Expects p.script.now (T.Sign 41) (cursor_of p4) (moved_in p5 v)
            closed = expects_of c4 r

            pub fun_no5 : {e : Refusal} → v ≡ Err e → ParserTaken p p5 (Err e)
            fun_no5 z =
                taken_end c5 (Err _)
                (L.fun_no5 p.program.limits g a.idents (ap (ident_in p1) f) entered (ap (fun_in p2) i) opened (ap (moved_in p3) j) named (ap (moved_in p4) l) closed
                (ap (moved_in p5) z))
                tt

            module _ (z : v ≡ Ok tt) where
              module _ {p6 : Parser} (o : Result (Unit {0}) Refusal) (B : ParserTakes (λ L s. body_of L s (names_in s p5.scratch.now p5.args)) 1 p5 p6 (through p6 o)) where
                bodied : Takes (body_of (limits_of p.program.limits) p.script.now (names_in p.script.now p4.scratch.now p5.args)) 1
                    p.script.now p2.program.words.now p4.scratch.now (cursor_of p5) p6.program.words.now p6.scratch.now (through p6 o)
                bodied = rw c5.scratch at (takes_of c5 B)

                c6 : After p p6 p6.program.words.now p6.scratch.now
                c6 = after_kept c5 B.kept

                pub fun_no6 : {e : Refusal} → o ≡ Err e → ParserTaken p p6 (Err e)
                fun_no6 h =
                    taken_end c6 (Err _)
                    (L.fun_no6 p.program.limits g a.idents (ap (ident_in p1) f) entered (ap (fun_in p2) i) opened (ap (moved_in p3) j) named (ap (moved_in p4) l) closed
                    (ap (moved_in p5) z) {o = moved_in p6 o} bodied (ap (moved_in p6) h))
                    tt

                pub fun_yes : o ≡ Ok tt → ParserTaken p p6 (Ok k)
                fun_yes h =
                    taken_end c6 (Ok k)
                    (L.fun_yes p.program.limits g a.idents (ap (ident_in p1) f) entered (ap (fun_in p2) i) opened (ap (moved_in p3) j) named (ap (moved_in p4) l) closed
                    (ap (moved_in p5) z) {o = moved_in p6 o} bodied (ap (moved_in p6) h))
                    (L.fun_known p.program.limits g a.idents (ap (ident_in p1) f) entered (ap (fun_in p2) i) opened (ap (moved_in p3) j) named (ap (moved_in p4) l) closed
                    (ap (moved_in p5) z) {o = moved_in p6 o} bodied (ap (moved_in p6) h))
