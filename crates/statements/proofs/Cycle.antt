-- The ways through the readers that call each other. Assumes nothing.
use mathlib.Core.Bool.{Bool as 𝔹, true}
use mathlib.Core.Path.{◌≡◌, refl, sym, ap, ◌∙◌}
use mathlib.Core.List.{List}
use Prim.Native.Nat.{ℕ, zero, suc, ◌+◌, ◌-◌, ◌≤◌, ◌<◌}
use native.Mathlib.Omega.{arith}
use lib.ListN.{length}
use Rattle.ids.specs.declared.BlockId.{BlockId}
use Rattle.kinds.specs.declared.Kind.TheVariants.{Nil}
use Rattle.rules.specs.Actions.{Answer, answered, refused, if_answered, choose, Turn, again, ends, loop}
use Rattle.rules.specs.Words as Words
use Rattle.rules.specs.Program as P
use Rattle.rules.specs.Reading as R
use Rattle.rules.specs.Reading.{Parser, Reads, new_block, parse_expr, parse_next, parse_statements, parse_return, parse_if, statement_by, parse_statement}
use Rattle.variables.specs.Scopes.{Bindings, over, env_of, Sorted}
use Rattle.variables.proofs.scopes.Made.{env_sorted}
use Rattle.variables.specs.Memory.{made, vars, row}
use Rattle.variables.proofs.Entries.{row_move, vars_split}
use Rattle.program.specs.Rows.{opnd_of}
use Rattle.program.specs.View as View
use Rattle.program.specs.declared.bounds.Limits.{Limits}
use Rattle.program.specs.declared.Opnd.{Opnd}
use Rattle.program.specs.declared.Opnd.TheVariants.{Const}
use Rattle.std.specs.Prelude.{Ok}
use Rattle.lexer.specs.declared.Token.TheVariants as T
use Rattle.lexer.specs.declared.Token.{Token}
use Rattle.lexer.specs.declared.Word.{Word}
use Rattle.lexer.proofs.Texts.{fixed-token}
use Rattle.cursor.specs.Cursor.{Cursor, parser_of, move_cur, In, CursorStep}
use Rattle.cursor.specs.Promises.{Out, CursorDid, Sees, Spelt, CursorMatches, parsed_of, matched_of}
use Rattle.cursor.specs.outcomes.Matched.{Matched}
use Rattle.cursor.specs.outcomes.Matched as M
use Rattle.cursor.specs.outcomes.Parsed.{Parsed, Done, Refused}
use Rattle.cursor.proofs.Laws.{after-step, Acted, got, gave, refuses, arrives, ends_as, moved-did, step-moved, step_less, step_trans, step-none}
use Rattle.cursor.proofs.Wording.{spelt_else, is-yes, is_no, word_read, peek-found, pass-found}
use Rattle.statements.specs.declared.Branch.{Branch}
use Rattle.statements.specs.outcomes.Opened.{Opened}
use Rattle.statements.specs.outcomes.Opened as O
use Rattle.statements.specs.outcomes.Stops.{Stops}
use Rattle.statements.specs.outcomes.Stops as H
use Rattle.statements.specs.Acts.{stops_at, parse_arm, finish_if, parse_else, if_of}
use Rattle.statements.specs.Shape.{block_cur, before_of, opened_of, halts, Halts, Opens, StatementInside, DidFrom, StatementAside, OpensElse, FinishesElse, Arm}
use Rattle.statements.proofs.Ifs.{if_is}
use Rattle.statements.proofs.Steps.{Keeps, keeps_step, keeps_low, keeps_then, keeps_later, keeps_vars, after-over, inside-step, inside_then, few-vars, arm_then, opened-there}
use Rattle.statements.proofs.Steps.{opens_did, step_block}
use Rattle.statements.proofs.Paths.{expr_in}

-- ---- parse_statements

next-is : (L : P.Limits) (s : List ℕ) (arm : 𝔹) (S : Reads P.Opnd) (v : P.Opnd) (r : Parser)
    → parse_next L s (stops_at arm) S v r ≡ if_answered {B = Turn P.Opnd P.Opnd × Parser} (halts s arm r)
    (λ t. choose t.0 (λ _. answered (ends v, t.1)) (λ _. if_answered (S t.1) (λ x. answered (again x.0, x.1))))
unfolding parse_next halts
next-is L s arm S v r = go (R.peek s r)
  where
    go : (a : Answer (Words.Word × Parser))
        → if_answered {B = Turn P.Opnd P.Opnd × Parser} a (λ w. choose (stops_at arm w.0) (λ _. answered (ends v, w.1)) (λ _. if_answered (S w.1) (λ x. answered (again x.0, x.1))))
        ≡ if_answered {A = 𝔹 × Parser} {B = Turn P.Opnd P.Opnd × Parser} (if_answered a (λ w. answered (stops_at arm w.0, w.1)))
        (λ t. choose t.0 (λ _. answered (ends v, t.1)) (λ _. if_answered (S t.1) (λ x. answered (again x.0, x.1))))
    go (answered w) = refl
    go (refused n) = refl

-- where a turn begins, the rest of the loop comes to what the whole comes to, and the turns left are enough for the bytes left
pub record Going (l : Limits) (s : List ℕ) (arm : 𝔹) (d : ℕ) (m₀ w₀ : List ℕ) (c₀ : Cursor) (m w : List ℕ) (c : Cursor) (v : Opnd) : Type 0 where
  pub turns : ℕ
  pub same : loop (parse_next (View.limits_of l) s (stops_at arm) (parse_statement (View.limits_of l) s d)) turns (opnd_of v) (parser_of s m w c)
      ≡ parse_statements (View.limits_of l) s (stops_at arm) (parse_statement (View.limits_of l) s d) (parser_of s m₀ w₀ c₀)
  pub enough : length s < turns + c.at
  pub here : In s m w c
  pub step : CursorStep 0 c₀ w₀ c w

pub going_start : (l : Limits) (s : List ℕ) (arm : 𝔹) (d : ℕ) (m w : List ℕ) (c : Cursor) → In s m w c → Going l s arm d m w c m w c (Const Nil)
unfolding parse_statements
going_start l s arm d m w c h = record { turns = suc (length s); same = refl; enough = omega arith; here = h; step = step-none c w }

module _ {l : Limits} {s : List ℕ} {arm : 𝔹} {d : ℕ} {m₀ w₀ : List ℕ} {c₀ : Cursor} {m w : List ℕ} {c : Cursor} {v : Opnd}
    (i : Going l s arm d m₀ w₀ c₀ m w c v) {r : Stops} (a : Halts s arm c r) where
  abbrev L : P.Limits
  L = View.limits_of l

  abbrev S : Reads P.Opnd
  S = parse_statement (View.limits_of l) s d

  abbrev All : List ℕ → List ℕ → Out P.Opnd → Type 0
  All m' w' o = CursorDid (parse_statements L s (stops_at arm) S) 0 s m₀ w₀ c₀ m' w' o

  pub going_none : {e : ℕ} → r ≡ H.Refused e → All m w (parsed_of (Refused e))
  going_none {e} f = refuses (go i.turns i.same i.enough)
    where
      go : (k : ℕ) → loop (parse_next L s (stops_at arm) S) k (opnd_of v) (parser_of s m w c) ≡ parse_statements L s (stops_at arm) S (parser_of s m₀ w₀ c₀) → length s < k + c.at
          → refused e ≡ parse_statements L s (stops_at arm) S (parser_of s m₀ w₀ c₀)
      go zero x y = absurd (omega (arith, i.here.ready.inside))
      go (suc k) x y = let h = rw f at (a.is m w) in rw (next-is L s arm S (opnd_of v) (parser_of s m w c), ← h) at x

  pub going_ends : r ≡ H.Here → All m w (parsed_of (Done c v))
  going_ends f = arrives i.step (omega arith) i.here (go i.turns i.same i.enough)
    where
      go : (k : ℕ) → loop (parse_next L s (stops_at arm) S) k (opnd_of v) (parser_of s m w c) ≡ parse_statements L s (stops_at arm) S (parser_of s m₀ w₀ c₀) → length s < k + c.at
          → answered (opnd_of v, parser_of s m w c) ≡ parse_statements L s (stops_at arm) S (parser_of s m₀ w₀ c₀)
      go zero x y = absurd (omega (arith, i.here.ready.inside))
      go (suc k) x y = let h = rw f at (a.is m w) in rw (next-is L s arm S (opnd_of v) (parser_of s m w c), ← h) at x

  module _ {x : Word} (f : r ≡ H.Not x) {p : Parsed} {m1 w1 : List ℕ} (b : CursorDid S 1 s m w c m1 w1 (parsed_of p)) where
    pub going_no : {e : ℕ} → p ≡ Refused e → All m1 w1 (parsed_of (Refused e))
    going_no {e} g = refuses (go i.turns i.same i.enough)
      where
        go : (k : ℕ) → loop (parse_next L s (stops_at arm) S) k (opnd_of v) (parser_of s m w c) ≡ parse_statements L s (stops_at arm) S (parser_of s m₀ w₀ c₀) → length s < k + c.at
            → refused e ≡ parse_statements L s (stops_at arm) S (parser_of s m₀ w₀ c₀)
        go zero x y = absurd (omega (arith, i.here.ready.inside))
        go (suc k) x y = let h = rw f at (a.is m w) in rw (next-is L s arm S (opnd_of v) (parser_of s m w c), ← h, ← gave b (ap parsed_of g)) at x

    module _ {c1 : Cursor} {v1 : Opnd} (g : p ≡ Done c1 v1) where
      pub going_less : length s - c1.at < length s - c.at
      going_less = let z = got b (ap parsed_of g) in omega (arith, z.step.on, z.here.ready.inside)

      pub going_on : Going l s arm d m₀ w₀ c₀ m1 w1 c1 v1
      going_on = go i.turns i.same i.enough
        where
          go : (k : ℕ) → loop (parse_next L s (stops_at arm) S) k (opnd_of v) (parser_of s m w c) ≡ parse_statements L s (stops_at arm) S (parser_of s m₀ w₀ c₀) → length s < k + c.at
              → Going l s arm d m₀ w₀ c₀ m1 w1 c1 v1
          go zero x y = absurd (omega (arith, i.here.ready.inside))
          go (suc k) x y =
              let h = rw f at (a.is m w) in
              let z = got b (ap parsed_of g) in
              record {
                turns = k;
                same = rw (next-is L s arm S (opnd_of v) (parser_of s m w c), ← h, ← z.is) at x;
                enough = omega (arith, z.step.on);
                here = z.here;
                step = step_less (omega arith) (step_trans i.step z.step);
              }

-- ---- parse_else

module _ (l : Limits) {s : List ℕ} (d : ℕ) {m w : List ℕ} {c₀ c : Cursor} (q : Branch) (h : In s m w c) (a : Arm c₀ c q) {r : Matched} (t : CursorMatches s T.Else c r) where
  abbrev Rest : List ℕ → List ℕ → Out P.Opnd → Type 0
  Rest m' w' o =
      DidFrom (parse_else (View.limits_of l) s (parse_statement (View.limits_of l) s d) c₀.block.0 (vars s w c₀.vars) (opnd_of q.cond) q.first.0 q.join.0 q.last.0 (opnd_of q.value))
      1 s m w c₀ c m' w' o

  matched : CursorDid (R.match_token s "else") 0 s m w c m w (matched_of c r)
  matched = moved-did (t.moves "else" spelt_else) h

  pub else_none : {e : ℕ} → r ≡ M.Refused e → Rest m w (parsed_of (Refused e))
  unfolding parse_else
  else_none e = record { is = rw (← gave matched (ap (matched_of c) e)); ok = tt }

  pub else_bare : {m' w' : List ℕ} {o : Out P.Opnd} → r ≡ M.Not
      → DidFrom (finish_if (View.limits_of l) s c₀.block.0 (vars s w c₀.vars) (opnd_of q.cond) q.first.0 q.join.0 q.last.0 (opnd_of q.value) (vars s w c.vars)) 1 s m w c₀ c m'
      w' o
      → Rest m' w' o
  unfolding parse_else parser_of
  else_bare e b = record { is = rw (← (got matched (ap (matched_of c) e)).is) b.is; ok = b.ok }

  module _ {c1 : Cursor} (e : r ≡ M.Yes c1) where
    else_went : Acted (R.match_token s "else") 0 s m w c m w true c1
    else_went = got matched (ap (matched_of c) e)

    pub else_arm : Arm c₀ c1 q
    else_arm = arm_then a else_went.step

    else_vars : c1.vars ≡ c.vars
    else_vars = let k = rw e at (t.moves "else" spelt_else).ok in ap (λ (z : Cursor). z.vars) k.0

    module _ {m1 w1 : List ℕ} {x : Opened} (g : OpensElse l s m w c₀ c1 q m1 w1 x) where
      pub else_no : {k : ℕ} → x ≡ O.Refused k → Rest m1 w1 (parsed_of (Refused k))
      unfolding parse_else
      else_no i = let k = rw i at g.is in record { is = rw (← else_went.is, ← k); ok = tt }

      module _ {c2 : Cursor} {b : BlockId} (i : x ≡ O.On c2 b) where
        else_aside : StatementAside s w c₀ c1 m1 w1 b.0 c2
        else_aside = rw i at g.ok

        pub else_in2 : In s m1 w1 c2
        else_in2 = else_aside.here

        module _ {m2 w2 : List ℕ} {p : Parsed} (u : CursorDid (parse_arm (View.limits_of l) s (parse_statement (View.limits_of l) s d) q.join.0) 0 s m1 w1 c2 m2 w2 (parsed_of p)) where
          pub else_no2 : {k : ℕ} → p ≡ Refused k → Rest m2 w2 (parsed_of (Refused k))
          unfolding parse_else
          else_no2 j = let k = rw i at g.is in record { is = rw (← else_went.is, ← k, ← gave u (ap parsed_of j)); ok = tt }

          module _ {c3 : Cursor} {y : Opnd} (j : p ≡ Done c3 y) where
            arm_went : Acted (parse_arm (View.limits_of l) s (parse_statement (View.limits_of l) s d) q.join.0) 0 s m1 w1 c2 m2 w2 (opnd_of y) c3
            arm_went = got u (ap parsed_of j)

            pub else_inside : StatementInside c₀ c3
            else_inside = inside_then else_aside.inside arm_went.step

            pub else_join : q.join.0 < c3.counts.blocks
            else_join = omega (arith, else_arm.join, else_aside.blocks, arm_went.step.blocks)

            abbrev left : Bindings
            left = made s w c₀.vars (c1.vars - c₀.vars)

            else_row : row s w2 c₀.aside (c3.aside - c₀.aside) ≡ env_of left
            else_row =
                let z : c3.aside - c₀.aside ≡ c2.aside - c₀.aside = omega (arith, arm_went.step.aside) in
                rw z (row_move s w1 w2 c₀.aside c₀.aside (c2.aside - c₀.aside)
                (λ n o. arm_went.step.rows (c₀.aside + n) (omega (arith, else_aside.inside.low)) (omega (arith, else_aside.inside.above)))
                ∙ else_aside.row)

            pub else_sorted : Sorted (row s w2 c₀.aside (c3.aside - c₀.aside))
            else_sorted = rw else_row (env_sorted left)

            else_keeps : Keeps c₀ w w2
            else_keeps = keeps_then (keeps_low (few-vars h a.inside) else_aside.low) (keeps_later else_aside.inside arm_went.step)

            pub else_yes : {m' w' : List ℕ} {o : Parsed} → FinishesElse l s m2 w2 c₀ c3 q b y m' w' o → Rest m' w' (parsed_of o)
            unfolding parse_else parser_of
            else_yes {m'} {w'} {o} n =
                let k = rw i at g.is in
                let old : vars s w2 c₀.vars ≡ vars s w c₀.vars = keeps_vars s else_keeps in
                let all : over left (vars s w c₀.vars) ≡ vars s w c.vars = sym (vars_split s w c₀.vars c1.vars else_arm.inside.old) ∙ ap (λ z. vars s w z) else_vars in
                record {
                  is = rw (← else_went.is, ← k, ← arm_went.is, ← all) (rw old at (n.is left else_row));
                  ok = after-over 1 s m' w' (parsed_of o) else_keeps n.ok;
                }

-- ---- parse_if

abbrev If : Limits → ℕ → List ℕ → List ℕ → List ℕ → Cursor → List ℕ → List ℕ → Out P.Opnd → Type 0
If l d s m w c m' w' o = CursorDid (parse_if (View.limits_of l) s (parse_expr (View.limits_of l) s d) (parse_statement (View.limits_of l) s d)) 1 s m w c m' w' o

is_if : (l : Limits) (d : ℕ) (s m w : List ℕ) (c : Cursor)
    → if_of (View.limits_of l) s (parse_expr (View.limits_of l) s d) (parse_statement (View.limits_of l) s d) (parser_of s m w c)
    ≡ parse_if (View.limits_of l) s (parse_expr (View.limits_of l) s d) (parse_statement (View.limits_of l) s d) (parser_of s m w c)
is_if l d s m w c = sym (if_is (View.limits_of l) s (parse_expr (View.limits_of l) s d) (parse_statement (View.limits_of l) s d) (parser_of s m w c))

module _ (l : Limits) {s : List ℕ} (d : ℕ) {m w : List ℕ} {c : Cursor} {p : Parsed} {m1 w1 : List ℕ} (a : CursorDid (parse_expr (View.limits_of l) s d 0) 1 s m w c m1 w1 (parsed_of p)) where
  pub if_no : {e : ℕ} → p ≡ Refused e → If l d s m w c m1 w1 (parsed_of (Refused e))
  unfolding if_of parser_of
  if_no e = refuses (rw (← gave a (ap parsed_of e)) at (is_if l d s m w c))

  module _ {c1 : Cursor} {v : Opnd} (e : p ≡ Done c1 v) where
    if_went : Acted (parse_expr (View.limits_of l) s d 0) 1 s m w c m1 w1 (opnd_of v) c1
    if_went = got a (ap parsed_of e)

    module _ {m2 : List ℕ} {x : Opened} (b : Opens l m1 c1 m2 x) where
      first-opened : CursorDid (new_block (View.limits_of l)) 0 s m1 w1 c1 m2 w1 (opened_of x)
      first-opened = opens_did b (expr_in l s d a e)

      pub if_no2 : {k : ℕ} → x ≡ O.Refused k → If l d s m w c m2 w1 (parsed_of (Refused k))
      unfolding if_of parser_of
      if_no2 f = refuses (rw (← if_went.is, ← gave first-opened (ap opened_of f)) at (is_if l d s m w c))

      module _ {c2 : Cursor} {n : BlockId} (f : x ≡ O.On c2 n) where
        first-went : Acted (new_block (View.limits_of l)) 0 s m1 w1 c1 m2 w1 n.0 c2
        first-went = got first-opened (ap opened_of f)

        pub if_in2 : In s m2 w1 c2
        if_in2 = first-went.here

        module _ {m3 : List ℕ} {y : Opened} (g : Opens l m2 c2 m3 y) where
          join_opened : CursorDid (new_block (View.limits_of l)) 0 s m2 w1 c2 m3 w1 (opened_of y)
          join_opened = opens_did g if_in2

          pub if_no3 : {k : ℕ} → y ≡ O.Refused k → If l d s m w c m3 w1 (parsed_of (Refused k))
          unfolding if_of parser_of
          if_no3 i = refuses (rw (← if_went.is, ← first-went.is, ← gave join_opened (ap opened_of i)) at (is_if l d s m w c))

          module _ {c3 : Cursor} {j : BlockId} (i : y ≡ O.On c3 j) {c4 : Cursor} (k : c4 ≡ block_cur n c3) where
            join-went : Acted (new_block (View.limits_of l)) 0 s m2 w1 c2 m3 w1 j.0 c3
            join-went = got join_opened (ap opened_of i)

            module _ {m4 w4 : List ℕ} {o : Parsed} (u : CursorDid (parse_arm (View.limits_of l) s (parse_statement (View.limits_of l) s d) j.0) 0 s m3 w1 c4 m4 w4 (parsed_of o)) where
              pub if_no4 : {z : ℕ} → o ≡ Refused z → If l d s m w c m4 w4 (parsed_of (Refused z))
              unfolding if_of parser_of
              if_no4 z = let t = rw k at (gave u (ap parsed_of z)) in refuses (rw (← if_went.is, ← first-went.is, ← join-went.is, ← t) at (is_if l d s m w c))

              module _ {c5 : Cursor} {y1 : Opnd} (z : o ≡ Done c5 y1) where
                then_went : Acted (parse_arm (View.limits_of l) s (parse_statement (View.limits_of l) s d) j.0) 0 s m3 w1 c4 m4 w4 (opnd_of y1) c5
                then_went = got u (ap parsed_of z)

                pub if_in4 : In s m4 w4 c5
                if_in4 = then_went.here

                since : CursorStep 0 c1 w1 c5 w4
                since = step_less (omega arith) (step_trans (step_trans first-went.step join-went.step) (step_block n (rw k at then_went.step)))

                pub if_arm : {q : Branch} → q.before ≡ before_of c1 → q.join ≡ j → Arm c1 c5 q
                if_arm u t =
                    record {
                      place = u;
                      inside = inside-step (expr_in l s d a e) since;
                      aside = since.aside;
                      before = omega (arith, (expr_in l s d a e).block, since.blocks);
                      join = rw t (let y = rw k at then_went.step in omega (arith, opened-there g i, y.blocks));
                    }

                pub if_yes : {m' w' : List ℕ} {r : Out P.Opnd}
                    → DidFrom (parse_else (View.limits_of l) s (parse_statement (View.limits_of l) s d) c1.block.0 (vars s w4 c1.vars) (opnd_of v)
                    n.0 j.0 c5.block.0 (opnd_of y1))
                    1 s m4 w4 c1 c5 m' w' r
                    → If l d s m w c m' w' r
                unfolding if_of parser_of
                if_yes {m'} {w'} {r} t =
                    let y = rw k at then_went.is in
                    let old : vars s w4 c1.vars ≡ vars s w1 c1.vars = keeps_vars s (keeps_step since) in
                    record {
                      is = rw old at t.is ∙ rw (← if_went.is, ← first-went.is, ← join-went.is, ← y) at (is_if l d s m w c);
                      ok = after-step 1 1 s m' w' r if_went.step (omega arith) (after-over 1 s m' w' r (keeps_step since) t.ok);
                    }

-- ---- parse_statement

spelt_return : Spelt T.Return "return"
spelt_return x = fixed-token x 3 (omega arith)

spelt_if : Spelt T.If "if"
spelt_if x = fixed-token x 4 (omega arith)

-- such a word isn't the end of the text
pub return_on : {k : Token} → k ≡ T.Return → k ≡ T.EndOfText → ⊥
return_on e f = let z : T.Return ≡ T.EndOfText = sym e ∙ f in cc

pub if_on : {k : Token} → k ≡ T.If → k ≡ T.EndOfText → ⊥
if_on e f = let z : T.If ≡ T.EndOfText = sym e ∙ f in cc

module _ (l : Limits) {s : List ℕ} {m w : List ℕ} {c : Cursor} (h : In s m w c) {x : Word} (v : Sees s c (Ok x)) where
  abbrev States : ℕ → List ℕ → List ℕ → Out P.Opnd → Type 0
  States d m' w' o = CursorDid (parse_statement (View.limits_of l) s d) 1 s m w c m' w' o

  further : c.at + 1 ≤ x.next → CursorStep 1 c w (move_cur x.next c) w
  further = step-moved c w 1 x.next

  past : (x.token ≡ T.EndOfText → ⊥) → (c.at + 1 ≤ x.next) × (x.next ≤ length s)
  past z = let k = word_read v refl in (omega (arith, k.on z), k.inside h.ready.inside)

  pub state_return : (d : ℕ) {c1 : Cursor} {m' w' : List ℕ} {o : Out P.Opnd} → x.token ≡ T.Return → c1 ≡ move_cur x.next c
      → CursorDid (parse_return (View.limits_of l) s (parse_expr (View.limits_of l) s d)) 1 s m w c1 m' w' o → States d m' w' o
  unfolding parse_statement statement_by
  state_return zero k i a =
      let b = rw i at a in
      ends_as (further (past (return_on k)).0) (omega arith) b (rw (← peek-found v m w refl, is-yes x (word_read v refl) "return" spelt_return k, ← pass-found v m w refl))
  state_return (suc d) k i a =
      let b = rw i at a in
      ends_as (further (past (return_on k)).0) (omega arith) b (rw (← peek-found v m w refl, is-yes x (word_read v refl) "return" spelt_return k, ← pass-found v m w refl))

  pub state_deep : (d : ℕ) → (x.token ≡ T.Return → ⊥) → x.token ≡ T.If → d ≡ 0 → States d m w (parsed_of (Refused 11))
  unfolding parse_statement statement_by
  state_deep d n k z = rw z (refuses (rw (← peek-found v m w refl, is_no x (word_read v refl) "return" spelt_return n, is-yes x (word_read v refl) "if" spelt_if k, ← pass-found v m w refl)))

  pub state_if : (d : ℕ) {c1 : Cursor} {m' w' : List ℕ} {o : Out P.Opnd} → (x.token ≡ T.Return → ⊥) → x.token ≡ T.If → (d ≡ 0 → ⊥) → c1 ≡ move_cur x.next c
      → CursorDid (parse_if (View.limits_of l) s (parse_expr (View.limits_of l) s (d - 1)) (parse_statement (View.limits_of l) s (d - 1))) 1 s m w c1 m' w' o → States d m' w' o
  unfolding parse_statement statement_by
  state_if zero n k z i a = absurd (z refl)
  state_if (suc d) n k z i a =
      let j : suc d - 1 ≡ d = omega arith in
      let b = rw (i, j) at a in
      ends_as (further (past (if_on k)).0) (omega arith) b
      (rw (← peek-found v m w refl, is_no x (word_read v refl) "return" spelt_return n, is-yes x (word_read v refl) "if" spelt_if k, ← pass-found v m w refl))

  pub state_expr : (d : ℕ) {m' w' : List ℕ} {o : Out P.Opnd} → (x.token ≡ T.Return → ⊥) → (x.token ≡ T.If → ⊥) → CursorDid (parse_expr (View.limits_of l) s d 0) 1 s m w c m' w' o → States d m' w' o
  unfolding parse_statement statement_by
  state_expr zero n k a = record { is = a.is ∙ rw (← peek-found v m w refl, is_no x (word_read v refl) "return" spelt_return n, is_no x (word_read v refl) "if" spelt_if k); ok = a.ok }
  state_expr (suc d) n k a = record { is = a.is ∙ rw (← peek-found v m w refl, is_no x (word_read v refl) "return" spelt_return n, is_no x (word_read v refl) "if" spelt_if k); ok = a.ok }
