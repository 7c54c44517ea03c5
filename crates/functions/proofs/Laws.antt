-- The ways through each reader: what the calls on the way gave, and what the rules then say. Assumes nothing.
use mathlib.Core.Bool.{false}
use mathlib.Core.Path.{◌≡◌, refl, sym, ap, ◌∙◌}
use mathlib.Core.List.{List, []}
use Prim.Native.Nat.{ℕ, ◌+◌, ◌≤◌, ◌<◌}
use native.Mathlib.Omega.{arith}
use lib.ListN.{length}
use Rattle.ids.specs.declared.FunId.{FunId}
use Rattle.rules.specs.Actions.{answered, loop}
use Rattle.rules.specs.Program as P
use Rattle.rules.specs.Reading as R
use Rattle.rules.specs.Reading.{push_params, parse_param, turns, parse_statements, parse_statement, end_block, new_fun, parse_fun}
use Rattle.variables.specs.Scopes.{over}
use Rattle.variables.specs.Memory.{made}
use Rattle.program.specs.Rows.{opnd_of, name_in}
use Rattle.program.specs.View as View
use Rattle.program.specs.declared.Given.TheVariants.{One}
use Rattle.program.specs.declared.bounds.Limits.{Limits}
use Rattle.program.specs.declared.Name.{Name}
use Rattle.program.specs.declared.Op.TheVariants.{Return}
use Rattle.program.specs.declared.Opnd.{Opnd}
use Rattle.cursor.specs.Cursor.{Cursor, parser_of, move_cur, stack_cur, CursorReady, In}
use Rattle.cursor.specs.Promises.{outcome, CursorDid, Idents, Expects, parsed_of, moved_of}
use Rattle.cursor.specs.outcomes.Ident.{Ident}
use Rattle.cursor.specs.outcomes.Moved.{Moved, On, Refused}
use Rattle.cursor.specs.outcomes.Parsed.{Parsed}
use Rattle.lexer.specs.declared.Token.TheVariants as T
use Rattle.std.specs.Prelude.{None}
use Rattle.cursor.proofs.Laws.{Acted, got, gave, moved-did, added_did, step_trans, ident_on, ident_is}
use Rattle.cursor.proofs.Wording.{spelt_end, spelt_open, spelt_close}
use Rattle.functions.specs.outcomes.OpenedFun.{OpenedFun}
use Rattle.functions.specs.params.Names.{names_in}
use Rattle.functions.specs.params.Promises.{receive_cur, ParamsFilled, PushesParams, PushesSelf, Received, Params, Named, Funs, Entered, funned_of}
use Rattle.statements.specs.Acts.{stops_at}
use Rattle.statements.specs.Shape.{EndsBlock}
use Rattle.functions.specs.Bodies.{clear_cur, head_of, body_of, fun_of, Headed, Heads, Rests, Takes, BodyBegun}
use Rattle.functions.proofs.Funs.{fun_is}

-- ---- open_body

module _ (l : Limits) {m w : List ℕ} (c : Cursor) (g : ParamsFilled m w (clear_cur c)) {m1 : List ℕ} {x : Moved} (selfed : PushesSelf l m (clear_cur c) m1 x) where
  pub head_no : {e : ℕ} → x ≡ Refused e → Heads l m w c m1 w (Refused e)
  unfolding head_of parser_of made over
  head_no o = record { is = λ s. let h = rw o at (selfed.is s w) in rw (← h); ok = tt }

  module _ {c1 : Cursor} (o : x ≡ On c1) where
    selfed_ok : Received m1 (clear_cur c) c1
    selfed_ok = rw o at selfed.ok

    args-same : c1.args ≡ c.args
    args-same = ap (λ (y : Cursor). y.args) selfed_ok.cur

    module _ {m2 w2 : List ℕ} {y : Moved} (b : PushesParams l m1 w c1 m2 w2 y) where
      params_is : (s : List ℕ) → outcome s m2 w2 (moved_of y) ≡ push_params (View.limits_of l) s 0 (names_in s w c.args) (parser_of s m1 w c1)
      params_is s = b.is s ∙ ap (λ n. push_params (View.limits_of l) s 0 (names_in s w n) (parser_of s m1 w c1)) args-same

      pub head_no2 : {e : ℕ} → y ≡ Refused e → Heads l m w c m2 w2 (Refused e)
      unfolding head_of parser_of made over
      head_no2 i = record { is = λ s. let h = rw o at (selfed.is s w) in let k = rw i at (params_is s) in rw (← h, ← k); ok = tt }

      pub head_yes : {c2 c3 : Cursor} → y ≡ On c2 → c3 ≡ stack_cur 0 c2 → Heads l m w c m2 w2 (On c3)
      unfolding head_of parser_of made over
      head_yes {c2} {c3} i j =
          let v = rw i at b.ok in
          let k = selfed_ok.cur in
          rw j (record {
            is = λ s. let h = rw o at (selfed.is s w) in let k = rw i at (params_is s) in rw (← h, ← k);
            ok = record {
              tables = v.tables;
              at = v.at ∙ ap (λ (y : Cursor). y.at) k;
              class = v.class ∙ ap (λ (y : Cursor). y.class) k;
              block = v.block ∙ ap (λ (y : Cursor). y.block) k;
              vars = omega (arith, v.vars, ap (λ (y : Cursor). y.vars) k, args-same);
              aside = v.aside ∙ ap (λ (y : Cursor). y.aside) k;
              args = refl;
              functions = v.functions ∙ selfed_ok.functions;
              classes = v.classes ∙ selfed_ok.classes;
              blocks = v.blocks ∙ selfed_ok.blocks;
              long = v.long;
            };
          })

-- ---- parse_body

module _ {s m w : List ℕ} {c : Cursor} (g : BodyBegun s m w c) where
  module _ {l : Limits} {m1 w1 : List ℕ} {x : Moved} (a : Heads l m w c m1 w1 x) where
    pub body_no : {e : ℕ} → x ≡ Refused e → Takes (body_of (View.limits_of l) s (names_in s w c.args)) 1 s m w c m1 w1 (moved_of (Refused e))
    unfolding body_of
    body_no o = record { is = let h = rw o at (a.is s) in rw (← h); ok = tt }

    module _ {c1 : Cursor} (o : x ≡ On c1) where
      headed : Headed c m1 w1 w c1
      headed = rw o at a.ok

      module _ {m2 w2 : List ℕ} {p : Parsed}
          (b : CursorDid (parse_statements (View.limits_of l) s (stops_at false) (parse_statement (View.limits_of l) s l.depth)) 0 s m1 w1 c1 m2 w2 (parsed_of p)) where
        pub body_no2 : {e : ℕ} → p ≡ Parsed.Refused e → Takes (body_of (View.limits_of l) s (names_in s w c.args)) 1 s m w c m2 w2 (moved_of (Refused e))
        unfolding body_of
        body_no2 i = record { is = let h = rw o at (a.is s) in rw (← h, ← gave b (ap parsed_of i)); ok = tt }

        module _ {c2 : Cursor} {v : Opnd} (i : p ≡ Parsed.Done c2 v) where
          stated : Acted (parse_statements (View.limits_of l) s (stops_at false) (parse_statement (View.limits_of l) s l.depth)) 0 s m1 w1 c1 m2 w2 (opnd_of v) c2
          stated = got b (ap parsed_of i)

          pub body_in2 : In s m2 w2 c2
          body_in2 = stated.here

          module _ {m3 : List ℕ} {y : Moved} (d : EndsBlock l Return (One v) m2 c2 m3 y) where
            ended : CursorDid (end_block (View.limits_of l) s (P.Return (opnd_of v))) 0 s m2 w2 c2 m3 w2 (moved_of y)
            ended = added_did (d.adds s w2 (P.Return (opnd_of v)) refl) body_in2

            pub body_no3 : {e : ℕ} → y ≡ Refused e → Takes (body_of (View.limits_of l) s (names_in s w c.args)) 1 s m w c m3 w2 (moved_of (Refused e))
            unfolding body_of
            body_no3 j = record { is = let h = rw o at (a.is s) in rw (← h, ← stated.is, ← gave ended (ap moved_of j)); ok = tt }

            module _ {c3 : Cursor} (j : y ≡ On c3) {t : Moved} (f : Expects s T.End c3 t) where
              shut : Acted (end_block (View.limits_of l) s (P.Return (opnd_of v))) 0 s m2 w2 c2 m3 w2 tt c3
              shut = got ended (ap moved_of j)

              expected : CursorDid (R.expect s "end") 1 s m3 w2 c3 m3 w2 (moved_of t)
              expected = moved-did (f.moves "end" spelt_end) shut.here

              pub body_no4 : {e : ℕ} → t ≡ Refused e → Takes (body_of (View.limits_of l) s (names_in s w c.args)) 1 s m w c m3 w2 (moved_of (Refused e))
              unfolding body_of
              body_no4 k = record { is = let h = rw o at (a.is s) in rw (← h, ← stated.is, ← shut.is, ← gave expected (ap moved_of k)); ok = tt }

              pub body_yes : {c4 c5 : Cursor} → t ≡ On c4 → c5 ≡ receive_cur None c4 → Takes (body_of (View.limits_of l) s (names_in s w c.args)) 1 s m w c m3 w2 (moved_of (On c5))
              unfolding body_of parser_of
              body_yes {c4} {c5} k r =
                  let e = got expected (ap moved_of k) in
                  let st = step_trans (step_trans stated.step shut.step) e.step in
                  let q = e.here.ready in
                  rw r (record {
                    is = let h = rw o at (a.is s) in rw (← h, ← stated.is, ← shut.is, ← e.is);
                    ok = (
                      record {
                        ready = record { script = q.script; inside = q.inside; tables = q.tables; scratch = q.scratch; room = q.room; args = q.args };
                        args = st.args ∙ headed.args;
                      },
                      record {
                        on = omega (arith, st.on, headed.at);
                        class = st.class ∙ headed.class;
                        functions = omega (arith, st.functions, headed.functions);
                        classes = omega (arith, st.classes, headed.classes);
                      },
                    );
                  })

-- ---- parse_fun

-- between functions, over words
pub ready_moved : {s m w : List ℕ} {c : Cursor} → CursorReady s m w c → (at : ℕ) → c.at ≤ at → at ≤ length s → CursorReady s m w (move_cur at c)
ready_moved h at a b =
    record {
      script = h.script;
      inside = b;
      tables = h.tables;
      scratch = h.scratch;
      room = record { script = omega (arith, h.script); aside = h.room.aside; law = omega (arith, h.room.law) };
      args = omega (arith, h.args);
    }

abbrev Fun : Limits → List ℕ → List ℕ → List ℕ → Cursor → List ℕ → List ℕ → OpenedFun → Type 0
Fun l s m w c m' w' r = Takes (parse_fun (View.limits_of l) s) 1 s m w c m' w' (funned_of r)

is_fun_lem : (l : Limits) (s m w : List ℕ) (c : Cursor) → fun_of (View.limits_of l) s (parser_of s m w c) ≡ parse_fun (View.limits_of l) s (parser_of s m w c)
is_fun_lem l s m w c = sym (fun_is (View.limits_of l) s (parser_of s m w c))

module _ (l : Limits) {s m w : List ℕ} {c : Cursor} (g : Rests s m w c) {u : Ident} (a : Idents s c u) where
  pub fun_no : {e : ℕ} → u ≡ Ident.Refused e → Fun l s m w c m w (OpenedFun.Refused e)
  unfolding fun_of
  fun_no f = record { is = let h = rw f at (a.moves.is m w) in rw (← h) at (is_fun_lem l s m w c); ok = tt }

  module _ {c1 : Cursor} {n : Name} (f : u ≡ Ident.Found c1 n) where
    ident_ready : CursorReady s m w c1
    ident_ready = rw (ident_on a f).0 (ready_moved g.ready c1.at (omega (arith, (ident_on a f).1.0)) ((ident_on a f).1.1 g.ready.inside))

    module _ {m1 : List ℕ} {x : OpenedFun} (b : Funs l n m c1 m1 x) where
      pub fun_no2 : {e : ℕ} → x ≡ OpenedFun.Refused e → Fun l s m w c m1 w (OpenedFun.Refused e)
      unfolding fun_of
      fun_no2 i = record { is = let h = rw i at (b.is s w) in rw (← ident_is a f m w, ← h) at (is_fun_lem l s m w c); ok = tt }

      module _ {c2 : Cursor} {k : FunId} (i : x ≡ OpenedFun.Done c2 k) {y : Moved} (d : Expects s (T.Sign 40) c2 y) where
        entered : Entered m1 k.0 c1 c2
        entered = rw i at b.ok

        entered-is : answered (k.0, parser_of s m1 w c2) ≡ new_fun (View.limits_of l) (name_in s n) (parser_of s m w c1)
        entered-is = rw i at (b.is s w)

        entered_at : c2.at ≡ c1.at
        entered_at = ap (λ (z : Cursor). z.at) entered.cur

        entered-ready : CursorReady s m1 w c2
        entered-ready =
            let q = entered.cur in
            let h = ident_ready in
            record {
              script = h.script;
              inside = omega (arith, h.inside, entered_at);
              tables = entered.tables;
              scratch = h.scratch;
              room = record {
                script = omega (arith, h.room.script, entered_at);
                aside = omega (arith, h.room.aside, ap (λ (z : Cursor). z.aside) q);
                law = omega (arith, h.room.law, ap (λ (z : Cursor). z.aside) q, ap (λ (z : Cursor). z.vars) q, entered_at);
              };
              args = omega (arith, h.args, ap (λ (z : Cursor). z.args) q, entered_at);
            }

        pub entered_in : In s m1 w c2
        entered_in = record { ready = entered-ready; block = entered.block }

        opened : CursorDid (R.expect s "(") 1 s m1 w c2 m1 w (moved_of y)
        opened = moved-did (d.moves "(" spelt_open) entered_in

        pub fun_no3 : {e : ℕ} → y ≡ Refused e → Fun l s m w c m1 w (OpenedFun.Refused e)
        unfolding fun_of
        fun_no3 j = record { is = rw (← ident_is a f m w, ← entered-is, ← gave opened (ap moved_of j)) at (is_fun_lem l s m w c); ok = tt }

        module _ {c3 : Cursor} (j : y ≡ On c3) where
          open_went : Acted (R.expect s "(") 1 s m1 w c2 m1 w tt c3
          open_went = got opened (ap moved_of j)

          module _ {w1 : List ℕ} {t : Moved} (p : Params s w c3 w1 t) where
            pub fun_no4 : {e : ℕ} → t ≡ Refused e → Fun l s m w c m1 w1 (OpenedFun.Refused e)
            unfolding fun_of
            fun_no4 q = record { is = let h = rw q at (p.is (View.limits_of l) m1) in rw (← ident_is a f m w, ← entered-is, ← open_went.is, ← h) at (is_fun_lem l s m w c); ok = tt }

            module _ {c4 : Cursor} (q : t ≡ On c4) {v : Moved} (r : Expects s (T.Sign 41) c4 v) where
              named : Named s w c3 w1 c4
              named = rw q at p.ok

              named-is : answered (names_in s w1 c4.args, parser_of s m1 w1 c4) ≡ loop (parse_param (View.limits_of l) s) (turns s) [] (parser_of s m1 w c3)
              named-is = rw q at (p.is (View.limits_of l) m1)

              close-is : outcome s m1 w1 (moved_of v) ≡ R.expect s ")" (parser_of s m1 w1 c4)
              close-is = (r.moves ")" spelt_close).is m1 w1

              pub fun_no5 : {e : ℕ} → v ≡ Refused e → Fun l s m w c m1 w1 (OpenedFun.Refused e)
              unfolding fun_of
              fun_no5 z = record { is = let h = rw z at close-is in rw (← ident_is a f m w, ← entered-is, ← open_went.is, ← named-is, ← h) at (is_fun_lem l s m w c); ok = tt }

              module _ {c5 : Cursor} (z : v ≡ On c5) where
                close-on : (c5 ≡ move_cur c5.at c4) × ((c4.at + 1 ≤ c5.at) × (c4.at ≤ length s → c5.at ≤ length s))
                close-on = let h = rw z at (r.moves ")" spelt_close).ok in h

                whole_cur : c5 ≡ stack_cur c4.args (move_cur c5.at c3)
                whole_cur = close-on.0 ∙ ap (λ (y : Cursor). move_cur c5.at y) named.cur

                close-args : c5.args ≡ c4.args
                close-args = ap (λ (y : Cursor). y.args) close-on.0

                closed_is : answered (tt, parser_of s m1 w1 c5) ≡ R.expect s ")" (parser_of s m1 w1 c4)
                closed_is = rw z at close-is

                body-args : body_of (View.limits_of l) s (names_in s w1 c5.args) (parser_of s m1 w1 c5) ≡ body_of (View.limits_of l) s (names_in s w1 c4.args) (parser_of s m1 w1 c5)
                body-args = ap (λ n. body_of (View.limits_of l) s (names_in s w1 n) (parser_of s m1 w1 c5)) close-args

                module _ {m2 w2 : List ℕ} {o : Moved} (B : Takes (body_of (View.limits_of l) s (names_in s w1 c5.args)) 1 s m1 w1 c5 m2 w2 (moved_of o)) where
                  pub fun_no6 : {e : ℕ} → o ≡ Refused e → Fun l s m w c m2 w2 (OpenedFun.Refused e)
                  unfolding fun_of
                  fun_no6 y = record { is = let h = rw y at B.is ∙ body-args in rw (← ident_is a f m w, ← entered-is, ← open_went.is, ← named-is, ← closed_is, ← h) at (is_fun_lem l s m w c); ok = tt }

                  pub fun_yes : {c6 : Cursor} → o ≡ On c6 → Fun l s m w c m2 w2 (OpenedFun.Done c6 k)
                  unfolding fun_of
                  fun_yes y =
                      let ok = rw y at B.ok in
                      let q = entered.cur in
                      record {
                        is = let h = rw y at B.is ∙ body-args in rw (← ident_is a f m w, ← entered-is, ← open_went.is, ← named-is, ← closed_is, ← h) at (is_fun_lem l s m w c);
                        ok = (
                          ok.0,
                          record {
                            on = omega (arith, ok.1.on, close-on.1.0, named.further, open_went.step.on, entered_at, (ident_on a f).1.0);
                            class =
                                ok.1.class ∙ (ap (λ (y : Cursor). y.class) whole_cur
                                ∙ (open_went.step.class ∙ (ap (λ (y : Cursor). y.class) q ∙ ap (λ (y : Cursor). y.class) (ident_on a f).0)));
                            functions =
                                omega (
                                  arith,
                                  ok.1.functions,
                                  ap (λ (y : Cursor). y.counts.functions) whole_cur,
                                  open_went.step.functions,
                                  entered.functions,
                                  ap (λ (y : Cursor). y.counts.functions) (ident_on a f).0,
                                );
                            classes =
                                omega (
                                  arith,
                                  ok.1.classes,
                                  ap (λ (y : Cursor). y.counts.classes) whole_cur,
                                  open_went.step.classes,
                                  entered.classes,
                                  ap (λ (y : Cursor). y.counts.classes) (ident_on a f).0,
                                );
                          },
                        );
                      }

                  pub fun_known : {c6 : Cursor} → o ≡ On c6 → k.0 < c6.counts.functions
                  fun_known y =
                      let ok = rw y at B.ok in
                      omega (arith, ok.1.functions, ap (λ (y : Cursor). y.counts.functions) whole_cur, open_went.step.functions, entered.function)
