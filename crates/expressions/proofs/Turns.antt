-- The ways through the readers of arguments and of what follows an operand. Assumes nothing.
use mathlib.Core.Bool.{Bool, true, false, cond}
use mathlib.Core.Option.{Option, none, some}
use mathlib.Core.Path.{◌≡◌, refl, sym, ap, ◌∙◌}
use mathlib.Core.List.{List, [], ◌∷◌, ◌++◌}
use Prim.Native.Nat.{ℕ, ◌+◌, ◌-◌, ◌*◌, ◌≤◌, ◌<◌}
use Prim.Native.String.{String}
use native.Mathlib.Omega.{arith}
use lib.Dec.{eqb, ltb}
use Rattle.kinds.specs.declared.Arith.{Arith}
use Rattle.kinds.specs.declared.Arith.TheVariants.{Add, Sub, Mul, Less}
use Rattle.rules.specs.Actions.{answered, Turn, again, ends, loop, when◌then◌else◌, give}
use Rattle.rules.specs.Program as P
use Rattle.rules.specs.Words.{is}
use Rattle.rules.specs.Reading.{Parser, Reads, pass, expect, turns, Operator, operator, on_with, parse_arg, parse_args, parse_call, parse_member, parse_right, parse_suffix}
use Rattle.lexer.specs.Lexed.{text_of, word_in, Glances}
use Rattle.std.specs.Prelude.{Option as Maybe, Some, None, Result, Ok, Err}
use Rattle.refusals.specs.declared.Refusal.{Refusal}
use Rattle.refusals.specs.Refusals.{number_of}
use Rattle.lexer.specs.declared.Token.TheVariants as T
use Rattle.lexer.specs.declared.Word.{Word}
use Rattle.lexer.proofs.Lexes.{signed, unsigned, unseen}
use Rattle.lexer.proofs.Texts.{byte_of, same_sign, byte_none}
use Rattle.program.specs.Rows.{opnds_in, opnd_of}
use Rattle.program.specs.Tab.{tab}
use Rattle.program.specs.declared.Opnd.{Opnd}
use Rattle.cursor.specs.Cursor.{parser_of, waiting, move_cur, stack_cur, In, CursorStep}
use Rattle.cursor.specs.Promises.{CursorDid, Stacks, Sees, Expects, CursorMatches, Spelt, parsed_of}
use Rattle.cursor.specs.Cursor.{Cursor}
use Rattle.cursor.specs.outcomes.Parsed.{Parsed, Done, Refused}
use Rattle.cursor.specs.outcomes.Moved.{Moved}
use Rattle.cursor.specs.outcomes.Matched.{Matched}
use Rattle.cursor.proofs.Laws.{step-none, step_less, step_trans, Acted, got, gave, refuses, arrives}
use Rattle.cursor.proofs.Wording.{is-yes, is_no, spelt_open, spelt_close, spelt_comma, spelt_plus, spelt_minus, spelt_times, spelt_less, spelt_dot, word_read, peek-found, peek-none, glanced}
use Rattle.expressions.specs.Readers.{again_of, taken_of, ArgDid, ArgsDid, suffixed_of, SuffixDid}
use Rattle.expressions.specs.outcomes.ArgTurn.{ArgTurn}
use Rattle.expressions.specs.outcomes.Args.{Args}
use Rattle.expressions.specs.outcomes.Suffixed.{Suffixed}
use Rattle.expressions.proofs.Loops.{Loops, loops_start, loops_on, loops_end, loops_stop}
use Rattle.expressions.proofs.Stack.{height_free, waiting-same, stacks_args, stacks_at, stacks_more, stacks_state, stacks_in, stacks_step, step_height, step_from}
use Rattle.expressions.proofs.Ways.{match_went, match_not, match_gave, expect-went, expect_gave, Suffix, weighed as made, suffix_of, suffix_low, sign_passed}

module _ (L : P.Limits) (s : List ℕ) (E : ℕ → Reads P.Opnd) where
  -- ---- one argument

  module _ {m w : List ℕ} {c : Cursor} {r : Result Word Refusal} (see : Sees s c r) where
    pub arg_none : {m' w' : List ℕ} {n : Refusal} → r ≡ Err n → ArgDid L s E m w c m' w' (ArgTurn.Refused (number_of n))
    unfolding parse_arg
    arg_none e = record { is = λ k l. rw (← peek-none see m w e); ok = tt }

    module _ {x : Word} (e : r ≡ Ok x) (h : In s m w c) where
      pub arg_close : x.token ≡ T.Sign 41 → ArgDid L s E m w c m w (ArgTurn.Ends c)
      unfolding parse_arg
      arg_close k =
          record {
            is = λ j l. rw (← peek-found see m w e, is-yes x (word_read see e) ")" spelt_close k);
            ok = record { here = h; step = step_height (step-none c w); more = omega arith };
          }

      module _ (no : x.token ≡ T.Sign 41 → ⊥) {m1 w1 : List ℕ} {p : Parsed} (d : CursorDid (E 0) 1 s m w c m1 w1 (parsed_of p)) where
        pub arg_no1 : {n : ℕ} → p ≡ Refused n → ArgDid L s E m w c m1 w1 (ArgTurn.Refused n)
        unfolding parse_arg
        arg_no1 f =
            record { is = λ j l. rw (← peek-found see m w e, is_no x (word_read see e) ")" spelt_close no, ← gave d (ap parsed_of f)); ok = tt }

        module _ (low : 2 * c.args < c.at) {c1 : Cursor} {v : Opnd} (f : p ≡ Done c1 v) where
          at_arg : Acted (E 0) 1 s m w c m1 w1 (opnd_of v) c1
          at_arg = got d (ap parsed_of f)

          room : 2 * (c1.args + 1) ≤ c1.at
          room = omega (arith, at_arg.step.args, at_arg.step.on)

          module _ {c2 : Cursor} {w2 : List ℕ} (st : Stacks v c1 w1 w2 c2) where
            pub arg_here : In s m1 w2 c2
            arg_here = stacks_in st at_arg.here room

            arg_list : (k : ℕ) → k ≤ c.args → waiting w2 k (c2.args - k) ≡ waiting w k (c.args - k) ++ opnd_of v ∷ []
            arg_list k l =
                let a = at_arg.step.args in
                stacks_more st k (omega arith)
                ∙ ap (λ z. z ++ opnd_of v ∷ []) (ap (λ n. waiting w1 k (n - k)) a ∙ waiting-same w w1 k (c.args - k) c.args (omega arith) at_arg.step.stack)

            arg_step : CursorStep 1 c w (stack_cur c.args c2) w2
            arg_step = rw at_arg.step.args at (step_trans at_arg.step (stacks_step st at_arg.here))

            module _ {q : Matched} (y : CursorMatches s (T.Sign 44) c2 q) where
              pub arg_no2 : {n : ℕ} → q ≡ Matched.Refused n → ArgDid L s E m w c m1 w2 (ArgTurn.Refused n)
              unfolding parse_arg
              arg_no2 g =
                  record {
                    is = λ j l.
                        rw (
                          ← peek-found see m w e,
                          is_no x (word_read see e) ")" spelt_close no,
                          ← at_arg.is,
                          ← stacks_state st at_arg.here,
                          ← match_gave arg_here "," y spelt_comma g,
                        );
                    ok = tt;
                  }

              pub arg_last : q ≡ Matched.Not → ArgDid L s E m w c m1 w2 (ArgTurn.Ends c2)
              unfolding parse_arg
              arg_last g =
                  record {
                    is = λ j l.
                        ap (λ z. answered (ends z, parser_of s m1 w2 c2)) (arg_list j l)
                        ∙ rw (
                          ← peek-found see m w e,
                          is_no x (word_read see e) ")" spelt_close no,
                          ← at_arg.is,
                          ← stacks_state st at_arg.here,
                          ← match_not arg_here "," y spelt_comma g,
                        );
                    ok = record { here = arg_here; step = step_less (omega arith) arg_step; more = omega (arith, stacks_args st, at_arg.step.args) };
                  }

              pub arg_more : {c3 : Cursor} → q ≡ Matched.Yes c3 → ArgDid L s E m w c m1 w2 (ArgTurn.Again c3)
              unfolding parse_arg
              arg_more {c3 = c3} g =
                  let b = match_went arg_here "," y spelt_comma g in
                  let a = b.step.args in
                  record {
                    is = λ j l.
                        ap (λ z. answered (again z, parser_of s m1 w2 c3)) (ap (λ n. waiting w2 j (n - j)) a ∙ arg_list j l)
                        ∙ rw
                        (← peek-found see m w e, is_no x (word_read see e) ")" spelt_close no, ← at_arg.is, ← stacks_state st at_arg.here, ← b.is);
                    ok = (
                      record {
                        here = b.here;
                        step = step_less (omega arith) (step_trans arg_step (step_from c.args (omega (arith, stacks_args st, at_arg.step.args)) b.step));
                        more = omega (arith, stacks_args st, at_arg.step.args);
                      },
                      omega (arith, stacks_args st, stacks_at st, b.step.on, room),
                    );
                  }

  -- ---- all arguments

  none_wait : (w : List ℕ) (k : ℕ) → waiting w k (k - k) ≡ []
  unfolding waiting opnds_in tab
  none_wait w k = let e : k - k ≡ 0 = omega arith in rw e

  pub record ArgsInv (m₀ w₀ : List ℕ) (c₀ : Cursor) (m w : List ℕ) (c : Cursor) : Type 0 where
    pub loops : Loops (parse_arg L s E) s [] (parser_of s m₀ w₀ c₀) (waiting w c₀.args (c.args - c₀.args)) (parser_of s m w c) c.at
    pub here : In s m w c
    pub step : CursorStep 0 c₀ w₀ (stack_cur c₀.args c) w
    pub more : c₀.args ≤ c.args
    pub room : 2 * c.args < c.at

  pub args-start : {m w : List ℕ} {c : Cursor} → In s m w c → 2 * c.args < c.at → ArgsInv m w c m w c
  args-start {m = m} {w = w} {c = c} h l =
      record {
        loops = rw (none_wait w c.args) (loops_start (parse_arg L s E) s [] (parser_of s m w c) c.at);
        here = h;
        step = step_height (step-none c w);
        more = omega arith;
        room = l;
      }

  module _ {m₀ w₀ m w m1 w1 : List ℕ} {c₀ c : Cursor} {r : ArgTurn} (i : ArgsInv m₀ w₀ c₀ m w c) (d : ArgDid L s E m w c m1 w1 r) where
    module _ {c1 : Cursor} (e : r ≡ ArgTurn.Again c1) where
      gone : ArgDid L s E m w c m1 w1 (ArgTurn.Again c1)
      gone = rw e at d

      pub args-again : ArgsInv m₀ w₀ c₀ m1 w1 c1
      args-again =
          let g = gone.ok.0 in
          record {
            loops = loops_on (parse_arg L s E) s i.loops i.here.ready.inside _ _ c1.at (gone.is c₀.args i.more) (omega (arith, g.step.on));
            here = g.here;
            step = step_less (omega arith) (step_trans i.step (step_from c₀.args i.more g.step));
            more = omega (arith, i.more, g.more);
            room = gone.ok.1;
          }

    pub args_no1 : {n : ℕ} → r ≡ ArgTurn.Refused n → ArgsDid (parse_args L s E) s m₀ w₀ c₀ m1 w1 (Args.Refused n)
    unfolding parse_args
    args_no1 e =
        let g = rw e at d in
        record {
          did = refuses (rw (← loops_stop (parse_arg L s E) s i.loops i.here.ready.inside _ (g.is c₀.args i.more)));
          few = λ c' n f. let z : ◌≡◌ {A = ℕ} 0 1 = cc in absurd (omega arith);
        }

    module _ {c1 : Cursor} (e : r ≡ ArgTurn.Ends c1) where
      ended : ArgDid L s E m w c m1 w1 (ArgTurn.Ends c1)
      ended = rw e at d

      pub args-here : In s m1 w1 c1
      args-here = ended.ok.here

      all-args : answered (waiting w1 c₀.args (c1.args - c₀.args), parser_of s m1 w1 c1) ≡ loop (parse_arg L s E) (turns s) [] (parser_of s m₀ w₀ c₀)
      all-args = loops_end (parse_arg L s E) s i.loops i.here.ready.inside _ _ (ended.is c₀.args i.more)

      module _ {q : Moved} (y : Expects s (T.Sign 41) c1 q) where
        pub args_no2 : {n : ℕ} → q ≡ Moved.Refused n → ArgsDid (parse_args L s E) s m₀ w₀ c₀ m1 w1 (Args.Refused n)
        unfolding parse_args
        args_no2 f =
            record {
              did = refuses (rw (← all-args, ← expect_gave args-here ")" y spelt_close f));
              few = λ c' n g. let z : ◌≡◌ {A = ℕ} 0 1 = cc in absurd (omega arith);
            }

        module _ {c2 : Cursor} (f : q ≡ Moved.On c2) where
          at-close : Acted (expect s ")") 1 s m1 w1 c1 m1 w1 tt c2
          at-close = expect-went args-here ")" y spelt_close f

          pub args_high : c₀.args ≤ c2.args
          args_high = omega (arith, at-close.step.args, ended.ok.more, i.more)

          lower : In s m1 w1 (stack_cur c₀.args c2)
          lower =
              let h = at-close.here in
              record {
                ready = record {
                  script = h.ready.script;
                  inside = h.ready.inside;
                  tables = h.ready.tables;
                  scratch = h.ready.scratch;
                  room = h.ready.room;
                  args = omega (arith, h.ready.args, args_high);
                };
                block = h.block;
              }

          whole : CursorStep 1 c₀ w₀ (stack_cur c₀.args c2) w1
          whole =
              step_less (omega arith)
              (step_trans (step_trans i.step (step_from c₀.args i.more ended.ok.step))
              (step_from c₀.args (omega (arith, ended.ok.more, i.more)) at-close.step))

          pub args_done : ArgsDid (parse_args L s E) s m₀ w₀ c₀ m1 w1 (taken_of c₀.args c2)
          unfolding parse_args
          args_done =
              let a = at-close.step.args in
              (record {
                did =
                    arrives whole (omega arith) lower
                    (ap (λ (z : Parser). answered (waiting w1 c₀.args (c2.args - c₀.args), z)) (height_free s m1 w1 c2 c₀.args)
                    ∙ (ap (λ n. answered (waiting w1 c₀.args (n - c₀.args), parser_of s m1 w1 c2)) a ∙ rw (← all-args, ← at-close.is)));
                few = λ c' n k.
                    let z : n ≡ c2.args - c₀.args = cc in
                    let y : c' ≡ stack_cur c₀.args c2 = cc in
                    let u : c'.args ≡ c₀.args = ap (λ (d : Cursor). d.args) y in
                    omega (arith, args_high, at-close.here.ready.args, at-close.here.ready.inside, at-close.here.ready.script);
              })

  -- ---- one thing behind an operand

  module _ (prec : ℕ) (v : P.Opnd) where
    abbrev on_suffix : Suffix → Reads (Turn P.Opnd P.Opnd)
    on_suffix (Suffix.Operator o right) = on_with L s E (parse_right L s E (operator o 0 right) v)
    on_suffix Suffix.Call = on_with L s E (parse_call L s E v)
    on_suffix Suffix.Member = on_with L s E (parse_member L s E v)
    on_suffix Suffix.Ends = give (ends v)

    -- the rules' choice, over what the tests of the word come to
    abbrev on_operator : Option Operator → Bool → Bool → Reads (Turn P.Opnd P.Opnd)
    on_operator u f g = elim u [
      | some o ↦ when ltb o.prec prec then give (ends v) else on_with L s E (parse_right L s E o v)
      | none ↦
          when f then on_with L s E (parse_call L s E v)
          else when g then on_with L s E (parse_member L s E v)
          else give (ends v)
    ]

    abbrev by_tests : Bool → Bool → Bool → Bool → Option Operator
    by_tests a b d e = cond a (some (operator Less 0 1)) (cond b (some (operator Add 1 1)) (cond d (some (operator Sub 1 2)) (cond e (some (operator Mul 3 3)) none)))

    four : {a a' b b' d d' e e' : Bool} → a ≡ a' → b ≡ b' → d ≡ d' → e ≡ e' → by_tests a b d e ≡ by_tests a' b' d' e'
    four p q x y i = by_tests (p i) (q i) (x i) (y i)

    three : {u u' : Option Operator} {f f' g g' : Bool} (r : Parser) → u ≡ u' → f ≡ f' → g ≡ g' → on_operator u f g r ≡ on_operator u' f' g' r
    three r p q x i = on_operator (p i) (q i) (x i) r

    weighed : (t : Bool) (o : Arith) (n right : ℕ) (r : Parser)
        → on_suffix (cond t Suffix.Ends (Suffix.Operator o right)) r ≡ (when t then give (ends v) else on_with L s E (parse_right L s E (operator o n right) v)) r
    unfolding parse_right
    weighed true o n right r = refl
    weighed false o n right r = refl

    table : (a b d e f g : Bool) (r : Parser)
        → on_suffix (cond a (made Less 0 1 prec) (cond b (made Add 1 1 prec) (cond d (made Sub 1 2 prec) (cond e (made Mul 3 3 prec) (cond f Suffix.Call (cond g Suffix.Member Suffix.Ends)))))) r
        ≡ on_operator (by_tests a b d e) f g r
    table true b d e f g r = weighed (ltb 0 prec) Less 0 1 r
    table false true d e f g r = weighed (ltb 1 prec) Add 1 1 r
    table false false true e f g r = weighed (ltb 1 prec) Sub 1 2 r
    table false false false true f g r = weighed (ltb 3 prec) Mul 3 3 r
    table false false false false true g r = refl
    table false false false false false true r = refl
    table false false false false false false r = refl

    module _ {c : Cursor} {r : Result Word Refusal} {x : Word} (see : Sees s c r) (e : r ≡ Ok x) where
      by : (b : ℕ) (t : String) → eqb 0 b ≡ false → Spelt (T.Sign b) t → is (word_in s x) t ≡ eqb (byte_of x.token) b
      by b t z sp = rw (word_read see e).token (sp (text_of s x)) ∙ same_sign x.token b z

      suffix_is : (m w : List ℕ) → on_suffix (suffix_of (byte_of x.token) prec) (parser_of s m w c) ≡ parse_suffix L s E prec v (parser_of s m w c)
      unfolding parse_suffix suffix_of
      suffix_is m w =
          table (eqb (byte_of x.token) 60) (eqb (byte_of x.token) 43) (eqb (byte_of x.token) 45) (eqb (byte_of x.token) 42) (eqb (byte_of x.token) 40) (eqb (byte_of x.token) 46) (parser_of s m w c)
          ∙ (three (parser_of s m w c) (sym (four (by 60 "<" refl spelt_less) (by 43 "+" refl spelt_plus) (by 45 "-" refl spelt_minus) (by 42 "*" refl spelt_times)))
          (sym (by 40 "(" refl spelt_open)) (sym (by 46 "." refl spelt_dot))
          ∙ rw (← peek-found see m w e))

  module _ {m w : List ℕ} {c : Cursor} {g : Result (Maybe (ℕ × ℕ)) Refusal} (prec : ℕ) (v : Opnd) (l : Glances s c.at g) where
    pub suffix_none : {m' w' : List ℕ} {n : Refusal} → g ≡ Err n → SuffixDid (parse_suffix L s E prec (opnd_of v)) v s m w c m' w' (Suffixed.Refused (number_of n))
    unfolding parse_suffix
    suffix_none e =
        record {
          did = refuses (rw (← peek-none (glanced c l) m w (unseen l.word (sym e ∙ l.is))));
          further = λ c' v' f. let z : ◌≡◌ {A = ℕ} 0 1 = cc in absurd (omega arith);
        }

    ends-here : In s m w c → on_suffix prec (opnd_of v) Suffix.Ends (parser_of s m w c) ≡ parse_suffix L s E prec (opnd_of v) (parser_of s m w c)
        → SuffixDid (parse_suffix L s E prec (opnd_of v)) v s m w c m w Suffixed.Ends
    ends-here h e =
        record {
          did = arrives (step-none c w) (omega arith) h e;
          further = λ c' v' f. let z : ◌≡◌ {A = ℕ} 0 1 = cc in absurd (omega arith);
        }

    pub suffix_none_ahead : g ≡ Ok None → In s m w c → SuffixDid (parse_suffix L s E prec (opnd_of v)) v s m w c m w Suffixed.Ends
    suffix_none_ahead e h =
        let y = unsigned l.word (sym e ∙ l.is) in
        ends-here h (rw (byte_none y.word.token y.other, suffix_low 0 prec (omega arith)) at (suffix_is prec (opnd_of v) (glanced c l) y.found m w))

    module _ {k n : ℕ} {q : Suffix} (e : g ≡ Ok (Some (k, n))) (h : In s m w c) (t : q ≡ suffix_of k prec) where
      sign-is : on_suffix prec (opnd_of v) q (parser_of s m w c) ≡ parse_suffix L s E prec (opnd_of v) (parser_of s m w c)
      sign-is =
          let y = signed l.word (sym e ∙ l.is) in
          ap (λ (z : Suffix). on_suffix prec (opnd_of v) z (parser_of s m w c)) (t ∙ ap (λ j. suffix_of j prec) (sym (ap byte_of y.token)))
          ∙ suffix_is prec (opnd_of v) (glanced c l) y.found m w

      pub suffix_ends : q ≡ Suffix.Ends → SuffixDid (parse_suffix L s E prec (opnd_of v)) v s m w c m w Suffixed.Ends
      suffix_ends f = ends-here h (rw f at sign-is)

      on-ok : {m1 w1 : List ℕ} {c' : Cursor} (f : Reads P.Opnd) (p : Parsed) → Acted (pass s) 1 s m w c m w tt c' → CursorDid f 1 s m w c' m1 w1 (parsed_of p)
          → on_with L s E f (parser_of s m w c) ≡ parse_suffix L s E prec (opnd_of v) (parser_of s m w c)
          → SuffixDid (parse_suffix L s E prec (opnd_of v)) v s m w c m1 w1 (again_of p)
      on-ok f (Done c2 v2) a d g =
          record {
            did = arrives (step_trans a.step d.ok.1) (omega arith) d.ok.0 (rw (← a.is, ← d.is) at g);
            further = λ c' v' k. let z : c' ≡ c2 = cc in rw z (omega (arith, a.step.on, d.ok.1.on));
          }
      on-ok f (Refused n) a d g =
          record {
            did = refuses (rw (← a.is, ← d.is) at g);
            further = λ c' v' k. let z : ◌≡◌ {A = ℕ} 0 1 = cc in absurd (omega arith);
          }

      module _ {c' : Cursor} (j : c' ≡ move_cur n c) where
        module _ {m1 w1 : List ℕ} (p : Parsed) where
          pub suffix_operator : {o : Arith} {right : ℕ} → q ≡ Suffix.Operator o right → CursorDid (parse_right L s E (operator o 0 right) (opnd_of v)) 1 s m w c' m1 w1 (parsed_of p)
              → SuffixDid (parse_suffix L s E prec (opnd_of v)) v s m w c m1 w1 (again_of p)
          suffix_operator f d =
              let a = sign_passed h l e j in
              on-ok _ p a d (rw f at sign-is)

          pub suffix_call : q ≡ Suffix.Call → CursorDid (parse_call L s E (opnd_of v)) 1 s m w c' m1 w1 (parsed_of p) → SuffixDid (parse_suffix L s E prec (opnd_of v)) v s m w c m1 w1 (again_of p)
          suffix_call f d =
              let a = sign_passed h l e j in
              on-ok _ p a d (rw f at sign-is)

          pub suffix_member : q ≡ Suffix.Member → CursorDid (parse_member L s E (opnd_of v)) 1 s m w c' m1 w1 (parsed_of p)
              → SuffixDid (parse_suffix L s E prec (opnd_of v)) v s m w c m1 w1 (again_of p)
          suffix_member f d =
              let a = sign_passed h l e j in
              on-ok _ p a d (rw f at sign-is)

  -- ---- all that follows an operand

  pub record SuffixInv (prec : ℕ) (m₀ w₀ : List ℕ) (c₀ : Cursor) (v₀ : Opnd) (m w : List ℕ) (c : Cursor) (v : Opnd) : Type 0 where
    pub loops : Loops (parse_suffix L s E prec) s (opnd_of v₀) (parser_of s m₀ w₀ c₀) (opnd_of v) (parser_of s m w c) c.at
    pub here : In s m w c
    pub step : CursorStep 0 c₀ w₀ c w

  pub suffixes_start : (prec : ℕ) {m w : List ℕ} {c : Cursor} (v : Opnd) → In s m w c → SuffixInv prec m w c v m w c v
  suffixes_start prec {m = m} {w = w} {c = c} v h =
      record { loops = loops_start (parse_suffix L s E prec) s (opnd_of v) (parser_of s m w c) c.at; here = h; step = step-none c w }

  module _ {prec : ℕ} {m₀ w₀ m w m1 w1 : List ℕ} {c₀ c : Cursor} {v₀ v : Opnd} {r : Suffixed} (i : SuffixInv prec m₀ w₀ c₀ v₀ m w c v)
      (d : SuffixDid (parse_suffix L s E prec (opnd_of v)) v s m w c m1 w1 r) where
    module _ {c1 : Cursor} {v1 : Opnd} (e : r ≡ Suffixed.Again c1 v1) where
      at_next : Acted (parse_suffix L s E prec (opnd_of v)) 0 s m w c m1 w1 (again (opnd_of v1)) c1
      at_next = got d.did (ap (suffixed_of c v) e)

      pub suffixes_again : SuffixInv prec m₀ w₀ c₀ v₀ m1 w1 c1 v1
      suffixes_again =
          record {
            loops = loops_on (parse_suffix L s E prec) s i.loops i.here.ready.inside _ _ c1.at at_next.is (d.further c1 v1 e);
            here = at_next.here;
            step = step_trans i.step at_next.step;
          }

    pub suffixes_no : {n : ℕ} → r ≡ Suffixed.Refused n → CursorDid (loop (parse_suffix L s E prec) (turns s) (opnd_of v₀)) 0 s m₀ w₀ c₀ m1 w1 (parsed_of (Refused n))
    suffixes_no e = refuses (loops_stop (parse_suffix L s E prec) s i.loops i.here.ready.inside _ (gave d.did (ap (suffixed_of c v) e)))
