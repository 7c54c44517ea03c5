-- The ways through each reader: what the calls on the way gave, and what the rules then say. Assumes nothing.
use mathlib.Core.Bool.{Bool as 𝔹, true, false}
use mathlib.Core.Path.{◌≡◌, refl, sym, ap, ◌∙◌}
use mathlib.Core.List.{List, []}
use Prim.Native.Nat.{ℕ, ◌+◌, ◌-◌, ◌≤◌, ◌<◌}
use native.Mathlib.Omega.{arith}
use lib.ListN.{length}
use Rattle.ids.specs.declared.BlockId.{BlockId}
use Rattle.ids.specs.declared.InsnId.{InsnId}
use Rattle.std.specs.Prelude.{Ok, Err}
use Rattle.std.specs.declared.result.Result.{Result}
use Rattle.refusals.specs.Refusals.{number_of}
use Rattle.refusals.specs.declared.Refusal.{Refusal}
use Rattle.kinds.specs.declared.Kind.TheVariants.{Nil}
use Rattle.rules.specs.Actions.{Answer, answered, refused, if_answered}
use Rattle.rules.specs.Program as P
use Rattle.rules.specs.Program.{terminated}
use Rattle.rules.specs.Reading as R
use Rattle.rules.specs.Reading.{Parser, push_insn, push, new_block, end_block, parse_expr, parse_return}
use Rattle.variables.specs.Scopes.{over, env_of, Sorted}
use Rattle.variables.proofs.scopes.Made.{env_sorted}
use Rattle.variables.specs.Memory.{made, vars, row}
use Rattle.variables.specs.Promises.{Leaves}
use Rattle.lookups.specs.Look.{LookTells}
use Rattle.program.specs.Rows.{opnd_of, given}
use Rattle.program.specs.View as View
use Rattle.program.specs.declared.Counts.{Counts}
use Rattle.program.specs.declared.Given.{Given}
use Rattle.program.specs.declared.Given.TheVariants.{One}
use Rattle.program.specs.declared.bounds.Limits.{Limits}
use Rattle.program.specs.declared.Op.{Op}
use Rattle.program.specs.declared.Op.TheVariants.{IfTrue, Return}
use Rattle.program.specs.declared.Opnd.{Opnd}
use Rattle.program.specs.declared.Opnd.TheVariants.{Const}
use Rattle.phis.specs.Joining.{IfEnd}
use Rattle.phis.specs.declared.Blocks.{Blocks}
use Rattle.lexer.specs.declared.Token.TheVariants as T
use Rattle.lexer.specs.declared.Word.{Word}
use Rattle.cursor.specs.Cursor.{Cursor, parser_of, count_cur, In, CursorStep}
use Rattle.cursor.specs.Promises.{Out, outcome, CursorDid, Sees, Expects, parsed_of, moved_of}
use Rattle.cursor.specs.outcomes.Moved.{Moved}
use Rattle.cursor.specs.outcomes.Moved as On
use Rattle.cursor.specs.outcomes.Parsed.{Parsed, Done, Refused}
use Rattle.cursor.proofs.Laws.{after-step, Acted, got, gave, refuses, arrives, moved-did, added_did, step_less, step_trans}
use Rattle.cursor.proofs.Wording.{spelt_end, spelt_else, is-yes, is_no, word_read, peek-found, peek-none}
use Rattle.variables.specs.Layout.{entries_most, variables_size}
use Rattle.statements.specs.declared.Before.{Before}
use Rattle.statements.specs.declared.Branch.{Branch}
use Rattle.statements.specs.outcomes.Opened.{Opened}
use Rattle.statements.specs.outcomes.Opened as O
use Rattle.statements.specs.outcomes.Stops as H
use Rattle.statements.specs.Acts.{add_end, open_else, join_arms, join_value, finish_if, finish_else}
use Rattle.statements.specs.Shape.{block_cur, vars_cur, opened_of, halts, Halts, Opens, AddsEnd, EndsBlock, StatementInside, DidFrom, OpensElse}
use Rattle.statements.specs.Shape.{JoinsArms, FinishesElse, before_of, Arm}
use Rattle.statements.proofs.Steps.{keeps_low, keeps_vars, inside_then, few-vars, opened-there}
use Rattle.statements.proofs.Steps.{opens_did}

-- ---- the place where an `if` begins

module _ {b : Before} (c₀ : Cursor) (e : b ≡ before_of c₀) where
  pub place_block : b.block ≡ c₀.block
  place_block = ap (λ (z : Before). z.block) e

  pub place_vars : b.vars ≡ c₀.vars
  place_vars = ap (λ (z : Before). z.vars) e

  pub place_aside : b.aside ≡ c₀.aside
  place_aside = ap (λ (z : Before). z.aside) e

-- ---- additions to the tables

module _ (l : Limits) (m : List ℕ) (c : Cursor) {m' : List ℕ} (d : Counts) {r : Result BlockId Refusal}
    (g : View.ProgramDid (View.next_block (View.limits_of l)) View.unchanged c.counts.blocks (View.more_blocks c.counts) m c.counts m' (View.block_of d r)) where
  pub new-on : {b : BlockId} {x : Cursor} → r ≡ Ok b → x ≡ count_cur d c → Opens l m c m' (O.On x b)
  unfolding parser_of
  new-on {b} {x} o i =
      let ok = rw o at g.ok in
      record {
        is = λ s w. rw i (rw o at (g.is s (parser_of s m w c)));
        ok = rw i (
          record {
            ready = ok.ready;
            cur = refl;
            functions = ap (λ (z : Counts). z.functions) ok.counts;
            classes = ap (λ (z : Counts). z.classes) ok.counts;
            blocks = let z : d.blocks ≡ c.counts.blocks + 1 = ap (λ (z : Counts). z.blocks) ok.counts in omega arith;
          },
          let z : d.blocks ≡ c.counts.blocks + 1 = ap (λ (z : Counts). z.blocks) ok.counts in omega (arith, ok.number),
        );
      }

  pub new_no : {k : Refusal} {n : ℕ} → r ≡ Err k → n ≡ number_of k → Opens l m c m' (O.Refused n)
  unfolding parser_of
  new_no o i = record { is = λ s w. rw i (rw o at (g.is s (parser_of s m w c))); ok = tt }

-- an addition whose number nobody needs
abbrev unnumbered : Answer (ℕ × Parser) → Answer (Unit {0} × Parser)
unnumbered a = if_answered a (λ i. answered (tt, i.1))

module _ (l : Limits) (b : BlockId) (op : Op) (v : Given) (m : List ℕ) (c : Cursor) {m' : List ℕ} (d : Counts) {r : Result InsnId Refusal}
    (g : View.ProgramDid (View.pushing_of (View.limits_of l) b.0 op (given v)) View.unchanged c.counts.insns
    (View.more_insns op (length (given v)) c.counts) m c.counts m' (View.insn_of d r)) where
  pub end_on : {i : InsnId} {x : Cursor} → r ≡ Ok i → x ≡ count_cur d c → AddsEnd l b op v m c m' (On.On x)
  unfolding add_end parser_of
  end_on {i} {x} o e =
      let ok = rw o at g.ok in
      record {
        adds = λ s w. record {
          is = rw e (ap unnumbered (rw o at (g.is s (parser_of s m w c))));
          ok = rw e (record {
            ready = ok.ready;
            cur = refl;
            functions = ap (λ (z : Counts). z.functions) ok.counts;
            classes = ap (λ (z : Counts). z.classes) ok.counts;
            blocks = ap (λ (z : Counts). z.blocks) ok.counts;
          });
        };
      }

  pub end_no : {k : Refusal} {n : ℕ} → r ≡ Err k → n ≡ number_of k → AddsEnd l b op v m c m' (On.Refused n)
  unfolding add_end parser_of
  end_no o i = record { adds = λ s w. record { is = rw i (ap unnumbered (rw o at (g.is s (parser_of s m w c)))); ok = tt } }

-- ---- end_block

module _ (L : P.Limits) (s : List ℕ) (t : P.Terminator) (r : Parser) where
  end_shut : terminated r.program r.block ≡ true → answered (tt, r) ≡ end_block L s t r
  unfolding end_block
  end_shut h = rw h

  end_open : terminated r.program r.block ≡ false → add_end L r.block (P.Ends t) r ≡ end_block L s t r
  unfolding end_block add_end
  end_open h = rw h

module _ (l : Limits) (op : Op) (v : Given) (m : List ℕ) (c : Cursor) {t : 𝔹} (g : View.ProgramReady m c.counts) (u : LookTells m c.counts c.block.0 t) where
  pub ends_shut : t ≡ true → EndsBlock l op v m c m (On.On c)
  unfolding parser_of
  ends_shut e =
      record {
        adds = λ s w x i. record {
          is = end_shut (View.limits_of l) s x (parser_of s m w c) (sym (u.is s) ∙ e);
          ok = record { ready = g; cur = refl; functions = refl; classes = refl; blocks = refl };
        };
      }

  pub ends_open : {m' : List ℕ} {r : Moved} → t ≡ false → AddsEnd l c.block op v m c m' r → EndsBlock l op v m c m' r
  unfolding parser_of
  ends_open e a =
      record {
        adds = λ s w x i. record {
          is = (a.adds s w).is ∙ (ap (λ (o : P.Op). add_end (View.limits_of l) c.block.0 o (parser_of s m w c)) i ∙ end_open (View.limits_of l) s x (parser_of s m w c) (sym (u.is s) ∙ e));
          ok = (a.adds s w).ok;
        };
      }

-- ---- parse_return

return_rest : (L : P.Limits) (op : P.Op) (r : Parser)
    → if_answered {B = P.Opnd × Parser} (add_end L r.block op r) (λ o. answered (R.nil, o.1)) ≡ if_answered {B = P.Opnd × Parser} (push L op r) (λ o. answered (R.nil, o.1))
unfolding push add_end
return_rest L op r = go (push_insn L r.block op r)
  where
    go : (z : Answer (ℕ × Parser))
        → if_answered {A = Unit {0} × Parser} {B = P.Opnd × Parser} (if_answered z (λ i. answered (tt, i.1))) (λ o. answered (R.nil, o.1))
        ≡ if_answered {A = P.Opnd × Parser} {B = P.Opnd × Parser} (if_answered z (λ i. answered (P.Insn i.0, i.1))) (λ o. answered (R.nil, o.1))
    go (answered i) = refl
    go (refused n) = refl

module _ (l : Limits) (s : List ℕ) (d : ℕ) {m w : List ℕ} {c : Cursor} {p : Parsed} {m1 w1 : List ℕ} (a : CursorDid (parse_expr (View.limits_of l) s d 0) 1 s m w c m1 w1 (parsed_of p)) where
  pub return_no : {e : ℕ} → p ≡ Refused e → CursorDid (parse_return (View.limits_of l) s (parse_expr (View.limits_of l) s d)) 1 s m w c m1 w1 (parsed_of (Refused e))
  unfolding parse_return
  return_no e = refuses (rw (← gave a (ap parsed_of e)))

  module _ {c1 : Cursor} {v : Opnd} (e : p ≡ Done c1 v) where
    pub expr_in : In s m1 w1 c1
    expr_in = (got a (ap parsed_of e)).here

    module _ {m2 : List ℕ} {x : Moved} (b : AddsEnd l c1.block Return (One v) m1 c1 m2 x) where
      added : CursorDid (add_end (View.limits_of l) c1.block.0 (P.Ends (P.Return (opnd_of v)))) 0 s m1 w1 c1 m2 w1 (moved_of x)
      added = added_did (b.adds s w1) expr_in

      pub return_no2 : {k : ℕ} → x ≡ On.Refused k → CursorDid (parse_return (View.limits_of l) s (parse_expr (View.limits_of l) s d)) 1 s m w c m2 w1 (parsed_of (Refused k))
      unfolding parse_return parser_of
      return_no2 i = refuses (rw (← (got a (ap parsed_of e)).is, ← return_rest (View.limits_of l) (P.Ends (P.Return (opnd_of v))) (parser_of s m1 w1 c1), ← gave added (ap moved_of i)))

      pub return_yes : {c2 : Cursor} → x ≡ On.On c2 → CursorDid (parse_return (View.limits_of l) s (parse_expr (View.limits_of l) s d)) 1 s m w c m2 w1 (parsed_of (Done c2 (Const Nil)))
      unfolding parse_return parser_of
      return_yes i =
          let g = got added (ap moved_of i) in
          arrives (step_trans (got a (ap parsed_of e)).step g.step) (omega arith) g.here
          (rw (← (got a (ap parsed_of e)).is, ← return_rest (View.limits_of l) (P.Ends (P.Return (opnd_of v))) (parser_of s m1 w1 c1), ← g.is))

-- ---- at_end

module _ {s : List ℕ} {c : Cursor} {r : Result Word Refusal} (v : Sees s c r) where
  pub halts-none : (arm : 𝔹) {e : Refusal} → r ≡ Err e → Halts s arm c (H.Refused (number_of e))
  unfolding halts
  halts-none arm f = record { is = λ m w. rw (← peek-none v m w f); next = λ y g. let z : ◌≡◌ {A = ℕ} 0 1 = cc in absurd (omega arith) }

  module _ {x : Word} (f : r ≡ Ok x) where
    pub halts_end : (arm : 𝔹) → x.token ≡ T.End → Halts s arm c H.Here
    unfolding halts
    halts_end true k = record { is = λ m w. rw (← peek-found v m w f, is-yes x (word_read v f) "end" spelt_end k); next = λ y g. let z : ◌≡◌ {A = ℕ} 0 1 = cc in absurd (omega arith) }
    halts_end false k = record { is = λ m w. rw (← peek-found v m w f, is-yes x (word_read v f) "end" spelt_end k); next = λ y g. let z : ◌≡◌ {A = ℕ} 0 1 = cc in absurd (omega arith) }

    pub halts_else : {arm : 𝔹} → (x.token ≡ T.End → ⊥) → arm ≡ true → x.token ≡ T.Else → Halts s arm c H.Here
    unfolding halts
    halts_else k a j = record {
      is = λ m w. rw (a, ← peek-found v m w f, is_no x (word_read v f) "end" spelt_end k, is-yes x (word_read v f) "else" spelt_else j);
      next = λ y g. let z : ◌≡◌ {A = ℕ} 0 1 = cc in absurd (omega arith);
    }

    pub halts-not : {arm : 𝔹} → (x.token ≡ T.End → ⊥) → arm ≡ true → (x.token ≡ T.Else → ⊥) → Halts s arm c (H.Not x)
    unfolding halts
    halts-not k a j = record {
      is = λ m w. rw (a, ← peek-found v m w f, is_no x (word_read v f) "end" spelt_end k, is_no x (word_read v f) "else" spelt_else j);
      next = λ y g. let z : x ≡ y = cc in rw (f, z) at v;
    }

    pub halts-on : {arm : 𝔹} → (x.token ≡ T.End → ⊥) → arm ≡ false → Halts s arm c (H.Not x)
    unfolding halts
    halts-on k a = record { is = λ m w. rw (a, ← peek-found v m w f, is_no x (word_read v f) "end" spelt_end k); next = λ y g. let z : x ≡ y = cc in rw (f, z) at v }

-- ---- join_vars

module _ {s m w : List ℕ} {c₀ c : Cursor} (h : In s m w c) (i : StatementInside c₀ c) where
  module _ (l : Limits) (q : Blocks) (b : q.at.0 < c.counts.blocks) {w' m' : List ℕ} {d : Counts} {j : Result ℕ Refusal}
      (g : IfEnd s l q c₀.vars c.vars c₀.aside (c.aside - c₀.aside) w m c.counts w' m' d j) where
    pub vars_no : {e : Refusal} {n : ℕ} → j ≡ Err e → n ≡ number_of e → JoinsArms l s m w c₀ c q m' w' (On.Refused n)
    unfolding join_arms parser_of
    vars_no o i = record { is = λ left z. rw i (rw o at (g.is left z (R.with_block q.at.0 (parser_of s m w c)) refl)); ok = tt }

    pub vars-on : {n : ℕ} {x : Cursor} → j ≡ Ok n → x ≡ block_cur q.at (vars_cur n c₀.aside (count_cur d c)) → JoinsArms l s m w c₀ c q m' w' (On.On x)
    unfolding join_arms parser_of
    vars-on {n} {x} o e =
        let ok = rw o at g.ready in
        let k = ok.1.0 in
        let most : n ≤ c.vars + (c.aside - c₀.aside) = ok.1.1.1 in
        rw e (record {
          is = λ left z. rw o at (g.is left z (R.with_block q.at.0 (parser_of s m w c)) refl);
          ok = (
            record {
              ready = record {
                script = h.ready.script;
                inside = h.ready.inside;
                tables = ok.0;
                scratch = omega (arith, h.ready.scratch, g.len_same);
                room = record { script = h.ready.room.script; aside = i.low; law = omega (arith, h.ready.room.law, i.above, most) };
                args = h.ready.args;
              };
              block = omega (arith, k.blocks);
            },
            record {
              on = omega (arith, i.on);
              paid = omega (arith, i.paid, i.above, most);
              more = ok.1.1.0;
              aside = refl;
              args = i.args;
              class = i.class;
              receiver = i.receiver;
              functions = omega (arith, i.functions, k.functions);
              classes = omega (arith, i.classes, k.classes);
              blocks = omega (arith, i.blocks, k.blocks);
              old = λ a z. g.old.same a (omega arith) z;
              rows = λ a y z. g.aside.same a y z;
              stack = λ a y z. g.old.beyond a y;
            },
          );
        })

-- ---- open_else

open_state : (s m w w' : List ℕ) (c : Cursor) (f : BlockId) (n top : ℕ) → vars s w' n ≡ vars s w n
    → R.with_block f.0 (R.with_env (vars s w n) (parser_of s m w c)) ≡ parser_of s m w' (block_cur f (vars_cur n top c))
unfolding parser_of
open_state s m w w' c f n top e = rw e

module _ (l : Limits) {s m w : List ℕ} {c₀ c : Cursor} (q : Branch) (h : In s m w c) (a : Arm c₀ c q) {m1 : List ℕ} {x : Opened} (b : Opens l m c m1 x) where
  else_opened : CursorDid (new_block (View.limits_of l)) 0 s m w c m1 w (opened_of x)
  else_opened = opens_did b h

  pub open_no : {e : ℕ} → x ≡ O.Refused e → OpensElse l s m w c₀ c q m1 w (O.Refused e)
  unfolding open_else
  open_no e = record { is = rw (← gave else_opened (ap opened_of e)); ok = tt }

  module _ {c1 : Cursor} {f : BlockId} (e : x ≡ O.On c1 f) where
    pub open_in : In s m1 w c1
    open_in = (got else_opened (ap opened_of e)).here

    open_vars : c1.vars ≡ c.vars
    open_vars = let k = rw e at b.ok in ap (λ (z : Cursor). z.vars) k.0.cur

    module _ {m2 : List ℕ} {y : Moved} (g : AddsEnd l q.before.block (IfTrue q.first f) (One q.cond) m1 c1 m2 y) where
      else_adds : AddsEnd l c₀.block (IfTrue q.first f) (One q.cond) m1 c1 m2 y
      else_adds = rw (place_block c₀ a.place) at g

      else_chosen : CursorDid (add_end (View.limits_of l) c₀.block.0 (P.Ends (P.IfTrue (opnd_of q.cond) q.first.0 f.0))) 0 s m1 w c1 m2 w (moved_of y)
      else_chosen = added_did (else_adds.adds s w) open_in

      pub open_no2 : {k : ℕ} → y ≡ On.Refused k → OpensElse l s m w c₀ c q m2 w (O.Refused k)
      unfolding open_else
      open_no2 i = record { is = rw (← (got else_opened (ap opened_of e)).is, ← gave else_chosen (ap moved_of i)); ok = tt }

      module _ {c2 : Cursor} (i : y ≡ On.On c2) where
        chosen : Acted (add_end (View.limits_of l) c₀.block.0 (P.Ends (P.IfTrue (opnd_of q.cond) q.first.0 f.0))) 0 s m1 w c1 m2 w tt c2
        chosen = got else_chosen (ap moved_of i)

        chosen_vars : c2.vars ≡ c.vars
        chosen_vars = let k = rw i at (else_adds.adds s w).ok in ap (λ (z : Cursor). z.vars) k.cur ∙ open_vars

        steps : CursorStep 0 c w c2 w
        steps = step_less (omega arith) (step_trans (got else_opened (ap opened_of e)).step chosen.step)

        pub open_old : c₀.vars ≤ c2.vars
        open_old = omega (arith, a.inside.old, chosen_vars)

        pub open_part : (variables_size ≤ length w) × ((c₀.vars + (c2.vars - c₀.vars) ≤ c₀.aside) × (c₀.aside + (c2.vars - c₀.vars) ≤ entries_most))
        open_part =
            let k = chosen.here.ready in
            let z : c2.aside ≡ c₀.aside = steps.aside ∙ a.aside in
            let o : c₀.vars ≤ c2.vars = omega (arith, a.inside.old, chosen_vars) in
            (omega (arith, k.scratch), (omega (arith, k.room.law, k.room.script, k.room.aside), omega (arith, k.room.law, k.room.script, k.room.aside)))

        pub open_yes : {n : ℕ} {w' : List ℕ} {t : Cursor} → Leaves s c₀.vars (c2.vars - c₀.vars) c₀.aside w w' n → t ≡ block_cur f (vars_cur c₀.vars (c₀.aside + n) c2)
            → OpensElse l s m w c₀ c q m2 w' (O.On t f)
        unfolding open_else
        open_yes {n} {w'} {t} v u =
            let k = chosen.here.ready in
            let z : c2.aside ≡ c₀.aside = steps.aside ∙ a.aside in
            let o : c₀.vars ≤ c2.vars = omega (arith, a.inside.old, chosen_vars) in
            let i2 : StatementInside c₀ c2 = inside_then a.inside steps in
            let kept : vars s w' c₀.vars ≡ vars s w c₀.vars = keeps_vars s (keeps_low {c₀ = c₀} (few-vars h a.inside) v.low) in
            let behind : (c₀.aside + n) - c₀.aside ≡ n = omega arith in
            rw u (record {
              is = rw (← (got else_opened (ap opened_of e)).is, ← chosen.is) (ap (λ (p : Parser). answered (f.0, p)) (sym (open_state s m2 w w' c2 f c₀.vars (c₀.aside + n) kept)));
              ok = record {
                here = record {
                  ready = record {
                    script = k.script;
                    inside = k.inside;
                    tables = k.tables;
                    scratch = omega (arith, k.scratch, v.len_same);
                    room = record { script = k.room.script; aside = omega (arith, a.inside.low); law = omega (arith, k.room.law, v.less) };
                    args = k.args;
                  };
                  block = omega (arith, opened-there b e, chosen.step.blocks);
                };
                inside = record {
                  on = i2.on;
                  old = omega arith;
                  low = i2.low;
                  above = omega arith;
                  paid = omega (arith, i2.paid, v.less);
                  args = i2.args;
                  class = i2.class;
                  receiver = i2.receiver;
                  functions = i2.functions;
                  classes = i2.classes;
                  blocks = i2.blocks;
                };
                vars = refl;
                block = refl;
                row = rw behind (v.is ∙ ap (λ j. env_of (made s w c₀.vars (j - c₀.vars))) chosen_vars);
                blocks = steps.blocks;
                low = v.low;
              };
            })

-- ---- finish_if

module _ (l : Limits) {s m w : List ℕ} {c₀ c : Cursor} (q : Branch) (h : In s m w c) (a : Arm c₀ c q) {m1 : List ℕ} {x : Moved}
    (b : AddsEnd l q.before.block (IfTrue q.first q.join) (One q.cond) m c m1 x) where
  bare_adds : AddsEnd l c₀.block (IfTrue q.first q.join) (One q.cond) m c m1 x
  bare_adds = rw (place_block c₀ a.place) at b

  abbrev BareIf : List ℕ → List ℕ → Out P.Opnd → Type 0
  BareIf m' w' o =
      DidFrom (finish_if (View.limits_of l) s c₀.block.0 (vars s w c₀.vars) (opnd_of q.cond) q.first.0 q.join.0 q.last.0 (opnd_of q.value) (vars s w c.vars))
      1 s m w c₀ c m' w' o

  bare_chosen : CursorDid (add_end (View.limits_of l) c₀.block.0 (P.Ends (P.IfTrue (opnd_of q.cond) q.first.0 q.join.0))) 0 s m w c m1 w (moved_of x)
  bare_chosen = added_did (bare_adds.adds s w) h

  pub bare_no : {e : ℕ} → x ≡ On.Refused e → BareIf m1 w (parsed_of (Refused e))
  unfolding finish_if
  bare_no e = record { is = rw (← gave bare_chosen (ap moved_of e)); ok = tt }

  module _ {c1 : Cursor} (e : x ≡ On.On c1) where
    bare_went : Acted (add_end (View.limits_of l) c₀.block.0 (P.Ends (P.IfTrue (opnd_of q.cond) q.first.0 q.join.0))) 0 s m w c m1 w tt c1
    bare_went = got bare_chosen (ap moved_of e)

    pub bare_in : In s m1 w c1
    bare_in = bare_went.here

    pub bare_inside : StatementInside c₀ c1
    bare_inside = inside_then a.inside bare_went.step

    pub bare_join : q.join.0 < c1.counts.blocks
    bare_join = omega (arith, a.join, bare_went.step.blocks)

    bare_row : row s w c₀.aside (c1.aside - c₀.aside) ≡ env_of []
    unfolding row over
    bare_row = let z : c1.aside - c₀.aside ≡ 0 = omega (arith, bare_went.step.aside, a.aside) in rw z

    pub bare_sorted : Sorted (row s w c₀.aside (c1.aside - c₀.aside))
    bare_sorted = rw bare_row (env_sorted [])

    bare_vars : c1.vars ≡ c.vars
    bare_vars = let k = rw e at (bare_adds.adds s w).ok in ap (λ (z : Cursor). z.vars) k.cur

    module _ {m2 w2 : List ℕ} {y : Moved} (g : JoinsArms l s m1 w c₀ c1 (record { at = q.join; left = q.before.block; right = q.first }) m2 w2 y) where
      bare_arms : JoinsArms l s m1 w c₀ c1 (record { at = q.join; left = c₀.block; right = q.first }) m2 w2 y
      bare_arms = rw (place_block c₀ a.place) at g

      bare_joined : outcome s m2 w2 (moved_of y)
          ≡ join_arms (View.limits_of l) s q.join.0 (vars s w c₀.vars) c₀.block.0 (vars s w c₀.vars) q.first.0 (vars s w c.vars) (parser_of s m1 w c1)
      unfolding over
      bare_joined =
          bare_arms.is [] bare_row
          ∙ ap (λ n. join_arms (View.limits_of l) s q.join.0 (vars s w c₀.vars) c₀.block.0 (vars s w c₀.vars) q.first.0 (vars s w n) (parser_of s m1 w c1)) bare_vars

      pub bare_no2 : {k : ℕ} → y ≡ On.Refused k → BareIf m2 w2 (parsed_of (Refused k))
      unfolding finish_if
      bare_no2 i = let k = rw i at bare_joined in record { is = rw (← bare_went.is, ← k); ok = tt }

      module _ {c2 : Cursor} (i : y ≡ On.On c2) where
        pub bare_in2 : In s m2 w2 c2
        bare_in2 = let k = rw i at bare_arms.ok in k.0

        pub bare_yes : {m3 w3 : List ℕ} {p : Out P.Opnd} → CursorDid (join_value (View.limits_of l) s c₀.block.0 R.nil q.last.0 (opnd_of q.value)) 1 s m2 w2 c2 m3 w3 p
            → BareIf m3 w3 p
        unfolding finish_if
        bare_yes {m3} {w3} {p} d =
            let k = rw i at bare_joined in
            let o = rw i at bare_arms.ok in
            record { is = rw (← bare_went.is, ← k) d.is; ok = after-step 1 1 s m3 w3 p o.1 (omega arith) d.ok }

-- ---- finish_else

module _ (l : Limits) {s m w : List ℕ} {c₀ c : Cursor} (q : Branch) (b : BlockId) (z : Opnd) {m1 w1 : List ℕ} {y : Moved}
    (g : JoinsArms l s m w c₀ c (record { at = q.join; left = q.first; right = b }) m1 w1 y) where
  pub both_no : {e : ℕ} → y ≡ On.Refused e → FinishesElse l s m w c₀ c q b z m1 w1 (Refused e)
  unfolding finish_else parser_of
  both_no e = record { is = λ left r. let k = rw e at (g.is left r) in rw (← k); ok = tt }

  module _ {c1 : Cursor} (e : y ≡ On.On c1) where
    pub both_yes : {m2 w2 : List ℕ} {p : Parsed} → CursorDid (join_value (View.limits_of l) s q.last.0 (opnd_of q.value) c.block.0 (opnd_of z)) 1 s m1 w1 c1 m2 w2 (parsed_of p)
        → FinishesElse l s m w c₀ c q b z m2 w2 p
    unfolding finish_else parser_of
    both_yes {m2} {w2} {p} d =
        let o = rw e at g.ok in
        record {
          is = λ left r. let k = rw e at (g.is left r) in rw (← k) d.is;
          ok = after-step 1 1 s m2 w2 (parsed_of p) o.1 (omega arith) d.ok;
        }

-- ---- an `end` that was asked for: behind it the reader is inside the function still

module _ {s m w : List ℕ} {c : Cursor} {x : Moved} (h : In s m w c) (a : Expects s T.End c x) where
  pub value_in_lem : {c1 : Cursor} → x ≡ On.On c1 → In s m w c1
  value_in_lem e = let d : CursorDid (R.expect s "end") 1 s m w c m w (moved_of x) = moved-did (a.moves "end" spelt_end) h in (got d (ap moved_of e)).here
