-- What each way through the functions shows, on plain values. Assumes nothing.
use mathlib.Core.Path.{◌≡◌, refl, sym, ap, ◌∙◌}
use mathlib.Core.List.{List, [], ◌∷◌, ◌++◌}
use mathlib.Core.Option.{some}
use Prim.Native.Nat.{ℕ, zero, suc, ◌+◌, ◌-◌, ◌*◌, ◌≤◌, ◌<◌}
use native.Mathlib.Numerals.{add-one}
use native.Mathlib.Omega.{arith}
use lib.ListN.{length, get_or}
use Rattle.ids.specs.declared.BlockId.{BlockId}
use Rattle.ids.specs.declared.ClassId.{ClassId}
use Rattle.ids.specs.declared.FunId.{FunId}
use Rattle.ids.specs.declared.InsnId.{InsnId}
use Rattle.rules.specs.Actions.{Answer, answered, refused, if_answered, again, ends, loop}
use Rattle.rules.specs.Program as P
use Rattle.rules.specs.Reading.{Parser, with_env, with_self, bind, push, parse_param, turns, push_params, push_self}
use Rattle.variables.specs.Scopes.{env_of}
use Rattle.variables.specs.Memory.{entry, vars}
use Rattle.variables.proofs.Entries.{made_move, kept_trans, kept-part}
use Rattle.phis.specs.Joining.{PhisSets}
use Rattle.lexer.specs.declared.Token.TheVariants as T
use Rattle.lexer.specs.declared.Word.{Word}
use Rattle.program.specs.Rows.{name_in, owner_in}
use Rattle.program.specs.View as View
use Rattle.program.specs.declared.Counts.{Counts}
use Rattle.program.specs.declared.bounds.Limits.{Limits}
use Rattle.program.specs.declared.Name.{Name}
use Rattle.program.specs.declared.Op.TheVariants as Op
use Rattle.program.specs.declared.Opnd.{Opnd}
use Rattle.std.specs.declared.option.Option.{Option as Maybe}
use Rattle.std.specs.Prelude.{Result, Ok, Err}
use Rattle.refusals.specs.declared.Refusal.{Refusal}
use Rattle.refusals.specs.Refusals.{number_of}
use Rattle.cursor.specs.Cursor.{Cursor, parser_of, move_cur, count_cur, stack_cur, bind_cur}
use Rattle.cursor.specs.Promises.{outcome, CursorAdds, Sees, Idents, CursorMatches, moved_of, parsed_of}
use Rattle.cursor.specs.outcomes.Ident.{Ident}
use Rattle.cursor.specs.outcomes.Matched.{Matched}
use Rattle.cursor.specs.outcomes.Matched as M
use Rattle.cursor.specs.outcomes.Moved.{Moved, On, Refused}
use Rattle.cursor.specs.outcomes.Parsed.{Parsed}
use Rattle.cursor.proofs.Wording.{spelt_close, spelt_comma, is-yes, is_no, word_read, peek-found, peek-none}
use Rattle.cursor.proofs.Laws.{ident_on}
use Rattle.cursor.specs.Parsers.{AddsKept}
use Rattle.cursor.specs.declared.Parser.{Parser as Reader}
use Rattle.program.specs.Drafts.{DraftKept}
use Rattle.variables.specs.Layout.{entries_most}
use Rattle.cursor.specs.Layout.{stack_at}
use Rattle.functions.specs.outcomes.OpenedFun.{OpenedFun}
use Rattle.functions.specs.params.Names.{name_at, names_from, names_in, Lie, param_of}
use Rattle.functions.specs.params.Promises.{receive_cur, enter_cur, PutsName, Head, Params, Bound, PushesParam, ParamsFilled, PushesParams}
use Rattle.functions.specs.params.Promises.{PushesSelf, Funs}

-- only the program changes, and parts of the parser that are no memory
pub adds-kept : (p p' : Reader) → DraftKept p.program p'.program → p'.script ≡ p.script → p'.scratch.ghost_name ≡ p.scratch.ghost_name → p'.scratch.now ≡ p.scratch.now → AddsKept p p'
adds-kept p p' k s l w = record { kept = record { script = s; limits = k.limits; words_loan = k.loan; scratch_loan = l; words_room = k.room; scratch_room = ap length w }; scratch = w }

-- ---- names

names_snoc : (s w : List ℕ) (k n : ℕ) → names_from s w k (suc n) ≡ names_from s w k n ++ name_at s w (k + n) ∷ []
unfolding names_from
names_snoc s w k zero = let z : k + 0 ≡ k = omega arith in rw z
names_snoc s w k (suc n) = let z : k + suc n ≡ suc k + n = omega arith in rw z (ap (λ l. name_at s w k ∷ l) (names_snoc s w (suc k) n))

names_same : (s w w' : List ℕ) (k n : ℕ) → ((i : ℕ) → k ≤ i → i < k + n → name_at s w' i ≡ name_at s w i) → names_from s w' k n ≡ names_from s w k n
unfolding names_from
names_same s w w' k zero h = refl
names_same s w w' k (suc n) h = rw (h k (omega arith) (omega arith), names_same s w w' (suc k) n (λ i a b. h i (omega arith) (omega arith)))

low-vars : (s w w' : List ℕ) (n : ℕ) → n ≤ entries_most → ((i : ℕ) → i < stack_at → get_or w' i 0 ≡ get_or w i 0) → vars s w' n ≡ vars s w n
unfolding entry
low-vars s w w' n l h = ap env_of (made_move s w w' 0 0 n (λ i a. rw (h (0 + i) (omega arith), h (entries_most + (0 + i)) (omega arith))))

module _ {w w' : List ℕ} {c r : Cursor} {n : Name} (p : PutsName w c n w' r) (s : List ℕ) where
  put-names : names_in s w' (c.args + 1) ≡ names_in s w c.args ++ name_in s n ∷ []
  unfolding name_at
  put-names =
      let z : 0 + c.args ≡ c.args = omega arith in
      rw (add-one, names_snoc s w' 0 c.args, z, p.start, p.len)
      (ap (λ l. l ++ name_in s n ∷ []) (names_same s w w' 0 c.args (λ i a b.
      rw (p.other (stack_at + 2 * i) (λ z. omega arith) (λ z. omega arith), p.other (stack_at + 2 * i + 1) (λ z. omega arith) (λ z. omega arith)))))

  put-lies : Lie s w c.args → n.start + n.len ≤ length s → Lie s w' (c.args + 1)
  put-lies h l k a = go (c.args - k) refl
    where
      go : (d : ℕ) → c.args - k ≡ d → get_or w' (stack_at + 2 * k) 0 + get_or w' (stack_at + 2 * k + 1) 0 ≤ length s
      go zero e = let z : k ≡ c.args = omega arith in rw (z, p.start, p.len) l
      go (suc d) e = rw (p.other (stack_at + 2 * k) (λ z. omega arith) (λ z. omega arith), p.other (stack_at + 2 * k + 1) (λ z. omega arith) (λ z. omega arith)) (h k (omega arith))

  put_low : (i : ℕ) → i < stack_at → get_or w' i 0 ≡ get_or w i 0
  put_low i l = p.other i (λ z. omega arith) (λ z. omega arith)

-- where a turn begins, the rest of the loop comes to what the whole comes to
pub record Naming (s w₀ : List ℕ) (c₀ : Cursor) (w : List ℕ) (c : Cursor) : Type 0 where
  pub count : ℕ
  pub same : (L : P.Limits) (m : List ℕ) → loop (parse_param L s) count (names_in s w c.args) (parser_of s m w c) ≡ loop (parse_param L s) (turns s) [] (parser_of s m w₀ c₀)
  pub enough : length s < count + c.at
  pub head : Head s w₀ c₀
  pub cur : c ≡ stack_cur c.args (move_cur c.at c₀)
  pub on : c₀.at + 2 * c.args ≤ c.at
  pub inside : c.at ≤ length s
  pub lies : Lie s w c.args
  pub low : (i : ℕ) → i < stack_at → get_or w i 0 ≡ get_or w₀ i 0
  pub long : length w ≡ length w₀

pub naming_start : (s w : List ℕ) (c : Cursor) → Head s w c → Naming s w c w c
unfolding names_from
naming_start s w c h =
    record {
      count = turns s;
      same = λ L m. let z = h.args in rw z;
      enough = omega arith;
      head = h;
      cur = refl;
      on = omega (arith, h.args);
      inside = h.inside;
      lies = λ k l. absurd (omega (arith, h.args));
      low = λ i l. refl;
      long = refl;
    }

-- one turn
module _ (L : P.Limits) (s m w : List ℕ) (c : Cursor) (l : List P.Name) {r : Result Word Refusal} (v : Sees s c r) where
  turn_none : {e : Refusal} → r ≡ Err e → refused (number_of e) ≡ parse_param L s l (parser_of s m w c)
  unfolding parse_param
  turn_none f = rw (← peek-none v m w f)

  module _ {x : Word} (f : r ≡ Ok x) where
    turn_close : x.token ≡ T.Sign 41 → answered (ends l, parser_of s m w c) ≡ parse_param L s l (parser_of s m w c)
    unfolding parse_param
    turn_close k = rw (← peek-found v m w f, is-yes x (word_read v f) ")" spelt_close k)

    module _ (k : x.token ≡ T.Sign 41 → ⊥) {u : Ident} (d : Idents s c u) where
      turn_bad : {e : ℕ} → u ≡ Ident.Refused e → refused e ≡ parse_param L s l (parser_of s m w c)
      unfolding parse_param
      turn_bad g = let h = rw g at (d.moves.is m w) in rw (← peek-found v m w f, is_no x (word_read v f) ")" spelt_close k, ← h)

      module _ {c1 : Cursor} {n : Name} (g : u ≡ Ident.Found c1 n) (w' : List ℕ) {c2 : Cursor} (q : parser_of s m w' c2 ≡ parser_of s m w c1) {t : Matched} (b : CursorMatches s (T.Sign 44) c2 t) where
        turn_stop : {e : ℕ} → t ≡ M.Refused e → refused e ≡ parse_param L s l (parser_of s m w c)
        unfolding parse_param
        turn_stop j =
            let h = rw g at (d.moves.is m w) in
            let y = rw j at ((b.moves "," spelt_comma).is m w') in
            rw (← peek-found v m w f, is_no x (word_read v f) ")" spelt_close k, ← h, ← q, ← y)

        turn_last : t ≡ M.Not → answered (ends (l ++ name_in s n ∷ []), parser_of s m w' c2) ≡ parse_param L s l (parser_of s m w c)
        unfolding parse_param
        turn_last j =
            let h = rw g at (d.moves.is m w) in
            let y = rw j at ((b.moves "," spelt_comma).is m w') in
            rw (← peek-found v m w f, is_no x (word_read v f) ")" spelt_close k, ← h, ← q, ← y)

        turn_more : {c3 : Cursor} → t ≡ M.Yes c3 → answered (again (l ++ name_in s n ∷ []), parser_of s m w' c3) ≡ parse_param L s l (parser_of s m w c)
        unfolding parse_param
        turn_more j =
            let h = rw g at (d.moves.is m w) in
            let y = rw j at ((b.moves "," spelt_comma).is m w') in
            rw (← peek-found v m w f, is_no x (word_read v f) ")" spelt_close k, ← h, ← q, ← y)

-- the whole loop, by its next turn
whole : (L : P.Limits) (s : List ℕ) (k : ℕ) (l : List P.Name) (r : Parser) (n at : ℕ) {X : Answer (List P.Name × Parser)} → at ≤ n → n < k + at → loop (parse_param L s) k l r ≡ X
    → (j : ℕ) × ((k ≡ suc j) × (loop (parse_param L s) (suc j) l r ≡ X))
whole L s zero l r n at a b e = absurd (omega arith)
whole L s (suc k) l r n at a b e = (k, (refl, e))

module _ {s w₀ : List ℕ} {c₀ : Cursor} {w : List ℕ} {c : Cursor} (i : Naming s w₀ c₀ w c) {r : Result Word Refusal} (v : Sees s c r) where
  next : (L : P.Limits) (m : List ℕ)
      → (j : ℕ) × ((i.count ≡ suc j) × (loop (parse_param L s) (suc j) (names_in s w c.args) (parser_of s m w c) ≡ loop (parse_param L s) (turns s) [] (parser_of s m w₀ c₀)))
  next L m = whole L s i.count (names_in s w c.args) (parser_of s m w c) (length s) c.at i.inside i.enough (i.same L m)

  pub naming_none : {e : Refusal} → r ≡ Err e → Params s w₀ c₀ w (Refused (number_of e))
  naming_none f = record { is = λ L m. rw (← turn_none L s m w c (names_in s w c.args) v f) at (next L m).1.1; ok = tt }

  module _ {x : Word} (f : r ≡ Ok x) where
    pub naming_close : x.token ≡ T.Sign 41 → Params s w₀ c₀ w (On c)
    naming_close k =
        record {
          is = λ L m. rw (← turn_close L s m w c (names_in s w c.args) v f k) at (next L m).1.1;
          ok = record { cur = i.cur; on = omega (arith, i.on); further = omega (arith, i.on); inside = i.inside; lies = i.lies; low = i.low; long = i.long };
        }

    module _ (k : x.token ≡ T.Sign 41 → ⊥) {u : Ident} (d : Idents s c u) where
      pub naming_bad : {e : ℕ} → u ≡ Ident.Refused e → Params s w₀ c₀ w (Refused e)
      naming_bad g = record { is = λ L m. rw (← turn_bad L s m w c (names_in s w c.args) v f k d g) at (next L m).1.1; ok = tt }

      module _ {c1 : Cursor} {n : Name} (g : u ≡ Ident.Found c1 n) where
        went-args : c1.args ≡ c.args
        went-args = ap (λ (z : Cursor). z.args) (ident_on d g).0

        module _ {w' : List ℕ} {c2 : Cursor} (p : PutsName w c1 n w' c2) where
          pub naming_at : c2.at ≡ c1.at
          naming_at = ap (λ (z : Cursor). z.at) p.cur

          put-cur : c2 ≡ stack_cur (c.args + 1) (move_cur c1.at c)
          put-cur = p.cur ∙ (ap (λ (z : Cursor). stack_cur (c1.args + 1) z) (ident_on d g).0 ∙ ap (λ j. stack_cur (j + 1) (move_cur c1.at c)) went-args)

          put-args : c2.args ≡ c.args + 1
          put-args = ap (λ (z : Cursor). z.args) put-cur

          same-parser : (m : List ℕ) → parser_of s m w' c2 ≡ parser_of s m w c1
          unfolding parser_of
          same-parser m =
              let z : c1.vars ≤ entries_most = omega (arith, ap (λ (y : Cursor). y.vars) (ident_on d g).0, ap (λ (y : Cursor). y.vars) i.cur, i.head.vars) in
              rw (p.cur, low-vars s w w' c1.vars z (put_low p s))

          names : names_in s w' c2.args ≡ names_in s w c.args ++ name_in s n ∷ []
          names = ap (λ j. names_in s w' j) (ap (λ (z : Cursor). z.args) p.cur) ∙ (put-names p s ∙ ap (λ j. names_in s w j ++ name_in s n ∷ []) went-args)

          now_lies : Lie s w' c2.args
          now_lies = let a = put-lies p s (rw (sym went-args) at i.lies) (d.inside c1 n g i.inside) in rw (ap (λ (z : Cursor). z.args) p.cur) a

          now_low : (j : ℕ) → j < stack_at → get_or w' j 0 ≡ get_or w₀ j 0
          now_low j o = put_low p s j o ∙ i.low j o

          whole_cur : c2 ≡ stack_cur c2.args (move_cur c2.at c₀)
          whole_cur =
              put-cur
              ∙ (ap (λ (z : Cursor). stack_cur (c.args + 1) (move_cur c1.at z)) i.cur
              ∙ (ap (λ j. stack_cur j (move_cur c1.at c₀)) (sym put-args) ∙ ap (λ j. stack_cur c2.args (move_cur j c₀)) (sym naming_at)))

          module _ {t : Matched} (b : CursorMatches s (T.Sign 44) c2 t) where
            pub naming_stop : {e : ℕ} → t ≡ M.Refused e → Params s w₀ c₀ w' (Refused e)
            naming_stop j = record { is = λ L m. rw (← turn_stop L s m w c (names_in s w c.args) v f k d g w' (same-parser m) b j) at (next L m).1.1; ok = tt }

            pub naming_last : t ≡ M.Not → Params s w₀ c₀ w' (On c2)
            naming_last j =
                record {
                  is = λ L m. ap (λ l. answered (l, parser_of s m w' c2)) names ∙ rw (← turn_last L s m w c (names_in s w c.args) v f k d g w' (same-parser m) b j) at (next L m).1.1;
                  ok = record {
                    cur = whole_cur;
                    on = omega (arith, i.on, put-args, naming_at, (ident_on d g).1.0);
                    further = omega (arith, i.on, naming_at, (ident_on d g).1.0);
                    inside = omega (arith, naming_at, (ident_on d g).1.1 i.inside);
                    lies = now_lies;
                    low = now_low;
                    long = p.long ∙ i.long;
                  };
                }

            module _ {c3 : Cursor} (j : t ≡ M.Yes c3) where
              moved : (c3 ≡ move_cur c3.at c2) × ((c2.at + 0 ≤ c3.at) × (c2.at ≤ length s → c3.at ≤ length s))
              moved = let h = rw j at (b.moves "," spelt_comma).ok in h

              moved-args : c3.args ≡ c2.args
              moved-args = ap (λ (z : Cursor). z.args) moved.0

              pub naming_on : Naming s w₀ c₀ w' c3
              naming_on =
                  record {
                    count = i.count - 1;
                    same = λ L m.
                        let z : i.count - 1 ≡ (next L m).0 = omega (arith, (next L m).1.0) in
                        ap (λ l. loop (parse_param L s) (i.count - 1) l (parser_of s m w' c3)) (ap (λ y. names_in s w' y) moved-args ∙ names)
                        ∙ (ap (λ y. loop (parse_param L s) y (names_in s w c.args ++ name_in s n ∷ []) (parser_of s m w' c3)) z
                        ∙ rw (← turn_more L s m w c (names_in s w c.args) v f k d g w' (same-parser m) b j) at (next L m).1.1);
                    enough = omega (arith, i.enough, b.further c3 j, naming_at, (ident_on d g).1.0);
                    head = i.head;
                    cur = moved.0 ∙ (ap (λ (z : Cursor). move_cur c3.at z) whole_cur ∙ ap (λ y. stack_cur y (move_cur c3.at c₀)) (sym moved-args));
                    on = omega (arith, i.on, put-args, moved-args, b.further c3 j, naming_at, (ident_on d g).1.0);
                    inside = moved.1.1 (omega (arith, naming_at, (ident_on d g).1.1 i.inside));
                    lies = rw moved-args now_lies;
                    low = now_low;
                    long = p.long ∙ i.long;
                  }

-- ---- parameters

module _ (l : Limits) (k : ℕ) {m : List ℕ} {c : Cursor} {m' : List ℕ} {x : Parsed}
    (a : (s u : List ℕ) → CursorAdds s u (push (View.limits_of l) (P.Param k)) m c m' (parsed_of x)) where
  pub param-vars : {v : Opnd} {c1 : Cursor} → x ≡ Parsed.Done c1 v → c1.vars ≡ c.vars
  param-vars o = let ok = rw o at ((a [] []).ok) in ap (λ (z : Cursor). z.vars) ok.cur

  module _ {w : List ℕ} where
    pub param_no : {e : ℕ} → x ≡ Parsed.Refused e → PushesParam l k m w c m' w (Refused e)
    unfolding param_of
    param_no o = record { is = λ s. let h = rw o at ((a s w).is) in rw (← h); ok = tt }

    pub param_yes : {v : Opnd} {w' : List ℕ} {c1 c2 : Cursor} → x ≡ Parsed.Done c1 v → PhisSets c1.vars (get_or w (stack_at + 2 * k) 0) (get_or w (stack_at + 2 * k + 1) 0) v w w'
        → c2 ≡ bind_cur c1 → PushesParam l k m w c m' w' (On c2)
    unfolding param_of parser_of name_at
    param_yes {v} {w'} {c1} {c2} o p f =
        let ok = rw o at ((a [] w).ok) in
        rw f (record {
          is = λ s. let h = rw o at ((a s w).is) in rw (← h, p.is s);
          ok = record {
            tables = ok.ready;
            at = ap (λ (z : Cursor). z.at) ok.cur;
            class = ap (λ (z : Cursor). z.class) ok.cur;
            receiver = ap (λ (z : Cursor). z.receiver) ok.cur;
            block = ap (λ (z : Cursor). z.block) ok.cur;
            vars = ap (λ (z : Cursor). z.vars + 1) ok.cur;
            aside = ap (λ (z : Cursor). z.aside) ok.cur;
            functions = ok.functions;
            classes = ok.classes;
            blocks = ok.blocks;
            low = rw (ap (λ (z : Cursor). z.vars) ok.cur) at p.old;
            rows = p.aside;
            long = p.len_same;
          };
        })

params_cons : (L : P.Limits) (s : List ℕ) (k : ℕ) (n : P.Name) (ns : List P.Name) (r : Parser)
    → push_params L s k (n ∷ ns) r ≡ if_answered {B = Unit {0} × Parser} (param_of L k n r) (λ p. push_params L s (suc k) ns p.1)
unfolding push_params param_of
params_cons L s k n ns r = go (push L (P.Param k) r)
  where
    go : (z : Answer (P.Opnd × Parser))
        → if_answered {B = Unit {0} × Parser} z (λ o. push_params L s (suc k) ns (with_env (bind n o.0 o.1.env) o.1))
        ≡ if_answered {A = Unit {0} × Parser} {B = Unit {0} × Parser} (if_answered z (λ o. answered (tt, with_env (bind n o.0 o.1.env) o.1))) (λ p. push_params L s (suc k) ns p.1)
    go (answered o) = refl
    go (refused e) = refl

-- where a turn begins, what is left comes to what the whole comes to
pub record Binding (l : Limits) (m₀ w₀ : List ℕ) (c₀ : Cursor) (k : ℕ) (m w : List ℕ) (c : Cursor) : Type 0 where
  pub same : (s : List ℕ) → push_params (View.limits_of l) s k (names_from s w₀ k (c₀.args - k)) (parser_of s m w c) ≡ push_params (View.limits_of l) s 0 (names_in s w₀ c₀.args) (parser_of s m₀ w₀ c₀)
  pub filled : ParamsFilled m₀ w₀ c₀
  pub most : k ≤ c₀.args
  pub bound : Bound k w₀ c₀ m w c

bound_at : {k n : ℕ} {w m' w' : List ℕ} {c c' : Cursor} → k ≡ n → Bound k w c m' w' c' → Bound n w c m' w' c'
bound_at e b = rw e at b

module _ {l : Limits} {m₀ w₀ : List ℕ} {c₀ : Cursor} {k : ℕ} {m w : List ℕ} {c : Cursor} (i : Binding l m₀ w₀ c₀ k m w c) where
  stack_same : (j : ℕ) → stack_at ≤ j → get_or w j 0 ≡ get_or w₀ j 0
  stack_same j h = i.bound.rows.beyond j h

  pub binding_done : (c₀.args ≤ k) → PushesParams l m₀ w₀ c₀ m w (On c)
  unfolding push_params names_from
  binding_done h =
      let e : k ≡ c₀.args = omega (arith, i.most) in
      let z : c₀.args - k ≡ 0 = omega arith in
      record { is = λ s. ap (λ n. push_params (View.limits_of l) s k (names_from s w₀ k n) (parser_of s m w c)) (sym z) ∙ i.same s; ok = bound_at e i.bound }

  module _ (h : k < c₀.args) {m' w' : List ℕ} {x : Moved} (a : PushesParam l k m w c m' w' x) where
    first : (s : List ℕ) → names_from s w₀ k (c₀.args - k) ≡ name_at s w k ∷ names_from s w₀ (suc k) (c₀.args - suc k)
    unfolding names_from name_at
    first s =
        let z : c₀.args - k ≡ suc (c₀.args - suc k) = omega arith in
        rw (z, stack_same (stack_at + 2 * k) (omega arith), stack_same (stack_at + 2 * k + 1) (omega arith))

    turned : (s : List ℕ) → if_answered {B = Unit {0} × Parser} (outcome s m' w' (moved_of x)) (λ p. push_params (View.limits_of l) s (suc k) (names_from s w₀ (suc k) (c₀.args - suc k)) p.1)
        ≡ push_params (View.limits_of l) s 0 (names_in s w₀ c₀.args) (parser_of s m₀ w₀ c₀)
    turned s =
        ap (λ (z : Answer (Unit {0} × Parser)). if_answered {B = Unit {0} × Parser} z (λ p. push_params (View.limits_of l) s (suc k) (names_from s w₀ (suc k) (c₀.args - suc k)) p.1)) (a.is s)
        ∙ (sym (params_cons (View.limits_of l) s k (name_at s w k) (names_from s w₀ (suc k) (c₀.args - suc k)) (parser_of s m w c))
        ∙ (ap (λ n. push_params (View.limits_of l) s k n (parser_of s m w c)) (sym (first s)) ∙ i.same s))

    pub binding_no : {e : ℕ} → x ≡ Refused e → PushesParams l m₀ w₀ c₀ m' w' (Refused e)
    binding_no o = record { is = λ s. rw o at (turned s); ok = tt }

    pub binding_on : {c1 : Cursor} → x ≡ On c1 → Binding l m₀ w₀ c₀ (k + 1) m' w' c1
    binding_on {c1} o =
        let b = rw o at a.ok in
        record {
          same = λ s. rw add-one (rw o at (turned s));
          filled = i.filled;
          most = omega arith;
          bound = record {
            tables = b.tables;
            at = b.at ∙ i.bound.at;
            class = b.class ∙ i.bound.class;
            receiver = b.receiver ∙ i.bound.receiver;
            block = b.block ∙ i.bound.block;
            vars = omega (arith, b.vars, i.bound.vars);
            aside = b.aside ∙ i.bound.aside;
            functions = b.functions ∙ i.bound.functions;
            classes = b.classes ∙ i.bound.classes;
            blocks = b.blocks ∙ i.bound.blocks;
            low = kept_trans i.bound.low (kept-part 0 c.vars 0 c₀.vars w w' (omega arith) (omega (arith, i.bound.vars)) b.low);
            rows = kept_trans i.bound.rows b.rows;
            long = b.long ∙ i.bound.long;
          };
        }

-- ---- receivers

abbrev selfed : Answer (ℕ × Parser) → Answer (Unit {0} × Parser)
selfed z = if_answered z (λ i. answered (tt, with_self (some i.0) i.1))

module _ (l : Limits) {m : List ℕ} {c : Cursor} where
  pub self-none : View.ProgramReady m c.counts → c.class ≡ Maybe.None → PushesSelf l m c m (On c)
  unfolding push_self
  self-none g e =
      record {
        is = λ s w. ap (λ (o : Maybe ClassId). push_self (View.limits_of l) s (owner_in o) (parser_of s m w c)) (sym e);
        ok = record { tables = g; cur = refl; functions = refl; classes = refl; blocks = refl };
      }

  module _ {k : ClassId} (e : c.class ≡ Maybe.Some k) {m' : List ℕ} (d : Counts) (x : Result InsnId Refusal)
      (a : View.ProgramDid (View.pushing_of (View.limits_of l) c.block.0 (Op.SelfParam k) []) View.unchanged c.counts.insns
      (View.more_insns (Op.SelfParam k) 0 c.counts) m c.counts m' (View.insn_of d x)) where
    pub self_no : {n : Refusal} → x ≡ Err n → PushesSelf l m c m' (Refused (number_of n))
    unfolding push_self parser_of
    self_no o =
        record {
          is = λ s w. ap selfed (rw o at (a.is s (parser_of s m w c))) ∙ ap (λ (z : Maybe ClassId). push_self (View.limits_of l) s (owner_in z) (parser_of s m w c)) (sym e);
          ok = tt;
        }

    pub self-yes : {i : InsnId} {c2 : Cursor} → x ≡ Ok i → c2 ≡ receive_cur (Maybe.Some i) (count_cur d c) → PushesSelf l m c m' (On c2)
    unfolding push_self parser_of
    self-yes {i} {c2} o r =
        let ok = rw o at a.ok in
        rw r (record {
          is = λ s w. ap selfed (rw o at (a.is s (parser_of s m w c))) ∙ ap (λ (z : Maybe ClassId). push_self (View.limits_of l) s (owner_in z) (parser_of s m w c)) (sym e);
          ok = record {
            tables = ok.ready;
            cur = refl;
            functions = ap (λ (z : Counts). z.functions) ok.counts;
            classes = ap (λ (z : Counts). z.classes) ok.counts;
            blocks = ap (λ (z : Counts). z.blocks) ok.counts;
          };
        })

-- ---- functions

module _ (l : Limits) (n : Name) {m : List ℕ} {c : Cursor} {m' : List ℕ} (d : Counts) (x : Result (FunId × BlockId) Refusal) (a : View.DidFun l n c.class m c.counts m' d x) where
  pub fun_no : {e : Refusal} → x ≡ Err e → Funs l n m c m' (OpenedFun.Refused (number_of e))
  unfolding parser_of
  fun_no o = record { is = λ s w. rw o at (a.did.is s (parser_of s m w c)); ok = tt }

  pub fun_yes : {f : FunId} {b : BlockId} {c1 : Cursor} → x ≡ Ok (f, b) → c1 ≡ enter_cur d b c → Funs l n m c m' (OpenedFun.Done c1 f)
  unfolding parser_of
  fun_yes {f} {b} {c1} o r =
      let ok = rw o at a.did.ok in
      let en : b.0 ≡ c.counts.blocks = rw o at a.entry in
      let df : d.functions ≡ c.counts.functions + 1 = ap (λ (z : Counts). z.functions) ok.counts in
      let db : d.blocks ≡ c.counts.blocks + 1 = ap (λ (z : Counts). z.blocks) ok.counts in
      rw r (record {
        is = λ s w. rw en (rw o at (a.did.is s (parser_of s m w c)));
        ok = record {
          tables = ok.ready;
          cur = refl;
          block = omega arith;
          function = omega (arith, ok.number);
          functions = omega arith;
          classes = ap (λ (z : Counts). z.classes) ok.counts;
        };
      })
