-- The ways through the readers, over a parser. Assumes nothing.
use mathlib.Core.Bool.{Bool, true, false}
use mathlib.Core.Path.{◌≡◌, refl, ap, subst}
use mathlib.Core.List.{List}
use Prim.Native.Nat.{ℕ, zero, suc, ◌-◌}
use Prim.Native.String.{String}
use native.Mathlib.Omega.{arith}
use Rattle.std.specs.Prelude.{Option, Some, Result, Ok, Err}
use Rattle.refusals.specs.declared.Refusal.{Refusal}
use Rattle.refusals.specs.Refusals.{number_of}
use Rattle.kinds.specs.declared.Arith.{Arith}
use Rattle.rules.specs.Actions.{◌>>=◌, give, loop, when◌then◌else◌}
use Rattle.rules.specs.Program as P
use Rattle.rules.specs.Reading.{Reads, expect, expect_ident, match_token, get_self, push, operator, send, turns}
use Rattle.rules.specs.Reading.{parse_group, parse_ivar, parse_name, parse_args, parse_call, parse_member, parse_right, parse_suffix, parse_primary, parse_expr}
use Rattle.lexer.specs.Lexed.{Glances}
use Rattle.lexer.specs.declared.Token.{Token}
use Rattle.lexer.specs.declared.Token.TheVariants as T
use Rattle.lexer.specs.declared.Word.{Word}
use Rattle.program.specs.Rows.{opnd_of, name_in}
use Rattle.program.specs.View.{limits_of}
use Rattle.program.specs.declared.Name.{Name}
use Rattle.program.specs.declared.Opnd.{Opnd}
use Rattle.cursor.specs.Cursor.{waiting}
use Rattle.cursor.specs.Steps.{sets_ivar, gets_ivar, assigns, means, calls, reads_attr}
use Rattle.cursor.specs.Promises.{Out, done, stop, CursorAdds, CursorMatches, Sees, Spelt, moved_of}
use Rattle.cursor.specs.Parsers.{cursor_of, Reading, placed, ParserKept, AddsKept, ident_in, moved_in, matched_in, parsed_in, operand, ParserIdents, ParserExpects, ParserMatches, ParserDid}
use Rattle.cursor.specs.declared.Parser.{Parser}
use Rattle.cursor.proofs.Kept.{kept_none, passed, After, after_none, after_placed, after_kept, after_same, did_of, matches_of, expects_of, reading_of, finish}
use Rattle.cursor.proofs.Laws.{Acted, got, gave, refuses, arrives, ends_as, step-none, step_trans, moved-did, added_did}
use Rattle.expressions.specs.Readers.{again_of, arg_in, args_in, args_of, suffix_in, SuffixDid, ParserArg, ParserArgs, ParserSuffix}
use Rattle.expressions.proofs.Standing.{ArgsStand, SuffixStand, finish_args, arg_at, suffix_at}
use Rattle.expressions.proofs.Ways.{ident_went, ident_gave, match_went, match_not, match_gave, Suffix, suffix_of, operating, primary_none}
use Rattle.expressions.proofs.Turns.{args-again, args_done, args_no1, args_no2, suffix_call, suffix_member, suffix_operator, suffixes_again, suffixes_no}

-- ---- one reader, and behind it one that knows its value

unfoldable pub first : {A B : Type 0} → Reads A → (A → Reads B) → Reads B
first f g = f >>= g

module _ {A B : Type 0} {f : P.Limits → List ℕ → Reads A} (g : P.Limits → List ℕ → A → Reads B) {j : ℕ} {p p1 : Parser} where
  pub first_no : {e : ℕ} → ParserDid f j p p1 (stop e) → ParserDid (λ L s. first (f L s) (g L s)) j p p1 (stop e)
  unfolding first
  first_no d = let h = gave d.did refl in record { kept = d.kept; did = refuses (rw (← h)) }

  first_yes : (a : List ℕ → A) {k : ℕ} {p2 : Parser} {o : Out B} → ParserDid f j p p1 (done (a p.script.now) (cursor_of p1))
      → (Reading p1 → ParserDid (λ L s. g L s (a s)) k p1 p2 o)
      → ParserDid (λ L s. first (f L s) (g L s)) j p p2 o
  unfolding first
  first_yes a d b =
      let a1 = after_kept (after_none p) d.kept in
      let h = got d.did refl in
      let n = b (reading_of a1 h.here) in
      finish (after_kept a1 n.kept) (ends_as h.step (omega arith) (did_of a1 n) (rw (← h.is)))

-- an operand first
module _ {B : Type 0} {f : P.Limits → List ℕ → Reads P.Opnd} (g : P.Limits → List ℕ → P.Opnd → Reads B) {j : ℕ} {p p1 : Parser} (r : Result Opnd Refusal)
    (d : ParserDid f j p p1 (operand p1 r)) where
  pub value_no : {e : Refusal} → r ≡ Err e → ParserDid (λ L s. first (f L s) (g L s)) j p p1 (stop (number_of e))
  value_no e = first_no g (rw e at d)

  pub value_then : {v : Opnd} {k : ℕ} {p2 : Parser} {o : Out B} → r ≡ Ok v → (Reading p1 → ParserDid (λ L s. g L s (opnd_of v)) k p1 p2 o)
      → ParserDid (λ L s. first (f L s) (g L s)) j p p2 o
  value_then {v} e b = first_yes g (λ s. opnd_of v) (rw e at d) b

-- the arguments of a call first, which then stand behind those that wait
module _ {f : P.Limits → List ℕ → Reads (List P.Opnd)} {p p1 : Parser} {r : Result ℕ Refusal} (d : ParserArgs f p p1 r) where
  args_did : ParserDid f 1 p p1 (args_of p1.scratch.now p.args (args_in p1 r))
  args_did = record { kept = d.kept; did = d.did.did }

  module _ {B : Type 0} (g : P.Limits → List ℕ → List P.Opnd → Reads B) where
    pub args_no : {e : Refusal} → r ≡ Err e → ParserDid (λ L s. first (f L s) (g L s)) 1 p p1 (stop (number_of e))
    args_no e = first_no g (rw e at args_did)

    pub args_then : {n k : ℕ} {p2 : Parser} {o : Out B} → r ≡ Ok n → (Reading p1 → ParserDid (λ L s. g L s (waiting p1.scratch.now p1.args n)) k p1 p2 o)
        → ParserDid (λ L s. first (f L s) (g L s)) 1 p p2 o
    args_then {n} {k} {p2} {o} e b =
        let x = rw e at args_did in
        let y = (got x.did refl).step.args in
        first_yes g (λ s. waiting p1.scratch.now p.args n) x (λ h. subst (λ z. ParserDid (λ L s. g L s (waiting p1.scratch.now z n)) k p1 p2 o) y (b h))

-- what has no value first
module _ {B : Type 0} {f : P.Limits → List ℕ → Reads (Unit {0})} (g : P.Limits → List ℕ → Unit {0} → Reads B) {j : ℕ} {p p1 : Parser} (r : Result (Unit {0}) Refusal)
    (d : ParserDid f j p p1 (moved_of (moved_in p1 r))) where
  pub done_no : {e : Refusal} → r ≡ Err e → ParserDid (λ L s. first (f L s) (g L s)) j p p1 (stop (number_of e))
  done_no e = first_no g (rw e at d)

  pub done_then : {k : ℕ} {p2 : Parser} {o : Out B} → r ≡ Ok tt → (Reading p1 → ParserDid (λ L s. g L s tt) k p1 p2 o) → ParserDid (λ L s. first (f L s) (g L s)) j p p2 o
  done_then e b = first_yes g (λ s. tt) (rw e at d) b

-- a word that has to stand there
pub expected : (t : String) {k : Token} {p p1 : Parser} {r : Result (Unit {0}) Refusal} → Spelt k t → ParserExpects k p p1 r → Reading p
    → ParserDid (λ L s. expect s t) 1 p p1 (moved_of (moved_in p1 r))
expected t {p = p} sp x h = finish (after_placed (after_none p) x.same) (moved-did (x.expects.moves t sp) h)

pub gives : (v : Opnd) {p : Parser} → Reading p → ParserDid (λ L s. give (opnd_of v)) 0 p p (operand p (Ok v))
gives v {p = p} h = record { kept = kept_none p; did = arrives (step-none (cursor_of p) p.scratch.now) (omega arith) h refl }

pub adds : {A : Type 0} {f : P.Limits → List ℕ → Reads A} {p p1 : Parser} {o : Out A} → AddsKept p p1
    → CursorAdds p.script.now p.scratch.now (f (limits_of p.program.limits) p.script.now) p.program.words.now (cursor_of p) p1.program.words.now o → Reading p
    → ParserDid f 0 p p1 o
adds k a h = passed k.kept k.scratch (added_did a h)

-- ---- a name, and by whether a sign follows it what is read then

pub record Named : Type 0 where
  pub sign : String
  pub before : P.Limits → List ℕ → P.Name → Reads P.Opnd
  pub alone : P.Limits → List ℕ → P.Name → Reads P.Opnd

unfoldable pub read_named : Named → P.Limits → List ℕ → Reads P.Opnd
read_named x L s = do
  n ← expect_ident s
  b ← match_token s x.sign
  when b then x.before L s n else x.alone L s n

module _ {p p1 : Parser} (h : Reading p) {u : Result Name Refusal} (i : ParserIdents p p1 u) where
  pub name_no : (x : Named) {e : Refusal} → u ≡ Err e → ParserDid (read_named x) 1 p p1 (stop (number_of e))
  unfolding read_named
  name_no x f = finish (after_placed (after_none p) i.same) (refuses (rw (← ident_gave h i.idents (ap (ident_in p1) f))))

  module _ {n : Name} (f : u ≡ Ok n) where
    found : Acted (expect_ident p.script.now) 1 p.script.now p.program.words.now p.scratch.now (cursor_of p) p.program.words.now p.scratch.now (name_in p.script.now n) (cursor_of p1)
    found = ident_went h i.idents (ap (ident_in p1) f)

    module _ {k : Token} {p2 : Parser} {b : Result Bool Refusal} (y : ParserMatches k p1 p2 b) where
      tested : CursorMatches p.script.now k (cursor_of p1) (matched_in p2 b)
      tested = matches_of (after_placed (after_none p) i.same) y

      n2 : After p p2 p.program.words.now p.scratch.now
      n2 = after_placed (after_placed (after_none p) i.same) y.same

      module _ (x : Named) (sp : Spelt k x.sign) where
        pub sign_no : {e : Refusal} → b ≡ Err e → ParserDid (read_named x) 1 p p2 (stop (number_of e))
        unfolding read_named
        sign_no g = finish n2 (refuses (rw (← found.is, ← match_gave found.here x.sign tested sp (ap (matched_in p2) g))))

        pub sign_not : b ≡ Ok false → {j : ℕ} {p3 : Parser} {o : Out P.Opnd} → (Reading p2 → ParserDid (λ L s. x.alone L s (name_in s n)) j p2 p3 o) → ParserDid (read_named x) 1 p p3 o
        unfolding read_named
        sign_not g d =
            let z = y.stays g in
            let e = d (rw z (reading_of (after_placed (after_none p) i.same) found.here)) in
            finish (after_kept n2 e.kept)
            (ends_as found.step (omega arith) (rw z at (did_of n2 e)) (rw (← found.is, ← match_not found.here x.sign tested sp (ap (matched_in p2) g))))

        pub sign_then : b ≡ Ok true → {j : ℕ} {p3 : Parser} {o : Out P.Opnd} → ParserDid (λ L s. x.before L s (name_in s n)) j p2 p3 o → ParserDid (read_named x) 1 p p3 o
        unfolding read_named
        sign_then g d =
            let w = match_went found.here x.sign tested sp (ap (matched_in p2) g) in
            finish (after_kept n2 d.kept) (ends_as (step_trans found.step w.step) (omega arith) (did_of n2 d) (rw (← found.is, ← w.is)))

-- ---- the readers are made of these

abbrev ivar_named : ℕ → Named
ivar_named d = record { sign = "="; before = λ L s n. first (parse_expr L s d 0) (sets_ivar L n); alone = λ L s n. gets_ivar L n }

abbrev var_named : ℕ → Named
var_named d = record { sign = "="; before = λ L s n. first (parse_expr L s d 0) (assigns n); alone = λ L s n. means n }

abbrev member_named : ℕ → P.Opnd → Named
member_named d v =
    record {
      sign = "(";
      before = λ L s n. first (parse_args L s (parse_expr L s d)) (send L s (parse_expr L s d) v n);
      alone = λ L s n. reads_attr L v n;
    }

-- an expression that is not too deep
pub as_expr : (d prec : ℕ) → (d ≡ 0 → ⊥) → {p p1 : Parser} {o : Out P.Opnd}
    → ParserDid (λ L s. first (parse_primary L s (parse_expr L s (d - 1))) (loop (parse_suffix L s (parse_expr L s (d - 1)) prec) (turns s))) 1 p p1 o
    → ParserDid (λ L s. parse_expr L s d prec) 1 p p1 o
unfolding first parse_expr
as_expr zero prec f a = absurd (f refl)
as_expr (suc k) prec f a = let e : suc k - 1 ≡ k = omega arith in let b = rw e at a in record { kept = b.kept; did = record { is = b.did.is; ok = b.did.ok } }

-- where no word is read, no expression begins
pub unseen : (d : ℕ) {p : Parser} {x : Result Word Refusal} {e : Refusal} → Sees p.script.now (cursor_of p) x → x ≡ Err e
    → ParserDid (λ L s. parse_primary L s (parse_expr L s d)) 1 p p (stop (number_of e))
unseen d {p = p} x f = record { kept = kept_none p; did = primary_none _ _ (parse_expr _ _ d) x f }

module _ (d : ℕ) {p p1 : Parser} {o : Out P.Opnd} where
  pub as_group : ParserDid (λ L s. first (parse_expr L s d 0) (λ v. first (expect s ")") (λ u. give v))) 1 p p1 o → ParserDid (λ L s. parse_group L s (parse_expr L s d)) 1 p p1 o
  unfolding first parse_group
  as_group a = record { kept = a.kept; did = record { is = a.did.is; ok = a.did.ok } }

  pub as_ivar : ParserDid (read_named (ivar_named d)) 1 p p1 o → ParserDid (λ L s. parse_ivar L s (parse_expr L s d)) 1 p p1 o
  unfolding first read_named parse_ivar sets_ivar gets_ivar get_self
  as_ivar a = record { kept = a.kept; did = record { is = a.did.is; ok = a.did.ok } }

  pub as_name : ParserDid (read_named (var_named d)) 1 p p1 o → ParserDid (λ L s. parse_name L s (parse_expr L s d)) 1 p p1 o
  unfolding first read_named parse_name assigns means
  as_name a = record { kept = a.kept; did = record { is = a.did.is; ok = a.did.ok } }

  module _ (v : P.Opnd) where
    pub as_call : ParserDid (λ L s. first (parse_args L s (parse_expr L s d)) (calls L v)) 1 p p1 o → ParserDid (λ L s. parse_call L s (parse_expr L s d) v) 1 p p1 o
    unfolding first parse_call calls
    as_call a = record { kept = a.kept; did = record { is = a.did.is; ok = a.did.ok } }

    pub as_member : ParserDid (read_named (member_named d v)) 1 p p1 o → ParserDid (λ L s. parse_member L s (parse_expr L s d) v) 1 p p1 o
    unfolding first read_named parse_member reads_attr
    as_member a = record { kept = a.kept; did = record { is = a.did.is; ok = a.did.ok } }

    pub as_right : (a : Arith) (right : ℕ) → ParserDid (λ L s. first (parse_expr L s d right) (λ w. push L (P.Compute a v w))) 1 p p1 o
        → ParserDid (λ L s. parse_right L s (parse_expr L s d) (operator a 0 right) v) 1 p p1 o
    unfolding first parse_right
    as_right r m a = record { kept = a.kept; did = record { is = a.did.is; ok = a.did.ok } }

-- whatever reads expressions
pub sends : (d : ℕ) (v : P.Opnd) (n : Name) (l : List P.Opnd) {p p1 : Parser} {o : Out P.Opnd} → ((E : ℕ → Reads P.Opnd) → ParserDid (λ L s. send L s E v (name_in s n) l) 0 p p1 o)
    → ParserDid (λ L s. send L s (parse_expr L s d) v (name_in s n) l) 0 p p1 o
sends d v n l {p = p} a = let e = a (parse_expr (limits_of p.program.limits) p.script.now d) in record { kept = e.kept; did = e.did }

-- ---- all arguments

module _ {d : ℕ} {p q : Parser} (i : ArgsStand d p q) where
  q1 : After p q q.program.words.now q.scratch.now
  q1 = after_kept (after_none p) i.kept

  module _ {p1 : Parser} {r : Result Bool Refusal} (t : ParserArg (λ L s. parse_expr L s d) q p1 r) where
    q2 : After p p1 p1.program.words.now p1.scratch.now
    q2 = after_kept q1 t.kept

    pub args_stop : {e : Refusal} → r ≡ Err e → ParserArgs (λ L s. parse_args L s (parse_expr L s d)) p p1 (Err e)
    args_stop f = finish_args q2 (args_no1 _ _ (parse_expr _ _ d) i.inv (arg_at q1 t) (ap (arg_in p1) f))

    pub args_on : r ≡ Ok true → ArgsStand d p p1
    args_on f = record { kept = q2.kept; inv = args-again _ _ (parse_expr _ _ d) i.inv (arg_at q1 t) (ap (arg_in p1) f) }

    module _ (f : r ≡ Ok false) {p2 : Parser} {u : Result (Unit {0}) Refusal} (x : ParserExpects (T.Sign 41) p1 p2 u) where
      q3 : After p p2 p1.program.words.now p1.scratch.now
      q3 = after_placed q2 x.same

      pub args_open : {e : Refusal} → u ≡ Err e → ParserArgs (λ L s. parse_args L s (parse_expr L s d)) p p2 (Err e)
      args_open g = finish_args q3 (args_no2 _ _ (parse_expr _ _ d) i.inv (arg_at q1 t) (ap (arg_in p1) f) (expects_of q2 x) (ap (moved_in p2) g))

      pub args_shut : u ≡ Ok tt
          → ParserArgs (λ L s. parse_args L s (parse_expr L s d)) p (record p2 { args = p.args }) (Ok (p2.args - p.args))
      args_shut g =
          finish_args (after_same q3 refl refl refl) (args_done _ _ (parse_expr _ _ d) i.inv (arg_at q1 t) (ap (arg_in p1) f) (expects_of q2 x) (ap (moved_in p2) g))

-- ---- all that follows an operand

module _ {prec d : ℕ} {p q : Parser} {v w : Opnd} (i : SuffixStand prec d p v q w) where
  t1 : After p q q.program.words.now q.scratch.now
  t1 = after_kept (after_none p) i.kept

  module _ {p1 : Parser} {x : Result (Option Opnd) Refusal} (t : ParserSuffix (λ L s. parse_suffix L s (parse_expr L s d) prec (opnd_of w)) w q p1 x) where
    t2 : After p p1 p1.program.words.now p1.scratch.now
    t2 = after_kept t1 t.kept

    pub suffixes_stop : {e : Refusal} → x ≡ Err e → ParserDid (λ L s. loop (parse_suffix L s (parse_expr L s d) prec) (turns s) (opnd_of v)) 0 p p1 (operand p1 (Err e))
    suffixes_stop f = finish t2 (suffixes_no _ _ (parse_expr _ _ d) i.inv (suffix_at t1 t) (ap (suffix_in p1) f))

    pub suffixes_on : {u : Opnd} → x ≡ Ok (Some u) → SuffixStand prec d p v p1 u
    suffixes_on f = record { kept = t2.kept; inv = suffixes_again _ _ (parse_expr _ _ d) i.inv (suffix_at t1 t) (ap (suffix_in p1) f) }

-- ---- one thing behind an operand

abbrev some_of : Result Opnd Refusal → Result (Option Opnd) Refusal
some_of (Ok w) = Ok (Some w)
some_of (Err e) = Err e

module _ (d prec : ℕ) {v : Opnd} {p : Parser} (h : Reading p) {g : Result (Option (ℕ × ℕ)) Refusal} (l : Glances p.script.now p.at g) {k n : ℕ} (e : g ≡ Ok (Some (k, n)))
    {p1 : Parser} (r : Result Opnd Refusal) where
  goes : (x : Result Opnd Refusal) → r ≡ x → ParserKept (placed n p) p1
      → SuffixDid (parse_suffix (limits_of p.program.limits) p.script.now (parse_expr (limits_of p.program.limits) p.script.now d) prec (opnd_of v)) v
      p.script.now p.program.words.now p.scratch.now (cursor_of p) p1.program.words.now p1.scratch.now (again_of (parsed_in p1 r))
      → ParserSuffix (λ L s. parse_suffix L s (parse_expr L s d) prec (opnd_of v)) v p p1 (some_of x)
  goes (Ok w) f a b = record { kept = (after_kept (after_placed (after_none p) {at = n} refl) a).kept; did = rw f at b; stays = λ z. cc }
  goes (Err w) f a b = record { kept = (after_kept (after_placed (after_none p) {at = n} refl) a).kept; did = rw f at b; stays = λ z. cc }

  pub call_goes : Suffix.Call ≡ suffix_of k prec → ParserDid (λ L s. parse_call L s (parse_expr L s d) (opnd_of v)) 1 (placed n p) p1 (operand p1 r) → (x : Result Opnd Refusal) → r ≡ x
      → ParserSuffix (λ L s. parse_suffix L s (parse_expr L s d) prec (opnd_of v)) v p p1 (some_of x)
  call_goes t b x f =
      goes x f b.kept (suffix_call _ _ (parse_expr _ _ d) _ v l e h t refl (parsed_in p1 r) refl (did_of (after_placed (after_none p) {at = n} refl) b))

  pub member_goes : Suffix.Member ≡ suffix_of k prec → ParserDid (λ L s. parse_member L s (parse_expr L s d) (opnd_of v)) 1 (placed n p) p1 (operand p1 r) → (x : Result Opnd Refusal) → r ≡ x
      → ParserSuffix (λ L s. parse_suffix L s (parse_expr L s d) prec (opnd_of v)) v p p1 (some_of x)
  member_goes t b x f =
      goes x f b.kept (suffix_member _ _ (parse_expr _ _ d) _ v l e h t refl (parsed_in p1 r) refl (did_of (after_placed (after_none p) {at = n} refl) b))

  pub operator_goes : {q : Option (Arith × ℕ)} {o : Arith} {right : ℕ} → operating q ≡ suffix_of k prec → q ≡ Some (o, right)
      → ParserDid (λ L s. parse_right L s (parse_expr L s d) (operator o 0 right) (opnd_of v)) 1 (placed n p) p1 (operand p1 r) → (x : Result Opnd Refusal) → r ≡ x
      → ParserSuffix (λ L s. parse_suffix L s (parse_expr L s d) prec (opnd_of v)) v p p1 (some_of x)
  operator_goes t i b x f =
      goes x f b.kept
      (suffix_operator _ _ (parse_expr _ _ d) _ v l e h t refl (parsed_in p1 r) (ap operating i) (did_of (after_placed (after_none p) {at = n} refl) b))
