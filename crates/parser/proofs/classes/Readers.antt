-- The ways through the readers of methods, attributes and classes, over a parser. Assumes nothing.
use mathlib.Core.Bool.{Bool, true, false}
use mathlib.Core.Path.{◌≡◌, refl, sym, ap, ◌∙◌}
use mathlib.Core.List.{List}
use Prim.Native.Nat.{ℕ}
use Rattle.std.specs.Prelude.{Option as Maybe, Some, None, Result, Ok, Err, is_some}
use Rattle.ids.specs.declared.ClassId.{ClassId}
use Rattle.ids.specs.declared.FunId.{FunId}
use Rattle.refusals.specs.declared.Refusal.{Refusal}
use Rattle.refusals.specs.declared.Refusal.TheVariants as Q
use Rattle.rules.specs.Actions.{Turn, loop}
use Rattle.rules.specs.Program as P
use Rattle.rules.specs.Program.{method_named}
use Rattle.rules.specs.Reading.{Reads, turns, parse_method, parse_attr, parse_class_member, parse_class}
use Rattle.lexer.specs.declared.Token.TheVariants as K
use Rattle.lexer.specs.declared.Word.{Word}
use Rattle.lookups.specs.Look.{fun_found, Declares, LookKnown}
use Rattle.program.specs.Drafts.{DraftKept}
use Rattle.program.specs.Rows.{name_in}
use Rattle.program.specs.View as View
use Rattle.program.specs.View.{limits_of}
use Rattle.program.specs.declared.Function.{Function}
use Rattle.program.specs.declared.Name.{Name}
use Rattle.program.specs.declared.writer.Draft.{Draft}
use Rattle.cursor.specs.Cursor.{Cursor, count_cur}
use Rattle.cursor.specs.Promises.{Sees, Idents, moved_of}
use Rattle.cursor.specs.outcomes.Moved.{Moved}
use Rattle.cursor.specs.Parsers.{cursor_of, placed, moved_in, ident_in, ParserKept, ParserIdents, ParserExpects}
use Rattle.cursor.specs.declared.Parser.{Parser}
use Rattle.cursor.proofs.Kept.{after_same, kept_none, kept_trans, kept_placed, After, after_none, after_placed, after_kept, idents_of}
use Rattle.functions.specs.params.Parsers.{fun_in}
use Rattle.functions.specs.Bodies.{Takes}
use Rattle.functions.proofs.Readers as F
use Rattle.functions.specs.Parsers.{Resting, through, ParserTakes, ParserTaken}
use Rattle.functions.proofs.Readers.{takes_end, takes_of}
use Rattle.parser.specs.classes.Turning.{Turns, turned_in, ParserTurns}
use Rattle.parser.proofs.classes.Loops.{Going, going_start, going_no, going_ends, going_on}
use Rattle.parser.proofs.classes.Members as M
use Rattle.parser.proofs.classes.Classes as C

-- ---- parse_method

module _ (p : Parser) (k : ClassId) {p1 : Parser} {x : Result FunId Refusal} (a : ParserTaken p p1 x) where
  abbrev Method : Result (Unit {0}) Refusal → Type 0
  Method r = ParserTakes (λ L s. parse_method L s k.0) 1 p p1 (through p1 r)

  pub method_no : {e : Refusal} → x ≡ Err e → Method (Err e)
  method_no f = record { kept = a.kept; takes = M.method_no p.program.limits k a.taken (ap (fun_in p1) f) }

  module _ {f : FunId} (o : x ≡ Ok f) where
    module _ {r : Function} (b : View.ReadsFun p1.program.words.now p1.program.counts f.0 r) (y : Maybe FunId)
        (d : fun_found y ≡ method_named (View.program_view p1.script.now p1.program.words.now p1.program.counts) k.0 (name_in p1.script.now r.name)) where
      named : fun_found y ≡ method_named (View.program_view p.script.now p1.program.words.now p1.program.counts) k.0 (name_in p.script.now r.name)
      named = rw a.kept.script at d

      pub method_yes : y ≡ Some f → Method (Ok tt)
      method_yes i = record { kept = a.kept; takes = M.method_yes p.program.limits k a.taken (ap (fun_in p1) o) b y named i }

      pub method_other : (y ≡ Some f → ⊥) → Method (Err Q.NameTaken)
      method_other i = record { kept = a.kept; takes = M.method_other p.program.limits k a.taken (ap (fun_in p1) o) b y named i }

-- ---- parse_attr

at_cursor : {f : Reads (Unit {0})} {k : ℕ} {s m w : List ℕ} {c : Cursor} {m' w' : List ℕ} {c' c1 : Cursor} → c1 ≡ c'
    → Takes f k s m w c m' w' (moved_of (Moved.On c')) → Takes f k s m w c m' w' (moved_of (Moved.On c1))
at_cursor e t = rw e t

module _ (p : Parser) (k : ClassId) (g : Resting p) {p1 : Parser} {x : Result (Unit {0}) Refusal} (a : ParserExpects (K.Sign 58) p p1 x) where
  abbrev Attr : Parser → Result (Unit {0}) Refusal → Type 0
  Attr p' r = ParserTakes (λ L s. parse_attr L s k.0) 1 p p' (through p' r)

  a1 : After p p1 p.program.words.now p.scratch.now
  a1 = after_placed (after_none p) a.same

  pub attr_no : {e : Refusal} → x ≡ Err e → Attr p1 (Err e)
  attr_no f = takes_end a1 (M.attr_no p.program.limits k g a.expects (ap (moved_in p1) f))

  module _ (f : x ≡ Ok tt) {p2 : Parser} {u : Result Name Refusal} (b : ParserIdents p1 p2 u) where
    colon : Idents p.script.now (cursor_of p1) (ident_in p2 u)
    colon = idents_of a1 b

    a2 : After p p2 p.program.words.now p.scratch.now
    a2 = after_placed a1 b.same

    pub attr_no2 : {e : Refusal} → u ≡ Err e → Attr p2 (Err e)
    attr_no2 i = takes_end a2 (M.attr_no2 p.program.limits k g a.expects (ap (moved_in p1) f) colon (ap (ident_in p2) i))

    module _ {n : Name} (i : u ≡ Ok n) where
      module _ {d : Draft} (h : DraftKept p2.program d) (cs : d.counts ≡ p2.program.counts) where
        a3 : After p (record p2 { program = d }) d.words.now p.scratch.now
        a3 =
            record {
              kept = let k = a2.kept in record {
                script = k.script;
                limits = h.limits ∙ k.limits;
                words_loan = h.loan ∙ k.words_loan;
                scratch_loan = k.scratch_loan;
                words_room = h.room ∙ k.words_room;
                scratch_room = k.scratch_room;
              };
              words = refl;
              scratch = a2.scratch;
            }

        ended : (y : Result (Unit {0}) Refusal) → Declares p.program.limits k.0 n p.script.now p.program.words.now p2.program.counts d.words.now y
            → Takes (parse_attr (limits_of p.program.limits) p.script.now k.0) 1 p.script.now p.program.words.now p.scratch.now (cursor_of p) d.words.now p.scratch.now
            (through (record p2 { program = d }) y)
        ended (Ok t) e =
            at_cursor (ap (λ z. count_cur z (cursor_of p2)) cs)
            (M.attr_yes p.program.limits k g a.expects (ap (moved_in p1) f) colon (ap (ident_in p2) i) e refl)
        ended (Err z) e = M.attr_no3 p.program.limits k g a.expects (ap (moved_in p1) f) colon (ap (ident_in p2) i) e refl

        pub attr_end : (y : Result (Unit {0}) Refusal)
            → Declares p2.program.limits k.0 n p2.script.now p2.program.words.now p2.program.counts d.words.now y
            → Attr (record p2 { program = d }) y
        attr_end y e = takes_end a3 (ended y (rw (a2.kept.limits, a2.kept.script, a2.words) at e))

-- ---- parse_member

end_apart : K.End ≡ K.EndOfText → ⊥
end_apart e = cc

def_apart : (K.Def ≡ K.EndOfText → ⊥) × (K.Def ≡ K.End → ⊥)
def_apart = (λ e. cc, λ e. cc)

attr_apart : (K.AttrAccessor ≡ K.EndOfText → ⊥) × ((K.AttrAccessor ≡ K.End → ⊥) × (K.AttrAccessor ≡ K.Def → ⊥))
attr_apart = (λ e. cc, (λ e. cc, λ e. cc))

module _ (p : Parser) (k : ClassId) (g : Resting p) {r : Result Word Refusal} (v : Sees p.script.now (cursor_of p) r) where
  abbrev Member : Parser → Result Bool Refusal → Type 0
  Member p' t = ParserTurns (λ L s. parse_class_member L s k.0 tt) p p' t

  pub member_none : {e : Refusal} → r ≡ Err e → Member p (Err e)
  member_none f = record { kept = kept_none p; turns = M.member_none p.program.limits k g v f }

  module _ {x : Word} (f : r ≡ Ok x) where
    pub member_over : x.token ≡ K.EndOfText → Member (placed x.next p) (Ok false)
    member_over z = record { kept = kept_placed refl; turns = M.member_over p.program.limits k g v f refl z }

    pub member_ends : x.token ≡ K.End → Member (placed x.next p) (Ok false)
    member_ends z = record { kept = kept_placed refl; turns = M.member_ends p.program.limits k g v f refl (λ e. end_apart (sym z ∙ e)) z }

    module _ (z : x.token ≡ K.Def) {p1 : Parser} (y : Result (Unit {0}) Refusal)
        (b : ParserTakes (λ L s. parse_method L s k.0) 1 (placed x.next p) p1 (through p1 y)) where
      n0 : x.token ≡ K.EndOfText → ⊥
      n0 e = def_apart.0 (sym z ∙ e)

      n5 : x.token ≡ K.End → ⊥
      n5 e = def_apart.1 (sym z ∙ e)

      pub member_def_no : {e : Refusal} → y ≡ Err e → Member p1 (Err e)
      member_def_no i = record { kept = kept_trans (kept_placed refl) b.kept; turns = M.member_def_no p.program.limits k g v f refl n0 n5 z {y = moved_in p1 y} b.takes (ap (moved_in p1) i) }

      pub member_def : y ≡ Ok tt → Member p1 (Ok true)
      member_def i = record { kept = kept_trans (kept_placed refl) b.kept; turns = M.member_def p.program.limits k g v f refl n0 n5 z {y = moved_in p1 y} b.takes (ap (moved_in p1) i) }

    module _ (z : x.token ≡ K.AttrAccessor) {p1 : Parser} (y : Result (Unit {0}) Refusal)
        (b : ParserTakes (λ L s. parse_attr L s k.0) 1 (placed x.next p) p1 (through p1 y)) where
      m0 : x.token ≡ K.EndOfText → ⊥
      m0 e = attr_apart.0 (sym z ∙ e)

      m5 : x.token ≡ K.End → ⊥
      m5 e = attr_apart.1.0 (sym z ∙ e)

      m3 : x.token ≡ K.Def → ⊥
      m3 e = attr_apart.1.1 (sym z ∙ e)

      pub member_attr_no : {e : Refusal} → y ≡ Err e → Member p1 (Err e)
      member_attr_no i = record { kept = kept_trans (kept_placed refl) b.kept; turns = M.member_attr_no p.program.limits k g v f refl m0 m5 m3 z {y = moved_in p1 y} b.takes (ap (moved_in p1) i) }

      pub member_attr : y ≡ Ok tt → Member p1 (Ok true)
      member_attr i = record { kept = kept_trans (kept_placed refl) b.kept; turns = M.member_attr p.program.limits k g v f refl m0 m5 m3 z {y = moved_in p1 y} b.takes (ap (moved_in p1) i) }

    pub member_other : (x.token ≡ K.EndOfText → ⊥) → (x.token ≡ K.End → ⊥) → (x.token ≡ K.Def → ⊥) → (x.token ≡ K.AttrAccessor → ⊥)
        → Member (placed x.next p) (Err Q.UnexpectedWord)
    member_other n0 n5 n3 n9 = record { kept = kept_placed refl; turns = M.member_other p.program.limits k g v f refl n0 n5 n3 n9 }

-- ---- loops over things

pub record Stands (f : P.Limits → List ℕ → Unit {0} → Reads (Turn (Unit {0}) (Unit {0}))) (p₀ p : Parser) : Type 0 where
  pub going : Going (f (limits_of p₀.program.limits) p₀.script.now) p₀.script.now p₀.program.words.now p₀.scratch.now (cursor_of p₀)
      p.program.words.now p.scratch.now (cursor_of p)
  pub kept : ParserKept p₀ p

pub stands_start : (f : P.Limits → List ℕ → Unit {0} → Reads (Turn (Unit {0}) (Unit {0}))) (p : Parser) → Resting p → Stands f p p
stands_start f p g = record { going = going_start (f (limits_of p.program.limits) p.script.now) _ _ _ _ g; kept = kept_none p }

module _ {f : P.Limits → List ℕ → Unit {0} → Reads (Turn (Unit {0}) (Unit {0}))} {p₀ p : Parser} (i : Stands f p₀ p) where
  module _ {p1 : Parser} (r : Result Bool Refusal) (a : ParserTurns (λ L s. f L s tt) p p1 r) where
    turned : Turns (f (limits_of p₀.program.limits) p₀.script.now tt) p₀.script.now p.program.words.now p.scratch.now (cursor_of p)
        p1.program.words.now p1.scratch.now (turned_in p1 r)
    turned = rw (i.kept.limits, i.kept.script) at a.turns

    kept_on : ParserKept p₀ p1
    kept_on = kept_trans i.kept a.kept

    pub stands_no : {e : Refusal} → r ≡ Err e → ParserTakes (λ L s. loop (f L s) (turns s) tt) 0 p₀ p1 (through p1 (Err e))
    stands_no h = record { kept = kept_on; takes = going_no i.going turned (ap (turned_in p1) h) }

    pub stands_end : r ≡ Ok false → ParserTakes (λ L s. loop (f L s) (turns s) tt) 0 p₀ p1 (through p1 (Ok tt))
    stands_end h = record { kept = kept_on; takes = going_ends i.going turned (ap (turned_in p1) h) }

    pub stands_on : r ≡ Ok true → Stands f p₀ p1
    stands_on h = record { going = going_on i.going turned (ap (turned_in p1) h); kept = kept_on }

-- ---- parse_class

module _ (p : Parser) (g : Resting p) {p1 : Parser} {u : Result Name Refusal} (a : ParserIdents p p1 u) where
  abbrev Class : Parser → Result (Unit {0}) Refusal → Type 0
  Class p' r = ParserTakes (λ L s. parse_class L s) 1 p p' (through p' r)

  pub class_no : {e : Refusal} → u ≡ Err e → Class p1 (Err e)
  class_no f = takes_end (F.c1 p g a) (C.class_no p.program.limits g a.idents (ap (ident_in p1) f))

  module _ {n : Name} (f : u ≡ Ok n) {d : Draft} (h : DraftKept p1.program d) (x : Result ClassId Refusal)
      (b : View.ProgramDid (View.class_for (limits_of p1.program.limits) n) View.unchanged p1.program.counts.classes (View.more_classes p1.program.counts)
      p1.program.words.now p1.program.counts d.words.now (View.class_of d.counts x)) where
    opened : View.ProgramDid (View.class_for (limits_of p.program.limits) n) View.unchanged p1.program.counts.classes (View.more_classes p1.program.counts)
        p.program.words.now p1.program.counts d.words.now (View.class_of d.counts x)
    opened = rw ((F.c1 p g a).kept.limits, (F.c1 p g a).words) at b

    kept2 : ParserKept p (record p1 { program = d })
    kept2 = let k = (F.c1 p g a).kept in record {
      script = k.script;
      limits = h.limits ∙ k.limits;
      words_loan = h.loan ∙ k.words_loan;
      scratch_loan = k.scratch_loan;
      words_room = h.room ∙ k.words_room;
      scratch_room = k.scratch_room;
    }

    b2 : After p (record p1 { program = d }) d.words.now p.scratch.now
    b2 = record { kept = kept2; words = refl; scratch = (F.c1 p g a).scratch }

    pub class_no2 : {e : Refusal} → x ≡ Err e → Class (record p1 { program = d }) (Err e)
    class_no2 i = takes_end b2 (C.class_no2 p.program.limits g a.idents (ap (ident_in p1) f) d.counts x opened i)

    module _ {k : ClassId} (i : x ≡ Ok k) where
      b3 : After p (record p1 { program = d; class = Some k }) d.words.now p.scratch.now
      b3 = after_same b2 refl refl refl

      module _ {p2 : Parser} (y : Result (Unit {0}) Refusal)
          (t : ParserTakes (λ L s. loop (parse_class_member L s k.0) (turns s) tt) 0 (record p1 { program = d; class = Some k }) p2 (through p2 y)) where
        members : Takes (loop (parse_class_member (limits_of p.program.limits) p.script.now k.0) (turns p.script.now) tt) 0 p.script.now d.words.now p.scratch.now
            (cursor_of (record p1 { program = d; class = Some k })) p2.program.words.now p2.scratch.now (moved_of (moved_in p2 y))
        members = takes_of b3 t

        b4 : After p p2 p2.program.words.now p2.scratch.now
        b4 = after_kept b3 t.kept

        pub class_no3 : {e : Refusal} → y ≡ Err e → Class p2 (Err e)
        class_no3 z = takes_end b4 (C.class_no3 p.program.limits g a.idents (ap (ident_in p1) f) d.counts x opened i refl refl {y = moved_in p2 y} members (ap (moved_in p2) z))

        module _ (z : y ≡ Ok tt) (o : Maybe ClassId) (v : LookKnown p2.script.now p2.program.words.now p2.program.counts p2.class n o) where
          known : LookKnown p.script.now p2.program.words.now p2.program.counts p2.class n o
          known = rw b4.kept.script at v

          pub class_twice : is_some o ≡ true → Class p2 (Err Q.NameTaken)
          class_twice s =
              takes_end b4
              (C.class_twice p.program.limits g a.idents (ap (ident_in p1) f) d.counts x opened i refl refl {y = moved_in p2 y} members (ap (moved_in p2) z) o known s)

          b5 : After p (record p2 { class = None }) p2.program.words.now p2.scratch.now
          b5 = after_same b4 refl refl refl

          pub class_single : is_some o ≡ false → p.class ≡ None → Class (record p2 { class = None }) (Ok tt)
          class_single s outside =
              takes_end b5
              (C.class_single p.program.limits g a.idents (ap (ident_in p1) f) d.counts x opened i refl refl {y = moved_in p2 y} members (ap (moved_in p2) z) o known s
              refl outside)
