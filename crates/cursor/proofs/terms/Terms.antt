-- Laws of names, assignments and sends. Assumes nothing.
use mathlib.Core.Bool.{Bool, true, false}
use mathlib.Core.Option.{Option, none, some}
use mathlib.Core.Path.{◌≡◌, refl, sym, ap, ◌∙◌}
use mathlib.Core.List.{List, map}
use Prim.Native.Nat.{ℕ}
use native.Mathlib.Omega.{arith}
use lib.ListN.{length, get_or}
use Rattle.ids.specs.declared.ClassId.{ClassId}
use Rattle.ids.specs.declared.FunId.{FunId}
use Rattle.kinds.specs.declared.Kind.{Kind}
use Rattle.rules.specs.Actions.{answered, refused, when◌then◌else◌, refuse}
use Rattle.rules.specs.Lists.{bytes, same}
use Rattle.rules.specs.Values.{fun_kind, class_kind, class_in}
use Rattle.rules.specs.Program as P
use Rattle.rules.specs.Program.{function_named, constructor_of}
use Rattle.rules.specs.Reading.{Parser, Reads, lookup, named, is_fixed, fixed, class_named, meaning, constant_of, push, create_instance, send}
use Rattle.lexer.specs.Names.{name}
use Rattle.lexer.proofs.Names.{by_test}
use Rattle.lexer.proofs.Texts.{same_eq}
use Rattle.variables.specs.Memory.{vars}
use Rattle.program.specs.Rows.{opnd_of, op_in, given, name_in, owner_in}
use Rattle.program.specs.View.{program_view, callee_in}
use Rattle.program.specs.declared.Name.{Name}
use Rattle.program.specs.declared.Opnd.{Opnd}
use Rattle.program.specs.declared.Opnd.TheVariants.{Const}
use Rattle.program.specs.declared.Op.TheVariants.{New}
use Rattle.program.specs.declared.Given.TheVariants.{Zero}
use Rattle.program.specs.declared.Callee.TheVariants.{Dynamic}
use Rattle.std.specs.declared.option.Option.{Option as Maybe}
use Rattle.lookups.specs.Look.{fun_found, constructor_found, Constructs, LookKnown}
use Rattle.phis.specs.Joining.{PhisSets, PhisFinds, var_of}
use Rattle.cursor.specs.Cursor.{Cursor, parser_of, bind_cur, In}
use Rattle.cursor.specs.Steps.{assigns, means}
use Rattle.cursor.specs.Promises.{Out, done, CursorDid, CursorAdds, Assigns, parsed_of}
use Rattle.cursor.specs.outcomes.Parsed.{Parsed, Done, Refused}
use Rattle.cursor.proofs.Laws.{step-none, step_trans, Acted, got, gave, refuses, arrives, ends_as, added_did}

-- ---- fixed values

-- a text that no fixed value has, by its length and its first byte
pub none_fixed : {t n : List ℕ} → t ≡ n → (length t ≡ 3 → get_or t 0 0 ≡ 110 → ⊥) → (length t ≡ 4 → get_or t 0 0 ≡ 116 → ⊥)
    → (length t ≡ 5 → get_or t 0 0 ≡ 102 → ⊥) → false ≡ is_fixed n
none_fixed {t} {n} e a b d =
    let no : (k : List ℕ) → (length t ≡ length k → get_or t 0 0 ≡ get_or k 0 0 → ⊥) → same n k ≡ false
    = λ k h. by_test (λ q. q ≡ false) (same n k) (λ f. let g : t ≡ k = e ∙ same_eq n k f in absurd (h (ap length g) (ap (λ l. get_or l 0 0) g))) (λ f. refl) in
    rw (no (bytes "true") b, no (bytes "false") d, no (bytes "nil") a) refl

-- ---- assignments

module _ (s : List ℕ) (n : Name) (v : Opnd) (c : Cursor) (w : List ℕ) {b : Bool} (q : b ≡ is_fixed (name_in s n)) where
  pub assign_no : (w' : List ℕ) → b ≡ true → Assigns s n v c w w' (Refused 7)
  unfolding assigns
  assign_no w' e = record { is = λ m. rw (sym q ∙ e); ok = tt }

  pub assign_yes : {w' : List ℕ} {c' : Cursor} → b ≡ false → PhisSets c.vars n.start n.len v w w' → c' ≡ bind_cur c → Assigns s n v c w w' (Done c' v)
  unfolding assigns parser_of
  assign_yes e x f =
      record {
        is = λ m. rw (f, x.is s, sym q ∙ e);
        ok = record {
          cur = f;
          long = x.len_same;
          old = λ i l. x.old.same i (omega arith) l;
          rows = λ i l h. x.aside.same i l h;
          stack = λ i l. x.aside.beyond i l;
        };
      }

-- ---- what a name means

module _ (n : P.Name) (r : Parser) where
  means-at : {o : P.Opnd} → some o ≡ meaning n r → answered (o, r) ≡ means n r
  unfolding means
  means-at e = rw (← e)

  means_no : none ≡ meaning n r → refused 6 ≡ means n r
  unfolding means
  means_no e = rw (← e)

  as_fixed : is_fixed n ≡ true → some (fixed n) ≡ meaning n r
  unfolding meaning
  as_fixed e = rw e

  module _ (e : is_fixed n ≡ false) where
    as_fun : {f : ℕ} → some f ≡ function_named r.program n → some (P.Const (fun_kind f)) ≡ meaning n r
    unfolding meaning
    as_fun g = rw (e, ← g)

    module _ (g : none ≡ function_named r.program n) where
      as_class : {k : ℕ} → some k ≡ class_named r n → some (P.Const (class_kind k)) ≡ meaning n r
      unfolding meaning
      as_class h = rw (e, ← g, ← h)

      as_var : {o : Option P.Opnd} → none ≡ class_named r n → o ≡ lookup n r.env → o ≡ meaning n r
      unfolding meaning
      as_var h j = rw (e, ← g, ← h) j

program_of : (s m w : List ℕ) (c : Cursor) → (parser_of s m w c).program ≡ program_view s m c.counts
unfolding parser_of
program_of s m w c = refl

env_of_lem : (s m w : List ℕ) (c : Cursor) → (parser_of s m w c).env ≡ vars s w c.vars
unfolding parser_of
env_of_lem s m w c = refl

known_of : (s m w : List ℕ) (c : Cursor) (n : Name) (r : Maybe ClassId) → LookKnown s m c.counts c.class n r → owner_in r ≡ class_named (parser_of s m w c) (name_in s n)
unfolding parser_of
known_of s m w c n r k = k.is (parser_of s m w c)

found : (s m w : List ℕ) (c : Cursor) (n : Name) (x : Maybe FunId) → fun_found x ≡ function_named (program_view s m c.counts) (name_in s n)
    → fun_found x ≡ function_named (parser_of s m w c).program (name_in s n)
unfolding parser_of
found s m w c n x f = f

module _ (s m w : List ℕ) (c : Cursor) (n : Name) (h : In s m w c) {b : Bool} (q : b ≡ is_fixed (name_in s n)) where
  says : {o : P.Opnd} → some o ≡ meaning (name_in s n) (parser_of s m w c) → CursorDid (means (name_in s n)) 0 s m w c m w (done o c)
  says e = arrives (step-none c w) (omega arith) h (means-at (name_in s n) (parser_of s m w c) e)

  pub value-fixed : {u : P.Opnd} → b ≡ true → u ≡ fixed (name_in s n) → CursorDid (means (name_in s n)) 0 s m w c m w (done u c)
  value-fixed e f = says (ap some f ∙ as_fixed (name_in s n) (parser_of s m w c) (sym q ∙ e))

  module _ (e : b ≡ false) {x : Maybe FunId} (f : fun_found x ≡ function_named (program_view s m c.counts) (name_in s n)) where
    pub value_fun : {i : FunId} → x ≡ Maybe.Some i → CursorDid (means (name_in s n)) 0 s m w c m w (parsed_of (Done c (Const (Kind.Fun i))))
    value_fun g = says (as_fun (name_in s n) (parser_of s m w c) (sym q ∙ e) (sym (ap fun_found g) ∙ found s m w c n x f))

    module _ (g : x ≡ Maybe.None) {y : Maybe ClassId} (k : LookKnown s m c.counts c.class n y) where
      pub value-class : {i : ClassId} → y ≡ Maybe.Some i → CursorDid (means (name_in s n)) 0 s m w c m w (parsed_of (Done c (Const (Kind.Class i))))
      value-class j =
          says (as_class (name_in s n) (parser_of s m w c) (sym q ∙ e) (sym (ap fun_found g) ∙ found s m w c n x f) (sym (ap owner_in j) ∙ known_of s m w c n y k))

      module _ (j : y ≡ Maybe.None) {z : Maybe Opnd} (u : PhisFinds s w c.vars (name s n.start n.len) z) where
        as_found : {o : Option P.Opnd} → var_of z ≡ o → o ≡ meaning (name_in s n) (parser_of s m w c)
        as_found t =
            as_var (name_in s n) (parser_of s m w c) (sym q ∙ e) (sym (ap fun_found g) ∙ found s m w c n x f) (sym (ap owner_in j) ∙ known_of s m w c n y k)
            (sym t ∙ (u.is ∙ ap (lookup (name_in s n)) (sym (env_of_lem s m w c))))

        pub value_var : {o : Opnd} → z ≡ Maybe.Some o → CursorDid (means (name_in s n)) 0 s m w c m w (parsed_of (Done c o))
        value_var t = says (as_found (ap var_of t))

        pub value_none : z ≡ Maybe.None → CursorDid (means (name_in s n)) 0 s m w c m w (parsed_of (Refused 6))
        value_none t = refuses (means_no (name_in s n) (parser_of s m w c) (as_found (ap var_of t)))

-- the last way: the variable, where there is one
pub value-last : (s m w : List ℕ) (c : Cursor) (n : Name) (h : In s m w c) {b : Bool} (q : b ≡ is_fixed (name_in s n)) (e : b ≡ false) {x : Maybe FunId}
    (f : fun_found x ≡ function_named (program_view s m c.counts) (name_in s n)) (g : x ≡ Maybe.None) {y : Maybe ClassId} (k : LookKnown s m c.counts c.class n y)
    (j : y ≡ Maybe.None) (z : Maybe Opnd) → PhisFinds s w c.vars (name s n.start n.len) z → {p : Parsed}
    → ((v : Opnd) → z ≡ Maybe.Some v → p ≡ Done c v) → (z ≡ Maybe.None → p ≡ Refused 6) → CursorDid (means (name_in s n)) 0 s m w c m w (parsed_of p)
value-last s m w c n h q e f g k j (Maybe.Some v) u {p} a b = rw (a v refl) (value_var s m w c n h q e f g k j u refl)
value-last s m w c n h q e f g k j Maybe.None u {p} a b = rw (b refl) (value_none s m w c n h q e f g k j u refl)

-- ---- sends

module _ (L : P.Limits) (s : List ℕ) (m w : List ℕ) (c : Cursor) (k : ClassId) (l : List P.Opnd) (h : In s m w c) {m1 : List ℕ} {p : Parsed}
    (a : CursorAdds s w (push L (op_in s (New k) (map opnd_of (given Zero)))) m c m1 (parsed_of p)) where
  pub create_no1 : {e : ℕ} → p ≡ Refused e → (E : ℕ → Reads P.Opnd) → CursorDid (create_instance L s E k.0 l) 0 s m w c m1 w (parsed_of (Refused e))
  unfolding create_instance
  create_no1 f E = refuses (rw (← gave (added_did a h) (ap parsed_of f)))

  module _ {c1 : Cursor} {o : Opnd} (f : p ≡ Done c1 o) where
    at_new : Acted (push L (P.New k.0)) 0 s m w c m1 w (opnd_of o) c1
    at_new = got (added_did a h) (ap parsed_of f)

    module _ {q : Maybe (FunId × Name)} (x : Constructs s m1 c1.counts k.0 q) where
      ctor : {y : Option ℕ} → constructor_found q ≡ y → y ≡ constructor_of (parser_of s m1 w c1).program k.0
      ctor g = sym g ∙ (x.is ∙ ap (λ (z : P.Program). constructor_of z k.0) (sym (program_of s m1 w c1)))

      pub create_bare : q ≡ Maybe.None → (E : ℕ → Reads P.Opnd) → CursorDid (create_instance L s E k.0 l) 0 s m w c m1 w (parsed_of (Done c1 o))
      unfolding create_instance
      create_bare g E = arrives at_new.step (omega arith) at_new.here (rw (← at_new.is, ← ctor (ap constructor_found g)))

      module _ {i : FunId} {x' : Name} (g : q ≡ Maybe.Some (i, x')) where
        init : name_in s x' ≡ bytes "initialize"
        init = let y = rw g at x in y.named

        called : {m2 : List ℕ} {u : Out P.Opnd} → CursorAdds s w (push L (P.Send (callee_in s (Dynamic o x')) l)) m1 c1 m2 u
            → CursorDid (push L (P.Send (P.Dynamic (opnd_of o) (bytes "initialize")) l)) 0 s m1 w c1 m2 w u
        called b = rw init at (added_did b at_new.here)

        pub create_no2 : {m2 : List ℕ} {p2 : Parsed} {e : ℕ} → CursorAdds s w (push L (P.Send (callee_in s (Dynamic o x')) l)) m1 c1 m2 (parsed_of p2)
            → p2 ≡ Refused e → (E : ℕ → Reads P.Opnd) → CursorDid (create_instance L s E k.0 l) 0 s m w c m2 w (parsed_of (Refused e))
        unfolding create_instance
        create_no2 b j E = refuses (rw (← at_new.is, ← ctor (ap constructor_found g), ← gave (called b) (ap parsed_of j)))

        pub create_yes : {m2 : List ℕ} {p2 : Parsed} {c2 : Cursor} {o2 : Opnd} → CursorAdds s w (push L (P.Send (callee_in s (Dynamic o x')) l)) m1 c1 m2 (parsed_of p2)
            → p2 ≡ Done c2 o2 → (E : ℕ → Reads P.Opnd) → CursorDid (create_instance L s E k.0 l) 0 s m w c m2 w (parsed_of (Done c2 o))
        unfolding create_instance
        create_yes b j E =
            let d = got (called b) (ap parsed_of j) in
            arrives (step_trans at_new.step d.step) (omega arith) d.here (rw (← at_new.is, ← ctor (ap constructor_found g), ← d.is))

-- the rules' choice, by the class that a constant names
abbrev send_by : P.Limits → List ℕ → (ℕ → Reads P.Opnd) → P.Opnd → P.Name → List P.Opnd → Option ℕ → Reads P.Opnd
send_by L s E v n l o = elim o [
  | some c ↦ when named n "new" then create_instance L s E c l else refuse 8
  | none ↦ push L (P.Send (P.Dynamic v n) l)
]

send-is : (L : P.Limits) (s : List ℕ) (E : ℕ → Reads P.Opnd) (v : P.Opnd) (n : P.Name) (l : List P.Opnd) (r : Parser) {o : Option ℕ} → o ≡ constant_of class_in v
    → send_by L s E v n l o r ≡ send L s E v n l r
unfolding send
send-is L s E v n l r e = ap (λ (z : Option ℕ). send_by L s E v n l z r) e

send-made : (L : P.Limits) (s : List ℕ) (E : ℕ → Reads P.Opnd) (v : P.Opnd) (n : P.Name) (l : List P.Opnd) (c : ℕ) (r : Parser) → named n "new" ≡ true
    → create_instance L s E c l r ≡ send_by L s E v n l (some c) r
send-made L s E v n l c r e = rw e

send-stopped : (L : P.Limits) (s : List ℕ) (E : ℕ → Reads P.Opnd) (v : P.Opnd) (n : P.Name) (l : List P.Opnd) (c : ℕ) (r : Parser) → named n "new" ≡ false
    → refused 8 ≡ send_by L s E v n l (some c) r
send-stopped L s E v n l c r e = rw e

module _ (L : P.Limits) (s : List ℕ) (m w : List ℕ) (c : Cursor) (v : Opnd) (n : Name) (l : List P.Opnd) where
  pub send_dynamic : {m1 : List ℕ} {u : Out P.Opnd} → In s m w c → none ≡ constant_of class_in (opnd_of v)
      → CursorAdds s w (push L (P.Send (callee_in s (Dynamic v n)) l)) m c m1 u
      → (E : ℕ → Reads P.Opnd) → CursorDid (send L s E (opnd_of v) (name_in s n) l) 0 s m w c m1 w u
  send_dynamic h e a E =
      ends_as (step-none c w) (omega arith) (added_did a h) (send-is L s E (opnd_of v) (name_in s n) l (parser_of s m w c) e)

  module _ {x : ClassId} (e : some x.0 ≡ constant_of class_in (opnd_of v)) {b : Bool} (q : b ≡ same (name s n.start n.len) (bytes "new")) where
    pub send-other : {m' : List ℕ} → b ≡ false → (E : ℕ → Reads P.Opnd) → CursorDid (send L s E (opnd_of v) (name_in s n) l) 0 s m w c m' w (parsed_of (Refused 8))
    send-other f E =
        refuses
        (send-stopped L s E (opnd_of v) (name_in s n) l x.0 (parser_of s m w c) (sym q ∙ f)
        ∙ send-is L s E (opnd_of v) (name_in s n) l (parser_of s m w c) e)

    pub send-new : {m1 w1 : List ℕ} {u : Out P.Opnd} → b ≡ true → ((E : ℕ → Reads P.Opnd) → CursorDid (create_instance L s E x.0 l) 0 s m w c m1 w1 u)
        → (E : ℕ → Reads P.Opnd) → CursorDid (send L s E (opnd_of v) (name_in s n) l) 0 s m w c m1 w1 u
    send-new f a E =
        ends_as (step-none c w) (omega arith) (a E)
        (send-made L s E (opnd_of v) (name_in s n) l x.0 (parser_of s m w c) (sym q ∙ f)
        ∙ send-is L s E (opnd_of v) (name_in s n) l (parser_of s m w c) e)
