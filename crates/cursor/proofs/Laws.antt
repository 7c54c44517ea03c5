-- Laws of steps and promises: how the steps of a reading join. Assumes nothing.
use mathlib.Core.Path.{◌≡◌, refl, ◌∙◌}
use mathlib.Core.List.{List}
use Prim.Native.Nat.{ℕ, ◌+◌, ◌≤◌}
use native.Mathlib.Omega.{arith}
use lib.ListN.{length}
use Rattle.rules.specs.Actions.{answered, refused}
use Rattle.rules.specs.Reading.{Reads, expect_ident}
use Rattle.variables.proofs.Rooms.{room-on}
use Rattle.program.specs.View as View
use Rattle.cursor.specs.Cursor.{parser_of, move_cur, count_cur, In, CursorStep}
use Rattle.cursor.specs.Promises.{Out, done, stop, CursorAfter, CursorDid, Onward, Moves, CursorGrown, CursorAdds, Idents}
use Rattle.program.specs.declared.Counts.{Counts}
use Rattle.program.specs.Rows.{name_in}
use Rattle.program.specs.declared.Name.{Name}
use Rattle.cursor.specs.Cursor.{Cursor}
use Rattle.cursor.specs.outcomes.Ident.{Ident, Found}

-- ---- steps

pub step-none : (c : Cursor) (w : List ℕ) → CursorStep 0 c w c w
step-none c w =
    record {
      on = omega arith;
      paid = omega arith;
      more = omega arith;
      aside = refl;
      args = refl;
      class = refl;
      receiver = refl;
      functions = omega arith;
      classes = omega arith;
      blocks = omega arith;
      old = λ i a. refl;
      rows = λ i a b. refl;
      stack = λ i a b. refl;
    }

pub step_less : {k j : ℕ} {c c' : Cursor} {w w' : List ℕ} → j ≤ k → CursorStep k c w c' w' → CursorStep j c w c' w'
step_less l a =
    record {
      on = omega (arith, a.on);
      paid = a.paid;
      more = a.more;
      aside = a.aside;
      args = a.args;
      class = a.class;
      receiver = a.receiver;
      functions = a.functions;
      classes = a.classes;
      blocks = a.blocks;
      old = a.old;
      rows = a.rows;
      stack = a.stack;
    }

pub step_trans : {k j : ℕ} {c c1 c2 : Cursor} {w w1 w2 : List ℕ} → CursorStep k c w c1 w1 → CursorStep j c1 w1 c2 w2 → CursorStep (k + j) c w c2 w2
step_trans a b =
    record {
      on = omega (arith, a.on, b.on);
      paid = omega (arith, a.paid, b.paid);
      more = omega (arith, a.more, b.more);
      aside = b.aside ∙ a.aside;
      args = b.args ∙ a.args;
      class = b.class ∙ a.class;
      receiver = b.receiver ∙ a.receiver;
      functions = omega (arith, a.functions, b.functions);
      classes = omega (arith, a.classes, b.classes);
      blocks = omega (arith, a.blocks, b.blocks);
      old = λ i l. b.old i (omega (arith, a.more)) ∙ a.old i l;
      rows = λ i l h. b.rows i l (omega (arith, a.aside)) ∙ a.rows i l h;
      stack = λ i l h. b.stack i l (omega (arith, a.args)) ∙ a.stack i l h;
    }

-- ---- a reading that is done, and one that refuses

pub record Acted {A : Type 0} (f : Reads A) (k : ℕ) (s m w : List ℕ) (c : Cursor) (m' w' : List ℕ) (a : A) (c' : Cursor) : Type 0 where
  pub is : answered (a, parser_of s m' w' c') ≡ f (parser_of s m w c)
  pub here : In s m' w' c'
  pub step : CursorStep k c w c' w'

module _ {A : Type 0} {f : Reads A} {k : ℕ} {s m w : List ℕ} {c : Cursor} {m' w' : List ℕ} {o : Out A} where
  pub got : {a : A} {c' : Cursor} → CursorDid f k s m w c m' w' o → o ≡ done a c' → Acted f k s m w c m' w' a c'
  got d e = let h = rw e at d in record { is = h.is; here = h.ok.0; step = h.ok.1 }

  pub gave : {e : ℕ} → CursorDid f k s m w c m' w' o → o ≡ stop e → refused e ≡ f (parser_of s m w c)
  gave d e = let h = rw e at d in h.is

-- ---- ways through a reader

module _ {A : Type 0} {s m w : List ℕ} {c : Cursor} where
  pub refuses : {f : Reads A} {k e : ℕ} {m' w' : List ℕ} → refused e ≡ f (parser_of s m w c) → CursorDid f k s m w c m' w' (stop e)
  refuses h = record { is = h; ok = tt }

  pub arrives : {f : Reads A} {k j : ℕ} {m' w' : List ℕ} {a : A} {c' : Cursor} → CursorStep k c w c' w' → j ≤ k → In s m' w' c'
      → answered (a, parser_of s m' w' c') ≡ f (parser_of s m w c) → CursorDid f j s m w c m' w' (done a c')
  arrives st l h e = record { is = e; ok = (h, step_less l st) }

pub after-step : {A : Type 0} {k : ℕ} (j i : ℕ) {w w1 : List ℕ} (s m2 w2 : List ℕ) {c c1 : Cursor} (o : Out A) → CursorStep k c w c1 w1 → i ≤ k + j → CursorAfter j s c1 w1 m2 w2 o
    → CursorAfter i s c w m2 w2 o
after-step j i s m2 w2 (done a c2) st l h = (h.0, step_less l (step_trans st h.1))
after-step j i s m2 w2 (stop e) st l h = tt

-- a reader that ends as another does
pub ends_as : {A : Type 0} {g f : Reads A} {k j i : ℕ} {s m w m1 w1 m2 w2 : List ℕ} {c c1 : Cursor} {o : Out A} → CursorStep k c w c1 w1 → i ≤ k + j → CursorDid g j s m1 w1 c1 m2 w2 o
    → g (parser_of s m1 w1 c1) ≡ f (parser_of s m w c) → CursorDid f i s m w c m2 w2 o
ends_as {j = j} {i = i} {s = s} {m2 = m2} {w2 = w2} {o = o} st l d e = record { is = d.is ∙ e; ok = after-step j i s m2 w2 o st l d.ok }

-- ---- readers that leave both memories alone

module _ {s m w : List ℕ} {c : Cursor} (h : In s m w c) where
  pub in_moved : (at : ℕ) → c.at ≤ at → at ≤ length s → In s m w (move_cur at c)
  in_moved at a b =
      record {
        ready = record {
          script = h.ready.script;
          inside = b;
          tables = h.ready.tables;
          scratch = h.ready.scratch;
          room = room-on h.ready.room at a (omega (arith, h.ready.script));
          args = omega (arith, h.ready.args);
        };
        block = h.block;
      }

pub step-moved : (c : Cursor) (w : List ℕ) (k at : ℕ) → c.at + k ≤ at → CursorStep k c w (move_cur at c) w
step-moved c w k at l =
    record {
      on = l;
      paid = omega arith;
      more = omega arith;
      aside = refl;
      args = refl;
      class = refl;
      receiver = refl;
      functions = omega arith;
      classes = omega arith;
      blocks = omega arith;
      old = λ i a. refl;
      rows = λ i a b. refl;
      stack = λ i a b. refl;
    }

moved-after : {A : Type 0} (k : ℕ) {s m w : List ℕ} {c : Cursor} (o : Out A) → Onward k s c o → In s m w c → CursorAfter k s c w m w o
moved-after k {w = w} {c = c} (done a c') v h =
    (rw v.0 (in_moved h c'.at (omega (arith, v.1.0)) (v.1.1 h.ready.inside)), rw v.0 (step-moved c w k c'.at v.1.0))
moved-after k (stop e) v h = tt

pub moved-did : {A : Type 0} {f : Reads A} {k : ℕ} {s m w : List ℕ} {c : Cursor} {o : Out A} → Moves f k s c o → In s m w c → CursorDid f k s m w c m w o
moved-did {k = k} {m = m} {w = w} {o = o} v h = record { is = v.is m w; ok = moved-after k o v.ok h }

-- ---- readers that add instructions

module _ {s m w m' : List ℕ} {c : Cursor} (h : In s m w c) where
  pub in_counted : (n : Counts) → View.ProgramReady m' n → n.functions ≡ c.counts.functions → n.classes ≡ c.counts.classes → c.counts.blocks ≤ n.blocks
      → In s m' w (count_cur n c) × CursorStep 0 c w (count_cur n c) w
  in_counted n r f k b = (
    record {
      ready = record {
        script = h.ready.script;
        inside = h.ready.inside;
        tables = r;
        scratch = h.ready.scratch;
        room = h.ready.room;
        args = h.ready.args;
      };
      block = omega (arith, h.block);
    },
    record {
      on = omega arith;
      paid = omega arith;
      more = omega arith;
      aside = refl;
      args = refl;
      class = refl;
      receiver = refl;
      functions = omega arith;
      classes = omega arith;
      blocks = b;
      old = λ i a. refl;
      rows = λ i a b. refl;
      stack = λ i a b. refl;
    },
  )

added_after : {A : Type 0} {s m w : List ℕ} (m' : List ℕ) {c : Cursor} (o : Out A) → CursorGrown m' c o → In s m w c → CursorAfter 0 s c w m' w o
added_after m' {c = c} (done a c') v h = rw v.cur (in_counted h c'.counts v.ready v.functions v.classes (omega (arith, v.blocks)))
added_after m' (stop e) v h = tt

pub added_did : {A : Type 0} {f : Reads A} {s m w m' : List ℕ} {c : Cursor} {o : Out A} → CursorAdds s w f m c m' o → In s m w c → CursorDid f 0 s m w c m' w o
added_did {m' = m'} {o = o} v h = record { is = v.is; ok = added_after m' o v.ok h }

-- ---- over a name

module _ {s : List ℕ} {c c1 : Cursor} {u : Ident} {n : Name} (a : Idents s c u) (f : u ≡ Found c1 n) where
  pub ident_on : (c1 ≡ move_cur c1.at c) × ((c.at + 1 ≤ c1.at) × (c.at ≤ length s → c1.at ≤ length s))
  ident_on = let h = rw f at a.moves.ok in h

  pub ident_is : (m w : List ℕ) → answered (name_in s n, parser_of s m w c1) ≡ expect_ident s (parser_of s m w c)
  ident_is m w = rw f at (a.moves.is m w)
