-- Steps inside an `if`. Assumes nothing.
use mathlib.Core.Path.{◌≡◌, ap, ◌∙◌}
use mathlib.Core.List.{List}
use Prim.Native.Nat.{ℕ, ◌+◌, ◌*◌, ◌≤◌, ◌<◌}
use native.Mathlib.Omega.{arith}
use lib.ListN.{get_or}
use Rattle.ids.specs.declared.BlockId.{BlockId}
use Rattle.rules.specs.Reading.{new_block}
use Rattle.variables.specs.Scopes.{env_of}
use Rattle.variables.specs.Memory.{entry, vars, Kept}
use Rattle.variables.proofs.Entries.{made_move}
use Rattle.program.specs.View as View
use Rattle.program.specs.declared.bounds.Limits.{Limits}
use Rattle.cursor.specs.Cursor.{Cursor, In, CursorStep}
use Rattle.cursor.specs.Promises.{Out, done, stop, CursorAfter, CursorDid}
use Rattle.cursor.proofs.Laws.{in_counted}
use Rattle.variables.specs.Layout.{bindings_most}
use Rattle.cursor.specs.Layout.{stack_at}
use Rattle.statements.specs.declared.Branch.{Branch}
use Rattle.statements.specs.outcomes.Opened.{Opened}
use Rattle.statements.specs.outcomes.Opened as O
use Rattle.statements.specs.Shape.{block_cur, opened_of, Widened, Opens, StatementInside, Arm}

-- ---- what a step from c₀ keeps of scratch memory

pub record Keeps (c₀ : Cursor) (w w' : List ℕ) : Type 0 where
  pub old : (i : ℕ) → i < c₀.vars → entry w' i ≡ entry w i
  pub rows : (i : ℕ) → bindings_most ≤ i → i < c₀.aside → entry w' i ≡ entry w i
  pub stack : (i : ℕ) → stack_at ≤ i → i < stack_at + 2 * c₀.args → get_or w' i 0 ≡ get_or w i 0

pub keeps_step : {k : ℕ} {c₀ c : Cursor} {w w' : List ℕ} → CursorStep k c₀ w c w' → Keeps c₀ w w'
keeps_step a = record { old = a.old; rows = a.rows; stack = a.stack }

pub keeps_low : {c₀ : Cursor} {w w' : List ℕ} → c₀.vars ≤ c₀.aside → Kept 0 c₀.aside w w' → Keeps c₀ w w'
keeps_low l a = record { old = λ i h. a.same i (omega arith) (omega arith); rows = λ i g h. a.same i (omega arith) h; stack = λ i g h. a.beyond i g }

pub keeps_then : {c₀ : Cursor} {w w1 w2 : List ℕ} → Keeps c₀ w w1 → Keeps c₀ w1 w2 → Keeps c₀ w w2
keeps_then a b = record { old = λ i h. b.old i h ∙ a.old i h; rows = λ i g h. b.rows i g h ∙ a.rows i g h; stack = λ i g h. b.stack i g h ∙ a.stack i g h }

-- the same of a step from a later place
pub keeps_later : {k : ℕ} {c₀ c c' : Cursor} {w w' : List ℕ} → StatementInside c₀ c → CursorStep k c w c' w' → Keeps c₀ w w'
keeps_later i a =
    record {
      old = λ j h. a.old j (omega (arith, i.old));
      rows = λ j g h. a.rows j g (omega (arith, i.above));
      stack = λ j g h. a.stack j g (omega (arith, i.args));
    }

pub keeps_vars : {c₀ : Cursor} {w w' : List ℕ} (s : List ℕ) → Keeps c₀ w w' → vars s w' c₀.vars ≡ vars s w c₀.vars
keeps_vars {c₀} {w} {w'} s a = ap env_of (made_move s w w' 0 0 c₀.vars (λ i l. let z : 0 + i ≡ i = omega arith in rw z (a.old i l)))

-- ---- after a step

step-over : {k : ℕ} {c₀ c' : Cursor} {w w1 w2 : List ℕ} → Keeps c₀ w w1 → CursorStep k c₀ w1 c' w2 → CursorStep k c₀ w c' w2
step-over a b =
    record {
      on = b.on;
      paid = b.paid;
      more = b.more;
      aside = b.aside;
      args = b.args;
      class = b.class;
      receiver = b.receiver;
      functions = b.functions;
      classes = b.classes;
      blocks = b.blocks;
      old = λ i h. b.old i h ∙ a.old i h;
      rows = λ i g h. b.rows i g h ∙ a.rows i g h;
      stack = λ i g h. b.stack i g h ∙ a.stack i g h;
    }

pub after-over : {A : Type 0} (k : ℕ) {w w1 : List ℕ} (s m2 w2 : List ℕ) {c₀ : Cursor} (o : Out A) → Keeps c₀ w w1 → CursorAfter k s c₀ w1 m2 w2 o → CursorAfter k s c₀ w m2 w2 o
after-over k s m2 w2 (done a c') x h = (h.0, step-over x h.1)
after-over k s m2 w2 (stop e) x h = tt

-- ---- inside an `if`

pub inside-step : {k : ℕ} {s m u : List ℕ} {c₀ c : Cursor} {w w' : List ℕ} → In s m u c₀ → CursorStep k c₀ w c w' → StatementInside c₀ c
inside-step h a =
    record {
      on = omega (arith, a.on);
      old = a.more;
      low = h.ready.room.aside;
      above = omega (arith, a.aside);
      paid = omega (arith, a.paid, a.aside);
      args = a.args;
      class = a.class;
      receiver = a.receiver;
      functions = a.functions;
      classes = a.classes;
      blocks = a.blocks;
    }

pub inside_then : {k : ℕ} {c₀ c c' : Cursor} {w w' : List ℕ} → StatementInside c₀ c → CursorStep k c w c' w' → StatementInside c₀ c'
inside_then i a =
    record {
      on = omega (arith, i.on, a.on);
      old = omega (arith, i.old, a.more);
      low = i.low;
      above = omega (arith, i.above, a.aside);
      paid = omega (arith, i.paid, a.paid, a.aside);
      args = a.args ∙ i.args;
      class = a.class ∙ i.class;
      receiver = a.receiver ∙ i.receiver;
      functions = omega (arith, i.functions, a.functions);
      classes = omega (arith, i.classes, a.classes);
      blocks = omega (arith, i.blocks, a.blocks);
    }

pub few-vars : {s m w : List ℕ} {c₀ c : Cursor} → In s m w c → StatementInside c₀ c → c₀.vars ≤ c₀.aside
few-vars h i = omega (arith, h.ready.room.law, h.ready.room.script, h.ready.room.aside, i.old, i.low)

pub arm_then : {k : ℕ} {c₀ c c' : Cursor} {q : Branch} {w w' : List ℕ} → Arm c₀ c q → CursorStep k c w c' w' → Arm c₀ c' q
arm_then a b =
    record {
      place = a.place;
      inside = inside_then a.inside b;
      aside = b.aside ∙ a.aside;
      before = omega (arith, a.before, b.blocks);
      join = omega (arith, a.join, b.blocks);
    }

-- ---- a cursor with more rows in the tables

opened_after : {s m w : List ℕ} (m' : List ℕ) {c : Cursor} (o : Out ℕ) → Widened m' c o → In s m w c → CursorAfter 0 s c w m' w o
opened_after m' (done b c') v h = rw v.0.cur (in_counted h c'.counts v.0.ready v.0.functions v.0.classes v.0.blocks)
opened_after m' (stop e) v h = tt

pub opened-there : {l : Limits} {m m' : List ℕ} {c c1 : Cursor} {r : Opened} {b : BlockId} → Opens l m c m' r → r ≡ O.On c1 b → b.0 < c1.counts.blocks
opened-there d e = let k = rw e at d.ok in k.1

pub opens_did : {l : Limits} {s m w m' : List ℕ} {c : Cursor} {r : Opened} → Opens l m c m' r → In s m w c → CursorDid (new_block (View.limits_of l)) 0 s m w c m' w (opened_of r)
opens_did {s = s} {w = w} {m' = m'} {r = r} v h = record { is = v.is s w; ok = opened_after m' (opened_of r) v.ok h }

pub step_block : {k : ℕ} {c c' : Cursor} {w w' : List ℕ} (b : BlockId) → CursorStep k (block_cur b c) w c' w' → CursorStep k c w c' w'
step_block b a =
    record {
      on = a.on;
      paid = a.paid;
      more = a.more;
      aside = a.aside;
      args = a.args;
      class = a.class;
      receiver = a.receiver;
      functions = a.functions;
      classes = a.classes;
      blocks = a.blocks;
      old = a.old;
      rows = a.rows;
      stack = a.stack;
    }
