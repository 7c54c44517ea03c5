-- The stack of waiting arguments. Assumes nothing.
use mathlib.Core.Path.{◌≡◌, refl, ap}
use mathlib.Core.List.{List, [], ◌∷◌, ◌++◌, map}
use Prim.Native.Nat.{ℕ, ◌+◌, ◌-◌, ◌*◌, ◌≤◌, ◌<◌}
use native.Mathlib.Omega.{arith}
use lib.ListN.{get_or}
use Rattle.variables.specs.Memory.{entry}
use Rattle.variables.proofs.Entries.{made_move}
use Rattle.program.specs.Rows.{opnds_in, opnd_of}
use Rattle.program.specs.declared.Opnd.{Opnd}
use Rattle.program.proofs.Areas.{opnds-same, opnds-add}
use Rattle.cursor.specs.Cursor.{parser_of, waiting, stack_cur, In, CursorStep}
use Rattle.cursor.specs.Promises.{Stacks}
use Rattle.cursor.specs.Cursor.{Cursor}
use Rattle.variables.specs.Layout.{entries_most}
use Rattle.cursor.specs.Layout.{stack_at}

-- the height of the stack is no part of the rules' state
pub height_free : (s m w : List ℕ) (c : Cursor) (n : ℕ) → parser_of s m w (stack_cur n c) ≡ parser_of s m w c
unfolding parser_of
height_free s m w c n = refl

-- what the first k arguments come to, where their words stay
pub waiting-same : (w w' : List ℕ) (k n top : ℕ) → k + n ≤ top → ((i : ℕ) → stack_at ≤ i → i < stack_at + 2 * top → get_or w' i 0 ≡ get_or w i 0) → waiting w' k n ≡ waiting w k n
unfolding waiting
waiting-same w w' k n top l h = ap (map opnd_of) (opnds-same w w' (stack_at + 2 * k) n (λ i a b. h i (omega arith) (omega arith)))

map_snoc : (l : List Opnd) (v : Opnd) → map opnd_of (l ++ v ∷ []) ≡ map opnd_of l ++ opnd_of v ∷ []
map_snoc [] v = refl
map_snoc (x ∷ l) v = ap (λ z. opnd_of x ∷ z) (map_snoc l v)

module _ {v : Opnd} {c : Cursor} {w w' : List ℕ} {c' : Cursor} (p : Stacks v c w w' c') where
  low : (i : ℕ) → i < stack_at + 2 * c.args → get_or w' i 0 ≡ get_or w i 0
  low i h = p.puts.only.below i h

  entry-low : (i : ℕ) → i < entries_most → entry w' i ≡ entry w i
  unfolding entry
  entry-low i h = rw (low i (omega arith), low (entries_most + i) (omega arith))

  pub stacks_args : c'.args ≡ c.args + 1
  stacks_args = ap (λ (d : Cursor). d.args) p.cur

  pub stacks_at : c'.at ≡ c.at
  stacks_at = ap (λ (d : Cursor). d.at) p.cur

  -- one argument more
  pub stacks_more : (k : ℕ) → k ≤ c.args → waiting w' k (c'.args - k) ≡ waiting w k (c.args - k) ++ opnd_of v ∷ []
  unfolding waiting
  stacks_more k h =
      let a = stacks_args in
      let e : c'.args - k ≡ (c.args - k) + 1 = omega arith in
      let f : (stack_at + 2 * k) + 2 * (c.args - k) ≡ stack_at + 2 * c.args = omega arith in
      let old = opnds-same w w' (stack_at + 2 * k) (c.args - k) (λ i x y. low i (omega arith)) in
      rw e
      (rw (opnds-add w' (stack_at + 2 * k) (c.args - k) 1)
      (rw (old, f) (rw p.puts.here (map_snoc (opnds_in w (stack_at + 2 * k) (c.args - k)) v))))

  module _ {s m : List ℕ} (h : In s m w c) where
    few : c.vars < entries_most
    few = omega (arith, h.ready.room.law, h.ready.room.script, h.ready.room.aside)

    pub stacks_state : parser_of s m w' c' ≡ parser_of s m w c
    unfolding parser_of
    stacks_state = rw (p.cur, made_move s w w' 0 0 c.vars (λ i l. let e : 0 + i ≡ i = omega arith in rw e (entry-low i (omega (arith, few)))))

    pub stacks_in : 2 * (c.args + 1) ≤ c.at → In s m w' c'
    stacks_in room =
        rw p.cur
        (record {
          ready = record {
            script = h.ready.script;
            inside = h.ready.inside;
            tables = h.ready.tables;
            scratch = omega (arith, h.ready.scratch, p.puts.only.len_same);
            room = h.ready.room;
            args = room;
          };
          block = h.block;
        })

    pub stacks_step : CursorStep 0 c w (stack_cur c.args c') w'
    stacks_step =
        rw p.cur
        (record {
          on = omega arith;
          paid = omega arith;
          more = omega arith;
          aside = refl;
          args = refl;
          class = refl;
          receiver = refl;
          functions = omega arith;
          classes = omega arith;
          blocks = omega arith;
          old = λ i a. entry-low i (omega (arith, few));
          rows = λ i a b. entry-low i (omega (arith, h.ready.room.law, h.ready.room.script));
          stack = λ i a b. low i b;
        })

-- the height set back to what it was
pub step_height : {k : ℕ} {c c' : Cursor} {w w' : List ℕ} → CursorStep k c w c' w' → CursorStep k c w (stack_cur c.args c') w'
step_height a =
    record {
      on = a.on;
      paid = a.paid;
      more = a.more;
      aside = a.aside;
      args = refl;
      class = a.class;
      receiver = a.receiver;
      functions = a.functions;
      classes = a.classes;
      blocks = a.blocks;
      old = a.old;
      rows = a.rows;
      stack = a.stack;
    }

-- a step from a higher stack, with the height set back
pub step_from : {k : ℕ} (n : ℕ) {c c' : Cursor} {w w' : List ℕ} → n ≤ c.args → CursorStep k c w c' w' → CursorStep k (stack_cur n c) w (stack_cur n c') w'
step_from n l a =
    record {
      on = a.on;
      paid = a.paid;
      more = a.more;
      aside = a.aside;
      args = refl;
      class = a.class;
      receiver = a.receiver;
      functions = a.functions;
      classes = a.classes;
      blocks = a.blocks;
      old = a.old;
      rows = a.rows;
      stack = λ i x y. a.stack i x (omega arith);
    }
