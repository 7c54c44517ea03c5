-- Loops over the things of a class or of a script: a turn, and what the turns come to. Assumes nothing.
use mathlib.Core.Path.{◌≡◌, refl, ◌∙◌}
use mathlib.Core.List.{List}
use Prim.Native.Nat.{ℕ, zero, suc, ◌+◌, ◌-◌, ◌≤◌, ◌<◌}
use native.Mathlib.Omega.{arith}
use lib.ListN.{length}
use Rattle.rules.specs.Actions.{Answer, answered, refused, if_answered, Turn, again, loop}
use Rattle.rules.specs.Reading.{Parser, Reads, turns, next}
use Rattle.std.specs.Prelude.{Result, Ok}
use Rattle.refusals.specs.declared.Refusal.{Refusal}
use Rattle.lexer.specs.declared.Word.{Word}
use Rattle.lexer.specs.Lexed.{word_in}
use Rattle.cursor.specs.Cursor.{Cursor, parser_of, move_cur}
use Rattle.cursor.specs.Promises.{Out, done, stop, Sees, moved_of}
use Rattle.cursor.specs.outcomes.Moved as Moved
use Rattle.cursor.proofs.Wording.{word_read, next-found}
use Rattle.functions.specs.Bodies.{Rests, Onto, Takes}
use Rattle.functions.proofs.Laws.{ready_moved}
use Rattle.parser.specs.classes.Turned.{Turned, Again, Ends, Refused}
use Rattle.parser.specs.classes.Turning.{Turns}

-- ---- steps between functions

pub onto_then : {k j : ℕ} (i : ℕ) {c c1 c2 : Cursor} → Onto k c c1 → Onto j c1 c2 → i ≤ k + j → Onto i c c2
onto_then i a b h =
    record {
      on = omega (arith, a.on, b.on);
      class = b.class ∙ a.class;
      functions = omega (arith, a.functions, b.functions);
      classes = omega (arith, a.classes, b.classes);
    }

onto_move : (k at : ℕ) (c : Cursor) → c.at + k ≤ at → Onto k c (move_cur at c)
onto_move k at c h = record { on = h; class = refl; functions = omega arith; classes = omega arith }

pub onto_moved : (k : ℕ) {c c1 : Cursor} → c1 ≡ move_cur c1.at c → c.at + k ≤ c1.at → Onto k c c1
onto_moved k {c} {c1} e h = rw e (onto_move k c1.at c h)

rests_move : {s m w : List ℕ} {c : Cursor} → Rests s m w c → (at : ℕ) → c.at ≤ at → at ≤ length s → Rests s m w (move_cur at c)
rests_move g at a b = record { ready = ready_moved g.ready at a b; args = g.args }

pub rests_moved : {s m w : List ℕ} {c c1 : Cursor} → Rests s m w c → c1 ≡ move_cur c1.at c → c.at ≤ c1.at → c1.at ≤ length s → Rests s m w c1
rests_moved {c1 = c1} g e a b = rw e (rests_move g c1.at a b)

-- over a word that was looked at
pub next-is : {s : List ℕ} {c c1 : Cursor} {r : Result Word Refusal} {x : Word} → Sees s c r → r ≡ Ok x → c1 ≡ move_cur x.next c → (m w : List ℕ)
    → answered (word_in s x, parser_of s m w c1) ≡ next s (parser_of s m w c)
next-is v f e m w = rw e (next-found v m w f)

module _ {s m w : List ℕ} {c : Cursor} (g : Rests s m w c) {r : Result Word Refusal} (v : Sees s c r) {x : Word} (f : r ≡ Ok x) {c1 : Cursor} (e : c1 ≡ move_cur x.next c) where
  there : c.at ≤ x.next
  there = let h = word_read v f in omega (arith, h.behind, h.next)

  pub word_rests : Rests s m w c1
  word_rests = rw e (rests_move g x.next there ((word_read v f).inside g.ready.inside))

  pub word_on : Onto 0 c c1
  word_on = rw e (onto_move 0 x.next c (omega (arith, there)))

-- ---- a turn that reads one thing

module _ {A : Type 0} (f : Reads (Turn (Unit {0}) (Unit {0}))) {g : Reads A} {s m w : List ℕ} {c c1 : Cursor} (o : Onto 0 c c1)
    (e : if_answered {B = Turn (Unit {0}) (Unit {0}) × Parser} (g (parser_of s m w c1)) (λ r. answered (again tt, r.1)) ≡ f (parser_of s m w c))
    {m' w' : List ℕ} {y : Out A} (b : Takes g 1 s m w c1 m' w' y) where
  pub thing_no : {n : ℕ} → y ≡ stop n → Turns f s m w c m' w' (Refused n)
  thing_no i = let h = rw i at b in record { takes = record { is = rw (← h.is) at e; ok = tt }; further = tt }

  pub thing_on : {a : A} {c2 : Cursor} → y ≡ done a c2 → Turns f s m w c m' w' (Again c2)
  thing_on i =
      let h = rw i at b in
      record { takes = record { is = rw (← h.is) at e; ok = (h.ok.0, onto_then 0 o h.ok.1 (omega arith)) }; further = omega (arith, o.on, h.ok.1.on) }

-- ---- the turns

-- where a turn begins, the rest of the loop comes to what the whole comes to, and the turns left are enough for the bytes left
pub record Going (f : Unit {0} → Reads (Turn (Unit {0}) (Unit {0}))) (s m₀ w₀ : List ℕ) (c₀ : Cursor) (m w : List ℕ) (c : Cursor) : Type 0 where
  pub count : ℕ
  pub same : loop f count tt (parser_of s m w c) ≡ loop f (turns s) tt (parser_of s m₀ w₀ c₀)
  pub enough : length s < count + c.at
  pub rests : Rests s m w c
  pub onto : Onto 0 c₀ c

pub going_start : (f : Unit {0} → Reads (Turn (Unit {0}) (Unit {0}))) (s m w : List ℕ) (c : Cursor) → Rests s m w c → Going f s m w c m w c
going_start f s m w c g =
    record {
      count = turns s;
      same = refl;
      enough = omega arith;
      rests = g;
      onto = record { on = omega arith; class = refl; functions = omega arith; classes = omega arith };
    }

module _ {f : Unit {0} → Reads (Turn (Unit {0}) (Unit {0}))} {s m₀ w₀ : List ℕ} {c₀ : Cursor} {m w : List ℕ} {c : Cursor} (i : Going f s m₀ w₀ c₀ m w c)
    {r : Turned} {m1 w1 : List ℕ} (a : Turns (f tt) s m w c m1 w1 r) where
  abbrev X : Answer (Unit {0} × Parser)
  X = loop f (turns s) tt (parser_of s m₀ w₀ c₀)

  pub going_no : {e : ℕ} → r ≡ Refused e → Takes (loop f (turns s) tt) 0 s m₀ w₀ c₀ m1 w1 (moved_of (Moved.Refused e))
  going_no {e} g = record { is = go i.count i.same i.enough; ok = tt }
    where
      go : (k : ℕ) → loop f k tt (parser_of s m w c) ≡ X → length s < k + c.at → refused e ≡ X
      go zero x y = absurd (omega (arith, i.rests.ready.inside))
      go (suc k) x y = let h = rw g at a.takes in rw (← h.is) at x

  pub going_ends : {c1 : Cursor} → r ≡ Ends c1 → Takes (loop f (turns s) tt) 0 s m₀ w₀ c₀ m1 w1 (moved_of (Moved.On c1))
  going_ends {c1} g = let h = rw g at a.takes in record { is = go i.count i.same i.enough; ok = (h.ok.0, onto_then 0 i.onto h.ok.1 (omega arith)) }
    where
      go : (k : ℕ) → loop f k tt (parser_of s m w c) ≡ X → length s < k + c.at → answered (tt, parser_of s m1 w1 c1) ≡ X
      go zero x y = absurd (omega (arith, i.rests.ready.inside))
      go (suc k) x y = let h = rw g at a.takes in rw (← h.is) at x

  module _ {c1 : Cursor} (g : r ≡ Again c1) where
    went : Turns (f tt) s m w c m1 w1 (Again c1)
    went = rw g at a

    pub going_less : length s - c1.at < length s - c.at
    going_less = omega (arith, went.further, went.takes.ok.0.ready.inside)

    pub going_on : Going f s m₀ w₀ c₀ m1 w1 c1
    going_on = go i.count i.same i.enough
      where
        go : (k : ℕ) → loop f k tt (parser_of s m w c) ≡ X → length s < k + c.at → Going f s m₀ w₀ c₀ m1 w1 c1
        go zero x y = absurd (omega (arith, i.rests.ready.inside))
        go (suc k) x y =
            record {
              count = k;
              same = rw (← went.takes.is) at x;
              enough = omega (arith, went.further);
              rests = went.takes.ok.0;
              onto = onto_then 0 i.onto went.takes.ok.1 (omega arith);
            }
