-- An instruction that is pushed: its questions, its operands, and the rules' action. Assumes nothing.
use mathlib.Core.Bool.{Bool, true, false, cond}
use mathlib.Core.Path.{◌≡◌, refl, sym, ap, ap₂, ◌∙◌}
use mathlib.Core.List.{List, [], map}
use Prim.Native.Nat.{ℕ, ◌+◌, ◌-◌, ◌*◌, ◌≤◌, ◌<◌}
use native.Mathlib.Omega.{arith}
use lib.Dec.{eqb, ltb, leb}
use lib.ListN.{length, get_or, length-map}
use borrow.Author.Tests.{lt-ltb, le-ltb, le-leb, lt-leb, ltb-true, leb-true}
use Rattle.kinds.specs.Kinds.{bit_of}
use Rattle.rules.specs.Actions.{answered, refused}
use Rattle.rules.specs.Program as P
use Rattle.rules.specs.Program.{about, terminated, listed_count}
use Rattle.rules.specs.Reading.{Parser, with_program, push_insn}
use Rattle.program.specs.Layout.{opnds_at, blocks_at}
use Rattle.program.specs.Rows.{opnds_in, opnd_of, op_in, listed_in, flag_at}
use Rattle.program.specs.View.{program_view, ProgramReady, limits_of, Puts, ProgramRoom, Commits, ProgramAdds, Asks, ProgramDid, grew, stopped, pushing_of, push_asks, more_insns, unchanged}
use Rattle.program.specs.declared.Counts.{Counts}
use Rattle.program.specs.declared.bounds.Limits.{Limits}
use Rattle.program.specs.declared.Opnd.{Opnd}
use Rattle.program.specs.declared.Op.{Op}
use Rattle.program.proofs.Viewing.{Keeps, view_keep, ready-keep, free_opnds, flags-same, instructions-length}
use Rattle.program.proofs.Committing.{listed-is}

-- ---- questions

bit_true : (t : Bool) (x : ℕ) → x ≡ bit_of t → (x ≡ 0 → ⊥) → t ≡ true
bit_true true x e h = refl
bit_true false x e h = absurd (h e)

bit_false : (t : Bool) (x : ℕ) → x ≡ bit_of t → x ≡ 0 → t ≡ false
bit_false true x e h = let z : ◌≡◌ {A = ℕ} 0 1 = cc in absurd (omega arith)
bit_false false x e h = refl

module _ {m : List ℕ} {c : Counts} (l : Limits) (b k : ℕ) (r : ProgramReady m c) (h : b < c.blocks) where
  pub asks_ended : (get_or m (blocks_at + 2 * b + 1) 0 ≡ 0 → ⊥) → Asks l m c b k 10
  unfolding push_asks
  asks_ended e = record { is = λ s. rw (bit_true (terminated (program_view s m c) b) (flag_at m b) (r.flags s b h) e) }

  module _ (open' : get_or m (blocks_at + 2 * b + 1) 0 ≡ 0) where
    goes_on_lem : (s : List ℕ) → terminated (program_view s m c) b ≡ false
    goes_on_lem s = bit_false (terminated (program_view s m c) b) (flag_at m b) (r.flags s b h) open'

    pub asks_insns : l.instructions ≤ c.insns → Asks l m c b k 11
    unfolding push_asks
    asks_insns e =
        record { is = λ s. rw (goes_on_lem s, instructions-length s m c.insns, le-ltb c.insns l.instructions e) }

    module _ (few : c.insns < l.instructions) where
      pub asks_over : l.operands < c.listed → Asks l m c b k 11
      unfolding push_asks
      asks_over e =
          record {
            is = λ s.
                rw (
                  goes_on_lem s,
                  instructions-length s m c.insns,
                  lt-ltb c.insns l.instructions few,
                  ← r.listing s,
                  lt-leb (c.listed + k) l.operands (omega arith),
                );
          }

      pub asks_listed : c.listed ≤ l.operands → l.operands - c.listed < k → Asks l m c b k 11
      unfolding push_asks
      asks_listed e f =
          record {
            is = λ s.
                rw (
                  goes_on_lem s,
                  instructions-length s m c.insns,
                  lt-ltb c.insns l.instructions few,
                  ← r.listing s,
                  lt-leb (c.listed + k) l.operands (omega arith),
                );
          }

      pub asks_none : c.listed ≤ l.operands → k ≤ l.operands - c.listed → Asks l m c b k 0
      unfolding push_asks
      asks_none e f =
          record {
            is = λ s.
                rw (
                  goes_on_lem s,
                  instructions-length s m c.insns,
                  lt-ltb c.insns l.instructions few,
                  ← r.listing s,
                  le-leb (c.listed + k) l.operands (omega arith),
                );
          }

-- ---- the rules' action

push-is : (L : P.Limits) (p : P.Program) (b : ℕ) (op : P.Op) (r : Parser)
    → push_insn L b op (with_program p r)
    ≡ cond (eqb (push_asks L p b (length (about op).listed)) 0)
    (answered (length p.instructions, with_program (P.with_instruction (record { block = b; op = op }) p) r))
    (refused (push_asks L p b (length (about op).listed)))
unfolding push_insn push_asks
push-is L p b op r =
    go (terminated p b) refl (ltb (length p.instructions) L.instructions) refl (leb (listed_count p + length (about op).listed) L.operands) refl
  where
    go : (t : Bool) → terminated p b ≡ t → (i : Bool) → ltb (length p.instructions) L.instructions ≡ i
        → (k : Bool) → leb (listed_count p + length (about op).listed) L.operands ≡ k
        → push_insn L b op (with_program p r)
        ≡ cond (eqb (push_asks L p b (length (about op).listed)) 0)
        (answered (length p.instructions, with_program (P.with_instruction (record { block = b; op = op }) p) r))
        (refused (push_asks L p b (length (about op).listed)))
    go true e i f k g = rw e
    go false e false f k g = rw (e, f)
    go false e true f false g = rw (e, f, g)
    go false e true f true g = rw (e, f, g)

-- questions that were answered yes leave room
asks_yes : (L : P.Limits) (p : P.Program) (b k : ℕ) → ◌≡◌ {A = ℕ} 0 (push_asks L p b k) → (length p.instructions < L.instructions) × (listed_count p + k ≤ L.operands)
unfolding push_asks
asks_yes L p b k e =
    go (terminated p b) (ltb (length p.instructions) L.instructions) refl (leb (listed_count p + k) L.operands) refl e
  where
    go : (t i : Bool) → ltb (length p.instructions) L.instructions ≡ i → (j : Bool) → leb (listed_count p + k) L.operands ≡ j
        → ◌≡◌ {A = ℕ} 0 (cond t 10 (cond i (cond j 0 11) 11)) → (length p.instructions < L.instructions) × (listed_count p + k ≤ L.operands)
    go true i f j g z = absurd (omega arith)
    go false false f j g z = absurd (omega arith)
    go false true f false g z = absurd (omega arith)
    go false true f true g z = (ltb-true _ _ f, leb-true _ _ g)

module _ {m : List ℕ} {c : Counts} {l : Limits} {b k e : ℕ} (o : Op) (n : ℕ) (r : ProgramReady m c) (h : b < c.blocks) (asks : Asks l m c b k e) where
  pub room_of : e ≡ 0 → k ≡ listed_in o n → n ≤ listed_in o n + 2 → ProgramRoom b o n c
  room_of z q few =
      let y = asks_yes (limits_of l) (program_view [] m c) b k (sym z ∙ asks.is []) in
      let len = instructions-length [] m c.insns in
      let lst = r.listing [] in
      let si = l.small.instructions in
      let so = l.small.operands in
      record { block = h; insns = omega arith; listed = omega arith; opnds = few }

-- operands behind those in use
module _ {m m1 : List ℕ} {c : Counts} {b : ℕ} (o : Op) (os : List Opnd) (r : ProgramReady m c) (room : ProgramRoom b o (length os) c)
    (p : Puts (opnds_at + 2 * c.opnds) os m m1) where
  fits : opnds_at + 2 * c.opnds + 2 * length os ≤ blocks_at
  fits = omega (arith, r.opnds, room.listed, room.opnds, room.insns)

  puts_keeps : Keeps c m m1
  puts_keeps = free_opnds r p.only (omega arith) fits

  pub ready-puts : ProgramReady m1 c
  ready-puts = ready-keep r puts_keeps (flags-same c p.only fits)

  pub adds-is : {m2 : List ℕ} {c' : Counts} {n : ℕ} → n ≡ length os → Commits b o n m1 c m2 c' → ProgramAdds b o os m c m2 c'
  adds-is q w =
      record {
        is = λ s.
            w.is s
            ∙ ap₂ {C = P.Program} (λ (ps : List Opnd) (v : P.Program). P.with_instruction (record { block = b; op = op_in s o (map opnd_of ps) }) v)
            (ap (opnds_in m1 (opnds_at + 2 * c.opnds)) q ∙ p.here) (view_keep r puts_keeps s);
        ok = w.ok;
        counts = w.counts ∙ ap (λ (k : ℕ). more_insns o k c) q;
      }

-- the way of a refusal, and of an addition; `op` is the rules' instruction
module _ {m : List ℕ} {c : Counts} {l : Limits} {b k e : ℕ} (op : List ℕ → P.Op) (next : Counts) (asks : Asks l m c b k e)
    (q : (s : List ℕ) → length (about (op s)).listed ≡ k) where
  pub stop_is : (m' : List ℕ) → (e ≡ 0 → ⊥) → ProgramDid (λ s. push_insn (limits_of l) b (op s)) unchanged c.insns next m c m' (stopped e)
  stop_is m' h =
      record { is = λ s r. sym (push-is (limits_of l) (program_view s m c) b (op s) r ∙ rw (q s, ← asks.is s, ne e h)); ok = tt }
    where
      ne : (x : ℕ) → (x ≡ 0 → ⊥) → eqb x 0 ≡ false
      ne x h = borrow.Author.Tests.ne_eqb x 0 h

  pub grew-is : {m' : List ℕ} {c' : Counts} → e ≡ 0
      → ((s : List ℕ) → program_view s m' c' ≡ P.with_instruction (record { block = b; op = op s }) (program_view s m c)) → ProgramReady m' c' → c' ≡ next
      → ProgramDid (λ s. push_insn (limits_of l) b (op s)) unchanged c.insns next m c m' (grew c.insns c')
  grew-is {m' = m'} {c' = c'} z v ok n =
      record {
        is = λ s r.
            sym
            (push-is (limits_of l) (program_view s m c) b (op s) r
            ∙ rw (q s, ← asks.is s, z, instructions-length s m c.insns) (ap (λ (p : P.Program). answered (c.insns, with_program p r)) (sym (v s))));
        ok = record { number = refl; counts = n; ready = ok };
      }

listed-map : (s : List ℕ) (o : Op) (os : List Opnd) → length (about (op_in s o (map opnd_of os))).listed ≡ listed_in o (length os)
listed-map s o os = listed-is s o (map opnd_of os) ∙ ap (listed_in o) (length-map os opnd_of)

module _ {m : List ℕ} {c : Counts} {l : Limits} {b k e : ℕ} (o : Op) (n : ℕ) (os : List Opnd) (asks : Asks l m c b k e) (u : k ≡ listed_in o n) (w : n ≡ length os) where
  counted : (s : List ℕ) → length (about (op_in s o (map opnd_of os))).listed ≡ k
  counted s = listed-map s o os ∙ sym (u ∙ ap (listed_in o) w)

  pub push-stop : (e ≡ 0 → ⊥) → ProgramDid (pushing_of (limits_of l) b o os) unchanged c.insns (more_insns o (length os) c) m c m (stopped e)
  push-stop h = stop_is (λ s. op_in s o (map opnd_of os)) (more_insns o (length os) c) asks counted m h

  pub push-grew : {m' : List ℕ} {c' : Counts} → e ≡ 0 → ProgramAdds b o os m c m' c'
      → ProgramDid (pushing_of (limits_of l) b o os) unchanged c.insns (more_insns o (length os) c) m c m' (grew c.insns c')
  push-grew z a = grew-is (λ s. op_in s o (map opnd_of os)) (more_insns o (length os) c) asks counted z a.is a.ok a.counts

-- ---- the answers to the questions, as the check tries them

pub ruleset asked = (asks_ended, asks_insns, asks_over, asks_listed, asks_none)
