-- What is pushed: the operands given, and behind them those of another memory. Assumes nothing.
use mathlib.Core.Path.{◌≡◌, sym, ap, ap₂, ◌∙◌}
use mathlib.Core.List.{List, [], ◌++◌, append-nil}
use Prim.Native.Nat.{ℕ, ◌+◌, ◌-◌, ◌*◌, ◌/◌, ◌≤◌, ◌<◌}
use native.Mathlib.Omega.{arith}
use lib.ListN.{length, get_or, drop, length-append, length-take, length-drop}
use Rattle.std.specs.Prelude.{slice_range}
use Rattle.std.proofs.lemmas.List.{get_or-take, get_or-drop}
use Rattle.ids.specs.declared.FunId.{FunId}
use Rattle.rules.specs.Program as P
use Rattle.program.specs.Tab.{tab}
use Rattle.program.specs.Layout.{opnds_at, blocks_at}
use Rattle.program.specs.Rows.{opnd_from, opnd_at, opnds_in, given, listed_in}
use Rattle.program.specs.View.{ProgramReady, limits_of, Puts, ProgramRoom, Commits, Asks, ProgramDid, Grew, grew, stopped, pushing_of, call_of, more_insns, more_calls, unchanged}
use Rattle.program.specs.declared.Counts.{Counts}
use Rattle.program.specs.declared.bounds.Limits.{Limits}
use Rattle.program.specs.declared.Name.{Name}
use Rattle.program.specs.declared.Opnd.{Opnd}
use Rattle.program.specs.declared.Op.{Op}
use Rattle.program.specs.declared.Given.{Given}
use Rattle.program.specs.declared.Callee.{Callee}
use Rattle.program.specs.declared.Callee.TheVariants.{Static, Dynamic}
use Rattle.program.proofs.Tables.{tab_ext}
use Rattle.program.proofs.Areas.{puts_then, opnds-length}
use Rattle.program.proofs.Viewing.{ready-keep, free_opnds, flags-same}
use Rattle.program.proofs.Pushing.{room_of, ready-puts, adds-is, push-stop, push-grew}

-- the words of n operands, cut out of a memory from word a on, are the operands that stand there
module _ (m : List ℕ) (a n : ℕ) (h : a + 2 * n ≤ length m) where
  half : length (slice_range m a (a + 2 * n)) / 2 ≡ n
  half = simp (length-take, length-drop) (omega arith)

  pub opnds_part : opnds_in (slice_range m a (a + 2 * n)) 0 (length (slice_range m a (a + 2 * n)) / 2) ≡ opnds_in m a n
  unfolding opnds_in
  opnds_part =
      rw half
      (tab_ext (λ j. opnd_at (slice_range m a (a + 2 * n)) (0 + 2 * j)) (λ j. opnd_at m (a + 2 * j)) n
      (λ j l. ap₂ opnd_from (word (0 + 2 * j) (a + 2 * j) (omega arith) (omega arith)) (word (0 + 2 * j + 1) (a + 2 * j + 1) (omega arith) (omega arith))))
    where
      word : (k i : ℕ) → k < 2 * n → a + k ≡ i → get_or (slice_range m a (a + 2 * n)) k 0 ≡ get_or m i 0
      word k i l e = get_or-take (a + 2 * n - a) (drop a m) k 0 (omega arith) ∙ get_or-drop a m k 0 ∙ ap (λ (j : ℕ). get_or m j 0) e

-- the operands given, and behind them n of another memory
module _ {first : ℕ} (g : Given) (n : ℕ) (args : List ℕ) (q : first ≡ length (given g)) where
  total : first + n ≡ length (given g ++ opnds_in args 0 n)
  total = omega (arith, length-append (given g) (opnds_in args 0 n), opnds-length args 0 n)

  module _ {m : List ℕ} {c : Counts} {l : Limits} {b k e : ℕ} (o : Op) (asks : Asks l m c b k e) (u : k ≡ listed_in o (first + n)) where
    counted : more_insns o (length (given g ++ opnds_in args 0 n)) c ≡ more_insns o (length (given g) + n) c
    counted = ap (λ (j : ℕ). more_insns o j c) (sym total ∙ ap (λ (j : ℕ). j + n) q)

    pub push_stop : (e ≡ 0 → ⊥) → ProgramDid (pushing_of (limits_of l) b o (given g ++ opnds_in args 0 n)) unchanged c.insns (more_insns o (length (given g) + n) c) m c m (stopped e)
    push_stop h = rw counted at (push-stop o (first + n) (given g ++ opnds_in args 0 n) asks u total h)

    module _ (r : ProgramReady m c) (h : b < c.blocks) (few : length (given g) + n ≤ listed_in o (length (given g) + n) + 2) (z : e ≡ 0) where
      pub push_room : ProgramRoom b o (first + n) c
      push_room = room_of o (first + n) r h asks z u (rw q few)

      room_fits : opnds_at + 2 * c.opnds + 2 * first + 2 * n ≤ blocks_at
      room_fits = omega (arith, r.opnds, push_room.listed, push_room.opnds, push_room.insns)

      module _ {m1 : List ℕ} (p : Puts (opnds_at + 2 * c.opnds) (given g) m m1) where
        pub given_ready : ProgramReady m1 c
        given_ready =
            let fits : opnds_at + 2 * c.opnds + 2 * length (given g) ≤ blocks_at = omega (arith, room_fits) in
            ready-keep r (free_opnds r p.only (omega arith) fits) (flags-same c p.only fits)

        pub args_fit : opnds_at + 2 * c.opnds + 2 * first + 2 * n ≤ length m1
        args_fit = omega (arith, room_fits, p.only.len_same, r.len_mem)

        module _ {m2 : List ℕ} (p' : Puts (opnds_at + 2 * c.opnds + 2 * first) (opnds_in args 0 n) m1 m2) where
          both : Puts (opnds_at + 2 * c.opnds) (given g ++ opnds_in args 0 n) m m2
          both = puts_then p (ap (λ (j : ℕ). opnds_at + 2 * c.opnds + 2 * j) q) p'

          room_all : ProgramRoom b o (length (given g ++ opnds_in args 0 n)) c
          room_all = rw total at push_room

          pub args_ready : ProgramReady m2 c
          args_ready = ready-puts o (given g ++ opnds_in args 0 n) r room_all both

          pub push_grew : {m' : List ℕ} {c' : Counts} → Commits b o (first + n) m2 c m' c'
              → ProgramDid (pushing_of (limits_of l) b o (given g ++ opnds_in args 0 n)) unchanged c.insns (more_insns o (length (given g) + n) c) m c m' (grew c.insns c')
          push_grew w = rw counted at (push-grew o (first + n) (given g ++ opnds_in args 0 n) asks u total z (adds-is o (given g ++ opnds_in args 0 n) r room_all both total w))

-- ---- what was pushed, as the two that call it say it

module _ (L : P.Limits) (b : ℕ) {m : List ℕ} {c : Counts} {m' : List ℕ} {r : Grew} where
  -- with no other memory
  pub pushed_bare : (o : Op) (g : Given) → ProgramDid (pushing_of L b o (given g ++ opnds_in [] 0 0)) unchanged c.insns (more_insns o (length (given g) + 0) c) m c m' r
      → ProgramDid (pushing_of L b o (given g)) unchanged c.insns (more_insns o (length (given g)) c) m c m' r
  unfolding opnds_in tab
  pushed_bare o g d = let e : length (given g) + 0 ≡ length (given g) = omega arith in rw (append-nil (given g), e) at d

-- whichever call it is
module _ {m m' : List ℕ} {c : Counts} (l : Limits) (b : ℕ) (os : List Opnd) (n : ℕ) (g : Grew) {callee : Callee} where
  pub call_static_lem : {f : FunId} → callee ≡ Static f → ProgramDid (call_of (limits_of l) b (Static f) os) unchanged c.insns (more_calls (Static f) n c) m c m' g
      → ProgramDid (call_of (limits_of l) b callee os) unchanged c.insns (more_calls callee n c) m c m' g
  call_static_lem e d = rw e d

  pub call_dynamic : {v : Opnd} {x : Name} → callee ≡ Dynamic v x → ProgramDid (call_of (limits_of l) b (Dynamic v x) os) unchanged c.insns (more_calls (Dynamic v x) n c) m c m' g
      → ProgramDid (call_of (limits_of l) b callee os) unchanged c.insns (more_calls callee n c) m c m' g
  call_dynamic e d = rw e d
