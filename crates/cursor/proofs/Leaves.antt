-- Laws of the steps behind the words. Assumes nothing.
use mathlib.Core.Bool.{Bool, true, false}
use mathlib.Core.Path.{◌≡◌, refl, sym, ap, ◌∙◌}
use mathlib.Core.List.{List, map}
use mathlib.Core.Option.{none, some}
use Prim.Native.Nat.{ℕ, ◌+◌, ◌*◌, ◌/◌, ◌≤◌, ◌<◌}
use native.Mathlib.Omega.{arith}
use lib.ListN.{length}
use Rattle.ids.specs.declared.InsnId.{InsnId}
use Rattle.ids.specs.declared.FunId.{FunId}
use Rattle.kinds.specs.declared.Kind.{Kind}
use Rattle.rules.specs.Actions.{answered, refused}
use Rattle.rules.specs.Lists.{bytes, same}
use Rattle.rules.specs.Values.{function_in}
use Rattle.rules.specs.Program as P
use Rattle.rules.specs.Reading.{Parser, Reads, with_program, push_insn, push, named, constant_of}
use Rattle.lexer.specs.Names.{name}
use Rattle.program.specs.Rows.{opnds_in, opnd_of, op_in, given, name_in}
use Rattle.program.specs.View as View
use Rattle.program.specs.View.{program_view, limits_of, unchanged, insn_of, pushing_of, call_of, callee_in, more_insns, more_calls}
use Rattle.program.specs.declared.Counts.{Counts}
use Rattle.program.specs.declared.bounds.Limits.{Limits}
use Rattle.program.specs.declared.Name.{Name}
use Rattle.program.specs.declared.Opnd.{Opnd}
use Rattle.program.specs.declared.Opnd.TheVariants.{Const, Insn}
use Rattle.program.specs.declared.Op.{Op}
use Rattle.program.specs.declared.Op.TheVariants.{GetIvar, SetIvar}
use Rattle.program.specs.declared.Given.{Given}
use Rattle.program.specs.declared.Given.TheVariants.{One, Two}
use Rattle.program.specs.declared.Callee.{Callee}
use Rattle.program.specs.declared.Callee.TheVariants.{Static, Dynamic}
use Rattle.std.specs.Prelude.{Result, Ok, Err, slice_range}
use Rattle.std.specs.declared.option.Option.{Option as Maybe}
use Rattle.refusals.specs.declared.Refusal.{Refusal}
use Rattle.refusals.specs.Refusals.{number_of}
use Rattle.memory.specs.Layout.{operands_most}
use Rattle.program.proofs.Calling.{opnds_part}
use Rattle.cursor.specs.Layout.{stack_at, scratch_size}
use Rattle.cursor.specs.Cursor.{parser_of, receiver_of, opnds_of, waiting, count_cur}
use Rattle.cursor.specs.Steps.{sets_ivar, gets_ivar, calls, reads_attr}
use Rattle.cursor.specs.Promises.{Out, done, stop, CursorAdds, parsed_of}
use Rattle.cursor.specs.Cursor.{Cursor}
use Rattle.cursor.specs.outcomes.Parsed.{Parsed}

-- ---- an instruction is added

module _ (s w m m' : List ℕ) (c : Cursor) (L : P.Limits) (op : P.Op) where
  adds-grew : (i : ℕ) (n : Counts) → View.ProgramReady m' n → n.functions ≡ c.counts.functions → n.classes ≡ c.counts.classes → n.blocks ≡ c.counts.blocks
      → answered (i, with_program (program_view s m' n) (parser_of s m w c)) ≡ push_insn L c.block.0 op (with_program (program_view s m c.counts) (parser_of s m w c))
      → CursorAdds s w (push L op) m c m' (done (P.Insn i) (count_cur n c))
  unfolding push parser_of
  adds-grew i n r f k b e = record { is = rw (← e); ok = record { ready = r; cur = refl; functions = f; classes = k; blocks = b } }

  adds-stop : (e : ℕ) → refused e ≡ push_insn L c.block.0 op (with_program (program_view s m c.counts) (parser_of s m w c)) → CursorAdds s w (push L op) m c m' (stop e)
  unfolding push parser_of
  adds-stop e f = record { is = rw (← f); ok = tt }

module _ (m m' : List ℕ) (c : Cursor) (l : Limits) (op : Op) (g : Given) (n : Counts) (r : Result InsnId Refusal)
    (d : View.ProgramDid (pushing_of (limits_of l) c.block.0 op (given g)) unchanged c.counts.insns (more_insns op (length (given g)) c.counts) m c.counts m' (insn_of n r)) where
  pub push-done : (i : InsnId) → r ≡ Ok i
      → (s w : List ℕ) → CursorAdds s w (push (limits_of l) (op_in s op (map opnd_of (given g)))) m c m' (parsed_of (Parsed.Done (count_cur n c) (Insn i)))
  push-done i e s w =
      let h = rw e at d in
      let k = h.ok.counts in
      adds-grew s w m m' c (limits_of l) (op_in s op (map opnd_of (given g))) i.0 n h.ok.ready (ap (λ (x : Counts). x.functions) k)
      (ap (λ (x : Counts). x.classes) k) (ap (λ (x : Counts). x.blocks) k) (h.is s (parser_of s m w c))

  pub push_stops : (e : Refusal) → r ≡ Err e
      → (s w : List ℕ) → CursorAdds s w (push (limits_of l) (op_in s op (map opnd_of (given g)))) m c m' (parsed_of (Parsed.Refused (number_of e)))
  push_stops e f s w =
      let h = rw f at d in adds-stop s w m m' c (limits_of l) (op_in s op (map opnd_of (given g))) (number_of e) (h.is s (parser_of s m w c))

-- a block that was there before an instruction is there behind it
pub still_there : (op : Op) (n : ℕ) {b : ℕ} (c : Counts) {c' : Counts} → c' ≡ more_insns op n c → b < c.blocks → b < c'.blocks
still_there op n c e l = rw e l

call-functions : (k : Callee) (n : ℕ) (c : Counts) → (more_calls k n c).functions ≡ c.functions
call-functions (Static f) n c = refl
call-functions (Dynamic v x) n c = refl

call-classes : (k : Callee) (n : ℕ) (c : Counts) → (more_calls k n c).classes ≡ c.classes
call-classes (Static f) n c = refl
call-classes (Dynamic v x) n c = refl

call-blocks : (k : Callee) (n : ℕ) (c : Counts) → (more_calls k n c).blocks ≡ c.blocks
call-blocks (Static f) n c = refl
call-blocks (Dynamic v x) n c = refl

module _ (m m' : List ℕ) (c : Cursor) (l : Limits) (k : Callee) (a : List ℕ) (x : Counts) (r : Result InsnId Refusal)
    (d : View.ProgramDid (call_of (limits_of l) c.block.0 k (opnds_in a 0 (length a / 2))) unchanged c.counts.insns (more_calls k (length a / 2) c.counts) m c.counts m' (insn_of x r)) where
  pub call-done : (i : InsnId) → r ≡ Ok i
      → (s w : List ℕ) → CursorAdds s w (push (limits_of l) (P.Send (callee_in s k) (opnds_of a))) m c m' (parsed_of (Parsed.Done (count_cur x c) (Insn i)))
  call-done i e s w =
      let h = rw e at d in
      let z = h.ok.counts in
      adds-grew s w m m' c (limits_of l) (P.Send (callee_in s k) (opnds_of a)) i.0 x h.ok.ready
      (ap (λ (y : Counts). y.functions) z ∙ call-functions k (length a / 2) c.counts) (ap (λ (y : Counts). y.classes) z ∙ call-classes k (length a / 2) c.counts)
      (ap (λ (y : Counts). y.blocks) z ∙ call-blocks k (length a / 2) c.counts) (h.is s (parser_of s m w c))

  pub call_stops : (e : Refusal) → r ≡ Err e
      → (s w : List ℕ) → CursorAdds s w (push (limits_of l) (P.Send (callee_in s k) (opnds_of a))) m c m' (parsed_of (Parsed.Refused (number_of e)))
  call_stops e f s w =
      let h = rw f at d in adds-stop s w m m' c (limits_of l) (P.Send (callee_in s k) (opnds_of a)) (number_of e) (h.is s (parser_of s m w c))

-- the words of n waiting arguments hold them
pub cut : (w : List ℕ) (k n : ℕ) → scratch_size ≤ length w → k + n ≤ operands_most → opnds_of (slice_range w (stack_at + 2 * k) (stack_at + 2 * k + 2 * n)) ≡ waiting w k n
unfolding waiting
cut w k n h l = ap (map opnd_of) (opnds_part w (stack_at + 2 * k) n (omega (arith, h, l)))

-- ---- the receiver

same-adds : {A : Type 0} {s w : List ℕ} {f g : Reads A} {m : List ℕ} {c : Cursor} {m' : List ℕ} {o : Out A} → CursorAdds s w f m c m' o
    → f (parser_of s m w c) ≡ g (parser_of s m w c) → CursorAdds s w g m c m' o
same-adds a e = record { is = a.is ∙ e; ok = a.ok }

module _ (L : P.Limits) (n : P.Name) (r : Parser) where
  sets-yes : (v : P.Opnd) (i : ℕ) → r.self ≡ some i → push L (P.SetIvar n (P.Insn i) v) r ≡ sets_ivar L n v r
  unfolding sets_ivar
  sets-yes v i e = rw e

  sets_no : (v : P.Opnd) → r.self ≡ none → refused 9 ≡ sets_ivar L n v r
  unfolding sets_ivar
  sets_no v e = rw e

  gets-yes : (i : ℕ) → r.self ≡ some i → push L (P.GetIvar n (P.Insn i)) r ≡ gets_ivar L n r
  unfolding gets_ivar
  gets-yes i e = rw e

  gets_no : r.self ≡ none → refused 9 ≡ gets_ivar L n r
  unfolding gets_ivar
  gets_no e = rw e

self_of : (s m w : List ℕ) (c : Cursor) {r : Maybe InsnId} → c.receiver ≡ r → (parser_of s m w c).self ≡ receiver_of r
unfolding parser_of
self_of s m w c e = ap receiver_of e

module _ (m m' : List ℕ) (c : Cursor) (l : Limits) (n : Name) (o : Out P.Opnd) where
  pub set-yes : (v : Opnd) (i : InsnId) → c.receiver ≡ Maybe.Some i
      → ((s w : List ℕ) → CursorAdds s w (push (limits_of l) (op_in s (SetIvar n) (map opnd_of (given (Two (Insn i) v))))) m c m' o)
      → (s w : List ℕ) → CursorAdds s w (sets_ivar (limits_of l) (name_in s n) (opnd_of v)) m c m' o
  set-yes v i e a s w = same-adds (a s w) (sets-yes (limits_of l) (name_in s n) (parser_of s m w c) (opnd_of v) i.0 (self_of s m w c e))

  pub get_yes : (i : InsnId) → c.receiver ≡ Maybe.Some i
      → ((s w : List ℕ) → CursorAdds s w (push (limits_of l) (op_in s (GetIvar n) (map opnd_of (given (One (Insn i)))))) m c m' o)
      → (s w : List ℕ) → CursorAdds s w (gets_ivar (limits_of l) (name_in s n)) m c m' o
  get_yes i e a s w = same-adds (a s w) (gets-yes (limits_of l) (name_in s n) (parser_of s m w c) i.0 (self_of s m w c e))

module _ (m m' : List ℕ) (c : Cursor) (l : Limits) (n : Name) (e : c.receiver ≡ Maybe.None) where
  pub set_no : (v : Opnd) → (s w : List ℕ) → CursorAdds s w (sets_ivar (limits_of l) (name_in s n) (opnd_of v)) m c m' (parsed_of (Parsed.Refused 9))
  set_no v s w = record { is = sets_no (limits_of l) (name_in s n) (parser_of s m w c) (opnd_of v) (self_of s m w c e); ok = tt }

  pub get_no : (s w : List ℕ) → CursorAdds s w (gets_ivar (limits_of l) (name_in s n)) m c m' (parsed_of (Parsed.Refused 9))
  get_no s w = record { is = gets_no (limits_of l) (name_in s n) (parser_of s m w c) (self_of s m w c e); ok = tt }

-- ---- an attribute of an operand

module _ (L : P.Limits) (v : P.Opnd) (n : P.Name) (r : Parser) where
  attr_yes : named n "new" ≡ false → push L (P.GetIvar n v) r ≡ reads_attr L v n r
  unfolding reads_attr
  attr_yes e = rw e

  attr_no : named n "new" ≡ true → refused 8 ≡ reads_attr L v n r
  unfolding reads_attr
  attr_no e = rw e

module _ (s m m' : List ℕ) (c : Cursor) (l : Limits) (v : Opnd) (n : Name) (b : Bool) (q : b ≡ same (name s n.start n.len) (bytes "new")) where
  pub read-yes : (o : Out P.Opnd) → b ≡ false → ((z w : List ℕ) → CursorAdds z w (push (limits_of l) (op_in z (GetIvar n) (map opnd_of (given (One v))))) m c m' o)
      → (w : List ℕ) → CursorAdds s w (reads_attr (limits_of l) (opnd_of v) (name_in s n)) m c m' o
  read-yes o e a w = same-adds (a s w) (attr_yes (limits_of l) (opnd_of v) (name_in s n) (parser_of s m w c) (sym q ∙ e))

  pub read_no : b ≡ true → (w : List ℕ) → CursorAdds s w (reads_attr (limits_of l) (opnd_of v) (name_in s n)) m c m' (parsed_of (Parsed.Refused 8))
  read_no e w = record { is = attr_no (limits_of l) (opnd_of v) (name_in s n) (parser_of s m w c) (sym q ∙ e); ok = tt }

-- ---- a bare call

module _ (L : P.Limits) (v : P.Opnd) (l : List P.Opnd) (r : Parser) where
  calls-yes : (f : ℕ) → some f ≡ constant_of function_in v → push L (P.Send (P.Static f) l) r ≡ calls L v l r
  unfolding calls
  calls-yes f e = rw (← e)

  calls_no : none ≡ constant_of function_in v → refused 8 ≡ calls L v l r
  unfolding calls
  calls_no e = rw (← e)

module _ (s w m m' : List ℕ) (c : Cursor) (l : Limits) (v : Opnd) (x : List P.Opnd) where
  pub bare_yes : (o : Out P.Opnd) (f : FunId) → v ≡ Const (Kind.Fun f) → CursorAdds s w (push (limits_of l) (P.Send (callee_in s (Static f)) x)) m c m' o
      → CursorAdds s w (calls (limits_of l) (opnd_of v) x) m c m' o
  bare_yes o f e a = same-adds a (calls-yes (limits_of l) (opnd_of v) x (parser_of s m w c) f.0 (rw e))

  pub bare_no : none ≡ constant_of function_in (opnd_of v) → CursorAdds s w (calls (limits_of l) (opnd_of v) x) m c m' (parsed_of (Parsed.Refused 8))
  bare_no h = record { is = calls_no (limits_of l) (opnd_of v) x (parser_of s m w c) h; ok = tt }
