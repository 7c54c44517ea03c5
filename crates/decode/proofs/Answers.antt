-- Every answer of the built-in limits is a legal record, and what `live` writes is read. Assumes nothing.
use mathlib.Core.Bool.{true, false, ◌&&◌}
use mathlib.Core.Path.{◌≡◌, refl, sym, subst}
use mathlib.Core.List.{List, [], ◌∷◌}
use Prim.Native.Nat.{ℕ, zero, suc, ◌^◌, ◌≤◌, ◌<◌}
use native.Mathlib.Nat.{le_trans}
use native.Mathlib.Omega.{arith}
use lib.Dec.{ltb}
use lib.ListN.{length, get_or}
use borrow.Author.Tests.{ltb-true, lt-ltb, ne_eqb}
use Rattle.kinds.specs.declared.Kind.{Kind}
use Rattle.kinds.specs.declared.Kind.TheVariants.{Empty, Nil, Num, Truth, Fun, Class, Int, Bool, Objects, Any}
use Rattle.kinds.specs.Kinds.{tag_of, payload_of}
use Rattle.rules.specs.Actions.{Answer, answered, refused}
use Rattle.rules.specs.Values.{function_below}
use Rattle.rules.specs.Program.{limits, Program}
use Rattle.rules.specs.Reading.{parse_program}
use Rattle.rules.specs.Uses.{uses}
use Rattle.rules.specs.Machine.{State, start, run}
use Rattle.rules.specs.Bound.{bound}
use Rattle.rules.specs.Sorts.{of_refusal}
use Rattle.rules.specs.Frames.{Analysis, analyze, live}
use Rattle.rules.specs.Finished.{Finished}
use Rattle.rules.specs.Steps.{Told}
use Rattle.rules.proofs.Wellformed.Tests.{and-true, true-and}
use Rattle.rules.proofs.Wellformed.Whole.{finished}
use Rattle.rules.proofs.Exactness.Answers.{answer as answer_same, after}
use Rattle.rules.proofs.Exactness.Limited.{bound-fits, classes-few}
use Rattle.rules.proofs.Exactness.Laws.{Fine}
use Rattle.rules.proofs.Exactness.Theorem.{going}
use Rattle.rules.proofs.Demand.{limits_usable, usable_sane, demand, answers}
use Rattle.memory.specs.Layout.{functions_most, classes_most}
use Rattle.answer.specs.Record.{answer_record, users_from}
use Rattle.answer.proofs.Answered.{answer-published}
use Rattle.frames.proofs.Written.{record_frames}
use Rattle.decode.specs.Lines.{allowed, legal_numbers}
use Rattle.decode.specs.Stored.{Stored, answer, refusal, write, legal_kind, legal_record, legal_stored, read_text}
use Rattle.decode.specs.Standing.{Each}
use Rattle.decode.proofs.Pairs.{Rises, Below, places_rise}
use Rattle.decode.proofs.Records.{legal_parts, payload_small}
use Rattle.decode.proofs.Theorem.{read_written}

-- ---- final kinds

allowed-fine : (C F : ℕ) (k : Kind) → C ≤ classes_most → F ≤ functions_most → Fine C F k → allowed (tag_of k) (payload_of k) ≡ true
allowed-fine C F Empty c f h = refl
allowed-fine C F Nil c f h = refl
allowed-fine C F (Num n) c f h = rw (lt-ltb (payload_of (Num n)) (2 ^ 64) (payload_small (Num n) h.fits)) refl
allowed-fine C F (Truth true) c f h = refl
allowed-fine C F (Truth false) c f h = refl
allowed-fine C F (Fun g) c f h =
    let a = (and-true (ltb g.0 F) true (and-true (ltb g.0 F && true) true h.names).0).0 in
    rw (lt-ltb g.0 functions_most (le_trans (ltb-true g.0 F a) f)) refl
allowed-fine C F (Class x) c f h =
    let a = (and-true (ltb x.0 C) true h.names).0 in
    rw (lt-ltb x.0 classes_most (le_trans (ltb-true x.0 C a) c)) refl
allowed-fine C F Int c f h = refl
allowed-fine C F Bool c f h = refl
allowed-fine C F (Objects zero) c f h = absurd (h.good.more refl)
allowed-fine C F (Objects (suc s)) c f h = rw (lt-ltb (suc s) (2 ^ 64) (payload_small (Objects (suc s)) h.fits), ne_eqb (suc s) 0 (λ e. omega arith)) refl
allowed-fine C F Any c f h = refl

names-fine : (C F : ℕ) (k : Kind) → Fine C F k → function_below F k ≡ true
names-fine C F k h = (and-true (function_below F k) _ h.names).0

kind-fine : (C F : ℕ) (k : Kind) → C ≤ classes_most → F ≤ functions_most → Fine C F k → legal_kind F k ≡ true
kind-fine C F k c f h = true-and (true-and h.fits (allowed-fine C F k c f h)) (names-fine C F k h)

-- ---- the record of an answer

each_get : {A : Type 0} (P : A → Type 0) (l : List A) (d : A) → ((i : ℕ) → i < length l → P (get_or l i d)) → Each P l
each_get P [] d h = tt
each_get P (x ∷ l) d h = (h 0 (omega arith), each_get P l d (λ i lt. h (suc i) (omega arith)))

users-rise : (p : Program) (i n top : ℕ) → length p.instructions ≡ top → Each (λ l. Rises 0 l × Below top l) (users_from p i n)
unfolding uses
users-rise p i zero top e = tt
users-rise p i (suc n) top e =
    let z = places_rise _ p.instructions in
    ((z.0, subst (λ (m : ℕ). Below m (uses p i)) e z.1), users-rise p (suc i) n top e)

-- what the end of a run keeps of its kinds
kinds-fine : (p : Program) → Finished limits p → (s e : State) → start limits p ≡ answered s → run limits p (bound p) s ≡ answered e
    → length e.called_by ≤ functions_most → Each (λ k. legal_kind (length e.called_by) k ≡ true) e.kinds
kinds-fine p R s e h q f =
    let v = (going limits (omega arith) p R (bound p) s e h q).inv in
    let C = length p.classes in
    let n : length e.called_by ≡ length p.functions = v.sizes.called in
    rw (n) (each_get (λ k. legal_kind (length p.functions) k ≡ true) e.kinds Empty
    (λ i lt. kind-fine C (length p.functions) (get_or e.kinds i Empty) (classes-few limits p R.limits) (omega (arith, f)) (v.fine.kind i)))

pub answer_legal : (script : List ℕ) (a : Analysis) → analyze limits script ≡ answered a → legal_record (answer_record a.program a.state) ≡ true
unfolding analyze
answer_legal script a e =
    let q = answer-published script a e in
    let l = q.legal in
    let s = q.shaped in
    let x = after (parse_program limits script) _ e in
    let y = after (start limits x.0) _ x.2 in
    let z = after (run limits x.0 (bound x.0) y.0) _ y.2 in
    let R = finished limits (usable_sane limits limits_usable) script x.0 x.1 in
    let same : record { program = x.0; state = z.0 } ≡ a = answer_same z.2 in
    let c : bound a.program < 2 ^ 64 = subst (λ (b : Analysis). bound b.program < 2 ^ 64) same (bound-fits x.0 R) in
    let d = (demand limits limits_usable script a e).count in
    let k = subst (λ (b : Analysis). length b.state.called_by ≤ functions_most → Each (λ k. legal_kind (length b.state.called_by) k ≡ true) b.state.kinds) same (kinds-fine x.0 R y.0 z.0 y.1 z.1) in
    legal_parts (answer_record a.program a.state) (record {
      functions = l.functions;
      blocks = l.blocks;
      instructions = l.instructions;
      count = le_trans (omega (arith, d)) c;
      kinds = k l.functions;
      lists = l.lists;
      users = users-rise a.program 0 (length a.state.kinds) (length a.state.kinds) (sym s.instructions);
      uses = l.uses;
      rows = each_get (λ row. length row ≡ length a.state.kinds) a.state.called_by [] l.rows;
    })

-- ---- what `live` writes

-- what a script's answer is as a stored one
abbrev pub stored_of : Answer Analysis → Stored
stored_of (answered a) = answer (answer_record a.program a.state)
stored_of (refused n) = refusal n

refusal_legal : (n : ℕ) → 1 ≤ n → n ≤ 20 → legal_numbers of_refusal (n ∷ []) ≡ true
unfolding legal_numbers
refusal_legal n a b = rw (lt-ltb n 21 (omega arith), lt-ltb 0 n (omega arith)) refl

pub stored_legal : (script : List ℕ) → legal_stored (stored_of (analyze limits script)) ≡ true
stored_legal script = go (analyze limits script) refl (answers limits limits_usable script)
  where
    go : (r : Answer Analysis) → analyze limits script ≡ r → Told r → legal_stored (stored_of r) ≡ true
    go (answered a) e t = answer_legal script a e
    go (refused n) e t = refusal_legal n t.0 t.1

pub live_lines : (script : List ℕ) → live script ≡ write (stored_of (analyze limits script))
unfolding live
live_lines script = go (analyze limits script) refl
  where
    go : (r : Answer Analysis) → analyze limits script ≡ r → Rattle.rules.specs.Frames.frames_of r ≡ write (stored_of r)
    go (answered a) e = sym (record_frames a.program a.state (answer-published script a e).shaped)
    go (refused n) e = refl

-- is read, for every script, as its record or its refusal
pub live_read : (script : List ℕ) → read_text (live script) ≡ answered (stored_of (analyze limits script))
live_read script = subst (λ (t : List ℕ). read_text t ≡ answered (stored_of (analyze limits script))) (sym (live_lines script)) (read_written (stored_of (analyze limits script)) (stored_legal script))
