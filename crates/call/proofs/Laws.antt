-- The ways through the call. Assumes nothing.
use mathlib.Core.Bool.{Bool as 𝔹, true, false}
use mathlib.Core.Path.{◌≡◌, refl, sym, ap, ◌∙◌, subst}
use mathlib.Core.Option.{some}
use mathlib.Core.List.{List, ◌++◌}
use Prim.Native.Nat.{ℕ, ◌≤◌, ◌<◌}
use native.Mathlib.Omega.{arith}
use lib.ListN.{length, get_or, take, drop}
use lib.Seq.{take_at, length-take-le}
use lib.Dec.{leb}
use borrow.Author.Tests.{le-leb, lt-leb}
use native.Mathlib.Decide.{dec_lt}
use Rattle.rules.specs.Actions.{Answer, answered, refused, if_answered}
use Rattle.rules.specs.Program.{limits, Program}
use Rattle.rules.specs.Reading.{parse_program}
use Rattle.rules.specs.Machine.{State, state_of, start, run}
use Rattle.rules.specs.Bound.{bound}
use Rattle.rules.specs.Frames.{Analysis, analyze}
use Rattle.rules.proofs.Wellformed.Laws.{and_then}
use Rattle.rules.proofs.Wellformed.Forward.{program_comes, too_long as too-long-refused}
use Rattle.rules.proofs.Questions.{start_fine, run_fine}
use Rattle.rules.proofs.Exactness.Answers as Answers
use Rattle.memory.specs.Memory.{zeros, Blank}
use Rattle.memory.proofs.Laws.{zeros-at}
use Rattle.program.specs.View.{program_view}
use Rattle.program.specs.declared.Counts.{Counts}
use Rattle.state.specs.declared.Regs.{Regs}
use Rattle.state.specs.Acted.{Acted, On, Refused as No}
use Rattle.std.specs.Prelude.{Result, Ok, Err}
use Rattle.refusals.specs.declared.Refusal.{Refusal}
use Rattle.refusals.specs.declared.Refusal.TheVariants as R
use Rattle.refusals.specs.Refusals.{number_of as number}
use Rattle.state.specs.declared.Sizes.{Sizes}
use Rattle.state.specs.View.{Attrs, state_view}
use Rattle.state.specs.Changes.{went}
use Rattle.answer.specs.Layout.{answer_length, callers_at}
use Rattle.answer.specs.Record.{Legal, answer_record}
use Rattle.answer.specs.Image.{image_of}
use Rattle.answer.proofs.Answered.{run-published}
use Rattle.machine.specs.Analysed.{sizes_of}
use Rattle.machine.proofs.States.{attrs, attrs-fit}
use Rattle.publish.specs.Final.{with_state}
use Rattle.publish.proofs.Tables.{live-length}
use Rattle.publish.proofs.Uses.{Outside}
use Rattle.publish.proofs.Whole.{image_written}
use Rattle.run.specs.Runs.{Rested}
use Rattle.sctp.specs.Sctp.{tables_of, Given, Analyses}
use Rattle.parser.specs.Outcomes.{ReadsScript}
use Rattle.parser.proofs.Laws.{read-ready, read-finished}
use Rattle.memory.specs.Layout.{script_most, blocks_most, instructions_most}
use Rattle.program.specs.Layout.{program_size}
use Rattle.state.specs.Layout.{state_length}
use Rattle.chains.specs.Layout.{program_length}
use Rattle.call.specs.Call.{number_of, Lent, lent, left, answer_of, ended, after}
use Rattle.call.specs.Parts.{front_of, imaged, analyzed, found, Parsed, PartsSized, PartsFresh, PartsAnalyzed, kept_of, PartsCleared, PartsRan}

-- ---- analyze_program

pub given : (s p : List ℕ) (c : Counts) (u m t : List ℕ) {z : Sizes} → Parsed s (front_of p) c → PartsFresh u p m → z ≡ sizes_of c → length t ≡ instructions_most → Given s p c z u t
unfolding front_of
given s p c u m t h f e l = record { limits = limits; suited = h.suited; ready = h.ready; program = f.program; sizes = e; answer = f.answer.len; stamps = l }

front-tables : (p : List ℕ) → tables_of p ≡ front_of p
unfolding front_of
front-tables p = refl

module _ (s p : List ℕ) (c : Counts) (u u₁ m : List ℕ) {r : Acted} (h : Parsed s (front_of p) c) (analyses : Analyses s (tables_of p) c u u₁ m r) where
  abbrev t : List ℕ
  t = front_of p

  g : Analyses s t c u u₁ m r
  g = subst (λ (x : List ℕ). Analyses s x c u u₁ m r) (front-tables p) analyses

  abbrev P : Program
  P = program_view s t c

  abbrev v : Attrs
  v = attrs s t c limits h.suited

  -- the rules' outcome
  ends : state_of limits P (went (sizes_of c) v m r) ≡ if_answered (start limits P) (run limits P (bound P))
  ends = g.outcome.is limits h.suited v (attrs-fit s t c limits h.suited)

  image : Answer State → Answer (List ℕ)
  image y = if_answered y (λ e. answered (image_of (answer_record P e)))

  -- the number of a refusal is a question's
  pub program-number : {n : ℕ} → r ≡ No n → n < 256
  program-number {n} e = omega (arith, ((and_then (start_fine limits P) (λ x q. run_fine limits P (bound P) x)).refuses n (sym (rw e at ends))).1)

  pub program-refused : {x : Refusal} {o : Result (Unit {0}) Refusal} (a : List ℕ) → r ≡ No (number x) → o ≡ Err x → found o a ≡ analyzed P
  unfolding analyzed image
  program-refused a e f = rw f (ap image (rw e at ends))

  module _ {q : Regs} (e : r ≡ On q) where
    rested : Rested s t c (sizes_of c) m q
    rested = (rw e at g).outcome.ok

    ends_in : answered (state_view (sizes_of c) v m q) ≡ if_answered (start limits P) (run limits P (bound P))
    ends_in = rw e at ends

    legal : Legal (answer_record P (state_view (sizes_of c) v m q))
    legal = let y = Answers.after (start limits P) _ (sym ends_in) in (run-published P h.suited.finished y.0 _ y.1 y.2).legal

    pub blocks-few : c.blocks ≤ blocks_most
    blocks-few = omega (arith, live-length (sizes_of c) m, legal.blocks)

    -- the answer memory was cleared before
    others : (k : ℕ) → Blank u answer_length → Outside c u₁ k → Dec (k < callers_at) → get_or u₁ k 0 ≡ get_or u k 0
    others k b o (yes lt) = g.left.others k lt o.0 o.1
    others k b o (no ge) = g.left.clear k (omega arith) ∙ sym (ap (λ (d : List ℕ). get_or d k 0) b.is ∙ zeros-at answer_length k)

    pub program-answered : {a p' w : List ℕ} {z : Sizes} (x : Unit {0}) → PartsFresh u p' w → length u₁ ≡ length u → z ≡ sizes_of c → a ≡ with_state z m q.count u₁ → found (Ok x) a ≡ analyzed P
    unfolding analyzed image
    program-answered {a} {z = z} x f l ez ew =
        let ea : a ≡ with_state (sizes_of c) m q.count u₁ = ew ∙ ap (λ (y : Sizes). with_state y m q.count u₁) ez in
        ap answered (image_written s t c (sizes_of c) v m q h.ready refl legal f.answer l g.left.users (λ k o. others k f.answer o (dec_lt k callers_at)) ea)
        ∙ ap image ends_in

-- ---- analyze_script

tables_back : (t d : List ℕ) → length t ≡ program_size → front_of (t ++ d) ≡ t
unfolding front_of
tables_back t d e = take_at t d program_size e

-- the analysis goes on from what was read
imaged-on : (s : List ℕ) (p : Program) → parse_program limits s ≡ answered p → imaged (analyze limits s) ≡ analyzed p
unfolding analyze analyzed
imaged-on s p e = rw e (go (start limits p))
  where
    last : (x : Answer State) → if_answered (if_answered x (λ e. answered (record { program = p; state = e })))
        (λ (a : Analysis). answered (answer_of a))
        ≡ if_answered x (λ e. answered (image_of (answer_record p e)))
    last (answered e) = refl
    last (refused n) = refl

    go : (x : Answer State) → if_answered (if_answered x (λ s. if_answered (run limits p (bound p) s) (λ e. answered (record { program = p; state = e })))) (λ (a : Analysis). answered (answer_of a))
        ≡ if_answered (if_answered x (run limits p (bound p))) (λ e. answered (image_of (answer_record p e)))
    go (answered s) = last (run limits p (bound p) s)
    go (refused n) = refl

imaged_no : (s : List ℕ) (n : ℕ) → parse_program limits s ≡ refused n → imaged (analyze limits s) ≡ refused n
unfolding analyze
imaged_no s n e = rw e

module _ {a p w : List ℕ} (sized : PartsSized a p w) where
  -- the tables that are lent, and the program part with those that came back
  pub tables_room : length (take program_size p) ≡ program_size
  tables_room = length-take-le program_size p (omega (arith, sized.program))

  pub tables_read : {s t : List ℕ} {r : Result Counts Refusal} → ReadsScript s t r → length t ≡ length (take program_size p) → ReadsScript s (front_of (t ++ drop program_size p)) r
  tables_read {s} {t} {r} g e = subst (λ x. ReadsScript s x r) (sym (tables_back t (drop program_size p) (e ∙ tables_room))) g

-- the number of a refusal is a question's
pub number_of_lem : (s : List ℕ) (n : ℕ) → parse_program limits s ≡ refused n → n ≤ 20
number_of_lem s n e = go (leb (length s) limits.script) refl
  where
    go : (b : 𝔹) → leb (length s) limits.script ≡ b → n ≤ 20
    go true h = let q = (program_comes limits s h).refuses n e in omega (arith, q.most)
    go false h = let z : refused n ≡ refused 1 = sym e ∙ too-long-refused limits s h in let i : n ≡ 1 = cc in omega arith

module _ (s t : List ℕ) {r : Result Counts Refusal} (g : ReadsScript s t r) where
  pub reading_refused : {x : Refusal} {o : Result (Unit {0}) Refusal} (a : List ℕ) → r ≡ Err x → o ≡ Err x → found o a ≡ imaged (analyze limits s)
  reading_refused {x} a e f = rw f (sym (imaged_no s (number x) (sym (rw e at g).is)))

  module _ {c : Counts} (e : r ≡ Ok c) where
    pub parsed : Parsed s t c
    parsed =
        record {
          suited = record {
            room = record { functions = omega arith; classes = omega arith; blocks = omega arith; instructions = omega arith; ivars = omega arith; worklist = refl };
            finished = read-finished g e;
          };
          ready = read-ready g e;
        }

    pub reading_finished : (o : Result (Unit {0}) Refusal) (a : List ℕ) → found o a ≡ analyzed (program_view s t c) → found o a ≡ imaged (analyze limits s)
    reading_finished o a f = f ∙ sym (imaged-on s (program_view s t c) (sym (rw e at g).is))

pub sized_kept : {a p p' w w' : List ℕ} → PartsSized a p w → length p' ≡ length p → length w' ≡ length w → PartsSized a p' w'
sized_kept f k l = record { answer = f.answer; program = k ∙ f.program; state = l ∙ f.state }

-- ---- analyze_parts

-- what stands in the parts is what the call leaves
left_of_lem : (x : Answer Analysis) (r : Result (Unit {0}) Refusal) (a p w : List ℕ) (l : Lent) → found r a ≡ imaged x → length a ≡ answer_length
    → ended x l ≡ left (number_of r) (lent (kept_of r a ++ drop answer_length l.answer) (zeros program_length ++ drop program_length l.program) (zeros state_length ++ drop state_length l.state))
left_of_lem (answered y) (Ok u) a p w l e h = rw (Answers.answer e)
left_of_lem (answered y) (Err n) a p w l e h = let z : ◌≡◌ {A = ℕ} 0 1 = cc in absurd (omega arith)
left_of_lem (refused m) (Ok u) a p w l e h = let z : ◌≡◌ {A = ℕ} 0 1 = cc in absurd (omega arith)
left_of_lem (refused m) (Err n) a p w l e h = let z : number n ≡ m = cc in rw (z, h)

pub ran_is : (s a₁ p₁ w₁ : List ℕ) {a p w : List ℕ} {r : Result (Unit {0}) Refusal} → PartsAnalyzed s r a₁ p₁ w₁ → PartsCleared r a₁ p₁ w₁ a p w → PartsRan s r a p w
ran_is s a₁ p₁ w₁ {a} {p} {w} {r} d t =
    record { is = λ l. left_of_lem (analyze limits s) r a₁ p₁ w₁ l d.is d.sized.answer ∙ rw (t.answer, t.program, t.state, d.sized.program, d.sized.state) }

-- ---- the call

module _ (s a p w : List ℕ) where
  pub too_long : script_most < length s → after s (lent a p w) ≡ left (some 1) (lent a p w)
  unfolding after
  too_long h = rw (lt-leb (length s) script_most h)

  pub short_answer : length s ≤ script_most → length a < answer_length → after s (lent a p w) ≡ left (some 2) (lent a p w)
  unfolding after
  short_answer h i = rw (le-leb (length s) script_most h, lt-leb answer_length (length a) i)

  pub short_program : length s ≤ script_most → answer_length ≤ length a → length p < program_length → after s (lent a p w) ≡ left (some 2) (lent a p w)
  unfolding after
  short_program h i j = rw (le-leb (length s) script_most h, le-leb answer_length (length a) i, lt-leb program_length (length p) j)

  pub short_state : length s ≤ script_most → answer_length ≤ length a → program_length ≤ length p → length w < state_length → after s (lent a p w) ≡ left (some 2) (lent a p w)
  unfolding after
  short_state h i j k = rw (le-leb (length s) script_most h, le-leb answer_length (length a) i, le-leb program_length (length p) j, lt-leb state_length (length w) k)

  pub ran_through : {r : Result (Unit {0}) Refusal} {a' p' w' : List ℕ} → length s ≤ script_most → answer_length ≤ length a
      → program_length ≤ length p → state_length ≤ length w → PartsRan s r a' p' w'
      → after s (lent a p w) ≡ left (number_of r) (lent (a' ++ drop answer_length a) (p' ++ drop program_length p) (w' ++ drop state_length w))
  unfolding after
  ran_through h i j k x =
      rw (le-leb (length s) script_most h, le-leb answer_length (length a) i, le-leb program_length (length p) j, le-leb state_length (length w) k) (x.is (lent a p w))

-- ---- a refusal's number is a byte

in_byte : (e : Refusal) → number e < 256
in_byte R.ScriptTooLong = omega arith
in_byte R.MemoryTooShort = omega arith
in_byte R.UnknownByte = omega arith
in_byte R.NumberTooLarge = omega arith
in_byte R.UnexpectedWord = omega arith
in_byte R.UnboundName = omega arith
in_byte R.NameTaken = omega arith
in_byte R.NotCallable = omega arith
in_byte R.OutsideMethod = omega arith
in_byte R.BlockEnded = omega arith
in_byte R.OverLimit = omega arith
in_byte R.NoFunction = omega arith
in_byte R.UndeclaredAttribute = omega arith
in_byte R.NotAnObject = omega arith
in_byte R.UnknownMember = omega arith
in_byte R.MissingArgument = omega arith
in_byte R.NeedsReceiver = omega arith
in_byte R.Subtraction = omega arith
in_byte R.KindsClash = omega arith
in_byte R.WaitingListFull = omega arith

-- so is that of a script that the reading refuses
module _ (s t : List ℕ) {r : Result Counts Refusal} (g : ReadsScript s t r) where
  pub reading_number : {e : Refusal} → r ≡ Err e → number e < 256
  reading_number {e} q = in_byte e
