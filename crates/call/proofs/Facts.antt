-- What the call's promise comes to: memory (demand 1), and exactness and bound of what stands in the answer part (demand 3). Assumes nothing.
use mathlib.Core.Bool.{Bool as 𝔹, true, false, ◌&&◌}
use mathlib.Core.Option.{Option, none, some}
use mathlib.Core.Path.{◌≡◌, refl, sym, ap, ◌∙◌}
use mathlib.Core.Logic.{◌↔◌}
use mathlib.Core.List.{List, ◌++◌}
use Prim.Native.Nat.{ℕ, ◌≤◌, ◌<◌}
use native.Mathlib.Omega.{arith}
use lib.Dec.{leb}
use lib.ListN.{length, take, drop, length-append, length-drop}
use lib.Seq.{take_at, drop_at}
use borrow.Author.Tests.{leb-true}
use Rattle.rules.specs.Actions.{Answer, answered, refused}
use Rattle.rules.specs.Program.{limits}
use Rattle.rules.specs.Bound.{bound}
use Rattle.rules.specs.Frames.{Analysis, analyze}
use Rattle.rules.specs.Steps.{Reached, Exact, Counted}
use Rattle.rules.proofs.Demand.{limits_usable, demand, counts, Number, numbers, long-refused}
use Rattle.memory.specs.Memory.{zeros}
use Rattle.memory.proofs.Laws.{zeros-length}
use Rattle.answer.specs.Layout.{answer_length}
use Rattle.answer.specs.Record.{answer_record}
use Rattle.answer.specs.Image.{record_in, count_in, live_in}
use Rattle.answer.proofs.Image.{image_length, record_back, count-is, live-is}
use Rattle.answer.proofs.Answered.{answer-published}
use Rattle.state.specs.Layout.{state_length}
use Rattle.chains.specs.Layout.{program_length}
use Rattle.call.specs.Call.{Lent, CallLeft, left, answer_of, holding, ended, long_enough, after}

module _ (script : List ℕ) where
  answer-length : (a : Analysis) → analyze limits script ≡ answered a → length (answer_of a) ≡ answer_length
  answer-length a e = image_length (answer_record a.program a.state) (answer-published script a e).legal

  module _ (l : Lent) where
    -- question 1, question 2, or reading and analysis on parts that are long enough
    pub data Ways : Type 0 where
      too_long : leb (length script) limits.script ≡ false → after script l ≡ left (some 1) l → Ways
      too_short : long_enough l ≡ false → after script l ≡ left (some 2) l → Ways
      through : leb (length script) limits.script ≡ true → long_enough l ≡ true → after script l ≡ ended (analyze limits script) l → Ways

    pub ways : Ways
    unfolding after
    ways = go (leb (length script) limits.script) (long_enough l) refl refl
      where
        go : (b c : 𝔹) → leb (length script) limits.script ≡ b → long_enough l ≡ c → Ways
        go false c e f = too_long e (rw e)
        go true false e f = too_short f (rw (e, f))
        go true true e f = through e f (rw (e, f))

    long : long_enough l ≡ true → (answer_length ≤ length l.answer) × (program_length ≤ length l.program) × (state_length ≤ length l.state)
    long = go (leb answer_length (length l.answer)) (leb program_length (length l.program)) (leb state_length (length l.state)) refl refl refl
      where
        never : {A : Type 0} → false ≡ true → A
        never h = let z : ◌≡◌ {A = ℕ} 0 1 = cc in absurd (omega arith)

        go : (x y z : 𝔹) → leb answer_length (length l.answer) ≡ x → leb program_length (length l.program) ≡ y → leb state_length (length l.state) ≡ z → (x && y && z) ≡ true
            → (answer_length ≤ length l.answer) × (program_length ≤ length l.program) × (state_length ≤ length l.state)
        go false y z e f g h = never h
        go true false z e f g h = never h
        go true true false e f g h = never h
        go true true true e f g h = (leb-true _ _ e, leb-true _ _ f, leb-true _ _ g)

    -- ---- memory

    -- places beyond the published lengths, and all lengths, stay
    pub record Kept (m : Lent) : Type 0 where
      pub answer : drop answer_length m.answer ≡ drop answer_length l.answer
      pub program : drop program_length m.program ≡ drop program_length l.program
      pub state : drop state_length m.state ≡ drop state_length l.state
      pub len_answer : length m.answer ≡ length l.answer
      pub len_program : length m.program ≡ length l.program
      pub len_state : length m.state ≡ length l.state

    front_length : (t d : List ℕ) (n : ℕ) → length t ≡ n → n ≤ length d → length (t ++ drop n d) ≡ length d
    front_length t d n e h = length-append t (drop n d) ∙ rw (length-drop, e) (omega arith)

    holding-kept : (t : List ℕ) → length t ≡ answer_length → long_enough l ≡ true → Kept (holding t l)
    holding-kept t e f =
        let h = long f in
        record {
          answer = drop_at t (drop answer_length l.answer) answer_length e;
          program = drop_at (zeros program_length) (drop program_length l.program) program_length (zeros-length program_length);
          state = drop_at (zeros state_length) (drop state_length l.state) state_length (zeros-length state_length);
          len_answer = front_length t l.answer answer_length e h.0;
          len_program = front_length (zeros program_length) l.program program_length (zeros-length program_length) h.1;
          len_state = front_length (zeros state_length) l.state state_length (zeros-length state_length) h.2;
        }

    pub kept : Kept (after script l).lent
    kept = go ways
      where
        same : Kept l
        same = record { answer = refl; program = refl; state = refl; len_answer = refl; len_program = refl; len_state = refl }

        of : (x : Answer Analysis) → analyze limits script ≡ x → long_enough l ≡ true → Kept (ended x l).lent
        of (answered a) e f = holding-kept (answer_of a) (answer-length a e) f
        of (refused n) e f = holding-kept (zeros answer_length) (zeros-length answer_length) f

        go : Ways → Kept (after script l).lent
        go (too_long h e) = rw e same
        go (too_short h e) = rw e same
        go (through h f e) = rw e (of (analyze limits script) refl f)

    -- a refusal has the number of a question, and never that of subtraction; 1 and 2 leave all memory untouched, any other clears the published places
    pub record Refusal (n : ℕ) : Type 0 where
      pub least : 1 ≤ n
      pub most : n ≤ 20
      pub never : n ≡ 18 → ⊥
      pub first : n ≤ 2 → (after script l).lent ≡ l
      pub later : 3 ≤ n → (after script l).lent ≡ holding (zeros answer_length) l

    pub refusal : (n : ℕ) → (after script l).number ≡ some n → Refusal n
    refusal n e = go ways
      where
        one : {m : ℕ} → some m ≡ some n → m ≡ n
        one h = cc

        of : (x : Answer Analysis) → ((m : ℕ) → x ≡ refused m → Number m) → after script l ≡ ended x l → (ended x l).number ≡ some n → Refusal n
        of (answered a) t q h = let z : ◌≡◌ {A = ℕ} 0 1 = cc in absurd (omega arith)
        of (refused m) t q h =
            let z : m ≡ n = one h in
            let k = t m refl in
            record { least = omega (arith, k.0); most = omega (arith, k.1); never = λ y. k.2 (z ∙ y); first = λ g. absurd (omega (arith, k.0)); later = λ _. ap (λ (x : CallLeft). x.lent) q }

        asked : {m : ℕ} → (1 ≤ m) × (m ≤ 2) → after script l ≡ left (some m) l → Refusal n
        asked {m} h q =
            let z : m ≡ n = one (sym (ap (λ (x : CallLeft). x.number) q) ∙ e) in
            record { least = omega (arith, h.0); most = omega (arith, h.1); never = λ y. omega (arith, h.1); first = λ _. ap (λ (x : CallLeft). x.lent) q; later = λ g. absurd (omega (arith, h.1)) }

        go : Ways → Refusal n
        go (too_long h q) = asked (omega arith, omega arith) q
        go (too_short h q) = asked (omega arith, omega arith) q
        go (through h f q) = of (analyze limits script) (numbers limits script h).refuses q (sym (ap (λ (x : CallLeft). x.number) q) ∙ e)

    -- ---- an answer

    -- the published places of the answer part hold an analysis: its count is the number of steps taken and within the bound, and its live blocks are those
    -- that a chain of steps reaches
    pub record Answers (a : Analysis) : Type 0 where
      pub is : analyze limits script ≡ answered a
      pub memory : (after script l).lent ≡ holding (answer_of a) l
      pub held : take answer_length (after script l).lent.answer ≡ answer_of a
      pub exact : Exact a.program a.state
      pub counted : Counted limits a.program a.state
      pub read_back : record_in (answer_of a) ≡ answer_record a.program a.state
      pub count : count_in (answer_of a) ≤ bound a.program
      pub live : (b : ℕ) → b < length a.program.blocks → (live_in (answer_of a) b ≡ true) ↔ Reached a.program a.state b

    pub answered_exactly : (after script l).number ≡ none → (a : Analysis) × Answers a
    answered_exactly e = go ways
      where
        held-is : (a : Analysis) → analyze limits script ≡ answered a → after script l ≡ ended (answered a) l → Answers a
        held-is a q w =
            let p = answer-published script a q in
            let r = answer_record a.program a.state in
            let x = demand limits limits_usable script a q in
            let m : (after script l).lent ≡ holding (answer_of a) l = ap (λ (x : CallLeft). x.lent) w in
            record {
              is = q;
              memory = m;
              held = ap (λ (x : Lent). take answer_length x.answer) m ∙ take_at (answer_of a) (drop answer_length l.answer) answer_length (answer-length a q);
              exact = x;
              counted = counts limits limits_usable script a q;
              read_back = record_back r p.legal;
              count = rw (count-is r p.legal) x.count;
              live = λ b h. rw (live-is r p.legal b (omega (arith, p.shaped.blocks))) (x.live b);
            }

        of : (x : Answer Analysis) → analyze limits script ≡ x → after script l ≡ ended x l → (ended x l).number ≡ none → (a : Analysis) × Answers a
        of (answered a) q w h = (a, held-is a q w)
        of (refused n) q w h = let z : ◌≡◌ {A = ℕ} 0 1 = cc in absurd (omega arith)

        some-none : {m : ℕ} → after script l ≡ left (some m) l → (a : Analysis) × Answers a
        some-none {m} q = let f : some m ≡ none = sym (ap (λ (x : CallLeft). x.number) q) ∙ e in let z : ◌≡◌ {A = ℕ} 0 1 = cc in absurd (omega arith)

        go : Ways → (a : Analysis) × Answers a
        go (too_long h q) = some-none q
        go (too_short h q) = some-none q
        go (through h f q) = of (analyze limits script) refl q (sym (ap (λ (x : CallLeft). x.number) q) ∙ e)

    -- ---- with parts that are long enough, the number is the rules'

    abbrev pub number_in : Answer Analysis → Option ℕ
    number_in (answered a) = none
    number_in (refused n) = some n

    pub number_is : long_enough l ≡ true → (after script l).number ≡ number_in (analyze limits script)
    number_is h = go ways
      where
        of : (x : Answer Analysis) → (ended x l).number ≡ number_in x
        of (answered a) = refl
        of (refused n) = refl

        go : Ways → (after script l).number ≡ number_in (analyze limits script)
        go (too_long f q) = ap (λ (x : CallLeft). x.number) q ∙ sym (ap number_in (long-refused limits script f))
        go (too_short f q) = let b : true ≡ false = sym h ∙ f in let z : ◌≡◌ {A = ℕ} 0 1 = cc in absurd (omega arith)
        go (through g f q) = ap (λ (x : CallLeft). x.number) q ∙ of (analyze limits script)
