-- Legal frames, and the frames of a text: what question 21 asks (01, "Frames"). Assumes nothing.
use Rattle.std.specs.Prelude.{Bool as 𝔹, true, false, cond, not, ◌&&◌, List, [], ◌∷◌, ℕ, zero, suc, ◌+◌, ◌-◌, ◌*◌, ◌^◌, eqb, leb, ltb, get_or, length, Option, Some, None, option_map}
use Rattle.rules.specs.Sorts.{Sort, of_totals, of_block, of_kind, of_use, of_caller, of_refusal, widths}
use Rattle.memory.specs.Layout.{functions_most, classes_most, blocks_most, instructions_most}
use Rattle.frames.specs.Table.{sort_from}
use Rattle.frames.specs.declared.Frame.{Frame}
use Rattle.frames.specs.declared.Frame.TheVariants as F

-- ---- results that there may not be

abbrev pub if_some : {A B : Type 0} → Option A → (A → Option B) → Option B
if_some None f = None
if_some (Some x) f = f x

abbrev pub only_if : {A : Type 0} → 𝔹 → A → Option A
only_if false x = None
only_if true x = Some x

-- ---- numbers from text, each with the text behind it

-- a lower-case hexadecimal digit
abbrev pub digit_in : ℕ → Option ℕ
digit_in c = cond (leb 48 c && ltb c 58) (Some (c - 48)) (cond (leb 97 c && ltb c 103) (Some (c - 87)) None)

-- k digits behind the number n
abbrev pub digits_in : ℕ → ℕ → List ℕ → Option (ℕ × List ℕ)
digits_in zero n l = Some (n, l)
digits_in (suc k) n [] = None
digits_in (suc k) n (c ∷ l) = if_some (digit_in c) (λ d. digits_in k (n * 16 + d) l)

-- numbers of these widths in bytes
abbrev pub numbers_in : List ℕ → List ℕ → Option (List ℕ × List ℕ)
numbers_in [] l = Some ([], l)
numbers_in (w ∷ ws) l = if_some (digits_in (w + w) 0 l) (λ x. if_some (numbers_in ws x.1) (λ y. Some (x.0 ∷ y.0, y.1)))

-- the end of a line
abbrev pub end_in : List ℕ → Option (List ℕ)
end_in [] = None
end_in (c ∷ l) = only_if (eqb c 10) l

-- ---- legal numbers

-- the questions that a script can be refused by: 1 to 20
abbrev pub questions : ℕ
questions = 20

-- what a payload is below, by its kind's byte: 1 where it is unused, so that it is 0; truths; the names of functions and classes
abbrev pub payload_limits : List ℕ
payload_limits = 1 ∷ 1 ∷ 2 ^ 64 ∷ 2 ∷ functions_most ∷ classes_most ∷ 1 ∷ 1 ∷ 2 ^ 64 ∷ 1 ∷ []

-- what each number of a frame is below: totals may reach 01's limits, a count is any; the number of a thing is below its limit; truths; kind bytes; 01's questions
abbrev pub number_limits : Sort → List ℕ
number_limits of_totals = (functions_most + 1) ∷ (blocks_most + 1) ∷ (instructions_most + 1) ∷ 2 ^ 64 ∷ []
number_limits of_block = blocks_most ∷ 2 ∷ []
number_limits of_kind = instructions_most ∷ length payload_limits ∷ 2 ^ 64 ∷ []
number_limits of_use = instructions_most ∷ instructions_most ∷ []
number_limits of_caller = functions_most ∷ instructions_most ∷ []
number_limits of_refusal = (questions + 1) ∷ []

-- a payload that a kind's byte allows; no set is empty
abbrev pub allowed : ℕ → ℕ → 𝔹
allowed tag payload = ltb payload (get_or payload_limits tag 0) && not (eqb tag 8 && eqb payload 0)

-- each number is below its limit
abbrev pub all_below : List ℕ → List ℕ → 𝔹
all_below [] ls = true
all_below (n ∷ ns) [] = true
all_below (n ∷ ns) (l ∷ ls) = ltb n l && all_below ns ls

-- and what is asked beside: of a kind its payload, of a refusal that it isn't 0
abbrev pub proper : Sort → List ℕ → 𝔹
proper of_totals ns = true
proper of_block ns = true
proper of_kind ns = allowed (get_or ns 1 0) (get_or ns 2 0)
proper of_use ns = true
proper of_caller ns = true
proper of_refusal ns = ltb 0 (get_or ns 0 0)

-- the numbers are those of a legal frame of the sort
unfoldable pub legal_numbers : Sort → List ℕ → 𝔹
legal_numbers s ns = all_below ns (number_limits s) && proper s ns

-- ---- frames from text

-- the frame of a sort with these numbers
abbrev pub frame_from : Sort → List ℕ → Frame
frame_from of_totals ns = F.Totals (record { functions = get_or ns 0 0; blocks = get_or ns 1 0; instructions = get_or ns 2 0; count = get_or ns 3 0 })
frame_from of_block ns = F.Block (record { 0 = get_or ns 0 0 }) (not (eqb (get_or ns 1 0) 0))
frame_from of_kind ns = F.Kind (record { 0 = get_or ns 0 0 }) (get_or ns 1 0) (get_or ns 2 0)
frame_from of_use ns = F.Use (record { 0 = get_or ns 0 0 }) (record { 0 = get_or ns 1 0 })
frame_from of_caller ns = F.Caller (record { 0 = get_or ns 0 0 }) (record { 0 = get_or ns 1 0 })
frame_from of_refusal ns = F.Refusal (get_or ns 0 0)

-- the frame of a sort with these numbers, if they are those of a legal one
unfoldable pub legal_from : Sort → List ℕ → Option Frame
legal_from s ns = only_if (legal_numbers s ns) (frame_from s ns)

-- behind the byte of its sort, a legal frame ended by byte 10, and the text behind it
unfoldable pub behind_byte : Sort → List ℕ → Option (Frame × List ℕ)
behind_byte s t = if_some (numbers_in (widths s) t) (λ ns. if_some (end_in ns.1) (λ rest. option_map (λ f. (f, rest)) (legal_from s ns.0)))

-- the same with its byte
unfoldable pub frame_in : List ℕ → Option (Frame × List ℕ)
frame_in t = if_some (digits_in 2 0 t) (λ b. if_some (sort_from b.0) (λ s. behind_byte s b.1))

-- the frames of a text that is nothing else; `turns` is at least their number
abbrev pub frames_from : ℕ → List ℕ → Option (List Frame)
frames_from turns [] = Some []
frames_from zero (c ∷ t) = None
frames_from (suc turns) (c ∷ t) = if_some (frame_in (c ∷ t)) (λ x. if_some (frames_from turns x.1) (λ fs. Some (x.0 ∷ fs)))

unfoldable pub frames_in : List ℕ → Option (List Frame)
frames_in t = frames_from (length t) t

-- ---- the same asked of lines

-- a byte in front of the first line
abbrev pub push_on : ℕ → List (List ℕ) → List (List ℕ)
push_on c [] = (c ∷ []) ∷ []
push_on c (l ∷ ls) = (c ∷ l) ∷ ls

-- the lines of a text, each with its byte 10; the last may lack it
abbrev pub lines_in : List ℕ → List (List ℕ)
lines_in [] = []
lines_in (c ∷ t) = cond (eqb c 10) ((c ∷ []) ∷ lines_in t) (push_on c (lines_in t))

-- a frame, and nothing behind it
abbrev pub whole_frame : Option (Frame × List ℕ) → 𝔹
whole_frame None = false
whole_frame (Some (f, [])) = true
whole_frame (Some (f, c ∷ t)) = false

-- a line is a legal frame ended by byte 10
abbrev pub legal_line : List ℕ → 𝔹
legal_line l = whole_frame (frame_in l)
