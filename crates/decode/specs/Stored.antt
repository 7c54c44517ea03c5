-- A stored answer: its lines, when it is legal, and how it is read from lines: what question 22 asks. Assumes nothing.
use Rattle.std.specs.Prelude.{Bool as 𝔹, true, ◌&&◌, ◌||◌, List, [], ◌∷◌, ◌++◌, ℕ, suc, ◌^◌, eqb, leb, ltb, length, Option, Some, None, option_map}
use Rattle.kinds.specs.declared.Kind.{Kind}
use Rattle.kinds.specs.Kinds.{tag_of, payload_of, kind_from, fits_of}
use Rattle.rules.specs.Actions.{Answer, answered, refused, if_answered}
use Rattle.rules.specs.Lists.{concat, cons_if, any, all, final, to_list}
use Rattle.rules.specs.Values.{function_below}
use Rattle.rules.specs.Frames.{refusal_frame}
use Rattle.rules.specs.Sorts.{of_refusal}
use Rattle.memory.specs.Layout.{functions_most, blocks_most, instructions_most, uses_most}
use Rattle.answer.specs.Record.{Record}
use Rattle.answer.specs.Image.{listed}
use Rattle.frames.specs.declared.Frame.{Frame}
use Rattle.frames.specs.declared.Frame.TheVariants as F
use Rattle.frames.specs.declared.Totals.{Totals}
use Rattle.frames.specs.Text.{record_text}
use Rattle.decode.specs.Lines.{if_some, only_if, allowed, legal_numbers, frames_in}

-- an answer's record, or a refusal, by its number
pub data Stored : Type 0 where
  answer : Record → Stored
  refusal : ℕ → Stored

-- its lines
abbrev pub write : Stored → List ℕ
write (answer r) = record_text r
write (refusal n) = refusal_frame n

-- ---- legal ones

-- the numbers rise from low on, below top
abbrev pub rising : ℕ → ℕ → List ℕ → 𝔹
rising low top [] = true
rising low top (x ∷ l) = leb low x && ltb x top && rising (suc x) top l

-- a kind that a legal frame tells; the function that it names is below the total
abbrev pub legal_kind : ℕ → Kind → 𝔹
legal_kind functions k = fits_of k && allowed (tag_of k) (payload_of k) && function_below functions k

-- 01's limits, and any count of 64 bits; legal kinds; for each instruction its users, rising, and not too many in all; for each function a bit an instruction
unfoldable pub legal_record : Record → 𝔹
legal_record r =
    leb (length r.callers) functions_most && leb (length r.live) blocks_most && leb (length r.kinds) instructions_most && ltb r.count (2 ^ 64)
    && all (legal_kind (length r.callers)) r.kinds
    && eqb (length r.users) (length r.kinds) && all (rising 0 (length r.kinds)) r.users && leb (length (concat r.users)) uses_most
    && all (λ row. eqb (length row) (length r.kinds)) r.callers

-- a refusal is a question's number
abbrev pub legal_stored : Stored → 𝔹
legal_stored (answer r) = legal_record r
legal_stored (refusal n) = legal_numbers of_refusal (n ∷ [])

-- ---- reading, frame by frame: what question 22 asks

-- an answer of which frames were read: its totals, and what they told since
pub record Begun : Type 0 where
  pub totals : Totals
  pub live : List 𝔹
  pub kinds : List Kind
  pub uses : List (ℕ × ℕ)
  pub calls : List (ℕ × ℕ)

-- how far reading has come: nothing was read yet; a refusal's line; an answer's
pub data Progress : Type 0 where
  nothing : Progress
  lone : ℕ → Progress
  begun : Begun → Progress

-- pairs rise by their first numbers, then by their second
abbrev pub pair_before : ℕ × ℕ → ℕ × ℕ → 𝔹
pair_before p q = ltb p.0 q.0 || (eqb p.0 q.0 && ltb p.1 q.1)

-- the pair is above the last one, if there is one: so none is repeated
abbrev pub pair_follows : List (ℕ × ℕ) → ℕ × ℕ → 𝔹
pair_follows l p = all (λ q. pair_before q p) (to_list (final l))

-- each block and each instruction was told
abbrev pub told_all : Begun → 𝔹
told_all b = eqb (length b.live) b.totals.blocks && eqb (length b.kinds) b.totals.instructions

-- may be next: the block behind those that were told, below the total
abbrev pub next_block : Begun → ℕ → 𝔹
next_block b i = eqb i (length b.live) && ltb i b.totals.blocks

-- behind the blocks: the kind of the instruction behind those that were told, below the total; the function that it names is below its total too
abbrev pub next_kind : Begun → ℕ → Kind → 𝔹
next_kind b i k = eqb (length b.live) b.totals.blocks && eqb i (length b.kinds) && ltb i b.totals.instructions && function_below b.totals.functions k

-- behind the kinds, and with no caller before it: a use above the last one, both numbers below the total, unless that is one too many
abbrev pub next_use : Begun → ℕ × ℕ → 𝔹
next_use b p =
    told_all b && eqb (length b.calls) 0 && pair_follows b.uses p && ltb p.0 b.totals.instructions && ltb p.1 b.totals.instructions && ltb (length b.uses) uses_most

-- behind the kinds and uses: a caller above the last one, both numbers below their totals
abbrev pub next_caller : Begun → ℕ × ℕ → 𝔹
next_caller b p = told_all b && pair_follows b.calls p && ltb p.0 b.totals.functions && ltb p.1 b.totals.instructions

-- an answer with one more frame, if that may be next
unfoldable pub with_frame : Begun → Frame → Option Begun
with_frame b (F.Totals t) = None
with_frame b (F.Block i t) = only_if (next_block b i.0) (record b { live = b.live ++ t ∷ [] })
with_frame b (F.Kind i t p) = only_if (next_kind b i.0 (kind_from t p)) (record b { kinds = b.kinds ++ kind_from t p ∷ [] })
with_frame b (F.Use i u) = only_if (next_use b (i.0, u.0)) (record b { uses = b.uses ++ (i.0, u.0) ∷ [] })
with_frame b (F.Caller f i) = only_if (next_caller b (f.0, i.0)) (record b { calls = b.calls ++ (f.0, i.0) ∷ [] })
with_frame b (F.Refusal n) = None

-- an answer begins with its totals, and has them once; nothing stands before or behind a refusal
abbrev pub read_frame : Progress → Frame → Option Progress
read_frame nothing (F.Totals t) = Some (begun (record { totals = t; live = []; kinds = []; uses = []; calls = [] }))
read_frame nothing (F.Block i t) = None
read_frame nothing (F.Kind i t p) = None
read_frame nothing (F.Use i u) = None
read_frame nothing (F.Caller f i) = None
read_frame nothing (F.Refusal n) = Some (lone n)
read_frame (lone n) f = None
read_frame (begun b) f = option_map begun (with_frame b f)

-- the second numbers of the pairs whose first is n
abbrev pub pair_row : ℕ → List (ℕ × ℕ) → List ℕ
pair_row n [] = []
pair_row n (p ∷ l) = cons_if (eqb p.0 n) p.1 (pair_row n l)

-- a row of n bits, set at these numbers
abbrev pub bit_row : ℕ → List ℕ → List 𝔹
bit_row n l = listed (λ k. any (eqb k) l) 0 n

-- the record that was told
unfoldable pub told_record : Begun → Record
told_record b = record {
  count = b.totals.count;
  live = b.live;
  kinds = b.kinds;
  users = listed (λ i. pair_row i b.uses) 0 b.totals.instructions;
  callers = listed (λ f. bit_row b.totals.instructions (pair_row f b.calls)) 0 b.totals.functions;
}

-- what was read, if nothing comes any more and nothing is missing
abbrev pub read_end : Progress → Option Stored
read_end nothing = None
read_end (lone n) = Some (refusal n)
read_end (begun b) = only_if (told_all b) (answer (told_record b))

abbrev pub read_rest : Progress → List Frame → Option Stored
read_rest p [] = read_end p
read_rest p (f ∷ fs) = if_some (read_frame p f) (λ q. read_rest q fs)

-- ---- reading a text

-- a value, or the number of the question that lacks it
abbrev pub or_refused : {A : Type 0} → ℕ → Option A → Answer A
or_refused n None = refused n
or_refused n (Some x) = answered x

-- what is read where reading has come to p and the text t is left; without p, behind a frame that 22 refuses. 21 is asked of all lines before 22 of any
unfoldable pub read_from : Option Progress → List ℕ → Answer Stored
read_from p t = if_answered (or_refused 21 (frames_in t)) (λ fs. or_refused 22 (if_some p (λ q. read_rest q fs)))

abbrev pub read_text : List ℕ → Answer Stored
read_text t = read_from (Some nothing) t
