-- What the word reader gives, in the words of the rules, and the table of the words. Assumes nothing.
use Rattle.std.specs.Prelude.{Bool, cond, ◌&&◌, ◌≡◌, List, [], ◌∷◌, ℕ, ◌+◌, ◌≤◌, ◌<◌, ◌^◌, eqb, ltb, length, ℤ, pos}
use Rattle.std.specs.Prelude.{Option, Some, None, Result, Ok, Err}
use Rattle.refusals.specs.declared.Refusal.{Refusal}
use Rattle.refusals.specs.Refusals.{number_of}
use Rattle.numbers.specs.Numbers.{same_ℤ}
use Rattle.rules.specs.Actions.{Answer, answered, refused}
use Rattle.rules.specs.Lists.{bytes, same}
use Rattle.rules.specs.Words.{letter, digit, decimal, starts_by, word_at}
use Rattle.rules.specs.Words as W
use Rattle.lexer.specs.Names.{name}
use Rattle.lexer.specs.declared.Token.{Token}
use Rattle.lexer.specs.declared.Token.TheVariants as T
use Rattle.lexer.specs.declared.Word.{Word}

-- ---- tokens

-- which sort of word a token is, and what stands beside it
abbrev pub rank : Token → ℕ
rank T.EndOfText = 0
rank T.Name = 1
rank (T.Number n) = 2
rank T.Def = 3
rank T.Class = 4
rank T.End = 5
rank T.Return = 6
rank T.If = 7
rank T.Else = 8
rank T.AttrAccessor = 9
rank (T.Sign b) = 10

abbrev pub content : Token → ℤ
content (T.Number n) = n
content (T.Sign b) = pos b
content _ = pos 0

-- the two are one token
abbrev pub same_token : Token → Token → Bool
same_token a b = eqb (rank a) (rank b) && same_ℤ (content a) (content b)

-- a text, and the token of the word that has it
pub record Fixed : Type 0 where
  pub text : List ℕ
  pub token : Token

abbrev pub fixed : List ℕ → Token → Fixed
fixed t k = record { text = t; token = k }

-- the kept words
abbrev pub kept_words : List Fixed
kept_words =
    fixed (bytes "def") T.Def ∷ fixed (bytes "class") T.Class ∷ fixed (bytes "end") T.End ∷ fixed (bytes "return") T.Return ∷ fixed (bytes "if") T.If
    ∷ fixed (bytes "else") T.Else ∷ fixed (bytes "attr_accessor") T.AttrAccessor ∷ []

-- the end of text has no bytes; the token of a sign has its byte
abbrev pub signs : List Fixed
signs =
    fixed (bytes "") T.EndOfText ∷ fixed (bytes "(") (T.Sign 40) ∷ fixed (bytes ")") (T.Sign 41) ∷ fixed (bytes ",") (T.Sign 44)
    ∷ fixed (bytes "+") (T.Sign 43) ∷ fixed (bytes "-") (T.Sign 45) ∷ fixed (bytes "*") (T.Sign 42) ∷ fixed (bytes "=") (T.Sign 61)
    ∷ fixed (bytes "<") (T.Sign 60) ∷ fixed (bytes ".") (T.Sign 46) ∷ fixed (bytes ":") (T.Sign 58) ∷ fixed (bytes "@") (T.Sign 64) ∷ []

-- the token that a table has for a text, else d
abbrev pub token_in : List Fixed → List ℕ → Token → Token
token_in [] t d = d
token_in (x ∷ l) t d = cond (same t x.text) x.token (token_in l t d)

-- the token of a word that begins with a letter
abbrev pub kept_token : List ℕ → Token
kept_token t = token_in kept_words t T.Name

-- a text in neither table: a name, or the number that it writes; no word has another, and no sign has the byte 255
abbrev pub other_token : List ℕ → Token
other_token t = cond (starts_by letter t) T.Name (cond (starts_by digit t) (T.Number (pos (decimal 0 t))) (T.Sign 255))

unfoldable pub token_of : List ℕ → Token
token_of t = token_in kept_words t (token_in signs t (other_token t))

-- ---- answers

-- question 4, asked of a number
unfoldable pub fitting : ℕ → Option ℤ
fitting n = cond (ltb n (2 ^ 63)) (Some (pos n)) None

-- a test of bytes that the results of a call are
abbrev pub Passes : (ℕ → Bool) → (ℕ → Bool → Type 0) → Type 0
Passes f R = (b : ℕ) (r : Bool) → b < 2 ^ 8 → R b r → r ≡ f b

-- the text of a word, and the word as the rules have it
abbrev pub text_of : List ℕ → Word → List ℕ
text_of s w = name s w.start w.len

abbrev pub word_in : List ℕ → Word → W.Word
word_in s w = record { text = text_of s w; next = w.next }

abbrev pub answer_of : List ℕ → Result Word Refusal → Answer W.Word
answer_of s (Ok w) = answered (word_in s w)
answer_of s (Err e) = refused (number_of e)

-- a literal's value is below 2^63
abbrev pub Small : Token → Type 0
Small k = (n : ℕ) → k ≡ T.Number (pos n) → n < 2 ^ 63

-- the token of a word that was read from place `at` on, and where it ends
pub record LexerReads (s : List ℕ) (at : ℕ) (w : Word) : Type 0 where
  pub token : w.token ≡ token_of (text_of s w)
  pub small : Small w.token
  pub behind : at ≤ w.start
  pub next : w.next ≡ w.start + w.len
  pub inside : at ≤ length s → w.next ≤ length s
  pub on : (w.token ≡ T.EndOfText → ⊥) → at < w.next

abbrev pub ReadsWord : List ℕ → ℕ → Result Word Refusal → Type 0
ReadsWord s at (Ok w) = LexerReads s at w
ReadsWord s at (Err e) = Unit {0}

-- what the word reader promises: the rules' answer, and of a word what stands in it
pub record Lexes (s : List ℕ) (at : ℕ) (r : Result Word Refusal) : Type 0 where
  pub is : answer_of s r ≡ word_at s at
  pub word : ReadsWord s at r

-- what a glance tells of a word: which sign it is and where it ends, else nothing
abbrev pub sign_in : Token → ℕ → Option (ℕ × ℕ)
sign_in (T.Sign b) n = Some (b, n)
sign_in _ n = None

abbrev pub glimpse_of : Result Word Refusal → Result (Option (ℕ × ℕ)) Refusal
glimpse_of (Ok w) = Ok (sign_in w.token w.next)
glimpse_of (Err e) = Err e

pub record Glances (s : List ℕ) (at : ℕ) (r : Result (Option (ℕ × ℕ)) Refusal) : Type 0 where
  pub word : Result Word Refusal
  pub lexes : Lexes s at word
  pub is : r ≡ glimpse_of word
