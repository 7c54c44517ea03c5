-- The answer part is laid out as published. Assumes nothing.
use mathlib.Core.Path.{◌≡◌, refl}
use mathlib.Core.List.{[], ◌∷◌}
use Rattle.rules.specs.Lists.{bytes}
use Rattle.rules.specs.Program.{limits}
use Rattle.rules.specs.Frames.{analyze}
use Rattle.rules.specs.Opened.{opened}
use Rattle.memory.specs.Memory.{zeros, filled}
use Rattle.memory.specs.Layout.{row_words}
use Rattle.answer.specs.Layout.{live_at, tags_at, payloads_at, starts_at, users_at, callers_at, answer_length}
use Rattle.answer.specs.Image.{starts_from, word_of, words_of, image_of}
use Rattle.answer.specs.Published.{published, answer_words, listing, ration}

pub places : published
    ≡ ("LIVE", live_at) ∷ ("TAGS", tags_at) ∷ ("PAYLOADS", payloads_at) ∷ ("STARTS", starts_at)
    ∷ ("USERS", users_at) ∷ ("CALLERS", callers_at) ∷ ("ROW_WORDS", row_words) ∷ ("ANSWER_WORDS", answer_length) ∷ []
places = refl

pub listing-words : answer_words (analyze limits (bytes "def main() return 1+2 end")) ≡ (22788, listing)
unfolding opened zeros filled starts_from word_of words_of image_of
listing-words = refl

pub ration-words :
    answer_words
    (analyze limits (bytes
    "class Cow attr_accessor :fresh def initialize(fresh) @fresh = fresh end end def ration(cow) if cow.fresh return 9 else return 4 end end def main() return ration(Cow.new(true)) end"))
    ≡ (22788, ration)
unfolding opened zeros filled starts_from word_of words_of image_of
ration-words = refl
