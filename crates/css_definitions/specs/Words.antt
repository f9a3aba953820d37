-- Words that count in any ASCII case: CSS Values 4, 4.1, and Infra, 4.7 "ASCII case-insensitive match".
use Rattle.std.specs.Prelude.{ℕ, Bool, List}
use Rattle.std.specs.List.{list_any}
use Rattle.std.specs.Str.{str_eq_ignore_ascii_case}

-- the text is this word, in any case
abbrev pub is_word : List ℕ → List ℕ → Bool
is_word text word = str_eq_ignore_ascii_case text word

-- the text is one of these words, in any case
abbrev pub is_among : List (List ℕ) → List ℕ → Bool
is_among words text = list_any (is_word text) words
