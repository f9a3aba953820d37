-- How lines are written character by character: a line stands at its start, behind a word, or behind blanks after one.
use Rattle.std.specs.Prelude.{ℕ, Bool, true, cond, List, [], ◌∷◌, ◌++◌, encode_utf8_all}
use Rattle.text_view.specs.Lines.{Piece, Break, Characters, is_blank}
use Rattle.text_view.specs.declared.line_state.LineState.{LineState}
use Rattle.text_view.specs.declared.line_state.LineState.TheVariants.{Start, Word, Blank}

-- the ranges of the blanks
abbrev pub blank_ranges : List (ℕ × ℕ)
blank_ranges = (9, 10) ∷ (12, 13) ∷ (32, 32) ∷ []

-- a word ends before these characters: there are none, or the first is a blank
abbrev pub is_word_end : List ℕ → Bool
is_word_end [] = true
is_word_end (c ∷ rest) = is_blank c

-- what is written before the next word
abbrev pub space_before : LineState → List ℕ
space_before Start = []
space_before Word = []
space_before Blank = 32 ∷ []

abbrev pub behind_blank : LineState → LineState
behind_blank Start = Start
behind_blank Word = Blank
behind_blank Blank = Blank

-- where the line stands behind a character, and behind a text
abbrev pub behind : LineState → ℕ → LineState
behind state c = cond (is_blank c) (behind_blank state) Word

abbrev pub behind_text : LineState → List ℕ → LineState
behind_text state [] = state
behind_text state (c ∷ rest) = behind_text (behind state c) rest

-- what is written of a character, and of a text
abbrev pub one_shown : LineState → ℕ → List ℕ
one_shown state c = cond (is_blank c) [] (space_before state ++ c ∷ [])

abbrev pub shown : LineState → List ℕ → List ℕ
shown state [] = []
shown state (c ∷ rest) = one_shown state c ++ shown (behind state c) rest

-- what is written at a break
abbrev pub line_end : LineState → List ℕ
line_end Start = []
line_end Word = 10 ∷ []
line_end Blank = 10 ∷ []

-- where the line stands behind a break or a text, and what is written of it
abbrev pub behind_piece : LineState → Piece → LineState
behind_piece state Break = Start
behind_piece state (Characters text) = behind_text state text

abbrev pub piece_shown : LineState → Piece → List ℕ
piece_shown state Break = line_end state
piece_shown state (Characters text) = shown state text

-- and so of several
abbrev pub behind_pieces : LineState → List Piece → LineState
behind_pieces state [] = state
behind_pieces state (piece ∷ pieces) = behind_pieces (behind_piece state piece) pieces

abbrev pub pieces_shown : LineState → List Piece → List ℕ
pieces_shown state [] = []
pieces_shown state (piece ∷ pieces) = piece_shown state piece ++ pieces_shown (behind_piece state piece) pieces

abbrev pub bytes_shown : LineState → List Piece → List ℕ
bytes_shown state pieces = encode_utf8_all (pieces_shown state pieces)
