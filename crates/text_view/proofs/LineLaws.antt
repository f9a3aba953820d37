-- What is written character by character is the lines.
use Rattle.std.proofs.Common.{◌≡◌, ℕ, Bool, true, false, cond, List, [], ◌∷◌, ◌++◌, refl, sym, ap, ap₂, ◌∙◌, append_assoc, append-nil}
use Rattle.std.specs.List.{filter, flat_map, join_with_byte, onto_first, slice_split}
use Rattle.text_view.specs.Lines.{Piece, Break, Characters, between_breaks, collapsed, ended, has_some, in_front, is_blank, lines}
use Rattle.text_view.specs.Machinery.Writing.{behind_blank, behind_pieces, behind_text, line_end, pieces_shown, shown, space_before}
use Rattle.text_view.specs.declared.line_state.LineState.{LineState}
use Rattle.text_view.specs.declared.line_state.LineState.TheVariants.{Start, Word, Blank}
use Rattle.text_view.proofs.WritingLaws.{behind-append, shown-append}

-- words, each behind a space
abbrev spaced : List (List ℕ) → List ℕ
spaced parts = flat_map (λ (word : List ℕ). 32 ∷ word) (filter has_some parts)

abbrev first_of_parts : List (List ℕ) → List ℕ
first_of_parts [] = []
first_of_parts (part ∷ parts) = part

abbrev others : List (List ℕ) → List (List ℕ)
others [] = []
others (part ∷ parts) = parts

-- what is written of a text that ends the line
abbrev until_end : LineState → List ℕ → List ℕ
until_end state text = shown state text ++ line_end (behind_text state text)

joined : (word : List ℕ) (words : List (List ℕ)) → join_with_byte 32 (word ∷ words) ≡ word ++ flat_map (λ (word : List ℕ). 32 ∷ word) words
joined word [] = sym (append-nil word)
joined word (next ∷ words) = ap (λ text. word ++ 32 ∷ text) (joined next words)

-- what is written of a text whose parts between blanks are these, from each state
abbrev IsWritten : List ℕ → List ℕ → List ℕ → List (List ℕ) → Type 0
IsWritten blank word start parts =
    (blank ≡ spaced parts ++ 10 ∷ []) × (word ≡ first_of_parts parts ++ (spaced (others parts) ++ 10 ∷ [])) × (start ≡ ended (join_with_byte 32 (filter has_some parts)))

-- one character more in front
abbrev with_one : Bool → LineState → ℕ → List ℕ → List ℕ
with_one b state c text = (cond b [] (space_before state ++ c ∷ []) ++ shown (cond b (behind_blank state) Word) text) ++ line_end (behind_text (cond b (behind_blank state) Word) text)

one_more : (b : Bool) (c : ℕ) (text : List ℕ) (parts : List (List ℕ)) → IsWritten (until_end Blank text) (until_end Word text) (until_end Start text) parts
    → IsWritten (with_one b Blank c text) (with_one b Word c text) (with_one b Start c text) (cond b ([] ∷ parts) (onto_first c parts))
one_more true c text parts is = (is.0, is.0, is.2)
one_more false c text [] is = (ap (λ rest. 32 ∷ c ∷ rest) is.1, ap (λ rest. c ∷ rest) is.1, ap (λ rest. c ∷ rest) is.1)
one_more false c text (part ∷ parts) is = (
  ap (λ rest. 32 ∷ c ∷ rest) (is.1 ∙ sym (append_assoc part (spaced parts) (10 ∷ []))),
  ap (λ rest. c ∷ rest) is.1,
  ap (λ rest. c ∷ rest) (is.1 ∙ sym (append_assoc part (spaced parts) (10 ∷ []))) ∙ ap ended (sym (joined (c ∷ part) (filter has_some parts))),
)

is_written : (text : List ℕ) → IsWritten (until_end Blank text) (until_end Word text) (until_end Start text) (slice_split is_blank text)
is_written [] = (refl, refl, refl)
is_written (c ∷ text) = one_more (is_blank c) c text (slice_split is_blank text) (is_written text)

one_line : (text : List ℕ) → until_end Start text ≡ ended (collapsed text)
one_line text = (is_written text).2

-- nothing in front of a text changes no line
nothing_in_front : (texts : List (List ℕ)) → flat_map (λ text. ended (collapsed text)) (in_front [] texts) ≡ flat_map (λ text. ended (collapsed text)) texts
nothing_in_front [] = refl
nothing_in_front (text ∷ texts) = refl

in_front_of_both : (one other : List ℕ) (texts : List (List ℕ)) → in_front one (in_front other texts) ≡ in_front (one ++ other) texts
in_front_of_both one other [] = refl
in_front_of_both one other (text ∷ texts) = ap (λ first. first ∷ texts) (sym (append_assoc one other text))

-- what is written from here to the end
abbrev left_to_write : LineState → List Piece → List ℕ
left_to_write state pieces = pieces_shown state pieces ++ line_end (behind_pieces state pieces)

behind_some : (text : List ℕ) (pieces : List Piece)
    → shown Start text ++ left_to_write (behind_text Start text) pieces ≡ flat_map (λ text. ended (collapsed text)) (in_front text (between_breaks pieces))
behind_some text [] = one_line text ∙ ap (λ t. ended (collapsed t)) (sym (append-nil text)) ∙ sym (append-nil (ended (collapsed (text ++ []))))
behind_some text (Break ∷ pieces) =
    ap (λ rest. shown Start text ++ rest) (append_assoc (line_end (behind_text Start text)) (pieces_shown Start pieces) (line_end (behind_pieces Start pieces)))
    ∙ sym (append_assoc (shown Start text) (line_end (behind_text Start text)) (left_to_write Start pieces))
    ∙ ap₂ (λ line rest. line ++ rest) (one_line text ∙ ap (λ t. ended (collapsed t)) (sym (append-nil text))) (behind_some [] pieces ∙ nothing_in_front (between_breaks pieces))
behind_some text (Characters more ∷ pieces) =
    ap (λ rest. shown Start text ++ rest) (append_assoc (shown (behind_text Start text) more) (pieces_shown (behind_text (behind_text Start text) more) pieces) (line_end (behind_pieces (behind_text (behind_text Start text) more) pieces)))
    ∙ sym (append_assoc (shown Start text) (shown (behind_text Start text) more) (left_to_write (behind_text (behind_text Start text) more) pieces))
    ∙ ap₂ (λ line (s : LineState). line ++ left_to_write s pieces) (sym (shown-append Start text more)) (sym (behind-append Start text more))
    ∙ behind_some (text ++ more) pieces
    ∙ ap (flat_map (λ text. ended (collapsed text))) (sym (in_front_of_both text more (between_breaks pieces)))

pub written_are_lines : (pieces : List Piece) → pieces_shown Start pieces ++ line_end (behind_pieces Start pieces) ≡ lines pieces
written_are_lines pieces = behind_some [] pieces ∙ nothing_in_front (between_breaks pieces)
