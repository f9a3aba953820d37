-- What is written of breaks and texts, one after the other.
use Rattle.std.proofs.Common.{◌≡◌, ℕ, List, [], ◌∷◌, ◌++◌, Option, Some, Result, Ok, Err, OnOk, OnErr, refl, sym, ap, ◌∙◌, append_assoc, append-nil, encode_utf8_all, lit<}
use Rattle.std.proofs.lemmas.Str.{encode_ascii, encodes-append}
use Rattle.generated_texts.specs.declared.entry.BoxText.{BoxText}
use Rattle.ports.specs.Grown.{grown, GrowsByFront}
use Rattle.ports.proofs.GrownLemmas.{front_after, front_more, front_same, grown_after}
use Rattle.text_view.specs.Lines.{Piece, Break, Characters, lines}
use Rattle.text_view.specs.Views.{box_pieces}
use Rattle.text_view.specs.Machinery.Writing.{behind_piece, behind_pieces, behind_text, bytes_shown, line_end, piece_shown, pieces_shown, shown}
use Rattle.text_view.specs.declared.line_state.LineState.{LineState}
use Rattle.text_view.specs.declared.line_state.LineState.TheVariants.{Start, Word, Blank}
use Rattle.text_view.proofs.ByteLaws.{behind_bytes, shown_bytes}
use Rattle.text_view.proofs.LineLaws.{written_are_lines}

pub behind_pieces-append : (state : LineState) (first second : List Piece) → behind_pieces state (first ++ second) ≡ behind_pieces (behind_pieces state first) second
behind_pieces-append state [] second = refl
behind_pieces-append state (piece ∷ first) second = behind_pieces-append (behind_piece state piece) first second

pieces_shown-append : (state : LineState) (first second : List Piece) → pieces_shown state (first ++ second) ≡ pieces_shown state first ++ pieces_shown (behind_pieces state first) second
pieces_shown-append state [] second = refl
pieces_shown-append state (piece ∷ first) second =
    ap (λ text. piece_shown state piece ++ text) (pieces_shown-append (behind_piece state piece) first second)
    ∙ sym (append_assoc (piece_shown state piece) (pieces_shown (behind_piece state piece) first) (pieces_shown (behind_pieces (behind_piece state piece) first) second))

pub bytes_shown-append : (state : LineState) (first second : List Piece) → bytes_shown state (first ++ second) ≡ bytes_shown state first ++ bytes_shown (behind_pieces state first) second
bytes_shown-append state first second =
    ap encode_utf8_all (pieces_shown-append state first second) ∙ encodes-append (pieces_shown state first) (pieces_shown (behind_pieces state first) second)

-- one text, and one break

pub text_shown : (state : LineState) (text : List ℕ) → shown state (encode_utf8_all text) ≡ bytes_shown state (Characters text ∷ [])
text_shown state text = shown_bytes state text ∙ ap encode_utf8_all (sym (append-nil (shown state text)))

pub text_behind : (state : LineState) (text : List ℕ) → behind_text state (encode_utf8_all text) ≡ behind_pieces state (Characters text ∷ [])
text_behind state text = behind_bytes state text

line_end_encodes : (state : LineState) → line_end state ≡ encode_utf8_all (line_end state)
line_end_encodes Start = refl
line_end_encodes Word = ap (λ bytes. bytes ++ []) (sym (encode_ascii 10 (lit< tt)))
line_end_encodes Blank = ap (λ bytes. bytes ++ []) (sym (encode_ascii 10 (lit< tt)))

-- all of a document, and the end of its last line
pub all_lines : (pieces : List Piece) → bytes_shown Start pieces ++ line_end (behind_pieces Start pieces) ≡ encode_utf8_all (lines pieces)
all_lines pieces =
    ap (λ bytes. bytes_shown Start pieces ++ bytes) (line_end_encodes (behind_pieces Start pieces))
    ∙ sym (encodes-append (pieces_shown Start pieces) (line_end (behind_pieces Start pieces)))
    ∙ ap encode_utf8_all (written_are_lines pieces)

-- One call after the other. Each call's state is known by an equation.
module _ (state middle : LineState) (first second : List Piece) (old before now : Option (List ℕ)) where
  pub then_written : before ≡ grown old (bytes_shown state first) → middle ≡ behind_pieces state first → now ≡ grown before (bytes_shown middle second) → now ≡ grown old (bytes_shown state (first ++ second))
  then_written wrote stands more =
      grown_after old before now (bytes_shown state first) (bytes_shown middle second) wrote more
      ∙ ap (grown old) (ap (λ s. bytes_shown state first ++ bytes_shown s second) stands ∙ sym (bytes_shown-append state first second))

  pub then_stands : (last : LineState) → middle ≡ behind_pieces state first → last ≡ behind_pieces middle second → last ≡ behind_pieces state (first ++ second)
  then_stands last stands more = more ∙ ap (λ s. behind_pieces s second) stands ∙ sym (behind_pieces-append state first second)

  pub then_stops : before ≡ grown old (bytes_shown state first) → middle ≡ behind_pieces state first → GrowsByFront before now (bytes_shown middle second) → GrowsByFront old now (bytes_shown state (first ++ second))
  then_stops wrote stands grows =
      front_after old before now (bytes_shown state first) (bytes_shown middle second) [] (bytes_shown state (first ++ second)) wrote grows
      (append-nil (bytes_shown state first ++ bytes_shown middle second) ∙ ap (λ s. bytes_shown state first ++ bytes_shown s second) stands ∙ sym (bytes_shown-append state first second))

pub stops_first : (state : LineState) (first second : List Piece) (old now : Option (List ℕ)) → GrowsByFront old now (bytes_shown state first) → GrowsByFront old now (bytes_shown state (first ++ second))
stops_first state first second old now grows =
    front_same (sym (bytes_shown-append state first second)) (front_more (bytes_shown (behind_pieces state first) second) grows)

-- the text of a box that is there
pub box_shown : (state : LineState) (box : Option BoxText) (text : BoxText) (bytes : List ℕ) → box ≡ Some text → bytes ≡ encode_utf8_all text.full → shown state bytes ≡ bytes_shown state (box_pieces box)
box_shown state box text bytes is spells = ap (shown state) spells ∙ text_shown state text.full ∙ ap (λ (o : Option BoxText). bytes_shown state (box_pieces o)) (sym is)

pub box_behind : (state : LineState) (box : Option BoxText) (text : BoxText) (bytes : List ℕ) → box ≡ Some text → bytes ≡ encode_utf8_all text.full → behind_text state bytes ≡ behind_pieces state (box_pieces box)
box_behind state box text bytes is spells = ap (behind_text state) spells ∙ text_behind state text.full ∙ ap (λ (o : Option BoxText). behind_pieces state (box_pieces o)) (sym is)

-- what holds at an answer, where something else does
pub ok_then : {T E P Q : Type 0} (result : Result T E) → (P → Q) → OnOk result P → OnOk result Q
ok_then (Ok value) more p = more p
ok_then (Err error) more p = tt

pub err_then : {T E P Q : Type 0} (result : Result T E) → (P → Q) → OnErr result P → OnErr result Q
err_then (Ok value) more p = tt
err_then (Err error) more p = more p
