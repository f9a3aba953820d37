-- The turns of the code that puts the words of a text: a word, and the gap after it.
use Rattle.std.proofs.Common.{◌≡◌, ◌==◌, ◌<◌, ℕ, true, List, ◌++◌, Option, length, sym, ap, ◌∙◌, append_assoc, append-nil, arith, length-append}
use Rattle.ports.specs.Grown.{grown, GrowsByFront}
use Rattle.ports.proofs.GrownLemmas.{front_after, grown_after}
use Rattle.text_view.specs.Machinery.Writing.{behind_blank, behind_text, shown}
use Rattle.text_view.specs.declared.line_state.LineState.{LineState}
use Rattle.text_view.proofs.WritingLaws.{IsGap, after_word, behind-append, last_word, shown-append}

module _ (start state : LineState) (text front rest word after : List ℕ) (old before now : Option (List ℕ))
    (parts : front ++ rest ≡ text) (split : rest ≡ word ++ after) (stands : state ≡ behind_text start front) (went_out : before ≡ grown old (shown start front)) where
  shown_behind : shown start front ++ shown state word ≡ shown start (front ++ word)
  shown_behind = ap (λ s. shown start front ++ shown s word) stands ∙ sym (shown-append start front word)

  -- a word went out
  pub word_turn : now ≡ grown before (shown state word) → now ≡ grown old (shown start (front ++ word))
  word_turn more = grown_after old before now (shown start front) (shown state word) went_out more ∙ ap (grown old) shown_behind

  pub word_state : (reached : LineState) → reached ≡ behind_text state word → reached ≡ behind_text start (front ++ word)
  word_state reached e = e ∙ ap (λ s. behind_text s word) stands ∙ sym (behind-append start front word)

  -- a front of it went out
  pub front_turn : GrowsByFront before now (shown state word) → GrowsByFront old now (shown start text)
  front_turn grows =
      front_after old before now (shown start front) (shown state word) (shown (behind_text start (front ++ word)) after) (shown start text) went_out grows
      (ap (λ bytes. bytes ++ shown (behind_text start (front ++ word)) after) shown_behind
      ∙ sym (shown-append start (front ++ word) after)
      ∙ ap (shown start) (after_word text front rest word after parts split))

  -- it was the last
  pub last_turn : now ≡ grown before (shown state word) → (length after == 0) ≡ true → now ≡ grown old (shown start text)
  last_turn more none = word_turn more ∙ ap (λ bytes. grown old (shown start bytes)) (last_word text front rest word after parts split none)

  pub last_state : (reached : LineState) → reached ≡ behind_text state word → (length after == 0) ≡ true → reached ≡ behind_text start text
  last_state reached e none = word_state reached e ∙ ap (behind_text start) (last_word text front rest word after parts split none)

  -- a gap comes after it
  module _ (next : List ℕ) (between : IsGap after next) where
    pub gap_parts : ((front ++ word) ++ between.blanks) ++ next ≡ text
    gap_parts = append_assoc (front ++ word) between.blanks next ∙ ap (λ bytes. (front ++ word) ++ bytes) (sym between.parts) ∙ after_word text front rest word after parts split

    pub gap_state : (reached later : LineState) → reached ≡ behind_text state word → later ≡ behind_blank reached → later ≡ behind_text start ((front ++ word) ++ between.blanks)
    gap_state reached later e b =
        b ∙ ap behind_blank (word_state reached e) ∙ sym (between.ends (behind_text start (front ++ word))) ∙ sym (behind-append start (front ++ word) between.blanks)

    pub gap_turn : now ≡ grown before (shown state word) → now ≡ grown old (shown start ((front ++ word) ++ between.blanks))
    gap_turn more =
        word_turn more
        ∙ ap (grown old) (sym (append-nil (shown start (front ++ word)))
        ∙ ap (λ bytes. shown start (front ++ word) ++ bytes) (sym (between.shows (behind_text start (front ++ word))))
        ∙ sym (shown-append start (front ++ word) between.blanks))

    pub gap_smaller : length next < length rest
    gap_smaller = let long = ap length split in let both = length-append word after in omega (arith, between.some)
