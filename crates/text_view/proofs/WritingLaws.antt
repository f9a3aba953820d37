-- What is written of texts, one after the other.
use Rattle.std.proofs.Common.{◌≡◌, ◌==◌, ◌-◌, ℕ, true, false, cond, List, [], ◌∷◌, ◌++◌, length, take, drop, refl, sym, ap, ap₂, ◌∙◌, append_assoc, append-nil, arith, length-append, ◌<◌}
use Rattle.std.specs.List.{list_all, list_any}
use Rattle.std.proofs.lemmas.List.{take_rest}
use Rattle.std.proofs.lemmas.Bool.{and_parts, eqb-true, or_parts}
use Rattle.text_view.specs.Lines.{is_blank}
use Rattle.text_view.specs.Machinery.Writing.{behind, behind_blank, behind_text, is_word_end, one_shown, shown, space_before}
use Rattle.text_view.specs.declared.line_state.LineState.{LineState}
use Rattle.text_view.specs.declared.line_state.LineState.TheVariants.{Start, Word, Blank}

pub behind-append : (state : LineState) (first second : List ℕ) → behind_text state (first ++ second) ≡ behind_text (behind_text state first) second
behind-append state [] second = refl
behind-append state (c ∷ first) second = behind-append (behind state c) first second

pub shown-append : (state : LineState) (first second : List ℕ) → shown state (first ++ second) ≡ shown state first ++ shown (behind_text state first) second
shown-append state [] second = refl
shown-append state (c ∷ first) second =
    ap (λ text. one_shown state c ++ text) (shown-append (behind state c) first second)
    ∙ sym (append_assoc (one_shown state c) (shown (behind state c) first) (shown (behind_text (behind state c) first) second))

-- a word

one_solid : (state : LineState) (c : ℕ) → is_blank c ≡ false → (behind state c ≡ Word) × (one_shown state c ≡ space_before state ++ c ∷ [])
one_solid state c solid = (ap (λ b. cond b (behind_blank state) Word) solid, ap (λ b. cond b [] (space_before state ++ c ∷ [])) solid)

goes_on : (word : List ℕ) → list_any is_blank word ≡ false → (shown Word word ≡ word) × (behind_text Word word ≡ Word)
goes_on [] solid = (refl, refl)
goes_on (c ∷ word) solid =
    let parts = or_parts (is_blank c) (list_any is_blank word) solid in
    let here = one_solid Word c parts.0 in
    let rest = goes_on word parts.1 in
    (ap₂ (λ first (s : LineState). first ++ shown s word) here.1 here.0 ∙ ap (λ text. c ∷ text) rest.0, ap (λ s. behind_text s word) here.0 ∙ rest.1)

pub word_shown : (state : LineState) (c : ℕ) (word : List ℕ) → list_any is_blank (c ∷ word) ≡ false → shown state (c ∷ word) ≡ space_before state ++ c ∷ word
word_shown state c word solid =
    let parts = or_parts (is_blank c) (list_any is_blank word) solid in
    let here = one_solid state c parts.0 in
    ap₂ (λ first (s : LineState). first ++ shown s word) here.1 here.0
    ∙ ap (λ text. (space_before state ++ c ∷ []) ++ text) (goes_on word parts.1).0
    ∙ append_assoc (space_before state) (c ∷ []) word

pub behind_word : (state : LineState) (c : ℕ) (word : List ℕ) → list_any is_blank (c ∷ word) ≡ false → behind_text state (c ∷ word) ≡ Word
behind_word state c word solid =
    let parts = or_parts (is_blank c) (list_any is_blank word) solid in
    ap (λ s. behind_text s word) (one_solid state c parts.0).0 ∙ (goes_on word parts.1).1

-- blanks

one_blank : (state : LineState) (c : ℕ) → is_blank c ≡ true → (behind state c ≡ behind_blank state) × (one_shown state c ≡ [])
one_blank state c blank = (ap (λ b. cond b (behind_blank state) Word) blank, ap (λ b. cond b [] (space_before state ++ c ∷ [])) blank)

again : (state : LineState) → behind_blank (behind_blank state) ≡ behind_blank state
again Start = refl
again Word = refl
again Blank = refl

stay : (state : LineState) (blanks : List ℕ) → behind_blank state ≡ state → list_all is_blank blanks ≡ true → (shown state blanks ≡ []) × (behind_text state blanks ≡ state)
stay state [] same all = (refl, refl)
stay state (c ∷ blanks) same all =
    let parts = and_parts (is_blank c) (list_all is_blank blanks) all in
    let here = one_blank state c parts.0 in
    let next : behind state c ≡ state = here.0 ∙ same in
    let rest = stay state blanks same parts.1 in
    (ap₂ (λ first (s : LineState). first ++ shown s blanks) here.1 next ∙ rest.0, ap (λ s. behind_text s blanks) next ∙ rest.1)

pub blanks_shown : (state : LineState) (c : ℕ) (blanks : List ℕ) → is_blank c ≡ true → list_all is_blank blanks ≡ true
    → (shown state (c ∷ blanks) ≡ []) × (behind_text state (c ∷ blanks) ≡ behind_blank state)
blanks_shown state c blanks blank all =
    let here = one_blank state c blank in
    let rest = stay (behind_blank state) blanks (again state) all in
    (ap₂ (λ first (s : LineState). first ++ shown s blanks) here.1 here.0 ∙ rest.0, ap (λ s. behind_text s blanks) here.0 ∙ rest.1)

-- The turns of the code.

pub word_parts : (state : LineState) (word : List ℕ) → (length word == 0) ≡ false → list_any is_blank word ≡ false
    → (space_before state ++ word ≡ shown state word) × (Word ≡ behind_text state word)
word_parts state [] some solid = absurd (cc some)
word_parts state (c ∷ word) some solid = (sym (word_shown state c word solid), sym (behind_word state c word solid))

pub no_word : (state : LineState) (word : List ℕ) → (length word == 0) ≡ true → (shown state word ≡ []) × (state ≡ behind_text state word)
no_word state [] none = (refl, refl)
no_word state (c ∷ word) none = let long = eqb-true (length (c ∷ word)) 0 none in absurd (omega arith)

pub is_nothing : (bytes : List ℕ) → (length bytes == 0) ≡ true → bytes ≡ []
is_nothing [] none = refl
is_nothing (c ∷ bytes) none = let long = eqb-true (length (c ∷ bytes)) 0 none in absurd (omega arith)

pub after_word : (text front rest word after : List ℕ) → front ++ rest ≡ text → rest ≡ word ++ after → (front ++ word) ++ after ≡ text
after_word text front rest word after parts split = append_assoc front word after ∙ ap (λ bytes. front ++ bytes) (sym split) ∙ parts

-- the last word
pub last_word : (text front rest word after : List ℕ) → front ++ rest ≡ text → rest ≡ word ++ after → (length after == 0) ≡ true → front ++ word ≡ text
last_word text front rest word after parts split none =
    sym (append-nil (front ++ word)) ∙ ap (λ bytes. (front ++ word) ++ bytes) (sym (is_nothing after none)) ∙ after_word text front rest word after parts split

-- what stands between one word and what comes next is blank
pub record IsGap (after next : List ℕ) : Type 0 where
  pub blanks : List ℕ
  pub parts : after ≡ blanks ++ next
  pub shows : (state : LineState) → shown state blanks ≡ []
  pub ends : (state : LineState) → behind_text state blanks ≡ behind_blank state
  pub some : length next < length after

pub gap : (after blanks next : List ℕ) → (length after == 0) ≡ false → is_word_end after ≡ true
    → take (length after - 1) (drop 1 after) ≡ blanks ++ next → list_all is_blank blanks ≡ true → IsGap after next
gap [] blanks next some begins split all = absurd (cc some)
gap (c ∷ rest) blanks next some begins split all =
    let is : rest ≡ blanks ++ next = sym (take_rest (c ∷ rest) 1) ∙ split in
    record {
      blanks = c ∷ blanks;
      parts = ap (λ bytes. c ∷ bytes) is;
      shows = λ state. (blanks_shown state c blanks begins all).0;
      ends = λ state. (blanks_shown state c blanks begins all).1;
      some = let long = ap length is in let both = length-append blanks next in omega arith;
    }
