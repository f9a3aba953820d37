-- Looking for a name among words, one after the other.
use Rattle.std.proofs.Common.{◌≡◌, ℕ, ◌+◌, ◌<◌, Bool, true, false, List, ◌∷◌, length, map, drop, get_or, IsTrue, add-one, refl, sym, ◌∙◌}
use Rattle.std.specs.Borrow.{Bor}
use Rattle.std.specs.List.{list_all}
use Rattle.std.proofs.Math.Seq.{drop-cons}
use Rattle.std.proofs.lemmas.Bool.{and_parts}
use Rattle.css_definitions.specs.Words.{is_word, is_among}
use Rattle.reading.specs.Characters.{is_ascii}

abbrev are_ascii : List (Bor (List ℕ)) → Bool
are_ascii words = list_all (λ (word : Bor (List ℕ)). is_ascii word.now) words

abbrev known : List (Bor (List ℕ)) → List ℕ → Bool
known words name = is_among (map (λ (word : Bor (List ℕ)). word.now) words) name

module _ (words : List (Bor (List ℕ))) (i : ℕ) (default : Bor (List ℕ)) (within : i < length words) where
  parts : drop i words ≡ get_or words i default ∷ drop (i + 1) words
  parts = rw add-one (drop-cons words i default within)

  pub ascii_here : IsTrue (are_ascii (drop i words)) → IsTrue (is_ascii (get_or words i default).now) × IsTrue (are_ascii (drop (i + 1) words))
  ascii_here all = and_parts (is_ascii (get_or words i default).now) (are_ascii (drop (i + 1) words)) (rw parts at all)

  pub found_here : (name : List ℕ) → known words name ≡ known (drop i words) name → is_word name (get_or words i default).now ≡ true → true ≡ known words name
  found_here name same found = sym (same ∙ rw (parts, found) refl)

  pub not_here : (name : List ℕ) → known words name ≡ known (drop i words) name → is_word name (get_or words i default).now ≡ false → known words name ≡ known (drop (i + 1) words) name
  not_here name same missed = same ∙ rw (parts, missed) refl
