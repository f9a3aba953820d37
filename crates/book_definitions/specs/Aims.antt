-- What urls name in a volume: CSS Generated Content 3, 2.6 "Cross references and the target-* functions", and DOM, 4.2.4
-- and 4.9. That a url gives the name of a chapter before its `#` is our own.
use Rattle.std.specs.Prelude.{ℕ, ◌==◌, List, [], ◌∷◌, Option, Some, None, cond, find, option_map}
use Rattle.std.specs.Option.{option_and_then}
use Rattle.std.specs.Str.{bytes_eq}
use Rattle.reading.specs.Punctuation.{number_sign}
use Rattle.generated_texts.specs.References.{first_holder}
use Rattle.book_definitions.specs.Chapters.{Chapter}

-- the text before the first `#` of a url, and the id behind it
pub record Address : Type 0 where
  pub name : List ℕ
  pub id : List ℕ

-- The address that a url has, as written; none without a `#`.
abbrev pub address : List ℕ → Option Address
address [] = None
address (first ∷ rest) =
    cond (first == number_sign)
    (Some (record { name = []; id = rest }))
    (option_map (λ (behind : Address). record { name = first ∷ behind.name; id = behind.id }) (address rest))

-- where a url aims: a chapter, and an id there
pub record Aim : Type 0 where
  pub chapter : Chapter
  pub id : List ℕ

module _ (volume : List Chapter) where
  -- the chapter of this name, compared as written
  abbrev pub chapter_named : List ℕ → Option Chapter
  chapter_named name = find (λ (chapter : Chapter). bytes_eq name chapter.name) volume

  module _ (own : Chapter) where
    -- the chapter that the text before a `#` names: where it is empty, the one in which the url stands
    abbrev pub chapter_at : List ℕ → Option Chapter
    chapter_at [] = Some own
    chapter_at (first ∷ rest) = chapter_named (first ∷ rest)

    -- 2.6: where a url aims, if it has a `#` and its chapter is there, whether or not an element has the id
    abbrev pub aim : List ℕ → Option Aim
    aim url =
        option_and_then (λ (found : Address). option_map (λ (chapter : Chapter). record { chapter = chapter; id = found.id }) (chapter_at found.name))
        (address url)

    -- the element at which a url aims, by its chapter and its key there: the first of the id in tree order
    abbrev pub target : List ℕ → Option (Chapter × ℕ)
    target url = option_and_then (λ (found : Aim). option_map (λ key. (found.chapter, key)) (first_holder found.chapter.document found.id)) (aim url)
