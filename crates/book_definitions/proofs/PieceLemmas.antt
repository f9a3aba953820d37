-- Texts of boxes in a volume, piece by piece.
use Rattle.std.proofs.Common.{◌≡◌, ◌∷◌, ◌++◌, ℕ, List, [], Option, Some, None, ap, ap₂, append-nil, cond, option_and_then, option_map, refl, unwrap_or, ◌∙◌}
use Rattle.std.specs.List.{AllByRecursion}
use Rattle.std.specs.Option.{option_map_or}
use Rattle.forest.specs.Spots.{children_of}
use Rattle.plain_types.specs.declared.content.Part.{Part}
use Rattle.plain_types.specs.declared.content.Part.TheVariants as part
use Rattle.plain_types.specs.declared.counter.Counter.{Counter}
use Rattle.plain_types.specs.declared.counter_style.CounterStyle.{CounterStyle}
use Rattle.reading.specs.Punctuation.{number_sign}
use Rattle.content_eval.specs.Targets.{Known, flat_text, full_text, target_counter, target_counters, target_id}
use Rattle.content_eval.specs.declared.generated.Piece.{Piece}
use Rattle.content_eval.specs.declared.generated.Piece.TheVariants as piece
use Rattle.box_eval.specs.declared.element_record.ElementRecord.{ElementRecord}
use Rattle.box_eval.specs.declared.made.Made.{Made}
use Rattle.generated_texts.specs.References.{asked_box, characters_in, first_holder, kept_at}
use Rattle.book_definitions.specs.Aims.{Aim, aim}
use Rattle.book_definitions.specs.BoxLaws.{BoxesWithoutUrlsStandAlone, PiecesNeedOneTarget, PiecesWithoutTargetsAreEmpty, of_one_target}
use Rattle.book_definitions.specs.Chapters.{Chapter, chapter_records, chapter_styles}
use Rattle.book_definitions.specs.Texts.{flat_in_volume, full_in_volume, known_below, known_in_volume, nothing_known, url_of, with_url}

-- Pieces without urls are characters.
module _ (volume : List Chapter) (own : Chapter) (known : Known) where
  abbrev AreCharacters : List Piece → Type 0
  AreCharacters pieces = AllByRecursion (λ (refers : Piece). url_of refers ≡ None) pieces

  abbrev HasUrl : List ℕ → Type 0
  HasUrl url = Some url ≡ None

  none_has : {P : Type 0} (url : List ℕ) → HasUrl url → P
  none_has url is = absurd (cc)

  flat_characters : (pieces : List Piece) → AreCharacters pieces → flat_in_volume volume own pieces ≡ flat_text (chapter_styles own) known pieces
  flat_characters [] none = refl
  flat_characters (piece.Chars text ∷ pieces) none = ap₂ (λ (first rest : List ℕ). first ++ rest) (append-nil text) (flat_characters pieces none.1)
  flat_characters (piece.TargetCounter url name style ∷ pieces) none = none_has url none.0
  flat_characters (piece.TargetCounters url name between style ∷ pieces) none = none_has url none.0
  flat_characters (piece.TargetText url part ∷ pieces) none = none_has url none.0

  full_characters : (pieces : List Piece) → AreCharacters pieces → full_in_volume volume own pieces ≡ full_text (chapter_styles own) known pieces
  full_characters [] none = refl
  full_characters (piece.Chars text ∷ pieces) none = ap₂ (λ (first rest : List ℕ). first ++ rest) (append-nil text) (full_characters pieces none.1)
  full_characters (piece.TargetCounter url name style ∷ pieces) none = none_has url none.0
  full_characters (piece.TargetCounters url name between style ∷ pieces) none = none_has url none.0
  full_characters (piece.TargetText url part ∷ pieces) none = none_has url none.0

pub without_urls : BoxesWithoutUrlsStandAlone
without_urls volume own known made none =
    ap₂ (λ (flat full : List ℕ). record { flat = flat; full = full }) (flat_characters volume own known made.pieces none) (full_characters volume own known made.pieces none)

-- One target.

abbrev reading : (Known → List Piece → List ℕ) → (Chapter → Known) → Piece → Option Aim → List ℕ
reading text known_of refers found =
    option_map_or (λ (found : Aim). text (known_of found.chapter) (with_url (number_sign ∷ found.id) refers ∷ [])) found (text nothing_known (refers ∷ []))

one_flat : (table : List CounterStyle) (known : Known) (id : List ℕ) (refers : Piece)
    → flat_text table known (with_url (number_sign ∷ id) refers ∷ []) ≡ flat_text table (of_one_target known id) (with_url (number_sign ∷ []) refers ∷ [])
one_flat table known id (piece.Chars text) = refl
one_flat table known id (piece.TargetCounter url name style) = refl
one_flat table known id (piece.TargetCounters url name between style) = refl
one_flat table known id (piece.TargetText url part.Content) = refl
one_flat table known id (piece.TargetText url part.Before) = refl
one_flat table known id (piece.TargetText url part.After) = refl

one_full : (table : List CounterStyle) (known : Known) (id : List ℕ) (refers : Piece)
    → full_text table known (with_url (number_sign ∷ id) refers ∷ []) ≡ full_text table (of_one_target known id) (with_url (number_sign ∷ []) refers ∷ [])
one_full table known id (piece.Chars text) = refl
one_full table known id (piece.TargetCounter url name style) = refl
one_full table known id (piece.TargetCounters url name between style) = refl
one_full table known id (piece.TargetText url part.Content) = refl
one_full table known id (piece.TargetText url part.Before) = refl
one_full table known id (piece.TargetText url part.After) = refl

pub one_target : PiecesNeedOneTarget
one_target volume own refers found aims = (
  ap (reading (flat_text (chapter_styles own)) known_below refers) aims ∙ one_flat (chapter_styles own) (known_below found.chapter) found.id refers,
  ap (reading (full_text (chapter_styles own)) (known_in_volume volume) refers) aims ∙ one_full (chapter_styles own) (known_in_volume volume found.chapter) found.id refers,
)

-- No target.

-- nothing is known by an id
record Lacks (known : Known) (id : List ℕ) : Type 0 where
  counters : known.counters id ≡ None
  characters : known.characters id ≡ []
  flat : (part : Part) → known.flat id part ≡ None

module _ (table : List CounterStyle) (known : Known) (id : List ℕ) (lacks : Lacks known id) where
  lacking_flat : (refers : Piece) (url : List ℕ) → url_of refers ≡ Some url → flat_text table known (with_url (number_sign ∷ id) refers ∷ []) ≡ []
  lacking_flat (piece.Chars text) url is = absurd (let e : None ≡ Some url = is in cc)
  lacking_flat (piece.TargetCounter own name style) url is = ap (λ (set : Option (List Counter)). option_map_or (target_counter table name style) set [] ++ []) lacks.counters
  lacking_flat (piece.TargetCounters own name between style) url is = ap (λ (set : Option (List Counter)). option_map_or (target_counters table name between style) set [] ++ []) lacks.counters
  lacking_flat (piece.TargetText own part.Content) url is = ap (λ (text : List ℕ). text ++ []) lacks.characters
  lacking_flat (piece.TargetText own part.Before) url is = refl
  lacking_flat (piece.TargetText own part.After) url is = refl

  lacking_full : (refers : Piece) (url : List ℕ) → url_of refers ≡ Some url → full_text table known (with_url (number_sign ∷ id) refers ∷ []) ≡ []
  lacking_full (piece.Chars text) url is = absurd (let e : None ≡ Some url = is in cc)
  lacking_full (piece.TargetCounter own name style) url is = ap (λ (set : Option (List Counter)). option_map_or (target_counter table name style) set [] ++ []) lacks.counters
  lacking_full (piece.TargetCounters own name between style) url is = ap (λ (set : Option (List Counter)). option_map_or (target_counters table name between style) set [] ++ []) lacks.counters
  lacking_full (piece.TargetText own part.Content) url is = ap (λ (text : List ℕ). text ++ []) lacks.characters
  lacking_full (piece.TargetText own part.Before) url is = ap (λ (text : Option (List ℕ)). unwrap_or text [] ++ []) (lacks.flat part.Before)
  lacking_full (piece.TargetText own part.After) url is = ap (λ (text : Option (List ℕ)). unwrap_or text [] ++ []) (lacks.flat part.After)

-- where nothing is known at all, whatever id a url has
module _ (table : List CounterStyle) where
  id_counters : (id : Option (List ℕ)) → option_and_then nothing_known.counters id ≡ None
  id_counters None = refl
  id_counters (Some id) = refl

  id_characters : (id : Option (List ℕ)) → option_map_or nothing_known.characters id [] ≡ []
  id_characters None = refl
  id_characters (Some id) = refl

  id_flat : (asked : Part) (id : Option (List ℕ)) → option_and_then (λ id. nothing_known.flat id asked) id ≡ None
  id_flat asked None = refl
  id_flat asked (Some id) = refl

  nothing_flat : (refers : Piece) (url : List ℕ) → url_of refers ≡ Some url → flat_text table nothing_known (refers ∷ []) ≡ []
  nothing_flat (piece.Chars text) url is = absurd (let e : None ≡ Some url = is in cc)
  nothing_flat (piece.TargetCounter own name style) url is = ap (λ (set : Option (List Counter)). option_map_or (target_counter table name style) set [] ++ []) (id_counters (target_id own))
  nothing_flat (piece.TargetCounters own name between style) url is = ap (λ (set : Option (List Counter)). option_map_or (target_counters table name between style) set [] ++ []) (id_counters (target_id own))
  nothing_flat (piece.TargetText own part.Content) url is = ap (λ (text : List ℕ). text ++ []) (id_characters (target_id own))
  nothing_flat (piece.TargetText own part.Before) url is = refl
  nothing_flat (piece.TargetText own part.After) url is = refl

  nothing_full : (refers : Piece) (url : List ℕ) → url_of refers ≡ Some url → full_text table nothing_known (refers ∷ []) ≡ []
  nothing_full (piece.Chars text) url is = absurd (let e : None ≡ Some url = is in cc)
  nothing_full (piece.TargetCounter own name style) url is = ap (λ (set : Option (List Counter)). option_map_or (target_counter table name style) set [] ++ []) (id_counters (target_id own))
  nothing_full (piece.TargetCounters own name between style) url is = ap (λ (set : Option (List Counter)). option_map_or (target_counters table name between style) set [] ++ []) (id_counters (target_id own))
  nothing_full (piece.TargetText own part.Content) url is = ap (λ (text : List ℕ). text ++ []) (id_characters (target_id own))
  nothing_full (piece.TargetText own part.Before) url is = ap (λ (text : Option (List ℕ)). unwrap_or text [] ++ []) (id_flat part.Before (target_id own))
  nothing_full (piece.TargetText own part.After) url is = ap (λ (text : Option (List ℕ)). unwrap_or text [] ++ []) (id_flat part.After (target_id own))

abbrev own_counters : ElementRecord → Option (List Counter)
own_counters element = cond element.has_box (Some element.own) None

abbrev under : Chapter → ℕ → List ℕ
under chapter key = characters_in (children_of chapter.document key)

no_key : (chapter : Chapter) (key : Option ℕ) → option_map {U = Chapter × ℕ} (λ key. (chapter, key)) key ≡ None → key ≡ None
no_key chapter None none = refl
no_key chapter (Some key) none = absurd (let e : Some (chapter, key) ≡ None = none in cc)

module _ (volume : List Chapter) where
  abbrev NoHolder : Aim → Type 0
  NoHolder found = first_holder found.chapter.document found.id ≡ None

  lacks_below : (found : Aim) → NoHolder found → Lacks (known_below found.chapter) found.id
  lacks_below found none = record {
    counters = ap (λ (key : Option ℕ). option_and_then (λ (element : ElementRecord). own_counters element) (option_and_then (kept_at (chapter_records found.chapter)) key)) none;
    characters = ap (λ (key : Option ℕ). option_map_or (λ key. under found.chapter key) key []) none;
    flat = λ asked. refl;
  }

  lacks_in_volume : (found : Aim) → NoHolder found → Lacks (known_in_volume volume found.chapter) found.id
  lacks_in_volume found none = record {
    counters = (lacks_below found none).counters;
    characters = (lacks_below found none).characters;
    flat = λ asked. ap (λ (key : Option ℕ).
        option_map (λ (made : Made). flat_in_volume volume found.chapter made.pieces)
        (option_and_then (λ (element : ElementRecord). asked_box element asked) (option_and_then (kept_at (chapter_records found.chapter)) key))) none;
  }

  module _ (own : Chapter) (refers : Piece) (url : List ℕ) (has : url_of refers ≡ Some url) where
    empty_by_aim : (found : Option Aim) → option_and_then (λ (found : Aim). option_map {U = Chapter × ℕ} (λ key. (found.chapter, key)) (first_holder found.chapter.document found.id)) found ≡ None
        → (reading (flat_text (chapter_styles own)) known_below refers found ≡ []) × (reading (full_text (chapter_styles own)) (known_in_volume volume) refers found ≡ [])
    empty_by_aim None none = (nothing_flat (chapter_styles own) refers url has, nothing_full (chapter_styles own) refers url has)
    empty_by_aim (Some found) none = (
      lacking_flat (chapter_styles own) (known_below found.chapter) found.id (lacks_below found (no_key found.chapter (first_holder found.chapter.document found.id) none)) refers url has,
      lacking_full (chapter_styles own) (known_in_volume volume found.chapter) found.id (lacks_in_volume found (no_key found.chapter (first_holder found.chapter.document found.id) none)) refers url has,
    )

pub without_target : PiecesWithoutTargetsAreEmpty
without_target volume own refers url has none =
    let at : (found : Option (List ℕ)) → found ≡ Some url → option_and_then (aim volume own) found ≡ aim volume own url = (λ found is. ap (option_and_then (aim volume own)) is) in
    let empty = empty_by_aim volume own refers url has (aim volume own url) none in (
      ap (reading (flat_text (chapter_styles own)) known_below refers) (at (url_of refers) has) ∙ empty.0,
      ap (reading (full_text (chapter_styles own)) (known_in_volume volume) refers) (at (url_of refers) has) ∙ empty.1,
    )
