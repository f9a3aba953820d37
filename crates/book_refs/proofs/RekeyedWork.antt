-- How much work it is to show a chapter whose nodes have other keys.
use Rattle.std.proofs.Common.{◌≡◌, ◌+◌, ◌∷◌, ℕ, List, [], Option, Some, None, ap, ap₂, bytes_eq, inl, inr, map, option_and_then, option_map, refl, sym, ◌∙◌}
use Rattle.std.proofs.lemmas.Bool.{cases_Bool}
use Rattle.std.proofs.lemmas.List.Sums.{sum_by-cons}
use Rattle.std.specs.List.{sum_by}
use Rattle.std.specs.Option.{option_map_or}
use Rattle.std.specs.Prelude.{find}
use Rattle.forest.specs.Forest.{Forest, Empty, Tree, weigh}
use Rattle.forest.specs.Keys.{HasDistinctKeys, Keyed}
use Rattle.plain_types.specs.declared.node.Node.{Node}
use Rattle.plain_types.specs.declared.sheet.Sheet.{Sheet}
use Rattle.content_eval.specs.declared.generated.Piece.{Piece}
use Rattle.box_eval.specs.declared.element_record.ElementRecord.{ElementRecord}
use Rattle.box_eval.specs.declared.made.Made.{Made}
use Rattle.generated_texts.specs.Documents.{document_evaluation}
use Rattle.generated_texts.specs.Keyings.{rekeyed, rekeyed_made, rekeyed_record, rekeyed_records}
use Rattle.generated_texts.specs.References.{first_holder, kept_at}
use Rattle.generated_texts.proofs.EachKeying.{each_keying}
use Rattle.generated_texts.proofs.ListLemmas.{map_map, map_or_map, map_or_same}
use Rattle.generated_texts.proofs.Rekeyed.{AreApart, tests_apart}
use Rattle.generated_texts.proofs.RekeyedTexts.{evaluation_rekeyed, kept_rekeyed, same_sheet, target_rekeyed}
use Rattle.book_definitions.specs.Aims.{Address, Aim, address, chapter_at}
use Rattle.book_definitions.specs.Chapters.{Chapter, chapter_records, chapter_sheet}
use Rattle.book_definitions.specs.Fresh.{chapter_source, numbered_chapter}
use Rattle.book_definitions.specs.Laws.{HaveDistinctKeys}
use Rattle.book_definitions.specs.Texts.{url_of}
use Rattle.book_refs.specs.Laws.{WorkIsThatOfTheTrees}
use Rattle.book_refs.specs.ShowWork.{box_work, chapter_work, element_work, piece_work, url_work, urls_at, urls_in, urls_there}

sum_same : {X : Type 0} (old new : X → ℕ) → ((x : X) → new x ≡ old x) → (xs : List X) → sum_by new xs ≡ sum_by old xs
sum_same old new same [] = refl
sum_same old new same (x ∷ xs) =
    sum_by-cons new x xs ∙ ap₂ (λ (first rest : ℕ). first + rest) (same x) (sum_same old new same xs) ∙ sym (sum_by-cons old x xs)

-- how many pieces with urls are in the boxes of the element that an id names in a chapter
abbrev urls_of : List ℕ → Chapter → ℕ
urls_of id chapter = option_map_or urls_at (option_and_then (kept_at (chapter_records chapter)) (first_holder chapter.document id)) 0

-- A chapter, and other keys for its nodes.
module _ (rekey : ℕ → ℕ) (apart : AreApart rekey) (own : Chapter) where
  -- the chapter under these
  abbrev moved : Chapter
  moved = record own { document = rekeyed rekey own.document }

  moved_records : chapter_records moved ≡ rekeyed_records rekey (chapter_records own)
  moved_records =
      ap (λ (sheet : Sheet). document_evaluation sheet (rekeyed rekey own.document)) (same_sheet rekey own.sheet own.document)
      ∙ evaluation_rekeyed rekey apart (chapter_sheet own) own.document

  box_urls : (made : Option Made) → urls_in (option_map (rekeyed_made rekey) made) ≡ urls_in made
  box_urls None = refl
  box_urls (Some made) = refl

  element_urls : (element : ElementRecord) → urls_at (rekeyed_record rekey element) ≡ urls_at element
  element_urls element =
      ap₂ (λ (first rest : ℕ). first + rest) (box_urls element.marker)
      (ap₂ (λ (first rest : ℕ). first + rest) (box_urls element.before) (box_urls element.after))

  moved_urls : (id : List ℕ) → urls_of id moved ≡ urls_of id own
  moved_urls id =
      ap (λ (records : List (ℕ × ElementRecord)). option_map_or urls_at (option_and_then (kept_at records) (first_holder (rekeyed rekey own.document) id)) 0) moved_records
      ∙ ap (λ (element : Option ElementRecord). option_map_or urls_at element 0) (target_rekeyed rekey apart [] own.document (chapter_records own) id)
      ∙ map_or_map (rekeyed_record rekey) urls_at urls_at element_urls (option_and_then (kept_at (chapter_records own)) (first_holder own.document id)) 0

  -- Where each url is as much work in another volume, so is the chapter.
  module _ (volume new_volume : List Chapter) (same : (url : List ℕ) → url_work new_volume moved url ≡ url_work volume own url) where
    same_piece : (refers : Piece) → piece_work new_volume moved refers ≡ piece_work volume own refers
    same_piece refers = map_or_same (url_work volume own) (url_work new_volume moved) same (url_of refers) 0

    same_boxes : (made : Option Made) → option_map_or (box_work new_volume moved) (option_map (rekeyed_made rekey) made) 0 ≡ option_map_or (box_work volume own) made 0
    same_boxes made =
        map_or_map (rekeyed_made rekey) (box_work volume own) (box_work new_volume moved)
        (λ (made : Made). sum_same (piece_work volume own) (piece_work new_volume moved) same_piece made.pieces) made 0

    same_element : (element : ElementRecord) → element_work new_volume moved (rekeyed_record rekey element) ≡ element_work volume own element
    same_element element =
        ap₂ (λ (first rest : ℕ). 1 + (first + rest)) (same_boxes element.marker)
        (ap₂ (λ (first rest : ℕ). first + rest) (same_boxes element.before) (same_boxes element.after))

    same_node : (key : ℕ) → option_map_or (element_work new_volume moved) (kept_at (chapter_records moved) (rekey key)) 0 ≡ option_map_or (element_work volume own) (kept_at (chapter_records own) key) 0
    same_node key =
        ap (λ (records : List (ℕ × ElementRecord)). option_map_or (element_work new_volume moved) (kept_at records (rekey key)) 0) moved_records
        ∙ ap (λ (element : Option ElementRecord). option_map_or (element_work new_volume moved) element 0) (kept_rekeyed rekey apart (rekeyed_record rekey) (chapter_records own) key)
        ∙ map_or_map (rekeyed_record rekey) (element_work volume own) (element_work new_volume moved) same_element (kept_at (chapter_records own) key) 0

    same_trees : (trees : Forest (Keyed Node))
        → weigh (λ (node : Keyed Node). option_map_or (element_work new_volume moved) (kept_at (chapter_records moved) node.key) 0) (rekeyed rekey trees)
        ≡ weigh (λ (node : Keyed Node). option_map_or (element_work volume own) (kept_at (chapter_records own) node.key) 0) trees
    same_trees Empty = refl
    same_trees (Tree node children after) =
        ap₂ (λ (first rest : ℕ). first + rest) (same_node node.key) (ap₂ (λ (first rest : ℕ). first + rest) (same_trees children) (same_trees after))

    moved_work : chapter_work new_volume moved ≡ chapter_work volume own
    moved_work = same_trees own.document

-- Each chapter is one of a document without keys, under other keys than places in tree order.

abbrev by_places : Chapter → Chapter
by_places chapter = numbered_chapter (chapter_source chapter)

from_places : (chapter : Chapter) (distinct : HasDistinctKeys chapter.document) → chapter ≡ record chapter { document = rekeyed (each_keying chapter.document distinct).0 (by_places chapter).document }
from_places chapter distinct = ap (λ (document : Forest (Keyed Node)). record chapter { document = document }) (each_keying chapter.document distinct).2

urls_by_places : (chapter : Chapter) → HasDistinctKeys chapter.document → (id : List ℕ) → urls_of id chapter ≡ urls_of id (by_places chapter)
urls_by_places chapter distinct id =
    let each = each_keying chapter.document distinct in
    ap (urls_of id) (from_places chapter distinct) ∙ moved_urls each.0 (tests_apart each.0 each.1) (by_places chapter) id

-- Urls aim by names, which stay.

urls_found : (id name : List ℕ) (volume : List Chapter) → HaveDistinctKeys volume
    → option_map_or (urls_of id) (find (λ (chapter : Chapter). bytes_eq name chapter.name) volume) 0
    ≡ option_map_or (urls_of id) (find (λ (chapter : Chapter). bytes_eq name chapter.name) (map by_places volume)) 0
urls_found id name [] distinct = refl
urls_found id name (chapter ∷ volume) distinct = elim (cases_Bool (bytes_eq name chapter.name)) [
  | inl e ↦ rw e (urls_by_places chapter distinct.0 id)
  | inr e ↦ rw e (urls_found id name volume distinct.1)
]

-- the work of a url by the chapter that it names
module _ (volume : List Chapter) (own : Chapter) where
  abbrev holder_at : Aim → Option (Chapter × ℕ)
  holder_at found = option_map {U = Chapter × ℕ} (λ key. (found.chapter, key)) (first_holder found.chapter.document found.id)

  abbrev aim_at : Address → Option Aim
  aim_at found = option_map {U = Aim} (λ (chapter : Chapter). record { chapter = chapter; id = found.id }) (chapter_at volume own found.name)

  abbrev urls_behind : Address → ℕ
  urls_behind found = option_map_or (urls_of found.id) (chapter_at volume own found.name) 0

  of_holder : (chapter : Chapter) (holder : Option ℕ)
      → option_map_or urls_there (option_map {U = Chapter × ℕ} (λ key. (chapter, key)) holder) 0 ≡ option_map_or urls_at (option_and_then (kept_at (chapter_records chapter)) holder) 0
  of_holder chapter None = refl
  of_holder chapter (Some key) = refl

  of_chapter : (id : List ℕ) (found : Option Chapter)
      → option_map_or urls_there (option_and_then holder_at (option_map {U = Aim} (λ (chapter : Chapter). record { chapter = chapter; id = id }) found)) 0 ≡ option_map_or (urls_of id) found 0
  of_chapter id None = refl
  of_chapter id (Some chapter) = of_holder chapter (first_holder chapter.document id)

  of_address : (found : Option Address) → option_map_or urls_there (option_and_then holder_at (option_and_then aim_at found)) 0 ≡ option_map_or urls_behind found 0
  of_address None = refl
  of_address (Some found) = of_chapter found.id (chapter_at volume own found.name)

  work_by_address : (url : List ℕ) → url_work volume own url ≡ 1 + option_map_or urls_behind (address url) 0
  work_by_address url = ap (λ (urls : ℕ). 1 + urls) (of_address (address url))

module _ (volume : List Chapter) (own : Chapter) (distinct : HaveDistinctKeys volume) (own_distinct : HasDistinctKeys own.document) where
  urls_at_name : (id name : List ℕ) → option_map_or (urls_of id) (chapter_at volume own name) 0 ≡ option_map_or (urls_of id) (chapter_at (map by_places volume) (by_places own) name) 0
  urls_at_name id [] = urls_by_places own own_distinct id
  urls_at_name id (first ∷ rest) = urls_found id (first ∷ rest) volume distinct

  url_by_places : (url : List ℕ) → url_work volume own url ≡ url_work (map by_places volume) (by_places own) url
  url_by_places url =
      work_by_address volume own url
      ∙ ap (λ (urls : ℕ). 1 + urls)
      (map_or_same (urls_behind (map by_places volume) (by_places own)) (urls_behind volume own) (λ (found : Address). urls_at_name found.id found.name) (address url) 0)
      ∙ sym (work_by_address (map by_places volume) (by_places own) url)

pub work_of_trees : WorkIsThatOfTheTrees
work_of_trees volume own distinct own_distinct =
    let each = each_keying own.document own_distinct in
    let same = from_places own own_distinct in
    ap (λ (chapter : Chapter). chapter_work volume chapter) same
    ∙ moved_work each.0 (tests_apart each.0 each.1) (by_places own) (map by_places volume) volume
    (λ url. ap (λ (chapter : Chapter). url_work volume chapter url) (sym same) ∙ url_by_places volume own distinct own_distinct url)
    ∙ ap (λ (chapters : List Chapter). chapter_work chapters (by_places own)) (sym (map_map chapter_source numbered_chapter volume))
