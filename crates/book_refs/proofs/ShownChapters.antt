-- The dump of a chapter of a volume, whatever its keys.
use Rattle.std.proofs.Common.{◌≡◌, ◌≤◌, ◌+◌, ◌*◌, ℕ, List, [], ◌∷◌, IfSome, OnErr, OnOk, Option, Result, Some, ap, map, subst, ◌∙◌}
use Rattle.std.proofs.lemmas.Result.{on_err_weaker, on_ok_weaker}
use Rattle.std.specs.List.{AllByRecursion, slice_get}
use Rattle.node_arena.specs.Document.{IsKeyedDocument}
use Rattle.ports.specs.Grown.{grown, GrowsByFront}
use Rattle.ports.proofs.GrownLemmas.{front_same}
use Rattle.book_definitions.specs.Chapters.{Chapter, IsVolume}
use Rattle.book_definitions.specs.Fresh.{chapter_source, fresh_chapter_dump}
use Rattle.book_definitions.specs.Laws.{ChapterDumpIsThatOfTheTrees, HaveDistinctKeys}
use Rattle.book_definitions.specs.Lines.{chapter_dump}
use Rattle.book_refs.specs.ShowWork.{chapter_work}
use Rattle.book_refs.proofs.VolumeLemmas.{all_at, of_chapter}

pub keys_apart : (volume : List Chapter) → AllByRecursion (λ (chapter : Chapter). IsKeyedDocument chapter.document) volume → HaveDistinctKeys volume
keys_apart [] all = tt
keys_apart (chapter ∷ chapters) all = (all.0.distinct, keys_apart chapters all.1)

module _ (volume told : List Chapter) (place : ℕ) (own : Chapter) (same : volume ≡ told) (at : slice_get told place ≡ Some own) where
  dump_told : ChapterDumpIsThatOfTheTrees → IsVolume told → chapter_dump volume own ≡ fresh_chapter_dump (map chapter_source told) (chapter_source own)
  dump_told law is =
      ap (λ (v : List Chapter). chapter_dump v own) same
      ∙ law told own (keys_apart told is.documents) (all_at (λ (chapter : Chapter). IsKeyedDocument chapter.document) told place own at is.documents).distinct

  module _ {T E : Type 0} (r : Result T E) (law : ChapterDumpIsThatOfTheTrees) (is : IsVolume told) (before now : Option (List ℕ)) where
    pub shown : OnOk r (now ≡ grown before (chapter_dump volume own))
        → OnOk r (IfSome (slice_get told place) (λ (own : Chapter). now ≡ grown before (fresh_chapter_dump (map chapter_source told) (chapter_source own))))
    shown grew =
        on_ok_weaker r
        (λ put. of_chapter (λ (own : Chapter). now ≡ grown before (fresh_chapter_dump (map chapter_source told) (chapter_source own))) (slice_get told place) own at (put ∙ ap (grown before) (dump_told law is)))
        grew

    pub shown_in_part : OnErr r (GrowsByFront before now (chapter_dump volume own))
        → OnErr r (IfSome (slice_get told place) (λ (own : Chapter). GrowsByFront before now (fresh_chapter_dump (map chapter_source told) (chapter_source own))))
    shown_in_part grows =
        on_err_weaker r
        (λ front. of_chapter (λ (own : Chapter). GrowsByFront before now (fresh_chapter_dump (map chapter_source told) (chapter_source own))) (slice_get told place) own at (front_same (dump_told law is) front))
        grows

  pub shown_within : (old new : ℕ) → new ≤ old + 4 * chapter_work volume own → IfSome (slice_get told place) (λ (own : Chapter). new ≤ old + 4 * chapter_work told own)
  shown_within old new within =
      of_chapter (λ (own : Chapter). new ≤ old + 4 * chapter_work told own) (slice_get told place) own at (subst (λ (v : List Chapter). new ≤ old + 4 * chapter_work v own) same within)
