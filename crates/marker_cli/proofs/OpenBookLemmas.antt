-- A volume that is open at one of its chapters, and what its calls make of it.
use Rattle.std.proofs.Common.{◌≡◌, ℕ, zero, suc, ◌<◌, ◌≤◌, ◌+◌, ◌*◌, Bool, true, false, if◌then◌else◌, List, [], ◌∷◌, ◌++◌, length, map, take, drop, get_or, set, Option, Result, option_map, slice_get, unwrap_or, refl, sym, ap, subst, ◌∙◌, arith}
use Rattle.std.specs.Prelude.{Some, None, Ok, Err, IfErr, IfOk, IfSome, OnErr, OnOk}
use Rattle.std.specs.List.{AllByRecursion, position, position_or_len}
use Rattle.std.specs.Str.{bytes_eq}
use Rattle.std.proofs.lemmas.Grind.{common_steps}
use Rattle.std.proofs.lemmas.List.{drop-set-lt, get_or-map, get_or-set_same, length-map, length-set, map-set, take-set}
use Rattle.std.proofs.lemmas.List.Quantifiers.{position-Some}
use Rattle.std.proofs.lemmas.List.Sums.{fails_before_first}
use Rattle.std.proofs.lemmas.Option.{get_or_from_slice_get, slice_get-get_or}
use Rattle.book_definitions.specs.Chapters.{Chapter, IsVolume}
use Rattle.book_definitions.specs.Fresh.{ChapterSource, chapter_source, fresh_chapter_dump}
use Rattle.book_definitions.specs.Laws.{HaveDistinctKeys}
use Rattle.book_refs.specs.declared.chapter.Chapter.{Chapter as Given}
use Rattle.book_refs.specs.Edited.{IsEditedAt, IsEditedChapter}
use Rattle.book_refs.specs.Given.{given_source}
use Rattle.book_refs.specs.Laws.{WorkIsThatOfTheTrees}
use Rattle.book_refs.specs.ShowWork.{chapter_work, fresh_chapter_work}
use Rattle.book_refs.specs.Volumes.{keyed_source, place_named, source_of}
use Rattle.dirty_walk.specs.WorkBounds.{IsWithinWork, StopsWithinWork}
use Rattle.document_walk.specs.Elements.{element_count}
use Rattle.edit_merge.specs.Laws.{InsertsOneTree}
use Rattle.forest.specs.Keys.{HasDistinctKeys, without_keys}
use Rattle.marker_engine.specs.Edited.{edit_fault, edited as edited_source}
use Rattle.marker_engine.specs.Engines.{Source}
use Rattle.marker_engine.specs.declared.edit_fault.EditFault.{EditFault}
use Rattle.marker_engine.specs.declared.edit_fault.EditFault.TheVariants as edit_faults
use Rattle.node_arena.specs.Document.{IsKeyedDocument}
use Rattle.node_arena.specs.Edits as edits
use Rattle.node_arena.specs.Edits.{IsEdited, place_fault}
use Rattle.node_arena.specs.declared.place_fault.PlaceFault.{PlaceFault}
use Rattle.plain_types.specs.declared.edit.Edit.{Edit}
use Rattle.marker_cli.specs.declared.status.Status.{Status}
use Rattle.marker_cli.specs.BookSteps.{show_chapter_steps}
use Rattle.marker_cli.specs.EditSteps.{edit_steps}
use Rattle.marker_cli.specs.Machinery.Takings.{TakesEdit}
use Rattle.marker_cli.specs.OpenBooks.{OpenBook, edited_book, edited_chapter, entered, opened, opened_at, version_in, volume_of}
use Rattle.marker_cli.specs.OpenVolumes.{OpenVolume, no_chapter, no_keyed_chapter, open_at, present_chapter, present_document, turned_to, with_document}
use Rattle.marker_cli.proofs.EditorLemmas.{placed_none}
use Rattle.marker_cli.proofs.StepLemmas.{placed_by}
use Rattle.marker_cli.proofs.TakenLemmas.{engine_took}

-- At the start.

abbrev accepted : OpenBook → Result OpenBook Status
accepted book = Ok book

opened_first : (chapters : List ChapterSource) → 0 < length chapters → opened chapters ≡ accepted (open_at chapters 0)
opened_first [] some = absurd (omega arith)
opened_first (first ∷ rest) some = refl

given_many : (given : List Given) → length (map given_source given) ≡ length given
given_many given = length-map given given_source

volume_many : (volume : List Chapter) → length (map chapter_source volume) ≡ length volume
volume_many volume = length-map volume chapter_source

module _ (given : List Given) (volume : List Chapter) (some : 0 < length given) (same : map chapter_source volume ≡ map given_source given) where
  pub opened_so : opened (map given_source given) ≡ accepted (open_at (map chapter_source volume) 0)
  opened_so =
      let many = given_many given in
      opened_first (map given_source given) (omega (arith, many, some)) ∙ ap (λ (chapters : List ChapterSource). accepted (open_at chapters 0)) (sym same)

  pub opened_within : 0 < length volume
  opened_within =
      let many = given_many given in
      let there = volume_many volume in
      let equal = ap (λ (chapters : List ChapterSource). length chapters) same in
      omega (arith, many, there, equal, some)

-- All its chapters.

whole_by : (chapters : List ChapterSource) (place : ℕ) → place < length chapters → volume_of (open_at chapters place) ≡ chapters
whole_by [] place within = absurd (omega arith)
whole_by (first ∷ rest) zero within = refl
whole_by (first ∷ rest) (suc place) within = ap (λ (chapters : List ChapterSource). first ∷ chapters) (whole_by rest place (omega (arith, within)))

-- What an edit's place says of what a volume does.

abbrev after : Edit → Source → Source
after edit source = record { tree = edits.edited edit source.tree; sheet = edits.edited_sheet edit source.sheet }

refused_by : (P : PlaceFault → Type 0) (place : Option PlaceFault) (source : Source) → IfErr (elim place [ None ↦ Ok source | Some fault ↦ Err fault ]) P → IfSome place P
refused_by P None source refused = tt
refused_by P (Some fault) source refused = refused

memory_by : (P : Type 0) (place : Option PlaceFault) (source : Source) → IfOk (elim place [ None ↦ Ok source | Some fault ↦ Err fault ]) (λ _. P) → place ≡ None → P
memory_by P None source memory none = memory
memory_by P (Some fault) source memory none = absurd (cc none)

module _ (edit : Edit) (old new : Chapter) where
  placed : edited_source (source_of old) edit ≡ Ok (source_of new) → place_fault edit (without_keys old.document) ≡ None
  placed is = (placed_none (place_fault edit (without_keys old.document)) (after edit (source_of old)) (source_of new) is).0

  chapter_edited : IsEditedChapter edit old new → chapter_source new ≡ edited_chapter edit (chapter_source old)
  chapter_edited is =
      let same : source_of new ≡ after edit (source_of old) =
      sym (placed_none (place_fault edit (without_keys old.document)) (after edit (source_of old)) (source_of new) is.source).1 in
      λ i. record { name = is.name i; tree = (same i).tree; sheet = (same i).sheet }

-- The keys of a volume.

keys_apart : (volume : List Chapter) → AllByRecursion (λ (chapter : Chapter). IsKeyedDocument chapter.document) volume → HaveDistinctKeys volume
keys_apart [] all = tt
keys_apart (chapter ∷ chapters) all = (all.0.distinct, keys_apart chapters all.1)

-- The present chapter, with its keys.

abbrev present_in : List Chapter → ℕ → Chapter
present_in volume place = present_chapter (record { chapters = volume; place = place })

keyed_at : (volume : List Chapter) (place : ℕ) → place < length volume → AllByRecursion (λ (chapter : Chapter). IsKeyedDocument chapter.document) volume
    → IsKeyedDocument (present_in volume place).document
keyed_at [] place within all = absurd (omega arith)
keyed_at (chapter ∷ chapters) zero within all = all.0
keyed_at (chapter ∷ chapters) (suc place) within all = keyed_at chapters place (omega (arith, within)) all.1

module _ (volume : List Chapter) (place : ℕ) (within : place < length volume) where
  present_is : (open_at (map chapter_source volume) place).present ≡ chapter_source (present_in volume place)
  present_is = get_or-map chapter_source volume place no_keyed_chapter no_chapter within

  whole : volume_of (open_at (map chapter_source volume) place) ≡ map chapter_source volume
  whole = let many = volume_many volume in whole_by (map chapter_source volume) place (omega (arith, many, within))

  at_present : (holds : Chapter → Type 0) → IfSome (slice_get volume place) holds → holds (present_in volume place)
  at_present holds is = subst (λ (chapter : Option Chapter). IfSome chapter holds) (slice_get-get_or volume place no_keyed_chapter within) is

  -- Edits.
  module _ (edit : Edit) where
    pub edit_placed : (new : List Chapter) → IsEditedAt place edit volume new → place_fault edit (open_at (map chapter_source volume) place).present.tree ≡ None
    edit_placed new is =
        subst (λ (chapter : ChapterSource). place_fault edit chapter.tree ≡ None)
        (sym (present_is ∙ ap chapter_source (get_or_from_slice_get volume place is.before no_keyed_chapter is.was)))
        (placed edit is.before is.after is.chapter.source)

    pub edit_done : (new : List Chapter) → IsEditedAt place edit volume new → open_at (map chapter_source new) place ≡ edited_book edit (open_at (map chapter_source volume) place)
    edit_done new is =
        let many = volume_many volume in
        let chapters : List ChapterSource = map chapter_source volume in
        let chapter : ChapterSource = chapter_source is.after in
        let here : place < length chapters = omega (arith, many, within) in
        let was : chapter_source is.before ≡ get_or chapters place no_chapter =
        sym (present_is ∙ ap chapter_source (get_or_from_slice_get volume place is.before no_keyed_chapter is.was)) in
        let edited_is : get_or (set chapters place chapter) place no_chapter ≡ edited_chapter edit (get_or chapters place no_chapter) =
        get_or-set_same chapters place chapter no_chapter here ∙ chapter_edited edit is.before is.after is.chapter ∙ ap (edited_chapter edit) was in
        ap (λ (chapters : List Chapter). open_at (map chapter_source chapters) place) is.is
        ∙ ap (λ (chapters : List ChapterSource). open_at chapters place) (map-set chapter_source volume place is.after)
        ∙ (λ i. record {
          before = take-set chapters place chapter i;
          present = edited_is i;
          after = drop-set-lt (suc place) chapters place chapter (omega arith) i;
        })

    -- The chapter that is there then, with its keys. The others stay with theirs.
    module _ (new : List Chapter) (is : IsEditedAt place edit volume new) where
      was_there : present_in volume place ≡ is.before
      was_there = get_or_from_slice_get volume place is.before no_keyed_chapter is.was

      is_there : present_in new place ≡ is.after
      is_there = ap (λ (chapters : List Chapter). get_or chapters place no_keyed_chapter) is.is ∙ get_or-set_same volume place is.after no_keyed_chapter within

      still_there : place < length new
      still_there =
          let many = ap (λ (chapters : List Chapter). length chapters) is.is in
          let same = length-set volume place is.after in
          omega (arith, within, many, same)

      pub edit_left : ◌≡◌ {A = OpenVolume} (record { chapters = new; place = place })
          (with_document (record { chapters = volume; place = place }) (present_document (record { chapters = new; place = place })))
      edit_left =
          let chapter : is.after ≡ record { name = (present_in volume place).name; document = (present_in new place).document; sheet = (present_in new place).sheet } =
          (λ i. record { name = (is.chapter.name ∙ ap (λ (c : Chapter). c.name) (sym was_there)) i; document = (sym is_there i).document; sheet = (sym is_there i).sheet }) in
          let chapters = is.is ∙ ap (set volume place) chapter in
          (λ i. record { chapters = chapters i; place = place })

      present_keyed : IsEdited edit (present_in volume place).document (present_in new place).document
      present_keyed = subst (λ (c : Chapter). IsEdited edit c.document (present_in new place).document) (sym was_there) (subst (λ (c : Chapter). IsEdited edit is.before.document c.document) (sym is_there) is.chapter.keys)

      present_source : edited_source (source_of (present_in volume place)) edit ≡ Ok (source_of (present_in new place))
      present_source =
          subst (λ (c : Chapter). edited_source (source_of c) edit ≡ Ok (source_of (present_in new place))) (sym was_there)
          (subst (λ (c : Chapter). edited_source (source_of is.before) edit ≡ Ok (source_of c)) (sym is_there) is.chapter.source)

    module _ (result : Result (Unit {0}) EditFault) where
      pub edit_refused : IfSome (slice_get volume place) (λ chapter. IfErr (edited_source (source_of chapter) edit) (λ fault. result ≡ Err (edit_fault fault)))
          → IfSome (place_fault edit (open_at (map chapter_source volume) place).present.tree) (λ fault. result ≡ Err (edit_fault fault))
      edit_refused is =
          subst (λ (chapter : ChapterSource). IfSome (place_fault edit chapter.tree) (λ fault. result ≡ Err (edit_fault fault))) (sym present_is)
          (refused_by (λ fault. result ≡ Err (edit_fault fault)) (place_fault edit (chapter_source (present_in volume place)).tree)
          (after edit (source_of (present_in volume place)))
          (at_present (λ chapter. IfErr (edited_source (source_of chapter) edit) (λ fault. result ≡ Err (edit_fault fault))) is))

      pub edit_unmade : IfSome (slice_get volume place) (λ chapter. IfOk (edited_source (source_of chapter) edit) (λ _. IfErr result (λ fault. fault ≡ edit_faults.Memory)))
          → place_fault edit (open_at (map chapter_source volume) place).present.tree ≡ None → IfErr result (λ fault. fault ≡ edit_faults.Memory)
      edit_unmade is =
          subst (λ (chapter : ChapterSource). place_fault edit chapter.tree ≡ None → IfErr result (λ fault. fault ≡ edit_faults.Memory)) (sym present_is)
          (memory_by (IfErr result (λ fault. fault ≡ edit_faults.Memory)) (place_fault edit (chapter_source (present_in volume place)).tree)
          (after edit (source_of (present_in volume place)))
          (at_present (λ chapter. IfOk (edited_source (source_of chapter) edit) (λ _. IfErr result (λ fault. fault ≡ edit_faults.Memory))) is))

    pub edit_within : (low high : ℕ)
        → IfSome (slice_get volume place) (λ chapter. IfOk (edited_source (source_of chapter) edit) (λ source. low ≤ high + (12 * element_count source.tree + 2 * element_count (source_of chapter).tree)))
        → IfSome (slice_get volume place) (λ chapter. IfErr (edited_source (source_of chapter) edit) (λ _. low ≡ high))
        → low ≤ high + edit_steps (version_in (open_at (map chapter_source volume) place).present) edit
    edit_within low high most none =
        let own = present_in volume place in
        subst (λ (chapter : ChapterSource). low ≤ high + edit_steps (version_in chapter) edit) (sym present_is)
        (placed_by (version_in (chapter_source own)) edit (after edit (source_of own)) (place_fault edit (chapter_source own).tree) low high refl
        (at_present (λ chapter. IfOk (edited_source (source_of chapter) edit) (λ source. low ≤ high + (12 * element_count source.tree + 2 * element_count (source_of chapter).tree))) most)
        (at_present (λ chapter. IfErr (edited_source (source_of chapter) edit) (λ _. low ≡ high)) none))

    pub chapter_took : (result : Result (Unit {0}) EditFault) (new : List Chapter) (low high : ℕ) → IsVolume volume → IsVolume new → InsertsOneTree edit → OnOk result (IsEditedAt place edit volume new)
        → OnOk result (IfSome (slice_get volume place) (λ before. IfSome (slice_get new place) (λ after. IsWithinWork edit (keyed_source before) (keyed_source after) high low)))
        → OnErr result (IfSome (slice_get volume place) (λ before. StopsWithinWork edit (keyed_source before) high low))
        → low ≤ high + edit_steps (version_in (open_at (map chapter_source volume) place).present) edit → OnErr result (new ≡ volume)
        → TakesEdit result edit (keyed_source (present_in volume place)) (keyed_source (present_in new place)) high low
    chapter_took (Ok value) new low high old_volume new_volume one is paid stops most same =
        engine_took (Ok value) edit (keyed_source (present_in volume place)) (keyed_source (present_in new place)) high low (keyed_at volume place within old_volume.documents)
        (keyed_at new place (still_there new is) new_volume.documents) one (present_source new is) (present_keyed new is)
        (subst (λ (c : Option Chapter). IfSome c (λ after. IsWithinWork edit (keyed_source (present_in volume place)) (keyed_source after) high low))
        (slice_get-get_or new place no_keyed_chapter (still_there new is))
        (at_present (λ before. IfSome (slice_get new place) (λ after. IsWithinWork edit (keyed_source before) (keyed_source after) high low)) paid))
        tt (subst (λ (chapter : ChapterSource). low ≤ high + edit_steps (version_in chapter) edit) present_is most) tt
    chapter_took (Err fault) new low high old_volume new_volume one is paid stops most same =
        engine_took (Err fault) edit (keyed_source (present_in volume place)) (keyed_source (present_in new place)) high low (keyed_at volume place within old_volume.documents)
        (subst (λ (chapters : List Chapter). IsKeyedDocument (present_in chapters place).document) (sym same) (keyed_at volume place within old_volume.documents)) one tt tt tt
        (at_present (λ before. StopsWithinWork edit (keyed_source before) high low) stops)
        (subst (λ (chapter : ChapterSource). low ≤ high + edit_steps (version_in chapter) edit) present_is most)
        (ap (λ (chapters : List Chapter). keyed_source (present_in chapters place)) same)

  -- What is shown.

  dump_is : fresh_chapter_dump (map chapter_source volume) (chapter_source (present_in volume place))
      ≡ fresh_chapter_dump (volume_of (open_at (map chapter_source volume) place)) (open_at (map chapter_source volume) place).present
  dump_is = λ i. fresh_chapter_dump (sym whole i) (sym present_is i)

  pub shown_so : (holds : List ℕ → Type 0) → IfSome (slice_get volume place) (λ own. holds (fresh_chapter_dump (map chapter_source volume) (chapter_source own)))
      → holds (fresh_chapter_dump (volume_of (open_at (map chapter_source volume) place)) (open_at (map chapter_source volume) place).present)
  shown_so holds is = subst holds dump_is (at_present (λ own. holds (fresh_chapter_dump (map chapter_source volume) (chapter_source own))) is)

  pub shown_within : WorkIsThatOfTheTrees → IsVolume volume → (low high : ℕ) → IfSome (slice_get volume place) (λ own. low ≤ high + 4 * chapter_work volume own)
      → low ≤ high + show_chapter_steps (open_at (map chapter_source volume) place)
  shown_within law is low high within_work =
      let own = present_in volume place in
      let same : chapter_work volume own ≡ fresh_chapter_work (volume_of (open_at (map chapter_source volume) place)) (open_at (map chapter_source volume) place).present =
      law volume own (keys_apart volume is.documents) (keyed_at volume place within is.documents).distinct ∙ (λ i. fresh_chapter_work (sym whole i) (sym present_is i)) in
      let spent : low ≤ high + 4 * chapter_work volume own = at_present (λ own. low ≤ high + 4 * chapter_work volume own) within_work in
      subst (λ (work : ℕ). low ≤ high + 4 * work) same spent

-- The chapter of a name.

abbrev is_named : List ℕ → Chapter → Bool
is_named name chapter = bytes_eq name chapter.name

abbrev chosen : Bool → ChapterSource → List ChapterSource → Option OpenBook → Option OpenBook
chosen here first rest behind = if here then Some (record { before = []; present = first; after = rest }) else option_map (λ (book : OpenBook). record book { before = first ∷ book.before }) behind

abbrev found : OpenBook → Option OpenBook
found book = Some book

abbrev missed : Option OpenBook
missed = None

led_by : (name : List ℕ) (volume : List Chapter) (place : ℕ) → place < length volume → is_named name (present_in volume place) ≡ true
    → ((other : ℕ) → other < place → is_named name (present_in volume other) ≡ false) → opened_at name (map chapter_source volume) ≡ found (open_at (map chapter_source volume) place)
led_by name [] place within here before = absurd (omega arith)
led_by name (first ∷ rest) zero within here before =
    ap (λ (b : Bool). chosen b (chapter_source first) (map chapter_source rest) (opened_at name (map chapter_source rest))) here
led_by name (first ∷ rest) (suc place) within here before =
    ap (λ (b : Bool). chosen b (chapter_source first) (map chapter_source rest) (opened_at name (map chapter_source rest))) (before 0 (omega arith))
    ∙ ap (λ (behind : Option OpenBook). chosen false (chapter_source first) (map chapter_source rest) behind)
    (led_by name rest place (omega (arith, within)) here (λ other lower. before (suc other) (omega (arith, lower))))

missed_by : (name : List ℕ) (volume : List Chapter) → ((other : ℕ) → other < length volume → is_named name (present_in volume other) ≡ false)
    → opened_at name (map chapter_source volume) ≡ missed
missed_by name [] none = refl
missed_by name (first ∷ rest) none =
    ap (λ (b : Bool). chosen b (chapter_source first) (map chapter_source rest) (opened_at name (map chapter_source rest))) (none 0 (omega arith))
    ∙ ap (λ (behind : Option OpenBook). chosen false (chapter_source first) (map chapter_source rest) behind)
    (missed_by name rest (λ other lower. none (suc other) (omega (arith, lower))))

position_past : {X : Type 0} (p : X → Bool) (xs : List X) → position p xs ≡ None → length xs ≤ position_or_len p xs
position_past p xs none = grind (arith, common_steps)

module _ (name : List ℕ) (volume : List Chapter) (present : ℕ) (within : present < length volume) where
  pub enter_led : (place : ℕ) → Some place ≡ place_named volume name
      → (place < length volume) × (entered name (open_at (map chapter_source volume) present) ≡ found (open_at (map chapter_source volume) place))
  enter_led place is =
      let facts = position-Some (is_named name) volume place no_keyed_chapter (sym is) in
      (facts.0, ap (opened_at name) (whole volume present within) ∙ led_by name volume place facts.0 facts.1 facts.2)

  pub enter_missed : None ≡ place_named volume name → entered name (open_at (map chapter_source volume) present) ≡ missed
  enter_missed is =
      let past = position_past (is_named name) volume (sym is) in
      ap (opened_at name) (whole volume present within)
      ∙ missed_by name volume (λ other lower. fails_before_first (is_named name) volume other no_keyed_chapter (omega (arith, past, lower)))

  pub enter_turned : (place : ℕ) → Some place ≡ place_named volume name
      → ◌≡◌ {A = OpenVolume} (record { chapters = volume; place = place }) (turned_to name (record { chapters = volume; place = present }))
  enter_turned place is = ap (λ (led : Option ℕ). record { chapters = volume; place = unwrap_or led present }) is

  pub enter_stayed : None ≡ place_named volume name
      → ◌≡◌ {A = OpenVolume} (record { chapters = volume; place = present }) (turned_to name (record { chapters = volume; place = present }))
  enter_stayed is = ap (λ (led : Option ℕ). record { chapters = volume; place = unwrap_or led present }) is
