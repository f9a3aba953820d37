-- The texts of pieces, by the elements at which they aim.
use Rattle.std.proofs.Common.{◌≡◌, ◌∷◌, ◌++◌, ℕ, List, [], Option, Some, None, Result, Ok, Err, OnOk, ap, ap₂, cond, option_and_then, option_map, refl, sym, ◌∙◌}
use Rattle.std.proofs.lemmas.Option.{none-some, same_Some}
use Rattle.std.specs.Option.{option_map_or}
use Rattle.forest.specs.Spots.{children_of}
use Rattle.forest.specs.Forest.{Forest}
use Rattle.forest.specs.Keys.{Keyed}
use Rattle.plain_types.specs.declared.counter.Counter.{Counter}
use Rattle.plain_types.specs.declared.counter_style.CounterStyle.{CounterStyle}
use Rattle.plain_types.specs.declared.node.Node.{Node}
use Rattle.generated_texts.specs.declared.entry.NodeEntry.{NodeEntry}
use Rattle.reading.specs.Punctuation.{number_sign}
use Rattle.content_eval.specs.Targets.{Known, flat_text}
use Rattle.content_eval.specs.declared.generated.Piece.{Piece}
use Rattle.generated_texts.specs.References.{characters_in, first_holder, kept_at}
use Rattle.book_definitions.specs.Aims.{Aim, aim, target}
use Rattle.book_definitions.specs.BoxLaws.{PiecesNeedOneTarget, flat_piece, of_one_target}
use Rattle.book_definitions.specs.Chapters.{Chapter, chapter_records, chapter_styles}
use Rattle.book_definitions.specs.Texts.{known_below, url_of, with_url}
use Rattle.book_refs.specs.Machinery.TargetElements.{known_alone, known_at, own_counters}
use Rattle.book_refs.specs.Machinery.VolumeBoxes.{entry_alone}
use Rattle.book_refs.proofs.BoxTexts.{entry_counters}

-- text that a call appended, told otherwise
pub appended : {T E : Type 0} (r : Result T E) (before now written told : List ℕ) → written ≡ told → OnOk r (now ≡ before ++ written) → OnOk r (now ≡ before ++ told)
appended (Ok value) before now written told same grew = grew ∙ ap (λ (more : List ℕ). before ++ more) same
appended (Err error) before now written told same grew = tt

-- the flat text of a piece alone, whose one target is told by what is kept of it
pub alone_text : (table : List CounterStyle) (chapter : Chapter) (key : ℕ) (entry : NodeEntry) (counters : Option (List Counter)) (document : Forest (Keyed Node)) (none alone : List Piece) (copy refers : Piece) (text : List ℕ)
    → Some entry ≡ entry_alone chapter key → counters ≡ cond entry.has_box (Some entry.own) None → document ≡ chapter.document
    → none ≡ [] → alone ≡ none ++ copy ∷ [] → copy ≡ with_url (number_sign ∷ []) refers → text ≡ flat_text table (known_alone counters document key) alone
    → text ≡ flat_text table (known_at chapter key) (with_url (number_sign ∷ []) refers ∷ [])
alone_text table chapter key entry counters document none alone copy refers text held counted same empty pushed copied is =
    is
    ∙ ap (λ (pieces : List Piece). flat_text table (known_alone counters document key) pieces) (pushed ∙ ap (λ (front : List Piece). front ++ copy ∷ []) empty ∙ ap (λ (one : Piece). one ∷ []) copied)
    ∙ ap₂ (λ (counters : Option (List Counter)) (document : Forest (Keyed Node)). flat_text table (known_alone counters document key) (with_url (number_sign ∷ []) refers ∷ []))
    (counted ∙ entry_counters chapter key entry (sym held)) same

module _ (volume : List Chapter) (own : Chapter) where
  -- the aim of a url that has a target
  abbrev holder_at : Option Aim → Option (Chapter × ℕ)
  holder_at found = option_and_then (λ (found : Aim). option_map {U = Chapter × ℕ} (λ key. (found.chapter, key)) (first_holder found.chapter.document found.id)) found

  record Aims (found : Option Aim) (chapter : Chapter) (key : ℕ) : Type 0 where
    there : Aim
    is : found ≡ Some there
    chapter_is : there.chapter ≡ chapter
    holds : first_holder there.chapter.document there.id ≡ Some key

  aims_by : (there : Aim) (holder : Option ℕ) (chapter : Chapter) (key : ℕ) → first_holder there.chapter.document there.id ≡ holder
      → option_map {U = Chapter × ℕ} (λ key. (there.chapter, key)) holder ≡ Some (chapter, key) → Aims (Some there) chapter key
  aims_by there None chapter key holder e = absurd (none-some (chapter, key) e)
  aims_by there (Some held) chapter key holder e =
      let same : (there.chapter, held) ≡ (chapter, key) = same_Some (there.chapter, held) (chapter, key) e in
      record { there = there; is = refl; chapter_is = ap (λ (p : Chapter × ℕ). p.0) same; holds = holder ∙ ap (λ (p : Chapter × ℕ). Some p.1) same }

  aims_at : (found : Option Aim) (chapter : Chapter) (key : ℕ) → holder_at found ≡ Some (chapter, key) → Aims found chapter key
  aims_at None chapter key e = absurd (none-some (chapter, key) e)
  aims_at (Some there) chapter key e = aims_by there (first_holder there.chapter.document there.id) chapter key refl e

  -- what is known of the holder of an id, by its key
  abbrev known_by : Chapter → Option ℕ → Known
  known_by chapter holder = record {
    counters = λ each. option_and_then own_counters (option_and_then (kept_at (chapter_records chapter)) holder);
    characters = λ each. option_map_or (λ key. characters_in (children_of chapter.document key)) holder [];
    flat = λ each part. None;
  }

  -- a piece with a url that aims at an element
  pub flat_reference : PiecesNeedOneTarget → (refers : Piece) (url : List ℕ) (chapter : Chapter) (key : ℕ) → url_of refers ≡ Some url → target volume own url ≡ Some (chapter, key)
      → flat_piece volume own refers ≡ flat_text (chapter_styles own) (known_at chapter key) (with_url (number_sign ∷ []) refers ∷ [])
  flat_reference law refers url chapter key has at =
      let aims = aims_at (aim volume own url) chapter key at in
      let one = law volume own refers aims.there (ap (option_and_then (aim volume own)) has ∙ aims.is) in
      one.0
      ∙ ap (λ (known : Known). flat_text (chapter_styles own) known (with_url (number_sign ∷ []) refers ∷ []))
      (holder_known aims.there (Some key) aims.holds ∙ ap (λ (c : Chapter). known_at c key) aims.chapter_is)
    where
      holder_known : (there : Aim) (holder : Option ℕ) → first_holder there.chapter.document there.id ≡ holder → of_one_target (known_below there.chapter) there.id ≡ known_by there.chapter holder
      holder_known there holder e = ap (known_by there.chapter) e
