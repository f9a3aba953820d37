-- What every volume is, of one that is begun and of one that is edited.
use Rattle.std.proofs.Common.{◌≡◌, ◌≢◌, ◌<◌, ◌≤◌, ◌+◌, ℕ, zero, suc, List, [], ◌∷◌, ◌++◌, Option, Some, IfSome, drop, take, refl, ap, ap₂, arith, get_or, length, map, set, subst, sym, ◌∙◌}
use Rattle.std.proofs.lemmas.List.{get_or-map, length-map, map-append, take-append-drop, take_all, take_more}
use Rattle.std.proofs.lemmas.List.Sums.{sum_by-append}
use Rattle.std.proofs.lemmas.Option.{get_or_from_slice_get, slice_get_read}
use Rattle.std.proofs.Math.Seq.{map-set_same}
use Rattle.std.specs.List.{AllByRecursion, AllPairs, slice_get}
use Rattle.book_definitions.specs.Chapters.{Chapter, IsChapterName, IsVolume}
use Rattle.book_definitions.specs.Fresh.{ChapterSource, chapter_source}
use Rattle.book_refs.specs.declared.chapter.Chapter.{Chapter as Given}
use Rattle.book_refs.specs.Given.{MakeVolume, elements_given, given_source}
use Rattle.document_walk.specs.Elements.{element_count}
use Rattle.node_arena.specs.Document.{HasElementRoot, IsKeyedDocument}

-- Names that differ, and what has them.
module _ {X : Type 0} (name : X → List ℕ) where
  names_apart : (xs : List X) → AllPairs (λ (first second : X). name first ≢ name second) xs → AllPairs (λ (first second : List ℕ). first ≢ second) (map name xs)
  names_apart [] apart i j d low within same = absurd (omega arith)
  names_apart (x ∷ xs) apart i j d low within same =
      let many : length (map name (x ∷ xs)) ≡ length (x ∷ xs) = length-map (x ∷ xs) name in
      let there : j < length (x ∷ xs) = omega arith in
      let here : i < length (x ∷ xs) = omega arith in
      apart i j x low there (sym (get_or-map name (x ∷ xs) i x d here) ∙ same ∙ get_or-map name (x ∷ xs) j x d there)

  apart_by_names : (xs : List X) → AllPairs (λ (first second : List ℕ). first ≢ second) (map name xs) → AllPairs (λ (first second : X). name first ≢ name second) xs
  apart_by_names xs apart i j d low within same =
      let many : length (map name xs) ≡ length xs = length-map xs name in
      let here : i < length xs = omega arith in
      apart i j (name d) low (omega arith) (get_or-map name xs i d (name d) here ∙ same ∙ sym (get_or-map name xs j d (name d) within))

abbrev given_name : Given → List ℕ
given_name chapter = chapter.name

abbrev chapter_name : Chapter → List ℕ
chapter_name chapter = chapter.name

-- Chapters that are made of those that were given have their names.

names_are : (given : List Given) (volume : List Chapter) → map chapter_source volume ≡ map given_source given → map chapter_name volume ≡ map given_name given
names_are [] [] same = refl
names_are [] (chapter ∷ chapters) same = absurd (cc)
names_are (first ∷ rest) [] same = absurd (cc)
names_are (first ∷ rest) (chapter ∷ chapters) same =
    let here : chapter_source chapter ≡ given_source first = cc in
    let behind : map chapter_source chapters ≡ map given_source rest = cc in
    ap₂ (λ (name : List ℕ) (names : List (List ℕ)). name ∷ names) (ap (λ (source : ChapterSource). source.name) here) (names_are rest chapters behind)

all_named : (given : List Given) (volume : List Chapter) → map chapter_name volume ≡ map given_name given
    → AllByRecursion (λ (chapter : Given). IsChapterName chapter.name) given → AllByRecursion (λ (chapter : Chapter). IsChapterName chapter.name) volume
all_named [] [] same all = tt
all_named [] (chapter ∷ chapters) same all = absurd (cc)
all_named (first ∷ rest) [] same all = absurd (cc)
all_named (first ∷ rest) (chapter ∷ chapters) same all =
    let here : chapter.name ≡ first.name = cc in
    let behind : map chapter_name chapters ≡ map given_name rest = cc in
    (subst IsChapterName (sym here) all.0, all_named rest chapters behind all.1)

-- all of the chapters that were given
pub all_made : (given items : List Given) (evaluated : List Chapter) (place : ℕ) → items ≡ given → length items ≤ place → map chapter_source evaluated ≡ map given_source (take place items)
    → map chapter_source evaluated ≡ map given_source given
all_made given items evaluated place same past made = made ∙ ap (map given_source) (take_all place items past ∙ same)

-- the chapters make a volume once they are evaluated
pub begun : (given : List Given) (volume : List Chapter) → MakeVolume given → map chapter_source volume ≡ map given_source given
    → AllByRecursion (λ (chapter : Chapter). IsKeyedDocument chapter.document) volume → IsVolume volume
begun given volume makes same documents =
    let names = names_are given volume same in
    record {
      names = all_named given volume names makes.names;
      distinct =
          apart_by_names chapter_name volume
          (subst (λ (all : List (List ℕ)). AllPairs (λ (first second : List ℕ). first ≢ second) all) (sym names) (names_apart given_name given makes.distinct));
      documents = documents;
    }

-- what is so of all is so of each
pub all_at : {X : Type 0} (holds : X → Type 0) (xs : List X) (place : ℕ) (x : X) → slice_get xs place ≡ Some x → AllByRecursion holds xs → holds x
all_at holds [] place x at all = absurd (cc)
all_at holds (first ∷ rest) zero x at all = let same : first ≡ x = cc in subst holds same all.0
all_at holds (first ∷ rest) (suc place) x at all = all_at holds rest place x at all.1

-- One more of the chapters that were given is evaluated.
module _ (given : List Given) (place : ℕ) (one : Given) (within : place < length given) (is : one ≡ get_or given place one) where
  pub one_more : take (place + 1) given ≡ take place given ++ one ∷ []
  one_more = take_more given place one within ∙ ap (λ (each : Given). take place given ++ each ∷ []) (sym is)

  pub made_more : (evaluated more : List Chapter) (made : Chapter) → map chapter_source evaluated ≡ map given_source (take place given) → chapter_source made ≡ given_source one
      → more ≡ evaluated ++ made ∷ [] → map chapter_source more ≡ map given_source (take (place + 1) given)
  made_more evaluated more made so_far here grown =
      ap (map chapter_source) grown
      ∙ map-append chapter_source evaluated (made ∷ [])
      ∙ ap₂ (λ (sources : List ChapterSource) (source : ChapterSource). sources ++ source ∷ []) so_far here
      ∙ sym (map-append given_source (take place given) (one ∷ []))
      ∙ ap (map given_source) (sym one_more)

  pub its_root : AllByRecursion (λ (chapter : Given). HasElementRoot chapter.document) given → HasElementRoot one.document
  its_root all = all_at (λ (chapter : Given). HasElementRoot chapter.document) given place one (slice_get_read given (length given) place one refl within is) all

  pub elements_more : elements_given (take (place + 1) given) ≡ elements_given (take place given) + element_count one.document
  elements_more =
      let parts : elements_given (take (place + 1) given) ≡ elements_given (take place given) + (0 + element_count one.document) =
      ap elements_given one_more ∙ sum_by-append (λ (chapter : Given). element_count chapter.document) (take place given) (one ∷ []) in
      omega (arith, parts)

  pub elements_within : elements_given (take place given) + element_count one.document ≤ elements_given given
  elements_within =
      let parts : elements_given (take (place + 1) given) + elements_given (drop (place + 1) given) ≡ elements_given given =
      sym (sum_by-append (λ (chapter : Given). element_count chapter.document) (take (place + 1) given) (drop (place + 1) given)) ∙ ap elements_given (take-append-drop (place + 1) given) in
      let more = elements_more in
      omega (arith, parts, more)

pub all_more : (holds : Chapter → Type 0) (evaluated more : List Chapter) (made : Chapter) → AllByRecursion holds evaluated → holds made → more ≡ evaluated ++ made ∷ [] → AllByRecursion holds more
all_more holds evaluated more made all here grown = subst (AllByRecursion holds) (sym grown) (by evaluated all)
  where
    by : (evaluated : List Chapter) → AllByRecursion holds evaluated → AllByRecursion holds (evaluated ++ made ∷ [])
    by [] all = (here, tt)
    by (chapter ∷ chapters) all = (all.0, by chapters all.1)

-- One chapter becomes another.

all_set : (holds : Chapter → Type 0) (volume : List Chapter) (place : ℕ) (new : Chapter) → AllByRecursion holds volume → holds new → AllByRecursion holds (set volume place new)
all_set holds [] place new all here = tt
all_set holds (chapter ∷ chapters) zero new all here = (here, all.1)
all_set holds (chapter ∷ chapters) (suc place) new all here = (all.0, all_set holds chapters place new all.1 here)

pub set_there : (volume : List Chapter) (place : ℕ) (new : Chapter) → place < length volume → slice_get (set volume place new) place ≡ Some new
set_there [] place new within = absurd (omega arith)
set_there (chapter ∷ chapters) zero new within = refl
set_there (chapter ∷ chapters) (suc place) new within = set_there chapters place new (omega arith)

-- the chapter that is read at a place is there
pub is_there : (volume told : List Chapter) (place : ℕ) (old : Chapter) → volume ≡ told → place < length told → old ≡ get_or volume place old → slice_get told place ≡ Some old
is_there volume told place old same within is = slice_get_read told (length told) place old refl within (is ∙ ap (λ (chapters : List Chapter). get_or chapters place old) same)

-- what is so of the chapter at a place
pub of_chapter : (holds : Chapter → Type 0) (chapter : Option Chapter) (old : Chapter) → chapter ≡ Some old → holds old → IfSome chapter holds
of_chapter holds chapter old at here = subst (λ (o : Option Chapter). IfSome o holds) (sym at) here

-- a volume stays one where a chapter keeps its name
pub stays : (volume : List Chapter) (place : ℕ) (old new : Chapter) → slice_get volume place ≡ Some old → new.name ≡ old.name → IsKeyedDocument new.document
    → IsVolume volume → IsVolume (set volume place new)
stays volume place old new at name document is = record {
  names = all_set (λ (chapter : Chapter). IsChapterName chapter.name) volume place new is.names (subst IsChapterName (sym name) (all_at (λ (chapter : Chapter). IsChapterName chapter.name) volume place old at is.names));
  distinct =
      apart_by_names chapter_name (set volume place new)
      (subst (λ (all : List (List ℕ)). AllPairs (λ (first second : List ℕ). first ≢ second) all)
      (sym (map-set_same chapter_name volume place new old (name ∙ sym (ap chapter_name (get_or_from_slice_get volume place old old at)))))
      (names_apart chapter_name volume is.distinct));
  documents = all_set (λ (chapter : Chapter). IsKeyedDocument chapter.document) volume place new is.documents document;
}
