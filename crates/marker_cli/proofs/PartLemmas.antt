-- The documents of a book, one after another.
use Rattle.std.proofs.Common.{◌≡◌, ◌≢◌, ℕ, zero, suc, ◌<◌, ◌≤◌, ◌+◌, List, [], ◌∷◌, ◌++◌, length, map, drop, take, get_or, Result, add-one, ap, ap₂, append_assoc, append-nil, arith, refl, subst, sym, ◌∙◌, inl, inr, ◌⊎◌}
use Rattle.std.specs.Prelude.{Ok, Err, sum, sum_by}
use Rattle.std.specs.List.{AllByRecursion, AllPairs, AllZip}
use Rattle.std.proofs.Math.Seq.{drop-cons}
use Rattle.std.proofs.Math.ListN.{drop_of_length-le}
use Rattle.std.proofs.lemmas.List.{get_or-map, length-map, take_all, take_more}
use Rattle.std.proofs.lemmas.List.Sums.{sum-map, sum_by-append, sum_by-cons}
use Rattle.edit_script.specs.declared.command.Command.{Command}
use Rattle.forest.specs.Forest.{Forest}
use Rattle.plain_types.specs.declared.node.Node.{Node}
use Rattle.ports.specs.Causes.{Raises}
use Rattle.ports.specs.Files.{Files}
use Rattle.ports.proofs.CauseLemmas.{raises_more}
use Rattle.book_definitions.specs.Chapters.{IsChapterName}
use Rattle.book_definitions.specs.Fresh.{ChapterSource}
use Rattle.book_refs.specs.Given.{MakeVolume, given_source}
use Rattle.book_refs.specs.declared.chapter.Chapter.{Chapter}
use Rattle.node_arena.specs.Document.{HasElementRoot}
use Rattle.xhtml_reader.specs.Readings.{ReadsAsDocument}
use Rattle.marker_cli.specs.declared.status.FileAt.TheVariants.{Word}
use Rattle.marker_cli.specs.declared.status.Status.{Status}
use Rattle.marker_cli.specs.declared.status.Status.TheVariants.{Memory}
use Rattle.marker_cli.specs.Book.{play_book}
use Rattle.marker_cli.specs.BookSteps.{begin_steps, book_script_steps, most_book_steps, steps_with_texts}
use Rattle.marker_cli.specs.Documents.{Reading}
use Rattle.marker_cli.specs.Edit.{commands_of}
use Rattle.marker_cli.specs.EditSteps.{steps_with}
use Rattle.marker_cli.specs.Ends.{Gives}
use Rattle.marker_cli.specs.OpenBooks.{OpenBook, chapters_of, opened, volume_of}
use Rattle.marker_cli.specs.Output.{Output, goes_on}
use Rattle.marker_cli.specs.Parts.{HaveBookTexts, HaveTexts, before_trees, part_of, seen_by, trees_of, with_texts}
use Rattle.marker_cli.specs.Run.{size_of}
use Rattle.marker_cli.specs.Turns.{text_in, with_text}
use Rattle.marker_cli.specs.Words.{AreDocumentNames}
use Rattle.marker_cli.proofs.FaultLemmas.{HandsOn}

-- The files of the documents, in their turns.

-- the next turn
pub texts_next : (files : Files) (names : List (List ℕ)) (index : ℕ) (name : List ℕ) (next : Output) → index < length names → name ≡ get_or names index name
    → with_texts files (index + 3) (drop index names) next
    ≡ with_text files (Word (index + 3)) name (λ text. with_texts files (index + 1 + 3) (drop (index + 1) names) next)
texts_next files names index name next below is =
    let later : index + 3 + 1 ≡ suc index + 3 = omega arith in
    rw (add-one, drop-cons names index name below, ← is) (ap (λ place. with_text files (Word (index + 3)) name (λ text. with_texts files place (drop (suc index) names) next)) later)

-- after the last
pub texts_end : (files : Files) (names : List (List ℕ)) (index : ℕ) (next : Output) → length names ≤ index → with_texts files (index + 3) (drop index names) next ≡ next
texts_end files names index next past = rw (drop_of_length-le names past) refl

have_push : (files : Files) (place : ℕ) (names texts : List (List ℕ)) (name text : List ℕ) → HaveTexts files place names texts
    → text_in (Word (length names + place)) (files name) ≡ Ok text → HaveTexts files place (names ++ name ∷ []) (texts ++ text ∷ [])
have_push files place [] [] name text have is =
    let here : length {A = List ℕ} [] + place ≡ place = omega arith in (subst (λ at. text_in (Word at) (files name) ≡ Ok text) here is, tt)
have_push files place [] (t ∷ texts) name text have is = absurd have
have_push files place (n ∷ names) [] name text have is = absurd have
have_push files place (n ∷ names) (t ∷ texts) name text have is =
    let later : suc (length names) + place ≡ length names + (place + 1) = omega arith in
    (have.0, have_push files (place + 1) names texts name text have.1 (subst (λ at. text_in (Word at) (files name) ≡ Ok text) later is))

pub length_front : {A : Type 0} (xs : List A) (index : ℕ) → index ≤ length xs → length (take index xs) ≡ index
length_front xs zero below = refl
length_front [] (suc index) below = absurd (omega arith)
length_front (x ∷ xs) (suc index) below = ap suc (length_front xs index (omega arith))

-- one more of the items before a place
pub front_more : {A : Type 0} (xs : List A) (index : ℕ) (x : A) → index < length xs → x ≡ get_or xs index x → take (index + 1) xs ≡ take index xs ++ x ∷ []
front_more xs index x below is = take_more xs index x below ∙ ap (λ y. take index xs ++ y ∷ []) (sym is)

pub have_more : (files : Files) (names texts : List (List ℕ)) (index : ℕ) (name text : List ℕ) → index < length names → name ≡ get_or names index name
    → HaveTexts files 3 (take index names) texts → text_in (Word (index + 3)) (files name) ≡ Ok text → HaveTexts files 3 (take (index + 1) names) (texts ++ text ∷ [])
have_more files names texts index name text below is have found =
    subst (λ front. HaveTexts files 3 front (texts ++ text ∷ [])) (sym (front_more names index name below is))
    (have_push files 3 (take index names) texts name text have
    (subst (λ count. text_in (Word (count + 3)) (files name) ≡ Ok text) (sym (length_front names index (omega arith))) found))

pub have_all : (files : Files) (names texts : List (List ℕ)) (index : ℕ) → length names ≤ index → HaveTexts files 3 (take index names) texts → HaveTexts files 3 names texts
have_all files names texts index past have = subst (λ front. HaveTexts files 3 front texts) (take_all index names past) have

length_push : {A : Type 0} (xs : List A) (x : A) → length (xs ++ x ∷ []) ≡ suc (length xs)
length_push [] x = refl
length_push (first ∷ xs) x = ap suc (length_push xs x)

pub each_more : {A B : Type 0} (xs : List A) (ys new : List B) (index : ℕ) (x : A) (y : B) → index < length xs → x ≡ get_or xs index x → length ys ≡ length (take index xs)
    → new ≡ ys ++ y ∷ [] → length new ≡ length (take (index + 1) xs)
each_more xs ys new index x y below is same push =
    ap length push ∙ length_push ys y ∙ ap suc same ∙ sym (ap length (front_more xs index x below is) ∙ length_push (take index xs) x)

-- the bytes of these files
pub sizes_more : (files : Files) (names : List (List ℕ)) (index : ℕ) (name : List ℕ) (before middle now : ℕ) → index < length names → name ≡ get_or names index name
    → Raises before middle (sum (map (size_of files) (take index names))) → Raises middle now (size_of files name)
    → Raises before now (sum (map (size_of files) (take (index + 1) names)))
sizes_more files names index name before middle now below is so_far more =
    let front = sum-map (size_of files) (take index names) in
    let whole = sum-map (size_of files) (take (index + 1) names) in
    let push = ap (sum_by (size_of files)) (front_more names index name below is) ∙ sum_by-append (size_of files) (take index names) (name ∷ []) in
    let last = sum_by-cons (size_of files) name [] in
    let none : sum_by (size_of files) [] ≡ 0 = refl in
    let all : sum (map (size_of files) (take (index + 1) names)) ≡ sum (map (size_of files) (take index names)) + size_of files name = omega (arith, front, whole, push, last, none) in
    subst (λ count. Raises before now count) (sym all) (raises_more before middle now _ _ _ so_far more refl)

pub sizes_all : (files : Files) (names : List (List ℕ)) (index before now : ℕ) → length names ≤ index → Raises before now (sum (map (size_of files) (take index names)))
    → Raises before now (sum (map (size_of files) names))
sizes_all files names index before now past raised = subst (λ front. Raises before now (sum (map (size_of files) front))) (take_all index names past) raised

-- The trees of the documents.

-- these trees and then others, or the status of those
abbrev pub after_trees : List (Forest Node) → Result (List (Forest Node)) Status → Result (List (Forest Node)) Status
after_trees trees (Ok others) = Ok (trees ++ others)
after_trees trees (Err status) = Err status

after_push : (trees : List (Forest Node)) (tree : Forest Node) (others : Result (List (Forest Node)) Status)
    → after_trees trees (before_trees (Ok tree) others) ≡ after_trees (trees ++ tree ∷ []) others
after_push trees tree (Ok others) = ap Ok (sym (append_assoc trees (tree ∷ []) others))
after_push trees tree (Err status) = refl

pub after_none : (others : Result (List (Forest Node)) Status) → after_trees [] others ≡ others
after_none (Ok others) = refl
after_none (Err status) = refl

next_trees : (readings : List Reading) (index : ℕ) (reading : Reading) → index < length readings → reading ≡ get_or readings index reading
    → trees_of (index + 3) (drop index readings) ≡ before_trees (part_of (index + 3) reading) (trees_of (index + 1 + 3) (drop (index + 1) readings))
next_trees readings index reading below is =
    let later : index + 3 + 1 ≡ suc index + 3 = omega arith in
    rw (add-one, drop-cons readings index reading below, ← is) (ap (λ at. before_trees (part_of (index + 3) reading) (trees_of at (drop (suc index) readings))) later)

-- one more document has a tree
pub trees_more : (readings : List Reading) (trees : List (Forest Node)) (index : ℕ) (reading : Reading) (tree : Forest Node) → index < length readings
    → reading ≡ get_or readings index reading → part_of (index + 3) reading ≡ Ok tree → trees_of 3 readings ≡ after_trees trees (trees_of (index + 3) (drop index readings))
    → trees_of 3 readings ≡ after_trees (trees ++ tree ∷ []) (trees_of (index + 1 + 3) (drop (index + 1) readings))
trees_more readings trees index reading tree below is part so_far =
    so_far ∙ ap (after_trees trees) (next_trees readings index reading below is ∙ ap (λ p. before_trees p (trees_of (index + 1 + 3) (drop (index + 1) readings))) part)
    ∙ after_push trees tree (trees_of (index + 1 + 3) (drop (index + 1) readings))

-- one has none, or memory was wanting
pub trees_not : (readings : List Reading) (trees : List (Forest Node)) (index : ℕ) (reading : Reading) (status : Status) → index < length readings
    → reading ≡ get_or readings index reading → (status ≡ Memory) ⊎ (part_of (index + 3) reading ≡ Err status) → trees_of 3 readings ≡ after_trees trees (trees_of (index + 3) (drop index readings))
    → (status ≡ Memory) ⊎ (trees_of 3 readings ≡ Err status)
trees_not readings trees index reading status below is (inl memory) so_far = inl memory
trees_not readings trees index reading status below is (inr part) so_far =
    inr (so_far ∙ ap (after_trees trees) (next_trees readings index reading below is ∙ ap (λ p. before_trees p (trees_of (index + 1 + 3) (drop (index + 1) readings))) part))

pub trees_all : (readings : List Reading) (trees : List (Forest Node)) (index : ℕ) → length readings ≤ index
    → trees_of 3 readings ≡ after_trees trees (trees_of (index + 3) (drop index readings)) → trees_of 3 readings ≡ Ok trees
trees_all readings trees index past so_far =
    so_far ∙ ap (λ rest. after_trees trees (trees_of (index + 3) rest)) (drop_of_length-le readings past) ∙ ap Ok (append-nil trees)

-- what a `?` hands on of a part that gives none
pub given_not : {A B : Type 0} (given : Result B Status) (f : A → B) (result : Result A Status) {status : Status} → HandsOn result status
    → (status ≡ Memory) ⊎ (given ≡ Err status) → Gives given (seen_by f result)
given_not given f (Ok x) is why = absurd is.1
given_not given f (Err error) is (inl memory) = inl (is.1 ∙ memory)
given_not given f (Err error) is (inr none) = inr (none ∙ ap Err (sym is.1))

-- the readings are as many as the texts, and each is of its text
pub reading_at : (texts : List (List ℕ)) (readings : List Reading) (index : ℕ) (text : List ℕ) → index < length texts → text ≡ get_or texts index text
    → AllZip ReadsAsDocument texts readings → (reading : Reading) × (reading ≡ get_or readings index reading) × (index < length readings) × ReadsAsDocument text reading
reading_at [] readings index text below is all = absurd (omega arith)
reading_at (first ∷ texts) [] index text below is all = absurd all
reading_at (first ∷ texts) (reading ∷ readings) zero text below is all = (reading, refl, omega arith, subst (λ t. ReadsAsDocument t reading) (sym is) all.0)
reading_at (first ∷ texts) (reading ∷ readings) (suc index) text below is all =
    let found = reading_at texts readings index text (omega arith) is all.1 in
    let there = found.2 in (found.0, found.1, omega (arith, there), found.3)

pub as_many : (texts : List (List ℕ)) (readings : List Reading) → AllZip ReadsAsDocument texts readings → length readings ≡ length texts
as_many [] [] all = refl
as_many [] (reading ∷ readings) all = absurd all
as_many (text ∷ texts) [] all = absurd all
as_many (text ∷ texts) (reading ∷ readings) all = ap suc (as_many texts readings all.1)

-- The chapters of a book.

abbrev pub chapter_name : Chapter → List ℕ
chapter_name chapter = chapter.name

abbrev pub chapter_tree : Chapter → Forest Node
chapter_tree chapter = chapter.document

pub map_push : {A B : Type 0} (f : A → B) (xs : List A) (x : A) (y : B) → f x ≡ y → map f (xs ++ x ∷ []) ≡ map f xs ++ y ∷ []
map_push f [] x y is = ap (λ z. z ∷ []) is
map_push f (first ∷ xs) x y is = ap (λ rest. f first ∷ rest) (map_push f xs x y is)

pub all_push : {A : Type 0} (Holds : A → Type 0) (xs : List A) (x : A) → AllByRecursion Holds xs → Holds x → AllByRecursion Holds (xs ++ x ∷ [])
all_push Holds [] x all is = (is, tt)
all_push Holds (first ∷ xs) x all is = (all.0, all_push Holds xs x all.1 is)

-- chapters of one sheet are those of their names and trees
pub sources_of : (style : List ℕ) (chapters : List Chapter) → AllByRecursion (λ (chapter : Chapter). chapter.sheet ≡ style) chapters
    → map given_source chapters ≡ chapters_of style (map chapter_name chapters) (map chapter_tree chapters)
sources_of style [] all = refl
sources_of style (chapter ∷ chapters) all =
    ap₂ (λ (first : ChapterSource) (rest : List ChapterSource). first ∷ rest)
    (ap (λ sheet. record { name = chapter.name; tree = chapter.document; sheet = sheet }) all.0) (sources_of style chapters all.1)

-- their names tell them apart
all_named : (chapters : List Chapter) → AllByRecursion IsChapterName (map chapter_name chapters) → AllByRecursion (λ (chapter : Chapter). IsChapterName chapter.name) chapters
all_named [] all = tt
all_named (chapter ∷ chapters) all = (all.0, all_named chapters all.1)

apart_by_names : (chapters : List Chapter) → AllPairs (λ (name other : List ℕ). name ≢ other) (map chapter_name chapters)
    → AllPairs (λ (first second : Chapter). first.name ≢ second.name) chapters
apart_by_names chapters apart i j d low within same =
    let many : length (map chapter_name chapters) ≡ length chapters = length-map chapters chapter_name in
    let here : i < length chapters = omega arith in
    apart i j (chapter_name d) low (omega arith)
    (get_or-map chapter_name chapters i d (chapter_name d) here ∙ same ∙ sym (get_or-map chapter_name chapters j d (chapter_name d) within))

pub make_volume : (chapters : List Chapter) (names : List (List ℕ)) → map chapter_name chapters ≡ names → AreDocumentNames names
    → AllByRecursion (λ (chapter : Chapter). HasElementRoot chapter.document) chapters → MakeVolume chapters
make_volume chapters names same are roots = record {
  names = all_named chapters (subst (λ ns. AllByRecursion IsChapterName ns) (sym same) are.each);
  distinct = apart_by_names chapters (subst (λ ns. AllPairs (λ (name other : List ℕ). name ≢ other) ns) (sym same) are.distinct);
  roots = roots;
}

pub some_chapter : (chapters : List Chapter) (names : List (List ℕ)) → map chapter_name chapters ≡ names → AreDocumentNames names → 0 < length chapters
some_chapter chapters names same are =
    let many : length (map chapter_name chapters) ≡ length chapters = length-map chapters chapter_name in
    let all : length (map chapter_name chapters) ≡ length names = ap length same in
    let some = are.some in
    omega (arith, many, all, some)

-- What comes once all files have texts, and how many steps it takes.

abbrev pub after_texts : Files → List (List ℕ) → List ℕ → List Reading → Result (List Command) ℕ → Output
after_texts files documents style readings read =
    goes_on (trees_of 3 readings) (λ trees.
    goes_on (commands_of read) (λ commands.
    goes_on (opened (chapters_of style documents trees)) (λ book. play_book files commands book)))

-- chapters that are there can be opened, and then they are the volume
pub some_opened : (chapters : List Chapter) → 0 < length chapters → (book : OpenBook) × (opened (map given_source chapters) ≡ Ok book)
some_opened [] some = absurd (omega arith)
some_opened (first ∷ rest) some = (record { before = []; present = given_source first; after = map given_source rest }, refl)

pub volume_opened : (sources : List ChapterSource) (book : OpenBook) → opened sources ≡ Ok book → volume_of book ≡ sources
volume_opened [] book is = absurd (cc is)
volume_opened (first ∷ rest) book is = let same : record { before = []; present = first; after = rest } ≡ book = cc is in ap volume_of (sym same)

steps_have : (files : Files) (place : ℕ) (names texts : List (List ℕ)) (next : ℕ) → HaveTexts files place names texts → steps_with_texts files place names next ≡ next
steps_have files place [] [] next have = refl
steps_have files place [] (text ∷ texts) next have = absurd have
steps_have files place (name ∷ names) [] next have = absurd have
steps_have files place (name ∷ names) (text ∷ texts) next have =
    ap (λ given. steps_with given (λ t. steps_with_texts files (place + 1) names next)) have.0 ∙ steps_have files (place + 1) names texts next have.1

-- the whole run, where all files have texts and these read
pub most_of_book : (files : Files) (sheet script : List ℕ) (documents : List (List ℕ)) (readings : List Reading) (read : Result (List Command) ℕ)
    (style lines : List ℕ) (texts : List (List ℕ)) (trees : List (Forest Node)) (commands : List Command) (book : OpenBook)
    → HaveBookTexts files sheet script documents style lines texts → trees_of 3 readings ≡ Ok trees → commands_of read ≡ Ok commands
    → opened (chapters_of style documents trees) ≡ Ok book
    → most_book_steps files sheet script documents readings read ≡ begin_steps (volume_of book) + book_script_steps files commands book
most_of_book files sheet script documents readings read style lines texts trees commands book have third fourth fifth =
    rw (have.of_sheet, have.of_script) (steps_have files 3 documents texts _ have.of_documents ∙ rw (third, fourth, fifth) refl)
