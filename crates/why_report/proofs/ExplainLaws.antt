-- The account of a book's element is that of its document without keys, and what that says of the answers of a call.
use Rattle.std.proofs.Common.{◌≡◌, ℕ, List, ◌++◌, Option, None, Some, IfNone, IfSome, IsSome, refl, sym, ap, ap₂, subst, ◌∙◌, encode_utf8_all}
use Rattle.std.specs.Prelude.{Bool, true, false, if◌then◌else◌, flat_map, is_none, is_some, not, option_map}
use Rattle.std.proofs.lemmas.Str.{encodes-append}
use Rattle.std.specs.List.{AllByRecursion}
use Rattle.std.specs.Str.{chars}
use Rattle.std.specs.Option.{option_and_then}
use Rattle.dirty_walk.specs.Books.{StyledDocument, fresh_entry}
use Rattle.forest.specs.Forest.{Forest}
use Rattle.forest.specs.Keys.{HasDistinctKeys, Keyed, without_keys}
use Rattle.forest.specs.Paths.{key_at}
use Rattle.forest.specs.Spots.{IsLive, Spot, parent_of, spot_of}
use Rattle.generated_texts.specs.Laws.{EachKeyingIsAnother, EntriesFollowKeys, SheetsKeepNoKeys}
use Rattle.generated_texts.specs.StyleElements.{author_sheet}
use Rattle.node_arena.specs.Nodes.{name_of, node_name}
use Rattle.plain_types.specs.declared.node.Node.{Node}
use Rattle.plain_types.specs.declared.counter.Counter.{Counter}
use Rattle.plain_types.specs.declared.sheet.Sheet.{Sheet}
use Rattle.css_reader.specs.Sheets.{sheet}
use Rattle.mini_cascade.specs.declared.agent_sheet.TheConstants.{AGENT_SHEET}
use Rattle.generated_texts.specs.declared.entry.NodeEntry.{NodeEntry}
use Rattle.generated_texts.specs.Documents.{agent_sheet}
use Rattle.style_sources.specs.Sources.{Placed, placed_declarations, value_source_at, value_source_of}
use Rattle.why_report.specs.Accounts.{account, counter_line, counter_lines, element_account, element_at, source_lines}
use Rattle.why_report.proofs.CreatorLaws.{creators_live}
use Rattle.why_report.proofs.KeyLaws.{account_of_tree}

map_twice : {A B C : Type 0} (f : A → B) (h : B → C) (o : Option A) → option_map h (option_map f o) ≡ option_map (λ a. h (f a)) o
map_twice f h None = refl
map_twice f h (Some a) = refl

pub account_is : (styled told : StyledDocument) (arena_tree : Forest (Keyed Node)) (path : List ℕ) (found : Option ℕ)
    → EachKeyingIsAnother → SheetsKeepNoKeys → EntriesFollowKeys → styled ≡ told → arena_tree ≡ styled.tree → HasDistinctKeys arena_tree → found ≡ element_at arena_tree path
    → account told.sheet (without_keys told.tree) path ≡ option_map (λ key. encode_utf8_all (element_account (author_sheet styled.sheet styled.tree) styled.tree key)) found
account_is styled told arena_tree path found keyings sheets entries is same distinct found_is =
    let whole = λ (key : ℕ). encode_utf8_all (element_account (author_sheet styled.sheet styled.tree) styled.tree key) in
    ap (λ (book : StyledDocument). account book.sheet (without_keys book.tree) path) (sym is)
    ∙ sym (account_of_tree keyings sheets entries styled.sheet styled.tree path (subst (λ (trees : Forest (Keyed Node)). HasDistinctKeys trees) same distinct))
    ∙ map_twice (element_account (author_sheet styled.sheet styled.tree) styled.tree) encode_utf8_all (element_at styled.tree path)
    ∙ ap (option_map whole) (sym (found_is ∙ ap (λ (trees : Forest (Keyed Node)). element_at trees path) same))

pub if_some : {A : Type 0} (P : A → Type 0) (o : Option A) (a : A) → o ≡ Some a → P a → IfSome o P
if_some P o a e p = rw e p

pub some_if_none : {A : Type 0} (P : Type 0) (o : Option A) (a : A) → o ≡ Some a → IfNone o P
some_if_none P o a e = rw e tt

pub none_if_some : {A : Type 0} (P : A → Type 0) (o : Option A) → o ≡ None → IfSome o P
none_if_some P o e = rw e tt

-- an element that a path leads to has a name
where_named : (named : Bool) (key found : ℕ) → Some found ≡ (if named then Some key else None) → (named ≡ true) × (found ≡ key)
where_named true key found e = (refl, cc e)
where_named false key found e = absurd (cc e)

some_name : {A : Type 0} (o : Option A) → is_some o ≡ true → IsSome o
some_name None e = absurd (cc e)
some_name (Some a) e = refl

named_from : (document : Forest (Keyed Node)) (key : Option ℕ) (found : ℕ)
    → Some found ≡ option_and_then (λ key. if is_some (name_of document key) then Some key else None) key → IsSome (name_of document found)
named_from document None found e = absurd (cc e)
named_from document (Some key) found e =
    let both = where_named (is_some (name_of document key)) key found e in
    subst (λ key. IsSome (name_of document key)) (sym both.1) (some_name (name_of document key) both.0)

-- what has a name is a node
live_in : (place : Option (Spot Node)) → IsSome (option_and_then node_name (option_map (λ (s : Spot Node). s.label) place)) → IsSome place
live_in None h = absurd (cc h)
live_in (Some place) h = refl

pub named_live : (document : Forest (Keyed Node)) (key : ℕ) → IsSome (name_of document key) → IsLive document key
named_live document key h = live_in (spot_of document key) h

-- the lines of its sources, and those of its counters
pub sources_first : (styled : StyledDocument) (arena_tree : Forest (Keyed Node)) (author : Sheet) (key : ℕ) → arena_tree ≡ styled.tree → author ≡ author_sheet styled.sheet styled.tree
    → encode_utf8_all (source_lines (value_source_at arena_tree agent_sheet author key)) ++ encode_utf8_all (counter_lines styled.tree (fresh_entry styled key))
    ≡ encode_utf8_all (element_account (author_sheet styled.sheet styled.tree) styled.tree key)
unfolding element_account
sources_first styled arena_tree author key same read =
    ap₂ (λ tree author. encode_utf8_all (source_lines (value_source_at tree agent_sheet author key)) ++ encode_utf8_all (counter_lines styled.tree (fresh_entry styled key))) same read
    ∙ sym (encodes-append (source_lines (value_source_at styled.tree agent_sheet (author_sheet styled.sheet styled.tree) key)) (counter_lines styled.tree (fresh_entry styled key)))

pub then_counters : (styled : StyledDocument) (arena_tree : Forest (Keyed Node)) (author : Sheet) (key : ℕ) (entry : NodeEntry) (counters : List Counter)
    → arena_tree ≡ styled.tree → author ≡ author_sheet styled.sheet styled.tree → Some entry ≡ fresh_entry styled key → counters ≡ entry.own
    → encode_utf8_all (source_lines (value_source_at arena_tree agent_sheet author key)) ++ encode_utf8_all (flat_map (counter_line arena_tree) counters)
    ≡ encode_utf8_all (element_account (author_sheet styled.sheet styled.tree) styled.tree key)
then_counters styled arena_tree author key entry counters same read is own =
    let sources = encode_utf8_all (source_lines (value_source_at arena_tree agent_sheet author key)) in
    ap₂ (λ (tree : Forest (Keyed Node)) (some : List Counter). sources ++ encode_utf8_all (flat_map (counter_line tree) some)) same own
    ∙ ap (λ (kept : Option NodeEntry). sources ++ encode_utf8_all (counter_lines styled.tree kept)) is
    ∙ sources_first styled arena_tree author key same read

pub counters_live : EntriesFollowKeys → (styled : StyledDocument) (arena_tree : Forest (Keyed Node)) (key : ℕ) (entry : NodeEntry) (counters : List Counter)
    → arena_tree ≡ styled.tree → IsSome (name_of styled.tree key) → Some entry ≡ fresh_entry styled key → counters ≡ entry.own
    → AllByRecursion (λ (counter : Counter). IsLive arena_tree counter.creator.key) counters
counters_live law styled arena_tree key entry counters same named is own =
    subst (λ (some : List Counter). AllByRecursion (λ (counter : Counter). IsLive arena_tree counter.creator.key) some) (sym own)
    (subst (λ (tree : Forest (Keyed Node)). AllByRecursion (λ (counter : Counter). IsLive tree counter.creator.key) entry.own) (sym same)
    (creators_live law (author_sheet styled.sheet styled.tree) styled.tree key entry (named_live styled.tree key named) is))

root_is : (is_root : Bool) (parent : Option ℕ) → is_some parent ≡ not is_root → is_root ≡ is_none parent
root_is true None e = refl
root_is true (Some parent) e = absurd (cc e)
root_is false None e = absurd (cc e)
root_is false (Some parent) e = refl

-- the sources that are told are those of the document's element
pub sources_told : (tree told_tree : Forest (Keyed Node)) (agent author : Sheet) (key : ℕ) (is_root : Bool) (parent : Option ℕ) (all : List Placed)
    → told_tree ≡ tree → agent ≡ sheet (chars AGENT_SHEET.now) → is_some parent ≡ not is_root → parent ≡ parent_of tree key → all ≡ placed_declarations told_tree key agent author
    → encode_utf8_all (source_lines (λ property. value_source_of is_root property all)) ≡ encode_utf8_all (source_lines (value_source_at tree agent_sheet author key))
unfolding agent_sheet
sources_told tree told_tree agent author key is_root parent all same read root link told =
    ap₂ (λ is_root all. encode_utf8_all (source_lines (λ property. value_source_of is_root property all))) (root_is is_root parent root ∙ ap is_none link)
    (told ∙ ap₂ (λ (tree : Forest (Keyed Node)) (agent : Sheet). placed_declarations tree key agent author) same read)
