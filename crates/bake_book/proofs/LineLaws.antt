-- The insertions of a document are the texts of its dump.
use Rattle.std.proofs.Common.{◌≡◌, ℕ, ◌+◌, List, [], ◌∷◌, ◌++◌, Option, Some, None, refl, sym, ap, ◌∙◌, append_assoc, append-nil}
use Rattle.std.proofs.lemmas.Grind.{flat_map-append}
use Rattle.std.specs.List.{flat_map}
use Rattle.std.specs.Prelude.{is_some, option_and_then}
use Rattle.bake_definitions.specs.Baked.{without_insertions}
use Rattle.bake_definitions.specs.Insertions.{Insertion}
use Rattle.bake_definitions.specs.Tags.{Tag, tag, tags_of, tags_round}
use Rattle.bake_book.proofs.SpotWalks.{OfEachNode, each_by_spots}
use Rattle.bake_book.specs.Dressing.{box_insertions, dressed_document, dressed_trees, first_insertions, insertion_of_line, insertions_of, last_insertions}
use Rattle.dump_definitions.specs.Dump.{Line}
use Rattle.forest.proofs.PlaceLaws.{distinct-numbered}
use Rattle.forest.specs.Forest.{Forest, Empty, Tree, size}
use Rattle.forest.specs.Keys.{HasDistinctKeys, Keyed, numbered}
use Rattle.forest.specs.Spots.{Spot}
use Rattle.generated_texts.specs.Entries.{document_entries}
use Rattle.generated_texts.specs.Laws.{EntriesHaveKeysOfElements}
use Rattle.generated_texts.specs.Lines.{document_lines, first_lines, last_lines, lines_of, tree_lines}
use Rattle.generated_texts.specs.References.{kept_at}
use Rattle.generated_texts.specs.StyleElements.{author_sheet}
use Rattle.generated_texts.specs.declared.entry.BoxText.{BoxText}
use Rattle.generated_texts.specs.declared.entry.NodeEntry.{NodeEntry}
use Rattle.node_arena.specs.Nodes.{name_of, node_name}
use Rattle.plain_types.specs.declared.box_kind.BoxKind.{BoxKind}
use Rattle.plain_types.specs.declared.box_kind.BoxKind.TheVariants.{Marker, Before, After}
use Rattle.plain_types.specs.declared.node.Node.{Node}
use Rattle.plain_types.specs.declared.node.Node.TheVariants.{Element, Text}

-- A text has no entry.

abbrev TextHasNone : (ℕ → Option NodeEntry) → ℕ → Node → Type 0
TextHasNone entry_of key node = node_name node ≡ None → entry_of key ≡ None

abbrev TextsHaveNone : (ℕ → Option NodeEntry) → Forest (Keyed Node) → Type 0
TextsHaveNone entry_of trees = OfEachNode (TextHasNone entry_of) trees

no_entry : {E : Type 0} (entry : Option E) (name : Option (List ℕ)) → is_some entry ≡ is_some name → name ≡ None → entry ≡ None
no_entry None name same none = refl
no_entry (Some entry) None same none = absurd cc
no_entry (Some entry) (Some name) same none = absurd cc

texts_have_none : EntriesHaveKeysOfElements → (sheet_text : List ℕ) (document : Forest (Keyed Node)) → HasDistinctKeys document
    → TextsHaveNone (kept_at (document_entries (author_sheet sheet_text document) document)) document
texts_have_none law sheet_text document distinct =
    each_by_spots (TextHasNone (kept_at (document_entries (author_sheet sheet_text document) document))) None [] document distinct
    (λ key s is none. no_entry _ (name_of document key) (law (author_sheet sheet_text document) document key distinct) (ap (λ o. option_and_then node_name (named o)) is ∙ none))
  where
    named : Option (Spot Node) → Option Node
    named None = None
    named (Some s) = Some s.label

-- Lines.

abbrev told : List Line → List Insertion
told lines = flat_map insertion_of_line lines

box_told : (document : Forest (Keyed Node)) (key : ℕ) (kind : BoxKind) (box : Option BoxText) → told (lines_of document key kind box) ≡ box_insertions kind box
box_told document key kind None = refl
box_told document key kind (Some text) = append-nil (box_insertions kind (Some text))

first_told : (document : Forest (Keyed Node)) (entry_of : ℕ → Option NodeEntry) (key : ℕ) (entry : Option NodeEntry) → entry_of key ≡ entry → told (first_lines document entry_of key) ≡ first_insertions entry
first_told document entry_of key None is = rw is refl
first_told document entry_of key (Some entry) is =
    rw is (flat_map-append insertion_of_line (lines_of document key Marker entry.marker) (lines_of document key Before entry.before)
    ∙ ap (λ t. t ++ told (lines_of document key Before entry.before)) (box_told document key Marker entry.marker)
    ∙ ap (λ t. box_insertions Marker entry.marker ++ t) (box_told document key Before entry.before))

last_told : (document : Forest (Keyed Node)) (entry_of : ℕ → Option NodeEntry) (key : ℕ) (entry : Option NodeEntry) → entry_of key ≡ entry → told (last_lines document entry_of key) ≡ last_insertions entry
last_told document entry_of key None is = rw is refl
last_told document entry_of key (Some entry) is = rw is (box_told document key After entry.after)

abbrev at_tags : List Tag → List Insertion
at_tags tags = flat_map (λ (t : Tag). t.insertions) tags

round_told : (node : Node) (first last : List Insertion) (inside : List Tag) → (node_name node ≡ None → (first ≡ []) × (last ≡ [])) → at_tags (tags_round node first last inside) ≡ first ++ (at_tags inside ++ last)
round_told (Text characters) first last inside none =
    let n = none refl in
    sym (append-nil (at_tags inside)) ∙ ap (λ t. at_tags inside ++ t) (sym n.1) ∙ ap (λ t. t ++ (at_tags inside ++ last)) (sym n.0)
round_told (Element name attrs) first last inside none =
    ap (λ t. first ++ t) (flat_map-append (λ (t : Tag). t.insertions) inside (tag name last ∷ []) ∙ ap (λ t. at_tags inside ++ t) (append-nil last))

lines_told : (document : Forest (Keyed Node)) (entry_of : ℕ → Option NodeEntry) (trees : Forest (Keyed Node)) → TextsHaveNone entry_of trees
    → insertions_of (dressed_trees entry_of trees) ≡ told (tree_lines document entry_of trees)
lines_told document entry_of Empty none = refl
lines_told document entry_of (Tree node children after) none =
    let entry = entry_of node.key in
    let inside = tags_of (dressed_trees entry_of children) in
    let rest = tags_of (dressed_trees entry_of after) in
    let bare : node_name node.label ≡ None → (first_insertions entry ≡ []) × (last_insertions entry ≡ []) = λ text. (ap first_insertions (none.0 text), ap last_insertions (none.0 text)) in
    flat_map-append (λ (t : Tag). t.insertions) (tags_round node.label (first_insertions entry) (last_insertions entry) inside) rest
    ∙ ap (λ t. t ++ at_tags rest) (round_told node.label (first_insertions entry) (last_insertions entry) inside bare)
    ∙ append_assoc (first_insertions entry) (at_tags inside ++ last_insertions entry) (at_tags rest)
    ∙ ap (λ t. first_insertions entry ++ t) (append_assoc (at_tags inside) (last_insertions entry) (at_tags rest))
    ∙ ap (λ t. t ++ (at_tags inside ++ (last_insertions entry ++ at_tags rest))) (sym (first_told document entry_of node.key entry refl))
    ∙ ap (λ t. told (first_lines document entry_of node.key) ++ (t ++ (last_insertions entry ++ at_tags rest))) (lines_told document entry_of children none.1.0)
    ∙ ap (λ t. told (first_lines document entry_of node.key) ++ (told (tree_lines document entry_of children) ++ (t ++ at_tags rest))) (sym (last_told document entry_of node.key entry refl))
    ∙ ap (λ t. told (first_lines document entry_of node.key) ++ (told (tree_lines document entry_of children) ++ (told (last_lines document entry_of node.key) ++ t))) (lines_told document entry_of after none.1.1)
    ∙ sym (
    flat_map-append insertion_of_line (first_lines document entry_of node.key) (tree_lines document entry_of children ++ (last_lines document entry_of node.key ++ tree_lines document entry_of after))
    ∙ ap (λ t. told (first_lines document entry_of node.key) ++ t)
    (flat_map-append insertion_of_line (tree_lines document entry_of children) (last_lines document entry_of node.key ++ tree_lines document entry_of after)
    ∙ ap (λ t. told (tree_lines document entry_of children) ++ t) (flat_map-append insertion_of_line (last_lines document entry_of node.key) (tree_lines document entry_of after)))
    )

pub document_told : EntriesHaveKeysOfElements → (sheet_text : List ℕ) (tree : Forest Node) → insertions_of (dressed_document sheet_text tree) ≡ flat_map insertion_of_line (document_lines sheet_text tree)
unfolding dressed_document document_lines
document_told law sheet_text tree =
    let document = numbered 0 tree in
    lines_told document (kept_at (document_entries (author_sheet sheet_text document) document)) document (texts_have_none law sheet_text document (distinct-numbered 0 tree))

-- Without insertions.

same_nodes : (entry_of : ℕ → Option NodeEntry) (place : ℕ) (tree : Forest Node) → without_insertions (dressed_trees entry_of (numbered place tree)) ≡ tree
same_nodes entry_of place Empty = refl
same_nodes entry_of place (Tree node children after) =
    ap (λ t. Tree node t (without_insertions (dressed_trees entry_of (numbered (place + 1 + size children) after)))) (same_nodes entry_of (place + 1) children)
    ∙ ap (λ t. Tree node children t) (same_nodes entry_of (place + 1 + size children) after)

pub document_stays : (sheet_text : List ℕ) (tree : Forest Node) → without_insertions (dressed_document sheet_text tree) ≡ tree
unfolding dressed_document
document_stays sheet_text tree = same_nodes _ 0 tree
