-- A document has no lines under a silent sheet.
use Rattle.std.proofs.Common.{◌≡◌, ◌++◌, ℕ, List, [], true, Option, Some, None, refl, sym, ap, ap₂, subst, ◌∙◌}
use Rattle.dump_definitions.specs.Dump.{dump}
use Rattle.forest.proofs.PlaceLaws.{without_keys-numbered}
use Rattle.forest.specs.Forest.{Forest, Empty, Tree}
use Rattle.forest.specs.Keys.{Keyed, numbered, without_keys}
use Rattle.plain_types.specs.Tree.{AreSound}
use Rattle.plain_types.specs.declared.box_kind.BoxKind.{BoxKind}
use Rattle.plain_types.specs.declared.box_kind.BoxKind.TheVariants.{Marker, Before, After}
use Rattle.plain_types.specs.declared.node.Node.{Node}
use Rattle.plain_types.specs.declared.sheet.Sheet.{Sheet}
use Rattle.box_eval.specs.Elements.{at_root}
use Rattle.box_eval.specs.Starts.{document_starts}
use Rattle.generated_texts.specs.Documents.{counter_styles, document_evaluation, document_style}
use Rattle.generated_texts.specs.Entries.{document_entries}
use Rattle.generated_texts.specs.Lines.{document_lines, first_lines, fresh_dump, last_lines, lines_of, tree_lines}
use Rattle.generated_texts.specs.References.{kept_at, known_targets}
use Rattle.generated_texts.specs.StyleElements.{author_sheet}
use Rattle.generated_texts.specs.declared.entry.BoxText.{BoxText}
use Rattle.generated_texts.specs.declared.entry.NodeEntry.{NodeEntry}
use Rattle.silent_sheets.specs.Silence.{IsSilent}
use Rattle.silent_sheets.proofs.SilentRecords.{IsBareEntry, all_bare, kept_bare}
use Rattle.silent_sheets.proofs.SilentStyles.{silent_style}

module _ (document : Forest (Keyed Node)) (entry_of : ℕ → Option NodeEntry) (bare : (key : ℕ) → IsBareEntry (entry_of key)) where
  no_line : (key : ℕ) (kind : BoxKind) (box : Option BoxText) → box ≡ None → lines_of document key kind box ≡ []
  no_line key kind box none = ap (lines_of document key kind) none

  no_first : (key : ℕ) (entry : Option NodeEntry) → entry_of key ≡ entry → IsBareEntry entry → first_lines document entry_of key ≡ []
  no_first key None is none = rw is refl
  no_first key (Some entry) is none = rw is (ap₂ (λ a b. a ++ b) (no_line key Marker entry.marker none.0) (no_line key Before entry.before none.1))

  no_last : (key : ℕ) (entry : Option NodeEntry) → entry_of key ≡ entry → IsBareEntry entry → last_lines document entry_of key ≡ []
  no_last key None is none = rw is refl
  no_last key (Some entry) is none = rw is (no_line key After entry.after none.2)

  no_lines : (trees : Forest (Keyed Node)) → tree_lines document entry_of trees ≡ []
  no_lines Empty = refl
  no_lines (Tree node children after) =
      ap₂ (λ a b. a ++ (tree_lines document entry_of children ++ (b ++ tree_lines document entry_of after))) (no_first node.key (entry_of node.key) refl (bare node.key)) (no_last node.key (entry_of node.key) refl (bare node.key))
      ∙ ap₂ (λ a b. a ++ b) (no_lines children) (no_lines after)

-- nothing is kept of markers, before and after boxes
pub silent_entries : (author : Sheet) (document : Forest (Keyed Node)) (key : ℕ) → AreSound (without_keys document) → IsSilent author → IsBareEntry (kept_at (document_entries author document) key)
silent_entries author document key sound silent =
    let table = counter_styles author in
    let style = document_style author document in
    let elements = document_evaluation author document in
    kept_bare table (known_targets table document elements) elements key
    (all_bare table style (document_starts table style document) document true None at_root (λ other parent has. silent_style author document other parent silent sound has))

pub silent_lines : (sheet_text : List ℕ) (tree : Forest Node) → AreSound tree → IsSilent (author_sheet sheet_text (numbered 0 tree)) → document_lines sheet_text tree ≡ []
unfolding document_lines
silent_lines sheet_text tree sound silent =
    let document = numbered 0 tree in
    let author = author_sheet sheet_text document in
    no_lines document (kept_at (document_entries author document))
    (λ key. silent_entries author document key (subst AreSound (sym (without_keys-numbered 0 tree)) sound) silent)
    document

pub silent_dump : (sheet_text : List ℕ) (tree : Forest Node) → AreSound tree → IsSilent (author_sheet sheet_text (numbered 0 tree)) → fresh_dump sheet_text tree ≡ []
silent_dump sheet_text tree sound silent = ap dump (silent_lines sheet_text tree sound silent)
