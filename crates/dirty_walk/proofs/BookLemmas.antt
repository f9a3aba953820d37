-- What is kept of a document's elements is what a fresh evaluation keeps.
use Rattle.std.proofs.Common.{◌≡◌, ℕ, ℤ, List, ap, ◌∙◌}
use Rattle.std.specs.Prelude.{option_map}
use Rattle.forest.specs.Forest.{Forest}
use Rattle.forest.specs.Keys.{HasDistinctKeys, Keyed}
use Rattle.plain_types.specs.declared.box_id.BoxId.{BoxId}
use Rattle.plain_types.specs.declared.node.Node.{Node}
use Rattle.plain_types.specs.declared.sheet.Sheet.{Sheet}
use Rattle.mini_cascade.specs.Styles.{element_style}
use Rattle.box_eval.specs.Evaluation.{styled}
use Rattle.generated_texts.specs.Documents.{agent_sheet, counter_styles}
use Rattle.generated_texts.specs.References.{known_targets}
use Rattle.generated_texts.specs.StyleElements.{author_sheet}
use Rattle.surroundings.specs.declared.told.Told.{Told}
use Rattle.surroundings.specs.Laws.{told_document}
use Rattle.reference_reach.specs.ToldLaws.{told_with}
use Rattle.dirty_walk.specs.declared.document_styles.DocumentStyles.{DocumentStyles}
use Rattle.dirty_walk.specs.DocumentStyles.{document_styles, read_styles}
use Rattle.kept_elements.specs.declared.kept.Kept.{Kept}
use Rattle.kept_elements.proofs.ToldLemmas.{entry_in}
use Rattle.dirty_walk.specs.Books.{Keeps, KeepsAll, StyledDocument}
use Rattle.kept_elements.specs.Evaluations.{all_kept_of, document_kept, document_told}
use Rattle.referring_elements.specs.References.{said_of}

-- what a walk with these starts tells
pub walk_told : (tree : Forest (Keyed Node)) (agent : Sheet) (styles : DocumentStyles) (text : List ℕ) (start : BoxId → List ℕ → ℤ) → agent ≡ agent_sheet → styles ≡ document_styles text tree
    → told_document styles.table (styled (element_style tree agent styles.author) start tree) ≡ told_with (record { tree = tree; sheet = text }) start
unfolding read_styles
walk_told tree agent styles text start is_agent are_styles =
    ap (λ (a : Sheet). told_document styles.table (styled (element_style tree a styles.author) start tree)) is_agent
    ∙ ap (λ (s : DocumentStyles). told_document s.table (styled (element_style tree agent_sheet s.author) start tree)) are_styles

pub kept_are : (tree : Forest (Keyed Node)) (styles : DocumentStyles) (told : List (ℕ × Told)) (text : List ℕ) → styles ≡ document_styles text tree
    → told ≡ document_told (author_sheet text tree) tree
    → all_kept_of styles.table (known_targets styles.table tree (said_of told)) told ≡ document_kept (author_sheet text tree) tree
unfolding read_styles
kept_are tree styles told text are_styles are_told =
    ap (λ (s : DocumentStyles). all_kept_of s.table (known_targets s.table tree (said_of told)) told) are_styles
    ∙ ap (λ (t : List (ℕ × Told)). all_kept_of (counter_styles (author_sheet text tree)) (known_targets (counter_styles (author_sheet text tree)) tree (said_of t)) t) are_told

-- where all is kept, the entries are
pub keeps_entries : (styled : StyledDocument) → HasDistinctKeys styled.tree → KeepsAll styled → Keeps styled
keeps_entries styled distinct keeps key = ap (option_map (λ (kept : Kept). kept.entry)) (keeps key) ∙ entry_in (author_sheet styled.sheet styled.tree) styled.tree distinct key
