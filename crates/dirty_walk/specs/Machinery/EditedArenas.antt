-- What an edit has made of a document and its sheet (our own).
use Rattle.std.specs.Prelude.{ℕ, List}
use Rattle.plain_types.specs.declared.sheet.Sheet.{Sheet}
use Rattle.node_arena.specs.Edits.{edited_sheet}
use Rattle.generated_texts.specs.StyleElements.{author_sheet}
use Rattle.edit_work.specs.KeyedSources.{KeyedSource}
use Rattle.dirty_walk.specs.declared.document_styles.DocumentStyles.{DocumentStyles}
use Rattle.dirty_walk.specs.declared.edited_arena.EditedArena.{EditedArena}
use Rattle.kept_elements.specs.declared.kept.Kept.{Kept}
use Rattle.dirty_walk.specs.DocumentStyles.{document_styles}
use Rattle.kept_elements.specs.Evaluations.{document_kept, evaluated_document}
use Rattle.reference_reach.specs.ChangedTargets.{Evaluated}

module _ (document : EditedArena) where
  -- the text of the sheet
  abbrev pub sheet_after : List ℕ
  sheet_after = edited_sheet document.edit.now document.styles.now.sheet

  abbrev pub source_after : KeyedSource
  source_after = record { tree = document.arena.now.tree; sheet = sheet_after }

  abbrev pub author_after : Sheet
  author_after = author_sheet sheet_after document.arena.now.tree

  abbrev pub styles_after : DocumentStyles
  styles_after = document_styles sheet_after document.arena.now.tree

  -- what a fresh evaluation keeps of the elements
  abbrev pub kept_after : List (ℕ × Kept)
  kept_after = document_kept author_after document.arena.now.tree

  -- and what it says of them
  abbrev pub evaluated_after : Evaluated
  evaluated_after = evaluated_document author_after document.arena.now.tree
