use Rattle.std.proofs.Common.{◌≡◌, ◌∙◌, ap, length, subst}
use Rattle.dirty_walk.specs.Books.{StyledDocument}
use Rattle.forest.specs.Forest.{Forest}
use Rattle.forest.specs.Keys.{HasDistinctKeys, Keyed, without_keys}
use Rattle.generated_texts.specs.Laws.{EachKeyingIsAnother, EntriesFollowKeys, LinesAreThoseOfTheTree, SheetsKeepNoKeys}
use Rattle.generated_texts.specs.Lines.{document_lines, keyed_lines}
use Rattle.plain_types.specs.declared.node.Node.{Node}
use Rattle.document_walk.specs.Elements.{element_count}
use Rattle.marker_engine.specs.Census.{box_count, keyed_box_count, saturated}
use Rattle.marker_engine.proofs.RekeyedCounts.{boxes_of_tree}
use Rattle.marker_engine.proofs.engine.Engine.census.Goals as goal

module _ (styled told : StyledDocument) (arena_tree : Forest (Keyed Node)) (is : styled ≡ told) (same : arena_tree ≡ styled.tree) (distinct : HasDistinctKeys arena_tree) where
  fresh_lines : LinesAreThoseOfTheTree → length (keyed_lines styled.sheet styled.tree) ≡ length (document_lines told.sheet (without_keys told.tree))
  fresh_lines law =
      ap (λ lines. length lines) (law styled.sheet styled.tree (subst HasDistinctKeys same distinct))
      ∙ ap (λ (book : StyledDocument). length (document_lines book.sheet (without_keys book.tree))) is

  fresh_boxes : EachKeyingIsAnother → SheetsKeepNoKeys → EntriesFollowKeys → keyed_box_count styled.sheet styled.tree ≡ box_count told.sheet (without_keys told.tree)
  fresh_boxes keyings sheets law =
      boxes_of_tree keyings sheets law styled.sheet styled.tree (subst HasDistinctKeys same distinct)
      ∙ ap (λ (book : StyledDocument). box_count book.sheet (without_keys book.tree)) is

pub returns-clause-elements : goal.returns-clause-elements
returns-clause-elements g c = c.census_of.ensures.elements ∙ ap (λ (book : StyledDocument). saturated (element_count (without_keys book.tree))) c.self.view_is

pub returns-clause-boxes : goal.returns-clause-boxes
returns-clause-boxes g c =
    c.census_of.ensures.boxes
    ∙ ap saturated (fresh_boxes c.self.inside.book c.args.self.now c.arena.result.now.tree c.self.view_is c.arena.ensures.tree c.arena_holds_document.ensures.document.distinct
    c.keys_do_not_matter.ensures.keyings c.keys_do_not_matter.ensures.sheets c.keys_do_not_matter.ensures.entries)

pub returns-clause-lines : goal.returns-clause-lines
returns-clause-lines g c =
    c.census_of.ensures.lines
    ∙ ap saturated (fresh_lines c.self.inside.book c.args.self.now c.arena.result.now.tree c.self.view_is c.arena.ensures.tree c.arena_holds_document.ensures.document.distinct
    c.keys_do_not_matter.ensures.tree)
