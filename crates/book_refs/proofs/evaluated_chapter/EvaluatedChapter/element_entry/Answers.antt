use Rattle.std.proofs.Common.{◌≡◌, ◌∙◌, ap, subst, sym}
use Rattle.std.specs.Prelude.{IsSome}
use Rattle.book_definitions.specs.Chapters.{Chapter}
use Rattle.dirty_walk.specs.Books.{StyledDocument, fresh_entry}
use Rattle.forest.specs.Forest.{Forest}
use Rattle.forest.specs.Keys.{Keyed}
use Rattle.node_arena.specs.Nodes.{name_of}
use Rattle.plain_types.specs.declared.node.Node.{Node}
use Rattle.book_refs.specs.Machinery.VolumeBoxes.{entry_alone}
use Rattle.book_refs.proofs.evaluated_chapter.EvaluatedChapter.element_entry.Goals as goal

pub entry-requires-clause-element : goal.entry-requires-clause-element
entry-requires-clause-element g c =
    let same : c.book.result.now.tree ≡ c.args.self.now.document = ap (λ (styled : StyledDocument). styled.tree) c.book.ensures.book ∙ ap (λ (chapter : Chapter). chapter.document) c.self.view_is in
    subst (λ (t : Forest (Keyed Node)). IsSome (name_of t c.args.key)) (sym same) c.requires.element

pub returns-clause-entry : goal.returns-clause-entry
returns-clause-entry g c =
    c.entry.ensures.entry ∙ ap (λ (styled : StyledDocument). fresh_entry styled c.args.key) c.book.ensures.book ∙ ap (λ (chapter : Chapter). entry_alone chapter c.args.key) c.self.view_is
