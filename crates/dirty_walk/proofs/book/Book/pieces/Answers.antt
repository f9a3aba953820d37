use Rattle.std.proofs.Common.{◌≡◌, ◌∙◌, ap, subst}
use Rattle.std.specs.Option.{option_and_then}
use Rattle.forest.specs.Forest.{Forest}
use Rattle.forest.specs.Keys.{Keyed, HasDistinctKeys}
use Rattle.plain_types.specs.declared.node.Node.{Node}
use Rattle.generated_texts.specs.StyleElements.{author_sheet}
use Rattle.kept_elements.specs.declared.kept.Kept.{Kept}
use Rattle.dirty_walk.specs.Books.{StyledDocument, fresh_kept}
use Rattle.dirty_walk.specs.Machinery.KeptPieces.{kept_pieces}
use Rattle.dirty_walk.proofs.PiecesLemmas.{pieces_kept}
use Rattle.dirty_walk.proofs.book.Book.pieces.Goals as goal

pub returns-clause-pieces : goal.returns-clause-pieces
returns-clause-pieces g c =
    let tree : c.self.inside.arena.tree ≡ c.args.self.now.tree = ap (λ (styled : StyledDocument). styled.tree) c.self.view_is in
    c.kept_pieces.ensures.pieces
    ∙ ap (option_and_then (λ (kept : Kept). kept_pieces kept c.args.kind))
    (c.get.ensures.value
    ∙ c.self.invariant.kept (ap (λ (styled : StyledDocument). styled.settled) c.self.view_is ∙ c.requires.settled) c.args.key
    ∙ ap (λ (styled : StyledDocument). fresh_kept styled c.args.key) c.self.view_is)
    ∙ pieces_kept (author_sheet c.args.self.now.sheet c.args.self.now.tree) c.args.self.now.tree
    (subst (λ (t : Forest (Keyed Node)). HasDistinctKeys t) tree c.arena_holds_document.ensures.document.distinct)
    c.args.kind c.args.key
