use Rattle.std.proofs.Common.{◌≡◌, ◌∙◌, ap, length, map, subst, sym}
use Rattle.bake_book.proofs.BookLaws.{tags_counted}
use Rattle.bake_book.specs.Machinery.{dressed_left}
use Rattle.bake_book.specs.Walks.{dressed_tag, tags_left, tree_tags}
use Rattle.dirty_walk.specs.Books.{fresh_entry}
use Rattle.forest.specs.Forest.{Forest}
use Rattle.forest.specs.Keys.{Keyed}
use Rattle.node_arena.specs.Document.{IsKeyedDocument}
use Rattle.plain_types.specs.declared.node.Node.{Node}
use Rattle.bake_book.proofs.book_tags.BookTags.begin.Goals as goal

pub returns-clause-tags : goal.returns-clause-tags
unfolding dressed_left
returns-clause-tags g c =
    let tree = c.args.book.now.tree in
    let entry_of = fresh_entry c.args.book.now in
    let begins = subst (λ (t : Forest (Keyed Node)). tags_left t c.begin-walk.result ≡ tree_tags t) c.arena-2.ensures.tree c.begin-walk.ensures.left in
    let is = subst (λ (t : Forest (Keyed Node)). IsKeyedDocument t) c.arena.ensures.tree c.arena_holds_document.ensures.document in
    ap (λ tags. length (map (dressed_tag tree entry_of) tags)) (sym c.in_ok-next.ensures.left ∙ begins)
    ∙ ap length (sym (c.walks_give_the_tags.ensures.tags tree entry_of is))
    ∙ tags_counted entry_of tree
