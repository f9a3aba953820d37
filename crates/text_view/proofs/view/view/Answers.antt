use Rattle.std.proofs.Common.{◌≡◌, ◌≤◌, ◌+◌, OnOk, OnErr, ap, encode_utf8_all, subst}
use Rattle.dirty_walk.specs.Books.{StyledDocument, fresh_entry}
use Rattle.document_walk.specs.Elements.{element_count}
use Rattle.forest.specs.Forest.{Forest}
use Rattle.forest.specs.Keys.{HasDistinctKeys, Keyed, without_keys}
use Rattle.generated_texts.specs.Laws.{EachKeyingIsAnother, EntriesFollowKeys, SheetsKeepNoKeys}
use Rattle.plain_types.specs.declared.node.Node.{Node}
use Rattle.ports.specs.Grown.{grown, GrowsByFront}
use Rattle.text_view.specs.Lines.{lines}
use Rattle.text_view.specs.Views.{text_view, tree_pieces}
use Rattle.text_view.proofs.KeyLaws.{pieces_of_tree}
use Rattle.text_view.proofs.view.view.Goals as goal

-- the lines of a book are those of its document without keys
fresh : (styled told : StyledDocument) (arena_tree : Forest (Keyed Node)) → EachKeyingIsAnother → SheetsKeepNoKeys → EntriesFollowKeys → styled ≡ told
    → arena_tree ≡ styled.tree → HasDistinctKeys arena_tree → encode_utf8_all (lines (tree_pieces (fresh_entry styled) styled.tree)) ≡ text_view told.sheet (without_keys told.tree)
fresh styled told arena_tree keyings sheets entries is same distinct =
    rw (← is) (ap (λ pieces. encode_utf8_all (lines pieces)) (pieces_of_tree keyings sheets entries styled.sheet styled.tree (subst HasDistinctKeys same distinct)))

pub returns-clause-ok : goal.returns-clause-ok
returns-clause-ok g c =
    subst (λ bytes. OnOk c.put_view.result (g.O.Sink.out c.put_view.new.out ≡ grown (g.O.Sink.out c.args.out.now) bytes))
    (fresh c.book-book.result.now c.args.engine.now c.arena.result.now.tree c.keys_do_not_matter.ensures.keyings c.keys_do_not_matter.ensures.sheets c.keys_do_not_matter.ensures.entries
    c.book-book.ensures.book c.arena.ensures.tree c.arena_holds_document.ensures.document.distinct)
    c.put_view.ensures.ok

pub returns-clause-failed : goal.returns-clause-failed
returns-clause-failed g c =
    subst (λ bytes. OnErr c.put_view.result (GrowsByFront (g.O.Sink.out c.args.out.now) (g.O.Sink.out c.put_view.new.out) bytes))
    (fresh c.book-book.result.now c.args.engine.now c.arena.result.now.tree c.keys_do_not_matter.ensures.keyings c.keys_do_not_matter.ensures.sheets c.keys_do_not_matter.ensures.entries
    c.book-book.ensures.book c.arena.ensures.tree c.arena_holds_document.ensures.document.distinct)
    c.put_view.ensures.failed

pub returns-clause-steps : goal.returns-clause-steps
returns-clause-steps g c =
    subst (λ (styled : StyledDocument). c.put_view.new.steps ≤ c.args.steps.now + element_count (without_keys styled.tree)) c.book-book.ensures.book c.put_view.ensures.steps
