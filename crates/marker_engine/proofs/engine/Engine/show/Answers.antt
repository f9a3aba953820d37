use Rattle.std.proofs.Common.{◌≡◌, OnOk, OnErr, ap, subst}
use Rattle.dump_definitions.specs.Dump.{dump}
use Rattle.dirty_walk.specs.Books.{StyledDocument, fresh_entry}
use Rattle.forest.specs.Forest.{Forest}
use Rattle.forest.specs.Keys.{HasDistinctKeys, Keyed, without_keys}
use Rattle.generated_texts.specs.Laws.{LinesAreThoseOfTheTree}
use Rattle.generated_texts.specs.Lines.{fresh_dump, tree_lines}
use Rattle.plain_types.specs.declared.node.Node.{Node}
use Rattle.ports.specs.Grown.{grown, GrowsByFront}
use Rattle.marker_engine.proofs.engine.Engine.show.Goals as goal

-- the lines of a book are those of a fresh evaluation of its document without keys
fresh : (styled told : StyledDocument) (arena_tree : Forest (Keyed Node)) → LinesAreThoseOfTheTree → styled ≡ told
    → arena_tree ≡ styled.tree → HasDistinctKeys arena_tree → dump (tree_lines styled.tree (fresh_entry styled) styled.tree) ≡ fresh_dump told.sheet (without_keys told.tree)
fresh styled told arena_tree law is same distinct = rw (← is) (ap dump (law styled.sheet styled.tree (subst HasDistinctKeys same distinct)))

pub returns-clause-ok : goal.returns-clause-ok
returns-clause-ok g c =
    subst (λ bytes. OnOk c.put_lines.result (g.O.Sink.out c.put_lines.new.out ≡ grown (g.O.Sink.out c.args.out.now) bytes))
    (fresh c.self.inside.book c.args.self.now c.arena.result.now.tree c.keys_do_not_matter.ensures.tree c.self.view_is c.arena.ensures.tree c.arena_holds_document.ensures.document.distinct)
    c.put_lines.ensures.ok

pub returns-clause-failed : goal.returns-clause-failed
returns-clause-failed g c =
    subst (λ bytes. OnErr c.put_lines.result (GrowsByFront (g.O.Sink.out c.args.out.now) (g.O.Sink.out c.put_lines.new.out) bytes))
    (fresh c.self.inside.book c.args.self.now c.arena.result.now.tree c.keys_do_not_matter.ensures.tree c.self.view_is c.arena.ensures.tree c.arena_holds_document.ensures.document.distinct)
    c.put_lines.ensures.failed
