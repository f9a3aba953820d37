use Rattle.std.proofs.Common.{sym, ◌∙◌}
use Rattle.forest.proofs.PathLaws.{path-live}
use Rattle.node_arena.proofs.PrepareLaws.{inner-parent, has-place}
use Rattle.node_arena.proofs.arena.Arena.inner.Goals as goal

pub parent-requires : goal.parent-requires
parent-requires c = path-live c.args.self.now.tree c.args.path.now c.in-Some.key c.in-Some.ensures.key

pub unreachable-requires-in_default-parent : goal.unreachable-requires-in_default-parent
unreachable-requires-in_default-parent c = inner-parent c.args.self.now.tree c.args.path.now c.in-Some.key c.arena_holds_document.ensures.document c.in-Some.ensures.key c.requires (sym c.parent.ensures.link ∙ c.in_default-parent.is)

pub returns : goal.returns
returns c = record {
  key = c.in-Some.ensures.key;
  place = has-place c.args.self.now.tree c.in-Some.key _ c.arena_holds_document.ensures.document (path-live c.args.self.now.tree c.args.path.now c.in-Some.key c.in-Some.ensures.key) (sym c.in-Some-parent.ensures.link) (sym c.index_of-index.ensures);
  document = c.arena_holds_document.ensures.document;
}
