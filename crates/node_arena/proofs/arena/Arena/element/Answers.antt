use Rattle.std.proofs.Common.{Some, sym, ap, ◌∙◌}
use Rattle.forest.proofs.PathLaws.{path-live}
use Rattle.node_arena.proofs.PrepareLaws.{text-there}
use Rattle.node_arena.proofs.arena.Arena.element.Goals as goal

pub entry-requires : goal.entry-requires
entry-requires c = path-live c.args.self.now.tree c.args.path.now c.in-Some.key c.in-Some.ensures.key

pub unreachable-requires-in-Text : goal.unreachable-requires-in-Text
unreachable-requires-in-Text c = text-there c.args.self.now.tree c.args.path.now c.in-Text.field-0 c.in-Some.key c.entry.ensures.document c.in-Some.ensures.key (ap Some (sym c.in-Text.is) ∙ c.entry.ensures.says.node) c.requires
