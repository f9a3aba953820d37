use Rattle.node_arena.proofs.EntryLaws.{opened, entry-there, entry-read}
use Rattle.node_arena.proofs.arena.Arena.entry.Goals as goal

pub index-requires : goal.index-requires
index-requires c = entry-there _ _ _ _ (opened c.self.inside.nodes c.self.inside.root c.args.self.now c.self.invariant c.self.view_is).0 c.requires

pub returns-clause-says : goal.returns-clause-says
returns-clause-says c = entry-read _ _ _ _ _ (opened c.self.inside.nodes c.self.inside.root c.args.self.now c.self.invariant c.self.view_is).0 c.requires c.index.ensures

pub returns-clause-document : goal.returns-clause-document
returns-clause-document c = (opened c.self.inside.nodes c.self.inside.root c.args.self.now c.self.invariant c.self.view_is).1
