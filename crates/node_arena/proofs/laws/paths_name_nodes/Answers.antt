use Rattle.forest.proofs.PathLaws.{key_at-path_of, path_of-key_at, path-live}
use Rattle.node_arena.proofs.EntryLaws.{one-tree}
use Rattle.node_arena.proofs.laws.paths_name_nodes.Goals as goal

pub returns-clause-each_node : goal.returns-clause-each_node
returns-clause-each_node c = λ tree document key live. key_at-path_of tree key (one-tree tree document) live

pub returns-clause-each_path : goal.returns-clause-each_path
returns-clause-each_path c = λ tree document path key at. (path-live tree path key at, path_of-key_at tree path key document.distinct at)
