use Rattle.plain_types.specs.declared.node.Node.{Node}
use Rattle.start_reach.proofs.ClimbLaws.{ways_are_climbed}
use Rattle.start_reach.proofs.LawLemmas.{turned_keep_forests}
use Rattle.start_reach.proofs.WayLaws.{turned_elements_stop}
use Rattle.start_reach.proofs.laws.elements_are_turned.Goals as goal

pub returns : goal.returns
returns c = record { forests = turned_keep_forests; stops = turned_elements_stop Node; ways = ways_are_climbed Node }
