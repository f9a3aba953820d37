use Rattle.std.proofs.Common.{arith}
use Rattle.slab.specs.Slab.{get}
use Rattle.node_arena.proofs.ChildLaws.{contained, contains, freed, kept}
use Rattle.node_arena.proofs.children.free.Goals as goal

pub loop-key-preserved : goal.loop-key-preserved
loop-key-preserved c =
    let updates = c.try_remove-entry.ensures.updates in
    record {
      gone = freed (get c.args.nodes.now) (get c.loop-key.nodes) (get c.try_remove-entry.new.self) c.args.keys.now c.loop-key.key-index c.loop-key-test.true updates.changed updates.others c.loop-key.invariant.gone;
      others = kept (get c.args.nodes.now) (get c.loop-key.nodes) (get c.try_remove-entry.new.self) c.args.keys.now c.loop-key.key-index c.loop-key-test.true updates.others c.loop-key.invariant.others;
    }

pub returns-clause-gone : goal.returns-clause-gone
returns-clause-gone c = λ key h.
    let at = contained c.args.keys.now key h in
    c.loop-key.invariant.gone at.0 key (omega (arith, at.1, c.loop-key-test.false)) at.2

pub returns-clause-others : goal.returns-clause-others
returns-clause-others c = λ key none. c.loop-key.invariant.others key (λ at low is. none (contains c.args.keys.now at key is))
