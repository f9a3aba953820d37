use Rattle.std.proofs.Common.{sym, ap, ◌∙◌}
use Rattle.node_arena.specs.Nodes.{attr_of}
use Rattle.edit_inverses.proofs.NodeFacts.{no_value, value_found}
use Rattle.edit_inverses.proofs.inverse.value_at.Goals as goal

pub returns-in-Some : goal.returns-in-Some
returns-in-Some c =
    let tree = c.args.arena.now.tree in
    record {
      value =
          c.attr.ensures.characters
          ∙ ap (attr_of tree c.in-Some.key) c.as_str.ensures.characters
          ∙ value_found tree c.args.path.now c.in-Some.key c.args.name.now c.arena_holds_document.ensures.document.distinct (sym c.in-Some.ensures.link);
    }

pub returns-in-None : goal.returns-in-None
returns-in-None c = record { value = sym (no_value c.args.arena.now.tree c.args.path.now c.args.name.now (sym c.in-None.ensures.link)) }
