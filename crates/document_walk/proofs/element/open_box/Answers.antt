use Rattle.document_walk.proofs.OpeningLemmas.{made_opened, new_first}
use Rattle.document_walk.proofs.element.open_box.Goals as goal

pub eval_element-requires-clause-new : goal.eval_element-requires-clause-new
eval_element-requires-clause-new g c = new_first c.args.key c.in_ok-starts.starts c.args.around.now c.args.style.now c.in_ok-inputs.inputs c.in_ok-inputs.ensures.inputs c.requires.new

pub returns-clause-opened : goal.returns-clause-opened
returns-clause-opened g c =
    made_opened c.args.sources.now.table.now (g.T.Starts.starts c.args.sources.now.starts.now) c.args.sources.now.arena.now.tree c.args.key c.args.style.now c.args.around.now c.in_ok-starts.starts c.attrs-attrs.result.now c.in_ok-inputs.inputs c.in_ok-entry.entry
    c.in_ok-starts.ensures.starts c.in_ok-inputs.ensures.inputs c.attrs-attrs.ensures c.in_ok-entry.ensures.by_parent
