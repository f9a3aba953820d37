use Rattle.std.proofs.Common.{◌∙◌, ℕ, ap}
use Rattle.std.specs.List.{list_any}
use Rattle.surroundings.specs.declared.told.Told.{Told}
use Rattle.surroundings.specs.StyledEvaluators.{root_surroundings}
use Rattle.surroundings.proofs.Asking.{asks-all}
use Rattle.document_walk.specs.Catching.{document_of, reading}
use Rattle.document_walk.proofs.evaluate.evaluate.Goals as goal

pub returns-clause-asks : goal.returns-clause-asks
returns-clause-asks g c =
    let from = reading g.T.Starts.starts c.args.sources.now in
    c.any_asks-asks.ensures.test
    ∙ ap (list_any (λ (entry : ℕ × Told). entry.1.asks)) (c.as_slice.ensures.items ∙ c.in_ok-walk.ensures.told)
    ∙ asks-all from.table (document_of from) root_surroundings
