use Rattle.std.proofs.Common.{◌∙◌, ap, arith, inl, inr, subst}
use Rattle.marker_engine.specs.Engines.{source_of}
use Rattle.marker_cli.specs.EditSteps.{start_steps}
use Rattle.marker_cli.proofs.GeneratedLemmas.{generated_element}
use Rattle.marker_cli.proofs.StepLemmas.{most_of_generated}
use Rattle.dirty_walk.specs.Books.{keyed_source}
use Rattle.marker_cli.specs.WorkSteps.{EditsTake}
use Rattle.marker_cli.proofs.generated.generated.Goals as goal

pub start-requires : goal.start-requires
start-requires g c = record { element = generated_element c.args.seed c.args.count _ c.in_ok-document.ensures.document }

pub returns-clause-steps : goal.returns-clause-steps
returns-clause-steps g c =
    let most = most_of_generated c.args.seed c.args.count (source_of c.in_ok-engine.engine) c.as_slice.result.now
    (c.in_ok-engine.ensures.tree ∙ c.in_ok-document.ensures.document)
    (c.in_ok-engine.ensures.sheet ∙ c.as_str.ensures.characters ∙ c.in_ok-document.ensures.sheet)
    (c.as_slice.ensures.items ∙ c.in_ok-document.ensures.edits) in
    let same = ap start_steps c.in_ok-engine.ensures.tree in
    omega (arith, most, same, c.in_ok-engine.ensures.steps, c.put_outcome.ensures.steps)

pub returns-in_err-document-clause-within_work : goal.returns-in_err-document-clause-within_work
returns-in_err-document-clause-within_work g c = inl (omega arith)

pub returns-in_err-engine-clause-within_work : goal.returns-in_err-engine-clause-within_work
returns-in_err-engine-clause-within_work g c =
    let same = ap start_steps c.in_ok-document.ensures.document in inl (omega (arith, same, c.in_err-engine.ensures.steps))

pub returns-clause-within_work : goal.returns-clause-within_work
returns-clause-within_work g c =
    let tree_is = c.in_ok-engine.ensures.tree ∙ c.in_ok-document.ensures.document in
    let sheet_is = c.in_ok-engine.ensures.sheet ∙ c.as_str.ensures.characters ∙ c.in_ok-document.ensures.sheet in
    let edits_is = c.as_slice.ensures.items ∙ c.in_ok-document.ensures.edits in
    let all = c.put_outcome.ensures.takes in
    let start = ap start_steps c.in_ok-document.ensures.document in
    inr (record {
      source = keyed_source c.in_ok-engine.engine;
      keyed = c.engine_holds_document.ensures;
      version_is = λ i. record { document = tree_is i; sheet = sheet_is i };
      taken = all.0;
      takes = subst (λ edits. EditsTake edits (keyed_source c.in_ok-engine.engine) all.0) edits_is all.1;
      all = omega (arith, start, c.in_ok-engine.ensures.steps, all.2);
    })
