use Rattle.std.proofs.Common.{◌∙◌, ◌∷◌, ◌++◌, [], Option, ap}
use Rattle.box_eval.specs.declared.element_record.ElementRecord.{ElementRecord}
use Rattle.box_eval.specs.declared.made.Made.{Made}
use Rattle.box_eval.specs.Evaluation.{changes_in}
use Rattle.document_walk.specs.Catching.{past_by, reading, said_by, with_changes}
use Rattle.document_walk.proofs.catching.Catching.leave.Goals as goal

pub returns-clause-left : goal.returns-clause-left
returns-clause-left g c =
    let from = reading g.T.Starts.starts c.args.sources.now in
    let walk = c.args.self.now in
    let frame = c.args.frame in
    let left = c.in_ok-left.left in
    let said = c.in_ok-left.ensures.said ∙ ap (said_by from frame.key frame.opened) c.as_ref-2.ensures.value in
    record {
      stack = c.in_ok-tell.ensures.stack;
      around =
          c.in_ok-tell.ensures.around ∙ c.in_ok-left.ensures.past
          ∙ (λ i. past_by from frame.key frame.opened (c.as_ref.ensures.value i) (c.as_ref-2.ensures.value i));
      link = c.next_sibling-self.ensures.link;
      stops = c.in_ok-tell.ensures.stops;
      told =
          c.in_ok-tell.ensures.told
          ∙ (λ i. walk.told ++ (
            frame.key,
            record {
              said = said i;
              walked = record { handed = frame.handed; behind = walk.around };
              asks = c.in_ok-left.ensures.asks i;
              starts = c.in_ok-left.ensures.starts i;
              changes = c.in_ok-left.ensures.changes i;
            },
          ) ∷ []);
      changes =
          c.in_ok-tell.ensures.changes ∙ c.in_ok-collect_made.ensures.collected
          ∙ ap (λ (made : Option Made). with_changes walk.changes (changes_in made)) (c.as_ref-3.ensures.value ∙ ap (λ (said : ElementRecord). said.after) said);
    }
