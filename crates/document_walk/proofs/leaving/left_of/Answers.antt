use Rattle.std.proofs.Common.{◌≡◌, ◌∙◌, ap}
use Rattle.std.specs.Prelude.{option_copied}
use Rattle.document_walk.specs.declared.leaving.Left.{Left}
use Rattle.document_walk.specs.Catching.{past_by, reading, said_by}
use Rattle.document_walk.proofs.LeftLemmas.{if_ok, no_past, nothing_said}
use Rattle.document_walk.proofs.leaving.left_of.Goals as goal

pub returns-in-None-clause-said : goal.returns-in-None-clause-said
returns-in-None-clause-said g c =
    let from = reading g.T.Starts.starts c.args.sources.now in
    if_ok c.left_bare.result _ (λ (left : Left). left.said ≡ said_by from c.args.key c.args.opened (option_copied c.args.behind)) c.left_bare.ensures.said
    (λ left is. is ∙ nothing_said from c.args.key c.args.opened (option_copied c.args.behind) (ap option_copied c.in-None.is))

pub returns-in-None-clause-past : goal.returns-in-None-clause-past
returns-in-None-clause-past g c =
    let from = reading g.T.Starts.starts c.args.sources.now in
    if_ok c.left_bare.result _ (λ (left : Left). left.past ≡ past_by from c.args.key c.args.opened (option_copied c.args.handed) (option_copied c.args.behind)) c.left_bare.ensures.past
    (λ left is. is ∙ no_past from c.args.key c.args.opened (option_copied c.args.handed) (option_copied c.args.behind) (ap option_copied c.in-None.is))
