use Rattle.std.proofs.Common.{◌∙◌, false, nat_eq, ap}
use Rattle.std.specs.List.{list_any}
use Rattle.target_index.specs.Changes.{holds_after_all, refers_after_all}
use Rattle.target_index.specs.Holders.{is_holder}
use Rattle.referring_elements.proofs.ReferenceLemmas.{all-hold, all-tell}
use Rattle.referring_elements.proofs.references.add_references.Goals as goal

pub returns-clause-holders : goal.returns-clause-holders
returns-clause-holders c id key =
    c.commit.ensures.holders id key
    ∙ ap (λ ids. holds_after_all c.in_ok-changes.changes id key (list_any (nat_eq key) ids)) (c.in_ok-reserve_for.ensures.holders id)
    ∙ ap (λ changes. holds_after_all changes id key (is_holder c.args.index.now id key)) c.in_ok-changes.ensures.changes
    ∙ all-hold id key c.args.told.now (is_holder c.args.index.now id key)

pub returns-clause-references : goal.returns-clause-references
returns-clause-references c document id key =
    c.commit.ensures.references id key
    ∙ ap (λ ids. refers_after_all c.in_ok-changes.changes id key (list_any (nat_eq key) ids)) (c.in_ok-reserve_for.ensures.references id)
    ∙ ap (λ b. refers_after_all c.in_ok-changes.changes id key b) (c.requires.none id key)
    ∙ ap (λ changes. refers_after_all changes id key false) c.in_ok-changes.ensures.changes
    ∙ all-tell id key c.args.told.now c.requires.once document
