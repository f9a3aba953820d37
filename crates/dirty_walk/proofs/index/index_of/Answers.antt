use Rattle.std.proofs.Common.{◌∙◌, false, nat_eq, ap}
use Rattle.std.specs.List.{list_any}
use Rattle.target_index.specs.Changes.{holds_after_all, refers_after_all}
use Rattle.dirty_walk.proofs.IdLemmas.{ids_held}
use Rattle.dirty_walk.proofs.ReferenceLemmas.{ids_keep}
use Rattle.dirty_walk.proofs.index.index_of.Goals as goal

pub returns : goal.returns
returns c = record {
  index = λ id key.
      c.commit.ensures.holders id key
      ∙ ap (λ ids. holds_after_all c.in_ok-changes.changes id key (list_any (nat_eq key) ids)) (c.in_ok-reserve_for.ensures.holders id ∙ c.new-index.ensures.holders id)
      ∙ ap (λ changes. holds_after_all changes id key false) c.in_ok-changes.ensures.changes
      ∙ ids_held c.args.arena.now.tree c.arena_holds_document.ensures.document.distinct id key;
  none = λ id key.
      c.commit.ensures.references id key
      ∙ ap (λ ids. refers_after_all c.in_ok-changes.changes id key (list_any (nat_eq key) ids)) (c.in_ok-reserve_for.ensures.references id ∙ c.new-index.ensures.references id)
      ∙ ap (λ changes. refers_after_all changes id key false) c.in_ok-changes.ensures.changes
      ∙ ids_keep id key c.args.arena.now.tree false;
}
