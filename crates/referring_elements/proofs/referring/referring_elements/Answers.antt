use Rattle.std.proofs.Common.{◌∙◌, [], ap, subst, sym}
use Rattle.edit_work.specs.KeyedSources.{is_among}
use Rattle.referring_elements.specs.Found.{is_found}
use Rattle.referring_elements.specs.Indexes.{AreLive}
use Rattle.referring_elements.proofs.FoundLemmas.{first-are, found-live, second-are}
use Rattle.referring_elements.proofs.referring.referring_elements.Goals as goal

pub found_elements-requires : goal.found_elements-requires
found_elements-requires c = record { live = subst (λ tree. AreLive tree c.args.changed.now) (sym c.new-lookup.ensures.tree) c.requires.live }

pub found_elements-requires-2 : goal.found_elements-requires-2
found_elements-requires-2 c = record {
  live = subst (λ tree. AreLive tree c.as_slice.result.now) (sym (c.in_ok-first.ensures.tree ∙ c.new-lookup.ensures.tree))
      (λ key there.
      found-live c.args.arena.now.tree c.args.index.now c.requires.references c.args.former.now c.args.changed.now key
      (sym (c.in_ok-first.ensures.found key ∙ ap (λ tree. is_found tree c.args.index.now c.args.former.now c.args.changed.now key) c.new-lookup.ensures.tree)
      ∙ ap (λ keys. is_among keys key) (sym c.as_slice.ensures.keys) ∙ there));
}

pub returns-clause-first : goal.returns-clause-first
returns-clause-first c before said are tells key =
    c.in_ok-first.ensures.found key
    ∙ ap (λ tree. is_found tree c.args.index.now c.args.former.now c.args.changed.now key) c.new-lookup.ensures.tree
    ∙ first-are c.args.arena.now.tree c.arena_holds_document.ensures.document.distinct c.args.index.now said tells c.args.former.now before are c.args.changed.now key

pub returns-clause-second : goal.returns-clause-second
returns-clause-second c before said are tells key =
    let tree = c.args.arena.now.tree in
    let distinct = c.arena_holds_document.ensures.document.distinct in
    c.in_ok-second.ensures.found key
    ∙ ap (λ tree. is_found tree c.args.index.now [] c.as_slice.result.now key) (c.in_ok-first.ensures.tree ∙ c.new-lookup.ensures.tree)
    ∙ ap (λ keys. is_found tree c.args.index.now [] keys key) c.as_slice.ensures.keys
    ∙ second-are tree distinct c.args.index.now said tells c.args.former.now before are c.args.changed.now c.in_ok-first.first
    (λ k. c.in_ok-first.ensures.found k ∙ ap (λ tree. is_found tree c.args.index.now c.args.former.now c.args.changed.now k) c.new-lookup.ensures.tree
    ∙ first-are tree distinct c.args.index.now said tells c.args.former.now before are c.args.changed.now k) key
