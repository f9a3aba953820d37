use Rattle.std.proofs.Common.{◌∙◌, ℕ, List, ap, sym}
use Rattle.std.proofs.lemmas.Result.{IfOk-weaker}
use Rattle.edit_work.specs.KeyedSources.{is_among}
use Rattle.surroundings.specs.declared.told.Told.{Told}
use Rattle.kept_elements.specs.Renewals.{is_told}
use Rattle.kept_elements.proofs.WalkedLemmas.{links, live_changed, live_references, some_edit}
use Rattle.kept_elements.proofs.renewed_texts.walked_entries.Goals as goal

pub changed_elements-requires : goal.changed_elements-requires
changed_elements-requires g c = record { live = links c.args.table.now c.args.index.now c.args.former.now c.args.stops.now c.args.arena.now.tree c.args.told c.args.board.now.held c.requires.walk }

pub referring_elements-requires : goal.referring_elements-requires
referring_elements-requires g c =
    let live = live_changed c.args.table.now c.args.index.now c.args.former.now c.args.stops.now c.args.arena.now.tree c.args.told c.args.board.now.held c.requires.walk
    c.as_slice-2.result.now c.in_ok-changed.changed
    (λ key. ap (λ (ks : List ℕ). is_among ks key) c.as_slice-2.ensures.keys ∙ c.in_ok-visited.ensures.keys key ∙ ap (λ (told : List (ℕ × Told)). is_told told key) c.as_slice.ensures.items)
    c.in_ok-changed.ensures.found in
    record {
      indexed = c.requires.indexed;
      references = live_references c.args.table.now c.args.index.now c.args.former.now c.args.stops.now c.args.arena.now.tree c.args.told c.args.board.now.held c.requires.walk;
      live = λ key among. live key (sym (ap (λ (ks : List ℕ). is_among ks key) c.as_slice-3.ensures.keys) ∙ among);
    }

pub renewed_entries-requires : goal.renewed_entries-requires
renewed_entries-requires g c = record {
  indexed = c.requires.indexed;
  edit = some_edit c.args.table.now c.args.index.now c.args.former.now c.args.stops.now c.args.arena.now.tree c.args.told c.args.board.now.held c.requires.walk
      c.as_slice-2.result.now c.as_slice-3.result.now
      (λ key. ap (λ (ks : List ℕ). is_among ks key) c.as_slice-2.ensures.keys ∙ c.in_ok-visited.ensures.keys key ∙ ap (λ (told : List (ℕ × Told)). is_told told key) c.as_slice.ensures.items)
      (λ key. ap (λ (ks : List ℕ). is_among ks key) c.as_slice-3.ensures.keys ∙ c.in_ok-changed.ensures.found key)
      c.in_ok-found.found.first c.in_ok-found.found.second c.in_ok-found.ensures.first c.in_ok-found.ensures.second;
}

pub returns-clause-renewal : goal.returns-clause-renewal
returns-clause-renewal g c =
    IfOk-weaker c.renewed_entries.result _ _
    (λ changes all walk.
    all (some_edit c.args.table.now c.args.index.now c.args.former.now c.args.stops.now c.args.arena.now.tree c.args.told c.args.board.now.held walk
    c.as_slice-2.result.now c.as_slice-3.result.now
    (λ key. ap (λ (ks : List ℕ). is_among ks key) c.as_slice-2.ensures.keys ∙ c.in_ok-visited.ensures.keys key ∙ ap (λ (told : List (ℕ × Told)). is_told told key) c.as_slice.ensures.items)
    (λ key. ap (λ (ks : List ℕ). is_among ks key) c.as_slice-3.ensures.keys ∙ c.in_ok-changed.ensures.found key)
    c.in_ok-found.found.first c.in_ok-found.found.second c.in_ok-found.ensures.first c.in_ok-found.ensures.second))
    c.renewed_entries.ensures.renewal

pub returns-clause-few : goal.returns-clause-few
returns-clause-few g c =
    IfOk-weaker c.renewed_entries.result _ _
    (λ changes all walk.
    all (some_edit c.args.table.now c.args.index.now c.args.former.now c.args.stops.now c.args.arena.now.tree c.args.told c.args.board.now.held walk
    c.as_slice-2.result.now c.as_slice-3.result.now
    (λ key. ap (λ (ks : List ℕ). is_among ks key) c.as_slice-2.ensures.keys ∙ c.in_ok-visited.ensures.keys key ∙ ap (λ (told : List (ℕ × Told)). is_told told key) c.as_slice.ensures.items)
    (λ key. ap (λ (ks : List ℕ). is_among ks key) c.as_slice-3.ensures.keys ∙ c.in_ok-changed.ensures.found key)
    c.in_ok-found.found.first c.in_ok-found.found.second c.in_ok-found.ensures.first c.in_ok-found.ensures.second))
    c.renewed_entries.ensures.few

pub returns-clause-fewer : goal.returns-clause-fewer
returns-clause-fewer g c = λ walk.
    c.renewed_entries.ensures.fewer
    (some_edit c.args.table.now c.args.index.now c.args.former.now c.args.stops.now c.args.arena.now.tree c.args.told c.args.board.now.held walk
    c.as_slice-2.result.now c.as_slice-3.result.now
    (λ key. ap (λ (ks : List ℕ). is_among ks key) c.as_slice-2.ensures.keys ∙ c.in_ok-visited.ensures.keys key ∙ ap (λ (told : List (ℕ × Told)). is_told told key) c.as_slice.ensures.items)
    (λ key. ap (λ (ks : List ℕ). is_among ks key) c.as_slice-3.ensures.keys ∙ c.in_ok-changed.ensures.found key)
    c.in_ok-found.found.first c.in_ok-found.found.second c.in_ok-found.ensures.first c.in_ok-found.ensures.second)
