use Rattle.std.proofs.Common.{◌≡◌, ◌∙◌, ℕ, [], None, ap, subst, sym}
use Rattle.std.specs.FinMap.{empty, get, get-empty}
use Rattle.std.specs.Ordering.{nat_cmp}
use Rattle.forest.specs.Keys.{HasDistinctKeys}
use Rattle.snapshot_board.specs.Records.{put_all}
use Rattle.zero_walks.specs.Told.{walked_of}
use Rattle.counter_index.specs.Indexes.{deeds_at}
use Rattle.counter_index.specs.Told.{told_exchange}
use Rattle.started_walk.specs.Countings.{HasSomeDeeds, KeepsZeros}
use Rattle.started_walk.specs.Exchanges.{IsBroughtTo}
use Rattle.started_walk.proofs.CountingLemmas.{index-begun, some-begun, zeros-begun}
use Rattle.started_walk.proofs.UnaskedLemmas.{unasked, unasked-zeros}
use Rattle.started_walk.proofs.counting.Counting.of.Goals as goal

pub bring_index-requires : goal.bring_index-requires
bring_index-requires c =
    let source = c.requires.told.0 in
    let tree_is = c.requires.told.1.0 in
    let distinct = subst HasDistinctKeys (sym tree_is) c.arena_holds_document.ensures.document.distinct in
    let was = c.new-index.result in
    let none : (key : ℕ) → deeds_at was key ≡ None = λ key. ap (λ held. get held key) c.new-index.ensures.deeds ∙ get-empty nat_cmp key in
    let same = c.in_ok-deeds.ensures.entries ∙ ap (told_exchange []) c.requires.told.1.1 in
    record {
      deeds = λ now exchanged. subst (λ tree. HasSomeDeeds tree now) tree_is (some-begun source distinct was none c.in_ok-deeds.deeds.items same now exchanged);
    }

pub returns-then-not-asks : goal.returns-then-not-asks
returns-then-not-asks c =
    let was = c.new-index.result in
    let none : (key : ℕ) → deeds_at was key ≡ None = λ key. ap (λ held. get held key) c.new-index.ensures.deeds ∙ get-empty nat_cmp key in
    let bare : (key : ℕ) → get was.starts.held key ≡ None = λ key. ap (λ held. get held key) c.new-index.ensures.starts ∙ get-empty nat_cmp key in
    let now = c.bring_index.new.index in
    let back = c.in_ok-bring_index.field-0.back in
    record {
      counts =
          λ source tree_is told_is.
          (let distinct = subst HasDistinctKeys (sym tree_is) c.arena_holds_document.ensures.document.distinct in
          let index =
          index-begun source distinct was none c.in_ok-deeds.deeds.items (c.in_ok-deeds.ensures.entries ∙ ap (told_exchange []) told_is) bare now back
          (subst (λ tree. IsBroughtTo tree c.in_ok-deeds.deeds.items [] was now back) (sym tree_is) c.in_ok-bring_index.ensures.brought) c.in_ok-bring_index.ensures.back in
          record {
            zeros =
                unasked-zeros source now distinct index (unasked now c.asks.result c.asks.ensures.test c.if-not-asks.true)
                c.new.result.held (λ key. ap (λ held. get held key) c.new.ensures.held ∙ get-empty nat_cmp key);
            index = index;
          });
      none = λ _. c.new.ensures.held;
    }

pub returns : goal.returns
returns c =
    let was = c.new-index.result in
    let none : (key : ℕ) → deeds_at was key ≡ None = λ key. ap (λ held. get held key) c.new-index.ensures.deeds ∙ get-empty nat_cmp key in
    let bare : (key : ℕ) → get was.starts.held key ≡ None = λ key. ap (λ held. get held key) c.new-index.ensures.starts ∙ get-empty nat_cmp key in
    let now = c.bring_index.new.index in
    let back = c.in_ok-bring_index.field-0.back in
    record {
      counts =
          λ source tree_is told_is.
          (let distinct = subst HasDistinctKeys (sym tree_is) c.arena_holds_document.ensures.document.distinct in
          record {
            zeros = subst (KeepsZeros source) (sym (c.in_ok-zeros.ensures.held ∙ ap (λ told. put_all (walked_of told) empty) told_is)) (zeros-begun source distinct);
            index =
                index-begun source distinct was none c.in_ok-deeds.deeds.items (c.in_ok-deeds.ensures.entries ∙ ap (told_exchange []) told_is) bare now back
                (subst (λ tree. IsBroughtTo tree c.in_ok-deeds.deeds.items [] was now back) (sym tree_is) c.in_ok-bring_index.ensures.brought) c.in_ok-bring_index.ensures.back;
          });
      none = λ none. absurd (none (c.asks.ensures.test.0 c.if-not-asks.false));
    }
