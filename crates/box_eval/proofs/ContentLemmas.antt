-- The content of a box, by its peers and by its parent's set.
use Rattle.std.proofs.Common.{◌≡◌, ◌∷◌, List, [], ℕ, refl, ap, ◌∙◌}
use Rattle.std.specs.List.{fold}
use Rattle.plain_types.specs.declared.attr.Attr.{Attr}
use Rattle.plain_types.specs.declared.box_id.BoxId.{BoxId}
use Rattle.plain_types.specs.declared.content.Item.{Item}
use Rattle.plain_types.specs.declared.content.Item.TheVariants as item
use Rattle.plain_types.specs.declared.counter.Counter.{Counter}
use Rattle.plain_types.specs.declared.counter_style.CounterStyle.{CounterStyle}
use Rattle.plain_types.specs.declared.style.Quotes.{Quotes}
use Rattle.counter_sets.specs.Sets.{is_by_peer, is_missing_in}
use Rattle.content_eval.specs.Contents.{depth_behind, generated, piece_of, pieces, set_behind}
use Rattle.content_eval.specs.declared.generated.Generated.{Generated}
use Rattle.content_eval.specs.declared.generated.Piece.{Piece}
use Rattle.box_eval.proofs.Agreement.{Agrees, AllAgree, steady, with_counter_same}
use Rattle.box_eval.proofs.KeptLemmas.{behind_good}
use Rattle.box_eval.proofs.ListLemmas.{fold_same}

module _ (peers : List BoxId) (parent : List Counter) (box : BoxId) (mine : (counter : Counter) → counter.creator ≡ box → Agrees peers parent counter) where
  behind_same : (set : List Counter) (first : Item) → AllAgree peers parent set → set_behind (is_by_peer peers) box set first ≡ set_behind (is_missing_in parent) box set first
  behind_same set (item.Chars text) h = refl
  behind_same set (item.Attr name) h = refl
  behind_same set (item.Quote kind) h = refl
  behind_same set (item.Counter name style) h = with_counter_same peers parent box set name h
  behind_same set (item.Counters name between style) h = with_counter_same peers parent box set name h
  behind_same set (item.TargetCounter url name style) h = refl
  behind_same set (item.TargetCounters url name between style) h = refl
  behind_same set (item.TargetText url part) h = refl

  behind_agrees : (set : List Counter) (first : Item) → AllAgree peers parent set → AllAgree peers parent (set_behind (is_missing_in parent) box set first)
  behind_agrees set first h = behind_good (Agrees peers parent) (steady peers parent) (is_missing_in parent) box mine set first h

  module _ (table : List CounterStyle) (attrs : List Attr) (quotes : Quotes) where
    pieces_same : (items : List Item) (set : List Counter) (depth : ℕ) → AllAgree peers parent set → pieces table attrs quotes (is_by_peer peers) box set depth items ≡ pieces table attrs quotes (is_missing_in parent) box set depth items
    pieces_same [] set depth h = refl
    pieces_same (first ∷ items) set depth h =
        let after : List Counter = set_behind (is_missing_in parent) box set first in
        let all : List Counter → List Piece = λ next. piece_of table attrs quotes next depth first ∷ pieces table attrs quotes (is_by_peer peers) box next (depth_behind depth first) items in
        ap all (behind_same set first h)
        ∙ ap (λ rest. piece_of table attrs quotes after depth first ∷ rest) (pieces_same items after (depth_behind depth first) (behind_agrees set first h))

    pub content_same : (items : List Item) (set : List Counter) (depth : ℕ) → AllAgree peers parent set → generated table items attrs quotes box (is_by_peer peers) set depth ≡ generated table items attrs quotes box (is_missing_in parent) set depth
    content_same items set depth h =
        let sets = fold_same (AllAgree peers parent) (set_behind (is_by_peer peers) box) (set_behind (is_missing_in parent) box) behind_same behind_agrees items set h in
        let make : List Piece → List Counter → Generated = λ written counters. record { pieces = written; set = counters; depth = fold depth_behind depth items } in
        ap (λ written. make written (fold (set_behind (is_by_peer peers) box) set items)) (pieces_same items set depth h)
        ∙ ap (make (pieces table attrs quotes (is_missing_in parent) box set depth items)) sets.0
