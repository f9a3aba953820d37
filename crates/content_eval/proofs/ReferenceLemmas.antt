-- What the texts of a box depend on.
use Rattle.std.proofs.Common.{◌≡◌, ◌++◌, ◌∙◌, ℕ, List, [], ◌∷◌, Option, Some, None, IfSome, ap, refl, subst, unwrap_or}
use Rattle.std.specs.Option.{option_and_then, option_map_or}
use Rattle.plain_types.specs.declared.content.Part.{Part}
use Rattle.plain_types.specs.declared.content.Part.TheVariants.{Content, Before, After}
use Rattle.plain_types.specs.declared.counter_style.CounterStyle.{CounterStyle}
use Rattle.content_eval.specs.Targets.{Known, flat_at, flat_text, full_text, piece_text, reference, target_counter, target_counters, target_id}
use Rattle.content_eval.specs.TargetLaws.{AgreeBelow, AgreeOn, FlatTextsDependOnReferences, FullTextsDependOnReferences, OfEachReference}
use Rattle.content_eval.specs.declared.generated.Piece.{Piece}
use Rattle.content_eval.specs.declared.generated.Piece.TheVariants as piece

module _ (one other : Known) where
  counters_same : (id : Option (List ℕ)) → IfSome id (AgreeBelow one other) → option_and_then one.counters id ≡ option_and_then other.counters id
  counters_same None h = refl
  counters_same (Some id) h = h.counters

  characters_same : (id : Option (List ℕ)) → IfSome id (AgreeBelow one other) → option_map_or one.characters id [] ≡ option_map_or other.characters id []
  characters_same None h = refl
  characters_same (Some id) h = h.characters

  flat_same : (id : Option (List ℕ)) (part : Part) → IfSome id (AgreeOn one other) → option_and_then (λ id. one.flat id part) id ≡ option_and_then (λ id. other.flat id part) id
  flat_same None part h = refl
  flat_same (Some id) part h = h.flat part

  below : (id : Option (List ℕ)) → IfSome id (AgreeOn one other) → IfSome id (AgreeBelow one other)
  below None h = h
  below (Some id) h = h.below

  module _ (table : List CounterStyle) where
    -- the same for a piece, where the boxes of its target have the same texts
    piece_same : (one_box other_box : List ℕ → Part → List ℕ) (p : Piece) → IfSome (reference p) (AgreeBelow one other) → ((url : List ℕ) (part : Part) → reference p ≡ target_id url → one_box url part ≡ other_box url part) → piece_text table one one_box p ≡ piece_text table other other_box p
    piece_same one_box other_box (piece.Chars text) h boxes = refl
    piece_same one_box other_box (piece.TargetCounter url name style) h boxes =
        ap (λ set. option_map_or (target_counter table name style) set []) (counters_same (target_id url) h)
    piece_same one_box other_box (piece.TargetCounters url name between style) h boxes =
        ap (λ set. option_map_or (target_counters table name between style) set []) (counters_same (target_id url) h)
    piece_same one_box other_box (piece.TargetText url Content) h boxes = characters_same (target_id url) h
    piece_same one_box other_box (piece.TargetText url Before) h boxes = boxes url Before refl
    piece_same one_box other_box (piece.TargetText url After) h boxes = boxes url After refl

    flat_texts_same : (pieces : List Piece) → OfEachReference (AgreeBelow one other) pieces → flat_text table one pieces ≡ flat_text table other pieces
    flat_texts_same [] h = refl
    flat_texts_same (p ∷ pieces) h =
        ap (λ text. text ++ flat_text table one pieces) (piece_same (λ url part. []) (λ url part. []) p h.0 (λ url part e. refl))
        ∙ ap (λ text. piece_text table other (λ url part. []) p ++ text) (flat_texts_same pieces h.1)

    full_texts_same : (pieces : List Piece) → OfEachReference (AgreeOn one other) pieces → full_text table one pieces ≡ full_text table other pieces
    full_texts_same [] h = refl
    full_texts_same (p ∷ pieces) h =
        ap (λ text. text ++ full_text table one pieces) (piece_same
        (λ url part. unwrap_or (flat_at one url part) [])
        (λ url part. unwrap_or (flat_at other url part) [])
        p
        (below (reference p) h.0)
        (λ url part e. ap (λ text. unwrap_or text []) (flat_same (target_id url) part (subst (λ id. IfSome id (AgreeOn one other)) e h.0))))
        ∙ ap (λ text. piece_text table other (λ url part. unwrap_or (flat_at other url part) []) p ++ text) (full_texts_same pieces h.1)

pub flat_depends : FlatTextsDependOnReferences
flat_depends table pieces one other h = flat_texts_same one other table pieces h

pub full_depends : FullTextsDependOnReferences
full_depends table pieces one other h = full_texts_same one other table pieces h
