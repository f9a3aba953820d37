-- Bytes that are made piece by piece of the items of a list, and go out so in a loop.
use Rattle.std.proofs.Common.{◌≡◌, ℕ, ◌+◌, ◌<◌, ◌≤◌, List, [], ◌∷◌, ◌++◌, length, get_or, take, drop, take_all, Option, sym, ◌∙◌, ap, append-nil}
use Rattle.std.proofs.lemmas.Grind.{flat_map-append}
use Rattle.std.proofs.lemmas.List.{take-append-drop, take_more}
use Rattle.std.specs.List.{flat_map}
use Rattle.ports.specs.Grown.{grown, GrowsByFront}
use Rattle.ports.proofs.GrownLemmas.{front_after, grown_after}

module _ {X : Type 0} (piece : X → List ℕ) where
  -- the pieces before a place and those from it on
  pub pieces-parts : (items : List X) (place : ℕ)
      → flat_map piece (take place items) ++ flat_map piece (drop place items) ≡ flat_map piece items
  pieces-parts items place =
      sym (flat_map-append piece (take place items) (drop place items)) ∙ ap (λ xs. flat_map piece xs) (take-append-drop place items)

  -- one piece more
  pub pieces-more : (items : List X) (place : ℕ) (item : X) → place < length items → item ≡ get_or items place item
      → flat_map piece (take (place + 1) items) ≡ flat_map piece (take place items) ++ piece item
  pieces-more items place item below is =
      ap (λ xs. flat_map piece xs) (take_more items place item below ∙ ap (λ x. take place items ++ x ∷ []) (sym is))
      ∙ flat_map-append piece (take place items) (item ∷ [])
      ∙ ap (λ bs. flat_map piece (take place items) ++ bs) (append-nil (piece item))

  -- one piece more went out
  pub pieces_went_out : (items : List X) (place : ℕ) (item : X) (before middle now : Option (List ℕ))
      → place < length items → item ≡ get_or items place item
      → middle ≡ grown before (flat_map piece (take place items)) → now ≡ grown middle (piece item)
      → now ≡ grown before (flat_map piece (take (place + 1) items))
  pieces_went_out items place item before middle now below is so_far more =
      grown_after before middle now _ _ so_far more ∙ ap (λ bs. grown before bs) (sym (pieces-more items place item below is))

  -- a front of one piece more went out
  pub pieces_front : (items : List X) (place : ℕ) (item : X) (before middle now : Option (List ℕ))
      → place < length items → item ≡ get_or items place item
      → middle ≡ grown before (flat_map piece (take place items)) → GrowsByFront middle now (piece item)
      → GrowsByFront before now (flat_map piece items)
  pieces_front items place item before middle now below is so_far grows =
      front_after before middle now (flat_map piece (take place items)) (piece item) (flat_map piece (drop (place + 1) items)) (flat_map piece items) so_far grows
      (ap (λ bs. bs ++ flat_map piece (drop (place + 1) items)) (sym (pieces-more items place item below is)) ∙ pieces-parts items (place + 1))

  -- all of them went out
  pub pieces_end : (items : List X) (place : ℕ) (before now : Option (List ℕ)) → length items ≤ place
      → now ≡ grown before (flat_map piece (take place items)) → now ≡ grown before (flat_map piece items)
  pieces_end items place before now end written =
      written ∙ ap (λ xs. grown before (flat_map piece xs)) (take_all place items end)
