-- What is put in at the tags of a document: insertions, each into an element of some name.
use Rattle.std.proofs.Common.{◌≡◌, ℕ, zero, suc, List, [], ◌∷◌, ◌++◌, drop, map, refl, sym, ap, ◌∙◌}
use Rattle.std.proofs.lemmas.Grind.{flat_map-append}
use Rattle.std.specs.List.{flat_map}
use Rattle.bake_definitions.specs.Baked.{Annotated}
use Rattle.bake_definitions.specs.Insertions.{Insertion}
use Rattle.bake_definitions.specs.Pieces.{Piece}
use Rattle.bake_definitions.specs.Woven.{at_next, at_node, at_tags, insertion_pieces}
use Rattle.forest.specs.Forest.{Forest, Empty, Tree}
use Rattle.plain_types.specs.declared.node.Node.{Node}
use Rattle.plain_types.specs.declared.node.Node.TheVariants.{Element, Text}

-- an insertion, and the name of the element that it is put into
abbrev pub Placed : Type 0
Placed = List ℕ × Insertion

abbrev pub placed_pieces : Placed → List Piece
placed_pieces placed = insertion_pieces placed.0 placed.1

module _ (Fits : List ℕ → Type 0) where
  abbrev pub AllFit : List Placed → Type 0
  AllFit [] = Unit {0}
  AllFit (placed ∷ others) = Fits placed.0 × AllFit others

  -- these pieces are insertions, into elements of names that fit
  pub record ArePlaced (pieces : List Piece) : Type 0 where
    pub placed : List Placed
    pub pieces_are : pieces ≡ flat_map placed_pieces placed
    pub fit : AllFit placed

  -- at each tag
  abbrev pub AllPlaced : List (List Piece) → Type 0
  AllPlaced [] = Unit {0}
  AllPlaced (pieces ∷ puts) = ArePlaced pieces × AllPlaced puts

  pub none_placed : ArePlaced []
  none_placed = record { placed = []; pieces_are = refl; fit = tt }

  fit_append : (placed others : List Placed) → AllFit placed → AllFit others → AllFit (placed ++ others)
  fit_append [] others a b = b
  fit_append (p ∷ placed) others a b = (a.0, fit_append placed others a.1 b)

  pub both_placed : {first second : List Piece} → ArePlaced first → ArePlaced second → ArePlaced (first ++ second)
  both_placed {first} {second} a b = record {
    placed = a.placed ++ b.placed;
    pieces_are = ap (λ t. t ++ second) a.pieces_are ∙ ap (λ t. flat_map placed_pieces a.placed ++ t) b.pieces_are ∙ sym (flat_map-append placed_pieces a.placed b.placed);
    fit = fit_append a.placed b.placed a.fit b.fit;
  }

  pub placed_append : (puts others : List (List Piece)) → AllPlaced puts → AllPlaced others → AllPlaced (puts ++ others)
  placed_append [] others a b = b
  placed_append (p ∷ puts) others a b = (a.0, placed_append puts others a.1 b)

  pub next_placed : (puts : List (List Piece)) → AllPlaced puts → ArePlaced (at_next puts)
  next_placed [] a = none_placed
  next_placed (p ∷ puts) a = a.0

  pub placed_drop : (n : ℕ) (puts : List (List Piece)) → AllPlaced puts → AllPlaced (drop n puts)
  placed_drop zero puts a = a
  placed_drop (suc n) [] a = tt
  placed_drop (suc n) (p ∷ puts) a = placed_drop n puts a.1

  into : List ℕ → List Insertion → List Placed
  into name insertions = map (λ (insertion : Insertion). (name, insertion)) insertions

  into_pieces : (name : List ℕ) (insertions : List Insertion) → flat_map (insertion_pieces name) insertions ≡ flat_map placed_pieces (into name insertions)
  unfolding into
  into_pieces name [] = refl
  into_pieces name (i ∷ insertions) = ap (λ t. insertion_pieces name i ++ t) (into_pieces name insertions)

  into_fit : (name : List ℕ) (insertions : List Insertion) → Fits name → AllFit (into name insertions)
  unfolding into
  into_fit name [] fits = tt
  into_fit name (i ∷ insertions) fits = (fits, into_fit name insertions fits)

  -- the insertions into an element
  pub insertions_placed : (name : List ℕ) (insertions : List Insertion) → Fits name → ArePlaced (flat_map (insertion_pieces name) insertions)
  insertions_placed name insertions fits = record { placed = into name insertions; pieces_are = into_pieces name insertions; fit = into_fit name insertions fits }
