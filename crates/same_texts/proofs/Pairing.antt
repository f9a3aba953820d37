-- What is so of two same documents, by their places.
use Rattle.std.proofs.Common.{◌≡◌, ◌+◌, ◌||◌, ℕ, Bool, cond, List, [], ◌∷◌, length, take, suc, count_by, Option, Some, None, refl, sym, ap, ap₂, subst, ◌∙◌}
use Rattle.std.specs.List.{list_any}
use Rattle.std.proofs.lemmas.List.Sums.{sum_by-cons}
use Rattle.forest.specs.Forest.{Forest, Empty, Tree}
use Rattle.forest.specs.Keys.{Keyed}
use Rattle.forest.specs.Spots.{keyed}
use Rattle.plain_types.specs.declared.attr.Attr.{Attr}
use Rattle.plain_types.specs.declared.node.Node.{Node}
use Rattle.plain_types.specs.declared.node.Node.TheVariants.{Element, Text}
use Rattle.same_documents.specs.Sameness.{AreSameAttrs, AreSameKeyed, IsSameNode}

-- two same nodes are two elements of one name, or one text
pub both_nodes : (P : Node → Node → Type 0) → ((name : List ℕ) (attrs others : List Attr) → AreSameAttrs attrs others → P (Element name attrs) (Element name others)) → ((characters : List ℕ) → P (Text characters) (Text characters))
    → (node other : Node) → IsSameNode node other → P node other
both_nodes P element text (Element name attrs) (Element other others) h = subst (λ n. P (Element name attrs) (Element n others)) h.0 (element name attrs others h.1)
both_nodes P element text (Element name attrs) (Text others) h = absurd h
both_nodes P element text (Text characters) (Element other others) h = absurd h
both_nodes P element text (Text characters) (Text others) h = subst (λ c. P (Text characters) (Text c)) h (text characters)

-- and so it is with trees, by induction
module _ (P : Forest (Keyed Node) → Forest (Keyed Node) → Type 0) (nothing : P Empty Empty)
    (element : (key : ℕ) (name : List ℕ) (attrs others : List Attr) (c d r s : Forest (Keyed Node)) → AreSameAttrs attrs others → AreSameKeyed c d → AreSameKeyed r s → P c d → P r s
    → P (Tree (keyed key (Element name attrs)) c r) (Tree (keyed key (Element name others)) d s))
    (text : (key : ℕ) (characters : List ℕ) (c d r s : Forest (Keyed Node)) → AreSameKeyed c d → AreSameKeyed r s → P c d → P r s → P (Tree (keyed key (Text characters)) c r) (Tree (keyed key (Text characters)) d s)) where
  pub both_trees : (x y : Forest (Keyed Node)) → AreSameKeyed x y → P x y
  both_trees Empty Empty h = nothing
  both_trees Empty (Tree m d s) h = absurd h
  both_trees (Tree n c r) Empty h = absurd h
  both_trees (Tree n c r) (Tree m d s) h =
      let below = both_trees c d h.1 in
      let beside = both_trees r s h.2 in
      subst (λ k. P (Tree n c r) (Tree (keyed k m.label) d s)) h.0.0
      (both_nodes (λ node other. P (Tree (keyed n.key node) c r) (Tree (keyed n.key other) d s))
      (λ name attrs others same. element n.key name attrs others c d r s same h.1 h.2 below beside) (λ characters. text n.key characters c d r s h.1 h.2 below beside)
      n.label m.label h.0.1)

-- Lists whose items are alike, each to the one in its place.
module _ {X : Type 0} (R : X → X → Type 0) where
  abbrev pub AreEach : List X → List X → Type 0
  AreEach [] [] = Unit {0}
  AreEach (x ∷ xs) (y ∷ ys) = R x y × AreEach xs ys
  AreEach _ _ = ⊥

  pub each_length : (xs ys : List X) → AreEach xs ys → length xs ≡ length ys
  each_length [] [] h = refl
  each_length [] (y ∷ ys) h = absurd h
  each_length (x ∷ xs) [] h = absurd h
  each_length (x ∷ xs) (y ∷ ys) h = ap (λ n. suc n) (each_length xs ys h.1)

  pub each_one : (xs ys : List X) → AreEach xs ys → AreEach (take 1 xs) (take 1 ys)
  each_one [] [] h = tt
  each_one [] (y ∷ ys) h = absurd h
  each_one (x ∷ xs) [] h = absurd h
  each_one (x ∷ xs) (y ∷ ys) h = (h.0, tt)

  module _ (p q : X → Bool) (same : (x y : X) → R x y → p x ≡ q y) where
    pub each_any : (xs ys : List X) → AreEach xs ys → list_any p xs ≡ list_any q ys
    each_any [] [] h = refl
    each_any [] (y ∷ ys) h = absurd h
    each_any (x ∷ xs) [] h = absurd h
    each_any (x ∷ xs) (y ∷ ys) h = ap₂ (λ a b. a || b) (same x y h.0) (each_any xs ys h.1)

    pub each_count : (xs ys : List X) → AreEach xs ys → count_by p xs ≡ count_by q ys
    each_count [] [] h = refl
    each_count [] (y ∷ ys) h = absurd h
    each_count (x ∷ xs) [] h = absurd h
    each_count (x ∷ xs) (y ∷ ys) h =
        sum_by-cons (λ z. cond (p z) 1 0) x xs
        ∙ ap₂ (λ a b. cond a 1 0 + b) (same x y h.0) (each_count xs ys h.1)
        ∙ sym (sum_by-cons (λ z. cond (q z) 1 0) y ys)

  -- Items that may be missing.

  abbrev pub IsBoth : Option X → Option X → Type 0
  IsBoth None None = Unit {0}
  IsBoth (Some x) (Some y) = R x y
  IsBoth _ _ = ⊥
