-- The texts of style elements, by the keys of a document in tree order.
use Rattle.std.proofs.Common.{◌≡◌, ◌<◌, ◌∷◌, ◌++◌, ℕ, List, [], Option, Some, None, refl, sym, ap, ap₂, ◌∙◌, arith, eq-eqb}
use Rattle.std.proofs.lemmas.List.Concat.{flat_map-append}
use Rattle.std.specs.Prelude.{flat_map, option_map, unwrap_or}
use Rattle.std.specs.Option.{option_map_or}
use Rattle.forest.specs.Forest.{Forest, Empty, Tree}
use Rattle.forest.specs.Keys.{HasDistinctKeys, Keyed, keys}
use Rattle.forest.specs.Spots.{Spot, spot}
use Rattle.forest.proofs.OrderLaws.{keys-tree}
use Rattle.forest.proofs.SpotLaws.{distinct-parts, spot-below, spot-beside, spot-root, spot-some, the_some}
use Rattle.plain_types.specs.declared.node.Node.{Node}
use Rattle.generated_texts.specs.StyleElements.{style_text, style_text_of, style_texts}
use Rattle.generated_texts.proofs.EachKeying.{among, times_among}

flat_map-among : {A : Type 0} (f g : ℕ → List A) (all : List ℕ) → ((key : ℕ) → 0 < among key all → f key ≡ g key) → flat_map f all ≡ flat_map g all
flat_map-among f g [] same = refl
flat_map-among f g (key ∷ rest) same =
    let itself = eq-eqb key key refl in
    ap₂ (λ here others. here ++ others) (same key (rw itself (omega arith))) (flat_map-among f g rest (λ other is. same other (omega (arith, is))))

-- the text of the sheet of the node that stands there
abbrev text_at : Option (Spot Node) → List (List ℕ)
text_at place = option_map_or (λ node. style_text node (unwrap_or (option_map (λ (s : Spot Node). s.children) place) Empty)) (option_map (λ (s : Spot Node). s.label) place) []

abbrev text_in : Option ℕ → List (Keyed Node) → Forest (Keyed Node) → ℕ → List (List ℕ)
text_in parent earlier trees key = text_at (spot parent earlier trees key)

texts_in : (trees : Forest (Keyed Node)) (parent : Option ℕ) (earlier : List (Keyed Node)) → HasDistinctKeys trees → flat_map (text_in parent earlier trees) (keys trees) ≡ style_texts trees
texts_in Empty parent earlier distinct = refl
texts_in (Tree node children after) parent earlier distinct =
    let parts = distinct-parts node children after distinct in
    let nodes = earlier ++ node ∷ [] in
    let all = text_in parent earlier (Tree node children after) in
    ap (flat_map all) (keys-tree node children after)
    ∙ ap₂ (λ here others. here ++ others) (ap text_at (spot-root parent earlier node children after))
    (flat_map-append all (keys children) (keys after)
    ∙ ap₂ (λ below beside. below ++ beside)
    (flat_map-among all (text_in (Some node.key) [] children) (keys children) (λ key is.
    let there = the_some (spot (Some node.key) [] children key) (spot-some children (Some node.key) [] key (let same = times_among children key in omega (arith, same, is))) in
    ap text_at (spot-below parent earlier node children after key there.0 distinct there.1 ∙ sym there.1))
    ∙ texts_in children (Some node.key) [] parts.0)
    (flat_map-among all (text_in parent nodes after) (keys after) (λ key is.
    let there = the_some (spot parent nodes after key) (spot-some after parent nodes key (let same = times_among after key in omega (arith, same, is))) in
    ap text_at (spot-beside parent earlier node children after key there.0 distinct there.1 ∙ sym there.1))
    ∙ texts_in after parent nodes parts.1))

pub style_texts-by_keys : (document : Forest (Keyed Node)) → HasDistinctKeys document → style_texts document ≡ flat_map (style_text_of document) (keys document)
style_texts-by_keys document distinct = sym (texts_in document None [] distinct)
