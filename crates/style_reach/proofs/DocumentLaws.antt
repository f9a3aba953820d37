-- The styles that two documents give an element around which they are alike, told down from their roots.
use Rattle.std.proofs.Common.{◌≡◌, ◌==◌, ℕ, ℤ, Bool, true, false, cond, List, [], ◌∷◌, ◌++◌, Option, Some, None, option_map, refl, sym, ap, ◌∙◌, inl, inr, arith, eq-eqb}
use Rattle.std.specs.List.{list_any}
use Rattle.std.specs.Option.{option_or}
use Rattle.std.proofs.lemmas.List.Folds.{list_any-append}
use Rattle.forest.specs.Forest.{Forest, Empty, Tree}
use Rattle.forest.specs.Keys.{Keyed, times}
use Rattle.forest.specs.Spots.{Spot, keyed, spot, label_of}
use Rattle.forest.proofs.SpotLaws.{some_or_none, spot-absent}
use Rattle.plain_types.specs.declared.box_id.BoxId.{BoxId}
use Rattle.plain_types.specs.declared.node.Node.{Node}
use Rattle.plain_types.specs.declared.node.Node.TheVariants as node
use Rattle.plain_types.specs.declared.sheet.Features.{Features}
use Rattle.plain_types.specs.declared.style.ElementStyle.{ElementStyle}
use Rattle.plain_types.specs.declared.style.Style.{Style}
use Rattle.box_eval.specs.Evaluation.{Element, StyledNode, element_starts, style_within, styled, styled_node, styled_trees}
use Rattle.style_reach.specs.Ancestors.{ancestors_in, inclusive_ancestors}
use Rattle.style_reach.proofs.AncestorLaws.{end-found}
use Rattle.style_reach.proofs.Alike.{Alike, IsApart, comes, differs, goes, nothing, stays}
use Rattle.style_reach.proofs.TestLaws.{map-or, or-first, or-same, or-second}

module _ (features : Features) (key : ℕ) (start : BoxId → List ℕ → ℤ) where
  -- the node of the key stands in both documents, or in neither
  alike-times : (f g : Forest (Keyed Node)) → Alike features key f g → times key f ≡ times key g
  alike-times _ _ nothing = refl
  alike-times _ _ (stays n c c' r r' below after) = omega (arith, alike-times c c' below, alike-times r r' after)
  alike-times _ _ (differs k name attrs attrs' c c' r r' apart apart' alike after) = omega (arith, apart.children_are, apart'.children_are, alike-times r r' after)
  alike-times _ _ (goes n c r r' is apart after) = rw apart.node_is (omega (arith, apart.children_are, alike-times r r' after))
  alike-times _ _ (comes n c r r' is apart after) = rw apart.node_is (omega (arith, apart.children_are, alike-times r r' after))

  module _ (style : ℕ → Option Style → ElementStyle) where
    -- what is told of the node of the key
    abbrev told : Option Style → Option ℕ → List (Keyed StyledNode) → Forest (Keyed Node) → Option StyledNode
    told parent p e f = option_map (λ (s : Spot StyledNode). s.label) (spot p e (styled_trees style start parent f) key)

    styled-times : (f : Forest (Keyed Node)) (parent : Option Style) → times key (styled_trees style start parent f) ≡ times key f
    styled-times Empty parent = refl
    styled-times (Tree n c r) parent = omega (arith, styled-times c (style_within style start parent n.key n.label), styled-times r parent)

    told-absent : (f : Forest (Keyed Node)) (parent : Option Style) (p : Option ℕ) (e : List (Keyed StyledNode)) → times key f ≡ 0 → told parent p e f ≡ None
    told-absent f parent p e none = ap (option_map (λ (s : Spot StyledNode). s.label)) (spot-absent (styled_trees style start parent f) p e key (styled-times f parent ∙ none))

    abbrev here : Option Style → Keyed Node → Keyed StyledNode
    here parent n = record { key = n.key; label = styled_node style start parent n.key n.label }

    told-past : (n : Keyed Node) (c r : Forest (Keyed Node)) (parent : Option Style) (p : Option ℕ) (e : List (Keyed StyledNode)) → IsApart features key n.key c
        → told parent p e (Tree n c r) ≡ told parent p (e ++ here parent n ∷ []) r
    told-past n c r parent p e apart =
        let inner = style_within style start parent n.key n.label in
        rw (apart.node_is, spot-absent (styled_trees style start inner c) (Some n.key) [] key (styled-times c inner ∙ apart.children_are)) refl

  module _ (old_style new_style : ℕ → Option Style → ElementStyle) where
    -- an ancestor's style is the same
    abbrev SameStyle : ℕ → Type 0
    SameStyle k = (parent : Option Style) → old_style k parent ≡ new_style k parent

    node-same : (k : ℕ) (l : Node) (parent : Option Style) → SameStyle k → styled_node old_style start parent k l ≡ styled_node new_style start parent k l
    node-same k (node.Element name attrs) parent same =
        ap (λ (style : ElementStyle). Element (record { attrs = attrs; style = style; starts = element_starts start k style })) (same parent)
    node-same k (node.Text characters) parent same = refl

    within-same : (k : ℕ) (l : Node) (parent : Option Style) → SameStyle k → style_within old_style start parent k l ≡ style_within new_style start parent k l
    within-same k (node.Element name attrs) parent same = ap (λ (style : ElementStyle). Some style.own) (same parent)
    within-same k (node.Text characters) parent same = refl

    abbrev found_in : List (Keyed Node) → ℕ → Bool
    found_in ns a = list_any (λ (n : Keyed Node). n.key == a) ns

    -- the same is told of the node, where all that it stands in have the same styles
    alike-told : (f g : Forest (Keyed Node)) → Alike features key f g → (above : List (Keyed Node)) (parent : Option Style) (p p' : Option ℕ) (e e' : List (Keyed StyledNode))
        → ((a : ℕ) → found_in (ancestors_in above f key) a ≡ true → SameStyle a)
        → told old_style parent p e f ≡ told new_style parent p' e' g
    alike-told _ _ nothing above parent p p' e e' same = refl
    alike-told _ _ (stays n c c' r r' below after) above parent p p' e e' same =
        let one = here old_style parent n in
        let two = here new_style parent n in
        let inner = style_within old_style start parent n.key n.label in
        let inner' = style_within new_style start parent n.key n.label in
        let children = styled_trees old_style start inner c in
        let children' = styled_trees new_style start inner' c' in
        let later = styled_trees old_style start parent r in
        let later' = styled_trees new_style start parent r' in
        let label : Spot StyledNode → StyledNode = λ s. s.label in
        elim (n.key == key) as (λ b. ((a : ℕ) → found_in (cond b (n ∷ above) (ancestors_in (n ∷ above) c key ++ ancestors_in above r key)) a ≡ true → SameStyle a)
        → option_map label (cond b (Some (record { parent = p; earlier = e; label = one.label; children = children; after = later })) (option_or (spot (Some n.key) [] children key) (spot p (e ++ one ∷ []) later key)))
        ≡ option_map label (cond b (Some (record { parent = p'; earlier = e'; label = two.label; children = children'; after = later' })) (option_or (spot (Some n.key) [] children' key) (spot p' (e' ++ two ∷ []) later' key)))) [
          | true ↦ λ same. ap (λ l. Some l) (node-same n.key n.label parent (same n.key (or-first (n.key == n.key) _ (eq-eqb n.key n.key refl))))
          | false ↦ λ same.
              let down : (a : ℕ) → found_in (ancestors_in (n ∷ above) c key) a ≡ true → SameStyle a = λ a found. same a (list_any-append (λ (m : Keyed Node). m.key == a) (ancestors_in (n ∷ above) c key) (ancestors_in above r key) ∙ or-first _ _ found) in
              let on : (a : ℕ) → found_in (ancestors_in above r key) a ≡ true → SameStyle a = λ a found. same a (list_any-append (λ (m : Keyed Node). m.key == a) (ancestors_in (n ∷ above) c key) (ancestors_in above r key) ∙ or-second (found_in (ancestors_in (n ∷ above) c key) a) _ found) in
              map-or label (spot (Some n.key) [] children key) (spot p (e ++ one ∷ []) later key)
              ∙ or-same _ _ _ _
              (elim (some_or_none (times key c)) [
                | inl none ↦ told-absent old_style c inner (Some n.key) [] none ∙ sym (told-absent new_style c' inner' (Some n.key) [] (sym (alike-times c c' below) ∙ none))
                | inr some ↦
                    let itself : SameStyle n.key = down n.key (end-found (λ (m : Keyed Node). m.key == n.key) c (n ∷ above) key some (or-first (n.key == n.key) _ (eq-eqb n.key n.key refl))) in
                    alike-told c c' below (n ∷ above) inner (Some n.key) (Some n.key) [] [] down
                    ∙ ap (λ parent. told new_style parent (Some n.key) [] c') (within-same n.key n.label parent itself)
              ])
              (alike-told r r' after above parent p p' (e ++ one ∷ []) (e' ++ two ∷ []) on)
              ∙ sym (map-or label (spot (Some n.key) [] children' key) (spot p' (e' ++ two ∷ []) later' key))
        ] same
    alike-told _ _ (differs k name attrs attrs' c c' r r' apart apart' alike after) above parent p p' e e' same =
        let one : Keyed Node = keyed k (node.Element name attrs) in
        let two : Keyed Node = keyed k (node.Element name attrs') in
        told-past old_style one c r parent p e apart
        ∙ alike-told r r' after above parent p p' (e ++ here old_style parent one ∷ []) (e' ++ here new_style parent two ∷ []) (later one c r above apart same)
        ∙ sym (told-past new_style two c' r' parent p' e' apart')
      where
        later : (n : Keyed Node) (c r : Forest (Keyed Node)) (above : List (Keyed Node)) → IsApart features key n.key c → ((a : ℕ) → found_in (ancestors_in above (Tree n c r) key) a ≡ true → SameStyle a)
            → (a : ℕ) → found_in (ancestors_in above r key) a ≡ true → SameStyle a
        later n c r above apart same a found = same a (rw apart.node_is (list_any-append (λ (m : Keyed Node). m.key == a) (ancestors_in (n ∷ above) c key) (ancestors_in above r key) ∙ or-second (found_in (ancestors_in (n ∷ above) c key) a) _ found))
    alike-told _ _ (goes n c r r' is apart after) above parent p p' e e' same =
        told-past old_style n c r parent p e apart
        ∙ alike-told r r' after above parent p p' (e ++ here old_style parent n ∷ []) e'
        (λ a found. same a (rw apart.node_is (list_any-append (λ (m : Keyed Node). m.key == a) (ancestors_in (n ∷ above) c key) (ancestors_in above r key) ∙ or-second (found_in (ancestors_in (n ∷ above) c key) a) _ found)))
    alike-told _ _ (comes n c r r' is apart after) above parent p p' e e' same =
        alike-told r r' after above parent p p' e (e' ++ here new_style parent n ∷ []) same
        ∙ sym (told-past new_style n c r' parent p' e' apart)

    pub styled-same : (f g : Forest (Keyed Node)) → Alike features key f g → ((a : ℕ) → found_in (inclusive_ancestors f key) a ≡ true → SameStyle a)
        → label_of (styled old_style start f) key ≡ label_of (styled new_style start g) key
    styled-same f g alike same = alike-told f g alike [] None None None [] [] same
