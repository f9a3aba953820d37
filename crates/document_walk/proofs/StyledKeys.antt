-- To give nodes styles changes no key.
use Rattle.std.proofs.Common.{◌≡◌, ℕ, ℤ, List, Option, refl}
use Rattle.forest.specs.Forest.{Forest, Empty, Tree}
use Rattle.forest.specs.Keys.{Keyed, times, HasDistinctKeys}
use Rattle.plain_types.specs.declared.box_id.BoxId.{BoxId}
use Rattle.plain_types.specs.declared.node.Node.{Node}
use Rattle.plain_types.specs.declared.style.ElementStyle.{ElementStyle}
use Rattle.plain_types.specs.declared.style.Style.{Style}
use Rattle.box_eval.specs.Evaluation.{style_within, styled_trees}

module _ (style : ℕ → Option Style → ElementStyle) (start : BoxId → List ℕ → ℤ) where
  styled_times : (key : ℕ) (trees : Forest (Keyed Node)) (parent : Option Style) → times key (styled_trees style start parent trees) ≡ times key trees
  styled_times key Empty parent = refl
  styled_times key (Tree node children after) parent =
      let below = styled_times key children (style_within style start parent node.key node.label) in
      let beside = styled_times key after parent in
      rw (below, beside) refl

  pub styled_distinct : (trees : Forest (Keyed Node)) (parent : Option Style) → HasDistinctKeys trees → HasDistinctKeys (styled_trees style start parent trees)
  styled_distinct trees parent distinct key = rw (styled_times key trees parent) (distinct key)
