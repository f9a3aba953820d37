-- Whether a node is a style element, as its name tells it, and where style elements stand.
use Rattle.std.proofs.Common.{◌≡◌, ◌∙◌, ◌+◌, ℕ, Bool, true, false, ◌||◌, List, Option, Some, None, option_map, refl, sym, ap}
use Rattle.std.specs.Borrow.{Bor}
use Rattle.std.specs.List.{list_any}
use Rattle.std.specs.Option.{option_and_then, option_eq, option_map_or}
use Rattle.std.specs.Prelude.{codes, encode_utf8_all, option_copied}
use Rattle.std.specs.Str.{bytes_eq, chars}
use Rattle.std.proofs.lemmas.List.Folds.{list_any-append}
use Rattle.std.proofs.lemmas.Option.{none-some, same_Some}
use Rattle.std.proofs.Math.Utf8.{encode}
use Rattle.forest.specs.Forest.{Forest, Empty, Tree, labels}
use Rattle.forest.specs.Keys.{Keyed, HasDistinctKeys, without_keys}
use Rattle.forest.specs.Spots.{IsLive, children_of, label_of, parent_of}
use Rattle.forest.proofs.SpotLaws.{live-spot}
use Rattle.plain_types.specs.Rows.{rows}
use Rattle.plain_types.specs.View.{IsUtf8Of, Shows}
use Rattle.plain_types.specs.declared.attr.Attr.{Attr}
use Rattle.plain_types.specs.declared.node.Node.{Node}
use Rattle.plain_types.specs.declared.node.Node.TheVariants.{Element, Text}
use Rattle.plain_types.specs.declared.node.NodeView.TheVariants as view
use Rattle.plain_types.specs.declared.row.Row.{Row}
use Rattle.node_arena.specs.Nodes.{node_name}
use Rattle.node_arena.proofs.NodeLaws.{same-test}
use Rattle.style_reach.specs.TouchedSheets.{have_style, holds_style, is_in_style, is_style, is_style_of}
use Rattle.style_reach.proofs.AncestorLaws.{of-child, of-root}
use Rattle.style_reach.proofs.TestLaws.{or-none}

style-characters : chars (codes "style") ≡ codes "style"
unfolding chars
style-characters = refl

style-bytes : codes "style" ≡ encode_utf8_all (codes "style")
unfolding encode
style-bytes = refl

type-characters : chars (codes "type") ≡ codes "type"
unfolding chars
type-characters = refl

type-bytes : codes "type" ≡ encode_utf8_all (codes "type")
unfolding encode
type-bytes = refl

-- a text that is looked at is a word where its characters are
pub is-type : (shown name : List ℕ) → IsUtf8Of shown name → bytes_eq shown (codes "type") ≡ bytes_eq name (codes "type")
is-type shown name is = same-test shown (codes "type") name (codes "type") is.read is.written type-characters type-bytes

is-style : (shown name : List ℕ) → IsUtf8Of shown name → bytes_eq shown (codes "style") ≡ bytes_eq name (codes "style")
is-style shown name is = same-test shown (codes "style") name (codes "style") is.read is.written style-characters style-bytes

-- by the name of a node that was looked up
pub is_style_by : (label : Option Node) (name : Option (Bor (List ℕ))) (wanted : Bor (List ℕ)) (named : Bool)
    → option_map chars (option_copied name) ≡ option_and_then node_name label → option_copied name ≡ option_map encode_utf8_all (option_and_then node_name label)
    → wanted.now ≡ codes "style" → named ≡ option_eq (λ (one other : Bor (List ℕ)). bytes_eq one.now other.now) name (Some wanted)
    → named ≡ option_map_or is_style label false
is_style_by None None wanted named read written is_wanted is_named = is_named
is_style_by None (Some name) wanted named read written is_wanted is_named = absurd (none-some (chars name.now) (sym read))
is_style_by (Some (Text characters)) None wanted named read written is_wanted is_named = is_named
is_style_by (Some (Text characters)) (Some name) wanted named read written is_wanted is_named = absurd (none-some (chars name.now) (sym read))
is_style_by (Some (Element tag attrs)) None wanted named read written is_wanted is_named = absurd (none-some tag read)
is_style_by (Some (Element tag attrs)) (Some name) wanted named read written is_wanted is_named =
    is_named ∙ ap (bytes_eq name.now) is_wanted ∙ is-style name.now tag (record { read = same_Some _ _ read; written = same_Some _ _ written })

-- by a view of it
pub is_style_shown : (node : Node) (shown : Bor (List ℕ)) (attrs : Bor (List Attr)) → Shows node (view.Element shown attrs)
    → bytes_eq shown.now (codes "style") ≡ is_style node
is_style_shown (Element name attrs) shown shown_attrs shows = is-style shown.now name shows.0
is_style_shown (Text characters) shown shown_attrs shows = absurd shows

-- In trees.

any-rows : (depth : ℕ) (f : Forest Node) → list_any (λ (row : Row). is_style row.node) (rows depth f) ≡ have_style f
any-rows depth Empty = refl
any-rows depth (Tree node c r) =
    ap (λ b. is_style node || b)
    (list_any-append (λ (row : Row). is_style row.node) (rows (depth + 1) c) (rows depth r)
    ∙ ap (λ b. b || list_any (λ (row : Row). is_style row.node) (rows depth r)) (any-rows (depth + 1) c)
    ∙ ap (λ b. have_style c || b) (any-rows depth r)
    ∙ sym (list_any-append is_style (labels c) (labels r)))

-- by the rows of a tree
pub have_style-rows : (f : Forest Node) → list_any (λ (row : Row). is_style row.node) (rows 0 f) ≡ have_style f
have_style-rows f = any-rows 0 f

pub have_style-tree : (node : Node) (c r : Forest Node) → have_style (Tree node c r) ≡ (is_style node || (have_style c || have_style r))
have_style-tree node c r = ap (λ b. is_style node || b) (list_any-append is_style (labels c) (labels r))

module _ (f : Forest (Keyed Node)) where
  -- a style element is the node, or stands under it
  pub holds_style-node : (q : ℕ) → IsLive f q → holds_style f q ≡ (is_style_of f q || have_style (without_keys (children_of f q)))
  holds_style-node q live =
      let s = live-spot f q live in
      let node = s.0.label in
      let inside = without_keys s.0.children in
      rw s.1 (have_style-tree node inside Empty ∙ ap (λ b. is_style node || b) (or-none (have_style inside)))

  -- it is the node, or the node's parent stands in one
  pub is_in_style-child : (q x : ℕ) → HasDistinctKeys f → IsLive f q → parent_of f q ≡ Some x → is_in_style f q ≡ (is_style_of f q || is_in_style f x)
  is_in_style-child q x d live parent =
      let s = live-spot f q live in
      let label : Some s.0.label ≡ label_of f q = rw s.1 refl in
      ap (list_any (λ (node : Keyed Node). is_style node.label)) (of-child f q x s.0.label d live label parent)
      ∙ ap (λ o. option_map_or is_style o false || is_in_style f x) label

  pub is_in_style-root : (q : ℕ) → HasDistinctKeys f → IsLive f q → parent_of f q ≡ None → is_in_style f q ≡ is_style_of f q
  is_in_style-root q d live parent =
      let s = live-spot f q live in
      let label : Some s.0.label ≡ label_of f q = rw s.1 refl in
      ap (list_any (λ (node : Keyed Node). is_style node.label)) (of-root f q s.0.label d live label parent)
      ∙ or-none (is_style s.0.label)
      ∙ ap (λ o. option_map_or is_style o false) label

  -- a style element stands in one
  pub is_in_style-at : (q : ℕ) → HasDistinctKeys f → IsLive f q → is_style_of f q ≡ true → is_in_style f q ≡ true
  is_in_style-at q d live style =
      elim (parent_of f q) as (λ (o : Option ℕ). parent_of f q ≡ o → is_in_style f q ≡ true) [
        | None ↦ λ parent. is_in_style-root q d live parent ∙ style
        | Some x ↦ λ parent. is_in_style-child q x d live parent ∙ ap (λ b. b || is_in_style f x) style
      ] refl
