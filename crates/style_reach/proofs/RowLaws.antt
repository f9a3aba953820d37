-- What an element outside of the reach sees of a change among the children of a node, and of another attribute.
use Rattle.std.proofs.Common.{◌≡◌, ◌<◌, ◌≤◌, ◌&&◌, ◌||◌, ℕ, zero, suc, Bool, true, false, List, [], Option, Some, None, refl, sym, ap, subst, ◌∙◌, arith}
use Rattle.std.specs.Prelude.{unwrap_or, IsTrue}
use Rattle.forest.specs.Forest.{Forest, Empty, Tree}
use Rattle.forest.specs.Keys.{Keyed, times, without_keys}
use Rattle.forest.specs.Paths.{trees_from}
use Rattle.forest.specs.Spots.{Spot, keyed, spot_of, IsLive, parent_of, children_of, index_of}
use Rattle.forest.specs.Changes.{put_children, put_label, splice}
use Rattle.forest.proofs.SiblingLaws.{child-index}
use Rattle.plain_types.specs.declared.attr.Attr.{Attr}
use Rattle.plain_types.specs.declared.node.Node.{Node}
use Rattle.plain_types.specs.declared.node.Node.TheVariants as node
use Rattle.plain_types.specs.declared.sheet.Features.{Features}
use Rattle.node_arena.specs.AtPaths.{from_position, without_first}
use Rattle.node_arena.specs.Changes.{IsElementKey}
use Rattle.node_arena.specs.Copies.{is_element}
use Rattle.node_arena.specs.Document.{IsKeyedDocument}
use Rattle.node_arena.proofs.EntryLaws.{one-tree}
use Rattle.node_arena.proofs.HangLaws.{root-counted}
use Rattle.node_arena.proofs.PrepareLaws.{has-place}
use Rattle.node_arena.proofs.SoundLaws.{element-spot}
use Rattle.selector_match.specs.Elements.{are_nothing, element_with}
use Rattle.style_reach.specs.Ancestors.{is_within}
use Rattle.style_reach.specs.Reaches.{seen_from}
use Rattle.style_reach.proofs.AncestorLaws.{outside, root-within}
use Rattle.style_reach.proofs.Alike.{Alike, IsApart, comes, differs, goes, itself, none, stays}
use Rattle.style_reach.proofs.Replaced.{IsReplaced, below, beside, here, nothing-replaced, put-children, put-label, replaced-times, replaced-under}
use Rattle.style_reach.proofs.Seen.{seen_sibling}

-- When an element is seen alike as a sibling.

by-attributes : (s p e : Bool) → s ≡ false → (name : List ℕ) (attrs attrs' : List Attr) (g g' : Forest Node)
    → seen_sibling (record { siblings = s; positions = p; empties = e }) (element_with name attrs g) ≡ seen_sibling (record { siblings = s; positions = p; empties = e }) (element_with name attrs' g')
by-attributes false p e h name attrs attrs' g g' = refl
by-attributes true p e h name attrs attrs' g g' = absurd (cc)

by-children : (s p e : Bool) → (s && e) ≡ false → (name : List ℕ) (attrs : List Attr) (g g' : Forest Node)
    → seen_sibling (record { siblings = s; positions = p; empties = e }) (element_with name attrs g) ≡ seen_sibling (record { siblings = s; positions = p; empties = e }) (element_with name attrs g')
by-children false p e h name attrs g g' = refl
by-children true p false h name attrs g g' = refl
by-children true p true h name attrs g g' = absurd (cc)

by-emptiness : (features : Features) (name : List ℕ) (attrs : List Attr) (g g' : Forest Node) → are_nothing g ≡ are_nothing g'
    → seen_sibling features (element_with name attrs g) ≡ seen_sibling features (element_with name attrs g')
by-emptiness features name attrs g g' same = ap (λ b. seen_sibling features (record { name = name; attrs = attrs; is_empty = b })) same

no-feature : (s p e : Bool) → (s || (p || e)) ≡ false → record { siblings = s; positions = p; empties = e } ≡ none
no-feature false false false h = refl
no-feature false false true h = absurd (cc)
no-feature false true e h = absurd (cc)
no-feature true p e h = absurd (cc)

-- an element with its spot
pub record HasElement (f : Forest (Keyed Node)) (q : ℕ) : Type 0 where
  pub spot : Spot Node
  pub at : spot_of f q ≡ Some spot
  pub name : List ℕ
  pub attrs : List Attr
  pub label : spot.label ≡ node.Element name attrs

pub has-element : (f : Forest (Keyed Node)) (q : ℕ) → IsElementKey f q → HasElement f q
has-element f q h = let s = element-spot f q h in by-label s.0 s.0.label refl s.1 s.2
  where
    by-label : (s : Spot Node) (l : Node) → s.label ≡ l → spot_of f q ≡ Some s → IsTrue (is_element s.label) → HasElement f q
    by-label s (node.Element name attrs) is at element = record { spot = s; at = at; name = name; attrs = attrs; label = is }
    by-label s (node.Text characters) is at element = absurd (let no : false ≡ true = ap is_element (sym is) ∙ element in cc)

module _ (features : Features) (key : ℕ) where
  -- Trees that come and go, where no selector looks at siblings.

  pub comes-among : (i : ℕ) (m : Keyed Node) (t c : Forest (Keyed Node)) → features ≡ none → IsApart features key m.key t → Alike features key c (splice i m t c)
  comes-among zero m t c is apart = comes m t c c is apart (itself features key c)
  comes-among (suc i) m t Empty is apart = comes m t Empty Empty is apart (itself features key Empty)
  comes-among (suc i) m t (Tree n d r) is apart = stays n d d r (splice i m t r) (itself features key d) (comes-among i m t r is apart)

  pub goes-among : (i : ℕ) (m : Keyed Node) (t s c : Forest (Keyed Node)) → trees_from i c ≡ Tree m t s → features ≡ none → IsApart features key m.key t → Alike features key c (from_position without_first i c)
  goes-among zero m t s Empty at is apart = absurd (cc)
  goes-among zero m t s (Tree n d r) at is apart =
      subst (λ g. Alike features key g (without_first g)) (sym at) (goes m t s s is apart (itself features key s))
  goes-among (suc i) m t s Empty at is apart = absurd (cc)
  goes-among (suc i) m t s (Tree n d r) at is apart = stays n d d r (from_position without_first i r) (itself features key d) (goes-among i m t s r at is apart)

  -- a node is replaced, and the documents are alike where its trees are, whatever is behind them
  replaced-alike : (q : ℕ) (l l' : Node) (c c' : Forest (Keyed Node)) → ((r : Forest (Keyed Node)) → Alike features key (Tree (keyed q l) c r) (Tree (keyed q l') c' r))
      → (f g : Forest (Keyed Node)) → IsReplaced q l l' c c' f g → Alike features key f g
  replaced-alike q l l' c c' there _ _ (here r) = there r
  replaced-alike q l l' c c' there _ _ (below n x x' r deeper) = stays n x x' r r (replaced-alike q l l' c c' there x x' deeper) (itself features key r)
  replaced-alike q l l' c c' there _ _ (beside n x r r' later) = stays n x x r r' (itself features key x) (replaced-alike q l l' c c' there r r' later)

  module _ (f : Forest (Keyed Node)) (d : IsKeyedDocument f) (live : IsLive f key) where
    apart : (q : ℕ) (e : HasElement f q) → is_within f q key ≡ false → IsApart features key q e.spot.children
    apart q e out = let away = outside f q key e.spot d.distinct e.at live out in record { node_is = away.0; children_are = away.1 }

    -- others stand under an element, and as a sibling it looks alike
    hidden : (q : ℕ) (e : HasElement f q) (trees g : Forest (Keyed Node)) → IsReplaced q e.spot.label e.spot.label e.spot.children trees f g → is_within f q key ≡ false → times key g ≤ times key f
        → seen_sibling features (element_with e.name e.attrs (without_keys e.spot.children)) ≡ seen_sibling features (element_with e.name e.attrs (without_keys trees))
        → Alike features key f g
    hidden q e trees g replaced out more alike =
        let before = apart q e out in
        let after : IsApart features key q trees = record { node_is = before.node_is; children_are = omega (arith, before.children_are, replaced-times q e.spot.label e.spot.label e.spot.children trees key f g replaced) } in
        replaced-alike q e.spot.label e.spot.label e.spot.children trees
        (λ r. subst (λ l. Alike features key (Tree (keyed q l) e.spot.children r) (Tree (keyed q l) trees r)) (sym e.label)
        (differs q e.name e.attrs e.attrs e.spot.children trees r r before after alike (itself features key r))) f g replaced

    -- an element is replaced by one of its name, seen from its parent
    from-parent : (q : ℕ) (e : HasElement f q) (attrs : List Attr) (trees g : Forest (Keyed Node)) → IsReplaced q (node.Element e.name e.attrs) (node.Element e.name attrs) e.spot.children trees f g
        → times key g ≤ times key f → (o : Option ℕ) → parent_of f q ≡ o → is_within f (unwrap_or o q) key ≡ false → Alike features key f g
    from-parent q e attrs trees g replaced more None above out =
        absurd (let within : is_within f q key ≡ true = root-within f q key d.distinct (one-tree f d) (rw e.at refl) above live in cc)
    from-parent q e attrs trees g replaced more (Some p) above out =
        let live_q : IsLive f q = rw e.at refl in
        let up = has-element f p (has-place f q (record { parent = p; index = index_of f q }) d live_q above refl).element in
        let children : children_of f p ≡ up.spot.children = rw up.at refl in
        let there : 0 < times q up.spot.children = subst (λ x. 0 < times q x) children (root-counted (children_of f p) (index_of f q) q (child-index f q p d.distinct live_q above)) in
        let old : Node = node.Element e.name e.attrs in
        let new : Node = node.Element e.name attrs in
        let inner = replaced-under q old new e.spot.children trees p up.spot there f g replaced None [] d.distinct up.at in
        hidden p up inner.0 g inner.2 out more
        (by-emptiness features up.name up.attrs (without_keys up.spot.children) (without_keys inner.0) (nothing-replaced q e.name e.attrs attrs e.spot.children trees up.spot.children inner.0 inner.1))

    -- Others stand under an element.
    pub children-row : (q : ℕ) (e : HasElement f q) (trees : Forest (Keyed Node)) → times key trees ≤ times key e.spot.children → (features ≡ none → Alike features key e.spot.children trees)
        → ((top : ℕ) → seen_from features f q ≡ Some top → is_within f top key ≡ false) → Alike features key f (put_children q trees f)
    children-row q e trees more own seen =
        let g = put_children q trees f in
        let replaced = put-children f None [] q trees e.spot d.distinct e.at in
        let fewer : times key g ≤ times key f = omega (arith, replaced-times q e.spot.label e.spot.label e.spot.children trees key f g replaced) in
        elim (features.siblings && features.empties) as (λ b. (features.siblings && features.empties) ≡ b → Alike features key f g) [
          | true ↦ λ both.
              from-parent q e e.attrs trees g (subst (λ l. IsReplaced q l l e.spot.children trees f g) e.label replaced) fewer (parent_of f q) refl (seen (unwrap_or (parent_of f q) q) (rw both refl))
          | false ↦ λ both. elim (features.siblings || (features.positions || features.empties)) as (λ b. (features.siblings || (features.positions || features.empties)) ≡ b → Alike features key f g) [
            | true ↦ λ some. hidden q e trees g replaced (seen q (rw (both, some) refl)) fewer (by-children features.siblings features.positions features.empties both e.name e.attrs (without_keys e.spot.children) (without_keys trees))
            | false ↦ λ blind.
                let is : features ≡ none = no-feature features.siblings features.positions features.empties blind in
                replaced-alike q e.spot.label e.spot.label e.spot.children trees
                (λ r. stays (keyed q e.spot.label) e.spot.children trees r r (own is) (itself features key r)) f g replaced
          ] refl
        ] refl

    -- An element has other attributes.
    pub attribute-row : (q : ℕ) (e : HasElement f q) (attrs : List Attr) → is_within f q key ≡ false → (features.siblings ≡ true → (top : ℕ) → parent_of f q ≡ Some top → is_within f top key ≡ false)
        → Alike features key f (put_label q (node.Element e.name attrs) f)
    attribute-row q e attrs out seen =
        let new : Node = node.Element e.name attrs in
        let g = put_label q new f in
        let replaced : IsReplaced q (node.Element e.name e.attrs) new e.spot.children e.spot.children f g =
        subst (λ l. IsReplaced q l new e.spot.children e.spot.children f g) e.label (put-label f None [] q new e.spot d.distinct e.at) in
        let fewer : times key g ≤ times key f = omega (arith, replaced-times q (node.Element e.name e.attrs) new e.spot.children e.spot.children key f g replaced) in
        elim features.siblings as (λ b. features.siblings ≡ b → Alike features key f g) [
          | false ↦ λ blind.
              let away = apart q e out in
              replaced-alike q (node.Element e.name e.attrs) new e.spot.children e.spot.children
              (λ r. differs q e.name e.attrs attrs e.spot.children e.spot.children r r away away
              (by-attributes features.siblings features.positions features.empties blind e.name e.attrs attrs (without_keys e.spot.children) (without_keys e.spot.children)) (itself features key r)) f g replaced
          | true ↦ λ some. elim (parent_of f q) as (λ (o : Option ℕ). parent_of f q ≡ o → Alike features key f g) [
            | None ↦ λ above. from-parent q e attrs e.spot.children g replaced fewer None above out
            | Some p ↦ λ above. from-parent q e attrs e.spot.children g replaced fewer (Some p) above (seen some p above)
          ] refl
        ] refl
