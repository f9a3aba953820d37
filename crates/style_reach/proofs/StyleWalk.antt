-- A walk through the nodes in a node, which looks for a style element and keeps no list of where it stands.
use Rattle.std.proofs.Common.{◌≡◌, ◌≢◌, ◌<◌, ◌≤◌, ◌+◌, ◌*◌, ◌||◌, ℕ, Bool, true, false, length, Option, Some, None, refl, sym, ap, subst, ◌∙◌, arith, length-append}
use Rattle.std.specs.Option.{option_map_or}
use Rattle.std.proofs.lemmas.Option.{none-some, same_Some}
use Rattle.forest.specs.Forest.{Forest, Empty, Tree, size}
use Rattle.forest.specs.Keys.{Keyed, HasDistinctKeys, without_keys}
use Rattle.forest.specs.Paths.{route_of}
use Rattle.forest.specs.Spots.{IsLink, IsLive, after_of, children_of, first_child_of, label_of, next_sibling_of, on_link, parent_of}
use Rattle.forest.proofs.SpotLaws.{live-spot, on_first, on_key, on_next}
use Rattle.forest.proofs.StandLaws.{with_depths}
use Rattle.forest.proofs.SiblingLaws.{child-is, next-is-child}
use Rattle.forest.proofs.PathLaws.{parent-live, first-from}
use Rattle.forest.proofs.WalkLaws.{after_tree, left-under, shorter-route}
use Rattle.plain_types.specs.declared.node.Node.{Node}
use Rattle.style_reach.specs.TouchedSheets.{have_style, is_style, is_style_of}
use Rattle.style_reach.proofs.StyleLookups.{have_style-tree}
use Rattle.style_reach.proofs.TestLaws.{or-none}

module _ (f : Forest (Keyed Node)) (top : ℕ) where
  -- the node is this one, or in it
  pub data IsInside : ℕ → Type 0 where
    itself : IsInside top
    inside : (parent key : ℕ) → key ≢ top → IsLive f key → parent_of f key ≡ Some parent → IsInside parent → IsInside key

  -- a style element is left behind a node, among what is in the first
  abbrev pub left_behind : (key : ℕ) → IsInside key → Bool
  left_behind _ itself = false
  left_behind _ (inside parent key other live above deeper) = have_style (without_keys (after_of f key)) || left_behind parent deeper

  -- where the walk stands: at the node of a link among the children of a node, or past them
  pub record Stands (node : ℕ) (link : Option ℕ) : Type 0 where
    pub live : IsLive f node
    pub chain : IsInside node
    pub link_is : IsLink f link
    pub parent : (key : ℕ) → link ≡ Some key → parent_of f key ≡ Some node
    pub left : (have_style (without_keys (on_link f link)) || left_behind node chain) ≡ have_style (without_keys (children_of f top))

  -- how much is left of the walk
  abbrev pub turns_left : ℕ → Option ℕ → ℕ
  turns_left node link = 2 * (size (on_link f link) + length (after_tree f node)) + length (route_of f node)

  module _ (d : HasDistinctKeys f) where
    -- no node in it has a shorter way
    deep : (key : ℕ) → IsInside key → length (route_of f top) ≤ length (route_of f key)
    deep _ itself = omega arith
    deep _ (inside parent key other live above deeper) = omega (arith, deep parent deeper, shorter-route f key parent d live above)

    first-parent : (node key : ℕ) → IsLive f node → first_child_of f node ≡ Some key → parent_of f key ≡ Some node
    first-parent node key live is = (child-is f node d 0 key live (sym (first-from 0 (children_of f node)) ∙ is)).1

    next-parent : (key next parent : ℕ) → IsLive f key → parent_of f key ≡ Some parent → next_sibling_of f key ≡ Some next → parent_of f next ≡ Some parent
    next-parent key next parent live above is = (child-is f parent d _ next (parent-live f key parent d live above) (sym (next-is-child f key parent d live above) ∙ is)).1

    pub begins : IsLive f top → Stands top (first_child_of f top)
    begins live =
        let first = on_first f top d live in
        record {
          live = live;
          chain = itself;
          link_is = first.1;
          parent = λ key is. first-parent top key live is;
          left = ap (λ g. have_style (without_keys g) || false) first.0 ∙ or-none (have_style (without_keys (children_of f top)));
        }

    length-depths : (depth : ℕ) (g : Forest (Keyed Node)) → length (with_depths depth g) ≡ size g
    length-depths depth Empty = refl
    length-depths depth (Tree n c r) = omega (arith, length-append (with_depths (depth + 1) c) (with_depths depth r), length-depths (depth + 1) c, length-depths depth r)

    behind : (key parent : ℕ) → IsLive f key → parent_of f key ≡ Some parent → length (after_tree f key) ≡ size (after_of f key) + length (after_tree f parent)
    behind key parent live above =
        omega (arith, ap length (left-under f key parent d live above), length-append (with_depths (length (route_of f parent)) (after_of f key)) (after_tree f parent), length-depths (length (route_of f parent)) (after_of f key))

    found-at : (key : ℕ) → IsLive f key → have_style (without_keys (on_link f (Some key))) ≡ (is_style_of f key || (have_style (without_keys (children_of f key)) || have_style (without_keys (after_of f key))))
    found-at key live =
        let s = live-spot f key live in
        let label : Some s.0.label ≡ label_of f key = rw s.1 refl in
        ap (λ g. have_style (without_keys g)) (on_key f key s.0.label live label)
        ∙ have_style-tree s.0.label (without_keys (children_of f key)) (without_keys (after_of f key))
        ∙ ap (λ o. option_map_or is_style o false || (have_style (without_keys (children_of f key)) || have_style (without_keys (after_of f key)))) label

    -- a style element is found
    pub finds : (node key : ℕ) (link : Option ℕ) → Stands node link → link ≡ Some key → is_style_of f key ≡ true → have_style (without_keys (children_of f top)) ≡ true
    finds node key link stands is style =
        let here = subst (λ l. Stands node l) is stands in
        sym here.left ∙ ap (λ b. b || left_behind node here.chain) (found-at key here.link_is ∙ ap (λ b. b || (have_style (without_keys (children_of f key)) || have_style (without_keys (after_of f key)))) style)

    or-apart : (a b c : Bool) → (a || (b || c)) ≡ ((a || b) || c)
    or-apart true b c = refl
    or-apart false b c = refl

    -- a node is entered
    pub enters : (node key : ℕ) (link next : Option ℕ) → Stands node link → link ≡ Some key → is_style_of f key ≡ false → next ≡ first_child_of f key
        → Stands key next × (turns_left key next < turns_left node link)
    enters node key link next stands is style next_is =
        let here = subst (λ l. Stands node l) is stands in
        let live : IsLive f key = here.link_is in
        let above = here.parent key refl in
        let first = on_first f key d live in
        let other : key ≢ top = λ e. absurd (omega (arith, deep node here.chain, shorter-route f key node d live above, ap (λ k. length (route_of f k)) e)) in
        let children = have_style (without_keys (children_of f key)) in
        let after = have_style (without_keys (after_of f key)) in
        let here_size : size (on_link f (Some key)) ≡ 1 + (size (children_of f key) + size (after_of f key)) = ap size (on_key f key (live-spot f key live).0.label live (rw (live-spot f key live).1 refl)) in
        rw (next_is, is) (
          record {
            live = live;
            chain = inside node key other live above here.chain;
            link_is = first.1;
            parent = λ child is. first-parent key child live is;
            left =
                ap (λ g. have_style (without_keys g) || (after || left_behind node here.chain)) first.0
                ∙ or-apart children after (left_behind node here.chain)
                ∙ ap (λ b. b || left_behind node here.chain) (sym (found-at key live ∙ ap (λ b. b || (children || after)) style))
                ∙ here.left;
          },
          omega (arith, ap size first.0, here_size, behind key node live above, shorter-route f key node d live above),
        )

    -- a node is left
    pub leaves : (node up : ℕ) (link next : Option ℕ) → Stands node link → link ≡ None → node ≢ top → next ≡ next_sibling_of f node → parent_of f node ≡ Some up
        → Stands up next × (turns_left up next < turns_left node link)
    leaves node up link next stands is other next_is above =
        let here = subst (λ l. Stands node l) is stands in
        let beside = on_next f node d here.live in
        let rest = past node here.chain other up above in
        rw (next_is, is) (
          record {
            live = parent-live f node up d here.live above;
            chain = rest.0;
            link_is = beside.1;
            parent = λ key is. next-parent node key up here.live above is;
            left = ap (λ g. have_style (without_keys g) || left_behind up rest.0) beside.0 ∙ sym rest.1 ∙ here.left;
          },
          omega (arith, ap size beside.0, behind node up here.live above, shorter-route f node up d here.live above),
        )
      where
        past : (key : ℕ) (chain : IsInside key) → key ≢ top → (up : ℕ) → parent_of f key ≡ Some up
            → (rest : IsInside up) × (left_behind key chain ≡ (have_style (without_keys (after_of f key)) || left_behind up rest))
        past _ itself other up above = absurd (other refl)
        past _ (inside parent key differs live is deeper) other up above =
            let same : parent ≡ up = same_Some _ _ (sym is ∙ above) in
            subst (λ x. (rest : IsInside x) × ((have_style (without_keys (after_of f key)) || left_behind parent deeper) ≡ (have_style (without_keys (after_of f key)) || left_behind x rest))) same (deeper, refl)

    -- a node that is in it, and not it, has a parent
    pub has-parent : (node : ℕ) (link : Option ℕ) → Stands node link → node ≢ top → parent_of f node ≡ None → ⊥
    has-parent node link stands other none = by-chain node stands.chain other none
      where
        by-chain : (key : ℕ) → IsInside key → key ≢ top → parent_of f key ≡ None → ⊥
        by-chain _ itself other none = other refl
        by-chain _ (inside parent key differs live above deeper) other none = none-some parent (sym none ∙ above)

    -- none is left
    pub ends : (node : ℕ) (link : Option ℕ) → Stands node link → link ≡ None → node ≡ top → have_style (without_keys (children_of f top)) ≡ false
    ends node link stands is here =
        let end = subst (λ l. Stands node l) is stands in
        sym end.left ∙ nothing node end.chain here
      where
        nothing : (key : ℕ) (chain : IsInside key) → key ≡ top → left_behind key chain ≡ false
        nothing _ itself same = refl
        nothing _ (inside parent key other live above deeper) same = absurd (other same)
