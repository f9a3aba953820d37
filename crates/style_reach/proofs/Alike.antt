-- Two documents that differ only where the element of a key does not see it, and what is then seen of where it stands.
use Rattle.std.proofs.Common.{◌≡◌, ◌==◌, ◌+◌, ℕ, ◌&&◌, Bool, true, false, cond, List, [], ◌∷◌, ◌++◌, map, length, refl, sym, ap, ◌∙◌, arith, Option, Some, None, option_map}
use Rattle.std.specs.Option.{option_or}
use Rattle.forest.specs.Forest.{Forest, Empty, Tree}
use Rattle.forest.specs.Keys.{Keyed, times, without_keys}
use Rattle.forest.specs.Spots.{Spot, keyed, spot}
use Rattle.forest.proofs.SpotLaws.{spot-absent}
use Rattle.plain_types.specs.declared.attr.Attr.{Attr}
use Rattle.plain_types.specs.declared.node.Node.{Node}
use Rattle.plain_types.specs.declared.node.Node.TheVariants as node
use Rattle.plain_types.specs.declared.sheet.Features.{Features}
use Rattle.selector_match.specs.Elements.{Element, Level, are_nothing, element_with, elements, level_of, standing_in}
use Rattle.style_reach.proofs.CascadeLaws.{IsSeenAlike}
use Rattle.style_reach.proofs.Seen.{seen, seen_element, seen_level, seen_sibling, seen_siblings}
use Rattle.style_reach.proofs.TestLaws.{map-or, or-same}

-- no selector looks at more than elements and their ancestors
abbrev pub none : Features
none = record { siblings = false; positions = false; empties = false }

module _ (features : Features) (key : ℕ) where
  -- the node of the key is not this one, nor under it
  pub record IsApart (node : ℕ) (children : Forest (Keyed Node)) : Type 0 where
    pub node_is : (node == key) ≡ false
    pub children_are : times key children ≡ 0

  -- What stays stays, but for elements that look alike as siblings, and, where no selector looks at siblings, for trees that
  -- come or go; and in none of these the node of the key stands.
  pub data Alike : Forest (Keyed Node) → Forest (Keyed Node) → Type 0 where
    nothing : Alike Empty Empty
    stays : (node : Keyed Node) (c c' r r' : Forest (Keyed Node)) → Alike c c' → Alike r r' → Alike (Tree node c r) (Tree node c' r')
    differs : (k : ℕ) (name : List ℕ) (attrs attrs' : List Attr) (c c' r r' : Forest (Keyed Node)) → IsApart k c → IsApart k c'
        → seen_sibling features (element_with name attrs (without_keys c)) ≡ seen_sibling features (element_with name attrs' (without_keys c'))
        → Alike r r' → Alike (Tree (keyed k (node.Element name attrs)) c r) (Tree (keyed k (node.Element name attrs')) c' r')
    goes : (node : Keyed Node) (c r r' : Forest (Keyed Node)) → features ≡ none → IsApart node.key c → Alike r r' → Alike (Tree node c r) r'
    comes : (node : Keyed Node) (c r r' : Forest (Keyed Node)) → features ≡ none → IsApart node.key c → Alike r r' → Alike r (Tree node c r')

  pub itself : (f : Forest (Keyed Node)) → Alike f f
  itself Empty = nothing
  itself (Tree n c r) = stays n c c r r (itself c) (itself r)

-- What is seen of lists of siblings.

siblings-cons : (s p e : Bool) (x y : Element) (xs ys : List Element)
    → seen_sibling (record { siblings = s; positions = p; empties = e }) x ≡ seen_sibling (record { siblings = s; positions = p; empties = e }) y
    → seen_siblings (record { siblings = s; positions = p; empties = e }) xs ≡ seen_siblings (record { siblings = s; positions = p; empties = e }) ys
    → seen_siblings (record { siblings = s; positions = p; empties = e }) (x ∷ xs) ≡ seen_siblings (record { siblings = s; positions = p; empties = e }) (y ∷ ys)
siblings-cons true p e x y xs ys h k =
    let f = seen_sibling (record { siblings = true; positions = p; empties = e }) in
    ap (λ (z : Element). z ∷ map f xs) h ∙ ap (λ (zs : List Element). f y ∷ zs) k
siblings-cons false true e x y xs ys h k =
    let f = seen_sibling (record { siblings = false; positions = true; empties = e }) in
    ap (λ (z : Element). z ∷ map f xs) h ∙ ap (λ (zs : List Element). f y ∷ zs) k
siblings-cons false false e x y xs ys h k = refl

and-more : (e b x y : Bool) → (e && x) ≡ (e && y) → (e && (b && x)) ≡ (e && (b && y))
and-more true b x y h = ap (λ z. b && z) h
and-more false b x y h = refl

-- a node that trees do not have stands nowhere in them
absent : (f : Forest (Keyed Node)) (above : List Level) (earlier : List Element) (q : ℕ) → times q f ≡ 0 → standing_in above earlier f q ≡ None
absent Empty above earlier q h = refl
absent (Tree n c r) above earlier q h = by-label n.key n.label (absent c) (absent r) h
  where
    by-label : (k : ℕ) (l : Node) → ((above : List Level) (earlier : List Element) (q : ℕ) → times q c ≡ 0 → standing_in above earlier c q ≡ None)
        → ((above : List Level) (earlier : List Element) (q : ℕ) → times q r ≡ 0 → standing_in above earlier r q ≡ None)
        → times q (Tree (keyed k l) c r) ≡ 0 → standing_in above earlier (Tree (keyed k l) c r) q ≡ None
    by-label k (node.Text characters) below beside h = beside above earlier q (omega arith)
    by-label k (node.Element name attrs) below beside h =
        let here : Element = element_with name attrs (without_keys c) in
        elim (k == q) as (λ b. cond b 1 0 + (times q c + times q r) ≡ 0 → cond b (Some (record { level = level_of earlier here r; above = above })) (option_or (standing_in (level_of earlier here r ∷ above) [] c q) (standing_in above (here ∷ earlier) r q)) ≡ None) [
          | true ↦ λ h. absurd (omega arith)
          | false ↦ λ h. rw (below (level_of earlier here r ∷ above) [] q (omega arith), beside above (here ∷ earlier) q (omega arith)) refl
        ] h

module _ (features : Features) (key : ℕ) where
  cons : (x y : Element) (xs ys : List Element) → seen_sibling features x ≡ seen_sibling features y → seen_siblings features xs ≡ seen_siblings features ys → seen_siblings features (x ∷ xs) ≡ seen_siblings features (y ∷ ys)
  cons x y xs ys h k = siblings-cons features.siblings features.positions features.empties x y xs ys h k

  none-seen : (xs ys : List Element) → features ≡ none → seen_siblings features xs ≡ seen_siblings features ys
  none-seen xs ys is = ap (λ f. seen_siblings f xs) is ∙ sym (ap (λ f. seen_siblings f ys) is)

  -- Elements with alike children.

  empty-alike : (f g : Forest (Keyed Node)) → Alike features key f g → (features.empties && are_nothing (without_keys f)) ≡ (features.empties && are_nothing (without_keys g))
  empty-alike _ _ nothing = refl
  empty-alike _ _ (stays n c c' r r' below after) = by-label n.key n.label (empty-alike r r' after)
    where
      by-label : (k : ℕ) (l : Node) → (features.empties && are_nothing (without_keys r)) ≡ (features.empties && are_nothing (without_keys r'))
          → (features.empties && are_nothing (without_keys (Tree (keyed k l) c r))) ≡ (features.empties && are_nothing (without_keys (Tree (keyed k l) c' r')))
      by-label k (node.Element name attrs) h = refl
      by-label k (node.Text characters) h = and-more features.empties (length characters == 0) _ _ h
  empty-alike _ _ (differs k name attrs attrs' c c' r r' apart apart' alike after) = refl
  empty-alike f g (goes n c r r' is apart after) =
      ap (λ (x : Features). x.empties && are_nothing (without_keys f)) is ∙ sym (ap (λ (x : Features). x.empties && are_nothing (without_keys g)) is)
  empty-alike f g (comes n c r r' is apart after) =
      ap (λ (x : Features). x.empties && are_nothing (without_keys f)) is ∙ sym (ap (λ (x : Features). x.empties && are_nothing (without_keys g)) is)

  element-alike : (name : List ℕ) (attrs : List Attr) (f g : Forest (Keyed Node)) → Alike features key f g
      → seen_element features (element_with name attrs (without_keys f)) ≡ seen_element features (element_with name attrs (without_keys g))
  element-alike name attrs f g alike = ap (λ b. record { name = name; attrs = attrs; is_empty = b }) (empty-alike f g alike)

  sibling-alike : (name : List ℕ) (attrs : List Attr) (f g : Forest (Keyed Node)) → Alike features key f g
      → seen_sibling features (element_with name attrs (without_keys f)) ≡ seen_sibling features (element_with name attrs (without_keys g))
  sibling-alike name attrs f g alike = ap (λ (x : Element). cond features.siblings x (record { name = name; attrs = []; is_empty = false })) (element-alike name attrs f g alike)

  siblings-alike : (f g : Forest (Keyed Node)) → Alike features key f g → seen_siblings features (elements (without_keys f)) ≡ seen_siblings features (elements (without_keys g))
  siblings-alike _ _ nothing = refl
  siblings-alike _ _ (stays n c c' r r' below after) = by-label n.key n.label (siblings-alike r r' after)
    where
      by-label : (k : ℕ) (l : Node) → seen_siblings features (elements (without_keys r)) ≡ seen_siblings features (elements (without_keys r'))
          → seen_siblings features (elements (without_keys (Tree (keyed k l) c r))) ≡ seen_siblings features (elements (without_keys (Tree (keyed k l) c' r')))
      by-label k (node.Element name attrs) h = cons (element_with name attrs (without_keys c)) (element_with name attrs (without_keys c')) _ _ (sibling-alike name attrs c c' below) h
      by-label k (node.Text characters) h = h
  siblings-alike _ _ (differs k name attrs attrs' c c' r r' apart apart' alike after) =
      cons (element_with name attrs (without_keys c)) (element_with name attrs' (without_keys c')) _ _ alike (siblings-alike r r' after)
  siblings-alike f g (goes n c r r' is apart after) = none-seen _ _ is
  siblings-alike f g (comes n c r r' is apart after) = none-seen _ _ is

  -- the same is seen of the ancestors and of the siblings before
  record Around (above above' : List Level) (earlier earlier' : List Element) : Type 0 where
    pub above_is : map (seen_level features) above ≡ map (seen_level features) above'
    pub earlier_is : seen_siblings features earlier ≡ seen_siblings features earlier'

  -- so the same is seen of where the element of the key stands
  abbrev Shows : Forest (Keyed Node) → Forest (Keyed Node) → Type 0
  Shows f g =
      (above above' : List Level) (earlier earlier' : List Element) → Around above above' earlier earlier'
      → option_map (seen features) (standing_in above earlier f key) ≡ option_map (seen features) (standing_in above' earlier' g key)

  flip : (f g : Forest (Keyed Node)) → Shows f g → Shows g f
  flip f g h above above' earlier earlier' around = sym (h above' above earlier' earlier (record { above_is = sym around.above_is; earlier_is = sym around.earlier_is }))

  -- One element, its children and its later siblings, in two documents.
  module _ (k : ℕ) (name : List ℕ) (attrs attrs' : List Attr) (c c' r r' : Forest (Keyed Node)) where
    abbrev one : Element
    one = element_with name attrs (without_keys c)

    abbrev two : Element
    two = element_with name attrs' (without_keys c')

    element-shows : seen_element features one ≡ seen_element features two → seen_sibling features one ≡ seen_sibling features two
        → seen_siblings features (elements (without_keys r)) ≡ seen_siblings features (elements (without_keys r'))
        → Shows c c' → Shows r r' → Shows (Tree (keyed k (node.Element name attrs)) c r) (Tree (keyed k (node.Element name attrs')) c' r')
    element-shows own as_sibling later below after above above' earlier earlier' around =
        let level : Level = level_of earlier one r in
        let level' : Level = level_of earlier' two r' in
        let same : seen_level features level ≡ seen_level features level' =
        ap (λ (x : Element). record { element = x; earlier = seen_siblings features earlier; later = seen_siblings features (elements (without_keys r)) }) own
        ∙ ap (λ (xs : List Element). record { element = seen_element features two; earlier = xs; later = seen_siblings features (elements (without_keys r)) }) around.earlier_is
        ∙ ap (λ (xs : List Element). record { element = seen_element features two; earlier = seen_siblings features earlier'; later = xs }) later in
        let up : map (seen_level features) (level ∷ above) ≡ map (seen_level features) (level' ∷ above') = ap (λ (x : Level). x ∷ map (seen_level features) above) same ∙ ap (λ (xs : List Level). seen_level features level' ∷ xs) around.above_is in
        elim (k == key) as (λ b. option_map (seen features) (cond b (Some (record { level = level; above = above })) (option_or (standing_in (level ∷ above) [] c key) (standing_in above (one ∷ earlier) r key)))
        ≡ option_map (seen features) (cond b (Some (record { level = level'; above = above' })) (option_or (standing_in (level' ∷ above') [] c' key) (standing_in above' (two ∷ earlier') r' key)))) [
          | true ↦ ap (λ (x : Level). Some (record { level = x; above = map (seen_level features) above })) same ∙ ap (λ (xs : List Level). Some (record { level = seen_level features level'; above = xs })) around.above_is
          | false ↦
              map-or (seen features) (standing_in (level ∷ above) [] c key) (standing_in above (one ∷ earlier) r key)
              ∙ or-same _ _ _ _
              (below (level ∷ above) (level' ∷ above') [] [] (record { above_is = up; earlier_is = refl }))
              (after above above' (one ∷ earlier) (two ∷ earlier') (record { above_is = around.above_is; earlier_is = cons one two earlier earlier' as_sibling around.earlier_is }))
              ∙ sym (map-or (seen features) (standing_in (level' ∷ above') [] c' key) (standing_in above' (two ∷ earlier') r' key))
        ]

    -- the node of the key is not in it
    apart-shows : IsApart features key k c → IsApart features key k c' → seen_sibling features one ≡ seen_sibling features two
        → Shows r r' → Shows (Tree (keyed k (node.Element name attrs)) c r) (Tree (keyed k (node.Element name attrs')) c' r')
    apart-shows apart apart' as_sibling after above above' earlier earlier' around =
        rw (apart.node_is, absent c (level_of earlier one r ∷ above) [] key apart.children_are, absent c' (level_of earlier' two r' ∷ above') [] key apart'.children_are)
        (after above above' (one ∷ earlier) (two ∷ earlier') (record { above_is = around.above_is; earlier_is = cons one two earlier earlier' as_sibling around.earlier_is }))

  -- one tree more in one of the two documents
  more-shows : (k : ℕ) (l : Node) (c r r' : Forest (Keyed Node)) → features ≡ none → IsApart features key k c → Shows r r' → Shows (Tree (keyed k l) c r) r'
  more-shows k (node.Text characters) c r r' is apart h = h
  more-shows k (node.Element name attrs) c r r' is apart h = λ above above' earlier earlier' around.
      let here : Element = element_with name attrs (without_keys c) in
      rw (apart.node_is, absent c (record { element = here; earlier = earlier; later = elements (without_keys r) } ∷ above) [] key apart.children_are)
      (h above above' (here ∷ earlier) earlier' (record { above_is = around.above_is; earlier_is = none-seen (here ∷ earlier) earlier' is }))

  alike-shows : (f g : Forest (Keyed Node)) → Alike features key f g → Shows f g
  alike-shows _ _ nothing = λ above above' earlier earlier' around. refl
  alike-shows _ _ (stays n c c' r r' below after) = by-label n.key n.label (alike-shows c c' below) (alike-shows r r' after)
    where
      by-label : (k : ℕ) (l : Node) → Shows c c' → Shows r r' → Shows (Tree (keyed k l) c r) (Tree (keyed k l) c' r')
      by-label k (node.Element name attrs) down on =
          element-shows k name attrs attrs c c' r r' (element-alike name attrs c c' below) (sibling-alike name attrs c c' below) (siblings-alike r r' after) down on
      by-label k (node.Text characters) down on = on
  alike-shows _ _ (differs k name attrs attrs' c c' r r' apart apart' alike after) = apart-shows k name attrs attrs' c c' r r' apart apart' alike (alike-shows r r' after)
  alike-shows _ _ (goes n c r r' is apart after) = more-shows n.key n.label c r r' is apart (alike-shows r r' after)
  alike-shows _ _ (comes n c r r' is apart after) =
      flip (Tree n c r') r (more-shows n.key n.label c r' r is apart (flip r r' (alike-shows r r' after)))

  -- The node of the key is the same.

  abbrev label_in : Option ℕ → List (Keyed Node) → Forest (Keyed Node) → Option Node
  label_in p e f = option_map (λ (s : Spot Node). s.label) (spot p e f key)

  abbrev Labels : Forest (Keyed Node) → Forest (Keyed Node) → Type 0
  Labels f g = (p p' : Option ℕ) (e e' : List (Keyed Node)) → label_in p e f ≡ label_in p' e' g

  node-labels : (n : Keyed Node) (c c' r r' : Forest (Keyed Node)) → Labels c c' → Labels r r' → Labels (Tree n c r) (Tree n c' r')
  node-labels n c c' r r' below after p p' e e' =
      let told : Option ℕ → List (Keyed Node) → Forest (Keyed Node) → Forest (Keyed Node) → Bool → Option Node =
      λ p e c r b. option_map (λ (s : Spot Node). s.label) (cond b (Some (record { parent = p; earlier = e; label = n.label; children = c; after = r })) (option_or (spot (Some n.key) [] c key) (spot p (e ++ n ∷ []) r key))) in
      elim (n.key == key) as (λ b. told p e c r b ≡ told p' e' c' r' b) [
        | true ↦ refl
        | false ↦
            map-or (λ (s : Spot Node). s.label) (spot (Some n.key) [] c key) (spot p (e ++ n ∷ []) r key)
            ∙ or-same _ _ _ _ (below (Some n.key) (Some n.key) [] []) (after p p' (e ++ n ∷ []) (e' ++ n ∷ []))
            ∙ sym (map-or (λ (s : Spot Node). s.label) (spot (Some n.key) [] c' key) (spot p' (e' ++ n ∷ []) r' key))
      ]

  past-labels : (n : Keyed Node) (c r : Forest (Keyed Node)) (p : Option ℕ) (e : List (Keyed Node)) → IsApart features key n.key c → label_in p e (Tree n c r) ≡ label_in p (e ++ n ∷ []) r
  past-labels n c r p e apart = rw (apart.node_is, spot-absent c (Some n.key) [] key apart.children_are) refl

  alike-labels : (f g : Forest (Keyed Node)) → Alike features key f g → Labels f g
  alike-labels _ _ nothing = λ p p' e e'. refl
  alike-labels _ _ (stays n c c' r r' below after) = node-labels n c c' r r' (alike-labels c c' below) (alike-labels r r' after)
  alike-labels _ _ (differs k name attrs attrs' c c' r r' apart apart' alike after) = λ p p' e e'.
      let one : Keyed Node = keyed k (node.Element name attrs) in
      let two : Keyed Node = keyed k (node.Element name attrs') in
      past-labels one c r p e apart ∙ alike-labels r r' after p p' (e ++ one ∷ []) (e' ++ two ∷ []) ∙ sym (past-labels two c' r' p' e' apart')
  alike-labels _ _ (goes n c r r' is apart after) = λ p p' e e'. past-labels n c r p e apart ∙ alike-labels r r' after p p' (e ++ n ∷ []) e'
  alike-labels _ _ (comes n c r r' is apart after) = λ p p' e e'. alike-labels r r' after p p' e (e' ++ n ∷ []) ∙ sym (past-labels n c r' p' e' apart)

  -- the same is seen of the element in the two documents
  pub alike-seen : (f g : Forest (Keyed Node)) → Alike features key f g → IsSeenAlike features key f g
  alike-seen f g alike = record {
    stands = alike-shows f g alike [] [] [] [] (record { above_is = refl; earlier_is = refl });
    label = alike-labels f g alike None None [] [];
  }
