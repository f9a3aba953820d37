-- What the links of a document say of where its elements stand.
use Rattle.std.proofs.Common.{◌≡◌, ◌==◌, ◌<◌, ◌≤◌, ◌+◌, ℕ, Bool, true, false, not, List, [], ◌∷◌, ◌++◌, length, Option, Some, None, IsSome, option_and_then, option_map, map, refl, sym, ap, subst, ◌∙◌, inl, inr, arith, length-append}
use Rattle.std.specs.Borrow.{Bor}
use Rattle.std.specs.Prelude.{unwrap_or, is_some, option_copied}
use Rattle.std.specs.Str.{chars}
use Rattle.std.proofs.lemmas.Bool.Decides.{nat_tests}
use Rattle.std.proofs.lemmas.Option.{none-some, same_Some}
use Rattle.forest.specs.Forest.{Forest, Empty, Tree, size}
use Rattle.forest.specs.Keys.{Keyed, times, without_keys}
use Rattle.forest.specs.Spots.{Spot, keyed, spot, spot_of, root_keys, IsLive, parent_of, children_of}
use Rattle.forest.proofs.SpotLaws.{chosen, first_found, the_some, live-spot, live-counted, spot-some, weigh-spot}
use Rattle.forest.proofs.PathLaws.{parent-live}
use Rattle.forest.proofs.SiblingLaws.{keys-children}
use Rattle.plain_types.specs.declared.attr.Attr.{Attr}
use Rattle.plain_types.specs.declared.node.Node.{Node}
use Rattle.plain_types.specs.declared.node.Node.TheVariants as node
use Rattle.node_arena.specs.Document.{IsKeyedDocument}
use Rattle.node_arena.specs.Nodes.{node_name, node_attrs, name_of, attrs_of}
use Rattle.node_arena.proofs.EntryLaws.{one-tree}
use Rattle.selector_match.specs.Elements.{Element, Level, Standing, element_with, elements, are_nothing, level_of, standing_of, ancestors, ancestors_in, is_root}
use Rattle.selector_match.specs.Positions.{siblings}
use Rattle.selector_match.specs.Machinery.Lookups.{IsElement, nowhere, standing_at, beside_of, IsBeside, IsElementBeside}
use Rattle.selector_match.proofs.SeatLaws.{Seat, the_seat, seated, times-seated, elements-own, HasSeat, seat-live, seat-stands, seat-child, seat-root, stand, stand_as, own, own_levels, onward, left_beside, IsSeatBeside, seat-beside, seat-alone, leaf-texts}

-- what was looked up has a name, or none
pub is-named : (r : Option (Bor (List ℕ))) (named : Option (List ℕ)) → option_map chars (option_copied r) ≡ named → is_some r ≡ true → (name : List ℕ) × (named ≡ Some name)
is-named None named is some = absurd (cc)
is-named (Some name) named is some = (chars name.now, sym is)

pub is-unnamed : (r : Option (Bor (List ℕ))) (named : Option (List ℕ)) → option_map chars (option_copied r) ≡ named → is_some r ≡ false → named ≡ None
is-unnamed None named is none = sym is
is-unnamed (Some name) named is none = absurd (cc)

-- where an element stands is where it was found
pub stands-there : (f : Forest (Keyed Node)) (q : ℕ) → IsElement f q → Some (standing_at f q) ≡ standing_of f q
stands-there f q some = found (standing_of f q) some
  where
    found : (o : Option Standing) → IsSome o → Some (unwrap_or o nowhere) ≡ o
    found None none = absurd (cc)
    found (Some standing) some = refl

-- From seat to seat, among siblings.

-- from the first seat to the second no element was passed
pub record Passes (after : Bool) (first second : Seat) : Type 0 where
  pub onward_is : onward after second ≡ onward after first
  pub back_is : own second.node second.children ++ onward (not after) second ≡ own first.node first.children ++ onward (not after) first
  pub above_is : second.above ≡ first.above

pub passes-none : (after : Bool) (seat : Seat) → Passes after seat seat
passes-none after seat = record { onward_is = refl; back_is = refl; above_is = refl }

-- a text is passed
pub passes-text : (after : Bool) (first second third : Seat) → Passes after first second → IsSeatBeside after second third → own third.node third.children ≡ [] → Passes after first third
passes-text after first second third passes beside text = record {
  onward_is = sym (ap (λ (here : List Element). here ++ onward after third) text) ∙ sym beside.onward_is ∙ passes.onward_is;
  back_is = ap (λ (here : List Element). here ++ onward (not after) third) text ∙ beside.back_is ∙ passes.back_is;
  above_is = beside.above_is ∙ passes.above_is;
}

-- the walk from the first node has come to this one
pub record Along (f : Forest (Keyed Node)) (after : Bool) (q at : ℕ) : Type 0 where
  pub live : IsLive f at
  pub first : Seat
  pub second : Seat
  pub first_is : HasSeat f q first
  pub second_is : HasSeat f at second
  pub passes : Passes after first second

module _ (f : Forest (Keyed Node)) (doc : IsKeyedDocument f) where
  -- an element with its seat
  pub record ElementSeat (q : ℕ) : Type 0 where
    pub name : List ℕ
    pub attrs : List Attr
    pub seat : Seat
    pub has : HasSeat f q seat
    pub node_is : seat.node ≡ node.Element name attrs
    pub stands : standing_of f q ≡ Some (record { level = level_of seat.earlier (element_with name attrs (without_keys seat.children)) seat.after; above = seat.above })

  stand-some : (seat : Seat) (n : Node) (o : Option Standing) → seat.node ≡ n → o ≡ stand seat → IsSome o
      → (name : List ℕ) × (attrs : List Attr) × (seat.node ≡ node.Element name attrs) × (o ≡ stand_as (node.Element name attrs) seat)
  stand-some seat (node.Element name attrs) o is at some = (name, attrs, is, at ∙ ap (λ m. stand_as m seat) is)
  stand-some seat (node.Text characters) o is at some =
      let there = the_some o some in
      absurd (none-some there.0 (sym (at ∙ ap (λ m. stand_as m seat) is) ∙ there.1))

  pub element-seat : (q : ℕ) → IsLive f q → IsElement f q → ElementSeat q
  element-seat q live some =
      let s = seat-live f doc.distinct q live in
      let at = seat-stands f doc.distinct q s.0 doc.is_tree.sound live s.1.is in
      let e = stand-some s.0 s.0.node (standing_of f q) refl at some in
      record { name = e.0; attrs = e.1; seat = s.0; has = s.1; node_is = e.2; stands = e.3 }

  -- a node with a name is an element, and no other
  pub named-element : (q : ℕ) (name : List ℕ) → IsLive f q → name_of f q ≡ Some name → IsElement f q
  named-element q name live named =
      let s = seat-live f doc.distinct q live in
      let at = seat-stands f doc.distinct q s.0 doc.is_tree.sound live s.1.is in
      by-node s.0.node s.0 refl (sym (ap (option_and_then node_name) s.1.label) ∙ named) (standing_of f q) at
    where
      by-node : (n : Node) (seat : Seat) → seat.node ≡ n → node_name seat.node ≡ Some name → (o : Option Standing) → o ≡ stand seat → IsSome o
      by-node (node.Element x attrs) seat is says o at = rw (at, is) refl
      by-node (node.Text characters) seat is says o at = absurd (none-some name (sym (ap node_name is) ∙ says))

  pub unnamed-nowhere : (q : ℕ) → IsLive f q → name_of f q ≡ None → standing_of f q ≡ None
  unnamed-nowhere q live unnamed =
      let s = seat-live f doc.distinct q live in
      let at = seat-stands f doc.distinct q s.0 doc.is_tree.sound live s.1.is in
      at ∙ by-node s.0.node s.0 refl (sym (ap (option_and_then node_name) s.1.label) ∙ unnamed)
    where
      by-node : (n : Node) (seat : Seat) → seat.node ≡ n → node_name seat.node ≡ None → stand seat ≡ None
      by-node (node.Element x attrs) seat is says = absurd (none-some x (sym says ∙ ap node_name is))
      by-node (node.Text characters) seat is says = ap (λ m. stand_as m seat) is

  -- where the element of a seat stands
  pub element-at : (q : ℕ) (e : ElementSeat q) → standing_at f q ≡ record { level = level_of e.seat.earlier (element_with e.name e.attrs (without_keys e.seat.children)) e.seat.after; above = e.seat.above }
  element-at q e = ap (λ (o : Option Standing). unwrap_or o nowhere) e.stands

  pub element-name : (q : ℕ) → IsLive f q → IsElement f q → name_of f q ≡ Some (standing_at f q).level.element.name
  element-name q live some =
      let e = element-seat q live some in
      ap (option_and_then node_name) (e.has.label ∙ ap (λ n. Some n) e.node_is) ∙ sym (ap (λ (s : Standing). Some s.level.element.name) (element-at q e))

  pub element-attrs : (q : ℕ) → IsLive f q → IsElement f q → attrs_of f q ≡ (standing_at f q).level.element.attrs
  element-attrs q live some =
      let e = element-seat q live some in
      ap (λ (o : Option Node). unwrap_or (option_map node_attrs o) []) (e.has.label ∙ ap (λ n. Some n) e.node_is) ∙ sym (ap (λ (s : Standing). s.level.element.attrs) (element-at q e))

  pub element-empty : (q : ℕ) → IsLive f q → IsElement f q → are_nothing (without_keys (children_of f q)) ≡ (standing_at f q).level.element.is_empty
  element-empty q live some =
      let e = element-seat q live some in
      ap (λ g. are_nothing (without_keys g)) e.has.children ∙ sym (ap (λ (s : Standing). s.level.element.is_empty) (element-at q e))

  -- an element without a parent has no ancestors
  pub root-alone : (q : ℕ) → IsLive f q → IsElement f q → parent_of f q ≡ None → (standing_at f q).above ≡ []
  root-alone q live some up =
      let e = element-seat q live some in
      ap (λ (s : Standing). s.above) (element-at q e) ∙ (seat-root f doc.distinct q e.seat live e.has.is up).0

  no-keys : (g : Forest (Keyed Node)) (front : List ℕ) (k : ℕ) (back : List ℕ) → root_keys g ≡ front ++ k ∷ back → g ≡ Empty → ⊥
  no-keys g front k back is none = absurd (omega (arith, ap length is, ap (λ h. length (root_keys h)) none, length-append front (k ∷ back)))

  -- a parent is an element
  parent-node : (n : Node) (q x : ℕ) (seat : Seat) → IsLive f q → IsLive f x → HasSeat f x seat → parent_of f q ≡ Some x → seat.node ≡ n → IsSome (stand seat)
  parent-node (node.Element name attrs) q x seat live live_x has up is = rw is refl
  parent-node (node.Text characters) q x seat live live_x has up is =
      let s = live-spot f x live_x in
      let text : s.0.label ≡ node.Text characters = same_Some _ _ (sym (rw s.1 refl) ∙ has.label) ∙ is in
      let none : s.0.children ≡ Empty = leaf-texts f None [] x s.0 characters doc.is_tree.sound s.1 text in
      absurd (no-keys (children_of f x) _ q _ (keys-children f q x doc.distinct live up) (rw s.1 none))

  pub parent-element : (q x : ℕ) → IsLive f q → parent_of f q ≡ Some x → IsElement f x
  parent-element q x live up =
      let live_x = parent-live f q x doc.distinct live up in
      let s = seat-live f doc.distinct x live_x in
      subst IsSome (sym (seat-stands f doc.distinct x s.0 doc.is_tree.sound live_x s.1.is)) (parent-node s.0.node q x s.0 live live_x s.1 up refl)

  -- the ancestors of an element are its parent, and its parent's ancestors
  pub parent-ancestors : (q x : ℕ) → IsLive f q → IsElement f q → parent_of f q ≡ Some x → ancestors (standing_at f q) ≡ standing_at f x ∷ ancestors (standing_at f x)
  parent-ancestors q x live some up =
      let live_x = parent-live f q x doc.distinct live up in
      let e = element-seat q live some in
      let t = element-seat x live_x (parent-element q x live up) in
      let above = (seat-child f doc.distinct q x e.seat t.seat live live_x e.has.is t.has.is up).0 in
      let level : own_levels t.seat ≡ level_of t.seat.earlier (element_with t.name t.attrs (without_keys t.seat.children)) t.seat.after ∷ [] = ap (λ n. map (λ here. level_of t.seat.earlier here t.seat.after) (own n t.seat.children)) t.node_is in
      ap ancestors (element-at q e) ∙ ap ancestors_in (above ∙ ap (λ levels. levels ++ t.seat.above) level) ∙ sym (ap (λ (s : Standing). s ∷ ancestors s) (element-at x t))

  -- The siblings of an element, by the seats between.

  siblings-level : (after : Bool) (earlier : List Element) (here : Element) (seat : Seat) → seat.earlier ≡ earlier → siblings after (level_of earlier here seat.after) ≡ onward after seat
  siblings-level true earlier here seat is = refl
  siblings-level false earlier here seat is = sym is

  siblings-at : (after : Bool) (q : ℕ) (e : ElementSeat q) → siblings after (standing_at f q).level ≡ onward after e.seat
  siblings-at after q e = ap (λ (s : Standing). siblings after s.level) (element-at q e) ∙ siblings-level after e.seat.earlier (element_with e.name e.attrs (without_keys e.seat.children)) e.seat refl

  -- an element is reached
  pub reached : (after : Bool) (q k : ℕ) (second : Seat) (e : ElementSeat q) (t : ElementSeat k) → Passes after e.seat second → IsSeatBeside after second t.seat → IsBeside after (standing_at f q) (standing_at f k)
  reached after q k second e t passes beside =
      let mine : own e.seat.node e.seat.children ≡ (standing_at f q).level.element ∷ [] = ap (λ n. own n e.seat.children) e.node_is ∙ sym (ap (λ (s : Standing). s.level.element ∷ []) (element-at q e)) in
      let its : own t.seat.node t.seat.children ≡ (standing_at f k).level.element ∷ [] = ap (λ n. own n t.seat.children) t.node_is ∙ sym (ap (λ (s : Standing). s.level.element ∷ []) (element-at k t)) in
      record {
        onward = siblings-at after q e ∙ sym passes.onward_is ∙ beside.onward_is ∙ ap (λ here. here ++ onward after t.seat) its ∙ ap (λ rest. (standing_at f k).level.element ∷ rest) (sym (siblings-at after k t));
        back = siblings-at (not after) k t ∙ beside.back_is ∙ passes.back_is ∙ ap (λ here. here ++ onward (not after) e.seat) mine ∙ ap (λ rest. (standing_at f q).level.element ∷ rest) (sym (siblings-at (not after) q e));
        above = ap (λ (s : Standing). s.above) (element-at k t) ∙ beside.above_is ∙ passes.above_is ∙ sym (ap (λ (s : Standing). s.above) (element-at q e));
      }

  -- or none is
  pub none-reached : (after : Bool) (q : ℕ) (second : Seat) (e : ElementSeat q) → Passes after e.seat second → onward after second ≡ [] → siblings after (standing_at f q).level ≡ []
  none-reached after q second e passes none = siblings-at after q e ∙ sym passes.onward_is ∙ none

  -- The walk among siblings.

  pub along-begins : (after : Bool) (q : ℕ) → IsLive f q → Along f after q q
  along-begins after q live =
      let s = seat-live f doc.distinct q live in
      record { live = live; first = s.0; second = s.0; first_is = s.1; second_is = s.1; passes = passes-none after s.0 }

  text-own : (n : Node) (seat : Seat) → seat.node ≡ n → node_name n ≡ None → own seat.node seat.children ≡ []
  text-own (node.Element name attrs) seat is says = absurd (none-some name (sym says))
  text-own (node.Text characters) seat is says = ap (λ m. own m seat.children) is

  pub along-goes-on : (after : Bool) (q at k : ℕ) → Along f after q at → IsLive f k → beside_of f after at ≡ Some k → name_of f k ≡ None → Along f after q k × (left_beside f after k < left_beside f after at)
  along-goes-on after q at k a live next unnamed =
      let s = seat-live f doc.distinct k live in
      let beside = seat-beside f doc.distinct (one-tree f doc) after at k a.second s.0 a.live live a.second_is.is s.1.is next in
      let text = text-own s.0.node s.0 refl (sym (ap (option_and_then node_name) s.1.label) ∙ unnamed) in
      (record { live = live; first = a.first; second = s.0; first_is = a.first_is; second_is = s.1; passes = passes-text after a.first a.second s.0 a.passes beside.0 text }, beside.1)

  same-seat : (q : ℕ) (seat : Seat) (e : ElementSeat q) → HasSeat f q seat → seat ≡ e.seat
  same-seat q seat e has = same_Some _ _ (sym has.is ∙ e.has.is)

  pub along-reaches : (after : Bool) (q at k : ℕ) (name : List ℕ) → IsLive f q → IsElement f q → Along f after q at → IsLive f k → beside_of f after at ≡ Some k → name_of f k ≡ Some name → IsElementBeside f after q k
  along-reaches after q at k name live_q some a live next named =
      let element = named-element k name live named in
      let e = element-seat q live_q some in
      let t = element-seat k live element in
      let beside = seat-beside f doc.distinct (one-tree f doc) after at k a.second t.seat a.live live a.second_is.is t.has.is next in
      let passes = subst (λ seat. Passes after seat a.second) (same-seat q a.first e a.first_is) a.passes in
      record { live = live; element = element; beside = reached after q k a.second e t passes beside.0 }

  pub along-ends : (after : Bool) (q at : ℕ) → IsLive f q → IsElement f q → Along f after q at → beside_of f after at ≡ None → siblings after (standing_at f q).level ≡ []
  along-ends after q at live_q some a none =
      let e = element-seat q live_q some in
      let passes = subst (λ seat. Passes after seat a.second) (same-seat q a.first e a.first_is) a.passes in
      none-reached after q a.second e passes (seat-alone f doc.distinct (one-tree f doc) after at a.second a.live a.second_is.is none)

  -- There are fewer siblings than nodes.

  own-few : (n : Node) (c : Forest (Keyed Node)) → length (own n c) ≤ 1
  own-few (node.Element name attrs) c = omega arith
  own-few (node.Text characters) c = omega arith

  elements-few : (g : Forest (Keyed Node)) → length (elements (without_keys g)) ≤ size g
  elements-few Empty = omega arith
  elements-few (Tree n c r) =
      omega (arith, elements-few r, own-few n.label c, ap length (elements-own n.key n.label c r), length-append (own n.label c) (elements (without_keys r)))

  earlier-few : (g : Forest (Keyed Node)) (above : List Level) (earlier : List Element) (p : Option ℕ) (e : List (Keyed Seat)) (q : ℕ) (t : Spot Seat) → spot p e (seated above earlier g) q ≡ Some t → length t.label.earlier < length earlier + size g
  earlier-few Empty above earlier p e q t is = absurd (none-some t is)
  earlier-few (Tree n c r) above earlier p e q t is =
      let seat : Seat = the_seat n.label c r above earlier in
      elim (chosen (n.key == q) _ _ _ is) [
        | inl h ↦ let same : length earlier ≡ length t.label.earlier = ap (λ (x : Spot Seat). length x.label.earlier) (same_Some _ _ h.1) in omega arith
        | inr h ↦ elim (first_found _ _ t h.1) [
          | inl a ↦ let few : length t.label.earlier < 0 + size c = earlier-few c (own_levels seat ++ above) [] (Some n.key) [] q t a in omega arith
          | inr b ↦
              let few : length t.label.earlier < length (own n.label c ++ earlier) + size r = earlier-few r above (own n.label c ++ earlier) p (e ++ keyed n.key seat ∷ []) q t b.1 in
              omega (arith, own-few n.label c, length-append (own n.label c) earlier)
        ]
      ]

  onward-few : (after : Bool) (q : ℕ) (seat : Seat) → IsLive f q → HasSeat f q seat → length (onward after seat) < size f
  onward-few true q seat live has =
      let s = live-spot f q live in
      let its : s.0.after ≡ seat.after = sym (rw s.1 refl) ∙ has.after in
      let within : 1 + (size s.0.children + size s.0.after) ≤ size f = weigh-spot (λ _. 1) f None [] q s.0 s.1 in
      let same : size s.0.after ≡ size seat.after = ap size its in
      omega (arith, elements-few seat.after)
  onward-few false q seat live has =
      let t = the_some (spot_of (seated [] [] f) q) (live-seat q seat live has) in
      let same : t.0.label ≡ seat = same_Some _ _ (sym (ap (option_map (λ (w : Spot Seat). w.label)) t.1) ∙ has.is) in
      let few : length t.0.label.earlier < 0 + size f = earlier-few f [] [] None [] q t.0 t.1 in
      omega (arith, ap (λ (x : Seat). length x.earlier) same)
    where
      live-seat : (q : ℕ) (seat : Seat) → IsLive f q → HasSeat f q seat → IsSome (spot_of (seated [] [] f) q)
      live-seat q seat live has =
          let some : 0 < times q (seated [] [] f) = subst (λ n. 0 < n) (sym (times-seated f [] [] q)) (live-counted f q live) in
          spot-some (seated [] [] f) None [] q some

  pub siblings-few : (after : Bool) (q : ℕ) → IsLive f q → IsElement f q → length (siblings after (standing_at f q).level) < size f
  siblings-few after q live some =
      let e = element-seat q live some in
      omega (arith, onward-few after q e.seat live e.has, ap length (siblings-at after q e))

  some-ancestor : (above : List Level) (first : Standing) (rest : List Standing) → ancestors_in above ≡ first ∷ rest → (length above == 0) ≡ false
  some-ancestor [] first rest is = absurd (cc)
  some-ancestor (level ∷ above) first rest is = grind (arith, nat_tests)

  -- an element is a root where it has no parent
  pub root-test : (q : ℕ) (up : Option ℕ) (b : Bool) → IsLive f q → IsElement f q → up ≡ parent_of f q → is_some up ≡ not b → b ≡ is_root (standing_at f q)
  root-test q None b live some is test = not-false b (sym test) ∙ sym (ap (λ (above : List Level). length above == 0) (root-alone q live some (sym is)))
    where
      not-false : (b : Bool) → not b ≡ false → b ≡ true
      not-false true h = refl
      not-false false h = absurd (cc)
  root-test q (Some x) b live some is test = not-true b (sym test) ∙ sym (some-ancestor (standing_at f q).above _ _ (parent-ancestors q x live some (sym is)))
    where
      not-true : (b : Bool) → not b ≡ true → b ≡ false
      not-true false h = refl
      not-true true h = absurd (cc)
