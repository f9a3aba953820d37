-- Where each node of a document stands among elements, texts too.
use Rattle.std.proofs.Common.{◌≡◌, ◌==◌, ◌<◌, ◌+◌, ◌-◌, ℕ, Bool, true, false, cond, List, [], ◌∷◌, ◌++◌, Option, Some, None, IsSome, refl, sym, ap, subst, length, length-append, not, map, slice_get, option_map, ◌∙◌, inl, inr, arith, eqb-true}
use Rattle.std.specs.Option.{option_or}
use Rattle.std.proofs.lemmas.Bool.{cases_lt}
use Rattle.std.proofs.lemmas.Option.{none-some, same_Some}
use Rattle.std.proofs.lemmas.List.{length-map}
use Rattle.forest.specs.Forest.{Forest, Empty, Tree, IsOneTree, size}
use Rattle.forest.specs.Keys.{Keyed, times, HasDistinctKeys, without_keys}
use Rattle.forest.specs.Spots.{Spot, keyed, roots, spot, spot_of, IsLive, label_of, parent_of, children_of, after_of, earlier_of, index_of, first_key, child_of, next_sibling_of, previous_sibling_of}
use Rattle.forest.proofs.SpotLaws.{chosen, first_found, some_or_none, the_some, the_spot, spot-absent, spot-some, spot-counted, distinct-parts, root-once, live-spot, spot-next}
use Rattle.forest.proofs.PathLaws.{first-tree, parent-live}
use Rattle.forest.proofs.SiblingLaws.{next-is-child, previous-is-child, previous-none, root-alone, child-is, child-index}
use Rattle.forest.proofs.StandLaws.{stands, as_root, under, or_none}
use Rattle.plain_types.specs.Tree.{AreSound}
use Rattle.plain_types.specs.declared.node.Node.{Node}
use Rattle.plain_types.specs.declared.node.Node.TheVariants as node
use Rattle.selector_match.specs.Elements.{Element, Level, Standing, element_with, elements, level_of, standing_in, standing_of}
use Rattle.selector_match.specs.Machinery.Lookups.{beside_of}

-- a node with what is around it: its children, the trees after it, its ancestors that are elements, each
-- among its siblings, and the elements before it, the nearest first
pub record Seat : Type 0 where
  pub node : Node
  pub children : Forest (Keyed Node)
  pub after : Forest (Keyed Node)
  pub above : List Level
  pub earlier : List Element

abbrev pub the_seat : Node → Forest (Keyed Node) → Forest (Keyed Node) → List Level → List Element → Seat
the_seat n c r above earlier = record { node = n; children = c; after = r; above = above; earlier = earlier }

-- the element that a node is; a text is none
abbrev pub own : Node → Forest (Keyed Node) → List Element
own (node.Element name attrs) children = element_with name attrs (without_keys children) ∷ []
own (node.Text characters) children = []

abbrev pub own_levels : Seat → List Level
own_levels seat = map (λ here. level_of seat.earlier here seat.after) (own seat.node seat.children)

-- the forest with each node's seat
abbrev pub seated : List Level → List Element → Forest (Keyed Node) → Forest (Keyed Seat)
seated above earlier Empty = Empty
seated above earlier (Tree n c r) =
    let seat : Seat = the_seat n.label c r above earlier in
    Tree (keyed n.key seat) (seated (own_levels seat ++ above) [] c) (seated above (own n.label c ++ earlier) r)

-- where an element with this seat stands
abbrev pub stand_as : Node → Seat → Option Standing
stand_as (node.Element name attrs) seat = Some (record { level = level_of seat.earlier (element_with name attrs (without_keys seat.children)) seat.after; above = seat.above })
stand_as (node.Text characters) seat = None

abbrev pub stand : Seat → Option Standing
stand seat = stand_as seat.node seat

pub times-seated : (f : Forest (Keyed Node)) (above : List Level) (earlier : List Element) (q : ℕ) → times q (seated above earlier f) ≡ times q f
times-seated Empty above earlier q = refl
times-seated (Tree n c r) above earlier q =
    rw (times-seated c (own_levels (the_seat n.label c r above earlier) ++ above) [] q, times-seated r above (own n.label c ++ earlier) q) refl

pub distinct-seated : (f : Forest (Keyed Node)) (above : List Level) (earlier : List Element) → HasDistinctKeys f → HasDistinctKeys (seated above earlier f)
distinct-seated f above earlier d = λ q. rw (times-seated f above earlier q) (d q)

not-counted : {L : Type 0} (f : Forest (Keyed L)) (p : Option ℕ) (e : List (Keyed L)) (q : ℕ) → spot p e f q ≡ None → times q f ≡ 0
not-counted f p e q none = elim (some_or_none (times q f)) [
  | inl z ↦ z
  | inr z ↦ let s = the_some _ (spot-some f p e q z) in absurd (none-some s.0 (sym none ∙ s.1))
]

-- the spot of a node among the seats
pub record Sits (f : Forest (Keyed Seat)) (p : Option ℕ) (e : List (Keyed Seat)) (q : ℕ) (s : Spot Node) : Type 0 where
  pub before : List (Keyed Seat)
  pub above : List Level
  pub earlier : List Element
  pub long : length before ≡ length s.earlier
  pub is : spot p e f q ≡ Some (the_spot s.parent before (the_seat s.label s.children s.after above earlier) (seated (own_levels (the_seat s.label s.children s.after above earlier) ++ above) [] s.children) (seated above (own s.label s.children ++ earlier) s.after))

pub sits : (f : Forest (Keyed Node)) (above : List Level) (earlier : List Element) (p : Option ℕ) (e : List (Keyed Node)) (e' : List (Keyed Seat)) (q : ℕ) (s : Spot Node) → length e' ≡ length e → spot p e f q ≡ Some s → Sits (seated above earlier f) p e' q s
sits Empty above earlier p e e' q s long is = absurd (none-some s is)
sits (Tree n c r) above earlier p e e' q s long is =
    let seat : Seat = the_seat n.label c r above earlier in
    elim (chosen (n.key == q) _ _ _ is) [
      | inl h ↦ subst (Sits (seated above earlier (Tree n c r)) p e' q) (same_Some _ _ h.1) (record { before = e'; above = above; earlier = earlier; long = long; is = rw h.0 refl })
      | inr h ↦ elim (first_found _ _ s h.1) [
        | inl a ↦
            let i = sits c (own_levels seat ++ above) [] (Some n.key) [] [] q s refl a in
            record { before = i.before; above = i.above; earlier = i.earlier; long = i.long; is = rw (h.0, i.is) refl }
        | inr b ↦
            let longer : length (e' ++ keyed n.key seat ∷ []) ≡ length (e ++ n ∷ []) = omega (arith, length-append e' (keyed n.key seat ∷ []), length-append e (n ∷ [])) in
            let i = sits r above (own n.label c ++ earlier) p (e ++ n ∷ []) (e' ++ keyed n.key seat ∷ []) q s longer b.1 in
            let none : spot (Some n.key) [] (seated (own_levels seat ++ above) [] c) q ≡ None = spot-absent (seated (own_levels seat ++ above) [] c) (Some n.key) [] q (times-seated c (own_levels seat ++ above) [] q ∙ not-counted c (Some n.key) [] q b.0) in
            record { before = i.before; above = i.above; earlier = i.earlier; long = i.long; is = rw (h.0, none, i.is) refl }
      ]
    ]

-- what a forest says of a node that no part of it has
standing-absent : (f : Forest (Keyed Node)) (above : List Level) (earlier : List Element) (q : ℕ) → times q f ≡ 0 → standing_in above earlier f q ≡ None
standing-absent Empty above earlier q h = refl
standing-absent (Tree n c r) above earlier q h = absent-step n.key n.label c r above earlier q (standing-absent c) (standing-absent r) h
  where
    absent-step : (k : ℕ) (l : Node) (c r : Forest (Keyed Node)) (above : List Level) (earlier : List Element) (q : ℕ)
        → ((above : List Level) (earlier : List Element) (q : ℕ) → times q c ≡ 0 → standing_in above earlier c q ≡ None)
        → ((above : List Level) (earlier : List Element) (q : ℕ) → times q r ≡ 0 → standing_in above earlier r q ≡ None)
        → times q (Tree (keyed k l) c r) ≡ 0 → standing_in above earlier (Tree (keyed k l) c r) q ≡ None
    absent-step k (node.Text characters) c r above earlier q below beside h = beside above earlier q (omega arith)
    absent-step k (node.Element name attrs) c r above earlier q below beside h =
        let here : Element = element_with name attrs (without_keys c) in
        elim (k == q) as (λ b. cond b 1 0 + (times q c + times q r) ≡ 0 → cond b (Some (record { level = level_of earlier here r; above = above })) (option_or (standing_in (level_of earlier here r ∷ above) [] c q) (standing_in above (here ∷ earlier) r q)) ≡ None) [
          | true ↦ λ h. absurd (omega arith)
          | false ↦ λ h. rw (below (level_of earlier here r ∷ above) [] q (omega arith), beside above (here ∷ earlier) q (omega arith)) refl
        ] h

none-left : (c : Forest (Keyed Node)) → without_keys c ≡ Empty → c ≡ Empty
none-left Empty h = refl
none-left (Tree n c r) h = absurd (cc)

-- a seat tells where its element stands
abbrev StandsBySeat : Forest (Keyed Node) → Type 0
StandsBySeat f =
    (above : List Level) (earlier : List Element) (p : Option ℕ) (e : List (Keyed Seat)) (q : ℕ) (t : Spot Seat)
    → HasDistinctKeys f → AreSound (without_keys f) → spot p e (seated above earlier f) q ≡ Some t → standing_in above earlier f q ≡ stand t.label

by-seat-step : (k : ℕ) (l : Node) (c r : Forest (Keyed Node)) → StandsBySeat c → StandsBySeat r → StandsBySeat (Tree (keyed k l) c r)
by-seat-step k (node.Text characters) c r below beside above earlier p e q t d sound is =
    let seat : Seat = the_seat (node.Text characters) c r above earlier in
    let once = root-once (keyed k (node.Text characters)) c r d in
    let parts = distinct-parts (keyed k (node.Text characters)) c r d in
    elim (chosen (k == q) _ _ _ is) [
      | inl h ↦
          let gone : times q r ≡ 0 = subst (λ x. times x r ≡ 0) (eqb-true k q h.0) once.1 in
          standing-absent r above earlier q gone ∙ ap (λ (x : Spot Seat). stand x.label) (same_Some _ _ h.1)
      | inr h ↦ elim (first_found _ _ t h.1) [
        | inl a ↦
            let some : 0 < times q (seated above [] c) = spot-counted (seated above [] c) (Some k) [] q t a in
            let gone : times q c ≡ 0 = ap (times q) (none-left c sound.0) in
            absurd (omega (arith, times-seated c above [] q))
        | inr b ↦ beside above earlier p (e ++ keyed k seat ∷ []) q t parts.1 sound.1 b.1
      ]
    ]
by-seat-step k (node.Element name attrs) c r below beside above earlier p e q t d sound is =
    let seat : Seat = the_seat (node.Element name attrs) c r above earlier in
    let here : Element = element_with name attrs (without_keys c) in
    let level : Level = level_of earlier here r in
    let parts = distinct-parts (keyed k (node.Element name attrs)) c r d in
    elim (chosen (k == q) _ _ _ is) [
      | inl h ↦ rw h.0 (ap (λ (x : Spot Seat). stand x.label) (same_Some _ _ h.1))
      | inr h ↦ elim (first_found _ _ t h.1) [
        | inl a ↦
            let some : 0 < times q (seated (level ∷ above) [] c) = spot-counted (seated (level ∷ above) [] c) (Some k) [] q t a in
            let gone : times q r ≡ 0 = omega (arith, d q, times-seated c (level ∷ above) [] q) in
            rw (h.0, standing-absent r above (here ∷ earlier) q gone) (or_none (standing_in (level ∷ above) [] c q) ∙ below (level ∷ above) [] (Some k) [] q t parts.0 sound.1 a)
        | inr b ↦
            let gone : times q c ≡ 0 = sym (times-seated c (level ∷ above) [] q) ∙ not-counted (seated (level ∷ above) [] c) (Some k) [] q b.0 in
            rw (h.0, standing-absent c (level ∷ above) [] q gone) (beside above (here ∷ earlier) p (e ++ keyed k seat ∷ []) q t parts.1 sound.2 b.1)
      ]
    ]

stands-by-seat : (f : Forest (Keyed Node)) → StandsBySeat f
stands-by-seat Empty = λ above earlier p e q t d sound is. absurd (none-some t is)
stands-by-seat (Tree n c r) = by-seat-step n.key n.label c r (stands-by-seat c) (stands-by-seat r)

-- the roots of a row of seats have its ancestors, and the first has its earlier elements
roots-seated : (g : Forest (Keyed Node)) (above : List Level) (earlier : List Element) (front : List (Keyed Seat)) (m : Keyed Seat) (back : List (Keyed Seat)) → roots (seated above earlier g) ≡ front ++ m ∷ back → (m.label.above ≡ above) × (front ≡ [] → m.label.earlier ≡ earlier)
roots-seated Empty above earlier [] m back is = absurd (cc)
roots-seated Empty above earlier (x ∷ front) m back is = absurd (cc)
roots-seated (Tree n c r) above earlier [] m back is =
    let seat : Seat = the_seat n.label c r above earlier in
    let same : keyed n.key seat ≡ m = cc in
    (ap (λ (x : Keyed Seat). x.label.above) (sym same), λ _. ap (λ (x : Keyed Seat). x.label.earlier) (sym same))
roots-seated (Tree n c r) above earlier (x ∷ front) m back is =
    let seat : Seat = the_seat n.label c r above earlier in
    let rest : roots (seated above (own n.label c ++ earlier) r) ≡ front ++ m ∷ back = cc in
    ((roots-seated r above (own n.label c ++ earlier) front m back rest).0, λ nothing. absurd (cc))

no-length : {A : Type 0} (xs : List A) → length xs ≡ 0 → xs ≡ []
no-length [] h = refl
no-length (x ∷ xs) h = absurd (omega arith)

-- The seats of a document.

abbrev pub seat_of : Forest (Keyed Node) → ℕ → Option Seat
seat_of f q = label_of (seated [] [] f) q

pub record HasSeat (f : Forest (Keyed Node)) (q : ℕ) (seat : Seat) : Type 0 where
  pub is : seat_of f q ≡ Some seat
  pub label : label_of f q ≡ Some seat.node
  pub children : children_of f q ≡ seat.children
  pub after : after_of f q ≡ seat.after

module _ (f : Forest (Keyed Node)) (d : HasDistinctKeys f) where
  -- each node has a seat
  pub seat-live : (q : ℕ) → IsLive f q → (seat : Seat) × HasSeat f q seat
  seat-live q live =
      let s = live-spot f q live in
      let i = sits f [] [] None [] [] q s.0 refl s.1 in
      (the_seat s.0.label s.0.children s.0.after i.above i.earlier, record { is = rw i.is refl; label = rw s.1 refl; children = rw s.1 refl; after = rw s.1 refl })

  -- a node's spot and the spot of its seat
  spot-seat : (q : ℕ) (seat : Seat) → IsLive f q → seat_of f q ≡ Some seat → (s : Spot Node) × (i : Sits (seated [] [] f) None [] q s) × (spot_of f q ≡ Some s) × (the_seat s.label s.children s.after i.above i.earlier ≡ seat)
  spot-seat q seat live is =
      let s = live-spot f q live in
      let i = sits f [] [] None [] [] q s.0 refl s.1 in
      (s.0, i, s.1, same_Some _ _ (sym (rw i.is refl) ∙ is))

  pub seat-stands : (q : ℕ) (seat : Seat) → AreSound (without_keys f) → IsLive f q → seat_of f q ≡ Some seat → standing_of f q ≡ stand seat
  seat-stands q seat sound live is =
      let s = live-spot f q live in
      let i = sits f [] [] None [] [] q s.0 refl s.1 in
      let mine : Seat = the_seat s.0.label s.0.children s.0.after i.above i.earlier in
      let same : mine ≡ seat = same_Some _ _ (sym (rw i.is refl) ∙ is) in
      stands-by-seat f [] [] None [] q _ d sound i.is ∙ ap stand same

  no-earlier : (q : ℕ) (s : Spot Node) (i : Sits (seated [] [] f) None [] q s) → spot_of f q ≡ Some s → index_of f q ≡ 0 → i.before ≡ []
  no-earlier q s i at first = no-length i.before (i.long ∙ sym (rw at refl) ∙ first)

  -- a node's ancestors are its parent, where that is an element, and its parent's ancestors; before the
  -- first child there is no element
  pub seat-child : (q x : ℕ) (seat parent : Seat) → IsLive f q → IsLive f x → seat_of f q ≡ Some seat → seat_of f x ≡ Some parent → parent_of f q ≡ Some x → (seat.above ≡ own_levels parent ++ parent.above) × (index_of f q ≡ 0 → seat.earlier ≡ [])
  seat-child q x seat parent live live_x is is_x up =
      let s = spot-seat q seat live is in
      let t = spot-seat x parent live_x is_x in
      let its : s.0.parent ≡ Some x = sym (rw s.2 refl) ∙ up in
      elim (stands (seated [] [] f) None [] 0 0 q _ (distinct-seated f [] [] d) refl s.1.is) [
        | as_root r ↦ absurd (none-some x (sym r.parent ∙ its))
        | under y u ↦
            let same : y ≡ x = same_Some y x (sym u.parent ∙ its) in
            let there = same_Some _ _ (sym (subst (λ k. spot None [] (seated [] [] f) k ≡ Some u.above) same u.spot) ∙ t.1.is) in
            let row = roots-seated t.0.children (own_levels (the_seat t.0.label t.0.children t.0.after t.1.above t.1.earlier) ++ t.1.above) [] _ _ _ (sym (ap (λ (w : Spot Seat). roots w.children) there) ∙ u.siblings) in (
              sym (ap (λ (w : Seat). w.above) s.3) ∙ row.0 ∙ ap (λ (w : Seat). own_levels w ++ w.above) t.3,
              λ first. sym (ap (λ (w : Seat). w.earlier) s.3) ∙ row.1 (no-earlier q s.0 s.1 s.2 first),
            )
      ]

  -- a root has none
  pub seat-root : (q : ℕ) (seat : Seat) → IsLive f q → seat_of f q ≡ Some seat → parent_of f q ≡ None → (seat.above ≡ []) × (index_of f q ≡ 0 → seat.earlier ≡ [])
  seat-root q seat live is up =
      let s = spot-seat q seat live is in
      elim (stands (seated [] [] f) None [] 0 0 q _ (distinct-seated f [] [] d) refl s.1.is) [
        | as_root r ↦
            let row = roots-seated f [] [] _ _ _ r.siblings in
            (sym (ap (λ (w : Seat). w.above) s.3) ∙ row.0, λ first. sym (ap (λ (w : Seat). w.earlier) s.3) ∙ row.1 (no-earlier q s.0 s.1 s.2 first))
        | under y u ↦ absurd (none-some y (sym (sym (rw s.2 refl) ∙ up) ∙ u.parent))
      ]

  -- a node without siblings before it has no elements before it
  pub seat-first : (q : ℕ) (seat : Seat) → IsLive f q → seat_of f q ≡ Some seat → index_of f q ≡ 0 → seat.earlier ≡ []
  seat-first q seat live is first =
      elim (parent_of f q) as (λ (o : Option ℕ). parent_of f q ≡ o → seat.earlier ≡ []) [
        | None ↦ λ up. (seat-root q seat live is up).1 first
        | Some x ↦ λ up.
            let live_x = parent-live f q x d live up in
            let parent = seat-live x live_x in
            (seat-child q x seat parent.0 live live_x is parent.1.is up).1 first
      ] refl

  -- the sibling after a node
  pub seat-next : (q k : ℕ) (seat : Seat) → IsLive f q → seat_of f q ≡ Some seat → next_sibling_of f q ≡ Some k → (m : Keyed Node) × (c : Forest (Keyed Node)) × (r : Forest (Keyed Node)) × (seat.after ≡ Tree m c r) × (seat_of f k ≡ Some (the_seat m.label c r seat.above (own seat.node seat.children ++ seat.earlier)))
  seat-next q k seat live is next =
      let s = spot-seat q seat live is in
      let first = first-tree (after_of f q) k next in
      let after : s.0.after ≡ Tree first.0 first.1 first.2 = sym (rw s.2 refl) ∙ first.3 in
      let row = spot-next (seated [] [] f) None [] q _ _ _ _ (distinct-seated f [] [] d) s.1.is (ap (seated s.1.above (own s.0.label s.0.children ++ s.1.earlier)) after) in (
        first.0,
        first.1,
        first.2,
        sym (ap (λ (w : Seat). w.after) s.3) ∙ after,
        ap (seat_of f) (sym first.4)
            ∙ ap (option_map (λ (w : Spot Seat). w.label)) row
            ∙ ap (λ (w : Seat). Some (the_seat first.0.label first.1 first.2 w.above (own w.node w.children ++ w.earlier))) s.3,
      )

-- The seats of siblings, in either direction.

-- the elements among the siblings after a node, or before it, the nearest first
abbrev pub onward : Bool → Seat → List Element
onward true seat = elements (without_keys seat.after)
onward false seat = seat.earlier

-- the second seat is that of the sibling beside the first
pub record IsSeatBeside (after : Bool) (first second : Seat) : Type 0 where
  pub onward_is : onward after first ≡ own second.node second.children ++ onward after second
  pub back_is : onward (not after) second ≡ own first.node first.children ++ onward (not after) first
  pub above_is : second.above ≡ first.above

-- how many siblings there are after a node, or before it
abbrev pub left_beside : Forest (Keyed Node) → Bool → ℕ → ℕ
left_beside f true q = size (after_of f q)
left_beside f false q = index_of f q

pub elements-own : (k : ℕ) (l : Node) (c r : Forest (Keyed Node)) → elements (without_keys (Tree (keyed k l) c r)) ≡ own l c ++ elements (without_keys r)
elements-own k (node.Element name attrs) c r = refl
elements-own k (node.Text characters) c r = refl

no-first : {L : Type 0} (g : Forest (Keyed L)) → first_key g ≡ None → g ≡ Empty
no-first Empty none = refl
no-first (Tree n c r) none = absurd (none-some n.key (sym none))

last-some : {A : Type 0} (x : A) (xs : List A) → IsSome (slice_get (x ∷ xs) (length xs))
last-some x [] = refl
last-some x (y ∷ ys) = last-some y ys

none-before : {A : Type 0} (xs : List A) → slice_get xs (length xs - 1) ≡ None → length xs ≡ 0
none-before [] none = refl
none-before (x ∷ xs) none =
    let found = the_some (slice_get (x ∷ xs) (length xs)) (last-some x xs) in
    let at : length (x ∷ xs) - 1 ≡ length xs = omega arith in
    absurd (none-some found.0 (sym none ∙ ap (slice_get (x ∷ xs)) at ∙ found.1))

module _ (f : Forest (Keyed Node)) (d : HasDistinctKeys f) (one : IsOneTree f) where
  -- a node comes after the sibling before it
  next-of-previous : (q k : ℕ) → IsLive f q → previous_sibling_of f q ≡ Some k → IsLive f k × (next_sibling_of f k ≡ Some q) × (index_of f q ≡ index_of f k + 1)
  next-of-previous q k live before =
      elim (cases_lt 0 (index_of f q)) [
        | inr none ↦ absurd (none-some k (sym (previous-none f q (omega arith)) ∙ before))
        | inl some ↦ elim (parent_of f q) as (λ (o : Option ℕ). parent_of f q ≡ o → IsLive f k × (next_sibling_of f k ≡ Some q) × (index_of f q ≡ index_of f k + 1)) [
          | None ↦ λ up. absurd (omega (arith, (root-alone f q d one live up).0))
          | Some x ↦ λ up.
              let live_x = parent-live f q x d live up in
              let child = child-is f x d (index_of f q - 1) k live_x (sym (previous-is-child f q x (index_of f q - 1) d live up (omega arith)) ∙ before) in
              let at : index_of f q ≡ index_of f k + 1 = omega (arith, child.2) in
              (child.0, next-is-child f k x d child.0 child.1 ∙ ap (child_of f x) (sym at) ∙ child-index f q x d live up, at)
        ] refl
      ]

  after-beside : (q k : ℕ) (seat beside : Seat) → IsLive f q → seat_of f q ≡ Some seat → seat_of f k ≡ Some beside → next_sibling_of f q ≡ Some k → IsSeatBeside true seat beside
  after-beside q k seat beside live is is_k next =
      let n = seat-next f d q k seat live is next in
      let same : the_seat n.0.label n.1 n.2 seat.above (own seat.node seat.children ++ seat.earlier) ≡ beside = same_Some _ _ (sym n.4 ∙ is_k) in
      subst (IsSeatBeside true seat) same (record {
        onward_is = ap (λ g. elements (without_keys g)) n.3 ∙ elements-own n.0.key n.0.label n.1 n.2;
        back_is = refl;
        above_is = refl;
      })

  -- the sibling beside a node, and how many there are beyond it
  pub seat-beside : (after : Bool) (q k : ℕ) (seat beside : Seat) → IsLive f q → IsLive f k → seat_of f q ≡ Some seat → seat_of f k ≡ Some beside → beside_of f after q ≡ Some k → IsSeatBeside after seat beside × (left_beside f after k < left_beside f after q)
  seat-beside true q k seat beside live live_k is is_k next =
      let n = seat-next f d q k seat live is next in
      let before = (seat-live f d q live) in
      let own_seat : before.0 ≡ seat = same_Some _ _ (sym before.1.is ∙ is) in
      let there = (seat-live f d k live_k) in
      let all : size (after_of f q) ≡ 1 + (size n.1 + size n.2) = ap size (before.1.after ∙ ap (λ (w : Seat). w.after) own_seat ∙ n.3) in
      let rest : size (after_of f k) ≡ size n.2 = ap size (there.1.after ∙ ap (λ (w : Seat). w.after) (same_Some _ _ (sym there.1.is ∙ n.4))) in
      (after-beside q k seat beside live is is_k next, omega arith)
  seat-beside false q k seat beside live live_k is is_k before =
      let n = next-of-previous q k live before in
      let there = after-beside k q beside seat live_k is_k is n.1 in
      (record { onward_is = there.back_is; back_is = there.onward_is; above_is = sym there.above_is }, omega (arith, n.2))

  -- where there is none, there is no element either
  pub seat-alone : (after : Bool) (q : ℕ) (seat : Seat) → IsLive f q → seat_of f q ≡ Some seat → beside_of f after q ≡ None → onward after seat ≡ []
  seat-alone true q seat live is none =
      let s = seat-live f d q live in
      let same : s.0 ≡ seat = same_Some _ _ (sym s.1.is ∙ is) in
      ap (λ g. elements (without_keys g)) (sym (s.1.after ∙ ap (λ (w : Seat). w.after) same) ∙ no-first (after_of f q) none)
  seat-alone false q seat live is none =
      let many : length (map (λ (n : Keyed Node). n.key) (earlier_of f q)) ≡ index_of f q = length-map (earlier_of f q) (λ (n : Keyed Node). n.key) in
      let last : slice_get (map (λ (n : Keyed Node). n.key) (earlier_of f q)) (length (map (λ (n : Keyed Node). n.key) (earlier_of f q)) - 1) ≡ None = rw many none in
      seat-first f d q seat live is (sym many ∙ none-before _ last)

-- Texts have no children.

abbrev LeafTexts : Forest (Keyed Node) → Type 0
LeafTexts f = (p : Option ℕ) (e : List (Keyed Node)) (q : ℕ) (s : Spot Node) (characters : List ℕ) → AreSound (without_keys f) → spot p e f q ≡ Some s → s.label ≡ node.Text characters → s.children ≡ Empty

leaf-step : (k : ℕ) (l : Node) (c r : Forest (Keyed Node)) → LeafTexts c → LeafTexts r → LeafTexts (Tree (keyed k l) c r)
leaf-step k (node.Text own_characters) c r below beside p e q s characters sound is text =
    elim (chosen (k == q) _ _ _ is) [
      | inl h ↦ sym (ap (λ (x : Spot Node). x.children) (same_Some _ _ h.1)) ∙ none-left c sound.0
      | inr h ↦ elim (first_found _ _ s h.1) [
        | inl a ↦ let some : 0 < times q c = spot-counted c (Some k) [] q s a in let none : times q c ≡ 0 = ap (times q) (none-left c sound.0) in absurd (omega arith)
        | inr b ↦ beside p (e ++ keyed k (node.Text own_characters) ∷ []) q s characters sound.1 b.1 text
      ]
    ]
leaf-step k (node.Element name attrs) c r below beside p e q s characters sound is text =
    elim (chosen (k == q) _ _ _ is) [
      | inl h ↦ absurd (let no : node.Element name attrs ≡ node.Text characters = ap (λ (x : Spot Node). x.label) (same_Some _ _ h.1) ∙ text in cc)
      | inr h ↦ elim (first_found _ _ s h.1) [
        | inl a ↦ below (Some k) [] q s characters sound.1 a text
        | inr b ↦ beside p (e ++ keyed k (node.Element name attrs) ∷ []) q s characters sound.2 b.1 text
      ]
    ]

pub leaf-texts : (f : Forest (Keyed Node)) → LeafTexts f
leaf-texts Empty = λ p e q s characters sound is text. absurd (none-some s is)
leaf-texts (Tree n c r) = leaf-step n.key n.label c r (leaf-texts c) (leaf-texts r)
