-- An element that becomes another.
use Rattle.std.proofs.Common.{◌≡◌, ◌==◌, ◌<◌, ◌+◌, ℕ, Bool, true, false, cond, IsTrue, List, [], ◌∷◌, ◌++◌, Option, Some, None, IsSome, option_map, refl, sym, ap, subst, ◌∙◌, inl, inr, arith, eqb-true, eq-eqb}
use Rattle.std.proofs.lemmas.Bool.{eqb-false, false≢true}
use Rattle.std.proofs.lemmas.Option.{none-some, same_Some}
use Rattle.forest.specs.Forest.{Forest, Empty, Tree, size}
use Rattle.forest.specs.Keys.{Keyed, times, HasDistinctKeys, without_keys}
use Rattle.forest.specs.Spots.{Spot, keyed, root_keys, spot, spot_of}
use Rattle.forest.specs.Changes.{put_label}
use Rattle.forest.proofs.SpotLaws.{chosen, first_found, some_or_none, spot-counted, spot-absent, spot-some, distinct-parts, root-once, below-or-after, keyed-same, the_spot}
use Rattle.slab.specs.Slab.{Slab, ContainsKey}
use Rattle.plain_types.specs.Building.{IsSoundNode}
use Rattle.plain_types.specs.Tree.{IsOne, AreSound}
use Rattle.plain_types.specs.declared.node.Node.{Node}
use Rattle.plain_types.specs.declared.node.Node.TheVariants.{Element, Text}
use Rattle.node_arena.specs.declared.entry.Entry.{Entry}
use Rattle.node_arena.specs.Changes.{CanRelabel, IsRelabelled}
use Rattle.node_arena.specs.Children.{with_node, Relabels, KeepsRooms}
use Rattle.node_arena.specs.Copies.{is_element}
use Rattle.node_arena.specs.Document.{Document, IsKeyedDocument, HasElementRoot}
use Rattle.node_arena.specs.Entries.{Links, links_in, HasEntries, tree_in, Holds, IsArena}
use Rattle.node_arena.proofs.CountLaws.{entries-small}
use Rattle.node_arena.proofs.EntryLaws.{entries-spot, entry-there, closed}
use Rattle.node_arena.proofs.SoundLaws.{sound-tree, element-spot, sound-above, same-root}
use Rattle.node_arena.proofs.StepLaws.{seen, seen-is}
use Rattle.node_arena.proofs.TakeLaws.{keeps-entries}
use Rattle.node_arena.proofs.ToTree.{IsSoundAt, sound-root, sound-spot}

module _ {L : Type 0} where
  pub put_label-absent : (f : Forest (Keyed L)) (q : ℕ) (l : L) → times q f ≡ 0 → put_label q l f ≡ f
  put_label-absent Empty q l e = refl
  put_label-absent (Tree n c r) q l e =
      elim (n.key == q) as (λ b. cond b 1 0 + (times q c + times q r) ≡ 0 → Tree (cond b (keyed q l) n) (put_label q l c) (put_label q l r) ≡ Tree n c r) [
        | true ↦ λ e. absurd (omega arith)
        | false ↦ λ e. rw (put_label-absent c q l (omega arith), put_label-absent r q l (omega arith)) refl
      ] e

  relabelled-key : (n : Keyed L) (q : ℕ) (l : L) (b : Bool) → (n.key == q) ≡ b → (cond b (keyed q l) n).key ≡ n.key
  relabelled-key n q l true e = sym (eqb-true n.key q e)
  relabelled-key n q l false e = refl

  pub key-kept : (n : Keyed L) (q : ℕ) (l : L) → (cond (n.key == q) (keyed q l) n).key ≡ n.key
  key-kept n q l = relabelled-key n q l (n.key == q) refl

  -- keys stay
  pub times-put_label : (x : ℕ) (f : Forest (Keyed L)) (q : ℕ) (l : L) → times x (put_label q l f) ≡ times x f
  times-put_label x Empty q l = refl
  times-put_label x (Tree n c r) q l = rw (key-kept n q l, times-put_label x c q l, times-put_label x r q l) refl

  pub size-put_label : (f : Forest (Keyed L)) (q : ℕ) (l : L) → size (put_label q l f) ≡ size f
  size-put_label Empty q l = refl
  size-put_label (Tree n c r) q l = omega (arith, size-put_label c q l, size-put_label r q l)

  pub roots-put_label : (f : Forest (Keyed L)) (q : ℕ) (l : L) → root_keys (put_label q l f) ≡ root_keys f
  roots-put_label Empty q l = refl
  roots-put_label (Tree n c r) q l = rw (key-kept n q l, roots-put_label r q l) refl

  -- the label is the new one
  pub label-put : (f : Forest (Keyed L)) (p o : Option ℕ) (e h : List (Keyed L)) (q : ℕ) (l : L) (s : Spot L) → spot p e f q ≡ Some s → (t : Spot L) × (spot o h (put_label q l f) q ≡ Some t) × (t.label ≡ l)
  label-put Empty p o e h q l s is = absurd (none-some s is)
  label-put (Tree n c r) p o e h q l s is =
      elim (chosen (n.key == q) _ _ _ is) [
        | inl a ↦ (the_spot o h l (put_label q l c) (put_label q l r), rw (a.0, eq-eqb q q refl) refl, refl)
        | inr a ↦ elim (first_found _ _ s a.1) [
          | inl b ↦ let t = label-put c (Some n.key) (Some n.key) [] [] q l s b in (t.0, rw (a.0, a.0, t.1) refl, t.2)
          | inr b ↦
              let none : spot (Some n.key) [] (put_label q l c) q ≡ None = spot-absent (put_label q l c) (Some n.key) [] q (times-put_label q c q l ∙ not-there c q (Some n.key) [] b.0) in
              let t = label-put r p o (e ++ n ∷ []) (h ++ n ∷ []) q l s b.1 in
              (t.0, rw (a.0, a.0, none, t.1) refl, t.2)
        ]
      ]
    where
      none-is-not : (o : Option (Spot L)) → o ≡ None → IsSome o → ⊥
      none-is-not None e some = absurd (cc)
      none-is-not (Some x) e some = absurd (cc)

      not-there : (f : Forest (Keyed L)) (q : ℕ) (p : Option ℕ) (e : List (Keyed L)) → spot p e f q ≡ None → times q f ≡ 0
      not-there f q p e none = elim (some_or_none (times q f)) [ inl z ↦ z | inr more ↦ absurd (let some : IsSome (spot p e f q) = spot-some f p e q more in none-is-not (spot p e f q) none some) ]

  pub put_label-twice : (f : Forest (Keyed L)) (q : ℕ) (a b : L) → put_label q a (put_label q b f) ≡ put_label q a f
  put_label-twice Empty q a b = refl
  put_label-twice (Tree n c r) q a b =
      elim (n.key == q) as (λ t. (n.key == q) ≡ t → Tree (cond ((cond t (keyed q b) n).key == q) (keyed q a) (cond t (keyed q b) n)) (put_label q a (put_label q b c)) (put_label q a (put_label q b r)) ≡ Tree (cond t (keyed q a) n) (put_label q a c) (put_label q a r)) [
        | true ↦ λ e. rw (eq-eqb q q refl, put_label-twice c q a b, put_label-twice r q a b) refl
        | false ↦ λ e. rw (e, put_label-twice c q a b, put_label-twice r q a b) refl
      ] refl

  pub put_label-own : (f : Forest (Keyed L)) (p : Option ℕ) (e : List (Keyed L)) (q : ℕ) (s : Spot L) → HasDistinctKeys f → spot p e f q ≡ Some s → put_label q s.label f ≡ f
  put_label-own Empty p e q s d is = refl
  put_label-own (Tree n c r) p e q s d is =
      let parts = distinct-parts n c r d in
      elim (chosen (n.key == q) _ _ _ is) [
        | inl h ↦
            let none = root-once n c r d in
            let key : n.key ≡ q = eqb-true n.key q h.0 in
            let none_c : times q c ≡ 0 = subst (λ x. times x c ≡ 0) key none.0 in
            let none_r : times q r ≡ 0 = subst (λ x. times x r ≡ 0) key none.1 in
            let its : n ≡ keyed q s.label = keyed-same n q s.label key (ap (λ t. t.label) (same_Some _ _ h.1)) in
            rw (h.0, put_label-absent c q s.label none_c, put_label-absent r q s.label none_r) (ap (λ m. Tree m c r) (sym its))
        | inr h ↦ elim (first_found _ _ s h.1) [
          | inl a ↦
              let there : 0 < times q c = spot-counted c (Some n.key) [] q s a in
              let none : times q r ≡ 0 = omega (arith, d q) in
              rw (h.0, put_label-absent r q s.label none, put_label-own c (Some n.key) [] q s parts.0 a) refl
          | inr b ↦
              let none : times q c ≡ 0 = below-or-after n c r q d (spot-counted r p (e ++ n ∷ []) q s b.1) in
              rw (h.0, put_label-absent c q s.label none, put_label-own r p (e ++ n ∷ []) q s parts.1 b.1) refl
        ]
      ]

-- The entries.
pub entries-put_label : (at new : ℕ → Option Links) (f : Forest (Keyed Node)) (p : Option ℕ) (i q : ℕ) (node : Node) → Relabels at new q node → HasEntries at p i f → HasEntries new p i (put_label q node f)
entries-put_label at new Empty p i q node h e = tt
entries-put_label at new (Tree n c r) p i q node h e =
    let below : HasEntries new (Some n.key) 0 (put_label q node c) = entries-put_label at new c (Some n.key) 0 q node h e.1 in
    let behind : HasEntries new p (i + 1) (put_label q node r) = entries-put_label at new r p (i + 1) q node h e.2 in
    elim (n.key == q) as (λ b. (n.key == q) ≡ b → HasEntries new p i (Tree (cond b (keyed q node) n) (put_label q node c) (put_label q node r))) [
      | true ↦ λ is.
          let key : n.key ≡ q = eqb-true n.key q is in (
            h.changed ∙ ap (option_map (with_node node)) (sym (ap at key) ∙ e.0) ∙ ap (λ ks. Some (record { parent = p; position = i; children = ks; node = node })) (sym (roots-put_label c q node)),
            subst (λ x. HasEntries new (Some x) 0 (put_label q node c)) key below,
            behind,
          )
      | false ↦ λ is. (h.others n.key (eqb-false n.key q is) ∙ e.0 ∙ ap (λ ks. Some (record { parent = p; position = i; children = ks; node = n.label })) (sym (roots-put_label c q node)), below, behind)
    ] refl

pub holds-put_label : (nodes new : Slab Entry) (root : ℕ) (f : Forest (Keyed Node)) (q : ℕ) (node : Node) → Holds nodes root f → Relabels (links_in nodes) (links_in new) q node → Holds new root (put_label q node f)
holds-put_label nodes new root f q node h relabels =
    let entries : HasEntries (links_in new) None 0 (put_label q node f) = entries-put_label (links_in nodes) (links_in new) f None 0 q node relabels h.entries in
    let distinct : HasDistinctKeys (put_label q node f) = λ x. omega (arith, times-put_label x f q node, h.distinct x) in
    record {
      entries = entries;
      roots = roots-put_label f q node ∙ h.roots;
      distinct = distinct;
      small = entries-small new (put_label q node f) None 0 entries distinct;
    }

-- The document.
pub sound-put_label : (f : Forest (Keyed Node)) (p : Option ℕ) (e : List (Keyed Node)) (q : ℕ) (node : Node) (s : Spot Node) → AreSound (without_keys f) → HasDistinctKeys f → spot p e f q ≡ Some s → IsSoundAt node s.children → AreSound (without_keys (put_label q node f))
sound-put_label Empty p e q node s h d is own = tt
sound-put_label (Tree n c r) p e q node s h d is own =
    let its = sound-root n.label c (without_keys r) h in
    let parts = distinct-parts n c r d in
    elim (chosen (n.key == q) _ _ _ is) [
      | inl a ↦
          let none = root-once n c r d in
          let key : n.key ≡ q = eqb-true n.key q a.0 in
          let none_c : times q c ≡ 0 = subst (λ x. times x c ≡ 0) key none.0 in
          let none_r : times q r ≡ 0 = subst (λ x. times x r ≡ 0) key none.1 in
          let children : c ≡ s.children = ap (λ t. t.children) (same_Some _ _ a.1) in
          rw (a.0, put_label-absent c q node none_c, put_label-absent r q node none_r) (sound-tree node c (without_keys r) (subst (IsSoundAt node) (sym children) own) its.1 its.2)
      | inr a ↦ elim (first_found _ _ s a.1) [
        | inl b ↦
            let there : 0 < times q c = spot-counted c (Some n.key) [] q s b in
            let none : times q r ≡ 0 = omega (arith, d q) in
            rw (a.0, put_label-absent r q node none) (sound-tree n.label (put_label q node c) (without_keys r) (sound-above n.label c (put_label q node c) q there its.0) (sound-put_label c (Some n.key) [] q node s its.1 parts.0 b own) its.2)
        | inr b ↦
            let none : times q c ≡ 0 = below-or-after n c r q d (spot-counted r p (e ++ n ∷ []) q s b.1) in
            rw (a.0, put_label-absent c q node none) (sound-tree n.label c (without_keys (put_label q node r)) its.0 its.1 (sound-put_label r p (e ++ n ∷ []) q node s its.2 parts.1 b.1 own))
      ]
    ]

new-root : (node : Node) (d s : Forest Node) → IsTrue (is_element node) → HasElementRoot (Tree node d s)
new-root (Element name attrs) d s h = tt
new-root (Text characters) d s h = absurd (false≢true h)

root-put_label : (f : Forest (Keyed Node)) (q : ℕ) (node : Node) → IsTrue (is_element node) → HasElementRoot (without_keys f) → HasElementRoot (without_keys (put_label q node f))
root-put_label Empty q node element h = h
root-put_label (Tree n c r) q node element h = elim (n.key == q) as (λ b. HasElementRoot (Tree (cond b (keyed q node) n).label (without_keys (put_label q node c)) (without_keys (put_label q node r)))) [
  | true ↦ new-root node _ _ element
  | false ↦ same-root n.label _ _ _ _ h
]

one-put_label : (f : Forest (Keyed Node)) (q : ℕ) (node : Node) → IsOne (without_keys f) → IsOne (without_keys (put_label q node f))
one-put_label Empty q node h = h
one-put_label (Tree n c Empty) q node h = refl
one-put_label (Tree n c (Tree m d r)) q node h = absurd (let e : Tree m.label (without_keys d) (without_keys r) ≡ Empty = h in cc)

element-children : (node : Node) (c : Forest (Keyed Node)) → IsTrue (is_element node) → IsSoundNode node → IsSoundAt node c
element-children (Element name attrs) c element sound = sound
element-children (Text characters) c element sound = absurd (false≢true element)

node-sound : (node : Node) (c : Forest (Keyed Node)) → IsTrue (is_element node) → IsSoundAt node c → IsSoundNode node
node-sound (Element name attrs) c element own = own
node-sound (Text characters) c element own = absurd (false≢true element)

pub document-put_label : (f : Forest (Keyed Node)) (q : ℕ) (node : Node) (s : Spot Node) → IsKeyedDocument f → spot_of f q ≡ Some s → IsTrue (is_element node) → IsSoundNode node → IsKeyedDocument (put_label q node f)
document-put_label f q node s d is element sound = record {
  distinct = λ x. omega (arith, times-put_label x f q node, d.distinct x);
  is_tree = record { one = one-put_label f q node d.is_tree.one; sound = sound-put_label f None [] q node s d.is_tree.sound d.distinct is (element-children node s.children element sound) };
  element = root-put_label f q node element d.element;
  few = omega (arith, size-put_label f q node, d.few);
}

-- The step.
module _ (nodes : Slab Entry) (root : ℕ) (arena : IsArena nodes root) (key : ℕ) (node : Node) (can : CanRelabel (seen nodes root) key node) where
  abbrev before : Forest (Keyed Node)
  before = tree_in nodes root

  there : ContainsKey nodes key
  there = let e = element-spot before key can.old in entry-there nodes root before key arena.holds (rw e.1 refl)

  module _ (new : Slab Entry) (relabels : Relabels (links_in nodes) (links_in new) key node) where
    now : Forest (Keyed Node)
    now = put_label key node before

    relabel-arena : IsArena new root
    relabel-arena =
        let e = element-spot before key can.old in
        closed new root (put_label key node before) (holds-put_label nodes new root before key node arena.holds relabels) (document-put_label before key node e.0 arena.document e.1 can.new can.sound)

    relabel-is : (was : Node) → option_map (λ (links : Links). links.node) (links_in nodes key) ≡ Some was → KeepsRooms nodes new → IsRelabelled (seen nodes root) (seen new root) key node was
    relabel-is was is rooms =
        let f : Forest (Keyed Node) = before in
        let e = element-spot f key can.old in
        let label : was ≡ e.0.label = same_Some _ _ (sym is ∙ ap (option_map (λ (links : Links). links.node)) (entries-spot (links_in nodes) f None [] 0 key e.0 refl arena.holds.entries e.1)) in
        let t = label-put f None None [] [] key node e.0 e.1 in
        let own : IsSoundAt e.0.label e.0.children = sound-spot f None [] key e.0 arena.document.is_tree.sound e.1 in
        let done : IsRelabelled (seen nodes root) (record { tree = put_label key node f; entries = new }) key node was = record {
          tree = refl;
          can = record {
            old = rw (t.1, t.2) can.new;
            new = subst (λ n. IsTrue (is_element n)) (sym label) e.2;
            sound = subst IsSoundNode (sym label) (node-sound e.0.label e.0.children e.2 own);
          };
          back = ap (λ l. put_label key l (put_label key node f)) label ∙ put_label-twice f key e.0.label node ∙ put_label-own f None [] key e.0 arena.document.distinct e.1;
          entries = keeps-entries nodes new f (put_label key node f) rooms;
        } in
        subst (λ d. IsRelabelled (seen nodes root) d key node was) (sym (seen-is new root (put_label key node f) (holds-put_label nodes new root f key node arena.holds relabels))) done

module _ (nodes : Slab Entry) (root : ℕ) (document : Document) (arena : IsArena nodes root) (view : seen nodes root ≡ document) (key : ℕ) (node : Node) (can : CanRelabel document key node) where
  its : CanRelabel (seen nodes root) key node
  its = subst (λ d. CanRelabel d key node) (sym view) can

  pub element-there : ContainsKey nodes key
  element-there = there nodes root arena key node its

  pub arena-relabel : (new : Slab Entry) → Relabels (links_in nodes) (links_in new) key node → IsArena new root
  arena-relabel new relabels = relabel-arena nodes root arena key node its new relabels

  pub relabelled : (new : Slab Entry) → Relabels (links_in nodes) (links_in new) key node → (was : Node) → option_map (λ (links : Links). links.node) (links_in nodes key) ≡ Some was → KeepsRooms nodes new → IsRelabelled document (seen new root) key node was
  relabelled new relabels was is rooms = subst (λ d. IsRelabelled d (seen new root) key node was) view (relabel-is nodes root arena key node its new relabels was is rooms)
