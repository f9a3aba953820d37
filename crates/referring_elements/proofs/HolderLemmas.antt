-- The first node in tree order that passes a test, and the first holder of an id.
use Rattle.std.proofs.Common.{◌≡◌, ◌==◌, ◌<◌, ◌≤◌, ◌+◌, ℕ, nat_eq, Bool, true, false, cond, not, List, [], ◌∷◌, ◌++◌, map, Option, Some, None, inl, inr, refl, sym, ap, subst, ◌∙◌, arith, eqb-true, ◌⊎◌}
use Rattle.std.specs.Prelude.{IfNone, IfSome, codes, find, option_map, unwrap_or}
use Rattle.std.specs.List.{list_any, position_or_len}
use Rattle.std.specs.Option.{option_map_or, option_or}
use Rattle.std.specs.Str.{bytes_eq}
use Rattle.std.proofs.lemmas.Bool.Decides.{nat_tests}
use Rattle.std.proofs.lemmas.List.Folds.{find-append}
use Rattle.std.proofs.lemmas.Option.{none-some, same_Some}
use Rattle.std.proofs.lemmas.Slice.Eq.{bytes_eq-Decides}
use Rattle.forest.specs.Forest.{Forest, Empty, Tree, labels}
use Rattle.forest.specs.Keys.{Keyed, HasDistinctKeys}
use Rattle.forest.specs.Order.{place_of}
use Rattle.forest.specs.Spots.{IsLive, Spot, keyed, label_of, spot, spot_of}
use Rattle.forest.proofs.PlaceLaws.{same-place}
use Rattle.forest.proofs.SpotLaws.{chosen, distinct-parts, first_found, keyed-same, spot-below, spot-beside, spot-root, the_spot}
use Rattle.plain_types.specs.Attributes.{value_of}
use Rattle.plain_types.specs.declared.node.Node.{Node}
use Rattle.node_arena.specs.Nodes.{attr_of, node_attrs}
use Rattle.generated_texts.specs.References.{first_holder, has_id}
use Rattle.target_index.specs.declared.index.Index.{Index}
use Rattle.target_index.specs.Holders.{IsFirstHolder, holders_of, is_holder}
use Rattle.referring_elements.specs.Indexes.{IsIndexOf, holds_id}

pub same_key : (key : ℕ) → (key == key) ≡ true
same_key key = grind (arith, nat_tests)

squeezed : (a b : ℕ) → a ≤ b → (a < b → ⊥) → a ≡ b
squeezed a b low high = omega (arith, low, high)

-- what stands where a node was found
pub record IsFound (test : Keyed Node → Bool) (p : Option ℕ) (e : List (Keyed Node)) (f : Forest (Keyed Node)) (n : Keyed Node) : Type 0 where
  pub here : Spot Node
  pub at : spot p e f n.key ≡ Some here
  pub label : here.label ≡ n.label
  pub passes : test n ≡ true

module _ (test : Keyed Node → Bool) where
  pub found : (f : Forest (Keyed Node)) (p : Option ℕ) (e : List (Keyed Node)) (n : Keyed Node) → HasDistinctKeys f → find test (labels f) ≡ Some n → IsFound test p e f n
  found Empty p e n d is = absurd (none-some n is)
  found (Tree m c r) p e n d is =
      let parts = distinct-parts m c r d in
      elim (chosen (test m) _ _ _ is) [
        | inl h ↦
            let same : m ≡ n = same_Some m n h.1 in
            subst (λ k. IsFound test p e (Tree m c r) k) same
            (record { here = the_spot p e m.label c r; at = spot-root p e m c r; label = refl; passes = h.0 })
        | inr h ↦ elim (first_found _ _ n (sym (find-append test (labels c) (labels r)) ∙ h.1)) [
          | inl a ↦
              let inner = found c (Some m.key) [] n parts.0 a in
              record { here = inner.here; at = spot-below p e m c r n.key inner.here d inner.at; label = inner.label; passes = inner.passes }
          | inr b ↦
              let inner = found r p (e ++ m ∷ []) n parts.1 b.1 in
              record { here = inner.here; at = spot-beside p e m c r n.key inner.here d inner.at; label = inner.label; passes = inner.passes }
        ]
      ]

  some_or : (a b : Option (Keyed Node)) → ((n : Keyed Node) × (a ≡ Some n)) ⊎ ((n : Keyed Node) × (b ≡ Some n)) → (n : Keyed Node) × (option_or a b ≡ Some n)
  some_or (Some x) b h = (x, refl)
  some_or None b (inl h) = absurd (none-some h.0 h.1)
  some_or None b (inr h) = h

  some_cond : (b : Bool) (x : Keyed Node) (o : Option (Keyed Node)) → (b ≡ true) ⊎ ((n : Keyed Node) × (o ≡ Some n)) → (n : Keyed Node) × (cond b (Some x) o ≡ Some n)
  some_cond true x o h = (x, refl)
  some_cond false x o (inl e) = absurd (cc e)
  some_cond false x o (inr h) = h

  -- a node that passes is not overlooked
  pub finds : (f : Forest (Keyed Node)) (p : Option ℕ) (e : List (Keyed Node)) (q : ℕ) (s : Spot Node) → spot p e f q ≡ Some s → test (keyed q s.label) ≡ true → (n : Keyed Node) × (find test (labels f) ≡ Some n)
  finds Empty p e q s at ok = absurd (none-some s at)
  finds (Tree m c r) p e q s at ok =
      some_cond (test m) m (find test (labels c ++ labels r)) (elim (chosen (m.key == q) _ _ _ at) [
        | inl h ↦
            let same : m ≡ keyed q s.label = keyed-same m q s.label (eqb-true m.key q h.0) (ap (λ t. t.label) (same_Some _ _ h.1)) in
            inl (ap test same ∙ ok)
        | inr h ↦
            let rest = some_or (find test (labels c)) (find test (labels r)) (elim (first_found _ _ s h.1) [
              | inl a ↦ inl (finds c (Some m.key) [] q s a ok)
              | inr b ↦ inr (finds r p (e ++ m ∷ []) q s b.1 ok)
            ]) in
            inr (rest.0, find-append test (labels c) (labels r) ∙ rest.1)
      ])

  -- no node that passes stands before it
  least : (ns : List (Keyed Node)) (n m : Keyed Node) (q : ℕ) → find test ns ≡ Some n → find (λ (x : Keyed Node). x.key == q) ns ≡ Some m → test m ≡ true
      → position_or_len (λ other. other == n.key) (map (λ (x : Keyed Node). x.key) ns) ≤ position_or_len (λ other. other == q) (map (λ (x : Keyed Node). x.key) ns)
  least [] n m q first there ok = absurd (none-some n first)
  least (x ∷ ns) n m q first there ok =
      elim (chosen (test x) _ _ _ first) [
        | inl h ↦ front (same_Some x n h.1)
        | inr h ↦ elim (chosen (x.key == q) _ _ _ there) [
          | inl k ↦ absurd (let e : test x ≡ true = ap test (same_Some x m k.1) ∙ ok in let bad : true ≡ false = sym e ∙ h.0 in cc bad)
          | inr k ↦ behind (x.key == n.key) (x.key == q) k.0 (least ns n m q h.1 k.1 ok)
        ]
      ]
    where
      front : x ≡ n → position_or_len (λ other. other == n.key) (map (λ (y : Keyed Node). y.key) (x ∷ ns)) ≤ position_or_len (λ other. other == q) (map (λ (y : Keyed Node). y.key) (x ∷ ns))
      front same = rw (same, same_key n.key) (omega arith)

      behind : (a b : Bool) → b ≡ false → position_or_len (λ other. other == n.key) (map (λ (y : Keyed Node). y.key) ns) ≤ position_or_len (λ other. other == q) (map (λ (y : Keyed Node). y.key) ns)
          → cond (not a) (1 + position_or_len (λ other. other == n.key) (map (λ (y : Keyed Node). y.key) ns)) 0
          ≤ cond (not b) (1 + position_or_len (λ other. other == q) (map (λ (y : Keyed Node). y.key) ns)) 0
      behind true b e low = omega arith
      behind false true e low = absurd (cc e)
      behind false false e low = omega (arith, low)

-- a label that is there
pub at_label : {L : Type 0} (f : Forest (Keyed L)) (q : ℕ) (s : Spot L) → spot_of f q ≡ Some s → label_of f q ≡ Some s.label
at_label f q s at = rw at refl

module _ (f : Forest (Keyed Node)) (d : HasDistinctKeys f) (index : Index) (indexed : IsIndexOf index f) (id : List ℕ) where
  abbrev test : Keyed Node → Bool
  test n = has_id id n.label

  -- a holder stands in the document, with the id
  record Holds (key : ℕ) : Type 0 where
    here : Spot Node
    at : spot_of f key ≡ Some here
    ok : has_id id here.label ≡ true

  holds : (key : ℕ) → is_holder index id key ≡ true → Holds key
  holds key h = by (spot_of f key) refl (sym (indexed id key) ∙ h)
    where
      by : (o : Option (Spot Node)) → spot_of f key ≡ o → holds_id f id key ≡ true → Holds key
      by None e t = absurd (let bad : false ≡ true = ap (λ o. option_map_or (has_id id) (option_map (λ (s : Spot Node). s.label) o) false) (sym e) ∙ t in cc bad)
      by (Some s) e t = record { here = s; at = e; ok = ap (λ o. option_map_or (has_id id) (option_map (λ (s : Spot Node). s.label) o) false) (sym e) ∙ t }

  none_held : (key : ℕ) → holders_of index id ≡ [] → is_holder index id key ≡ true → ⊥
  none_held key none h = let bad : false ≡ true = ap (λ ks. list_any (nat_eq key) ks) (sym none) ∙ h in cc bad

  pub first_is : (result : Option ℕ) → IfSome result (IsFirstHolder f index id) → IfNone result (holders_of index id ≡ []) → result ≡ first_holder f id
  first_is result some none = by (find test (labels f)) refl result some none
    where
      by : (o : Option (Keyed Node)) → find test (labels f) ≡ o → (result : Option ℕ) → IfSome result (IsFirstHolder f index id) → IfNone result (holders_of index id ≡ []) → result ≡ first_holder f id
      by None e None some none = ap (option_map (λ (n : Keyed Node). n.key)) (sym e)
      by None e (Some key) some none =
          let h = holds key some.holder in
          let there = finds test f None [] key h.here h.at h.ok in
          absurd (none-some there.0 (sym e ∙ there.1))
      by (Some n) e None some none =
          let it = found test f None [] n d e in
          let holder : is_holder index id n.key ≡ true =
          indexed id n.key ∙ ap (λ o. option_map_or (has_id id) o false) (at_label f n.key it.here it.at) ∙ ap (has_id id) it.label ∙ it.passes in
          absurd (none_held n.key none holder)
      by (Some n) e (Some key) some none =
          let it = found test f None [] n d e in
          let holder : is_holder index id n.key ≡ true =
          indexed id n.key ∙ ap (λ o. option_map_or (has_id id) o false) (at_label f n.key it.here it.at) ∙ ap (has_id id) it.label ∙ it.passes in
          let h = holds key some.holder in
          let by_key : Keyed Node → Bool = λ x. x.key == key in
          let m = finds by_key f None [] key h.here h.at (same_key key) in
          let at_m = found by_key f None [] m.0 d m.1 in
          let its_key : m.0.key ≡ key = eqb-true m.0.key key at_m.passes in
          let label : m.0.label ≡ h.here.label =
          sym at_m.label ∙ ap (λ (s : Spot Node). s.label) (same_Some at_m.here h.here (sym at_m.at ∙ ap (λ k. spot_of f k) its_key ∙ h.at)) in
          let low = least test (labels f) n m.0 key e m.1 (ap (has_id id) label ∙ h.ok) in
          let live_n : IsLive f n.key = rw it.at refl in
          let live_key : IsLive f key = rw h.at refl in
          let same : n.key ≡ key = same-place f n.key key d live_n live_key (squeezed (place_of f n.key) (place_of f key) low (some.first n.key holder)) in
          ap Some (sym same) ∙ ap (option_map (λ (x : Keyed Node). x.key)) (sym e)

-- the first holder has the id
has-value : (id : List ℕ) (o : Option (List ℕ)) → option_map_or (bytes_eq id) o false ≡ true → o ≡ Some id
has-value id None h = absurd (cc h)
has-value id (Some value) h = ap (λ (v : List ℕ). Some v) (sym ((bytes_eq-Decides id value).0 h))

pub held-id : (f : Forest (Keyed Node)) → HasDistinctKeys f → (id : List ℕ) (key : ℕ) → first_holder f id ≡ Some key → attr_of f key (codes "id") ≡ Some id
held-id f d id key is = by (find (λ (n : Keyed Node). has_id id n.label) (labels f)) refl is
  where
    by : (o : Option (Keyed Node)) → find (λ (n : Keyed Node). has_id id n.label) (labels f) ≡ o → option_map (λ (n : Keyed Node). n.key) o ≡ Some key → attr_of f key (codes "id") ≡ Some id
    by None e h = absurd (none-some key h)
    by (Some n) e h =
        let it = found (λ (n : Keyed Node). has_id id n.label) f None [] n d e in
        let own : n.key ≡ key = same_Some n.key key h in
        let label : label_of f n.key ≡ Some n.label = at_label f n.key it.here it.at ∙ ap (λ (l : Node). Some l) it.label in
        subst (λ k. attr_of f k (codes "id") ≡ Some id) own
        (ap (λ (o : Option Node). value_of (codes "id") (unwrap_or (option_map node_attrs o) [])) label ∙ has-value id (value_of (codes "id") (node_attrs n.label)) it.passes)
