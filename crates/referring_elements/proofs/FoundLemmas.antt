-- The elements that are found through an index are those that refer to ids with changed targets. Throughout, x and y are items,
-- xs and ys lists of them, k is a key, and f the document.
use Rattle.std.proofs.Common.{◌≡◌, ◌==◌, ◌||◌, ◌&&◌, ℕ, nat_eq, Bool, true, false, not, List, [], ◌∷◌, Option, Some, None, ◌⊎◌, inl, inr, refl, sym, ap, ap₂, subst, ◌∙◌, eqb-true, eq-eqb}
use Rattle.std.specs.Prelude.{codes}
use Rattle.std.specs.List.{AllByRecursion, list_any}
use Rattle.std.specs.Option.{option_eq, option_map_or}
use Rattle.std.specs.Str.{bytes_eq}
use Rattle.std.proofs.lemmas.Bool.{and_parts}
use Rattle.std.proofs.lemmas.Slice.Eq.{bytes_eq-Decides}
use Rattle.forest.specs.Forest.{Forest}
use Rattle.forest.specs.Keys.{Keyed, HasDistinctKeys}
use Rattle.forest.specs.Spots.{IsLive}
use Rattle.plain_types.specs.declared.node.Node.{Node}
use Rattle.node_arena.specs.Nodes.{attr_of}
use Rattle.node_arena.proofs.MoveLaws.{parent-same}
use Rattle.box_eval.specs.declared.element_record.ElementRecord.{ElementRecord}
use Rattle.generated_texts.specs.References.{first_holder}
use Rattle.edit_work.specs.KeyedSources.{is_among}
use Rattle.target_index.specs.declared.index.Index.{Index}
use Rattle.target_index.specs.Holders.{is_reference}
use Rattle.reference_reach.specs.ChangedTargets.{Evaluated, has_changed_target, has_other_target, has_referring_target, has_target_among, references_at, refers, refers_through}
use Rattle.referring_elements.specs.declared.former.FormerTarget.{FormerTarget}
use Rattle.referring_elements.specs.Former.{AreFormerTargets, is_former}
use Rattle.referring_elements.specs.Found.{is_found, is_named, refers_anew, refers_by_id}
use Rattle.referring_elements.specs.Indexes.{AreReferencesLive, TellsReferences}
use Rattle.referring_elements.proofs.HolderLemmas.{held-id}

-- Tests.

same-tests : (a b : Bool) → (a ≡ true → b ≡ true) → (b ≡ true → a ≡ true) → a ≡ b
same-tests true b there back = sym (there refl)
same-tests false true there back = back refl
same-tests false false there back = refl

one-of : (a b : Bool) → (a || b) ≡ true → (a ≡ true) ⊎ (b ≡ true)
one-of true b h = inl refl
one-of false b h = inr h

left-of : (a b : Bool) → a ≡ true → (a || b) ≡ true
left-of a b h = ap (λ a. a || b) h

right-of : (a b : Bool) → b ≡ true → (a || b) ≡ true
right-of true b h = refl
right-of false b h = h

both-of : (a b : Bool) → a ≡ true → b ≡ true → (a && b) ≡ true
both-of a b one other = ap₂ (λ a b. a && b) one other

module _ {X : Type 0} where
  abbrev IsIn : X → List X → Type 0
  IsIn x [] = ⊥
  IsIn x (y ∷ ys) = (y ≡ x) ⊎ IsIn x ys

  -- an item that passes
  record Passes (test : X → Bool) (xs : List X) : Type 0 where
    item : X
    there : IsIn item xs
    passes : test item ≡ true

  some-passes : (test : X → Bool) (xs : List X) → list_any test xs ≡ true → Passes test xs
  some-passes test [] h = absurd (cc h)
  some-passes test (x ∷ xs) h = by (test x) refl (some-passes test xs) h
    where
      by : (b : Bool) → test x ≡ b → (list_any test xs ≡ true → Passes test xs) → (b || list_any test xs) ≡ true → Passes test (x ∷ xs)
      by true is later h = record { item = x; there = inl refl; passes = is }
      by false is later h = let rest = later h in record { item = rest.item; there = inr rest.there; passes = rest.passes }

  passes-some : (test : X → Bool) (xs : List X) (x : X) → IsIn x xs → test x ≡ true → list_any test xs ≡ true
  passes-some test [] x there is = absurd there
  passes-some test (y ∷ ys) x (inl same) is = left-of (test y) (list_any test ys) (ap test same ∙ is)
  passes-some test (y ∷ ys) x (inr there) is = right-of (test y) (list_any test ys) (passes-some test ys x there is)

  same-passes : (one other : X → Bool) → ((x : X) → one x ≡ other x) → (xs : List X) → list_any one xs ≡ list_any other xs
  same-passes one other same [] = refl
  same-passes one other same (x ∷ xs) = ap₂ (λ a b. a || b) (same x) (same-passes one other same xs)

  of-each : (P : X → Type 0) (xs : List X) (x : X) → AllByRecursion P xs → IsIn x xs → P x
  of-each P [] x all there = absurd there
  of-each P (y ∷ ys) x all (inl same) = subst P same all.0
  of-each P (y ∷ ys) x all (inr there) = of-each P ys x all.1 there

same-bytes : (xs ys : List ℕ) → bytes_eq xs ys ≡ true → xs ≡ ys
same-bytes xs ys h = (bytes_eq-Decides xs ys).0 h

own-bytes : (xs ys : List ℕ) → xs ≡ ys → bytes_eq xs ys ≡ true
own-bytes xs ys h = (bytes_eq-Decides xs ys).1 h

own-key : (o : Option ℕ) (k : ℕ) → o ≡ Some k → option_eq nat_eq o (Some k) ≡ true
own-key o k is = ap (λ o. option_eq nat_eq o (Some k)) is ∙ eq-eqb k k refl

among-in : (keys : List ℕ) (k : ℕ) → is_among keys k ≡ true → IsIn k keys
among-in [] k h = absurd (cc h)
among-in (x ∷ xs) k h = by (x == k) refl (among-in xs k) h
  where
    by : (b : Bool) → (x == k) ≡ b → (is_among xs k ≡ true → IsIn k xs) → (b || is_among xs k) ≡ true → IsIn k (x ∷ xs)
    by true is later h = inl (eqb-true x k is)
    by false is later h = inr (later h)

in-among : (keys : List ℕ) (k : ℕ) → IsIn k keys → is_among keys k ≡ true
in-among keys k there = passes-some (λ x. x == k) keys k there (eq-eqb k k refl)

-- What is found.

module _ (f : Forest (Keyed Node)) (index : Index) (k target : ℕ) where
  -- where the element has no id, or one that names another, nothing refers to it
  pub refers-none : None ≡ attr_of f target (codes "id") → false ≡ refers_by_id f index k target
  refers-none none = ap (λ o. option_map_or (λ id. is_named f target id && is_reference index id k) o false) none

  pub refers-some : (id : List ℕ) (named : Bool) → Some id ≡ attr_of f target (codes "id") → named ≡ is_named f target id → (named && is_reference index id k) ≡ refers_by_id f index k target
  refers-some id named held is =
      ap (λ b. b && is_reference index id k) is ∙ ap (λ o. option_map_or (λ id. is_named f target id && is_reference index id k) o false) held

module _ (f : Forest (Keyed Node)) (index : Index) (live : AreReferencesLive index f) (former : List FormerTarget) (targets : List ℕ) (k : ℕ) where
  live-by-id : (target : ℕ) (o : Option (List ℕ)) → option_map_or (λ id. is_named f target id && is_reference index id k) o false ≡ true → IsLive f k
  live-by-id target None h = absurd (cc h)
  live-by-id target (Some id) h = live id k (and_parts (is_named f target id) (is_reference index id k) h).1

  -- what is found stands in the document
  pub found-live : is_found f index former targets k ≡ true → IsLive f k
  found-live h = elim (one-of (list_any (refers_anew f index k) former) (list_any (refers_by_id f index k) targets) h) [
    | inl a ↦
        let it = some-passes (refers_anew f index k) former a in
        live it.item.id k (and_parts (is_former f it.item) (is_reference index it.item.id k) it.passes).1
    | inr b ↦ let it = some-passes (refers_by_id f index k) targets b in live-by-id it.item (attr_of f it.item (codes "id")) it.passes
  ]

module _ (f : Forest (Keyed Node)) (distinct : HasDistinctKeys f) (index : Index) (said : List (ℕ × ElementRecord)) where
  abbrev after : Evaluated
  after = record { tree = f; said = said }

  module _ (tells : TellsReferences index after) (former : List FormerTarget) (targets : List ℕ) where
    -- the id names another element than before, or one of these
    abbrev is_new : List ℕ → Bool
    is_new id = list_any (λ (one : FormerTarget). bytes_eq id one.id && is_former f one) former || has_target_among after targets id

    module _ (k : ℕ) where
      -- an element that is found refers to such an id

      referred : (id : List ℕ) → is_new id ≡ true → is_reference index id k ≡ true → list_any is_new (references_at after k) ≡ true
      referred id is refers =
          let it = some-passes (bytes_eq id) (references_at after k) (sym (tells id k) ∙ refers) in
          passes-some is_new (references_at after k) it.item it.there (ap is_new (sym (same-bytes id it.item it.passes)) ∙ is)

      anew-new : list_any (refers_anew f index k) former ≡ true → list_any is_new (references_at after k) ≡ true
      anew-new h =
          let it = some-passes (refers_anew f index k) former h in
          let parts = and_parts (is_former f it.item) (is_reference index it.item.id k) it.passes in
          referred it.item.id
          (left-of (list_any (λ (one : FormerTarget). bytes_eq it.item.id one.id && is_former f one) former) (has_target_among after targets it.item.id)
          (passes-some (λ (one : FormerTarget). bytes_eq it.item.id one.id && is_former f one) former it.item it.there
          (both-of (bytes_eq it.item.id it.item.id) (is_former f it.item) (own-bytes it.item.id it.item.id refl) parts.0)))
          parts.1

      by-id-new : (target : ℕ) → IsIn target targets → (o : Option (List ℕ)) → option_map_or (λ id. is_named f target id && is_reference index id k) o false ≡ true
          → list_any is_new (references_at after k) ≡ true
      by-id-new target there None h = absurd (cc h)
      by-id-new target there (Some id) h =
          let parts = and_parts (is_named f target id) (is_reference index id k) h in
          let holder : first_holder f id ≡ Some target = parent-same (first_holder f id) target parts.0 in
          referred id
          (right-of (list_any (λ (one : FormerTarget). bytes_eq id one.id && is_former f one) former) (has_target_among after targets id)
          (ap (λ o. option_map_or (is_among targets) o false) holder ∙ in-among targets target there))
          parts.1

      found-new : is_found f index former targets k ≡ true → list_any is_new (references_at after k) ≡ true
      found-new h = elim (one-of (list_any (refers_anew f index k) former) (list_any (refers_by_id f index k) targets) h) [
        | inl a ↦ anew-new a
        | inr b ↦
            let it = some-passes (refers_by_id f index k) targets b in
            by-id-new it.item it.there (attr_of f it.item (codes "id")) it.passes
      ]

      -- and one that refers to such an id is found

      refers-there : (id : List ℕ) → IsIn id (references_at after k) → (other : List ℕ) → other ≡ id → is_reference index other k ≡ true
      refers-there id there other same = tells other k ∙ passes-some (bytes_eq other) (references_at after k) id there (own-bytes other id same)

      new-anew : (id : List ℕ) → IsIn id (references_at after k) → list_any (λ (one : FormerTarget). bytes_eq id one.id && is_former f one) former ≡ true → list_any (refers_anew f index k) former ≡ true
      new-anew id there h =
          let it = some-passes (λ (one : FormerTarget). bytes_eq id one.id && is_former f one) former h in
          let parts = and_parts (bytes_eq id it.item.id) (is_former f it.item) it.passes in
          passes-some (refers_anew f index k) former it.item it.there
          (both-of (is_former f it.item) (is_reference index it.item.id k) parts.1 (refers-there id there it.item.id (sym (same-bytes id it.item.id parts.0))))

      new-by-id : (id : List ℕ) → IsIn id (references_at after k) → (o : Option ℕ) → first_holder f id ≡ o → option_map_or (is_among targets) o false ≡ true → list_any (refers_by_id f index k) targets ≡ true
      new-by-id id there None is h = absurd (cc h)
      new-by-id id there (Some target) is h =
          let held : attr_of f target (codes "id") ≡ Some id = held-id f distinct id target is in
          passes-some (refers_by_id f index k) targets target (among-in targets target h)
          (ap (λ o. option_map_or (λ id. is_named f target id && is_reference index id k) o false) held
          ∙ both-of (is_named f target id) (is_reference index id k) (own-key (first_holder f id) target is) (refers-there id there id refl))

      new-found : list_any is_new (references_at after k) ≡ true → is_found f index former targets k ≡ true
      new-found h =
          let it = some-passes is_new (references_at after k) h in
          let id = it.item in
          elim (one-of (list_any (λ (one : FormerTarget). bytes_eq id one.id && is_former f one) former) (has_target_among after targets id) it.passes) [
            | inl a ↦ left-of (list_any (refers_anew f index k) former) (list_any (refers_by_id f index k) targets) (new-anew id it.there a)
            | inr b ↦ right-of (list_any (refers_anew f index k) former) (list_any (refers_by_id f index k) targets) (new-by-id id it.there (first_holder f id) refl b)
          ]

      found-is : is_found f index former targets k ≡ list_any is_new (references_at after k)
      found-is = same-tests (is_found f index former targets k) (list_any is_new (references_at after k)) found-new new-found

  -- The first elements.

  module _ (tells : TellsReferences index after) (former : List FormerTarget) (before : Evaluated) (are : AreFormerTargets former before after) where
    abbrev is_other : List ℕ → Bool
    is_other id = list_any (λ (one : FormerTarget). bytes_eq id one.id && is_former f one) former

    former-other : (id : List ℕ) (one : FormerTarget) → IsIn one former → id ≡ one.id → is_former f one ≡ has_other_target before after id
    former-other id one there same =
        let were = of-each (λ (target : FormerTarget). target.element ≡ first_holder before.tree target.id) former one are.were there in
        ap (λ o. not (option_eq nat_eq o (first_holder f one.id))) were
        ∙ ap (λ id. not (option_eq nat_eq (first_holder before.tree id) (first_holder f id))) (sym same)

    other-is : (id : List ℕ) → is_other id ≡ has_other_target before after id
    other-is id =
        same-tests (is_other id) (has_other_target before after id)
        (λ h.
        let it = some-passes (λ (one : FormerTarget). bytes_eq id one.id && is_former f one) former h in
        let parts = and_parts (bytes_eq id it.item.id) (is_former f it.item) it.passes in
        sym (former-other id it.item it.there (same-bytes id it.item.id parts.0)) ∙ parts.1)
        (λ h.
        let it = some-passes (λ (one : FormerTarget). bytes_eq id one.id) former (are.complete id h) in
        passes-some (λ (one : FormerTarget). bytes_eq id one.id && is_former f one) former it.item it.there
        (both-of (bytes_eq id it.item.id) (is_former f it.item) it.passes (former-other id it.item it.there (same-bytes id it.item.id it.passes) ∙ h)))

    pub first-are : (changed : List ℕ) (k : ℕ) → is_found f index former changed k ≡ refers before after changed k
    first-are changed k =
        found-is tells former changed k
        ∙ same-passes (is_new tells former changed) (has_changed_target before after changed) (λ id. ap (λ b. b || has_target_among after changed id) (other-is id)) (references_at after k)

    -- And the second ones, which refer to these.

    pub second-are : (changed first : List ℕ) → ((k : ℕ) → is_among first k ≡ refers before after changed k) → (k : ℕ) → is_found f index [] first k ≡ refers_through before after changed k
    second-are changed first firsts k =
        found-is tells [] first k
        ∙ same-passes (is_new tells [] first) (has_referring_target before after changed) (λ id. by (first_holder f id)) (references_at after k)
      where
        by : (o : Option ℕ) → option_map_or (is_among first) o false ≡ option_map_or (refers before after changed) o false
        by None = refl
        by (Some target) = firsts target
