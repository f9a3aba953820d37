-- What is under a node that stays and has no place under it. Throughout, n is a node, c what is under it, r what is after
-- it, f trees, m a merge, and q the key of the node.
use Rattle.std.proofs.Common.{◌≡◌, ◌==◌, ◌<◌, ◌+◌, ℕ, Bool, true, false, cond, List, [], ◌∷◌, ◌++◌, Option, Some, None, IsSome, refl, sym, ap, ap₂, ◌∙◌, inl, inr, arith}
use Rattle.std.specs.Prelude.{option_and_then, option_map, unwrap_or}
use Rattle.std.specs.Option.{option_or}
use Rattle.std.proofs.lemmas.Bool.{or_parts}
use Rattle.std.proofs.lemmas.List.Folds.{list_any-append}
use Rattle.forest.specs.Forest.{Forest, Empty, Tree, weigh}
use Rattle.forest.specs.Keys.{Keyed, HasDistinctKeys, times}
use Rattle.forest.specs.Spots.{Spot, children_of, spot}
use Rattle.forest.proofs.SpotLaws.{below-or-after, distinct-parts, not-root, some_or_none, spot-absent, spot-some, the_some, the_spot}
use Rattle.plain_types.specs.declared.node.Node.{Node}
use Rattle.plain_types.specs.declared.node.Node.TheVariants as node
use Rattle.node_arena.specs.Nodes.{name_of, node_name}
use Rattle.merged_walk.specs.Merges.{Merge, End, Kept, Turned, Gone, Come, has_place, new_of, old_of}
use Rattle.merged_walk.proofs.MergeLaws.{old-new}
use Rattle.edit_merge.specs.EditMerges.{is_element}
use Rattle.edit_work.specs.KeyedSources.{element_key, elements_in, is_among}
use Rattle.reference_reach.specs.MergedNodes.{entered_elements}

-- a key is among neither of two lists
pub apart : (q : ℕ) (xs ys : List ℕ) → is_among (xs ++ ys) q ≡ false → (is_among xs q ≡ false) × (is_among ys q ≡ false)
apart q xs ys h = or_parts (is_among xs q) (is_among ys q) (sym (list_any-append (λ other. other == q) xs ys) ∙ h)

module _ (q : ℕ) where
  -- the trees under the node
  abbrev under : Forest (Keyed Node) → Option (Forest (Keyed Node))
  under Empty = None
  under (Tree n c r) = cond (n.key == q) (Some c) (option_or (under c) (under r))

  abbrev children_in : Option (Spot Node) → Option (Forest (Keyed Node))
  children_in o = option_map (λ (s : Spot Node). s.children) o

  children-choice : (b : Bool) (s : Spot Node) (x y : Option (Spot Node)) → children_in (cond b (Some s) (option_or x y)) ≡ cond b (Some s.children) (option_or (children_in x) (children_in y))
  children-choice true s x y = refl
  children-choice false s None y = refl
  children-choice false s (Some x) y = refl

  spot-under : (f : Forest (Keyed Node)) (p : Option ℕ) (e : List (Keyed Node)) → children_in (spot p e f q) ≡ under f
  spot-under Empty p e = refl
  spot-under (Tree n c r) p e =
      children-choice (n.key == q) (the_spot p e n.label c r) (spot (Some n.key) [] c q) (spot p (e ++ n ∷ []) r q)
      ∙ ap₂ (λ a b. cond (n.key == q) (Some c) (option_or a b)) (spot-under c (Some n.key) []) (spot-under r p (e ++ n ∷ []))

  pub children-under : (f : Forest (Keyed Node)) → children_of f q ≡ unwrap_or (under f) Empty
  children-under f = ap (λ o. unwrap_or o Empty) (spot-under f None [])

  absent : (f : Forest (Keyed Node)) → times q f ≡ 0 → under f ≡ None
  absent f h = sym (spot-under f None []) ∙ ap children_in (spot-absent f None [] q h)

  there : (f : Forest (Keyed Node)) → 0 < times q f → (g : Forest (Keyed Node)) × (under f ≡ Some g)
  there f h =
      let s = the_some (spot None [] f q) (spot-some f None [] q h) in
      (s.0.children, sym (spot-under f None []) ∙ ap children_in s.1)

  under-root : (n : Keyed Node) (c r : Forest (Keyed Node)) → (n.key == q) ≡ true → under (Tree n c r) ≡ Some c
  under-root n c r is = ap (λ b. cond b (Some c) (option_or (under c) (under r))) is

  under-below : (n : Keyed Node) (c r : Forest (Keyed Node)) → HasDistinctKeys (Tree n c r) → 0 < times q c → under (Tree n c r) ≡ under c
  under-below n c r d h =
      let g = there c h in
      ap (λ b. cond b (Some c) (option_or (under c) (under r))) (not-root n c r q d (omega arith))
      ∙ ap (λ o. option_or o (under r)) g.1
      ∙ sym g.1

  under-beside : (n : Keyed Node) (c r : Forest (Keyed Node)) → HasDistinctKeys (Tree n c r) → 0 < times q r → under (Tree n c r) ≡ under r
  under-beside n c r d h =
      ap (λ b. cond b (Some c) (option_or (under c) (under r))) (not-root n c r q d (omega arith))
      ∙ ap (λ o. option_or o (under r)) (absent c (below-or-after n c r q d h))

  -- how many elements have the key, and how many texts
  abbrev as_element : Bool → Bool → ℕ
  as_element element is = cond {A = ℕ} element (cond {A = ℕ} is 1 0) 0

  abbrev as_text : Bool → Bool → ℕ
  as_text element is = cond {A = ℕ} element 0 (cond {A = ℕ} is 1 0)

  abbrev elements_of_key : Forest (Keyed Node) → ℕ
  elements_of_key f = weigh (λ (n : Keyed Node). as_element (is_element n.label) (n.key == q)) f

  abbrev texts_of_key : Forest (Keyed Node) → ℕ
  texts_of_key f = weigh (λ (n : Keyed Node). as_text (is_element n.label) (n.key == q)) f

  both-kinds : (element is : Bool) → cond {A = ℕ} is 1 0 ≡ as_element element is + as_text element is
  both-kinds true true = omega arith
  both-kinds true false = omega arith
  both-kinds false true = omega arith
  both-kinds false false = omega arith

  each-kind : (f : Forest (Keyed Node)) → times q f ≡ elements_of_key f + texts_of_key f
  each-kind Empty = refl
  each-kind (Tree n c r) = omega (arith, both-kinds (is_element n.label) (n.key == q), each-kind c, each-kind r)

  unlisted-own : (k : ℕ) (element : Bool) → is_among (cond element (k ∷ []) []) q ≡ false → as_element element (k == q) ≡ 0
  unlisted-own k false h = refl
  unlisted-own k true h = ap (λ b. cond {A = ℕ} b 1 0) (or_parts (k == q) false h).0

  -- what is not listed among the elements is none
  unlisted : (f : Forest (Keyed Node)) → is_among (elements_in f) q ≡ false → elements_of_key f ≡ 0
  unlisted Empty h = refl
  unlisted (Tree n c r) h =
      let first = apart q (element_key n) (elements_in c ++ elements_in r) h in
      let rest = apart q (elements_in c) (elements_in r) first.1 in
      omega (arith, unlisted-own n.key (is_element n.label) first.0, unlisted c rest.0, unlisted r rest.1)

  abbrev IsNamed : Option (Spot Node) → Type 0
  IsNamed o = IsSome (option_and_then node_name (option_map (λ (s : Spot Node). s.label) o))

  named-own : (l : Node) (rest : ℕ) → IsSome (node_name l) → 0 < as_element (is_element l) true + rest
  named-own (node.Element name attrs) rest h = omega arith
  named-own (node.Text characters) rest h = absurd (cc)

  named-either : (a b : Option (Spot Node)) (x y z : ℕ) → (IsNamed a → 0 < x) → (IsNamed b → 0 < y) → IsNamed (option_or a b) → 0 < z + (x + y)
  named-either None b x y z below beside h = omega (arith, beside h)
  named-either (Some s) b x y z below beside h = omega (arith, below h)

  named-there : (f : Forest (Keyed Node)) (p : Option ℕ) (e : List (Keyed Node)) → IsNamed (spot p e f q) → 0 < elements_of_key f
  named-there Empty p e h = absurd (cc)
  named-there (Tree n c r) p e h =
      elim (n.key == q) as (λ b. IsNamed (cond b (Some (the_spot p e n.label c r)) (option_or (spot (Some n.key) [] c q) (spot p (e ++ n ∷ []) r q)))
      → 0 < as_element (is_element n.label) b + (elements_of_key c + elements_of_key r)) [
        | true ↦ λ h. named-own n.label (elements_of_key c + elements_of_key r) h
        | false ↦ λ h.
            named-either (spot (Some n.key) [] c q) (spot p (e ++ n ∷ []) r q) (elements_of_key c) (elements_of_key r) (as_element (is_element n.label) false)
            (named-there c (Some n.key) []) (named-there r p (e ++ n ∷ [])) h
      ] h

  -- the key of an element is that of no text
  pub no-text : (f : Forest (Keyed Node)) → HasDistinctKeys f → IsSome (name_of f q) → (texts_of_key f ≡ 0) × (0 < times q f)
  no-text f d h =
      let some = named-there f None [] h in
      (omega (arith, d q, each-kind f, some), omega (arith, each-kind f, some))

  -- the same trees are under it before and after
  record Stays (m : Merge Node) : Type 0 where
    same : under (new_of m) ≡ under (old_of m)
    there_before : 0 < times q (old_of m)

  quiet : (k : ℕ) (b : Bool) → (k == q) ≡ true → is_among (cond b (k ∷ []) []) q ≡ false → b ≡ false
  quiet k false is h = refl
  quiet k true is h = absurd (cc (or_parts (k == q) false h).0)

  not-counted : (b : Bool) (rest : ℕ) → b ≡ false → 0 < cond {A = ℕ} b 1 0 + rest → 0 < rest
  not-counted false rest is h = omega arith
  not-counted true rest is h = absurd (cc is)

  abbrev StaysIn : Merge Node → Type 0
  StaysIn m = HasDistinctKeys (old_of m) → HasDistinctKeys (new_of m) → texts_of_key (new_of m) ≡ 0 → is_among (entered_elements m) q ≡ false → 0 < times q (new_of m) → Stays m

  -- it is under a root or after it, and not the root
  stays-beside : (was n : Keyed Node) (c r : Merge Node) → StaysIn c → StaysIn r → HasDistinctKeys (Tree was (old_of c) (old_of r)) → HasDistinctKeys (Tree n (new_of c) (new_of r))
      → texts_of_key (new_of c) + texts_of_key (new_of r) ≡ 0 → is_among (entered_elements c ++ entered_elements r) q ≡ false → 0 < times q (new_of c) + times q (new_of r)
      → (under (Tree n (new_of c) (new_of r)) ≡ under (Tree was (old_of c) (old_of r))) × (0 < times q (old_of c) + times q (old_of r))
  stays-beside was n c r below beside old new texts h some =
      let parts = apart q (entered_elements c) (entered_elements r) h in
      let olds = distinct-parts was (old_of c) (old_of r) old in
      let news = distinct-parts n (new_of c) (new_of r) new in
      elim (some_or_none (times q (new_of c))) [
        | inr inside ↦
            let its : Stays c = below olds.0 news.0 (omega (arith, texts)) parts.0 inside in
            (under-below n (new_of c) (new_of r) new inside ∙ its.same ∙ sym (under-below was (old_of c) (old_of r) old its.there_before), omega (arith, its.there_before))
        | inl outside ↦
            let later : 0 < times q (new_of r) = omega arith in
            let its : Stays r = beside olds.1 news.1 (omega (arith, texts)) parts.1 later in
            (under-beside n (new_of c) (new_of r) new later ∙ its.same ∙ sym (under-beside was (old_of c) (old_of r) old its.there_before), omega (arith, its.there_before))
      ]

  stays-kept : (n : Keyed Node) (c r : Merge Node) (b : Bool) → (n.key == q) ≡ b → StaysIn c → StaysIn r → StaysIn (Kept n c r)
  stays-kept n c r true is below beside old new texts h some =
      let parts = apart q (cond (has_place c) (n.key ∷ []) []) (entered_elements c ++ entered_elements r) h in
      let none = quiet n.key (has_place c) is parts.0 in
      record {
        same = under-root n (new_of c) (new_of r) is ∙ ap (λ f. Some f) (sym (old-new c none)) ∙ sym (under-root n (old_of c) (old_of r) is);
        there_before = rw is (omega arith);
      }
  stays-kept n c r false is below beside old new texts h some =
      let parts = apart q (cond (has_place c) (n.key ∷ []) []) (entered_elements c ++ entered_elements r) h in
      let inner = not-counted (n.key == q) (times q (new_of c) + times q (new_of r)) is some in
      let its = stays-beside n n c r below beside old new (omega (arith, texts)) parts.1 inner in
      record { same = its.0; there_before = omega (arith, its.1) }

  stays : (m : Merge Node) → StaysIn m
  stays End old new texts h some = absurd (omega arith)
  stays (Kept n c r) old new texts h some = stays-kept n c r (n.key == q) refl (stays c) (stays r) old new texts h some
  stays (Turned was n c r) old new texts h some =
      let parts = or_parts (n.key == q) (is_among (entered_elements c ++ entered_elements r) q) h in
      let inner = not-counted (n.key == q) (times q (new_of c) + times q (new_of r)) parts.0 some in
      let its = stays-beside was n c r (stays c) (stays r) old new (omega (arith, texts)) parts.1 inner in
      record { same = its.0; there_before = omega (arith, its.1) }
  stays (Gone n c r) old new texts h some =
      let its : Stays r = stays r (distinct-parts n c (old_of r) old).1 new texts h some in
      record { same = its.same ∙ sym (under-beside n c (old_of r) old its.there_before); there_before = omega (arith, its.there_before) }
  stays (Come n c r) old new texts h some =
      let parts = apart q (elements_in (Tree n c Empty)) (entered_elements r) h in
      let later : 0 < times q (new_of r) = omega (arith, texts, some, unlisted (Tree n c Empty) parts.0, each-kind (Tree n c Empty)) in
      let its : Stays r = stays r old (distinct-parts n c (new_of r) new).1 (omega (arith, texts)) parts.1 later in
      record { same = under-beside n c (new_of r) new later ∙ its.same; there_before = its.there_before }

  pub same-under : (m : Merge Node) → HasDistinctKeys (old_of m) → HasDistinctKeys (new_of m) → IsSome (name_of (new_of m) q) → is_among (entered_elements m) q ≡ false
      → children_of (new_of m) q ≡ children_of (old_of m) q
  same-under m old new element h =
      let its = no-text (new_of m) new element in
      children-under (new_of m) ∙ ap (λ o. unwrap_or o Empty) (stays m old new its.0 h its.1).same ∙ sym (children-under (old_of m))
