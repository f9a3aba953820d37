-- The elements that a document has no longer after an edit.
use Rattle.std.proofs.Common.{◌≡◌, ◌≤◌, ◌∙◌, ◌⊎◌, ℕ, nat_eq, Bool, true, false, not, ◌&&◌, ◌||◌, cond, List, [], ◌∷◌, ◌++◌, length, map, Option, Some, None, flat_map, is_some, sum_by, refl, sym, ap, ap₂, inl, inr, arith, length-append, eqb-true, eq-eqb}
use Rattle.std.specs.Prelude.{option_and_then}
use Rattle.std.specs.List.{list_any}
use Rattle.std.specs.Option.{option_or}
use Rattle.std.proofs.lemmas.Bool.{cases_Bool}
use Rattle.std.proofs.lemmas.List.Sums.{sum_by-cons}
use Rattle.std.proofs.lemmas.Option.{none-some}
use Rattle.forest.specs.Forest.{Forest, Empty, Tree, labels}
use Rattle.forest.specs.Keys.{Keyed, HasDistinctKeys}
use Rattle.forest.specs.Spots.{keyed, label_of}
use Rattle.plain_types.specs.declared.node.Node.{Node}
use Rattle.plain_types.specs.declared.node.Node.TheVariants.{Element, Text}
use Rattle.node_arena.specs.AtPaths.{with_label}
use Rattle.node_arena.specs.Edits.{set_attr, unset_attr, with_its_key}
use Rattle.node_arena.specs.Nodes.{name_of, node_name}
use Rattle.dirty_walk.specs.declared.exchange.ElementId.{ElementId}
use Rattle.document_walk.specs.Elements.{one_where}
use Rattle.dirty_walk.specs.Exchanges.{element_of, elements_in, first_node}
use Rattle.dirty_walk.proofs.ExchangedLemmas.{AreExchanged}
use Rattle.kept_elements.proofs.SaidLemmas.{label-said, often, often-cons, said, silent, times-often}

-- whether a label is that of an element
abbrev pub is_named : Option Node → Bool
is_named label = is_some (option_and_then node_name label)

same_test : (a b : ℕ) → nat_eq a b ≡ nat_eq b a
same_test a b = elim (cases_Bool (nat_eq a b)) [
  | inl e ↦ e ∙ sym (eq-eqb b a (sym (eqb-true a b e)))
  | inr e ↦ e ∙ elim (cases_Bool (nat_eq b a)) [
    | inl f ↦ absurd (let yes : nat_eq a b ≡ true = eq-eqb a b (sym (eqb-true b a f)) in let bad : false ≡ true = sym e ∙ yes in cc bad)
    | inr f ↦ sym f
  ]
]

-- The keys of elements.

abbrev pub keys_of : List ElementId → List ℕ
keys_of elements = map (λ (element : ElementId). element.key) elements

module _ (key : ℕ) where
  one_key : (n : Keyed Node) → list_any (nat_eq key) (keys_of (element_of n)) ≡ (is_some (node_name n.label) && nat_eq n.key key)
  one_key n = by n.label
    where
      or_none : (b c : Bool) → b ≡ c → (b || false) ≡ c
      or_none true c e = e
      or_none false c e = e

      by : (label : Node) → list_any (nat_eq key) (keys_of (element_of (keyed n.key label))) ≡ (is_some (node_name label) && nat_eq n.key key)
      by (Element name attrs) = or_none (nat_eq key n.key) (nat_eq n.key key) (same_test key n.key)
      by (Text characters) = refl

  keys_more : (n : Keyed Node) (ns : List (Keyed Node)) → list_any (nat_eq key) (keys_of (element_of n ++ flat_map element_of ns)) ≡ (list_any (nat_eq key) (keys_of (element_of n)) || list_any (nat_eq key) (keys_of (flat_map element_of ns)))
  keys_more n ns = by n.label
    where
      or_one : (b c : Bool) → (b || c) ≡ ((b || false) || c)
      or_one true c = refl
      or_one false c = refl

      by : (label : Node) → list_any (nat_eq key) (keys_of (element_of (keyed n.key label) ++ flat_map element_of ns)) ≡ (list_any (nat_eq key) (keys_of (element_of (keyed n.key label))) || list_any (nat_eq key) (keys_of (flat_map element_of ns)))
      by (Element name attrs) = or_one (nat_eq key n.key) (list_any (nat_eq key) (keys_of (flat_map element_of ns)))
      by (Text characters) = refl

  and_true : (a : Bool) → ((a && true) || false) ≡ a
  and_true true = refl
  and_true false = refl

  and_false : (a m : Bool) → ((a && false) || m) ≡ m
  and_false true m = refl
  and_false false m = refl

  all_keys : (ns : List (Keyed Node)) → often key ns ≤ 1 → list_any (nat_eq key) (keys_of (flat_map element_of ns)) ≡ is_named (said ns key)
  all_keys [] few = refl
  all_keys (n ∷ ns) few =
      keys_more n ns
      ∙ ap₂ (λ a b. a || b) (one_key n) (all_keys ns (omega (arith, few, often-cons key n ns)))
      ∙ elim (cases_Bool (nat_eq n.key key)) [
        | inl e ↦
            let none : said ns key ≡ None = elim (silent ns key) [
              | inl none ↦ none
              | inr some ↦ absurd (omega (arith, few, some, often-cons key n ns, ap (λ b. cond {A = ℕ} b 1 0) e))
            ] in
            rw (e, none) (and_true (is_some (node_name n.label)))
        | inr e ↦ rw e (and_false (is_some (node_name n.label)) (is_named (said ns key)))
      ]

  pub keys_there : (trees : Forest (Keyed Node)) → HasDistinctKeys trees → list_any (nat_eq key) (keys_of (elements_in trees)) ≡ is_named (label_of trees key)
  keys_there trees d = all_keys (labels trees) (omega (arith, d key, times-often key trees)) ∙ ap is_named (sym (label-said trees key))

  and_not : (b : Bool) → (b && not b) ≡ false
  and_not true = refl
  and_not false = refl

  -- nothing comes: what goes is lost
  lost : (leaves stays : Option Node) → (leaves ≡ None) ⊎ (stays ≡ None) → is_named leaves ≡ (is_named (option_or leaves stays) && not (is_named stays))
  lost None stays out = sym (and_not (is_named stays))
  lost (Some g) stays (inl e) = absurd (none-some g (sym e))
  lost (Some g) stays (inr e) = rw e (and_yes (is_named (Some g)))
    where
      and_yes : (b : Bool) → b ≡ (b && true)
      and_yes true = refl
      and_yes false = refl

  -- each element that goes comes again: none is lost
  none_lost : (leaves comes stays : Option Node) → is_named comes ≡ is_named leaves ⊎ (leaves ≡ None) → (leaves ≡ None) ⊎ (stays ≡ None) → (comes ≡ None) ⊎ (stays ≡ None) → false ≡ (is_named (option_or leaves stays) && not (is_named (option_or comes stays)))
  none_lost None None stays again out into = sym (and_not (is_named stays))
  none_lost None (Some c) stays again out (inl e) = absurd (none-some c (sym e))
  none_lost None (Some c) stays again out (inr e) = rw e refl
  none_lost (Some g) comes stays (inr e) out into = absurd (none-some g (sym e))
  none_lost (Some g) comes stays (inl same) (inl e) into = absurd (none-some g (sym e))
  none_lost (Some g) comes stays (inl same) (inr e) into = rw (e, or_none comes, same) (sym (and_not (is_named (Some g))))
    where
      or_none : (o : Option Node) → option_or o None ≡ o
      or_none None = refl
      or_none (Some x) = refl

  -- an element that gets other attributes keeps its name
  pub same_name : (change : Node → Node) → ((node : Node) → node_name (change node) ≡ node_name node) → (here : Forest (Keyed Node))
      → is_named (label_of (first_node (with_label (with_its_key change) here)) key) ≡ is_named (label_of (first_node here) key)
  same_name change same Empty = refl
  same_name change same (Tree n c r) = elim (cases_Bool (nat_eq n.key key)) [
    | inl e ↦ rw e (ap (λ o. is_some o) (same n.label))
    | inr e ↦ rw e refl
  ]

pub set_name : (name value : List ℕ) (node : Node) → node_name (set_attr name value node) ≡ node_name node
set_name name value (Element tag attrs) = refl
set_name name value (Text characters) = refl

pub unset_name : (name : List ℕ) (node : Node) → node_name (unset_attr name node) ≡ node_name node
unset_name name (Element tag attrs) = refl
unset_name name (Text characters) = refl

module _ (old new gone come : Forest (Keyed Node)) (h : AreExchanged old new gone come) (key : ℕ) where
  -- what is lost of what goes
  pub lost_of : is_named (label_of gone key) ≡ (is_some (name_of old key) && not (is_named (h.stays_as key)))
  lost_of = lost key (label_of gone key) (h.stays_as key) (h.gone_apart key) ∙ ap (λ o. is_named o && not (is_named (h.stays_as key))) (sym (h.was key))

  pub none_lost_of : is_named (label_of come key) ≡ is_named (label_of gone key) ⊎ (label_of gone key ≡ None) → false ≡ (is_some (name_of old key) && not (is_some (name_of new key)))
  none_lost_of again =
      none_lost key (label_of gone key) (label_of come key) (h.stays_as key) again (h.gone_apart key) (h.come_apart key)
      ∙ ap₂ (λ o p. is_named o && not (is_named p)) (sym (h.was key)) (sym (h.is key))

-- How many they are.

abbrev pub one_element : Keyed Node → ℕ
one_element n = one_where (is_some (node_name n.label))

pub count-elements : (ns : List (Keyed Node)) → length (flat_map element_of ns) ≡ sum_by one_element ns
count-elements [] = refl
count-elements (n ∷ ns) =
    omega (arith, length-append (element_of n) (flat_map element_of ns), one n.label, count-elements ns, sum_by-cons one_element n ns)
  where
    one : (label : Node) → length (element_of (keyed n.key label)) ≡ one_where (is_some (node_name label))
    one (Element name attrs) = refl
    one (Text characters) = refl
