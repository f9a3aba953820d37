-- The index of a document before and after an edit.
use Rattle.std.proofs.Common.{◌≡◌, ◌≤◌, ◌∙◌, ◌⊎◌, ℕ, nat_eq, Bool, true, false, ◌&&◌, ◌||◌, cond, List, [], ◌∷◌, Option, Some, None, flat_map, refl, sym, ap, ap₂, inl, inr, arith}
use Rattle.std.specs.List.{list_any}
use Rattle.std.specs.Option.{option_map_or, option_or}
use Rattle.std.specs.Str.{bytes_eq}
use Rattle.std.proofs.lemmas.Bool.{cases_Bool}
use Rattle.std.proofs.lemmas.List.Folds.{list_any-append}
use Rattle.std.proofs.lemmas.List.Sums.{fold-append}
use Rattle.std.proofs.lemmas.Option.{none-some}
use Rattle.forest.specs.Forest.{Forest, labels}
use Rattle.forest.specs.Keys.{Keyed, HasDistinctKeys}
use Rattle.forest.specs.Spots.{keyed, label_of}
use Rattle.plain_types.specs.declared.node.Node.{Node}
use Rattle.plain_types.specs.declared.node.Node.TheVariants.{Element, Text}
use Rattle.target_index.specs.Changes.{holds_after, holds_after_all}
use Rattle.dirty_walk.specs.declared.exchange.ElementId.{ElementId}
use Rattle.dirty_walk.specs.Exchanges.{element_of, elements_in, exchanges, held, unheld}
use Rattle.referring_elements.specs.Indexes.{holds_id}
use Rattle.generated_texts.specs.References.{has_id}
use Rattle.dirty_walk.proofs.ExchangedLemmas.{AreExchanged}
use Rattle.kept_elements.proofs.SaidLemmas.{label-said, often, often-cons, said, silent, times-often}

module _ (id : List ℕ) (key : ℕ) where
  -- the element is that one, and has this id
  abbrev is_that_holder : ElementId → Bool
  is_that_holder element = option_map_or (bytes_eq id) element.id false && nat_eq element.key key

  abbrev is_held : List ElementId → Bool
  is_held elements = list_any is_that_holder elements

  -- What the changes make of one that holds the id before, or not.

  one_held : (element : ElementId) (before : Bool) → holds_after_all (held element) id key before ≡ cond (is_that_holder element) true before
  one_held element before = by element.id
    where
      by : (o : Option (List ℕ)) → holds_after_all (held (record element { id = o })) id key before ≡ cond (is_that_holder (record element { id = o })) true before
      by None = refl
      by (Some i) = refl

  one_unheld : (element : ElementId) (before : Bool) → holds_after_all (unheld element) id key before ≡ cond (is_that_holder element) false before
  one_unheld element before = by element.id
    where
      by : (o : Option (List ℕ)) → holds_after_all (unheld (record element { id = o })) id key before ≡ cond (is_that_holder (record element { id = o })) false before
      by None = refl
      by (Some i) = refl

  cond_or : (value s t before : Bool) → cond t value (cond s value before) ≡ cond (s || t) value before
  cond_or value true true before = refl
  cond_or value true false before = refl
  cond_or value false true before = refl
  cond_or value false false before = refl

  all_held : (elements : List ElementId) (before : Bool) → holds_after_all (flat_map held elements) id key before ≡ cond (is_held elements) true before
  all_held [] before = refl
  all_held (element ∷ elements) before =
      fold-append (λ is change. holds_after change id key is) before (held element) (flat_map held elements)
      ∙ all_held elements (holds_after_all (held element) id key before)
      ∙ ap (cond (is_held elements) true) (one_held element before)
      ∙ cond_or true (is_that_holder element) (is_held elements) before

  all_unheld : (elements : List ElementId) (before : Bool) → holds_after_all (flat_map unheld elements) id key before ≡ cond (is_held elements) false before
  all_unheld [] before = refl
  all_unheld (element ∷ elements) before =
      fold-append (λ is change. holds_after change id key is) before (unheld element) (flat_map unheld elements)
      ∙ all_unheld elements (holds_after_all (unheld element) id key before)
      ∙ ap (cond (is_held elements) false) (one_unheld element before)
      ∙ cond_or false (is_that_holder element) (is_held elements) before

  exchanged_ids : (gone come : List ElementId) (before : Bool) → holds_after_all (exchanges gone come) id key before ≡ cond (is_held come) true (cond (is_held gone) false before)
  exchanged_ids gone come before =
      fold-append (λ is change. holds_after change id key is) before (flat_map unheld gone) (flat_map held come)
      ∙ all_held come (holds_after_all (flat_map unheld gone) id key before)
      ∙ ap (cond (is_held come) true) (all_unheld gone before)

  -- The elements of trees.

  abbrev holds : Option Node → Bool
  holds label = option_map_or (has_id id) label false

  one_element : (n : Keyed Node) → is_held (element_of n) ≡ (has_id id n.label && nat_eq n.key key)
  one_element n = by n.label
    where
      or_none : (b : Bool) → (b || false) ≡ b
      or_none true = refl
      or_none false = refl

      by : (label : Node) → is_held (element_of (keyed n.key label)) ≡ (has_id id label && nat_eq n.key key)
      by (Element name attrs) = or_none (has_id id (Element name attrs) && nat_eq n.key key)
      by (Text characters) = refl

  and_true : (a : Bool) → ((a && true) || false) ≡ a
  and_true true = refl
  and_true false = refl

  and_false : (a m : Bool) → ((a && false) || m) ≡ m
  and_false true m = refl
  and_false false m = refl

  all_elements : (ns : List (Keyed Node)) → often key ns ≤ 1 → is_held (flat_map element_of ns) ≡ holds (said ns key)
  all_elements [] few = refl
  all_elements (n ∷ ns) few =
      list_any-append is_that_holder (element_of n) (flat_map element_of ns)
      ∙ ap₂ (λ a b. a || b) (one_element n) (all_elements ns (omega (arith, few, often-cons key n ns)))
      ∙ elim (cases_Bool (nat_eq n.key key)) [
        | inl e ↦
            let none : said ns key ≡ None = elim (silent ns key) [
              | inl none ↦ none
              | inr some ↦ absurd (omega (arith, few, some, often-cons key n ns, ap (λ b. cond {A = ℕ} b 1 0) e))
            ] in
            rw (e, none) (and_true (has_id id n.label))
        | inr e ↦ rw e (and_false (has_id id n.label) (holds (said ns key)))
      ]

  held_there : (trees : Forest (Keyed Node)) → HasDistinctKeys trees → is_held (elements_in trees) ≡ holds_id trees id key
  held_there trees d =
      all_elements (labels trees) (omega (arith, d key, times-often key trees)) ∙ ap holds (sym (label-said trees key))

  -- holders go with what goes, and come with what comes
  both_sides : (leaves comes stays : Option Node) → (leaves ≡ None) ⊎ (stays ≡ None) → (comes ≡ None) ⊎ (stays ≡ None) → cond (holds comes) true (cond (holds leaves) false (holds (option_or leaves stays))) ≡ holds (option_or comes stays)
  both_sides leaves (Some c) stays out (inl e) = absurd (none-some c (sym e))
  both_sides None (Some c) stays out (inr e) = rw e (to_test (has_id id c))
    where
      to_test : (b : Bool) → cond b true false ≡ b
      to_test true = refl
      to_test false = refl
  both_sides (Some g) (Some c) stays out (inr e) = to_test (has_id id c) (has_id id g)
    where
      to_test : (b a : Bool) → cond b true (cond a false a) ≡ b
      to_test true a = refl
      to_test false true = refl
      to_test false false = refl
  both_sides None None stays out into = refl
  both_sides (Some g) None stays (inl e) into = absurd (none-some g (sym e))
  both_sides (Some g) None stays (inr e) into = rw e (none (has_id id g))
    where
      none : (a : Bool) → cond a false a ≡ false
      none true = refl
      none false = refl

  pub id_exchanged : (old new gone come : Forest (Keyed Node)) → AreExchanged old new gone come → holds_after_all (exchanges (elements_in gone) (elements_in come)) id key (holds_id old id key) ≡ holds_id new id key
  id_exchanged old new gone come h =
      exchanged_ids (elements_in gone) (elements_in come) (holds_id old id key)
      ∙ ap₂ (λ (i o : Bool). cond i true (cond o false (holds_id old id key))) (held_there come h.come_once) (held_there gone h.gone_once)
      ∙ ap (λ o. cond (holds (label_of come key)) true (cond (holds (label_of gone key)) false (holds o))) (h.was key)
      ∙ both_sides (label_of gone key) (label_of come key) (h.stays_as key) (h.gone_apart key) (h.come_apart key)
      ∙ ap holds (sym (h.is key))
