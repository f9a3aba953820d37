-- A selector of a pseudo-element of every element selects it at each element of a document.
use Rattle.std.proofs.Common.{◌≡◌, ◌==◌, ◌||◌, ◌&&◌, ℕ, Bool, true, false, List, [], ◌∷◌, map, reverse, Option, Some, None, refl, sym, subst, ◌∙◌, inl, inr}
use Rattle.std.proofs.lemmas.Bool.{and_parts, cases_Bool}
use Rattle.std.specs.Prelude.{is_some}
use Rattle.std.specs.List.{list_all}
use Rattle.std.specs.Option.{option_map_or, option_or}
use Rattle.forest.specs.Forest.{Forest, Empty, Tree}
use Rattle.forest.specs.Keys.{Keyed, without_keys}
use Rattle.plain_types.specs.Tree.{AreSound}
use Rattle.plain_types.specs.declared.node.Node.{Node}
use Rattle.plain_types.specs.declared.node.Node.TheVariants as node
use Rattle.plain_types.specs.declared.selector.Compound.{Compound, roll-Compound, map-Compound}
use Rattle.plain_types.specs.declared.selector.Selector.{Selector}
use Rattle.plain_types.specs.declared.selector.Simple.{Simple, roll-Simple, map-Simple}
use Rattle.plain_types.specs.declared.selector.Simple.TheFolds.{fold-Simple, ind-Compound, fold-roll-Simple, fold-roll-Compound}
use Rattle.plain_types.specs.declared.selector.Simple.TheOpen.{Simple-F, Compound-F}
use Rattle.plain_types.specs.declared.selector_parts.Join.{Join}
use Rattle.plain_types.specs.declared.selector_parts.PseudoElement.{PseudoElement}
use Rattle.selector_match.specs.Elements.{Element, Level, Standing, element_with, level_of, standing_in, standing_of}
use Rattle.selector_match.specs.Matching.{all_are, compound_matches, matches_complex, matches_compound, matches_from, matches_simple, simple_matches}
use Rattle.mini_cascade.specs.Declarations.{is_same, selects}
use Rattle.generated_texts.proofs.EntryKeys.{has_element}
use Rattle.silent_sheets.specs.Silence.{are_universal, is_universal, selects_each, takes_each, takes_each_alone}

-- Compound selectors.

module _ (standing : Standing) where
  abbrev SimpleTakes : Simple → Type 0
  SimpleTakes simple = fold-Simple Bool Bool is_universal are_universal simple ≡ true → matches_simple standing simple ≡ true

  abbrev CompoundTakes : Compound → Type 0
  CompoundTakes compound = takes_each compound ≡ true → matches_compound standing compound ≡ true

  -- a part with a proof beside it
  abbrev KnownSimple : Type 0
  KnownSimple = (simple : Simple) × SimpleTakes simple

  abbrev KnownCompound : Type 0
  KnownCompound = (compound : Compound) × CompoundTakes compound

  abbrev opened : Simple-F KnownSimple KnownCompound → Simple-F Simple Compound
  opened part = map-Simple KnownSimple KnownCompound Simple Compound (λ e. e.0) (λ e. e.0) part

  part_takes : (part : Simple-F KnownSimple KnownCompound)
      → is_universal (map-Simple Simple Compound Bool Bool (fold-Simple Bool Bool is_universal are_universal) takes_each (opened part)) ≡ true
      → simple_matches standing (map-Simple Simple Compound Bool Bool (matches_simple standing) (matches_compound standing) (opened part)) ≡ true
  part_takes Simple-F.Any universal = refl
  part_takes (Simple-F.Element name) universal = absurd (cc)
  part_takes (Simple-F.Id name) universal = absurd (cc)
  part_takes (Simple-F.Class name) universal = absurd (cc)
  part_takes Simple-F.Root universal = absurd (cc)
  part_takes Simple-F.Empty universal = absurd (cc)
  part_takes Simple-F.Never universal = absurd (cc)
  part_takes (Simple-F.Attr name test value fold) universal = absurd (cc)
  part_takes (Simple-F.Only same_type) universal = absurd (cc)
  part_takes (Simple-F.Nth a b from_end same_type) universal = absurd (cc)
  part_takes (Simple-F.Is choices) universal = absurd (cc)
  part_takes (Simple-F.Weightless choices) universal = absurd (cc)
  part_takes (Simple-F.Not choices) universal = absurd (cc)

  simple_takes : (part : Simple-F KnownSimple KnownCompound) → SimpleTakes (roll-Simple (opened part))
  simple_takes part universal =
      fold-roll-Simple Bool Bool (simple_matches standing) compound_matches (opened part)
      ∙ part_takes part (sym (fold-roll-Simple Bool Bool is_universal are_universal (opened part)) ∙ universal)

  simples_take : (simples : List KnownSimple)
      → list_all (λ universal. universal) (map (fold-Simple Bool Bool is_universal are_universal) (map (λ e. e.0) simples)) ≡ true
      → all_are (map (matches_simple standing) (map (λ e. e.0) simples)) ≡ true
  simples_take [] universal = refl
  simples_take (first ∷ rest) universal =
      let parts = and_parts _ _ universal in
      rw (first.1 parts.0) (simples_take rest parts.1)

  abbrev opened_compound : Compound-F KnownSimple KnownCompound → Compound-F Simple Compound
  opened_compound part = map-Compound KnownSimple KnownCompound Simple Compound (λ e. e.0) (λ e. e.0) part

  compound_takes : (part : Compound-F KnownSimple KnownCompound) → CompoundTakes (roll-Compound (opened_compound part))
  compound_takes part universal =
      fold-roll-Compound Bool Bool (simple_matches standing) compound_matches (opened_compound part)
      ∙ simples_take part.simples (sym (fold-roll-Compound Bool Bool is_universal are_universal (opened_compound part)) ∙ universal)

  each_taken : (compound : Compound) → CompoundTakes compound
  each_taken compound =
      ind-Compound SimpleTakes CompoundTakes
      (λ x part is. subst (λ z. SimpleTakes (roll-Simple z)) is (simple_takes part))
      (λ x part is. subst (λ z. CompoundTakes (roll-Compound z)) is (compound_takes part))
      compound

  alone_taken : (compounds : List Compound) (joins : List Join) → takes_each_alone compounds joins ≡ true → matches_from (reverse compounds) (reverse joins) standing ≡ true
  alone_taken [] joins alone = absurd (cc)
  alone_taken (compound ∷ []) [] alone = rw (each_taken compound alone) refl
  alone_taken (compound ∷ []) (join ∷ joins) alone = absurd (cc)
  alone_taken (compound ∷ other ∷ compounds) joins alone = absurd (cc)

-- Elements.

some_or : {X : Type 0} (one other : Option X) → is_some one ≡ true → is_some (option_or one other) ≡ true
some_or None other some = absurd (cc)
some_or (Some x) other some = refl

or_some : {X : Type 0} (one other : Option X) → is_some other ≡ true → is_some (option_or one other) ≡ true
or_some None other some = some
or_some (Some x) other some = refl

-- in these trees, whatever stands above and before them
abbrev AllStand : Forest (Keyed Node) → Type 0
AllStand trees =
    (above : List Level) (earlier : List Element) (key : ℕ) → AreSound (without_keys trees) → has_element key trees ≡ true
    → is_some (standing_in above earlier trees key) ≡ true

node_stands : (own : ℕ) (label : Node) (children after : Forest (Keyed Node)) → AllStand children → AllStand after → AllStand (Tree (record { key = own; label = label }) children after)
node_stands own (node.Element name attrs) children after below beside above earlier key sound has =
    let here : Element = element_with name attrs (without_keys children) in
    let level : Level = level_of earlier here after in
    elim (cases_Bool (own == key)) [
      | inl e ↦ rw e refl
      | inr e ↦
          let rest : (has_element key children || has_element key after) ≡ true = rw e at has in
          rw e (elim (cases_Bool (has_element key children)) [
            | inl inside ↦ some_or (standing_in (level ∷ above) [] children key) (standing_in above (here ∷ earlier) after key) (below (level ∷ above) [] key sound.1 inside)
            | inr none ↦
                let behind : (false || has_element key after) ≡ true = rw none at rest in
                or_some (standing_in (level ∷ above) [] children key) (standing_in above (here ∷ earlier) after key) (beside above (here ∷ earlier) key sound.2 behind)
          ])
    ]
node_stands own (node.Text characters) Empty after below beside above earlier key sound has = beside above earlier key sound.1 (in_after (own == key) has)
  where
    in_after : (same : Bool) → (false || ((same && false) || has_element key after)) ≡ true → has_element key after ≡ true
    in_after true h = h
    in_after false h = h
node_stands own (node.Text characters) (Tree first children others) after below beside above earlier key sound has = absurd (let none = sound.0 in cc)

all_stand : (trees : Forest (Keyed Node)) → AllStand trees
all_stand Empty = λ above earlier key sound has. absurd (cc)
all_stand (Tree first children after) = node_stands first.key first.label children after (all_stand children) (all_stand after)

pub each_selected : (tree : Forest (Keyed Node)) (key : ℕ) (pseudo : PseudoElement) (selector : Selector) → AreSound (without_keys tree) → has_element key tree ≡ true
    → selects_each pseudo selector ≡ true → selects tree key pseudo selector ≡ true
each_selected tree key pseudo selector sound has each =
    let parts = and_parts (is_same selector.pseudo pseudo) (takes_each_alone selector.compounds selector.joins) each in
    rw parts.0 (matched (standing_of tree key) (all_stand tree [] [] key sound has))
  where
    matched : (standing : Option Standing) → is_some standing ≡ true → option_map_or (matches_complex selector) standing false ≡ true
    matched None some = absurd (cc)
    matched (Some standing) some =
        alone_taken standing selector.compounds selector.joins (and_parts (is_same selector.pseudo pseudo) (takes_each_alone selector.compounds selector.joins) each).1
