-- Edits that touch no style element leave the texts of style elements as they were.
use Rattle.std.proofs.Common.{◌≡◌, ◌<◌, ◌||◌, ℕ, zero, suc, Bool, true, false, cond, List, [], ◌∷◌, ◌++◌, refl, sym, ap, ◌∙◌, eq-eqb}
use Rattle.std.specs.Prelude.{unwrap_or}
use Rattle.std.specs.List.{list_any}
use Rattle.std.proofs.lemmas.List.Concat.{flat_map-append}
use Rattle.std.proofs.lemmas.List.Folds.{list_any-append}
use Rattle.forest.specs.Forest.{Forest, Empty, Tree, labels}
use Rattle.forest.specs.Keys.{Keyed, HasDistinctKeys, times, without_keys}
use Rattle.forest.specs.Paths.{trees_from}
use Rattle.forest.specs.Spots.{keyed}
use Rattle.forest.specs.Changes.{splice}
use Rattle.forest.proofs.SpotLaws.{distinct-parts}
use Rattle.plain_types.specs.declared.node.Node.{Node}
use Rattle.plain_types.specs.declared.node.Node.TheVariants.{Element, Text}
use Rattle.node_arena.specs.AtPaths.{from_position, with_tree, without_first}
use Rattle.node_arena.specs.Changes.{alone}
use Rattle.node_arena.specs.Nodes.{node_characters}
use Rattle.generated_texts.specs.References.{characters_in}
use Rattle.generated_texts.specs.StyleElements.{has_sheet, style_text, style_texts}
use Rattle.style_reach.specs.Ancestors.{ancestors_in}
use Rattle.style_reach.specs.TouchedSheets.{have_style, is_style}
use Rattle.style_reach.proofs.AncestorLaws.{ancestors-below, ancestors-beside, end-found}
use Rattle.style_reach.proofs.Replaced.{IsReplaced, below, beside, here, replaced-counted}
use Rattle.style_reach.proofs.TestLaws.{or-false-first, or-false-second}

-- what is no style element has no sheet
no-text : (l : Node) (c : Forest (Keyed Node)) → is_style l ≡ false → style_text l c ≡ []
no-text (Element name attrs) c free = rw free refl
no-text (Text characters) c free = refl

-- trees without a style element have no texts
none-in : (f : Forest (Keyed Node)) → have_style (without_keys f) ≡ false → style_texts f ≡ []
none-in Empty free = refl
none-in (Tree n c r) free =
    let tail = or-false-second (is_style n.label) _ free in
    let parts : (have_style (without_keys c) || have_style (without_keys r)) ≡ false = sym (list_any-append is_style (labels (without_keys c)) (labels (without_keys r))) ∙ tail in
    rw (no-text n.label c (or-false-first _ _ free), none-in c (or-false-first _ _ parts), none-in r (or-false-second (have_style (without_keys c)) _ parts)) refl

first-none : (m : Keyed Node) (t : Forest (Keyed Node)) → have_style (without_keys (Tree m t Empty)) ≡ false → (style_text m.label t ≡ []) × (style_texts t ≡ [])
first-none m t free =
    let tail = or-false-second (is_style m.label) _ free in
    let parts : (have_style (without_keys t) || false) ≡ false = sym (list_any-append is_style (labels (without_keys t)) []) ∙ tail in
    (no-text m.label t (or-false-first _ _ free), none-in t (or-false-first _ _ parts))

-- Such a tree comes, or goes.

splice-texts : (i : ℕ) (m : Keyed Node) (t c : Forest (Keyed Node)) → (style_text m.label t ≡ []) × (style_texts t ≡ []) → style_texts (splice i m t c) ≡ style_texts c
splice-texts zero m t c free = rw (free.0, free.1) refl
splice-texts (suc i) m t Empty free = rw (free.0, free.1) refl
splice-texts (suc i) m t (Tree n d r) free = ap (λ xs. style_text n.label d ++ (style_texts d ++ xs)) (splice-texts i m t r free)

pub coming-texts : (i : ℕ) (trees c : Forest (Keyed Node)) → have_style (without_keys (alone trees)) ≡ false → style_texts (with_tree i trees c) ≡ style_texts c
coming-texts i Empty c free = refl
coming-texts i (Tree m t r) c free = splice-texts i m t c (first-none m t free)

pub going-texts : (i : ℕ) (c : Forest (Keyed Node)) → have_style (without_keys (alone (trees_from i c))) ≡ false → style_texts (from_position without_first i c) ≡ style_texts c
going-texts zero Empty free = refl
going-texts zero (Tree n d r) free = let none = first-none n d free in rw (none.0, none.1) refl
going-texts (suc i) Empty free = refl
going-texts (suc i) (Tree n d r) free = ap (λ xs. style_text n.label d ++ (style_texts d ++ xs)) (going-texts i r free)

-- Under a node that stands in no style element stand others, with the same texts.
module _ (q : ℕ) (l : Node) (before now : Forest (Keyed Node)) (same : style_texts now ≡ style_texts before) where
  abbrev style_above : List (Keyed Node) → Bool
  style_above nodes = list_any (λ (n : Keyed Node). is_style n.label) nodes

  pub children-texts : (f g : Forest (Keyed Node)) → IsReplaced q l l before now f g → (above : List (Keyed Node)) → HasDistinctKeys f
      → list_any (λ (n : Keyed Node). is_style n.label) (ancestors_in above f q) ≡ false → style_texts g ≡ style_texts f
  children-texts _ _ (here r) above d free =
      let first : style_above (keyed q l ∷ above) ≡ false = rw (eq-eqb q q refl) at free in
      let plain : is_style l ≡ false = or-false-first _ _ first in
      rw (no-text l now plain, no-text l before plain) (ap (λ xs. xs ++ style_texts r) same)
  children-texts _ _ (below n c c' r deeper) above d free =
      let there : 0 < times q c = replaced-counted q l l before now c c' deeper in
      let inner : style_above (ancestors_in (n ∷ above) c q) ≡ false = ap style_above (sym (ancestors-below above n c r q d there)) ∙ free in
      let plain : is_style n.label ≡ false = not-style n c above there inner in
      rw (no-text n.label c' plain, no-text n.label c plain) (ap (λ xs. xs ++ style_texts r) (children-texts c c' deeper (n ∷ above) (distinct-parts n c r d).0 inner))
    where
      not-style : (n : Keyed Node) (c : Forest (Keyed Node)) (above : List (Keyed Node)) → 0 < times q c → style_above (ancestors_in (n ∷ above) c q) ≡ false → is_style n.label ≡ false
      not-style n c above some free =
          elim (is_style n.label) as (λ b. is_style n.label ≡ b → b ≡ false) [
            | true ↦ λ is. absurd (let found : style_above (ancestors_in (n ∷ above) c q) ≡ true = end-found (λ (m : Keyed Node). is_style m.label) c (n ∷ above) q some (ap (λ b. b || style_above above) is) in cc)
            | false ↦ λ is. refl
          ] refl
  children-texts _ _ (beside n c r r' later) above d free =
      let there : 0 < times q r = replaced-counted q l l before now r r' later in
      let inner : style_above (ancestors_in above r q) ≡ false = ap style_above (sym (ancestors-beside above n c r q d there)) ∙ free in
      ap (λ xs. style_text n.label c ++ (style_texts c ++ xs)) (children-texts r r' later above (distinct-parts n c r d).1 inner)

-- An element gets other attributes: no text changes, and its own is one where it was.

own-characters : (n : Keyed Node) (c r : Forest (Keyed Node)) → characters_in (Tree n c r) ≡ unwrap_or (node_characters n.label) [] ++ (characters_in c ++ characters_in r)
own-characters n c r = ap (λ cs. unwrap_or (node_characters n.label) [] ++ cs) (flat_map-append (λ (m : Keyed Node). unwrap_or (node_characters m.label) []) (labels c) (labels r))

module _ (q : ℕ) (old new : Node) (children : Forest (Keyed Node)) (alike : node_characters new ≡ node_characters old) (same : style_text new children ≡ style_text old children) where
  label-characters : (f g : Forest (Keyed Node)) → IsReplaced q old new children children f g → characters_in g ≡ characters_in f
  label-characters _ _ (here r) =
      own-characters (keyed q new) children r ∙ ap (λ o. unwrap_or o [] ++ (characters_in children ++ characters_in r)) alike ∙ sym (own-characters (keyed q old) children r)
  label-characters _ _ (below n c c' r deeper) =
      own-characters n c' r ∙ ap (λ cs. unwrap_or (node_characters n.label) [] ++ (cs ++ characters_in r)) (label-characters c c' deeper) ∙ sym (own-characters n c r)
  label-characters _ _ (beside n c r r' later) =
      own-characters n c r' ∙ ap (λ cs. unwrap_or (node_characters n.label) [] ++ (characters_in c ++ cs)) (label-characters r r' later) ∙ sym (own-characters n c r)

  pub label-texts : (f g : Forest (Keyed Node)) → IsReplaced q old new children children f g → style_texts g ≡ style_texts f
  label-texts _ _ (here r) = ap (λ xs. xs ++ (style_texts children ++ style_texts r)) same
  label-texts _ _ (below n c c' r deeper) =
      ap (λ cs. cond (has_sheet n.label) (cs ∷ []) [] ++ (style_texts c' ++ style_texts r)) (label-characters c c' deeper)
      ∙ ap (λ xs. style_text n.label c ++ (xs ++ style_texts r)) (label-texts c c' deeper)
  label-texts _ _ (beside n c r r' later) = ap (λ xs. style_text n.label c ++ (style_texts c ++ xs)) (label-texts r r' later)
