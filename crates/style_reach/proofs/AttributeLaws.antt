-- An attribute that does not say in which language a style element's sheet is written leaves the sheet's text.
use Rattle.std.proofs.Common.{◌≡◌, ◌&&◌, Bool, true, false, cond, ℕ, List, [], ◌∷◌, Some, option_map, refl, ap, ◌∙◌}
use Rattle.std.specs.Prelude.{codes, find, not}
use Rattle.std.specs.Str.{bytes_eq}
use Rattle.std.proofs.lemmas.Slice.Eq.{bytes_eq-Decides}
use Rattle.forest.specs.Forest.{Forest}
use Rattle.forest.specs.Keys.{Keyed}
use Rattle.plain_types.specs.Attributes.{is_named, value_of}
use Rattle.plain_types.specs.declared.attr.Attr.{Attr}
use Rattle.plain_types.specs.declared.node.Node.{Node}
use Rattle.plain_types.specs.declared.node.Node.TheVariants.{Element}
use Rattle.node_arena.specs.Edits.{with_attr, without_attr}
use Rattle.generated_texts.specs.StyleElements.{style_text}
use Rattle.style_reach.specs.TouchedSheets.{is_style}

module _ (name type : List ℕ) (other : bytes_eq name type ≡ false) where
  -- an attribute of the one name is not of the other
  named-other : (a : Attr) → is_named name a ≡ true → is_named type a ≡ false
  named-other a is = let same : a.name ≡ name = (bytes_eq-Decides a.name name).0 is in ap (λ n. bytes_eq n type) same ∙ other

  find-with : (value : List ℕ) (attrs : List Attr) → find (is_named type) (with_attr name value attrs) ≡ find (is_named type) attrs
  find-with value [] = rw other refl
  find-with value (a ∷ attrs) =
      let new : Attr = record { name = name; value = value } in
      elim (is_named name a) as (λ b. is_named name a ≡ b → find (is_named type) (cond b (new ∷ attrs) (a ∷ with_attr name value attrs)) ≡ find (is_named type) (a ∷ attrs)) [
        | true ↦ λ is. rw (other, named-other a is) refl
        | false ↦ λ is. ap (λ o. cond (is_named type a) (Some a) o) (find-with value attrs)
      ] refl

  find-without : (attrs : List Attr) → find (is_named type) (without_attr name attrs) ≡ find (is_named type) attrs
  find-without [] = refl
  find-without (a ∷ attrs) =
      elim (is_named name a) as (λ b. is_named name a ≡ b → find (is_named type) (cond (not b) (a ∷ without_attr name attrs) (without_attr name attrs)) ≡ find (is_named type) (a ∷ attrs)) [
        | true ↦ λ is. rw (named-other a is) (find-without attrs)
        | false ↦ λ is. ap (λ o. cond (is_named type a) (Some a) o) (find-without attrs)
      ] refl

-- the text of an element's sheet, where one attribute is another
same-text : (tag : List ℕ) (attrs attrs' : List Attr) (c : Forest (Keyed Node)) → (bytes_eq tag (codes "style") ≡ true → value_of (codes "type") attrs' ≡ value_of (codes "type") attrs)
    → style_text (Element tag attrs') c ≡ style_text (Element tag attrs) c
same-text tag attrs attrs' c same =
    elim (bytes_eq tag (codes "style")) as (λ b. bytes_eq tag (codes "style") ≡ b → style_text (Element tag attrs') c ≡ style_text (Element tag attrs) c) [
      | true ↦ λ is. rw (same is) refl
      | false ↦ λ is. rw is refl
    ] refl

not-second : (a b : Bool) → (a && b) ≡ false → a ≡ true → b ≡ false
not-second true b h is = h
not-second false b h is = absurd (cc)

pub set-text : (tag name value : List ℕ) (attrs : List Attr) (c : Forest (Keyed Node)) → (is_style (Element tag attrs) && bytes_eq name (codes "type")) ≡ false
    → style_text (Element tag (with_attr name value attrs)) c ≡ style_text (Element tag attrs) c
set-text tag name value attrs c free =
    same-text tag attrs (with_attr name value attrs) c (λ is. ap (option_map (λ (a : Attr). a.value)) (find-with name (codes "type") (not-second _ _ free is) value attrs))

pub unset-text : (tag name : List ℕ) (attrs : List Attr) (c : Forest (Keyed Node)) → (is_style (Element tag attrs) && bytes_eq name (codes "type")) ≡ false
    → style_text (Element tag (without_attr name attrs)) c ≡ style_text (Element tag attrs) c
unset-text tag name attrs c free =
    same-text tag attrs (without_attr name attrs) c (λ is. ap (option_map (λ (a : Attr). a.value)) (find-without name (codes "type") (not-second _ _ free is) attrs))
