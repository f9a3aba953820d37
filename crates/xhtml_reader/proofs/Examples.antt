-- Three texts that are no documents, and where they fail.
use Rattle.std.proofs.Common.{◌≡◌, ℕ, List, [], ◌∷◌, ◌++◌, Some, None, refl, sym, ap, ◌∙◌, inl, inr, codes, append-nil, arith}
use Rattle.forest.specs.Forest.{Empty}
use Rattle.xml_definitions.specs.Faults.{FailsAsDocument}
use Rattle.xml_definitions.specs.Items.{start_tag, end_tag}
use Rattle.xml_definitions.specs.Spelling.{IsName, Spells}
use Rattle.xhtml_items.specs.Machinery.Items.{item_at, markup_at, tag_at, end_tag_at, attributes_at, attribute_at, quoted_at, value_part_at, reference_at, numeric_at, number_at}
use Rattle.xhtml_items.specs.Reading.{name_at}
use Rattle.reading.specs.Reading.{run_at, run_with, span}
use Rattle.xhtml_items.proofs.ItemLaws.{item_begins, none_begins}
use Rattle.xhtml_reader.specs.declared.kind.Kind.TheVariants.{Document}
use Rattle.xhtml_reader.specs.Machinery.States.{State, at_start, inside, frame}
use Rattle.xhtml_reader.proofs.Holding.{opened}
use Rattle.xml_definitions.specs.Documents.{no_content, without_doctype}
use Rattle.xhtml_reader.proofs.Places.{Reached, fails_there, start_reached, stopped}

-- a start tag without attributes
start_tag_spelled : (name : List ℕ) → IsName name → Spells (60 ∷ (name ++ 62 ∷ [])) (start_tag name [])
start_tag_spelled name named = record {
  written = [];
  blanks = [];
  named = named;
  attributes = refl;
  distinct = λ i j d before within. absurd (omega arith);
  blank = refl;
  parts = ap (λ (u : List ℕ). 60 ∷ (u ++ 62 ∷ [])) (sym (append-nil (name ++ []) ∙ append-nil name));
}

-- such a tag alone
abbrev in_element : List ℕ → State
in_element name = inside (frame name [] Empty) [] Empty

after_start_tag : (name : List ℕ) → IsName name → Reached Document (60 ∷ (name ++ 62 ∷ [])) (in_element name)
after_start_tag name named = record {
  items = start_tag name [] ∷ [];
  spelled = (60 ∷ (name ++ 62 ∷ []), [], start_tag_spelled name named, refl, sym (append-nil (60 ∷ (name ++ 62 ∷ []))));
  ran = refl;
  holds = opened [] (without_doctype [] refl) name [] no_content;
}

-- an end tag of another name
no_other_end : item_at (codes "</b>") ≡ Some (end_tag (codes "b"), [])
unfolding item_at markup_at end_tag_at name_at span
no_other_end = refl

pub other_end_tag : FailsAsDocument (codes "<a></b>") 1 4
other_end_tag =
    fails_there Document _ 3 (stopped Document (codes "<a></b>") (codes "<a>") (codes "</b>") (in_element (codes "a")) 3 (after_start_tag (codes "a") refl) refl (λ none. cc) (inr (end_tag (codes "b"), [], item_begins (codes "</b>") (end_tag (codes "b")) [] no_other_end, refl)) refl)

-- an attribute that comes twice
no_tag : item_at (codes "<p a=\"\" a=\"\">") ≡ None
unfolding item_at markup_at tag_at attributes_at attribute_at quoted_at value_part_at name_at span run_at run_with
no_tag = refl

pub attribute_twice : FailsAsDocument (codes "<p a=\"\" a=\"\">") 1 1
attribute_twice =
    fails_there Document _ 0 (stopped Document (codes "<p a=\"\" a=\"\">") [] (codes "<p a=\"\" a=\"\">") at_start 0 (start_reached Document) refl (λ none. cc) (inl (none_begins (codes "<p a=\"\" a=\"\">") no_tag)) refl)

-- a reference to no character
no_reference : item_at (codes "&#xD800;") ≡ None
unfolding item_at reference_at numeric_at number_at span
no_reference = refl

pub no_character : FailsAsDocument (codes "<p>&#xD800;") 1 4
no_character =
    fails_there Document _ 3 (stopped Document (codes "<p>&#xD800;") (codes "<p>") (codes "&#xD800;") (in_element (codes "p")) 3 (after_start_tag (codes "p") refl) refl (λ none. cc) (inl (none_begins (codes "&#xD800;") no_reference)) refl)
