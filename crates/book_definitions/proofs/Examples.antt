-- The example of the crate's page, and urls of each kind, computed.
use Rattle.std.proofs.Common.{◌≡◌, ℕ, false, List, [], ◌∷◌, Option, Some, None, codes, length, refl}
use Rattle.std.specs.Prelude.{pos}
use Rattle.forest.specs.Forest.{Forest, Empty, Tree}
use Rattle.forest.specs.Keys.{Keyed}
use Rattle.forest.specs.Spots.{keyed}
use Rattle.plain_types.specs.declared.attr.Attr.{Attr}
use Rattle.plain_types.specs.declared.content.Part.TheVariants.{Content}
use Rattle.plain_types.specs.declared.box_kind.BoxKind.TheVariants as kind
use Rattle.plain_types.specs.declared.style_ref.StyleRef.TheVariants.{Name}
use Rattle.plain_types.specs.declared.node.Node.{Node}
use Rattle.plain_types.specs.declared.node.Node.TheVariants.{Element, Text}
use Rattle.content_eval.specs.Targets.{Known, flat_text}
use Rattle.content_eval.specs.declared.generated.Piece.{Piece}
use Rattle.content_eval.specs.declared.generated.Piece.TheVariants as piece
use Rattle.book_definitions.specs.Aims.{target}
use Rattle.book_definitions.specs.Chapters.{Chapter}
use Rattle.book_definitions.specs.Texts.{full_in_volume, text_in_volume}

abbrev attribute : List ℕ → List ℕ → List Attr
attribute name value = record { name = name; value = value } ∷ []

abbrev link : ℕ → List ℕ → Forest (Keyed Node) → Forest (Keyed Node)
link key url after = Tree (keyed key (Element (codes "a") (attribute (codes "href") url))) Empty after

-- <p id="x">t<a href="a#x"/><a href="z#x"/></p>
abbrev chapter : Chapter
chapter = record {
  name = codes "a";
  document =
      Tree (keyed 0 (Element (codes "p") (attribute (codes "id") (codes "x"))))
      (Tree (keyed 1 (Text (codes "t"))) Empty (link 2 (codes "a#x") (link 3 (codes "z#x") Empty)))
      Empty;
  sheet = codes "a::after{content:target-text(attr(href))}";
}

abbrev aims_at : List ℕ → Option (Chapter × ℕ)
aims_at url = target (chapter ∷ []) chapter url

its-own-name : aims_at (codes "a#x") ≡ Some (chapter, 0)
its-own-name = refl

no-name : aims_at (codes "#x") ≡ Some (chapter, 0)
no-name = refl

another-name : aims_at (codes "z#x") ≡ None
another-name = refl

another-id : aims_at (codes "a#y") ≡ None
another-id = refl

-- the name ends at the first `#`
two-signs : aims_at (codes "a##x") ≡ None
two-signs = refl

no-sign : aims_at (codes "a") ≡ None
no-sign = refl

abbrev shows : List ℕ → List ℕ
shows url = full_in_volume (chapter ∷ []) chapter (piece.TargetText url Content ∷ [])

the-text-of-its-target : shows (codes "a#x") ≡ codes "t"
the-text-of-its-target = refl

no-text-without-a-target : shows (codes "z#x") ≡ []
no-text-without-a-target = refl

-- A counter of an element of another chapter, where the `s` of each chapter's elements is as many as its name has characters.

abbrev other : Chapter
other = record { name = codes "bcd"; document = Empty; sheet = [] }

abbrev counted : Chapter → Known
counted of = record {
  counters = λ id. Some (record { name = codes "s"; creator = record { key = 1; kind = kind.Element }; reversed = false; value = pos (length of.name) } ∷ []);
  characters = λ id. [];
  flat = λ id part. None;
}

abbrev counter_of : List ℕ → Piece
counter_of url = piece.TargetCounter url (codes "s") (Name (codes "decimal"))

abbrev counter_at : List ℕ → List ℕ
counter_at url = text_in_volume (chapter ∷ other ∷ []) counted (flat_text []) chapter (counter_of url)

-- it is the text that the id alone has there
counted-in-the-other : counter_at (codes "bcd#t") ≡ flat_text [] (counted other) (counter_of (codes "#t") ∷ [])
counted-in-the-other = refl

counted-in-its-own : counter_at (codes "#t") ≡ flat_text [] (counted chapter) (counter_of (codes "#t") ∷ [])
counted-in-its-own = refl

counted-nowhere : counter_at (codes "bc#t") ≡ []
counted-nowhere = refl
