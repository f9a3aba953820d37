-- The bytes of the lines of sources.
use Rattle.std.proofs.Common.{◌≡◌, ℕ, Bool, true, false, List, [], ◌∷◌, ◌++◌, refl, sym, ap, ◌∙◌, encode_utf8_all}
use Rattle.std.proofs.lemmas.Str.{encodes-append, encodes-IsAscii}
use Rattle.std.proofs.Math.Utf8.{encode}
use Rattle.std.specs.Fmt.{decimal}
use Rattle.std.specs.List.{flat_map}
use Rattle.std.specs.Str.{IsAscii}
use Rattle.dump_text.proofs.EncodedLemmas.{encodes-flat_map}
use Rattle.style_sources.specs.declared.place.DeclarationPlace.{DeclarationPlace}
use Rattle.style_sources.specs.declared.place.DeclarationPlace.TheVariants.{Rule}
use Rattle.style_sources.specs.declared.place.SheetOrigin.{SheetOrigin}
use Rattle.style_sources.specs.declared.place.SheetOrigin.TheVariants.{UserAgent, Author}
use Rattle.style_sources.specs.declared.property.Property.{Property}
use Rattle.style_sources.specs.declared.property.Property.TheVariants.{Display, Content, CounterReset, CounterIncrement, CounterSet, ListStyleType, Quotes}
use Rattle.style_sources.specs.declared.value_source.ValueSource.{ValueSource}
use Rattle.style_sources.specs.declared.value_source.ValueSource.TheVariants.{Declared}
use Rattle.why_report.specs.Accounts.{importance_text, origin_name, place_text, properties, property_name, source_line, source_lines, source_text}

origin_bytes : (origin : SheetOrigin) (rest : List ℕ) → origin_name origin ++ 32 ∷ encode_utf8_all rest ≡ encode_utf8_all (origin_name origin ++ 32 ∷ rest)
unfolding encode
origin_bytes UserAgent rest = refl
origin_bytes Author rest = refl

pub rule_bytes : (origin : SheetOrigin) (number : ℕ) (digits : List ℕ) → digits ≡ decimal number → IsAscii digits
    → origin_name origin ++ 32 ∷ digits ≡ encode_utf8_all (place_text (Rule origin number))
rule_bytes origin number digits is ascii =
    ap (λ bs. origin_name origin ++ 32 ∷ bs) (sym (encodes-IsAscii digits ascii) ∙ ap encode_utf8_all is) ∙ origin_bytes origin (decimal number)

importance_bytes : (important : Bool) → importance_text important ≡ encode_utf8_all (importance_text important)
unfolding encode
importance_bytes true = refl
importance_bytes false = refl

pub declared_bytes : (place : DeclarationPlace) (important : Bool) → encode_utf8_all (place_text place) ++ importance_text important ≡ encode_utf8_all (source_text (Declared place important))
declared_bytes place important =
    ap (λ bs. encode_utf8_all (place_text place) ++ bs) (importance_bytes important) ∙ sym (encodes-append (place_text place) (importance_text important))

name_bytes : (property : Property) (rest : List ℕ) → property_name property ++ 32 ∷ encode_utf8_all rest ≡ encode_utf8_all (property_name property ++ 32 ∷ rest)
unfolding encode
name_bytes Display rest = refl
name_bytes Content rest = refl
name_bytes CounterReset rest = refl
name_bytes CounterIncrement rest = refl
name_bytes CounterSet rest = refl
name_bytes ListStyleType rest = refl
name_bytes Quotes rest = refl

end_bytes : (text : List ℕ) → encode_utf8_all text ++ 10 ∷ [] ≡ encode_utf8_all (text ++ 10 ∷ [])
unfolding encode
end_bytes text = sym (encodes-append text (10 ∷ []))

-- the line of a property in its parts
pub line_bytes : (property : Property) (source : ValueSource)
    → property_name property ++ 32 ∷ (encode_utf8_all (source_text source) ++ 10 ∷ []) ≡ encode_utf8_all (source_line property source)
line_bytes property source = ap (λ bs. property_name property ++ 32 ∷ bs) (end_bytes (source_text source)) ∙ name_bytes property (source_text source ++ 10 ∷ [])

-- all lines, one after the other
pub lines_bytes : (source_of : Property → ValueSource) (all : List Property) → all ≡ properties
    → flat_map (λ property. encode_utf8_all (source_line property (source_of property))) all ≡ encode_utf8_all (source_lines source_of)
unfolding source_lines
lines_bytes source_of all is =
    encodes-flat_map (λ property. source_line property (source_of property)) all ∙ ap (λ some. encode_utf8_all (flat_map (λ property. source_line property (source_of property)) some)) is
