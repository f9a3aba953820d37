-- Style elements, as the look-ups of an arena tell them.
use Rattle.std.proofs.Common.{◌≡◌, ◌∙◌, ℕ, Bool, true, false, ◌&&◌, ◌||◌, ◌==◌, List, [], ◌∷◌, length, Option, Some, None, option_map, refl, sym, ap, arith}
use Rattle.std.specs.Borrow.{Bor}
use Rattle.std.specs.Option.{option_and_then, option_eq, option_map_or}
use Rattle.std.specs.Prelude.{codes, encode_utf8_all, option_copied, unwrap_or}
use Rattle.std.specs.Str.{bytes_eq, chars}
use Rattle.std.proofs.lemmas.Bool.Decides.{nat_tests}
use Rattle.std.proofs.lemmas.Option.{none-some, same_Some}
use Rattle.std.proofs.lemmas.Str.{chars-nil}
use Rattle.std.proofs.Math.Utf8.{encode}
use Rattle.css_definitions.specs.Words.{is_word}
use Rattle.plain_types.specs.Attributes.{value_of}
use Rattle.plain_types.specs.declared.node.Node.{Node}
use Rattle.plain_types.specs.declared.node.Node.TheVariants.{Element, Text}
use Rattle.node_arena.specs.Nodes.{node_attrs, node_name}
use Rattle.node_arena.proofs.NodeLaws.{same-test}
use Rattle.generated_texts.specs.StyleElements.{has_sheet, is_css}

style-characters : chars (codes "style") ≡ codes "style"
unfolding chars
style-characters = refl

style-bytes : codes "style" ≡ encode_utf8_all (codes "style")
unfolding encode
style-bytes = refl

pub type-characters : chars (codes "type") ≡ codes "type"
unfolding chars
type-characters = refl

not-none : (x : ℕ) (xs : List ℕ) → (length (x ∷ xs) == 0) ≡ false
not-none x xs = grind (arith, nat_tests)

no-bytes : (bytes characters : List ℕ) → chars bytes ≡ characters → bytes ≡ encode_utf8_all characters → (length bytes == 0) ≡ (length characters == 0)
no-bytes [] characters read written = ap (λ cs. length cs == 0) (sym chars-nil ∙ read)
no-bytes (byte ∷ bytes) [] read written = absurd (cc)
no-bytes (byte ∷ bytes) (c ∷ cs) read written = not-none byte bytes ∙ sym (not-none c cs)

-- whether a `type` that was looked up is that of CSS
pub is_css_by : (kind : Option (List ℕ)) (bytes : List ℕ) (empty word : Bool) → Some (chars bytes) ≡ kind → Some bytes ≡ option_map encode_utf8_all kind
    → empty ≡ (length bytes == 0) → word ≡ is_word (chars bytes) (codes "text/css") → (empty || word) ≡ option_map_or is_css kind true
is_css_by None bytes empty word read written is_empty is_named = absurd (none-some (chars bytes) (sym read))
is_css_by (Some characters) bytes empty word read written is_empty is_named =
    ap (λ b. b || word) (is_empty ∙ no-bytes bytes characters (same_Some _ _ read) (same_Some _ _ written))
    ∙ ap (λ b. (length characters == 0) || b) (is_named ∙ ap (λ cs. is_word cs (codes "text/css")) (same_Some _ _ read))

-- whether a node is named so, by its name that was looked up, and what its `type` says
pub has_sheet_by : (label : Option Node) (name : Option (Bor (List ℕ))) (wanted : Bor (List ℕ)) (named css : Bool)
    → option_map chars (option_copied name) ≡ option_and_then node_name label → option_copied name ≡ option_map encode_utf8_all (option_and_then node_name label)
    → wanted.now ≡ codes "style" → named ≡ option_eq (λ (one other : Bor (List ℕ)). bytes_eq one.now other.now) name (Some wanted)
    → css ≡ option_map_or is_css (value_of (codes "type") (unwrap_or (option_map node_attrs label) [])) true
    → (named && css) ≡ option_map_or has_sheet label false
has_sheet_by None None wanted named css read written is_wanted is_named is_kind = ap (λ b. b && css) is_named
has_sheet_by None (Some name) wanted named css read written is_wanted is_named is_kind = absurd (none-some (chars name.now) (sym read))
has_sheet_by (Some (Text characters)) None wanted named css read written is_wanted is_named is_kind = ap (λ b. b && css) is_named
has_sheet_by (Some (Text characters)) (Some name) wanted named css read written is_wanted is_named is_kind = absurd (none-some (chars name.now) (sym read))
has_sheet_by (Some (Element tag attrs)) None wanted named css read written is_wanted is_named is_kind = absurd (none-some tag read)
has_sheet_by (Some (Element tag attrs)) (Some name) wanted named css read written is_wanted is_named is_kind =
    ap (λ b. b && css)
    (is_named
    ∙ ap (bytes_eq name.now) is_wanted
    ∙ same-test name.now (codes "style") tag (codes "style") (same_Some _ _ read) (same_Some _ _ written) style-characters style-bytes)
    ∙ ap (λ b. bytes_eq tag (codes "style") && b) is_kind
