-- The sheet of a text stays silent with those of style elements behind it.
use Rattle.std.proofs.Common.{◌≡◌, ◌&&◌, ◌++◌, ℕ, Bool, true, List, [], ◌∷◌, refl, ap₂, ◌∙◌}
use Rattle.std.proofs.lemmas.Bool.{and_parts}
use Rattle.std.proofs.lemmas.List.Folds.{list_all-append, list_any-append}
use Rattle.std.specs.List.{flat_map, list_all, list_any}
use Rattle.css_reader.specs.Sheets.{sheet, sheets}
use Rattle.forest.specs.Forest.{Forest}
use Rattle.forest.specs.Keys.{Keyed}
use Rattle.plain_types.specs.declared.node.Node.{Node}
use Rattle.plain_types.specs.declared.selector_parts.PseudoElement.TheVariants.{Marker, Before, After}
use Rattle.plain_types.specs.declared.sheet.StyleRule.{StyleRule}
use Rattle.generated_texts.specs.StyleElements.{author_sheet, style_texts}
use Rattle.silent_sheets.specs.Silence.{IsSilent, all_keep_silence, keeps_silence, silences_each}

abbrev rules_of : List (List ℕ) → List StyleRule
rules_of texts = flat_map (λ (text : List ℕ). (sheet text).rules) texts

abbrev rule_keeps : StyleRule → Bool
rule_keeps rule = list_all keeps_silence rule.declared

some_still : (p : StyleRule → Bool) (rules others : List StyleRule) → list_any p rules ≡ true → list_any p (rules ++ others) ≡ true
some_still p rules others some = list_any-append p rules others ∙ rw some refl

all_still : (texts : List (List ℕ)) → list_all (λ (text : List ℕ). all_keep_silence (sheet text)) texts ≡ true → list_all rule_keeps (rules_of texts) ≡ true
all_still [] all = refl
all_still (text ∷ texts) all =
    let parts = and_parts (all_keep_silence (sheet text)) _ all in
    list_all-append rule_keeps (sheet text).rules (rules_of texts) ∙ ap₂ (λ a b. a && b) parts.0 (all_still texts parts.1)

pub silent_with_elements : (sheet_text : List ℕ) (document : Forest (Keyed Node)) → IsSilent (sheet sheet_text) → list_all (λ (text : List ℕ). all_keep_silence (sheet text)) (style_texts document) ≡ true
    → IsSilent (author_sheet sheet_text document)
unfolding sheets
silent_with_elements sheet_text document silent elements = record {
  marker = some_still (silences_each Marker) (sheet sheet_text).rules (rules_of (style_texts document)) silent.marker;
  before = some_still (silences_each Before) (sheet sheet_text).rules (rules_of (style_texts document)) silent.before;
  after = some_still (silences_each After) (sheet sheet_text).rules (rules_of (style_texts document)) silent.after;
  others = list_all-append rule_keeps (sheet sheet_text).rules (rules_of (style_texts document)) ∙ ap₂ (λ a b. a && b) silent.others (all_still (style_texts document) elements);
}
