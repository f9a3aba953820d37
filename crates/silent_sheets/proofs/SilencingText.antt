-- The text of `examples/baked.css` is a silent sheet, as it is read.
use Rattle.std.proofs.Common.{◌≡◌, ◌&&◌, ◌||◌, Bool, true, false, List, ℕ, [], ◌∷◌, refl, sym, ap, ◌∙◌}
use Rattle.std.specs.List.{list_any}
use Rattle.plain_types.specs.declared.content.Content.TheVariants as content
use Rattle.plain_types.specs.declared.declaration.Declaration.{Declaration}
use Rattle.plain_types.specs.declared.declaration.Declaration.TheVariants as declaration
use Rattle.plain_types.specs.declared.declaration.Declared.{Declared}
use Rattle.plain_types.specs.declared.declaration.Said.TheVariants as said
use Rattle.plain_types.specs.declared.selector.Selector.{Selector}
use Rattle.plain_types.specs.declared.selector.Simple.TheFolds.{fold-Simple, fold-roll-Simple, fold-roll-Compound}
use Rattle.plain_types.specs.declared.selector.Simple.TheOpen as layer
use Rattle.plain_types.specs.declared.selector.Simple.TheVariants as simple
use Rattle.plain_types.specs.declared.selector_parts.PseudoElement.{PseudoElement}
use Rattle.plain_types.specs.declared.selector_parts.PseudoElement.TheVariants.{Own, Marker, Before, After}
use Rattle.plain_types.specs.declared.sheet.StyleRule.{StyleRule}
use Rattle.plain_types.specs.declared.style.ListType.TheVariants as list_type
use Rattle.plain_types.specs.declared.style_ref.StyleRef.TheVariants as style_ref
use Rattle.css_tokens.specs.Tokens.{hash_at, token_at, piece_at, placed_at, tokens}
use Rattle.css_tokens.specs.Numbers.{number_at}
use Rattle.css_tokens.specs.Urls.{url_character_at, bad_url_character_at, url_at, named_at, at_keyword_at}
use Rattle.css_tokens.specs.Strings.{string_piece_at, string_at}
use Rattle.css_definitions.specs.Identifiers.{escape_at, ident_character_at}
use Rattle.css_definitions.specs.SheetText.{filtered}
use Rattle.reading.specs.Reading.{span, span_of, run_at, run_with}
use Rattle.css_values.specs.Contents as contents
use Rattle.css_values.specs.Parts as parts
use Rattle.css_values.specs.Parts.{solid}
use Rattle.css_values.specs.Lists.{reset_at, counter_op_at, part_at, list_style}
use Rattle.css_values.specs.Styles.{symbols_at, style_at, list_type_at}
use Rattle.css_values.specs.Contents.{pair_at, quotes_value, attr_at, attr_url_at, address_at, name_between_at, counter_at, counters_at, target_counter_at, target_counters_at, last_part_at, target_text_at, item_at, content_value}
use Rattle.css_values.specs.Declarations.{declared}
use Rattle.selectors.specs.Selectors.{pseudo_element_at, complex_end, step_at, selector_at, selector_list}
use Rattle.selectors.specs.Compounds.{class_function_at, pseudo_class_at, subclass_at, compound_at, choices_at}
use Rattle.selectors.specs.Simples.{attribute_at, plain_class}
use Rattle.selectors.specs.Parts as selector_parts
use Rattle.selectors.specs.AnPlusB.{an_plus_b_value, an_plus_b_at}
use Rattle.css_reader.specs.Blocks.{past_values}
use Rattle.css_reader.specs.Rules as rule
use Rattle.css_reader.specs.Rules.{rule_at, rules}
use Rattle.css_reader.specs.Declarations.{cut, declaration, declarations}
use Rattle.css_reader.specs.Sheets as reader
use Rattle.silent_sheets.specs.Silence.{IsSilent, all_keep_silence, are_universal, is_universal, silences_each, silencing_text, takes_each}

-- the rules of a text, which compute where this is named
read : List ℕ → List StyleRule
unfolding tokens placed_at piece_at token_at hash_at number_at url_character_at bad_url_character_at url_at named_at at_keyword_at string_piece_at string_at escape_at ident_character_at span span_of run_at run_with filtered
    solid reset_at counter_op_at part_at list_style symbols_at style_at list_type_at pair_at quotes_value attr_at attr_url_at address_at name_between_at counter_at counters_at target_counter_at target_counters_at last_part_at target_text_at item_at content_value declared parts.after_comma_at contents.url_at
    pseudo_element_at complex_end step_at selector_at selector_list class_function_at pseudo_class_at subclass_at compound_at choices_at attribute_at plain_class selector_parts.after_comma_at an_plus_b_value an_plus_b_at
    past_values rule_at rules rule.part_at rule.parts cut declaration declarations reader.sheet
read text = (reader.sheet text).rules

-- `*`, with or without a pseudo-element
abbrev universal : PseudoElement → Selector
universal pseudo = record { compounds = record { simples = simple.Any ∷ [] } ∷ []; joins = []; pseudo = pseudo }

abbrev important : Declaration → Declared
important what = record { what = what; important = true }

abbrev unmarked : StyleRule
unmarked = record { selectors = universal Own ∷ []; declared = important (declaration.ListStyle (said.Value (list_type.Style style_ref.Nothing))) ∷ [] }

abbrev silenced : StyleRule
silenced = record {
  selectors = universal Marker ∷ universal Before ∷ universal After ∷ [];
  declared = important (declaration.Content (said.Value content.Nothing)) ∷ [];
}

rules_are : (reader.sheet silencing_text).rules ≡ unmarked ∷ silenced ∷ []
unfolding read silencing_text
rules_are = refl {a = unmarked ∷ silenced ∷ []}

-- each element matches `*`
any_takes : fold-Simple Bool Bool is_universal are_universal simple.Any ≡ true
any_takes = ap (fold-Simple Bool Bool is_universal are_universal) (sym simple.rolls-Any) ∙ fold-roll-Simple Bool Bool is_universal are_universal layer.Any

universal_takes : takes_each (record { simples = simple.Any ∷ [] }) ≡ true
universal_takes = fold-roll-Compound Bool Bool is_universal are_universal (record { simples = simple.Any ∷ [] }) ∙ ap (λ b. b && true) any_takes

silenced_once : (((takes_each (record { simples = simple.Any ∷ [] }) || false) && true) || false) ≡ true
silenced_once = ap (λ b. ((b || false) && true) || false) universal_takes

pub text_is_silent : IsSilent (reader.sheet silencing_text)
text_is_silent = record {
  marker = ap (list_any (silences_each Marker)) rules_are ∙ silenced_once;
  before = ap (list_any (silences_each Before)) rules_are ∙ silenced_once;
  after = ap (list_any (silences_each After)) rules_are ∙ silenced_once;
  others = ap (λ (rules : List StyleRule). all_keep_silence (record { rules = rules; styles = [] })) rules_are;
}
