-- The sheets of the user agent and of a made-up document, as they are read, take no plain element's box away.
use Rattle.std.proofs.Common.{◌≡◌, List, ℕ, true, refl}
use Rattle.std.specs.List.{list_all}
use Rattle.std.specs.Str.{chars}
use Rattle.plain_types.specs.declared.sheet.Sheet.{Sheet}
use Rattle.css_tokens.specs.Tokens.{hash_at, token_at, piece_at, placed_at, tokens}
use Rattle.css_tokens.specs.Numbers.{number_at}
use Rattle.css_tokens.specs.Urls.{url_character_at, bad_url_character_at, url_at, named_at, at_keyword_at}
use Rattle.css_tokens.specs.Strings.{string_piece_at, string_at}
use Rattle.css_definitions.specs.Identifiers.{escape_at, ident_character_at}
use Rattle.css_definitions.specs.SheetText.{filtered}
use Rattle.reading.specs.Reading.{span, span_of, run_at, run_with}
use Rattle.css_values.specs.Contents as contents
use Rattle.css_values.specs.Parts as parts
use Rattle.css_values.specs.Parts.{solid}
use Rattle.css_values.specs.Lists.{reset_at, counter_op_at, part_at, list_style}
use Rattle.css_values.specs.Styles.{symbols_at, style_at, list_type_at}
use Rattle.css_values.specs.Contents.{pair_at, quotes_value, attr_at, attr_url_at, address_at, name_between_at, counter_at, counters_at, target_counter_at, target_counters_at, last_part_at, target_text_at, item_at, content_value}
use Rattle.css_values.specs.Declarations.{declared}
use Rattle.selectors.specs.Selectors.{pseudo_element_at, complex_end, step_at, selector_at, selector_list}
use Rattle.selectors.specs.Compounds.{class_function_at, pseudo_class_at, subclass_at, compound_at, choices_at}
use Rattle.selectors.specs.Simples.{attribute_at, plain_class}
use Rattle.selectors.specs.Parts as selector_parts
use Rattle.selectors.specs.AnPlusB.{an_plus_b_value, an_plus_b_at}
use Rattle.css_reader.specs.Blocks.{past_values}
use Rattle.css_reader.specs.Rules as rule
use Rattle.css_reader.specs.Rules.{rule_at, rules}
use Rattle.css_reader.specs.Declarations.{cut, declaration, declarations}
use Rattle.css_reader.specs.Sheets as reader
use Rattle.generated_texts.specs.Documents.{agent_sheet}
use Rattle.edit_script.specs.Generator.{sheet}
use Rattle.marker_cli.proofs.AgentRules.{HidesThese, hiding_selectors}
use Rattle.marker_cli.proofs.LeftBoxes.{rule_leaves}

-- the sheet of a text, which computes where this is named
read : List ℕ → Sheet
unfolding tokens placed_at piece_at token_at hash_at number_at url_character_at bad_url_character_at url_at named_at at_keyword_at string_piece_at string_at escape_at ident_character_at span span_of run_at run_with filtered
    solid reset_at counter_op_at part_at list_style symbols_at style_at list_type_at pair_at quotes_value attr_at attr_url_at address_at name_between_at counter_at counters_at target_counter_at target_counters_at last_part_at target_text_at item_at content_value declared parts.after_comma_at contents.url_at
    pseudo_element_at complex_end step_at selector_at selector_list class_function_at pseudo_class_at subclass_at compound_at choices_at attribute_at plain_class selector_parts.after_comma_at an_plus_b_value an_plus_b_at
    past_values rule_at rules rule.part_at rule.parts cut declaration declarations reader.sheet
read text = reader.sheet text

pub made_leaves : list_all rule_leaves (reader.sheet sheet).rules ≡ true
unfolding read sheet
made_leaves = refl {a = true}

pub agent_hides : HidesThese agent_sheet.rules
unfolding read agent_sheet chars
agent_hides = (refl {a = hiding_selectors}, refl {a = true})
