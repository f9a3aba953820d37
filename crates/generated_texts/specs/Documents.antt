-- A document under a style sheet, and its evaluation.
use Rattle.std.specs.Prelude.{ℕ, List, Option}
use Rattle.std.specs.Str.{chars}
use Rattle.forest.specs.Forest.{Forest}
use Rattle.forest.specs.Keys.{Keyed}
use Rattle.plain_types.specs.declared.counter_style.CounterStyle.{CounterStyle}
use Rattle.plain_types.specs.declared.node.Node.{Node}
use Rattle.plain_types.specs.declared.sheet.Sheet.{Sheet}
use Rattle.plain_types.specs.declared.style.ElementStyle.{ElementStyle}
use Rattle.plain_types.specs.declared.style.Style.{Style}
use Rattle.css_definitions.specs.CounterStyles.{finished_styles}
use Rattle.css_reader.specs.Sheets.{sheet}
use Rattle.mini_cascade.specs.declared.agent_sheet.TheConstants.{AGENT_SHEET}
use Rattle.mini_cascade.specs.Styles.{element_style}
use Rattle.box_eval.specs.declared.element_record.ElementRecord.{ElementRecord}
use Rattle.box_eval.specs.Starts.{document_records}

-- the user agent's style sheet: HTML, 15.3, and CSS Lists 3, Appendix A
unfoldable pub agent_sheet : Sheet
agent_sheet = sheet (chars AGENT_SHEET.now)

module _ (author : Sheet) where
  -- CSS Counter Styles 3, 2 and 3: the counter styles that a document has under the author's sheet
  abbrev pub counter_styles : List CounterStyle
  counter_styles = finished_styles author.styles

  module _ (document : Forest (Keyed Node)) where
    -- CSS Cascade 5: the styles of an element, where its parent has this one
    abbrev pub document_style : ℕ → Option Style → ElementStyle
    document_style = element_style document agent_sheet author

    -- CSS Lists 3, 4, and CSS Generated Content 3: what is said of the document's elements, under their keys
    abbrev pub document_evaluation : List (ℕ × ElementRecord)
    document_evaluation = document_records counter_styles document_style document
