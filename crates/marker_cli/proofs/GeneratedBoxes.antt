-- A made-up document has a box for each element and for each line.
use Rattle.std.proofs.Common.{◌≡◌, ◌+◌, ◌++◌, ℕ, Bool, true, false, List, [], ◌∷◌, Option, Some, None, Result, length, unwrap_or, refl, sym, ap, ap₂, subst, ◌∙◌}
use Rattle.std.specs.Prelude.{Ok, Err}
use Rattle.std.specs.List.{flat_map, list_all}
use Rattle.forest.specs.Forest.{Forest, Empty, Tree}
use Rattle.forest.specs.Keys.{Keyed, numbered, without_keys}
use Rattle.forest.proofs.PlaceLaws.{distinct-numbered, without_keys-numbered}
use Rattle.plain_types.specs.declared.edit.Edit.{Edit}
use Rattle.plain_types.specs.declared.node.Node.{Node}
use Rattle.plain_types.specs.declared.node.Node.TheVariants as node
use Rattle.plain_types.specs.declared.selector_parts.PseudoElement.TheVariants.{Own}
use Rattle.plain_types.specs.declared.sheet.Sheet.{Sheet}
use Rattle.plain_types.specs.declared.style.Style.{Style}
use Rattle.node_arena.specs.Edits as edits
use Rattle.node_arena.specs.Nodes.{attrs_of, name_of}
use Rattle.node_arena.specs.declared.place_fault.PlaceFault.{PlaceFault}
use Rattle.css_reader.specs.Sheets as reader
use Rattle.mini_cascade.specs.Declarations.{Applied, applied, attached, declared_in, hinted}
use Rattle.mini_cascade.specs.StyleAttributes.{inline_of}
use Rattle.mini_cascade.specs.Hints.{hints_of}
use Rattle.mini_cascade.specs.Properties.{initial_values}
use Rattle.mini_cascade.specs.declared.rank.Origin.TheVariants.{Author, UserAgent}
use Rattle.box_eval.specs.Boxes.{is_absent}
use Rattle.generated_texts.specs.Documents.{agent_sheet, document_style}
use Rattle.generated_texts.specs.Entries.{document_entries}
use Rattle.generated_texts.specs.Lines.{document_lines}
use Rattle.generated_texts.specs.References.{kept_at}
use Rattle.generated_texts.specs.StyleElements.{author_sheet, has_sheet, style_texts}
use Rattle.generated_texts.proofs.BoxesOfAll.{each_has_box}
use Rattle.document_walk.specs.Elements.{element_count}
use Rattle.marker_engine.specs.Census.{box_count}
use Rattle.marker_engine.specs.Edited.{edited}
use Rattle.marker_engine.specs.Engines.{Source}
use Rattle.marker_engine.proofs.Counts.{line_count}
use Rattle.edit_script.specs.Generator.{document, edits_of, sheet}
use Rattle.marker_cli.specs.Generated.{Outcome, after_edits, generated, unedited, with_answer}
use Rattle.generated_texts.specs.declared.entry.NodeEntry.{NodeEntry}
use Rattle.marker_cli.proofs.AgentRules.{agent_leaves}
use Rattle.marker_cli.proofs.BoxCounts.{boxes_are}
use Rattle.marker_cli.proofs.LeftBoxes.{all_appended, all_leave, hinted_leave, hints_leave, leaves, rule_leaves, rules_applied, style_leaves}
use Rattle.marker_cli.proofs.MadeDocuments.{AreEach, IsPlainEdit, document_plain, edited_plain, run_plain, same_sheet}
use Rattle.marker_cli.proofs.PlainElements.{IsPlainNode, no_style, no_style_name, tree_parts}
use Rattle.marker_cli.proofs.PlainTrees.{ArePlain, plain_sound}
use Rattle.marker_cli.proofs.Readings.{agent_hides, made_leaves}

-- The document and its sheet after edits.

abbrev IsPlainSource : Source → Type 0
IsPlainSource source = ArePlain source.tree × (source.sheet ≡ sheet)

-- what becomes of an edit of a source by the fault that it has, or without one
abbrev answered : Edit → Source → Option PlaceFault → Result Source PlaceFault
answered edit source None = Ok (record { tree = edits.edited edit source.tree; sheet = edits.edited_sheet edit source.sheet })
answered edit source (Some fault) = Err fault

edit_keeps : (outcome : Outcome) (edit : Edit) → IsPlainEdit edit → IsPlainSource outcome.source → IsPlainSource (with_answer outcome (edited outcome.source edit)).source
edit_keeps outcome edit new plain = by (edits.place_fault edit outcome.source.tree) refl
  where
    by : (fault : Option PlaceFault) → edits.place_fault edit outcome.source.tree ≡ fault → IsPlainSource (with_answer outcome (answered edit outcome.source fault)).source
    by None placed = (edited_plain edit outcome.source.tree new placed plain.0, same_sheet edit outcome.source.sheet new ∙ plain.1)
    by (Some fault) placed = plain

edits_keep : (script : List Edit) (outcome : Outcome) → AreEach IsPlainEdit script → IsPlainSource outcome.source → IsPlainSource (after_edits script outcome).source
edits_keep [] outcome new plain = plain
edits_keep (edit ∷ script) outcome new plain = edits_keep script (with_answer outcome (edited outcome.source edit)) new.1 (edit_keeps outcome edit new.0 plain)

generated_plain : (seed count : ℕ) → IsPlainSource (generated seed count).source
generated_plain seed count = edits_keep (edits_of seed count) (unedited (record { tree = document seed count; sheet = sheet })) (run_plain seed count) (document_plain seed count, refl)

-- Its styles.

no_sheet : (label : Node) → IsPlainNode label → has_sheet label ≡ false
no_sheet (node.Element name attrs) plain = rw (no_style_name name plain.shown) refl
no_sheet (node.Text characters) plain = refl

no_texts : (trees : Forest (Keyed Node)) → ArePlain (without_keys trees) → style_texts trees ≡ []
no_texts Empty plain = refl
no_texts (Tree first children after) plain =
    let parts = tree_parts first.label (without_keys children) (without_keys after) plain in
    rw (no_sheet first.label parts.0, no_texts children parts.1, no_texts after parts.2) refl

author_leaves : (document : Forest (Keyed Node)) → ArePlain (without_keys document) → list_all rule_leaves (author_sheet sheet document).rules ≡ true
unfolding reader.sheets
author_leaves document plain = rw (no_texts document plain) (all_appended rule_leaves (reader.sheet sheet).rules [] made_leaves refl)

module _ (document : Forest (Keyed Node)) (plain : ArePlain (without_keys document)) (author : Sheet) (leave : list_all rule_leaves author.rules ≡ true) (key : ℕ) where
  applied_leave : all_leave (applied document key Own agent_sheet author) ≡ true
  applied_leave =
      let leaving : (a : Applied) → Bool = λ a. leaves a.what in
      let agents : List Applied = flat_map (declared_in document key Own UserAgent) agent_sheet.rules in
      let hints : List Applied = hinted Own (hints_of document key) in
      let authors : List Applied = flat_map (declared_in document key Own Author) author.rules in
      let own : List Applied = attached Own (inline_of document key) in
      all_appended leaving agents (hints ++ (authors ++ own)) (agent_leaves agent_sheet.rules document key agent_hides plain)
      (all_appended leaving hints (authors ++ own) (hinted_leave (hints_of document key) (hints_leave (unwrap_or (name_of document key) []) (attrs_of document key)))
      (all_appended leaving authors own (rules_applied document key Author author.rules leave) (rw (no_style document key plain) refl)))

  never_absent : (parent : Option Style) → is_absent (document_style author document key parent).own.display ≡ false
  never_absent parent = style_leaves (applied document key Own agent_sheet author) (unwrap_or parent initial_values) applied_leave

-- Its boxes.

document_boxes : (tree : Forest Node) → ArePlain tree → box_count sheet tree ≡ element_count tree + length (document_lines sheet tree)
unfolding box_count document_lines
document_boxes tree plain =
    let keyed : Forest (Keyed Node) = numbered 0 tree in
    let same : without_keys keyed ≡ tree = without_keys-numbered 0 tree in
    let keyless : ArePlain (without_keys keyed) = subst ArePlain (sym same) plain in
    let distinct = distinct-numbered 0 tree in
    let author : Sheet = author_sheet sheet keyed in
    let entry_of : ℕ → Option NodeEntry = kept_at (document_entries author keyed) in
    let each = each_has_box author keyed distinct (plain_sound _ keyless)
    (λ key parent named. never_absent keyed keyless author (author_leaves keyed keyless) key parent) in
    boxes_are entry_of keyed distinct each ∙ ap₂ (λ a b. a + b) (ap element_count same) (sym (line_count keyed distinct entry_of keyed))

pub boxes_counted : (seed count : ℕ)
    → box_count (generated seed count).source.sheet (generated seed count).source.tree
    ≡ element_count (generated seed count).source.tree + length (document_lines (generated seed count).source.sheet (generated seed count).source.tree)
boxes_counted seed count =
    let source : Source = (generated seed count).source in
    let plain = generated_plain seed count in
    let P : List ℕ → Type 0 = λ text. box_count text source.tree ≡ element_count source.tree + length (document_lines text source.tree) in
    subst P (sym plain.1) (document_boxes source.tree plain.0)
