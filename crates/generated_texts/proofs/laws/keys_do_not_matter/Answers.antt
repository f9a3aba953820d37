use Rattle.std.proofs.Common.{◌≡◌, ap, ◌∙◌, ℕ, List}
use Rattle.forest.specs.Forest.{Forest}
use Rattle.forest.specs.Keys.{HasDistinctKeys, Keyed, numbered, without_keys}
use Rattle.plain_types.specs.declared.node.Node.{Node}
use Rattle.generated_texts.specs.Lines.{document_lines, keyed_lines}
use Rattle.generated_texts.proofs.EachKeying.{each_keying}
use Rattle.generated_texts.proofs.Rekeyed.{tests_apart}
use Rattle.generated_texts.proofs.RekeyedTexts.{document_entries_rekeyed, evaluation_rekeyed, keyed_lines_rekeyed, same_sheet}
use Rattle.generated_texts.proofs.laws.keys_do_not_matter.Goals as goal

tree_lines : (sheet_text : List ℕ) (document : Forest (Keyed Node)) → HasDistinctKeys document → keyed_lines sheet_text document ≡ document_lines sheet_text (without_keys document)
unfolding document_lines
tree_lines sheet_text document distinct =
    let keying = each_keying document distinct in
    ap (keyed_lines sheet_text) keying.2 ∙ keyed_lines_rekeyed keying.0 (tests_apart keying.0 keying.1) sheet_text (numbered 0 (without_keys document))

pub returns : goal.returns
returns c = record {
  keyings = each_keying;
  sheets = λ sheet_text document rekey. same_sheet rekey sheet_text document;
  records = λ author document rekey keeps. evaluation_rekeyed rekey (tests_apart rekey keeps) author document;
  entries = λ author document rekey keeps. document_entries_rekeyed rekey (tests_apart rekey keeps) author document;
  lines = λ sheet_text document rekey keeps. keyed_lines_rekeyed rekey (tests_apart rekey keeps) sheet_text document;
  tree = tree_lines;
}
