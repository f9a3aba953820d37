use Rattle.std.proofs.Common.{not}
use Rattle.plain_types.specs.declared.selector_parts.AttrTest.TheVariants.{Equal, Word, Dash, Start, End, Inside}
use Rattle.selector_match.proofs.Encoding.{passes-by, not-empty-by, empty-by}
use Rattle.selector_match.proofs.attributes.passes.Goals as goal

pub returns-in-Equal : goal.returns-in-Equal
returns-in-Equal c = passes-by c.args.fold c.args.test Equal c.args.text.now c.args.value.now c.as_bytes-text.result.now c.as_bytes-value.result.now c.is_same.result c.in-Equal.is c.as_bytes-text.ensures.value c.as_bytes-value.ensures.value c.is_same.ensures c.utf8.text c.utf8.value

pub returns-in-Word : goal.returns-in-Word
returns-in-Word c = passes-by c.args.fold c.args.test Word c.args.text.now c.args.value.now c.as_bytes-text.result.now c.as_bytes-value.result.now c.has_word.result c.in-Word.is c.as_bytes-text.ensures.value c.as_bytes-value.ensures.value c.has_word.ensures c.utf8.text c.utf8.value

pub returns-in-Dash : goal.returns-in-Dash
returns-in-Dash c = passes-by c.args.fold c.args.test Dash c.args.text.now c.args.value.now c.as_bytes-text.result.now c.as_bytes-value.result.now c.is_dashed.result c.in-Dash.is c.as_bytes-text.ensures.value c.as_bytes-value.ensures.value c.is_dashed.ensures c.utf8.text c.utf8.value

pub returns-then-not-is_empty : goal.returns-then-not-is_empty
returns-then-not-is_empty c = passes-by c.args.fold c.args.test Start c.args.text.now c.args.value.now c.as_bytes-text.result.now c.as_bytes-value.result.now c.begins.result c.in-Start.is c.as_bytes-text.ensures.value c.as_bytes-value.ensures.value (not-empty-by c.args.fold c.as_bytes-value.result.now c.is_empty.result _ _ c.is_empty.ensures c.if-not-is_empty.true c.begins.ensures) c.utf8.text c.utf8.value

pub returns-else-not-is_empty : goal.returns-else-not-is_empty
returns-else-not-is_empty c = passes-by c.args.fold c.args.test Start c.args.text.now c.args.value.now c.as_bytes-text.result.now c.as_bytes-value.result.now (not c.is_empty.result) c.in-Start.is c.as_bytes-text.ensures.value c.as_bytes-value.ensures.value (empty-by c.args.fold c.as_bytes-value.result.now c.is_empty.result _ c.is_empty.ensures c.if-not-is_empty.false) c.utf8.text c.utf8.value

pub returns-then-not-is_empty-2 : goal.returns-then-not-is_empty-2
returns-then-not-is_empty-2 c = passes-by c.args.fold c.args.test End c.args.text.now c.args.value.now c.as_bytes-text.result.now c.as_bytes-value.result.now c.ends.result c.in-End.is c.as_bytes-text.ensures.value c.as_bytes-value.ensures.value (not-empty-by c.args.fold c.as_bytes-value.result.now c.is_empty-in-End.result _ _ c.is_empty-in-End.ensures c.if-not-is_empty-2.true c.ends.ensures) c.utf8.text c.utf8.value

pub returns-else-not-is_empty-2 : goal.returns-else-not-is_empty-2
returns-else-not-is_empty-2 c = passes-by c.args.fold c.args.test End c.args.text.now c.args.value.now c.as_bytes-text.result.now c.as_bytes-value.result.now (not c.is_empty-in-End.result) c.in-End.is c.as_bytes-text.ensures.value c.as_bytes-value.ensures.value (empty-by c.args.fold c.as_bytes-value.result.now c.is_empty-in-End.result _ c.is_empty-in-End.ensures c.if-not-is_empty-2.false) c.utf8.text c.utf8.value

pub returns-then-not-is_empty-3 : goal.returns-then-not-is_empty-3
returns-then-not-is_empty-3 c = passes-by c.args.fold c.args.test Inside c.args.text.now c.args.value.now c.as_bytes-text.result.now c.as_bytes-value.result.now c.contains.result c.in-Inside.is c.as_bytes-text.ensures.value c.as_bytes-value.ensures.value (not-empty-by c.args.fold c.as_bytes-value.result.now c.is_empty-in-Inside.result _ _ c.is_empty-in-Inside.ensures c.if-not-is_empty-3.true c.contains.ensures) c.utf8.text c.utf8.value

pub returns-else-not-is_empty-3 : goal.returns-else-not-is_empty-3
returns-else-not-is_empty-3 c = passes-by c.args.fold c.args.test Inside c.args.text.now c.args.value.now c.as_bytes-text.result.now c.as_bytes-value.result.now (not c.is_empty-in-Inside.result) c.in-Inside.is c.as_bytes-text.ensures.value c.as_bytes-value.ensures.value (empty-by c.args.fold c.as_bytes-value.result.now c.is_empty-in-Inside.result _ c.is_empty-in-Inside.ensures c.if-not-is_empty-3.false) c.utf8.text c.utf8.value
