use Rattle.std.proofs.Common.{sym, ◌∙◌}
use Rattle.std.specs.Str.{chars}
use Rattle.std.proofs.lemmas.Str.{chars-nil}
use Rattle.xhtml_reader.proofs.Texts.{empty_chars, full_chars}
use Rattle.edit_script.proofs.LineLaws.{line_shorter, line_split, line_whole, some_length}
use Rattle.edit_script.proofs.lines.split_line.Goals as goal

pub returns-then-is_empty-clause-lines : goal.returns-then-is_empty-clause-lines
returns-then-is_empty-clause-lines c = empty_chars c.args.text.now (sym c.is_empty.ensures ∙ c.if-is_empty.true)

pub returns-in-Some-clause-lines : goal.returns-in-Some-clause-lines
returns-in-Some-clause-lines c =
    line_split (chars c.args.text.now) (chars c.in-Some.line.now, chars c.in-Some.rest.now) (chars c.without_return.result.now) c.in-Some.ensures.reads c.without_return.ensures.front

pub returns-in-Some-clause-shorter : goal.returns-in-Some-clause-shorter
returns-in-Some-clause-shorter c = line_shorter (chars c.args.text.now) (chars c.in-Some.line.now, chars c.in-Some.rest.now) c.in-Some.ensures.reads

pub returns-in-None-clause-lines : goal.returns-in-None-clause-lines
returns-in-None-clause-lines c =
    line_whole (chars c.args.text.now) _ c.in-None.ensures.reads (full_chars c.args.text.now c.utf8.text (sym c.is_empty.ensures ∙ c.if-is_empty.false)) chars-nil

pub returns-in-None-clause-shorter : goal.returns-in-None-clause-shorter
returns-in-None-clause-shorter c = some_length (chars c.args.text.now) _ (full_chars c.args.text.now c.utf8.text (sym c.is_empty.ensures ∙ c.if-is_empty.false)) chars-nil
