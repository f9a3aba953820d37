use Rattle.text_view.proofs.SplitLaws.{blanks_before}
use Rattle.text_view.proofs.line_writer.split_blanks.Goals as goal

pub returns-clause-blank : goal.returns-clause-blank
returns-clause-blank c =
    blanks_before c.args.blanks.now c.args.bytes.now c.first_not_in.result c.unwrap_or-place.result c.requires.blanks c.unwrap_or-place.ensures
    c.split_at.result.0.now c.first_not_in.ensures c.split_at.ensures.front
