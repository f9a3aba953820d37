use Rattle.text_view.proofs.SplitLaws.{blank_after, word_before}
use Rattle.text_view.proofs.line_writer.split_word.Goals as goal

pub returns-clause-word : goal.returns-clause-word
returns-clause-word c =
    word_before c.args.blanks.now c.args.bytes.now c.first_in.result c.unwrap_or-place.result c.requires.blanks c.unwrap_or-place.ensures
    c.split_at.result.0.now c.first_in.ensures c.split_at.ensures.front

pub returns-clause-stop : goal.returns-clause-stop
returns-clause-stop c =
    blank_after c.args.blanks.now c.args.bytes.now c.first_in.result c.unwrap_or-place.result c.requires.blanks c.unwrap_or-place.ensures
    c.split_at.result.1.now c.first_in.ensures c.split_at.ensures.back
