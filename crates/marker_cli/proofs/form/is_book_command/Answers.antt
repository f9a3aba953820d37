use Rattle.std.proofs.Common.{◌≡◌, ◌∙◌, arith, sym}
use Rattle.marker_cli.specs.Words.{word}
use Rattle.marker_cli.proofs.FormLemmas.{book_name, first_word}
use Rattle.marker_cli.proofs.form.is_book_command.Goals as goal

pub returns-then-words-gt3 : goal.returns-then-words-gt3
returns-then-words-gt3 c =
    let first : word c.args.words.now 0 ≡ c.index-words-0.result = first_word c.args.words.now c.index-words-0.result (omega (arith, c.if-words-gt3.true)) c.index-words-0.is in
    record {
      same = (
        λ yes. (c.if-words-gt3.true, first ∙ c.is_word.ensures.same.0 yes ∙ book_name),
        λ is. c.is_word.ensures.same.1 (sym first ∙ is.1 ∙ sym book_name),
      );
    }
