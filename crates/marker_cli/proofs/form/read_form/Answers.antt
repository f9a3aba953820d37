use Rattle.std.proofs.Common.{◌∙◌, sym}
use Rattle.marker_cli.proofs.FormLemmas.{why_name}
use Rattle.marker_cli.proofs.form.read_form.Goals as goal

pub read_why_form-requires : goal.read_why_form-requires
read_why_form-requires c =
    let both = c.is_command.ensures.same.0 c.if-is_command.true in
    record { command = (both.0, both.1 ∙ why_name) }

pub read_plain_form-requires : goal.read_plain_form-requires
read_plain_form-requires c =
    record {
      other = λ is. cc (sym c.if-is_command.false ∙ c.is_command.ensures.same.1 (is.0, is.1 ∙ sym why_name));
      no_book = λ is. cc (sym c.if-is_book_command.false ∙ c.is_book_command.ensures.same.1 is);
    }

pub read_book_form-requires : goal.read_book_form-requires
read_book_form-requires c = record { command = c.is_book_command.ensures.same.0 c.if-is_book_command.true }
