use Rattle.std.proofs.Common.{◌≡◌, ◌∙◌, false, [], sym, rules}
use Rattle.std.specs.Str.{chars}
use Rattle.xhtml_reader.proofs.Texts.{full_chars, empty_chars}
use Rattle.edit_script.proofs.PathLaws.{no_path, path-positions, path-root, slash-is, slash-no, some_path}
use Rattle.edit_script.proofs.path.is_path.Goals as goal

pub returns-then-eq : goal.returns-then-eq
returns-then-eq c = record { same = (λ t. ([], path-root (chars c.args.text.now) (slash-is c.args.text.now (sym c.eq.ensures ∙ t))), λ is. c.if-eq.true) }

pub returns-then-not-is_empty : goal.returns-then-not-is_empty
returns-then-not-is_empty c =
    let some : c.is_empty.result ≡ false = search rules in
    let full = full_chars c.args.text.now c.utf8.text (sym c.is_empty.ensures ∙ some) in
    let other = slash-no c.args.text.now c.utf8.text (sym c.eq.ensures ∙ c.if-eq.false) in
    record {
      same = (
        λ t. some_path (chars c.args.text.now) full (c.are_positions.ensures.same.0 t),
        λ is. c.are_positions.ensures.same.1 (is.0, (path-positions (chars c.args.text.now) is.0 other is.1).0),
      );
    }

pub returns-else-not-is_empty : goal.returns-else-not-is_empty
returns-else-not-is_empty c =
    record {
      same = (
        λ t. absurd (cc t),
        λ is. absurd (no_path (chars c.args.text.now) is.0 (empty_chars c.args.text.now (search rules)) is.1),
      );
    }
