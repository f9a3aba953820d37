use Rattle.marker_cli.proofs.FormLemmas.{same_text}
use Rattle.marker_cli.proofs.form.is_word.Goals as goal

pub returns : goal.returns
returns c = record { same = same_text c.eq.result c.as_str.result.now c.args.name.now c.args.word.now c.utf8.name c.as_str.ensures.bytes c.as_str.ensures.characters c.eq.ensures }
