use Rattle.ports.proofs.NameLemmas.{same_text}
use Rattle.ports.proofs.named_file.is_named.Goals as goal

pub returns : goal.returns
returns c = record { same = same_text c.eq.result c.as_str.result.now c.args.name.now c.args.file.now.name c.utf8.name c.as_str.ensures.bytes c.as_str.ensures.characters c.eq.ensures }
