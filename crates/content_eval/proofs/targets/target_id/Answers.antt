use Rattle.std.proofs.Common.{lit<}
use Rattle.std.proofs.lemmas.Str.Pattern.{strip_prefix_char}
use Rattle.content_eval.proofs.TargetIdLemmas.{id_of}
use Rattle.content_eval.proofs.targets.target_id.Goals as goal

pub returns : goal.returns
returns c = record {
  id = id_of c.args.url.now _ c.utf8.url (strip_prefix_char _ _ _ c.strip_prefix.ensures.cases (lit< tt));
}
