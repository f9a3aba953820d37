use Rattle.bake_book.proofs.KeyLaws.{dressed_tree}
use Rattle.bake_book.proofs.laws.dressing_keeps_no_keys.Goals as goal

pub returns : goal.returns
returns c = let laws = c.keys_do_not_matter.ensures in record { keys = dressed_tree laws.keyings laws.sheets laws.entries }
