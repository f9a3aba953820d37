use Rattle.std.proofs.Common.{sym, ap, ◌∙◌, [], ◌∷◌}
use Rattle.std.specs.Str.{chars}
use Rattle.xhtml_items.specs.Reading.{split_once}
use Rattle.edit_script.proofs.WordLaws.{split_finds, split_is}
use Rattle.edit_script.proofs.words.split_word.Goals as goal

pub returns-in-Some-clause-found : goal.returns-in-Some-clause-found
returns-in-Some-clause-found c = split_is (chars c.args.text.now) (chars c.in-Some.parts.0.now, chars c.in-Some.parts.1.now) c.in-Some.ensures.reads

pub returns-in-None-clause-fault : goal.returns-in-None-clause-fault
returns-in-None-clause-fault c = λ x is. split_finds 32 x.0 x.1 (ap (split_once (32 ∷ [])) (sym is) ∙ c.in-None.ensures.reads)
