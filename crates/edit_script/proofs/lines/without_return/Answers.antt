use Rattle.std.proofs.Common.{rules, lit<}
use Rattle.std.proofs.lemmas.Str.Pattern.{strip_suffix_char}
use Rattle.edit_script.proofs.LineLaws.{return-none, return-stripped}
use Rattle.edit_script.proofs.lines.without_return.Goals as goal

pub returns-in-Some-clause-front : goal.returns-in-Some-clause-front
returns-in-Some-clause-front c =
    return-stripped c.args.line.now c.in-Some.front.now (search rules)
    (rw c.in-Some.is at (strip_suffix_char 13 c.args.line.now c.strip_suffix.result c.strip_suffix.ensures.cases (lit< tt)))

pub returns-in-None-clause-front : goal.returns-in-None-clause-front
returns-in-None-clause-front c =
    return-none c.args.line.now c.utf8.line
    (rw c.in-None.is at (strip_suffix_char 13 c.args.line.now c.strip_suffix.result c.strip_suffix.ensures.cases (lit< tt)))
