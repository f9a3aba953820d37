use Rattle.std.proofs.Common.{◌≡◌, false, rules, tests, ◌||◌, ◌==◌}
use Rattle.std.specs.List.{list_all}
use Rattle.std.specs.Str.{chars}
use Rattle.std.proofs.lemmas.Iterator.{YieldsList-from_chars}
use Rattle.std.proofs.lemmas.Iterator.Search.{all_from_yields_List}
use Rattle.reading.specs.Reading.{begins}
use Rattle.edit_script.proofs.LineLaws.{no_hash_found}
use Rattle.edit_script.proofs.lines.is_skipped.Goals as goal

pub returns-else-is_some : goal.returns-else-is_some
returns-else-is_some c =
    let blank : c.all.result ≡ list_all (λ d. d == 32 || d == 9) (chars c.args.line.now) =
    all_from_yields_List (λ d. d == 32 || d == 9) _ _ _ c.all.ensures.ran (YieldsList-from_chars _ c.utf8.line c.chars.ensures.rest) (λ x b q k. search (rules, tests)) in
    let none : begins 35 (chars c.args.line.now) ≡ false = no_hash_found (chars c.args.line.now) c.past_word.result (search rules) c.past_word.ensures.reads in
    rw none blank
