use Rattle.std.proofs.Common.{◌≡◌, ◌==◌, not, rules, tests}
use Rattle.std.specs.List.{list_all}
use Rattle.std.specs.Str.{chars}
use Rattle.std.proofs.lemmas.Iterator.{YieldsList-from_chars}
use Rattle.std.proofs.lemmas.Iterator.Search.{all_from_yields_List}
use Rattle.marker_cli.proofs.FormLemmas.{document_name, no_document_name}
use Rattle.marker_cli.proofs.form.is_document_name.Goals as goal

pub returns-then-not-is_empty : goal.returns-then-not-is_empty
returns-then-not-is_empty c =
    let all : c.all.result ≡ list_all (λ d. not (d == 35)) (chars c.args.name.now) =
    all_from_yields_List (λ d. not (d == 35)) _ _ _ c.all.ensures.ran (YieldsList-from_chars _ c.utf8.name c.chars.ensures.rest) (λ x b q k. search (rules, tests)) in
    record { same = document_name c.args.name.now c.is_empty.result c.is_empty.ensures c.utf8.name c.if-not-is_empty.true c.all.result all }

pub returns-else-not-is_empty : goal.returns-else-not-is_empty
returns-else-not-is_empty c = record { same = no_document_name c.args.name.now c.is_empty.result c.is_empty.ensures c.if-not-is_empty.false }
