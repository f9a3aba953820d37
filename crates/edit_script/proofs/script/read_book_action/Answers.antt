use Rattle.std.proofs.Common.{Some, ap, sym, ◌∙◌}
use Rattle.std.specs.Str.{chars, encode_utf8_all}
use Rattle.std.proofs.lemmas.Result.{IfErr-weaker, IfOk-weaker}
use Rattle.std.proofs.lemmas.Str.{chars-nil, encodes-chars}
use Rattle.edit_script.specs.Machinery.LineFaults.{IsLineFault}
use Rattle.edit_script.specs.Scripts.{IsBookCommand, IsEditCommand, document_command}
use Rattle.edit_script.proofs.BookLaws.{in_found, in_nowhere, only_document}
use Rattle.edit_script.proofs.FaultLaws.{fault_of_whole}
use Rattle.edit_script.proofs.script.read_book_action.Goals as goal

pub returns-in-Some-empty-clause-fault : goal.returns-in-Some-empty-clause-fault
returns-in-Some-empty-clause-fault c =
    in_nowhere (chars c.args.line.now) (c.in-Some-empty.ensures.reads ∙ ap Some (ap chars c.in-Some-empty.is-empty ∙ chars-nil))

pub returns-in_ok-from_str-in-Some-clause-found : goal.returns-in_ok-from_str-in-Some-clause-found
returns-in_ok-from_str-in-Some-clause-found c =
    in_found (chars c.args.line.now) (chars c.in-Some.name.now) c.in_ok-from_str-in-Some.field-0 c.in-Some.ensures.reads
    (λ none. c.in-Some.not-empty (sym (encodes-chars c.in-Some.name.now c.in-Some.ensures.text) ∙ ap encode_utf8_all none)) c.in_ok-from_str-in-Some.ensures.characters

pub returns-in-None-clause-found : goal.returns-in-None-clause-found
returns-in-None-clause-found c =
    IfOk-weaker c.read_edit_action.result (IsEditCommand (chars c.args.line.now)) (IsBookCommand (chars c.args.line.now)) (λ action is. document_command is)
    c.read_edit_action.ensures.found

pub returns-in-None-clause-fault : goal.returns-in-None-clause-fault
returns-in-None-clause-fault c =
    IfErr-weaker c.read_edit_action.result (IsLineFault (IsEditCommand (chars c.args.line.now))) (IsLineFault (IsBookCommand (chars c.args.line.now)))
    (λ fault none.
    fault_of_whole (IsEditCommand (chars c.args.line.now)) (IsBookCommand (chars c.args.line.now)) fault
    (λ action is. (action, only_document (chars c.args.line.now) action c.in-None.ensures.reads is)) none)
    c.read_edit_action.ensures.fault
