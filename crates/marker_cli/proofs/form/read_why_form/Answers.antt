use Rattle.std.proofs.Common.{ℕ, List}
use Rattle.edit_script.specs.Scripts.{IsPathText}
use Rattle.marker_cli.specs.Words.{Form, IsForm}
use Rattle.marker_cli.proofs.FormLemmas.{on_err, why_form}
use Rattle.marker_cli.proofs.form.read_why_form.Goals as goal

pub returns-in_err-path-clause-memory : goal.returns-in_err-path-clause-memory
returns-in_err-path-clause-memory c =
    let some : (path : List ℕ) × IsPathText c.index-words-3.result path = rw c.as_str.ensures.characters at c.in_err-path.ensures.memory in
    let form : (form : Form) × IsForm c.args.words.now form = (_, why_form c.args.words.now _ some.0 c.requires.command c.index-words-3.is some.1) in
    on_err c.from_residual.result form
