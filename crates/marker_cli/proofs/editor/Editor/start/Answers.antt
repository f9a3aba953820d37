use Rattle.marker_cli.specs.Versions.{begun}
use Rattle.marker_cli.proofs.editor.Editor.start.Goals as goal

pub returns-in_ok-engine-in-None-clause-versions : goal.returns-in_ok-engine-in-None-clause-versions
returns-in_ok-engine-in-None-clause-versions g c = λ i. begun (record { document = c.in_ok-engine-in-None.ensures.tree i; sheet = c.in_ok-engine-in-None.ensures.sheet i })

pub returns-in_ok-history-in-Some-clause-versions : goal.returns-in_ok-history-in-Some-clause-versions
returns-in_ok-history-in-Some-clause-versions g c =
    λ i. record { present = c.in_ok-history-in-Some.ensures.present i; past = c.in_ok-history-in-Some.ensures.past i; future = c.in_ok-history-in-Some.ensures.future i }
