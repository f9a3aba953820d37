use Rattle.std.proofs.Common.{◌∙◌}
use Rattle.std.proofs.lemmas.Result.{IfOk-weaker}
use Rattle.generated_texts.specs.Documents.{agent_sheet}
use Rattle.dirty_walk.proofs.fresh.agent_sheet.Goals as goal

pub returns : goal.returns
unfolding agent_sheet
returns c = record { sheet = IfOk-weaker c.new.result _ _ (λ table is. is ∙ c.in_ok-read_sheet.ensures.sheet) c.new.ensures.sheet }
