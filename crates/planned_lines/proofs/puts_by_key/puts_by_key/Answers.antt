use Rattle.std.proofs.Common.{◌==◌, ◌∙◌, Option, Some, cond, nat_eq, option_copied, sym, ap}
use Rattle.std.specs.HashMap.{get}
use Rattle.std.specs.Map.{lookup}
use Rattle.kept_elements.specs.declared.kept_change.KeptChange.{KeptChange}
use Rattle.kept_elements.proofs.KeptLemmas.{copied_cond}
use Rattle.planned_lines.proofs.PutLemmas.{last_next}
use Rattle.planned_lines.proofs.puts_by_key.puts_by_key.Goals as goal

pub loop-key-init : goal.loop-key-init
loop-key-init c = λ key. ap (λ entries. option_copied (lookup (nat_eq key) entries)) c.new-map.ensures.empty

pub loop-key-preserved : goal.loop-key-preserved
loop-key-preserved c = λ key.
    let put = c.loop-key-item.result in
    ap option_copied (c.in_ok-insert.ensures.updates.0 key)
    ∙ copied_cond (put.0 == key) _ (get nat_eq c.loop-key.map key)
    ∙ ap (λ (o : Option KeptChange). cond (put.0 == key) (Some put.1) o) (c.loop-key.invariant key)
    ∙ sym (last_next c.args.puts.now c.loop-key.key-index put c.loop-key-test.true c.loop-key-item.is key)
