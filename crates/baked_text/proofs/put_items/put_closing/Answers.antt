use Rattle.std.proofs.Common.{◌∙◌, ap, sym, encode_utf8_all}
use Rattle.std.proofs.lemmas.Result.{on_err_weaker, on_ok_weaker}
use Rattle.ports.proofs.GrownLemmas.{front_same}
use Rattle.ports.specs.Grown.{grown}
use Rattle.std.specs.Str.{chars}
use Rattle.baked_text.specs.Machinery.{closing}
use Rattle.baked_text.proofs.ItemWriting.{end_bytes}
use Rattle.baked_text.proofs.put_items.put_closing.Goals as goal

pub returns-then-is_ended-clause-ok : goal.returns-then-is_ended-clause-ok
returns-then-is_ended-clause-ok g c =
    let is = end_bytes c.args.name.now c.utf8.name ∙ ap (λ b. encode_utf8_all (closing b (chars c.args.name.now))) (sym c.if-is_ended.true) in
    on_ok_weaker c.put_between.result (λ grew. grew ∙ ap (λ t. grown (g.O.Sink.out c.args.out.now) t) is) c.put_between.ensures.ok

pub returns-then-is_ended-clause-failed : goal.returns-then-is_ended-clause-failed
returns-then-is_ended-clause-failed g c =
    let is = end_bytes c.args.name.now c.utf8.name ∙ ap (λ b. encode_utf8_all (closing b (chars c.args.name.now))) (sym c.if-is_ended.true) in
    on_err_weaker c.put_between.result (λ grows. front_same is grows) c.put_between.ensures.failed
