use Rattle.std.proofs.Common.{drop, take, ap, sym, rules, arith}
use Rattle.std.proofs.lemmas.Result.{on_err_weaker, on_ok_weaker}
use Rattle.std.specs.Str.{chars}
use Rattle.baked_text.proofs.ItemWriting.{empty_goes, empty_stops, no_tags_in, other_goes, other_stops, other_token}
use Rattle.baked_text.proofs.OutLemmas.{stops_text, went_text}
use Rattle.baked_text.specs.Machinery.{left_out_on}
use Rattle.baked_text.specs.Walks.{saturated}
use Rattle.ports.proofs.GrownLemmas.{on_err}
use Rattle.xhtml_items.specs.Tokens.{item_of}
use Rattle.baked_text.proofs.put_items.put_item.Goals as goal

pub returns-in_err-put_all-in_default : goal.returns-in_err-put_all-in_default
returns-in_err-put_all-in_default g c =
    let other = other_token c.args.token.now c.in_default.not-StartTag c.in_default.not-EmptyTag c.in_default.not-EndTag in
    record {
      ok = search rules;
      left = search rules;
      left_out = search rules;
      failed =
          on_err _ (other_stops (item_of c.args.token.now) (chars c.args.item.now) (g.T.TagInsertions.left c.args.tags.now) _ _ other
          (stops_text _ _ c.args.item.now _ c.utf8.item c.as_bytes.ensures.value c.in_err-put_all-in_default.ensures.failed));
      cause = search rules;
      steps = omega arith;
    }

pub returns-in-EmptyTag-clause-ok : goal.returns-in-EmptyTag-clause-ok
returns-in-EmptyTag-clause-ok g c =
    on_ok_weaker c.put_empty_tag.result (empty_goes _ _ (chars c.args.item.now) (item_of c.args.token.now) (g.T.TagInsertions.left c.args.tags.now) _ _ (ap item_of c.in-EmptyTag.is)) c.put_empty_tag.ensures.ok

pub returns-in-EmptyTag-clause-failed : goal.returns-in-EmptyTag-clause-failed
returns-in-EmptyTag-clause-failed g c =
    on_err_weaker c.put_empty_tag.result (empty_stops _ _ (chars c.args.item.now) (item_of c.args.token.now) (g.T.TagInsertions.left c.args.tags.now) _ _ (ap item_of c.in-EmptyTag.is)) c.put_empty_tag.ensures.failed

pub returns-in_ok-put_all-in_default : goal.returns-in_ok-put_all-in_default
returns-in_ok-put_all-in_default g c =
    let other = other_token c.args.token.now c.in_default.not-StartTag c.in_default.not-EmptyTag c.in_default.not-EndTag in
    let none = no_tags_in (item_of c.args.token.now) other in
    record {
      ok =
          other_goes (item_of c.args.token.now) (chars c.args.item.now) (g.T.TagInsertions.left c.args.tags.now) _ _ other
          (went_text _ _ c.args.item.now _ c.utf8.item c.as_bytes.ensures.value c.in_ok-put_all-in_default.ensures.ok);
      left = ap (λ n. drop n (g.T.TagInsertions.left c.args.tags.now)) (sym none);
      left_out = ap (λ n. saturated (left_out_on (take n (g.T.TagInsertions.left c.args.tags.now)))) (sym none);
      failed = tt;
      cause = search rules;
      steps = omega arith;
    }
