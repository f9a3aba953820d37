use Rattle.std.proofs.Common.{◌∙◌, inr}
use Rattle.marker_cli.proofs.TextLemmas.{text_is, text_is_not}
use Rattle.marker_cli.proofs.fetch_text.text_of.Goals as goal

pub returns-in_ok-from_str-in-Ok : goal.returns-in_ok-from_str-in-Ok
returns-in_ok-from_str-in-Ok c = record {
  text = text_is c.args.file c.args.bytes.now c.in-Ok.text.now c.in_ok-from_str-in-Ok.field-0 c.in-Ok.ensures.cases.1 c.in-Ok.ensures.cases.0 c.in_ok-from_str-in-Ok.ensures.characters;
  file = λ tells. absurd tells;
  stops = tt;
}

pub returns-in-Err : goal.returns-in-Err
returns-in-Err c = record {
  text = inr (text_is_not c.args.file c.args.bytes.now c.valid_up_to.result c.in-Err.ensures.cases.0 (c.valid_up_to.ensures ∙ c.in-Err.ensures.valid_len));
  file = λ tells. tells;
  stops = tt;
}
