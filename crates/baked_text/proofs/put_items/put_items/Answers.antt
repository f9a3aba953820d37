use Rattle.std.proofs.Common.{◌∙◌, arith, sym}
use Rattle.std.specs.Str.{chars}
use Rattle.baked_text.proofs.LoopLaws.{all_counted, all_went, filled_text, item_found, item_there, none_found, plain_run, reached_first, reached_item, reached_run, rest_found, run_shorter, stops_here, stops_item, stops_run}
use Rattle.baked_text.proofs.OutLemmas.{stops_text, went_text}
use Rattle.ports.proofs.GrownLemmas.{on_err}
use Rattle.xhtml_items.proofs.ItemLaws.{begins_shorter}
use Rattle.xhtml_items.specs.Tokens.{item_of}
use Rattle.xhtml_reader.proofs.Texts.{empty_chars}
use Rattle.baked_text.proofs.put_items.put_items.Goals as goal

pub items-init : goal.items-init
items-init g c = record {
  kept_utf8 = c.utf8.kept;
  rest_utf8 = c.utf8.read;
  reached = reached_first (chars c.args.kept.now) (chars c.args.read.now) (g.T.TagInsertions.left c.args.tags.now) (g.O.Sink.out c.args.out.now);
  later = omega arith;
  spent = omega arith;
}

-- a run of plain characters

pub returns-in_err-put_all-clause-failed : goal.returns-in_err-put_all-clause-failed
returns-in_err-put_all-clause-failed g c =
    let run = plain_run _ _ _ c.split_plain.ensures.reads in
    on_err _ (stops_run _ _ _ _ _ _ _ _ _ c.items.invariant.reached (chars c.split_plain.result.0.now) (chars c.split_plain.result.1.now) (chars c.split_kept.result.0.now) (chars c.split_kept.result.1.now) _
    run.0 run.1 c.split_kept.ensures.splits (stops_text _ _ c.split_kept.result.0.now _ c.split_kept.ensures.front c.as_bytes.ensures.value c.in_err-put_all.ensures.failed))

pub items-smaller-then-not-is_empty : goal.items-smaller-then-not-is_empty
items-smaller-then-not-is_empty g c =
    run_shorter _ _ _ c.split_plain.ensures.reads (filled_text c.split_plain.result.0.now c.split_plain.ensures.front (sym c.is_empty-in-items.ensures ∙ c.if-not-is_empty.true))

pub items-preserved-then-not-is_empty : goal.items-preserved-then-not-is_empty
items-preserved-then-not-is_empty g c =
    let run = plain_run _ _ _ c.split_plain.ensures.reads in
    record {
      kept_utf8 = c.split_kept.ensures.text;
      rest_utf8 = c.split_plain.ensures.text;
      reached =
          reached_run _ _ _ _ _ _ _ _ _ c.items.invariant.reached (chars c.split_plain.result.0.now) (chars c.split_plain.result.1.now) (chars c.split_kept.result.0.now) (chars c.split_kept.result.1.now) _
          run.0 run.1 c.split_kept.ensures.splits (went_text _ _ c.split_kept.result.0.now _ c.split_kept.ensures.front c.as_bytes.ensures.value c.in_ok-put_all.ensures.ok);
      later = omega (arith, c.items.invariant.later, c.in_ok-put_all.ensures.cause.later);
      spent = c.items.invariant.spent;
    }

-- an item

pub returns-in-Err-clause-failed : goal.returns-in-Err-clause-failed
returns-in-Err-clause-failed g c = stops_here _ _ _ _ _ _ _ _ _ c.items.invariant.reached

pub returns-in-Ok-None-clause-ok : goal.returns-in-Ok-None-clause-ok
returns-in-Ok-None-clause-ok g c = λ pieces is.
    let none = none_found _ _ c.in-Ok-None.field-0-is c.in-Ok-None.ensures.item in
    absurd (item_there _ _ _ _ _ _ _ _ _ c.items.invariant.reached (filled_text c.items.rest.now c.items.invariant.rest_utf8 (sym c.items-test.ensures)) none pieces is)

pub returns-in-Ok-None-clause-left_out : goal.returns-in-Ok-None-clause-left_out
returns-in-Ok-None-clause-left_out g c = λ pieces is even.
    let none = none_found _ _ c.in-Ok-None.field-0-is c.in-Ok-None.ensures.item in
    absurd (item_there _ _ _ _ _ _ _ _ _ c.items.invariant.reached (filled_text c.items.rest.now c.items.invariant.rest_utf8 (sym c.items-test.ensures)) none pieces is)

pub returns-in_err-count-in-Ok-Some-clause-failed : goal.returns-in_err-count-in-Ok-Some-clause-failed
returns-in_err-count-in-Ok-Some-clause-failed g c =
    let begins = item_found _ _ (c.in-Ok-Some.token, c.in-Ok-Some.after) c.in-Ok-Some.field-0-is c.in-Ok-Some.ensures.item in
    on_err _ (stops_item _ _ _ _ _ _ _ _ _ c.items.invariant.reached (chars c.front_before.result.now) (chars c.in-Ok-Some.after.now) (chars c.split_kept-in-Ok-Some.result.0.now) (chars c.split_kept-in-Ok-Some.result.1.now)
    (item_of c.in-Ok-Some.token) _ begins c.front_before.ensures.parts c.split_kept-in-Ok-Some.ensures.splits c.in_err-count-in-Ok-Some.ensures.failed)

pub items-smaller : goal.items-smaller
items-smaller g c =
    let begins = item_found _ _ (c.in-Ok-Some.token, c.in-Ok-Some.after) c.in-Ok-Some.field-0-is c.in-Ok-Some.ensures.item in
    begins_shorter _ _ _ begins

pub items-preserved : goal.items-preserved
items-preserved g c =
    let begins = item_found _ _ (c.in-Ok-Some.token, c.in-Ok-Some.after) c.in-Ok-Some.field-0-is c.in-Ok-Some.ensures.item in
    record {
      kept_utf8 = c.split_kept-in-Ok-Some.ensures.text;
      rest_utf8 = rest_found _ (c.in-Ok-Some.token, c.in-Ok-Some.after) c.in-Ok-Some.field-0-is c.in-Ok-Some.ensures.rest;
      reached =
          reached_item _ _ _ _ _ _ _ _ _ c.items.invariant.reached (chars c.front_before.result.now) (chars c.in-Ok-Some.after.now) (chars c.split_kept-in-Ok-Some.result.0.now) (chars c.split_kept-in-Ok-Some.result.1.now)
          (item_of c.in-Ok-Some.token) _ _ _ _ begins c.front_before.ensures.parts c.split_kept-in-Ok-Some.ensures.splits c.in_ok-count-in-Ok-Some.ensures.ok c.in_ok-count-in-Ok-Some.ensures.left
          c.in_ok-count-in-Ok-Some.ensures.left_out c.saturating_add-left_out.ensures;
      later = omega (arith, c.items.invariant.later, c.in_ok-count-in-Ok-Some.ensures.cause.later);
      spent = omega (arith, c.items.invariant.spent, c.in_ok-count-in-Ok-Some.ensures.steps);
    }

pub items-preserved-in_ok-count-in-Ok-Some : goal.items-preserved-in_ok-count-in-Ok-Some
items-preserved-in_ok-count-in-Ok-Some g c =
    let begins = item_found _ _ (c.in-Ok-Some.token, c.in-Ok-Some.after) c.in-Ok-Some.field-0-is c.in-Ok-Some.ensures.item in
    record {
      kept_utf8 = c.split_kept-in-Ok-Some.ensures.text;
      rest_utf8 = rest_found _ (c.in-Ok-Some.token, c.in-Ok-Some.after) c.in-Ok-Some.field-0-is c.in-Ok-Some.ensures.rest;
      reached =
          reached_item _ _ _ _ _ _ _ _ _ c.items.invariant.reached (chars c.front_before.result.now) (chars c.in-Ok-Some.after.now) (chars c.split_kept-in-Ok-Some.result.0.now) (chars c.split_kept-in-Ok-Some.result.1.now)
          (item_of c.in-Ok-Some.token) _ _ _ _ begins c.front_before.ensures.parts c.split_kept-in-Ok-Some.ensures.splits c.in_ok-count-in-Ok-Some.ensures.ok c.in_ok-count-in-Ok-Some.ensures.left
          c.in_ok-count-in-Ok-Some.ensures.left_out c.saturating_add-left_out.ensures;
      later = omega (arith, c.items.invariant.later, c.in_ok-count-in-Ok-Some.ensures.cause.later);
      spent = omega (arith, c.items.invariant.spent, c.in_ok-count-in-Ok-Some.ensures.steps);
    }

pub items-preserved-in_ok-count-in-Ok-Some-2 : goal.items-preserved-in_ok-count-in-Ok-Some-2
items-preserved-in_ok-count-in-Ok-Some-2 g c =
    let begins = item_found _ _ (c.in-Ok-Some.token, c.in-Ok-Some.after) c.in-Ok-Some.field-0-is c.in-Ok-Some.ensures.item in
    record {
      kept_utf8 = c.split_kept-in-Ok-Some.ensures.text;
      rest_utf8 = rest_found _ (c.in-Ok-Some.token, c.in-Ok-Some.after) c.in-Ok-Some.field-0-is c.in-Ok-Some.ensures.rest;
      reached =
          reached_item _ _ _ _ _ _ _ _ _ c.items.invariant.reached (chars c.front_before.result.now) (chars c.in-Ok-Some.after.now) (chars c.split_kept-in-Ok-Some.result.0.now) (chars c.split_kept-in-Ok-Some.result.1.now)
          (item_of c.in-Ok-Some.token) _ _ _ _ begins c.front_before.ensures.parts c.split_kept-in-Ok-Some.ensures.splits c.in_ok-count-in-Ok-Some.ensures.ok c.in_ok-count-in-Ok-Some.ensures.left
          c.in_ok-count-in-Ok-Some.ensures.left_out c.saturating_add-left_out.ensures;
      later = omega (arith, c.items.invariant.later, c.in_ok-count-in-Ok-Some.ensures.cause.later);
      spent = omega (arith, c.items.invariant.spent, c.in_ok-count-in-Ok-Some.ensures.steps);
    }

-- the end

pub returns-clause-ok : goal.returns-clause-ok
returns-clause-ok g c = all_went _ _ _ _ _ _ _ _ _ c.items.invariant.reached (empty_chars c.items.rest.now (sym c.items-test.ensures))

pub returns-clause-left_out : goal.returns-clause-left_out
returns-clause-left_out g c = all_counted _ _ _ _ _ _ _ _ _ c.items.invariant.reached (empty_chars c.items.rest.now (sym c.items-test.ensures))
