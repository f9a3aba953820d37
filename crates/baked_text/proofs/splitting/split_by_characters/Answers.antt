use Rattle.std.proofs.Common.{length, ap, arith}
use Rattle.std.proofs.lemmas.List.{length-append}
use Rattle.xhtml_items.proofs.Cuts.{Cut-boundary}
use Rattle.baked_text.proofs.SplitLaws.{cut_from_chars, splitting_all, splitting_more, splitting_none}
use Rattle.baked_text.proofs.splitting.split_by_characters.Goals as goal

pub loop-after-init : goal.loop-after-init
loop-after-init c = record { utf8 = c.utf8.kept; unread_utf8 = c.utf8.read; splitting = splitting_none c.args.kept.now c.args.read.now }

pub loop-after-smaller : goal.loop-after-smaller
loop-after-smaller c = omega (arith, ap length c.in-Some.ensures.chars)

pub loop-after-preserved : goal.loop-after-preserved
loop-after-preserved c = record {
  utf8 = c.past_first-rest.ensures.text;
  unread_utf8 = c.in-Some.ensures.text;
  splitting = splitting_more _ _ _ _ _ _ _ c.loop-after.invariant.splitting c.in-Some.ensures.chars c.past_first-rest.ensures.past;
}

pub overflow_sub-kept : goal.overflow_sub-kept
overflow_sub-kept c =
    let s = c.loop-after.invariant.splitting in
    let cut = cut_from_chars c.args.kept.now s.front c.loop-after.rest.now c.utf8.kept c.loop-after.invariant.utf8 s.parts in
    omega (arith, ap length cut.parts, length-append cut.bytes c.loop-after.rest.now)

pub split_at-requires : goal.split_at-requires
split_at-requires c =
    let s = c.loop-after.invariant.splitting in
    Cut-boundary c.args.kept.now s.front c.loop-after.rest.now (cut_from_chars c.args.kept.now s.front c.loop-after.rest.now c.utf8.kept c.loop-after.invariant.utf8 s.parts) c.loop-after.invariant.utf8

pub returns-clause-splits : goal.returns-clause-splits
returns-clause-splits c =
    splitting_all c.args.kept.now c.args.read.now c.loop-after.rest.now c.loop-after.unread.now _ _ c.utf8.kept c.loop-after.invariant.utf8 c.loop-after.invariant.splitting c.in_default.ensures.chars c.split_at.ensures.front c.split_at.ensures.back
