use Rattle.std.proofs.Common.{◌++◌, length, sym, ◌∙◌, ap, arith}
use Rattle.std.specs.Str.{chars}
use Rattle.std.proofs.lemmas.List.{length-append}
use Rattle.xhtml_items.proofs.Cuts.{Cut-boundary, Cut-front}
use Rattle.baked_text.proofs.SplitLaws.{cut_from_chars}
use Rattle.baked_text.proofs.splitting.front_before.Goals as goal

pub overflow_sub-text : goal.overflow_sub-text
overflow_sub-text c =
    let cut = cut_from_chars c.args.text.now c.requires.0 c.args.rest.now c.utf8.text c.utf8.rest c.requires.1 in
    omega (arith, ap length cut.parts, length-append cut.bytes c.args.rest.now)

pub split_at-requires : goal.split_at-requires
split_at-requires c =
    Cut-boundary c.args.text.now c.requires.0 c.args.rest.now (cut_from_chars c.args.text.now c.requires.0 c.args.rest.now c.utf8.text c.utf8.rest c.requires.1) c.utf8.rest

pub returns-clause-parts : goal.returns-clause-parts
returns-clause-parts c =
    let cut = cut_from_chars c.args.text.now c.requires.0 c.args.rest.now c.utf8.text c.utf8.rest c.requires.1 in
    ap (λ t. t ++ chars c.args.rest.now) (ap chars c.split_at.ensures.front ∙ Cut-front c.args.text.now c.requires.0 c.args.rest.now cut c.utf8.rest c.utf8.text) ∙ sym c.requires.1
