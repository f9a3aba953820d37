use Rattle.std.proofs.Common.{nat_eq, ap, ◌∙◌}
use Rattle.std.specs.List.{starts_with}
use Rattle.baked_text.proofs.SplitLaws.{begins, begins_boundary, begins_splits}
use Rattle.baked_text.proofs.splitting.split_kept.Goals as goal

pub split_at-requires : goal.split_at-requires
split_at-requires c =
    let is = ap (λ t. starts_with nat_eq t c.as_bytes-2.result.now) c.as_bytes.ensures.value ∙ ap (λ t. starts_with nat_eq c.args.kept.now t) c.as_bytes-2.ensures.value in
    begins_boundary c.args.kept.now c.args.read.now c.utf8.kept c.utf8.read (begins c.args.kept.now c.args.read.now _ (c.starts_with.ensures.value ∙ is) c.if-starts_with.true)

pub returns-then-starts_with-clause-splits : goal.returns-then-starts_with-clause-splits
returns-then-starts_with-clause-splits c =
    let is = ap (λ t. starts_with nat_eq t c.as_bytes-2.result.now) c.as_bytes.ensures.value ∙ ap (λ t. starts_with nat_eq c.args.kept.now t) c.as_bytes-2.ensures.value in
    begins_splits c.args.kept.now c.args.read.now c.split_at.result.0.now c.split_at.result.1.now c.utf8.read
    (begins c.args.kept.now c.args.read.now _ (c.starts_with.ensures.value ∙ is) c.if-starts_with.true) c.split_at.ensures.front c.split_at.ensures.back
