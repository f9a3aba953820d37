use Rattle.std.proofs.Common.{◌∙◌, Some, ap, sym}
use Rattle.std.specs.Option.{option_map}
use Rattle.std.specs.Str.{chars}
use Rattle.plain_types.specs.declared.style.Pair.{Pair}
use Rattle.quote_depth.proofs.MarkLemmas.{outer_auto, inner_auto, of_pairs}
use Rattle.quote_depth.proofs.marks_at.Goals as goal

pub returns-in-Auto-clause-left : goal.returns-in-Auto-clause-left
unfolding chars
returns-in-Auto-clause-left c = ap (option_map (λ (pair : Pair). pair.left)) (sym (outer_auto c.args.quotes.now c.args.depth c.in-Auto.is c.if-depth-eq0.true))

pub returns-in-Auto-clause-right : goal.returns-in-Auto-clause-right
unfolding chars
returns-in-Auto-clause-right c = ap (option_map (λ (pair : Pair). pair.right)) (sym (outer_auto c.args.quotes.now c.args.depth c.in-Auto.is c.if-depth-eq0.true))

pub returns-in-Auto-2-clause-left : goal.returns-in-Auto-2-clause-left
unfolding chars
returns-in-Auto-2-clause-left c = ap (option_map (λ (pair : Pair). pair.left)) (sym (inner_auto c.args.quotes.now c.args.depth c.in-Auto-2.is c.if-depth-eq0.false))

pub returns-in-Auto-2-clause-right : goal.returns-in-Auto-2-clause-right
unfolding chars
returns-in-Auto-2-clause-right c = ap (option_map (λ (pair : Pair). pair.right)) (sym (inner_auto c.args.quotes.now c.args.depth c.in-Auto-2.is c.if-depth-eq0.false))

pub returns-in_ok-last-in-Pairs-clause-left : goal.returns-in_ok-last-in-Pairs-clause-left
returns-in_ok-last-in-Pairs-clause-left c =
    ap Some c.as_str.ensures.characters
    ∙ ap (option_map (λ (pair : Pair). pair.left))
    (sym (of_pairs c.args.quotes.now c.as_slice-pairs.result.now c.in-Pairs.pairs c.args.depth c.in_ok-last-in-Pairs.last c.min.result c.index-pairs-min.result
    c.in-Pairs.is c.as_slice-pairs.ensures.items c.in_ok-last-in-Pairs.ensures.0 c.in_ok-last-in-Pairs.ensures.1 c.min.ensures c.index-pairs-min.is))

pub returns-in_ok-last-in-Pairs-clause-right : goal.returns-in_ok-last-in-Pairs-clause-right
returns-in_ok-last-in-Pairs-clause-right c =
    ap Some c.as_str-in-Pairs.ensures.characters
    ∙ ap (option_map (λ (pair : Pair). pair.right))
    (sym (of_pairs c.args.quotes.now c.as_slice-pairs.result.now c.in-Pairs.pairs c.args.depth c.in_ok-last-in-Pairs.last c.min.result c.index-pairs-min.result
    c.in-Pairs.is c.as_slice-pairs.ensures.items c.in_ok-last-in-Pairs.ensures.0 c.in_ok-last-in-Pairs.ensures.1 c.min.ensures c.index-pairs-min.is))
