use Rattle.std.proofs.Common.{◌<◌, ◌≤◌, ◌||◌, [], get_or, length, sym, ap, ◌∙◌, arith}
use Rattle.std.specs.List.{list_any}
use Rattle.std.proofs.lemmas.List.{take_all}
use Rattle.std.proofs.lemmas.List.Folds.{list_any_at, list_any_more}
use Rattle.plain_types.specs.Rows.{row, rows}
use Rattle.plain_types.specs.declared.node.Node.TheVariants.{Text}
use Rattle.plain_types.specs.declared.row.Row.{Row}
use Rattle.style_reach.specs.TouchedSheets.{is_style}
use Rattle.style_reach.proofs.StyleLookups.{have_style-rows}
use Rattle.style_reach.proofs.style_elements.have_style.Goals as goal

-- any row
abbrev one : Row
one = row 0 (Text [])

pub returns-then-shows_style : goal.returns-then-shows_style
returns-then-shows_style c =
    let all = rows 0 c.args.tree.now in
    let within : c.loop-place.place < length all = omega (arith, c.loop-place-test.true, c.len-place-end.ensures.nodes) in
    sym (list_any_at (λ (row : Row). is_style row.node) all c.loop-place.place one within (sym (c.shows_style.ensures _ (c.node.ensures.shown one)) ∙ c.if-shows_style.true))
    ∙ have_style-rows c.args.tree.now

pub loop-place-preserved : goal.loop-place-preserved
loop-place-preserved c =
    let all = rows 0 c.args.tree.now in
    let within : c.loop-place.place < length all = omega (arith, c.loop-place-test.true, c.len-place-end.ensures.nodes) in
    list_any_more (λ (row : Row). is_style row.node) all c.loop-place.place one within
    ∙ ap (λ b. b || is_style (get_or all c.loop-place.place one).node) c.loop-place.invariant
    ∙ sym (c.shows_style.ensures _ (c.node.ensures.shown one)) ∙ c.if-shows_style.false

pub returns : goal.returns
returns c =
    let all = rows 0 c.args.tree.now in
    let past : length all ≤ c.loop-place.place = omega (arith, c.loop-place-test.false, c.len-place-end.ensures.nodes) in
    sym c.loop-place.invariant
    ∙ ap (list_any (λ (row : Row). is_style row.node)) (take_all c.loop-place.place all past)
    ∙ have_style-rows c.args.tree.now
