use Rattle.std.proofs.Common.{◌≡◌, ◌+◌, ◌++◌, ◌∷◌, [], ◌∙◌, Some, ap, arith, length}
use Rattle.merged_walk.specs.declared.stop.Stop.{Stop}
use Rattle.edit_merge.proofs.JoiningLaws.{last-get, last-set}
use Rattle.edit_merge.proofs.stops.put_link.Goals as goal

pub returns-in-Some : goal.returns-in-Some
returns-in-Some c = record {
  last = λ before stop is.
      let items = c.args.stops.now.items in
      let long : c.in-Some.last + 1 ≡ length items = omega (arith, c.in-Some.ensures.0, c.in-Some.ensures.1, c.len.ensures, c.args.stops.now.ok.0) in
      let was : c.index-stop.result.now ≡ stop = last-get items before stop c.index-stop.result.now c.in-Some.last is long c.index-stop.ensures in
      last-set items before stop (record c.index-stop.result.now { link = Some c.args.key }) c.in-Some.last is long ∙ ap (λ (s : Stop). before ++ record s { link = Some c.args.key } ∷ []) was;
}
