use Rattle.std.proofs.Common.{◌≡◌, List, filter, Option, Some, is_some, sym, ap, ◌∙◌}
use Rattle.reading.specs.Reading.{◌then◌}
use Rattle.mini_cascade.specs.Declarations.{Applied}
use Rattle.mini_cascade.specs.Greatest.{greatest}
use Rattle.mini_cascade.specs.Styles.{gives_way}
use Rattle.mini_cascade.proofs.Candidates.{applied_of, applied_in}
use Rattle.mini_cascade.proofs.candidate.Candidates.cascaded.Goals as goal

pub returns : goal.returns
returns g c =
    let says = g.P.Property.definition.said_by in
    let found : List Applied → Option Applied = λ all. greatest gives_way (filter (λ (a : Applied). is_some (says a.what)) all) in
    let all : applied_in c.as_slice.result.now ≡ c.args.self.now = ap applied_in c.as_slice.ensures.value ∙ c.self.view_is in
    let is : found c.args.self.now ≡ Some (applied_of c.in_ok-winner.field-0) = sym (ap found all) ∙ sym c.in_ok-winner.ensures in
    c.said.ensures ∙ sym (ap (λ (winner : Option Applied). winner then λ a. says a.what) is)
