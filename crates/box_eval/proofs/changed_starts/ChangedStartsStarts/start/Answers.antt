use Rattle.std.proofs.Common.{rules, ◌≡◌, ap, sym, ◌∙◌, [], to_z, of_z, w64, unwrap_or}
use Rattle.std.specs.Str.{chars}
use Rattle.reversed_start.specs.Starts.{start}
use Rattle.box_eval.specs.Starts.{starts_by}
use Rattle.box_eval.proofs.GroupLemmas.{found, no_event}
use Rattle.box_eval.proofs.changed_starts.ChangedStartsStarts.start.Goals as goal

pub returns-in-Some : goal.returns-in-Some
returns-in-Some c =
    let inside = c.self.inside in
    let number : to_z w64 (of_z w64 c.start_of.result) ≡ c.start_of.result = search rules in
    record {
      start =
          number ∙ c.start_of.ensures.start ∙ ap start c.as_slice.ensures.items
          ∙ ap (λ held. start (unwrap_or held [])) c.in-Some.ensures.value
          ∙ found inside.changes.now inside.groups c.self.invariant c.args.creator c.args.name c.utf8.name
          ∙ ap (λ changes. starts_by changes c.args.creator (chars c.args.name.now)) c.self.view_is;
    }

pub returns-in-None : goal.returns-in-None
returns-in-None c =
    let inside = c.self.inside in
    record {
      start =
          sym no_event
          ∙ ap (λ held. start (unwrap_or held [])) c.in-None.ensures.value
          ∙ found inside.changes.now inside.groups c.self.invariant c.args.creator c.args.name c.utf8.name
          ∙ ap (λ changes. starts_by changes c.args.creator (chars c.args.name.now)) c.self.view_is;
    }
