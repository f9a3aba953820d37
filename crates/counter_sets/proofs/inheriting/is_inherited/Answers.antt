use Rattle.std.proofs.Common.{◌∙◌, ◌++◌, ◌==◌, [], ap, filter, length, map, sym, true≢false}
use Rattle.counter_sets.specs.Sets.{is_missing_in, valued_in}
use Rattle.counter_sets.proofs.InheritLemmas.{empty_is, not_parent, past_parent, whole, nothing_past}
use Rattle.counter_sets.proofs.inheriting.is_inherited.Goals as goal

pub returns-in_default : goal.returns-in_default
returns-in_default c =
    let parent = c.args.parent.now in
    let added = filter (is_missing_in parent) c.args.sibling.now in
    record {
      test = (λ h. absurd (true≢false (sym h)), λ e. absurd (not_parent (valued_in c.args.values.now) parent added c.args.list.now c.in_default.ensures.none e));
    }

pub returns-in_default-past_added : goal.returns-in_default-past_added
returns-in_default-past_added c =
    let parent = c.args.parent.now in
    let values = valued_in c.args.values.now in
    let added = filter (is_missing_in parent) c.args.sibling.now in
    record {
      test = (
        λ h. absurd (true≢false (sym h)),
        λ e. absurd (c.in_default-past_added.ensures.none []
            (past_parent values parent added c.args.list.now c.in-Some.others.now c.in-Some.ensures.past e ∙ ap (λ counters. map values counters ++ []) (sym c.besides.ensures.same))),
      );
    }

pub returns : goal.returns
returns c =
    let parent = c.args.parent.now in
    let values = valued_in c.args.values.now in
    let added = filter (is_missing_in parent) c.args.sibling.now in
    let others = c.in-Some.others.now in
    let rest = c.in-Some-past_added.rest.now in
    let goes = c.in-Some-past_added.ensures.past ∙ ap (λ counters. map values counters ++ rest) c.besides.ensures.same in
    record {
      test = (
        λ h. whole values parent added c.args.list.now others rest c.in-Some.ensures.past goes (empty_is rest (sym c.is_empty.ensures ∙ h)),
        λ e. c.is_empty.ensures ∙ ap (λ counters. length counters == 0) (nothing_past values parent added c.args.list.now others rest c.in-Some.ensures.past goes e),
      );
    }
