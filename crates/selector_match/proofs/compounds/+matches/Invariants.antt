use Rattle.std.proofs.Common.{◌≡◌, drop}
use Rattle.std.specs.List.{list_any, list_all}
use Rattle.selector_match.specs.Matching.{matches_simple, matches_compound}
use Rattle.selector_match.proofs.compounds.+matches.Given as goal

abbrev pub invariant-matches_compound-loop-simple : goal.invariant-matches_compound-loop-simple
invariant-matches_compound-loop-simple l = list_all (matches_simple l.element) (drop l.simple-index l.simple-items) ≡ matches_compound l.element l.compound

abbrev pub invariant-matches_one-loop-choice : goal.invariant-matches_one-loop-choice
invariant-matches_one-loop-choice l = list_any (matches_compound l.element) (drop l.choice-index l.choices) ≡ list_any (matches_compound l.element) l.choices
