use Rattle.std.proofs.Common.{◌≡◌, ◌++◌, drop, flat_map, map}
use Rattle.std.specs.Map.Iter.{deref}
use Rattle.plain_types.specs.declared.selector_parts.PseudoElement.TheVariants.{Own, Marker, Before, After}
use Rattle.mini_cascade.specs.Declarations.{declared_in}
use Rattle.mini_cascade.proofs.applicable.add_rules.Given as goal

abbrev pub invariant-loop-rule : goal.invariant-loop-rule
invariant-loop-rule l = record {
  own : l.lists.own ++ flat_map (declared_in l.siblings l.key Own l.origin) (map deref (drop l.rule-index l.rules))
      ≡ l.initial.lists.own ++ flat_map (declared_in l.siblings l.key Own l.origin) (map deref l.rules);
  marker : l.lists.marker ++ flat_map (declared_in l.siblings l.key Marker l.origin) (map deref (drop l.rule-index l.rules))
      ≡ l.initial.lists.marker ++ flat_map (declared_in l.siblings l.key Marker l.origin) (map deref l.rules);
  before : l.lists.before ++ flat_map (declared_in l.siblings l.key Before l.origin) (map deref (drop l.rule-index l.rules))
      ≡ l.initial.lists.before ++ flat_map (declared_in l.siblings l.key Before l.origin) (map deref l.rules);
  after : l.lists.after ++ flat_map (declared_in l.siblings l.key After l.origin) (map deref (drop l.rule-index l.rules))
      ≡ l.initial.lists.after ++ flat_map (declared_in l.siblings l.key After l.origin) (map deref l.rules);
}
