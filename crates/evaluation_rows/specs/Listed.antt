-- Elements that urls name, as a list.
use Rattle.std.specs.Prelude.{ℕ, Bool, List, [], Option, None, find}
use Rattle.std.specs.Option.{option_and_then, option_map_or}
use Rattle.std.specs.Str.{bytes_eq}
use Rattle.plain_types.specs.declared.content.Part.{Part}
use Rattle.plain_types.specs.declared.content.Part.TheVariants.{Content, Before, After}
use Rattle.content_eval.specs.Targets.{Known}
use Rattle.evaluation_rows.specs.declared.listed.Target.{Target}

abbrev pub has_id : List ℕ → Target → Bool
has_id id target = bytes_eq id target.id

-- the first element of this id
abbrev pub target_of : List Target → List ℕ → Option Target
target_of targets id = find (has_id id) targets

abbrev pub flat_of : Part → Target → Option (List ℕ)
flat_of Content target = None
flat_of Before target = target.before
flat_of After target = target.after

abbrev pub known_of : List Target → Known
known_of targets = record {
  counters = λ id. option_and_then (λ (target : Target). target.set) (target_of targets id);
  characters = λ id. option_map_or (λ (target : Target). target.characters) (target_of targets id) [];
  flat = λ id part. option_and_then (flat_of part) (target_of targets id);
}
