use Rattle.std.specs.String.{string_bytes}
use Rattle.std.proofs.lemmas.Str.{IsUtf8-string_bytes}
use Rattle.counter_sets.proofs.ByNameLemmas.{put}
use Rattle.counter_sets.proofs.by_name.ByName.put.Goals as goal

pub returns : goal.returns
returns g c = record {
  ok = rw (← c.self.view_is) (put string_bytes IsUtf8-string_bytes c.self.inside.by_name.entries c.insert.new.self.entries c.in_ok-from_str.field-0 c.args.value c.args.name.now c.in_ok-from_str.ensures.ok c.in_ok-insert.ensures.entries);
}
