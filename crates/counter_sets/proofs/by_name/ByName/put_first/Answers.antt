use Rattle.std.proofs.Common.{◌∙◌, ap, is_some, sym}
use Rattle.std.specs.Str.{chars}
use Rattle.std.specs.String.{string_bytes}
use Rattle.std.proofs.lemmas.Str.{IsUtf8-string_bytes}
use Rattle.counter_sets.specs.ByNames.{by_names}
use Rattle.counter_sets.proofs.ByNameLemmas.{held, put, put_there, seen}
use Rattle.counter_sets.proofs.by_name.ByName.put_first.Goals as goal

pub returns-then-contains_key : goal.returns-then-contains_key
returns-then-contains_key g c =
    let entries = c.self.inside.by_name.entries in
    record {
      ok = rw (← c.self.view_is) (λ other. held (by_names string_bytes entries) (chars c.args.name.now) other c.args.value (ap is_some (seen string_bytes IsUtf8-string_bytes c.args.name.now c.utf8.name entries) ∙ sym c.contains_key.ensures ∙ c.if-contains_key.true));
    }

pub returns : goal.returns
returns g c =
    let entries = c.self.inside.by_name.entries in
    record {
      ok = rw (← c.self.view_is) (λ other.
          put string_bytes IsUtf8-string_bytes entries c.insert.new.self.entries c.in_ok-from_str.field-0 c.args.value c.args.name.now c.in_ok-from_str.ensures.ok c.in_ok-insert.ensures.entries other
          ∙ put_there (by_names string_bytes entries) (chars c.args.name.now) other c.args.value (ap is_some (seen string_bytes IsUtf8-string_bytes c.args.name.now c.utf8.name entries) ∙ sym c.contains_key.ensures ∙ c.if-contains_key.false));
    }
