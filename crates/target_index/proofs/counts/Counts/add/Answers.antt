use Rattle.std.proofs.Common.{◌≡◌, ◌<◌, ◌^◌, ◌∙◌, ℕ, List, ap, subst, sym, None, cond, ◌+◌, arith}
use Rattle.std.specs.Map.{lookup}
use Rattle.std.specs.Str.{bytes_eq, chars}
use Rattle.std.specs.String.{string_bytes}
use Rattle.std.proofs.lemmas.Str.{IsUtf8-string_bytes}
use Rattle.indexmap.specs.IndexMap.{insert_entry}
use Rattle.target_index.specs.Counts.{count_of, counts_of}
use Rattle.target_index.proofs.ViewLemmas.{is_asked}
use Rattle.target_index.proofs.CountLemmas.{begun, count_there, counted}
use Rattle.target_index.proofs.counts.Counts.add.Goals as goal

pub overflow_add-count : goal.overflow_add-count
overflow_add-count c =
    let few : count_of (counts_of string_bytes c.self.inside.by_id.entries) (chars c.args.id.now) < 2 ^ 63 = subst (λ counts. count_of counts (chars c.args.id.now) < 2 ^ 63) (sym c.self.view_is) c.requires.few in
    omega (arith, few, count_there string_bytes IsUtf8-string_bytes c.self.inside.by_id.entries c.args.id.now c.utf8.id c.in-Some.count.now c.in-Some.ensures.value)

pub returns-in-Some : goal.returns-in-Some
returns-in-Some c = record {
  ok = rw (← c.self.view_is) (counted string_bytes IsUtf8-string_bytes c.self.inside.by_id.entries c.args.id.now c.utf8.id _ c.in-Some.count.now c.in-Some.ensures.value (c.get_mut.follows.holds (c.in-Some.count.now + 1)).0);
}

pub returns : goal.returns
returns c =
    let name : string_bytes c.in_ok-from_str.field-0 ≡ c.args.id.now = c.in_ok-from_str.ensures.ok in
    record {
      ok = rw (← c.self.view_is)
          (subst (λ bytes. (other : List ℕ) → count_of (counts_of string_bytes c.insert.new.self.entries) other ≡ count_of (counts_of string_bytes c.self.inside.by_id.entries) other + cond (bytes_eq other (chars bytes)) 1 0) name
          (begun string_bytes IsUtf8-string_bytes c.self.inside.by_id.entries _ c.in_ok-from_str.field-0
          (subst (λ bytes. None ≡ lookup (is_asked string_bytes bytes) c.self.inside.by_id.entries) (sym name) c.in_default.ensures.value)
          (c.in_ok-insert.ensures.entries ∙ ap (λ map. insert_entry (λ a b. bytes_eq (string_bytes a) (string_bytes b)) map.entries c.in_ok-from_str.field-0 1) c.get_mut.follows.holds-at-none)));
    }
