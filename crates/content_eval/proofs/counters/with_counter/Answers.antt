use Rattle.std.proofs.Common.{◌≡◌, ◌∙◌, ℕ, List, Option, None, Some, false, pos, is_some, option_copied, subst, sym, Bor}
use Rattle.plain_types.specs.declared.counter.Counter.{Counter}
use Rattle.counter_sets.specs.Sets.{AreDistinct, innermost, innermost_place, is_missing_in}
use Rattle.counter_sets.proofs.DistinctLemmas.{instantiated_distinct, unnamed_missing}
use Rattle.counter_sets.proofs.SetLemmas.{innermost_none}
use Rattle.content_eval.proofs.counters.with_counter.Goals as goal

no_place : (set : List Counter) (name : List ℕ) (found : Option (Bor Counter)) → option_copied found ≡ innermost set name → is_some found ≡ false → innermost_place set name ≡ None
no_place set name None e h = innermost_none set name (sym e)
no_place set name (Some counter) e h = absurd (cc)

pub instantiate-requires : goal.instantiate-requires
instantiate-requires c =
    let new : Counter = record { name = c.in_ok-from_str.field-0; creator = c.args.place.now.creator; reversed = false; value = pos 0 } in
    let none : innermost_place c.args.set c.in_ok-from_str.field-0 ≡ None =
    subst (λ (name : List ℕ). innermost_place c.args.set name ≡ None) (c.as_str.ensures.characters ∙ sym (c.in_ok-from_str.ensures.characters ∙ c.as_str-2.ensures.characters))
    (no_place c.args.set _ c.innermost.result c.innermost.ensures.innermost (sym c.is_some.ensures ∙ c.if-is_some.false)) in
    record {
      distinct = instantiated_distinct (is_missing_in c.args.place.now.parent) c.args.set new (subst AreDistinct c.set.view_is c.set.invariant) (unnamed_missing c.args.set new none);
    }
