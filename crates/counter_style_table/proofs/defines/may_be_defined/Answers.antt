use Rattle.std.proofs.Common.{◌≡◌, ℕ, List, Option, Some, None, Bool, true, false, not, ◌++◌, refl, sym, ap, ◌∙◌}
use Rattle.std.specs.Borrow.{Bor}
use Rattle.std.specs.Prelude.{is_some, option_copied}
use Rattle.css_definitions.specs.CounterStyles.{excluded_names, kept_names}
use Rattle.plain_types.proofs.StyleNameLemmas.{is_some-known}
use Rattle.counter_style_table.proofs.defines.may_be_defined.Goals as goal

not_not : (a b : Bool) → a ≡ not b → b ≡ not a
not_not a true e = ap not (sym e)
not_not a false e = ap not (sym e)

is_some-copied : (found : Option (Bor (List ℕ))) → is_some found ≡ is_some (option_copied found)
is_some-copied None = refl
is_some-copied (Some name) = refl

pub returns : goal.returns
returns c = record {
  test =
      not_not _ _ c.is_none.ensures
      ∙ ap not (is_some-copied c.first_equal.result ∙ ap is_some c.first_equal.ensures.first ∙ is_some-known (excluded_names ++ kept_names) c.args.name.now c.utf8.name refl);
}
