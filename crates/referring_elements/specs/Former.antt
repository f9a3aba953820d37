-- What ids named before an edit (our own, over DOM, 4.2.4 and 4.9).
use Rattle.std.specs.Prelude.{◌≡◌, ℕ, nat_eq, Bool, true, not, List}
use Rattle.std.specs.List.{AllByRecursion, list_any}
use Rattle.std.specs.Option.{option_eq}
use Rattle.std.specs.Str.{bytes_eq}
use Rattle.forest.specs.Forest.{Forest}
use Rattle.forest.specs.Keys.{Keyed}
use Rattle.plain_types.specs.declared.node.Node.{Node}
use Rattle.generated_texts.specs.References.{first_holder}
use Rattle.reference_reach.specs.ChangedTargets.{Evaluated, has_other_target}
use Rattle.referring_elements.specs.declared.former.FormerTarget.{FormerTarget}

-- the id names another element now, or none any longer
abbrev pub is_former : Forest (Keyed Node) → FormerTarget → Bool
is_former document target = not (option_eq nat_eq target.element (first_holder document target.id))

-- Each of these ids named this element before the edit, and each id that names another one now is among them.
pub record AreFormerTargets (former : List FormerTarget) (before after : Evaluated) : Type 0 where
  pub were : AllByRecursion (λ (target : FormerTarget). target.element ≡ first_holder before.tree target.id) former
  pub complete : (id : List ℕ) → has_other_target before after id ≡ true → list_any (λ (target : FormerTarget). bytes_eq id target.id) former ≡ true
