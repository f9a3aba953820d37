-- Looking for the type among the parts of `list-style`, one after the other.
use Rattle.std.proofs.Common.{◌≡◌, ℕ, ◌+◌, ◌<◌, List, ◌∷◌, Some, length, drop, get_or, add-one, refl, sym, ap, ◌∙◌}
use Rattle.std.proofs.Math.Seq.{drop-cons}
use Rattle.plain_types.specs.declared.style.ListType.{ListType}
use Rattle.css_values.specs.Lists.{given_type}
use Rattle.css_values.specs.declared.list_style.ListStylePart.{ListStylePart}
use Rattle.css_values.specs.declared.list_style.ListStylePart.TheVariants as part

module _ (parts : List ListStylePart) (i : ℕ) (item : ListStylePart) where
  here : i < length parts → item ≡ get_or parts i item → drop i parts ≡ item ∷ drop (i + 1) parts
  here within is = rw add-one (drop-cons parts i item within) ∙ ap (λ (first : ListStylePart). first ∷ drop (i + 1) parts) (sym is)

  pub type_here : (type : ListType) → i < length parts → given_type parts ≡ given_type (drop i parts) → item ≡ get_or parts i item → item ≡ part.Type type → given_type parts ≡ Some type
  type_here type within same is type_is = same ∙ rw (here within is, type_is) refl

  pub no_type_here : i < length parts → given_type parts ≡ given_type (drop i parts) → item ≡ get_or parts i item → ((type : ListType) → item ≡ part.Type type → ⊥) → given_type parts ≡ given_type (drop (i + 1) parts)
  no_type_here within same is other = same ∙ rw (here within is) (go item other)
    where
      go : (item : ListStylePart) → ((type : ListType) → item ≡ part.Type type → ⊥) → given_type (item ∷ drop (i + 1) parts) ≡ given_type (drop (i + 1) parts)
      go part.Position other = refl
      go part.Nothing other = refl
      go (part.Type type) other = absurd (other type refl)
