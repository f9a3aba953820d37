-- Of each descriptor the last.
use Rattle.std.proofs.Common.{◌≡◌, Bool, true, false, not, ◌||◌, List, [], ◌∷◌, ◌++◌, Option, Some, None, refl, ap, ◌∙◌, inl, inr}
use Rattle.std.specs.List.{filter, filter_map, list_any}
use Rattle.std.proofs.lemmas.Bool.{cases_Bool}
use Rattle.plain_types.specs.declared.counter_style.Descriptor.{Descriptor}
use Rattle.reading.specs.Reading.{run_at}
use Rattle.reading.proofs.Following.{takes_shorter}
use Rattle.css_tokens.specs.declared.token.Token.{Token}
use Rattle.css_reader.specs.Declarations.{descriptor_in, is_same_descriptor, last_of_each}
use Rattle.css_reader.specs.Rules.{part_at}
use Rattle.css_reader.proofs.Gathering.{Gathers, Gathers-start, Gathers-more, Gathers-read}
use Rattle.css_reader.proofs.Taking.{part_takes}

module _ (last : Descriptor) where
  abbrev is_other : Descriptor → Bool
  is_other earlier = not (is_same_descriptor earlier last)

  -- one more descriptor at the end is the same as another, or it is not
  any_or_last : (first : Descriptor) (rest : List Descriptor) → list_any (is_same_descriptor first) (rest ++ last ∷ []) ≡ (list_any (is_same_descriptor first) rest || is_same_descriptor first last)
  any_or_last first [] = or_false (is_same_descriptor first last)
    where
      or_false : (b : Bool) → (b || false) ≡ b
      or_false true = refl
      or_false false = refl
  any_or_last first (second ∷ rest) = ap (λ (b : Bool). is_same_descriptor first second || b) (any_or_last first rest) ∙ or_assoc (is_same_descriptor first second) _ _
    where
      or_assoc : (a b c : Bool) → (a || (b || c)) ≡ ((a || b) || c)
      or_assoc true b c = refl
      or_assoc false b c = refl

  pub last_of_each-append : (found : List Descriptor) → last_of_each (found ++ last ∷ []) ≡ filter is_other (last_of_each found) ++ last ∷ []
  last_of_each-append [] = refl
  last_of_each-append (first ∷ rest) = elim (cases_Bool (list_any (is_same_descriptor first) rest)) [
    | inl later ↦ rw (any_or_last first rest, later) (last_of_each-append rest)
    | inr none ↦ elim (cases_Bool (is_same_descriptor first last)) [
      | inl same ↦ rw (any_or_last first rest, none, same) (last_of_each-append rest)
      | inr other ↦ rw (any_or_last first rest, none, other) (ap (λ (t : List Descriptor). first ∷ t) (last_of_each-append rest))
    ]
  ]

-- the loop has come to the rest, and keeps of each descriptor the last
pub record Keeps (whole : List Token) (kept : List Descriptor) (rest : List Token) : Type 0 where
  pub found : List Descriptor
  pub gathers : Gathers part_at descriptor_in [] whole found rest
  pub kept_is : kept ≡ last_of_each found

pub Keeps-start : (whole : List Token) (kept : List Descriptor) → kept ≡ [] → Keeps whole kept whole
Keeps-start whole kept none = record { found = []; gathers = Gathers-start part_at descriptor_in [] whole [] refl; kept_is = none }

pub Keeps-more : (whole : List Token) (kept next : List Descriptor) (rest : List Token) (entry : Option (List Token)) (after : List Token) → Keeps whole kept rest → part_at rest ≡ Some (entry, after)
    → ((found : List Descriptor) → kept ≡ last_of_each found → next ≡ last_of_each (found ++ filter_map descriptor_in (filter_map (λ x. x) (entry ∷ [])))) → Keeps whole next after
Keeps-more whole kept next rest entry after k e n = record {
  found = k.found ++ filter_map descriptor_in (filter_map (λ x. x) (entry ∷ []));
  gathers = Gathers-more part_at descriptor_in [] whole k.found _ rest entry after k.gathers e refl;
  kept_is = n k.found k.kept_is;
}

pub Keeps-read : (whole : List Token) (kept : List Descriptor) (rest : List Token) → Keeps whole kept rest → part_at rest ≡ None → kept ≡ last_of_each (filter_map descriptor_in (filter_map (λ x. x) (run_at part_at whole).0))
Keeps-read whole kept rest k e = k.kept_is ∙ ap last_of_each (Gathers-read part_at descriptor_in (takes_shorter part_at part_takes) [] whole k.found rest k.gathers e)
