-- How specific a selector is: Selectors 4, "Calculating a selector's specificity".
use Rattle.std.specs.Prelude.{ℕ, Bool, ◌&&◌, ◌||◌, ◌==◌, ◌+◌, ◌-◌, ◌^◌, min, nat_lt, if◌then◌else◌, List, [], ◌∷◌, map}
use Rattle.plain_types.specs.declared.selector.Compound.{Compound}
use Rattle.plain_types.specs.declared.selector.Selector.{Selector}
use Rattle.plain_types.specs.declared.selector.Simple.{Simple}
use Rattle.plain_types.specs.declared.selector.Simple.TheFolds.{fold-Simple, fold-Compound}
use Rattle.plain_types.specs.declared.selector.Simple.TheOpen.{Simple-F, Compound-F}
use Rattle.plain_types.specs.declared.selector_parts.PseudoElement.{PseudoElement}
use Rattle.plain_types.specs.declared.selector_parts.PseudoElement.TheVariants as pseudo
use Rattle.selectors.specs.declared.specificity.Specificity.{Specificity}

abbrev pub counts : ℕ → ℕ → ℕ → Specificity
counts ids classes types = record { ids = ids; classes = classes; types = types }

abbrev pub nothing : Specificity
nothing = counts 0 0 0

-- a sum of counts, which stops at the greatest number of 32 bits (the standard leaves the limit open)
abbrev pub tally_sum : ℕ → ℕ → ℕ
tally_sum a b = min (a + b) (2 ^ 32 - 1)

abbrev pub plus : Specificity → Specificity → Specificity
plus a b = counts (tally_sum a.ids b.ids) (tally_sum a.classes b.classes) (tally_sum a.types b.types)

-- the counts are compared in order: ids, then classes, then types
abbrev pub is_less : Specificity → Specificity → Bool
is_less a b = nat_lt a.ids b.ids || (a.ids == b.ids && (nat_lt a.classes b.classes || (a.classes == b.classes && nat_lt a.types b.types)))

abbrev pub greater : Specificity → Specificity → Specificity
greater a b = if is_less a b then b else a

-- a specificity and all of these together
abbrev pub sum_with : Specificity → List Specificity → Specificity
sum_with sum [] = sum
sum_with sum (first ∷ rest) = sum_with (plus sum first) rest

-- the greatest of a specificity and all of these
abbrev pub greatest_with : Specificity → List Specificity → Specificity
greatest_with greatest [] = greatest
greatest_with greatest (first ∷ rest) = greatest_with (greater greatest first) rest

-- what a simple selector counts, for each of its choices standing what that counts
abbrev pub simple_counts : Simple-F Specificity Specificity → Specificity
simple_counts Simple-F.Any = nothing
simple_counts (Simple-F.Element name) = counts 0 0 1
simple_counts (Simple-F.Id name) = counts 1 0 0
simple_counts (Simple-F.Class name) = counts 0 1 0
simple_counts Simple-F.Root = counts 0 1 0
simple_counts Simple-F.Empty = counts 0 1 0
simple_counts Simple-F.Never = counts 0 1 0
simple_counts (Simple-F.Attr name test value fold) = counts 0 1 0
simple_counts (Simple-F.Only same_type) = counts 0 1 0
simple_counts (Simple-F.Nth a b from_end same_type) = counts 0 1 0
simple_counts (Simple-F.Is choices) = greatest_with nothing choices
simple_counts (Simple-F.Weightless choices) = nothing
simple_counts (Simple-F.Not choices) = greatest_with nothing choices

abbrev pub compound_counts : Compound-F Specificity Specificity → Specificity
compound_counts compound = sum_with nothing compound.simples

abbrev pub simple_specificity : Simple → Specificity
simple_specificity simple = fold-Simple Specificity Specificity simple_counts compound_counts simple

abbrev pub compound_specificity : Compound → Specificity
compound_specificity compound = fold-Compound Specificity Specificity simple_counts compound_counts compound

-- a pseudo-element counts as a type
abbrev pub pseudo_specificity : PseudoElement → Specificity
pseudo_specificity pseudo.Own = nothing
pseudo_specificity _ = counts 0 0 1

abbrev pub specificity : Selector → Specificity
specificity selector = sum_with (pseudo_specificity selector.pseudo) (map compound_specificity selector.compounds)
