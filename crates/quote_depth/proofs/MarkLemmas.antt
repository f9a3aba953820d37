-- The pair of a depth, by the value of `quotes`.
use Rattle.std.proofs.Common.{◌≡◌, ◌-◌, ◌<◌, ◌≤◌, ◌∷◌, [], ℕ, List, Some, length, get_or, ap, ◌∙◌, arith, sym}
use Rattle.std.specs.Prelude.{min, slice_get}
use Rattle.std.proofs.lemmas.Option.{slice_get-get_or}
use Rattle.plain_types.specs.declared.style.Pair.{Pair}
use Rattle.plain_types.specs.declared.style.Quotes.{Quotes}
use Rattle.plain_types.specs.declared.style.Quotes.TheVariants.{Auto, Pairs}
use Rattle.quote_depth.specs.Marks.{auto_pairs, pair_at}

pub outer_auto : (quotes : Quotes) (depth : ℕ) → quotes ≡ Auto → depth ≡ 0 → pair_at quotes depth ≡ Some (record { left = 8220 ∷ []; right = 8221 ∷ [] })
outer_auto quotes depth e d = ap (λ q. pair_at q depth) e ∙ ap (pair_at Auto) d

pub inner_auto : (quotes : Quotes) (depth : ℕ) → quotes ≡ Auto → (depth ≡ 0 → ⊥) → pair_at quotes depth ≡ Some (record { left = 8216 ∷ []; right = 8217 ∷ [] })
inner_auto quotes depth e d =
    let place : min depth 1 ≡ 1 = omega (arith, d) in
    ap (λ q. pair_at q depth) e ∙ ap (slice_get auto_pairs) place

pub of_pairs : (quotes : Quotes) (pairs held : List Pair) (depth last place : ℕ) (pair : Pair) → quotes ≡ Pairs held → pairs ≡ held
    → 1 ≤ length pairs → last ≡ length pairs - 1 → place ≡ min last depth → pair ≡ get_or pairs place pair → pair_at quotes depth ≡ Some pair
of_pairs quotes pairs held depth last place pair e same some is_last is_place read =
    let below : place < length pairs = omega (arith, some, is_last, is_place) in
    let at : min depth (length pairs - 1) ≡ place = omega (arith, is_last, is_place) in
    ap (λ q. pair_at q depth) (e ∙ ap Pairs (sym same)) ∙ ap (slice_get pairs) at ∙ slice_get-get_or pairs place pair below ∙ ap Some (sym read)
