-- Which style is meant.
use Rattle.std.proofs.Common.{◌≡◌, ◌+◌, ◌<◌, ◌^◌, ℕ, ℤ, List, [], ◌∷◌, get_or, codes, unsigned_abs, pos, negsuc, arith, add-one, lit<, Some, None, Bool, true, false, cond, length, unwrap_or, sym, ap, ◌∙◌}
use Rattle.std.specs.Fmt.{signed_decimal}
use Rattle.std.specs.Int.Signed.{mag}
use Rattle.std.specs.List.{slice_get}
use Rattle.std.proofs.lemmas.Option.{slice_get-get_or}
use Rattle.std.specs.Option.{option_and_then, option_map_or}
use Rattle.plain_types.specs.declared.counter_style.CounterStyle.{CounterStyle}
use Rattle.plain_types.specs.declared.style_ref.Anonymous.{Anonymous}
use Rattle.plain_types.specs.declared.style_ref.StyleRef.{StyleRef}
use Rattle.plain_types.specs.declared.style_ref.StyleRef.TheVariants.{Name, Symbols}
use Rattle.plain_types.specs.Table.{IsTable, decimal_style, is_supplied, place_named, style_named}
use Rattle.css_definitions.specs.Representation.{anonymous_style, chosen_style, next_style, represented, represented_within, written}
use Rattle.css_definitions.proofs.FallbackLaws.{found_within, represented-decimal}

-- a count has an absolute value of 64 bits at most
pub abs-small : (value : ℤ) → mag value < 2 ^ 63 → unsigned_abs value < 2 ^ 64
abs-small (pos n) h = let room : 2 ^ 63 < 2 ^ 64 = lit< tt in omega (arith, room, h)
abs-small (negsuc n) h = let room : 2 ^ 63 < 2 ^ 64 = lit< tt in omega (arith, room, h)

module _ (table : List CounterStyle) (value : ℤ) where
  -- what is represented from a place on is that of the style under its name
  pub represented-named : (name text : List ℕ) (place : ℕ) → place_named table name ≡ Some place → ((style : CounterStyle) → text ≡ represented table (get_or table place style) value)
      → text ≡ represented table (unwrap_or (style_named table name) decimal_style) value
  represented-named name text place e written_from =
      written_from decimal_style
      ∙ ap (λ found. represented table (unwrap_or found decimal_style) value) (sym (ap (option_and_then (slice_get table)) e ∙ slice_get-get_or table place decimal_style (found_within table value name place e)))

  pub represented-unknown : (name : List ℕ) → place_named table name ≡ None → unsigned_abs value < 2 ^ 64 → represented table (unwrap_or (style_named table name) decimal_style) value ≡ signed_decimal value
  represented-unknown name e small =
      ap (λ place. represented table (unwrap_or (option_and_then (slice_get table) place) decimal_style) value) e
      ∙ represented-decimal table value (length table + 1) [] small

  pub represented-decimal_name : IsTable table → unsigned_abs value < 2 ^ 64 → represented table (unwrap_or (style_named table (codes "decimal")) decimal_style) value ≡ signed_decimal value
  represented-decimal_name sound small = ap (λ found. represented table (unwrap_or found decimal_style) value) sound.decimal ∙ represented-decimal table value (length table + 1) [] small

  pub represented-writes : (style : CounterStyle) (text : List ℕ) → written style value ≡ Some text → represented table style value ≡ text
  represented-writes style text e =
      ap (λ styles. represented_within table styles [] style value) (add-one (length table))
      ∙ ap (λ own. unwrap_or own (option_map_or (λ other. represented_within table (length table) (style.name ∷ []) other value) (next_style table (style.name ∷ []) style) (signed_decimal value))) e

module _ (table : List CounterStyle) (style : StyleRef) where
  pub chosen-unknown : (name text : List ℕ) → style ≡ Name name → text ≡ name → None ≡ place_named table text → chosen_style table style ≡ decimal_style
  chosen-unknown name text e f g =
      ap (chosen_style table) e ∙ ap (λ place. unwrap_or (option_and_then (slice_get table) place) decimal_style) (ap (place_named table) (sym f) ∙ sym g)

  pub chosen-named : (name text : List ℕ) (place : ℕ) (found : CounterStyle) → style ≡ Name name → text ≡ name → Some place ≡ place_named table text → slice_get table place ≡ Some found → chosen_style table style ≡ found
  chosen-named name text place found e f g h =
      ap (chosen_style table) e ∙ ap (λ at. unwrap_or (option_and_then (slice_get table) at) decimal_style) (ap (place_named table) (sym f) ∙ sym g)
      ∙ ap (λ at. unwrap_or at decimal_style) h

  chosen_by : (anonymous : Anonymous) (count : ℕ) (test : Bool) → style ≡ Symbols anonymous → count ≡ length anonymous.symbols → test ≡ is_supplied anonymous.system count 0 → chosen_style table style ≡ cond test (anonymous_style anonymous) decimal_style
  chosen_by anonymous count test e f g =
      ap (chosen_style table) e ∙ ap (λ b. cond b (anonymous_style anonymous) decimal_style) (ap (λ n. is_supplied anonymous.system n 0) (sym f) ∙ sym g)

  pub chosen-supplied : (anonymous : Anonymous) (count : ℕ) (test : Bool) → style ≡ Symbols anonymous → count ≡ length anonymous.symbols → test ≡ is_supplied anonymous.system count 0 → test ≡ true → chosen_style table style ≡ anonymous_style anonymous
  chosen-supplied anonymous count test e f g h = chosen_by anonymous count test e f g ∙ ap (λ b. cond b (anonymous_style anonymous) decimal_style) h

  pub chosen-unsupplied : (anonymous : Anonymous) (count : ℕ) (test : Bool) → style ≡ Symbols anonymous → count ≡ length anonymous.symbols → test ≡ is_supplied anonymous.system count 0 → test ≡ false → chosen_style table style ≡ decimal_style
  chosen-unsupplied anonymous count test e f g h = chosen_by anonymous count test e f g ∙ ap (λ b. cond b (anonymous_style anonymous) decimal_style) h
