-- What descriptors leave as it is.
use Rattle.std.proofs.Common.{◌≡◌, ℕ, List, [], ◌∷◌, Option, Some, None, Bool, false, not, cond, length, refl, sym, ap, ◌∙◌}
use Rattle.std.specs.Borrow.{Bor}
use Rattle.std.specs.List.{fold, list_any}
use Rattle.std.specs.Prelude.{is_some, option_copied}
use Rattle.std.specs.Option.{option_map}
use Rattle.plain_types.specs.declared.counter_style.CounterStyle.{CounterStyle}
use Rattle.plain_types.specs.declared.counter_style.Descriptor.{Descriptor}
use Rattle.plain_types.specs.declared.counter_style.Descriptor.TheVariants as descriptor
use Rattle.plain_types.specs.declared.counter_style.StyleDef.{StyleDef}
use Rattle.plain_types.specs.declared.style_ref.System.{System}
use Rattle.plain_types.specs.StyleNames.{style_name}
use Rattle.plain_types.specs.Table.{has_its_symbols, is_supplied}
use Rattle.css_definitions.specs.CounterStyles.{described, extended_by, gives_right_symbols, gives_symbols, initial_style, own_style, system_of}
use Rattle.counter_style_table.specs.Counts.{symbol_count_after, tuple_count_after}

described-system : (style : CounterStyle) (said : Descriptor) → (described style said).system ≡ style.system
described-system style (descriptor.System system) = refl
described-system style (descriptor.Negative before after) = refl
described-system style (descriptor.Prefix text) = refl
described-system style (descriptor.Suffix text) = refl
described-system style descriptor.RangeAuto = refl
described-system style (descriptor.Range ranges) = refl
described-system style (descriptor.Pad width symbol) = refl
described-system style (descriptor.Fallback name) = refl
described-system style (descriptor.Symbols symbols) = refl
described-system style (descriptor.Additive weights) = refl

described-symbols : (style : CounterStyle) (said : Descriptor) → length (described style said).symbols ≡ symbol_count_after (length style.symbols) said
described-symbols style (descriptor.System system) = refl
described-symbols style (descriptor.Negative before after) = refl
described-symbols style (descriptor.Prefix text) = refl
described-symbols style (descriptor.Suffix text) = refl
described-symbols style descriptor.RangeAuto = refl
described-symbols style (descriptor.Range ranges) = refl
described-symbols style (descriptor.Pad width symbol) = refl
described-symbols style (descriptor.Fallback name) = refl
described-symbols style (descriptor.Symbols symbols) = refl
described-symbols style (descriptor.Additive weights) = refl

described-weights : (style : CounterStyle) (said : Descriptor) → length (described style said).weights ≡ tuple_count_after (length style.weights) said
described-weights style (descriptor.System system) = refl
described-weights style (descriptor.Negative before after) = refl
described-weights style (descriptor.Prefix text) = refl
described-weights style (descriptor.Suffix text) = refl
described-weights style descriptor.RangeAuto = refl
described-weights style (descriptor.Range ranges) = refl
described-weights style (descriptor.Pad width symbol) = refl
described-weights style (descriptor.Fallback name) = refl
described-weights style (descriptor.Symbols symbols) = refl
described-weights style (descriptor.Additive weights) = refl

pub fold-system : (said : List Descriptor) (style : CounterStyle) → (fold described style said).system ≡ style.system
fold-system [] style = refl
fold-system (first ∷ said) style = fold-system said (described style first) ∙ described-system style first

pub fold-symbols : (said : List Descriptor) (style : CounterStyle) → length (fold described style said).symbols ≡ fold symbol_count_after (length style.symbols) said
fold-symbols [] style = refl
fold-symbols (first ∷ said) style = fold-symbols said (described style first) ∙ ap (λ n. fold symbol_count_after n said) (described-symbols style first)

pub fold-weights : (said : List Descriptor) (style : CounterStyle) → length (fold described style said).weights ≡ fold tuple_count_after (length style.weights) said
fold-weights [] style = refl
fold-weights (first ∷ said) style = fold-weights said (described style first) ∙ ap (λ n. fold tuple_count_after n said) (described-weights style first)

-- a rule that extends nothing gives the right symbols where its counts are enough
pub right_by_counts : (rule : StyleDef) (system : System) (symbols tuples : ℕ) (test : Bool)
    → is_some (extended_by (system_of rule)) ≡ false → system ≡ system_of rule
    → symbols ≡ fold symbol_count_after 0 rule.descriptors → tuples ≡ fold tuple_count_after 0 rule.descriptors
    → test ≡ is_supplied system symbols tuples → test ≡ gives_right_symbols rule
right_by_counts rule system symbols tuples test none s n m t =
    t ∙ ap (λ own. is_supplied own symbols tuples) (s ∙ sym (fold-system rule.descriptors (initial_style (system_of rule))))
    ∙ ap (λ count. is_supplied (own_style rule).system count tuples) (n ∙ sym (fold-symbols rule.descriptors (initial_style (system_of rule))))
    ∙ ap (λ count. is_supplied (own_style rule).system (length (own_style rule).symbols) count) (m ∙ sym (fold-weights rule.descriptors (initial_style (system_of rule))))
    ∙ sym (ap (λ extends. cond extends (not (list_any gives_symbols rule.descriptors)) (has_its_symbols (own_style rule))) none)

pub extends_nothing : (found : Option (Bor (List ℕ))) (extended : Option (List ℕ)) → option_map style_name (option_copied found) ≡ extended → is_some found ≡ false → is_some extended ≡ false
extends_nothing None extended e h = ap is_some (sym e)
extends_nothing (Some name) extended e h = absurd (cc)
