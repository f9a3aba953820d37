-- Styles in which no declaration takes an element's box away.
use Rattle.std.proofs.Common.{◌≡◌, ◌&&◌, ℕ, Bool, true, false, not, cond, if◌then◌else◌, List, [], ◌∷◌, ◌++◌, Option, Some, None, map, filter, refl, ap₂, ◌∙◌, inl, inr, codes, is_some, unwrap_or, option_map}
use Rattle.std.specs.List.{flat_map, list_all}
use Rattle.std.specs.Option.{option_map_or, option_to_list}
use Rattle.std.specs.Str.{bytes_eq}
use Rattle.std.proofs.lemmas.Bool.{cases_Bool}
use Rattle.std.proofs.lemmas.List.Folds.{list_all-append, list_all-map}
use Rattle.forest.specs.Forest.{Forest}
use Rattle.forest.specs.Keys.{Keyed}
use Rattle.plain_types.specs.Attributes.{value_of}
use Rattle.plain_types.specs.declared.attr.Attr.{Attr}
use Rattle.plain_types.specs.declared.declaration.Declaration.{Declaration}
use Rattle.plain_types.specs.declared.declaration.Declaration.TheVariants as declaration
use Rattle.plain_types.specs.declared.declaration.Declared.{Declared}
use Rattle.plain_types.specs.declared.declaration.Said.{Said}
use Rattle.plain_types.specs.declared.declaration.Said.TheVariants.{Value, Inherit, Initial, Unset}
use Rattle.plain_types.specs.declared.node.Node.{Node}
use Rattle.plain_types.specs.declared.selector_parts.PseudoElement.TheVariants.{Own}
use Rattle.plain_types.specs.declared.sheet.StyleRule.{StyleRule}
use Rattle.plain_types.specs.declared.style.Display.{Display}
use Rattle.plain_types.specs.declared.style.ListType.TheVariants as list_type
use Rattle.plain_types.specs.declared.style.Style.{Style}
use Rattle.plain_types.specs.declared.style_ref.StyleRef.{StyleRef}
use Rattle.reading.specs.Reading.{◌then◌}
use Rattle.box_eval.specs.Boxes.{is_absent}
use Rattle.mini_cascade.specs.Declarations.{Applied, counts_for, declared_in, declared_with, hint_rank, hinted, ranked, selects, specificity_in}
use Rattle.mini_cascade.specs.Greatest.{greater, greatest}
use Rattle.mini_cascade.specs.Hints.{hints, integer_attr, item_value, start_hint, start_reset, value_hint}
use Rattle.mini_cascade.specs.Properties.{display, display_said, specified_value}
use Rattle.mini_cascade.specs.Styles.{cascaded, gives_way, style_under}
use Rattle.mini_cascade.specs.declared.rank.Origin.{Origin}
use Rattle.mini_cascade.specs.declared.rank.Rank.{Rank}
use Rattle.selectors.specs.declared.specificity.Specificity.{Specificity}

-- What a declaration says of `display` leaves an element its box: it is nothing, or neither `none` nor `inherit`.

abbrev pub said_leaves : Option (Said Display) → Bool
said_leaves None = true
said_leaves (Some (Value value)) = not (is_absent value)
said_leaves (Some Inherit) = false
said_leaves (Some Initial) = true
said_leaves (Some Unset) = true

abbrev pub leaves : Declaration → Bool
leaves what = said_leaves (display_said what)

abbrev pub all_leave : List Applied → Bool
all_leave all = list_all (λ (a : Applied). leaves a.what) all

-- Lists of which each item passes.

pub and_parts : (a b : Bool) → (a && b) ≡ true → (a ≡ true) × (b ≡ true)
and_parts true true both = (refl, refl)
and_parts true false both = absurd (cc)
and_parts false b both = absurd (cc)

module _ {X : Type 0} (passes : X → Bool) where
  pub all_appended : (xs ys : List X) → list_all passes xs ≡ true → list_all passes ys ≡ true → list_all passes (xs ++ ys) ≡ true
  all_appended xs ys first second = list_all-append passes xs ys ∙ ap₂ (λ a b. a && b) first second

  all_filtered : (keeps : X → Bool) (xs : List X) → list_all passes xs ≡ true → list_all passes (filter keeps xs) ≡ true
  all_filtered keeps [] all = refl
  all_filtered keeps (x ∷ xs) all =
      let parts = and_parts (passes x) (list_all passes xs) all in
      elim (cases_Bool (keeps x)) [
        | inl e ↦ rw (e, parts.0) (all_filtered keeps xs parts.1)
        | inr e ↦ rw e (all_filtered keeps xs parts.1)
      ]

  all_flat : {Y : Type 0} (f : Y → List X) (test : Y → Bool) → ((y : Y) → test y ≡ true → list_all passes (f y) ≡ true) → (ys : List Y) → list_all test ys ≡ true → list_all passes (flat_map f ys) ≡ true
  all_flat f test each [] all = refl
  all_flat f test each (y ∷ ys) all =
      let parts = and_parts _ _ all in
      all_appended (f y) (flat_map f ys) (each y parts.0) (all_flat f test each ys parts.1)

  -- so does the greatest of them
  greater_passes : (less : X → X → Bool) (x : X) (other : Option X) → passes x ≡ true → option_map_or passes other true ≡ true → option_map_or passes (greater less (Some x) other) true ≡ true
  greater_passes less x None first second = first
  greater_passes less x (Some y) first second = elim (cases_Bool (less y x)) [ inl e ↦ rw e first | inr e ↦ rw e second ]

  greatest_passes : (less : X → X → Bool) (xs : List X) → list_all passes xs ≡ true → option_map_or passes (greatest less xs) true ≡ true
  greatest_passes less [] all = refl
  greatest_passes less (x ∷ xs) all =
      let parts = and_parts _ _ all in
      greater_passes less x (greatest less xs) parts.0 (greatest_passes less xs parts.1)

-- An element's own style.

cascaded_leaves : (all : List Applied) → all_leave all ≡ true → said_leaves (cascaded all display) ≡ true
cascaded_leaves all leave =
    by (greatest gives_way (filter (λ (a : Applied). is_some (display_said a.what)) all))
    (greatest_passes (λ (a : Applied). leaves a.what) gives_way (filter (λ (a : Applied). is_some (display_said a.what)) all)
    (all_filtered (λ (a : Applied). leaves a.what) (λ (a : Applied). is_some (display_said a.what)) all leave))
  where
    by : (winner : Option Applied) → option_map_or (λ (a : Applied). leaves a.what) winner true ≡ true → said_leaves (winner then λ w. display_said w.what) ≡ true
    by None passes = refl
    by (Some w) passes = passes

specified_leaves : (parent : Style) (value : Option (Said Display)) → said_leaves value ≡ true → is_absent (specified_value display.is_inherited (display.value_in parent) display.initial value) ≡ false
specified_leaves parent None leave = refl
specified_leaves parent (Some (Value value)) leave = by (is_absent value) leave
  where
    by : (b : Bool) → not b ≡ true → b ≡ false
    by true leave = absurd (cc)
    by false leave = refl
specified_leaves parent (Some Inherit) leave = absurd (cc)
specified_leaves parent (Some Initial) leave = refl
specified_leaves parent (Some Unset) leave = refl

pub style_leaves : (all : List Applied) (parent : Style) → all_leave all ≡ true → is_absent (style_under all parent).display ≡ false
style_leaves all parent leave = specified_leaves parent (cascaded all display) (cascaded_leaves all leave)

-- Hints.

either : (b : Bool) (one other : List Declaration) → list_all leaves one ≡ true → list_all leaves other ≡ true → list_all leaves (cond b one other) ≡ true
either true one other first second = first
either false one other first second = second

said_one : {X : Type 0} (what : X → Declaration) → ((x : X) → leaves (what x) ≡ true) → (read : Option X) → list_all leaves (option_to_list (read then λ x. Some (what x))) ≡ true
said_one what each None = refl
said_one what each (Some x) = rw (each x) refl

abbrev typed_by : (List ℕ → Option StyleRef) → List Attr → Option Declaration
typed_by style_of attrs = value_of (codes "type") attrs then λ type. style_of type then λ style. Some (declaration.ListStyle (Value (list_type.Style style)))

typed : (style_of : List ℕ → Option StyleRef) (attrs : List Attr) → list_all leaves (option_to_list (typed_by style_of attrs)) ≡ true
typed style_of attrs = elim (value_of (codes "type") attrs) as (λ o. list_all leaves (option_to_list (o then λ type. style_of type then λ style. Some (declaration.ListStyle (Value (list_type.Style style))))) ≡ true) [
  | None ↦ refl
  | Some type ↦ said_one (λ style. declaration.ListStyle (Value (list_type.Style style))) (λ style. refl) (style_of type)
]

-- the hints, where these are the styles that the types of numbered lists, of other lists and of items give
abbrev hints_by : (numbered bulleted any : List ℕ → Option StyleRef) → List ℕ → List Attr → List Declaration
hints_by numbered bulleted any name attrs =
    if bytes_eq name (codes "ol") then option_to_list (start_hint attrs) ++ option_to_list (typed_by numbered attrs)
    else (if bytes_eq name (codes "ul") then option_to_list (typed_by bulleted attrs)
    else (if bytes_eq name (codes "li") then option_to_list (value_hint attrs) ++ option_to_list (typed_by any attrs)
    else []))

hints_by_leave : (numbered bulleted any : List ℕ → Option StyleRef) (name : List ℕ) (attrs : List Attr) → list_all leaves (hints_by numbered bulleted any name attrs) ≡ true
hints_by_leave numbered bulleted any name attrs =
    let start = said_one (λ reset. declaration.Resets (Value (reset ∷ []))) (λ reset. refl) (start_reset (is_some (value_of (codes "reversed") attrs)) (integer_attr (codes "start") attrs)) in
    let value = said_one (λ number. declaration.Assigns (Value (item_value number ∷ []))) (λ number. refl) (integer_attr (codes "value") attrs) in
    let list = option_to_list (typed_by bulleted attrs) in
    let item = option_to_list (value_hint attrs) ++ option_to_list (typed_by any attrs) in
    either (bytes_eq name (codes "ol")) (option_to_list (start_hint attrs) ++ option_to_list (typed_by numbered attrs)) (cond (bytes_eq name (codes "ul")) list (cond (bytes_eq name (codes "li")) item []))
    (all_appended leaves (option_to_list (start_hint attrs)) (option_to_list (typed_by numbered attrs)) start (typed numbered attrs))
    (either (bytes_eq name (codes "ul")) list (cond (bytes_eq name (codes "li")) item []) (typed bulleted attrs)
    (either (bytes_eq name (codes "li")) item [] (all_appended leaves (option_to_list (value_hint attrs)) (option_to_list (typed_by any attrs)) value (typed any attrs)) refl))

pub hints_leave : (name : List ℕ) (attrs : List Attr) → list_all leaves (hints name attrs) ≡ true
hints_leave name attrs = hints_by_leave _ _ _ name attrs

pub hinted_leave : (declared : List Declaration) → list_all leaves declared ≡ true → all_leave (hinted Own declared) ≡ true
hinted_leave declared leave = list_all-map (λ (a : Applied). leaves a.what) (ranked hint_rank) declared ∙ leave

-- Rules.

abbrev pub rule_leaves : StyleRule → Bool
rule_leaves rule = list_all (λ (d : Declared). leaves d.what) rule.declared

pub ranked_leave : (rank : Declared → Rank) (declared : List Declared) → list_all (λ (d : Declared). leaves d.what) declared ≡ true → all_leave (map (λ (d : Declared). ranked (rank d) d.what) declared) ≡ true
ranked_leave rank declared leave = list_all-map (λ (a : Applied). leaves a.what) (λ (d : Declared). ranked (rank d) d.what) declared ∙ leave

with_leave : (origin : Origin) (declared : List Declared) (specificity : Specificity) → list_all (λ (d : Declared). leaves d.what) declared ≡ true → all_leave (declared_with Own origin declared specificity) ≡ true
with_leave origin declared specificity leave =
    ranked_leave _ (filter (λ (d : Declared). counts_for Own d.what) declared) (all_filtered (λ (d : Declared). leaves d.what) (λ (d : Declared). counts_for Own d.what) declared leave)

module _ (tree : Forest (Keyed Node)) (key : ℕ) where
  rule_applied : (origin : Origin) (rule : StyleRule) → rule_leaves rule ≡ true → all_leave (declared_in tree key Own origin rule) ≡ true
  rule_applied origin rule leave = by (specificity_in tree key Own rule)
    where
      by : (specificity : Option Specificity) → all_leave (unwrap_or (option_map (declared_with Own origin rule.declared) specificity) []) ≡ true
      by None = refl
      by (Some specificity) = with_leave origin rule.declared specificity leave

  pub rules_applied : (origin : Origin) (rules : List StyleRule) → list_all rule_leaves rules ≡ true → all_leave (flat_map (declared_in tree key Own origin) rules) ≡ true
  rules_applied origin rules leave = all_flat (λ (a : Applied). leaves a.what) (declared_in tree key Own origin) rule_leaves (rule_applied origin) rules leave

  -- a rule of which no selector selects the element declares nothing
  pub none_applied : (origin : Origin) (rule : StyleRule) → filter (selects tree key Own) rule.selectors ≡ [] → declared_in tree key Own origin rule ≡ []
  none_applied origin rule none = rw none refl
