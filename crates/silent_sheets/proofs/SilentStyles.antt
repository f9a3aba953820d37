-- Under a silent sheet the pseudo-elements of each element have the style `content: none`.
use Rattle.std.proofs.Common.{◌≡◌, ◌||◌, ◌&&◌, ◌++◌, ℕ, Bool, true, false, not, cond, List, [], ◌∷◌, map, filter, Option, Some, None, refl, ap, ap₂, ◌∙◌, inl, inr}
use Rattle.std.proofs.lemmas.Bool.{and_parts, cases_Bool}
use Rattle.std.proofs.lemmas.List.Folds.{list_all-append, list_any-append}
use Rattle.std.specs.Prelude.{is_some, option_map, unwrap_or}
use Rattle.std.specs.List.{flat_map, list_all, list_any}
use Rattle.std.specs.Option.{option_map_or}
use Rattle.forest.specs.Forest.{Forest}
use Rattle.forest.specs.Keys.{Keyed, without_keys}
use Rattle.plain_types.specs.Tree.{AreSound}
use Rattle.plain_types.specs.declared.content.Content.{Content}
use Rattle.plain_types.specs.declared.content.Content.TheVariants as content_value
use Rattle.plain_types.specs.declared.declaration.Declaration.{Declaration}
use Rattle.plain_types.specs.declared.declaration.Declaration.TheVariants as declaration
use Rattle.plain_types.specs.declared.declaration.Declared.{Declared}
use Rattle.plain_types.specs.declared.declaration.Said.{Said}
use Rattle.plain_types.specs.declared.declaration.Said.TheVariants as said
use Rattle.plain_types.specs.declared.node.Node.{Node}
use Rattle.plain_types.specs.declared.selector.Selector.{Selector}
use Rattle.plain_types.specs.declared.selector_parts.PseudoElement.{PseudoElement}
use Rattle.plain_types.specs.declared.selector_parts.PseudoElement.TheVariants.{Own, Marker, Before, After, Never}
use Rattle.plain_types.specs.declared.sheet.Sheet.{Sheet}
use Rattle.plain_types.specs.declared.sheet.StyleRule.{StyleRule}
use Rattle.plain_types.specs.declared.style.ElementStyle.{ElementStyle}
use Rattle.plain_types.specs.declared.style.Style.{Style}
use Rattle.reading.specs.Reading.{◌then◌}
use Rattle.selectors.specs.Specificity.{is_less, specificity}
use Rattle.selectors.specs.declared.specificity.Specificity.{Specificity}
use Rattle.mini_cascade.specs.Declarations.{Applied, applied, attached, counts_for, declared_in, declared_with, hinted, ranked, rule_rank, selects, specificity_in}
use Rattle.mini_cascade.specs.Greatest.{greater, greatest}
use Rattle.mini_cascade.specs.Hints.{hints_of}
use Rattle.mini_cascade.specs.Properties.{content, content_said, specified_value}
use Rattle.mini_cascade.specs.StyleAttributes.{inline_of}
use Rattle.mini_cascade.specs.Ranks.{is_outranked}
use Rattle.mini_cascade.specs.Styles.{cascaded, gives_way}
use Rattle.mini_cascade.specs.declared.rank.Level.{Level}
use Rattle.mini_cascade.specs.declared.rank.Level.TheVariants as level
use Rattle.mini_cascade.specs.declared.rank.Origin.TheVariants as origin
use Rattle.mini_cascade.specs.declared.rank.Attachment.{Attachment}
use Rattle.generated_texts.specs.Documents.{agent_sheet, document_style}
use Rattle.generated_texts.proofs.EntryKeys.{has_element}
use Rattle.silent_sheets.specs.Silence.{IsSilent, all_keep_silence, is_none, keeps_silence, selects_each, silences, silences_each}
use Rattle.silent_sheets.proofs.Chosen.{greatest_is_high, greatest_passes}
use Rattle.silent_sheets.proofs.Matched.{each_selected}

pub or_true : (b : Bool) → (b || true) ≡ true
or_true true = refl
or_true false = refl

-- Declarations that apply.

abbrev is_top : Level → Bool
is_top level.UserAgent = false
is_top level.Author = false
is_top level.Important = true

abbrev is_important : Applied → Bool
is_important a = is_top a.rank.level

abbrev says_content : Applied → Bool
says_content a = is_some (content_said a.what)

abbrev says_none : Declaration → Bool
says_none what = option_map_or is_none (content_said what) false

abbrev says_no_other : Declaration → Bool
says_no_other what = option_map_or is_none (content_said what) true

-- an important `content: none`
abbrev is_silencing : Applied → Bool
is_silencing a = is_important a && says_none a.what

-- no important `content` of another value
abbrev is_quiet : Applied → Bool
is_quiet a = not (is_important a) || says_no_other a.what

-- what is important is above what is not
above_level : (high low : Level) (one other : Attachment) → is_top high ≡ true → is_top low ≡ false
    → (is_outranked (record { level = low; attachment = other }) (record { level = high; attachment = one }) ≡ true)
    × (is_outranked (record { level = high; attachment = one }) (record { level = low; attachment = other }) ≡ false)
above_level level.Important level.UserAgent one other top under = (refl, refl)
above_level level.Important level.Author one other top under = (refl, refl)
above_level level.Important level.Important one other top under = absurd (cc)
above_level level.Author low one other top under = absurd (cc)
above_level level.UserAgent low one other top under = absurd (cc)

above : (high low : Applied) → is_important high ≡ true → is_important low ≡ false → (gives_way low high ≡ true) × (gives_way high low ≡ false)
above high low top under = above_level high.rank.level low.rank.level high.rank.attachment low.rank.attachment top under

-- The cascaded value.

abbrev saying : List Applied → List Applied
saying all = filter says_content all

all_saying : (p : Applied → Bool) (all : List Applied) → list_all p all ≡ true → list_all p (saying all) ≡ true
all_saying p [] h = refl
all_saying p (a ∷ all) h =
    let parts = and_parts (p a) (list_all p all) h in
    kept (says_content a) parts.0 (all_saying p all parts.1)
  where
    kept : (says : Bool) → p a ≡ true → list_all p (saying all) ≡ true → list_all p (cond says (a ∷ saying all) (saying all)) ≡ true
    kept true one rest = ap₂ (λ x y. x && y) one rest
    kept false one rest = rest

each_says : (all : List Applied) → list_all says_content (saying all) ≡ true
each_says [] = refl
each_says (a ∷ all) = kept (says_content a) refl (each_says all)
  where
    kept : (says : Bool) → says_content a ≡ says → list_all says_content (saying all) ≡ true → list_all says_content (cond says (a ∷ saying all) (saying all)) ≡ true
    kept true one rest = ap₂ (λ x y. x && y) one rest
    kept false one rest = rest

none_is_said : (important : Bool) (told : Option (Said Content)) → (important && option_map_or is_none told false) ≡ true → (important ≡ true) × (is_some told ≡ true)
none_is_said true (Some told) h = (refl, refl)
none_is_said true None h = absurd (cc)
none_is_said false told h = absurd (cc)

some_important : (all : List Applied) → list_any is_silencing all ≡ true → list_any is_important (saying all) ≡ true
some_important [] some = absurd (cc)
some_important (a ∷ all) some = elim (cases_Bool (is_silencing a)) [
  | inl e ↦ let parts = none_is_said (is_important a) (content_said a.what) e in here (says_content a) parts.1 parts.0
  | inr e ↦ let rest : (false || list_any is_silencing all) ≡ true = rw e at some in later (says_content a) (some_important all rest)
]
  where
    here : (says : Bool) → says ≡ true → is_important a ≡ true → list_any is_important (cond says (a ∷ saying all) (saying all)) ≡ true
    here true says one = ap (λ b. b || list_any is_important (saying all)) one
    here false says one = absurd (cc)

    later : (says : Bool) → list_any is_important (saying all) ≡ true → list_any is_important (cond says (a ∷ saying all) (saying all)) ≡ true
    later true rest = ap (λ b. is_important a || b) rest ∙ or_true (is_important a)
    later false rest = rest

none_said : (told : Said Content) → is_none told ≡ true → told ≡ said.Value content_value.Nothing
none_said (said.Value content_value.Nothing) none = refl
none_said (said.Value content_value.Normal) none = absurd (cc)
none_said (said.Value (content_value.Items items)) none = absurd (cc)
none_said said.Inherit none = absurd (cc)
none_said said.Initial none = absurd (cc)
none_said said.Unset none = absurd (cc)

quiet_says_none : (important : Bool) (told : Option (Said Content)) → important ≡ true → (not important || option_map_or is_none told true) ≡ true → is_some told ≡ true
    → told ≡ Some (said.Value content_value.Nothing)
quiet_says_none true (Some told) top quiet says = ap Some (none_said told quiet)
quiet_says_none true None top quiet says = absurd (cc)
quiet_says_none false told top quiet says = absurd (cc)

winner_says_none : (winner : Option Applied) → option_map_or is_important winner false ≡ true → option_map_or is_quiet winner true ≡ true → option_map_or says_content winner true ≡ true
    → (winner then λ (a : Applied). content_said a.what) ≡ Some (said.Value content_value.Nothing)
winner_says_none None top quiet says = absurd (cc)
winner_says_none (Some a) top quiet says = quiet_says_none (is_important a) (content_said a.what) top quiet says

none_cascaded : (all : List Applied) → list_any is_silencing all ≡ true → list_all is_quiet all ≡ true → cascaded all content ≡ Some (said.Value content_value.Nothing)
none_cascaded all some quiet =
    winner_says_none (greatest gives_way (saying all))
    (greatest_is_high gives_way is_important above (saying all) (some_important all some))
    (greatest_passes gives_way is_quiet (saying all) (all_saying is_quiet all quiet))
    (greatest_passes gives_way says_content (saying all) (each_says all))

-- What a rule says of a pseudo-element.

abbrev counting : PseudoElement → List Declared → List Declared
counting pseudo declared = filter (λ (d : Declared). counts_for pseudo d.what) declared

abbrev author_ranked : Specificity → Declared → Applied
author_ranked specific d = ranked (rule_rank origin.Author d.important specific) d.what

agent_is_quiet : (pseudo : PseudoElement) (declared : List Declared) (specific : Specificity) → list_all is_quiet (declared_with pseudo origin.UserAgent declared specific) ≡ true
agent_is_quiet pseudo declared specific = each (counting pseudo declared)
  where
    each : (those : List Declared) → list_all is_quiet (map (λ (d : Declared). ranked (rule_rank origin.UserAgent d.important specific) d.what) those) ≡ true
    each [] = refl
    each (d ∷ those) = each those

quiet_one : (important : Bool) (what : Declaration) (specific : Specificity) → (not important || says_no_other what) ≡ true → is_quiet (ranked (rule_rank origin.Author important specific) what) ≡ true
quiet_one true what specific quiet = quiet
quiet_one false what specific quiet = refl

author_is_quiet : (pseudo : PseudoElement) (declared : List Declared) (specific : Specificity) → list_all keeps_silence declared ≡ true → list_all is_quiet (declared_with pseudo origin.Author declared specific) ≡ true
author_is_quiet pseudo [] specific quiet = refl
author_is_quiet pseudo (d ∷ declared) specific quiet =
    let parts = and_parts (keeps_silence d) (list_all keeps_silence declared) quiet in
    kept (counts_for pseudo d.what) (quiet_one d.important d.what specific parts.0) (author_is_quiet pseudo declared specific parts.1)
  where
    kept : (counts : Bool) → is_quiet (author_ranked specific d) ≡ true → list_all is_quiet (map (author_ranked specific) (counting pseudo declared)) ≡ true
        → list_all is_quiet (map (author_ranked specific) (cond counts (d ∷ counting pseudo declared) (counting pseudo declared))) ≡ true
    kept true one rest = ap₂ (λ x y. x && y) one rest
    kept false one rest = rest

content_counts : (pseudo : PseudoElement) (what : Declaration) → says_none what ≡ true → counts_for pseudo what ≡ true
content_counts Own what none = refl
content_counts Before what none = refl
content_counts After what none = refl
content_counts Never what none = refl
content_counts Marker (declaration.Content told) none = refl
content_counts Marker (declaration.Display told) none = absurd (cc)
content_counts Marker (declaration.Resets told) none = absurd (cc)
content_counts Marker (declaration.Increments told) none = absurd (cc)
content_counts Marker (declaration.Assigns told) none = absurd (cc)
content_counts Marker (declaration.ListStyle told) none = absurd (cc)
content_counts Marker (declaration.Quotes told) none = absurd (cc)

silencing_one : (important : Bool) (what : Declaration) (specific : Specificity) → (important && says_none what) ≡ true → is_silencing (ranked (rule_rank origin.Author important specific) what) ≡ true
silencing_one true what specific h = h
silencing_one false what specific h = absurd (cc)

some_silencing : (pseudo : PseudoElement) (declared : List Declared) (specific : Specificity) → list_any silences declared ≡ true → list_any is_silencing (declared_with pseudo origin.Author declared specific) ≡ true
some_silencing pseudo [] specific some = absurd (cc)
some_silencing pseudo (d ∷ declared) specific some = elim (cases_Bool (silences d)) [
  | inl e ↦ here (counts_for pseudo d.what) (content_counts pseudo d.what (and_parts d.important (says_none d.what) e).1) (silencing_one d.important d.what specific e)
  | inr e ↦ let rest : (false || list_any silences declared) ≡ true = rw e at some in later (counts_for pseudo d.what) (some_silencing pseudo declared specific rest)
]
  where
    here : (counts : Bool) → counts ≡ true → is_silencing (author_ranked specific d) ≡ true → list_any is_silencing (map (author_ranked specific) (cond counts (d ∷ counting pseudo declared) (counting pseudo declared))) ≡ true
    here true counts one = ap (λ b. b || list_any is_silencing (map (author_ranked specific) (counting pseudo declared))) one
    here false counts one = absurd (cc)

    later : (counts : Bool) → list_any is_silencing (map (author_ranked specific) (counting pseudo declared)) ≡ true
        → list_any is_silencing (map (author_ranked specific) (cond counts (d ∷ counting pseudo declared) (counting pseudo declared))) ≡ true
    later true rest = ap (λ b. is_silencing (author_ranked specific d) || b) rest ∙ or_true (is_silencing (author_ranked specific d))
    later false rest = rest

-- What applies to a pseudo-element.

module _ (tree : Forest (Keyed Node)) (key : ℕ) (pseudo : PseudoElement) where
  if_matched_quiet : (found : Option Specificity) (declare : Specificity → List Applied) → ((specific : Specificity) → list_all is_quiet (declare specific) ≡ true)
      → list_all is_quiet (unwrap_or (option_map declare found) []) ≡ true
  if_matched_quiet None declare quiet = refl
  if_matched_quiet (Some specific) declare quiet = quiet specific

  agent_rules_quiet : (rules : List StyleRule) → list_all is_quiet (flat_map (declared_in tree key pseudo origin.UserAgent) rules) ≡ true
  agent_rules_quiet [] = refl
  agent_rules_quiet (rule ∷ rules) =
      list_all-append is_quiet (declared_in tree key pseudo origin.UserAgent rule) (flat_map (declared_in tree key pseudo origin.UserAgent) rules)
      ∙ ap₂ (λ a b. a && b) (if_matched_quiet (specificity_in tree key pseudo rule) (declared_with pseudo origin.UserAgent rule.declared) (agent_is_quiet pseudo rule.declared)) (agent_rules_quiet rules)

  author_rules_quiet : (rules : List StyleRule) → list_all (λ (rule : StyleRule). list_all keeps_silence rule.declared) rules ≡ true
      → list_all is_quiet (flat_map (declared_in tree key pseudo origin.Author) rules) ≡ true
  author_rules_quiet [] quiet = refl
  author_rules_quiet (rule ∷ rules) quiet =
      let parts = and_parts (list_all keeps_silence rule.declared) _ quiet in
      list_all-append is_quiet (declared_in tree key pseudo origin.Author rule) (flat_map (declared_in tree key pseudo origin.Author) rules)
      ∙ ap₂ (λ a b. a && b)
      (if_matched_quiet (specificity_in tree key pseudo rule) (declared_with pseudo origin.Author rule.declared) (λ specific. author_is_quiet pseudo rule.declared specific parts.0))
      (author_rules_quiet rules parts.1)

  greater_some : (one : Specificity) (other : Option Specificity) → is_some (greater is_less (Some one) other) ≡ true
  greater_some one None = refl
  greater_some one (Some other) = refl

  module _ (sound : AreSound (without_keys tree)) (has : has_element key tree ≡ true) where
    abbrev selected : List Selector → List Selector
    selected selectors = filter (selects tree key pseudo) selectors

    found : (selectors : List Selector) → list_any (selects_each pseudo) selectors ≡ true → is_some (greatest is_less (map specificity (selected selectors))) ≡ true
    found [] some = absurd (cc)
    found (selector ∷ selectors) some = elim (cases_Bool (selects_each pseudo selector)) [
      | inl each ↦ here (selects tree key pseudo selector) (each_selected tree key pseudo selector sound has each)
      | inr other ↦ let rest : (false || list_any (selects_each pseudo) selectors) ≡ true = rw other at some in later (selects tree key pseudo selector) (found selectors rest)
    ]
      where
        here : (it_is : Bool) → it_is ≡ true → is_some (greatest is_less (map specificity (cond it_is (selector ∷ selected selectors) (selected selectors)))) ≡ true
        here true is = greater_some (specificity selector) (greatest is_less (map specificity (selected selectors)))
        here false is = absurd (cc)

        later : (it_is : Bool) → is_some (greatest is_less (map specificity (selected selectors))) ≡ true → is_some (greatest is_less (map specificity (cond it_is (selector ∷ selected selectors) (selected selectors)))) ≡ true
        later true rest = greater_some (specificity selector) (greatest is_less (map specificity (selected selectors)))
        later false rest = rest

    rule_silences : (rule : StyleRule) → silences_each pseudo rule ≡ true → list_any is_silencing (declared_in tree key pseudo origin.Author rule) ≡ true
    rule_silences rule h =
        let parts = and_parts (list_any (selects_each pseudo) rule.selectors) (list_any silences rule.declared) h in
        matched (specificity_in tree key pseudo rule) (found rule.selectors parts.0) (λ specific. some_silencing pseudo rule.declared specific parts.1)
      where
        matched : (specific : Option Specificity) → is_some specific ≡ true → ((one : Specificity) → list_any is_silencing (declared_with pseudo origin.Author rule.declared one) ≡ true)
            → list_any is_silencing (unwrap_or (option_map (declared_with pseudo origin.Author rule.declared) specific) []) ≡ true
        matched None some each = absurd (cc)
        matched (Some one) some each = each one

    rules_silence : (rules : List StyleRule) → list_any (silences_each pseudo) rules ≡ true → list_any is_silencing (flat_map (declared_in tree key pseudo origin.Author) rules) ≡ true
    rules_silence [] some = absurd (cc)
    rules_silence (rule ∷ rules) some =
        list_any-append is_silencing (declared_in tree key pseudo origin.Author rule) (flat_map (declared_in tree key pseudo origin.Author) rules)
        ∙ elim (cases_Bool (silences_each pseudo rule)) [
          | inl e ↦ ap (λ b. b || list_any is_silencing (flat_map (declared_in tree key pseudo origin.Author) rules)) (rule_silences rule e)
          | inr e ↦
              let rest : (false || list_any (silences_each pseudo) rules) ≡ true = rw e at some in
              ap (λ b. list_any is_silencing (declared_in tree key pseudo origin.Author rule) || b) (rules_silence rules rest)
              ∙ or_true (list_any is_silencing (declared_in tree key pseudo origin.Author rule))
        ]

    none_applies : (agent author : Sheet) → list_any (silences_each pseudo) author.rules ≡ true → all_keep_silence author ≡ true
        → hinted pseudo (hints_of tree key) ≡ [] → attached pseudo (inline_of tree key) ≡ [] → cascaded (applied tree key pseudo agent author) content ≡ Some (said.Value content_value.Nothing)
    none_applies agent author some quiet no_hints no_inline =
        let of_agent = flat_map (declared_in tree key pseudo origin.UserAgent) agent.rules in
        let of_author = flat_map (declared_in tree key pseudo origin.Author) author.rules in
        ap₂ (λ hints inline. cascaded (of_agent ++ (hints ++ (of_author ++ inline))) content) no_hints no_inline
        ∙ none_cascaded (of_agent ++ (of_author ++ []))
        (list_any-append is_silencing of_agent (of_author ++ [])
        ∙ ap (λ b. list_any is_silencing of_agent || b) (list_any-append is_silencing of_author [] ∙ ap (λ b. b || false) (rules_silence author.rules some))
        ∙ or_true (list_any is_silencing of_agent))
        (list_all-append is_quiet of_agent (of_author ++ [])
        ∙ ap₂ (λ a b. a && b) (agent_rules_quiet agent.rules) (list_all-append is_quiet of_author [] ∙ ap (λ b. b && true) (author_rules_quiet author.rules quiet)))

-- Styles.

-- `content: none` of each pseudo-element
pub record IsSilentStyle (style : ElementStyle) : Type 0 where
  pub marker : style.marker.content ≡ content_value.Nothing
  pub before : style.before.content ≡ content_value.Nothing
  pub after : style.after.content ≡ content_value.Nothing

pub silent_style : (author : Sheet) (document : Forest (Keyed Node)) (key : ℕ) (parent : Option Style) → IsSilent author → AreSound (without_keys document) → has_element key document ≡ true
    → IsSilentStyle (document_style author document key parent)
silent_style author document key parent silent sound has =
    let own = (document_style author document key parent).own in
    let specified_by : Option (Said Content) → Content = specified_value false own.content content_value.Normal in
    record {
      marker = ap specified_by (none_applies document key Marker sound has agent_sheet author silent.marker silent.others refl refl);
      before = ap specified_by (none_applies document key Before sound has agent_sheet author silent.before silent.others refl refl);
      after = ap specified_by (none_applies document key After sound has agent_sheet author silent.after silent.others refl refl);
    }
