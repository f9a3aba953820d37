-- The laws, from their lemmas.
use Rattle.std.proofs.Common.{◌≡◌, ◌++◌, ◌∷◌, ℕ, Bool, true, false, cond, List, [], Option, None, refl, sym, ap, ◌∙◌}
use Rattle.std.specs.Prelude.{map}
use Rattle.std.proofs.lemmas.List.{map-append}
use Rattle.forest.specs.Forest.{Forest, Empty, Tree}
use Rattle.forest.specs.Keys.{Keyed, HasDistinctKeys}
use Rattle.plain_types.specs.declared.counter_style.CounterStyle.{CounterStyle}
use Rattle.reversed_start.specs.Starts.{start}
use Rattle.box_eval.specs.declared.change.Change.{Change}
use Rattle.box_eval.specs.Elements.{at_root}
use Rattle.box_eval.specs.Evaluation.{StyledNode, styled}
use Rattle.box_eval.specs.Starts.{events_of, no_starts}
use Rattle.box_eval.proofs.DocumentLemmas.{root_level, told}
use Rattle.merged_walk.specs.Evaluators.{past_all}
use Rattle.surroundings.specs.StyledEvaluators.{inside_node, is_element, past_styled, styled_evaluator}
use Rattle.document_walk.proofs.StyledKeys.{styled_distinct}
use Rattle.start_reach.specs.Deeds.{Deeds}
use Rattle.scope_reading.proofs.LawLemmas.{scopes_tell_starts}
use Rattle.scope_deeds.specs.Counting.{Counting, KeepsCounting, counting_in, counting_of}
use Rattle.scope_deeds.specs.Laws.{ChangesAreKept, DeedsAreKept, KeptScopesTellStarts, ScopesAreKept}
use Rattle.scope_deeds.proofs.CreatorLemmas.{scope-kept}
use Rattle.scope_deeds.proofs.KeptNodes.{HasTrees, has-trees}
use Rattle.scope_deeds.proofs.KeyLemmas.{has-elements, lacks-texts, scope-styled}
use Rattle.scope_deeds.proofs.ReadLemmas.{changes-kept}

abbrev deed : ℕ × Counting → ℕ × Deeds
deed entry = (entry.0, entry.1.deeds)

own-deed : (key : ℕ) (its : Counting) (b : Bool) → map deed (cond b ((key, its) ∷ []) []) ≡ cond b ((key, its.deeds) ∷ []) []
own-deed key its true = refl
own-deed key its false = refl

pub deeds_are_kept : DeedsAreKept
deeds_are_kept table handed Empty = refl
deeds_are_kept table handed (Tree n c r) =
    let inside = inside_node table n handed in
    let behind = past_all (styled_evaluator table) inside c in
    let next = past_styled table n handed behind in
    let own : List (ℕ × Counting) = cond (is_element n.label) ((n.key, counting_of table n handed behind) ∷ []) [] in
    let below = deeds_are_kept table inside c in
    let here = own-deed n.key (counting_of table n handed behind) (is_element n.label) in
    let beside = deeds_are_kept table next r in
    map-append deed (counting_in table inside c) (own ++ counting_in table next r)
    ∙ ap (λ all. map deed (counting_in table inside c) ++ all) (map-append deed own (counting_in table next r))
    ∙ (λ i. below i ++ (here i ++ beside i))

module _ (table : List CounterStyle) (document : Forest (Keyed StyledNode)) (distinct : HasDistinctKeys document) (kept : ℕ → Option Counting) (keeps : KeepsCounting table document kept) where
  has-document : HasTrees table kept true at_root document
  has-document = has-trees table kept document at_root (has-elements table document distinct kept keeps) (lacks-texts table document distinct kept keeps)

pub changes_are_kept : ChangesAreKept
changes_are_kept table document distinct kept keeps =
    changes-kept table kept document true at_root (has-document table document distinct kept keeps) ∙ sym (told table document true at_root distinct (root_level document)).changes

pub scopes_are_kept : ScopesAreKept
scopes_are_kept table document distinct kept keeps creator name =
    scope-kept creator name table kept document true at_root (distinct creator.key) (record { parent = tt; sibling = tt }) (has-document table document distinct kept keeps)

pub kept_scopes_tell_starts : KeptScopesTellStarts
kept_scopes_tell_starts table style document distinct kept keeps creator name =
    scopes_tell_starts table style document distinct creator name
    ∙ ap start
    (sym (scopes_are_kept table (styled style no_starts document) (styled_distinct style no_starts document None distinct) kept keeps creator name)
    ∙ ap (λ (read : List Change). events_of read creator name) (scope-styled style kept creator name document None))
