-- The steps of an edit are within its work.
use Rattle.std.proofs.Common.{◌≡◌, ◌≢◌, ◌≤◌, ◌+◌, ◌*◌, ◌∙◌, ℕ, List, Option, Some, None, IfSome, sym, ap, arith, length}
use Rattle.std.specs.Prelude.{IfNone, is_some}
use Rattle.std.specs.FinMap.{FinMap, get}
use Rattle.std.specs.Ordering.{nat_cmp}
use Rattle.forest.specs.Forest.{Forest}
use Rattle.forest.specs.Keys.{Keyed, without_keys}
use Rattle.plain_types.specs.declared.edit.Edit.{Edit}
use Rattle.plain_types.specs.declared.node.Node.{Node}
use Rattle.node_arena.specs.Edits.{edited_sheet}
use Rattle.node_arena.specs.Nodes.{node_name}
use Rattle.generated_texts.specs.References.{kept_at}
use Rattle.generated_texts.specs.StyleElements.{author_sheet}
use Rattle.merged_walk.specs.Evaluators.{count_of_elements}
use Rattle.document_walk.specs.Elements.{element_count, one_where}
use Rattle.document_walk.proofs.ElementLemmas.{weigh-without_keys}
use Rattle.edit_merge.specs.EditMerges.{is_element}
use Rattle.edit_merge.specs.Laws.{IsDone}
use Rattle.style_reach.specs.Reaches.{reach}
use Rattle.style_reach.specs.declared.extent.Reach.TheVariants.{All}
use Rattle.style_reach.proofs.AuthorLaws.{sheet-stays, touches-not}
use Rattle.styled_merge.specs.Laws.{looks_beside}
use Rattle.styled_merge.specs.ReachStops.{reach_stops}
use Rattle.edit_work.specs.KeyedSources.{KeyedSource}
use Rattle.started_walk.specs.declared.counting.Counting.{Counting}
use Rattle.started_walk.specs.Countings.{Counts}
use Rattle.target_index.specs.declared.index.Index.{Index}
use Rattle.edit_work.specs.Laws.{Leads}
use Rattle.edit_work.specs.Work.{edit_reach, work}
use Rattle.edit_work.proofs.LawLemmas.{whole_reach_is_paid}
use Rattle.dirty_walk.specs.declared.document_styles.DocumentStyles.{DocumentStyles}
use Rattle.kept_elements.specs.declared.kept.Kept.{Kept}
use Rattle.dirty_walk.specs.declared.local_stops.LocalStops.{LocalStops}
use Rattle.dirty_walk.specs.DocumentStyles.{document_styles}
use Rattle.kept_elements.specs.Evaluations.{document_kept}
use Rattle.dirty_walk.specs.declared.read_ahead.ReadAhead.{ReadAhead}
use Rattle.dirty_walk.specs.Machinery.CountedEdits.{IsWithinEdit, IsWithinEditElements}
use Rattle.dirty_walk.specs.Countings.{StandsCounted}
use Rattle.dirty_walk.specs.Places.{place_work}
use Rattle.dirty_walk.specs.ReadAhead.{WasReadOf}
use Rattle.dirty_walk.specs.WorkBounds.{IsWithinWork}
use Rattle.dirty_walk.proofs.PlaceLemmas.{stands_there}

-- Sums.

whole : (was is was_count is_count work before now : ℕ) → was_count ≡ was → is_count ≡ is → (was_count + is_count) ≤ work → now ≤ before + (14 * is + 3 * was) → now ≤ before + 24 * (work + 1)
whole was is was_count is_count work before now same_was same touched few = omega arith

-- An edit makes one document of another, and the text of its sheet.
module _ (edit : Edit) (text next : List ℕ) (old new : Forest (Keyed Node)) (done : IsDone edit old new) (next_is : next ≡ edited_sheet edit text) where
  abbrev pub before : KeyedSource
  before = record { tree = old; sheet = text }

  abbrev pub after : KeyedSource
  after = record { tree = new; sheet = next }

  pub leads : Leads edit before after
  leads = record { done = done; sheet = next_is }

  counted : (tree : Forest (Keyed Node)) → count_of_elements is_element tree ≡ element_count (without_keys tree)
  counted tree = sym (weigh-without_keys (λ (node : Node). one_where (is_some (node_name node))) tree)

  -- where it can change styles everywhere
  pub everywhere : (from now : ℕ) → edit_reach edit before after ≡ All → now ≤ from + (14 * element_count (without_keys new) + 3 * element_count (without_keys old)) → now ≤ from + 24 * (work edit before after + 1)
  everywhere from now all few =
      whole (element_count (without_keys old)) (element_count (without_keys new)) (count_of_elements is_element old) (count_of_elements is_element new) (work edit before after) from now
      (counted old) (counted new) (whole_reach_is_paid edit before after leads all).touched few

  -- where it doesn't

  same_sheet : edit_reach edit before after ≢ All → next ≡ text
  same_sheet other = next_is ∙ sheet-stays edit old text (touches-not (looks_beside text old) edit old other)

  pub same_work : edit_reach edit before after ≢ All → place_work edit text old new ≡ work edit before after
  same_work other = ap (λ (t : List ℕ). work edit before (record { tree = new; sheet = t })) (sym (same_sheet other))

-- A book whose document is edited.
module _ (edit : Edit) (styles : DocumentStyles) (held : FinMap nat_cmp Kept) (old new : Forest (Keyed Node)) (stops : Option LocalStops)
    (styles_are : styles ≡ document_styles styles.sheet old) (done : IsDone edit old new) (kept : (key : ℕ) → get held key ≡ kept_at (document_kept (author_sheet styles.sheet old) old) key)
    (next : List ℕ) (next_is : next ≡ edited_sheet edit styles.sheet) where
  abbrev was : KeyedSource
  was = record { tree = old; sheet = styles.sheet }

  abbrev is : KeyedSource
  is = record { tree = new; sheet = next }

  -- the stops of the edit, where it does not reach everywhere
  record AreItsStops (found : Option LocalStops) : Type 0 where
    extent : IfSome found (λ local. local.extent ≡ reach (looks_beside styles.sheet old) old edit)
    other : IfSome found (λ local. local.extent ≢ All)
    stops_are : IfSome found (λ local. local.stops.items ≡ reach_stops local.extent edit 0 old)

  module _ (ahead : ReadAhead) (index : Index) (read : WasReadOf edit (author_sheet styles.sheet old) old ahead index) (counting : Counting) (counts : Counts was counting)
      (extent : IfSome stops (λ local. local.extent ≡ reach (looks_beside styles.sheet old) old edit)) (other : IfSome stops (λ local. local.extent ≢ All))
      (stops_are : IfSome stops (λ local. local.stops.items ≡ reach_stops local.extent edit 0 old)) where
    -- the book stands where the edit's walks may begin
    abbrev there : (local : LocalStops) → AreItsStops (Some local) → StandsCounted edit styles held local new ahead index counting
    there local are = record {
      stands = record { before = stands_there edit styles held old new styles_are done kept local are.extent are.other are.stops_are; read = read };
      counts = counts;
    }

    are : AreItsStops stops
    are = record { extent = extent; other = other; stops_are = stops_are }

    pub stands_counted : IfSome stops (λ local. StandsCounted edit styles held local new ahead index counting)
    stands_counted = by stops are
      where
        by : (found : Option LocalStops) → AreItsStops found → IfSome found (λ local. StandsCounted edit styles held local new ahead index counting)
        by None it = tt
        by (Some local) it = there local it

    -- its steps are within the work of the edit, where it walks from the stops of the edit, or by all elements
    pub within_work : (from now taken total : ℕ) → IfNone stops (reach (looks_beside styles.sheet old) old edit ≡ All) → IfSome stops (λ local. IsWithinEdit edit styles held local new ahead index counting from now)
        → taken ≤ length ahead.takes.now → total ≤ now + taken → total ≤ from + (14 * element_count (without_keys new) + 3 * element_count (without_keys old))
        → IsWithinWork edit was is from total
    within_work from now taken total none within took sum few = by stops are none within
      where
        by : (found : Option LocalStops) → AreItsStops found → IfNone found (reach (looks_beside styles.sheet old) old edit ≡ All)
            → IfSome found (λ local. IsWithinEdit edit styles held local new ahead index counting from now) → total ≤ from + 24 * (work edit was is + 1)
        by None it none within = everywhere edit styles.sheet next old new done next_is from total none few
        by (Some local) it none within =
            let same : place_work edit styles.sheet old new ≡ work edit was is = same_work edit styles.sheet next old new done next_is (there local it).stands.before.at.local in
            let paid : now + length ahead.takes.now ≤ from + 24 * (place_work edit styles.sheet old new + 1) = within (there local it) in
            omega (arith, same, paid, took, sum)

    -- and they are within the elements of both documents
    pub within_elements : (from now : ℕ) → IfSome stops (λ local. IsWithinEditElements edit styles held local new ahead index counting from now)
        → IfNone stops (now ≤ from + 7 * element_count (without_keys new)) → now ≤ from + (11 * element_count (without_keys new) + element_count (without_keys old))
    within_elements from now some none = by stops are some none
      where
        by : (found : Option LocalStops) → AreItsStops found → IfSome found (λ local. IsWithinEditElements edit styles held local new ahead index counting from now)
            → IfNone found (now ≤ from + 7 * element_count (without_keys new)) → now ≤ from + (11 * element_count (without_keys new) + element_count (without_keys old))
        by None it some none = omega (arith, none)
        by (Some local) it some none = some (there local it)
