-- What the second walk of an edit has told are news of the edited document, and the work of the edit pays for their texts.
use Rattle.std.proofs.Common.{◌≡◌, ◌≤◌, ◌+◌, ◌∙◌, ℕ, Bool, List, [], None, length, not, sym, ap, subst, arith}
use Rattle.std.specs.Prelude.{All}
use Rattle.std.specs.FinMap.{FinMap}
use Rattle.std.specs.Ordering.{nat_cmp}
use Rattle.std.proofs.lemmas.Bool.{true≢false}
use Rattle.std.proofs.lemmas.List.Sums.{count_by-le-length, length-filter}
use Rattle.forest.specs.Forest.{Forest}
use Rattle.forest.specs.Keys.{Keyed, times, without_keys}
use Rattle.forest.specs.Spots.{IsLink}
use Rattle.plain_types.specs.declared.counter_style.CounterStyle.{CounterStyle}
use Rattle.plain_types.specs.declared.edit.Edit.{Edit}
use Rattle.plain_types.specs.declared.node.Node.{Node}
use Rattle.plain_types.specs.declared.sheet.Sheet.{Sheet}
use Rattle.box_eval.specs.Evaluation.{StyledNode}
use Rattle.generated_texts.specs.Documents.{counter_styles}
use Rattle.generated_texts.specs.StyleElements.{author_sheet}
use Rattle.merged_walk.specs.declared.stop.Stop.{Stop}
use Rattle.merged_walk.specs.Laws.{Merges}
use Rattle.merged_walk.specs.Merges.{Merge, new_of, old_of}
use Rattle.merged_walk.specs.Stops.{stops_of}
use Rattle.surroundings.specs.declared.told.Told.{Told}
use Rattle.surroundings.specs.Laws.{told_document}
use Rattle.document_walk.specs.Elements.{element_count}
use Rattle.edit_merge.specs.EditMerges.{edit_merge, is_element}
use Rattle.edit_merge.proofs.EditLaws.{edits_merge}
use Rattle.style_reach.specs.Reaches.{reach}
use Rattle.styled_merge.specs.Laws.{looks_beside, style_beside}
use Rattle.styled_merge.specs.Reached.{begins_at}
use Rattle.styled_merge.specs.StopLaws.{stops_where}
use Rattle.styled_merge.proofs.LawLemmas.{reached_merge_has_forests, styled_merges_keep_shape}
use Rattle.edit_work.specs.KeyedSources.{KeyedSource, is_among, own_starts, styled_with}
use Rattle.edit_work.specs.Laws.{Leads}
use Rattle.reference_reach.specs.MergedNodes.{elements_at_stops}
use Rattle.start_reach.specs.Laws.{AreTurned, started_merge}
use Rattle.start_reach.specs.SecondMerges.{first_merge, turned_merge}
use Rattle.start_reach.specs.TurnedElements.{with_ways_to}
use Rattle.start_reach.proofs.LawLemmas.{second_merges_are_started, second_merges_are_walkable, turned_keep_forests}
use Rattle.started_walk.specs.Walks.{Finds}
use Rattle.started_work.proofs.LawLemmas.{started_news_are_paid}
use Rattle.target_index.specs.declared.index.Index.{Index}
use Rattle.referring_elements.specs.References.{AreOnce}
use Rattle.kept_elements.specs.declared.kept.Kept.{Kept}
use Rattle.kept_elements.specs.Evaluations.{document_told}
use Rattle.kept_elements.specs.News.{AreNewsOf, KeepsTold, TellsNews, passed_among}
use Rattle.kept_elements.specs.RenewalSteps.{renewal_weight}
use Rattle.kept_elements.specs.Renewals.{TellsOfWalk, evaluated_as}
use Rattle.kept_elements.proofs.KeptTold.{styled_merges_keep_told}
use Rattle.kept_elements.proofs.PaidLemmas.{none_once}
use Rattle.kept_elements.proofs.PassedLemmas.{passed_elements_stay}
use Rattle.kept_elements.proofs.StopLemmas.{stops_lead}
use Rattle.kept_elements.proofs.ToldLemmas.{told_once}
use Rattle.dirty_walk.specs.declared.read_ahead.ReadAhead.{ReadAhead}
use Rattle.dirty_walk.specs.Places.{IsLocalEdit, place_work}
use Rattle.dirty_walk.specs.Machinery.SecondWalks.{IsSomeSecondWalk}
use Rattle.dirty_walk.specs.Machinery.SomeNews.{IsSomeNews, IsSomeNewsRead}
use Rattle.dirty_walk.proofs.KeptReferences.{told_keys}
use Rattle.dirty_walk.proofs.ExchangeLaws.{taken_beside}
use Rattle.dirty_walk.proofs.PlaceLemmas.{held_are, sheet_is, sheet_stays}
use Rattle.dirty_walk.proofs.ReferenceLemmas.{are_once}

-- An edit that does not change styles everywhere.
module _ (edit : Edit) (text : List ℕ) (held : FinMap nat_cmp Kept) (old new : Forest (Keyed Node)) (at : IsLocalEdit edit text held old new) where
  abbrev pub before : KeyedSource
  before = record { tree = old; sheet = text }

  abbrev pub after : KeyedSource
  after = record { tree = new; sheet = text }

  pub leads : Leads edit before after
  leads = record { done = at.done; sheet = sym (sheet_is edit text held old new at) }

  abbrev was : List (ℕ × Told)
  was = document_told (author_sheet text old) old

  abbrev is : List (ℕ × Told)
  is = document_told (author_sheet text new) new

  abbrev table : List CounterStyle
  table = counter_styles (author_sheet text new)

  abbrev first : Merge Node
  first = first_merge edit before after

  first_merges : Merges first old new
  first_merges = reached_merge_has_forests (begins_at (reach (looks_beside text old) old edit)) (edit_merge edit old new) old new (edits_merge edit old new at.done)

  -- Elements are turned by it.
  module _ (keys : List ℕ) (turned : AreTurned edit before after keys) where
    abbrev pub merge : Merge Node
    merge = turned_merge edit before after (is_among keys)

    pub merges : Merges merge old new
    merges = turned_keep_forests (is_among keys) first old new first_merges

    abbrev whole : Merge StyledNode
    whole = started_merge edit before after keys

    started : Merges whole (styled_with before (own_starts before)) (styled_with after (own_starts after))
    started = second_merges_are_started edit before after leads (is_among keys) (own_starts before) (own_starts after) turned.kept

    -- what is told of its forests is told of both documents
    told_old : told_document table (old_of whole) ≡ was
    told_old = ap (told_document table) started.old ∙ ap (λ (a : Sheet). told_document (counter_styles a) (styled_with before (own_starts before))) (sheet_stays edit text held old new at)

    told_new : told_document table (new_of whole) ≡ is
    told_new = ap (told_document table) started.new

    keeps_told : KeepsTold merge was is
    keeps_told =
        let once : AreOnce was = are_once was (told_once (author_sheet text old) old at.done.before.distinct) in
        subst (λ (told : List (ℕ × Told)). KeepsTold merge told is) told_old
        (subst (λ (told : List (ℕ × Told)). KeepsTold merge (told_document table (old_of whole)) told) told_new
        (styled_merges_keep_told table (style_beside text old) (style_beside text new) (own_starts before) (own_starts after) merge (subst (λ (told : List (ℕ × Told)). AreOnce told) (sym told_old) once)))

    ways_stop : with_ways_to new keys (stops_where (looks_beside text old) edit old new) ≡ stops_of is_element 0 merge
    ways_stop =
        (second_merges_are_walkable edit before after leads keys turned.stay (own_starts before) (own_starts after)).stops
        ∙ (styled_merges_keep_shape (style_beside text old) (style_beside text new) (own_starts before) (own_starts after) None merge).stops 0

    -- A walk with the ways to them has told this.
    module _ (ways : List Stop) (ways_are : ways ≡ with_ways_to new keys (stops_where (looks_beside text old) edit old new)) where
      pub its_stops : ways ≡ stops_of is_element 0 merge
      its_stops = ways_are ∙ ways_stop

      -- its stops lead to nodes of the document
      pub its_links : All (λ (stop : Stop). IsLink new stop.link) ways
      its_links =
          subst (λ (at : List Stop). All (λ (stop : Stop). IsLink new stop.link) at) (sym its_stops)
          (stops_lead is_element new 0 merge (λ k. let same : times k (new_of merge) ≡ times k new = ap (times k) merges.new in omega (arith, same)))

      module _ (told : List (ℕ × Told)) (finds : Finds was is told) where
        pub tells_of_walk : TellsOfWalk table merge old new was is told held
        tells_of_walk = record {
          merges = merges;
          distinct_before = at.done.before.distinct;
          distinct_after = at.done.after.distinct;
          once = are_once is (told_once (author_sheet text new) new at.done.after.distinct);
          named = told_keys (author_sheet text new) new at.done.after.distinct;
          held_are = held_are edit text held old new at;
          covers = finds.covers;
          among = finds.among;
        }

        module _ (news : List (ℕ × Told)) (news_are : AreNewsOf ways new told held news) where
          pub tells_news : TellsNews table merge old new was is news held
          tells_news = news_are table merge old was is its_stops keeps_told tells_of_walk

          pub news_paid : renewal_weight (evaluated_as old was) (evaluated_as new is) merge news ≤ place_work edit text old new
          news_paid = started_news_are_paid edit before after leads at.local keys turned table news held tells_news

-- The same where some edit has made the document.
module _ (text : List ℕ) (held : FinMap nat_cmp Kept) (ways : List Stop) (new : Forest (Keyed Node)) (ahead : ReadAhead) (index : Index) (told : List (ℕ × Told))
    (walk : IsSomeSecondWalk text held ways new ahead index told) where
  pub links : All (λ (stop : Stop). IsLink new stop.link) ways
  links = its_links walk.edit text held walk.old new walk.at walk.keys walk.turned ways walk.ways_are

  abbrev pub some_news : (news : List (ℕ × Told)) → AreNewsOf ways new told held news → IsSomeNews text held ways new news
  some_news news news_are = record {
    edit = walk.edit;
    old = walk.old;
    at = walk.at;
    merge = merge walk.edit text held walk.old new walk.at walk.keys walk.turned;
    stops_are = its_stops walk.edit text held walk.old new walk.at walk.keys walk.turned ways walk.ways_are;
    tells = tells_news walk.edit text held walk.old new walk.at walk.keys walk.turned ways walk.ways_are told walk.finds news news_are;
    paid = news_paid walk.edit text held walk.old new walk.at walk.keys walk.turned ways walk.ways_are told walk.finds news news_are;
  }

  abbrev pub news_read : (news : List (ℕ × Told)) → AreNewsOf ways new told held news → IsSomeNewsRead text held ways new ahead index news
  news_read news news_are = record { some = some_news news news_are; read = walk.read }

  -- What it has told of elements that the walk does not enter, and those that are taken out, are no more than the document had.

  passed_are_few : length told ≤ element_count (without_keys new) → length (passed_among (elements_at_stops new ways) told) ≤ element_count (without_keys walk.old)
  passed_are_few few =
      omega (
        arith,
        passed_elements_stay ways (counter_styles (author_sheet text new)) (merge walk.edit text held walk.old new walk.at walk.keys walk.turned) walk.old new
            (document_told (author_sheet text walk.old) walk.old) (document_told (author_sheet text new) new) told held
            (its_stops walk.edit text held walk.old new walk.at walk.keys walk.turned ways walk.ways_are)
            (tells_of_walk walk.edit text held walk.old new walk.at walk.keys walk.turned ways walk.ways_are told walk.finds)
            (told_keys (author_sheet text walk.old) walk.old walk.at.done.before.distinct) few [] none_once (λ key goes. absurd (true≢false (sym goes))),
      )

  pub passed_and_taken : length told ≤ element_count (without_keys new) → (length (passed_among (elements_at_stops new ways) told) + length ahead.takes.now) ≤ element_count (without_keys walk.old)
  passed_and_taken few =
      let test : ℕ × Told → Bool = λ one. not (is_among (elements_at_stops new ways) one.0) in
      omega (
        arith,
        taken_beside walk.edit walk.old new walk.at.done (length (passed_among (elements_at_stops new ways) told)) (omega (arith, few, length-filter test told, count_by-le-length test told)) (passed_are_few few),
        ap length walk.read.takes,
      )
