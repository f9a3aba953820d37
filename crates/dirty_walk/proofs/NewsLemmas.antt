-- What news of an edited document lead to: which references change, which texts are made again, and how many steps that takes.
use Rattle.std.proofs.Common.{◌≡◌, ◌≤◌, ◌+◌, ◌*◌, ◌∙◌, ℕ, nat_eq, true, List, [], ◌∷◌, length, Option, Some, refl, sym, ap, subst, arith}
use Rattle.std.specs.Prelude.{filter, is_some, sum_by}
use Rattle.std.specs.FinMap.{FinMap}
use Rattle.std.specs.List.{list_any}
use Rattle.std.specs.Ordering.{nat_cmp}
use Rattle.std.proofs.lemmas.List.{length-map}
use Rattle.std.proofs.lemmas.List.Sums.{sum_by-cons}
use Rattle.forest.specs.Forest.{Forest}
use Rattle.forest.specs.Keys.{Keyed}
use Rattle.plain_types.specs.declared.counter_style.CounterStyle.{CounterStyle}
use Rattle.plain_types.specs.declared.node.Node.{Node}
use Rattle.plain_types.specs.declared.sheet.Sheet.{Sheet}
use Rattle.generated_texts.specs.Documents.{counter_styles}
use Rattle.generated_texts.specs.References.{kept_at, known_targets}
use Rattle.generated_texts.specs.StyleElements.{author_sheet}
use Rattle.merged_walk.specs.declared.stop.Stop.{Stop}
use Rattle.surroundings.specs.declared.told.Told.{Told}
use Rattle.edit_work.specs.KeyedSources.{is_among}
use Rattle.edit_work.specs.KeyedSources.{elements_in as elements_of}
use Rattle.reference_reach.specs.ToldLaws.{keys_of}
use Rattle.target_index.specs.declared.index.Index.{Index}
use Rattle.referring_elements.specs.declared.former.FormerTarget.{FormerTarget}
use Rattle.referring_elements.specs.Indexes.{TellsReferences}
use Rattle.kept_elements.specs.declared.kept.Kept.{Kept}
use Rattle.kept_elements.specs.declared.kept_change.KeptChange.{KeptChange}
use Rattle.kept_elements.specs.Changes.{Renews}
use Rattle.kept_elements.specs.Evaluations.{all_kept_of, document_kept, document_told, evaluated_document}
use Rattle.referring_elements.specs.References.{said_of}
use Rattle.kept_elements.specs.RenewalSteps.{renewal_weight, weight_in}
use Rattle.kept_elements.specs.Renewals.{IsSomeWalk, TellsOfWalk, evaluated_as, is_told}
use Rattle.kept_elements.proofs.ChangeLemmas.{some-kept, some_of}
use Rattle.kept_elements.proofs.KeyWeights.{among-filter, element_listed}
use Rattle.kept_elements.proofs.RenewedLemmas.{caught_there}
use Rattle.kept_elements.proofs.StepLemmas.{keys_told}
use Rattle.dirty_walk.specs.declared.styled_arena.StyledArena.{StyledArena}
use Rattle.dirty_walk.specs.DocumentStyles.{document_styles}
use Rattle.dirty_walk.specs.Exchanges.{elements_in, leaving, taken_keys}
use Rattle.dirty_walk.specs.FormerTargets.{AreFormerTargetsOf}
use Rattle.dirty_walk.specs.Places.{place_work}
use Rattle.dirty_walk.specs.Machinery.ReferenceExchanges.{ChangesReferences, IsWithinKeys}
use Rattle.dirty_walk.specs.Machinery.SomeNews.{IsSomeNews}
use Rattle.dirty_walk.proofs.ExchangeLaws.{takes_are}
use Rattle.dirty_walk.proofs.KeptReferences.{changes_references}
use Rattle.dirty_walk.proofs.PlanLemmas.{its_table}

-- Lists.

at_least : (w : ℕ → ℕ) → ((key : ℕ) → 1 ≤ w key) → (keys : List ℕ) → length keys ≤ sum_by w keys
at_least w heavy [] = omega arith
at_least w heavy (key ∷ keys) = omega (arith, at_least w heavy keys, sum_by-cons w key keys, heavy key)

-- so many steps, and one for each element of which this is told
pub within_told : (told : List (ℕ × Told)) (more from now : ℕ) → IsWithinKeys told more from now → now ≤ from + (more + length told)
within_told told more from now within =
    omega (arith, within (keys_of told) (λ key is. keys_told told key ∙ is), length-map told (λ (element : ℕ × Told). element.0))

-- A document and its styles, and some edit of which these are news.
module _ (document : StyledArena) (styles_are : document.styles.now ≡ document_styles document.styles.now.sheet document.arena.now.tree) (held : FinMap nat_cmp Kept) (stops : List Stop) (news : List (ℕ × Told))
    (some : IsSomeNews document.styles.now.sheet held stops document.arena.now.tree news) where
  abbrev text : List ℕ
  text = document.styles.now.sheet

  abbrev tree : Forest (Keyed Node)
  tree = document.arena.now.tree

  abbrev was_author : Sheet
  was_author = author_sheet text some.old

  abbrev author : Sheet
  author = author_sheet text tree

  -- what is told of both documents
  abbrev was : List (ℕ × Told)
  was = document_told was_author some.old

  abbrev is : List (ℕ × Told)
  is = document_told author tree

  -- Steps.

  abbrev weight : ℕ
  weight = renewal_weight (evaluated_as some.old was) (evaluated_as tree is) some.merge news

  abbrev its_work : ℕ
  its_work = place_work some.edit text some.old tree

  told_there : (key : ℕ) → is_told news key ≡ true → (told : Told) × (kept_at is key ≡ Some told)
  told_there key does =
      let its = some_of (kept_at news key) (some-kept key news ∙ does) in
      (its.0, caught_there news is some.tells.tells.once some.tells.tells.among key its.0 its.1)

  -- the elements that are told otherwise
  abbrev listed : List ℕ
  listed = filter (is_told news) (elements_of tree)

  listed_are : (key : ℕ) → is_told news key ≡ true → is_among listed key ≡ true
  listed_are key does =
      let its = told_there key does in
      among-filter (is_told news) key does (elements_of tree) (element_listed tree key (sym (some.tells.tells.named key) ∙ ap (λ (o : Option Told). is_some o) its.1))

  few_listed : length listed ≤ weight
  few_listed = omega (arith, at_least (weight_in (evaluated_as some.old was) (evaluated_as tree is)) (λ key. omega arith) listed)

  sum : (takes from between now come weight work : ℕ) → between ≤ from + (takes + weight) → now ≤ between + weight → come ≤ weight → weight ≤ work → (now + 2 * come) ≤ from + (takes + 4 * work)
  sum takes from between now come weight work first second third fourth = omega arith

  -- The references that the edit exchanges: of what it takes out and of what is told otherwise.
  module _ (told : List (ℕ × Told)) (told_are : told ≡ news) where
    pub news_change : (takes : List ℕ) → takes ≡ taken_keys some.edit (elements_in (leaving some.edit some.old))
        → ChangesReferences held takes told (evaluated_document was_author some.old) (evaluated_document author tree)
    news_change takes are =
        subst (λ (told : List (ℕ × Told)). ChangesReferences held takes told (evaluated_document was_author some.old) (evaluated_document author tree)) (sym told_are)
        (changes_references was_author author some.old tree some.at.done.before.distinct some.at.done.after.distinct held some.at.kept takes
        (λ key. ap (list_any (nat_eq key)) are ∙ takes_are some.edit some.old tree some.at.done key) news some.tells.tells.covers some.tells.tells.among)

    module _ (takes from now : ℕ) (within : IsWithinKeys told takes from now) where
      exchanges_few : now ≤ from + (takes + weight)
      exchanges_few =
          omega (arith, (subst (λ (told : List (ℕ × Told)). IsWithinKeys told takes from now) told_are within) listed listed_are, few_listed)

      pub exchange_within : now ≤ from + (takes + 4 * its_work)
      exchange_within = omega (arith, exchanges_few, some.paid)

  -- The texts of the elements that refer.

  table_is : document.styles.now.table ≡ counter_styles author
  table_is = its_table document.styles.now text tree styles_are

  pub tells_of_news : TellsOfWalk document.styles.now.table some.merge some.old tree was is news held
  tells_of_news = subst (λ (table : List CounterStyle). TellsOfWalk table some.merge some.old tree was is news held) (sym table_is) some.tells.tells

  module _ (index : Index) (former : List FormerTarget) (former_are : AreFormerTargetsOf some.edit some.old former) (refers : TellsReferences index (evaluated_document author tree)) where
    -- the walk is one by which the texts of the elements that refer may be made again
    abbrev pub some_walk : IsSomeWalk document.styles.now.table index former stops tree news held
    some_walk = record {
      merge = some.merge;
      old = some.old;
      was = was;
      is = is;
      tells = tells_of_news;
      stops_are = some.stops_are;
      former_are = former_are (evaluated_document was_author some.old) (evaluated_document author tree) refl some.at.done;
      refers = refers;
    }

    -- what comes by it is what a fresh evaluation has
    pub walk_renews : (changes : List (ℕ × KeptChange))
        → ((walk : IsSomeWalk document.styles.now.table index former stops tree news held)
        → Renews held (all_kept_of document.styles.now.table (known_targets document.styles.now.table tree (said_of walk.is)) walk.is) changes)
        → Renews held (document_kept author tree) changes
    walk_renews changes renews =
        subst (λ (table : List CounterStyle). Renews held (all_kept_of table (known_targets table tree (said_of is)) is) changes) table_is (renews some_walk)

    -- the steps to exchange references and to make texts again, and then two for each change
    pub within_news : (told : List (ℕ × Told)) → told ≡ news → (takes from between now come : ℕ) → IsWithinKeys told takes from between
        → ((walk : IsSomeWalk document.styles.now.table index former stops tree news held) → now ≤ between + renewal_weight (evaluated_as walk.old walk.was) (evaluated_as tree walk.is) walk.merge news)
        → ((walk : IsSomeWalk document.styles.now.table index former stops tree news held) → come ≤ renewal_weight (evaluated_as walk.old walk.was) (evaluated_as tree walk.is) walk.merge news)
        → (now + 2 * come) ≤ from + (takes + 4 * its_work)
    within_news told told_are takes from between now come within spent comes =
        sum takes from between now come weight its_work (exchanges_few told told_are takes from between within) (spent some_walk) (comes some_walk) some.paid
