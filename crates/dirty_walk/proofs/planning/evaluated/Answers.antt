use Rattle.std.proofs.Common.{◌≡◌, ◌∙◌, arith, ℕ, ap, sym, subst, unwrap_or, List, Option, Some, None, IfSome}
use Rattle.std.specs.Prelude.{IfNone}
use Rattle.std.specs.FinMap.{FinMap}
use Rattle.std.specs.Ordering.{nat_cmp}
use Rattle.forest.specs.Forest.{Forest}
use Rattle.forest.specs.Keys.{Keyed}
use Rattle.plain_types.specs.declared.edit.Edit.{Edit}
use Rattle.plain_types.specs.declared.node.Node.{Node}
use Rattle.target_index.specs.declared.change.IndexChange.{IndexChange}
use Rattle.target_index.specs.declared.index.Index.{Index}
use Rattle.target_index.specs.Changes.{AddsNoReferences, holds_after_all, refers_after_all}
use Rattle.target_index.specs.Holders.{is_holder, is_reference}
use Rattle.dirty_walk.specs.declared.document_styles.DocumentStyles.{DocumentStyles}
use Rattle.dirty_walk.specs.declared.edited_arena.EditedArena.{EditedArena}
use Rattle.dirty_walk.specs.declared.exchange.ElementId.{ElementId}
use Rattle.kept_elements.specs.declared.kept.Kept.{Kept}
use Rattle.dirty_walk.specs.declared.local_stops.LocalStops.{LocalStops}
use Rattle.dirty_walk.specs.declared.read_ahead.ReadAhead.{ReadAhead}
use Rattle.dirty_walk.specs.Machinery.EditedArenas.{evaluated_after}
use Rattle.dirty_walk.specs.Machinery.CountedEdits.{IsWithinEdit, IsWithinEditElements}
use Rattle.dirty_walk.specs.Countings.{StandsCounted}
use Rattle.dirty_walk.specs.Exchanges.{IsIndexBefore, coming, elements_in, exchanges}
use Rattle.referring_elements.specs.Indexes.{IsIndexOf, TellsReferences}
use Rattle.started_walk.specs.declared.counting.Counting.{Counting}
use Rattle.dirty_walk.proofs.CountedLemmas.{paid_first}
use Rattle.dirty_walk.proofs.ExchangeLaws.{index_after, index_back}
use Rattle.dirty_walk.proofs.ReferenceExchangeLemmas.{ids_add_no_references}
use Rattle.dirty_walk.proofs.ReferenceLemmas.{exchanges_keep, of_index}
use Rattle.dirty_walk.proofs.planning.evaluated.Goals as goal

module _ (edit : Edit) (gone : List ElementId) (before after : Index) (new : Forest (Keyed Node)) (was : IsIndexBefore edit gone before new)
    (made : (id : List ℕ) (key : ℕ) → is_holder after id key ≡ holds_after_all (exchanges gone (elements_in (coming edit new))) id key (is_holder before id key)) where
  -- the index is that of the edited document
  its_index : IsIndexOf after new
  its_index =
      index_after edit was.old new was.done before after was.indexed
      (λ id key. made id key ∙ ap (λ (g : List ElementId). holds_after_all (exchanges g (elements_in (coming edit new))) id key (is_holder before id key)) was.gone_are)

  -- and on the way back it is again that of the one before
  its_way_back : (changes : List IndexChange) (last : Index) → changes ≡ exchanges (elements_in (coming edit new)) gone
      → ((id : List ℕ) (key : ℕ) → is_holder last id key ≡ holds_after_all changes id key (is_holder after id key))
      → (id : List ℕ) (key : ℕ) → is_holder last id key ≡ is_holder before id key
  its_way_back changes last are undone id key =
      index_back edit was.old new was.done after last its_index
      (λ id key.
      undone id key ∙ ap (λ (c : List IndexChange). holds_after_all c id key (is_holder after id key)) (are ∙ ap (exchanges (elements_in (coming edit new))) was.gone_are))
      id key
      ∙ sym (was.indexed id key)

-- before the walks no step is taken
none_taken : (edit : Edit) (styles : DocumentStyles) (held : FinMap nat_cmp Kept) (new : Forest (Keyed Node)) (ahead : ReadAhead) (index : Index) (counting : Counting) (now : ℕ) (stops : Option LocalStops)
    → IfSome stops (λ local. IsWithinEdit edit styles held local new ahead index counting now now)
none_taken edit styles held new ahead index counting now None = tt
none_taken edit styles held new ahead index counting now (Some local) = λ there.
    paid_first edit styles.sheet held there.stands.before.old new there.stands.before.at ahead.takes.now there.stands.read.takes now now (omega arith)

none_of_elements : (edit : Edit) (styles : DocumentStyles) (held : FinMap nat_cmp Kept) (new : Forest (Keyed Node)) (ahead : ReadAhead) (index : Index) (counting : Counting) (now : ℕ) (stops : Option LocalStops)
    → IfSome stops (λ local. IsWithinEditElements edit styles held local new ahead index counting now now)
none_of_elements edit styles held new ahead index counting now None = tt
none_of_elements edit styles held new ahead index counting now (Some local) = λ there. omega arith

-- what holds of the index that was made anew
new_index : (made : Option Index) (document : EditedArena) → IfSome made (λ index. IsIndexOf index document.arena.now.tree × TellsReferences index (evaluated_after document))
    → IfSome made (λ index. IsIndexOf index document.arena.now.tree) × IfSome made (λ index. TellsReferences index (evaluated_after document))
new_index None document holds = (tt, tt)
new_index (Some index) document holds = holds

-- the index that is made anew, or else the one that is there, tells the references
its_references : (made : Option Index) (document : EditedArena) (index : Index) → IfSome made (λ index. TellsReferences index (evaluated_after document)) → IfNone made (TellsReferences index (evaluated_after document))
    → TellsReferences (unwrap_or made index) (evaluated_after document)
its_references None document index some none = none
its_references (Some new) document index some none = some

-- before the exchange of ids the document was read
module _ (edit : Edit) (styles : DocumentStyles) (held : FinMap nat_cmp Kept) (new : Forest (Keyed Node)) (ahead : ReadAhead) (index after : Index) (counting : Counting)
    (same : (id : List ℕ) (key : ℕ) → is_reference after id key ≡ is_reference index id key) where
  abbrev still_there : (local : LocalStops) → StandsCounted edit styles held local new ahead index counting → StandsCounted edit styles held local new ahead after counting
  still_there local there = record {
    stands = record {
      before = there.stands.before;
      read = record {
        takes = there.stands.read.takes;
        former = there.stands.read.former;
        tells = λ id key. same id key ∙ there.stands.read.tells id key;
      };
    };
    counts = there.counts;
  }

  still_stands : (stops : Option LocalStops) → IfSome stops (λ local. StandsCounted edit styles held local new ahead index counting)
      → IfSome stops (λ local. StandsCounted edit styles held local new ahead after counting)
  still_stands None stands = tt
  still_stands (Some local) stands = still_there local stands

  still_within : (before now : ℕ) (stops : Option LocalStops) → IfSome stops (λ local. IsWithinEdit edit styles held local new ahead after counting before now)
      → IfSome stops (λ local. IsWithinEdit edit styles held local new ahead index counting before now)
  still_within before now None within = tt
  still_within before now (Some local) within = λ there. within (still_there local there)

  still_within_elements : (before now : ℕ) (stops : Option LocalStops) → IfSome stops (λ local. IsWithinEditElements edit styles held local new ahead after counting before now)
      → IfSome stops (λ local. IsWithinEditElements edit styles held local new ahead index counting before now)
  still_within_elements before now None within = tt
  still_within_elements before now (Some local) within = λ there. within (still_there local there)

pub renewed-requires : goal.renewed-requires
renewed-requires g c =
    let document = c.args.document.now in
    record {
      place = still_stands document.edit.now document.styles.now c.args.board.now.held document.arena.now.tree c.args.ahead.now c.args.index.now c.exchange_ids.new.index c.args.counting.now
          c.exchange_ids.ensures.references c.args.stops c.requires.place;
      indexed = its_index document.edit.now c.args.gone.now c.args.index.now c.exchange_ids.new.index document.arena.now.tree c.requires.before c.in_ok-back.ensures.holders;
    }

pub commit-requires : goal.commit-requires
commit-requires g c =
    let coming = elements_in (coming c.args.document.now.edit.now c.args.document.now.arena.now.tree) in
    record {
      reserved = c.renewed.ensures.stay c.in_ok-back.back (subst AddsNoReferences (sym c.in_ok-back.ensures.back) (ids_add_no_references coming c.args.gone.now)) c.in_ok-back.ensures.reserved;
    }

pub returns-in-Ok-clause-indexed : goal.returns-in-Ok-clause-indexed
returns-in-Ok-clause-indexed g c =
    of_index (λ (index : Index). IsIndexOf index c.args.document.now.arena.now.tree) c.in-Ok.made.index c.renewed.new.index
    (new_index c.in-Ok.made.index c.args.document.now c.in-Ok.ensures.index).0
    (λ none id key.
    c.renewed.ensures.holders id key
    ∙ its_index c.args.document.now.edit.now c.args.gone.now c.args.index.now c.exchange_ids.new.index c.args.document.now.arena.now.tree c.requires.before c.in_ok-back.ensures.holders id key)

pub returns-in-Ok-clause-refers : goal.returns-in-Ok-clause-refers
returns-in-Ok-clause-refers g c =
    its_references c.in-Ok.made.index c.args.document.now c.renewed.new.index (new_index c.in-Ok.made.index c.args.document.now c.in-Ok.ensures.index).1 c.in-Ok.ensures.refers

pub returns-in-Err-clause-references : goal.returns-in-Err-clause-references
returns-in-Err-clause-references g c id key =
    let coming = elements_in (coming c.args.document.now.edit.now c.args.document.now.arena.now.tree) in
    c.commit.ensures.references id key
    ∙ ap (λ (changes : List IndexChange). refers_after_all changes id key (is_reference c.renewed.new.index id key)) c.in_ok-back.ensures.back
    ∙ exchanges_keep id key coming c.args.gone.now (is_reference c.renewed.new.index id key)
    ∙ c.in-Err.ensures.err id key
    ∙ c.exchange_ids.ensures.references id key

pub returns-in-Err-clause-err : goal.returns-in-Err-clause-err
returns-in-Err-clause-err g c =
    its_way_back c.args.document.now.edit.now c.args.gone.now c.args.index.now c.exchange_ids.new.index c.args.document.now.arena.now.tree c.requires.before c.in_ok-back.ensures.holders
    c.in_ok-back.back c.commit.new.self c.in_ok-back.ensures.back
    (λ id key. c.commit.ensures.holders id key ∙ ap (holds_after_all c.in_ok-back.back id key) (c.renewed.ensures.holders id key))

pub returns-in_err-back-clause-most : goal.returns-in_err-back-clause-most
returns-in_err-back-clause-most g c = none_taken c.args.document.now.edit.now c.args.document.now.styles.now c.args.board.now.held c.args.document.now.arena.now.tree c.args.ahead.now c.args.index.now c.args.counting.now c.args.steps.now c.args.stops

pub returns-in_err-back-clause-steps : goal.returns-in_err-back-clause-steps
returns-in_err-back-clause-steps g c = none_of_elements c.args.document.now.edit.now c.args.document.now.styles.now c.args.board.now.held c.args.document.now.arena.now.tree c.args.ahead.now c.args.index.now c.args.counting.now c.args.steps.now c.args.stops

pub returns-in-Ok-clause-most : goal.returns-in-Ok-clause-most
returns-in-Ok-clause-most g c =
    still_within c.args.document.now.edit.now c.args.document.now.styles.now c.args.board.now.held c.args.document.now.arena.now.tree c.args.ahead.now c.args.index.now c.exchange_ids.new.index c.args.counting.now c.exchange_ids.ensures.references c.args.steps.now c.renewed.new.steps c.args.stops c.renewed.ensures.most

pub returns-in-Ok-clause-steps : goal.returns-in-Ok-clause-steps
returns-in-Ok-clause-steps g c =
    still_within_elements c.args.document.now.edit.now c.args.document.now.styles.now c.args.board.now.held c.args.document.now.arena.now.tree c.args.ahead.now c.args.index.now c.exchange_ids.new.index c.args.counting.now c.exchange_ids.ensures.references c.args.steps.now c.renewed.new.steps c.args.stops c.renewed.ensures.steps

pub returns-in-Err-clause-most : goal.returns-in-Err-clause-most
returns-in-Err-clause-most g c =
    still_within c.args.document.now.edit.now c.args.document.now.styles.now c.args.board.now.held c.args.document.now.arena.now.tree c.args.ahead.now c.args.index.now c.exchange_ids.new.index c.args.counting.now c.exchange_ids.ensures.references c.args.steps.now c.renewed.new.steps c.args.stops c.renewed.ensures.most

pub returns-in-Err-clause-steps : goal.returns-in-Err-clause-steps
returns-in-Err-clause-steps g c =
    still_within_elements c.args.document.now.edit.now c.args.document.now.styles.now c.args.board.now.held c.args.document.now.arena.now.tree c.args.ahead.now c.args.index.now c.exchange_ids.new.index c.args.counting.now c.exchange_ids.ensures.references c.args.steps.now c.renewed.new.steps c.args.stops c.renewed.ensures.steps

pub returns-in-Ok-clause-few : goal.returns-in-Ok-clause-few
returns-in-Ok-clause-few g c =
    still_within c.args.document.now.edit.now c.args.document.now.styles.now c.args.board.now.held c.args.document.now.arena.now.tree c.args.ahead.now c.args.index.now c.exchange_ids.new.index c.args.counting.now c.exchange_ids.ensures.references c.args.steps.now _ c.args.stops c.in-Ok.ensures.few
