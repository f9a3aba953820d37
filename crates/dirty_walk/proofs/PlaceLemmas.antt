-- Where walks from the place of an edit may begin.
use Rattle.std.proofs.Common.{◌≡◌, ◌≢◌, ℕ, false, List, ◌∷◌, Option, Some, None, refl, sym, ap, subst, ◌∙◌, unwrap_or}
use Rattle.std.specs.Prelude.{option_map}
use Rattle.std.specs.FinMap.{FinMap, get}
use Rattle.std.specs.Ordering.{nat_cmp}
use Rattle.forest.specs.Forest.{Forest}
use Rattle.forest.specs.Keys.{Keyed}
use Rattle.plain_types.specs.declared.edit.Edit.{Edit}
use Rattle.plain_types.specs.declared.counter_style.CounterStyle.{CounterStyle}
use Rattle.plain_types.specs.declared.node.Node.{Node}
use Rattle.plain_types.specs.declared.sheet.Sheet.{Sheet}
use Rattle.plain_types.specs.declared.style.ElementStyle.{ElementStyle}
use Rattle.plain_types.specs.declared.style.Style.{Style}
use Rattle.mini_cascade.specs.Styles.{element_style}
use Rattle.node_arena.specs.Edits.{edited_sheet}
use Rattle.css_reader.specs.Sheets.{sheets}
use Rattle.box_eval.specs.Starts.{no_starts}
use Rattle.generated_texts.specs.Documents.{agent_sheet, counter_styles}
use Rattle.generated_texts.specs.References.{kept_at}
use Rattle.generated_texts.specs.StyleElements.{author_sheet}
use Rattle.merged_walk.specs.declared.stop.Stop.{Stop}
use Rattle.merged_walk.specs.Entries.{first_at}
use Rattle.surroundings.specs.declared.told.Told.{Told}
use Rattle.surroundings.specs.declared.walked.Walked.{Walked}
use Rattle.document_walk.specs.Catching.{Reading}
use Rattle.edit_merge.specs.EditMerges.{inserted_key}
use Rattle.edit_merge.specs.Laws.{IsDone}
use Rattle.style_reach.specs.Laws.{Edits}
use Rattle.style_reach.specs.Reaches.{all_features, reach}
use Rattle.style_reach.specs.TouchedSheets.{touches_sheet}
use Rattle.style_reach.specs.declared.extent.Reach.{Reach}
use Rattle.style_reach.specs.declared.extent.Reach.TheVariants.{All as Everywhere}
use Rattle.style_reach.proofs.AuthorLaws.{sheet-stays, texts-stay, touches-not}
use Rattle.styled_merge.specs.Laws.{looks_beside}
use Rattle.styled_merge.specs.ReachStops.{reach_stops}
use Rattle.styled_merge.specs.StopLaws.{stops_where}
use Rattle.started_walk.specs.Twice.{reading_of}
use Rattle.dirty_walk.specs.declared.document_styles.DocumentStyles.{DocumentStyles}
use Rattle.kept_elements.specs.declared.kept.Kept.{Kept}
use Rattle.dirty_walk.specs.declared.local_stops.LocalStops.{LocalStops}
use Rattle.dirty_walk.specs.declared.styled_arena.StyledArena.{StyledArena}
use Rattle.dirty_walk.specs.DocumentStyles.{document_styles, read_styles}
use Rattle.kept_elements.specs.Evaluations.{document_kept, document_told}
use Rattle.kept_elements.specs.Renewals.{kept_in}
use Rattle.dirty_walk.specs.Machinery.DocumentWalks.{source_of}
use Rattle.dirty_walk.specs.Machinery.PlaceReadings.{read_of}
use Rattle.dirty_walk.specs.PlaceStyles.{StandsBefore}
use Rattle.dirty_walk.specs.Places.{IsLocalEdit}
use Rattle.kept_elements.specs.Changes.{walked_at}
use Rattle.kept_elements.proofs.KnownLemmas.{kept_mapped}
use Rattle.dirty_walk.proofs.PlanLemmas.{its_author}
use Rattle.kept_elements.proofs.RenewalLemmas.{at_first}

walked_of : (f : Told → Kept) → ((told : Told) → (f told).walked ≡ told.walked) → (o : Option Told) → option_map (λ (kept : Kept). kept.walked) (option_map f o) ≡ option_map (λ (told : Told). told.walked) o
walked_of f same None = refl
walked_of f same (Some told) = ap (λ (walked : Walked). Some walked) (same told)

module _ (edit : Edit) (text : List ℕ) (held : FinMap nat_cmp Kept) (old new : Forest (Keyed Node)) (at : IsLocalEdit edit text held old new) where
  edits : Edits edit old new
  edits = record { document = at.done.before; allowed = at.done.allowed; edited = at.done.edited }

  -- The sheets stay.

  free : touches_sheet old edit ≡ false
  free = touches-not (looks_beside text old) edit old at.local

  pub sheet_is : edited_sheet edit text ≡ text
  sheet_is = sheet-stays edit old text free

  pub sheet_stays : author_sheet text new ≡ author_sheet text old
  sheet_stays = ap (λ texts. sheets (text ∷ texts)) (texts-stay edit old new edits free)

  pub styles_stay : document_styles text new ≡ document_styles text old
  styles_stay = ap (read_styles text) (texts-stay edit old new edits free)

  -- What is told of the document before is what the board has.

  abbrev told_before : List (ℕ × Told)
  told_before = document_told (author_sheet text old) old

  kept_before : (key : ℕ) → get held key ≡ option_map (kept_in (counter_styles (author_sheet text old)) old told_before) (kept_at told_before key)
  kept_before key = at.kept key ∙ kept_mapped (kept_in (counter_styles (author_sheet text old)) old told_before) told_before key

  -- also by the counter styles of the edited document
  pub held_are : (key : ℕ) → get held key ≡ option_map (kept_in (counter_styles (author_sheet text new)) old told_before) (kept_at told_before key)
  held_are key = subst (λ (a : Sheet). get held key ≡ option_map (kept_in (counter_styles a) old told_before) (kept_at told_before key)) (sym sheet_stays) (kept_before key)

  pub walked_are : (key : ℕ) → walked_at held key ≡ option_map (λ (told : Told). told.walked) (first_at told_before key)
  walked_are key =
      ap (option_map (λ (kept : Kept). kept.walked)) (kept_before key)
      ∙ walked_of (kept_in (counter_styles (author_sheet text old)) old told_before) (λ told. refl) (kept_at told_before key)
      ∙ ap (option_map (λ (told : Told). told.walked)) (sym (at_first told_before key))

-- what a walk with all starts 0 reads of a document and its styles
pub reads : (document : StyledArena) → document.agent.now ≡ agent_sheet → document.styles.now ≡ document_styles document.styles.now.sheet document.arena.now.tree
    → read_of document ≡ reading_of (source_of document)
unfolding read_styles
reads document is_agent styles_are =
    let tree = document.arena.now.tree in
    let styles = document.styles.now in
    ap (λ (agent : Sheet). reading_by styles.table (element_style tree agent styles.author) tree) is_agent
    ∙ ap (λ (s : DocumentStyles). reading_by s.table (element_style tree agent_sheet s.author) tree) styles_are
  where
    reading_by : List CounterStyle → (ℕ → Option Style → ElementStyle) → Forest (Keyed Node) → Reading
    reading_by table style tree = record { table = table; style = style; start = no_starts; tree = tree }

-- A book before its edit is evaluated.

-- where what the edit inserts has this key, the stops that are named so are those that were told before
abbrev pub AreNamed : Edit → LocalStops → Forest (Keyed Node) → List Stop → Type 0
AreNamed edit local new named =
    (old : Forest (Keyed Node)) → local.stops.items ≡ reach_stops local.extent edit 0 old → named ≡ reach_stops local.extent edit (inserted_key edit new) old

module _ (edit : Edit) (styles : DocumentStyles) (held : FinMap nat_cmp Kept) (local : LocalStops) (new : Forest (Keyed Node)) (there : StandsBefore edit styles held local new) where
  -- the styles are those of the edited document
  pub styles_now : styles ≡ document_styles styles.sheet new
  styles_now = there.styles_are ∙ sym (styles_stay edit styles.sheet held there.old new there.at)

  pub sheet_now : edited_sheet edit styles.sheet ≡ styles.sheet
  sheet_now = sheet_is edit styles.sheet held there.old new there.at

  pub styles_after : (made : Option DocumentStyles) → made ≡ None → unwrap_or made styles ≡ document_styles (edited_sheet edit styles.sheet) new
  styles_after made none = ap (λ (o : Option DocumentStyles). unwrap_or o styles) none ∙ styles_now ∙ ap (λ (text : List ℕ). document_styles text new) (sym sheet_now)

  module _ (named : List Stop) (names : AreNamed edit local new named) where
    pub its_stops : named ≡ stops_where (looks_beside styles.sheet there.old) edit there.old new
    its_stops = names there.old there.stops_are ∙ ap (λ (extent : Reach). reach_stops extent edit (inserted_key edit new) there.old) there.extent_is

-- its edit reaches as far as its document's sheets say
pub its_reach : (edit : Edit) (agent : Sheet) (styles : DocumentStyles) (old : Forest (Keyed Node)) → agent ≡ agent_sheet → styles ≡ document_styles styles.sheet old
    → reach (all_features agent styles.author) old edit ≡ reach (looks_beside styles.sheet old) old edit
its_reach edit agent styles old is_agent styles_are =
    ap (λ (a : Sheet). reach (all_features a styles.author) old edit) is_agent
    ∙ ap (λ (author : Sheet). reach (all_features agent_sheet author) old edit) (its_author styles styles.sheet old styles_are)

module _ (edit : Edit) (styles : DocumentStyles) (held : FinMap nat_cmp Kept) (old new : Forest (Keyed Node)) (styles_are : styles ≡ document_styles styles.sheet old) (finished : IsDone edit old new)
    (kept : (key : ℕ) → get held key ≡ kept_at (document_kept (author_sheet styles.sheet old) old) key) where
  -- where the edit's walks may begin, before the edit is done
  abbrev pub stands_there : (local : LocalStops) → local.extent ≡ reach (looks_beside styles.sheet old) old edit → local.extent ≢ Everywhere
      → local.stops.items ≡ reach_stops local.extent edit 0 old → StandsBefore edit styles held local new
  stands_there local extent other stops_are = record {
    old = old;
    styles_are = styles_are;
    at = record { done = finished; local = λ all. other (extent ∙ all); kept = kept };
    extent_is = extent;
    stops_are = stops_are;
  }
