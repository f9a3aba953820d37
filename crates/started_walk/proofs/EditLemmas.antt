-- An edit that does not reach everywhere: its stops, and where its walks may begin.
use Rattle.std.proofs.Common.{◌≡◌, ◌∙◌, ◌<◌, ℕ, true, List, [], Option, None, refl, sym, ap, subst, arith}
use Rattle.std.specs.Prelude.{All}
use Rattle.std.proofs.lemmas.List.Elements.{All-nil, All-weaker}
use Rattle.forest.specs.Keys.{times}
use Rattle.forest.specs.Spots.{IsLink, IsLive}
use Rattle.forest.proofs.SpotLaws.{counted-live}
use Rattle.plain_types.specs.declared.edit.Edit.{Edit}
use Rattle.plain_types.specs.declared.node.Node.{Node}
use Rattle.plain_types.specs.declared.node.Node.TheVariants as node
use Rattle.plain_types.specs.declared.style.Style.{Style}
use Rattle.box_eval.specs.Evaluation.{style_within}
use Rattle.box_eval.specs.Starts.{no_starts}
use Rattle.generated_texts.specs.Documents.{agent_sheet, document_style}
use Rattle.merged_walk.specs.declared.stop.Stop.{Stop}
use Rattle.merged_walk.specs.Merges.{Merge, End, Kept, Turned, Gone, Come, new_of}
use Rattle.merged_walk.specs.Stops.{stops_of}
use Rattle.surroundings.specs.declared.walked.Walked.{Walked}
use Rattle.document_walk.specs.Catching.{Reading, document_of}
use Rattle.edit_merge.specs.EditMerges.{is_element}
use Rattle.style_reach.specs.Reaches.{all_features}
use Rattle.styled_merge.specs.Stays.{OfElement}
use Rattle.styled_merge.specs.StyledMerges.{Starting, Styling, styled_merge}
use Rattle.styled_merge.proofs.KeptLaws.{new-whole}
use Rattle.styled_merge.proofs.StopLemmas.{reaches_are_walkable}
use Rattle.edit_work.specs.KeyedSources.{KeyedSource, author, is_among, own_starts}
use Rattle.edit_work.specs.Laws.{Leads}
use Rattle.start_reach.specs.Laws.{plain_merge}
use Rattle.start_reach.specs.SecondMerges.{first_merge, second_merge, turned_merge}
use Rattle.start_reach.specs.TurnedElements.{HasSameStartsUnder, KeptHaveSameStarts, stays, with_ways_to}
use Rattle.start_reach.proofs.LawLemmas.{edits, merges}
use Rattle.start_reach.proofs.TurnedLaws.{none-turned, stays-counted}
use Rattle.kept_elements.proofs.StopLemmas.{stops_lead}
use Rattle.started_walk.specs.Countings.{KeepsWalked}
use Rattle.started_walk.specs.Twice.{IsSomeEdit}
use Rattle.started_walk.specs.Walks.{CanWalkAgain, Reads, StandsTurned, edit_stops}

-- starts are the same as themselves
module _ (new : Styling) (start : Starting) where
  its-own : (parent : Option Style) (key : ℕ) (label : Node) → OfElement (HasSameStartsUnder new start start parent) key label
  its-own parent key (node.Element name attrs) = refl
  its-own parent key (node.Text characters) = tt

  pub kept-own : (merge : Merge Node) (parent : Option Style) → KeptHaveSameStarts new start start parent merge
  kept-own End parent = tt
  kept-own (Kept n c r) parent = (its-own parent n.key n.label, kept-own c (style_within new start parent n.key n.label), kept-own r parent)
  kept-own (Turned was n c r) parent = (kept-own c (style_within new start parent n.key n.label), kept-own r parent)
  kept-own (Gone n c r) parent = kept-own r parent
  kept-own (Come n c r) parent = kept-own r parent

module _ (edit : Edit) (before after : KeyedSource) (leads : Leads edit before after) where
  pub first-new : new_of (first_merge edit before after) ≡ after.tree
  first-new = new-whole edit before.tree after.tree (edits edit before after leads) (merges edit before after leads) (all_features agent_sheet (author before))

  -- elements that stay are in the document
  pub staying-live : (keys : List ℕ) → All (λ key. stays is_element key (first_merge edit before after) ≡ true) keys → All (IsLive after.tree) keys
  staying-live keys stay =
      All-weaker (λ key. stays is_element key (first_merge edit before after) ≡ true) (IsLive after.tree)
      (λ key here. counted-live after.tree key (subst (λ tree. 0 < times key tree) first-new (stays-counted is_element key (first_merge edit before after) here)))
      keys stay

  module _ (stops : List Stop) (stops_are : stops ≡ edit_stops edit before after) where
    pub its-stops : stops ≡ stops_of is_element 0 (first_merge edit before after)
    its-stops = stops_are ∙ (reaches_are_walkable edit before.tree after.tree leads.done (all_features agent_sheet (author before))).stops

    -- the stops lead to nodes of the document
    pub links : All (λ (stop : Stop). IsLink after.tree stop.link) stops
    links =
        let first = first_merge edit before after in
        subst (λ (at : List Stop). All (λ (stop : Stop). IsLink after.tree stop.link) at) (sym its-stops)
        (stops_lead is_element after.tree 0 first (λ k. let same : times k (new_of first) ≡ times k after.tree = ap (times k) first-new in omega (arith, same)))

-- The first walk.

module _ (from : Reading) (takes : List ℕ) (stops : List Stop) (place : IsSomeEdit from takes stops) where
  pub tree-is : from.tree ≡ place.after.tree
  tree-is = ap (λ (read : Reading). read.tree) place.reads

  -- its stops lead to nodes of the document
  pub links-first : All (λ (stop : Stop). IsLink from.tree stop.link) stops
  links-first = subst (λ tree. All (λ (stop : Stop). IsLink tree stop.link) stops) (sym tree-is) (links place.edit place.before place.after place.leads stops place.stops_are)

  pub reads-zeros : Reads from place.after no_starts
  reads-zeros = record {
    table = ap (λ (read : Reading). read.table) place.reads;
    tree = tree-is;
    document = ap document_of place.reads;
  }

  abbrev pub walk-zeros : (kept : ℕ → Option Walked) → KeepsWalked place.before no_starts kept → StandsTurned from kept stops
  walk-zeros kept keeps = record {
    edit = place.edit;
    before = place.before;
    after = place.after;
    leads = place.leads;
    local = place.local;
    was_start = no_starts;
    start = no_starts;
    keys = [];
    stay = All-nil (λ key. stays is_element key (first_merge place.edit place.before place.after) ≡ true);
    same = kept-own (document_style (author place.after) place.after.tree) no_starts (turned_merge place.edit place.before place.after (is_among [])) None;
    reads = reads-zeros;
    keeps = keeps;
    stops_are = place.stops_are;
  }

  -- goes over the merge of the edit
  pub zeros-plain : second_merge place.edit place.before place.after (is_among []) no_starts no_starts ≡ plain_merge place.edit place.before place.after
  zeros-plain =
      ap (styled_merge (document_style (author place.before) place.before.tree) (document_style (author place.after) place.after.tree) no_starts no_starts None)
      (none-turned is_element (first_merge place.edit place.before place.after))

-- The second walk.

module _ (from : Reading) (kept : ℕ → Option Walked) (turned : List ℕ) (stops : List Stop) (walk : CanWalkAgain from kept turned stops) where
  pub links-again : All (λ (stop : Stop). IsLink from.tree stop.link) stops
  links-again = subst (λ tree. All (λ (stop : Stop). IsLink tree stop.link) stops) (sym walk.reads.tree) (links walk.edit walk.before walk.after walk.leads stops walk.stops_are)

  pub live-again : All (IsLive from.tree) turned
  live-again = subst (λ tree. All (IsLive tree) turned) (sym walk.reads.tree) (staying-live walk.edit walk.before walk.after walk.leads turned walk.turned_are.stay)

  abbrev pub ways : List Stop
  ways = with_ways_to from.tree turned stops

  abbrev pub walk-again : StandsTurned from kept ways
  walk-again = record {
    edit = walk.edit;
    before = walk.before;
    after = walk.after;
    leads = walk.leads;
    local = walk.local;
    was_start = own_starts walk.before;
    start = own_starts walk.after;
    keys = turned;
    stay = walk.turned_are.stay;
    same = walk.turned_are.kept;
    reads = walk.reads;
    keeps = walk.keeps;
    stops_are = ap (λ tree. with_ways_to tree turned stops) walk.reads.tree ∙ ap (with_ways_to walk.after.tree turned) walk.stops_are;
  }
