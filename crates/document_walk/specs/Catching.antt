-- What a walk from the places of an edit does at each turn (our own).
use Rattle.std.specs.Prelude.{◌≡◌, ◌==◌, ℕ, ℤ, Bool, true, false, List, [], ◌∷◌, ◌++◌, Option, Some, None, if◌then◌else◌, option_map, reverse, length}
use Rattle.std.specs.FinMap.{get}
use Rattle.std.specs.Option.{option_and_then, option_eq, option_map_or}
use Rattle.forest.specs.Forest.{Forest}
use Rattle.forest.specs.Keys.{Keyed}
use Rattle.forest.specs.Spots.{first_child_of, next_sibling_of}
use Rattle.plain_types.specs.declared.box_id.BoxId.{BoxId}
use Rattle.plain_types.specs.declared.counter_style.CounterStyle.{CounterStyle}
use Rattle.plain_types.specs.declared.node.Node.{Node}
use Rattle.plain_types.specs.declared.style.ElementStyle.{ElementStyle}
use Rattle.plain_types.specs.declared.style.Style.{Style}
use Rattle.mini_cascade.specs.Styles.{element_style}
use Rattle.box_eval.specs.declared.change.Change.{Change}
use Rattle.box_eval.specs.declared.element_record.ElementRecord.{ElementRecord}
use Rattle.box_eval.specs.Evaluation.{StyledNode, changes_in, styled, without_box}
use Rattle.merged_walk.specs.declared.stop.Stop.{Stop}
use Rattle.snapshot_board.specs.Records.{Records}
use Rattle.surroundings.specs.declared.surroundings.Surroundings.{Surroundings}
use Rattle.surroundings.specs.declared.told.Told.{Told}
use Rattle.surroundings.specs.declared.walked.Walked.{Walked}
use Rattle.surroundings.specs.StyledEvaluators.{IsBehindChildren}
use Rattle.surroundings.specs.Surroundings.{HandsOn, IsByOther, handed_behind, handed_by, handed_inside, is_same}
use Rattle.document_walk.specs.declared.catching.Catching.{Catching}
use Rattle.document_walk.specs.declared.catching.OpenElement.{OpenElement}
use Rattle.document_walk.specs.declared.opened.Opened.{Opened}
use Rattle.document_walk.specs.declared.sources.Sources.{Sources}
use Rattle.document_walk.specs.Walking.{asks_before, changes_before, closing_with, opened_in, own_changes, starts_before, told_opened}

-- What a walk reads: the author's counter styles, the styles of elements, the starts of reversed counters, and the document.
pub record Reading : Type 0 where
  pub table : List CounterStyle
  pub style : ℕ → Option Style → ElementStyle
  pub start : BoxId → List ℕ → ℤ
  pub tree : Forest (Keyed Node)

-- what is read of sources, of which this tells the starts
abbrev pub reading : {T : Type 0} → (T → BoxId → List ℕ → ℤ) → Sources T → Reading
reading starts sources = record {
  table = sources.table.now;
  style = element_style sources.arena.now.tree sources.agent.now sources.author.now;
  start = starts sources.starts.now;
  tree = sources.arena.now.tree;
}

-- the document as it is evaluated
abbrev pub document_of : Reading → Forest (Keyed StyledNode)
document_of from = styled from.style from.start from.tree

-- Where the walk stands: its open elements and its stops, the next first.

abbrev pub frames_of : Catching → List OpenElement
frames_of walk = reverse walk.stack.items

abbrev pub stops_left : Catching → List Stop
stops_left walk = reverse walk.stops.items

-- the next stop, where it is on this level
abbrev pub stop_ahead : List Stop → ℕ → Option Stop
stop_ahead [] depth = None
stop_ahead (stop ∷ stops) depth = if stop.depth == depth then Some stop else None

-- the node at which a walk goes on at a stop, or the end of the level, and the element that tells what is handed there
abbrev pub link_of : Option Stop → Option ℕ
link_of stop = option_and_then (λ (s : Stop). s.link) stop

abbrev pub from_of : Option Stop → Option ℕ
from_of stop = option_and_then (λ (s : Stop). s.from) stop

-- Of the innermost open element: its key, whether it stands in a tree that comes, and its style, where it has a box.

abbrev pub parent_in : List OpenElement → Option ℕ
parent_in [] = None
parent_in (frame ∷ frames) = Some frame.key

abbrev pub is_fresh_in : List OpenElement → Bool
is_fresh_in [] = false
is_fresh_in (frame ∷ frames) = frame.fresh

abbrev pub style_above : List OpenElement → Option Style
style_above [] = None
style_above (frame ∷ frames) = option_map (λ (opened : Opened). opened.style.own) frame.opened

-- What was kept of elements.

-- on a board, of whose records this tells it
abbrev pub kept_on : {R : Type 0} → (R → Walked) → Records R → ℕ → Option Walked
kept_on walked board = λ key. option_map walked (get board.held key)

-- the element was handed this
abbrev pub is_same_at : (ℕ → Option Walked) → ℕ → Option Surroundings → Bool
is_same_at kept key around = option_map_or (λ (walked : Walked). option_eq is_same around walked.handed) (kept key) false

-- what was handed at a place, as an element of its level tells it, or else their parent
abbrev pub told_at : (ℕ → Option Walked) → Option ℕ → Option ℕ → Option Surroundings
told_at kept (Some key) parent = option_and_then (λ (walked : Walked). walked.handed) (kept key)
told_at kept None (Some key) = option_and_then (λ (walked : Walked). walked.behind) (kept key)
told_at kept None None = None

-- What the evaluation of an element asks of what it is handed.

abbrev pub CanOpen : ℕ → Option Surroundings → Type 0
CanOpen key None = Unit {0}
CanOpen key (Some around) = HandsOn (IsByOther key) around

abbrev pub CanClose : ℕ → Option Surroundings → Type 0
CanClose key None = Unit {0}
CanClose key (Some around) = IsBehindChildren key around

-- what the children of an element are handed, of which this was made
abbrev pub inside_opened : Option Opened → Option Surroundings
inside_opened opened = option_map (λ (opened : Opened). handed_inside opened.entry) opened

-- what is collected, with these changes behind it; where none are collected, these aren't either
abbrev pub with_changes : Option (List Change) → List Change → Option (List Change)
with_changes collected more = option_map (λ (changes : List Change). changes ++ more) collected

module _ (from : Reading) where
  -- what is made of an element under these open ones, where it is handed this; nothing where nothing is handed
  abbrev pub opened_at : List OpenElement → ℕ → Option Surroundings → Option Opened
  opened_at frames key None = None
  opened_at frames key (Some around) = opened_in from.table from.style from.start from.tree true key (style_above frames) (handed_by around)

  -- what is said of an element that is left, where this is handed on behind its children
  abbrev pub said_by : ℕ → Option Opened → Option Surroundings → ElementRecord
  said_by key None behind = without_box
  said_by key (Some opened) None = without_box
  said_by key (Some opened) (Some behind) = told_opened opened.depth opened.entry (closing_with from.table from.tree key opened (handed_by behind))

  -- and what is handed on behind it
  abbrev pub past_by : ℕ → Option Opened → (handed behind : Option Surroundings) → Option Surroundings
  past_by key None handed behind = handed
  past_by key (Some opened) handed None = handed
  past_by key (Some opened) handed (Some behind) =
      Some (handed_behind opened.parent opened.entry.own (closing_with from.table from.tree key opened (handed_by behind)))

  -- what is told of it
  abbrev pub told_by : OpenElement → Option Surroundings → Told
  told_by frame behind = record {
    said = said_by frame.key frame.opened behind;
    walked = record { handed = frame.handed; behind = behind };
    asks = asks_before frame.opened;
    starts = starts_before frame.opened;
    changes = own_changes frame.opened;
  }

  -- the element of this key was entered
  pub record HasEntered (old new : Catching) (key : ℕ) (fresh : Bool) : Type 0 where
    pub frames : frames_of new ≡ record { key = key; opened = opened_at (frames_of old) key old.around; handed = old.around; fresh = fresh } ∷ frames_of old
    pub around : new.around ≡ inside_opened (opened_at (frames_of old) key old.around)
    pub link : new.link ≡ first_child_of from.tree key
    pub stops : new.stops ≡ old.stops
    pub told : new.told ≡ old.told
    pub changes : new.changes ≡ with_changes old.changes (changes_before (opened_at (frames_of old) key old.around))

  -- this element was left, which was off the stack already
  pub record HasLeft (old new : Catching) (frame : OpenElement) : Type 0 where
    pub stack : new.stack ≡ old.stack
    pub around : new.around ≡ past_by frame.key frame.opened frame.handed old.around
    pub link : new.link ≡ next_sibling_of from.tree frame.key
    pub stops : new.stops ≡ old.stops
    pub told : new.told ≡ old.told ++ (frame.key, told_by frame old.around) ∷ []
    pub changes : new.changes ≡ with_changes old.changes (changes_in (said_by frame.key frame.opened old.around).after)

-- the walk went to the next stop of its level, or to the level's end
pub record HasSkipped (kept : ℕ → Option Walked) (old new : Catching) : Type 0 where
  pub stack : new.stack ≡ old.stack
  pub around : new.around ≡ told_at kept (from_of (stop_ahead (stops_left old) (length (frames_of old)))) (parent_in (frames_of old))
  pub link : new.link ≡ link_of (stop_ahead (stops_left old) (length (frames_of old)))
  pub stops : new.stops ≡ old.stops
  pub told : new.told ≡ old.told
  pub changes : new.changes ≡ old.changes
