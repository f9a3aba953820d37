-- The ids whose targets an edit touches, and the elements that refer to them: CSS Generated Content 3, 2.6.
use Rattle.std.specs.Prelude.{ℕ, nat_eq, Bool, false, not, ◌||◌, List, []}
use Rattle.std.specs.List.{list_any}
use Rattle.std.specs.Option.{option_eq, option_map_or}
use Rattle.forest.specs.Forest.{Forest}
use Rattle.forest.specs.Keys.{Keyed}
use Rattle.plain_types.specs.declared.counter_style.CounterStyle.{CounterStyle}
use Rattle.plain_types.specs.declared.node.Node.{Node}
use Rattle.content_eval.specs.Targets.{Known}
use Rattle.box_eval.specs.declared.element_record.ElementRecord.{ElementRecord}
use Rattle.generated_texts.specs.declared.entry.NodeEntry.{NodeEntry}
use Rattle.generated_texts.specs.Entries.{node_entries}
use Rattle.generated_texts.specs.References.{first_holder, kept_at, known_targets}
use Rattle.edit_work.specs.KeyedSources.{is_among, references_of}

-- a document, and what is said of its elements, whatever starts its reversed counters have
pub record Evaluated : Type 0 where
  pub tree : Forest (Keyed Node)
  pub said : List (ℕ × ElementRecord)

module _ (table : List CounterStyle) (document : Evaluated) where
  -- what is known of its targets
  abbrev pub known_in : Known
  known_in = known_targets table document.tree document.said

  -- what is kept of its elements
  abbrev pub entries_in : List (ℕ × NodeEntry)
  entries_in = node_entries table known_in document.said

-- the ids to which an element refers
abbrev pub references_at : Evaluated → ℕ → List (List ℕ)
references_at document key = option_map_or references_of (kept_at document.said key) []

-- 2.6: the target of an id, which is its first holder, is one of these elements
abbrev pub has_target_among : Evaluated → (keys : List ℕ) → List ℕ → Bool
has_target_among document keys id = option_map_or (is_among keys) (first_holder document.tree id) false

-- the id has another target than before
abbrev pub has_other_target : (before after : Evaluated) → List ℕ → Bool
has_other_target before after id = not (option_eq nat_eq (first_holder before.tree id) (first_holder after.tree id))

-- Of a document that comes from another by an edit which changes these elements.
module _ (before after : Evaluated) (changed : List ℕ) where
  -- the id has another target than before, or a changed one
  abbrev pub has_changed_target : List ℕ → Bool
  has_changed_target id = has_other_target before after id || has_target_among after changed id

  -- the element refers to such an id: its texts can be other ones
  abbrev pub refers : ℕ → Bool
  refers key = list_any has_changed_target (references_at after key)

  -- the target of the id refers to such an id: `target-text()` of its boxes can write another text
  abbrev pub has_referring_target : List ℕ → Bool
  has_referring_target id = option_map_or refers (first_holder after.tree id) false

  -- the element refers to such an id: what it shows can be another text
  abbrev pub refers_through : ℕ → Bool
  refers_through key = list_any has_referring_target (references_at after key)
