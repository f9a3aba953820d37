-- What is kept of a document's elements before an edit and after it, told by the plan of the edit (our own).
use Rattle.std.specs.Prelude.{◌≡◌, ℕ, Option, option_map}
use Rattle.std.specs.Option.{option_or}
use Rattle.forest.specs.Spots.{IsLive}
use Rattle.plain_types.specs.declared.edit.Edit.{Edit}
use Rattle.edit_merge.specs.Laws.{IsDone}
use Rattle.generated_texts.specs.declared.entry.NodeEntry.{NodeEntry}
use Rattle.merged_walk.specs.Entries.{last_at}
use Rattle.kept_elements.specs.declared.kept.Kept.{Kept}
use Rattle.kept_elements.specs.Changes.{puts_of}
use Rattle.dirty_walk.specs.declared.plan.Plan.{Plan}
use Rattle.dirty_walk.specs.Books.{fresh_entry, Keeps, StyledDocument}
use Rattle.dirty_walk.specs.Plans.{IsPlannedBy, settled_after}

-- the entry that the plan puts under a key: of a key that comes twice the last, which stays
abbrev pub put_entry : Plan → ℕ → Option NodeEntry
put_entry plan key = option_map (λ (kept : Kept). kept.entry) (last_at (puts_of plan.puts.items) key)

-- the plan is that of an edit of a book that kept what a fresh evaluation does, and keeps it still
pub record IsPlannedFrom (edit : Edit) (old book : StyledDocument) (plan : Plan) : Type 0 where
  pub done : IsDone edit old.tree book.tree
  pub keeps : Keeps old
  pub kept : book.kept ≡ old.kept
  pub planned : IsPlannedBy book plan

-- Of each node of the edited document a fresh evaluation keeps what the plan puts, and of the others what it kept before.
abbrev pub PlansPutWhatDiffers : Type 0
PlansPutWhatDiffers =
    (edit : Edit) (old book : StyledDocument) (plan : Plan) (key : ℕ) → IsPlannedFrom edit old book plan → IsLive book.tree key
    → fresh_entry (settled_after book plan) key ≡ option_or (put_entry plan key) (fresh_entry old key)
