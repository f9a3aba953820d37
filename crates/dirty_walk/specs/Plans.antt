-- What contracts see of planned edits (our own).
use Rattle.std.specs.Prelude.{◌≡◌, ◌+◌, ℕ, true, false, List, length, IsSome}
use Rattle.std.specs.List.{AllByRecursion}
use Rattle.forest.specs.Forest.{Forest}
use Rattle.forest.specs.Keys.{Keyed}
use Rattle.plain_types.specs.declared.node.Node.{Node}
use Rattle.node_arena.specs.Nodes.{name_of}
use Rattle.kept_elements.specs.declared.kept.Kept.{Kept}
use Rattle.snapshot_board.specs.Records.{put_all, take_all}
use Rattle.dirty_walk.specs.declared.plan.Plan.{Plan}
use Rattle.dirty_walk.specs.Books.{KeepsAll, StyledDocument}
use Rattle.kept_elements.specs.Changes.{AreOthers, TellShown, puts_of}

-- what the book is once the plan is committed: it has the document and the sheet that it has by then, and of what it
-- keeps some goes, and then some comes
unfoldable pub settled_after : StyledDocument → Plan → StyledDocument
settled_after book plan =
    record { tree = book.tree; sheet = book.sheet; settled = true; kept = put_all (puts_of plan.puts.items) (take_all plan.takes book.kept) }

-- each of these is kept of an element
abbrev pub AreOfElements : Forest (Keyed Node) → List (ℕ × Kept) → Type 0
AreOfElements document entries = AllByRecursion (λ (entry : ℕ × Kept). IsSome (name_of document entry.0)) entries

-- an edit of the book is planned, and with the plan the book keeps what a fresh evaluation does, of elements alone; what
-- it keeps already does not come again, and of each element it is told whether it shows another text than before
unfoldable pub IsPlannedBy : StyledDocument → Plan → Type 0
IsPlannedBy book plan =
    (book.settled ≡ false) × KeepsAll (settled_after book plan) × AreOfElements book.tree (puts_of plan.puts.items) × AreOthers book.kept (puts_of plan.puts.items) × TellShown book.kept plan.puts.items

-- how many entries come and go
abbrev pub plan_size : Plan → ℕ
plan_size plan = length plan.puts.items + length plan.takes
