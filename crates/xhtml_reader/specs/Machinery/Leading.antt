-- Reading on from a state.
use Rattle.std.specs.Prelude.{◌≡◌, ℕ, ◌⊎◌, List, ◌++◌, Some, None}
use Rattle.xml_definitions.specs.Items.{Item, ArePieces}
use Rattle.xml_definitions.specs.Spelling.{Spells}
use Rattle.xhtml_items.specs.FirstItem.{BeginsWith, BeginsWithNone}
use Rattle.xhtml_reader.specs.declared.kind.Kind.{Kind}
use Rattle.xhtml_reader.specs.Machinery.States.{State, some_state, step, run}

-- the text goes on with items, and they lead from here to there
pub record Leads (kind : Kind) (text : List ℕ) (state : State) (after : List ℕ) (next : State) : Type 0 where
  pub items : List Item
  pub front : List ℕ
  pub spelled : ArePieces Spells front items
  pub parts : text ≡ front ++ after
  pub ran : run kind (Some state) items ≡ some_state next

-- the text goes on with no item, or with one that does not fit
abbrev pub Stops : Kind → List ℕ → State → Type 0
Stops kind text state = BeginsWithNone text ⊎ ((item : Item) × (after : List ℕ) × BeginsWith text item after × (step kind state item ≡ None))
