-- Laws of what is read of a counter's scope: it tells the start.
use Rattle.std.specs.Prelude.{◌≡◌, ℕ, true, List, Option}
use Rattle.forest.specs.Forest.{Forest}
use Rattle.forest.specs.Keys.{Keyed, HasDistinctKeys}
use Rattle.plain_types.specs.declared.box_id.BoxId.{BoxId}
use Rattle.plain_types.specs.declared.counter_style.CounterStyle.{CounterStyle}
use Rattle.plain_types.specs.declared.node.Node.{Node}
use Rattle.plain_types.specs.declared.style.ElementStyle.{ElementStyle}
use Rattle.plain_types.specs.declared.style.Style.{Style}
use Rattle.reversed_start.specs.Starts.{start}
use Rattle.box_eval.specs.Evaluation.{StyledNode, all_changes, past_trees, styled}
use Rattle.box_eval.specs.Elements.{Handed, Styled, by_parent, children_handed, own_counted}
use Rattle.box_eval.specs.Laws.{OfEachDocument}
use Rattle.box_eval.specs.Starts.{document_starts, events_of, no_starts}
use Rattle.scope_reading.specs.ScopeChanges.{scope_changes}

-- what boxes do to a counter is told by what is read
abbrev pub ScopesTellEvents : Type 0
ScopesTellEvents =
    OfEachDocument (λ table document. (creator : BoxId) (name : List ℕ)
    → events_of (all_changes table document) creator name ≡ events_of (scope_changes creator name table document) creator name)

-- and so is the start of a reversed counter, in the evaluation with all starts 0
abbrev pub ScopesTellStarts : Type 0
ScopesTellStarts =
    (table : List CounterStyle) (style : ℕ → Option Style → ElementStyle) (document : Forest (Keyed Node)) → HasDistinctKeys document
    → (creator : BoxId) (name : List ℕ)
    → document_starts table style document creator name ≡ start (events_of (scope_changes creator name table (styled style no_starts document)) creator name)

-- Whether an element's own set has the counter is told by what is handed on behind its children, which is kept of it: there its own
-- set is that of the parent.
abbrev pub OwnSetsAreBehindChildren : Type 0
OwnSetsAreBehindChildren =
    (table : List CounterStyle) (key : ℕ) (element : Styled) (handed : Handed) (children : Forest (Keyed StyledNode))
    → (past_trees table by_parent true (children_handed table by_parent key element handed) children).parent ≡ (own_counted table by_parent key element handed).set
