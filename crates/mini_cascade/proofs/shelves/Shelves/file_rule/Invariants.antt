use Rattle.std.proofs.Common.{◌≡◌, ◌&&◌, ◌||◌, ℕ, nat_eq, drop}
use Rattle.std.specs.List.{list_any}
use Rattle.plain_types.specs.declared.selector.Selector.{Selector}
use Rattle.mini_cascade.specs.Machinery.Shelves.{is_in_slot}
use Rattle.mini_cascade.specs.RuleTables.{Slot, filed_under, is_same_slot}
use Rattle.mini_cascade.proofs.shelves.Shelves.file_rule.Given as goal

abbrev pub invariant-loop-selector : goal.invariant-loop-selector
invariant-loop-selector l =
    (slot : Slot) (one : ℕ) → (is_in_slot l.self slot one || (list_any (λ (selector : Selector). is_same_slot (filed_under selector) slot) (drop l.selector-index l.selector-items) && nat_eq one l.place))
    ≡ (is_in_slot l.initial.self slot one || (list_any (λ (selector : Selector). is_same_slot (filed_under selector) slot) l.selector-items && nat_eq one l.place))
