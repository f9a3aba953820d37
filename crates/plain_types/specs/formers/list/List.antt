-- How a `List` holds its items, so that a type may hold a `List` of itself.
use base.Stored.{code_map}
use denote.Hole.Carrier.{listed, list-listed}
use denote.Hole.Fix.{over}
use denote.HoleLaws.{Alike}
use denote.HolePlaces.{Recodes, laid, struct_places}
use denote.Model.Placed.{view_places}
use denote.Param.Weighed.{Weighed, w_list}
use denote.RattleType.{RattleType}
use mathlib.Core.Former.{Former, children, list, this, via}
use mathlib.Core.List.{List, []}
use mathlib.Core.Path.{◌≡◌, refl, sym}
use Rattle.plain_types.specs.contracts.list.List as outside
use Rattle.plain_types.specs.contracts.list.List.TheInside as inside
use Rattle.plain_types.specs.declared.list.List.TheInside.{Inside}
use Rattle.plain_types.specs.declared.list.List.TheView.{invariant, view}
use Rattle.std.specs.contracts.alloc.Global as global
use Rattle.std.specs.contracts.impls.GlobalAllocator.TheImpl.{ghosts}
use Rattle.std.specs.declared.alloc.Global.{Global}
use Rattle.std.specs.formers.vec.Vec as vec

-- a `List` of what a former makes is a list of it
abbrev pub the_former : Former {0} → Former {0}
the_former held = list held

abbrev pub the_weighed : {held : Former {0}} → Weighed held → Weighed (the_former held)
the_weighed weighed = w_list weighed

pub the_empty : List ⊥
the_empty = []

abbrev pub the_items : (Item : Type 0) → List Item → List Item
the_items Item items = items

pub the_items_listed : (Item : Type 0) (items : List Item) → listed _ (children (the_former this) Item items) ≡ the_items Item items
the_items_listed Item items = list-listed Item items

-- the one field, and the way there and back
abbrev the_fields : Former {0}
the_fields = via (vec.the_former this Global) Inside (λ Item list. list.items) (λ Item items. record { items = items }) (λ Item list. refl) (λ Item items. refl)

-- a map over the items is a map over the list
module _ (From To : RattleType) (change : From.Denot → To.Denot) where
  pub the_places : Alike From To change → Alike (outside.the_row From) (outside.the_row To) ((the_former this).map From.Denot To.Denot change)
  the_places alike =
      view_places the_fields (list this) view (λ Item Other f list. refl) (λ Item list. refl)
      From.Denot To.Denot change (outside.the_row From).coded (outside.the_row To).coded
      (invariant From.Denot) (invariant To.Denot)
      (λ list held kept. refl) (λ list held kept. refl) (λ list held. tt) (λ list held. tt)
      (over (inside.the_row From)) (over (inside.the_row To))
      (struct_places (inside.the_type From) (inside.the_type To) (vec.mapped change, tt) _ (λ list. refl) refl
      (laid _ _ _ (vec.the_places global.the_row ghosts From To change alike), tt))

  pub the_codes_placed : Recodes From To change → Recodes (outside.the_row From) (outside.the_row To) ((the_former this).map From.Denot To.Denot change)
  the_codes_placed recodes items = sym (code_map From.coded.code To.coded.code change (λ item. sym (recodes item)) items)
