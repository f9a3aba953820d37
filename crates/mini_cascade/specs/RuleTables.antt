-- Which rules of a sheet are looked at for an element. Our own, as browsers do it: a selector is filed under one simple
-- selector of its last compound, an id before a class and a class before a type, and is looked at for those elements alone
-- that have this id, class or name.
use Rattle.std.specs.Prelude.{◌≡◌, ℕ, Bool, true, false, nat_lt, if◌then◌else◌, List, [], ◌∷◌, ◌++◌, map, filter, reverse, Option, option_map, codes}
use Rattle.std.specs.List.{list_any, flat_map}
use Rattle.std.specs.Option.{option_map_or, option_to_list}
use Rattle.std.specs.Str.{bytes_eq}
use Rattle.forest.specs.Forest.{Forest}
use Rattle.forest.specs.Keys.{Keyed}
use Rattle.forest.specs.Spots.{IsLive}
use Rattle.plain_types.specs.declared.node.Node.{Node}
use Rattle.plain_types.specs.declared.selector.Compound.{Compound}
use Rattle.plain_types.specs.declared.selector.Selector.{Selector}
use Rattle.plain_types.specs.declared.selector.Simple.{Simple}
use Rattle.plain_types.specs.declared.selector.Simple.TheFolds.{fold-Simple}
use Rattle.plain_types.specs.declared.selector.Simple.TheOpen.{Simple-F}
use Rattle.plain_types.specs.declared.selector_parts.PseudoElement.{PseudoElement}
use Rattle.plain_types.specs.declared.sheet.StyleRule.{StyleRule}
use Rattle.node_arena.specs.Document.{IsKeyedDocument}
use Rattle.node_arena.specs.Nodes.{attr_of, name_of}
use Rattle.selector_match.specs.Attributes.{parts}
use Rattle.selector_match.specs.Matching.{matches}
use Rattle.mini_cascade.specs.Declarations.{declared_in}
use Rattle.mini_cascade.specs.declared.rank.Origin.{Origin}

-- under what a selector is filed: an id, a class, the name of a type, or none of these
pub data Slot : Type 0 where
  Id : (name : List ℕ) → Slot
  Class : (name : List ℕ) → Slot
  Name : (name : List ℕ) → Slot
  Other : Slot

-- the two are the same, names compared as written
abbrev pub is_same_slot : Slot → Slot → Bool
is_same_slot (Id first) (Id second) = bytes_eq first second
is_same_slot (Class first) (Class second) = bytes_eq first second
is_same_slot (Name first) (Name second) = bytes_eq first second
is_same_slot Other Other = true
is_same_slot _ _ = false

-- the less, the fewer elements a slot is thought to be of
abbrev pub breadth : Slot → ℕ
breadth (Id name) = 0
breadth (Class name) = 1
breadth (Name name) = 2
breadth Other = 3

-- the narrower of two; of equals the first
abbrev pub narrower : Slot → Slot → Slot
narrower first second = if nat_lt (breadth second) (breadth first) then second else first

-- what a simple selector asks for: `#id`, `.class` and `name`
abbrev pub slot_in : Simple-F Slot Slot → Slot
slot_in (Simple-F.Id name) = Id name
slot_in (Simple-F.Class name) = Class name
slot_in (Simple-F.Element name) = Name name
slot_in _ = Other

abbrev pub slot_of : Simple → Slot
slot_of simple = fold-Simple Slot Slot slot_in (λ compound. Other) simple

-- the narrowest of a slot and of those of all these
abbrev pub narrowest_with : Slot → List Simple → Slot
narrowest_with narrowest [] = narrowest
narrowest_with narrowest (first ∷ rest) = narrowest_with (narrower narrowest (slot_of first)) rest

-- of compounds that stand from the last to the first, the last one tells
abbrev pub slot_by : List Compound → Slot
slot_by [] = Other
slot_by (last ∷ compounds) = narrowest_with Other last.simples

abbrev pub filed_under : Selector → Slot
filed_under selector = slot_by (reverse selector.compounds)

-- where an element of this name, with this id and this value of its `class`, is looked up
abbrev pub slots_with : Option (List ℕ) → Option (List ℕ) → Option (List ℕ) → List Slot
slots_with name id class =
    Other ∷ (option_to_list (option_map Name name) ++ (option_to_list (option_map Id id) ++ option_map_or (λ text. map Class (parts text)) class []))

module _ (tree : Forest (Keyed Node)) (key : ℕ) where
  abbrev pub slots_of : List Slot
  slots_of = slots_with (name_of tree key) (attr_of tree key (codes "id")) (attr_of tree key (codes "class"))

  abbrev pub is_looked_at : Selector → Bool
  is_looked_at selector = list_any (is_same_slot (filed_under selector)) slots_of

  -- the rules with a selector that is looked at, in the order of the sheet
  abbrev pub candidates : List StyleRule → List StyleRule
  candidates rules = filter (λ (rule : StyleRule). list_any is_looked_at rule.selectors) rules

-- a selector that matches an element is looked at for it
abbrev pub MatchingAreLookedAt : Type 0
MatchingAreLookedAt =
    (tree : Forest (Keyed Node)) (key : ℕ) (selector : Selector) → IsKeyedDocument tree → IsLive tree key → matches tree key selector ≡ true
    → is_looked_at tree key selector ≡ true

-- so all that rules declare is declared by the candidates
abbrev pub CandidatesDeclareAll : Type 0
CandidatesDeclareAll =
    (tree : Forest (Keyed Node)) (key : ℕ) (pseudo : PseudoElement) (origin : Origin) (rules : List StyleRule) → IsKeyedDocument tree → IsLive tree key
    → flat_map (declared_in tree key pseudo origin) (candidates tree key rules) ≡ flat_map (declared_in tree key pseudo origin) rules
