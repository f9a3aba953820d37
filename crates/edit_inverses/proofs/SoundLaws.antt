-- Documents stay sound when they are edited: attributes of distinct names, and texts without children.
use Rattle.std.proofs.Common.{◌≡◌, ℕ, zero, suc, true, List, [], ◌∷◌, refl, ap, ◌∙◌}
use Rattle.forest.specs.Forest.{Forest, Empty, Tree}
use Rattle.forest.specs.Paths.{on_path, trees_from}
use Rattle.forest.specs.Changes.{splice}
use Rattle.plain_types.specs.Tree.{AreSound}
use Rattle.plain_types.specs.declared.node.Node.{Node}
use Rattle.plain_types.specs.declared.node.Node.TheVariants.{Element, Text}
use Rattle.node_arena.specs.AtPaths.{at_path, from_position, with_label, without_first}
use Rattle.node_arena.specs.Copies.{is_element}
use Rattle.node_arena.specs.Edits.{set_attr, unset_attr}
use Rattle.node_arena.proofs.AtPathLaws.{at-empty}
use Rattle.node_arena.proofs.AttrLaws.{distinct-with, distinct-without}

-- A node, what is under it, and what is beside it.

pub sound_rest : (n : Node) (c r : Forest Node) → AreSound (Tree n c r) → AreSound r
sound_rest (Element name attrs) c r h = h.2
sound_rest (Text characters) c r h = h.1

pub sound_under : (n : Node) (c r : Forest Node) → AreSound (Tree n c r) → AreSound c
sound_under (Element name attrs) c r h = h.1
sound_under (Text characters) Empty r h = tt
sound_under (Text characters) (Tree m d s) r h = absurd (let none = h.0 in cc)

pub sound_beside : (n : Node) (c r s : Forest Node) → AreSound (Tree n c r) → AreSound s → AreSound (Tree n c s)
sound_beside (Element name attrs) c r s h g = (h.0, h.1, g)
sound_beside (Text characters) c r s h g = (h.0, g)

pub sound_with : (n : Node) (c d r : Forest Node) → is_element n ≡ true → AreSound (Tree n c r) → AreSound d → AreSound (Tree n d r)
sound_with (Element name attrs) c d r is h g = (h.0, g, h.2)
sound_with (Text characters) c d r is h g = absurd (cc)

-- a node that has children is an element
pub above_element : (n : Node) (c r : Forest Node) (i : ℕ) (m : Node) (t s : Forest Node) → AreSound (Tree n c r) → trees_from i c ≡ Tree m t s → is_element n ≡ true
above_element (Element name attrs) c r i m t s h e = refl
above_element (Text characters) (Tree k d b) r i m t s h e = absurd (let none = h.0 in cc)
above_element (Text characters) Empty r zero m t s h e = absurd (cc)
above_element (Text characters) Empty r (suc i) m t s h e = absurd (cc)

pub sound_from : (i : ℕ) (x : Forest Node) → AreSound x → AreSound (trees_from i x)
sound_from zero x h = h
sound_from (suc i) Empty h = tt
sound_from (suc i) (Tree n c r) h = sound_from i r (sound_rest n c r h)

pub sound_on : (path : List ℕ) (x : Forest Node) → AreSound x → AreSound (on_path path x)
sound_on [] x h = h
sound_on (p ∷ path) Empty h = tt
sound_on (p ∷ path) (Tree n c r) h = sound_on path (trees_from p c) (sound_from p c (sound_under n c r h))

-- A change at a path.

sound_from_position : (change : Forest Node → Forest Node) (i : ℕ) (x : Forest Node) → AreSound x → AreSound (change (trees_from i x)) → AreSound (from_position change i x)
sound_from_position change zero x h g = g
sound_from_position change (suc i) Empty h g = tt
sound_from_position change (suc i) (Tree n c r) h g =
    sound_beside n c r (from_position change i r) h (sound_from_position change i r (sound_rest n c r h) g)

from_nothing : (change : Forest Node → Forest Node) (i : ℕ) → change Empty ≡ Empty → from_position change i Empty ≡ Empty
from_nothing change zero e = e
from_nothing change (suc i) e = refl

pub sound_at : (change : Forest Node → Forest Node) → change Empty ≡ Empty → (path : List ℕ) (x : Forest Node) → AreSound x → AreSound (change (on_path path x)) → AreSound (at_path change path x)
sound_at change e [] x h g = g
sound_at change e (p ∷ path) Empty h g = tt
sound_at change e (p ∷ path) (Tree (Element name attrs) c r) h g =
    (h.0, sound_from_position (at_path change path) p c h.1 (sound_at change e path (trees_from p c) (sound_from p c h.1) g), h.2)
sound_at change e (p ∷ path) (Tree (Text characters) c r) h g =
    (ap (from_position (at_path change path) p) h.0 ∙ from_nothing (at_path change path) p (at-empty change path e), h.1)

pub sound_without : (x : Forest Node) → AreSound x → AreSound (without_first x)
sound_without Empty h = tt
sound_without (Tree n c r) h = sound_rest n c r h

pub sound_splice : (i : ℕ) (m : Node) (t s c : Forest Node) → AreSound (Tree m t s) → AreSound c → AreSound (splice i m t c)
sound_splice zero m t s c own h = sound_beside m t s c own h
sound_splice (suc i) m t s Empty own h = sound_beside m t s Empty own tt
sound_splice (suc i) m t s (Tree n d r) own h = sound_beside n d r (splice i m t r) h (sound_splice i m t s r own (sound_rest n d r h))

pub sound_set : (name value : List ℕ) (x : Forest Node) → AreSound x → AreSound (with_label (set_attr name value) x)
sound_set name value Empty h = tt
sound_set name value (Tree (Element tag attrs) c r) h = (distinct-with name value attrs h.0, h.1, h.2)
sound_set name value (Tree (Text characters) c r) h = h

pub sound_unset : (name : List ℕ) (x : Forest Node) → AreSound x → AreSound (with_label (unset_attr name) x)
sound_unset name Empty h = tt
sound_unset name (Tree (Element tag attrs) c r) h = (distinct-without name attrs h.0, h.1, h.2)
sound_unset name (Tree (Text characters) c r) h = h
