-- The levels of a merge, by those of its two forests. Throughout, n is a node, c what is under it, r what is after it,
-- g trees, and m a merge.
use Rattle.std.proofs.Common.{◌≡◌, ◌||◌, ℕ, zero, suc, Bool, true, false, List, [], ◌∷◌, refl}
use Rattle.std.proofs.lemmas.Bool.{or_parts}
use Rattle.forest.specs.Forest.{Forest, Empty, Tree, IsOneTree}
use Rattle.forest.specs.Keys.{Keyed, without_keys}
use Rattle.plain_types.specs.Tree.{AreSound}
use Rattle.plain_types.specs.declared.node.Node.{Node}
use Rattle.plain_types.specs.declared.node.Node.TheVariants.{Element, Text}
use Rattle.node_arena.proofs.ToTree.{IsSoundAt, sound-root}
use Rattle.merged_walk.specs.Merges.{Merge, End, Kept, Turned, Gone, Come, all_kept, has_place, new_of, old_of}
use Rattle.merged_walk.specs.Stops.{stops_of}
use Rattle.merged_walk.specs.Edits.{come_among, first_changed, first_gone, from_new, insertion, merged_at, merged_from, moving, put_at, put_fragment, relabelling, removal}
use Rattle.edit_merge.specs.EditMerges.{is_element}
use Rattle.surroundings.specs.MergedLevels.{AreAllLed, AreLeaves, HasLeaves}

module _ {L : Type 0} where
  no-merge : (m : Merge L) → old_of m ≡ Empty → new_of m ≡ Empty → m ≡ End
  no-merge End old new = refl
  no-merge (Kept n c r) old new = absurd (cc)
  no-merge (Turned was n c r) old new = absurd (cc)
  no-merge (Gone n c r) old new = absurd (cc)
  no-merge (Come n c r) old new = absurd (cc)

  -- Roots that have places.

  led-new : (m : Merge L) → old_of m ≡ Empty → AreAllLed m
  led-new End old = tt
  led-new (Kept n c r) old = absurd (cc)
  led-new (Turned was n c r) old = absurd (cc)
  led-new (Gone n c r) old = absurd (cc)
  led-new (Come n c r) old = led-new r old

  led-old : (m : Merge L) → new_of m ≡ Empty → AreAllLed m
  led-old End new = tt
  led-old (Kept n c r) new = absurd (cc)
  led-old (Turned was n c r) new = absurd (cc)
  led-old (Gone n c r) new = led-old r new
  led-old (Come n c r) new = absurd (cc)

  under-root : (c r : Merge L) → r ≡ End → (has_place c || has_place r) ≡ true → has_place c ≡ true
  under-root c End is some = only (has_place c) some
    where
      only : (b : Bool) → (b || false) ≡ true → b ≡ true
      only true h = refl
      only false h = h
  under-root c (Kept n d r) is some = absurd (cc)
  under-root c (Turned was n d r) is some = absurd (cc)
  under-root c (Gone n d r) is some = absurd (cc)
  under-root c (Come n d r) is some = absurd (cc)

  -- where both forests are one tree and there is a place, there is none to skip among the roots
  pub led-one : (m : Merge L) → IsOneTree (old_of m) → IsOneTree (new_of m) → has_place m ≡ true → AreAllLed m
  led-one End old new some = absurd old
  led-one (Kept n c r) old new some = (under-root c r (no-merge r old new) some, led-new r old)
  led-one (Turned was n c r) old new some = led-new r old
  led-one (Gone n c r) old new some = led-new r old
  led-one (Come n c r) old new some = led-old r new

  -- without a place there are no stops
  pub no-stops : (element : L → Bool) (d : ℕ) (m : Merge L) → has_place m ≡ false → stops_of element d m ≡ []
  no-stops element d End h = refl
  no-stops element d (Kept n c r) h = let parts = or_parts (has_place c) (has_place r) h in rw (parts.0, no-stops element d r parts.1) refl
  no-stops element d (Turned was n c r) h = absurd (cc)
  no-stops element d (Gone n c r) h = absurd (cc)
  no-stops element d (Come n c r) h = absurd (cc)

  -- Texts have no children.

  module _ (element : L → Bool) where
    -- what is turned is an element before and now, under the same key
    abbrev pub TurnsElements : Merge L → Type 0
    TurnsElements End = Unit {0}
    TurnsElements (Kept n c r) = TurnsElements c × TurnsElements r
    TurnsElements (Turned was n c r) = (element was.label ≡ true) × (element n.label ≡ true) × (was.key ≡ n.key) × TurnsElements c × TurnsElements r
    TurnsElements (Gone n c r) = TurnsElements r
    TurnsElements (Come n c r) = TurnsElements r

    pub leaves-merged : (m : Merge L) → TurnsElements m → AreLeaves element (old_of m) → AreLeaves element (new_of m) → HasLeaves element m
    leaves-merged End turns old new = tt
    leaves-merged (Kept n c r) turns old new = (λ text. no-merge c (old.0 text) (new.0 text), leaves-merged c turns.0 old.1 new.1, leaves-merged r turns.1 old.2 new.2)
    leaves-merged (Turned was n c r) turns old new = (turns.0, turns.1, turns.2, leaves-merged c turns.3 old.1 new.1, leaves-merged r turns.4 old.2 new.2)
    leaves-merged (Gone n c r) turns old new = leaves-merged r turns old.2 new
    leaves-merged (Come n c r) turns old new = (new.0, new.1, leaves-merged r turns old new.2)

    -- No node is turned in the merge of an edit.

    turns-all_kept : (g : Forest (Keyed L)) → TurnsElements (all_kept g)
    turns-all_kept Empty = tt
    turns-all_kept (Tree n c r) = (turns-all_kept c, turns-all_kept r)

    module _ (change : Forest (Keyed L) → Merge L) where
      turns-merged_from : ((g : Forest (Keyed L)) → TurnsElements (change g)) → (position : ℕ) (g : Forest (Keyed L)) → TurnsElements (merged_from change position g)
      turns-merged_from turns zero g = turns g
      turns-merged_from turns (suc position) Empty = tt
      turns-merged_from turns (suc position) (Tree n c r) = (turns-all_kept c, turns-merged_from turns position r)

    turns-merged_at : (change : Forest (Keyed L) → Merge L) → ((g : Forest (Keyed L)) → TurnsElements (change g)) → (path : List ℕ) (g : Forest (Keyed L)) → TurnsElements (merged_at change path g)
    turns-merged_at change turns [] g = turns g
    turns-merged_at change turns (position ∷ path) Empty = tt
    turns-merged_at change turns (position ∷ path) (Tree n c r) = (turns-merged_from (merged_at change path) (turns-merged_at change turns path) position c, turns-all_kept r)

    turns-first_gone : (g : Forest (Keyed L)) → TurnsElements (first_gone g)
    turns-first_gone Empty = tt
    turns-first_gone (Tree n c r) = turns-all_kept r

    turns-first_changed : (change : Keyed L → Keyed L) (g : Forest (Keyed L)) → TurnsElements (first_changed change g)
    turns-first_changed change Empty = tt
    turns-first_changed change (Tree n c r) = turns-all_kept r

    turns-come_among : (position : ℕ) (z : Keyed L) (zs : Forest (Keyed L)) (m : Merge L) → TurnsElements m → TurnsElements (come_among position z zs m)
    turns-come_among zero z zs m h = h
    turns-come_among (suc position) z zs End h = tt
    turns-come_among (suc position) z zs (Kept n c r) h = (h.0, turns-come_among position z zs r h.1)
    turns-come_among (suc position) z zs (Turned was n c r) h = (h.0, h.1, h.2, h.3, turns-come_among position z zs r h.4)
    turns-come_among (suc position) z zs (Gone n c r) h = turns-come_among (suc position) z zs r h
    turns-come_among (suc position) z zs (Come n c r) h = turns-come_among position z zs r h

    turns-from_new : (change : Merge L → Merge L) → ((m : Merge L) → TurnsElements m → TurnsElements (change m)) → (position : ℕ) (m : Merge L) → TurnsElements m → TurnsElements (from_new change position m)
    turns-from_new change turns zero End h = turns End h
    turns-from_new change turns zero (Kept n c r) h = turns (Kept n c r) h
    turns-from_new change turns zero (Turned was n c r) h = turns (Turned was n c r) h
    turns-from_new change turns zero (Gone n c r) h = turns-from_new change turns zero r h
    turns-from_new change turns zero (Come n c r) h = turns (Come n c r) h
    turns-from_new change turns (suc position) End h = tt
    turns-from_new change turns (suc position) (Kept n c r) h = (h.0, turns-from_new change turns position r h.1)
    turns-from_new change turns (suc position) (Turned was n c r) h = (h.0, h.1, h.2, h.3, turns-from_new change turns position r h.4)
    turns-from_new change turns (suc position) (Gone n c r) h = turns-from_new change turns (suc position) r h
    turns-from_new change turns (suc position) (Come n c r) h = turns-from_new change turns position r h

    turns-put_at : (path : List ℕ) (index : ℕ) (z : Keyed L) (zs : Forest (Keyed L)) (m : Merge L) → TurnsElements m → TurnsElements (put_at path index z zs m)
    turns-put_at [] index z zs End h = tt
    turns-put_at [] index z zs (Kept n c r) h = (turns-come_among index z zs c h.0, h.1)
    turns-put_at [] index z zs (Turned was n c r) h = (h.0, h.1, h.2, turns-come_among index z zs c h.3, h.4)
    turns-put_at [] index z zs (Gone n c r) h = turns-put_at [] index z zs r h
    turns-put_at [] index z zs (Come n c r) h = h
    turns-put_at (position ∷ path) index z zs End h = tt
    turns-put_at (position ∷ path) index z zs (Kept n c r) h = (turns-from_new (put_at path index z zs) (turns-put_at path index z zs) position c h.0, h.1)
    turns-put_at (position ∷ path) index z zs (Turned was n c r) h = (h.0, h.1, h.2, turns-from_new (put_at path index z zs) (turns-put_at path index z zs) position c h.3, h.4)
    turns-put_at (position ∷ path) index z zs (Gone n c r) h = turns-put_at (position ∷ path) index z zs r h
    turns-put_at (position ∷ path) index z zs (Come n c r) h = h

    turns-put_fragment : (path : List ℕ) (index : ℕ) (trees : Forest (Keyed L)) (m : Merge L) → TurnsElements m → TurnsElements (put_fragment path index trees m)
    turns-put_fragment path index Empty m h = h
    turns-put_fragment path index (Tree z zs after) m h = turns-put_at path index z zs m h

    pub turns-kept : (g : Forest (Keyed L)) → TurnsElements (all_kept g)
    turns-kept g = turns-all_kept g

    pub turns-removal : (path : List ℕ) (g : Forest (Keyed L)) → TurnsElements (removal path g)
    turns-removal path g = turns-merged_at first_gone turns-first_gone path g

    pub turns-relabelling : (path : List ℕ) (change : Keyed L → Keyed L) (g : Forest (Keyed L)) → TurnsElements (relabelling path change g)
    turns-relabelling path change g = turns-merged_at (first_changed change) (turns-first_changed change) path g

    pub turns-insertion : (parent : List ℕ) (index : ℕ) (trees g : Forest (Keyed L)) → TurnsElements (insertion parent index trees g)
    turns-insertion parent index trees g = turns-put_fragment parent index trees (all_kept g) (turns-all_kept g)

    pub turns-moving : (from parent : List ℕ) (index : ℕ) (g : Forest (Keyed L)) → TurnsElements (moving from parent index g)
    turns-moving from parent index g = turns-put_fragment _ index _ (removal from g) (turns-removal from g)

leaf : (node : Node) (c : Forest (Keyed Node)) → IsSoundAt node c → is_element node ≡ false → c ≡ Empty
leaf (Element name attrs) c sound text = absurd (cc)
leaf (Text characters) c sound text = sound

-- the texts of a document have no children
pub leaves-sound : (g : Forest (Keyed Node)) → AreSound (without_keys g) → AreLeaves is_element g
leaves-sound Empty sound = tt
leaves-sound (Tree n c r) sound =
    let parts = sound-root n.label c (without_keys r) sound in (leaf n.label c parts.0, leaves-sound c parts.1, leaves-sound r parts.2)
