-- What a step back or forth does to the versions that a history keeps.
use Rattle.std.proofs.Common.{◌≡◌, ◌≤◌, ◌+◌, ◌-◌, ℕ, zero, suc, List, [], ◌∷◌, length, take, drop, Option, Some, None, slice_get, Result, Ok, Err, OnOk, OnErr, IsErr, IsErrAnd, IsSomeAnd, IfSome, ◌*◌, refl, sym, ap, subst, ◌∙◌, arith}
use Rattle.std.proofs.lemmas.Option.{none-some, same_Some}
use Rattle.std.proofs.lemmas.Result.{on_ok_weaker}
use Rattle.circular_buffer.specs.Buffer.{Buffer, buffer}
use Rattle.dirty_walk.specs.Books.{StyledDocument}
use Rattle.document_walk.specs.Elements.{element_count}
use Rattle.forest.specs.Forest.{Forest}
use Rattle.forest.specs.Keys.{Keyed, without_keys}
use Rattle.node_arena.specs.Edits.{place_fault}
use Rattle.edit_inverses.specs.Inverses.{inverse_of}
use Rattle.plain_types.specs.declared.node.Node.{Node}
use Rattle.edit_inverses.specs.Laws.{IsAllowed}
use Rattle.edit_inverses.specs.Versions.{AreSameVersions, HavePlaces, Version, undoing, version_after, versions_after}
use Rattle.edit_inverses.proofs.VersionLaws.{lead_back, newest_back, newest_places, stay_allowed}
use Rattle.plain_types.specs.declared.edit.Edit.{Edit}
use Rattle.undo_ring.specs.Histories.{AreRings, EditHistory, future, in_rings, past, present, version_of}
use Rattle.undo_ring.specs.StepsTaken.{TakesStep, most_steps}
use Rattle.undo_ring.specs.declared.undo_fault.UndoFault.{UndoFault}
use Rattle.undo_ring.specs.declared.undo_fault.UndoFault.TheVariants.{Memory, Nothing}

-- The first of a list.

pub first_is : (edits : List Edit) (edit : Edit) → slice_get edits 0 ≡ Some edit → edits ≡ edit ∷ drop 1 edits
first_is [] edit is = absurd (none-some edit is)
first_is (first ∷ rest) edit is = let e : first ≡ edit = same_Some _ _ is in ap (λ one. one ∷ rest) e

pub none_is : (edits : List Edit) → slice_get edits 0 ≡ None → edits ≡ []
none_is [] is = refl
none_is (first ∷ rest) is = absurd (let e : Some first ≡ None = is in cc)

-- a list that has room is whole
take_room : (count : ℕ) (edits : List Edit) → length edits ≤ count → take count edits ≡ edits
take_room zero [] low = refl
take_room zero (edit ∷ edits) low = absurd (omega arith)
take_room (suc count) [] low = refl
take_room (suc count) (edit ∷ edits) low = ap (λ rest. edit ∷ rest) (take_room count edits (omega arith))

-- as many versions as edits
pub length_versions : (edits : List Edit) (version : Version) → length (versions_after edits version) ≡ length edits
length_versions [] version = refl
length_versions (edit ∷ edits) version = ap (λ n. suc n) (length_versions edits (version_after edit version))

-- none exactly where there is no edit
pub no_versions : (edits : List Edit) (version : Version) → edits ≡ [] → versions_after edits version ≡ []
no_versions edits version none = ap (λ these. versions_after these version) none

pub no_edits : (edits : List Edit) (version : Version) → versions_after edits version ≡ [] → edits ≡ []
no_edits [] version none = refl
no_edits (edit ∷ edits) version none = absurd (cc)

-- what is so of the lists of edits once a step is taken
pub record IsMoved (old new : Version) (from left to more : List Edit) (depth : ℕ) : Type 0 where
  pub left_places : HavePlaces left new
  pub more_places : HavePlaces more new
  pub few : length left + length more ≤ depth
  pub behind : versions_after from old ≡ new ∷ versions_after left new
  pub ahead : AreSameVersions (versions_after more new) (old ∷ versions_after to old)

module _ (edit : Edit) (old new : StyledDocument) (from rest to more : Buffer Edit) (first : slice_get from.items 0 ≡ Some edit) (step : TakesStep edit old new from rest to more) where
  abbrev was : Version
  was = version_of old

  abbrev is : Version
  is = version_of new

  pub moved : HavePlaces from.items was → HavePlaces to.items was → length from.items + length to.items ≤ to.capacity → IsMoved was is from.items rest.items to.items more.items to.capacity
  moved places others few =
      let split : from.items ≡ edit ∷ drop 1 from.items = first_is from.items edit first in
      let left : rest.items ≡ drop 1 from.items = ap (λ (b : Buffer Edit). b.items) step.taken in
      let long : length from.items ≡ suc (length (drop 1 from.items)) = ap length split in
      let whole : more.items ≡ undoing edit was ∷ to.items =
      ap (λ (b : Buffer Edit). b.items) step.given ∙ take_room to.capacity (undoing edit was ∷ to.items) (omega arith) in
      let both : HavePlaces (edit ∷ drop 1 from.items) was = subst (λ edits. HavePlaces edits was) split places in
      record {
        left_places = subst (λ edits. HavePlaces edits is) (sym left) (subst (HavePlaces (drop 1 from.items)) (sym step.done) both.1);
        more_places = subst (λ edits. HavePlaces edits is) (sym whole) (subst (HavePlaces (undoing edit was ∷ to.items)) (sym step.done) (stay_allowed edit to.items was step.allowed others));
        few = omega (arith, long, ap length left, ap length whole);
        behind =
            ap (λ edits. versions_after edits was) split
            ∙ ap (λ version. version ∷ versions_after (drop 1 from.items) version) (sym step.done)
            ∙ ap (λ edits. is ∷ versions_after edits is) (sym left);
        ahead =
            subst (λ edits. AreSameVersions (versions_after edits is) (was ∷ versions_after to.items was)) (sym whole)
            (subst (λ version. AreSameVersions (versions_after (undoing edit was ∷ to.items) version) (was ∷ versions_after to.items was)) (sym step.done) (lead_back edit to.items was step.allowed));
      }

-- a prefix is no longer than its count says
take_low : (count : ℕ) (edits : List Edit) → length (take count edits) ≤ count
take_low zero edits = omega arith
take_low (suc count) [] = omega arith
take_low (suc count) (edit ∷ edits) = omega (arith, take_low count edits)

-- After an edit: the rings hold what they have to, and the past is the version before and then the past so far.
pub applied : (edit : Edit) (old new : StyledDocument) (undos kept redos cleared : Buffer Edit) → AreRings old undos redos → IsAllowed edit (version_of old).document
    → version_of new ≡ version_after edit (version_of old)
    → kept ≡ buffer (take undos.capacity (undoing edit (version_of old) ∷ undos.items)) undos.capacity
    → cleared ≡ buffer [] redos.capacity
    → AreRings new kept cleared × AreSameVersions (versions_after kept.items (version_of new)) (take undos.capacity (version_of old ∷ versions_after undos.items (version_of old)))
applied edit old new undos kept redos cleared rings allowed done pushed none =
    let was : Version = version_of old in
    let after : Version = version_after edit was in
    let items : kept.items ≡ take undos.capacity (undoing edit was ∷ undos.items) = ap (λ (b : Buffer Edit). b.items) pushed in
    let empty : cleared.items ≡ [] = ap (λ (b : Buffer Edit). b.items) none in
    let room : kept.capacity ≡ undos.capacity = ap (λ (b : Buffer Edit). b.capacity) pushed in (
      record {
        rooms = ap (λ (b : Buffer Edit). b.capacity) none ∙ rings.rooms ∙ sym room;
        holds = record {
          undos =
              subst (λ edits. HavePlaces edits (version_of new)) (sym items)
              (subst (HavePlaces (take undos.capacity (undoing edit was ∷ undos.items))) (sym done) (newest_places undos.capacity edit undos.items was allowed rings.holds.undos));
          redos = subst (λ edits. HavePlaces edits (version_of new)) (sym empty) tt;
          few = omega (arith, ap length items, ap length empty, take_low undos.capacity (undoing edit was ∷ undos.items), room);
        };
      },
      subst (λ edits. AreSameVersions (versions_after edits (version_of new)) (take undos.capacity (was ∷ versions_after undos.items was))) (sym items)
          (subst (λ version. AreSameVersions (versions_after (take undos.capacity (undoing edit was ∷ undos.items)) version) (take undos.capacity (was ∷ versions_after undos.items was))) (sym done)
          (newest_back undos.capacity edit undos.items was allowed)),
    )

-- What is made of an edit by the tree and the sheet that are read of a book is the edit that undoes it.
made_of : (edit inverse : Edit) (old : StyledDocument) (tree : Forest (Keyed Node)) (sheet : List ℕ) → tree ≡ old.tree → sheet ≡ old.sheet
    → inverse ≡ inverse_of edit (without_keys tree) sheet → inverse ≡ undoing edit (version_of old)
made_of edit inverse old tree sheet tree_is sheet_is inverse_is =
    inverse_is ∙ ap (λ (t : Forest (Keyed Node)). inverse_of edit (without_keys t) sheet) tree_is ∙ ap (λ (s : List ℕ). inverse_of edit (without_keys old.tree) s) sheet_is

allowed_of : (edit : Edit) (old : StyledDocument) (tree : Forest (Keyed Node)) → tree ≡ old.tree → IsAllowed edit (without_keys tree) → IsAllowed edit (version_of old).document
allowed_of edit old tree tree_is allowed = subst (λ (t : Forest (Keyed Node)). IsAllowed edit (without_keys t)) tree_is allowed

-- the same as `applied` and a step, by what was read
pub applied_by : (edit inverse : Edit) (old new : StyledDocument) (tree : Forest (Keyed Node)) (sheet : List ℕ) (undos kept redos cleared : Buffer Edit)
    → tree ≡ old.tree → sheet ≡ old.sheet → IsAllowed edit (without_keys tree) → inverse ≡ inverse_of edit (without_keys tree) sheet
    → AreRings old undos redos → version_of new ≡ version_after edit (version_of old)
    → kept ≡ buffer (take undos.capacity (inverse ∷ undos.items)) undos.capacity → cleared ≡ buffer [] redos.capacity
    → AreRings new kept cleared × AreSameVersions (versions_after kept.items (version_of new)) (take undos.capacity (version_of old ∷ versions_after undos.items (version_of old)))
applied_by edit inverse old new tree sheet undos kept redos cleared tree_is sheet_is allowed inverse_is rings done pushed none =
    applied edit old new undos kept redos cleared rings (allowed_of edit old tree tree_is allowed) done
    (pushed ∙ ap (λ (one : Edit). buffer (take undos.capacity (one ∷ undos.items)) undos.capacity) (made_of edit inverse old tree sheet tree_is sheet_is inverse_is))
    none

pub step_by : (edit inverse : Edit) (old new : StyledDocument) (tree : Forest (Keyed Node)) (sheet : List ℕ) (from rest to more : Buffer Edit)
    → tree ≡ old.tree → sheet ≡ old.sheet → IsAllowed edit (without_keys tree) → inverse ≡ inverse_of edit (without_keys tree) sheet
    → version_of new ≡ version_after edit (version_of old)
    → rest ≡ buffer (drop 1 from.items) from.capacity → more ≡ buffer (take to.capacity (inverse ∷ to.items)) to.capacity
    → TakesStep edit old new from rest to more
step_by edit inverse old new tree sheet from rest to more tree_is sheet_is allowed inverse_is done taken pushed =
    record {
      allowed = allowed_of edit old tree tree_is allowed;
      done = done;
      taken = taken;
      given = pushed ∙ ap (λ (one : Edit). buffer (take to.capacity (one ∷ to.items)) to.capacity) (made_of edit inverse old tree sheet tree_is sheet_is inverse_is);
    }

-- After a step back, and after one forth.

pub record IsUndone (old new : EditHistory) : Type 0 where
  pub past : past old ≡ present new ∷ past new
  pub future : AreSameVersions (future new) (present old ∷ future old)
  pub depth : new.depth ≡ old.depth

pub record IsRedone (old new : EditHistory) : Type 0 where
  pub future : future old ≡ present new ∷ future new
  pub past : AreSameVersions (past new) (present old ∷ past old)
  pub depth : new.depth ≡ old.depth

pub undone : (edit : Edit) (old new : StyledDocument) (undos rest redos more : Buffer Edit) → AreRings old undos redos → slice_get undos.items 0 ≡ Some edit → TakesStep edit old new undos rest redos more
    → AreRings new rest more × IsUndone (in_rings old undos redos) (in_rings new rest more)
undone edit old new undos rest redos more rings first step =
    let few : length undos.items + length redos.items ≤ redos.capacity = omega (arith, rings.rooms, rings.holds.few) in
    let m = moved edit old new undos rest redos more first step rings.holds.undos rings.holds.redos few in
    let left : rest.capacity ≡ undos.capacity = ap (λ (b : Buffer Edit). b.capacity) step.taken in
    let right : more.capacity ≡ redos.capacity = ap (λ (b : Buffer Edit). b.capacity) step.given in (
      record {
        rooms = right ∙ rings.rooms ∙ sym left;
        holds = record { undos = m.left_places; redos = m.more_places; few = omega (arith, m.few, left, rings.rooms) };
      },
      record { past = m.behind; future = m.ahead; depth = left },
    )

pub redone : (edit : Edit) (old new : StyledDocument) (undos more redos rest : Buffer Edit) → AreRings old undos redos → slice_get redos.items 0 ≡ Some edit → TakesStep edit old new redos rest undos more
    → AreRings new more rest × IsRedone (in_rings old undos redos) (in_rings new more rest)
redone edit old new undos more redos rest rings first step =
    let few : length redos.items + length undos.items ≤ undos.capacity = omega (arith, rings.holds.few) in
    let m = moved edit old new redos rest undos more first step rings.holds.redos rings.holds.undos few in
    let left : rest.capacity ≡ redos.capacity = ap (λ (b : Buffer Edit). b.capacity) step.taken in
    let right : more.capacity ≡ undos.capacity = ap (λ (b : Buffer Edit). b.capacity) step.given in (
      record {
        rooms = left ∙ rings.rooms ∙ sym right;
        holds = record { undos = m.more_places; redos = m.left_places; few = omega (arith, m.few, right) };
      },
      record { future = m.behind; past = m.ahead; depth = right },
    )

-- what is so of the first of some edits
pub of_first : {P : Edit → Type 0} (o : Option Edit) → IsSomeAnd o P → (edit : Edit) × (o ≡ Some edit) × P edit
of_first (Some edit) h = (edit, refl, h)
of_first None h = absurd h

-- after either outcome
pub either : {A E : Type 0} {P Q R : Type 0} (r : Result A E) → OnOk r P → OnErr r Q → (P → R) → (Q → R) → R
either (Ok a) p q on_ok on_err = on_ok p
either (Err e) p q on_ok on_err = on_err q

-- a first edit, and no edit
pub some_edits : (edits : List Edit) (edit : Edit) → slice_get edits 0 ≡ Some edit → edits ≡ [] → ⊥
some_edits [] edit is none = none-some edit is
some_edits (first ∷ rest) edit is none = cc

pub first_place : (edits : List Edit) (edit : Edit) (version : Version) → slice_get edits 0 ≡ Some edit → HavePlaces edits version → place_fault edit version.document ≡ None
first_place edits edit version is places =
    let all : HavePlaces (edit ∷ drop 1 edits) version = subst (λ these. HavePlaces these version) (first_is edits edit is) places in
    all.0

-- the steps of the first edit, told of the first version
steps_told : (edits : List Edit) (version : Version) (low high : ℕ) → IfSome (slice_get edits 0) (λ edit. low ≤ high + most_steps edit version)
    → IfSome (slice_get (versions_after edits version) 0) (λ first. low ≤ high + (12 * element_count first.document + 2 * element_count version.document))
steps_told [] version low high bound = tt
steps_told (edit ∷ edits) version low high bound = bound

-- rings that stay
pub still_rings : (old new : StyledDocument) (undos rest redos more : Buffer Edit) → AreRings old undos redos → new ≡ old → rest ≡ undos → more ≡ redos → AreRings new rest more
still_rings old new undos rest redos more rings book left right =
    subst (λ (b : StyledDocument). AreRings b rest more) (sym book)
    (subst (λ (b : Buffer Edit). AreRings old b more) (sym left) (subst (λ (b : Buffer Edit). AreRings old undos b) (sym right) rings))

pub same_history : (old new : StyledDocument) (undos rest redos more : Buffer Edit) → new ≡ old → rest ≡ undos → more ≡ redos → in_rings new rest more ≡ in_rings old undos redos
same_history old new undos rest redos more book left right =
    ap (λ (b : StyledDocument). in_rings b rest more) book ∙ ap (λ (b : Buffer Edit). in_rings old b more) left ∙ ap (λ (b : Buffer Edit). in_rings old undos b) right

-- The same of what a history is told as.
module _ {A E : Type 0} (r : Result A E) (old new : StyledDocument) (told : EditHistory) (rings_old rings_new : Buffer Edit × Buffer Edit) where
  abbrev undos : Buffer Edit
  undos = rings_old.0

  abbrev redos : Buffer Edit
  redos = rings_old.1

  pub undone_ok : AreRings old undos redos → in_rings old undos redos ≡ told
      → OnOk r (IsSomeAnd (slice_get undos.items 0) (λ edit. TakesStep edit old new undos rings_new.0 redos rings_new.1))
      → OnOk r (AreRings new rings_new.0 rings_new.1 × IsUndone told (in_rings new rings_new.0 rings_new.1))
  undone_ok rings view ok = on_ok_weaker r (λ first.
      let f = of_first (slice_get undos.items 0) first in
      let h = undone f.0 old new undos rings_new.0 redos rings_new.1 rings f.1 f.2 in
      (h.0, subst (λ (t : EditHistory). IsUndone t (in_rings new rings_new.0 rings_new.1)) view h.1)) ok

  pub redone_ok : AreRings old undos redos → in_rings old undos redos ≡ told
      → OnOk r (IsSomeAnd (slice_get redos.items 0) (λ edit. TakesStep edit old new redos rings_new.1 undos rings_new.0))
      → OnOk r (AreRings new rings_new.0 rings_new.1 × IsRedone told (in_rings new rings_new.0 rings_new.1))
  redone_ok rings view ok = on_ok_weaker r (λ first.
      let f = of_first (slice_get redos.items 0) first in
      let h = redone f.0 old new undos rings_new.0 redos rings_new.1 rings f.1 f.2 in
      (h.0, subst (λ (t : EditHistory). IsRedone t (in_rings new rings_new.0 rings_new.1)) view h.1)) ok

-- whether there is an edit, told of the versions
pub told_none : {P : Type 0} (edits : List Edit) (version : Version) → (P → edits ≡ []) × (edits ≡ [] → P) → (P → versions_after edits version ≡ []) × (versions_after edits version ≡ [] → P)
told_none edits version both = ((λ p. no_versions edits version (both.0 p)), (λ none. both.1 (no_edits edits version none)))

pub told_steps : (history told : EditHistory) (low high : ℕ) → history ≡ told → IfSome (slice_get history.undos 0) (λ edit. low ≤ high + most_steps edit (present history))
    → IfSome (slice_get (past told) 0) (λ version. low ≤ high + (12 * element_count version.document + 2 * element_count (present told).document))
told_steps history told low high view bound =
    subst (λ (t : EditHistory). IfSome (slice_get (past t) 0) (λ version. low ≤ high + (12 * element_count version.document + 2 * element_count (present t).document))) view
    (steps_told history.undos (present history) low high bound)

pub told_steps_forth : (history told : EditHistory) (low high : ℕ) → history ≡ told → IfSome (slice_get history.redos 0) (λ edit. low ≤ high + most_steps edit (present history))
    → IfSome (slice_get (future told) 0) (λ version. low ≤ high + (12 * element_count version.document + 2 * element_count (present told).document))
told_steps_forth history told low high view bound =
    subst (λ (t : EditHistory). IfSome (slice_get (future t) 0) (λ version. low ≤ high + (12 * element_count version.document + 2 * element_count (present t).document))) view
    (steps_told history.redos (present history) low high bound)

-- want of memory is not want of edits
pub not_nothing : {A : Type 0} (r : Result A UndoFault) → IsErr r × IsErrAnd r (λ fault. fault ≡ Memory) → r ≡ Err Nothing → ⊥
not_nothing (Ok a) is same = is.1
not_nothing (Err fault) is same = let e : fault ≡ Memory = is.1 in cc
