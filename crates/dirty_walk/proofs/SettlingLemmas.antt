-- A plan settles its book.
use Rattle.std.proofs.Common.{◌≡◌, ◌<◌, ◌≤◌, ◌+◌, ◌∙◌, ℕ, nat_eq, List, [], ◌∷◌, length, ap, arith}
use Rattle.std.specs.Prelude.{is_some}
use Rattle.std.specs.FinMap.{FinMap, get}
use Rattle.std.specs.List.{list_any}
use Rattle.std.specs.Ordering.{nat_cmp}
use Rattle.forest.specs.Forest.{Forest}
use Rattle.forest.specs.Keys.{Keyed, without_keys}
use Rattle.plain_types.specs.declared.edit.Edit.{Edit}
use Rattle.plain_types.specs.declared.node.Node.{Node}
use Rattle.plain_types.specs.declared.sheet.Sheet.{Sheet}
use Rattle.node_arena.specs.Nodes.{name_of}
use Rattle.kept_elements.specs.declared.kept.Kept.{Kept}
use Rattle.kept_elements.specs.declared.kept_change.KeptChange.{KeptChange}
use Rattle.generated_texts.specs.References.{kept_at}
use Rattle.generated_texts.specs.StyleElements.{author_sheet}
use Rattle.document_walk.specs.Elements.{element_count}
use Rattle.snapshot_board.specs.Records.{put_all, take_all}
use Rattle.dirty_walk.specs.Books.{HasRoomFor}
use Rattle.kept_elements.specs.Changes.{AreBelow, Renews, puts_of}
use Rattle.kept_elements.specs.Evaluations.{document_kept}
use Rattle.edit_merge.specs.Laws.{IsDone}
use Rattle.dirty_walk.specs.Exchanges.{elements_in, leaving, taken_keys}
use Rattle.dirty_walk.specs.Plans.{AreOfElements}
use Rattle.kept_elements.proofs.ChangeLemmas.{HasKeysOnce}
use Rattle.dirty_walk.proofs.ExchangeLaws.{taken_count, takes_are}
use Rattle.kept_elements.proofs.RenewalLemmas.{are_of, room_for_all, settles}
use Rattle.kept_elements.proofs.ToldLemmas.{kept_count, kept_keys, kept_once}

-- An edit makes one document of another, and other texts of its sheet. A map keeps what an evaluation of the old one does.
-- The changes come to it, and the keys of the elements that are gone go.
module _ (edit : Edit) (old new : Forest (Keyed Node)) (done : IsDone edit old new) (text new_text : List ℕ) (held : FinMap nat_cmp Kept)
    (changes : List (ℕ × KeptChange)) (takes : List ℕ)
    (keeps : (key : ℕ) → get held key ≡ kept_at (document_kept (author_sheet text old) old) key)
    (are : Renews held (document_kept (author_sheet new_text new) new) changes)
    (taken : takes ≡ taken_keys edit (elements_in (leaving edit old))) where
  abbrev author : Sheet
  author = author_sheet new_text new

  abbrev all : List (ℕ × Kept)
  all = document_kept author new

  once : HasKeysOnce all
  once = kept_once author new done.after.distinct

  was : (key : ℕ) → is_some (get held key) ≡ is_some (name_of old key)
  was key = ap (λ o. is_some o) (keeps key) ∙ kept_keys (author_sheet text old) old done.before.distinct key

  is : (key : ℕ) → is_some (kept_at all key) ≡ is_some (name_of new key)
  is key = kept_keys author new done.after.distinct key

  pub keeps_all : (key : ℕ) → get (put_all (puts_of changes) (take_all takes held)) key ≡ kept_at (document_kept (author_sheet new_text new) new) key
  keeps_all =
      settles held (λ key. is_some (name_of old key)) (λ key. is_some (name_of new key)) all changes once are was is takes
      (λ key. ap (λ keys. list_any (nat_eq key) keys) taken ∙ takes_are edit old new done key)

  pub of_elements : AreOfElements new (puts_of changes)
  of_elements = are_of held (λ key. is_some (name_of old key)) (λ key. is_some (name_of new key)) all changes once are was is

  pub has_room : (room more : ℕ) → HasRoomFor room old → room ≤ more → AreBelow more changes → HasRoomFor more new
  has_room room more had grown below key named =
      room_for_all held (λ key. is_some (name_of old key)) (λ key. is_some (name_of new key)) all changes once are was is room more had grown below key named

  count : length all ≡ element_count (without_keys new)
  count = kept_count author new done.after.distinct

  pub few_puts : length changes ≤ element_count (without_keys new)
  few_puts = let fewer : length changes ≤ length all = are.few in omega (arith, fewer, count)

  pub few : length changes + length takes ≤ element_count (without_keys new) + element_count (without_keys old)
  few = omega (arith, few_puts, ap length taken, taken_count edit old)

-- what is of elements has the room that these have
pub below_of : (tree : Forest (Keyed Node)) (room more : ℕ) (changes : List (ℕ × KeptChange)) → more ≡ room → HasRoomFor room tree → AreOfElements tree (puts_of changes) → AreBelow more changes
below_of tree room more [] same has are = tt
below_of tree room more (change ∷ changes) same has are = (let low : change.0 < room = has change.0 are.0 in omega (arith, low, same), below_of tree room more changes same has are.1)
