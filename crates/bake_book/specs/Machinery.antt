-- What the contracts of private functions say: how the code goes over the tags of a book's document. No promise of the crate
-- rests on these.
use Rattle.std.specs.Prelude.{◌≡◌, ℕ, Bool, true, List, [], ◌++◌, IfSome, IsSome, None, Option, Some, map, option_map, refl}
use Rattle.std.specs.Borrow.{Bor}
use Rattle.std.specs.Coded.{Coded, code_by, coded×, coded_bool, coded_list, coded_ℕ}
use Rattle.std.specs.Option.{option_to_list}
use Rattle.bake_definitions.specs.Baked.{Annotated}
use Rattle.bake_definitions.specs.Insertions.{Insertion}
use Rattle.bake_definitions.specs.Tags.{Tag}
use Rattle.baked_text.specs.Walks.{insertion_view}
use Rattle.bake_book.specs.Dressing.{dressed_trees}
use Rattle.bake_book.specs.Walks.{IsWalk, dressed_tag, tags_left}
use Rattle.bake_book.specs.declared.book_tags.NextTag.{NextTag}
use Rattle.bake_book.specs.declared.tag_walk.KeyedTag.{KeyedTag}
use Rattle.bake_book.specs.declared.tag_walk.TagWalk.{TagWalk}
use Rattle.dirty_walk.specs.Books.{StyledDocument, fresh_entry}
use Rattle.forest.specs.Forest.{Forest}
use Rattle.node_arena.specs.Nodes.{name_of}
use Rattle.plain_types.specs.declared.box_kind.BoxKind.{BoxKind}

-- a book, and the tags of its document that are to come
pub record TagsToCome : Type 0 where
  pub book : StyledDocument
  pub left : List KeyedTag

-- tags are stored as their fields, and so is a book with its tags
abbrev pub coded_keyed_tag : Coded KeyedTag
coded_keyed_tag = code_by (ℕ × Bool) (coded× coded_ℕ coded_bool) (λ tag. (tag.key, tag.is_end)) (λ pair. record { key = pair.0; is_end = pair.1 }) (λ _. refl)

abbrev pub coded_tags_to_come : Coded StyledDocument → Coded TagsToCome
coded_tags_to_come book =
    code_by (StyledDocument × List KeyedTag) (coded× book (coded_list coded_keyed_tag)) (λ tags. (tags.book, tags.left)) (λ pair. record { book = pair.0; left = pair.1 }) (λ _. refl)

-- the book's document with what its sheet puts into it
unfoldable pub dressed_book : TagsToCome → Forest Annotated
dressed_book tags = dressed_trees (fresh_entry tags.book) tags.book.tree

-- the tags that are to come, with what is put in at them
unfoldable pub dressed_left : TagsToCome → List Tag
dressed_left tags = map (dressed_tag tags.book.tree (fresh_entry tags.book)) tags.left

-- the text of a box as an insertion, where there is one
abbrev pub one_text : Option (BoxKind × Bor (List ℕ)) → List Insertion
one_text text = option_to_list (option_map insertion_view text)

-- the texts of two boxes, one after the other, as far as there are any
abbrev pub texts_of : Option (BoxKind × Bor (List ℕ)) × Option (BoxKind × Bor (List ℕ)) → List Insertion
texts_of texts = one_text texts.0 ++ one_text texts.1

module _ (book : StyledDocument) where
  -- the tags that are to come: the next one, where there is one, and those that the walk has left
  abbrev pub keyed_left : Option NextTag → TagWalk → List KeyedTag
  keyed_left next walk = option_to_list (option_map (λ (next : NextTag). next.tag) next) ++ tags_left book.tree walk

  -- the book with them
  abbrev pub tags_to_come : Option NextTag → TagWalk → TagsToCome
  tags_to_come next walk = record { book = book; left = keyed_left next walk }

  -- a tag of an element, with what is kept of that
  pub record IsKept (next : NextTag) : Type 0 where
    pub element : IsSome (name_of book.tree next.tag.key)
    pub entry : Some next.entry.now ≡ fresh_entry book next.tag.key

  -- a walk over a settled book stands at the next tag; where there is none, the walk has none left
  pub record IsAt (next : Option NextTag) (walk : TagWalk) : Type 0 where
    pub settled : book.settled ≡ true
    pub stands : IsWalk book.tree walk
    pub kept : IfSome next IsKept
    pub end : next ≡ None → tags_left book.tree walk ≡ []
