-- Elements at which urls aim, and what is known of each.
use Rattle.std.specs.Prelude.{ℕ, List, [], Option, Some, None, cond}
use Rattle.std.specs.Option.{option_and_then, option_map_or}
use Rattle.forest.specs.Forest.{Forest}
use Rattle.forest.specs.Keys.{Keyed}
use Rattle.forest.specs.Spots.{children_of}
use Rattle.plain_types.specs.declared.box_kind.BoxKind.{BoxKind}
use Rattle.plain_types.specs.declared.counter.Counter.{Counter}
use Rattle.plain_types.specs.declared.node.Node.{Node}
use Rattle.content_eval.specs.Targets.{Known}
use Rattle.box_eval.specs.declared.element_record.ElementRecord.{ElementRecord}
use Rattle.box_eval.specs.declared.made.Made.{Made}
use Rattle.generated_texts.specs.References.{characters_in, kept_at}
use Rattle.book_definitions.specs.Chapters.{Chapter, chapter_records}
use Rattle.book_definitions.specs.Texts.{flat_in_volume}
use Rattle.book_refs.specs.declared.target_element.TargetElement.{TargetElement}
use Rattle.book_refs.specs.Machinery.VolumeBoxes.{box_at}

-- its chapter, and its key there
abbrev pub element_aimed_at : TargetElement → Chapter × ℕ
element_aimed_at element = (element.chapter.now, element.key)

-- what is known where each id names one element: of these counters, of the node of this key; and of no texts of its boxes
abbrev pub known_alone : Option (List Counter) → Forest (Keyed Node) → ℕ → Known
known_alone counters document key = record { counters = λ id. counters; characters = λ id. characters_in (children_of document key); flat = λ id part. None }

-- the counters of an element's own box, where it has one
abbrev pub own_counters : ElementRecord → Option (List Counter)
own_counters element = cond element.has_box (Some element.own) None

-- what flat texts rest on, where each id names the element of this key
abbrev pub known_at : Chapter → ℕ → Known
known_at chapter key = known_alone (option_and_then own_counters (kept_at (chapter_records chapter) key)) chapter.document key

-- the flat text that a box of this element has in a volume
abbrev pub flat_text_at : List Chapter → BoxKind → Chapter × ℕ → List ℕ
flat_text_at volume kind there = option_map_or (λ (made : Made). flat_in_volume volume there.0 made.pieces) (box_at there.0 there.1 kind) []

-- and of one, if there is any
abbrev pub flat_text_there : List Chapter → Option (Chapter × ℕ) → BoxKind → List ℕ
flat_text_there volume there kind = option_map_or (flat_text_at volume kind) there []
