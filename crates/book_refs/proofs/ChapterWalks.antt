-- The walk that puts the lines of a chapter of a volume, whose document stands in an arena.
use Rattle.std.proofs.Common.{◌≡◌, ◌<◌, ◌≤◌, ◌+◌, ◌*◌, ℕ, List, [], ◌∷◌, ◌++◌, Option, Some, None, ap, arith, option_copied, reverse, subst, sym, ◌∙◌}
use Rattle.std.specs.Option.{option_map_or}
use Rattle.forest.specs.Forest.{Forest, weigh}
use Rattle.forest.specs.Keys.{Keyed}
use Rattle.forest.specs.Spots.{IsLive, first_child_of, first_key, next_sibling_of}
use Rattle.plain_types.specs.declared.node.Node.{Node}
use Rattle.node_arena.specs.Document.{IsKeyedDocument}
use Rattle.dump_definitions.specs.Dump.{dump}
use Rattle.generated_texts.specs.Lines.{first_lines, last_lines}
use Rattle.generated_texts.specs.References.{kept_at}
use Rattle.ports.specs.Grown.{grown, GrowsByFront}
use Rattle.book_definitions.specs.Chapters.{Chapter, chapter_records}
use Rattle.book_definitions.specs.Lines.{chapter_dump, chapter_entries}
use Rattle.book_refs.specs.declared.lines.OpenNode.{OpenNode}
use Rattle.book_refs.specs.Machinery.VolumeBoxes.{entry_alone, first_cost, last_cost}
use Rattle.book_refs.specs.ShowWork.{chapter_work, element_work}
use Rattle.book_refs.proofs.BoxTexts.{costs_within}
use Rattle.book_refs.proofs.Walks.{Walks, begins, ends, enter_left, enter_stops, enter_turn, leave_left, leave_open, leave_stops, leave_turn, spent_at_root, spent_left, turns_left, weigh_within}

module _ (volume : List Chapter) (own : Chapter) where
  -- where the walk stands, and what went out
  abbrev pub IsAt : List OpenNode → Option ℕ → Option (List ℕ) → Option (List ℕ) → Type 0
  IsAt stack link before now =
      Walks own.document (entry_alone own) (kept_at (chapter_entries volume own)) (first_cost volume own) (last_cost volume own) (reverse stack) link before now

  -- the steps that are left there
  abbrev pub steps_left : List OpenNode → Option ℕ → ℕ
  steps_left stack link = spent_left own.document (entry_alone own) (kept_at (chapter_entries volume own)) (first_cost volume own) (last_cost volume own) (reverse stack) link

  abbrev first_dump : ℕ → List ℕ
  first_dump key = dump (first_lines own.document (kept_at (chapter_entries volume own)) key)

  abbrev last_dump : ℕ → List ℕ
  last_dump key = dump (last_lines own.document (kept_at (chapter_entries volume own)) key)

  module _ (tree : Forest (Keyed Node)) (same : tree ≡ own.document) (keyed : IsKeyedDocument own.document) (before : Option (List ℕ)) where
    pub starts : (root : ℕ) → Some root ≡ first_key tree → IsAt [] (Some root) before before
    starts root is =
        begins own.document (entry_alone own) (kept_at (chapter_entries volume own)) (first_cost volume own) (last_cost volume own) keyed.distinct before root (is ∙ ap first_key same)

    pub all_left : (root : ℕ) → Some root ≡ first_key tree → steps_left [] (Some root) ≤ 4 * chapter_work volume own
    all_left root is =
        let at = spent_at_root own.document (entry_alone own) (kept_at (chapter_entries volume own)) (first_cost volume own) (last_cost volume own) keyed.distinct root (is ∙ ap first_key same) in
        let within : weigh (λ (node : Keyed Node). first_cost volume own node.key + last_cost volume own node.key) own.document ≤ 4 * chapter_work volume own =
        weigh_within (λ (key : ℕ). first_cost volume own key + last_cost volume own key) (λ (key : ℕ). option_map_or (element_work volume own) (kept_at (chapter_records own) key) 0)
        (costs_within own volume) own.document in
        omega (arith, at, within)

    pub finished : (stack : List OpenNode) (link : Option ℕ) (now : Option (List ℕ)) → IsAt stack link before now → link ≡ None → stack ≡ [] → now ≡ grown before (chapter_dump volume own)
    finished stack link now walks at none =
        ends own.document (entry_alone own) (kept_at (chapter_entries volume own)) (first_cost volume own) (last_cost volume own) keyed.distinct before link stack now walks at none

    -- What a turn does, whose variables are known by equations.
    module _ (now after : Option (List ℕ)) (stack stack' : List OpenNode) (link link' : Option ℕ) (node : OpenNode) where
      pub entered : IsAt stack link before now → link ≡ Some node.key → option_copied node.entry ≡ entry_alone own node.key
          → after ≡ grown now (first_dump node.key) → stack' ≡ stack ++ node ∷ [] → link' ≡ first_child_of tree node.key
          → IsAt stack' link' before after × ((turns_left own.document (reverse stack') link' < turns_left own.document (reverse stack) link) × (steps_left stack link ≡ steps_left stack' link' + first_cost volume own node.key))
      entered walks at kept grew more next =
          enter_turn own.document (entry_alone own) (kept_at (chapter_entries volume own)) (first_cost volume own) (last_cost volume own) keyed.distinct before now after stack stack' link link' node
          walks at kept grew more (next ∙ ap (λ (t : Forest (Keyed Node)). first_child_of t node.key) same)

      pub left : IsAt stack link before now → link ≡ None → after ≡ grown now (last_dump node.key) → stack ≡ stack' ++ node ∷ [] → link' ≡ next_sibling_of tree node.key
          → IsAt stack' link' before after × ((turns_left own.document (reverse stack') link' < turns_left own.document (reverse stack) link) × (steps_left stack link ≡ steps_left stack' link' + last_cost volume own node.key))
      left walks at grew more next =
          leave_turn own.document (entry_alone own) (kept_at (chapter_entries volume own)) (first_cost volume own) (last_cost volume own) keyed.distinct before now after stack stack' link link' node
          walks at grew more (next ∙ ap (λ (t : Forest (Keyed Node)). next_sibling_of t node.key) same)

      -- a turn stops
      pub enter_failed : IsAt stack link before now → link ≡ Some node.key → GrowsByFront now after (first_dump node.key) → GrowsByFront before after (chapter_dump volume own)
      enter_failed walks at grows =
          enter_stops own.document (entry_alone own) (kept_at (chapter_entries volume own)) (first_cost volume own) (last_cost volume own) keyed.distinct before now after stack stack' link link' node
          walks at grows

      pub leave_failed : IsAt stack link before now → link ≡ None → stack ≡ stack' ++ node ∷ [] → GrowsByFront now after (last_dump node.key) → GrowsByFront before after (chapter_dump volume own)
      leave_failed walks at more grows =
          leave_stops own.document (entry_alone own) (kept_at (chapter_entries volume own)) (first_cost volume own) (last_cost volume own) keyed.distinct before now after stack stack' link link' node
          walks at more grows

      -- the steps that it takes were left
      pub enter_within : IsAt stack link before now → link ≡ Some node.key → first_cost volume own node.key ≤ steps_left stack link
      enter_within walks at =
          enter_left own.document (entry_alone own) (kept_at (chapter_entries volume own)) (first_cost volume own) (last_cost volume own) keyed.distinct before now stack link node walks at

      pub leave_within : IsAt stack link before now → link ≡ None → stack ≡ stack' ++ node ∷ [] → last_cost volume own node.key ≤ steps_left stack link
      leave_within walks at more =
          leave_left own.document (entry_alone own) (kept_at (chapter_entries volume own)) (first_cost volume own) (last_cost volume own) keyed.distinct before now stack stack' link node walks at more

      -- a node that is open is one of the document, with what is kept of it
      pub stands : IsAt stack link before now → stack ≡ stack' ++ node ∷ [] → IsLive own.document node.key × (option_copied node.entry ≡ entry_alone own node.key)
      stands walks more =
          leave_open own.document (entry_alone own) (kept_at (chapter_entries volume own)) (first_cost volume own) (last_cost volume own) keyed.distinct before now after stack stack' link link' node
          walks more

    -- the same in the arena
    pub live_there : (key : ℕ) → IsLive own.document key → IsLive tree key
    live_there key live = subst (λ (t : Forest (Keyed Node)). IsLive t key) (sym same) live
