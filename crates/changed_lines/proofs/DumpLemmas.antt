-- The texts that the lines of a dump give to boxes.
use Rattle.std.proofs.Common.{◌≡◌, ◌==◌, ◌&&◌, ◌<◌, ◌+◌, ◌∷◌, ◌++◌, ℕ, List, [], Bool, true, false, cond, Option, Some, None, refl, sym, ap, ap₂, subst, ◌∙◌, arith, inl, inr, eq-eqb, eqb-true}
use Rattle.std.proofs.lemmas.Bool.{cases_Bool}
use Rattle.std.specs.Prelude.{find, is_some, option_map}
use Rattle.std.specs.Option.{option_map_or, option_or}
use Rattle.std.specs.Str.{bytes_eq}
use Rattle.forest.specs.Forest.{Forest, Empty, Tree}
use Rattle.forest.specs.Keys.{Keyed, HasDistinctKeys, times}
use Rattle.forest.specs.Paths.{path_of}
use Rattle.forest.specs.Spots.{IsLive}
use Rattle.forest.proofs.PathLaws.{key_at-path_of}
use Rattle.forest.proofs.SpotLaws.{below-or-after, counted-live, distinct-parts, live-counted, live-spot, root-once, some_or_none, spot-absent}
use Rattle.forest.proofs.StandLaws.{or_none}
use Rattle.plain_types.specs.declared.box_kind.BoxKind.{BoxKind}
use Rattle.plain_types.specs.declared.box_kind.BoxKind.TheVariants.{Element, Marker, Before, After}
use Rattle.plain_types.specs.declared.node.Node.{Node}
use Rattle.dump_definitions.specs.Dump.{Line, dump}
use Rattle.node_arena.specs.Document.{IsKeyedDocument}
use Rattle.node_arena.proofs.EntryLaws.{one-tree}
use Rattle.counter_sets.specs.Sets.{is_same_kind}
use Rattle.generated_texts.specs.declared.entry.BoxText.{BoxText}
use Rattle.generated_texts.specs.declared.entry.NodeEntry.{NodeEntry}
use Rattle.generated_texts.specs.Lines.{first_lines, keyed_lines, last_lines, lines_of, tree_lines}
use Rattle.generated_texts.specs.StyleElements.{author_sheet}
use Rattle.generated_texts.proofs.EntryKeys.{elements_keys}
use Rattle.edit_work.specs.KeyedSources.{KeyedSource}
use Rattle.changed_lines.specs.Changes.{changed_lines, entry_in}
use Rattle.changed_lines.specs.Dumps.{line_with, lines_with, moved_lines, moved_path, replayed, text_in}
use Rattle.changed_lines.specs.Replays.{put_in}
use Rattle.changed_lines.specs.ShownTexts.{shown_text}
use Rattle.changed_lines.proofs.PathLemmas.{paths_tell}
use Rattle.changed_lines.proofs.PutLemmas.{lines_replay}

-- Of a document, what is kept of its elements, and one of its nodes, whose path is found by a test.
module _ (document : Forest (Keyed Node)) (entry_of : ℕ → Option NodeEntry) (hits : List ℕ → Bool) (key : ℕ) (hits_it : (other : ℕ) → IsLive document other → hits (path_of document other) ≡ (other == key)) where
  -- the text of the first line that the test finds, of boxes of this kind
  abbrev pub found : BoxKind → List Line → Option (List ℕ)
  found kind lines = option_map (λ (line : Line). line.text) (find (λ (line : Line). hits line.path && is_same_kind line.kind kind) lines)

  found-append : (kind : BoxKind) (lines more : List Line) → found kind (lines ++ more) ≡ option_or (found kind lines) (found kind more)
  found-append kind [] more = refl
  found-append kind (line ∷ lines) more = elim (cases_Bool (hits line.path && is_same_kind line.kind kind)) [
    | inl e ↦ rw e refl
    | inr e ↦ rw e (found-append kind lines more)
  ]

  -- the line of a box of another node, or of another box
  passed_line : (kind : BoxKind) (other : ℕ) (which : BoxKind) (box : Option BoxText) → (hits (path_of document other) && is_same_kind which kind) ≡ false → found kind (lines_of document other which box) ≡ None
  passed_line kind other which None untold = refl
  passed_line kind other which (Some text) untold = rw untold refl

  -- and of the box itself
  found_line : (kind : BoxKind) (other : ℕ) (box : Option BoxText) → (hits (path_of document other) && is_same_kind kind kind) ≡ true → found kind (lines_of document other kind box) ≡ option_map (λ (text : BoxText). text.full) box
  found_line kind other None told = refl
  found_line kind other (Some text) told = rw told refl

  abbrev first_of : ℕ → Option NodeEntry → List Line
  first_of other kept = option_map_or (λ (entry : NodeEntry). lines_of document other Marker entry.marker ++ lines_of document other Before entry.before) kept []

  abbrev last_of : ℕ → Option NodeEntry → List Line
  last_of other kept = option_map_or (λ (entry : NodeEntry). lines_of document other After entry.after) kept []

  -- the lines of another node
  passed_first : (kind : BoxKind) (other : ℕ) (kept : Option NodeEntry) → hits (path_of document other) ≡ false → found kind (first_of other kept) ≡ None
  passed_first kind other None away = refl
  passed_first kind other (Some entry) away =
      found-append kind (lines_of document other Marker entry.marker) (lines_of document other Before entry.before)
      ∙ ap₂ (λ (one more : Option (List ℕ)). option_or one more) (passed_line kind other Marker entry.marker (rw away refl)) (passed_line kind other Before entry.before (rw away refl))

  passed_last : (kind : BoxKind) (other : ℕ) (kept : Option NodeEntry) → hits (path_of document other) ≡ false → found kind (last_of other kept) ≡ None
  passed_last kind other None away = refl
  passed_last kind other (Some entry) away = passed_line kind other After entry.after (rw away refl)

  -- its own lines
  found_own : (kind : BoxKind) (kept : Option NodeEntry) → hits (path_of document key) ≡ true → option_or (found kind (first_of key kept)) (found kind (last_of key kept)) ≡ shown_text kind kept
  found_own kind None here = refl
  found_own Element (Some entry) here =
      ap₂ (λ (one more : Option (List ℕ)). option_or one more)
      (found-append Element (lines_of document key Marker entry.marker) (lines_of document key Before entry.before)
      ∙ ap₂ (λ (one more : Option (List ℕ)). option_or one more) (passed_line Element key Marker entry.marker (rw here refl)) (passed_line Element key Before entry.before (rw here refl)))
      (passed_line Element key After entry.after (rw here refl))
  found_own Marker (Some entry) here =
      ap₂ (λ (one more : Option (List ℕ)). option_or one more)
      (found-append Marker (lines_of document key Marker entry.marker) (lines_of document key Before entry.before)
      ∙ ap₂ (λ (one more : Option (List ℕ)). option_or one more) (found_line Marker key entry.marker (rw here refl)) (passed_line Marker key Before entry.before (rw here refl))
      ∙ or_none (option_map (λ (text : BoxText). text.full) entry.marker))
      (passed_line Marker key After entry.after (rw here refl))
      ∙ or_none (option_map (λ (text : BoxText). text.full) entry.marker)
  found_own Before (Some entry) here =
      ap₂ (λ (one more : Option (List ℕ)). option_or one more)
      (found-append Before (lines_of document key Marker entry.marker) (lines_of document key Before entry.before)
      ∙ ap₂ (λ (one more : Option (List ℕ)). option_or one more) (passed_line Before key Marker entry.marker (rw here refl)) (found_line Before key entry.before (rw here refl)))
      (passed_line Before key After entry.after (rw here refl))
      ∙ or_none (option_map (λ (text : BoxText). text.full) entry.before)
  found_own After (Some entry) here =
      ap₂ (λ (one more : Option (List ℕ)). option_or one more)
      (found-append After (lines_of document key Marker entry.marker) (lines_of document key Before entry.before)
      ∙ ap₂ (λ (one more : Option (List ℕ)). option_or one more) (passed_line After key Marker entry.marker (rw here refl)) (passed_line After key Before entry.before (rw here refl)))
      (found_line After key entry.after (rw here refl))

  abbrev AreInDocument : Forest (Keyed Node) → Type 0
  AreInDocument trees = (other : ℕ) → 0 < times other trees → IsLive document other

  found_tree : (kind : BoxKind) (node : Keyed Node) (children rest : Forest (Keyed Node))
      → found kind (tree_lines document entry_of (Tree node children rest))
      ≡ option_or (found kind (first_of node.key (entry_of node.key))) (option_or (found kind (tree_lines document entry_of children)) (option_or (found kind (last_of node.key (entry_of node.key))) (found kind (tree_lines document entry_of rest))))
  found_tree kind node children rest =
      let below = tree_lines document entry_of children in
      let behind = tree_lines document entry_of rest in
      let first = first_lines document entry_of node.key in
      let last = last_lines document entry_of node.key in
      found-append kind first (below ++ (last ++ behind))
      ∙ ap (λ (more : Option (List ℕ)). option_or (found kind first) more)
      (found-append kind below (last ++ behind)
      ∙ ap (λ (more : Option (List ℕ)). option_or (found kind below) more) (found-append kind last behind))

  -- trees without the node
  passed_trees : (kind : BoxKind) (trees : Forest (Keyed Node)) → times key trees ≡ 0 → AreInDocument trees → found kind (tree_lines document entry_of trees) ≡ None
  passed_trees kind Empty none inside = refl
  passed_trees kind (Tree node children rest) none inside =
      elim (cases_Bool (node.key == key)) [
        | inl e ↦ let some : 1 + (times key children + times key rest) ≡ 0 = rw e at none in absurd (omega (arith, some))
        | inr e ↦
            let all : 0 + (times key children + times key rest) ≡ 0 = rw e at none in
            let away : hits (path_of document node.key) ≡ false = hits_it node.key (inside node.key (rw (eq-eqb node.key node.key refl) (omega arith))) ∙ e in
            found_tree kind node children rest
            ∙ ap₂ (λ (one more : Option (List ℕ)). option_or one more) (passed_first kind node.key (entry_of node.key) away)
            (ap₂ (λ (one more : Option (List ℕ)). option_or one more) (passed_trees kind children (omega (arith, all)) (λ other h. inside other (omega (arith, h))))
            (ap₂ (λ (one more : Option (List ℕ)). option_or one more) (passed_last kind node.key (entry_of node.key) away) (passed_trees kind rest (omega (arith, all)) (λ other h. inside other (omega (arith, h))))))
      ]

  -- trees with the node
  pub found_trees : (kind : BoxKind) (trees : Forest (Keyed Node)) → HasDistinctKeys trees → 0 < times key trees → AreInDocument trees → found kind (tree_lines document entry_of trees) ≡ shown_text kind (entry_of key)
  found_trees kind Empty distinct some inside = absurd (omega arith)
  found_trees kind (Tree node children rest) distinct some inside =
      let parts = distinct-parts node children rest distinct in
      let in_children : AreInDocument children = λ other h. inside other (omega (arith, h)) in
      let in_rest : AreInDocument rest = λ other h. inside other (omega (arith, h)) in
      let node_hits = hits_it node.key (inside node.key (rw (eq-eqb node.key node.key refl) (omega arith))) in
      elim (cases_Bool (node.key == key)) [
        | inl e ↦
            let same : node.key ≡ key = eqb-true node.key key e in
            let once = root-once node children rest distinct in
            let none_below : times key children ≡ 0 = subst (λ (k : ℕ). times k children ≡ 0) same once.0 in
            let none_after : times key rest ≡ 0 = subst (λ (k : ℕ). times k rest ≡ 0) same once.1 in
            let here : hits (path_of document key) ≡ true = subst (λ (k : ℕ). hits (path_of document k) ≡ true) same (node_hits ∙ e) in
            found_tree kind node children rest
            ∙ ap₂ (λ (below behind : Option (List ℕ)). option_or (found kind (first_of node.key (entry_of node.key))) (option_or below (option_or (found kind (last_of node.key (entry_of node.key))) behind)))
            (passed_trees kind children none_below in_children) (passed_trees kind rest none_after in_rest)
            ∙ ap (λ (last : Option (List ℕ)). option_or (found kind (first_of node.key (entry_of node.key))) last) (or_none (found kind (last_of node.key (entry_of node.key))))
            ∙ ap (λ (k : ℕ). option_or (found kind (first_of k (entry_of k))) (found kind (last_of k (entry_of k)))) same
            ∙ found_own kind (entry_of key) here
        | inr e ↦
            let away : hits (path_of document node.key) ≡ false = node_hits ∙ e in
            let there : 0 < 0 + (times key children + times key rest) = rw e at some in
            let others =
            found_tree kind node children rest
            ∙ ap₂ (λ (first last : Option (List ℕ)). option_or first (option_or (found kind (tree_lines document entry_of children)) (option_or last (found kind (tree_lines document entry_of rest)))))
            (passed_first kind node.key (entry_of node.key) away) (passed_last kind node.key (entry_of node.key) away) in
            elim (some_or_none (times key rest)) [
              | inl none_after ↦
                  others
                  ∙ ap₂ (λ (one more : Option (List ℕ)). option_or one more) (found_trees kind children parts.0 (omega (arith, there, none_after)) in_children) (passed_trees kind rest none_after in_rest)
                  ∙ or_none (shown_text kind (entry_of key))
              | inr is_after ↦
                  others
                  ∙ ap₂ (λ (one more : Option (List ℕ)). option_or one more) (passed_trees kind children (below-or-after node children rest key distinct is_after) in_children) (found_trees kind rest parts.1 is_after in_rest)
            ]
      ]

-- Lines at their new paths.
module _ (old new : Forest (Keyed Node)) (path : List ℕ) where
  -- an old path leads there
  abbrev leads_here : List ℕ → Bool
  leads_here at = option_map_or (λ (moved : List ℕ). bytes_eq moved path) (moved_path old new at) false

  abbrev found_here : BoxKind → List Line → Option (List ℕ)
  found_here kind lines = option_map (λ (line : Line). line.text) (find (λ (line : Line). leads_here line.path && is_same_kind line.kind kind) lines)

  one_moved : (kind : BoxKind) (at : Option (List ℕ)) (line : Line) (lines : List Line) → text_in (moved_lines old new lines) path kind ≡ found_here kind lines
      → text_in (option_map_or (λ (moved : List ℕ). record { path = moved; kind = line.kind; text = line.text } ∷ []) at [] ++ moved_lines old new lines) path kind
      ≡ option_map (λ (found : Line). found.text) (cond (option_map_or (λ (moved : List ℕ). bytes_eq moved path) at false && is_same_kind line.kind kind) (Some line) (find (λ (other : Line). leads_here other.path && is_same_kind other.kind kind) lines))
  one_moved kind None line lines rest = rest
  one_moved kind (Some moved) line lines rest = elim (cases_Bool (bytes_eq moved path && is_same_kind line.kind kind)) [
    | inl e ↦ rw e refl
    | inr e ↦ rw e rest
  ]

  text_in_moved : (kind : BoxKind) (lines : List Line) → text_in (moved_lines old new lines) path kind ≡ found_here kind lines
  text_in_moved kind [] = refl
  text_in_moved kind (line ∷ lines) = one_moved kind (moved_path old new line.path) line lines (text_in_moved kind lines)

none_from : {A : Type 0} (value : Option A) → is_some value ≡ false → value ≡ None
none_from None e = refl
none_from (Some value) e = absurd (cc)

module _ (old new : KeyedSource) (key : ℕ) (kind : BoxKind) (old_is : IsKeyedDocument old.tree) (new_is : IsKeyedDocument new.tree) (live : IsLive new.tree key) where
  text_now : text_in (keyed_lines new.sheet new.tree) (path_of new.tree key) kind ≡ shown_text kind (entry_in new key)
  text_now =
      found_trees new.tree (entry_in new) (λ (at : List ℕ). bytes_eq at (path_of new.tree key)) key (λ other other_live. paths_tell new.tree key other new_is live other_live)
      kind new.tree new_is.distinct (live-counted new.tree key live) (λ other h. counted-live new.tree other h)

  -- an old node leads to the path of the node where it is the node
  leads : (other : ℕ) → IsLive old.tree other → leads_here old.tree new.tree (path_of new.tree key) (path_of old.tree other) ≡ (other == key)
  leads other other_live = elim (some_or_none (times other new.tree)) [
    | inl none ↦ rw (key_at-path_of old.tree other (one-tree old.tree old_is) other_live, spot-absent new.tree None [] other none) (elim (cases_Bool (other == key)) [
      | inl e ↦
          let same : other ≡ key = eqb-true other key e in
          let none_here : times key new.tree ≡ 0 = subst (λ (k : ℕ). times k new.tree ≡ 0) same none in
          absurd (omega (arith, none_here, live-counted new.tree key live))
      | inr e ↦ sym e
    ])
    | inr some ↦
        let there = counted-live new.tree other some in
        let place = live-spot new.tree other there in
        rw (key_at-path_of old.tree other (one-tree old.tree old_is) other_live, place.1) (paths_tell new.tree key other new_is live there)
  ]

  text_before : text_in (moved_lines old.tree new.tree (keyed_lines old.sheet old.tree)) (path_of new.tree key) kind ≡ shown_text kind (entry_in old key)
  text_before =
      text_in_moved old.tree new.tree (path_of new.tree key) kind (keyed_lines old.sheet old.tree)
      ∙ elim (some_or_none (times key old.tree)) [
        | inl none ↦
            let entry : entry_in old key ≡ None =
            none_from (entry_in old key) (elements_keys (author_sheet old.sheet old.tree) old.tree key old_is.distinct ∙ (rw (spot-absent old.tree None [] key none) refl)) in
            passed_trees old.tree (entry_in old) (leads_here old.tree new.tree (path_of new.tree key)) key leads kind old.tree none (λ other h. counted-live old.tree other h)
            ∙ sym (ap (shown_text kind) entry)
        | inr some ↦
            found_trees old.tree (entry_in old) (leads_here old.tree new.tree (path_of new.tree key)) key leads kind old.tree old_is.distinct some (λ other h. counted-live old.tree other h)
      ]

  text_replayed : replayed old new (path_of new.tree key) kind ≡ shown_text kind (entry_in new key)
  text_replayed = ap (put_in (changed_lines old new) (path_of new.tree key) kind) text_before ∙ lines_replay old new key kind new_is live

  pub texts_replay : text_in (keyed_lines new.sheet new.tree) (path_of new.tree key) kind ≡ replayed old new (path_of new.tree key) kind
  texts_replay = text_now ∙ sym text_replayed

-- The lines of a node, where a box has the text that its element shows in it.
module _ (document : Forest (Keyed Node)) (key : ℕ) where
  abbrev line_of_text : BoxKind → Option (List ℕ) → List Line
  line_of_text kind text = option_map_or (λ (shown : List ℕ). record { path = path_of document key; kind = kind; text = shown } ∷ []) text []

  line_of_box : (kind : BoxKind) (box : Option BoxText) → line_of_text kind (option_map (λ (text : BoxText). text.full) box) ≡ lines_of document key kind box
  line_of_box kind None = refl
  line_of_box kind (Some text) = refl

  first_shown : (kept : Option NodeEntry) → line_of_text Marker (shown_text Marker kept) ++ line_of_text Before (shown_text Before kept)
      ≡ option_map_or (λ (entry : NodeEntry). lines_of document key Marker entry.marker ++ lines_of document key Before entry.before) kept []
  first_shown None = refl
  first_shown (Some entry) = ap₂ (λ (one more : List Line). one ++ more) (line_of_box Marker entry.marker) (line_of_box Before entry.before)

  last_shown : (kept : Option NodeEntry) → line_of_text After (shown_text After kept) ≡ option_map_or (λ (entry : NodeEntry). lines_of document key After entry.after) kept []
  last_shown None = refl
  last_shown (Some entry) = line_of_box After entry.after

-- Where the boxes of a document have the texts that its elements show, its lines in the order of a dump are those of its dump.
module _ (document : Forest (Keyed Node)) (entry_of : ℕ → Option NodeEntry) (text_of : List ℕ → BoxKind → Option (List ℕ)) (shows : (key : ℕ) (kind : BoxKind) → IsLive document key → text_of (path_of document key) kind ≡ shown_text kind (entry_of key)) where
  trees_shown : (trees : Forest (Keyed Node)) → ((other : ℕ) → 0 < times other trees → IsLive document other) → tree_lines document entry_of trees ≡ lines_with document text_of trees
  trees_shown Empty inside = refl
  trees_shown (Tree node children rest) inside =
      let here : IsLive document node.key = inside node.key (rw (eq-eqb node.key node.key refl) (omega arith)) in
      let line : (kind : BoxKind) → line_of_text document node.key kind (shown_text kind (entry_of node.key)) ≡ line_with document text_of node.key kind =
      λ kind. ap (line_of_text document node.key kind) (sym (shows node.key kind here)) in
      ap₂ (λ (first more : List Line). first ++ more)
      (sym (first_shown document node.key (entry_of node.key)) ∙ ap₂ (λ (one more : List Line). one ++ more) (line Marker) (line Before))
      (ap₂ (λ (below more : List Line). below ++ more) (trees_shown children (λ other h. inside other (omega (arith, h))))
      (ap₂ (λ (last behind : List Line). last ++ behind)
      (sym (last_shown document node.key (entry_of node.key)) ∙ line After)
      (trees_shown rest (λ other h. inside other (omega (arith, h))))))

pub dumps_replay : (old new : KeyedSource) → IsKeyedDocument old.tree → IsKeyedDocument new.tree
    → dump (keyed_lines new.sheet new.tree) ≡ dump (lines_with new.tree (replayed old new) new.tree)
dumps_replay old new old_is new_is =
    ap dump (trees_shown new.tree (entry_in new) (replayed old new) (λ key kind live. text_replayed old new key kind old_is new_is live) new.tree (λ other h. counted-live new.tree other h))
