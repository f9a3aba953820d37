-- The texts of boxes, once changed lines are put in.
use Rattle.std.proofs.Common.{◌≡◌, ◌==◌, ◌&&◌, ◌<◌, ◌+◌, ◌∷◌, ◌++◌, ℕ, List, [], true, false, Option, Some, None, refl, sym, ap, subst, ◌∙◌, arith, inl, inr, eq-eqb, eqb-true}
use Rattle.std.proofs.lemmas.Bool.{cases_Bool}
use Rattle.std.proofs.lemmas.Grind.{flat_map-append}
use Rattle.std.proofs.lemmas.Slice.Eq.{bytes_eq-Decides}
use Rattle.std.specs.Prelude.{flat_map}
use Rattle.std.specs.Str.{bytes_eq}
use Rattle.forest.specs.Forest.{Forest, Empty, Tree}
use Rattle.forest.specs.Keys.{Keyed, HasDistinctKeys, keys, times}
use Rattle.forest.specs.Paths.{path_of}
use Rattle.forest.specs.Spots.{IsLive}
use Rattle.forest.proofs.OrderLaws.{keys-tree}
use Rattle.forest.proofs.SpotLaws.{below-or-after, counted-live, distinct-parts, live-counted, root-once, some_or_none}
use Rattle.plain_types.specs.declared.box_kind.BoxKind.{BoxKind}
use Rattle.plain_types.specs.declared.box_kind.BoxKind.TheVariants.{Element, Marker, Before, After}
use Rattle.plain_types.specs.declared.node.Node.{Node}
use Rattle.node_arena.specs.Document.{IsKeyedDocument}
use Rattle.counter_sets.specs.Sets.{is_same_kind}
use Rattle.generated_texts.specs.declared.entry.NodeEntry.{NodeEntry}
use Rattle.edit_work.specs.KeyedSources.{KeyedSource}
use Rattle.changed_lines.specs.declared.changed_line.ChangedLine.{ChangedLine}
use Rattle.changed_lines.specs.Changes.{changed_line, changed_lines, element_lines, entry_in, is_same_text, lines_at}
use Rattle.changed_lines.specs.Replays.{put_in, tells_of}
use Rattle.changed_lines.specs.ShownTexts.{shown_text}
use Rattle.changed_lines.proofs.PathLemmas.{paths_tell}

module _ (path : List ℕ) (kind : BoxKind) where
  pub put_in-append : (lines more : List ChangedLine) (had : Option (List ℕ)) → put_in (lines ++ more) path kind had ≡ put_in lines path kind (put_in more path kind had)
  put_in-append [] more had = refl
  put_in-append (line ∷ lines) more had = elim (cases_Bool (tells_of path kind line)) [
    | inl e ↦ rw e refl
    | inr e ↦ rw e (put_in-append lines more had)
  ]

  -- Of an element at a path of which this is kept before and after.
  module _ (at : List ℕ) (before after : Option NodeEntry) where
    -- a line that does not tell of the box leaves its text
    left_by_line : (which : BoxKind) (had : Option (List ℕ)) → (bytes_eq at path && is_same_kind which kind) ≡ false → put_in (changed_line at before after which) path kind had ≡ had
    left_by_line which had untold = elim (cases_Bool (is_same_text (shown_text which before) (shown_text which after))) [
      | inl e ↦ rw e refl
      | inr e ↦ rw (e, untold) refl
    ]

    put_in_three : (had : Option (List ℕ))
        → put_in (element_lines at before after) path kind had
        ≡ put_in (changed_line at before after Marker) path kind (put_in (changed_line at before after Before) path kind (put_in (changed_line at before after After) path kind had))
    put_in_three had =
        put_in-append (changed_line at before after Marker) (changed_line at before after Before ++ changed_line at before after After) had
        ∙ ap (put_in (changed_line at before after Marker) path kind) (put_in-append (changed_line at before after Before) (changed_line at before after After) had)

    -- the lines of an element at another path leave it
    left_elsewhere : (had : Option (List ℕ)) → bytes_eq at path ≡ false → put_in (element_lines at before after) path kind had ≡ had
    left_elsewhere had apart =
        let marker = left_by_line Marker had (rw apart refl) in
        let first = left_by_line Before had (rw apart refl) in
        let last = left_by_line After had (rw apart refl) in
        put_in_three had
        ∙ ap (λ (text : Option (List ℕ)). put_in (changed_line at before after Marker) path kind (put_in (changed_line at before after Before) path kind text)) last
        ∙ ap (put_in (changed_line at before after Marker) path kind) first
        ∙ marker

same_from_test : (first second : Option (List ℕ)) → is_same_text first second ≡ true → first ≡ second
same_from_test None None e = refl
same_from_test (Some first) (Some second) e = ap Some ((bytes_eq-Decides first second).0 e)
same_from_test None (Some second) e = absurd (cc)
same_from_test (Some first) None e = absurd (cc)

no_own_text : (kept : Option NodeEntry) → shown_text Element kept ≡ None
no_own_text None = refl
no_own_text (Some entry) = refl

path_self : (path : List ℕ) → bytes_eq path path ≡ true
path_self path = (bytes_eq-Decides path path).1 refl

-- Of an element at its path.
module _ (path : List ℕ) (before after : Option NodeEntry) where
  abbrev line_of : BoxKind → List ChangedLine
  line_of which = changed_line path before after which

  -- the line of a box tells its text
  told_by_line : (kind : BoxKind) → is_same_kind kind kind ≡ true → put_in (line_of kind) path kind (shown_text kind before) ≡ shown_text kind after
  told_by_line kind same = elim (cases_Bool (is_same_text (shown_text kind before) (shown_text kind after))) [
    | inl e ↦ rw e (same_from_test (shown_text kind before) (shown_text kind after) e)
    | inr e ↦ rw (e, path_self path, same) refl
  ]

  -- and that of another box leaves it
  left_by_other : (kind which : BoxKind) (had : Option (List ℕ)) → is_same_kind which kind ≡ false → put_in (line_of which) path kind had ≡ had
  left_by_other kind which had other = left_by_line path kind path before after which had (rw (path_self path, other) refl)

  -- so all three tell the texts of all boxes
  told_by_element : (kind : BoxKind) → put_in (element_lines path before after) path kind (shown_text kind before) ≡ shown_text kind after
  told_by_element Element =
      put_in_three path Element path before after (shown_text Element before)
      ∙ ap (λ (text : Option (List ℕ)). put_in (line_of Marker) path Element (put_in (line_of Before) path Element text)) (left_by_other Element After (shown_text Element before) refl)
      ∙ ap (put_in (line_of Marker) path Element) (left_by_other Element Before (shown_text Element before) refl)
      ∙ left_by_other Element Marker (shown_text Element before) refl
      ∙ no_own_text before
      ∙ sym (no_own_text after)
  told_by_element Marker =
      put_in_three path Marker path before after (shown_text Marker before)
      ∙ ap (λ (text : Option (List ℕ)). put_in (line_of Marker) path Marker (put_in (line_of Before) path Marker text)) (left_by_other Marker After (shown_text Marker before) refl)
      ∙ ap (put_in (line_of Marker) path Marker) (left_by_other Marker Before (shown_text Marker before) refl)
      ∙ told_by_line Marker refl
  told_by_element Before =
      put_in_three path Before path before after (shown_text Before before)
      ∙ ap (λ (text : Option (List ℕ)). put_in (line_of Marker) path Before (put_in (line_of Before) path Before text)) (left_by_other Before After (shown_text Before before) refl)
      ∙ ap (put_in (line_of Marker) path Before) (told_by_line Before refl)
      ∙ left_by_other Before Marker (shown_text Before after) refl
  told_by_element After =
      put_in_three path After path before after (shown_text After before)
      ∙ ap (λ (text : Option (List ℕ)). put_in (line_of Marker) path After (put_in (line_of Before) path After text)) (told_by_line After refl)
      ∙ ap (put_in (line_of Marker) path After) (left_by_other After Before (shown_text After after) refl)
      ∙ left_by_other After Marker (shown_text After after) refl

-- Of a document, and what is kept before and after by its keys; and of one of its nodes.
module _ (document : Forest (Keyed Node)) (is_document : IsKeyedDocument document) (before after : ℕ → Option NodeEntry) (key : ℕ) (live : IsLive document key) (kind : BoxKind) where
  -- the lines of these nodes
  abbrev lines_under : Forest (Keyed Node) → List ChangedLine
  lines_under trees = flat_map (lines_at document before after) (keys trees)

  -- each node of the trees is one of the document
  abbrev AreInDocument : Forest (Keyed Node) → Type 0
  AreInDocument trees = (other : ℕ) → 0 < times other trees → IsLive document other

  -- another node has another path
  other_path : (other : ℕ) → IsLive document other → (other == key) ≡ false → bytes_eq (path_of document other) (path_of document key) ≡ false
  other_path other other_live differ = paths_tell document key other is_document live other_live ∙ differ

  put_in_trees : (node : Keyed Node) (children rest : Forest (Keyed Node)) (had : Option (List ℕ))
      → put_in (lines_under (Tree node children rest)) (path_of document key) kind had
      ≡ put_in (lines_at document before after node.key) (path_of document key) kind (put_in (lines_under children) (path_of document key) kind (put_in (lines_under rest) (path_of document key) kind had))
  put_in_trees node children rest had =
      ap (λ (those : List ℕ). put_in (flat_map (lines_at document before after) those) (path_of document key) kind had) (keys-tree node children rest)
      ∙ put_in-append (path_of document key) kind (lines_at document before after node.key) (flat_map (lines_at document before after) (keys children ++ keys rest)) had
      ∙ ap (put_in (lines_at document before after node.key) (path_of document key) kind)
      (ap (λ (lines : List ChangedLine). put_in lines (path_of document key) kind had) (flat_map-append (lines_at document before after) (keys children) (keys rest))
      ∙ put_in-append (path_of document key) kind (lines_under children) (lines_under rest) had)

  -- trees without the node leave its text
  left_by_trees : (trees : Forest (Keyed Node)) (had : Option (List ℕ)) → times key trees ≡ 0 → AreInDocument trees → put_in (lines_under trees) (path_of document key) kind had ≡ had
  left_by_trees Empty had none inside = refl
  left_by_trees (Tree node children rest) had none inside =
      elim (cases_Bool (node.key == key)) [
        | inl e ↦ let some : 1 + (times key children + times key rest) ≡ 0 = rw e at none in absurd (omega (arith, some))
        | inr e ↦
            let all : 0 + (times key children + times key rest) ≡ 0 = rw e at none in
            let node_live : IsLive document node.key = inside node.key (rw (eq-eqb node.key node.key refl) (omega arith)) in
            put_in_trees node children rest had
            ∙ ap (λ (text : Option (List ℕ)). put_in (lines_at document before after node.key) (path_of document key) kind (put_in (lines_under children) (path_of document key) kind text))
            (left_by_trees rest had (omega (arith, all)) (λ other h. inside other (omega (arith, h))))
            ∙ ap (put_in (lines_at document before after node.key) (path_of document key) kind) (left_by_trees children had (omega (arith, all)) (λ other h. inside other (omega (arith, h))))
            ∙ left_elsewhere (path_of document key) kind (path_of document node.key) (before node.key) (after node.key) had (other_path node.key node_live e)
      ]

  -- trees with the node give it
  told_by_trees : (trees : Forest (Keyed Node)) → HasDistinctKeys trees → 0 < times key trees → AreInDocument trees
      → put_in (lines_under trees) (path_of document key) kind (shown_text kind (before key)) ≡ shown_text kind (after key)
  told_by_trees Empty distinct some inside = absurd (omega arith)
  told_by_trees (Tree node children rest) distinct some inside =
      let had = shown_text kind (before key) in
      let path = path_of document key in
      let parts = distinct-parts node children rest distinct in
      let in_children : AreInDocument children = λ other h. inside other (omega (arith, h)) in
      let in_rest : AreInDocument rest = λ other h. inside other (omega (arith, h)) in
      let node_live : IsLive document node.key = inside node.key (rw (eq-eqb node.key node.key refl) (omega arith)) in
      elim (cases_Bool (node.key == key)) [
        | inl e ↦
            let same : node.key ≡ key = eqb-true node.key key e in
            let once = root-once node children rest distinct in
            let none_below : times key children ≡ 0 = subst (λ (k : ℕ). times k children ≡ 0) same once.0 in
            let none_after : times key rest ≡ 0 = subst (λ (k : ℕ). times k rest ≡ 0) same once.1 in
            put_in_trees node children rest had
            ∙ ap (λ (text : Option (List ℕ)). put_in (lines_at document before after node.key) path kind (put_in (lines_under children) path kind text)) (left_by_trees rest had none_after in_rest)
            ∙ ap (put_in (lines_at document before after node.key) path kind) (left_by_trees children had none_below in_children)
            ∙ ap (λ (which : ℕ). put_in (lines_at document before after which) path kind had) same
            ∙ told_by_element path (before key) (after key) kind
        | inr e ↦
            let apart = other_path node.key node_live e in
            let there : 0 < 0 + (times key children + times key rest) = rw e at some in
            elim (some_or_none (times key rest)) [
              | inl none_after ↦
                  put_in_trees node children rest had
                  ∙ ap (λ (text : Option (List ℕ)). put_in (lines_at document before after node.key) path kind (put_in (lines_under children) path kind text)) (left_by_trees rest had none_after in_rest)
                  ∙ ap (put_in (lines_at document before after node.key) path kind) (told_by_trees children parts.0 (omega (arith, there, none_after)) in_children)
                  ∙ left_elsewhere path kind (path_of document node.key) (before node.key) (after node.key) (shown_text kind (after key)) apart
              | inr is_after ↦
                  let none_below : times key children ≡ 0 = below-or-after node children rest key distinct is_after in
                  put_in_trees node children rest had
                  ∙ ap (λ (text : Option (List ℕ)). put_in (lines_at document before after node.key) path kind (put_in (lines_under children) path kind text)) (told_by_trees rest parts.1 is_after in_rest)
                  ∙ ap (put_in (lines_at document before after node.key) path kind) (left_by_trees children (shown_text kind (after key)) none_below in_children)
                  ∙ left_elsewhere path kind (path_of document node.key) (before node.key) (after node.key) (shown_text kind (after key)) apart
            ]
      ]

pub lines_replay : (old new : KeyedSource) (key : ℕ) (kind : BoxKind) → IsKeyedDocument new.tree → IsLive new.tree key
    → put_in (changed_lines old new) (path_of new.tree key) kind (shown_text kind (entry_in old key)) ≡ shown_text kind (entry_in new key)
unfolding changed_lines
lines_replay old new key kind is_document live =
    told_by_trees new.tree is_document (entry_in old) (entry_in new) key live kind new.tree is_document.distinct (live-counted new.tree key live)
    (λ other h. counted-live new.tree other h)
