-- A walk over the nodes of a document in tree order that tells the lines of each and counts its elements.
use Rattle.std.proofs.Common.{◌≡◌, ◌≤◌, ◌+◌, ◌∙◌, ℕ, zero, suc, Bool, true, false, List, [], ◌∷◌, Some, None, cond, flat_map, length, take, arith, ap, refl, sym, length-append}
use Rattle.std.specs.Prelude.{is_some}
use Rattle.forest.specs.Forest.{Forest}
use Rattle.forest.specs.Keys.{HasDistinctKeys, Keyed, keys, without_keys}
use Rattle.forest.specs.Order.{next_in_order_of, place_of}
use Rattle.forest.specs.Spots.{IsLive}
use Rattle.changed_lines.specs.Changes.{lines_at}
use Rattle.changed_lines.specs.declared.changed_line.ChangedLine.{ChangedLine}
use Rattle.dirty_walk.specs.Books.{StyledDocument, fresh_entry}
use Rattle.dirty_walk.proofs.WalkLemmas.{last_told, next_told, told_more}
use Rattle.document_walk.specs.Elements.{element_count, one_where}
use Rattle.marker_engine.proofs.Counting.{element_weight, total}
use Rattle.marker_engine.proofs.Counts.{element-weights, weigh-keys}
use Rattle.node_arena.specs.Nodes.{name_of}
use Rattle.plain_types.specs.declared.node.Node.{Node}

-- the lines that a node shows
abbrev pub shown_at : Forest (Keyed Node) → StyledDocument → ℕ → List ChangedLine
shown_at document styled key = lines_at document (λ _. None) (fresh_entry styled) key

-- its key, where it is an element
abbrev pub element_at : Forest (Keyed Node) → ℕ → List ℕ
element_at document key = cond (is_some (name_of document key)) (key ∷ []) []

-- how many elements come before a node
abbrev pub elements_before : Forest (Keyed Node) → ℕ → ℕ
elements_before document key = length (flat_map (element_at document) (take (place_of document key) (keys document)))

one : (key : ℕ) (is : Bool) → length (cond is (key ∷ []) []) ≡ one_where is
one key true = refl
one key false = refl

counted : (f : Forest (Keyed Node)) (ks : List ℕ) → length (flat_map (element_at f) ks) ≡ total (element_weight f) ks
counted f [] = refl
counted f (k ∷ ks) =
    let both = length-append (element_at f k) (flat_map (element_at f) ks) in
    let here = one k (is_some (name_of f k)) in
    let rest = counted f ks in
    omega (arith, both, here, rest)

fewer : (f : Forest (Keyed Node)) (n : ℕ) (ks : List ℕ) → length (flat_map (element_at f) (take n ks)) ≤ length (flat_map (element_at f) ks)
fewer f zero [] = omega arith
fewer f zero (k ∷ ks) = omega arith
fewer f (suc n) [] = omega arith
fewer f (suc n) (k ∷ ks) =
    let some = length-append (element_at f k) (flat_map (element_at f) (take n ks)) in
    let all = length-append (element_at f k) (flat_map (element_at f) ks) in
    let rest = fewer f n ks in
    omega (arith, some, all, rest)

module _ (f : Forest (Keyed Node)) (d : HasDistinctKeys f) where
  in_all : length (flat_map (element_at f) (keys f)) ≡ element_count (without_keys f)
  in_all = counted f (keys f) ∙ sym (weigh-keys (element_weight f) f) ∙ element-weights f d

  module _ (q : ℕ) (live : IsLive f q) where
    here : length (element_at f q) ≡ one_where (is_some (name_of f q))
    here = one q (is_some (name_of f q))

    pub next_elements : (k : ℕ) → next_in_order_of f q ≡ Some k → elements_before f k ≡ elements_before f q + one_where (is_some (name_of f q))
    next_elements k h =
        ap length (next_told f d q live (element_at f) k h)
        ∙ length-append (flat_map (element_at f) (take (place_of f q) (keys f))) (element_at f q)
        ∙ ap (λ n. elements_before f q + n) here

    pub all_elements : next_in_order_of f q ≡ None → element_count (without_keys f) ≡ elements_before f q + one_where (is_some (name_of f q))
    all_elements h =
        sym in_all
        ∙ ap length (last_told f d q live (element_at f) h)
        ∙ length-append (flat_map (element_at f) (take (place_of f q) (keys f))) (element_at f q)
        ∙ ap (λ n. elements_before f q + n) here

    pub no_more_elements : elements_before f q + one_where (is_some (name_of f q)) ≤ element_count (without_keys f)
    no_more_elements =
        let more = ap length (told_more f d q live (element_at f)) in
        let both = length-append (flat_map (element_at f) (take (place_of f q) (keys f))) (element_at f q) in
        let most = fewer f (place_of f q + 1) (keys f) in
        omega (arith, more, both, here, most, in_all)
