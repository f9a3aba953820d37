-- The nodes of trees that an edit leaves where they are, around those that it changes.
use Rattle.std.proofs.Common.{◌≡◌, ◌∙◌, ℕ, zero, suc, true, List, [], ◌∷◌, ◌++◌, is_some, refl, sym, ap, append_assoc, append-nil}
use Rattle.forest.specs.Forest.{Forest, Empty, Tree, labels}
use Rattle.forest.specs.Paths.{on_path, trees_from}
use Rattle.forest.specs.Changes.{splice}
use Rattle.node_arena.specs.AtPaths.{at_path, first_label, from_position, inserted_at, relabelled_at, removed_at, with_children, with_label, with_tree, without_first}
use Rattle.node_arena.specs.Changes.{alone}
use Rattle.node_arena.proofs.AtPathLaws.{at-empty, on-changed}
use Rattle.dirty_walk.specs.Exchanges.{first_node}

-- a list with others put in somewhere
pub record IsPut {A : Type 0} (put rest whole : List A) : Type 0 where
  pub before : List A
  pub after : List A
  pub rest_is : rest ≡ before ++ after
  pub whole_is : whole ≡ before ++ (put ++ after)

module _ {A : Type 0} where
  put-before : (put xs ys front : List A) → IsPut put xs ys → IsPut put (front ++ xs) (front ++ ys)
  put-before put xs ys front h = record {
    before = front ++ h.before;
    after = h.after;
    rest_is = ap (λ zs. front ++ zs) h.rest_is ∙ sym (append_assoc front h.before h.after);
    whole_is = ap (λ zs. front ++ zs) h.whole_is ∙ sym (append_assoc front h.before (put ++ h.after));
  }

  put-behind : (put xs ys rest : List A) → IsPut put xs ys → IsPut put (xs ++ rest) (ys ++ rest)
  put-behind put xs ys rest h = record {
    before = h.before;
    after = h.after ++ rest;
    rest_is = ap (λ zs. zs ++ rest) h.rest_is ∙ append_assoc h.before h.after rest;
    whole_is = ap (λ zs. zs ++ rest) h.whole_is ∙ append_assoc h.before (put ++ h.after) rest ∙ ap (λ zs. h.before ++ zs) (append_assoc put h.after rest);
  }

  pub put-first : (put rest : List A) → IsPut put rest (put ++ rest)
  put-first put rest = record { before = []; after = rest; rest_is = refl; whole_is = refl }

  around : (a b x c d : List A) → (a ++ (b ++ (x ++ c))) ++ d ≡ (a ++ b) ++ (x ++ (c ++ d))
  around a b x c d =
      append_assoc a (b ++ (x ++ c)) d
      ∙ ap (λ ns. a ++ ns) (append_assoc b (x ++ c) d ∙ ap (λ ns. b ++ ns) (append_assoc x c d))
      ∙ sym (append_assoc a b (x ++ (c ++ d)))

module _ {L : Type 0} where
  -- the same labels stand around some trees, and around what they become
  pub record IsAround (whole here new_whole new_here : Forest L) : Type 0 where
    pub before : List L
    pub after : List L
    pub was : labels whole ≡ before ++ (labels here ++ after)
    pub is : labels new_whole ≡ before ++ (labels new_here ++ after)

  module _ (change : Forest L → Forest L) (none : change Empty ≡ Empty) where
    beside : (i : ℕ) (c : Forest L) → (before : List L) × (labels c ≡ before ++ labels (trees_from i c)) × (labels (from_position change i c) ≡ before ++ labels (change (trees_from i c)))
    beside zero c = ([], refl, refl)
    beside (suc i) Empty = ([], refl, sym (ap labels none))
    beside (suc i) (Tree n c r) =
        let h = beside i r in (
          n ∷ (labels c ++ h.0),
          ap (λ ns. n ∷ (labels c ++ ns)) h.1 ∙ ap (λ ns. n ∷ ns) (sym (append_assoc (labels c) h.0 (labels (trees_from i r)))),
          ap (λ ns. n ∷ (labels c ++ ns)) h.2 ∙ ap (λ ns. n ∷ ns) (sym (append_assoc (labels c) h.0 (labels (change (trees_from i r))))),
        )

  pub around-path : (change : Forest L → Forest L) → change Empty ≡ Empty → (path : List ℕ) (f : Forest L) → IsAround f (on_path path f) (at_path change path f) (change (on_path path f))
  around-path change none [] f = record { before = []; after = []; was = sym (append-nil (labels f)); is = sym (append-nil (labels (change f))) }
  around-path change none (p ∷ path) Empty = record { before = []; after = []; was = refl; is = sym (append-nil (labels (change Empty)) ∙ ap labels none) }
  around-path change none (p ∷ path) (Tree n c r) =
      let at : Forest L → Forest L = at_path change path in
      let level = beside at (at-empty change path none) p c in
      let h = around-path change none path (trees_from p c) in
      record {
        before = n ∷ (level.0 ++ h.before);
        after = h.after ++ labels r;
        was = ap (λ ns. n ∷ (ns ++ labels r)) (level.1 ∙ ap (λ ns. level.0 ++ ns) h.was)
            ∙ ap (λ ns. n ∷ ns) (around level.0 h.before (labels (on_path path (trees_from p c))) h.after (labels r));
        is = ap (λ ns. n ∷ (ns ++ labels r)) (level.2 ∙ ap (λ ns. level.0 ++ ns) h.is)
            ∙ ap (λ ns. n ∷ ns) (around level.0 h.before (labels (change (on_path path (trees_from p c)))) h.after (labels r));
      }

  module _ (whole here new_whole new_here : Forest L) (h : IsAround whole here new_whole new_here) (put : List L) where
    abbrev wider : List L → List L
    wider ns = h.before ++ (ns ++ h.after)

    widened : (xs ys : List L) → IsPut put xs ys → IsPut put (wider xs) (wider ys)
    widened xs ys p = put-before put (xs ++ h.after) (ys ++ h.after) h.before (put-behind put xs ys h.after p)

    -- what is taken out, or put in, where a path leads
    pub out-there : IsPut put (labels new_here) (labels here) → IsPut put (labels new_whole) (labels whole)
    out-there p = rw (h.was, h.is) (widened (labels new_here) (labels here) p)

    pub in-there : IsPut put (labels here) (labels new_here) → IsPut put (labels whole) (labels new_whole)
    in-there p = rw (h.was, h.is) (widened (labels here) (labels new_here) p)

  -- The edits.

  first-out : (t : Forest L) → IsPut (labels (alone t)) (labels (without_first t)) (labels t)
  first-out Empty = put-first [] []
  first-out (Tree n c r) =
      rw (ap (λ ns. n ∷ (ns ++ labels r)) (sym (append-nil (labels c)))) (put-first (n ∷ (labels c ++ [])) (labels r))

  pub removed-put : (path : List ℕ) (f : Forest L) → IsPut (labels (alone (on_path path f))) (labels (removed_at path f)) (labels f)
  removed-put path f =
      out-there f (on_path path f) (removed_at path f) (without_first (on_path path f)) (around-path without_first refl path f) (labels (alone (on_path path f))) (first-out (on_path path f))

  spliced : (i : ℕ) (m : L) (t c : Forest L) → IsPut (labels (Tree m t Empty)) (labels c) (labels (splice i m t c))
  spliced zero m t c = first-out (Tree m t c)
  spliced (suc i) m t Empty = first-out (Tree m t Empty)
  spliced (suc i) m t (Tree n d r) = put-before (labels (Tree m t Empty)) (labels r) (labels (splice i m t r)) (n ∷ labels d) (spliced i m t r)

  among : (i : ℕ) (t c : Forest L) → IsPut (labels (alone t)) (labels c) (labels (with_tree i t c))
  among i Empty c = put-first [] (labels c)
  among i (Tree m t r) c = spliced i m t c

  under : (i : ℕ) (t here : Forest L) → is_some (first_label here) ≡ true → IsPut (labels (alone t)) (labels here) (labels (with_children (with_tree i t) here))
  under i t Empty some = absurd (cc some)
  under i t (Tree n c r) some =
      put-before (labels (alone t)) (labels c ++ labels r) (labels (with_tree i t c) ++ labels r) (n ∷ [])
      (put-behind (labels (alone t)) (labels c) (labels (with_tree i t c)) (labels r) (among i t c))

  pub inserted-put : (path : List ℕ) (i : ℕ) (t f : Forest L) → is_some (first_label (on_path path f)) ≡ true → IsPut (labels (alone t)) (labels f) (labels (inserted_at path i t f))
  inserted-put path i t f some =
      in-there f (on_path path f) (inserted_at path i t f) (with_children (with_tree i t) (on_path path f)) (around-path (with_children (with_tree i t)) refl path f) (labels (alone t)) (under i t (on_path path f) some)

  -- the other labels where a node gets another
  module _ (change : L → L) (path : List ℕ) (f : Forest L) where
    abbrev pub here : Forest L
    here = on_path path f

    abbrev pub below : Forest L → List L
    below Empty = []
    below (Tree n c r) = labels c ++ labels r

    abbrev pub others : IsAround f here (relabelled_at path change f) (with_label change here) → List L
    others h = h.before ++ (below here ++ h.after)

    first-put : (t : Forest L) → IsPut (labels (first_node t)) (below t) (labels t)
    first-put Empty = put-first [] []
    first-put (Tree n c r) = put-first (n ∷ []) (labels c ++ labels r)

    same-below : (t : Forest L) → below (with_label change t) ≡ below t
    same-below Empty = refl
    same-below (Tree n c r) = refl

    pub around-label : IsAround f here (relabelled_at path change f) (with_label change here)
    around-label = around-path (with_label change) refl path f

    pub label-out : IsPut (labels (first_node here)) (others around-label) (labels f)
    label-out = rw around-label.was (widened f here (relabelled_at path change f) (with_label change here) around-label (labels (first_node here)) (below here) (labels here) (first-put here))

    pub label-in : IsPut (labels (first_node (on_path path (relabelled_at path change f)))) (others around-label) (labels (relabelled_at path change f))
    label-in =
        rw (around-label.is, on-changed (with_label change) path f refl, ← same-below here)
        (widened f here (relabelled_at path change f) (with_label change here) around-label (labels (first_node (with_label change here))) (below (with_label change here)) (labels (with_label change here)) (first-put (with_label change here)))
