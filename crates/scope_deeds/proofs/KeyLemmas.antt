-- What is read by keys depends on the keys alone; and a map of what is kept has nothing of texts. Throughout, n is a node, c what is
-- under it, r what is after it, g trees, i what they are handed, and k a key.
use Rattle.std.proofs.Common.{◌≡◌, ◌==◌, ◌+◌, ◌<◌, ◌≤◌, ◌++◌, ◌∷◌, ℕ, true, false, cond, List, [], Option, Some, None, refl, sym, ap, ◌∙◌, arith, eq-eqb, inl, inr}
use Rattle.std.proofs.lemmas.Bool.{cases_Bool, eqb-true}
use Rattle.std.proofs.lemmas.List.Elements.{All-cons, All-head, All-nil, All-tail, All-weaker}
use Rattle.std.specs.Option.{option_map_or}
use Rattle.forest.specs.Forest.{Forest, Empty, Tree}
use Rattle.forest.specs.Keys.{Keyed, HasDistinctKeys, times}
use Rattle.forest.specs.Spots.{root_keys}
use Rattle.plain_types.specs.declared.box_id.BoxId.{BoxId}
use Rattle.plain_types.specs.declared.box_kind.BoxKind.{BoxKind}
use Rattle.plain_types.specs.declared.box_kind.BoxKind.TheVariants as kind
use Rattle.plain_types.specs.declared.counter.Counter.{Counter}
use Rattle.plain_types.specs.declared.counter_style.CounterStyle.{CounterStyle}
use Rattle.plain_types.specs.declared.node.Node.{Node}
use Rattle.plain_types.specs.declared.style.ElementStyle.{ElementStyle}
use Rattle.plain_types.specs.declared.style.Style.{Style}
use Rattle.box_eval.specs.Evaluation.{Element, StyledNode, Text, style_within, styled_trees}
use Rattle.box_eval.specs.Starts.{no_starts}
use Rattle.edit_work.specs.KeyedSources.{is_among}
use Rattle.merged_walk.specs.Entries.{Holds, first_at}
use Rattle.merged_walk.specs.Evaluators.{past_all}
use Rattle.surroundings.specs.declared.surroundings.Surroundings.{Surroundings}
use Rattle.surroundings.specs.StyledEvaluators.{inside_node, is_element, past_styled, root_surroundings, styled_evaluator}
use Rattle.scope_reading.specs.ScopeChanges.{has_it}
use Rattle.scope_deeds.specs.Counting.{Counting, KeepsCounting, counting_in, counting_of}
use Rattle.scope_deeds.specs.KeptScopes.{kept_after, kept_before, kept_changes, kept_from, kept_own, kept_row, kept_scope}
use Rattle.scope_deeds.proofs.KeptNodes.{LacksTexts}

-- Styles change no key.
module _ (style : ℕ → Option Style → ElementStyle) (kept : ℕ → Option Counting) where
  abbrev styled_in : Option Style → Forest (Keyed Node) → Forest (Keyed StyledNode)
  styled_in parent g = styled_trees style no_starts parent g

  abbrev within_style : Option Style → Keyed Node → Option Style
  within_style parent n = style_within style no_starts parent n.key n.label

  changes-styled : (g : Forest (Keyed Node)) (parent : Option Style) → kept_changes kept (styled_in parent g) ≡ kept_changes kept g
  changes-styled Empty parent = refl
  changes-styled (Tree n c r) parent =
      let below = changes-styled c (within_style parent n) in
      let beside = changes-styled r parent in
      λ i. kept_before kept n.key ++ (below i ++ (kept_after kept n.key ++ beside i))

  roots-styled : (g : Forest (Keyed Node)) (parent : Option Style) → root_keys (styled_in parent g) ≡ root_keys g
  roots-styled Empty parent = refl
  roots-styled (Tree n c r) parent = ap (λ keys. n.key ∷ keys) (roots-styled r parent)

  module _ (a : BoxId) (name : List ℕ) where
    row-styled : (g : Forest (Keyed Node)) (parent : Option Style) → kept_row kept a name (styled_in parent g) ≡ kept_row kept a name g
    row-styled Empty parent = refl
    row-styled (Tree n c r) parent =
        let below = changes-styled c (within_style parent n) in
        let beside = row-styled r parent in
        λ i. option_map_or (λ (own : List Counter). cond (has_it a name own) (kept_before kept n.key ++ (below i ++ (kept_after kept n.key ++ beside i))) []) (kept_own kept n.key) (beside i)

    from-styled : (which : BoxKind) (key : ℕ) (c r : Forest (Keyed Node)) (inner parent : Option Style)
        → kept_from kept a name which key (styled_in inner c) (styled_in parent r) ≡ kept_from kept a name which key c r
    from-styled kind.Before key c r inner parent = let row = row-styled c inner in λ i. kept_before kept key ++ (row i ++ kept_after kept key)
    from-styled kind.After key c r inner parent = refl
    from-styled kind.Element key c r inner parent =
        let below = changes-styled c inner in
        let row = row-styled r parent in
        λ i. kept_before kept key ++ (below i ++ (kept_after kept key ++ row i))
    from-styled kind.Marker key c r inner parent =
        let below = changes-styled c inner in
        let row = row-styled r parent in
        λ i. kept_before kept key ++ (below i ++ (kept_after kept key ++ row i))

    pub scope-styled : (g : Forest (Keyed Node)) (parent : Option Style) → kept_scope kept a name (styled_in parent g) ≡ kept_scope kept a name g
    scope-styled Empty parent = refl
    scope-styled (Tree n c r) parent =
        let inner = within_style parent n in
        let from = from-styled a.kind n.key c r inner parent in
        let below = scope-styled c inner in
        let keys = roots-styled c inner in
        let beside = scope-styled r parent in
        λ i. cond (n.key == a.key) (from i) (below i ++ (cond (is_among (keys i) a.key) (kept_after kept n.key) [] ++ beside i))

-- How many entries have a key, and how many nodes that are elements or not.
module _ (k : ℕ) where
  abbrev one : ℕ → ℕ
  one key = cond {A = ℕ} (key == k) 1 0

  module _ {R : Type 0} where
    abbrev pub entries : List (ℕ × R) → ℕ
    entries [] = 0
    entries (entry ∷ es) = one entry.0 + entries es

    entries-split : (xs ys : List (ℕ × R)) → entries (xs ++ ys) ≡ entries xs + entries ys
    entries-split [] ys = omega arith
    entries-split (x ∷ xs) ys = let rest = entries-split xs ys in omega (arith, rest)

    -- a list without the key has nothing under it
    absent : (es : List (ℕ × R)) → entries es ≡ 0 → first_at es k ≡ None
    absent [] none = refl
    absent (entry ∷ es) none = elim (cases_Bool (entry.0 == k)) [
      | inl e ↦ absurd (let some : 1 + entries es ≡ 0 = rw e at none in omega (arith, some))
      | inr e ↦ let rest : 0 + entries es ≡ 0 = rw e at none in ap (λ b. cond b (Some entry.1) (first_at es k)) e ∙ absent es (omega (arith, rest))
    ]

  abbrev texts : Forest (Keyed StyledNode) → ℕ
  texts Empty = 0
  texts (Tree n c r) = cond {A = ℕ} (is_element n.label) 0 (one n.key) + (texts c + texts r)

  own-entry : (key : ℕ) (label : StyledNode) (its : Counting) → entries (cond (is_element label) ((key, its) ∷ []) []) + cond {A = ℕ} (is_element label) 0 (one key) ≡ one key
  own-entry key (Element element) its = omega arith
  own-entry key Text its = omega arith

  pub counted : (table : List CounterStyle) (g : Forest (Keyed StyledNode)) (i : Option Surroundings) → entries (counting_in table i g) + texts g ≡ times k g
  counted table Empty i = omega arith
  counted table (Tree n c r) i =
      let inside = inside_node table n i in
      let x = past_all (styled_evaluator table) inside c in
      let below = counting_in table inside c in
      let own : List (ℕ × Counting) = cond (is_element n.label) ((n.key, counting_of table n i x) ∷ []) [] in
      let beside = counting_in table (past_styled table n i x) r in
      omega (arith, entries-split below (own ++ beside), entries-split own beside, own-entry n.key n.label (counting_of table n i x), counted table c inside, counted table r (past_styled table n i x))

-- Entries whose keys are distinct are held by their first ones.

module _ {R : Type 0} where
  behind-it : (key : ℕ) (its : R) (held : ℕ → Option R) (es : List (ℕ × R)) → entries key es ≡ 0 → Holds held es → Holds (λ k. cond (key == k) (Some its) (held k)) es
  behind-it key its held [] none h = All-nil (λ (entry : ℕ × R). cond (key == entry.0) (Some its) (held entry.0) ≡ Some entry.1)
  behind-it key its held (entry ∷ es) none h = elim (cases_Bool (entry.0 == key)) [
    | inl e ↦ absurd (let some : 1 + entries key es ≡ 0 = rw e at none in omega (arith, some))
    | inr e ↦
        let rest : 0 + entries key es ≡ 0 = rw e at none in
        All-cons (λ (entry : ℕ × R). cond (key == entry.0) (Some its) (held entry.0) ≡ Some entry.1) entry es
        (ap (λ b. cond b (Some its) (held entry.0)) (flipped key entry.0 e) ∙ All-head (λ (entry : ℕ × R). held entry.0 ≡ Some entry.1) entry es h)
        (behind-it key its held es (omega (arith, rest)) (All-tail (λ (entry : ℕ × R). held entry.0 ≡ Some entry.1) entry es h))
  ]
    where
      flipped : (k l : ℕ) → (l == k) ≡ false → (k == l) ≡ false
      flipped k l e = elim (cases_Bool (k == l)) [
        | inl same ↦ absurd (let there : (l == k) ≡ true = eq-eqb l k (sym (eqb-true k l same)) in cc)
        | inr apart ↦ apart
      ]

  pub first-held : (es : List (ℕ × R)) → ((k : ℕ) → entries k es ≤ 1) → Holds (first_at es) es
  first-held [] once = All-nil (λ (entry : ℕ × R). first_at [] entry.0 ≡ Some entry.1)
  first-held (entry ∷ es) once =
      let here : 1 + entries entry.0 es ≤ 1 = rw (eq-eqb entry.0 entry.0 refl) at (once entry.0) in
      All-cons (λ (other : ℕ × R). first_at (entry ∷ es) other.0 ≡ Some other.1) entry es
      (ap (λ b. cond b (Some entry.1) (first_at es entry.0)) (eq-eqb entry.0 entry.0 refl))
      (behind-it entry.0 entry.1 (first_at es) es (omega (arith, here)) (first-held es (λ k. (let both = once k in omega (arith, both)))))

-- What a map has of a document.
module _ (table : List CounterStyle) (document : Forest (Keyed StyledNode)) (distinct : HasDistinctKeys document) (kept : ℕ → Option Counting) (keeps : KeepsCounting table document kept) where
  abbrev all : List (ℕ × Counting)
  all = counting_in table root_surroundings document

  pub has-elements : Holds kept all
  has-elements =
      All-weaker (λ (entry : ℕ × Counting). first_at all entry.0 ≡ Some entry.1) (λ (entry : ℕ × Counting). kept entry.0 ≡ Some entry.1) (λ entry first. keeps entry.0 ∙ first) all
      (first-held all (λ k. (let is = counted k table document root_surroundings in let once = distinct k in omega (arith, is, once))))

  no-text : (k : ℕ) → 0 < texts k document → kept k ≡ None
  no-text k some = keeps k ∙ absent k all (let is = counted k table document root_surroundings in let once = distinct k in omega (arith, is, once, some))

  lacks : (g : Forest (Keyed StyledNode)) → ((k : ℕ) → 0 < texts k g → kept k ≡ None) → LacksTexts table kept g
  lacks Empty none = tt
  lacks (Tree n c r) none = (
    λ text. none n.key (own n.label text),
    lacks c (λ k some. none k (omega (arith, some))),
    lacks r (λ k some. none k (omega (arith, some))),
  )
    where
      own : (label : StyledNode) → is_element label ≡ false → 0 < cond {A = ℕ} (is_element label) 0 (one n.key n.key) + (texts n.key c + texts n.key r)
      own (Element element) text = absurd (cc)
      own Text text = rw (eq-eqb n.key n.key refl) (omega arith)

  pub lacks-texts : LacksTexts table kept document
  lacks-texts = lacks document no-text
