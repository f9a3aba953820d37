-- What elements are handed before an edit and after it, as their inputs tell. Throughout, i is what a level is handed, j what it
-- was handed, n a node, p the style of its parent, and k a key.
use Rattle.std.proofs.Common.{◌≡◌, ◌&&◌, ◌==◌, ◌⊎◌, ◌++◌, ◌∙◌, ℕ, Bool, true, false, List, [], ◌∷◌, Option, Some, None, refl, sym, ap, subst, inl, inr, eqb-true, cond}
use Rattle.std.specs.Prelude.{All, is_some, not, option_map}
use Rattle.std.specs.Option.{option_eq}
use Rattle.std.proofs.lemmas.Bool.{cases_Bool, or_cases, or_parts, true≢false}
use Rattle.std.proofs.lemmas.List.Elements.{All-head, All-tail}
use Rattle.std.proofs.lemmas.List.Folds.{list_any-append}
use Rattle.forest.specs.Keys.{Keyed}
use Rattle.plain_types.specs.declared.counter_style.CounterStyle.{CounterStyle}
use Rattle.plain_types.specs.declared.node.Node.{Node}
use Rattle.plain_types.specs.declared.node.Node.TheVariants as node
use Rattle.plain_types.specs.declared.style.ElementStyle.{ElementStyle}
use Rattle.plain_types.specs.declared.style.Style.{Style}
use Rattle.box_eval.specs.Boxes.{generates_box}
use Rattle.box_eval.specs.declared.inputs.Inputs.{Inputs}
use Rattle.box_eval.specs.Evaluation.{StyledNode, is_boxed, styled_node}
use Rattle.merged_walk.specs.Evaluators.{input}
use Rattle.surroundings.specs.declared.surroundings.Surroundings.{Surroundings}
use Rattle.surroundings.specs.StyledEvaluators.{inside_node, styled_evaluator}
use Rattle.surroundings.specs.StyledEvaluators.{is_element as is_styled_element}
use Rattle.surroundings.specs.Surroundings.{is_same, surroundings_in}
use Rattle.surroundings.proofs.Asking.{inside-some}
use Rattle.surroundings.proofs.SameLaws.{surroundings-Decides}
use Rattle.edit_merge.specs.EditMerges.{is_element}
use Rattle.styled_merge.specs.Stays.{HasSameStyle, OfElement}
use Rattle.styled_merge.specs.StyledMerges.{Starting, Styling, styled_by}
use Rattle.edit_work.specs.Inputs.{are_other, is_same_inputs}
use Rattle.edit_work.specs.KeyedSources.{is_among}
use Rattle.edit_work.proofs.LawLemmas.{test_tells_inputs}

-- Keys.

-- one of the keys that are listed
pub listed : (P : ℕ → Type 0) (keys : List ℕ) (k : ℕ) → All P keys → is_among keys k ≡ true → P k
listed P [] k all there = absurd (true≢false (sym there))
listed P (key ∷ keys) k all there = elim (or_cases (key == k) (is_among keys k) there) [
  | inl here ↦ subst P (eqb-true key k here) (All-head P key keys all)
  | inr later ↦ listed P keys k (All-tail P key keys all) later
]

-- one of two lists is in one of them, and one of neither in none
pub either-part : (k : ℕ) (xs ys : List ℕ) → is_among (xs ++ ys) k ≡ true → (is_among xs k ≡ true) ⊎ (is_among ys k ≡ true)
either-part k xs ys there = or_cases (is_among xs k) (is_among ys k) (sym (list_any-append (λ other. other == k) xs ys) ∙ there)

pub parts-apart : (k : ℕ) (xs ys : List ℕ) → is_among (xs ++ ys) k ≡ false → (is_among xs k ≡ false) × (is_among ys k ≡ false)
parts-apart k xs ys apart = or_parts (is_among xs k) (is_among ys k) (sym (list_any-append (λ other. other == k) xs ys) ∙ apart)

-- Inputs.

-- a map has what elements are handed, where something is
abbrev pub Entry : (ℕ → Option Surroundings) → ℕ × Option Surroundings → Type 0
Entry held x = (a : Surroundings) → x.1 ≡ Some a → held x.0 ≡ Some a

abbrev pub Has : (ℕ → Option Surroundings) → List (ℕ × Option Surroundings) → Type 0
Has held entries = All (λ (x : ℕ × Option Surroundings). (a : Surroundings) → x.1 ≡ Some a → held x.0 ≡ Some a) entries

-- where inputs are the same, the same is handed
pub same-handed : (before now : Option Inputs) → are_other before now ≡ false → (a b : Surroundings) → option_map surroundings_in now ≡ Some a → option_map surroundings_in before ≡ Some b → a ≡ b
same-handed None now h a b at was = absurd (cc was)
same-handed (Some before) None h a b at was = absurd (cc at)
same-handed (Some before) (Some now) h a b at was =
    let now_is : surroundings_in now ≡ a = cc at in
    let before_is : surroundings_in before ≡ b = cc was in
    let same : is_same_inputs before now ≡ true = not-false (is_same_inputs before now) h in
    sym now_is ∙ sym (ap surroundings_in ((test_tells_inputs before now).0 same)) ∙ before_is
  where
    not-false : (b : Bool) → not b ≡ false → b ≡ true
    not-false true h = refl
    not-false false h = absurd (true≢false h)

-- and where something else is, they are other ones
pub other-handed : (before now : Option Inputs) (a b : Surroundings) → option_map surroundings_in now ≡ Some a → option_map surroundings_in before ≡ Some b → is_same a b ≡ false → are_other before now ≡ true
other-handed before now a b at was apart = elim (cases_Bool (are_other before now)) [
  | inl other ↦ other
  | inr same ↦ absurd (true≢false (sym ((surroundings-Decides a b).1 (same-handed before now same a b at was)) ∙ apart))
]

-- Nodes that stay hand something on where they did.

module _ (table : List CounterStyle) where
  pub kept-some : (n : Keyed StyledNode) (i j : Option Surroundings) → is_some i ≡ is_some j → is_some (inside_node table n i) ≡ is_some (inside_node table n j)
  kept-some n i j some = inside-some table n.key n.label i ∙ ap (λ b. is_boxed b n.label) some ∙ sym (inside-some table n.key n.label j)

  module _ (old new : Styling) (was_start start : Starting) where
    same-boxed : (b : Bool) (p : Option Style) (k : ℕ) (l : Node) → OfElement (HasSameStyle old new) k l → is_boxed b (styled_node old was_start p k l) ≡ is_boxed b (styled_node new start p k l)
    same-boxed b p k (node.Text characters) same = refl
    same-boxed b p k (node.Element name attrs) same = ap (λ (s : ElementStyle). b && generates_box s) (same p)

    pub turned-some : (n : Keyed Node) (p : Option Style) (i j : Option Surroundings) → OfElement (HasSameStyle old new) n.key n.label → is_some i ≡ is_some j
        → is_some (inside_node table (styled_by new start p n) i) ≡ is_some (inside_node table (styled_by old was_start p n) j)
    turned-some n p i j same some =
        inside-some table n.key (styled_node new start p n.key n.label) i
        ∙ ap (λ b. is_boxed b (styled_node new start p n.key n.label)) some
        ∙ sym (same-boxed (is_some j) p n.key n.label same)
        ∙ sym (inside-some table n.key (styled_node old was_start p n.key n.label) j)

-- a styled node is an element where it is without styles
pub styled-element : (style : Styling) (given : Starting) (p : Option Style) (k : ℕ) (l : Node) → is_styled_element (styled_node style given p k l) ≡ is_element l
styled-element style given p k (node.Element name attrs) = refl
styled-element style given p k (node.Text characters) = refl

module _ (differs : ℕ → Bool) (table : List CounterStyle) (now before : ℕ → Option Surroundings)
    (other : (k : ℕ) (a b : Surroundings) → now k ≡ Some a → before k ≡ Some b → is_same a b ≡ false → differs k ≡ true) where
  -- an element that is handed two things has both under its key, so it differs where these are not the same
  own-entry : (held : ℕ → Option Surroundings) (n : Keyed StyledNode) (a : Surroundings) → is_styled_element n.label ≡ true → Has held (input (styled_evaluator table) n (Some a)) → held n.key ≡ Some a
  own-entry held n a is h = All-head (Entry held) (n.key, Some a) [] (subst (λ b. Has held (cond b ((n.key, Some a) ∷ []) [])) is h) a refl

  pub handed-other : (n : Keyed StyledNode) (i j : Option Surroundings) → is_styled_element n.label ≡ true → is_some i ≡ is_some j → Has now (input (styled_evaluator table) n i) → Has before (input (styled_evaluator table) n j)
      → option_eq is_same i j ≡ false → differs n.key ≡ true
  handed-other n None None element some hi hj apart = absurd (cc apart)
  handed-other n None (Some b) element some hi hj apart = absurd (cc some)
  handed-other n (Some a) None element some hi hj apart = absurd (cc some)
  handed-other n (Some a) (Some b) element some hi hj apart = other n.key a b (own-entry now n a element hi) (own-entry before n b element hj) apart
