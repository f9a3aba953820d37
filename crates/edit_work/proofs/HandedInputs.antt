-- What the elements of a document are handed is told by their inputs.
use Rattle.std.proofs.Common.{◌≡◌, ◌==◌, ℕ, Bool, true, false, cond, List, [], ◌∷◌, Option, Some, None, refl, sym, ap, ◌∙◌, arith}
use Rattle.std.specs.Prelude.{filter, is_some, map, not, option_map}
use Rattle.std.proofs.lemmas.List.Elements.{All-weaker}
use Rattle.forest.specs.Forest.{Forest, Empty, Tree}
use Rattle.forest.specs.Keys.{Keyed, HasDistinctKeys, times}
use Rattle.plain_types.specs.declared.counter_style.CounterStyle.{CounterStyle}
use Rattle.plain_types.specs.declared.node.Node.{Node}
use Rattle.plain_types.specs.declared.node.Node.TheVariants.{Element, Text}
use Rattle.plain_types.specs.declared.style.Style.{Style}
use Rattle.box_eval.specs.declared.inputs.Inputs.{Inputs}
use Rattle.box_eval.specs.Elements.{by_parent}
use Rattle.box_eval.specs.Evaluation.{StyledNode, all_inputs, is_boxed, style_within, styled_node, styled_trees, within}
use Rattle.merged_walk.specs.Entries.{first_at}
use Rattle.merged_walk.specs.Evaluators.{inputs, weigh_elements}
use Rattle.merged_walk.specs.Merges.{Merge, End, Kept, Turned, Gone, Come}
use Rattle.merged_walk.proofs.InputLaws.{holds-inputs}
use Rattle.surroundings.specs.declared.surroundings.Surroundings.{Surroundings}
use Rattle.surroundings.specs.Laws.{AreItsInputs}
use Rattle.surroundings.specs.Surroundings.{handed_by, is_same, surroundings_in, surroundings_of}
use Rattle.surroundings.specs.StyledEvaluators.{inside_node, root_surroundings, styled_evaluator}
use Rattle.surroundings.specs.StyledEvaluators.{is_element as is_styled_element}
use Rattle.surroundings.proofs.SameLaws.{surroundings-Decides}
use Rattle.edit_merge.specs.EditMerges.{is_element}
use Rattle.styled_merge.specs.Stays.{IsUnturned}
use Rattle.styled_merge.specs.StyledMerges.{Starting, Styling, styled_merge}
use Rattle.edit_work.specs.Inputs.{are_other, inputs_at, is_same_inputs}
use Rattle.edit_work.proofs.Handed.{HandsOn, Has, HasNoTurned}
use Rattle.edit_work.proofs.SameInputs.{inputs-Decides}

abbrev handed_of : Inputs → ℕ × Option Surroundings
handed_of its = (its.key, Some (surroundings_in its))

-- what an element is handed by its inputs
abbrev pub handed_at : List Inputs → ℕ → Option Surroundings
handed_at all key = option_map surroundings_in (inputs_at all key)

first-handed : (all : List Inputs) (k : ℕ) → first_at (map handed_of all) k ≡ option_map (λ (its : Inputs). Some (surroundings_in its)) (inputs_at all k)
first-handed [] k = refl
first-handed (x ∷ xs) k =
    elim (x.key == k) as (λ b. cond b (Some (Some (surroundings_in x))) (first_at (map handed_of xs) k) ≡ option_map (λ (its : Inputs). Some (surroundings_in its)) (cond b (Some x) (inputs_at xs k))) [
      | true ↦ refl
      | false ↦ first-handed xs k
    ]

-- the first entry under a key stays the first where it has something
module _ {S : Type 0} where
  abbrev somes : List (ℕ × Option S) → List (ℕ × Option S)
  somes entries = filter (λ (x : ℕ × Option S). is_some x.1) entries

  first-own : (key : ℕ) (o : Option S) (xs : List (ℕ × Option S)) (k : ℕ) (a : S) (b : Bool) → (key == k) ≡ b → cond b (Some o) (first_at xs k) ≡ Some (Some a)
      → (first_at xs k ≡ Some (Some a) → first_at (somes xs) k ≡ Some (Some a)) → first_at (cond (is_some o) ((key, o) ∷ somes xs) (somes xs)) k ≡ Some (Some a)
  first-own key None xs k a true is h rest = absurd (cc)
  first-own key None xs k a false is h rest = rest h
  first-own key (Some s) xs k a true is h rest = ap (λ b. cond b (Some (Some s)) (first_at (somes xs) k)) is ∙ h
  first-own key (Some s) xs k a false is h rest = ap (λ b. cond b (Some (Some s)) (first_at (somes xs) k)) is ∙ rest h

  first-some : (xs : List (ℕ × Option S)) (k : ℕ) (a : S) → first_at xs k ≡ Some (Some a) → first_at (somes xs) k ≡ Some (Some a)
  first-some [] k a h = h
  first-some (x ∷ xs) k a h = first-own x.0 x.1 xs k a (x.0 == k) refl h (first-some xs k a)

some-of : (o : Option Inputs) (a : Surroundings) → option_map (λ (its : Inputs). Some (surroundings_in its)) o ≡ Some (Some a) → option_map surroundings_in o ≡ Some a
some-of None a h = absurd (cc)
some-of (Some its) a h = let inner : Some (surroundings_in its) ≡ Some a = cc in inner

pub has-inputs : (table : List CounterStyle) (g : Forest (Keyed StyledNode)) → HasDistinctKeys g → AreItsInputs table g
    → Has (handed_at (all_inputs table g)) (inputs (styled_evaluator table) root_surroundings g)
has-inputs table g distinct its =
    let entries = inputs (styled_evaluator table) root_surroundings g in
    let all = all_inputs table g in
    All-weaker (λ (x : ℕ × Option Surroundings). first_at entries x.0 ≡ Some x.1) (λ (x : ℕ × Option Surroundings). (a : Surroundings) → x.1 ≡ Some a → handed_at all x.0 ≡ Some a)
    (λ x first a is. some-of (inputs_at all x.0) a (sym (first-handed all x.0) ∙ ap (λ l. first_at l x.0) its.handed ∙ first-some entries x.0 a (first ∙ ap Some is)))
    entries (holds-inputs (styled_evaluator table) root_surroundings g distinct)

-- where another thing is handed, the inputs differ
pub other-inputs : (before now : Option Inputs) (a b : Surroundings) → option_map surroundings_in now ≡ Some a → option_map surroundings_in before ≡ Some b → is_same a b ≡ false → are_other before now ≡ true
other-inputs None now a b at was is = absurd (cc)
other-inputs (Some before) None a b at was is = absurd (cc)
other-inputs (Some before) (Some now) a b at was is =
    let now_is : surroundings_in now ≡ a = cc in
    let before_is : surroundings_in before ≡ b = cc in
    by-test (is_same_inputs before now) refl now_is before_is
  where
    by-test : (t : Bool) → is_same_inputs before now ≡ t → surroundings_in now ≡ a → surroundings_in before ≡ b → not t ≡ true
    by-test false test now_is before_is = refl
    by-test true test now_is before_is =
        let same : a ≡ b = sym now_is ∙ ap surroundings_in (sym ((inputs-Decides before now).0 test)) ∙ before_is in
        let equal : is_same a b ≡ true = (surroundings-Decides a b).1 same in
        absurd (cc)

-- The evaluator of styled documents hands on something exactly where it is handed something and there is a box.

one-some : {S : Type 0} (t : Bool) (a b : S) → is_some (cond t (Some a) None) ≡ is_some (cond t (Some b) None)
one-some true a b = refl
one-some false a b = refl

module _ (table : List CounterStyle) where
  abbrev inner : Keyed StyledNode → Surroundings → Surroundings
  inner n around = surroundings_of (within table by_parent true n.key n.label (handed_by around))

  within-some : (n : Keyed StyledNode) (i j : Option Surroundings) → is_some i ≡ is_some j → is_some (inside_node table n i) ≡ is_some (inside_node table n j)
  within-some n None None some = refl
  within-some n None (Some b) some = absurd (cc)
  within-some n (Some a) None some = absurd (cc)
  within-some n (Some a) (Some b) some = one-some (is_boxed true n.label) (inner n a) (inner n b)

  past-some : (n : Keyed StyledNode) (i b : Option Surroundings) → is_some ((styled_evaluator table).past n i b) ≡ is_some i
  past-some n None b = refl
  past-some n (Some a) b = refl

  pub styled-hands : HandsOn (styled_evaluator table)
  styled-hands = record { nothing = refl; within = within-some; past = past-some }

-- Keys of styled documents, and merges.

module _ (old new : Styling) (was_start start : Starting) where
  pub none-turned : (m : Merge Node) (parent : Option Style) → IsUnturned m → HasNoTurned (styled_merge old new was_start start parent m)
  none-turned End parent h = tt
  none-turned (Kept n c r) parent h = (none-turned c (style_within old was_start parent n.key n.label) h.0, none-turned r parent h.1)
  none-turned (Turned was n c r) parent h = h.0
  none-turned (Gone n c r) parent h = none-turned r parent h
  none-turned (Come n c r) parent h = none-turned r parent h

module _ (style : Styling) (start : Starting) where
  own-weight : (f : ℕ → ℕ) (parent : Option Style) (key : ℕ) (label : Node)
      → cond (is_styled_element (styled_node style start parent key label)) (f key) 0 ≡ cond (is_element label) (f key) 0
  own-weight f parent key (Element name attrs) = refl
  own-weight f parent key (Text characters) = refl

  -- elements weigh the same with styles
  pub weigh-styled : (f : ℕ → ℕ) (g : Forest (Keyed Node)) (parent : Option Style) → weigh_elements is_styled_element f (styled_trees style start parent g) ≡ weigh_elements is_element f g
  weigh-styled f Empty parent = refl
  weigh-styled f (Tree n c r) parent =
      omega (arith, own-weight f parent n.key n.label, weigh-styled f c (style_within style start parent n.key n.label), weigh-styled f r parent)

  times-styled : (k : ℕ) (g : Forest (Keyed Node)) (parent : Option Style) → times k (styled_trees style start parent g) ≡ times k g
  times-styled k Empty parent = refl
  times-styled k (Tree n c r) parent = omega (arith, times-styled k c (style_within style start parent n.key n.label), times-styled k r parent)

  pub distinct-styled : (g : Forest (Keyed Node)) (parent : Option Style) → HasDistinctKeys g → HasDistinctKeys (styled_trees style start parent g)
  distinct-styled g parent distinct key = omega (arith, distinct key, times-styled key g parent)
