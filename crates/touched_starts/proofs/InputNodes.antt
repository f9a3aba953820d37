-- What the inputs of a document have of its nodes. Throughout, b is whether the parent of a node has a box, p the style of the parent, n a
-- node, c what is under it, r what is after it, g trees, i what they are handed, k a key, and l a label.
use Rattle.std.proofs.Common.{◌≡◌, ◌==◌, ◌++◌, ◌∷◌, ℕ, Bool, true, All, List, [], Option, Some, None, refl, sym, ap, subst, ◌∙◌, inl, inr, eqb-true}
use Rattle.std.specs.Prelude.{Contains, is_some, option_map}
use Rattle.std.proofs.lemmas.List.Elements.{All-head, Contains-append_right}
use Rattle.std.proofs.lemmas.Option.{same_Some}
use Rattle.forest.specs.Forest.{Forest, Empty, Tree}
use Rattle.forest.specs.Keys.{Keyed, HasDistinctKeys}
use Rattle.forest.specs.Spots.{Spot, label_of}
use Rattle.forest.proofs.SpotLaws.{chosen}
use Rattle.plain_types.specs.declared.counter_style.CounterStyle.{CounterStyle}
use Rattle.plain_types.specs.declared.node.Node.{Node}
use Rattle.plain_types.specs.declared.node.Node.TheVariants as node
use Rattle.plain_types.specs.declared.style.Style.{Style}
use Rattle.box_eval.specs.declared.inputs.Inputs.{Inputs}
use Rattle.box_eval.specs.declared.inputs.Start.{Start}
use Rattle.box_eval.specs.Evaluation.{Element, StyledNode, all_inputs, element_starts, is_boxed, style_within, styled, styled_node, styled_trees}
use Rattle.box_eval.specs.Starts.{no_starts}
use Rattle.merged_walk.specs.Evaluators.{input, inputs, past_all}
use Rattle.merged_walk.proofs.EntryLaws.{all-left, all-right, contains-first}
use Rattle.surroundings.specs.declared.surroundings.Surroundings.{Surroundings}
use Rattle.surroundings.specs.StyledEvaluators.{inside_node, past_styled, root_surroundings, styled_evaluator}
use Rattle.surroundings.specs.Surroundings.{surroundings_in}
use Rattle.surroundings.proofs.Asking.{inside-some, past-some}
use Rattle.surroundings.proofs.InputLaws.{inputs-document}
use Rattle.document_walk.proofs.StyledKeys.{styled_distinct}
use Rattle.edit_merge.specs.EditMerges.{is_element}
use Rattle.edit_work.specs.Inputs.{inputs_at}
use Rattle.edit_work.proofs.LawLemmas.{has-its}
use Rattle.styled_merge.specs.StyledMerges.{Starting, Styling}
use Rattle.touched_starts.proofs.NodeFacts.{OfNodes, Stands, same-boxed, same-within, stands-below, stands-beside, stands-top}

-- the inputs of an element that are found are among all
found-in : (all : List Inputs) (k : ℕ) (its : Inputs) → inputs_at all k ≡ Some its → Contains all its × (its.key ≡ k)
found-in [] k its at = absurd (cc at)
found-in (x ∷ xs) k its at = elim (chosen (x.key == k) _ _ _ at) [
  | inl here ↦
      let same : x ≡ its = same_Some x its here.1 in (
        subst (Contains (x ∷ xs)) same (contains-first x xs),
        ap (λ (inputs : Inputs). inputs.key) (sym same) ∙ eqb-true x.key k here.0,
      )
  | inr later ↦ let rest = found-in xs k its later.1 in (Contains-append_right (x ∷ []) xs its rest.0, rest.1)
]

found-some : (o : Option Inputs) (a : Surroundings) → option_map surroundings_in o ≡ Some a → (its : Inputs) × (o ≡ Some its)
found-some None a is = absurd (cc is)
found-some (Some its) a is = (its, refl)

-- the starts that a label has
abbrev said-starts : Option StyledNode → List Start
said-starts (Some (Element element)) = element.starts
said-starts _ = []

module _ (table : List CounterStyle) (style : Styling) (start : Starting) (tree : Forest (Keyed Node)) (distinct : HasDistinctKeys tree) where
  abbrev whole : Forest (Keyed StyledNode)
  whole = styled style start tree

  abbrev all : List Inputs
  all = all_inputs table whole

  once : HasDistinctKeys whole
  once = styled_distinct style start tree None distinct

  -- an element whose parent has a box has inputs, with the starts of its style
  abbrev pub HasInputs : Bool → Option Style → Keyed Node → Type 0
  HasInputs b p n = is_element n.label ≡ true → b ≡ true → (its : Inputs) × (inputs_at all n.key ≡ Some its) × (its.starts ≡ element_starts start n.key (style n.key p))

  abbrev IsHanded : ℕ × Option Surroundings → Type 0
  IsHanded x = (a : Surroundings) → x.1 ≡ Some a → option_map surroundings_in (inputs_at all x.0) ≡ Some a

  its-starts : (k : ℕ) (its : Inputs) (label : StyledNode) → inputs_at all k ≡ Some its → label_of whole k ≡ Some label → its.starts ≡ said-starts (Some label)
  its-starts k its label at is =
      let found = found-in all k its at in
      let there = (inputs-document table whole once).starts its found.0 in
      sym there.2 ∙ ap said-starts (sym there.1 ∙ ap (label_of whole) found.1 ∙ is)

  own-inputs : (k : ℕ) (l : Node) (p : Option Style) (i : Option Surroundings) → label_of whole k ≡ Some (styled_node style start p k l)
      → All IsHanded (input (styled_evaluator table) (record { key = k; label = styled_node style start p k l }) i) → is_element l ≡ true → is_some i ≡ true
      → (its : Inputs) × (inputs_at all k ≡ Some its) × (its.starts ≡ element_starts start k (style k p))
  own-inputs k (node.Text characters) p i is handed element some = absurd (cc element)
  own-inputs k (node.Element name attrs) p None is handed element some = absurd (cc some)
  own-inputs k (node.Element name attrs) p (Some a) is handed element some =
      let found = found-some (inputs_at all k) a (All-head IsHanded (k, Some a) [] handed a refl) in
      (found.0, found.1, its-starts k found.0 (styled_node style start p k (node.Element name attrs)) found.1 is)

  all-have : (g : Forest (Keyed Node)) (parent : Option ℕ) (earlier : List (Keyed StyledNode)) (p : Option Style) (i : Option Surroundings) → Stands whole parent earlier (styled_trees style start p g)
      → All IsHanded (inputs (styled_evaluator table) i (styled_trees style start p g)) → OfNodes style HasInputs (is_some i) p g
  all-have Empty parent earlier p i at handed = tt
  all-have (Tree n c r) parent earlier p i at handed =
      let node : Keyed StyledNode = record { key = n.key; label = styled_node style start p n.key n.label } in
      let inner : Option Style = style_within style start p n.key n.label in
      let children : Forest (Keyed StyledNode) = styled_trees style start inner c in
      let later : Forest (Keyed StyledNode) = styled_trees style start p r in
      let inside : Option Surroundings = inside_node table node i in
      let behind : Option Surroundings = past_all (styled_evaluator table) inside children in
      let next : Option Surroundings = past_styled table node i behind in
      let own : List (ℕ × Option Surroundings) = input (styled_evaluator table) node i in
      let below : List (ℕ × Option Surroundings) = inputs (styled_evaluator table) inside children in
      let beside : List (ℕ × Option Surroundings) = inputs (styled_evaluator table) next later in
      let rest = all-right IsHanded own (below ++ beside) handed in
      let under = all-have c (Some n.key) [] inner inside (stands-below whole once parent earlier node children later at children refl) (all-left IsHanded below beside rest) in
      let boxed : is_some inside ≡ is_boxed (is_some i) node.label = inside-some table n.key node.label i in (
        own-inputs n.key n.label p i (ap (option_map (λ (s : Spot StyledNode). s.label)) at) (all-left IsHanded own (below ++ beside) handed),
        subst (λ q. OfNodes style HasInputs (is_boxed (is_some i) (styled_node style no_starts p n.key n.label)) q c) (same-within style start no_starts p n.key n.label)
            (subst (λ b. OfNodes style HasInputs b inner c) (boxed ∙ same-boxed style start (is_some i) p n.key n.label) under),
        subst (λ b. OfNodes style HasInputs b p r) (past-some table node i behind)
            (all-have r parent (earlier ++ node ∷ []) p next (stands-beside whole once parent earlier node children later at later refl) (all-right IsHanded below beside rest)),
      )

  pub whole-has : OfNodes style HasInputs true None tree
  whole-has =
      all-have tree None [] None root_surroundings (stands-top whole whole refl)
      (has-its table table whole whole refl refl once (inputs-document table whole once))
