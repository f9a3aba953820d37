-- What the elements of a document do, as start_reach compares it, and that nothing else does anything. Throughout, p is
-- the style of the parent of a node, n a node, c what is under it, r what is after it, g trees, i what they are handed, k a key, and l a
-- label.
use Rattle.std.proofs.Common.{◌≡◌, ◌++◌, ◌∷◌, ℕ, Bool, true, false, cond, All, List, [], map, Option, Some, None, IsSome, refl, sym, ap, subst, ◌∙◌, arith}
use Rattle.std.specs.Prelude.{is_some, option_and_then, option_map}
use Rattle.std.proofs.lemmas.List.{map-append}
use Rattle.std.proofs.lemmas.List.Elements.{All-append, All-cons, All-map, All-nil, All-weaker}
use Rattle.forest.specs.Forest.{Forest, Empty, Tree}
use Rattle.forest.specs.Keys.{Keyed, HasDistinctKeys, times}
use Rattle.forest.specs.Spots.{Spot}
use Rattle.forest.proofs.SpotLaws.{spot-absent}
use Rattle.plain_types.specs.declared.counter_style.CounterStyle.{CounterStyle}
use Rattle.plain_types.specs.declared.node.Node.{Node}
use Rattle.plain_types.specs.declared.node.Node.TheVariants as node
use Rattle.plain_types.specs.declared.style.ElementStyle.{ElementStyle}
use Rattle.plain_types.specs.declared.style.Style.{Style}
use Rattle.node_arena.specs.Nodes.{name_of, node_name}
use Rattle.box_eval.specs.Evaluation.{StyledNode, style_within, styled, styled_node, styled_trees}
use Rattle.box_eval.specs.Starts.{no_starts}
use Rattle.merged_walk.specs.Entries.{Holds, first_at}
use Rattle.merged_walk.specs.Evaluators.{past_all}
use Rattle.surroundings.specs.declared.surroundings.Surroundings.{Surroundings}
use Rattle.surroundings.specs.declared.told.Told.{Told}
use Rattle.surroundings.specs.StyledEvaluators.{inside_node, past_styled, root_surroundings, styled_evaluator}
use Rattle.surroundings.specs.StyledEvaluators.{is_element as is_styled_element}
use Rattle.start_reach.specs.Deeds.{Deeds, deeds_in}
use Rattle.counter_index.specs.declared.deeds.CounterDeeds.{CounterDeeds}
use Rattle.counter_index.specs.declared.index.CounterIndex.{CounterIndex}
use Rattle.counter_index.specs.Documents.{KeepsDeeds, all_deeds, counter_deeds_in, counter_deeds_of}
use Rattle.counter_index.specs.Indexes.{deeds_at}
use Rattle.counter_index.specs.Told.{deeds_kept, deeds_told, told_without_starts}
use Rattle.counter_index.specs.Touched.{deeds_by}
use Rattle.counter_index.proofs.ListLemmas.{first-has}
use Rattle.counter_index.proofs.ToldLemmas.{all-told}
use Rattle.touched_starts.proofs.EntryCounts.{deeds-held}
use Rattle.touched_starts.proofs.NodeFacts.{Stands, stands-below, stands-beside, stands-top}

-- What elements do is part of what is kept of them.

abbrev deed : ℕ × CounterDeeds → ℕ × Deeds
deed entry = (entry.0, deeds_by entry.1)

own-deed : (k : ℕ) (its : CounterDeeds) (is : Bool) → map deed (cond is ((k, its) ∷ []) []) ≡ cond is ((k, deeds_by its) ∷ []) []
own-deed k its true = refl
own-deed k its false = refl

all-deeds : (table : List CounterStyle) (g : Forest (Keyed StyledNode)) (i : Option Surroundings) → map deed (counter_deeds_in table i g) ≡ deeds_in table i g
all-deeds table Empty i = refl
all-deeds table (Tree n c r) i =
    let inside : Option Surroundings = inside_node table n i in
    let behind : Option Surroundings = past_all (styled_evaluator table) inside c in
    let next : Option Surroundings = past_styled table n i behind in
    let own : List (ℕ × CounterDeeds) = cond (is_styled_element n.label) ((n.key, counter_deeds_of table n i behind) ∷ []) [] in
    let below = all-deeds table c inside in
    let here = own-deed n.key (counter_deeds_of table n i behind) (is_styled_element n.label) in
    let beside = all-deeds table r next in
    map-append deed (counter_deeds_in table inside c) (own ++ counter_deeds_in table next r)
    ∙ ap (λ all. map deed (counter_deeds_in table inside c) ++ all) (map-append deed own (counter_deeds_in table next r))
    ∙ (λ x. below x ++ (here x ++ beside x))

-- to give nodes styles changes no key
pub times-styled : (style : ℕ → Option Style → ElementStyle) (k : ℕ) (g : Forest (Keyed Node)) (p : Option Style) → times k (styled_trees style no_starts p g) ≡ times k g
times-styled style k Empty p = refl
times-styled style k (Tree n c r) p =
    omega (arith, times-styled style k c (style_within style no_starts p n.key n.label), times-styled style k r p)

module _ (table : List CounterStyle) (style : ℕ → Option Style → ElementStyle) (tree : Forest (Keyed Node)) (distinct : HasDistinctKeys tree) where
  -- Each entry is of an element of the document.

  abbrev IsNamed : ℕ × CounterDeeds → Type 0
  IsNamed entry = IsSome (name_of tree entry.0)

  pub stands-named : (parent : Option ℕ) (earlier : List (Keyed Node)) (n : Keyed Node) (c r : Forest (Keyed Node)) → Stands tree parent earlier (Tree n c r) → name_of tree n.key ≡ node_name n.label
  stands-named parent earlier n c r at = ap (λ (o : Option (Spot Node)). option_and_then node_name (option_map (λ (s : Spot Node). s.label) o)) at

  own-named : (k : ℕ) (l : Node) (p : Option Style) (its : CounterDeeds) → name_of tree k ≡ node_name l
      → All IsNamed (cond (is_styled_element (styled_node style no_starts p k l)) ((k, its) ∷ []) [])
  own-named k (node.Element name attrs) p its is = All-cons IsNamed (k, its) [] (ap (λ (o : Option (List ℕ)). is_some o) is) (All-nil IsNamed)
  own-named k (node.Text characters) p its is = All-nil IsNamed

  all-named : (g : Forest (Keyed Node)) (parent : Option ℕ) (earlier : List (Keyed Node)) (p : Option Style) (i : Option Surroundings) → Stands tree parent earlier g
      → All IsNamed (counter_deeds_in table i (styled_trees style no_starts p g))
  all-named Empty parent earlier p i at = All-nil IsNamed
  all-named (Tree n c r) parent earlier p i at =
      let node : Keyed StyledNode = record { key = n.key; label = styled_node style no_starts p n.key n.label } in
      let inner : Option Style = style_within style no_starts p n.key n.label in
      let children : Forest (Keyed StyledNode) = styled_trees style no_starts inner c in
      let inside : Option Surroundings = inside_node table node i in
      let behind : Option Surroundings = past_all (styled_evaluator table) inside children in
      let next : Option Surroundings = past_styled table node i behind in
      let below : List (ℕ × CounterDeeds) = counter_deeds_in table inside children in
      let own : List (ℕ × CounterDeeds) = cond (is_styled_element node.label) ((n.key, counter_deeds_of table node i behind) ∷ []) [] in
      let beside : List (ℕ × CounterDeeds) = counter_deeds_in table next (styled_trees style no_starts p r) in
      All-append IsNamed below (own ++ beside)
      (all-named c (Some n.key) [] inner inside (stands-below tree distinct parent earlier n c r at c refl))
      (All-append IsNamed own beside (own-named n.key n.label p (counter_deeds_of table node i behind) (stands-named parent earlier n c r at))
      (all-named r parent (earlier ++ n ∷ []) p next (stands-beside tree distinct parent earlier n c r at r refl)))

  abbrev pub does_at : ℕ → Option Deeds
  does_at k = option_map deeds_by (all_deeds table style tree k)

  pub holds-deeds : Holds does_at (deeds_in table root_surroundings (styled style no_starts tree))
  holds-deeds =
      let all : List (ℕ × CounterDeeds) = counter_deeds_in table root_surroundings (styled style no_starts tree) in
      subst (Holds does_at) (all-deeds table (styled style no_starts tree) root_surroundings)
      (All-map (λ (entry : ℕ × Deeds). does_at entry.0 ≡ Some entry.1) deed all
      (All-weaker (λ (entry : ℕ × CounterDeeds). all_deeds table style tree entry.0 ≡ Some entry.1) (λ (entry : ℕ × CounterDeeds). does_at entry.0 ≡ Some (deeds_by entry.1))
      (λ entry is. ap (option_map deeds_by) is) all (deeds-held table style tree distinct)))

  module _ (k : ℕ) where
    none-first : name_of tree k ≡ None → (first : Option CounterDeeds) → all_deeds table style tree k ≡ first → first ≡ None
    none-first none None at = refl
    none-first none (Some deeds) at =
        let named : IsSome (name_of tree k) =
        first-has IsNamed (counter_deeds_in table root_surroundings (styled style no_starts tree)) (all-named tree None [] None root_surroundings (stands-top tree tree refl)) k deeds at in
        absurd (let never : true ≡ false = sym named ∙ ap (λ (o : Option (List ℕ)). is_some o) none in cc never)

    -- a text does nothing, nor does what is not in the document
    pub nothing-done : name_of tree k ≡ None → all_deeds table style tree k ≡ None
    nothing-done none = none-first none (all_deeds table style tree k) refl

    pub others-do-nothing : times k tree ≡ 0 → all_deeds table style tree k ≡ None
    others-do-nothing none = nothing-done (ap (λ (o : Option (Spot Node)). option_and_then node_name (option_map (λ (s : Spot Node). s.label) o)) (spot-absent tree None [] k none))

    kept-of-none : (found : Option Told) → option_map deeds_told found ≡ None → option_and_then deeds_kept found ≡ None
    kept-of-none None none = refl
    kept-of-none (Some told) none = absurd (cc)

    -- so an index has nothing of either
    pub nothing-kept : (index : CounterIndex) → KeepsDeeds table style tree index → name_of tree k ≡ None → deeds_at index k ≡ None
    nothing-kept index keeps none = keeps k ∙ kept-of-none (first_at (told_without_starts table style tree) k) (sym (all-told table style tree k) ∙ nothing-done none)
