-- The work of an edit pays for both of its walks.
use Rattle.std.proofs.Common.{◌≡◌, ◌≢◌, ◌+◌, ◌*◌, ◌≤◌, ◌&&◌, ℕ, Bool, true, false, cond, List, [], ◌∷◌, ◌++◌, Option, Some, None, refl, sym, ap, subst, ◌∙◌, arith}
use Rattle.std.specs.Prelude.{filter, flat_map, not, option_map, sum_by}
use Rattle.std.proofs.lemmas.Bool.{or_left, or_right}
use Rattle.std.proofs.lemmas.List.Elements.{filter-append}
use Rattle.std.proofs.lemmas.List.Sums.{sum_by-append, sum_by-cons}
use Rattle.forest.specs.Forest.{Forest, Empty, Tree}
use Rattle.forest.specs.Keys.{Keyed}
use Rattle.plain_types.specs.declared.edit.Edit.{Edit}
use Rattle.plain_types.specs.declared.node.Node.{Node}
use Rattle.plain_types.specs.declared.sheet.Features.{Features}
use Rattle.box_eval.specs.declared.inputs.Inputs.{Inputs}
use Rattle.box_eval.specs.Evaluation.{StyledNode}
use Rattle.box_eval.specs.Starts.{no_starts}
use Rattle.generated_texts.specs.Documents.{agent_sheet, counter_styles, document_style}
use Rattle.merged_walk.specs.Counts.{anew_count, come_count, gone_count, led_count, place_count, weigh_places}
use Rattle.merged_walk.specs.Evaluators.{count_of_elements, inputs, weigh_elements}
use Rattle.merged_walk.specs.Laws.{Merges}
use Rattle.merged_walk.specs.Merges.{Merge, End, Kept, Turned, Gone, Come, new_of, old_of}
use Rattle.surroundings.specs.declared.surroundings.Surroundings.{Surroundings}
use Rattle.surroundings.specs.Surroundings.{is_same, surroundings_in}
use Rattle.surroundings.specs.StyledEvaluators.{root_surroundings, styled_evaluator}
use Rattle.surroundings.specs.StyledEvaluators.{is_element as is_styled_element}
use Rattle.surroundings.proofs.InputLaws.{inputs-document}
use Rattle.surroundings.proofs.SameLaws.{surroundings-Decides}
use Rattle.document_walk.proofs.StyledKeys.{styled_distinct}
use Rattle.edit_merge.specs.EditMerges.{is_element}
use Rattle.style_reach.specs.Reaches.{all_features}
use Rattle.style_reach.specs.declared.extent.Reach.TheVariants.{All as Everywhere}
use Rattle.styled_merge.specs.Laws.{HasShape}
use Rattle.styled_merge.specs.Stays.{HasSameBoxStarts, IsUnturned}
use Rattle.styled_merge.specs.StyledMerges.{Starting, Styling, styled_merge}
use Rattle.styled_merge.proofs.KeptLaws.{new-whole, unturned-whole}
use Rattle.styled_merge.proofs.ShapeLaws.{has-shape}
use Rattle.styled_merge.proofs.StopLemmas.{reaches_are_walkable}
use Rattle.edit_work.specs.Inputs.{are_other, differ_at, differs, inputs_at, is_same_inputs}
use Rattle.edit_work.specs.KeyedSources.{KeyedSource, author, child_elements, either, element_key, elements_in, inputs_with, is_among, own_starts, styled_with, table, weight}
use Rattle.edit_work.specs.Laws.{Leads}
use Rattle.edit_work.specs.Work.{around_places, differing, edit_reach, placed, walk_work}
use Rattle.edit_work.proofs.LawLemmas.{has-its, heavy, test_tells_inputs}
use Rattle.edit_work.proofs.ReachedLemmas.{paid}
use Rattle.start_reach.specs.Laws.{AreFew, AreTurned, BothWalksArePaid, OtherStartsDiffer, PlacesArePaid, SecondWalksAreFew, plain_merge, started_merge}
use Rattle.start_reach.specs.SecondMerges.{first_merge, turned_merge}
use Rattle.start_reach.specs.TurnedElements.{turned_where}
use Rattle.start_reach.proofs.CountLaws.{Has, LedDiffer, anew-few, led-few, listed, others}
use Rattle.start_reach.proofs.DifferLaws.{led-differ}
use Rattle.start_reach.proofs.LawLemmas.{author-stays, edits, edits_keep_starts, merges, plain-merges, same-styles, second_merges_are_started}
use Rattle.start_reach.proofs.TurnedLaws.{at_node, none-turned}

-- where another thing is handed, the inputs differ
other-inputs : (before now : Option Inputs) (a b : Surroundings) → option_map surroundings_in now ≡ Some a → option_map surroundings_in before ≡ Some b → is_same a b ≡ false → are_other before now ≡ true
other-inputs None None a b at was apart = absurd (cc at)
other-inputs (Some before) None a b at was apart = absurd (cc at)
other-inputs None (Some now) a b at was apart = absurd (cc was)
other-inputs (Some before) (Some now) a b at was apart =
    let now_is : surroundings_in now ≡ a = cc at in
    let before_is : surroundings_in before ≡ b = cc was in
    by-test (is_same_inputs before now) refl now_is before_is
  where
    by-test : (t : Bool) → is_same_inputs before now ≡ t → surroundings_in now ≡ a → surroundings_in before ≡ b → not t ≡ true
    by-test false test now_is before_is = refl
    by-test true test now_is before_is =
        let same : a ≡ b = sym now_is ∙ ap surroundings_in (sym ((test_tells_inputs before now).0 test)) ∙ before_is in
        let equal : is_same a b ≡ true = (surroundings-Decides a b).1 same in
        absurd (cc (equal, apart))

-- so they do where the starts are other
pub other_starts_differ : OtherStartsDiffer
other_starts_differ before after key was its had has other =
    or_right (differ_at (inputs_with before no_starts) (inputs_with after no_starts) key) (differ_at (inputs_with before (own_starts before)) (inputs_with after (own_starts after)) key)
    (ap (λ o. are_other o (inputs_at (inputs_with after (own_starts after)) key)) had ∙ ap (are_other (Some was)) has ∙ apart (is_same_inputs was its) refl)
  where
    apart : (t : Bool) → is_same_inputs was its ≡ t → not (is_same_inputs was its) ≡ true
    apart false test = ap not test
    apart true test = absurd (other (ap (λ (inputs : Inputs). inputs.starts) ((test_tells_inputs was its).0 test)))

-- The elements that differ are among those that the work lists.
module _ (w : ℕ → ℕ) (other : ℕ → Bool) where
  abbrev weighed : Forest (Keyed Node) → ℕ
  weighed g = weigh_elements is_element (λ k. cond (other k) (w k) 0) g

  sum-own : (n : Keyed Node) (b : Bool) → sum_by w (filter other (cond b (n.key ∷ []) [])) ≡ cond b (cond (other n.key) (w n.key) 0) 0
  sum-own n false = refl
  sum-own n true = elim (other n.key) as (λ d. sum_by w (cond d (n.key ∷ []) []) ≡ cond d (w n.key) 0) [ true ↦ omega arith | false ↦ refl ]

  sum-listed : (g : Forest (Keyed Node)) → sum_by w (filter other (elements_in g)) ≡ weighed g
  sum-listed Empty = refl
  sum-listed (Tree n c r) =
      let parts : filter other (elements_in (Tree n c r)) ≡ filter other (element_key n) ++ (filter other (elements_in c) ++ filter other (elements_in r)) =
      filter-append other (element_key n) (elements_in c ++ elements_in r) ∙ ap (λ keys. filter other (element_key n) ++ keys) (filter-append other (elements_in c) (elements_in r)) in
      let sum : sum_by w (filter other (elements_in (Tree n c r))) ≡ sum_by w (filter other (element_key n) ++ (filter other (elements_in c) ++ filter other (elements_in r))) = ap (sum_by w) parts in
      omega (
        arith,
        sum,
        sum_by-append w (filter other (element_key n)) (filter other (elements_in c) ++ filter other (elements_in r)),
        sum_by-append w (filter other (elements_in c)) (filter other (elements_in r)),
        sum-own n (is_element n.label),
        sum-listed c,
        sum-listed r,
      )

  sum-more : (more : ℕ → List ℕ) (keys : List ℕ) → sum_by w keys ≤ sum_by w (flat_map (λ key. key ∷ more key) keys)
  sum-more more [] = omega arith
  sum-more more (key ∷ keys) =
      omega (
        arith,
        sum_by-cons w key keys,
        sum_by-cons w key (more key ++ flat_map (λ key. key ∷ more key) keys),
        sum_by-append w (more key) (flat_map (λ key. key ∷ more key) keys),
        sum-more more keys,
      )

module _ (edit : Edit) (before after : KeyedSource) where
  differing-few : weighed (weight before after) (differs before after) after.tree ≤ sum_by (weight before after) (differing edit before after)
  unfolding differing
  differing-few =
      let w = weight before after in
      let keys = filter (differs before after) (elements_in after.tree) in
      omega (arith, sum-listed w (differs before after) after.tree, sum-more w (differs before after) (λ key. either (child_elements before.tree key) (child_elements after.tree key)) keys)

  walk-least :
      let w : ℕ → ℕ = weight before after in
      (sum_by w (placed edit before after) + sum_by w (differing edit before after) + sum_by w (around_places edit before after)) ≤ walk_work edit before after
  unfolding walk_work
  walk-least =
      let w = weight before after in
      let one = placed edit before after in
      let two = differing edit before after in
      let three = around_places edit before after in
      omega (arith, sum_by-append w one (two ++ three), sum_by-append w two three)

-- To turn elements lets no more go or come.
module _ (p : ℕ → Bool) (gone come : Forest (Keyed Node) → ℕ) where
  weigh-node : (b : Bool) (n : Keyed Node) (c r : Merge Node) → weigh_places gone come (at_node is_element b n c r) ≡ weigh_places gone come c + weigh_places gone come r
  weigh-node true n c r = refl
  weigh-node false n c r = refl

  weigh-turned : (m : Merge Node) → weigh_places gone come (turned_where is_element p m) ≡ weigh_places gone come m
  weigh-turned End = refl
  weigh-turned (Kept n c r) = omega (arith, weigh-node (is_element n.label && p n.key) n (turned_where is_element p c) (turned_where is_element p r), weigh-turned c, weigh-turned r)
  weigh-turned (Turned was n c r) = omega (arith, weigh-turned c, weigh-turned r)
  weigh-turned (Gone n c r) = omega (arith, weigh-turned r)
  weigh-turned (Come n c r) = omega (arith, weigh-turned r)

-- Both walks.
module _ (edit : Edit) (before after : KeyedSource) (leads : Leads edit before after) (somewhere : edit_reach edit before after ≢ Everywhere) where
  abbrev w : ℕ → ℕ
  w = weight before after

  abbrev its_heavy : (k : ℕ) → 1 ≤ w k
  its_heavy = heavy before after

  abbrev first : Merge Node
  first = first_merge edit before after

  abbrev looks : Features
  looks = all_features agent_sheet (author before)

  abbrev old : Styling
  old = document_style (author before) before.tree

  abbrev new : Styling
  new = document_style (author after) after.tree

  new-first : new_of first ≡ after.tree
  new-first = new-whole edit before.tree after.tree (edits edit before after leads) (merges edit before after leads) looks

  unturned : IsUnturned first
  unturned = unturned-whole edit before.tree after.tree (edits edit before after leads) (merges edit before after leads) looks

  -- what elements are handed, by their inputs
  abbrev handed : KeyedSource → Starting → ℕ → Option Surroundings
  handed source start k = option_map surroundings_in (inputs_at (inputs_with source start) k)

  has-now : (start : Starting) (h : Forest (Keyed StyledNode)) → h ≡ styled_with after start → Has (handed after start) (inputs (styled_evaluator (table after)) root_surroundings h)
  has-now start h is =
      let distinct = styled_distinct new start after.tree None leads.done.after.distinct in
      has-its (table after) (table after) (styled_with after start) h refl is distinct (inputs-document (table after) (styled_with after start) distinct)

  has-before : (start : Starting) (h : Forest (Keyed StyledNode)) → h ≡ styled_with before start → Has (handed before start) (inputs (styled_evaluator (table after)) root_surroundings h)
  has-before start h is =
      let distinct = styled_distinct old start before.tree None leads.done.before.distinct in
      has-its (table after) (table before) (styled_with before start) h (ap counter_styles (sym (author-stays edit before after leads somewhere))) is distinct
      (inputs-document (table before) (styled_with before start) distinct)

  abbrev Others : Starting → Starting → Type 0
  Others was_start start = (k : ℕ) (a b : Surroundings) → handed after start k ≡ Some a → handed before was_start k ≡ Some b → is_same a b ≡ false → differs before after k ≡ true

  plain-other : Others no_starts no_starts
  plain-other k a b at was apart =
      or_left (differ_at (inputs_with before no_starts) (inputs_with after no_starts) k) (differ_at (inputs_with before (own_starts before)) (inputs_with after (own_starts after)) k)
      (other-inputs (inputs_at (inputs_with before no_starts) k) (inputs_at (inputs_with after no_starts) k) a b at was apart)

  started-other : Others (own_starts before) (own_starts after)
  started-other k a b at was apart =
      or_right (differ_at (inputs_with before no_starts) (inputs_with after no_starts) k) (differ_at (inputs_with before (own_starts before)) (inputs_with after (own_starts after)) k)
      (other-inputs (inputs_at (inputs_with before (own_starts before)) k) (inputs_at (inputs_with after (own_starts after)) k) a b at was apart)

  abbrev IsLed : (p : ℕ → Bool) → Type 0
  IsLed p = LedDiffer w its_heavy (differs before after) p first

  plain : Merges (plain_merge edit before after) (styled_with before no_starts) (styled_with after no_starts)
  plain = plain-merges edit before after leads

  differ : (p : ℕ → Bool) → ((k : ℕ) → p k ≡ true → HasSameBoxStarts (own_starts before) (own_starts after) k → ⊥) → ((k : ℕ) → p k ≡ true → differs before after k ≡ true) → IsLed p
  differ p never they =
      led-differ w its_heavy (differs before after) p (table after) old new no_starts no_starts (handed after no_starts) (handed before no_starts) plain-other
      (HasSameBoxStarts (own_starts before) (own_starts after)) never they first None root_surroundings root_surroundings unturned
      (reaches_are_walkable edit before.tree after.tree leads.done looks).leaves refl (edits_keep_starts edit before after leads somewhere).skipped
      (has-now no_starts (new_of (plain_merge edit before after)) plain.new) (has-before no_starts (old_of (plain_merge edit before after)) plain.old)

  abbrev weighs : ℕ
  weighs = others w its_heavy (differs before after) (new_of first)

  few-differ : weighs ≤ sum_by w (differing edit before after)
  few-differ = subst (λ g. others w its_heavy (differs before after) g ≤ sum_by w (differing edit before after)) (sym new-first) (differing-few edit before after)

  -- the first walk
  plain-anew : anew_count (styled_evaluator (table after)) root_surroundings root_surroundings (plain_merge edit before after) ≤ led_count first + weighs
  plain-anew =
      let none = none-turned is_element first in
      let was = turned_where is_element (λ _. false) first in
      subst (λ m. anew_count (styled_evaluator (table after)) root_surroundings root_surroundings (styled_merge old new no_starts no_starts None m) ≤ led_count first + weighs) none
      (anew-few w its_heavy (differs before after) (λ _. false) (table after) old new no_starts no_starts (handed after no_starts) (handed before no_starts) plain-other first None
      (differ (λ _. false) (λ k it. absurd (cc it)) (λ k it. absurd (cc it))) (same-styles edit before after leads) root_surroundings root_surroundings refl
      (has-now no_starts (new_of (styled_merge old new no_starts no_starts None was)) (ap (λ m. new_of (styled_merge old new no_starts no_starts None m)) none ∙ plain.new))
      (has-before no_starts (old_of (styled_merge old new no_starts no_starts None was)) (ap (λ m. old_of (styled_merge old new no_starts no_starts None m)) none ∙ plain.old)))

  module _ (keys : List ℕ) (turned : AreTurned edit before after keys) where
    abbrev second : Merge StyledNode
    second = started_merge edit before after keys

    their : IsLed (is_among keys)
    their =
        differ (is_among keys) (λ k it. listed (λ key. HasSameBoxStarts (own_starts before) (own_starts after) key → ⊥) keys k turned.other it)
        (λ k it. listed (λ key. differs before after key ≡ true) keys k turned.differ it)

    shape : HasShape second (turned_merge edit before after (is_among keys))
    shape = has-shape old new (own_starts before) (own_starts after) None (turned_merge edit before after (is_among keys))

    plain-shape : HasShape (plain_merge edit before after) first
    plain-shape = has-shape old new no_starts no_starts None first

    started : Merges second (styled_with before (own_starts before)) (styled_with after (own_starts after))
    started = second_merges_are_started edit before after leads (is_among keys) (own_starts before) (own_starts after) turned.kept

    pub are-few : AreFew edit before after keys
    are-few = record {
      led = omega (arith, shape.led, plain-shape.led, led-few w its_heavy (differs before after) (is_among keys) first their, few-differ);
      anew =
          omega (
            arith,
            plain-shape.led,
            anew-few w its_heavy (differs before after) (is_among keys) (table after) old new (own_starts before) (own_starts after) (handed after (own_starts after)) (handed before (own_starts before)) started-other
                first None their (same-styles edit before after leads) root_surroundings root_surroundings refl
                (has-now (own_starts after) (new_of second) started.new) (has-before (own_starts before) (old_of second) started.old),
            few-differ,
          );
      come = shape.come ∙ weigh-turned (is_among keys) (λ _. 0) (count_of_elements is_element) first ∙ sym plain-shape.come;
      gone = shape.gone ∙ weigh-turned (is_among keys) (count_of_elements is_element) (λ _. 0) first ∙ sym plain-shape.gone;
      places = shape.places ∙ weigh-turned (is_among keys) (λ _. 1) (λ _. 1) first ∙ sym plain-shape.places;
    }

pub second_walks_are_few : SecondWalksAreFew
second_walks_are_few edit before after leads somewhere keys turned = are-few edit before after leads somewhere keys turned

-- the sum, in numbers
pays : (anew led later_anew later_led come gone places placed differing around work : ℕ) → anew ≤ led + differing
    → later_anew ≤ led + differing → later_led ≤ led + differing → (led + come + gone) ≤ placed + around → 4 * places ≤ 20 + 2 * (placed + around) → (placed + differing + around) ≤ work
    → (((9 * anew + 6 * come + 2 * places + 2) + 2 * led) + ((9 * later_anew + 6 * come + 2 * places + 2) + 2 * later_led) + gone) ≤ 24 * (work + 1)
pays anew led later_anew later_led come gone places placed differing around work h1 h2 h3 h4 h5 h6 = omega arith

-- the places of an edit
pub places_are_paid : PlacesArePaid
places_are_paid edit before after leads somewhere =
    let its = paid inputs-document edit before after leads somewhere in
    record { few = its.few; places = its.places }

pub both_walks_are_paid : BothWalksArePaid
both_walks_are_paid edit before after leads somewhere keys turned =
    let its = places_are_paid edit before after leads somewhere in
    let w = weight before after in
    let e = styled_evaluator (table after) in
    let plain = plain_merge edit before after in
    let second = started_merge edit before after keys in
    let few = are-few edit before after leads somewhere keys turned in
    let shape = plain-shape edit before after leads somewhere keys turned in
    let anew : anew_count e root_surroundings root_surroundings plain ≤ led_count plain + sum_by w (differing edit before after) =
    omega (arith, plain-anew edit before after leads somewhere, few-differ edit before after leads somewhere, shape.led) in
    let sum =
    pays (anew_count e root_surroundings root_surroundings plain) (led_count plain) (anew_count e root_surroundings root_surroundings second) (led_count second)
    (come_count is_styled_element plain) (gone_count is_styled_element plain) (place_count plain) (sum_by w (placed edit before after))
    (sum_by w (differing edit before after)) (sum_by w (around_places edit before after)) (walk_work edit before after)
    anew few.anew few.led
    (omega (arith, shape.led, shape.come, shape.gone, its.few)) (omega (arith, shape.places, its.places)) (walk-least edit before after) in
    omega (arith, sum, few.come, few.places)
