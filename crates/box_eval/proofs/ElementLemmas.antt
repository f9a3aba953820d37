-- The boxes of one element.
use Rattle.std.proofs.Common.{◌≡◌, ◌++◌, ◌∷◌, ℕ, List, [], Bool, true, false, cond, Option, Some, None, refl, sym, ap, subst, ◌∙◌, inl, inr, ℤ}
use Rattle.std.proofs.lemmas.Bool.{cases_Bool}
use Rattle.std.specs.Prelude.{unwrap_or}
use Rattle.std.specs.List.{AllByRecursion, list_any}
use Rattle.plain_types.specs.declared.box_id.BoxId.{BoxId}
use Rattle.plain_types.specs.declared.box_kind.BoxKind.{BoxKind}
use Rattle.plain_types.specs.declared.box_kind.BoxKind.TheVariants as kind
use Rattle.plain_types.specs.declared.counter.Counter.{Counter}
use Rattle.plain_types.specs.declared.counter_style.CounterStyle.{CounterStyle}
use Rattle.plain_types.specs.declared.style.ElementStyle.{ElementStyle}
use Rattle.plain_types.specs.declared.style.Style.{Style}
use Rattle.counter_sets.specs.Sets.{inherited, is_by_peer, is_missing_in, is_same_box}
use Rattle.box_eval.specs.declared.counting.Counted.{Counted}
use Rattle.box_eval.specs.declared.formed.Formed.{Formed}
use Rattle.box_eval.specs.declared.inputs.Inputs.{Inputs}
use Rattle.box_eval.specs.declared.made.Made.{Made}
use Rattle.box_eval.specs.Boxes.{box_of, has_items, has_marker, has_pseudo_box, is_list_item}
use Rattle.box_eval.specs.Elements.{Handed, Replacing, Styled, by_parent, by_peers, content_of, default_content, formed_box, inherited_by, is_replaced_in, items_of, marker_content, marker_formed, no_box, own_counted, past_formed, pseudo_counted, pseudo_formed}
use Rattle.box_eval.specs.Scopes.{AreNew, HasNoneOf, first_boxes, last_boxes}
use Rattle.box_eval.proofs.Agreement.{Agrees, AllAgree, inherited_agrees, steady}
use Rattle.box_eval.proofs.BoxLemmas.{box_self, creator_prop}
use Rattle.box_eval.proofs.ContentLemmas.{content_same}
use Rattle.box_eval.proofs.CountedLemmas.{counted_same}
use Rattle.box_eval.proofs.KeptLemmas.{counted_good, generated_good, inherited_good}
use Rattle.box_eval.proofs.ListLemmas.{any_back, any_front, each_imp, or_none, or_parts}

-- Which boxes created no counter of the inputs.

pub cond_some : {A : Type 0} (x y : A) (b : Bool) → Some x ≡ cond b (Some y) None → b ≡ true
cond_some x y true e = refl
cond_some x y false e = absurd (cc)

pub cond_none : {A : Type 0} (y : A) (b : Bool) → None ≡ cond b (Some y) None → b ≡ false
cond_none y true e = absurd (cc)
cond_none y false e = refl

-- what is handed on behind a pseudo-element has the depth behind it
pub past_depth : (box : BoxId) (made : Option Made) (depth : ℕ) (handed : Handed) → (past_formed box (record { made = made; depth = depth }) handed).depth ≡ depth
past_depth box None depth handed = refl
past_depth box (Some made) depth handed = refl

fewer : (boxes some : List BoxId) (inputs : Inputs) → ((creator : BoxId) → list_any (is_same_box creator) boxes ≡ false → list_any (is_same_box creator) some ≡ false) → AreNew boxes inputs → AreNew some inputs
fewer boxes some inputs less new = record {
  parent = each_imp (λ counter. is_by_peer boxes counter ≡ false) (λ counter. is_by_peer some counter ≡ false) (λ counter h. less counter.creator h) inputs.parent new.parent;
  sibling = each_imp (λ counter. is_by_peer boxes counter ≡ false) (λ counter. is_by_peer some counter ≡ false) (λ counter h. less counter.creator h) (unwrap_or inputs.sibling []) new.sibling;
}

module _ (key : ℕ) (style : ElementStyle) (inputs : Inputs) where
  pub new_element : AreNew (first_boxes key style) inputs → AreNew (box_of key kind.Element ∷ []) inputs
  new_element new =
      fewer (first_boxes key style) (box_of key kind.Element ∷ []) inputs
      (λ creator h. or_none (is_same_box creator (box_of key kind.Element)) false (or_parts (is_same_box creator (box_of key kind.Element)) _ h).0 refl) new

  marker_list : List BoxId
  marker_list = cond (has_marker style) (box_of key kind.Marker ∷ []) []

  before_list : List BoxId
  before_list = cond (has_pseudo_box style.before) (box_of key kind.Before ∷ []) []

  pub new_marker : has_marker style ≡ true → AreNew (first_boxes key style) inputs → AreNew (box_of key kind.Marker ∷ []) inputs
  unfolding marker_list before_list
  new_marker has new =
      let listed : marker_list ≡ box_of key kind.Marker ∷ [] = ap (λ b. cond b (box_of key kind.Marker ∷ []) []) has in
      subst (λ boxes. AreNew boxes inputs) listed
      (fewer (first_boxes key style) marker_list inputs
      (λ creator h. any_front (is_same_box creator) marker_list before_list (or_parts (is_same_box creator (box_of key kind.Element)) (list_any (is_same_box creator) (marker_list ++ before_list)) h).1) new)

  pub new_before : has_pseudo_box style.before ≡ true → AreNew (first_boxes key style) inputs → AreNew (box_of key kind.Before ∷ []) inputs
  unfolding marker_list before_list
  new_before has new =
      let listed : before_list ≡ box_of key kind.Before ∷ [] = ap (λ b. cond b (box_of key kind.Before ∷ []) []) has in
      subst (λ boxes. AreNew boxes inputs) listed
      (fewer (first_boxes key style) before_list inputs
      (λ creator h. any_back (is_same_box creator) marker_list before_list (or_parts (is_same_box creator (box_of key kind.Element)) (list_any (is_same_box creator) (marker_list ++ before_list)) h).1) new)

  pub new_after : has_pseudo_box style.after ≡ true → AreNew (last_boxes key style) inputs → AreNew (box_of key kind.After ∷ []) inputs
  new_after has new = subst (λ boxes. AreNew boxes inputs) (ap (λ b. cond b (box_of key kind.After ∷ []) []) has) new

-- a box that created no counter of the inputs created none that is inherited
pub new_inherited : (box : BoxId) (inputs : Inputs) → AreNew (box ∷ []) inputs → HasNoneOf (box ∷ []) (inherited inputs.parent inputs.sibling inputs.preceding)
new_inherited box inputs new =
    let Good : Counter → Type 0 = λ counter. is_by_peer (box ∷ []) counter ≡ false in
    inherited_good Good (λ counter value h. h) inputs.parent inputs.sibling inputs.preceding new.parent
    (each_imp Good (λ counter. is_missing_in inputs.parent counter ≡ true → Good counter) (λ counter h e. h) (unwrap_or inputs.sibling []) new.sibling)

-- What holds of a made box's counters.

abbrev pub Holds : (List Counter → Type 0) → Option Made → Type 0
Holds P None = Unit {0}
Holds P (Some made) = P made.set

pub holds_if : (P : List Counter → Type 0) (b : Bool) (made other : Formed) → (b ≡ true → Holds P made.made) → (b ≡ false → Holds P other.made) → Holds P (cond b made other).made
holds_if P true made other h k = h refl
holds_if P false made other h k = k refl

same_if : {A : Type 0} (b : Bool) (x y z : A) → (b ≡ true → x ≡ y) → cond b x z ≡ cond b y z
same_if true x y z h = h refl
same_if false x y z h = refl

-- What is good of each counter that an element is handed, and of those that its boxes create, is good of all.
module _ (Good : Counter → Type 0) (steady : (counter : Counter) (value : ℤ) → Good counter → Good (record counter { value = value }))
    (table : List CounterStyle) (replacing : Replacing) (key : ℕ) (element : Styled) where
  abbrev pub IsHandedGood : Handed → Type 0
  IsHandedGood handed = AllByRecursion Good (inherited_by handed)

  abbrev pub CreatesGood : BoxKind → Type 0
  CreatesGood kind = (counter : Counter) → counter.creator ≡ box_of key kind → Good counter

  pub own_good : (handed : Handed) → IsHandedGood handed → CreatesGood kind.Element → AllByRecursion Good (own_counted table replacing key element handed).set
  own_good handed h mine =
      counted_good Good steady (is_replaced_in table replacing key element kind.Element handed) (box_of key kind.Element) mine element.starts
      (is_list_item element.style.own.display) element.style.own (inherited_by handed) h

  content_good : (handed : Handed) (b : Bool) → IsHandedGood handed → CreatesGood kind.Marker
      → AllByRecursion Good (cond b (content_of table replacing key element kind.Marker element.style.marker (inherited_by handed) handed) (default_content table element.style.own.list_type (inherited_by handed) handed.depth)).set
  content_good handed true h mine =
      generated_good Good steady (is_replaced_in table replacing key element kind.Marker handed) (box_of key kind.Marker) mine table
      (items_of element.style.marker.content) element.attrs element.style.marker.quotes (inherited_by handed) handed.depth h
  content_good handed false h mine = h

  pub marker_good : (handed : Handed) → IsHandedGood handed → (has_marker element.style ≡ true → CreatesGood kind.Marker) → Holds (AllByRecursion Good) (marker_formed table replacing key element handed).made
  marker_good handed h mine =
      holds_if (AllByRecursion Good) (has_marker element.style) (formed_box [] (marker_content table replacing key element handed)) (no_box handed.depth)
      (λ has. content_good handed (has_items element.style.marker.content) h (mine has)) (λ _. tt)

  pub pseudo_good : (kind : BoxKind) (style : Style) (handed : Handed) → IsHandedGood handed → (has_pseudo_box style ≡ true → CreatesGood kind) → Holds (AllByRecursion Good) (pseudo_formed table replacing key element kind style handed).made
  pseudo_good kind style handed h mine =
      let own = pseudo_counted table replacing key element kind style handed in
      holds_if (AllByRecursion Good) (has_pseudo_box style) (formed_box own.changes (content_of table replacing key element kind style own.set handed)) (no_box handed.depth)
      (λ has.
      generated_good Good steady (is_replaced_in table replacing key element kind handed) (box_of key kind) (mine has) table
      (items_of style.content) element.attrs style.quotes own.set handed.depth
      (counted_good Good steady (is_replaced_in table replacing key element kind handed) (box_of key kind) (mine has) element.starts false style (inherited_by handed) h))
      (λ _. tt)

-- A box that is ready: no counter of its parent's is by its peers, and what the sibling before has besides is.
pub record IsReady (box : BoxId) (handed : Handed) : Type 0 where
  pub parent : HasNoneOf (box ∷ handed.earlier) handed.parent
  pub sibling : AllByRecursion (λ counter. is_missing_in handed.parent counter ≡ true → is_by_peer (box ∷ handed.earlier) counter ≡ true) (unwrap_or handed.sibling [])

module _ (box : BoxId) (handed : Handed) (ready : IsReady box handed) where
  pub ready_agrees : AllAgree (box ∷ handed.earlier) handed.parent (inherited_by handed)
  ready_agrees = inherited_agrees (box ∷ handed.earlier) handed.parent handed.sibling handed.preceding ready.parent ready.sibling

  by_itself : (counter : Counter) → counter.creator ≡ box → is_by_peer (box ∷ handed.earlier) counter ≡ true
  by_itself counter e = ap (λ creator. list_any (is_same_box creator) (box ∷ handed.earlier)) e ∙ rw (box_self box) refl

  pub ready_mine : (counter : Counter) → counter.creator ≡ box → Agrees (box ∷ handed.earlier) handed.parent counter
  ready_mine counter e = elim (cases_Bool (is_missing_in handed.parent counter)) [
    | inl missing ↦ by_itself counter e ∙ sym missing
    | inr there ↦
        let none = creator_prop (λ creator. list_any (is_same_box creator) (box ∷ handed.earlier) ≡ false) handed.parent counter ready.parent there in
        let some = by_itself counter e in
        absurd (cc)
  ]

-- By peers and by the parent's set the boxes are the same.
module _ (table : List CounterStyle) (key : ℕ) (element : Styled) where
  pub own_same : (handed : Handed) → IsReady (box_of key kind.Element) handed → own_counted table by_peers key element handed ≡ own_counted table by_parent key element handed
  own_same handed ready =
      let box = box_of key kind.Element in
      counted_same (box ∷ handed.earlier) handed.parent box (ready_mine box handed ready) element.starts (is_list_item element.style.own.display) element.style.own (inherited_by handed) (ready_agrees box handed ready)

  pub own_agrees : (handed : Handed) → IsReady (box_of key kind.Element) handed → AllAgree (box_of key kind.Element ∷ handed.earlier) handed.parent (own_counted table by_parent key element handed).set
  own_agrees handed ready =
      let box = box_of key kind.Element in
      own_good (Agrees (box ∷ handed.earlier) handed.parent) (steady (box ∷ handed.earlier) handed.parent) table by_parent key element handed (ready_agrees box handed ready) (ready_mine box handed ready)

  pub marker_same : (handed : Handed) → (has_marker element.style ≡ true → IsReady (box_of key kind.Marker) handed) → marker_formed table by_peers key element handed ≡ marker_formed table by_parent key element handed
  marker_same handed ready =
      let box = box_of key kind.Marker in
      let own = inherited_by handed in
      same_if (has_marker element.style) (formed_box [] (marker_content table by_peers key element handed)) (formed_box [] (marker_content table by_parent key element handed)) (no_box handed.depth)
      (λ has.
      ap (λ content. formed_box [] (cond (has_items element.style.marker.content) content (default_content table element.style.own.list_type own handed.depth)))
      (content_same (box ∷ handed.earlier) handed.parent box (ready_mine box handed (ready has)) table element.attrs element.style.marker.quotes (items_of element.style.marker.content) own handed.depth (ready_agrees box handed (ready has))))

  pub marker_agrees : (handed : Handed) → (has_marker element.style ≡ true → IsReady (box_of key kind.Marker) handed) → Holds (AllAgree (box_of key kind.Marker ∷ handed.earlier) handed.parent) (marker_formed table by_parent key element handed).made
  marker_agrees handed ready =
      let box = box_of key kind.Marker in
      holds_if (AllAgree (box ∷ handed.earlier) handed.parent) (has_marker element.style) (formed_box [] (marker_content table by_parent key element handed)) (no_box handed.depth)
      (λ has.
      content_good (Agrees (box ∷ handed.earlier) handed.parent) (steady (box ∷ handed.earlier) handed.parent) table by_parent key element handed (has_items element.style.marker.content)
      (ready_agrees box handed (ready has)) (ready_mine box handed (ready has)))
      (λ _. tt)

  pub pseudo_same : (kind : BoxKind) (style : Style) (handed : Handed) → (has_pseudo_box style ≡ true → IsReady (box_of key kind) handed) → pseudo_formed table by_peers key element kind style handed ≡ pseudo_formed table by_parent key element kind style handed
  pseudo_same kind style handed ready =
      let box = box_of key kind in
      let peers = box ∷ handed.earlier in
      let form : Replacing → Counted → Formed = λ replacing own. formed_box own.changes (content_of table replacing key element kind style own.set handed) in
      let mine = pseudo_counted table by_parent key element kind style handed in
      same_if (has_pseudo_box style) (form by_peers (pseudo_counted table by_peers key element kind style handed)) (form by_parent mine) (no_box handed.depth)
      (λ has.
      let good = ready_mine box handed (ready has) in
      let agrees = ready_agrees box handed (ready has) in
      ap (form by_peers) (counted_same peers handed.parent box good element.starts false style (inherited_by handed) agrees)
      ∙ ap (formed_box mine.changes)
      (content_same peers handed.parent box good table element.attrs style.quotes (items_of style.content) mine.set handed.depth
      (counted_good (Agrees peers handed.parent) (steady peers handed.parent) (is_missing_in handed.parent) box good element.starts false style (inherited_by handed) agrees)))

  pub pseudo_agrees : (kind : BoxKind) (style : Style) (handed : Handed) → (has_pseudo_box style ≡ true → IsReady (box_of key kind) handed) → Holds (AllAgree (box_of key kind ∷ handed.earlier) handed.parent) (pseudo_formed table by_parent key element kind style handed).made
  pseudo_agrees kind style handed ready =
      let box = box_of key kind in
      let peers = box ∷ handed.earlier in
      let own = pseudo_counted table by_parent key element kind style handed in
      holds_if (AllAgree peers handed.parent) (has_pseudo_box style) (formed_box own.changes (content_of table by_parent key element kind style own.set handed)) (no_box handed.depth)
      (λ has.
      generated_good (Agrees peers handed.parent) (steady peers handed.parent) (is_missing_in handed.parent) box (ready_mine box handed (ready has)) table
      (items_of style.content) element.attrs style.quotes own.set handed.depth
      (counted_good (Agrees peers handed.parent) (steady peers handed.parent) (is_missing_in handed.parent) box (ready_mine box handed (ready has)) element.starts false style (inherited_by handed) (ready_agrees box handed (ready has))))
      (λ _. tt)
