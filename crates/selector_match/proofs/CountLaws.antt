-- Counting the siblings of all children of an element at once.
use Rattle.std.proofs.Common.{◌≡◌, ◌<◌, ◌≤◌, ◌+◌, ◌∙◌, ℕ, nat_eq, Bool, true, false, cond, not, List, [], ◌∷◌, length, count_by, Option, Some, option_map, unwrap_or, refl, sym, ap, subst, inl, inr, arith, eqb-true}
use Rattle.std.specs.Borrow.{Bor}
use Rattle.std.specs.Map.{lookup}
use Rattle.std.specs.Prelude.{encode_utf8_all}
use Rattle.std.specs.Str.{bytes_eq, chars}
use Rattle.std.proofs.lemmas.Bool.{cases_Bool}
use Rattle.std.proofs.lemmas.List.Sums.{count_by-le-length, sum_by-cons}
use Rattle.std.proofs.lemmas.Option.{same_Some}
use Rattle.std.proofs.lemmas.Slice.Eq.{bytes_eq-Decides}
use Rattle.forest.specs.Forest.{Forest}
use Rattle.forest.specs.Keys.{Keyed}
use Rattle.forest.specs.Spots.{IsLive}
use Rattle.node_arena.specs.Nodes.{name_of}
use Rattle.node_arena.proofs.NodeLaws.{same-test}
use Rattle.plain_types.specs.declared.node.Node.{Node}
use Rattle.selector_match.specs.declared.kept.Count.{Count}
use Rattle.selector_match.specs.declared.kept.Kept.{Kept}
use Rattle.selector_match.specs.declared.side.Side.{Side}
use Rattle.selector_match.specs.declared.side.Side.TheVariants.{Earlier, Later}
use Rattle.selector_match.specs.Elements.{Element}
use Rattle.selector_match.specs.Positions.{is_counted, siblings}
use Rattle.selector_match.specs.Machinery.Kept.{AreCounts, AreRight, IsCount, kept_on, times_passed}
use Rattle.selector_match.specs.Machinery.Lookups.{IsElement, IsElementBeside, standing_at}
use Rattle.selector_match.specs.Machinery.Sides.{is_later}

-- What is kept.

pub found-right : (tree : Forest (Keyed Node)) (kept : Kept) (side : Side) (key : ℕ) (count : Count) → AreRight tree kept → Some count ≡ lookup (nat_eq key) (kept_on (is_later side) kept) → IsCount tree (is_later side) key count
found-right tree kept Earlier key count right found = right.0 key count (sym found)
found-right tree kept Later key count right found = right.1 key count (sym found)

-- a count more is kept
pub kept-more : (tree : Forest (Keyed Node)) (after : Bool) (old new : List (ℕ × Count)) (at : ℕ) (count : Count)
    → ((key : ℕ) → lookup (nat_eq key) new ≡ cond (nat_eq at key) (Some count) (lookup (nat_eq key) old)) → AreCounts tree after old → IsCount tree after at count → AreCounts tree after new
kept-more tree after old new at count puts right is key other found = elim (cases_Bool (nat_eq at key)) [
  | inl h ↦
      let same : count ≡ other = same_Some _ _ (sym (puts key ∙ ap (λ b. cond b (Some count) (lookup (nat_eq key) old)) h) ∙ found) in
      subst (λ k. IsCount tree after k other) (eqb-true at key h) (subst (IsCount tree after at) same is)
  | inr h ↦ right key other (sym (puts key ∙ ap (λ b. cond b (Some count) (lookup (nat_eq key) old)) h) ∙ found)
]

-- Names that were passed.

pub passed-more : (b : Bool) (there : Option ℕ) (times : ℕ) → (b ≡ true → unwrap_or there 0 ≡ times) → unwrap_or (cond b (Some (times + 1)) there) 0 ≡ unwrap_or there 0 + cond b 1 0
passed-more true there times same = ap (λ n. n + 1) (sym (same refl))
passed-more false there times same = omega arith

pub passed-same : (passed : List (Bor (List ℕ) × ℕ)) (name other : Bor (List ℕ)) → bytes_eq name.now other.now ≡ true → times_passed passed other ≡ times_passed passed name
passed-same passed name other e =
    ap (λ bytes. unwrap_or (lookup (λ (one : Bor (List ℕ)). bytes_eq bytes one.now) passed) 0) (sym ((bytes_eq-Decides name.now other.now).0 e))

-- Along the siblings, from the outermost of a side.

-- the bytes of a name
pub record IsWritten (bytes name : List ℕ) : Type 0 where
  pub read : chars bytes ≡ name
  pub written : bytes ≡ encode_utf8_all name

pub record HasPassed (tree : Forest (Keyed Node)) (after : Bool) (at all : ℕ) (passed : List (Bor (List ℕ) × ℕ)) (kept : List (ℕ × Count)) : Type 0 where
  pub live : IsLive tree at
  pub element : IsElement tree at
  pub all_is : all ≡ length (siblings after (standing_at tree at).level)
  pub passed_is : (other : Bor (List ℕ)) (name : List ℕ) → IsWritten other.now name → times_passed passed other ≡ count_by (λ (sibling : Element). bytes_eq sibling.name name) (siblings after (standing_at tree at).level)
  pub counts : AreCounts tree after kept

none-times : (passed : List (Bor (List ℕ) × ℕ)) (other : Bor (List ℕ)) → passed ≡ [] → times_passed passed other ≡ 0
none-times passed other none = ap (λ (entries : List (Bor (List ℕ) × ℕ)). times_passed entries other) none

pub passes-none : (tree : Forest (Keyed Node)) (after : Bool) (at : ℕ) (passed : List (Bor (List ℕ) × ℕ)) (kept : List (ℕ × Count)) → IsLive tree at → IsElement tree at → siblings after (standing_at tree at).level ≡ [] → passed ≡ [] → AreCounts tree after kept
    → HasPassed tree after at 0 passed kept
passes-none tree after at passed kept live element outermost none counts = record {
  live = live;
  element = element;
  all_is = sym (ap length outermost);
  passed_is = λ other name written. none-times passed other none ∙ sym (ap (count_by (λ (sibling : Element). bytes_eq sibling.name name)) outermost);
  counts = counts;
}

all-count : (element : Element) (others : List Element) → length others ≡ count_by (is_counted false element) others
all-count element [] = refl
all-count element (other ∷ others) = omega (arith, all-count element others, sum_by-cons (λ sibling. cond (is_counted false element sibling) 1 0) other others)

-- the name of the element that was come to
name-written : (tree : Forest (Keyed Node)) (at : ℕ) (name : Bor (List ℕ)) → Some (chars name.now) ≡ name_of tree at → Some name.now ≡ option_map encode_utf8_all (name_of tree at) → name_of tree at ≡ Some (standing_at tree at).level.element.name
    → IsWritten name.now (standing_at tree at).level.element.name
name-written tree at name read written is = record { read = same_Some _ _ (read ∙ is); written = same_Some _ _ (written ∙ ap (option_map encode_utf8_all) is) }

module _ (tree : Forest (Keyed Node)) (after : Bool) (at all : ℕ) (passed : List (Bor (List ℕ) × ℕ)) (kept : List (ℕ × Count)) (has : HasPassed tree after at all passed kept) (name : Bor (List ℕ))
    (read : Some (chars name.now) ≡ name_of tree at) (written : Some name.now ≡ option_map encode_utf8_all (name_of tree at)) (is : name_of tree at ≡ Some (standing_at tree at).level.element.name) where
  pub counts-here : (of_type : ℕ) → of_type ≡ times_passed passed name → IsCount tree after at (record { all = all; of_type = of_type })
  counts-here of_type times false = has.all_is ∙ all-count (standing_at tree at).level.element (siblings after (standing_at tree at).level)
  counts-here of_type times true = times ∙ has.passed_is name (standing_at tree at).level.element.name (name-written tree at name read written is)

  pub passed-few : times_passed passed name ≤ length (siblings after (standing_at tree at).level)
  passed-few =
      subst (λ n. n ≤ length (siblings after (standing_at tree at).level)) (sym (has.passed_is name (standing_at tree at).level.element.name (name-written tree at name read written is)))
      (count_by-le-length (λ (sibling : Element). bytes_eq sibling.name (standing_at tree at).level.element.name) (siblings after (standing_at tree at).level))

  not-not : (b : Bool) → not (not b) ≡ b
  not-not true = refl
  not-not false = refl

  -- the next sibling has this one behind it
  behind : (other : Bool) (next : ℕ) → other ≡ not after → IsElementBeside tree other at next → siblings after (standing_at tree next).level ≡ (standing_at tree at).level.element ∷ siblings after (standing_at tree at).level
  behind other next is beside = subst (λ side. siblings side (standing_at tree next).level ≡ (standing_at tree at).level.element ∷ siblings side (standing_at tree at).level) (ap not is ∙ not-not after) beside.beside.back

  -- and is passed less
  pub left-less : (other : Bool) (next : ℕ) → other ≡ not after → IsElementBeside tree other at next → length (siblings (not after) (standing_at tree next).level) < length (siblings (not after) (standing_at tree at).level)
  left-less other next is beside =
      let onward = subst (λ side. siblings side (standing_at tree at).level ≡ (standing_at tree next).level.element ∷ siblings side (standing_at tree next).level) is beside.beside.onward in
      omega (arith, ap length onward)

  pub passes-on : (other : Bool) (next : ℕ) (passed' : List (Bor (List ℕ) × ℕ)) (kept' : List (ℕ × Count)) → other ≡ not after → IsElementBeside tree other at next
      → ((one : Bor (List ℕ)) → times_passed passed' one ≡ times_passed passed one + cond (bytes_eq name.now one.now) 1 0) → AreCounts tree after kept' → HasPassed tree after next (all + 1) passed' kept'
  passes-on other next passed' kept' side beside more counts =
      let back = behind other next side beside in
      let mine = name-written tree at name read written is in
      let here = (standing_at tree at).level.element in
      let rest = siblings after (standing_at tree at).level in
      record {
        live = beside.live;
        element = beside.element;
        all_is = omega (arith, has.all_is, ap length back);
        passed_is = λ one text its.
            let test = λ (sibling : Element). bytes_eq sibling.name text in
            let same : bytes_eq name.now one.now ≡ bytes_eq here.name text = same-test name.now one.now here.name text mine.read mine.written its.read its.written in
            let before : times_passed passed one ≡ count_by test rest = has.passed_is one text its in
            let now : times_passed passed' one ≡ times_passed passed one + cond (bytes_eq here.name text) 1 0 = more one ∙ ap (λ b. times_passed passed one + cond b 1 0) same in
            let grown : count_by test (siblings after (standing_at tree next).level) ≡ cond (bytes_eq here.name text) 1 0 + count_by test rest = ap (count_by test) back ∙ sum_by-cons (λ sibling. cond (test sibling) 1 0) here rest in
            omega (arith, before, now, grown);
        counts = counts;
      }
