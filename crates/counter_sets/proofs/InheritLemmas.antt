-- What boxes inherit, found in a list.
use Rattle.std.proofs.Common.{◌≡◌, ◌≢◌, ◌+◌, ◌≤◌, ◌∷◌, ◌++◌, ◌&&◌, ◌||◌, ◌==◌, ◌<◌, ℕ, zero, suc, ℤ, List, [], Bool, true, false, cond, not, Option, Some, None, length, take, drop, map, get_or, refl, sym, subst, ap, ◌∙◌, arith, inl, inr, true≢false, append_assoc}
use Rattle.std.specs.Prelude.{◌-◌, IfNone, IsSomeAnd, filter, find, nat_le, option_copied, slice_get}
use Rattle.std.specs.Slice.{IsItemAt}
use Rattle.std.proofs.lemmas.Option.{slice_get_past, slice_get_read}
use denote.Ref.{Bor}
use Rattle.std.specs.Cmp.Lexicographic.{nat_list_eq_equiv}
use Rattle.std.specs.List.{list_any}
use Rattle.std.proofs.lemmas.Bool.{cases_Bool, cases_lt}
use Rattle.std.proofs.lemmas.Bool.Decides.{Decides-eqb, nat_tests}
use Rattle.std.proofs.lemmas.List.{append_cancel_left, append-nil, drop-drop, map-append, take_more, take-append-drop}
use Rattle.std.proofs.lemmas.List.Elements.{filter-append}
use Rattle.plain_types.specs.declared.box_id.BoxId.{BoxId}
use Rattle.plain_types.specs.declared.box_kind.BoxKind.{BoxKind}
use Rattle.plain_types.specs.declared.box_kind.BoxKind.TheVariants.{Element, Marker, Before, After}
use Rattle.plain_types.specs.declared.counter.Counter.{Counter}
use Rattle.counter_sets.specs.Sets.{AreDistinct, change_at, is_missing_in, is_named, is_same, is_same_box, is_same_kind, with_value}
use Rattle.counter_sets.proofs.DistinctLemmas.{AreLackedBy, lacked_first, lacked_rest, lacking, same_symm}

-- Counters that are the same as one are the same as each other.

and_left : (a b : Bool) → (a && b) ≡ true → a ≡ true
and_left true b h = refl
and_left false b h = h

and_right : (a b : Bool) → (a && b) ≡ true → b ≡ true
and_right true b h = h
and_right false b h = absurd (true≢false (sym h))

kind_is : (a b : BoxKind) → is_same_kind a b ≡ true → a ≡ b
kind_is Element Element h = refl
kind_is Marker Marker h = refl
kind_is Before Before h = refl
kind_is After After h = refl
kind_is _ _ h = absurd (true≢false (sym h))

box_is : (a b : BoxId) → is_same_box a b ≡ true → a ≡ b
box_is a b h =
    let keys : a.key ≡ b.key = (Decides-eqb a.key b.key).0 (and_left (a.key == b.key) (is_same_kind a.kind b.kind) h) in
    let kinds : a.kind ≡ b.kind = kind_is a.kind b.kind (and_right (a.key == b.key) (is_same_kind a.kind b.kind) h) in
    ap (λ (key : ℕ). record a { key = key }) keys ∙ ap (λ (kind : BoxKind). record b { kind = kind }) kinds

same_alike : (a b c : Counter) → is_same a b ≡ true → is_same b c ≡ is_same a c
same_alike a b c h =
    ap (λ t. t && is_same_box b.creator c.creator) (sym (nat_list_eq_equiv.congr a.name b.name c.name (and_left (is_named a.name b) (is_same_box a.creator b.creator) h)))
    ∙ ap (λ (creator : BoxId). is_named a.name c && is_same_box creator c.creator) (sym (box_is a.creator b.creator (and_right (is_named a.name b) (is_same_box a.creator b.creator) h)))

any_alike : (a b : Counter) (set : List Counter) → is_same a b ≡ true → list_any (is_same b) set ≡ list_any (is_same a) set
any_alike a b [] h = refl
any_alike a b (c ∷ set) h = ap (λ t. t || list_any (is_same b) set) (same_alike a b c h) ∙ ap (λ t. is_same a c || t) (any_alike a b set h)

-- A counter that is looked for at a place first.

pub any_there : (test : Counter → Bool) (set : List Counter) (place : ℕ) → IsSomeAnd (slice_get set place) (λ other. test other ≡ true) → list_any test set ≡ true
any_there test [] place there = absurd there
any_there test (c ∷ set) zero there = rw there refl
any_there test (c ∷ set) (suc place) there = elim (cases_Bool (test c)) [
  | inl e ↦ rw e refl
  | inr e ↦ rw e (any_there test set place there)
]

pub found_there : (counter : Counter) (set : List Counter) (place : ℕ) → AreDistinct set → IsSomeAnd (slice_get set place) (λ other. is_same counter other ≡ true) → slice_get set place ≡ find (is_same counter) set
found_there counter [] place h there = absurd there
found_there counter (c ∷ set) zero h there = rw there refl
found_there counter (c ∷ set) (suc place) h there = elim (cases_Bool (is_same counter c)) [
  | inl e ↦ absurd (true≢false (sym (any_alike counter c set e ∙ any_there (is_same counter) set place there) ∙ lacking (list_any (is_same c) set) h.0))
  | inr e ↦ rw e (found_there counter set place h.1 there)
]

-- The sibling's counters past those of the parent.

any_at : (test : Counter → Bool) (set : List Counter) (place : ℕ) (counter : Counter) → place < length set → counter ≡ get_or set place counter → test counter ≡ true → list_any test set ≡ true
any_at test [] place counter below read h = absurd (omega (arith, below))
any_at test (c ∷ set) zero counter below read h = let e : test c ≡ true = ap test (sym read) ∙ h in rw e refl
any_at test (c ∷ set) (suc place) counter below read h = elim (cases_Bool (test c)) [
  | inl e ↦ rw e refl
  | inr e ↦ rw e (any_at test set place counter (omega (arith, below)) read h)
]

lacked_push : (set counters : List Counter) (counter : Counter) → AreLackedBy set counters → list_any (is_same counter) set ≡ false → AreLackedBy set (counters ++ counter ∷ [])
lacked_push set [] counter h l = (l, tt)
lacked_push set (c ∷ counters) counter h l = (h.0, lacked_push set counters counter h.1 l)

all_kept : (parent past : List Counter) → AreLackedBy past parent → filter (is_missing_in parent) past ≡ past
all_kept parent [] h = refl
all_kept parent (c ∷ past) h =
    let e : is_missing_in parent c ≡ true = ap not (lacked_first c past parent h) in
    rw e (ap (λ counters. c ∷ counters) (all_kept parent past (lacked_rest c past parent h)))

-- the sibling has the parent's counters up to a place, and then these
pub record IsPast (parent sibling past : List Counter) (place : ℕ) : Type 0 where
  pub same : filter (is_missing_in parent) sibling ≡ filter (is_missing_in parent) past
  pub distinct : AreDistinct past
  pub lacked : AreLackedBy past (take place parent)

pub past_none : (parent sibling : List Counter) → AreDistinct sibling → IsPast parent sibling sibling 0
past_none parent sibling h = record { same = refl; distinct = h; lacked = tt }

pub past_one : (parent sibling past rest : List Counter) (place : ℕ) (counter first : Counter) → place < length parent → counter ≡ get_or parent place counter → past ≡ first ∷ rest
    → is_same counter first ≡ true → IsPast parent sibling past place → IsPast parent sibling rest (place + 1)
past_one parent sibling past rest place counter first below read splits alike h =
    let there : is_missing_in parent first ≡ false = ap not (any_at (is_same first) parent place counter below read (same_symm first counter ∙ alike)) in
    let distinct : AreDistinct (first ∷ rest) = subst AreDistinct splits h.distinct in
    let lacked : AreLackedBy (first ∷ rest) (take place parent) = subst (λ (counters : List Counter). AreLackedBy counters (take place parent)) splits h.lacked in
    let more : take (place + 1) parent ≡ take place parent ++ counter ∷ [] = take_more parent place counter below ∙ ap (λ c. take place parent ++ c ∷ []) (sym read) in
    record {
      same =
          h.same ∙ ap (filter (is_missing_in parent)) splits
          ∙ ap (λ b. cond b (first ∷ filter (is_missing_in parent) rest) (filter (is_missing_in parent) rest)) there;
      distinct = distinct.1;
      lacked =
          subst (AreLackedBy rest) (sym more)
          (lacked_push rest (take place parent) counter (lacked_rest first rest (take place parent) lacked)
          (sym (any_alike counter first rest alike) ∙ lacking (list_any (is_same first) rest) distinct.0));
    }

-- these counters of the sibling come behind the place, and those before it are among the parent's
pub record IsBehind (parent sibling past : List Counter) (place : ℕ) : Type 0 where
  pub within : place ≤ length parent
  pub at : drop place sibling ≡ past
  pub known : (k : ℕ) (counter : Counter) → k < place → slice_get sibling k ≡ Some counter → is_missing_in parent counter ≡ false

pub behind_none : (parent sibling : List Counter) → IsBehind parent sibling sibling 0
behind_none parent sibling = record { within = omega arith; at = refl; known = λ k counter before there. absurd (omega (arith, before)) }

-- the items of a list from a place on
from_place : (xs : List Counter) (n k : ℕ) → slice_get xs (n + k) ≡ slice_get (drop n xs) k
from_place xs zero k = let e : 0 + k ≡ k = omega arith in ap (slice_get xs) e
from_place [] (suc n) k = refl
from_place (x ∷ xs) (suc n) k = let e : suc n + k ≡ suc (n + k) = omega arith in ap (slice_get (x ∷ xs)) e ∙ from_place xs n k

pub behind_one : (parent sibling past rest : List Counter) (place : ℕ) (counter first : Counter) → place < length parent → counter ≡ get_or parent place counter → past ≡ first ∷ rest
    → is_same counter first ≡ true → IsBehind parent sibling past place → IsBehind parent sibling rest (place + 1)
behind_one parent sibling past rest place counter first below read splits alike h =
    let there : is_missing_in parent first ≡ false = ap not (any_at (is_same first) parent place counter below read (same_symm first counter ∙ alike)) in
    record {
      within = omega (arith, below);
      at = sym (drop-drop 1 place sibling) ∙ ap (drop 1) (h.at ∙ splits);
      known = λ k other before found.
          elim (cases_lt k place) [
            | inl earlier ↦ h.known k other earlier found
            | inr late ↦
                let same : k ≡ place + 0 = omega (arith, before, late) in
                let here : Some first ≡ Some other = sym (ap (slice_get sibling) same ∙ from_place sibling place 0 ∙ ap (λ xs. slice_get xs 0) (h.at ∙ splits)) ∙ found in
                let it : first ≡ other = cc in
                ap (is_missing_in parent) (sym it) ∙ there
          ];
    }

lacked_at : (parent past : List Counter) (k : ℕ) (counter : Counter) → AreLackedBy past parent → slice_get past k ≡ Some counter → is_missing_in parent counter ≡ true
lacked_at parent [] k counter h there = absurd (cc)
lacked_at parent (c ∷ past) zero counter h there = let it : c ≡ counter = cc in ap (is_missing_in parent) (sym it) ∙ ap not (lacked_first c past parent h)
lacked_at parent (c ∷ past) (suc k) counter h there = lacked_at parent past k counter (lacked_rest c past parent h) there

pub behind_all : (parent sibling past : List Counter) (place : ℕ) → length parent ≤ place → take place parent ≡ parent → IsPast parent sibling past place → IsBehind parent sibling past place
    → (k : ℕ) (counter : Counter) → slice_get sibling k ≡ Some counter → is_missing_in parent counter ≡ nat_le (length parent) k
behind_all parent sibling past place long all h b k counter there = elim (cases_lt k place) [
  | inl earlier ↦
      let inside : place ≤ length parent = b.within in
      let less : nat_le (length parent) k ≡ false = grind (arith, nat_tests) in
      b.known k counter earlier there ∙ sym less
  | inr late ↦
      let inside : place ≤ length parent = b.within in
      let more : nat_le (length parent) k ≡ true = grind (arith, nat_tests) in
      let split : k ≡ place + (k - place) = omega (arith, late) in
      let found : slice_get past (k - place) ≡ Some counter = ap (λ xs. slice_get xs (k - place)) (sym b.at) ∙ sym (from_place sibling place (k - place)) ∙ sym (ap (slice_get sibling) split) ∙ there in
      lacked_at parent past (k - place) counter (subst (AreLackedBy past) all h.lacked) found ∙ sym more
]

pub past_all : (parent sibling past : List Counter) (place : ℕ) → take place parent ≡ parent → IsPast parent sibling past place → past ≡ filter (is_missing_in parent) sibling
past_all parent sibling past place all h = sym (h.same ∙ all_kept parent past (subst (AreLackedBy past) all h.lacked))

-- A list that begins with what a list adds.

module _ {X Y : Type 0} (keep : X → Bool) (f : X → Y) where
  kept_more : (xs : List X) (i : ℕ) (x : X) → i < length xs → x ≡ get_or xs i x → keep x ≡ true → map f (filter keep (take (i + 1) xs)) ≡ map f (filter keep (take i xs)) ++ f x ∷ []
  kept_more xs i x below read kept =
      ap (λ ys. map f (filter keep ys)) (take_more xs i x below ∙ ap (λ y. take i xs ++ y ∷ []) (sym read))
      ∙ ap (map f) (filter-append keep (take i xs) (x ∷ []))
      ∙ map-append f (filter keep (take i xs)) (filter keep (x ∷ []))
      ∙ ap (λ b. map f (filter keep (take i xs)) ++ map f (cond b (x ∷ []) [])) kept

  pub skipped_more : (xs : List X) (i : ℕ) (x : X) → i < length xs → x ≡ get_or xs i x → keep x ≡ false → map f (filter keep (take (i + 1) xs)) ≡ map f (filter keep (take i xs))
  skipped_more xs i x below read skipped =
      ap (λ ys. map f (filter keep ys)) (take_more xs i x below ∙ ap (λ y. take i xs ++ y ∷ []) (sym read))
      ∙ ap (map f) (filter-append keep (take i xs) (x ∷ []))
      ∙ map-append f (filter keep (take i xs)) (filter keep (x ∷ []))
      ∙ ap (λ b. map f (filter keep (take i xs)) ++ map f (cond b (x ∷ []) [])) skipped
      ∙ append-nil (map f (filter keep (take i xs)))

  -- one more item at the end of the copies
  pub pushed_more : (xs : List X) (i : ℕ) (x : X) (before copies : List Y) → i < length xs → x ≡ get_or xs i x → keep x ≡ true → copies ≡ before ++ map f (filter keep (take i xs)) → copies ++ f x ∷ [] ≡ before ++ map f (filter keep (take (i + 1) xs))
  pushed_more xs i x before copies below read kept so_far =
      ap (λ ys. ys ++ f x ∷ []) so_far ∙ append_assoc before (map f (filter keep (take i xs))) (f x ∷ [])
      ∙ ap (λ ys. before ++ ys) (sym (kept_more xs i x below read kept))

  -- one more item taken from the front of a list
  pub past_more : (xs : List X) (i : ℕ) (x : X) (all rest past : List Y) → i < length xs → x ≡ get_or xs i x → keep x ≡ true → all ≡ map f (filter keep (take i xs)) ++ rest → rest ≡ f x ∷ past → all ≡ map f (filter keep (take (i + 1) xs)) ++ past
  past_more xs i x all rest past below read kept so_far next =
      so_far ∙ ap (λ ys. map f (filter keep (take i xs)) ++ ys) next ∙ sym (append_assoc (map f (filter keep (take i xs))) (f x ∷ []) past)
      ∙ ap (λ ys. ys ++ past) (sym (kept_more xs i x below read kept))

  kept_split : (xs : List X) (i : ℕ) (x : X) → i < length xs → x ≡ get_or xs i x → keep x ≡ true → map f (filter keep xs) ≡ map f (filter keep (take i xs)) ++ f x ∷ map f (filter keep (drop (i + 1) xs))
  kept_split xs i x below read kept =
      let front = map f (filter keep (take i xs)) in
      let behind = map f (filter keep (drop (i + 1) xs)) in
      sym (ap (λ ys. map f (filter keep ys)) (take-append-drop (i + 1) xs))
      ∙ ap (map f) (filter-append keep (take (i + 1) xs) (drop (i + 1) xs))
      ∙ map-append f (filter keep (take (i + 1) xs)) (filter keep (drop (i + 1) xs))
      ∙ ap (λ ys. ys ++ behind) (kept_more xs i x below read kept)
      ∙ append_assoc front (f x ∷ []) behind

  -- a list that goes on otherwise doesn't begin with all
  pub stuck : (xs : List X) (i : ℕ) (x : X) (all rest : List Y) → i < length xs → x ≡ get_or xs i x → keep x ≡ true → all ≡ map f (filter keep (take i xs)) ++ rest → ((past : List Y) → rest ≢ f x ∷ past) → (past : List Y) → all ≢ map f (filter keep xs) ++ past
  stuck xs i x all rest below read kept so_far otherwise past e =
      let front = map f (filter keep (take i xs)) in
      let behind = map f (filter keep (drop (i + 1) xs)) in
      otherwise (behind ++ past)
      (append_cancel_left front rest (f x ∷ (behind ++ past))
      (sym so_far ∙ e ∙ ap (λ ys. ys ++ past) (kept_split xs i x below read kept) ∙ append_assoc front (f x ∷ behind) past))

-- The parent's counters, and those that the sibling adds.

pub all_missing : (set : List Counter) → filter (is_missing_in []) set ≡ set
all_missing [] = refl
all_missing (c ∷ set) = ap (λ counters. c ∷ counters) (all_missing set)

module _ (change : Counter → Counter) (parent added : List Counter) where
  -- what a box inherits, as what two lists add
  pub inherited_parts : map change (filter (is_missing_in []) parent) ++ map change added ≡ map change (parent ++ added)
  inherited_parts = ap (λ counters. map change counters ++ map change added) (all_missing parent) ∙ sym (map-append change parent added)

  pub not_parent : (all : List Counter) → ((past : List Counter) → all ≢ map change (filter (is_missing_in []) parent) ++ past) → all ≢ map change (parent ++ added)
  not_parent all otherwise e = otherwise (map change added) (e ∙ sym inherited_parts)

  pub past_parent : (all others : List Counter) → all ≡ map change (filter (is_missing_in []) parent) ++ others → all ≡ map change (parent ++ added) → others ≡ map change added ++ []
  past_parent all others begins e =
      append_cancel_left (map change (filter (is_missing_in []) parent)) others (map change added ++ [])
      (sym begins ∙ e ∙ sym inherited_parts ∙ ap (λ counters. map change (filter (is_missing_in []) parent) ++ counters) (sym (append-nil (map change added))))

  pub whole : (all others rest : List Counter) → all ≡ map change (filter (is_missing_in []) parent) ++ others → others ≡ map change added ++ rest → rest ≡ [] → all ≡ map change (parent ++ added)
  whole all others rest begins goes ends =
      begins ∙ ap (λ counters. map change (filter (is_missing_in []) parent) ++ counters) (goes ∙ ap (λ counters. map change added ++ counters) ends ∙ append-nil (map change added))
      ∙ inherited_parts

  pub nothing_past : (all others rest : List Counter) → all ≡ map change (filter (is_missing_in []) parent) ++ others → others ≡ map change added ++ rest → all ≡ map change (parent ++ added) → rest ≡ []
  nothing_past all others rest begins goes e =
      append_cancel_left (map change added) rest [] (sym goes ∙ past_parent all others begins e)

pub empty_is : (set : List Counter) → (length set == 0) ≡ true → set ≡ []
empty_is [] h = refl
empty_is (c ∷ set) h = let e : (suc (length set) == 0) ≡ false = grind (arith, nat_tests) in absurd (true≢false (sym h ∙ e))

-- The value that a counter has already.

pub change_kept : (value : ℤ) (set : List Counter) (place : ℕ) (counter : Counter) → place < length set → counter ≡ get_or set place counter → counter.value ≡ value → set ≡ change_at (with_value (λ _. value)) set place
change_kept value [] place counter below read same = refl
change_kept value (c ∷ set) zero counter below read same = ap (λ (v : ℤ). record c { value = v } ∷ set) (ap (λ (d : Counter). d.value) (sym read) ∙ same)
change_kept value (c ∷ set) (suc place) counter below read same = ap (λ counters. c ∷ counters) (change_kept value set place counter (omega arith) read same)

-- Options of lent counters.

pub lent_at : (counters : List Counter) (place : ℕ) (lent : Option (Bor Counter)) → IsItemAt counters place lent → option_copied lent ≡ slice_get counters place
lent_at counters place None h = sym (slice_get_past counters place h.3)
lent_at counters place (Some counter) h = sym (slice_get_read counters (length counters) place counter.now refl h.3.0 h.1)

pub if_none : {X : Type 0} (o : Option X) (P : Type 0) → P → IfNone o P
if_none None P h = h
if_none (Some x) P h = tt
