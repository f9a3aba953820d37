-- Boxes, and the boxes that created the counters of a set.
use Rattle.std.proofs.Common.{◌≡◌, ◌∷◌, ◌==◌, ℕ, List, [], true, false, refl, sym, ap, subst, ◌∙◌, inl, inr, eqb-true}
use Rattle.std.proofs.lemmas.Bool.{and_parts, cases_Bool, eq-eqb}
use Rattle.std.proofs.lemmas.Slice.Eq.{bytes_eq-Decides}
use Rattle.std.specs.List.{AllByRecursion}
use Rattle.std.specs.Str.{bytes_eq}
use Rattle.plain_types.specs.declared.box_id.BoxId.{BoxId}
use Rattle.plain_types.specs.declared.box_kind.BoxKind.{BoxKind}
use Rattle.plain_types.specs.declared.box_kind.BoxKind.TheVariants.{Element, Marker, Before, After}
use Rattle.plain_types.specs.declared.counter.Counter.{Counter}
use Rattle.counter_sets.specs.Sets.{is_missing_in, is_named, is_same, is_same_box, is_same_kind}
use Rattle.box_eval.proofs.ListLemmas.{each_imp}

-- Boxes.

kind_self : (kind : BoxKind) → is_same_kind kind kind ≡ true
kind_self Element = refl
kind_self Marker = refl
kind_self Before = refl
kind_self After = refl

kind_eq : (first second : BoxKind) → is_same_kind first second ≡ true → first ≡ second
kind_eq Element Element h = refl
kind_eq Element Marker h = absurd (cc)
kind_eq Element Before h = absurd (cc)
kind_eq Element After h = absurd (cc)
kind_eq Marker Element h = absurd (cc)
kind_eq Marker Marker h = refl
kind_eq Marker Before h = absurd (cc)
kind_eq Marker After h = absurd (cc)
kind_eq Before Element h = absurd (cc)
kind_eq Before Marker h = absurd (cc)
kind_eq Before Before h = refl
kind_eq Before After h = absurd (cc)
kind_eq After Element h = absurd (cc)
kind_eq After Marker h = absurd (cc)
kind_eq After Before h = absurd (cc)
kind_eq After After h = refl

key_self : (key : ℕ) → (key == key) ≡ true
key_self key = eq-eqb key key refl

pub box_self : (box : BoxId) → is_same_box box box ≡ true
box_self box = rw (key_self box.key, kind_self box.kind) refl

pub box_eq : (first second : BoxId) → is_same_box first second ≡ true → first ≡ second
box_eq first second h =
    let parts = and_parts (first.key == second.key) (is_same_kind first.kind second.kind) h in
    let keys : first.key ≡ second.key = eqb-true first.key second.key parts.0 in
    let kinds : first.kind ≡ second.kind = kind_eq first.kind second.kind parts.1 in
    let make : ℕ → BoxKind → BoxId = λ key kind. record { key = key; kind = kind } in
    ap (λ key. make key first.kind) keys ∙ ap (λ kind. make second.key kind) kinds

-- Counters of a set.

-- what holds of the creators in a set holds of the creator of each counter that the set has
pub creator_prop : (G : BoxId → Type 0) (set : List Counter) (counter : Counter) → AllByRecursion (λ (other : Counter). G other.creator) set → is_missing_in set counter ≡ false → G counter.creator
creator_prop G [] counter h e = absurd (cc)
creator_prop G (other ∷ set) counter h e = elim (cases_Bool (is_same counter other)) [
  | inl same ↦
      let creators = box_eq counter.creator other.creator (and_parts (is_named counter.name other) (is_same_box counter.creator other.creator) same).1 in
      subst G (sym creators) h.0
  | inr same ↦ creator_prop G set counter h.1 (rw same at e)
]

name_self : (name : List ℕ) → bytes_eq name name ≡ true
name_self name = (bytes_eq-Decides name name).1 refl

same_self : (counter : Counter) → is_same counter counter ≡ true
same_self counter = rw (name_self counter.name, box_self counter.creator) refl

missing_more : (other : Counter) (set : List Counter) (counter : Counter) → is_missing_in set counter ≡ false → is_missing_in (other ∷ set) counter ≡ false
missing_more other set counter h = elim (cases_Bool (is_same counter other)) [ inl e ↦ rw e refl | inr e ↦ rw e h ]

missing_here : (counter : Counter) (set : List Counter) → is_missing_in (counter ∷ set) counter ≡ false
missing_here counter set = rw (same_self counter) refl

pub none_missing : (set : List Counter) → AllByRecursion (λ counter. is_missing_in set counter ≡ false) set
none_missing [] = tt
none_missing (counter ∷ set) = (
  missing_here counter set,
  each_imp (λ other. is_missing_in set other ≡ false) (λ other. is_missing_in (counter ∷ set) other ≡ false) (λ other h. missing_more counter set other h) set (none_missing set),
)
