-- What is kept of the left parts of selectors.
use Rattle.std.proofs.Common.{◌≡◌, ℕ, nat_eq, cond, set, List, Option, Some, sym, ap, subst, ◌∙◌, inl, inr, eqb-true}
use Rattle.std.specs.Map.{lookup}
use Rattle.std.specs.List.{All}
use Rattle.std.specs.Prelude.{IfSome, None, slice_get}
use Rattle.std.proofs.lemmas.List.Elements.{All-get_or, All-set}
use Rattle.std.proofs.lemmas.Bool.{cases_Bool}
use Rattle.std.proofs.lemmas.Option.{get_or_from_slice_get, same_Some, slice_get_within}
use Rattle.forest.specs.Forest.{Forest}
use Rattle.forest.specs.Keys.{Keyed}
use Rattle.plain_types.specs.declared.node.Node.{Node}
use Rattle.plain_types.specs.declared.selector.Selector.{Selector}
use Rattle.selector_match.specs.Elements.{Standing}
use Rattle.selector_match.specs.Machinery.Lookups.{standing_at}
use Rattle.selector_match.specs.declared.outcomes.PartOutcomes.{PartOutcomes}
use Rattle.selector_match.specs.Machinery.Outcomes.{AreOfPart, AreOutcomes, IsFor, IsOutcome}

-- what is kept of elements for this part is so
abbrev pub AreFor : Forest (Keyed Node) → Selector → ℕ → List (ℕ × Option ℕ) → Type 0
AreFor tree selector place entries = (key : ℕ) (outcome : Option ℕ) → lookup (nat_eq key) entries ≡ Some outcome → IsOutcome selector place (standing_at tree key) outcome

-- an outcome more is kept
pub outcome-more : (tree : Forest (Keyed Node)) (selector : Selector) (place : ℕ) (old new : List (ℕ × Option ℕ)) (at : ℕ) (outcome : Option ℕ)
    → ((key : ℕ) → lookup (nat_eq key) new ≡ cond (nat_eq at key) (Some outcome) (lookup (nat_eq key) old)) → AreFor tree selector place old → IsOutcome selector place (standing_at tree at) outcome → AreFor tree selector place new
outcome-more tree selector place old new at outcome puts right is key other found = elim (cases_Bool (nat_eq at key)) [
  | inl h ↦
      let same : outcome ≡ other = same_Some _ _ (sym (puts key ∙ ap (λ b. cond b (Some outcome) (lookup (nat_eq key) old)) h) ∙ found) in
      subst (λ k. IsOutcome selector place (standing_at tree k) other) (eqb-true at key h) (subst (IsOutcome selector place (standing_at tree at)) same is)
  | inr h ↦ right key other (sym (puts key ∙ ap (λ b. cond b (Some outcome) (lookup (nat_eq key) old)) h) ∙ found)
]

pub all-there : {X : Type 0} (P : X → Type 0) (xs : List X) (i : ℕ) (x : X) → slice_get xs i ≡ Some x → All P xs → P x
all-there P xs i x is all = subst P (get_or_from_slice_get xs i x x is) (All-get_or P xs i x (slice_get_within xs i x is) all)

pub if-some : {A : Type 0} (P : A → Type 0) (o : Option A) (x : A) → o ≡ Some x → IfSome o P → P x
if-some {A = A} P o x is h = subst (λ (o : Option A). IfSome o P) is h

-- outcomes are kept in the place of others of the same part
pub put_all : (tree : Forest (Keyed Node)) (parts : List PartOutcomes) (number key : ℕ) (outcome : Option ℕ) (old new : PartOutcomes) → slice_get parts number ≡ Some old
    → ((tree : Forest (Keyed Node)) → AreOfPart tree old → IsOutcome old.part.selector old.part.place (standing_at tree key) outcome → AreOfPart tree new) → AreOutcomes tree parts
    → IfSome (slice_get parts number) (λ outcomes. IsOutcome outcomes.part.selector outcomes.part.place (standing_at tree key) outcome) → AreOutcomes tree (set parts number new)
put_all tree parts number key outcome old new there keeps all is =
    All-set (AreOfPart tree) parts number new
    (keeps tree (all-there (AreOfPart tree) parts number old there all) (if-some (λ (outcomes : PartOutcomes). IsOutcome outcomes.part.selector outcomes.part.place (standing_at tree key) outcome) (slice_get parts number) old there is)) all

-- an outcome that is kept is that of the element
pub found-outcome : (tree : Forest (Keyed Node)) (outcomes : PartOutcomes) (selector : Selector) (place key : ℕ) (outcome : Option ℕ) → IsFor selector place outcomes.part → AreOfPart tree outcomes
    → lookup (nat_eq key) outcomes.by_key.entries ≡ Some outcome → IsOutcome selector place (standing_at tree key) outcome
found-outcome tree outcomes selector place key outcome is right found =
    subst (λ (s : Selector). IsOutcome s place (standing_at tree key) outcome) is.0
    (subst (λ (p : ℕ). IsOutcome outcomes.part.selector p (standing_at tree key) outcome) is.1 (right key outcome found))

pub outcome-here : (tree : Forest (Keyed Node)) (parts : List PartOutcomes) (selector : Selector) (place key : ℕ) (element : Standing) (found : Option (Option ℕ)) → standing_at tree key ≡ element → AreOutcomes tree parts
    → IfSome found (λ outcome. (tree : Forest (Keyed Node)) → AreOutcomes tree parts → IsOutcome selector place (standing_at tree key) outcome) → IfSome found (IsOutcome selector place element)
outcome-here tree parts selector place key element None is right found = tt
outcome-here tree parts selector place key element (Some outcome) is right found = subst (λ (s : Standing). IsOutcome selector place s outcome) is (found tree right)

-- selectors are equal where their parts are
pub same-selector : (first second : Selector) → first.compounds ≡ second.compounds → first.joins ≡ second.joins → first.pseudo ≡ second.pseudo → first ≡ second
same-selector first second compounds joins pseudo =
    ap (λ cs. record { compounds = cs; joins = first.joins; pseudo = first.pseudo }) compounds
    ∙ ap (λ js. record { compounds = second.compounds; joins = js; pseudo = first.pseudo }) joins
    ∙ ap (λ p. record { compounds = second.compounds; joins = second.joins; pseudo = p }) pseudo
