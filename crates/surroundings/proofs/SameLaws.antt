-- The tests of what is handed decide equality.
use Rattle.std.proofs.Common.{◌≡◌, ◌∷◌, ◌&&◌, List, [], Bool, true, Option, Some, None, Decides, refl, ap, subst}
use Rattle.std.proofs.lemmas.Bool.{and_parts}
use Rattle.std.proofs.lemmas.Bool.Decides.{Decides-at, Decides-eqb, Decides-int_eq}
use Rattle.std.proofs.lemmas.Slice.Eq.{bytes_eq-Decides}
use Rattle.std.specs.Cmp.{booleans_Decides}
use Rattle.std.specs.Option.{option_eq}
use Rattle.plain_types.specs.declared.box_id.BoxId.{BoxId}
use Rattle.plain_types.specs.declared.counter.Counter.{Counter}
use Rattle.counter_sets.specs.Sets.{is_same_box}
use Rattle.box_eval.proofs.BoxLemmas.{box_eq, box_self}
use Rattle.surroundings.specs.declared.surroundings.Surroundings.{Surroundings}
use Rattle.surroundings.specs.declared.walked.Walked.{Walked}
use Rattle.surroundings.specs.Surroundings.{is_equal_counter, is_same, is_same_set}

-- a test of two parts decides both
both : {P Q : Type 0} → (a b : Bool) → Decides a P → Decides b Q → Decides (a && b) (P × Q)
both a b first second = (
  λ h. let parts = and_parts a b h in (first.0 parts.0, second.0 parts.1),
  λ h. let one : a ≡ true = first.1 h.0 in let other : b ≡ true = second.1 h.1 in rw (one, other) refl,
)

-- and so it decides what the parts make
made_of : {P Q : Type 0} → (b : Bool) → Decides b P → (P → Q) → (Q → P) → Decides b Q
made_of b parts make take = (λ h. make (parts.0 h), λ q. parts.1 (take q))

box-Decides : (one other : BoxId) → Decides (is_same_box one other) (one ≡ other)
box-Decides one other = (box_eq one other, λ e. subst (λ box. is_same_box one box ≡ true) e (box_self one))

counter-Decides : (one other : Counter) → Decides (is_equal_counter one other) (one ≡ other)
counter-Decides one other =
    made_of _
    (both _ _
    (both _ _ (bytes_eq-Decides one.name other.name) (box-Decides one.creator other.creator))
    (both _ _ (booleans_Decides one.reversed other.reversed) (Decides-int_eq one.value other.value)))
    (λ h. λ i. record { name = h.0.0 i; creator = h.0.1 i; reversed = h.1.0 i; value = h.1.1 i })
    (λ e. ((ap (λ (counter : Counter). counter.name) e, ap (λ (counter : Counter). counter.creator) e), (ap (λ (counter : Counter). counter.reversed) e, ap (λ (counter : Counter). counter.value) e)))

pub set-Decides : (one other : List Counter) → Decides (is_same_set one other) (one ≡ other)
set-Decides [] [] = (λ _. refl, λ _. refl)
set-Decides [] (other ∷ others) = (λ h. absurd (cc), λ e. absurd (cc))
set-Decides (counter ∷ counters) [] = (λ h. absurd (cc), λ e. absurd (cc))
set-Decides (counter ∷ counters) (other ∷ others) =
    made_of _ (both _ _ (counter-Decides counter other) (set-Decides counters others))
    (λ h. λ i. h.0 i ∷ h.1 i)
    (λ e. let first : counter ≡ other = cc in let rest : counters ≡ others = cc in (first, rest))

option-Decides : {A : Type 0} (test : A → A → Bool) → ((one other : A) → Decides (test one other) (one ≡ other)) → (one other : Option A) → Decides (option_eq test one other) (one ≡ other)
option-Decides test decides None None = (λ _. refl, λ _. refl)
option-Decides test decides None (Some other) = (λ h. absurd (cc), λ e. absurd (cc))
option-Decides test decides (Some one) None = (λ h. absurd (cc), λ e. absurd (cc))
option-Decides test decides (Some one) (Some other) =
    made_of _ (decides one other) (ap Some) (λ e. let same : one ≡ other = cc in same)

pub surroundings-Decides : (one other : Surroundings) → Decides (is_same one other) (one ≡ other)
surroundings-Decides one other =
    made_of _
    (both _ _ (set-Decides one.parent other.parent)
    (both _ _ (option-Decides is_same_set set-Decides one.sibling other.sibling)
    (both _ _ (option-Decides is_same_set set-Decides one.preceding other.preceding) (Decides-eqb one.depth other.depth))))
    (λ h. λ i. record { parent = h.0 i; sibling = h.1.0 i; preceding = h.1.1.0 i; depth = h.1.1.1 i })
    (λ e. (
      ap (λ (around : Surroundings). around.parent) e,
      (ap (λ (around : Surroundings). around.sibling) e, (ap (λ (around : Surroundings). around.preceding) e, ap (λ (around : Surroundings). around.depth) e)),
    ))

pub handed-Decides : (one other : Option Surroundings) → Decides (option_eq is_same one other) (one ≡ other)
handed-Decides = option-Decides is_same surroundings-Decides

-- what two tests say of what is kept of what is handed
pub walked-same : (one other : Walked) (handed behind : Bool) → handed ≡ option_eq is_same one.handed other.handed → behind ≡ option_eq is_same one.behind other.behind
    → Decides (handed && behind) (one ≡ other)
walked-same one other handed behind handed_is behind_is =
    made_of _
    (both _ _ (Decides-at handed _ handed_is (handed-Decides one.handed other.handed)) (Decides-at behind _ behind_is (handed-Decides one.behind other.behind)))
    (λ h. λ i. record { handed = h.0 i; behind = h.1 i })
    (λ e. (ap (λ (walked : Walked). walked.handed) e, ap (λ (walked : Walked). walked.behind) e))
