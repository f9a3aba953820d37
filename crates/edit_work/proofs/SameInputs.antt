-- The test of inputs decides equality.
use Rattle.std.proofs.Common.{◌≡◌, ◌∷◌, ◌&&◌, List, [], Bool, true, Decides, refl, ap, subst}
use Rattle.std.proofs.lemmas.Bool.{and_parts}
use Rattle.std.proofs.lemmas.Bool.Decides.{Decides-eqb, Decides-int_eq}
use Rattle.std.proofs.lemmas.Slice.Eq.{bytes_eq-Decides}
use Rattle.plain_types.specs.declared.box_id.BoxId.{BoxId}
use Rattle.counter_sets.specs.Sets.{is_same_box}
use Rattle.box_eval.specs.declared.inputs.Inputs.{Inputs}
use Rattle.box_eval.specs.declared.inputs.Start.{Start}
use Rattle.box_eval.proofs.BoxLemmas.{box_eq, box_self}
use Rattle.surroundings.specs.Surroundings.{surroundings_in}
use Rattle.surroundings.proofs.SameLaws.{surroundings-Decides}
use Rattle.edit_work.specs.Inputs.{are_same_starts, is_same_inputs, is_same_start}

-- a test of two parts decides both
both : {P Q : Type 0} → (a b : Bool) → Decides a P → Decides b Q → Decides (a && b) (P × Q)
both a b first second = (
  λ h. let parts = and_parts a b h in (first.0 parts.0, second.0 parts.1),
  λ h. let one : a ≡ true = first.1 h.0 in let other : b ≡ true = second.1 h.1 in rw (one, other) refl,
)

-- and so it decides what the parts make
made_of : {P Q : Type 0} → (b : Bool) → Decides b P → (P → Q) → (Q → P) → Decides b Q
made_of b parts make take = (λ h. make (parts.0 h), λ q. parts.1 (take q))

box-Decides : (one other : BoxId) → Decides (is_same_box one other) (one ≡ other)
box-Decides one other = (box_eq one other, λ e. subst (λ box. is_same_box one box ≡ true) e (box_self one))

start-Decides : (one other : Start) → Decides (is_same_start one other) (one ≡ other)
start-Decides one other =
    made_of _
    (both _ _ (box-Decides one.creator other.creator) (both _ _ (bytes_eq-Decides one.name other.name) (Decides-int_eq one.value other.value)))
    (λ h. λ i. record { creator = h.0 i; name = h.1.0 i; value = h.1.1 i })
    (λ e. (ap (λ (start : Start). start.creator) e, (ap (λ (start : Start). start.name) e, ap (λ (start : Start). start.value) e)))

starts-Decides : (one other : List Start) → Decides (are_same_starts one other) (one ≡ other)
starts-Decides [] [] = (λ _. refl, λ _. refl)
starts-Decides [] (other ∷ others) = (λ h. absurd (cc), λ e. absurd (cc))
starts-Decides (start ∷ starts) [] = (λ h. absurd (cc), λ e. absurd (cc))
starts-Decides (start ∷ starts) (other ∷ others) =
    made_of _ (both _ _ (start-Decides start other) (starts-Decides starts others))
    (λ h. λ i. h.0 i ∷ h.1 i)
    (λ e. let first : start ≡ other = cc in let rest : starts ≡ others = cc in (first, rest))

pub inputs-Decides : (one other : Inputs) → Decides (is_same_inputs one other) (one ≡ other)
inputs-Decides one other =
    made_of _
    (both _ _ (Decides-eqb one.key other.key)
    (both _ _ (surroundings-Decides (surroundings_in one) (surroundings_in other)) (starts-Decides one.starts other.starts)))
    (λ h. λ i. record {
      key = h.0 i;
      parent = (h.1.0 i).parent;
      sibling = (h.1.0 i).sibling;
      preceding = (h.1.0 i).preceding;
      depth = (h.1.0 i).depth;
      starts = h.1.1 i;
    })
    (λ e. (ap (λ (inputs : Inputs). inputs.key) e, (ap surroundings_in e, ap (λ (inputs : Inputs). inputs.starts) e)))
