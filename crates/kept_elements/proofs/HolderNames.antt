-- What an id names is an element.
use Rattle.std.proofs.Common.{◌≡◌, ◌==◌, ◌≤◌, ◌∙◌, ℕ, true, cond, List, [], ◌∷◌, Option, Some, arith, refl, sym, ap, eq-eqb, inl, inr}
use Rattle.std.specs.Prelude.{IsSome, find, is_some, option_map}
use Rattle.std.specs.Option.{option_and_then}
use Rattle.std.proofs.lemmas.Bool.{cases_Bool, true≢false}
use Rattle.std.proofs.lemmas.Option.{none-some, same_Some}
use Rattle.forest.specs.Forest.{Forest, labels}
use Rattle.forest.specs.Keys.{HasDistinctKeys, Keyed}
use Rattle.plain_types.specs.declared.node.Node.{Node}
use Rattle.plain_types.specs.declared.node.Node.TheVariants.{Element, Text}
use Rattle.node_arena.specs.Nodes.{name_of, node_name}
use Rattle.generated_texts.specs.References.{first_holder, has_id}
use Rattle.kept_elements.proofs.SaidLemmas.{label-said, often, often-cons, said, silent, times-often}

module _ (id : List ℕ) where
  with_name : (label : Node) → has_id id label ≡ true → is_some (node_name label) ≡ true
  with_name (Element name attrs) has = refl
  with_name (Text characters) has = absurd (true≢false (sym has))

  named_in : (ns : List (Keyed Node)) (k : ℕ) → often k ns ≤ 1 → option_map (λ (n : Keyed Node). n.key) (find (λ (n : Keyed Node). has_id id n.label) ns) ≡ Some k
      → is_some (option_and_then node_name (said ns k)) ≡ true
  named_in [] k few is = absurd (none-some k is)
  named_in (n ∷ ns) k few is = elim (cases_Bool (has_id id n.label)) [
    | inl has ↦
        let same : n.key ≡ k = same_Some n.key k (rw has at is) in
        rw (ap (λ m. m == k) same ∙ eq-eqb k k refl) (with_name n.label has)
    | inr lacks ↦
        let rest : is_some (option_and_then node_name (said ns k)) ≡ true = named_in ns k (omega (arith, few, often-cons k n ns)) (rw lacks at is) in
        elim (silent ns k) [
          | inl none ↦ absurd (true≢false (sym rest ∙ ap (λ (o : Option Node). is_some (option_and_then node_name o)) none))
          | inr some ↦ elim (cases_Bool (n.key == k)) [
            | inl e ↦ absurd (omega (arith, few, some, often-cons k n ns, ap (λ b. cond {A = ℕ} b 1 0) e))
            | inr e ↦ rw e rest
          ]
        ]
  ]

  pub holder_named : (tree : Forest (Keyed Node)) (k : ℕ) → HasDistinctKeys tree → first_holder tree id ≡ Some k → IsSome (name_of tree k)
  holder_named tree k d is =
      ap (λ (o : Option Node). is_some (option_and_then node_name o)) (label-said tree k)
      ∙ named_in (labels tree) k (let few = d k in omega (arith, few, times-often k tree)) is
