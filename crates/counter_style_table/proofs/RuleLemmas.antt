-- Rules in a map from names: the map's entries, in their order, are the rules.
use Rattle.std.proofs.Common.{◌≡◌, ℕ, List, [], ◌∷◌, map, refl, sym, ap, ◌∙◌, inl, inr}
use Rattle.std.specs.List.{position}
use Rattle.std.specs.Str.{bytes_eq, chars, IsUtf8}
use Rattle.std.proofs.lemmas.Bool.{cases_Bool}
use Rattle.std.proofs.lemmas.Slice.Eq.{bytes_eq-Decides}
use Rattle.indexmap.specs.IndexMap.{insert_entry}
use Rattle.plain_types.specs.declared.counter_style.StyleDef.{StyleDef}
use Rattle.plain_types.proofs.PlaceLemmas.{position-agree}
use Rattle.plain_types.proofs.TextLemmas.{bytes_eq-chars}
use Rattle.counter_style_table.specs.Rules.{is_named, name_of, with_rule}

module _ {K : Type 0} (bytes : K → List ℕ) (text : (k : K) → IsUtf8 (bytes k)) where
  abbrev pub AreNamed : List (K × StyleDef) → Type 0
  AreNamed entries = map (λ key. chars (bytes key)) (map (λ e. e.0) entries) ≡ map name_of (map (λ e. e.1) entries)

  pub put_rule : (entries : List (K × StyleDef)) (key : K) (rule : StyleDef) → AreNamed entries → chars (bytes key) ≡ name_of rule
      → (map (λ e. e.1) (insert_entry (λ a b. bytes_eq (bytes a) (bytes b)) entries key rule) ≡ with_rule (map (λ e. e.1) entries) rule) × AreNamed (insert_entry (λ a b. bytes_eq (bytes a) (bytes b)) entries key rule)
  put_rule [] key rule named e = (refl, ap (λ name. name ∷ []) e)
  put_rule (entry ∷ entries) key rule named e =
      let first : chars (bytes entry.0) ≡ name_of entry.1 = cc in
      let rest : AreNamed entries = cc in
      let test : bytes_eq (bytes key) (bytes entry.0) ≡ is_named (name_of rule) entry.1 =
      bytes_eq-chars (bytes key) (bytes entry.0) (text key) (text entry.0) ∙ ap (λ name. bytes_eq name (chars (bytes entry.0))) e ∙ ap (bytes_eq (name_of rule)) first in
      let later = put_rule entries key rule rest e in
      elim (cases_Bool (is_named (name_of rule) entry.1)) [
        | inl h ↦
            let same : name_of rule ≡ name_of entry.1 = (bytes_eq-Decides (name_of rule) (name_of entry.1)).0 h in
            rw (test, h) (refl, ap (λ name. name ∷ map (λ k. chars (bytes k)) (map (λ e. e.0) entries)) (first ∙ sym same) ∙ ap (λ names. name_of rule ∷ names) rest)
        | inr h ↦
            rw (test, h) (ap (λ rules. entry.1 ∷ rules) later.0, ap (λ name. name ∷ map (λ k. chars (bytes k)) (map (λ e. e.0) (insert_entry (λ a b. bytes_eq (bytes a) (bytes b)) entries key rule))) first ∙ ap (λ names. name_of entry.1 ∷ names) later.1)
      ]

  tests_agree : (entries : List (K × StyleDef)) (name : List ℕ) (query : List ℕ) → AreNamed entries → IsUtf8 query → chars query ≡ name
      → map (λ key. bytes_eq query (bytes key)) (map (λ e. e.0) entries) ≡ map (is_named name) (map (λ e. e.1) entries)
  tests_agree [] name query named u e = refl
  tests_agree (entry ∷ entries) name query named u e =
      let first : chars (bytes entry.0) ≡ name_of entry.1 = cc in
      let rest : AreNamed entries = cc in
      let test : bytes_eq query (bytes entry.0) ≡ is_named name entry.1 =
      bytes_eq-chars query (bytes entry.0) u (text entry.0) ∙ ap (λ n. bytes_eq n (chars (bytes entry.0))) e ∙ ap (bytes_eq name) first in
      ap (λ b. b ∷ map (λ key. bytes_eq query (bytes key)) (map (λ e. e.0) entries)) test ∙ ap (λ tests. is_named name entry.1 ∷ tests) (tests_agree entries name query rest u e)

  pub find_rule : (entries : List (K × StyleDef)) (name : List ℕ) (query : List ℕ) → AreNamed entries → IsUtf8 query → chars query ≡ name
      → position (λ key. bytes_eq query (bytes key)) (map (λ e. e.0) entries) ≡ position (is_named name) (map (λ e. e.1) entries)
  find_rule entries name query named u e = position-agree _ _ _ _ (tests_agree entries name query named u e)
