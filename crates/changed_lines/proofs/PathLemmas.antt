-- The paths of a document tell its nodes apart.
use Rattle.std.proofs.Common.{◌≡◌, ◌==◌, ℕ, true, refl, sym, ap, ◌∙◌, inl, inr, eq-eqb, eqb-true}
use Rattle.std.proofs.lemmas.Bool.{cases_Bool}
use Rattle.std.proofs.lemmas.Option.{same_Some}
use Rattle.std.proofs.lemmas.Slice.Eq.{bytes_eq-Decides}
use Rattle.std.specs.Str.{bytes_eq}
use Rattle.forest.specs.Forest.{Forest}
use Rattle.forest.specs.Keys.{Keyed}
use Rattle.forest.specs.Paths.{key_at, path_of}
use Rattle.forest.specs.Spots.{IsLive}
use Rattle.forest.proofs.PathLaws.{key_at-path_of}
use Rattle.plain_types.specs.declared.node.Node.{Node}
use Rattle.node_arena.specs.Document.{IsKeyedDocument}
use Rattle.node_arena.proofs.EntryLaws.{one-tree}

pub paths_tell : (document : Forest (Keyed Node)) (key other : ℕ) → IsKeyedDocument document → IsLive document key → IsLive document other → bytes_eq (path_of document other) (path_of document key) ≡ (other == key)
paths_tell document key other is_document live other_live = elim (cases_Bool (other == key)) [
  | inl e ↦
      let same : other ≡ key = eqb-true other key e in
      ap (λ (k : ℕ). bytes_eq (path_of document k) (path_of document key)) same ∙ (bytes_eq-Decides (path_of document key) (path_of document key)).1 refl ∙ sym e
  | inr e ↦ elim (cases_Bool (bytes_eq (path_of document other) (path_of document key))) [
    | inl h ↦
        let one = one-tree document is_document in
        let paths : path_of document other ≡ path_of document key = (bytes_eq-Decides (path_of document other) (path_of document key)).0 h in
        let same : other ≡ key = same_Some other key (sym (key_at-path_of document other one other_live) ∙ ap (key_at document) paths ∙ key_at-path_of document key one live) in
        let yes : (other == key) ≡ true = eq-eqb other key same in
        absurd (cc)
    | inr h ↦ h ∙ sym e
  ]
]
