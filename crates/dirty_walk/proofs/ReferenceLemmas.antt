-- The references of a document's elements, and an index that tells of them.
use Rattle.std.proofs.Common.{◌≡◌, ◌++◌, ◌∙◌, ℕ, Bool, List, [], ◌∷◌, Option, Some, None, flat_map, unwrap_or, refl, sym, subst}
use Rattle.std.specs.Prelude.{IfSome, codes}
use Rattle.std.specs.Option.{option_map_or}
use Rattle.forest.specs.Forest.{Forest}
use Rattle.forest.specs.Keys.{Keyed, keys}
use Rattle.plain_types.specs.declared.node.Node.{Node}
use Rattle.node_arena.specs.Nodes.{attr_of}
use Rattle.generated_texts.specs.StyleElements.{author_sheet}
use Rattle.surroundings.specs.declared.told.Told.{Told}
use Rattle.target_index.specs.declared.change.IndexChange.{IndexChange}
use Rattle.target_index.specs.declared.change.IndexChange.TheVariants.{Hold}
use Rattle.target_index.specs.declared.index.Index.{Index}
use Rattle.target_index.specs.Changes.{refers_after_all}
use Rattle.target_index.specs.Holders.{is_reference}
use Rattle.referring_elements.specs.Indexes.{TellsReferences}
use Rattle.referring_elements.specs.References.{AreOnce}
use Rattle.dirty_walk.specs.declared.exchange.ElementId.{ElementId}
use Rattle.kept_elements.specs.Evaluations.{evaluated_document}
use Rattle.dirty_walk.specs.Exchanges.{exchanges, held, unheld}
use Rattle.kept_elements.proofs.ChangeLemmas.{HasKeysOnce}
use Rattle.dirty_walk.proofs.IdLemmas.{id_change, id_changes}

-- Changes of holders change no references.

module _ (id : List ℕ) (key : ℕ) where
  abbrev Keeps : List IndexChange → Type 0
  Keeps changes = (b : Bool) → refers_after_all changes id key b ≡ b

  both : (some more : List IndexChange) (b : Bool) → refers_after_all (some ++ more) id key b ≡ refers_after_all more id key (refers_after_all some id key b)
  both [] more b = refl
  both (change ∷ some) more b = both some more _

  keeps_both : (some more : List IndexChange) → Keeps some → Keeps more → Keeps (some ++ more)
  keeps_both some more one other b = both some more b ∙ other (refers_after_all some id key b) ∙ one b

  keeps_all : {A : Type 0} (changes : A → List IndexChange) → ((a : A) → Keeps (changes a)) → (all : List A) → Keeps (flat_map changes all)
  keeps_all changes each [] b = refl
  keeps_all changes each (a ∷ all) b = keeps_both (changes a) (flat_map changes all) (each a) (keeps_all changes each all) b

  keeps_unheld : (element : ElementId) → Keeps (unheld element)
  keeps_unheld element = by element.id
    where
      by : (o : Option (List ℕ)) → Keeps (unheld (record element { id = o }))
      by None b = refl
      by (Some other) b = refl

  keeps_held : (element : ElementId) → Keeps (held element)
  keeps_held element = by element.id
    where
      by : (o : Option (List ℕ)) → Keeps (held (record element { id = o }))
      by None b = refl
      by (Some other) b = refl

  pub exchanges_keep : (gone come : List ElementId) → Keeps (exchanges gone come)
  exchanges_keep gone come = keeps_both (flat_map unheld gone) (flat_map held come) (keeps_all unheld keeps_unheld gone) (keeps_all held keeps_held come)

  pub ids_keep : (document : Forest (Keyed Node)) → Keeps (id_changes document)
  ids_keep document = keeps_all (id_change document) each (keys document)
    where
      by : (k : ℕ) (o : Option (List ℕ)) → Keeps (option_map_or (λ other. Hold other k ∷ []) o [])
      by k None b = refl
      by k (Some other) b = refl

      each : (k : ℕ) → Keeps (id_change document k)
      each k = by k (attr_of document k (codes "id"))

-- Elements that are told once.

pub are_once : (told : List (ℕ × Told)) → HasKeysOnce told → AreOnce told
are_once [] once = tt
are_once (element ∷ told) once = (once.0, are_once told once.1)

-- Documents.

-- an index with equal answers tells of an equal document
pub refers_where : (tree other : Forest (Keyed Node)) (text : List ℕ) (index new : Index) → other ≡ tree → ((id : List ℕ) (key : ℕ) → is_reference new id key ≡ is_reference index id key)
    → TellsReferences index (evaluated_document (author_sheet text tree) tree) → TellsReferences new (evaluated_document (author_sheet text other) other)
refers_where tree other text index new same answers tells =
    subst (λ (t : Forest (Keyed Node)). TellsReferences new (evaluated_document (author_sheet text t) t)) (sym same) (λ id key. answers id key ∙ tells id key)

-- The index that was made anew, or else the one that was there.

pub of_index : (P : Index → Type 0) (made : Option Index) (index : Index) → IfSome made P → (made ≡ None → P index) → P (unwrap_or made index)
of_index P None index some none = none refl
of_index P (Some new) index some none = some
