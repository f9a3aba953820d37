-- Urls that name no chapter, and aims.
use Rattle.std.proofs.Common.{◌≡◌, ◌∷◌, ◌==◌, ℕ, Bool, true, false, List, [], Option, Some, None, IfSome, cond, option_map, refl}
use Rattle.reading.specs.Punctuation.{number_sign}
use Rattle.content_eval.specs.Targets.{target_id}
use Rattle.generated_texts.specs.References.{first_holder}
use Rattle.std.proofs.Common.{ap, option_and_then}
use Rattle.book_definitions.specs.Aims.{Address, Aim, address, aim, chapter_at}
use Rattle.book_definitions.specs.Chapters.{Chapter}
use Rattle.book_definitions.specs.Laws.{AimNeedsItsChapterAlone, GivesNoName}

-- the address of an id alone
abbrev pub own_address : List ℕ → Address
own_address id = record { name = []; id = id }

module _ (first : ℕ) where
  abbrev behind : Address → Address
  behind found = record { name = first ∷ found.name; id = found.id }

  none_behind : (found : Option Address) → IfSome (option_map behind found) (λ (found : Address). found.name ≡ []) → option_map behind found ≡ None
  none_behind None h = refl
  none_behind (Some found) h = absurd (let bad : first ∷ found.name ≡ [] = h in cc)

  by_first : (rest : List ℕ) (test : Bool)
      → IfSome (cond test (Some (own_address rest)) (option_map behind (address rest))) (λ (found : Address). found.name ≡ [])
      → cond test (Some (own_address rest)) (option_map behind (address rest)) ≡ option_map own_address (cond test (Some rest) None)
  by_first rest true h = refl
  by_first rest false h = none_behind (address rest) h

-- a url that names no chapter has the address of the id that it has in its document
pub address_of_id : (url : List ℕ) → GivesNoName url → address url ≡ option_map own_address (target_id url)
address_of_id [] h = refl
address_of_id (first ∷ rest) h = by_first first rest (first == number_sign) h

-- Aims rest on the chapter at the address.
module _ (volume other : List Chapter) (own another : Chapter) where
  abbrev aim_at : List Chapter → Chapter → Option Address → Option Aim
  aim_at chapters from = option_and_then (λ (found : Address). option_map (λ (chapter : Chapter). record { chapter = chapter; id = found.id }) (chapter_at chapters from found.name))

  by_address : (found : Option Address) → IfSome found (λ (found : Address). chapter_at volume own found.name ≡ chapter_at other another found.name) → aim_at volume own found ≡ aim_at other another found
  by_address None h = refl
  by_address (Some found) h = ap (λ there. option_map (λ (chapter : Chapter). record { chapter = chapter; id = found.id }) there) h

pub aim_needs : AimNeedsItsChapterAlone
aim_needs volume other own another url h =
    let same : aim volume own url ≡ aim other another url = by_address volume other own another (address url) h in
    (same, ap (option_and_then (λ (found : Aim). option_map (λ key. (found.chapter, key)) (first_holder found.chapter.document found.id))) same)
