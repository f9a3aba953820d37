-- Reading the steps of a complex selector, one after the other.
use Rattle.std.proofs.Common.{◌≡◌, ℕ, List, [], ◌∷◌, ◌++◌, map, Some, None, refl, sym, ap, ◌∙◌}
use Rattle.std.proofs.lemmas.List.{map-append}
use Rattle.plain_types.specs.declared.selector.Compound.{Compound}
use Rattle.plain_types.specs.declared.selector_parts.Join.{Join}
use Rattle.reading.specs.Reading.{run_at}
use Rattle.reading.proofs.Following.{takes_shorter}
use Rattle.reading.proofs.Runs.{Goes, Goes-start, Goes-more, Goes-read}
use Rattle.css_tokens.specs.declared.token.Token.{Token}
use Rattle.selectors.specs.declared.selector_list.Sequence.{Sequence}
use Rattle.selectors.specs.Selectors.{Step, step_to, step_at, sequence}
use Rattle.selectors.proofs.Shortening.{step_takes}

abbrev compounds_of : List Step → List Compound
compounds_of steps = map (λ (step : Step). step.compound) steps

abbrev joins_of : List Step → List Join
joins_of steps = map (λ (step : Step). step.join) steps

-- the loop has come to the rest, with these compound selectors and combinators
pub record Leads (text : List ℕ) (first : Compound) (whole : List Token) (compounds : List Compound) (joins : List Join) (rest : List Token) : Type 0 where
  pub steps : List Step
  pub goes : Goes (step_at text) whole steps rest
  pub compounds_are : compounds ≡ first ∷ compounds_of steps
  pub joins_are : joins ≡ joins_of steps

module _ (text : List ℕ) (first : Compound) (whole : List Token) where
  pub Leads-start : (none : List Compound) (compounds : List Compound) (joins : List Join) → none ≡ [] → compounds ≡ none ++ first ∷ [] → joins ≡ [] → Leads text first whole compounds joins whole
  Leads-start none compounds joins empty c j = record { steps = []; goes = Goes-start (step_at text) whole; compounds_are = c ∙ rw empty refl; joins_are = j }

  pub Leads-more : (compounds next_compounds : List Compound) (joins next_joins : List Join) (rest : List Token) (join : Join) (compound : Compound) (after : List Token) → Leads text first whole compounds joins rest
      → step_at text rest ≡ Some (step_to join compound, after) → next_joins ≡ joins ++ join ∷ [] → next_compounds ≡ compounds ++ compound ∷ [] → Leads text first whole next_compounds next_joins after
  Leads-more compounds next_compounds joins next_joins rest join compound after l e j c = record {
    steps = l.steps ++ step_to join compound ∷ [];
    goes = Goes-more (step_at text) whole l.steps rest (step_to join compound) after l.goes e;
    compounds_are = c ∙ rw l.compounds_are (ap (λ (t : List Compound). first ∷ t) (sym (map-append (λ (step : Step). step.compound) l.steps (step_to join compound ∷ []))));
    joins_are = j ∙ rw l.joins_are (sym (map-append (λ (step : Step). step.join) l.steps (step_to join compound ∷ [])));
  }

  pub Leads-read : (compounds : List Compound) (joins : List Join) (rest : List Token) → Leads text first whole compounds joins rest → step_at text rest ≡ None
      → (compounds ≡ first ∷ compounds_of (run_at (step_at text) whole).0) × (joins ≡ joins_of (run_at (step_at text) whole).0) × (rest ≡ (run_at (step_at text) whole).1)
  Leads-read compounds joins rest l e =
      let read = Goes-read (step_at text) (takes_shorter (step_at text) (step_takes text)) whole l.steps rest l.goes e in
      (rw read l.compounds_are, rw read l.joins_are, rw read refl)

pub same_sequence : (compounds : List Compound) (joins : List Join) (first : Compound) (steps : List Step) → compounds ≡ first ∷ compounds_of steps → joins ≡ joins_of steps
    → ◌≡◌ {A = Sequence} (record { compounds = compounds; joins = joins }) (sequence first steps)
same_sequence compounds joins first steps c j = rw (c, j) refl
