-- What a reading by the grammar is where something is read, and that there is none where nothing is.
use Rattle.std.proofs.Common.{◌≡◌, ℕ, List, Option, Some, None, Result, Ok, Err, IfOk, IfSome, IfNone, sym}
use Rattle.plain_types.specs.declared.memory.Memory.{Memory}
use Rattle.plain_types.specs.declared.selector.Selector.{Selector}
use Rattle.css_tokens.specs.declared.token.Token.{Token}
use Rattle.selectors.specs.Selectors.{selector_list}
use Rattle.selectors.specs.Grammar.{AreSelectors}
use Rattle.selectors.proofs.Complete.{selectors_complete}
use Rattle.selectors.proofs.Sound.{selectors_sound}

module _ (text : List ℕ) (tokens : List Token) where
  found : (read : Option (List Selector)) → read ≡ selector_list text tokens → IfSome read (λ selectors. AreSelectors text tokens selectors)
  found None e = tt
  found (Some selectors) e = selectors_sound text tokens selectors (sym e)

  none : (read : Option (List Selector)) → read ≡ selector_list text tokens → IfNone read ((selectors : List Selector) → AreSelectors text tokens selectors → ⊥)
  none None e = λ selectors is. let read = selectors_complete text tokens selectors is in absurd cc
  none (Some selectors) e = tt

  pub ok_found : (result : Result (Option (List Selector)) Memory) → IfOk result (λ read. read ≡ selector_list text tokens) → IfOk result (λ read. IfSome read (λ selectors. AreSelectors text tokens selectors))
  ok_found (Ok read) e = found read e
  ok_found (Err memory) e = tt

  pub ok_none : (result : Result (Option (List Selector)) Memory) → IfOk result (λ read. read ≡ selector_list text tokens) → IfOk result (λ read. IfNone read ((selectors : List Selector) → AreSelectors text tokens selectors → ⊥))
  ok_none (Ok read) e = none read e
  ok_none (Err memory) e = tt
