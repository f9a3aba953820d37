-- The layer above cites `selector_list text tokens`, the selectors of these tokens of a text or nothing;
-- `Selectors text tokens selectors`, that they are these; and `specificity selector`. `Grammar` says the same
-- of selectors as a relation, `AreSelectors text tokens selectors`.
pub mod AnPlusB
pub mod Compounds
pub mod Grammar
pub mod Parts
pub mod Selectors
pub mod Simples
pub mod Specificity
