-- The laws, from their lemmas.
use Rattle.std.proofs.Common.{◌≡◌, ℕ, true, List, Option, None, refl, ap, ◌∙◌, arith}
use Rattle.forest.specs.Forest.{Forest, Empty, Tree}
use Rattle.forest.specs.Keys.{Keyed, HasDistinctKeys, times}
use Rattle.plain_types.specs.declared.node.Node.{Node}
use Rattle.plain_types.specs.declared.style.ElementStyle.{ElementStyle}
use Rattle.plain_types.specs.declared.style.Style.{Style}
use Rattle.reversed_start.specs.Starts.{start}
use Rattle.box_eval.specs.declared.change.Change.{Change}
use Rattle.box_eval.specs.Elements.{at_root}
use Rattle.box_eval.specs.Evaluation.{style_within, styled, styled_trees}
use Rattle.box_eval.specs.Starts.{events_of, no_starts}
use Rattle.box_eval.proofs.DocumentLemmas.{root_level, told}
use Rattle.scope_reading.specs.Laws.{ScopesTellEvents, ScopesTellStarts}
use Rattle.scope_reading.proofs.CreatorLemmas.{kind_reads}

pub scopes_tell_events : ScopesTellEvents
scopes_tell_events table document distinct creator name =
    ap (λ (changes : List Change). events_of changes creator name) (told table document true at_root distinct (root_level document)).changes
    ∙ kind_reads creator name table document true at_root (distinct creator.key) (record { parent = tt; sibling = tt })

-- styles change no key
module _ (style : ℕ → Option Style → ElementStyle) where
  styled-times : (k : ℕ) (g : Forest (Keyed Node)) (parent : Option Style) → times k (styled_trees style no_starts parent g) ≡ times k g
  styled-times k Empty parent = refl
  styled-times k (Tree n c r) parent = omega (arith, styled-times k c (style_within style no_starts parent n.key n.label), styled-times k r parent)

  styled-distinct : (g : Forest (Keyed Node)) (parent : Option Style) → HasDistinctKeys g → HasDistinctKeys (styled_trees style no_starts parent g)
  styled-distinct g parent distinct key = omega (arith, distinct key, styled-times key g parent)

pub scopes_tell_starts : ScopesTellStarts
scopes_tell_starts table style document distinct creator name =
    ap start (scopes_tell_events table (styled style no_starts document) (styled-distinct style document None distinct) creator name)
