use Rattle.std.proofs.Common.{◌≡◌, ◌∷◌, take}
use Rattle.dirty_walk.proofs.document_styles.author_sheet.Given as goal

abbrev pub invariant-loop-text : goal.invariant-loop-text
invariant-loop-text l = l.all ≡ l.sheet ∷ take l.text-index l.texts
