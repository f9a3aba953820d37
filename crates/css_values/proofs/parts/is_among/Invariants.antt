use Rattle.std.proofs.Common.{◌≡◌, List, ℕ, map, drop, IsTrue}
use Rattle.std.specs.Borrow.{Bor}
use Rattle.std.specs.List.{list_all}
use Rattle.std.specs.Str.{chars}
use Rattle.css_definitions.specs.Words.{is_among}
use Rattle.reading.specs.Characters.{is_ascii}
use Rattle.css_values.proofs.parts.is_among.Given as goal

abbrev pub invariant-loop-word : goal.invariant-loop-word
invariant-loop-word l = record {
  ascii : IsTrue (list_all (λ (word : Bor (List ℕ)). is_ascii word.now) (drop l.word-index l.words));
  same : is_among (map (λ (word : Bor (List ℕ)). word.now) l.words) (chars l.name) ≡ is_among (map (λ (word : Bor (List ℕ)). word.now) (drop l.word-index l.words)) (chars l.name);
}
