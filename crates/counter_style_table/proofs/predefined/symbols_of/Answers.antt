use Rattle.std.proofs.Common.{sym, ap, ◌∙◌}
use Rattle.std.specs.Str.{chars}
use Rattle.std.specs.declared.str.Chars.{Chars}
use Rattle.std.proofs.lemmas.Str.{Chars-Drains, encodes-chars}
use Rattle.css_definitions.specs.PredefinedStyles.{symbols_of}
use Rattle.counter_style_table.proofs.predefined.symbols_of.Goals as goal

pub returns : goal.returns
returns c =
    let rest = ap (λ (left : Chars). left.rest.now) c.into_iter-character-iterator.ensures.into_iter_gives ∙ c.chars-character-items.ensures.rest in
    record {
      symbols =
          c.loop-character.invariant
          ∙ ap symbols_of
          (Chars-Drains (chars c.args.characters.now) c.loop-character.yielded c.into_iter-character-iterator.result
          (encodes-chars c.args.characters.now c.utf8.characters ∙ sym rest)
          (c.next.new.self, (c.loop-character.character-iterator, c.loop-character.yielded_by, c.in-None.ensures.steps)));
    }
