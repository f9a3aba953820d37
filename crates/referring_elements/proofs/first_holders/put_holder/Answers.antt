use Rattle.std.proofs.Common.{◌∙◌, ap, sym}
use Rattle.std.specs.Option.{option_or}
use Rattle.std.specs.Str.{chars}
use Rattle.std.proofs.lemmas.Result.{on_ok_weaker}
use Rattle.referring_elements.specs.ElementsById.{element_of}
use Rattle.referring_elements.proofs.FirstHolderLemmas.{none-holds, or-none, some-holds}
use Rattle.referring_elements.proofs.first_holders.put_holder.Goals as goal

pub returns-in-Some : goal.returns-in-Some
unfolding chars
returns-in-Some c = record {
  ok = on_ok_weaker c.put_first.result
      (λ put id. put id ∙ ap (option_or (element_of c.args.elements.now id)) (sym (some-holds c.args.arena.now.tree c.args.key id (chars c.in-Some.id.now) c.in-Some.ensures.characters)))
      c.put_first.ensures.ok;
}

pub returns-in-None : goal.returns-in-None
unfolding chars
returns-in-None c = record {
  ok = λ id. or-none (element_of c.args.elements.now id) ∙ ap (option_or (element_of c.args.elements.now id)) (sym (none-holds c.args.arena.now.tree c.args.key id c.in-None.ensures.characters));
}
