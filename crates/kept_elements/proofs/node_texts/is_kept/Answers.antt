use Rattle.std.proofs.Common.{◌∙◌, Some, ap, sym, option_copied}
use Rattle.std.proofs.lemmas.Option.{same_Some}
use Rattle.kept_elements.proofs.node_texts.is_kept.Goals as goal

pub returns-in-Some : goal.returns-in-Some
returns-in-Some c =
    let there = ap option_copied c.in-Some.is in
    record {
      test = (λ yes. there ∙ ap Some (c.is_same.ensures.test.0 yes), λ held. c.is_same.ensures.test.1 (same_Some c.in-Some.held.now c.args.kept.now (sym there ∙ held)));
    }
