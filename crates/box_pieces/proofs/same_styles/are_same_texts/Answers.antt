use Rattle.std.proofs.Common.{rules, tests}
use Rattle.std.proofs.lemmas.Iterator.{YieldsList-from_slice, YieldsList-from_zip, same_from_all}
use Rattle.box_pieces.proofs.same_styles.are_same_texts.Goals as goal

pub returns-then-texts-others : goal.returns-then-texts-others
returns-then-texts-others c = record {
  test = same_from_all c.all.new.self _ _ _ _ c.all.ensures.ran (YieldsList-from_zip (YieldsList-from_slice c.args.texts.now cc) (YieldsList-from_slice c.args.others.now cc)) (search rules) (λ x q k. search (rules, tests)) (λ x q k. search (rules, tests));
}
