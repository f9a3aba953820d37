use Rattle.std.proofs.Common.{◌≡◌, ◌∙◌, [], ℕ, List, Option, None, Some, ap, refl, option_copied, unwrap_or, Bor}
use Rattle.std.specs.Option.{option_map}
use Rattle.std.specs.Str.{chars}
use Rattle.quote_depth.specs.Marks.{mark}
use Rattle.content_eval.proofs.eval_items.mark.Goals as goal

shown : (o : Option (Bor (List ℕ))) (d : Bor (List ℕ)) → chars (unwrap_or o d).now ≡ unwrap_or (option_map chars (option_copied o)) (chars d.now)
shown None d = refl
shown (Some text) d = refl

written : (o : Option (Bor (List ℕ))) (d r : Bor (List ℕ)) (m : Option (List ℕ)) → r ≡ unwrap_or o d → chars d.now ≡ [] → option_map chars (option_copied o) ≡ m → chars r.now ≡ unwrap_or m []
written o d r m e f g = ap (λ (text : Bor (List ℕ)). chars text.now) e ∙ shown o d ∙ ap (unwrap_or (option_map chars (option_copied o))) f ∙ ap (λ n. unwrap_or n []) g

pub returns : goal.returns
unfolding chars
returns c = record {
  mark = written c.step.result.0 _ c.unwrap_or.result (mark c.args.quotes.now c.args.depth c.args.kind) c.unwrap_or.ensures refl c.step.ensures.mark;
}
