use Rattle.std.proofs.Common.{◌≡◌, nat_lt, true, length, is_some, sym, ap, ◌∙◌, arith}
use Rattle.std.proofs.lemmas.Bool.Decides.{nat_tests}
use Rattle.node_arena.specs.Edits.{is_inner_at}
use Rattle.node_arena.proofs.KeyAtLaws.{node-found}
use Rattle.node_arena.proofs.arena.Arena.inner_at.Goals as goal

pub returns-clause-found : goal.returns-clause-found
returns-clause-found c =
    let long = ap length c.as_slice.ensures.steps in
    let some : nat_lt 0 (length c.args.path.now) ≡ true = grind (arith, nat_tests) in
    rw (some, is_inner_at) (ap (λ o. is_some o) c.at.ensures.link ∙ sym (node-found c.args.self.now.tree c.args.path.now))
