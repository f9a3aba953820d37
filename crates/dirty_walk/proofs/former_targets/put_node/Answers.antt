use Rattle.std.proofs.Common.{◌++◌, ◌∙◌, ap, append-nil, option_copied, sym}
use Rattle.dirty_walk.specs.Machinery.FormerLists.{former_of}
use Rattle.dirty_walk.proofs.former_targets.put_node.Goals as goal

pub returns-in_ok-put_id-clause-ok : goal.returns-in_ok-put_id-clause-ok
returns-in_ok-put_id-clause-ok c = λ shown shows.
    c.in_ok-put_id.ensures.ok
    ∙ ap (λ id. c.args.former.now ++ former_of c.args.lookup.now.arena.now.tree id) (ap (λ found. option_copied found) (sym c.in-Some.is) ∙ c.id_of.ensures.id shown shows)

pub returns-in_default-clause-ok : goal.returns-in_default-clause-ok
returns-in_default-clause-ok c = λ shown shows.
    sym (append-nil c.args.former.now)
    ∙ ap (λ id. c.args.former.now ++ former_of c.args.lookup.now.arena.now.tree id) (ap (λ found. option_copied found) (sym c.in_default.is) ∙ c.id_of.ensures.id shown shows)
