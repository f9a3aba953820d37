use Rattle.std.proofs.Common.{◌||◌, ◌∙◌, false, true, ap, sym}
use Rattle.std.proofs.Math.Bool.{or-false}
use Rattle.std.specs.Str.{chars}
use Rattle.edit_work.specs.KeyedSources.{is_among}
use Rattle.referring_elements.proofs.FoundLemmas.{refers-none, refers-some}
use Rattle.referring_elements.proofs.referring.add_by_id.Goals as goal

pub returns-in_ok-add_references-clause-ok : goal.returns-in_ok-add_references-clause-ok
unfolding chars
returns-in_ok-add_references-clause-ok c = λ key.
    c.in_ok-add_references.ensures.ok key
    ∙ ap (λ b. is_among c.args.found.now key || b)
    (refers-some c.args.lookup.now.arena.now.tree c.args.index.now key c.args.target (chars c.in-Some.id.now) true c.in-Some.ensures.characters (sym c.if-branch.true ∙ c.in_ok-is_named.ensures.test))

pub returns-else-branch-clause-ok : goal.returns-else-branch-clause-ok
unfolding chars
returns-else-branch-clause-ok c = λ key.
    sym (or-false (is_among c.args.found.now key))
    ∙ ap (λ b. is_among c.args.found.now key || b)
    (refers-some c.args.lookup.now.arena.now.tree c.args.index.now key c.args.target (chars c.in-Some.id.now) false c.in-Some.ensures.characters (sym c.if-branch.false ∙ c.in_ok-is_named.ensures.test))

pub returns-in_default-clause-ok : goal.returns-in_default-clause-ok
unfolding chars
returns-in_default-clause-ok c = λ key.
    sym (or-false (is_among c.args.found.now key))
    ∙ ap (λ b. is_among c.args.found.now key || b) (refers-none c.args.lookup.now.arena.now.tree c.args.index.now key c.args.target c.in_default.ensures.characters)
