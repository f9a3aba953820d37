use Rattle.std.proofs.Common.{◌≡◌, ◌∙◌, ℕ, List, Option, Some, None, ap, subst, sym}
use Rattle.std.specs.Prelude.{IfSome, IsSome}
use Rattle.std.specs.Str.{chars}
use Rattle.forest.specs.Forest.{Forest}
use Rattle.forest.specs.Keys.{Keyed, HasDistinctKeys}
use Rattle.plain_types.specs.declared.node.Node.{Node}
use Rattle.node_arena.specs.Nodes.{name_of}
use Rattle.generated_texts.specs.References.{first_holder}
use Rattle.kept_elements.proofs.HolderNames.{holder_named}
use Rattle.dirty_walk.specs.Books.{StyledDocument}
use Rattle.dirty_walk.proofs.book.Book.first.Goals as goal

-- what an id names is an element
are_named : (tree : Forest (Keyed Node)) (id : List ℕ) → HasDistinctKeys tree → (o : Option ℕ) → o ≡ first_holder tree id → IfSome o (λ key. IsSome (name_of tree key))
are_named tree id distinct None is = tt
are_named tree id distinct (Some key) is = holder_named id tree key distinct (sym is)

pub returns-clause-first : goal.returns-clause-first
returns-clause-first c =
    let tree : c.self.inside.arena.tree ≡ c.args.self.now.tree = ap (λ (styled : StyledDocument). styled.tree) c.self.view_is in
    c.first_holder.ensures.first ∙ ap (λ (t : Forest (Keyed Node)). first_holder t (chars c.args.id.now)) tree

pub returns-clause-element : goal.returns-clause-element
returns-clause-element c =
    let tree : c.self.inside.arena.tree ≡ c.args.self.now.tree = ap (λ (styled : StyledDocument). styled.tree) c.self.view_is in
    are_named c.args.self.now.tree (chars c.args.id.now)
    (subst (λ (t : Forest (Keyed Node)). HasDistinctKeys t) tree c.arena_holds_document.ensures.document.distinct)
    c.first_holder.result
    (c.first_holder.ensures.first ∙ ap (λ (t : Forest (Keyed Node)). first_holder t (chars c.args.id.now)) tree)
