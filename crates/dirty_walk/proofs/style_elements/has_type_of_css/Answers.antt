use Rattle.std.proofs.Common.{◌≡◌, ◌∙◌, ◌||◌, true, List, Option, Some, None, ℕ, ap, refl, sym}
use Rattle.std.specs.Prelude.{codes, encode_utf8_all, option_map}
use Rattle.std.specs.Option.{option_map_or}
use Rattle.std.specs.Str.{chars}
use Rattle.forest.specs.Forest.{Forest}
use Rattle.forest.specs.Keys.{Keyed}
use Rattle.plain_types.specs.declared.node.Node.{Node}
use Rattle.node_arena.specs.Nodes.{attr_of}
use Rattle.generated_texts.specs.StyleElements.{is_css}
use Rattle.css_definitions.specs.Words.{is_word}
use Rattle.dirty_walk.proofs.StyleElementLemmas.{is_css_by, type-characters}
use Rattle.dirty_walk.proofs.style_elements.has_type_of_css.Goals as goal

-- the `type` of a node, by the look-up of its name
read : (tree : Forest (Keyed Node)) (key : ℕ) (kind : Option (List ℕ)) → kind ≡ attr_of tree key (chars (codes "type")) → kind ≡ attr_of tree key (codes "type")
read tree key kind is = is ∙ ap (attr_of tree key) type-characters

written : (tree : Forest (Keyed Node)) (key : ℕ) (kind : Option (List ℕ)) → kind ≡ option_map encode_utf8_all (attr_of tree key (chars (codes "type")))
    → kind ≡ option_map encode_utf8_all (attr_of tree key (codes "type"))
written tree key kind is = is ∙ ap (λ name. option_map encode_utf8_all (attr_of tree key name)) type-characters

pub returns-then-is_empty : goal.returns-then-is_empty
returns-then-is_empty c =
    let tree = c.args.arena.now.tree in
    let word = is_word (chars c.in-Some.kind.now) (codes "text/css") in
    c.if-is_empty.true
    ∙ ap (λ empty. empty || word) (sym c.if-is_empty.true)
    ∙ is_css_by (attr_of tree c.args.key (codes "type")) c.in-Some.kind.now c.is_empty.result word
    (read tree c.args.key (Some (chars c.in-Some.kind.now)) c.in-Some.ensures.characters) (written tree c.args.key (Some c.in-Some.kind.now) c.in-Some.ensures.bytes)
    c.is_empty.ensures refl

pub returns-else-is_empty : goal.returns-else-is_empty
returns-else-is_empty c =
    let tree = c.args.arena.now.tree in
    ap (λ empty. empty || c.is_word.result) (sym c.if-is_empty.false)
    ∙ is_css_by (attr_of tree c.args.key (codes "type")) c.in-Some.kind.now c.is_empty.result c.is_word.result
    (read tree c.args.key (Some (chars c.in-Some.kind.now)) c.in-Some.ensures.characters) (written tree c.args.key (Some c.in-Some.kind.now) c.in-Some.ensures.bytes)
    c.is_empty.ensures c.is_word.ensures.word

pub returns-in-None : goal.returns-in-None
returns-in-None c =
    ap (λ kind. option_map_or is_css kind true) (read c.args.arena.now.tree c.args.key None c.in-None.ensures.characters)
