use Rattle.std.proofs.Common.{◌+◌, rules, w32, FitsSigned, to_z, of_z, sym, ap, not, ◌∙◌}
use Rattle.std.specs.Prelude.{codes}
use Rattle.std.specs.List.{list_any, list_all}
use Rattle.std.specs.Str.{chars, bytes_eq}
use Rattle.selector_match.specs.Attributes.{has_word}
use Rattle.std.proofs.lemmas.Int.{to_z-of_z}
use Rattle.selector_match.specs.Positions.{is_nth, sibling_count}
use Rattle.selector_match.specs.Matching.{has_attr, matches_simple, matches_compound}
use Rattle.selector_match.proofs.FoldLaws.{type-alone, id-alone, class-alone, root-alone, empty-alone, nth-alone, is-choices, where-choices, not-choices, compound-simples}
use Rattle.selector_match.proofs.TextLaws.{id-characters, class-characters}
use Rattle.selector_match.proofs.compounds.+matches.Goals as goal

pub matches_compound-loop-simple-init : goal.matches_compound-loop-simple-init
matches_compound-loop-simple-init t c =
    let standing = c.args.element.now in
    ap (list_all (matches_simple standing)) c.as_slice-simple-items.ensures.items ∙ sym (compound-simples standing c.args.compound.now)

pub matches_simple-returns-in-Element : goal.matches_simple-returns-in-Element
matches_simple-returns-in-Element t c =
    let standing = c.args.element.now in
    c.is_named.ensures
    ∙ ap (λ name. bytes_eq standing.level.element.name name) c.as_str.ensures.characters
    ∙ sym (type-alone standing c.in-Element.name)
    ∙ ap (matches_simple standing) (sym c.in-Element.is)

pub matches_simple-returns-in-Id : goal.matches_simple-returns-in-Id
matches_simple-returns-in-Id t c =
    let standing = c.args.element.now in
    c.has_attr.ensures
    ∙ ap (λ name. has_attr standing.level.element name (λ text. bytes_eq text (chars c.as_str-in-Id.result.now))) id-characters
    ∙ ap (λ value. has_attr standing.level.element (codes "id") (λ text. bytes_eq text value)) c.as_str-in-Id.ensures.characters
    ∙ sym (id-alone standing c.in-Id.id)
    ∙ ap (matches_simple standing) (sym c.in-Id.is)

pub matches_simple-returns-in-Class : goal.matches_simple-returns-in-Class
matches_simple-returns-in-Class t c =
    let standing = c.args.element.now in
    c.has_attr-in-Class.ensures
    ∙ ap (λ name. has_attr standing.level.element name (λ text. has_word text (chars c.as_str-in-Class.result.now))) class-characters
    ∙ ap (λ value. has_attr standing.level.element (codes "class") (λ text. has_word text value)) c.as_str-in-Class.ensures.characters
    ∙ sym (class-alone standing c.in-Class.class)
    ∙ ap (matches_simple standing) (sym c.in-Class.is)

pub matches_simple-returns-in-Root : goal.matches_simple-returns-in-Root
matches_simple-returns-in-Root t c = c.is_root.ensures ∙ sym (root-alone c.args.element.now) ∙ ap (matches_simple c.args.element.now) (sym c.in-Root.is)

pub matches_simple-returns-in-Empty : goal.matches_simple-returns-in-Empty
matches_simple-returns-in-Empty t c = c.is_empty.ensures ∙ sym (empty-alone c.args.element.now) ∙ ap (matches_simple c.args.element.now) (sym c.in-Empty.is)

pub matches_simple-returns-in-Nth : goal.matches_simple-returns-in-Nth
matches_simple-returns-in-Nth t c =
    let standing = c.args.element.now in
    let step : FitsSigned w32 c.in-Nth.a = search rules in
    let offset : FitsSigned w32 c.in-Nth.b = search rules in
    c.is_nth.ensures
    ∙ ap (λ a. is_nth a (to_z w32 (of_z w32 c.in-Nth.b)) (c.count_siblings-in-Nth.result + 1)) (to_z-of_z w32 c.in-Nth.a step)
    ∙ ap (λ b. is_nth c.in-Nth.a b (c.count_siblings-in-Nth.result + 1)) (to_z-of_z w32 c.in-Nth.b offset)
    ∙ ap (λ n. is_nth c.in-Nth.a c.in-Nth.b (n + 1)) (c.count_siblings-in-Nth.ensures ∙ ap (λ after. sibling_count after c.in-Nth.same_type standing.level) c.counted_side.ensures)
    ∙ sym (nth-alone standing c.in-Nth.a c.in-Nth.b c.in-Nth.from_end c.in-Nth.same_type)
    ∙ ap (matches_simple standing) (sym c.in-Nth.is)

pub matches_simple-returns-in-Is : goal.matches_simple-returns-in-Is
matches_simple-returns-in-Is t c =
    let standing = c.args.element.now in
    c.matches_one.ensures
    ∙ ap (list_any (matches_compound standing)) c.as_slice.ensures.items
    ∙ sym (is-choices standing c.in-Is.choices)
    ∙ ap (matches_simple standing) (sym c.in-Is.is)

pub matches_simple-returns-in-Weightless : goal.matches_simple-returns-in-Weightless
matches_simple-returns-in-Weightless t c =
    let standing = c.args.element.now in
    c.matches_one-in-Weightless.ensures
    ∙ ap (list_any (matches_compound standing)) c.as_slice-in-Weightless.ensures.items
    ∙ sym (where-choices standing c.in-Weightless.choices)
    ∙ ap (matches_simple standing) (sym c.in-Weightless.is)

pub matches_simple-returns-in-Not : goal.matches_simple-returns-in-Not
matches_simple-returns-in-Not t c =
    let standing = c.args.element.now in
    ap not (c.matches_one-in-Not.ensures ∙ ap (list_any (matches_compound standing)) c.as_slice-in-Not.ensures.items)
    ∙ sym (not-choices standing c.in-Not.choices)
    ∙ ap (matches_simple standing) (sym c.in-Not.is)
