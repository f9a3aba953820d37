use Rattle.std.proofs.Common.{sym, ap, ◌∙◌}
use Rattle.std.specs.Str.{chars}
use Rattle.plain_types.specs.declared.counter_style.CounterStyle.{CounterStyle}
use Rattle.css_definitions.specs.Representation.{chosen_style}
use Rattle.representation.proofs.RepresentLemmas.{chosen-unknown, chosen-supplied, chosen-unsupplied}
use Rattle.representation.proofs.represent.affixes.Goals as goal

pub returns-in-Nothing-clause-prefix : goal.returns-in-Nothing-clause-prefix
unfolding chars
returns-in-Nothing-clause-prefix c = ap (λ style. (chosen_style c.args.table.now style).prefix) (sym c.in-Nothing.is)

pub returns-in-Nothing-clause-suffix : goal.returns-in-Nothing-clause-suffix
unfolding chars
returns-in-Nothing-clause-suffix c = ap (λ style. (chosen_style c.args.table.now style).suffix) (sym c.in-Nothing.is)

pub returns-in-None-clause-prefix : goal.returns-in-None-clause-prefix
unfolding chars
returns-in-None-clause-prefix c =
    ap (λ (style : CounterStyle). style.prefix)
    (sym (chosen-unknown c.args.table.now c.args.style.now c.in-Name.name (chars c.as_str.result.now) c.in-Name.is c.as_str.ensures.characters (sym c.in-None.is ∙ c.find.ensures.place)))

pub returns-in-None-clause-suffix : goal.returns-in-None-clause-suffix
unfolding chars
returns-in-None-clause-suffix c =
    ap (λ (style : CounterStyle). style.suffix)
    (sym (chosen-unknown c.args.table.now c.args.style.now c.in-Name.name (chars c.as_str.result.now) c.in-Name.is c.as_str.ensures.characters (sym c.in-None.is ∙ c.find.ensures.place)))

pub returns-then-is_supplied-clause-prefix : goal.returns-then-is_supplied-clause-prefix
unfolding chars
returns-then-is_supplied-clause-prefix c =
    ap (λ (style : CounterStyle). style.prefix)
    (sym (chosen-supplied c.args.table.now c.args.style.now c.in-Symbols.anonymous c.len.result c.is_supplied.result c.in-Symbols.is c.len.ensures.length c.is_supplied.ensures.test c.if-is_supplied.true))

pub returns-then-is_supplied-clause-suffix : goal.returns-then-is_supplied-clause-suffix
unfolding chars
returns-then-is_supplied-clause-suffix c =
    ap (λ (style : CounterStyle). style.suffix)
    (sym (chosen-supplied c.args.table.now c.args.style.now c.in-Symbols.anonymous c.len.result c.is_supplied.result c.in-Symbols.is c.len.ensures.length c.is_supplied.ensures.test c.if-is_supplied.true))

pub returns-else-is_supplied-clause-prefix : goal.returns-else-is_supplied-clause-prefix
unfolding chars
returns-else-is_supplied-clause-prefix c =
    ap (λ (style : CounterStyle). style.prefix)
    (sym (chosen-unsupplied c.args.table.now c.args.style.now c.in-Symbols.anonymous c.len.result c.is_supplied.result c.in-Symbols.is c.len.ensures.length c.is_supplied.ensures.test c.if-is_supplied.false))

pub returns-else-is_supplied-clause-suffix : goal.returns-else-is_supplied-clause-suffix
unfolding chars
returns-else-is_supplied-clause-suffix c =
    ap (λ (style : CounterStyle). style.suffix)
    (sym (chosen-unsupplied c.args.table.now c.args.style.now c.in-Symbols.anonymous c.len.result c.is_supplied.result c.in-Symbols.is c.len.ensures.length c.is_supplied.ensures.test c.if-is_supplied.false))
