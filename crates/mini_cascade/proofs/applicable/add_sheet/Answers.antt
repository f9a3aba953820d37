use Rattle.std.proofs.Common.{◌≡◌, ◌∙◌, ◌++◌, List, flat_map, map, ap, subst}
use Rattle.std.specs.Map.Iter.{deref}
use Rattle.std.proofs.lemmas.Result.{on_ok_weaker}
use Rattle.plain_types.specs.declared.selector_parts.PseudoElement.{PseudoElement}
use Rattle.plain_types.specs.declared.selector_parts.PseudoElement.TheVariants.{Own, Marker, Before, After}
use Rattle.node_arena.specs.Document.{IsKeyedDocument}
use Rattle.mini_cascade.specs.Declarations.{Applied, declared_in}
use Rattle.mini_cascade.specs.RuleTables.{candidates}
use Rattle.mini_cascade.proofs.applicable.add_sheet.Goals as goal

pub returns : goal.returns
returns c =
    let tree = c.args.siblings.now in
    let key = c.args.key in
    let rules = c.args.table.now.rules in
    let same = c.arena-arena.ensures.tree in
    let found : map deref c.as_slice.result.now ≡ candidates tree key rules =
    ap (map deref) c.as_slice.ensures.value ∙ c.in_ok-rules.ensures.candidates ∙ ap (λ one. candidates one key rules) same in
    let all = λ (pseudo : PseudoElement) (old : List Applied).
    ap (λ list. old ++ flat_map (declared_in tree key pseudo c.args.origin) list) found
    ∙ ap (λ list. old ++ list) (c.table_misses_no_rule.ensures.declarations tree key pseudo c.args.origin rules (subst IsKeyedDocument same c.arena_holds_document.ensures.document) c.requires) in
    record {
      own = on_ok_weaker c.add_rules.result (λ is. is ∙ all Own c.args.lists.now.own) c.add_rules.ensures.own;
      marker = on_ok_weaker c.add_rules.result (λ is. is ∙ all Marker c.args.lists.now.marker) c.add_rules.ensures.marker;
      before = on_ok_weaker c.add_rules.result (λ is. is ∙ all Before c.args.lists.now.before) c.add_rules.ensures.before;
      after = on_ok_weaker c.add_rules.result (λ is. is ∙ all After c.args.lists.now.after) c.add_rules.ensures.after;
    }
