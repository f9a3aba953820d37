use Rattle.std.proofs.Common.{arith}
use Rattle.selector_match.specs.Machinery.Sides.{is_later}
use Rattle.selector_match.proofs.CountLaws.{counts-here, kept-more, passed-few, passes-on}
use Rattle.selector_match.proofs.StandingLaws.{element-name, siblings-few}
use Rattle.selector_match.proofs.counting.keep_counts.Goals as goal

pub pass-requires : goal.pass-requires
pass-requires c =
    let tree = c.args.arena.now.tree in
    let document = c.arena_holds_document.ensures.document in
    let has = c.along.invariant in
    let is = element-name tree document c.along.at has.live has.element in
    record {
      few = omega (
        arith,
        document.few,
        passed-few tree (is_later c.args.side) c.along.at c.along.all c.along.passed.by_name.entries c.along.kept.entries has c.in-Some.name c.in-Some.ensures.characters c.in-Some.ensures.bytes is,
        siblings-few tree document (is_later c.args.side) c.along.at has.live has.element,
      );
    }

pub returns-in_err-pass : goal.returns-in_err-pass
returns-in_err-pass c =
    let tree = c.args.arena.now.tree in
    let has = c.along.invariant in
    let is = element-name tree c.arena_holds_document.ensures.document c.along.at has.live has.element in
    record {
      counts = kept-more tree (is_later c.args.side) c.along.kept.entries c.insert.new.self.entries c.along.at (record { all = c.along.all; of_type = c.times-of_type.result }) c.in_ok-insert.ensures.updates.0 has.counts
          (counts-here tree (is_later c.args.side) c.along.at c.along.all c.along.passed.by_name.entries c.along.kept.entries has c.in-Some.name c.in-Some.ensures.characters c.in-Some.ensures.bytes is c.times-of_type.result c.times-of_type.ensures);
    }

pub overflow_add-all : goal.overflow_add-all
overflow_add-all c =
    let tree = c.args.arena.now.tree in
    let document = c.arena_holds_document.ensures.document in
    let has = c.along.invariant in
    omega (arith, document.few, has.all_is, siblings-few tree document (is_later c.args.side) c.along.at has.live has.element)

pub along-preserved : goal.along-preserved
along-preserved c =
    let tree = c.args.arena.now.tree in
    let has = c.along.invariant in
    let is = element-name tree c.arena_holds_document.ensures.document c.along.at has.live has.element in
    passes-on tree (is_later c.args.side) c.along.at c.along.all c.along.passed.by_name.entries c.along.kept.entries has c.in-Some.name c.in-Some.ensures.characters c.in-Some.ensures.bytes is
    (is_later c.opposite.result) c.in-Some-element_beside.next c.pass.new.self.by_name.entries c.insert.new.self.entries c.opposite.ensures c.in-Some-element_beside.ensures.some c.in_ok-pass.ensures.ok
    (kept-more tree (is_later c.args.side) c.along.kept.entries c.insert.new.self.entries c.along.at (record { all = c.along.all; of_type = c.times-of_type.result }) c.in_ok-insert.ensures.updates.0 has.counts
    (counts-here tree (is_later c.args.side) c.along.at c.along.all c.along.passed.by_name.entries c.along.kept.entries has c.in-Some.name c.in-Some.ensures.characters c.in-Some.ensures.bytes is c.times-of_type.result c.times-of_type.ensures))

pub returns-in-None : goal.returns-in-None
returns-in-None c =
    let tree = c.args.arena.now.tree in
    let has = c.along.invariant in
    let is = element-name tree c.arena_holds_document.ensures.document c.along.at has.live has.element in
    record {
      counts = kept-more tree (is_later c.args.side) c.along.kept.entries c.insert.new.self.entries c.along.at (record { all = c.along.all; of_type = c.times-of_type.result }) c.in_ok-insert.ensures.updates.0 has.counts
          (counts-here tree (is_later c.args.side) c.along.at c.along.all c.along.passed.by_name.entries c.along.kept.entries has c.in-Some.name c.in-Some.ensures.characters c.in-Some.ensures.bytes is c.times-of_type.result c.times-of_type.ensures);
    }
