use Rattle.std.proofs.Common.{rules, arith, ap, length}
use Rattle.std.specs.Str.{chars}
use Rattle.ports.proofs.CauseLemmas.{raises_none, raises_more}
use Rattle.ports.proofs.FetchLemmas.{front_none, length_more, told_more}
use Rattle.ports.proofs.fetch.fetch.Goals as goal

pub loop-bytes-init : goal.loop-bytes-init
loop-bytes-init g c = record {
  front = front_none (g.S.Shelf.held c.args.shelf.now) (chars c.args.name.now) c.new-bytes.result c.new-bytes.ensures.empty;
  short = omega (arith, ap length c.new-bytes.ensures.empty);
  held = search rules;
  honest = search rules;
  faults = search rules;
  taken = raises_none _ _ (ap length c.new-bytes.ensures.empty);
}

pub loop-bytes-preserved : goal.loop-bytes-preserved
loop-bytes-preserved g c =
    let longer = length_more c.extend.new.self c.loop-bytes.bytes c.read_at.new.buf c.in_ok-count.count c.in_ok-extend.ensures.ok c.in_ok-count.ensures.bound in
    record {
      front = told_more (g.S.Shelf.held c.args.shelf.now) (g.S.Shelf.held c.loop-bytes.shelf) (chars c.args.name.now) c.loop-bytes.bytes c.read_at.new.buf c.extend.new.self c.len.result c.in_ok-count.count
          c.loop-bytes.invariant.held c.len.ensures.length c.loop-bytes.invariant.front c.in_ok-count.ensures.bytes c.in_ok-count.ensures.bound c.in_ok-extend.ensures.ok;
      short = omega (arith, longer, c.if-count-len.false, c.len-in-loop-bytes.ensures.length);
      held = search rules;
      honest = search rules;
      faults = omega (arith, c.read_at.ensures.cause.later, c.loop-bytes.invariant.faults);
      taken = raises_more _ _ _ _ _ _ c.loop-bytes.invariant.taken c.in_ok-count.ensures.taken longer;
    }
