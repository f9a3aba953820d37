use Rattle.std.proofs.Common.{arith, ap, ◌∙◌, ◌++◌, length}
use Rattle.std.specs.List.{repeat}
use Rattle.std.specs.Str.{chars}
use Rattle.representation.proofs.DraftLemmas.{extended-by_nothing, repeat-nil, goes_over, stays_within, stops_short, grows, room_left, room_falls, was_over}
use Rattle.representation.proofs.draft.Draft.push.Goals.{then-self-via-then-self, then-self-via-else-self+then-length-eq0, then-self-via-else-self+else-length-eq0+then-times-eq0}
use Rattle.representation.proofs.draft.Draft.push.Goals as goal

pub returns-then-times-self-clause-ok : goal.returns-then-times-self-clause-ok
returns-then-times-self-clause-ok c = goes_over _ _ _ _ _ _ _ c.self.view_is c.if-self.false c.self.invariant c.character_count-length.ensures.count c.if-length-eq0.false c.if-times-self.true

pub invariant_of-self-in-loop-done : goal.invariant_of-self-in-loop-done
invariant_of-self-in-loop-done c =
    room_left _ _ _ _ _ _ _ c.self.invariant c.character_count-length.ensures.count c.loop-done.invariant.text c.loop-done.invariant.room

pub invariant_of-self-in_err-push_str : goal.invariant_of-self-in_err-push_str
invariant_of-self-in_err-push_str c =
    omega (arith, ap length c.in_err-push_str.ensures.err, room_left _ _ _ _ _ _ _ c.self.invariant c.character_count-length.ensures.count c.loop-done.invariant.text c.loop-done.invariant.room)

pub loop-done-preserved : goal.loop-done-preserved
loop-done-preserved c = record {
  text = grows _ _ _ _ _ c.loop-done.invariant.text c.in_ok-push_str.ensures.ok;
  room = room_falls _ _ _ _ _ c.loop-done.invariant.room c.if-times-self.false c.loop-done-test.true;
  is_over = c.loop-done.invariant.is_over;
}

pub returns-clause-ok : goal.returns-clause-ok
returns-clause-ok c =
    stays_within _ _ _ _ _ _ _ _ _ c.self.view_is c.if-self.false c.loop-done.invariant.is_over c.self.invariant c.character_count-length.ensures.count c.if-times-self.false
    (c.loop-done.invariant.text ∙ ap (λ n. c.self.inside.text ++ repeat n (chars c.args.piece.now)) (omega arith))

pub returns-then-self-clause-ok : goal.returns-then-self-clause-ok
returns-then-self-clause-ok c = elim c.then-self.branch [
  | then-self-via-then-self w ↦ was_over _ _ _ _ c.self.view_is w.if-self.true
  | then-self-via-else-self+then-length-eq0 w ↦ extended-by_nothing _ c.args.times (chars c.args.piece.now) (repeat-nil c.args.times (chars c.args.piece.now) (omega (arith, c.character_count-length.ensures.count)))
  | then-self-via-else-self+else-length-eq0+then-times-eq0 w ↦ extended-by_nothing _ c.args.times (chars c.args.piece.now) (ap (λ n. repeat n (chars c.args.piece.now)) w.if-times-eq0.true)
]

pub returns-in_err-push_str-clause-err : goal.returns-in_err-push_str-clause-err
returns-in_err-push_str-clause-err c =
    stops_short c.from_residual.result _ _ _ _ _ _ _ _ _ _ c.self.view_is c.if-self.false c.loop-done.invariant.is_over c.self.invariant c.character_count-length.ensures.count c.if-times-self.false c.loop-done-test.true
    (c.in_err-push_str.ensures.err ∙ c.loop-done.invariant.text)
