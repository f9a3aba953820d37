use Rattle.std.proofs.Common.{subst, sym}
use Rattle.std.specs.Str.{chars}
use Rattle.edit_script.specs.Scripts.{IsScript}
use Rattle.edit_script.specs.declared.script_kind.ScriptKind.TheVariants.{Edits}
use Rattle.marker_session.specs.Machinery.{fault_of_script}
use Rattle.marker_session.proofs.LineLaws.{edit_line, handed_on, no_edit, unread}
use Rattle.marker_session.proofs.session.Session.apply.Goals as goal

pub returns-in_err-commands-clause-fault : goal.returns-in_err-commands-clause-fault
returns-in_err-commands-clause-fault g c =
    handed_on (chars c.args.line.now) c.args.self.now.styled c.from_residual.result (fault_of_script c.in_err-commands.field-0.0) c.from_residual.ensures
    (unread c.one_reading.ensures (chars c.args.line.now) c.args.self.now.styled c.in_err-commands.field-0.0 c.in_err-commands.ensures.fault)

pub returns-in_err-edit-clause-fault : goal.returns-in_err-edit-clause-fault
returns-in_err-edit-clause-fault g c =
    handed_on (chars c.args.line.now) c.args.self.now.styled c.from_residual-in_err-edit.result c.in_err-edit.field-0.0 c.from_residual-in_err-edit.ensures
    (no_edit c.one_reading.ensures (chars c.args.line.now) c.args.self.now.styled c.as_slice.result.now
    (subst (IsScript Edits (chars c.args.line.now)) (sym c.as_slice.ensures.items) c.in_ok-commands.ensures.found)
    c.in_err-edit.field-0.0 c.in_err-edit.ensures.fault)

pub returns-clause-within_work : goal.returns-clause-within_work
returns-clause-within_work g c = record {
  edit = c.in_ok-edit.edit.now;
  line = edit_line (chars c.args.line.now) c.as_slice.result.now c.in_ok-edit.edit.now
      (subst (IsScript Edits (chars c.args.line.now)) (sym c.as_slice.ensures.items) c.in_ok-commands.ensures.found)
      c.in_ok-edit.ensures.edit;
  within = c.in_ok-edit-2.ensures.within_work;
}
