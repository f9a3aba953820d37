-- The status with which a fault ends a run (our own).
use Rattle.std.specs.Prelude.{ℕ}
use Rattle.edit_script.specs.declared.fault.ScriptFault.{ScriptFault}
use Rattle.edit_script.specs.declared.fault.ScriptFault.TheVariants as script
use Rattle.ports.specs.declared.put_fault.PutFault.{PutFault}
use Rattle.ports.specs.declared.put_fault.PutFault.TheVariants as put
use Rattle.xhtml_reader.specs.declared.fault.DocFault.{DocFault}
use Rattle.xhtml_reader.specs.declared.fault.DocFault.TheVariants as document
use Rattle.marker_cli.specs.declared.status.FileAt.TheVariants.{Word}
use Rattle.marker_cli.specs.declared.status.Status.{Status}
use Rattle.marker_cli.specs.declared.status.Status.TheVariants.{BadDocument, BadPart, BadScript, Memory, WriteFault}

abbrev pub document_status : DocFault → Status
document_status (document.Malformed line column) = BadDocument line column
document_status document.Memory = Memory

-- of a document of a book, which the word at this place names
abbrev pub part_fault : ℕ → DocFault → Status
part_fault place (document.Malformed line column) = BadPart (Word place) line column
part_fault place document.Memory = Memory

abbrev pub script_status : ScriptFault → Status
script_status (script.BadLine number) = BadScript number
script_status script.Memory = Memory

abbrev pub put_status : PutFault → Status
put_status put.WriteFault = WriteFault
put_status put.Memory = Memory
