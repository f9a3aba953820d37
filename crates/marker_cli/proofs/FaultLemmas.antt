-- Faults of parts, as the statuses with which they end a run.
use Rattle.std.proofs.Common.{◌≡◌, ℕ, List, Result, refl, sym, ◌∙◌, ap, inl, inr, ◌⊎◌}
use Rattle.std.specs.Prelude.{Ok, Err, IfErr}
use Rattle.std.specs.Result.{IsErr, IsErrAnd}
use Rattle.edit_script.specs.Faults.{IsFault as IsScriptFault}
use Rattle.edit_script.specs.Scripts.{FailsAsScript, ReadsAsScript}
use Rattle.edit_script.specs.declared.command.Command.{Command}
use Rattle.edit_script.specs.declared.script_kind.ScriptKind.{ScriptKind}
use Rattle.edit_script.specs.declared.fault.ScriptFault.{ScriptFault}
use Rattle.edit_script.specs.declared.fault.ScriptFault.TheVariants as script
use Rattle.forest.specs.Forest.{Forest}
use Rattle.plain_types.specs.declared.node.Node.{Node}
use Rattle.ports.specs.declared.put_fault.PutFault.{PutFault}
use Rattle.ports.specs.declared.put_fault.PutFault.TheVariants as put
use Rattle.xhtml_reader.specs.Fault.{IsFault}
use Rattle.xhtml_reader.specs.Readings.{ReadsAsDocument}
use Rattle.xhtml_reader.specs.declared.fault.DocFault.{DocFault}
use Rattle.xhtml_reader.specs.declared.fault.DocFault.TheVariants.{Malformed, Memory}
use Rattle.xml_definitions.specs.Faults.{FailsAsDocument}
use Rattle.marker_cli.specs.declared.status.Status.{Status}
use Rattle.marker_cli.specs.declared.status.Status.TheVariants as status
use Rattle.marker_cli.specs.Documents.{Reading, tree_of}
use Rattle.marker_cli.specs.Edit.{commands_of}
use Rattle.marker_cli.specs.Ends.{Gives, IsCaused, IsPutCaused, IsStop, part_status}
use Rattle.marker_cli.specs.Names.{TellsOfLine}
use Rattle.marker_cli.specs.Parts.{part_of}
use Rattle.marker_cli.specs.Machinery.Statuses.{document_status, part_fault, put_status, script_status}

-- what a `?` hands on
abbrev pub HandsOn : {A : Type 0} → Result A Status → Status → Type 0
HandsOn result status = IsErr result × IsErrAnd result (λ error. error ≡ status)

-- a document that wasn't read
pub no_tree : (text : List ℕ) (reading : Reading) (fault : DocFault) (tree : Result (Forest Node) Status) → HandsOn tree (document_status fault)
    → ((place : ℕ × ℕ) → ReadsAsDocument text (Err place) → reading ≡ Err place) → IsFault (FailsAsDocument text) fault → Gives (tree_of reading) tree
no_tree text reading fault (Ok x) is one fails = absurd is.1
no_tree text reading (Malformed line column) (Err error) is one fails = inr (ap tree_of (one (line, column) fails) ∙ ap Err (sym is.1))
no_tree text reading Memory (Err error) is one fails = inl is.1

-- a document of a book that wasn't read
pub no_part : (place : ℕ) (text : List ℕ) (reading : Reading) (fault : DocFault) → ((there : ℕ × ℕ) → ReadsAsDocument text (Err there) → reading ≡ Err there)
    → IsFault (FailsAsDocument text) fault → (part_fault place fault ≡ status.Memory) ⊎ (part_of place reading ≡ Err (part_fault place fault))
no_part place text reading (Malformed line column) one fails = inr (ap (part_of place) (one (line, column) fails))
no_part place text reading Memory one fails = inl refl

pub part_caused : (place : ℕ) (fault : DocFault) → IsCaused ⊥ ⊥ ⊥ ⊥ (part_fault place fault)
part_caused place (Malformed line column) = tt
part_caused place Memory = tt

pub part_file : (place : ℕ) (fault : DocFault) → TellsOfLine (part_fault place fault) → ⊥
part_file place (Malformed line column) tells = tells
part_file place Memory tells = tells

pub part_stops : (place : ℕ) (fault : DocFault) → IsStop (part_fault place fault)
part_stops place (Malformed line column) = tt
part_stops place Memory = tt

-- a script that wasn't read
pub no_commands : (kind : ScriptKind) (text : List ℕ) (reading : Result (List Command) ℕ) (fault : ScriptFault) (commands : Result (List Command) Status) → HandsOn commands (script_status fault)
    → ((number : ℕ) → ReadsAsScript kind text (Err number) → reading ≡ Err number) → IsScriptFault (FailsAsScript kind text) fault → Gives (commands_of reading) commands
no_commands kind text reading fault (Ok x) is one fails = absurd is.1
no_commands kind text reading (script.BadLine number) (Err error) is one fails = inr (ap commands_of (one number fails) ∙ ap Err (sym is.1))
no_commands kind text reading script.Memory (Err error) is one fails = inl is.1

module _ {A : Type 0} where
  -- what such a status is about
  pub tree_caused : (fault : DocFault) (tree : Result A Status) → HandsOn tree (document_status fault) → IsCaused ⊥ ⊥ ⊥ ⊥ (part_status tree)
  tree_caused fault (Ok x) is = absurd is.1
  tree_caused (Malformed line column) (Err error) is = rw is.1 tt
  tree_caused Memory (Err error) is = rw is.1 tt

  pub tree_file : (fault : DocFault) (tree : Result A Status) → HandsOn tree (document_status fault) → TellsOfLine (part_status tree) → ⊥
  tree_file fault (Ok x) is tells = absurd is.1
  tree_file (Malformed line column) (Err error) is tells = rw is.1 at tells
  tree_file Memory (Err error) is tells = rw is.1 at tells

  pub tree_stops : (fault : DocFault) (tree : Result A Status) → HandsOn tree (document_status fault) → IfErr tree IsStop
  tree_stops fault (Ok x) is = tt
  tree_stops (Malformed line column) (Err error) is = rw is.1 tt
  tree_stops Memory (Err error) is = rw is.1 tt

  pub commands_caused : (fault : ScriptFault) (commands : Result A Status) → HandsOn commands (script_status fault) → IsCaused ⊥ ⊥ ⊥ ⊥ (part_status commands)
  commands_caused fault (Ok x) is = absurd is.1
  commands_caused (script.BadLine number) (Err error) is = rw is.1 tt
  commands_caused script.Memory (Err error) is = rw is.1 tt

  pub commands_file : (fault : ScriptFault) (commands : Result A Status) → HandsOn commands (script_status fault) → TellsOfLine (part_status commands) → ⊥
  commands_file fault (Ok x) is tells = absurd is.1
  commands_file (script.BadLine number) (Err error) is tells = rw is.1 at tells
  commands_file script.Memory (Err error) is tells = rw is.1 at tells

  pub commands_stops : (fault : ScriptFault) (commands : Result A Status) → HandsOn commands (script_status fault) → IfErr commands IsStop
  commands_stops fault (Ok x) is = tt
  commands_stops (script.BadLine number) (Err error) is = rw is.1 tt
  commands_stops script.Memory (Err error) is = rw is.1 tt

  -- bytes that weren't put
  pub not_put : (failed : Type 0) (fault : PutFault) (result : Result A Status) → HandsOn result (put_status fault)
      → (fault ≡ put.Memory) ⊎ ((fault ≡ put.WriteFault) × failed) → IsPutCaused failed result
  not_put failed fault (Ok x) is cause = tt
  not_put failed fault (Err error) is (inl memory) = inl (is.1 ∙ ap put_status memory)
  not_put failed fault (Err error) is (inr write) = inr (is.1 ∙ ap put_status write.0, write.1)
