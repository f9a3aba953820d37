-- What a handle owns: nothing at null, else what a box owns.
use mir.Syntax.{Ty}
use base.Fml.{Fml, feq}
use base.Stored.{Coded}
use denote.RawPtr.{Ptr, null_ptr}
use Rattle.std.specs.Prelude.{Option, Some, None}
use Rattle.std.specs.Box.Ownership.{box_owns}
use Rattle.std.specs.Coded.{coded_option}
use Rattle.std.specs.Global.{Global}
use Rattle.std.specs.contracts.impls.GlobalAllocator.TheImpl.{ghosts}
use Rattle.marker_session.specs.contracts.session.Session.{the_row}

abbrev pub Content : Type 0
Content = the_row.Denot

abbrev pub content_coded : Coded (Option Content)
content_coded = coded_option the_row.coded

-- every `Global` is the one allocator of the program
abbrev pub the_global : Global
the_global = record { memory = record { seal = tt } }

-- the right to free a block
abbrev pub frees : Ty → Ptr → Fml
frees = ghosts.dealloc_token the_global

abbrev pub handle_owns : Ptr → Option Content → Fml
handle_owns at None = feq Ptr at null_ptr
handle_owns at (Some session) = box_owns frees the_row at session
