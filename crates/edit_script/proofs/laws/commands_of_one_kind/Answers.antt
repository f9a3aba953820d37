use Rattle.edit_script.proofs.BookLaws.{enter_of_book, redo_of_history, undo_of_history}
use Rattle.edit_script.proofs.laws.commands_of_one_kind.Goals as goal

pub returns : goal.returns
returns c = record { undo = undo_of_history; redo = redo_of_history; enter = enter_of_book }
