use Rattle.engine_rows.proofs.books.the_moved_book_tells_its_document.Given as goal

abbrev pub ghosts-edited_book : goal.ghosts-edited_book
ghosts-edited_book a = record { name = a.blank.name; parts = a.blank.parts }
