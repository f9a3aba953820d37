use Rattle.std.proofs.Common.{ap, refl, sym, ◌∙◌}
use Rattle.std.specs.Str.{chars}
use Rattle.marker_cli.specs.OpenBooks.{entered}
use Rattle.marker_cli.specs.OpenVolumes.{book_of, turned_to}
use Rattle.marker_cli.proofs.OpenBookLemmas.{enter_led, enter_missed, enter_stayed, enter_turned}
use Rattle.marker_cli.proofs.open_book.OpenBook.enter.Goals as goal

pub returns-in-Some : goal.returns-in-Some
returns-in-Some c = record {
  answer =
      ap (entered (chars c.args.name.now)) (ap book_of (sym c.self.view_is))
      ∙ (enter_led (chars c.args.name.now) c.self.inside.volume c.self.inside.present c.self.invariant c.in-Some.place c.in-Some.ensures.place).1;
  turned =
      enter_turned (chars c.args.name.now) c.self.inside.volume c.self.inside.present c.self.invariant c.in-Some.place c.in-Some.ensures.place
      ∙ ap (turned_to (chars c.args.name.now)) c.self.view_is;
}

pub returns-in-None : goal.returns-in-None
returns-in-None c = record {
  answer = (
    ap (entered (chars c.args.name.now)) (ap book_of (sym c.self.view_is))
        ∙ enter_missed (chars c.args.name.now) c.self.inside.volume c.self.inside.present c.self.invariant c.in-None.ensures.place,
    refl,
  );
  turned =
      sym c.self.view_is ∙ enter_stayed (chars c.args.name.now) c.self.inside.volume c.self.inside.present c.self.invariant c.in-None.ensures.place
      ∙ ap (turned_to (chars c.args.name.now)) c.self.view_is;
}
