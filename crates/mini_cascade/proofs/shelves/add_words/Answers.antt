use Rattle.std.proofs.Common.{◌∙◌, ◌||◌, Bool, Bor, List, ℕ, false, nat_eq, option_copied, ap, sym}
use Rattle.std.specs.List.{list_any}
use Rattle.std.specs.Map.Iter.{deref}
use Rattle.std.specs.Option.{option_map_or}
use Rattle.std.proofs.lemmas.Result.{on_ok_weaker}
use Rattle.selector_match.specs.Attributes.{parts}
use Rattle.mini_cascade.specs.Machinery.Shelves.{is_filed}
use Rattle.mini_cascade.proofs.Members.{any_map}
use Rattle.mini_cascade.proofs.shelves.add_words.Goals as goal

pub returns-in_ok-words-in-Some : goal.returns-in_ok-words-in-Some
returns-in_ok-words-in-Some c = record {
  ok = on_ok_weaker c.add_all.result (λ added place.
      let filed : List ℕ → Bool = λ word. is_filed c.args.shelf.now word place in
      added place
      ∙ ap (λ b. list_any (nat_eq place) c.args.places.now.items || b)
      (ap (list_any (λ (name : Bor (List ℕ)). filed name.now)) c.as_slice.ensures.value
      ∙ sym (any_map filed deref c.in_ok-words-in-Some.field-0.items)
      ∙ c.in_ok-words-in-Some.ensures.words filed
      ∙ ap (λ bytes. list_any filed (parts bytes)) c.as_bytes.ensures.value
      ∙ sym (ap (λ found. option_map_or (λ bytes. list_any filed (parts bytes)) (option_copied found) false) c.in-Some.is)))
      c.add_all.ensures.ok;
}
