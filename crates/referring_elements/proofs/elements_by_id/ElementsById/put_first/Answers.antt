use Rattle.std.proofs.Common.{◌≡◌, ◌∙◌, ℕ, List, Some, None, cond, false, is_some, subst, sym}
use Rattle.std.specs.Map.{lookup}
use Rattle.std.specs.Option.{option_or}
use Rattle.std.specs.Str.{bytes_eq, chars}
use Rattle.std.specs.String.{string_bytes}
use Rattle.std.proofs.lemmas.Str.{IsUtf8-string_bytes}
use Rattle.referring_elements.specs.ElementsById.{element_of, elements_of}
use Rattle.target_index.proofs.ViewLemmas.{is_asked}
use Rattle.referring_elements.proofs.FirstHolderLemmas.{enters, stays}
use Rattle.referring_elements.proofs.elements_by_id.ElementsById.put_first.Goals as goal

pub returns-then-contains_key-clause-ok : goal.returns-then-contains_key-clause-ok
returns-then-contains_key-clause-ok c =
    rw (← c.self.view_is)
    (stays string_bytes IsUtf8-string_bytes c.self.inside.by_id.entries c.args.id.now c.utf8.id c.args.key (sym c.contains_key.ensures ∙ c.if-contains_key.true))

pub returns-clause-ok : goal.returns-clause-ok
returns-clause-ok c =
    let name : string_bytes c.in_ok-name.name ≡ c.args.id.now = c.in_ok-name.ensures.ok in
    rw (← c.self.view_is)
    (subst (λ bytes. (other : List ℕ)
    → element_of (elements_of string_bytes c.insert.new.self.entries) other
    ≡ option_or (element_of (elements_of string_bytes c.self.inside.by_id.entries) other) (cond (bytes_eq other (chars bytes)) (Some c.args.key) None)) name
    (enters string_bytes IsUtf8-string_bytes c.self.inside.by_id.entries c.insert.new.self.entries c.in_ok-name.name c.args.key
    (subst (λ bytes. is_some (lookup (is_asked string_bytes bytes) c.self.inside.by_id.entries) ≡ false) (sym name) (sym c.contains_key.ensures ∙ c.if-contains_key.false))
    c.in_ok-insert.ensures.entries))
