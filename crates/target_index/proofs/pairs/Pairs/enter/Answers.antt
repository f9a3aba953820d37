use Rattle.std.proofs.Common.{◌≡◌, ◌∙◌, false, is_some, subst, sym}
use Rattle.std.specs.Map.{lookup}
use Rattle.std.specs.Str.{chars}
use Rattle.std.specs.String.{string_bytes}
use Rattle.std.proofs.lemmas.Str.{IsUtf8-string_bytes}
use Rattle.target_index.specs.Pairs.{IsEntered}
use Rattle.target_index.specs.Views.{pairs_of}
use Rattle.target_index.proofs.ViewLemmas.{is_asked}
use Rattle.target_index.proofs.WriteLemmas.{entering_keeps, entering_room, is_entered, was_entered}
use Rattle.target_index.proofs.pairs.Pairs.enter.Goals as goal

pub returns-then-contains_key-clause-entered : goal.returns-then-contains_key-clause-entered
returns-then-contains_key-clause-entered c =
    rw (← c.self.view_is) (was_entered string_bytes IsUtf8-string_bytes c.args.id.now c.utf8.id c.self.inside.by_id.entries (sym c.contains_key.ensures ∙ c.if-contains_key.true))

pub returns-clause-keys : goal.returns-clause-keys
returns-clause-keys c =
    rw (← c.self.view_is) (entering_keeps string_bytes IsUtf8-string_bytes c.self.inside.by_id.entries c.in_ok-name.name c.new.result _ c.in_ok-insert.ensures.entries
    (subst (λ bytes. is_some (lookup (is_asked string_bytes bytes) c.self.inside.by_id.entries) ≡ false) (sym c.in_ok-name.ensures.ok) (sym c.contains_key.ensures ∙ c.if-contains_key.false))
    c.new.ensures.empty)

pub returns-clause-kept : goal.returns-clause-kept
returns-clause-kept c =
    rw (← c.self.view_is) (entering_room string_bytes IsUtf8-string_bytes c.self.inside.by_id.entries c.in_ok-name.name c.new.result _ c.in_ok-insert.ensures.entries
    (subst (λ bytes. is_some (lookup (is_asked string_bytes bytes) c.self.inside.by_id.entries) ≡ false) (sym c.in_ok-name.ensures.ok) (sym c.contains_key.ensures ∙ c.if-contains_key.false)))

pub returns-clause-entered : goal.returns-clause-entered
returns-clause-entered c =
    subst (λ bytes. IsEntered (pairs_of string_bytes c.insert.new.self.entries) (chars bytes)) c.in_ok-name.ensures.ok (is_entered string_bytes IsUtf8-string_bytes c.self.inside.by_id.entries c.in_ok-name.name c.new.result _ c.in_ok-insert.ensures.entries)
