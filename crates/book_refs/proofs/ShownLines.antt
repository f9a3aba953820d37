-- The lines of a node, by those of its boxes.
use Rattle.std.proofs.Common.{◌≡◌, ◌++◌, ℕ, Option, Some, None, List, ap, is_some, sym, ◌∙◌}
use Rattle.plain_types.specs.declared.box_kind.BoxKind.TheVariants.{Marker, Before, After}
use Rattle.dump_definitions.specs.Dump.{dump}
use Rattle.document_walk.specs.Elements.{one_where}
use Rattle.generated_texts.specs.declared.entry.NodeEntry.{NodeEntry}
use Rattle.generated_texts.specs.Lines.{first_lines, last_lines, lines_of}
use Rattle.generated_texts.specs.References.{kept_at}
use Rattle.ports.specs.Grown.{grown}
use Rattle.ports.proofs.GrownLemmas.{grown-nil}
use Rattle.book_definitions.specs.Chapters.{Chapter}
use Rattle.book_definitions.specs.Lines.{chapter_entries}
use Rattle.book_refs.specs.Machinery.VolumeBoxes.{entry_alone, text_in}
use Rattle.book_refs.proofs.BoxTexts.{first_lines_are, first_of_text, last_lines_are, last_of_text}
use Rattle.book_refs.proofs.Walks.{dump-append}

module _ (volume : List Chapter) (own : Chapter) (key : ℕ) where
  pub first_bytes : dump (lines_of own.document key Marker (text_in own key volume Marker)) ++ dump (lines_of own.document key Before (text_in own key volume Before))
      ≡ dump (first_lines own.document (kept_at (chapter_entries volume own)) key)
  first_bytes =
      sym (dump-append (lines_of own.document key Marker (text_in own key volume Marker)) (lines_of own.document key Before (text_in own key volume Before)))
      ∙ sym (ap dump (first_lines_are own volume key))

  pub last_bytes : dump (lines_of own.document key After (text_in own key volume After)) ≡ dump (last_lines own.document (kept_at (chapter_entries volume own)) key)
  last_bytes = sym (ap dump (last_lines_are own volume key))

  -- a text has none
  pub no_first : (out : Option (List ℕ)) → entry_alone own key ≡ None → out ≡ grown out (dump (first_lines own.document (kept_at (chapter_entries volume own)) key))
  no_first out none = grown-nil out ∙ sym (ap (λ lines. grown out (dump lines)) (first_of_text own volume key none))

  pub no_last : (out : Option (List ℕ)) → entry_alone own key ≡ None → out ≡ grown out (dump (last_lines own.document (kept_at (chapter_entries volume own)) key))
  no_last out none = grown-nil out ∙ sym (ap (λ lines. grown out (dump lines)) (last_of_text own volume key none))

-- the step of an element
pub one_step : (entry : NodeEntry) (kept : Option NodeEntry) → Some entry ≡ kept → one_where (is_some kept) ≡ 1
one_step entry kept is = ap (λ (o : Option NodeEntry). one_where (is_some o)) (sym is)
