-- What the text goes on with.
use Rattle.std.proofs.Common.{◌≡◌, ◌≢◌, ℕ, ◌<◌, Bool, true, false, List, [], ◌∷◌, ◌++◌, length, map, inr, refl, sym, ap, subst, arith}
use Rattle.std.specs.List.{list_all}
use Rattle.std.proofs.lemmas.Bool.{and_parts}
use Rattle.std.proofs.lemmas.List.{length-append}
use Rattle.xml_definitions.specs.Characters.{is_plain}
use Rattle.xml_definitions.specs.Items.{Item, ArePieces, plain_character}
use Rattle.xml_definitions.specs.Spelling.{Spells}
use Rattle.reading.specs.Reading.{span}
use Rattle.xhtml_items.specs.FirstItem.{BeginsWith}
use Rattle.xhtml_items.specs.Tokens.{item_of}
use Rattle.xhtml_items.specs.declared.token.Token.{Token}
use Rattle.xhtml_items.specs.declared.token.Token.TheVariants.{Doctype, Comment, Instruction, StartTag, EmptyTag, EndTag, Reference, Section, Character}
use Rattle.xhtml_items.proofs.ItemLaws.{start_tag_distinct, empty_tag_distinct}
use Rattle.xhtml_items.proofs.StepLaws.{span_takes}
use Rattle.xhtml_reader.specs.Machinery.Keeping.{Kept, Keeps, Adds, HasSoundNames, accepts_characters}
use Rattle.xhtml_reader.specs.Machinery.States.{State}
use Rattle.xhtml_reader.specs.Machinery.Leading.{Leads, Stops}
use Rattle.xhtml_reader.proofs.Keeps.{added_run, waits_more}
use Rattle.xhtml_reader.proofs.Places.{Leads-one}

-- the parts of a span
pub record Spanned (test : ℕ → Bool) (text front after : List ℕ) : Type 0 where
  pub parts : text ≡ front ++ after
  pub passing : list_all test front ≡ true

pub spanned : (test : ℕ → Bool) (text front after : List ℕ) → span test text ≡ (front, after) → Spanned test text front after
spanned test text front after e =
    let takes = span_takes test text in
    subst (λ (t : List ℕ × List ℕ). Spanned test text t.0 t.1) e (record { parts = takes.1; passing = takes.0 })

pub after_some : (text front after : List ℕ) → text ≡ front ++ after → front ≢ [] → length after < length text
after_some text [] after e some = absurd (some refl)
after_some text (c ∷ cs) after e some = omega (arith, ap length e, length-append cs after)

spelled_run : (front : List ℕ) → list_all is_plain front ≡ true → ArePieces Spells front (map plain_character front)
spelled_run [] plain = refl
spelled_run (c ∷ cs) plain = let p = and_parts (is_plain c) (list_all is_plain cs) plain in (c ∷ [], cs, (p.0, refl), spelled_run cs p.1, refl)

-- a run of characters
pub run_fits : (old new : Kept) (text front after : List ℕ) → Spanned is_plain text front after → accepts_characters old true ≡ true → new ≡ waits_more old front
    → (s : State) → Keeps old s → (next : State) × Leads old.kind text s after next × Keeps new next
run_fits old new text front after read may new_is s keeps =
    let added = added_run front old s keeps may in (
      added.0,
      record { items = map plain_character front; front = front; spelled = spelled_run front read.passing; parts = read.parts; ran = added.1 },
      subst (λ (all : Kept). Keeps all added.0) (sym new_is) added.2,
    )

pub item_fits : (old new : Kept) (text : List ℕ) (item : Item) (after : List ℕ) → BeginsWith text item after → Adds old item true new
    → (s : State) → Keeps old s → (next : State) × Leads old.kind text s after next × Keeps new next
item_fits old new text item after begins adds s keeps = let added = adds s keeps in (added.0, Leads-one old.kind text s item after added.0 begins added.1, added.2)

-- a tag that is read has distinct names
pub sound_names : (text : List ℕ) (token : Token) (after : List ℕ) → BeginsWith text (item_of token) after → HasSoundNames token
sound_names text Doctype after begins = tt
sound_names text Comment after begins = tt
sound_names text Instruction after begins = tt
sound_names text (StartTag name attrs) after begins = start_tag_distinct begins.front _ attrs begins.spelled
sound_names text (EmptyTag name attrs) after begins = empty_tag_distinct begins.front _ attrs begins.spelled
sound_names text (EndTag name) after begins = tt
sound_names text (Reference character) after begins = tt
sound_names text (Section characters) after begins = tt
sound_names text (Character character) after begins = tt
