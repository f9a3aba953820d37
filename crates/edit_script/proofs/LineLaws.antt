-- The lines of a text, one by one.
use Rattle.std.proofs.Common.{◌≡◌, ◌≢◌, ℕ, ◌<◌, true, false, not, eqb, List, [], ◌∷◌, ◌++◌, length, Option, Some, None, Bor, refl, sym, ap, ◌∙◌, arith, inl, inr}
use Rattle.std.specs.Prelude.{encode_utf8_all, is_some}
use Rattle.std.specs.Str.{chars, IsUtf8}
use Rattle.std.proofs.lemmas.Bool.{and_parts, cases_Bool, eqb-true}
use Rattle.std.proofs.lemmas.List.{length-append}
use Rattle.std.proofs.lemmas.Str.{chars-append, chars-IsAscii, encodes-IsAscii, encodes-append, encodes-chars}
use Rattle.reading.specs.Reading.{begins}
use Rattle.xhtml_items.proofs.StepLaws.{split_takes}
use Rattle.xhtml_items.proofs.Texts.{IsAscii-from_test}
use Rattle.reading.specs.Reading.{past_text}
use Rattle.xhtml_items.specs.Reading.{split_once}
use Rattle.reading.specs.Reading.{Reads}
use Rattle.xhtml_items.specs.Tokens.{text_view}
use Rattle.edit_script.specs.Lines.{lines, put_before}
use Rattle.edit_script.specs.Machinery.Words.{without_return}
use Rattle.edit_script.proofs.WordLaws.{lacks, lacks_all, lacks_before}

unequal : (c wanted : ℕ) → not (eqb c wanted) ≡ true → eqb c wanted ≡ false
unequal c wanted h = elim (cases_Bool (eqb c wanted)) [ inl same ↦ absurd (let no = rw same at h in cc) | inr other ↦ other ]

-- The ends of lines.

ended_other : (c : ℕ) (rest : List ℕ) → eqb c 10 ≡ false → begins 10 rest ≡ false → lines (c ∷ rest) ≡ put_before c (lines rest)
unfolding lines
ended_other c rest other goes_on = rw (other, goes_on) (elim (cases_Bool (eqb c 13)) [ inl same ↦ rw same refl | inr unlike ↦ rw unlike refl ])

pub ended_line : (line rest : List ℕ) → lacks 10 line ≡ true → lines (line ++ 10 ∷ rest) ≡ without_return line ∷ lines rest
unfolding lines
ended_line [] rest h = refl
ended_line (last ∷ []) rest h =
    let other : eqb last 10 ≡ false = unequal last 10 (and_parts (not (eqb last 10)) true h).0 in
    rw other (elim (cases_Bool (eqb last 13)) [ inl same ↦ rw same refl | inr unlike ↦ rw unlike refl ])
ended_line (first ∷ second ∷ more) rest h =
    let p = and_parts (not (eqb first 10)) (lacks 10 (second ∷ more)) h in
    let no : eqb second 10 ≡ false = unequal second 10 (and_parts (not (eqb second 10)) (lacks 10 more) p.1).0 in
    ended_other first ((second ∷ more) ++ 10 ∷ rest) (unequal first 10 p.0) no ∙ ap (put_before first) (ended_line (second ∷ more) rest p.1)

pub last_line : (line : List ℕ) → lacks 10 line ≡ true → line ≢ [] → lines line ≡ line ∷ []
unfolding lines
last_line [] h some = absurd (some refl)
last_line (last ∷ []) h some = ended_other last [] (unequal last 10 (and_parts (not (eqb last 10)) true h).0) refl
last_line (first ∷ second ∷ more) h some =
    let p = and_parts (not (eqb first 10)) (lacks 10 (second ∷ more)) h in
    let no : eqb second 10 ≡ false = unequal second 10 (and_parts (not (eqb second 10)) (lacks 10 more) p.1).0 in
    ended_other first (second ∷ more) (unequal first 10 p.0) no ∙ ap (put_before first) (last_line (second ∷ more) p.1 (λ e. cc))

-- The carriage return at the end of a line.

return-goes : (line : List ℕ) → without_return (line ++ 13 ∷ []) ≡ line
return-goes [] = refl
return-goes (first ∷ []) = refl
return-goes (first ∷ second ∷ rest) = ap (λ (t : List ℕ). first ∷ t) (return-goes (second ∷ rest))

return-stays : (line : List ℕ) → ((front : List ℕ) → line ≢ front ++ 13 ∷ []) → without_return line ≡ line
return-stays [] none = refl
return-stays (last ∷ []) none = elim (cases_Bool (eqb last 13)) [
  | inl same ↦ absurd (none [] (rw (eqb-true last 13 same) refl))
  | inr other ↦ rw other refl
]
return-stays (first ∷ second ∷ rest) none = ap (λ (t : List ℕ). first ∷ t) (return-stays (second ∷ rest) (λ front e. none (first ∷ front) (ap (λ (t : List ℕ). first ∷ t) e)))

pub return-stripped : (line front : List ℕ) → IsUtf8 front → line ≡ front ++ 13 ∷ [] → chars front ≡ without_return (chars line)
return-stripped line front utf8 e =
    let ascii = IsAscii-from_test (13 ∷ []) refl in
    sym (ap (λ (t : List ℕ). without_return (chars t)) e
    ∙ ap without_return (chars-append front (13 ∷ []) utf8 ∙ ap (λ (t : List ℕ). chars front ++ t) (chars-IsAscii (13 ∷ []) ascii))
    ∙ return-goes (chars front))

pub return-none : (line : List ℕ) → IsUtf8 line → ((front : List ℕ) → line ≢ front ++ 13 ∷ []) → chars line ≡ without_return (chars line)
return-none line utf8 none =
    let ascii = IsAscii-from_test (13 ∷ []) refl in
    sym (return-stays (chars line) (λ front e. none (encode_utf8_all front)
    (sym (encodes-chars line utf8) ∙ ap encode_utf8_all e ∙ encodes-append front (13 ∷ []) ∙ ap (λ (t : List ℕ). encode_utf8_all front ++ t) (encodes-IsAscii (13 ∷ []) ascii))))

-- Lines that are skipped.

pub no_hash : (line : List ℕ) → past_text (35 ∷ []) line ≡ None → begins 35 line ≡ false
no_hash [] e = refl
no_hash (c ∷ cs) e = elim (cases_Bool (eqb c 35)) [ inl same ↦ absurd (let h = rw same at e in cc) | inr other ↦ other ]

pub no_hash_found : (line : List ℕ) (found : Option (Bor (List ℕ))) → is_some found ≡ false → Reads text_view found (past_text (35 ∷ []) line) → begins 35 line ≡ false
no_hash_found line None none reads = no_hash line reads
no_hash_found line (Some rest) none reads = absurd cc

-- The first line.

pub line_split : (text : List ℕ) (x : List ℕ × List ℕ) (front : List ℕ) → split_once (10 ∷ []) text ≡ Some x → front ≡ without_return x.0 → lines text ≡ front ∷ lines x.1
line_split text x front e stripped =
    let t = split_takes (10 ∷ []) text x e in
    ap lines t.1 ∙ ended_line x.0 x.1 (lacks_before 10 x.0 t.0) ∙ ap (λ (line : List ℕ). line ∷ lines x.1) (sym stripped)

pub line_shorter : (text : List ℕ) (x : List ℕ × List ℕ) → split_once (10 ∷ []) text ≡ Some x → length x.1 < length text
line_shorter text x e = let t = split_takes (10 ∷ []) text x e in omega (arith, ap length t.1, length-append x.0 (10 ∷ x.1))

pub line_whole : (text rest : List ℕ) → split_once (10 ∷ []) text ≡ None → text ≢ [] → rest ≡ [] → lines text ≡ text ∷ lines rest
unfolding lines
line_whole text rest e some none = last_line text (lacks_all 10 text e) some ∙ ap (λ (t : List ℕ). text ∷ lines t) (sym none)

pub some_length : (text rest : List ℕ) → text ≢ [] → rest ≡ [] → length rest < length text
some_length [] rest some none = absurd (some refl)
some_length (c ∷ cs) rest some none = omega (arith, ap length none)
