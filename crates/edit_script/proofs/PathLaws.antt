-- Paths are written once.
use Rattle.std.proofs.Common.{◌≡◌, ◌≢◌, ℕ, true, false, List, [], ◌∷◌, ◌++◌, length, refl, sym, ap, ◌∙◌, append_assoc, append-nil, arith}
use Rattle.std.specs.Fmt.{decimal}
use Rattle.std.specs.Prelude.{encode_utf8_all, IfNone, None, Option, Some}
use Rattle.std.specs.Str.{bytes_eq, chars, IsAscii, IsUtf8}
use Rattle.std.proofs.lemmas.Bool.Decides.{not_from_Decides}
use Rattle.std.proofs.lemmas.Fmt.{decimal_nonempty}
use Rattle.std.proofs.lemmas.List.{length-append}
use Rattle.std.proofs.lemmas.Slice.Eq.{bytes_eq-Decides}
use Rattle.std.proofs.lemmas.Str.{chars-IsAscii, encodes-IsAscii, encodes-chars}
use Rattle.xhtml_items.proofs.Texts.{IsAscii-from_test}
use Rattle.dump_definitions.specs.Dump.{path_text}
use Rattle.edit_script.specs.Scripts.{IsPath, IsPathText, IsPosition}
use Rattle.edit_script.specs.Machinery.Words.{ArePositions, HasPositions, IsPositionAndRest, IsPositionFront, positions_text, starts_with_digit}
use Rattle.edit_script.proofs.WordLaws.{same_position, small}

-- an answer that is none
pub if_none : {T P : Type 0} (answer : Option T) → P → IfNone answer P
if_none None p = p
if_none (Some x) p = tt

positions-append : (xs ys : List ℕ) → positions_text (xs ++ ys) ≡ positions_text xs ++ positions_text ys
positions-append [] ys = refl
positions-append (x ∷ xs) ys = ap (λ (t : List ℕ). 47 ∷ (decimal x ++ t)) (positions-append xs ys) ∙ ap (λ (t : List ℕ). 47 ∷ t) (sym (append_assoc (decimal x) (positions_text xs) (positions_text ys)))

path-push : (path : List ℕ) (position : ℕ) → IsPath path → IsPosition position → IsPath (path ++ position ∷ [])
path-push [] position sound one = (one, tt)
path-push (first ∷ path) position sound one = (sound.0, path-push path position sound.1 one)

no_digit : (path : List ℕ) → starts_with_digit (positions_text path) ≡ false
no_digit [] = refl
no_digit (position ∷ path) = refl

-- the first of positions
pub front_position : (text : List ℕ) (position : ℕ) (path : List ℕ) → ArePositions text (position ∷ path) → IsPositionAndRest text position (positions_text path)
front_position text position path is = record { parts = is.written; sound = is.sound.0; ends = no_digit path }

pub positions-start : (text : List ℕ) → HasPositions text [] text
positions-start text = record { parts = refl; sound = tt; only = λ path is. (path, refl, is) }

pub positions-more : (text positions rest : List ℕ) (position : ℕ) (after : List ℕ) → HasPositions text positions rest → IsPositionAndRest rest position after
    → HasPositions text (positions ++ position ∷ []) after
positions-more text positions rest position after so_far is = record {
  parts =
      so_far.parts ∙ ap (λ (t : List ℕ). positions_text positions ++ t) (is.parts ∙ ap (λ (t : List ℕ). 47 ∷ (t ++ after)) (sym (append-nil (decimal position))))
      ∙ sym (append_assoc (positions_text positions) (positions_text (position ∷ [])) after)
      ∙ ap (λ (t : List ℕ). t ++ after) (sym (positions-append positions (position ∷ [])));
  sound = path-push positions position so_far.sound is.sound;
  only = λ path whole. let more = so_far.only path whole in next more.0 path more.1 more.2;
}
  where
    next : (more path : List ℕ) → path ≡ positions ++ more → ArePositions rest more → (later : List ℕ) × (path ≡ (positions ++ position ∷ []) ++ later) × ArePositions after later
    next [] path e are = absurd (let h = sym are.written ∙ is.parts in cc)
    next (other ∷ later) path e are =
        let same = same_position rest other position (positions_text later) after (front_position rest other later are) is in
        (later, e ∙ ap (λ (p : ℕ). positions ++ p ∷ later) same.0 ∙ sym (append_assoc positions (position ∷ []) later), record { written = sym same.1; sound = are.sound.1 })

pub positions-end : (text positions rest : List ℕ) → HasPositions text positions rest → rest ≡ [] → ArePositions text positions
positions-end text positions rest so_far e =
    record { written = so_far.parts ∙ ap (λ (t : List ℕ). positions_text positions ++ t) e ∙ append-nil (positions_text positions); sound = so_far.sound }

-- where positions are left, one stands at the front
pub positions-next : (text positions rest : List ℕ) → HasPositions text positions rest → rest ≢ [] → (path : List ℕ) → ArePositions text path → (x : ℕ × List ℕ) × IsPositionFront rest x
positions-next text positions rest so_far some path whole = let more = so_far.only path whole in first more.0 more.2
  where
    first : (more : List ℕ) → ArePositions rest more → (x : ℕ × List ℕ) × IsPositionFront rest x
    first [] are = absurd (some are.written)
    first (position ∷ later) are = ((position, positions_text later), front_position rest position later are)

-- Paths.

slash : IsAscii (47 ∷ [])
slash = IsAscii-from_test (47 ∷ []) refl

pub slash-is : (text : List ℕ) → bytes_eq text (47 ∷ []) ≡ true → chars text ≡ 47 ∷ []
slash-is text same = ap chars ((bytes_eq-Decides text (47 ∷ [])).0 same) ∙ chars-IsAscii (47 ∷ []) slash

pub slash-no : (text : List ℕ) → IsUtf8 text → bytes_eq text (47 ∷ []) ≡ false → chars text ≢ 47 ∷ []
slash-no text utf8 other is =
    not_from_Decides (bytes_eq text (47 ∷ [])) (bytes_eq-Decides text (47 ∷ [])) other
    (sym (encodes-chars text utf8) ∙ ap encode_utf8_all is ∙ encodes-IsAscii (47 ∷ []) slash)

pub path-root : (text : List ℕ) → text ≡ 47 ∷ [] → IsPathText text []
path-root text e = record { written = e; sound = tt }

pub path-deeper : (text path : List ℕ) → path ≢ [] → ArePositions text path → IsPathText text path
path-deeper text [] some are = absurd (some refl)
path-deeper text (position ∷ path) some are = record { written = are.written; sound = are.sound }

-- a path other than the root's
pub path-positions : (text path : List ℕ) → text ≢ 47 ∷ [] → IsPathText text path → ArePositions text path × (path ≢ [])
path-positions text [] other is = absurd (other is.written)
path-positions text (position ∷ path) other is = (record { written = is.written; sound = is.sound }, λ e. cc)

-- a path that is written in some characters, from its positions; in none no path is written
pub some_path : (text : List ℕ) → text ≢ [] → (path : List ℕ) × ArePositions text path → (path : List ℕ) × IsPathText text path
some_path text some are = by are.0 are.1
  where
    by : (path : List ℕ) → ArePositions text path → (path : List ℕ) × IsPathText text path
    by [] is = absurd (some is.written)
    by (position ∷ path) is = (position ∷ path, path-deeper text (position ∷ path) (λ e. cc) is)

pub no_path : (text path : List ℕ) → text ≡ [] → IsPathText text path → ⊥
no_path text [] none is = let e = sym none ∙ is.written in cc
no_path text (position ∷ path) none is = let e = sym none ∙ is.written in cc

one_path : (text first second : List ℕ) → ArePositions text first → ArePositions text second → first ≡ second
one_path text [] [] is too = refl
one_path text [] (y ∷ ys) is too = absurd (let e = sym is.written ∙ too.written in cc)
one_path text (x ∷ xs) [] is too = absurd (let e = sym is.written ∙ too.written in cc)
one_path text (x ∷ xs) (y ∷ ys) is too =
    let same = same_position text x y (positions_text xs) (positions_text ys) (front_position text x xs is) (front_position text y ys too) in
    let rest = one_path (positions_text xs) xs ys (record { written = refl; sound = is.sound.1 }) (record { written = same.1; sound = too.sound.1 }) in
    ap (λ (p : ℕ). p ∷ xs) same.0 ∙ ap (λ (path : List ℕ). y ∷ path) rest

not_root : (position : ℕ) (more : List ℕ) → IsPosition position → [] ≡ decimal position ++ more → ⊥
not_root position more sound e = omega (arith, ap length e, length-append (decimal position) more, decimal_nonempty position (small position sound))

-- a text is the text of one path
pub same_path : (path other : List ℕ) → IsPath path → IsPath other → path_text path ≡ path_text other → path ≡ other
same_path [] [] sound too e = refl
same_path [] (y ∷ ys) sound too e = absurd (not_root y (positions_text ys) too.0 (let h = e in cc))
same_path (x ∷ xs) [] sound too e = absurd (not_root x (positions_text xs) sound.0 (let h = sym e in cc))
same_path (x ∷ xs) (y ∷ ys) sound too e = one_path (positions_text (x ∷ xs)) (x ∷ xs) (y ∷ ys) (record { written = refl; sound = sound }) (record { written = e; sound = too })
