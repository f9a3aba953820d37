-- Operands are of one form, and their parts are where they are looked for.
use Rattle.std.proofs.Common.{◌≡◌, ◌≢◌, ℕ, List, [], ◌∷◌, ◌++◌, refl, sym, ap, subst, ◌∙◌}
use Rattle.std.specs.Fmt.{decimal}
use Rattle.std.proofs.lemmas.Fmt.{decimal_injective}
use Rattle.forest.specs.Forest.{Forest}
use Rattle.plain_types.specs.declared.edit.Edit.TheVariants as edit
use Rattle.plain_types.specs.declared.node.Node.{Node}
use Rattle.dump_definitions.specs.Dump.{path_text}
use Rattle.xml_definitions.specs.Spelling.{IsName}
use Rattle.xml_definitions.specs.Texts.{IsFragmentText}
use Rattle.xhtml_reader.proofs.Places.{only_fragment}
use Rattle.edit_script.specs.declared.action.Action.{Action}
use Rattle.edit_script.specs.declared.action.Action.TheVariants as actions
use Rattle.edit_script.specs.declared.action.Action.TheVariants.{Change, SheetFile}
use Rattle.edit_script.specs.declared.keyword.Keyword.{Keyword}
use Rattle.edit_script.specs.declared.keyword.Keyword.TheVariants.{Insert, Remove, Move, Set, Unset, Sheet, Show}
use Rattle.edit_script.specs.Machinery.Operands.{AreOperands, of_insert, of_remove, of_move, of_set, of_set_empty, of_unset, of_sheet, of_show}
use Rattle.edit_script.specs.Scripts.{IsPath, IsPathText, IsPosition}
use Rattle.edit_script.specs.Machinery.Words.{AreParts, IsNameAndValue, with_value, without_value, IsNameText, IsPositionText, IsWordAndRest}
use Rattle.edit_script.proofs.PathLaws.{same_path}
use Rattle.edit_script.proofs.WordLaws.{decimal_word, name_word, no_parts, path_word, same_word, small}

-- A path and what stands behind its space.
record PathAndRest (text path rest : List ℕ) : Type 0 where
  pub written : text ≡ path_text path ++ 32 ∷ rest
  pub sound : IsPath path

path_parts : (text path rest : List ℕ) → PathAndRest text path rest → (x : List ℕ × List ℕ) × AreParts text x
path_parts text path rest is = ((path_text path, rest), is.written)

-- the first word is the path
path_first : (text word rest path behind : List ℕ) → IsWordAndRest text word rest → PathAndRest text path behind → IsPathText word path × (rest ≡ behind)
path_first text word rest path behind split is =
    let same = same_word word (path_text path) rest behind split.spaceless (path_word path is.sound) (sym split.parts ∙ is.written) in
    (record { written = same.0; sound = is.sound }, same.1)

whole_of : (text word rest path : List ℕ) → IsWordAndRest text word rest → IsPathText word path → text ≡ path_text path ++ 32 ∷ rest
whole_of text word rest path split is = split.parts ∙ ap (λ (t : List ℕ). t ++ 32 ∷ rest) is.written

-- insert PATH INDEX MARKUP

record InsertParts (text : List ℕ) (action : Action) (parent : List ℕ) (index : ℕ) (markup : List ℕ) (fragment : Forest Node) : Type 0 where
  pub made : action ≡ Change (edit.Insert parent index fragment)
  pub path : PathAndRest text parent (decimal index ++ 32 ∷ markup)
  pub sound : IsPosition index
  pub reads : IsFragmentText markup fragment

insert_parts : (text : List ℕ) (action : Action) → AreOperands Insert text action
    → (parent : List ℕ) × (index : ℕ) × (markup : List ℕ) × (fragment : Forest Node) × InsertParts text action parent index markup fragment
insert_parts text action (of_insert parent index markup fragment path position reads) =
    (parent, index, markup, fragment, record { made = refl; path = record { written = refl; sound = path }; sound = position; reads = reads })

pub insert_split : (text : List ℕ) (action : Action) → AreOperands Insert text action → (x : List ℕ × List ℕ) × AreParts text x
insert_split text action is = let p = insert_parts text action is in path_parts text p.0 (decimal p.1 ++ 32 ∷ p.2) p.4.path

module _ (text word rest : List ℕ) (split : IsWordAndRest text word rest) where
  pub insert_path : (action : Action) → AreOperands Insert text action → (path : List ℕ) × IsPathText word path
  insert_path action is = let p = insert_parts text action is in (p.0, (path_first text word rest p.0 (decimal p.1 ++ 32 ∷ p.2) split p.4.path).0)

  pub insert_rest : (action : Action) → AreOperands Insert text action → (x : List ℕ × List ℕ) × AreParts rest x
  insert_rest action is = let p = insert_parts text action is in ((decimal p.1, p.2), (path_first text word rest p.0 (decimal p.1 ++ 32 ∷ p.2) split p.4.path).1)

  module _ (digits markup : List ℕ) (more : IsWordAndRest rest digits markup) where
    index_first : (parent behind : List ℕ) (index : ℕ) → IsPosition index → PathAndRest text parent (decimal index ++ 32 ∷ behind) → IsPositionText digits index × (markup ≡ behind)
    index_first parent behind index sound is =
        let after = (path_first text word rest parent (decimal index ++ 32 ∷ behind) split is).1 in
        let same = same_word digits (decimal index) markup behind more.spaceless (decimal_word index sound) (sym more.parts ∙ after) in
        (record { written = same.0; sound = sound }, same.1)

    pub insert_index : (action : Action) → AreOperands Insert text action → (index : ℕ) × IsPositionText digits index
    insert_index action is = let p = insert_parts text action is in (p.1, (index_first p.0 p.2 p.1 p.4.sound p.4.path).0)

    pub insert_markup : (action : Action) → AreOperands Insert text action → (fragment : Forest Node) × IsFragmentText markup fragment
    insert_markup action is =
        let p = insert_parts text action is in
        (p.3, subst (λ (t : List ℕ). IsFragmentText t p.3) (sym (index_first p.0 p.2 p.1 p.4.sound p.4.path).1) p.4.reads)

    pub insert_is : (parent : List ℕ) (index : ℕ) (fragment : Forest Node) → IsPathText word parent → IsPositionText digits index → IsFragmentText markup fragment
        → AreOperands Insert text (Change (edit.Insert parent index fragment))
    insert_is parent index fragment path position reads =
        let behind : rest ≡ decimal index ++ 32 ∷ markup = more.parts ∙ ap (λ (t : List ℕ). t ++ 32 ∷ markup) position.written in
        subst (λ (t : List ℕ). AreOperands Insert t (Change (edit.Insert parent index fragment)))
        (sym (whole_of text word rest parent split path ∙ ap (λ (t : List ℕ). path_text parent ++ 32 ∷ t) behind))
        (of_insert parent index markup fragment path.sound position.sound reads)

-- remove PATH

pub remove_path : (text : List ℕ) (action : Action) → AreOperands Remove text action → (path : List ℕ) × IsPathText text path
remove_path text action (of_remove path sound) = (path, record { written = refl; sound = sound })

pub remove_is : (text path : List ℕ) → IsPathText text path → AreOperands Remove text (Change (edit.Remove path))
remove_is text path is = subst (λ (t : List ℕ). AreOperands Remove t (Change (edit.Remove path))) (sym is.written) (of_remove path is.sound)

-- move PATH PATH INDEX

record MoveParts (text : List ℕ) (action : Action) (from parent : List ℕ) (index : ℕ) : Type 0 where
  pub made : action ≡ Change (edit.Move from parent index)
  pub path : PathAndRest text from (path_text parent ++ 32 ∷ decimal index)
  pub sound : IsPath parent
  pub position : IsPosition index

move_parts : (text : List ℕ) (action : Action) → AreOperands Move text action → (from : List ℕ) × (parent : List ℕ) × (index : ℕ) × MoveParts text action from parent index
move_parts text action (of_move from parent index path sound position) =
    (from, parent, index, record { made = refl; path = record { written = refl; sound = path }; sound = sound; position = position })

pub move_split : (text : List ℕ) (action : Action) → AreOperands Move text action → (x : List ℕ × List ℕ) × AreParts text x
move_split text action is = let p = move_parts text action is in path_parts text p.0 (path_text p.1 ++ 32 ∷ decimal p.2) p.3.path

module _ (text word rest : List ℕ) (split : IsWordAndRest text word rest) where
  pub move_from : (action : Action) → AreOperands Move text action → (path : List ℕ) × IsPathText word path
  move_from action is = let p = move_parts text action is in (p.0, (path_first text word rest p.0 (path_text p.1 ++ 32 ∷ decimal p.2) split p.3.path).0)

  move_behind : (action : Action) (from parent : List ℕ) (index : ℕ) → MoveParts text action from parent index → PathAndRest rest parent (decimal index)
  move_behind action from parent index is = record { written = (path_first text word rest from (path_text parent ++ 32 ∷ decimal index) split is.path).1; sound = is.sound }

  pub move_rest : (action : Action) → AreOperands Move text action → (x : List ℕ × List ℕ) × AreParts rest x
  move_rest action is = let p = move_parts text action is in path_parts rest p.1 (decimal p.2) (move_behind action p.0 p.1 p.2 p.3)

  module _ (second digits : List ℕ) (more : IsWordAndRest rest second digits) where
    pub move_parent : (action : Action) → AreOperands Move text action → (path : List ℕ) × IsPathText second path
    move_parent action is = let p = move_parts text action is in (p.1, (path_first rest second digits p.1 (decimal p.2) more (move_behind action p.0 p.1 p.2 p.3)).0)

    pub move_index : (action : Action) → AreOperands Move text action → (index : ℕ) × IsPositionText digits index
    move_index action is =
        let p = move_parts text action is in
        (p.2, record { written = (path_first rest second digits p.1 (decimal p.2) more (move_behind action p.0 p.1 p.2 p.3)).1; sound = p.3.position })

    pub move_is : (from parent : List ℕ) (index : ℕ) → IsPathText word from → IsPathText second parent → IsPositionText digits index
        → AreOperands Move text (Change (edit.Move from parent index))
    move_is from parent index first path position =
        let behind : rest ≡ path_text parent ++ 32 ∷ decimal index =
        whole_of rest second digits parent more path ∙ ap (λ (t : List ℕ). path_text parent ++ 32 ∷ t) position.written in
        subst (λ (t : List ℕ). AreOperands Move t (Change (edit.Move from parent index)))
        (sym (whole_of text word rest from split first ∙ ap (λ (t : List ℕ). path_text from ++ 32 ∷ t) behind))
        (of_move from parent index first.sound path.sound position.sound)

-- set PATH NAME VALUE, and set PATH NAME

record SetParts (text : List ℕ) (action : Action) (path name value rest : List ℕ) : Type 0 where
  pub made : action ≡ Change (edit.SetAttr path name value)
  pub front : PathAndRest text path rest
  pub named : IsName name
  pub split : IsNameAndValue rest name value

set_parts : (text : List ℕ) (action : Action) → AreOperands Set text action
    → (path : List ℕ) × (name : List ℕ) × (value : List ℕ) × (rest : List ℕ) × SetParts text action path name value rest
set_parts text action (of_set path name value sound named) = (
  path,
  name,
  value,
  name ++ 32 ∷ value,
  record {
    made = refl;
    front = record { written = refl; sound = sound };
    named = named;
    split = with_value (record { parts = refl; spaceless = name_word name named });
  },
)
set_parts text action (of_set_empty path name sound named) = (
  path,
  name,
  [],
  name,
  record {
    made = refl;
    front = record { written = refl; sound = sound };
    named = named;
    split = without_value (name_word name named) refl refl;
  },
)

-- a name and a value are told apart in one way
one_split : (text name value word other : List ℕ) → IsName name → IsNameAndValue text name value → IsNameAndValue text word other → (word ≡ name) × (other ≡ value)
one_split text name value word other named (with_value is) (with_value too) = same_word word name other value too.spaceless is.spaceless (sym too.parts ∙ is.parts)
one_split text name value word other named (with_value is) (without_value one same none) = absurd (no_parts text name value one is.parts)
one_split text name value word other named (without_value one same none) (with_value too) = absurd (no_parts text word other one too.parts)
one_split text name value word other named (without_value one same none) (without_value alone equal nothing) = (equal ∙ sym same, nothing ∙ sym none)

pub set_split : (text : List ℕ) (action : Action) → AreOperands Set text action → (x : List ℕ × List ℕ) × AreParts text x
set_split text action is = let p = set_parts text action is in path_parts text p.0 p.3 p.4.front

module _ (text word rest : List ℕ) (split : IsWordAndRest text word rest) where
  pub set_path : (action : Action) → AreOperands Set text action → (path : List ℕ) × IsPathText word path
  set_path action is = let p = set_parts text action is in (p.0, (path_first text word rest p.0 p.3 split p.4.front).0)

  pub set_name : (second value : List ℕ) → IsNameAndValue rest second value → (action : Action) → AreOperands Set text action → (name : List ℕ) × IsNameText second name
  set_name second value more action is =
      let p = set_parts text action is in
      let split = subst (λ (t : List ℕ). IsNameAndValue t second value) (path_first text word rest p.0 p.3 split p.4.front).1 more in
      let same = one_split p.3 p.1 p.2 second value p.4.named p.4.split split in
      (second, record { same = refl; named = subst IsName (sym same.0) p.4.named })

  pub set_is : (second value path name : List ℕ) → IsNameAndValue rest second value → IsPathText word path → IsNameText second name
      → AreOperands Set text (Change (edit.SetAttr path name value))
  set_is second value path name (with_value more) first named =
      let behind : rest ≡ name ++ 32 ∷ value = more.parts ∙ ap (λ (t : List ℕ). t ++ 32 ∷ value) (sym named.same) in
      subst (λ (t : List ℕ). AreOperands Set t (Change (edit.SetAttr path name value)))
      (sym (whole_of text word rest path split first ∙ ap (λ (t : List ℕ). path_text path ++ 32 ∷ t) behind))
      (of_set path name value first.sound (subst IsName (sym named.same) named.named))
  set_is second value path name (without_value one same none) first named =
      subst (λ (v : List ℕ). AreOperands Set text (Change (edit.SetAttr path name v))) (sym none)
      (subst (λ (t : List ℕ). AreOperands Set t (Change (edit.SetAttr path name [])))
      (sym (whole_of text word rest path split first ∙ ap (λ (t : List ℕ). path_text path ++ 32 ∷ t) (sym same ∙ sym named.same)))
      (of_set_empty path name first.sound (subst IsName (sym named.same) named.named)))

-- unset PATH NAME

record UnsetParts (text : List ℕ) (action : Action) (path name : List ℕ) : Type 0 where
  pub made : action ≡ Change (edit.UnsetAttr path name)
  pub front : PathAndRest text path name
  pub named : IsName name

unset_parts : (text : List ℕ) (action : Action) → AreOperands Unset text action → (path : List ℕ) × (name : List ℕ) × UnsetParts text action path name
unset_parts text action (of_unset path name sound named) = (path, name, record { made = refl; front = record { written = refl; sound = sound }; named = named })

pub unset_split : (text : List ℕ) (action : Action) → AreOperands Unset text action → (x : List ℕ × List ℕ) × AreParts text x
unset_split text action is = let p = unset_parts text action is in path_parts text p.0 p.1 p.2.front

module _ (text word rest : List ℕ) (split : IsWordAndRest text word rest) where
  pub unset_path : (action : Action) → AreOperands Unset text action → (path : List ℕ) × IsPathText word path
  unset_path action is = let p = unset_parts text action is in (p.0, (path_first text word rest p.0 p.1 split p.2.front).0)

  pub unset_name : (action : Action) → AreOperands Unset text action → (name : List ℕ) × IsNameText rest name
  unset_name action is =
      let p = unset_parts text action is in
      (rest, record { same = refl; named = subst IsName (sym (path_first text word rest p.0 p.1 split p.2.front).1) p.2.named })

  pub unset_is : (path name : List ℕ) → IsPathText word path → IsNameText rest name → AreOperands Unset text (Change (edit.UnsetAttr path name))
  unset_is path name first named =
      subst (λ (t : List ℕ). AreOperands Unset t (Change (edit.UnsetAttr path name)))
      (sym (whole_of text word rest path split first ∙ ap (λ (t : List ℕ). path_text path ++ 32 ∷ t) (sym named.same)))
      (of_unset path name first.sound (subst IsName (sym named.same) named.named))

-- sheet FILE

sheet_made : (text : List ℕ) (action : Action) → AreOperands Sheet text action → action ≡ SheetFile text
sheet_made text action (of_sheet name some) = refl

pub sheet_some : (text : List ℕ) (action : Action) → AreOperands Sheet text action → text ≢ []
sheet_some text action (of_sheet name some) = some

pub sheet_is : (text name : List ℕ) → name ≡ text → text ≢ [] → AreOperands Sheet text (SheetFile name)
sheet_is text name same some = subst (λ (t : List ℕ). AreOperands Sheet text (SheetFile t)) (sym same) (of_sheet text some)

-- show

pub show_none : (text : List ℕ) (action : Action) → AreOperands Show text action → text ≡ []
show_none text action of_show = refl

show_made : (text : List ℕ) (action : Action) → AreOperands Show text action → action ≡ actions.Show
show_made text action of_show = refl

-- Operands make one action.

remove_made : (text : List ℕ) (action : Action) → AreOperands Remove text action → (path : List ℕ) × IsPathText text path × (action ≡ Change (edit.Remove path))
remove_made text action (of_remove path sound) = (path, record { written = refl; sound = sound }, refl)

same_front : (text path other rest behind : List ℕ) → PathAndRest text path rest → PathAndRest text other behind → (path ≡ other) × (rest ≡ behind)
same_front text path other rest behind is too =
    let same = same_word (path_text path) (path_text other) rest behind (path_word path is.sound) (path_word other too.sound) (sym is.written ∙ too.written) in
    (same_path path other is.sound too.sound same.0, same.1)

same_index : (index other : ℕ) → IsPosition index → IsPosition other → decimal index ≡ decimal other → index ≡ other
same_index index other sound too e = decimal_injective index other (small index sound) (small other too) e

module _ (text : List ℕ) (action other : Action) where
  one_insert : AreOperands Insert text action → AreOperands Insert text other → action ≡ other
  one_insert is too =
      let p = insert_parts text action is in
      let q = insert_parts text other too in
      let paths = same_front text p.0 q.0 (decimal p.1 ++ 32 ∷ p.2) (decimal q.1 ++ 32 ∷ q.2) p.4.path q.4.path in
      let rests = same_word (decimal p.1) (decimal q.1) p.2 q.2 (decimal_word p.1 p.4.sound) (decimal_word q.1 q.4.sound) paths.1 in
      let indices = same_index p.1 q.1 p.4.sound q.4.sound rests.0 in
      let fragments : p.3 ≡ q.3 = only_fragment p.2 p.3 q.3 p.4.reads (subst (λ (t : List ℕ). IsFragmentText t q.3) (sym rests.1) q.4.reads) in
      p.4.made ∙ ap (λ (path : List ℕ). Change (edit.Insert path p.1 p.3)) paths.0 ∙ ap (λ (index : ℕ). Change (edit.Insert q.0 index p.3)) indices
      ∙ ap (λ (fragment : Forest Node). Change (edit.Insert q.0 q.1 fragment)) fragments ∙ sym q.4.made

  one_remove : AreOperands Remove text action → AreOperands Remove text other → action ≡ other
  one_remove is too =
      let p = remove_made text action is in
      let q = remove_made text other too in
      p.2 ∙ ap (λ (path : List ℕ). Change (edit.Remove path)) (same_path p.0 q.0 p.1.sound q.1.sound (sym p.1.written ∙ q.1.written)) ∙ sym q.2

  one_move : AreOperands Move text action → AreOperands Move text other → action ≡ other
  one_move is too =
      let p = move_parts text action is in
      let q = move_parts text other too in
      let froms = same_front text p.0 q.0 (path_text p.1 ++ 32 ∷ decimal p.2) (path_text q.1 ++ 32 ∷ decimal q.2) p.3.path q.3.path in
      let rest = path_text p.1 ++ 32 ∷ decimal p.2 in
      let parents = same_front rest p.1 q.1 (decimal p.2) (decimal q.2) (record { written = refl; sound = p.3.sound }) (record { written = froms.1; sound = q.3.sound }) in
      let indices = same_index p.2 q.2 p.3.position q.3.position parents.1 in
      p.3.made ∙ ap (λ (path : List ℕ). Change (edit.Move path p.1 p.2)) froms.0 ∙ ap (λ (path : List ℕ). Change (edit.Move q.0 path p.2)) parents.0
      ∙ ap (λ (index : ℕ). Change (edit.Move q.0 q.1 index)) indices ∙ sym q.3.made

  one_set : AreOperands Set text action → AreOperands Set text other → action ≡ other
  one_set is too =
      let p = set_parts text action is in
      let q = set_parts text other too in
      let paths = same_front text p.0 q.0 p.3 q.3 p.4.front q.4.front in
      let parts = one_split p.3 p.1 p.2 q.1 q.2 p.4.named p.4.split (subst (λ (t : List ℕ). IsNameAndValue t q.1 q.2) (sym paths.1) q.4.split) in
      p.4.made ∙ ap (λ (path : List ℕ). Change (edit.SetAttr path p.1 p.2)) paths.0 ∙ ap (λ (name : List ℕ). Change (edit.SetAttr q.0 name p.2)) (sym parts.0)
      ∙ ap (λ (value : List ℕ). Change (edit.SetAttr q.0 q.1 value)) (sym parts.1) ∙ sym q.4.made

  one_unset : AreOperands Unset text action → AreOperands Unset text other → action ≡ other
  one_unset is too =
      let p = unset_parts text action is in
      let q = unset_parts text other too in
      let paths = same_front text p.0 q.0 p.1 q.1 p.2.front q.2.front in
      p.2.made ∙ ap (λ (path : List ℕ). Change (edit.UnsetAttr path p.1)) paths.0 ∙ ap (λ (name : List ℕ). Change (edit.UnsetAttr q.0 name)) paths.1 ∙ sym q.2.made

  pub one_operands : (keyword : Keyword) → AreOperands keyword text action → AreOperands keyword text other → action ≡ other
  one_operands Insert is too = one_insert is too
  one_operands Remove is too = one_remove is too
  one_operands Move is too = one_move is too
  one_operands Set is too = one_set is too
  one_operands Unset is too = one_unset is too
  one_operands Sheet is too = sheet_made text action is ∙ sym (sheet_made text other too)
  one_operands Show is too = show_made text action is ∙ sym (show_made text other too)
