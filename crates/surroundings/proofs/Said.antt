-- What is said of elements is the evaluation, and what is handed on is what the evaluation hands on.
use Rattle.std.proofs.Common.{◌≡◌, ℕ, Bool, true, false, cond, List, [], ◌∷◌, ◌++◌, Option, Some, None, refl, sym, ap, ◌∙◌}
use Rattle.std.specs.Prelude.{map, unwrap_or}
use Rattle.std.proofs.lemmas.List.{map-append}
use Rattle.forest.specs.Forest.{Forest, Empty, Tree}
use Rattle.forest.specs.Keys.{Keyed, HasDistinctKeys}
use Rattle.plain_types.specs.declared.counter_style.CounterStyle.{CounterStyle}
use Rattle.box_eval.specs.declared.element_record.ElementRecord.{ElementRecord}
use Rattle.box_eval.specs.declared.entry.Closing.{Closing}
use Rattle.box_eval.specs.Boxes.{generates_box}
use Rattle.box_eval.specs.Elements.{Handed, Styled, at_root, by_parent, entry_of}
use Rattle.box_eval.specs.Evaluation.{StyledNode, Element, Text, evaluation, past_node, past_trees, record_of, records, records_of, within, without_box}
use Rattle.box_eval.proofs.DocumentLemmas as documents
use Rattle.box_eval.proofs.EntryLemmas.{closing_any}
use Rattle.merged_walk.specs.Evaluators.{Evaluator, IsSound, past_all, told, told_all}
use Rattle.surroundings.specs.declared.surroundings.Surroundings.{Surroundings}
use Rattle.surroundings.specs.declared.told.Told.{Told}
use Rattle.surroundings.specs.Surroundings.{handed_by, surroundings_of}
use Rattle.surroundings.specs.StyledEvaluators.{is_element, past_styled, root_surroundings, styled_evaluator}
use Rattle.surroundings.proofs.SameLaws.{handed-Decides}

abbrev pub said : ℕ × Told → ℕ × ElementRecord
said entry = (entry.0, entry.1.said)

three : {A B : Type 0} (f : A → B) (xs ys zs : List A) → map f (xs ++ (ys ++ zs)) ≡ map f xs ++ (map f ys ++ map f zs)
three f xs ys zs = map-append f xs (ys ++ zs) ∙ ap (λ all. map f xs ++ all) (map-append f ys zs)

module _ (table : List CounterStyle) where
  abbrev e : Evaluator StyledNode Told (Option Surroundings)
  e = styled_evaluator table

  past-text : (key : ℕ) (label : StyledNode) (handed behind : Option Surroundings) → is_element label ≡ false → past_styled table (record { key = key; label = label }) handed behind ≡ handed
  past-text key (Element element) handed behind h = absurd (cc)
  past-text key Text None behind h = refl
  past-text key Text (Some around) behind h = refl

  pub sound : IsSound (styled_evaluator table)
  sound = record {
    handed = λ node handed behind. refl;
    behind = λ node handed behind. refl;
    same = λ one other. (handed-Decides one other).0;
    itself = λ handed. (handed-Decides handed handed).1 refl;
    text = λ node handed behind. past-text node.key node.label handed behind;
  }

  -- In an element without a box.

  pub past-nothing : (trees : Forest (Keyed StyledNode)) → past_all e None trees ≡ None
  past-nothing Empty = refl
  past-nothing (Tree node children after) = past-nothing after

  pub record IsLeft (trees : Forest (Keyed StyledNode)) (handed : Handed) : Type 0 where
    pub past : past_trees table by_parent false handed trees ≡ handed
    pub records : map said (told_all e None trees) ≡ records table by_parent false handed trees

  left-node : (key : ℕ) (label : StyledNode) (c r : Forest (Keyed StyledNode)) (handed : Handed) → IsLeft c handed → IsLeft r handed → IsLeft (Tree (record { key = key; label = label }) c r) handed
  left-node key (Element element) c r handed below beside = record {
    past = beside.past;
    records =
        three said (told_all e None c) (told e (record { key = key; label = Element element }) None (past_all e None c)) (told_all e None r)
        ∙ ap (λ all. all ++ ((key, without_box) ∷ map said (told_all e None r))) below.records
        ∙ ap (λ all. records table by_parent false handed c ++ ((key, without_box) ∷ all)) beside.records;
  }
  left-node key Text c r handed below beside = record {
    past = beside.past;
    records =
        three said (told_all e None c) [] (told_all e None r)
        ∙ ap (λ all. all ++ map said (told_all e None r)) below.records
        ∙ ap (λ all. records table by_parent false handed c ++ all) beside.records;
  }

  pub left_alone : (trees : Forest (Keyed StyledNode)) (handed : Handed) → IsLeft trees handed
  left_alone Empty handed = record { past = refl; records = refl }
  left_alone (Tree node children after) handed = left-node node.key node.label children after handed (left_alone children handed) (left_alone after handed)

  -- Elsewhere.

  pub record Agrees (trees : Forest (Keyed StyledNode)) (handed : Handed) : Type 0 where
    pub past : past_all e (Some (surroundings_of handed)) trees ≡ Some (surroundings_of (past_trees table by_parent true handed trees))
    pub records : map said (told_all e (Some (surroundings_of handed)) trees) ≡ records table by_parent true handed trees

  agrees-text : (key : ℕ) (c r : Forest (Keyed StyledNode)) (handed : Handed) → Agrees r handed → Agrees (Tree (record { key = key; label = Text }) c r) handed
  agrees-text key c r handed beside =
      let around = surroundings_of handed in
      record {
        past = beside.past;
        records =
            three said (told_all e None c) [] (told_all e (Some around) r)
            ∙ ap (λ all. all ++ map said (told_all e (Some around) r)) (left_alone c handed).records
            ∙ ap (λ all. records table by_parent false handed c ++ all) beside.records;
      }

  -- the two claims, by whether the element has a box
  module _ (key : ℕ) (element : Styled) (c r : Forest (Keyed StyledNode)) (handed : Handed) where
    abbrev pub around : Surroundings
    around = surroundings_of handed

    abbrev pub inner_if : Bool → Option Surroundings
    inner_if b = cond b (Some (surroundings_of (within table by_parent true key (Element element) (handed_by around)))) None

    abbrev pub next_with : Bool → Option Surroundings → Option Surroundings
    next_with b behind = Some (surroundings_of (past_node table by_parent b key (Element element) (handed_by around) (handed_by (unwrap_or behind around))))

    abbrev said_with : Bool → Option Surroundings → List (ℕ × ElementRecord)
    said_with b behind = (key, record_of table by_parent b key element (handed_by around) (handed_by (unwrap_or behind around))) ∷ map said (told_all e (next_with b behind) r)

    abbrev pub behind_if : Bool → Handed
    behind_if b = past_trees table by_parent b (within table by_parent b key (Element element) handed) c

    abbrev PastIf : Bool → Type 0
    PastIf b = past_all e (next_with b (past_all e (inner_if b) c)) r ≡ Some (surroundings_of (past_trees table by_parent true (past_node table by_parent b key (Element element) handed (behind_if b)) r))

    abbrev SaidIf : Bool → Type 0
    SaidIf b =
        map said (told_all e (inner_if b) c) ++ said_with b (past_all e (inner_if b) c)
        ≡ records table by_parent b (within table by_parent b key (Element element) handed) c
        ++ (records_of table by_parent b key (Element element) handed (behind_if b)
        ++ records table by_parent true (past_node table by_parent b key (Element element) handed (behind_if b)) r)

    record IfBoxed (b : Bool) : Type 0 where
      past : PastIf b
      records : SaidIf b

    -- what is handed on behind it, where its children agree
    pub next-is : ((inner : Handed) → past_all e (Some (surroundings_of inner)) c ≡ Some (surroundings_of (past_trees table by_parent true inner c))) → (b : Bool)
        → next_with b (past_all e (inner_if b) c) ≡ Some (surroundings_of (past_node table by_parent b key (Element element) handed (behind_if b)))
    next-is below true =
        let behind = behind_if true in
        let entry = entry_of table by_parent key element handed in
        let next_by : Closing → Surroundings = λ closing. record { parent = handed.parent; sibling = Some entry.own; preceding = Some closing.exit; depth = closing.depth } in
        ap (next_with true) (below (within table by_parent true key (Element element) handed)) ∙ ap (λ closing. Some (next_by closing)) (sym (closing_any table key element behind []))
    next-is below false = refl

    if-boxed : ((inner : Handed) → Agrees c inner) → ((next : Handed) → Agrees r next) → (b : Bool) → IfBoxed b
    if-boxed below beside true =
        let first = within table by_parent true key (Element element) handed in
        let behind = behind_if true in
        let entry = entry_of table by_parent key element handed in
        let said_by : Closing → ElementRecord = λ closing. record { has_box = true; own = entry.own; exit = closing.exit; depth_before = handed.depth; depth_after = closing.depth; marker = entry.marker; before = entry.before; after = closing.after } in
        let inner = below first in
        let later = beside (past_node table by_parent true key (Element element) handed behind) in
        let next = next-is (λ inner. (below inner).past) true in
        let x = past_all e (Some (surroundings_of first)) c in
        record {
          past = ap (λ y. past_all e y r) next ∙ later.past;
          records =
              ap (λ all. all ++ said_with true x) inner.records
              ∙ ap (λ y. records table by_parent true first c ++ ((key, record_of table by_parent true key element (handed_by around) (handed_by (unwrap_or x around))) ∷ map said (told_all e y r))) next
              ∙ ap (λ all. records table by_parent true first c ++ ((key, record_of table by_parent true key element (handed_by around) (handed_by (unwrap_or x around))) ∷ all)) later.records
              ∙ ap (λ y. records table by_parent true first c ++ ((key, record_of table by_parent true key element (handed_by around) (handed_by (unwrap_or y around))) ∷ records table by_parent true (past_node table by_parent true key (Element element) handed behind) r)) inner.past
              ∙ ap (λ closing. records table by_parent true first c ++ ((key, said_by closing) ∷ records table by_parent true (past_node table by_parent true key (Element element) handed behind) r)) (sym (closing_any table key element behind []));
        }
    if-boxed below beside false =
        let later = beside handed in
        record {
          past = later.past;
          records =
              ap (λ all. all ++ ((key, without_box) ∷ map said (told_all e (Some around) r))) (left_alone c handed).records
              ∙ ap (λ all. records table by_parent false handed c ++ ((key, without_box) ∷ all)) later.records;
        }

  agrees-element : (key : ℕ) (element : Styled) (c r : Forest (Keyed StyledNode)) (handed : Handed)
      → ((inner : Handed) → Agrees c inner) → ((next : Handed) → Agrees r next) → Agrees (Tree (record { key = key; label = Element element }) c r) handed
  agrees-element key element c r handed below beside =
      let n : Keyed StyledNode = record { key = key; label = Element element } in
      let around = surroundings_of handed in
      let b = generates_box element.style in
      let inner = inner_if key element c r handed b in
      let behind = past_all e inner c in
      let both = if-boxed key element c r handed below beside b in
      record {
        past = both.past;
        records = three said (told_all e inner c) (told e n (Some around) behind) (told_all e (next_with key element c r handed b behind) r) ∙ both.records;
      }

  agrees-node : (key : ℕ) (label : StyledNode) (c r : Forest (Keyed StyledNode)) (handed : Handed)
      → ((inner : Handed) → Agrees c inner) → ((next : Handed) → Agrees r next) → Agrees (Tree (record { key = key; label = label }) c r) handed
  agrees-node key (Element element) c r handed below beside = agrees-element key element c r handed below beside
  agrees-node key Text c r handed below beside = agrees-text key c r handed (beside handed)

  pub agrees : (trees : Forest (Keyed StyledNode)) (handed : Handed) → Agrees trees handed
  agrees Empty handed = record { past = refl; records = refl }
  agrees (Tree node children after) handed = agrees-node node.key node.label children after handed (agrees children) (agrees after)

  -- a whole document
  pub said-document : (trees : Forest (Keyed StyledNode)) → HasDistinctKeys trees → map said (told_all e root_surroundings trees) ≡ evaluation table trees
  said-document trees distinct =
      (agrees trees at_root).records ∙ sym (documents.told table trees true at_root distinct (documents.root_level trees)).records
