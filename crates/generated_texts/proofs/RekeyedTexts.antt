-- The texts of boxes, and the lines of dumps, under other keys.
use Rattle.std.proofs.Common.{◌≡◌, ◌==◌, ◌∷◌, ◌++◌, ℕ, pos, List, [], Bool, true, false, cond, Option, Some, None, map, refl, sym, ap, ◌∙◌}
use Rattle.std.specs.Prelude.{find, flat_map, is_some, option_map, unwrap_or}
use Rattle.std.specs.Option.{option_and_then, option_map_or}
use Rattle.forest.specs.Forest.{Forest, Empty, Tree, labels}
use Rattle.forest.specs.Keys.{Keyed}
use Rattle.forest.specs.Spots.{children_of}
use Rattle.plain_types.specs.declared.box_kind.BoxKind.{BoxKind}
use Rattle.plain_types.specs.declared.box_kind.BoxKind.TheVariants as kind
use Rattle.plain_types.specs.declared.content.Part.{Part}
use Rattle.plain_types.specs.declared.content.Part.TheVariants.{Content, Before, After}
use Rattle.plain_types.specs.declared.counter.Counter.{Counter}
use Rattle.plain_types.specs.declared.counter_style.CounterStyle.{CounterStyle}
use Rattle.plain_types.specs.declared.node.Node.{Node}
use Rattle.plain_types.specs.declared.sheet.Sheet.{Sheet}
use Rattle.plain_types.specs.declared.style_ref.StyleRef.{StyleRef}
use Rattle.dump_definitions.specs.Dump.{Line}
use Rattle.css_definitions.specs.Representation.{representation}
use Rattle.counter_sets.specs.Sets.{innermost}
use Rattle.css_reader.specs.Sheets.{sheets}
use Rattle.node_arena.specs.Nodes.{node_characters}
use Rattle.content_eval.specs.Contents.{innermost_text, joined_text}
use Rattle.content_eval.specs.Targets.{Known, counters_at, flat_at, flat_text, full_text, piece_text, target_counter, target_counters, target_id, target_text}
use Rattle.content_eval.specs.declared.generated.Piece.{Piece}
use Rattle.content_eval.specs.declared.generated.Piece.TheVariants as piece
use Rattle.box_eval.specs.declared.element_record.ElementRecord.{ElementRecord}
use Rattle.box_eval.specs.declared.made.Made.{Made}
use Rattle.generated_texts.specs.Documents.{agent_sheet, counter_styles, document_evaluation, document_style}
use Rattle.generated_texts.specs.Entries.{box_text, document_entries, node_entries, node_entry}
use Rattle.generated_texts.specs.Keyings.{rekeyed, rekeyed_entries, rekeyed_entry, rekeyed_made, rekeyed_node, rekeyed_record, rekeyed_records, rekeyed_set}
use Rattle.generated_texts.specs.Lines.{first_lines, keyed_lines, last_lines, lines_of, tree_lines}
use Rattle.generated_texts.specs.References.{asked_box, characters_in, first_holder, has_id, known_characters, known_counters, known_flat, known_targets, kept_at, known_to_flat_texts, target_record}
use Rattle.generated_texts.specs.StyleElements.{author_sheet, has_sheet, style_text, style_texts}
use Rattle.generated_texts.specs.declared.entry.BoxText.{BoxText}
use Rattle.generated_texts.specs.declared.entry.NodeEntry.{NodeEntry}
use Rattle.generated_texts.proofs.ListLemmas.{and_then_same, find_map, flat_map_map, flat_map_same, map_map, map_or_map, map_or_same, map_same, option_map_map, option_map_past, then_past, then_same}
use Rattle.generated_texts.proofs.Rekeyed.{AreApart, children_of_rekeyed, labels_rekeyed, same_path}
use Rattle.generated_texts.proofs.RekeyedBoxes.{same_joined, same_text}
use Rattle.generated_texts.proofs.RekeyedSets.{same_has}
use Rattle.generated_texts.proofs.RekeyedStyles.{same_style}
use Rattle.generated_texts.proofs.RekeyedTrees.{document_rekeyed, with_rekeyed_record}

module _ (rekey : ℕ → ℕ) where
  -- what is known of targets under other keys
  pub record IsRekeyed (old new : Known) : Type 0 where
    pub counters : (id : List ℕ) → new.counters id ≡ option_map (rekeyed_set rekey) (old.counters id)
    pub characters : (id : List ℕ) → new.characters id ≡ old.characters id
    pub flat : (id : List ℕ) (part : Part) → new.flat id part ≡ old.flat id part

  module _ (table : List CounterStyle) where
    same_target : (name : List ℕ) (style : StyleRef) (set : List Counter) → target_counter table name style (rekeyed_set rekey set) ≡ target_counter table name style set
    same_target name style set =
        ap (λ b. cond b (innermost_text table (rekeyed_set rekey set) name style) (representation table style (pos 0))) (same_has rekey set name)
        ∙ ap (λ text. cond (is_some (innermost set name)) text (representation table style (pos 0))) (same_text rekey table set name style)

    same_targets : (name between : List ℕ) (style : StyleRef) (set : List Counter) → target_counters table name between style (rekeyed_set rekey set) ≡ target_counters table name between style set
    same_targets name between style set =
        ap (λ b. cond b (joined_text table (rekeyed_set rekey set) name between style) (representation table style (pos 0))) (same_has rekey set name)
        ∙ ap (λ text. cond (is_some (innermost set name)) text (representation table style (pos 0))) (same_joined rekey table set name between style)

    module _ (old new : Known) (tied : IsRekeyed old new) where
      counters_in : (url : List ℕ) → counters_at new url ≡ option_map (rekeyed_set rekey) (counters_at old url)
      counters_in url = then_same (rekeyed_set rekey) old.counters new.counters tied.counters (target_id url)

      module _ (texts texts_too : List ℕ → Part → List ℕ) (same : (url : List ℕ) (part : Part) → texts_too url part ≡ texts url part) where
        same_target_text : (url : List ℕ) (part : Part) → target_text new texts_too url part ≡ target_text old texts url part
        same_target_text url Content = map_or_same old.characters new.characters tied.characters (target_id url) []
        same_target_text url Before = same url Before
        same_target_text url After = same url After

        same_piece : (what : Piece) → piece_text table new texts_too what ≡ piece_text table old texts what
        same_piece (piece.Chars text) = refl
        same_piece (piece.TargetCounter url name style) =
            ap (λ set. option_map_or (target_counter table name style) set []) (counters_in url)
            ∙ map_or_map (rekeyed_set rekey) (target_counter table name style) (target_counter table name style) (same_target name style) (counters_at old url) []
        same_piece (piece.TargetCounters url name between style) =
            ap (λ set. option_map_or (target_counters table name between style) set []) (counters_in url)
            ∙ map_or_map (rekeyed_set rekey) (target_counters table name between style) (target_counters table name between style) (same_targets name between style) (counters_at old url) []
        same_piece (piece.TargetText url part) = same_target_text url part

      pub same_flat : (pieces : List Piece) → flat_text table new pieces ≡ flat_text table old pieces
      same_flat pieces = flat_map_same (piece_text table new (λ url part. [])) (piece_text table old (λ url part. [])) (same_piece (λ url part. []) (λ url part. []) (λ url part. refl)) pieces

      pub same_full : (pieces : List Piece) → full_text table new pieces ≡ full_text table old pieces
      same_full pieces =
          let texts : List ℕ → Part → List ℕ = λ url part. unwrap_or (flat_at old url part) [] in
          let texts_too : List ℕ → Part → List ℕ = λ url part. unwrap_or (flat_at new url part) [] in
          flat_map_same (piece_text table new texts_too) (piece_text table old texts)
          (same_piece texts texts_too (λ url part. ap (λ text. unwrap_or text []) (and_then_same (λ id. old.flat id part) (λ id. new.flat id part) (λ id. tied.flat id part) (target_id url)))) pieces

      -- Entries.

      text_rekeyed : (made : Made) → box_text table new (rekeyed_made rekey made) ≡ box_text table old made
      text_rekeyed made =
          let make : (flat full : List ℕ) → BoxText = λ flat full. record { flat = flat; full = full } in
          ap (λ flat. make flat (full_text table new made.pieces)) (same_flat made.pieces) ∙ ap (make (flat_text table old made.pieces)) (same_full made.pieces)

      texts_rekeyed : (made : Option Made) → option_map (box_text table new) (option_map (rekeyed_made rekey) made) ≡ option_map (box_text table old) made
      texts_rekeyed made = option_map_map (rekeyed_made rekey) (box_text table old) (box_text table new) text_rekeyed made

      pub entry_rekeyed : (element : ElementRecord) → node_entry table new (rekeyed_record rekey element) ≡ rekeyed_entry rekey (node_entry table old element)
      entry_rekeyed element =
          let make : (marker before after : Option BoxText) → NodeEntry = λ marker before after. record {
            has_box = element.has_box;
            own = rekeyed_set rekey element.own;
            exit = rekeyed_set rekey element.exit;
            depth_before = element.depth_before;
            depth_after = element.depth_after;
            marker = marker;
            before = before;
            after = after;
          } in
          let marker = option_map (box_text table old) element.marker in
          let before = option_map (box_text table old) element.before in
          let before_too = option_map (box_text table new) (option_map (rekeyed_made rekey) element.before) in
          let after_too = option_map (box_text table new) (option_map (rekeyed_made rekey) element.after) in
          ap (λ one. make one before_too after_too) (texts_rekeyed element.marker)
          ∙ ap (λ one. make marker one after_too) (texts_rekeyed element.before)
          ∙ ap (make marker before) (texts_rekeyed element.after)

      entries_rekeyed : (records : List (ℕ × ElementRecord)) → node_entries table new (rekeyed_records rekey records) ≡ rekeyed_entries rekey (node_entries table old records)
      entries_rekeyed records =
          let make : ℕ × ElementRecord → ℕ × NodeEntry = λ element. (element.0, node_entry table old element.1) in
          let make_too : ℕ × ElementRecord → ℕ × NodeEntry = λ element. (element.0, node_entry table new element.1) in
          let renamed : ℕ × NodeEntry → ℕ × NodeEntry = λ entry. (rekey entry.0, rekeyed_entry rekey entry.1) in
          map_map (with_rekeyed_record rekey) make_too records
          ∙ map_same (λ element. make_too (with_rekeyed_record rekey element)) (λ element. renamed (make element)) (λ (element : ℕ × ElementRecord). ap (λ (entry : NodeEntry). (rekey element.0, entry)) (entry_rekeyed element.1)) records
          ∙ sym (map_map make renamed records)

  -- References.

  pub holder_rekeyed : (document : Forest (Keyed Node)) (id : List ℕ) → first_holder (rekeyed rekey document) id ≡ option_map rekey (first_holder document id)
  holder_rekeyed document id =
      let test : Keyed Node → Bool = λ node. has_id id node.label in
      let key : Keyed Node → ℕ = λ node. node.key in
      ap (λ nodes. option_map key (find test nodes)) (labels_rekeyed rekey document)
      ∙ ap (option_map key) (find_map (rekeyed_node rekey) test test (λ _. refl) (labels document))
      ∙ option_map_past (rekeyed_node rekey) rekey key key (λ _. refl) (find test (labels document))

  pub same_characters : (trees : Forest (Keyed Node)) → characters_in (rekeyed rekey trees) ≡ characters_in trees
  same_characters trees =
      let read : Keyed Node → List ℕ = λ node. unwrap_or (node_characters node.label) [] in
      ap (flat_map read) (labels_rekeyed rekey trees) ∙ flat_map_map (rekeyed_node rekey) read read (λ _. refl) (labels trees)

  same_style_texts : (trees : Forest (Keyed Node)) → style_texts (rekeyed rekey trees) ≡ style_texts trees
  same_style_texts Empty = refl
  same_style_texts (Tree node children after) =
      ap (λ text. cond (has_sheet node.label) (text ∷ []) [] ++ (style_texts (rekeyed rekey children) ++ style_texts (rekeyed rekey after))) (same_characters children)
      ∙ ap (λ texts. style_text node.label children ++ (texts ++ style_texts (rekeyed rekey after))) (same_style_texts children)
      ∙ ap (λ texts. style_text node.label children ++ (style_texts children ++ texts)) (same_style_texts after)

  pub same_sheet : (sheet_text : List ℕ) (document : Forest (Keyed Node)) → author_sheet sheet_text (rekeyed rekey document) ≡ author_sheet sheet_text document
  same_sheet sheet_text document = ap (λ texts. sheets (sheet_text ∷ texts)) (same_style_texts document)

  pub asked_rekeyed : (element : ElementRecord) (part : Part) → asked_box (rekeyed_record rekey element) part ≡ option_map (rekeyed_made rekey) (asked_box element part)
  asked_rekeyed element Content = refl
  asked_rekeyed element Before = refl
  asked_rekeyed element After = refl

  own_rekeyed : (element : ElementRecord) (has : Bool) → cond has (Some (rekeyed_set rekey element.own)) None ≡ option_map (rekeyed_set rekey) (cond has (Some element.own) None)
  own_rekeyed element true = refl
  own_rekeyed element false = refl

  module _ (apart : AreApart rekey) where
    -- what is kept under a key
    pub kept_rekeyed : {V : Type 0} (f : V → V) (kept : List (ℕ × V)) (key : ℕ) → kept_at (map (λ (entry : ℕ × V). (rekey entry.0, f entry.1)) kept) (rekey key) ≡ option_map f (kept_at kept key)
    kept_rekeyed {V} f kept key =
        let renamed : ℕ × V → ℕ × V = λ entry. (rekey entry.0, f entry.1) in
        let test : ℕ × V → Bool = λ entry. entry.0 == key in
        let test_too : ℕ × V → Bool = λ entry. entry.0 == rekey key in
        let read : ℕ × V → V = λ entry. entry.1 in
        ap (option_map read) (find_map renamed test test_too (λ (entry : ℕ × V). apart entry.0 key) kept)
        ∙ option_map_past renamed f read read (λ _. refl) (find test kept)

    module _ (table : List CounterStyle) (document : Forest (Keyed Node)) (records : List (ℕ × ElementRecord)) where
      abbrev document_too : Forest (Keyed Node)
      document_too = rekeyed rekey document

      abbrev records_too : List (ℕ × ElementRecord)
      records_too = rekeyed_records rekey records

      pub target_rekeyed : (id : List ℕ) → target_record table document_too records_too id ≡ option_map (rekeyed_record rekey) (target_record table document records id)
      target_rekeyed id =
          ap (option_and_then (kept_at records_too)) (holder_rekeyed document id)
          ∙ then_past rekey (rekeyed_record rekey) (kept_at records) (kept_at records_too) (kept_rekeyed (rekeyed_record rekey) records) (first_holder document id)

      pub counters_rekeyed : (id : List ℕ) → known_counters table document_too records_too id ≡ option_map (rekeyed_set rekey) (known_counters table document records id)
      counters_rekeyed id =
          let own : ElementRecord → Option (List Counter) = λ element. cond element.has_box (Some element.own) None in
          ap (option_and_then own) (target_rekeyed id)
          ∙ then_past (rekeyed_record rekey) (rekeyed_set rekey) own own (λ (element : ElementRecord). own_rekeyed element element.has_box) (target_record table document records id)

      pub characters_rekeyed : (id : List ℕ) → known_characters document_too id ≡ known_characters document id
      characters_rekeyed id =
          let below : ℕ → List ℕ = λ key. characters_in (children_of document key) in
          let below_too : ℕ → List ℕ = λ key. characters_in (children_of document_too key) in
          ap (λ key. option_map_or below_too key []) (holder_rekeyed document id)
          ∙ map_or_map rekey below below_too (λ key. ap (λ trees. characters_in trees) (children_of_rekeyed rekey apart document key) ∙ same_characters (children_of document key)) (first_holder document id) []

      pub to_flat_rekeyed : IsRekeyed (known_to_flat_texts table document records) (known_to_flat_texts table document_too records_too)
      to_flat_rekeyed = record { counters = counters_rekeyed; characters = characters_rekeyed; flat = λ id part. refl }

      flat_rekeyed : (id : List ℕ) (part : Part) → known_flat table document_too records_too id part ≡ known_flat table document records id part
      flat_rekeyed id part =
          let text : Made → List ℕ = λ made. flat_text table (known_to_flat_texts table document records) made.pieces in
          let text_too : Made → List ℕ = λ made. flat_text table (known_to_flat_texts table document_too records_too) made.pieces in
          let asked : ElementRecord → Option Made = λ element. asked_box element part in
          ap (λ element. option_map text_too (option_and_then asked element)) (target_rekeyed id)
          ∙ ap (option_map text_too) (then_past (rekeyed_record rekey) (rekeyed_made rekey) asked asked (λ element. asked_rekeyed element part) (target_record table document records id))
          ∙ option_map_map (rekeyed_made rekey) text text_too (λ (made : Made). same_flat table (known_to_flat_texts table document records) (known_to_flat_texts table document_too records_too) to_flat_rekeyed made.pieces)
          (option_and_then asked (target_record table document records id))

      targets_rekeyed : IsRekeyed (known_targets table document records) (known_targets table document_too records_too)
      targets_rekeyed = record { counters = counters_rekeyed; characters = characters_rekeyed; flat = flat_rekeyed }

    -- Documents.

    pub evaluation_rekeyed : (author : Sheet) (document : Forest (Keyed Node)) → document_evaluation author (rekeyed rekey document) ≡ rekeyed_records rekey (document_evaluation author document)
    evaluation_rekeyed author document =
        document_rekeyed rekey apart (counter_styles author) (document_style author document) (document_style author (rekeyed rekey document))
        (λ key parent. same_style rekey apart document agent_sheet author key parent) document

    pub document_entries_rekeyed : (author : Sheet) (document : Forest (Keyed Node)) → document_entries author (rekeyed rekey document) ≡ rekeyed_entries rekey (document_entries author document)
    document_entries_rekeyed author document =
        let table = counter_styles author in
        let records = document_evaluation author document in
        ap (λ all. node_entries table (known_targets table (rekeyed rekey document) all) all) (evaluation_rekeyed author document)
        ∙ entries_rekeyed table (known_targets table document records) (known_targets table (rekeyed rekey document) (rekeyed_records rekey records)) (targets_rekeyed table document records) records

    -- Lines.

    module _ (document : Forest (Keyed Node)) where
      lines_rekeyed : (key : ℕ) (which : BoxKind) (box : Option BoxText) → lines_of (rekeyed rekey document) (rekey key) which box ≡ lines_of document key which box
      lines_rekeyed key which box = ap (λ path. option_map_or (λ (text : BoxText). record { path = path; kind = which; text = text.full } ∷ []) box []) (same_path rekey apart document key)

      module _ (old new : ℕ → Option NodeEntry) (tied : (key : ℕ) → new (rekey key) ≡ option_map (rekeyed_entry rekey) (old key)) where
        first_rekeyed : (key : ℕ) → first_lines (rekeyed rekey document) new (rekey key) ≡ first_lines document old key
        first_rekeyed key =
            let lines : NodeEntry → List Line = λ entry. lines_of document key kind.Marker entry.marker ++ lines_of document key kind.Before entry.before in
            let lines_too : NodeEntry → List Line = λ entry. lines_of (rekeyed rekey document) (rekey key) kind.Marker entry.marker ++ lines_of (rekeyed rekey document) (rekey key) kind.Before entry.before in
            ap (λ entry. option_map_or lines_too entry []) (tied key)
            ∙ map_or_map (rekeyed_entry rekey) lines lines_too (λ (entry : NodeEntry).
            ap (λ ls. ls ++ lines_of (rekeyed rekey document) (rekey key) kind.Before entry.before) (lines_rekeyed key kind.Marker entry.marker)
            ∙ ap (λ ls. lines_of document key kind.Marker entry.marker ++ ls) (lines_rekeyed key kind.Before entry.before)) (old key) []

        last_rekeyed : (key : ℕ) → last_lines (rekeyed rekey document) new (rekey key) ≡ last_lines document old key
        last_rekeyed key =
            ap (λ entry. option_map_or (λ (e : NodeEntry). lines_of (rekeyed rekey document) (rekey key) kind.After e.after) entry []) (tied key)
            ∙ map_or_map (rekeyed_entry rekey) (λ (e : NodeEntry). lines_of document key kind.After e.after) (λ (e : NodeEntry). lines_of (rekeyed rekey document) (rekey key) kind.After e.after)
            (λ (entry : NodeEntry). lines_rekeyed key kind.After entry.after) (old key) []

        pub trees_rekeyed : (trees : Forest (Keyed Node)) → tree_lines (rekeyed rekey document) new (rekeyed rekey trees) ≡ tree_lines document old trees
        trees_rekeyed Empty = refl
        trees_rekeyed (Tree node children after) =
            let lines = tree_lines (rekeyed rekey document) new in
            ap (λ ls. ls ++ (lines (rekeyed rekey children) ++ (last_lines (rekeyed rekey document) new (rekey node.key) ++ lines (rekeyed rekey after)))) (first_rekeyed node.key)
            ∙ ap (λ ls. first_lines document old node.key ++ (ls ++ (last_lines (rekeyed rekey document) new (rekey node.key) ++ lines (rekeyed rekey after)))) (trees_rekeyed children)
            ∙ ap (λ ls. first_lines document old node.key ++ (tree_lines document old children ++ (ls ++ lines (rekeyed rekey after)))) (last_rekeyed node.key)
            ∙ ap (λ ls. first_lines document old node.key ++ (tree_lines document old children ++ (last_lines document old node.key ++ ls))) (trees_rekeyed after)

    pub keyed_lines_rekeyed : (sheet_text : List ℕ) (document : Forest (Keyed Node)) → keyed_lines sheet_text (rekeyed rekey document) ≡ keyed_lines sheet_text document
    keyed_lines_rekeyed sheet_text document =
        let author = author_sheet sheet_text document in
        let entries = document_entries author document in
        ap (λ sheet. tree_lines (rekeyed rekey document) (kept_at (document_entries sheet (rekeyed rekey document))) (rekeyed rekey document)) (same_sheet sheet_text document)
        ∙ ap (λ all. tree_lines (rekeyed rekey document) (kept_at all) (rekeyed rekey document)) (document_entries_rekeyed author document)
        ∙ trees_rekeyed document (kept_at entries) (kept_at (rekeyed_entries rekey entries)) (kept_rekeyed (rekeyed_entry rekey) entries) document
