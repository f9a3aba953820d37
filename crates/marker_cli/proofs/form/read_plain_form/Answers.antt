use Rattle.std.proofs.Common.{◌≡◌, ◌∙◌, [], ◌∷◌, codes, rules, sym, w64}
use mir.Val.{to_z, of_z}
use Rattle.std.proofs.lemmas.Int.{to_z-of_z}
use Rattle.std.specs.Prelude.{None}
use Rattle.marker_cli.proofs.FormLemmas.{bake_name, dump_name, edit_name, fits_count, five_words, four_words, gen_name, gen_none, history_name, history_none, no_command, none_read, table_name, same_form, table_none, text_name, three_listed, three_words}
use Rattle.marker_cli.proofs.form.read_plain_form.Goals as goal

pub returns-then-is_command : goal.returns-then-is_command
returns-then-is_command c =
    let both = c.is_command.ensures.same.0 c.if-is_command.true in
    record {
      form = same_form c.aspect_form.ensures.form (record { written = three_listed c.args.words.now (codes "dump") (both.0, both.1 ∙ dump_name); within = tt });
    }

pub returns-then-is_command-2 : goal.returns-then-is_command-2
returns-then-is_command-2 c =
    let both = c.is_command-else-is_command.ensures.same.0 c.if-is_command-2.true in
    record {
      form = record {
        written = four_words c.args.words.now (codes "edit") c.index-words-1.result c.index-words-2.result c.index-words-3.result both.0 (both.1 ∙ edit_name)
            c.index-words-1.is c.index-words-2.is c.index-words-3.is;
        within = tt;
      };
    }

pub returns-in_ok-from : goal.returns-in_ok-from
returns-in_ok-from c =
    let both = c.is_command-else-is_command-2.ensures.same.0 c.if-is_command-3.true in
    let found = c.in_ok-from.ensures.found in
    let sheet = c.index-words-1-then-is_command-3.result in
    let style = c.index-words-2-then-is_command-3.result in
    let from_wide : to_z w64 (of_z w64 c.in_ok-from.from) ≡ c.in_ok-from.from = to_z-of_z w64 _ (fits_count _ found.2.from_fits) in
    let to_wide : to_z w64 (of_z w64 c.in_ok-from.to) ≡ c.in_ok-from.to = to_z-of_z w64 _ (fits_count _ found.2.to_fits) in
    rw (from_wide, to_wide) record {
      form = record {
        written = five_words c.args.words.now (codes "table") sheet style c.index-words-3-then-is_command-3.result c.index-words-4.result both.0 (both.1 ∙ table_name)
            c.index-words-1-then-is_command-3.is c.index-words-2-then-is_command-3.is c.index-words-3-then-is_command-3.is c.index-words-4.is
            ∙ (λ i. codes "table" ∷ sheet ∷ style ∷ found.0 i ∷ found.1 i ∷ []);
        within = found.2;
      };
    }

pub returns-in_ok-seed : goal.returns-in_ok-seed
returns-in_ok-seed c =
    let both = c.is_command-else-is_command-3.ensures.same.0 c.if-is_command-4.true in
    let found = c.in_ok-seed.ensures.found in
    record {
      form = record {
        written = three_words c.args.words.now (codes "gen") c.index-words-1-then-is_command-4.result c.index-words-2-then-is_command-4.result both.0 (both.1 ∙ gen_name)
            c.index-words-1-then-is_command-4.is c.index-words-2-then-is_command-4.is
            ∙ (λ i. codes "gen" ∷ found.0 i ∷ found.1 i ∷ []);
        within = found.2;
      };
    }

pub returns-in_err-seed : goal.returns-in_err-seed
returns-in_err-seed c =
    let both = c.is_command-else-is_command-3.ensures.same.0 c.if-is_command-4.true in
    let written = three_words c.args.words.now (codes "gen") c.index-words-1-then-is_command-4.result c.index-words-2-then-is_command-4.result both.0 (both.1 ∙ gen_name)
    c.index-words-1-then-is_command-4.is c.index-words-2-then-is_command-4.is in
    let is : c.from_residual-in_err-seed.result ≡ None = search rules in
    record { form = none_read c.args.words.now c.from_residual-in_err-seed.result is (gen_none c.args.words.now _ _ written c.in_err-seed.ensures.none) }

pub returns-in_ok-depth : goal.returns-in_ok-depth
returns-in_ok-depth c =
    let both = c.is_command-else-is_command-4.ensures.same.0 c.if-is_command-5.true in
    let found = c.in_ok-depth.ensures.found in
    let document = c.index-words-1-then-is_command-5.result in
    let sheet = c.index-words-2-then-is_command-5.result in
    let script = c.index-words-3-then-is_command-5.result in
    record {
      form = record {
        written = five_words c.args.words.now (codes "history") document sheet script c.index-words-4-then-is_command-5.result both.0 (both.1 ∙ history_name)
            c.index-words-1-then-is_command-5.is c.index-words-2-then-is_command-5.is c.index-words-3-then-is_command-5.is c.index-words-4-then-is_command-5.is
            ∙ (λ i. codes "history" ∷ document ∷ sheet ∷ script ∷ found.0 i ∷ []);
        within = found.1;
      };
    }

pub returns-in_err-depth : goal.returns-in_err-depth
returns-in_err-depth c =
    let both = c.is_command-else-is_command-4.ensures.same.0 c.if-is_command-5.true in
    let is : c.from_residual-in_err-depth.result ≡ None = search rules in
    record {
      form = none_read c.args.words.now c.from_residual-in_err-depth.result is
          (history_none c.args.words.now _ (both.1 ∙ history_name) c.index-words-4-then-is_command-5.is c.in_err-depth.ensures.none);
    }

pub returns-in_err-from : goal.returns-in_err-from
returns-in_err-from c =
    let both = c.is_command-else-is_command-2.ensures.same.0 c.if-is_command-3.true in
    let is : c.from_residual.result ≡ None = search rules in
    record {
      form = none_read c.args.words.now c.from_residual.result is
          (table_none c.args.words.now _ _ (both.1 ∙ table_name) c.index-words-3-then-is_command-3.is c.index-words-4.is c.in_err-from.ensures.none);
    }

pub returns-then-is_command-6 : goal.returns-then-is_command-6
returns-then-is_command-6 c =
    let both = c.is_command-else-is_command-5.ensures.same.0 c.if-is_command-6.true in
    record {
      form = same_form c.aspect_form-then-is_command-6.ensures.form (record { written = three_listed c.args.words.now (codes "text") (both.0, both.1 ∙ text_name); within = tt });
    }

pub returns-then-is_command-7 : goal.returns-then-is_command-7
returns-then-is_command-7 c =
    let both = c.is_command-else-is_command-6.ensures.same.0 c.if-is_command-7.true in
    record {
      form = record {
        written = three_words c.args.words.now (codes "bake") c.index-words-1-then-is_command-7.result c.index-words-2-then-is_command-7.result both.0 (both.1 ∙ bake_name)
            c.index-words-1-then-is_command-7.is c.index-words-2-then-is_command-7.is;
        within = tt;
      };
    }

pub returns-else-is_command-7 : goal.returns-else-is_command-7
returns-else-is_command-7 c =
    record {
      form = no_command c.args.words.now
          (λ both. cc (sym c.if-is_command.false ∙ c.is_command.ensures.same.1 (both.0, both.1 ∙ sym dump_name)))
          (λ both. cc (sym c.if-is_command-2.false ∙ c.is_command-else-is_command.ensures.same.1 (both.0, both.1 ∙ sym edit_name)))
          (λ both. cc (sym c.if-is_command-3.false ∙ c.is_command-else-is_command-2.ensures.same.1 (both.0, both.1 ∙ sym table_name)))
          (λ both. cc (sym c.if-is_command-4.false ∙ c.is_command-else-is_command-3.ensures.same.1 (both.0, both.1 ∙ sym gen_name)))
          (λ both. cc (sym c.if-is_command-5.false ∙ c.is_command-else-is_command-4.ensures.same.1 (both.0, both.1 ∙ sym history_name)))
          (λ both. cc (sym c.if-is_command-6.false ∙ c.is_command-else-is_command-5.ensures.same.1 (both.0, both.1 ∙ sym text_name)))
          (λ both. cc (sym c.if-is_command-7.false ∙ c.is_command-else-is_command-6.ensures.same.1 (both.0, both.1 ∙ sym bake_name)))
          c.requires.other c.requires.no_book;
    }
