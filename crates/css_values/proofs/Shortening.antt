-- Each piece of a value takes a token.
use Rattle.std.proofs.Common.{ℕ, Bool, List, [], ◌∷◌, Option, Some, None, refl, ℤ}
use Rattle.std.specs.Prelude.{codes}
use Rattle.plain_types.specs.declared.style_ref.System.{System}
use Rattle.reading.specs.Reading.{◌then◌, optional, run_at}
use Rattle.reading.proofs.Following.{Follows, here, later, left, nothing, ended, none_ends, Follows-trans, Leaves, Ends, leave_if, end_if, leave_otherwise, leave_then, end_then, leave_more, end_more, leave_within, TakesOne, takes_leaves, run_follows}
use Rattle.css_tokens.specs.declared.token.TokenKind.{TokenKind}
use Rattle.css_tokens.specs.TokenReading.{is_sign, is_function, is_keyword, ident_of, string_of, integer_of}
use Rattle.css_values.specs.Parts.{one_at, past_one_that, past_comma, past_keyword, past_function, past_close, string_at, integer_at, natural_of, natural_at, name_of, name_at, style_name_at, symbol_of, symbol_at, after_comma_at}
use Rattle.css_values.specs.Styles.{symbols_type_of, symbols_system_at, anonymous, strings_at, symbols_at, style_at, last_style_at, list_type_at}
use Rattle.css_values.specs.Lists.{reversed_at, reset_at, counter_op_at, part_at}
use Rattle.css_values.specs.Contents.{pair_at, quote_of, attr_name_at, attr_at, attr_url_at, url_token_of, url_token_at, url_function_at, address_at, url_at, target_at, name_between_at, counter_at, counters_at, target_counter_at, target_counters_at, part_of, last_part_at, target_text_at, item_at}
use Rattle.css_values.specs.Descriptors.{bound_at, are_in_order, bounds_at, weight_at}

-- ---- single tokens

leave_given : {A B : Type 0} {ks : List TokenKind} (o : Option A) (f : A → Option (B × List TokenKind)) → ((x : A) → Leaves ks (f x)) → Leaves ks (o then f)
leave_given (Some x) f p = p x
leave_given None f p = nothing

one_takes : {A : Type 0} (held : TokenKind → Option A) → TakesOne (one_at held)
one_takes held = record { none = refl; leaves = λ k ks. leave_given (held k) _ (λ x. left _ here) }

one_leaves : {A : Type 0} (held : TokenKind → Option A) (k : TokenKind) (ks : List TokenKind) → Leaves ks (one_at held (k ∷ ks))
one_leaves held = (one_takes held).leaves

one_within : {A : Type 0} (held : TokenKind → Option A) (ks : List TokenKind) → Leaves ks (one_at held ks)
one_within held = takes_leaves (one_at held) (one_takes held)

that_ends : (passes : TokenKind → Bool) (k : TokenKind) (ks : List TokenKind) → Ends ks (past_one_that passes (k ∷ ks))
that_ends passes k ks = end_if (passes k) (Some ks) None (ended here) none_ends

that_within : (passes : TokenKind → Bool) (ks : List TokenKind) → Ends ks (past_one_that passes ks)
that_within passes [] = none_ends
that_within passes (k ∷ ks) = end_more _ (later k here) (that_ends passes k ks)

function_ends : (word : List ℕ) (k : TokenKind) (ks : List TokenKind) → Ends ks (past_function word (k ∷ ks))
function_ends word = that_ends (is_function word)

keyword_ends : (word : List ℕ) (k : TokenKind) (ks : List TokenKind) → Ends ks (past_keyword word (k ∷ ks))
keyword_ends word = that_ends (is_keyword word)

keyword_within : (word : List ℕ) (ks : List TokenKind) → Ends ks (past_keyword word ks)
keyword_within word = that_within (is_keyword word)

comma_ends : (k : TokenKind) (ks : List TokenKind) → Ends ks (past_comma (k ∷ ks))
comma_ends = that_ends (is_sign 44)

comma_within : (ks : List TokenKind) → Ends ks (past_comma ks)
comma_within = that_within (is_sign 44)

close_within : (ks : List TokenKind) → Ends ks (past_close ks)
close_within [] = ended here
close_within (k ∷ ks) = end_if (is_sign 41 k) _ _ (ended (later k here)) none_ends

optional_follows : {A : Type 0} (o : Option (A × List TokenKind)) (ks : List TokenKind) → Leaves ks o → Follows ks (optional o ks).1
optional_follows o ks (left x p) = p
optional_follows o ks nothing = here

pub string_takes : TakesOne string_at
string_takes = one_takes string_of

pub symbol_takes : TakesOne symbol_at
symbol_takes = one_takes symbol_of

integer_follows : (ks : List TokenKind) → Follows ks (optional (integer_at ks) ks).1
integer_follows ks = optional_follows (integer_at ks) ks (one_within integer_of ks)

-- ---- counters

reversed_leaves : (k : TokenKind) (ks : List TokenKind) → Leaves ks (reversed_at (k ∷ ks))
reversed_leaves k ks = end_then (past_function (codes "reversed") (k ∷ ks)) _ (function_ends (codes "reversed") k ks) (λ rest p. leave_then (name_at rest) _ (leave_more _ p (one_within name_of rest)) (λ name q.
    end_then (past_close name.1) _ (end_more _ q (close_within name.1)) (λ end r. left _ r)))

pub reset_takes : TakesOne reset_at
unfolding reset_at
reset_takes = record {
  none = refl;
  leaves = λ k ks. leave_otherwise (reversed_at (k ∷ ks) then _) _
      (leave_then (reversed_at (k ∷ ks)) _ (reversed_leaves k ks) (λ name p. left _ (Follows-trans p (integer_follows name.1))))
      (leave_then (name_at (k ∷ ks)) _ (one_leaves name_of k ks) (λ name p. left _ (Follows-trans p (integer_follows name.1))));
}

pub counter_op_takes : (missing : ℤ) → TakesOne (counter_op_at missing)
unfolding counter_op_at
counter_op_takes missing = record { none = refl; leaves = λ k ks. leave_then (name_at (k ∷ ks)) _ (one_leaves name_of k ks) (λ name p. left _ (Follows-trans p (integer_follows name.1))) }

-- ---- styles

style_name_leaves : (k : TokenKind) (ks : List TokenKind) → Leaves ks (style_name_at (k ∷ ks))
style_name_leaves k ks = leave_then (name_at (k ∷ ks)) _ (one_leaves name_of k ks) (λ name p. left _ p)

system_follows : (ks : List TokenKind) → Follows ks (symbols_system_at ks).1
system_follows ks = optional_follows (one_at symbols_type_of ks) ks (one_within symbols_type_of ks)

strings_within : (system : System) (ks : List TokenKind) → Leaves ks (strings_at system (run_at string_at ks))
strings_within system ks = leave_given (anonymous system (run_at string_at ks).0) _ (λ style. end_then (past_close (run_at string_at ks).1) _ (end_more _ (run_follows string_at string_takes ks) (close_within (run_at string_at ks).1)) (λ end p. left _ p))

symbols_leaves : (k : TokenKind) (ks : List TokenKind) → Leaves ks (symbols_at (k ∷ ks))
unfolding symbols_at
symbols_leaves k ks = end_then (past_function (codes "symbols") (k ∷ ks)) _ (function_ends (codes "symbols") k ks) (λ rest p. leave_more _ (Follows-trans p (system_follows rest)) (strings_within (symbols_system_at rest).0 (symbols_system_at rest).1))

style_leaves : (k : TokenKind) (ks : List TokenKind) → Leaves ks (style_at (k ∷ ks))
unfolding style_at
style_leaves k ks = leave_otherwise (past_keyword (codes "none") (k ∷ ks) then _) _ (end_then (past_keyword (codes "none") (k ∷ ks)) _ (keyword_ends (codes "none") k ks) (λ rest p. left _ p))
    (leave_otherwise (style_name_at (k ∷ ks) then _) _ (leave_then (style_name_at (k ∷ ks)) _ (style_name_leaves k ks) (λ name p. left _ p))
    (leave_then (symbols_at (k ∷ ks)) _ (symbols_leaves k ks) (λ style p. left _ p)))

style_within : (ks : List TokenKind) → Leaves ks (style_at ks)
unfolding style_at symbols_at
style_within = leave_within style_at refl style_leaves

last_style_within : (ks : List TokenKind) → Leaves ks (last_style_at ks)
last_style_within ks = leave_otherwise (past_comma ks then _) _
    (end_then (past_comma ks) _ (comma_within ks) (λ rest p. leave_then (style_at rest) _ (leave_more _ p (style_within rest)) (λ style q. end_then (past_close style.1) _ (end_more _ q (close_within style.1)) (λ end r. left _ r))))
    (end_then (past_close ks) _ (close_within ks) (λ end p. left _ p))

list_type_leaves : (k : TokenKind) (ks : List TokenKind) → Leaves ks (list_type_at (k ∷ ks))
unfolding list_type_at
list_type_leaves k ks = leave_otherwise (string_at (k ∷ ks) then _) _ (leave_then (string_at (k ∷ ks)) _ (one_leaves string_of k ks) (λ string p. left _ p))
    (leave_then (style_at (k ∷ ks)) _ (style_leaves k ks) (λ style p. left _ p))

pub part_takes : TakesOne part_at
unfolding part_at list_type_at style_at symbols_at
part_takes = record {
  none = refl;
  leaves = λ k ks.
      leave_otherwise (past_keyword (codes "inside") (k ∷ ks) then _) _ (end_then (past_keyword (codes "inside") (k ∷ ks)) _ (keyword_ends (codes "inside") k ks) (λ rest p. left _ p))
      (leave_otherwise (past_keyword (codes "outside") (k ∷ ks) then _) _ (end_then (past_keyword (codes "outside") (k ∷ ks)) _ (keyword_ends (codes "outside") k ks) (λ rest p. left _ p))
      (leave_otherwise (past_keyword (codes "none") (k ∷ ks) then _) _ (end_then (past_keyword (codes "none") (k ∷ ks)) _ (keyword_ends (codes "none") k ks) (λ rest p. left _ p))
      (leave_then (list_type_at (k ∷ ks)) _ (list_type_leaves k ks) (λ type p. left _ p))));
}

-- ---- quotes and content

pub pair_takes : TakesOne pair_at
unfolding pair_at
pair_takes = record { none = refl; leaves = λ k ks. leave_then (string_at (k ∷ ks)) _ (one_leaves string_of k ks) (λ first p. leave_then (string_at first.1) _ (leave_more _ p (one_within string_of first.1)) (λ second q. left _ q)) }

attr_name_leaves : (k : TokenKind) (ks : List TokenKind) → Leaves ks (attr_name_at (k ∷ ks))
attr_name_leaves k ks = end_then (past_function (codes "attr") (k ∷ ks)) _ (function_ends (codes "attr") k ks) (λ rest p. leave_more _ p (one_within ident_of rest))

attr_leaves : (k : TokenKind) (ks : List TokenKind) → Leaves ks (attr_at (k ∷ ks))
unfolding attr_at
attr_leaves k ks = leave_then (attr_name_at (k ∷ ks)) _ (attr_name_leaves k ks) (λ name p. end_then (past_close name.1) _ (end_more _ p (close_within name.1)) (λ end q. left _ q))

attr_url_leaves : (k : TokenKind) (ks : List TokenKind) → Leaves ks (attr_url_at (k ∷ ks))
unfolding attr_url_at
attr_url_leaves k ks = leave_otherwise (attr_at (k ∷ ks)) _ (attr_leaves k ks)
    (leave_then (attr_name_at (k ∷ ks)) _ (attr_name_leaves k ks) (λ name p. end_then (past_keyword (codes "url") name.1) _ (end_more _ p (keyword_within (codes "url") name.1)) (λ rest q.
    end_then (past_close rest) _ (end_more _ q (close_within rest)) (λ end r. left _ r))))

url_function_leaves : (k : TokenKind) (ks : List TokenKind) → Leaves ks (url_function_at (k ∷ ks))
url_function_leaves k ks = end_then (past_function (codes "url") (k ∷ ks)) _ (function_ends (codes "url") k ks) (λ rest p. leave_then (string_at rest) _ (leave_more _ p (one_within string_of rest)) (λ string q.
    end_then (past_close string.1) _ (end_more _ q (close_within string.1)) (λ end r. left _ r)))

address_leaves : (k : TokenKind) (ks : List TokenKind) → Leaves ks (address_at (k ∷ ks))
unfolding address_at
address_leaves k ks = leave_otherwise (string_at (k ∷ ks)) _ (one_leaves string_of k ks) (leave_otherwise (url_token_at (k ∷ ks)) _ (one_leaves url_token_of k ks) (url_function_leaves k ks))

url_within : (ks : List TokenKind) → Leaves ks (url_at ks)
unfolding url_at address_at attr_url_at attr_at
url_within = leave_within url_at refl (λ k ks. leave_otherwise (address_at (k ∷ ks) then _) _ (leave_then (address_at (k ∷ ks)) _ (address_leaves k ks) (λ address p. left _ p)) (leave_then (attr_url_at (k ∷ ks)) _ (attr_url_leaves k ks) (λ name p. left _ p)))

target_leaves : (function : List ℕ) (k : TokenKind) (ks : List TokenKind) → Leaves ks (target_at function (k ∷ ks))
target_leaves function k ks = end_then (past_function function (k ∷ ks)) _ (function_ends function k ks) (λ rest p. leave_more _ p (url_within rest))

names_within : (ks : List TokenKind) → Leaves ks (name_between_at ks)
unfolding name_between_at
names_within ks = leave_then (name_at ks) _ (one_within name_of ks) (λ name p. end_then (past_comma name.1) _ (end_more _ p (comma_within name.1)) (λ rest q. leave_then (string_at rest) _ (leave_more _ q (one_within string_of rest)) (λ between r. left _ r)))

counter_leaves : (k : TokenKind) (ks : List TokenKind) → Leaves ks (counter_at (k ∷ ks))
unfolding counter_at
counter_leaves k ks = end_then (past_function (codes "counter") (k ∷ ks)) _ (function_ends (codes "counter") k ks) (λ rest p. leave_then (name_at rest) _ (leave_more _ p (one_within name_of rest)) (λ name q.
    leave_then (last_style_at name.1) _ (leave_more _ q (last_style_within name.1)) (λ style r. left _ r)))

counters_leaves : (k : TokenKind) (ks : List TokenKind) → Leaves ks (counters_at (k ∷ ks))
unfolding counters_at
counters_leaves k ks = end_then (past_function (codes "counters") (k ∷ ks)) _ (function_ends (codes "counters") k ks) (λ rest p. leave_then (name_between_at rest) _ (leave_more _ p (names_within rest)) (λ names q.
    leave_then (last_style_at names.1) _ (leave_more _ q (last_style_within names.1)) (λ style r. left _ r)))

target_counter_leaves : (k : TokenKind) (ks : List TokenKind) → Leaves ks (target_counter_at (k ∷ ks))
unfolding target_counter_at
target_counter_leaves k ks = leave_then (target_at (codes "target-counter") (k ∷ ks)) _ (target_leaves (codes "target-counter") k ks) (λ url p. end_then (past_comma url.1) _ (end_more _ p (comma_within url.1)) (λ next q.
    leave_then (name_at next) _ (leave_more _ q (one_within name_of next)) (λ name r. leave_then (last_style_at name.1) _ (leave_more _ r (last_style_within name.1)) (λ style s. left _ s))))

target_counters_leaves : (k : TokenKind) (ks : List TokenKind) → Leaves ks (target_counters_at (k ∷ ks))
unfolding target_counters_at
target_counters_leaves k ks = leave_then (target_at (codes "target-counters") (k ∷ ks)) _ (target_leaves (codes "target-counters") k ks) (λ url p. end_then (past_comma url.1) _ (end_more _ p (comma_within url.1)) (λ next q.
    leave_then (name_between_at next) _ (leave_more _ q (names_within next)) (λ names r. leave_then (last_style_at names.1) _ (leave_more _ r (last_style_within names.1)) (λ style s. left _ s))))

last_part_within : (ks : List TokenKind) → Leaves ks (last_part_at ks)
unfolding last_part_at
last_part_within ks = leave_otherwise (past_comma ks then _) _
    (end_then (past_comma ks) _ (comma_within ks) (λ rest p. leave_then (one_at part_of rest) _ (leave_more _ p (one_within part_of rest)) (λ part q. end_then (past_close part.1) _ (end_more _ q (close_within part.1)) (λ end r. left _ r))))
    (end_then (past_close ks) _ (close_within ks) (λ end p. left _ p))

target_text_leaves : (k : TokenKind) (ks : List TokenKind) → Leaves ks (target_text_at (k ∷ ks))
unfolding target_text_at
target_text_leaves k ks = leave_then (target_at (codes "target-text") (k ∷ ks)) _ (target_leaves (codes "target-text") k ks) (λ url p. leave_then (last_part_at url.1) _ (leave_more _ p (last_part_within url.1)) (λ part q. left _ q))

pub item_takes : TakesOne item_at
unfolding item_at attr_at counter_at counters_at target_counter_at target_counters_at target_text_at
item_takes = record {
  none = refl;
  leaves = λ k ks.
      leave_otherwise (string_at (k ∷ ks) then _) _ (leave_then (string_at (k ∷ ks)) _ (one_leaves string_of k ks) (λ string p. left _ p))
      (leave_otherwise (one_at quote_of (k ∷ ks) then _) _ (leave_then (one_at quote_of (k ∷ ks)) _ (one_leaves quote_of k ks) (λ quote p. left _ p))
      (leave_otherwise (attr_at (k ∷ ks) then _) _ (leave_then (attr_at (k ∷ ks)) _ (attr_leaves k ks) (λ name p. left _ p))
      (leave_otherwise (counter_at (k ∷ ks)) _ (counter_leaves k ks)
      (leave_otherwise (counters_at (k ∷ ks)) _ (counters_leaves k ks)
      (leave_otherwise (target_counter_at (k ∷ ks)) _ (target_counter_leaves k ks)
      (leave_otherwise (target_counters_at (k ∷ ks)) _ (target_counters_leaves k ks) (target_text_leaves k ks)))))));
}

-- ---- descriptors

bound_within : (ks : List TokenKind) → Leaves ks (bound_at ks)
bound_within ks = leave_otherwise (integer_at ks then _) _ (leave_then (integer_at ks) _ (one_within integer_of ks) (λ value p. left _ p))
    (end_then (past_keyword (codes "infinite") ks) _ (keyword_within (codes "infinite") ks) (λ rest p. left _ p))

bounds_within : (ks : List TokenKind) → Leaves ks (bounds_at ks)
unfolding bounds_at
bounds_within ks = leave_then (bound_at ks) _ (bound_within ks) (λ low p. leave_then (bound_at low.1) _ (leave_more _ p (bound_within low.1)) (λ high q.
    leave_if (are_in_order low.0 high.0) _ _ (left _ q) nothing))

weight_within : (ks : List TokenKind) → Leaves ks (weight_at ks)
unfolding weight_at
weight_within ks = leave_otherwise (natural_at ks then _) _
    (leave_then (natural_at ks) _ (one_within natural_of ks) (λ weight p. leave_then (symbol_at weight.1) _ (leave_more _ p (one_within symbol_of weight.1)) (λ symbol q. left _ q)))
    (leave_then (symbol_at ks) _ (one_within symbol_of ks) (λ symbol p. leave_then (natural_at symbol.1) _ (leave_more _ p (one_within natural_of symbol.1)) (λ weight q. left _ q)))

-- after a comma a piece need not take a token of its own
after_comma_takes : {A : Type 0} (piece_at : List TokenKind → Option (A × List TokenKind)) → ((ks : List TokenKind) → Leaves ks (piece_at ks)) → TakesOne (after_comma_at piece_at)
unfolding after_comma_at
after_comma_takes piece_at within = record { none = refl; leaves = λ k ks. end_then (past_comma (k ∷ ks)) _ (comma_ends k ks) (λ rest p. leave_more _ p (within rest)) }

pub more_bounds_takes : TakesOne (after_comma_at bounds_at)
more_bounds_takes = after_comma_takes bounds_at bounds_within

pub more_weights_takes : TakesOne (after_comma_at weight_at)
more_weights_takes = after_comma_takes weight_at weight_within
