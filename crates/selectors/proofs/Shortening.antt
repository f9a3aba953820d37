-- Each piece of a selector takes a token, and each part leaves an end of the tokens.
use Rattle.std.proofs.Common.{ℕ, zero, suc, Bool, true, false, cond, List, [], ◌∷◌, Option, Some, None, refl}
use Rattle.plain_types.specs.declared.selector.Compound.{Compound}
use Rattle.plain_types.specs.declared.selector.Simple.{Simple}
use Rattle.reading.specs.Reading.{◌then◌, optional, run_at}
use Rattle.reading.proofs.Following.{Follows, here, later, left, nothing, ended, none_ends, Follows-trans, Leaves, Ends, rest_if, leave_if, end_if, leave_otherwise, leave_then, end_then, leave_more, end_more, leave_within, TakesOne, takes_leaves, takes_shorter, run_follows}
use Rattle.reading.proofs.Runs.{Shortens}
use Rattle.css_tokens.specs.declared.token.Token.{Token}
use Rattle.css_tokens.specs.declared.token.TokenKind.{TokenKind}
use Rattle.css_tokens.specs.TokenReading.{is_sign, is_whitespace, ident_of, held_at, ident_at, function_of, function_at, past_delimiter, past_close, skip_whitespace}
use Rattle.selectors.specs.Parts.{spaced_at, after_comma_at, comma_list_at}
use Rattle.selectors.specs.AnPlusB.{source_value, source, argument_token_at, an_plus_b_at}
use Rattle.selectors.specs.Simples.{type_of, type_at, id_of, id_at, class_at, test_of, test_at, value_of, flag_of, flag_at, bracket_end, present, tested_at, attribute_at, plain_class, nth_class}
use Rattle.selectors.specs.Compounds.{plain_class_at, nesting_class, type_part, some_compound, with_subclasses, class_function_at, pseudo_class_at, subclass_at, compound_at, choices_at}
use Rattle.selectors.specs.declared.selector_list.Sequence.{Sequence}
use Rattle.selectors.specs.Selectors.{combinator_of, combinator_at, pseudo_element, legacy_pseudo_element, modern_pseudo_element_at, pseudo_element_at, lone_at, complex_end, outer_compound_at, step_at, selector_at}

-- ---- single tokens

leave_given : {A B : Type 0} {ts : List Token} (o : Option A) (f : A → Option (B × List Token)) → ((x : A) → Leaves ts (f x)) → Leaves ts (o then f)
leave_given (Some x) f p = p x
leave_given None f p = nothing

held_takes : {A : Type 0} (held : TokenKind → Option A) → TakesOne (held_at held)
held_takes held = record { none = refl; leaves = λ t ts. leave_given (held t.kind) _ (λ x. left _ here) }

held_leaves : {A : Type 0} (held : TokenKind → Option A) (t : Token) (ts : List Token) → Leaves ts (held_at held (t ∷ ts))
held_leaves held = (held_takes held).leaves

held_within : {A : Type 0} (held : TokenKind → Option A) (ts : List Token) → Leaves ts (held_at held ts)
held_within held = takes_leaves (held_at held) (held_takes held)

sign_ends : (wanted : ℕ) (t : Token) (ts : List Token) → Ends ts (past_delimiter wanted (t ∷ ts))
sign_ends wanted t ts = end_if (is_sign wanted t.kind) (Some ts) None (ended here) none_ends

sign_within : (wanted : ℕ) (ts : List Token) → Ends ts (past_delimiter wanted ts)
sign_within wanted [] = none_ends
sign_within wanted (t ∷ ts) = end_more _ (later t here) (sign_ends wanted t ts)

close_within : (bracket : ℕ) (ts : List Token) → Ends ts (past_close bracket ts)
close_within bracket [] = ended here
close_within bracket (t ∷ ts) = end_if (is_sign bracket t.kind) _ _ (ended (later t here)) none_ends

whitespace_follows : (ts : List Token) → Follows ts (skip_whitespace ts)
whitespace_follows [] = here
whitespace_follows (t ∷ ts) = rest_if (is_whitespace t.kind) _ _ (later t (whitespace_follows ts)) here

optional_follows : {A : Type 0} (o : Option (A × List Token)) (ts : List Token) → Leaves ts o → Follows ts (optional o ts).1
optional_follows o ts (left x p) = p
optional_follows o ts nothing = here

-- ---- simple selectors

class_leaves : (t : Token) (ts : List Token) → Leaves ts (class_at (t ∷ ts))
class_leaves t ts = end_then (past_delimiter 46 (t ∷ ts)) _ (sign_ends 46 t ts) (λ rest p. leave_then (ident_at rest) _ (leave_more _ p (held_within ident_of rest)) (λ name q. left _ q))

test_within : (ts : List Token) → Leaves ts (test_at ts)
test_within ts = leave_otherwise (past_delimiter 61 ts then _) _ (end_then (past_delimiter 61 ts) _ (sign_within 61 ts) (λ rest p. left _ p))
    (leave_then (held_at test_of ts) _ (held_within test_of ts) (λ test p. end_then (past_delimiter 61 test.1) _ (end_more _ p (sign_within 61 test.1)) (λ rest q. left _ q)))

bracket_within : (attribute : Simple) (ts : List Token) → Leaves ts (bracket_end attribute ts)
bracket_within attribute ts = end_then (past_close 93 (skip_whitespace ts)) _ (end_more _ (whitespace_follows ts) (close_within 93 (skip_whitespace ts))) (λ rest p. left _ p)

flag_follows : (ts : List Token) → Follows ts (flag_at ts).1
flag_follows ts = optional_follows (held_at flag_of (skip_whitespace ts)) ts (leave_more _ (whitespace_follows ts) (held_within flag_of (skip_whitespace ts)))

tested_within : (name : List ℕ) (ts : List Token) → Leaves ts (tested_at name ts)
tested_within name ts = leave_then (test_at (skip_whitespace ts)) _ (leave_more _ (whitespace_follows ts) (test_within (skip_whitespace ts))) (λ test p.
    leave_then (held_at value_of (skip_whitespace test.1)) _ (leave_more _ (Follows-trans p (whitespace_follows test.1)) (held_within value_of (skip_whitespace test.1))) (λ value q.
    leave_more _ (Follows-trans q (flag_follows value.1)) (bracket_within _ (flag_at value.1).1)))

attribute_leaves : (t : Token) (ts : List Token) → Leaves ts (attribute_at (t ∷ ts))
unfolding attribute_at
attribute_leaves t ts = end_then (past_delimiter 91 (t ∷ ts)) _ (sign_ends 91 t ts) (λ inside p.
    leave_then (ident_at (skip_whitespace inside)) _ (leave_more _ (Follows-trans p (whitespace_follows inside)) (held_within ident_of (skip_whitespace inside))) (λ name q.
    leave_otherwise (bracket_end (present name.0) name.1) _ (leave_more _ q (bracket_within (present name.0) name.1)) (leave_more _ q (tested_within name.0 name.1))))

-- ---- pseudo-classes

pub argument_token_takes : TakesOne argument_token_at
argument_token_takes = record { none = refl; leaves = λ t ts. leave_if (is_sign 41 t.kind) None (Some (t, ts)) nothing (left _ here) }

an_plus_b_within : (text : List ℕ) (ts : List Token) → Leaves ts (an_plus_b_at text ts)
unfolding an_plus_b_at
an_plus_b_within text ts = leave_given (source_value (source text (run_at argument_token_at ts).0)) _ (λ value.
    end_then (past_close 41 (run_at argument_token_at ts).1) _ (end_more _ (run_follows argument_token_at argument_token_takes ts) (close_within 41 (run_at argument_token_at ts).1)) (λ rest p. left _ p))

plain_class_within : (ts : List Token) → Leaves ts (plain_class_at ts)
plain_class_within ts = leave_then (ident_at ts) _ (held_within ident_of ts) (λ name p. leave_given (plain_class name.0) _ (λ class. left _ p))

type_follows : (ts : List Token) → Follows ts (type_part (type_at ts) ts).1
type_follows ts = go (type_at ts) (held_within type_of ts)
  where
    go : (o : Option (Simple × List Token)) → Leaves ts o → Follows ts (type_part o ts).1
    go o (left x p) = p
    go o nothing = here

some_leaves : {ts : List Token} (simples : List Simple) (rest : List Token) → Follows ts rest → Leaves ts (some_compound (simples, rest))
some_leaves [] rest p = nothing
some_leaves (first ∷ simples) rest p = left _ p

module _ (text : List ℕ) (choices : List Token → Option (List Compound × List Token)) (choices_leaves : (ts : List Token) → Leaves ts (choices ts)) where
  function_within : (name : List ℕ) (ts : List Token) → Leaves ts (class_function_at text choices name ts)
  unfolding class_function_at
  function_within name ts = leave_otherwise (nth_class name then _) _
      (leave_given (nth_class name) _ (λ siblings. leave_then (an_plus_b_at text ts) _ (an_plus_b_within text ts) (λ value p. left _ p)))
      (leave_given (nesting_class name) _ (λ nesting. leave_then (choices ts) _ (choices_leaves ts) (λ list p. left _ p)))

  pseudo_class_leaves : (t : Token) (ts : List Token) → Leaves ts (pseudo_class_at text choices (t ∷ ts))
  unfolding pseudo_class_at
  pseudo_class_leaves t ts = end_then (past_delimiter 58 (t ∷ ts)) _ (sign_ends 58 t ts) (λ rest p. leave_otherwise (plain_class_at rest) _ (leave_more _ p (plain_class_within rest))
      (leave_then (function_at rest) _ (leave_more _ p (held_within function_of rest)) (λ name q. leave_more _ q (function_within name.0 name.1))))

  pub subclass_takes : TakesOne (subclass_at text choices)
  unfolding subclass_at attribute_at pseudo_class_at
  subclass_takes = record {
    none = refl;
    leaves = λ t ts.
        leave_otherwise (id_at (t ∷ ts)) _ (held_leaves id_of t ts)
        (leave_otherwise (class_at (t ∷ ts)) _ (class_leaves t ts)
        (leave_otherwise (attribute_at (t ∷ ts)) _ (attribute_leaves t ts) (pseudo_class_leaves t ts)));
  }

  pub compound_within : (ts : List Token) → Leaves ts (compound_at text choices ts)
  unfolding compound_at
  compound_within ts = some_leaves (with_subclasses text choices (type_part (type_at ts) ts)).0 (with_subclasses text choices (type_part (type_at ts) ts)).1
      (Follows-trans (type_follows ts) (run_follows (subclass_at text choices) subclass_takes (type_part (type_at ts) ts).1))

-- ---- comma lists

module _ {X : Type 0} (item_at : List Token → Option (X × List Token)) (item_within : (ts : List Token) → Leaves ts (item_at ts)) where
  spaced_within : (ts : List Token) → Leaves ts (spaced_at item_at ts)
  spaced_within ts = leave_then (item_at (skip_whitespace ts)) _ (leave_more _ (whitespace_follows ts) (item_within (skip_whitespace ts))) (λ item p. left _ (Follows-trans p (whitespace_follows item.1)))

  pub after_comma_takes : TakesOne (after_comma_at item_at)
  unfolding after_comma_at
  after_comma_takes = record { none = refl; leaves = λ t ts. end_then (past_delimiter 44 (t ∷ ts)) _ (sign_ends 44 t ts) (λ rest p. leave_more _ p (spaced_within rest)) }

  pub comma_list_within : (ts : List Token) → Leaves ts (comma_list_at item_at ts)
  comma_list_within ts = leave_then (spaced_at item_at ts) _ (spaced_within ts) (λ first p. left _ (Follows-trans p (run_follows (after_comma_at item_at) after_comma_takes first.1)))

pub choices_within : (text : List ℕ) (levels : ℕ) (ts : List Token) → Leaves ts (choices_at text levels ts)
unfolding choices_at
choices_within text zero ts = nothing
choices_within text (suc levels) ts = leave_then (comma_list_at (compound_at text (choices_at text levels)) ts) _ (comma_list_within (compound_at text (choices_at text levels)) (compound_within text (choices_at text levels) (choices_within text levels)) ts) (λ list p.
    end_then (past_close 41 list.1) _ (end_more _ p (close_within 41 list.1)) (λ rest q. left _ q))

-- ---- complex selectors

combinator_leaves : (t : Token) (ts : List Token) → Leaves ts (combinator_at (t ∷ ts))
combinator_leaves t ts = leave_otherwise (held_at combinator_of (skip_whitespace (t ∷ ts)) then _) _
    (leave_then (held_at combinator_of (skip_whitespace (t ∷ ts))) _ (sign (is_whitespace t.kind)) (λ join p. left _ (Follows-trans p (whitespace_follows join.1))))
    (leave_if (is_whitespace t.kind) _ None (left _ (whitespace_follows ts)) nothing)
  where
    sign : (blank : Bool) → Leaves ts (held_at combinator_of (cond blank (skip_whitespace ts) (t ∷ ts)))
    sign true = leave_more _ (whitespace_follows ts) (held_within combinator_of (skip_whitespace ts))
    sign false = held_leaves combinator_of t ts

combinator_within : (ts : List Token) → Leaves ts (combinator_at ts)
combinator_within = leave_within combinator_at refl combinator_leaves

pseudo_within : (ts : List Token) → Leaves ts (pseudo_element_at ts)
unfolding pseudo_element_at
pseudo_within ts = end_then (past_delimiter 58 ts) _ (sign_within 58 ts) (λ rest p. leave_otherwise (past_delimiter 58 rest then modern_pseudo_element_at) _
    (end_then (past_delimiter 58 rest) _ (end_more _ p (sign_within 58 rest)) (λ next q. leave_then (ident_at next) _ (leave_more _ q (held_within ident_of next)) (λ name r. leave_given (pseudo_element name.0) _ (λ pseudo. left _ r))))
    (leave_then (ident_at rest) _ (leave_more _ p (held_within ident_of rest)) (λ name q. leave_given (legacy_pseudo_element name.0) _ (λ pseudo. left _ q))))

lone_within : (ts : List Token) → Leaves ts (lone_at ts)
lone_within ts = leave_then (combinator_at ts) _ (combinator_within ts) (λ join p. leave_then (pseudo_element_at join.1) _ (leave_more _ p (pseudo_within join.1)) (λ pseudo q. left _ q))

end_within : (sequence : Sequence) (ts : List Token) → Leaves ts (complex_end sequence ts)
unfolding complex_end
end_within sequence ts = leave_otherwise (pseudo_element_at ts then _) _ (leave_then (pseudo_element_at ts) _ (pseudo_within ts) (λ pseudo p. left _ p))
    (leave_otherwise (lone_at ts then _) _ (leave_then (lone_at ts) _ (lone_within ts) (λ lone p. left _ p)) (left _ here))

outer_compound_within : (text : List ℕ) (ts : List Token) → Leaves ts (outer_compound_at text ts)
outer_compound_within text = compound_within text (choices_at text 16) (choices_within text 16)

pub step_takes : (text : List ℕ) → TakesOne (step_at text)
unfolding step_at
step_takes text = record { none = refl; leaves = λ t ts. leave_then (combinator_at (t ∷ ts)) _ (combinator_leaves t ts) (λ join p. leave_then (outer_compound_at text join.1) _ (leave_more _ p (outer_compound_within text join.1)) (λ compound q. left _ q)) }

pub selector_within : (text : List ℕ) (ts : List Token) → Leaves ts (selector_at text ts)
unfolding selector_at
selector_within text ts = leave_otherwise (pseudo_element_at ts then _) _ (leave_then (pseudo_element_at ts) _ (pseudo_within ts) (λ pseudo p. left _ p))
    (leave_then (outer_compound_at text ts) _ (outer_compound_within text ts) (λ first p. leave_more _ (Follows-trans p (run_follows (step_at text) (step_takes text) first.1)) (end_within _ (run_at (step_at text) first.1).1)))

-- ---- each piece leaves fewer tokens

pub subclass_shorter : (text : List ℕ) (levels : ℕ) → Shortens (subclass_at text (choices_at text levels))
subclass_shorter text levels = takes_shorter (subclass_at text (choices_at text levels)) (subclass_takes text (choices_at text levels) (choices_within text levels))

pub after_choice_shorter : (text : List ℕ) (levels : ℕ) → Shortens (after_comma_at (compound_at text (choices_at text levels)))
after_choice_shorter text levels = takes_shorter (after_comma_at (compound_at text (choices_at text levels))) (after_comma_takes (compound_at text (choices_at text levels)) (compound_within text (choices_at text levels) (choices_within text levels)))

pub after_selector_shorter : (text : List ℕ) → Shortens (after_comma_at (selector_at text))
after_selector_shorter text = takes_shorter (after_comma_at (selector_at text)) (after_comma_takes (selector_at text) (selector_within text))

pub step_shorter : (text : List ℕ) → Shortens (step_at text)
step_shorter text = takes_shorter (step_at text) (step_takes text)
