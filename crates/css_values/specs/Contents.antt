-- The values of `content` and `quotes`: CSS Generated Content 3, 2, 2.6 and 3, and CSS Lists 3, 4.7.
use Rattle.std.specs.Prelude.{ℕ, if◌then◌else◌, List, Option, Some, None, codes}
use Rattle.plain_types.specs.declared.content.Content.{Content}
use Rattle.plain_types.specs.declared.content.Content.TheVariants as content
use Rattle.plain_types.specs.declared.content.Item.{Item}
use Rattle.plain_types.specs.declared.content.Item.TheVariants as item
use Rattle.plain_types.specs.declared.content.Part.{Part}
use Rattle.plain_types.specs.declared.content.Part.TheVariants as part
use Rattle.plain_types.specs.declared.content.QuoteKind.{QuoteKind}
use Rattle.plain_types.specs.declared.content.QuoteKind.TheVariants as quote
use Rattle.plain_types.specs.declared.content.Url.{Url}
use Rattle.plain_types.specs.declared.content.Url.TheVariants as url
use Rattle.plain_types.specs.declared.style.Pair.{Pair}
use Rattle.plain_types.specs.declared.style.Quotes.{Quotes}
use Rattle.plain_types.specs.declared.style.Quotes.TheVariants as quotes
use Rattle.reading.specs.Reading.{◌then◌, ◌otherwise◌}
use Rattle.css_definitions.specs.Words.{is_word}
use Rattle.css_tokens.specs.declared.token.TokenKind.{TokenKind}
use Rattle.css_tokens.specs.declared.token.TokenKind.TheVariants as kind
use Rattle.css_tokens.specs.TokenReading.{ident_of}
use Rattle.css_values.specs.Parts.{one_at, word_at, string_at, name_at, past_keyword, past_function, past_comma, past_close, is_alone, all_of}
use Rattle.css_values.specs.Styles.{last_style_at}

-- Quotes.

-- `<string> <string>`
unfoldable pub pair_at : List TokenKind → Option (Pair × List TokenKind)
pair_at kinds = string_at kinds then λ left. string_at left.1 then λ right. Some (record { left = left.0; right = right.0 }, right.1)

-- 3.1: `auto | none | match-parent | [ <string> <string> ]+` (our own: no `match-parent`)
unfoldable pub quotes_value : List TokenKind → Option Quotes
quotes_value kinds =
    if is_alone (codes "none") kinds then Some quotes.Nothing
    else (if is_alone (codes "auto") kinds then Some quotes.Auto else (all_of pair_at kinds then λ pairs. Some (quotes.Pairs pairs)))

-- 3.2: `open-quote | close-quote | no-open-quote | no-close-quote`
abbrev pub quote_word : List ℕ → Option QuoteKind
quote_word word =
    if is_word word (codes "open-quote") then Some quote.Open
    else (if is_word word (codes "close-quote") then Some quote.Close
    else (if is_word word (codes "no-open-quote") then Some quote.NoOpen
    else (if is_word word (codes "no-close-quote") then Some quote.NoClose else None)))

abbrev pub quote_of : TokenKind → Option QuoteKind
quote_of kind = ident_of kind then quote_word

-- Attributes, counters and targets.

-- CSS 2.2, 12.2, `attr( <identifier> )`: the name is any identifier (our own: neither a namespace, nor a type
-- or a fallback, as later levels have them)
abbrev pub attr_name_at : List TokenKind → Option (List ℕ × List TokenKind)
attr_name_at kinds = past_function (codes "attr") kinds then word_at

-- `attr( <name> )`
unfoldable pub attr_at : List TokenKind → Option (List ℕ × List TokenKind)
attr_at kinds = attr_name_at kinds then λ name. past_close name.1 then λ end. Some (name.0, end)

-- our own, in the form that CSS Generated Content 3 has in its examples: an address that an attribute has,
-- `attr( <name> ) | attr( <name> url )`
unfoldable pub attr_url_at : List TokenKind → Option (List ℕ × List TokenKind)
attr_url_at kinds =
    attr_at kinds
    otherwise (attr_name_at kinds then λ name. past_keyword (codes "url") name.1 then λ rest. past_close rest then λ end. Some (name.0, end))

abbrev pub url_token_of : TokenKind → Option (List ℕ)
url_token_of (kind.Url value) = Some value
url_token_of _ = None

abbrev pub url_token_at : List TokenKind → Option (List ℕ × List TokenKind)
url_token_at kinds = one_at url_token_of kinds

-- `url( <string> )`
abbrev pub url_function_at : List TokenKind → Option (List ℕ × List TokenKind)
url_function_at kinds = past_function (codes "url") kinds then λ rest. string_at rest then λ string. past_close string.1 then λ end. Some (string.0, end)

-- CSS Values 4, 4.5: `<string> | <url>`
unfoldable pub address_at : List TokenKind → Option (List ℕ × List TokenKind)
address_at kinds = string_at kinds otherwise url_token_at kinds otherwise url_function_at kinds

unfoldable pub url_at : List TokenKind → Option (Url × List TokenKind)
url_at kinds = (address_at kinds then λ address. Some (url.Given address.0, address.1)) otherwise (attr_url_at kinds then λ name. Some (url.FromAttr name.0, name.1))

-- a name, a comma and a string: what `counters()` and `target-counters()` have in common
unfoldable pub name_between_at : List TokenKind → Option ((List ℕ × List ℕ) × List TokenKind)
name_between_at kinds = name_at kinds then λ name. past_comma name.1 then λ rest. string_at rest then λ between. Some ((name.0, between.0), between.1)

-- CSS Lists 3, 4.7: `counter( <counter-name> [, [ <counter-style> | none ] ]? )`
unfoldable pub counter_at : List TokenKind → Option (Item × List TokenKind)
counter_at kinds =
    past_function (codes "counter") kinds then λ rest. name_at rest then λ name. last_style_at name.1 then λ style.
    Some (item.Counter name.0 style.0, style.1)

-- CSS Lists 3, 4.7: `counters( <counter-name> , <string> [, [ <counter-style> | none ] ]? )`
unfoldable pub counters_at : List TokenKind → Option (Item × List TokenKind)
counters_at kinds =
    past_function (codes "counters") kinds then λ rest. name_between_at rest then λ names. last_style_at names.1 then λ style.
    Some (item.Counters names.0.0 names.0.1 style.0, style.1)

-- a target function of this name begins with an address
abbrev pub target_at : List ℕ → List TokenKind → Option (Url × List TokenKind)
target_at function kinds = past_function function kinds then url_at

-- 2.6.1: `target-counter( [ <string> | <url> ] , <counter-name> [, <counter-style> ]? )`, where our own rule
-- also takes an attribute as the address, and `none` as the style
unfoldable pub target_counter_at : List TokenKind → Option (Item × List TokenKind)
target_counter_at kinds =
    target_at (codes "target-counter") kinds then λ url. past_comma url.1 then λ next. name_at next then λ name. last_style_at name.1 then λ style.
    Some (item.TargetCounter url.0 name.0 style.0, style.1)

-- 2.6.2: `target-counters( [ <string> | <url> ] , <counter-name> , <string> [, <counter-style> ]? )`, and our own
-- rule likewise
unfoldable pub target_counters_at : List TokenKind → Option (Item × List TokenKind)
target_counters_at kinds =
    target_at (codes "target-counters") kinds then λ url. past_comma url.1 then λ next. name_between_at next then λ names. last_style_at names.1 then λ style.
    Some (item.TargetCounters url.0 names.0.0 names.0.1 style.0, style.1)

-- 2.6.3: `content | before | after | first-letter` (our own: no `first-letter`)
abbrev pub part_word : List ℕ → Option Part
part_word word =
    if is_word word (codes "content") then Some part.Content
    else (if is_word word (codes "before") then Some part.Before
    else (if is_word word (codes "after") then Some part.After else None))

abbrev pub part_of : TokenKind → Option Part
part_of kind = ident_of kind then part_word

-- `[, <part> ]?`, the last part of the function: `content` where it is missing
unfoldable pub last_part_at : List TokenKind → Option (Part × List TokenKind)
last_part_at kinds =
    (past_comma kinds then λ rest. one_at part_of rest then λ part. past_close part.1 then λ end. Some (part.0, end))
    otherwise (past_close kinds then λ end. Some (part.Content, end))

-- 2.6.3: `target-text( [ <string> | <url> ] [, <part> ]? )`, and our own rule likewise
unfoldable pub target_text_at : List TokenKind → Option (Item × List TokenKind)
target_text_at kinds =
    target_at (codes "target-text") kinds then λ url. last_part_at url.1 then λ part.
    Some (item.TargetText url.0 part.0, part.1)

-- Content.

-- 2: an item of `<content-list>` (our own: no image, `contents` or `leader()`)
unfoldable pub item_at : List TokenKind → Option (Item × List TokenKind)
item_at kinds =
    (string_at kinds then λ string. Some (item.Chars string.0, string.1))
    otherwise (one_at quote_of kinds then λ quote. Some (item.Quote quote.0, quote.1))
    otherwise (attr_at kinds then λ name. Some (item.Attr name.0, name.1))
    otherwise counter_at kinds
    otherwise counters_at kinds
    otherwise target_counter_at kinds
    otherwise target_counters_at kinds
    otherwise target_text_at kinds

-- 2: `normal | none | <content-list>` (our own: no image in the place of the element, and no alternative text)
unfoldable pub content_value : List TokenKind → Option Content
content_value kinds =
    if is_alone (codes "normal") kinds then Some content.Normal
    else (if is_alone (codes "none") kinds then Some content.Nothing else (all_of item_at kinds then λ items. Some (content.Items items)))
