-- Code points by the names that Unicode gives them.
use Rattle.std.specs.Prelude.{ℕ}

abbrev pub line_feed : ℕ
line_feed = 10

abbrev pub form_feed : ℕ
form_feed = 12

abbrev pub carriage_return : ℕ
carriage_return = 13

abbrev pub exclamation_mark : ℕ
exclamation_mark = 33

abbrev pub quotation_mark : ℕ
quotation_mark = 34

abbrev pub number_sign : ℕ
number_sign = 35

abbrev pub percent_sign : ℕ
percent_sign = 37

abbrev pub apostrophe : ℕ
apostrophe = 39

abbrev pub left_parenthesis : ℕ
left_parenthesis = 40

abbrev pub right_parenthesis : ℕ
right_parenthesis = 41

abbrev pub asterisk : ℕ
asterisk = 42

abbrev pub plus_sign : ℕ
plus_sign = 43

abbrev pub comma : ℕ
comma = 44

abbrev pub hyphen_minus : ℕ
hyphen_minus = 45

abbrev pub full_stop : ℕ
full_stop = 46

abbrev pub solidus : ℕ
solidus = 47

abbrev pub less_than_sign : ℕ
less_than_sign = 60

abbrev pub greater_than_sign : ℕ
greater_than_sign = 62

abbrev pub commercial_at : ℕ
commercial_at = 64

abbrev pub reverse_solidus : ℕ
reverse_solidus = 92

abbrev pub low_line : ℕ
low_line = 95

abbrev pub byte_order_mark : ℕ
byte_order_mark = 0xfeff

abbrev pub replacement_character : ℕ
replacement_character = 0xfffd
