-- Bytes that are JSON have texts of bytes alone.
use Rattle.std.proofs.Common.{◌≡◌, ℕ, zero, suc, ◌+◌, ◌-◌, ◌*◌, ◌/◌, ◌%◌, ◌<◌, ◌==◌, ◌&&◌, ◌||◌, Bool, true, false, cond, List, [], ◌∷◌, ◌++◌, length, take, drop, Option, Some, None, option_map, option_and_then, Ordering, Less, Equal, Greater, refl, subst, arith}
use Rattle.std.specs.Prelude.{⊤, nat_lt, nat_eq}
use Rattle.std.specs.Char.{digit_value, is_digit, encode_utf8}
use Rattle.std.specs.List.{AllByRecursion, starts_with}
use Rattle.std.specs.Ordering.{match_ordering}
use Rattle.std.proofs.lemmas.Bool.{and_parts, ltb-true}
use Rattle.json.specs.Ascii as ascii
use Rattle.json.specs.Text.{Within, plain, after_backslash, after_u, after_high, code_unit, content, is_high_surrogate, is_low_surrogate, prepend, short_escape, surrogate_pair}
use Rattle.json.specs.Token.{Token}
use Rattle.json.specs.Token as kind
use Rattle.json.specs.Word.{after_number, ends_word, head, literal, number_before, word}
use Rattle.json.specs.Lex.{Lexeme, token, comma, colon, Class, class, quote, backslash, operator, space, other, operator_lexeme, string_token, Mode, between, in_word, in_string, in_escape, lex_byte, lex, Place, fresh, after_value, after_comma, after_key, begins_colon, if_allowed, may_begin, may_close, place_token, punctuate, tokens}
use Rattle.json.specs.Json as json
use Rattle.json.specs.Json.{Json, Parse, after_end_array, items, items_step, members, members_step, parse_map, read_key, value, value_with}
use Rattle.serde_json.specs.Data.{Num, Data, null, boolean, number, string, array, object, Items, no_items, item, Members, no_members, member, put}
use Rattle.serde_json.specs.Read.{max_depth, number_of, of_items, of_json, of_members, read}
use Rattle.tl_numbers.specs.Bytes.{AreBytes}

-- ---- lists of bytes

pub no_bytes : AreBytes []
no_bytes k = omega arith

pub one_more_byte : (b : ℕ) (bytes : List ℕ) → b < 256 → AreBytes bytes → AreBytes (b ∷ bytes)
one_more_byte b bytes few are zero = few
one_more_byte b bytes few are (suc k) = are k

pub bytes_behind : (b : ℕ) (bytes : List ℕ) → AreBytes (b ∷ bytes) → AreBytes bytes
bytes_behind b bytes are k = are (suc k)

pub bytes_joined : (x y : List ℕ) → AreBytes x → AreBytes y → AreBytes (x ++ y)
bytes_joined [] y first rest = rest
bytes_joined (b ∷ x) y first rest = one_more_byte b (x ++ y) (first 0) (bytes_joined x y (bytes_behind b x first) rest)

-- ---- what holds of what there is

abbrev pub Held : {A : Type 0} → (A → Type 0) → Option A → Type 0
Held P None = ⊤
Held P (Some x) = P x

held_then : {A B : Type 0} (P : A → Type 0) (Q : B → Type 0) (f : A → Option B) (o : Option A) → Held P o → ((x : A) → P x → Held Q (f x)) → Held Q (option_and_then f o)
held_then P Q f None h then = tt
held_then P Q f (Some x) h then = then x h

held_map : {A B : Type 0} (P : A → Type 0) (Q : B → Type 0) (f : A → B) (o : Option A) → Held P o → ((x : A) → P x → Q (f x)) → Held Q (option_map f o)
held_map P Q f None h then = tt
held_map P Q f (Some x) h then = then x h

pub held_at : {A : Type 0} (P : A → Type 0) (o : Option A) (x : A) → o ≡ Some x → Held P o → P x
held_at P o x is h = subst (Held P) is h

-- P holds of x
record Has {A : Type 0} (P : A → Type 0) (x : A) : Type 0 where
  holds : P x

has_if : {A : Type 0} {P : A → Type 0} {x y : A} (b : Bool) → (b ≡ true → Has P x) → (b ≡ false → Has P y) → Has P (cond b x y)
has_if true set clear = set refl
has_if false set clear = clear refl

-- ---- texts

abbrev IsByte : ℕ → Type 0
IsByte b = b < 256

abbrev HeldBytes : Option (List ℕ) → Type 0
HeldBytes o = Held AreBytes o

abbrev IsText : Option (List ℕ) → Type 0
IsText o = Has HeldBytes o

no_text : IsText None
no_text = record { holds = tt }

prepended : (front : List ℕ) (o : Option (List ℕ)) → AreBytes front → IsText o → IsText (prepend front o)
prepended front None are h = no_text
prepended front (Some text) are h = record { holds = bytes_joined front text are h.holds }

text_then : {A : Type 0} (P : A → Type 0) (f : A → Option (List ℕ)) (o : Option A) → Has (Held P) o → ((x : A) → P x → IsText (f x)) → IsText (option_and_then f o)
text_then P f None h then = no_text
text_then P f (Some x) h then = then x h.holds

one_byte : (b : ℕ) → b < 256 → AreBytes (b ∷ [])
one_byte b few = one_more_byte b [] few no_bytes

-- a character's number, also past the last that there is
encoded : (c : ℕ) → c < 4194304 → Has AreBytes (encode_utf8 c)
unfolding encode_utf8
encoded c few =
    let one : List ℕ = (128 + c % 64) ∷ [] in
    let two : List ℕ = (128 + c / 64 % 64) ∷ one in
    let three : List ℕ = (128 + c / 4096 % 64) ∷ two in
    let last : AreBytes one = one_byte (128 + c % 64) (omega arith) in
    let both : AreBytes two = one_more_byte (128 + c / 64 % 64) one (omega arith) last in
    let all : AreBytes three = one_more_byte (128 + c / 4096 % 64) two (omega arith) both in
    has_if (nat_lt c 128) (λ e. record { holds = one_byte c (omega (arith, ltb-true c 128 e)) })
    (λ _. has_if (nat_lt c 2048) (λ e. record { holds = one_more_byte (192 + c / 64) one (omega (arith, ltb-true c 2048 e)) last })
    (λ _. has_if (nat_lt c 65536) (λ e. record { holds = one_more_byte (224 + c / 4096) two (omega (arith, ltb-true c 65536 e)) both })
    (λ _. record { holds = one_more_byte (240 + c / 262144) three (omega (arith, few)) all })))

an_escape : (c : ℕ) → c < 256 → Has (Held IsByte) (Some c)
an_escape c few = record { holds = few }

escaped : (x : ℕ) → x < 256 → Has (Held IsByte) (short_escape x)
unfolding short_escape
escaped x few =
    has_if ((x == ascii.quote) || (x == ascii.backslash) || (x == ascii.slash)) (λ _. an_escape x few)
    (λ _. has_if (x == ascii.lower_b) (λ _. an_escape ascii.backspace (omega arith))
    (λ _. has_if (x == ascii.lower_f) (λ _. an_escape ascii.form_feed (omega arith))
    (λ _. has_if (x == ascii.lower_n) (λ _. an_escape ascii.line_feed (omega arith))
    (λ _. has_if (x == ascii.lower_r) (λ _. an_escape ascii.carriage_return (omega arith))
    (λ _. has_if (x == ascii.lower_t) (λ _. an_escape ascii.tab (omega arith)) (λ _. record { holds = tt }))))))

four_digits : (a b c d : ℕ) → a < 16 → b < 16 → c < 16 → d < 16 → a * 4096 + b * 256 + c * 16 + d < 65536
four_digits a b c d h i j k = omega (arith, h, i, j, k)

abbrev IsUnit : ℕ → Type 0
IsUnit u = u < 65536

unit_is : (a b c d : ℕ) → Has (Held IsUnit) (code_unit a b c d)
unfolding code_unit
unit_is a b c d =
    has_if (is_digit a 16 && is_digit b 16 && is_digit c 16 && is_digit d 16)
    (λ e.
    let last = and_parts (is_digit a 16 && is_digit b 16 && is_digit c 16) (is_digit d 16) e in
    let third = and_parts (is_digit a 16 && is_digit b 16) (is_digit c 16) last.0 in
    let both = and_parts (is_digit a 16) (is_digit b 16) third.0 in
    record { holds = four_digits (digit_value a) (digit_value b) (digit_value c) (digit_value d) (ltb-true _ _ both.0) (ltb-true _ _ both.1) (ltb-true _ _ third.1) (ltb-true _ _ last.1) })
    (λ _. record { holds = tt })

-- the first half of a pair, where one came
abbrev HasHigh : Within → Type 0
HasHigh (after_high h) = h < 0xdc00
HasHigh plain = ⊤
HasHigh after_backslash = ⊤
HasHigh after_u = ⊤

high_is : (u : ℕ) → is_high_surrogate u ≡ true → u < 0xdc00
high_is u e = ltb-true u 0xdc00 (and_parts _ _ e).1

low_is : (u : ℕ) → is_low_surrogate u ≡ true → u < 0xe000
low_is u e = ltb-true u 0xe000 (and_parts _ _ e).1

pair_is : (h l : ℕ) → h < 0xdc00 → l < 0xe000 → surrogate_pair h l < 4194304
pair_is h l few less = omega (arith, few, less)

content_bytes : (w : Within) (xs : List ℕ) → HasHigh w → AreBytes xs → IsText (content w xs)
unfolding content
content_bytes plain [] h are = no_text
content_bytes plain (x ∷ xs) h are =
    let rest = bytes_behind x xs are in
    has_if (x == ascii.quote) (λ _. record { holds = no_bytes })
    (λ _. has_if (x == ascii.backslash) (λ _. content_bytes after_backslash xs tt rest)
    (λ _. has_if (nat_lt x ascii.space) (λ _. no_text) (λ _. prepended (x ∷ []) (content plain xs) (one_byte x (are 0)) (content_bytes plain xs tt rest))))
content_bytes after_backslash [] h are = no_text
content_bytes after_backslash (x ∷ xs) h are =
    let rest = bytes_behind x xs are in
    has_if (x == ascii.lower_u) (λ _. content_bytes after_u xs tt rest)
    (λ _. text_then IsByte (λ c. prepend (c ∷ []) (content plain xs)) (short_escape x) (escaped x (are 0)) (λ c few. prepended (c ∷ []) (content plain xs) (one_byte c few) (content_bytes plain xs tt rest)))
content_bytes after_u [] h are = no_text
content_bytes after_u (a ∷ []) h are = no_text
content_bytes after_u (a ∷ b ∷ []) h are = no_text
content_bytes after_u (a ∷ b ∷ c ∷ []) h are = no_text
content_bytes after_u (a ∷ b ∷ c ∷ d ∷ xs) h are =
    let rest : AreBytes xs = λ k. are (suc (suc (suc (suc k)))) in
    text_then IsUnit (λ u. cond (is_high_surrogate u) (content (after_high u) xs) (cond (is_low_surrogate u) None (prepend (encode_utf8 u) (content plain xs)))) (code_unit a b c d) (unit_is a b c d)
    (λ u few. has_if (is_high_surrogate u) (λ e. content_bytes (after_high u) xs (high_is u e) rest)
    (λ _. has_if (is_low_surrogate u) (λ _. no_text) (λ _. prepended (encode_utf8 u) (content plain xs) (encoded u (omega (arith, few))).holds (content_bytes plain xs tt rest))))
content_bytes (after_high h) [] few are = no_text
content_bytes (after_high h) (s ∷ []) few are = no_text
content_bytes (after_high h) (s ∷ u ∷ []) few are = no_text
content_bytes (after_high h) (s ∷ u ∷ a ∷ []) few are = no_text
content_bytes (after_high h) (s ∷ u ∷ a ∷ b ∷ []) few are = no_text
content_bytes (after_high h) (s ∷ u ∷ a ∷ b ∷ c ∷ []) few are = no_text
content_bytes (after_high h) (s ∷ u ∷ a ∷ b ∷ c ∷ d ∷ xs) few are =
    let rest : AreBytes xs = λ k. are (suc (suc (suc (suc (suc (suc k)))))) in
    has_if ((s == ascii.backslash) && (u == ascii.lower_u))
    (λ _. text_then IsUnit (λ l. cond (is_low_surrogate l) (prepend (encode_utf8 (surrogate_pair h l)) (content plain xs)) None) (code_unit a b c d) (unit_is a b c d)
    (λ l _. has_if (is_low_surrogate l)
    (λ e. prepended (encode_utf8 (surrogate_pair h l)) (content plain xs) (encoded (surrogate_pair h l) (pair_is h l few (low_is l e))).holds (content_bytes plain xs tt rest)) (λ _. no_text)))
    (λ _. no_text)

-- ---- tokens

-- a key's or a string's text
abbrev TokenHolds : Token → Type 0
TokenHolds (kind.key s) = AreBytes s
TokenHolds (kind.string s) = AreBytes s
TokenHolds t = ⊤

abbrev LexemeHolds : Lexeme → Type 0
LexemeHolds (token t) = TokenHolds t
LexemeHolds comma = ⊤
LexemeHolds colon = ⊤

abbrev LexemesHold : List Lexeme → Type 0
LexemesHold ls = AllByRecursion LexemeHolds ls

abbrev TokensHold : List Token → Type 0
TokensHold ts = AllByRecursion TokenHolds ts

string_holds : (o : Option (List ℕ)) → HeldBytes o → TokenHolds (string_token o)
string_holds None h = tt
string_holds (Some s) h = h

a_bracket : (t : Token) → TokenHolds t → Has LexemeHolds (token t)
a_bracket t h = record { holds = h }

operator_holds : (x : ℕ) → Has LexemeHolds (operator_lexeme x)
operator_holds x =
    has_if (x == ascii.open_brace) (λ _. a_bracket kind.begin_object tt)
    (λ _. has_if (x == ascii.close_brace) (λ _. a_bracket kind.end_object tt)
    (λ _. has_if (x == ascii.open_bracket) (λ _. a_bracket kind.begin_array tt)
    (λ _. has_if (x == ascii.close_bracket) (λ _. a_bracket kind.end_array tt)
    (λ _. has_if (x == ascii.comma) (λ _. record { holds = tt }) (λ _. record { holds = tt })))))

a_word : (t : Token) → TokenHolds t → Has TokenHolds t
a_word t h = record { holds = h }

number_holds : (t : List ℕ) (o : Option (List ℕ)) → Has TokenHolds (number_before t o)
number_holds t None = a_word kind.bad tt
number_holds t (Some rest) = has_if (ends_word rest) (λ _. a_word (kind.number (take (length t - length rest) t)) tt) (λ _. a_word kind.bad tt)

literal_holds : (name t : List ℕ) (k : Token) → TokenHolds k → Has TokenHolds (literal name k t)
literal_holds name t k h = has_if (starts_with nat_eq t name && ends_word (drop (length name) t)) (λ _. a_word k h) (λ _. a_word kind.bad tt)

word_holds : (t : List ℕ) → Has TokenHolds (word t)
unfolding word
word_holds t =
    has_if (head t == ascii.lower_t) (λ _. literal_holds ascii.true_text t (kind.boolean true) tt)
    (λ _. has_if (head t == ascii.lower_f) (λ _. literal_holds ascii.false_text t (kind.boolean false) tt)
    (λ _. has_if (head t == ascii.lower_n) (λ _. literal_holds ascii.null_text t kind.null tt) (λ _. number_holds t (after_number t))))

lexed_byte : (m : Mode) (c : Class) (x : ℕ) (xs : List ℕ) (k : Mode → List Lexeme) → AreBytes (x ∷ xs) → ((n : Mode) → LexemesHold (k n)) → LexemesHold (lex_byte m c x xs k)
lexed_byte between quote x xs k are more = (string_holds (content plain xs) (content_bytes plain xs tt (bytes_behind x xs are)).holds, more in_string)
lexed_byte between backslash x xs k are more = (tt, more in_word)
lexed_byte between operator x xs k are more = ((operator_holds x).holds, more between)
lexed_byte between space x xs k are more = more between
lexed_byte between other x xs k are more = ((word_holds (x ∷ xs)).holds, more in_word)
lexed_byte in_word quote x xs k are more = more in_word
lexed_byte in_word backslash x xs k are more = more in_word
lexed_byte in_word operator x xs k are more = ((operator_holds x).holds, more between)
lexed_byte in_word space x xs k are more = more between
lexed_byte in_word other x xs k are more = more in_word
lexed_byte in_string quote x xs k are more = more between
lexed_byte in_string backslash x xs k are more = more in_escape
lexed_byte in_string operator x xs k are more = more in_string
lexed_byte in_string space x xs k are more = more in_string
lexed_byte in_string other x xs k are more = more in_string
lexed_byte in_escape quote x xs k are more = more in_string
lexed_byte in_escape backslash x xs k are more = more in_string
lexed_byte in_escape operator x xs k are more = more in_string
lexed_byte in_escape space x xs k are more = more in_string
lexed_byte in_escape other x xs k are more = more in_string

lexed : (m : Mode) (xs : List ℕ) → AreBytes xs → LexemesHold (lex m xs)
unfolding lex
lexed m [] are = tt
lexed m (x ∷ xs) are = lexed_byte m (class x) x xs (λ n. lex n xs) are (λ n. lexed n xs (bytes_behind x xs are))

allowed : (b : Bool) (t : Token) (k : Place → List Token) (next : Place) → TokenHolds t → ((p : Place) → TokensHold (k p)) → TokensHold (if_allowed b t k next)
allowed true t k next h more = (h, more next)
allowed false t k next h more = (tt, tt)

placed : (p : Place) (t : Token) (b : Bool) (k : Place → List Token) → TokenHolds t → ((q : Place) → TokensHold (k q)) → TokensHold (place_token p t b k)
placed p kind.begin_object b k h more = allowed (may_begin p) kind.begin_object k fresh tt more
placed p kind.end_object b k h more = allowed (may_close p) kind.end_object k after_value tt more
placed p kind.begin_array b k h more = allowed (may_begin p) kind.begin_array k fresh tt more
placed p kind.end_array b k h more = allowed (may_close p) kind.end_array k after_value tt more
placed p (kind.key s) b k h more = (tt, tt)
placed p (kind.string s) true k h more = allowed (may_begin p) (kind.key s) k after_key h more
placed p (kind.string s) false k h more = allowed (may_begin p) (kind.string s) k after_value h more
placed p (kind.number s) b k h more = allowed (may_begin p) (kind.number s) k after_value tt more
placed p (kind.boolean v) b k h more = allowed (may_begin p) (kind.boolean v) k after_value tt more
placed p kind.null b k h more = allowed (may_begin p) kind.null k after_value tt more
placed p kind.bad b k h more = (tt, tt)

punctuated : (p : Place) (ls : List Lexeme) → LexemesHold ls → TokensHold (punctuate p ls)
unfolding punctuate
punctuated fresh [] h = tt
punctuated after_value [] h = tt
punctuated after_comma [] h = (tt, tt)
punctuated after_key [] h = (tt, tt)
punctuated fresh (token t ∷ ls) h = placed fresh t (begins_colon ls) (λ q. punctuate q ls) h.0 (λ q. punctuated q ls h.1)
punctuated after_value (token t ∷ ls) h = placed after_value t (begins_colon ls) (λ q. punctuate q ls) h.0 (λ q. punctuated q ls h.1)
punctuated after_comma (token t ∷ ls) h = placed after_comma t (begins_colon ls) (λ q. punctuate q ls) h.0 (λ q. punctuated q ls h.1)
punctuated after_key (token t ∷ ls) h = placed after_key t (begins_colon ls) (λ q. punctuate q ls) h.0 (λ q. punctuated q ls h.1)
punctuated fresh (comma ∷ ls) h = (tt, tt)
punctuated after_value (comma ∷ ls) h = punctuated after_comma ls h.1
punctuated after_comma (comma ∷ ls) h = (tt, tt)
punctuated after_key (comma ∷ ls) h = (tt, tt)
punctuated fresh (colon ∷ ls) h = (tt, tt)
punctuated after_value (colon ∷ ls) h = (tt, tt)
punctuated after_comma (colon ∷ ls) h = (tt, tt)
punctuated after_key (colon ∷ ls) h = punctuated fresh ls h.1

tokens_hold : (text : List ℕ) → AreBytes text → TokensHold (tokens text)
tokens_hold text are = punctuated fresh (lex between text) (lexed between text are)

-- ---- values of JSON, as they stand; keys aside

abbrev mutual
  JsonHolds : Json → Type 0
  JsonHolds (json.string s) = AreBytes s
  JsonHolds (json.array js) = JsonsHold js
  JsonHolds (json.object ms) = MembersHold ms
  JsonHolds (json.number s) = ⊤
  JsonHolds (json.boolean b) = ⊤
  JsonHolds json.null = ⊤

  JsonsHold : json.Items → Type 0
  JsonsHold json.no_items = ⊤
  JsonsHold (json.item j js) = JsonHolds j × JsonsHold js

  MembersHold : json.Members → Type 0
  MembersHold json.no_members = ⊤
  MembersHold (json.member k j ms) = JsonHolds j × MembersHold ms

-- what was read, and what is left
abbrev Reads : {A : Type 0} → (A → Type 0) → Option (A × List Token) → Type 0
Reads P None = ⊤
Reads P (Some p) = P p.0 × TokensHold p.1

abbrev Parses : {A : Type 0} → (A → Type 0) → Parse A → Type 0
Parses P parse = (ts : List Token) → TokensHold ts → Reads P (parse ts)

mapped : {A B : Type 0} (P : A → Type 0) (Q : B → Type 0) (f : A → B) → ((x : A) → P x → Q (f x)) → (o : Option (A × List Token)) → Reads P o → Reads Q (parse_map f o)
mapped P Q f then None h = tt
mapped P Q f then (Some p) h = (then p.0 h.0, h.1)

and_more : {B : Type 0} (Q : B → Type 0) (f : Json → B → B) → ((j : Json) (b : B) → JsonHolds j → Q b → Q (f j b)) → (more : Parse B) → Parses Q more → (o : Option (Json × List Token)) → Reads JsonHolds o
    → Reads Q (option_and_then (λ q. parse_map (f q.0) (more q.1)) o)
and_more Q f then more again None h = tt
and_more Q f then more again (Some q) h = mapped Q Q (f q.0) (λ b x. then q.0 b h.0 x) (more q.1) (again q.1 h.1)

array_ended : (ts : List Token) → TokensHold ts → Held TokensHold (after_end_array ts)
array_ended [] h = tt
array_ended (kind.begin_object ∷ ts) h = tt
array_ended (kind.end_object ∷ ts) h = tt
array_ended (kind.begin_array ∷ ts) h = tt
array_ended (kind.end_array ∷ ts) h = h.1
array_ended (kind.key s ∷ ts) h = tt
array_ended (kind.string s ∷ ts) h = tt
array_ended (kind.number s ∷ ts) h = tt
array_ended (kind.boolean b ∷ ts) h = tt
array_ended (kind.null ∷ ts) h = tt
array_ended (kind.bad ∷ ts) h = tt

abbrev IsAny : Option (List ℕ) → Type 0
IsAny o = ⊤

key_read : (ts : List Token) → TokensHold ts → Reads IsAny (read_key ts)
key_read [] h = tt
key_read (kind.begin_object ∷ ts) h = tt
key_read (kind.end_object ∷ ts) h = (tt, h.1)
key_read (kind.begin_array ∷ ts) h = tt
key_read (kind.end_array ∷ ts) h = tt
key_read (kind.key s ∷ ts) h = (tt, h.1)
key_read (kind.string s ∷ ts) h = tt
key_read (kind.number s ∷ ts) h = tt
key_read (kind.boolean b ∷ ts) h = tt
key_read (kind.null ∷ ts) h = tt
key_read (kind.bad ∷ ts) h = tt

module _ (parse : Parse Json) (holds : Parses JsonHolds parse) where
  item_turn : (more : Parse json.Items) → Parses JsonsHold more → (ts : List Token) → TokensHold ts → (o : Option (List Token)) → Held TokensHold o → Reads JsonsHold (items_step parse more ts o)
  item_turn more again ts h (Some rest) left = (tt, left)
  item_turn more again ts h None left = and_more JsonsHold json.item (λ j js x y. (x, y)) more again (parse ts) (holds ts h)

  items_hold : (n : ℕ) → Parses JsonsHold (items parse n)
  unfolding items
  items_hold zero ts h = tt
  items_hold (suc n) ts h = item_turn (items parse n) (items_hold n) ts h (after_end_array ts) (array_ended ts h)

  member_turn : (more : Parse json.Members) → Parses MembersHold more → (o : Option (Option (List ℕ) × List Token)) → Reads IsAny o → Reads MembersHold (option_and_then (λ q. members_step parse more q.0 q.1) o)
  member_turn more again None h = tt
  member_turn more again (Some (None, ts)) h = (tt, h.1)
  member_turn more again (Some (Some k, ts)) h = and_more MembersHold (json.member k) (λ j ms x y. (x, y)) more again (parse ts) (holds ts h.1)

  members_hold : (n : ℕ) → Parses MembersHold (members parse n)
  unfolding members
  members_hold zero ts h = tt
  members_hold (suc n) ts h = member_turn (members parse n) (members_hold n) (read_key ts) (key_read ts h)

one_level : (a : Parse json.Items) (o : Parse json.Members) → Parses JsonsHold a → Parses MembersHold o → Parses JsonHolds (value_with a o)
one_level a o p q [] h = tt
one_level a o p q (kind.begin_object ∷ ts) h = mapped MembersHold JsonHolds json.object (λ ms x. x) (o ts) (q ts h.1)
one_level a o p q (kind.end_object ∷ ts) h = tt
one_level a o p q (kind.begin_array ∷ ts) h = mapped JsonsHold JsonHolds json.array (λ js x. x) (a ts) (p ts h.1)
one_level a o p q (kind.end_array ∷ ts) h = tt
one_level a o p q (kind.key s ∷ ts) h = tt
one_level a o p q (kind.string s ∷ ts) h = (h.0, h.1)
one_level a o p q (kind.number s ∷ ts) h = (tt, h.1)
one_level a o p q (kind.boolean b ∷ ts) h = (tt, h.1)
one_level a o p q (kind.null ∷ ts) h = (tt, h.1)
one_level a o p q (kind.bad ∷ ts) h = tt

value_holds : (n : ℕ) → Parses JsonHolds (value n)
unfolding value
value_holds zero = one_level (λ ts. None) (λ ts. None) (λ ts h. tt) (λ ts h. tt)
value_holds (suc n) =
    one_level (λ ts. items (value n) (length ts) ts) (λ ts. members (value n) (length ts) ts) (λ ts h. items_hold (value n) (value_holds n) (length ts) ts h)
    (λ ts h. members_hold (value n) (value_holds n) (length ts) ts h)

-- ---- values, each key once

abbrev mutual
  pub DataHolds : Data → Type 0
  DataHolds (string s) = AreBytes s
  DataHolds (array ds) = ItemsHold ds
  DataHolds (object ms) = PartsHold ms
  DataHolds (number n) = ⊤
  DataHolds (boolean b) = ⊤
  DataHolds null = ⊤

  pub ItemsHold : Items → Type 0
  ItemsHold no_items = ⊤
  ItemsHold (item d ds) = DataHolds d × ItemsHold ds

  pub PartsHold : Members → Type 0
  PartsHold no_members = ⊤
  PartsHold (member k d ms) = DataHolds d × PartsHold ms

one_of_three : (o : Ordering) (a b c : Members) → PartsHold a → PartsHold b → PartsHold c → PartsHold (match_ordering o a b c)
one_of_three Less a b c p q r = p
one_of_three Equal a b c p q r = q
one_of_three Greater a b c p q r = r

put_holds : (k : List ℕ) (d : Data) (ms : Members) → DataHolds d → PartsHold ms → PartsHold (put k d ms)
put_holds k d no_members h all = (h, tt)
put_holds k d (member l e ms) h all = one_of_three _ (member k d (member l e ms)) (member l d ms) (member l e (put k d ms)) (h, all) (h, all.1) (all.0, put_holds k d ms h all.1)

any_number : (o : Option Num) → Held (λ (x : Num). ⊤) o
any_number None = tt
any_number (Some x) = tt

mutual
  of_json_holds : (j : Json) → JsonHolds j → Held DataHolds (of_json j)
  of_json_holds json.null h = tt
  of_json_holds (json.boolean b) h = tt
  of_json_holds (json.number s) h = held_map (λ (n : Num). ⊤) DataHolds number (number_of s) (any_number (number_of s)) (λ n x. tt)
  of_json_holds (json.string s) h = h
  of_json_holds (json.array js) h = held_map ItemsHold DataHolds array (of_items js) (of_items_hold js h) (λ ds x. x)
  of_json_holds (json.object ms) h = held_map PartsHold DataHolds object (of_members ms no_members) (of_members_hold ms no_members h tt) (λ ps x. x)

  of_items_hold : (js : json.Items) → JsonsHold js → Held ItemsHold (of_items js)
  of_items_hold json.no_items h = tt
  of_items_hold (json.item j js) h =
      held_then DataHolds ItemsHold _ (of_json j) (of_json_holds j h.0) (λ d x. held_map ItemsHold ItemsHold (item d) (of_items js) (of_items_hold js h.1) (λ ds y. (x, y)))

  of_members_hold : (ms : json.Members) (found : Members) → MembersHold ms → PartsHold found → Held PartsHold (of_members ms found)
  of_members_hold json.no_members found h all = all
  of_members_hold (json.member k j ms) found h all =
      held_then DataHolds PartsHold _ (of_json j) (of_json_holds j h.0) (λ d x. of_members_hold ms (put k d found) h.1 (put_holds k d found x all))

last_holds : (o : Option (Json × List Token)) → Reads JsonHolds o → Held JsonHolds (option_and_then (λ p. json.if_last p.0 p.1) o)
last_holds None h = tt
last_holds (Some (j, [])) h = h.0
last_holds (Some (j, (t ∷ ts))) h = tt

-- the value that bytes are has texts of bytes
pub read_holds : (text : List ℕ) (d : Data) → AreBytes text → read text ≡ Some d → DataHolds d
read_holds text d are is =
    let parsed = last_holds (value max_depth (tokens text)) (value_holds max_depth (tokens text) (tokens_hold text are)) in
    held_at DataHolds (read text) d is (held_then JsonHolds DataHolds of_json _ parsed (λ j h. of_json_holds j h))
