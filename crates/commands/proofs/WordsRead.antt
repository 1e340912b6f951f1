-- Words that clap takes are a row, and words that it refuses are none.
use Rattle.std.proofs.Common.{◌≡◌, ◌∙◌, zero, suc, ℤ, pos, negsuc, List, [], ◌∷◌, Bool, true, false, get_or, map, refl, sym, ap, subst, arith, Option, Some, None, option_map, codes, inl, inr}
use Rattle.std.specs.List.{All}
use Rattle.std.specs.Str.{bytes_eq}
use Rattle.std.proofs.lemmas.Bool.{eqb-false}
use Rattle.std.proofs.lemmas.List.Elements.{All-head, All-tail}
use Rattle.std.proofs.lemmas.Slice.Eq.{bytes_eq-Decides}
use Rattle.clap.specs.Words.{App, Text, Row, fault_of, subcommand_of, is_simple, is_simple_and_free, HasKind, kind_of}
use Rattle.clap.specs.declared.error.Error.{Error}
use Rattle.clap.specs.declared.error.kind.ErrorKind.TheVariants.{OutOfMemory}
use Rattle.commands.specs.Numbers.{number_from, is_number}
use Rattle.commands.specs.Requests.{RequestText, check, decode, encode, replay, make, serve, post, client, layers, calls, IsOperand, AreChannels, clients_range, run_range, channel_range, sessions_range, steps_range, AsksFor, AsksNothing, FindsRequest, request_text}
use Rattle.commands.specs.declared.request.Request.{Request}
use Rattle.commands.specs.CommandLine.{RowText, rows, table, request_in, replayed, drawn, served, more_words}
use Rattle.commands.proofs.CommandsRead.{Enters, NoneOf, table_is_simple, table_is_free, check_enters, decode_enters, encode_enters, replay_enters, make_enters, serve_enters, post_enters, client_enters, layers_enters, calls_enters, no_words, no_command}
use Rattle.commands.proofs.NumberWords.{is_number_word, no_number_word, number_operand}
use Rattle.commands.proofs.OperandsRead.{Operands, leaf, given, one_fits, one_read, one_only, two_fit, two_read, two_only, three_fit, three_read, three_only}
use Rattle.commands.proofs.Rows.{asks_nothing}

-- ---- operands

channels_operands : (ws : List Text) (ids : List ℤ) → AreChannels ws ids → Operands ws
channels_operands [] ids h = tt
channels_operands (w ∷ ws) [] h = absurd h
channels_operands (w ∷ ws) (pos id ∷ ids) h = (number_operand channel_range w id h.0, channels_operands ws ids h.1)
channels_operands (w ∷ ws) (negsuc k ∷ ids) h = absurd h.0

asked_operands : (words : List Text) (r : RequestText) → AsksFor words r → Operands words
asked_operands words (check schema) asks = subst Operands (sym asks.0) (eqb-false 99 45 refl, (asks.1, tt))
asked_operands words (decode schema type input) asks = subst Operands (sym asks.0) (eqb-false 100 45 refl, (asks.1, (asks.2, (asks.3, tt))))
asked_operands words (encode schema type input) asks = subst Operands (sym asks.0) (eqb-false 101 45 refl, (asks.1, (asks.2, (asks.3, tt))))
asked_operands words (replay schema journal clients) (n, is, os, oj, number) = subst Operands (sym is) (eqb-false 114 45 refl, (os, (oj, (number_operand clients_range n clients number, tt))))
asked_operands words (make schema number steps) (n, s, is, os, run, some) =
    subst Operands (sym is) (eqb-false 109 45 refl, (os, (number_operand run_range n number run, (number_operand steps_range s steps some, tt))))
asked_operands words (serve schema address sessions) (n, is, os, oa, number) = subst Operands (sym is) (eqb-false 115 45 refl, (os, (oa, (number_operand sessions_range n sessions number, tt))))
asked_operands words (post schema address input) asks = subst Operands (sym asks.0) (eqb-false 112 45 refl, (asks.1, (asks.2, (asks.3, tt))))
asked_operands words (client schema address state channels) (more, is, os, oa, ot, each) = subst Operands (sym is) (eqb-false 99 45 refl, (os, (oa, (ot, channels_operands more channels each))))
asked_operands words (layers old new type) asks = subst Operands (sym asks.0) (eqb-false 108 45 refl, (asks.1, (asks.2, (asks.3, tt))))
asked_operands words (calls schema input) asks = subst Operands (sym asks.0) (eqb-false 99 45 refl, (asks.1, (asks.2, tt)))

module _ {A : Type 0} (f : A → Text) where
  pub operands_from : (xs : List A) → All (λ w. IsOperand (f w)) xs → Operands (map f xs)
  operands_from [] h = tt
  operands_from (x ∷ xs) h = (All-head (λ w. IsOperand (f w)) x xs h, operands_from xs (All-tail (λ w. IsOperand (f w)) x xs h))

  all_from : (xs : List A) → Operands (map f xs) → All (λ w. IsOperand (f w)) xs
  all_from [] h k d lt = absurd (omega arith)
  all_from (x ∷ xs) h zero d lt = h.0
  all_from (x ∷ xs) h (suc k) d lt = all_from xs h.1 k d (omega arith)

  -- words of which one is no operand ask for nothing
  pub none_asked : (xs : List A) → (All (λ w. IsOperand (f w)) xs → ⊥) → AsksNothing (map f xs)
  none_asked xs none r asks = none (all_from xs (asked_operands (map f xs) r asks))

-- ---- words that are taken make what is found in them

abbrev pub Makes : List Text → Option RequestText → Type 0
Makes words (Some r) = AsksFor words r
Makes words None = AsksNothing words

abbrev MakesOf : List Text → Option (Text × List Row) → Type 0
MakesOf words found = Makes words (request_in found)

abbrev Made : List Text → Type 0
Made words = Operands words → fault_of table words ≡ [] → MakesOf words (subcommand_of table words)

-- a command of one operand
module _ (command a : Text) (goes : (rest : List Text) → Enters command (leaf command (a ∷ [])) rest) where
  one_taken : (words : List Text) (s : Text) → words ≡ command ∷ s ∷ [] → IsOperand s → fault_of table words ≡ []
  one_taken words s is os = ap (fault_of table) is ∙ (goes (s ∷ [])).fault ∙ one_fits command a s os

  one_made : ((s : Text) → IsOperand s → MakesOf (command ∷ s ∷ []) (Some (command, given a s ∷ []))) → (rest : List Text) → Made (command ∷ rest)
  one_made makes rest o none =
      one_only command a (λ rest. MakesOf (command ∷ rest) (subcommand_of table (command ∷ rest))) rest o.1 (sym (goes rest).fault ∙ none)
      (λ s os. subst (MakesOf (command ∷ s ∷ [])) (sym ((goes (s ∷ [])).found ∙ ap Some (one_read command a s os))) (makes s os))

-- a command of two operands
module _ (command a b : Text) (ab : bytes_eq a b ≡ false) (goes : (rest : List Text) → Enters command (leaf command (a ∷ b ∷ [])) rest) where
  two_taken : (words : List Text) (s t : Text) → words ≡ command ∷ s ∷ t ∷ [] → IsOperand s → IsOperand t → fault_of table words ≡ []
  two_taken words s t is os ot = ap (fault_of table) is ∙ (goes (s ∷ t ∷ [])).fault ∙ two_fit command a b ab s t os ot

  two_made : ((s t : Text) → IsOperand s → IsOperand t → MakesOf (command ∷ s ∷ t ∷ []) (Some (command, given a s ∷ given b t ∷ []))) → (rest : List Text) → Made (command ∷ rest)
  two_made makes rest o none =
      two_only command a b ab (λ rest. MakesOf (command ∷ rest) (subcommand_of table (command ∷ rest))) rest o.1 (sym (goes rest).fault ∙ none)
      (λ s t os ot. subst (MakesOf (command ∷ s ∷ t ∷ [])) (sym ((goes (s ∷ t ∷ [])).found ∙ ap Some (two_read command a b ab s t os ot))) (makes s t os ot))

-- a command of three operands
module _ (command a b c : Text) (ab : bytes_eq a b ≡ false) (ac : bytes_eq a c ≡ false) (bc : bytes_eq b c ≡ false) (goes : (rest : List Text) → Enters command (leaf command (a ∷ b ∷ c ∷ [])) rest) where
  three_taken : (words : List Text) (s t u : Text) → words ≡ command ∷ s ∷ t ∷ u ∷ [] → IsOperand s → IsOperand t → IsOperand u → fault_of table words ≡ []
  three_taken words s t u is os ot ou = ap (fault_of table) is ∙ (goes (s ∷ t ∷ u ∷ [])).fault ∙ three_fit command a b c ab ac bc s t u os ot ou

  three_made : ((s t u : Text) → IsOperand s → IsOperand t → IsOperand u → MakesOf (command ∷ s ∷ t ∷ u ∷ []) (Some (command, given a s ∷ given b t ∷ given c u ∷ []))) → (rest : List Text) → Made (command ∷ rest)
  three_made makes rest o none =
      three_only command a b c ab ac bc (λ rest. MakesOf (command ∷ rest) (subcommand_of table (command ∷ rest))) rest o.1 (sym (goes rest).fault ∙ none)
      (λ s t u os ot ou. subst (MakesOf (command ∷ s ∷ t ∷ u ∷ [])) (sym ((goes (s ∷ t ∷ u ∷ [])).found ∙ ap Some (three_read command a b c ab ac bc s t u os ot ou))) (makes s t u os ot ou))

-- ---- words of a row are taken

-- a client without channels
client_alone : (words more : List Text) (schema address state : Text) → more_words words ≡ [] → words ≡ codes "client" ∷ schema ∷ address ∷ state ∷ more → words ≡ codes "client" ∷ schema ∷ address ∷ state ∷ []
client_alone words more schema address state all is = is ∙ ap (λ (ws : List Text). codes "client" ∷ schema ∷ address ∷ state ∷ ws) (sym (ap more_words is) ∙ all)

-- the words are those that clap reads
row_fits : (words : List Text) (r : RequestText) → more_words words ≡ [] → AsksFor words r → fault_of table words ≡ []
row_fits words (check schema) all asks = one_taken (codes "check") (codes "SCHEMA") check_enters words schema asks.0 asks.1
row_fits words (decode schema type input) all asks =
    three_taken (codes "decode") (codes "SCHEMA") (codes "TYPE") (codes "INPUT") refl refl refl decode_enters words schema type input asks.0 asks.1 asks.2 asks.3
row_fits words (encode schema type input) all asks =
    three_taken (codes "encode") (codes "SCHEMA") (codes "TYPE") (codes "INPUT") refl refl refl encode_enters words schema type input asks.0 asks.1 asks.2 asks.3
row_fits words (replay schema journal clients) all (n, is, os, oj, number) =
    three_taken (codes "replay") (codes "SCHEMA") (codes "JOURNAL") (codes "CLIENTS") refl refl refl replay_enters words schema journal n is os oj (number_operand clients_range n clients number)
row_fits words (make schema number steps) all (n, s, is, os, run, some) =
    three_taken (codes "make") (codes "SCHEMA") (codes "NUMBER") (codes "STEPS") refl refl refl make_enters words schema n s is os (number_operand run_range n number run) (number_operand steps_range s steps some)
row_fits words (serve schema address sessions) all (n, is, os, oa, number) =
    three_taken (codes "serve") (codes "SCHEMA") (codes "ADDRESS") (codes "SESSIONS") refl refl refl serve_enters words schema address n is os oa (number_operand sessions_range n sessions number)
row_fits words (post schema address input) all asks =
    three_taken (codes "post") (codes "SCHEMA") (codes "ADDRESS") (codes "INPUT") refl refl refl post_enters words schema address input asks.0 asks.1 asks.2 asks.3
row_fits words (client schema address state channels) all (more, is, os, oa, ot, each) =
    three_taken (codes "client") (codes "SCHEMA") (codes "ADDRESS") (codes "STATE") refl refl refl client_enters words schema address state (client_alone words more schema address state all is) os oa ot
row_fits words (layers old new type) all asks =
    three_taken (codes "layers") (codes "OLD") (codes "NEW") (codes "TYPE") refl refl refl layers_enters words old new type asks.0 asks.1 asks.2 asks.3
row_fits words (calls schema input) all asks = two_taken (codes "calls") (codes "SCHEMA") (codes "INPUT") refl calls_enters words schema input asks.0 asks.1 asks.2

-- so words that are refused, and not for memory, are no row
refused : (words : List Text) (e : Error) → HasKind (fault_of table words) e → (kind_of e ≡ OutOfMemory → ⊥) → fault_of table words ≡ [] → ⊥
refused words e has never none = elim (subst (λ kinds. HasKind kinds e) none has) [
  | inl memory ↦ never memory
  | inr among ↦ among
]

pub refused_asked : (words : List Text) (a : App) (e : Error) → more_words words ≡ [] → a ≡ table → (is_simple_and_free a ≡ true → HasKind (fault_of a words) e) → (kind_of e ≡ OutOfMemory → ⊥) → AsksNothing words
refused_asked words a e all is kinds never r asks =
    refused words e (subst (λ (b : App). HasKind (fault_of b words) e) is (kinds (ap is_simple_and_free is ∙ table_is_free))) never (row_fits words r all asks)

-- ---- by the command

check_made : (rest : List Text) → Made (codes "check" ∷ rest)
check_made = one_made (codes "check") (codes "SCHEMA") check_enters (λ s os. (refl, os))

decode_made : (rest : List Text) → Made (codes "decode" ∷ rest)
decode_made = three_made (codes "decode") (codes "SCHEMA") (codes "TYPE") (codes "INPUT") refl refl refl decode_enters (λ s t i os ot oi. (refl, os, ot, oi))

encode_made : (rest : List Text) → Made (codes "encode" ∷ rest)
encode_made = three_made (codes "encode") (codes "SCHEMA") (codes "TYPE") (codes "INPUT") refl refl refl encode_enters (λ s t i os ot oi. (refl, os, ot, oi))

-- of a number of clients, or of none
replay_words : (s j n : Text) → IsOperand s → IsOperand j → (b : Bool) → is_number clients_range n ≡ b → Makes (codes "replay" ∷ s ∷ j ∷ n ∷ []) (replayed (Some s) (Some j) (Some n))
replay_words s j n os oj true is = rw is (n, refl, os, oj, (is_number_word clients_range n).0 is)
replay_words s j n os oj false is =
    rw is (asks_nothing (codes "replay" ∷ s ∷ j ∷ n ∷ []) (replay s j (number_from 0 n)) refl (λ asks. no_number_word clients_range n asks.0 (number_from 0 n) is (ap (λ (ws : List Text). get_or ws 3 []) asks.1) asks.4))

replay_made : (rest : List Text) → Made (codes "replay" ∷ rest)
replay_made = three_made (codes "replay") (codes "SCHEMA") (codes "JOURNAL") (codes "CLIENTS") refl refl refl replay_enters (λ s j n os oj on. replay_words s j n os oj (is_number clients_range n) refl)

-- of two numbers, or not
make_words : (s n k : Text) → IsOperand s → (b : Bool) → is_number run_range n ≡ b → (d : Bool) → is_number steps_range k ≡ d → Makes (codes "make" ∷ s ∷ n ∷ k ∷ []) (drawn (Some s) (Some n) (Some k))
make_words s n k os true is true at = rw is (rw at (n, k, refl, os, (is_number_word run_range n).0 is, (is_number_word steps_range k).0 at))
make_words s n k os true is false at =
    rw is (rw at (asks_nothing (codes "make" ∷ s ∷ n ∷ k ∷ []) (make s (number_from 0 n) (number_from 0 k)) refl (λ asks. no_number_word steps_range k asks.1 (number_from 0 k) at (ap (λ (ws : List Text). get_or ws 3 []) asks.2) asks.5)))
make_words s n k os false is d at =
    rw is (asks_nothing (codes "make" ∷ s ∷ n ∷ k ∷ []) (make s (number_from 0 n) (number_from 0 k)) refl (λ asks. no_number_word run_range n asks.0 (number_from 0 n) is (ap (λ (ws : List Text). get_or ws 2 []) asks.2) asks.4))

make_made : (rest : List Text) → Made (codes "make" ∷ rest)
make_made = three_made (codes "make") (codes "SCHEMA") (codes "NUMBER") (codes "STEPS") refl refl refl make_enters (λ s n k os on ok. make_words s n k os (is_number run_range n) refl (is_number steps_range k) refl)

-- of a number of sessions, or of none
serve_words : (s a n : Text) → IsOperand s → IsOperand a → (b : Bool) → is_number sessions_range n ≡ b → Makes (codes "serve" ∷ s ∷ a ∷ n ∷ []) (served (Some s) (Some a) (Some n))
serve_words s a n os oa true is = rw is (n, refl, os, oa, (is_number_word sessions_range n).0 is)
serve_words s a n os oa false is =
    rw is (asks_nothing (codes "serve" ∷ s ∷ a ∷ n ∷ []) (serve s a (number_from 0 n)) refl (λ asks. no_number_word sessions_range n asks.0 (number_from 0 n) is (ap (λ (ws : List Text). get_or ws 3 []) asks.1) asks.4))

serve_made : (rest : List Text) → Made (codes "serve" ∷ rest)
serve_made = three_made (codes "serve") (codes "SCHEMA") (codes "ADDRESS") (codes "SESSIONS") refl refl refl serve_enters (λ s a n os oa on. serve_words s a n os oa (is_number sessions_range n) refl)

post_made : (rest : List Text) → Made (codes "post" ∷ rest)
post_made = three_made (codes "post") (codes "SCHEMA") (codes "ADDRESS") (codes "INPUT") refl refl refl post_enters (λ s a i os oa oi. (refl, os, oa, oi))

client_made : (rest : List Text) → Made (codes "client" ∷ rest)
client_made = three_made (codes "client") (codes "SCHEMA") (codes "ADDRESS") (codes "STATE") refl refl refl client_enters (λ s a t os oa ot. ([], refl, os, oa, ot, tt))

layers_made : (rest : List Text) → Made (codes "layers" ∷ rest)
layers_made = three_made (codes "layers") (codes "OLD") (codes "NEW") (codes "TYPE") refl refl refl layers_enters (λ s t i os ot oi. (refl, os, ot, oi))

calls_made : (rest : List Text) → Made (codes "calls" ∷ rest)
calls_made = two_made (codes "calls") (codes "SCHEMA") (codes "INPUT") refl calls_enters (λ s i os oi. (refl, os, oi))

-- words that begin with these rows' commands
abbrev EachMade : List RowText → Type 0
EachMade [] = Unit {0}
EachMade (r ∷ rs) = ((rest : List Text) → Made (r.0 ∷ rest)) × EachMade rs

each_made : EachMade rows
each_made = (check_made, (decode_made, (encode_made, (replay_made, (make_made, (serve_made, (post_made, (client_made, (layers_made, (calls_made, tt))))))))))

named : (command w : Text) (rest : List Text) → bytes_eq command w ≡ true → Made (command ∷ rest) → Made (w ∷ rest)
named command w rest is = subst (λ (x : Text). Made (x ∷ rest)) ((bytes_eq-Decides command w).0 is)

by_first : (r : RowText) (w : Text) (rest : List Text) → ((more : List Text) → Made (r.0 ∷ more)) → (b : Bool) → bytes_eq r.0 w ≡ b → (bytes_eq r.0 w ≡ false → Made (w ∷ rest)) → Made (w ∷ rest)
by_first r w rest each true is other = named r.0 w rest is (each rest)
by_first r w rest each false is other = other is

by_rows : (rs : List RowText) (w : Text) (rest : List Text) → EachMade rs → (NoneOf rs w → Made (w ∷ rest)) → Made (w ∷ rest)
by_rows [] w rest each other = other tt
by_rows (r ∷ rs) w rest each other = by_first r w rest each.0 (bytes_eq r.0 w) refl (λ is. by_rows rs w rest each.1 (λ none. other (is, none)))

made : (words : List Text) → Made words
made [] = λ o none. absurd (no_words none)
made (w ∷ rest) = by_rows rows w rest each_made (λ other o none. absurd (no_command w rest o.0 other none))

pub finds : (words : List Text) (o : Option Request) → Makes words (option_map request_text o) → FindsRequest words o
finds words None h = h
finds words (Some r) h = h

pub found_asked : (words : List Text) (a : App) (sub : Option (Text × List Row)) (o : Option Request) → a ≡ table → Operands words → (is_simple_and_free a ≡ true → fault_of a words ≡ [])
    → (is_simple a ≡ true → sub ≡ subcommand_of a words) → option_map request_text o ≡ request_in sub → FindsRequest words o
found_asked words a sub o is operands fault rows gives =
    let none : fault_of table words ≡ [] = ap (λ (b : App). fault_of b words) (sym is) ∙ fault (ap is_simple_and_free is ∙ table_is_free) in
    let there : sub ≡ subcommand_of table words = rows (ap is_simple is ∙ table_is_simple) ∙ ap (λ (b : App). subcommand_of b words) is in
    finds words o (subst (Makes words) (sym (gives ∙ ap request_in there)) (made words operands none))
