-- The rows as `clap` is told them, and the request that is made of what it finds: how words are read. What they ask for stands in Requests.antt,
-- which cites nothing of this. This project's own.
use Rattle.std.specs.Prelude.{Bool, true, false, ◌&&◌, ℕ, ℤ, pos, List, [], ◌∷◌, map, take, drop, Option, Some, None, option_map, option_and_then, codes, if◌then◌else◌}
use Rattle.std.specs.List.{fold}
use Rattle.std.specs.Str.{bytes_eq}
use Rattle.clap.specs.Words.{App, Row, Rule, Text, first_of, new_app, new_rule, with_subcommand}
use Rattle.commands.specs.Numbers.{number_from, number_of, is_number}
use Rattle.commands.specs.Requests.{RequestText, check, decode, encode, replay, make, serve, post, client, layers, calls, channel_range, clients_range, run_range, sessions_range, steps_range}
use Rattle.commands.specs.declared.table.Row.{Row as TableRow}

-- an operand, which has to be there
abbrev pub operand : Text → Rule
operand name = record (new_rule name) { required = true }

-- a command with its operands in order
abbrev pub row : Text → List Text → App
row command operands = let a = new_app command in record a { top = record a.top { rules = map operand operands } }

-- the program, which wants a command; clap adds no help and no version
abbrev pub program : App
program =
    let a = new_app (codes "tlbox") in
    record a { top = record a.top { no_binary_name = true; disable_help_flag = true; disable_help_subcommand = true; disable_version_flag = true; subcommand_required = true } }

-- a command, and the names of its operands
abbrev pub RowText : Type 0
RowText = Text × List Text

-- the rows, each as far as clap reads it
abbrev pub rows : List RowText
rows =
    (codes "check", codes "SCHEMA" ∷ [])
    ∷ (codes "decode", codes "SCHEMA" ∷ codes "TYPE" ∷ codes "INPUT" ∷ [])
    ∷ (codes "encode", codes "SCHEMA" ∷ codes "TYPE" ∷ codes "INPUT" ∷ [])
    ∷ (codes "replay", codes "SCHEMA" ∷ codes "JOURNAL" ∷ codes "CLIENTS" ∷ [])
    ∷ (codes "make", codes "SCHEMA" ∷ codes "NUMBER" ∷ codes "STEPS" ∷ [])
    ∷ (codes "serve", codes "SCHEMA" ∷ codes "ADDRESS" ∷ codes "SESSIONS" ∷ [])
    ∷ (codes "post", codes "SCHEMA" ∷ codes "ADDRESS" ∷ codes "INPUT" ∷ [])
    ∷ (codes "client", codes "SCHEMA" ∷ codes "ADDRESS" ∷ codes "STATE" ∷ [])
    ∷ (codes "layers", codes "OLD" ∷ codes "NEW" ∷ codes "TYPE" ∷ [])
    ∷ (codes "calls", codes "SCHEMA" ∷ codes "INPUT" ∷ [])
    ∷ []

abbrev pub with_row : App → RowText → App
with_row a r = with_subcommand a (row r.0 r.1).top

abbrev pub with_rows : App → List RowText → App
with_rows a rs = fold with_row a rs

abbrev pub table : App
table = with_rows program rows

-- a row of the program
abbrev pub row_text : TableRow → RowText
row_text r = (r.command.now, map (λ s. s.now) r.operands.now)

-- ---- the request of a row, by the word of each operand

abbrev pub check_of : (Text → Option Text) → Option RequestText
check_of word = option_map check (word (codes "SCHEMA"))

-- what is asked of three operands
abbrev typed : (Text → Text → Text → RequestText) → Option Text → Option Text → Option Text → Option RequestText
typed asks (Some a) (Some b) (Some c) = Some (asks a b c)
typed asks _ _ _ = None

abbrev pub decode_of : (Text → Option Text) → Option RequestText
decode_of word = typed decode (word (codes "SCHEMA")) (word (codes "TYPE")) (word (codes "INPUT"))

abbrev pub encode_of : (Text → Option Text) → Option RequestText
encode_of word = typed encode (word (codes "SCHEMA")) (word (codes "TYPE")) (word (codes "INPUT"))

-- some clients
abbrev pub replayed : Option Text → Option Text → Option Text → Option RequestText
replayed (Some schema) (Some journal) (Some clients) = option_map (replay schema journal) (number_of clients_range clients)
replayed _ _ _ = None

abbrev pub replay_of : (Text → Option Text) → Option RequestText
replay_of word = replayed (word (codes "SCHEMA")) (word (codes "JOURNAL")) (word (codes "CLIENTS"))

-- a run of a number, of some steps
abbrev numbered : Text → Option ℕ → Option ℕ → Option RequestText
numbered schema (Some number) (Some steps) = Some (make schema number steps)
numbered schema _ _ = None

abbrev pub drawn : Option Text → Option Text → Option Text → Option RequestText
drawn (Some schema) (Some number) (Some steps) = numbered schema (number_of run_range number) (number_of steps_range steps)
drawn _ _ _ = None

abbrev pub make_of : (Text → Option Text) → Option RequestText
make_of word = drawn (word (codes "SCHEMA")) (word (codes "NUMBER")) (word (codes "STEPS"))

-- some sessions
abbrev pub served : Option Text → Option Text → Option Text → Option RequestText
served (Some schema) (Some address) (Some sessions) = option_map (serve schema address) (number_of sessions_range sessions)
served _ _ _ = None

abbrev pub serve_of : (Text → Option Text) → Option RequestText
serve_of word = served (word (codes "SCHEMA")) (word (codes "ADDRESS")) (word (codes "SESSIONS"))

abbrev pub post_of : (Text → Option Text) → Option RequestText
post_of word = typed post (word (codes "SCHEMA")) (word (codes "ADDRESS")) (word (codes "INPUT"))

-- without channels
abbrev pub client_of : (Text → Option Text) → Option RequestText
client_of word = typed (λ schema address state. client schema address state []) (word (codes "SCHEMA")) (word (codes "ADDRESS")) (word (codes "STATE"))

abbrev pub layers_of : (Text → Option Text) → Option RequestText
layers_of word = typed layers (word (codes "OLD")) (word (codes "NEW")) (word (codes "TYPE"))

-- what is asked of two operands
abbrev pub paired : (Text → Text → RequestText) → Option Text → Option Text → Option RequestText
paired asks (Some a) (Some b) = Some (asks a b)
paired asks _ _ = None

abbrev pub calls_of : (Text → Option Text) → Option RequestText
calls_of word = paired calls (word (codes "SCHEMA")) (word (codes "INPUT"))

abbrev pub request_at : Text → (Text → Option Text) → Option RequestText
request_at command word =
    if bytes_eq command (codes "check") then check_of word
    else if bytes_eq command (codes "decode") then decode_of word
    else if bytes_eq command (codes "encode") then encode_of word
    else if bytes_eq command (codes "replay") then replay_of word
    else if bytes_eq command (codes "make") then make_of word
    else if bytes_eq command (codes "serve") then serve_of word
    else if bytes_eq command (codes "post") then post_of word
    else if bytes_eq command (codes "client") then client_of word
    else if bytes_eq command (codes "layers") then layers_of word
    else if bytes_eq command (codes "calls") then calls_of word
    else None

-- the request of the command that clap found, and of what it found for each operand
abbrev pub request_in : Option (Text × List Row) → Option RequestText
request_in = option_and_then (λ p. request_at p.0 (λ operand. first_of operand p.1))

-- ---- the words after those that clap reads: a client's channels

abbrev pub begins_client : List Text → Bool
begins_client [] = false
begins_client (w ∷ ws) = bytes_eq w (codes "client")

-- the words that clap reads
abbrev pub fixed_words : List Text → List Text
fixed_words ws = if begins_client ws then take 4 ws else ws

abbrev pub more_words : List Text → List Text
more_words ws = if begins_client ws then drop 4 ws else []

abbrev pub are_channels : List Text → Bool
are_channels [] = true
are_channels (w ∷ ws) = is_number channel_range w && are_channels ws

-- the channel that a word is, if it is one
abbrev pub channel_of : Text → ℤ
channel_of w = pos (number_from 0 w)

-- the channels that words are, if each is one
abbrev pub channels_of : List Text → Option (List ℤ)
channels_of ws = if are_channels ws then Some (map channel_of ws) else None

-- the request with the channels of further words, if it is a client's
abbrev pub with_channels : List Text → RequestText → Option RequestText
with_channels ws (client schema address state channels) = option_map (client schema address state) (channels_of ws)
with_channels ws r = Some r
