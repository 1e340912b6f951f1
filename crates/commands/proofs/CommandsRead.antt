-- How clap reads the command: the words after it are left to its row.
use Rattle.std.proofs.Common.{◌≡◌, ◌∙◌, ℕ, List, [], ◌∷◌, true, false, eqb, refl, sym, ap, ap₂, Option, Some, is_some, codes}
use Rattle.std.specs.List.{find, fold}
use Rattle.std.specs.Option.{option_map, option_map_or}
use Rattle.std.specs.Str.{bytes_eq}
use Rattle.std.proofs.lemmas.Bool.{ne_eqb}
use Rattle.clap.specs.Words.{Shape, Text, Kinds, fault_of, is_simple, is_simple_and_free, subcommand_of}
use Rattle.clap.specs.Walk.{Names, Walk, answers_to, finished, nothing_held, settled, walk, walk_from, walked}
use Rattle.clap.specs.Simple.{built, entered, label_of, names_of, rows_at}
use Rattle.clap.specs.Kinds.{or_else}
use Rattle.clap.specs.Faults.{check_fault, defaults_fault, entered_fault, settle_fault, turn_fault, walk_fault}
use Rattle.clap.specs.declared.error.kind.ErrorKind.TheVariants.{UnknownArgument, InvalidSubcommand, MissingSubcommand}
use Rattle.clap.proofs.OnLiterals.{clap_on_literals}
use Rattle.clap.proofs.WalkLemmas.{walk_stopped}
use Rattle.clap.proofs.FaultLemmas.{stopped_fault}
use Rattle.commands.specs.Requests.{IsOperand}
use Rattle.commands.specs.CommandLine.{RowText, rows, table}
use Rattle.commands.proofs.OperandsRead.{leaf, faults, first_none}

pub table_is_simple : is_simple table ≡ true
unfolding clap_on_literals
table_is_simple = refl

pub table_is_free : is_simple_and_free table ≡ true
unfolding clap_on_literals
table_is_free = refl

abbrev top : Shape
top = (built table).top

abbrev names : Names
names = names_of (built table)

abbrev start : Walk
start = walk_from nothing_held

abbrev stopped_at : Text → List Text → Walk
stopped_at command rest = record start { stopped = Some (command, rest) }

-- the kinds of the top level, by its walk
abbrev level : Walk → Kinds → Kinds
level w ks = or_else ks (or_else (entered_fault (built table) w.stopped) (or_else (settle_fault top.rules top.args_override_self w.held)
    (or_else (defaults_fault (settled top.rules w.held).rows top.rules) (check_fault top (finished top.rules w.held) (is_some (entered (built table) w.stopped))))))

none_after : (ks : Kinds) → or_else ks [] ≡ ks
none_after [] = refl
none_after (k ∷ ks) = refl

-- a command's row takes and gives what is left to it
pub record Enters (command : Text) (row : Shape) (rest : List Text) : Type 0 where
  pub fault : fault_of table (command ∷ rest) ≡ faults row rest
  pub found : subcommand_of table (command ∷ rest) ≡ Some (rows_at row rest)

module _ (command : Text) (row : Shape) (first : walked top.rules names start command ≡ stopped_at command []) (quiet : turn_fault top names start command ≡ [])
    (there : find (λ s. answers_to command (label_of s)) (built table).subs ≡ Some row) (rest : List Text) where
  walk_is : walk top.rules names nothing_held (command ∷ rest) ≡ stopped_at command rest
  walk_is = ap (λ (w : Walk). fold (walked top.rules names) w rest) first ∙ sym (walk_stopped top.rules names start command [] rest)

  no_fault : walk_fault top names start (command ∷ rest) ≡ []
  unfolding walk_fault
  no_fault = ap₂ (λ (ks : Kinds) (w : Walk). or_else ks (walk_fault top names w rest)) quiet first ∙ stopped_fault top names start (command, []) rest

  row_fault : level (stopped_at command rest) [] ≡ faults row rest
  unfolding defaults_fault
  row_fault = ap (λ (found : Option Shape). or_else (option_map_or (λ s. faults s rest) found []) (check_fault top [] (is_some (option_map (λ s. rows_at s rest) found)))) there ∙ none_after (faults row rest)

  enters : Enters command row rest
  enters = record {
    fault = ap₂ level walk_is no_fault ∙ row_fault;
    found = ap (λ (w : Walk). entered (built table) w.stopped) walk_is ∙ ap (option_map (λ s. rows_at s rest)) there;
  }

pub check_enters : (rest : List Text) → Enters (codes "check") (leaf (codes "check") (codes "SCHEMA" ∷ [])) rest
unfolding clap_on_literals
check_enters = enters (codes "check") _ refl refl refl

pub decode_enters : (rest : List Text) → Enters (codes "decode") (leaf (codes "decode") (codes "SCHEMA" ∷ codes "TYPE" ∷ codes "INPUT" ∷ [])) rest
unfolding clap_on_literals
decode_enters = enters (codes "decode") _ refl refl refl

pub encode_enters : (rest : List Text) → Enters (codes "encode") (leaf (codes "encode") (codes "SCHEMA" ∷ codes "TYPE" ∷ codes "INPUT" ∷ [])) rest
unfolding clap_on_literals
encode_enters = enters (codes "encode") _ refl refl refl

pub replay_enters : (rest : List Text) → Enters (codes "replay") (leaf (codes "replay") (codes "SCHEMA" ∷ codes "JOURNAL" ∷ codes "CLIENTS" ∷ [])) rest
unfolding clap_on_literals
replay_enters = enters (codes "replay") _ refl refl refl

pub make_enters : (rest : List Text) → Enters (codes "make") (leaf (codes "make") (codes "SCHEMA" ∷ codes "NUMBER" ∷ codes "STEPS" ∷ [])) rest
unfolding clap_on_literals
make_enters = enters (codes "make") _ refl refl refl

pub serve_enters : (rest : List Text) → Enters (codes "serve") (leaf (codes "serve") (codes "SCHEMA" ∷ codes "ADDRESS" ∷ codes "SESSIONS" ∷ [])) rest
unfolding clap_on_literals
serve_enters = enters (codes "serve") _ refl refl refl

pub post_enters : (rest : List Text) → Enters (codes "post") (leaf (codes "post") (codes "SCHEMA" ∷ codes "ADDRESS" ∷ codes "INPUT" ∷ [])) rest
unfolding clap_on_literals
post_enters = enters (codes "post") _ refl refl refl

pub client_enters : (rest : List Text) → Enters (codes "client") (leaf (codes "client") (codes "SCHEMA" ∷ codes "ADDRESS" ∷ codes "STATE" ∷ [])) rest
unfolding clap_on_literals
client_enters = enters (codes "client") _ refl refl refl

pub layers_enters : (rest : List Text) → Enters (codes "layers") (leaf (codes "layers") (codes "OLD" ∷ codes "NEW" ∷ codes "TYPE" ∷ [])) rest
unfolding clap_on_literals
layers_enters = enters (codes "layers") _ refl refl refl

pub calls_enters : (rest : List Text) → Enters (codes "calls") (leaf (codes "calls") (codes "SCHEMA" ∷ codes "INPUT" ∷ [])) rest
unfolding clap_on_literals
calls_enters = enters (codes "calls") _ refl refl refl

-- ---- words of no command

missing : fault_of table [] ≡ MissingSubcommand ∷ []
unfolding clap_on_literals
missing = refl

pub no_words : fault_of table [] ≡ [] → ⊥
no_words none = let bad = sym missing ∙ none in absurd cc

-- none of these rows' commands is this word
abbrev pub NoneOf : List RowText → Text → Type 0
NoneOf [] w = Unit {0}
NoneOf (r ∷ rs) w = (bytes_eq r.0 w ≡ false) × NoneOf rs w

stray : (x : ℕ) (xs : Text) → eqb x 45 ≡ false → NoneOf rows (x ∷ xs) → turn_fault top names start (x ∷ xs) ≡ UnknownArgument ∷ InvalidSubcommand ∷ []
unfolding clap_on_literals
stray x xs e other = simp (e, other.0, other.1.0, other.1.1.0, other.1.1.1.0, other.1.1.1.1.0, other.1.1.1.1.1.0, other.1.1.1.1.1.1.0, other.1.1.1.1.1.1.1.0, other.1.1.1.1.1.1.1.1.0, other.1.1.1.1.1.1.1.1.1.0)

pub no_command : (w : Text) (rest : List Text) → IsOperand w → NoneOf rows w → fault_of table (w ∷ rest) ≡ [] → ⊥
unfolding walk_fault
no_command [] rest o other none = absurd o
no_command (x ∷ xs) rest o other none = let bad = sym (stray x xs (ne_eqb x 45 o) other) ∙ first_none _ _ (first_none _ _ none) in absurd cc
