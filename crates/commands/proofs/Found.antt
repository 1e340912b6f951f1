-- What clap found, as a request.
use Rattle.std.proofs.Common.{◌≡◌, ◌∙◌, List, sym, ap, Option, Some, None, option_map}
use Rattle.clap.specs.Words.{Row, Text, first_value, found_of, rows_of, subcommand_rows_of, subcommand_name_of}
use Rattle.clap.proofs.WalkLemmas.{first_value-rows}
use Rattle.clap.specs.declared.parser.matches.ArgMatches.{ArgMatches}
use Rattle.commands.specs.Requests.{RequestText}
use Rattle.commands.specs.CommandLine.{request_at, request_in}

-- what was found has this name and these rows
met : {X : Type 0} (name_of : X → Text) (rows_in : X → List Row) (o : Option X) (name : Text) (rows : List Row) → Some name ≡ option_map name_of o
    → Some rows ≡ option_map (λ (p : Text × List Row). p.1) (option_map {U = Text × List Row} (λ b. (name_of b, rows_in b)) o) → option_map {U = Text × List Row} (λ b. (name_of b, rows_in b)) o ≡ Some (name, rows)
met name_of rows_in None name rows n r = absurd cc
met name_of rows_in (Some b) name rows n r = cc

subcommand_is : (m : ArgMatches) (name : Text) (rows : List Row) → Some name ≡ subcommand_name_of m → Some rows ≡ option_map (λ (p : Text × List Row). p.1) (subcommand_rows_of m)
    → subcommand_rows_of m ≡ Some (name, rows)
subcommand_is m name rows n r = met _ _ _ name rows n r

-- the request of a command is that of what was found under its name
pub found_as : (m operands : ArgMatches) (name command : Text) (r : Option RequestText) → Some name ≡ subcommand_name_of m
    → Some (rows_of (found_of operands)) ≡ option_map (λ (p : Text × List Row). p.1) (subcommand_rows_of m) → name ≡ command
    → r ≡ request_at command (first_value (found_of operands)) → r ≡ request_in (subcommand_rows_of m)
found_as m operands name command r n rows is made =
    let f = found_of operands in
    made ∙ ap (λ (w : Text). request_at w (first_value f)) (sym is) ∙ (λ i. request_at name (λ id. first_value-rows f id i)) ∙ ap request_in (sym (subcommand_is m name (rows_of f) n rows))
