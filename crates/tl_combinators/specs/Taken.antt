-- The tokens that a rule takes, beside what it reads. Descriptions are made of them. This project's own.
use Rattle.std.specs.Prelude.{◌≡◌, List, ◌++◌}
use Rattle.tl_lexer.specs.Rule.{Rule}

-- what the rule reads, with the tokens of its row
unfoldable pub taken : {T F A : Type 0} → Rule T F A → Rule T F (A × List T)
taken r = record { reads = λ ts x rest. r.reads ts x.0 rest × (ts ≡ x.1 ++ rest); refused = r.refused }
