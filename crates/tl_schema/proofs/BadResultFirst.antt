-- The first constructor with a result that is no type applied to its variables.
use Rattle.std.proofs.Common.{◌≡◌, ℕ, true, false, List, map, Option, ap, ◌∙◌, refl}
use Rattle.tl_lexer.proofs.Whole.{Decided}
use Rattle.tl_combinators.proofs.Decided.{decided_as, decided_not, decided_and}
use Rattle.tl_program.specs.Trees.{named, plain, trees_of}
use Rattle.tl_program.specs.Program.{DeclText}
use Rattle.tl_graph.specs.Firsts.{First}
use Rattle.tl_names.specs.Writing.{is_type_name, is_variable, is_constructor}
use Rattle.tl_schema.specs.BadResult.{IsGoodResult, HasBadResult, BadResult}
use Rattle.tl_schema.proofs.IndexesDecided.{bool_decided}
use Rattle.tl_schema.proofs.TypesDecided.{named_decided, types_decided}
use Rattle.tl_schema.proofs.Firsts.{first_that}

good_result_decided : (d : DeclText) → Decided (IsGoodResult d)
good_result_decided d =
    decided_as (λ h. record { type = h.0; upper = h.3.0; no_variable = h.3.1.0; applied = h.2 ∙ ap (λ ts. named h.0 ts) h.3.1.1 }) (λ r. (r.type, trees_of (map plain d.vars), r.applied, (r.upper, (r.no_variable, refl))))
    (named_decided (λ type args. (is_type_name type ≡ true) × ((is_variable d type ≡ false) × (args ≡ trees_of (map plain d.vars)))) (λ type args. decided_and (bool_decided (is_type_name type) true) (decided_and (bool_decided (is_variable d type) false) (types_decided args (trees_of (map plain d.vars))))) d.result)

bad_result_decided : (d : DeclText) → Decided (HasBadResult d)
bad_result_decided d =
    decided_as (λ h. record { own = h.0; bad = h.1 }) (λ r. (r.own, r.bad)) (decided_and (bool_decided (is_constructor d) true) (decided_not (good_result_decided d)))

pub bad_result_first : (ds : List DeclText) → (o : Option ℕ) × First (BadResult ds) o
bad_result_first ds = first_that ds HasBadResult bad_result_decided
