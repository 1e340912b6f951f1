-- The first declaration with a wrong number of arguments or variables.
use Rattle.std.proofs.Common.{◌≢◌, inr, ℕ, List, length, Option}
use Rattle.std.proofs.lemmas.Bool.{cases_eq}
use Rattle.tl_lexer.proofs.Whole.{Decided}
use Rattle.tl_combinators.proofs.Decided.{decided_as, decided_not, decided_or}
use Rattle.tl_program.specs.Trees.{Tree, named, percent, any_call}
use Rattle.tl_program.specs.Program.{DeclText}
use Rattle.tl_graph.specs.Firsts.{First}
use Rattle.tl_names.specs.Writing.{own_type, IsConstructorOf}
use Rattle.tl_schema.specs.WrongArity.{count_of, Misapplies, ConstructsUneven, IsWrong, WrongArity}
use Rattle.tl_names.specs.Constructors.{IsUneven}
use Rattle.tl_schema.proofs.IndexesDecided.{option_decided}
use Rattle.tl_schema.proofs.WritingDecided.{constructor_that_decided, writes_decided}
use Rattle.tl_schema.proofs.OneArity.{other_arity_decided}
use Rattle.tl_schema.proofs.Firsts.{first_that}

module _ (ds : List DeclText) where
  pub misapplies_decided : (d : DeclText) (u : Tree) → Decided (Misapplies ds d u)
  misapplies_decided d (named name args) =
      decided_as (λ h. record { n = h.0; arity = h.1; other = h.2 }) (λ r. (r.n, r.arity, r.other)) (other_arity_decided ds d name (count_of args))
  misapplies_decided d (percent u) = inr (λ h. h)
  misapplies_decided d any_call = inr (λ h. h)

  uneven_decided : (type : List ℕ) → Decided (IsUneven ds type)
  uneven_decided type =
      decided_as (λ h. record { i = h.0; b = h.1; one = h.2; j = h.3.0; c = h.3.1; other = h.3.2; apart = h.3.3 }) (λ r. (r.i, r.b, r.one, (r.j, r.c, r.other, r.apart)))
      (constructor_that_decided ds type (λ i b. (j : ℕ) × (c : DeclText) × IsConstructorOf ds type j c × (length b.vars ≢ length c.vars)) (λ i b. constructor_that_decided ds type (λ j c. length b.vars ≢ length c.vars) (λ j c. decided_not (cases_eq (length b.vars) (length c.vars)))))

  constructs_uneven_decided : (d : DeclText) → Decided (ConstructsUneven ds d)
  constructs_uneven_decided d =
      decided_as (λ h. record { type = h.0; own = h.1; uneven = h.2 }) (λ r. (r.type, r.own, r.uneven)) (option_decided (own_type d) (IsUneven ds) uneven_decided)

  pub wrong_arity_first : (o : Option ℕ) × First (WrongArity ds) o
  wrong_arity_first = first_that ds (IsWrong ds) (λ d. decided_or (writes_decided (Misapplies ds d) (misapplies_decided d) d) (constructs_uneven_decided d))
