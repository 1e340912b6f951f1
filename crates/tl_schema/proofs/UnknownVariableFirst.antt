-- The first declaration with a variable or a call that is wrong.
use Rattle.std.proofs.Common.{◌≡◌, ◌≢◌, ◌⊎◌, inl, inr, ℕ, true, false, List, slice_get, Option, Some, bytes_eq}
use Rattle.std.specs.List.{count_by}
use Rattle.std.proofs.lemmas.Bool.{cases_eq}
use Rattle.tl_lexer.proofs.Whole.{Decided}
use Rattle.tl_combinators.proofs.Decided.{decided_as, decided_not, decided_and, decided_or}
use Rattle.tl_program.specs.Trees.{Tree, named, percent, any_call}
use Rattle.tl_program.specs.Program.{DeclText}
use Rattle.tl_graph.specs.Firsts.{First}
use Rattle.tl_names.specs.Writing.{is_variable}
use Rattle.tl_names.specs.Parts.{SomeInFields}
use Rattle.tl_schema.specs.UnknownVariable.{NamesVariable, MisusesVariable, UnknownVariable, uncalled, no_variable, in_field, calls}
use Rattle.tl_schema.proofs.IndexesDecided.{bool_decided, some_decided}
use Rattle.tl_schema.proofs.WritingDecided.{held_decided}
use Rattle.tl_schema.proofs.Firsts.{first_that}

abbrev HasUncalled : DeclText → Type 0
HasUncalled d = (d.function ≡ true) × ((i : ℕ) × (var : List ℕ) × (slice_get d.vars i ≡ Some var) × (count_by (bytes_eq var) (calls d) ≢ 1))

abbrev CallsNone : DeclText → Type 0
CallsNone d = (i : ℕ) × (name : List ℕ) × (slice_get (calls d) i ≡ Some name) × (is_variable d name ≡ false)

abbrev HoldsVariable : DeclText → Type 0
HoldsVariable d = (d.function ≡ true) × SomeInFields (NamesVariable d) d.fields

module _ (d : DeclText) where
  names_variable_decided : (u : Tree) → Decided (NamesVariable d u)
  names_variable_decided (named name args) = bool_decided (is_variable d name) true
  names_variable_decided (percent u) = inr (λ h. h)
  names_variable_decided any_call = inr (λ h. h)

  misuses : HasUncalled d ⊎ (CallsNone d ⊎ HoldsVariable d) → MisusesVariable d
  misuses (inl (function, (i, var, there, count))) = uncalled i var function there count
  misuses (inr (inl (i, name, there, free))) = no_variable i name there free
  misuses (inr (inr (function, held))) = in_field function held

  of_misuses : MisusesVariable d → HasUncalled d ⊎ (CallsNone d ⊎ HoldsVariable d)
  of_misuses (uncalled i var function there count) = inl (function, (i, var, there, count))
  of_misuses (no_variable i name there free) = inr (inl (i, name, there, free))
  of_misuses (in_field function held) = inr (inr (function, held))

  misuses_decided : Decided (MisusesVariable d)
  misuses_decided =
      decided_as misuses of_misuses
      (decided_or (decided_and (bool_decided d.function true) (some_decided d.vars (λ i var. count_by (bytes_eq var) (calls d) ≢ 1) (λ i var. decided_not (cases_eq (count_by (bytes_eq var) (calls d)) 1))))
      (decided_or (some_decided (calls d) (λ i name. is_variable d name ≡ false) (λ i name. bool_decided (is_variable d name) false))
      (decided_and (bool_decided d.function true) (some_decided d.fields _ (λ i f. held_decided (NamesVariable d) names_variable_decided f.kind)))))

pub unknown_variable_first : (ds : List DeclText) → (o : Option ℕ) × First (UnknownVariable ds) o
unknown_variable_first ds = first_that ds MisusesVariable misuses_decided
