-- Constructors that take no bytes are the nodes whose needs can be met.
use Rattle.std.proofs.Common.{◌≡◌, ◌↔◌, inl, inr, ℕ, Bool, List, slice_get, Option, Some, None, arith}
use Rattle.std.proofs.lemmas.Option.{slice_get_cases, slice_get_within}
use Rattle.tl_program.specs.Program.{DeclText}
use Rattle.tl_graph.specs.Paths.{IsIn}
use Rattle.tl_graph.specs.Needs.{IsMarked, CanBeMet, can_be_met}
use Rattle.tl_names.specs.Writing.{At}
use Rattle.tl_names.specs.BareFields.{HasBareFields, TakesNone, takes_none}
use Rattle.tl_names.specs.inner.BareSteps.{BareFieldsAre, AreNeeds, MarksEmpty}
use Rattle.tl_names.proofs.OneBare.{same_fields}

module _ (ds : List DeclText) (needs : List (Option (List ℕ))) (are : AreNeeds ds needs) where
  declared : (k : ℕ) (o : Option (List ℕ)) → slice_get needs k ≡ Some o → (d : DeclText) × At ds k d
  declared k o at =
      elim (slice_get_cases ds k).1 [ inl (d, below, here, is) ↦ (d, here) | inr (past, none) ↦ absurd (let within = slice_get_within needs k o at in omega (arith, within, past, are.count)) ]

  needed : (k : ℕ) (d : DeclText) → At ds k d → (o : Option (List ℕ)) × (slice_get needs k ≡ Some o)
  needed k d at =
      elim (slice_get_cases needs k).1 [ inl (o, below, here, is) ↦ (o, here) | inr (past, none) ↦ absurd (let within = slice_get_within ds k d at in omega (arith, within, past, are.count)) ]

  takes_none_of : {k : ℕ} → CanBeMet needs k → TakesNone ds k
  takes_none_of (can_be_met k js at each) =
      let d = declared k (Some js) at in
      takes_none k d.0 js d.1 (are.each k d.0 (Some js) d.1 at) (λ j there. takes_none_of (each j there))

  needed_node : (k : ℕ) (d : DeclText) (js : List ℕ) → HasBareFields ds d js → ((j : ℕ) → IsIn j js → CanBeMet needs j) → (o : Option (List ℕ)) → slice_get needs k ≡ Some o → BareFieldsAre ds d o → CanBeMet needs k
  needed_node k d js has each None at none = absurd (none js has)
  needed_node k d js has each (Some ks) at all = can_be_met k ks at (λ j there. each j (same_fields ds d js ks has all j there))

  can_be_met_of : {k : ℕ} → TakesNone ds k → CanBeMet needs k
  can_be_met_of (takes_none k d js at has each) =
      let n = needed k d at in
      needed_node k d js has (λ j there. can_be_met_of (each j there)) n.0 n.1 (are.each k d n.0 at n.1)

  pub marks_empty : (marks : List Bool) → ((k : ℕ) → IsMarked marks k ↔ CanBeMet needs k) → MarksEmpty ds marks
  marks_empty marks exact k = (λ h. takes_none_of ((exact k).0 h), λ none. (exact k).1 (can_be_met_of none))
