-- The checks in their order: a program passes them or is refused, in one way.
use Rattle.std.proofs.Common.{◌≡◌, ◌⊎◌, ℕ, List, [], ◌∷◌, Option, Some, None, refl, sym, ◌∙◌, inl, inr}
use Rattle.std.proofs.lemmas.Option.{same_Some}
use Rattle.tl_program.specs.Program.{DeclText}
use Rattle.tl_graph.specs.Firsts.{First}
use Rattle.tl_schema.specs.CheckCauses.{HasCause, causes, PassesBy, RefusedBy, Passes, RefusedAt}
use Rattle.tl_schema.specs.declared.fault.CheckCause.{CheckCause}
use Rattle.tl_schema.specs.declared.fault.CheckCause.TheVariants.{SameName, UnknownType, UnknownVariable, WrongArity, BadResult, NotBare, BadFlag, SameNumber, BareCycle, EmptyElement}
use Rattle.tl_names.proofs.Firsts.{one_first}
use Rattle.tl_schema.proofs.SameNameFirst.{same_name_first}
use Rattle.tl_schema.proofs.UnknownTypeFirst.{unknown_type_first}
use Rattle.tl_schema.proofs.UnknownVariableFirst.{unknown_variable_first}
use Rattle.tl_schema.proofs.WrongArityFirst.{wrong_arity_first}
use Rattle.tl_schema.proofs.BadResultFirst.{bad_result_first}
use Rattle.tl_schema.proofs.NotBareFirst.{not_bare_first}
use Rattle.tl_schema.proofs.BadFlagFirst.{bad_flag_first}
use Rattle.tl_schema.proofs.SameNumberFirst.{same_number_first}
use Rattle.tl_schema.proofs.BareCycleFirst.{bare_cycle_first}
use Rattle.tl_schema.proofs.EmptyElementFirst.{empty_element_first}

module _ (ds : List DeclText) where
  -- each cause has its first declaration, or none
  first_with : (c : CheckCause) → (o : Option ℕ) × First (HasCause ds c) o
  first_with SameName = same_name_first ds
  first_with UnknownType = unknown_type_first ds
  first_with UnknownVariable = unknown_variable_first ds
  first_with WrongArity = wrong_arity_first ds
  first_with BadResult = bad_result_first ds
  first_with NotBare = not_bare_first ds
  first_with BadFlag = bad_flag_first ds
  first_with SameNumber = same_number_first ds
  first_with BareCycle = bare_cycle_first ds
  first_with EmptyElement = empty_element_first ds

  abbrev Decision : List CheckCause → Type 0
  Decision cs = PassesBy ds cs ⊎ ((k : ℕ) × (c : CheckCause) × RefusedBy ds cs k c)

  one_more : (c : CheckCause) (cs : List CheckCause) (o : Option ℕ) → First (HasCause ds c) o → Decision cs → Decision (c ∷ cs)
  one_more c cs (Some k) first rest = inr (k, c, inl (refl, first))
  one_more c cs None none (inl passes) = inl (none, passes)
  one_more c cs None none (inr (k, d, refused)) = inr (k, d, inr (none, refused))

  decided_by : (cs : List CheckCause) → Decision cs
  decided_by [] = inl tt
  decided_by (c ∷ cs) = let first = first_with c in one_more c cs first.0 first.1 (decided_by cs)

  pub passed_or_refused : Passes ds ⊎ ((k : ℕ) × (c : CheckCause) × RefusedAt ds k c)
  passed_or_refused = decided_by causes

  never_both : (cs : List CheckCause) (k : ℕ) (c : CheckCause) → RefusedBy ds cs k c → PassesBy ds cs → ⊥
  never_both [] k c r p = r
  never_both (d ∷ cs) k c (inl (is, first)) p = p.0 k first.0
  never_both (d ∷ cs) k c (inr (none, r)) p = never_both cs k c r p.1

  pub never_refused_and_passed : (k : ℕ) (c : CheckCause) → RefusedAt ds k c → Passes ds → ⊥
  never_refused_and_passed k c r p = never_both causes k c r p

  one_of : (cs : List CheckCause) (k j : ℕ) (c d : CheckCause) → RefusedBy ds cs k c → RefusedBy ds cs j d → (k ≡ j) × (c ≡ d)
  one_of [] k j c d r s = absurd r
  one_of (e ∷ cs) k j c d (inl (is, first)) (inl (at, other)) = (same_Some k j (one_first (HasCause ds e) (Some k) (Some j) first other), is ∙ sym at)
  one_of (e ∷ cs) k j c d (inl (is, first)) (inr (none, s)) = absurd (none k first.0)
  one_of (e ∷ cs) k j c d (inr (none, r)) (inl (at, other)) = absurd (none j other.0)
  one_of (e ∷ cs) k j c d (inr (none, r)) (inr (also, s)) = one_of cs k j c d r s

  pub one_refusal : (k j : ℕ) (c d : CheckCause) → RefusedAt ds k c → RefusedAt ds j d → (k ≡ j) × (c ≡ d)
  one_refusal k j c d r s = one_of causes k j c d r s
