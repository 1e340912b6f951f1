-- What a profile keeps beside its indexes. This project's own.
use Rattle.std.specs.Prelude.{◌≡◌, ℕ, List, get_or}
use Rattle.tl_plan.specs.Plans.{PlanView}
use Rattle.tl_plan.specs.PlanLaws.{IsPlanOf}
use Rattle.wire_forms.specs.declared.numbers.TheConstants.{NO_FORM}
use Rattle.wire_profile.specs.Indexes.{ProfileView, form_at}
use Rattle.wire_profile.specs.Profiles.{IsProfile, root_shapes}

-- the table has the form of each declaration
abbrev pub IsTable : ProfileView → List ℕ → Type 0
IsTable p table = (i : ℕ) → get_or table i NO_FORM ≡ form_at p.indexes i

pub record IsWhole (p : ProfileView) (table : List ℕ) (plan : PlanView) : Type 0 where
  pub good : IsProfile p
  pub of_table : IsTable p table
  pub of_plan : IsPlanOf p.schema (root_shapes p) plan
