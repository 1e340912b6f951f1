use Rattle.std.proofs.Common.{ℕ, Option, ap}
use Rattle.std.specs.Prelude.{unwrap_or}
use Rattle.wire_forms.specs.declared.numbers.TheConstants.{NO_FORM}
use Rattle.wire_profile.proofs.finding.form_at.Goals as goal

pub returns-in-Some : goal.returns-in-Some
returns-in-Some c = ap (λ (o : Option ℕ). unwrap_or o NO_FORM) c.in-Some.ensures

pub returns-in-None : goal.returns-in-None
returns-in-None c = ap (λ (o : Option ℕ). unwrap_or o NO_FORM) c.in-None.ensures
