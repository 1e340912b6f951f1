-- Which events what follows of a profile can have, and what a fault's status comes of.
use Rattle.std.proofs.Common.{ℕ, List}
use Rattle.tl_base.specs.declared.host.Out.TheVariants as outs
use Rattle.tl_schema.specs.Schemas.{Declared}
use Rattle.wire_profile.specs.Indexes.{ProfileView}
use Rattle.outside.specs.Answer.{refused}
use Rattle.outside.specs.declared.status.Status.{Status}
use Rattle.fault_lines.specs.Profiled.{form_line}
use Rattle.outside.specs.Events.{Event, put, write_failed}
use Rattle.outside.specs.Laws.{Keeps, HasCause}
use Rattle.outside.specs.Steps.{Step}
use Rattle.outside.proofs.Causing.{keeps_print, cause_print}
use Rattle.update_commands.specs.Profile.{OfProfile, no_profile, profiled}

module _ (Rest : ProfileView → Step Status) where
  module _ (P : Event → Type 0) (errors : (piece : List ℕ) → P (put outs.Errors piece)) (unwritten : P (write_failed outs.Errors)) (output : (piece : List ℕ) → P (put outs.Output piece)) (lost : P (write_failed outs.Output)) where
    pub keeps_profile : ((p : ProfileView) → Keeps P (Rest p)) → (S : Declared) → Keeps P (OfProfile Rest S)
    keeps_profile rest S t s (no_profile fault lacks h) = keeps_print P errors unwritten output lost (refused (form_line fault)) t s h
    keeps_profile rest S t s (profiled p is h) = rest p t s h

  pub cause_profile : ((p : ProfileView) → HasCause (Rest p)) → (S : Declared) → HasCause (OfProfile Rest S)
  cause_profile rest S t s (no_profile fault lacks h) = cause_print (refused (form_line fault)) tt t s h
  cause_profile rest S t s (profiled p is h) = rest p t s h
