-- What follows of a schema that is a profile, and that it can go on to its end.
use Rattle.std.proofs.Common.{List, ℕ, [], Option, Result, Ok, Err, subst}
use Rattle.tl_base.specs.declared.host.Out.{Out}
use Rattle.tl_schema.specs.CheckedPrograms.{IsSchema}
use Rattle.tl_schema.specs.Schemas.{Declared}
use Rattle.wire_profile.specs.Faults.{FaultView, IsAnswer}
use Rattle.wire_profile.specs.Indexes.{ProfileView}
use Rattle.wire_profile.specs.Profiles.{IsProfile}
use Rattle.outside.specs.Answer.{refused}
use Rattle.outside.specs.Jobs.{of_fault}
use Rattle.outside.specs.Loading.{Refuses}
use Rattle.outside.specs.declared.status.Status.{Status}
use Rattle.outside.specs.declared.stop.LoadError.{LoadError}
use Rattle.fault_lines.specs.Profiled.{TellsProfile, form_line}
use Rattle.fault_lines.proofs.Profiled.{are_profiles, each_schema}
use Rattle.outside.specs.Events.{HostState}
use Rattle.outside.specs.Printing.{Prints, PrintsMade}
use Rattle.outside.specs.Begun.{DidIn}
use Rattle.outside.specs.Steps.{Step, Begins}
use Rattle.outside.proofs.Printed.{can_print}
use Rattle.codec_rooms.proofs.Typing.{begun_as, did_as, refusal_done}
use Rattle.update_commands.specs.Profile.{OfProfile, no_profile, profiled}

module _ (Rest : ProfileView → Step Status) (S : Declared) where
  module _ (good : IsSchema S) (can : (p : ProfileView) → IsProfile p → Begins (Rest p) []) where
    can_told : (told : Result ProfileView FaultView) → IsAnswer S told → Begins (OfProfile Rest S) []
    can_told (Ok p) is = begun_as (Rest p) (OfProfile Rest S) (λ t status h. profiled p is h) (can p (are_profiles S p good is).0)
    can_told (Err fault) is = begun_as (Prints (refused (form_line fault))) (OfProfile Rest S) (λ t status h. no_profile fault is h) (can_print (refused (form_line fault)))

    pub can_profile : Begins (OfProfile Rest S) []
    can_profile = let told = each_schema S good in can_told told.0 told.1

    pub profile_refused : {outs : List Out} (u : LoadError) (p q : HostState) (answer : Option Status) → Refuses (TellsProfile S) u → PrintsMade (of_fault u) p q answer → DidIn outs (OfProfile Rest S) p q answer
    profile_refused u p q answer = refusal_done (OfProfile Rest S) (TellsProfile S) u p q answer can_profile
        (λ line (fault, lacks, is) t status h. no_profile fault lacks (subst (λ (l : List ℕ). Prints (refused l) t status) is h))

  pub profile_made : {outs : List Out} (p : ProfileView) (a b : HostState) (answer : Option Status) → IsAnswer S (Ok p) → DidIn outs (Rest p) a b answer → DidIn outs (OfProfile Rest S) a b answer
  profile_made p a b answer is = did_as (Rest p) (OfProfile Rest S) a b answer (λ t status h. profiled p is h)
