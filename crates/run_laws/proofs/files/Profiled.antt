-- What follows of a schema that is a profile, also where it is cut short.
use Rattle.std.proofs.Common.{◌≡◌, Ok, Err, refl, subst}
use Rattle.tl_base.specs.Contents.{Files}
use Rattle.tl_schema.specs.Schemas.{Declared}
use Rattle.wire_profile.specs.Faults.{FaultView, IsAnswer}
use Rattle.wire_profile.specs.Indexes.{ProfileView}
use Rattle.outside.specs.Answer.{Answer, refused}
use Rattle.outside.specs.declared.status.Status.{Status}
use Rattle.fault_lines.specs.Profiled.{form_line}
use Rattle.fault_lines.specs.Profiled as answer
use Rattle.fault_lines.proofs.Profiled.{one_schema}
use Rattle.outside.specs.Events.{Outside}
use Rattle.outside.specs.Steps.{Step}
use Rattle.update_commands.specs.Profile.{OfProfile, no_profile, profiled}
use Rattle.run_laws.proofs.files.Coming.{Comes, comes_as, comes_print}
use Rattle.run_laws.proofs.files.Ending.{IsPrinted, refused_printed}

same_profile : (S : Declared) (p q : ProfileView) → IsAnswer S (Ok p) → IsAnswer S (Ok q) → p ≡ q
same_profile S p q is at = let one = one_schema S (Ok p) (Ok q) is at in cc

never_both : (S : Declared) (p : ProfileView) (f : FaultView) → IsAnswer S (Ok p) → IsAnswer S (Err f) → ⊥
never_both S p f is lacks = let one = one_schema S (Ok p) (Err f) is lacks in cc

pub profile_printed : (Tells : ProfileView → Answer → Type 0) → ((p : ProfileView) (a : Answer) → Tells p a → IsPrinted a) → (S : Declared) (a : Answer) → answer.OfProfile Tells S a → IsPrinted a
profile_printed Tells each S a (answer.no_profile f lacks is) = refused_printed (form_line f) a is
profile_printed Tells each S a (answer.profiled p is tells) = each p a tells

module _ (Rest : ProfileView → Step Status) (Tells : ProfileView → Files → Answer → Type 0) (C K : Type 0) (S : Declared) (came : (p : ProfileView) → IsAnswer S (Ok p) → C → K)
    (each : (p : ProfileView) → Comes (λ s. Tells p s.view.files) (λ s. C) (Rest p)) where
  abbrev Is : Outside → Answer → Type 0
  Is s a = answer.OfProfile (λ p. Tells p s.view.files) S a

  profile_tells : (p : ProfileView) (s : Outside) (a : Answer) → IsAnswer S (Ok p) → Is s a → Tells p s.view.files a
  profile_tells p s a is (answer.no_profile f lacks at) = absurd (never_both S p f is lacks)
  profile_tells p s a is (answer.profiled q also tells) = subst (λ (x : ProfileView). Tells x s.view.files a) (same_profile S q p also is) tells

  pub comes_profile : Comes Is (λ s. K) (OfProfile Rest S)
  comes_profile t u status s n (no_profile f lacks h) g = comes_print (Is s) K s (refused (form_line f)) t u status (answer.no_profile f lacks refl) h
  comes_profile t u status s n (profiled p is h) g =
      comes_as (Tells p s.view.files) (Is s) C K s s (λ a tells. answer.profiled p is tells) (λ a tells. profile_tells p s a is tells) (came p is) (λ r. r) t u status (each p t u status s n h g)
