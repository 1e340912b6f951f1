-- One step of reading after another.
use Rattle.std.proofs.Common.{◌≡◌, Result, refl, sym, subst}
use Rattle.tl_show.specs.Reading.{Read, refuses, ◌>>=◌}
use Rattle.tl_show.specs.inner.FormTells.{IsHere, Tells, TellsFault}
use Rattle.tl_show.specs.declared.fault.FormCause.{FormCause}
use Rattle.tl_show.specs.declared.fault.FormFault.{FormFault}
use Rattle.tl_show.specs.declared.fault.FormFault.TheVariants.{Form, Memory}

-- a fault here
pub tells_here : (A : Type 0) (cause : FormCause) (fault : FormFault) → IsHere cause fault → TellsFault (refuses {A = A} cause) fault
tells_here A cause (Form path c) here = rw (here.0, here.1) refl
tells_here A cause Memory here = absurd here

-- the same of what is read
pub tells_same : {A X : Type 0} (see : X → A) (r s : Read A) (res : Result X FormFault) → s ≡ r → Tells see r res → Tells see s res
tells_same see r s res same tells = let P : Read _ → Type 0 = λ x. Tells see x res in subst P (sym same) tells

pub fault_same : {A : Type 0} (r s : Read A) (fault : FormFault) → s ≡ r → TellsFault r fault → TellsFault s fault
fault_same r s fault same tells = let P : Read _ → Type 0 = λ x. TellsFault x fault in subst P (sym same) tells

-- nothing is read after a fault
pub tells_first : {A B : Type 0} (r : Read A) (g : A → Read B) (fault : FormFault) → TellsFault r fault → TellsFault (r >>= g) fault
tells_first r g (Form path cause) first = rw first refl
tells_first r g Memory first = tt
