-- A field's type, where there is nothing to put in place of variables.
use Rattle.std.proofs.Common.{◌≡◌, ℕ, List, [], Option, Result, refl, true}
use Rattle.tl_schema.specs.Types.{Shape}
use Rattle.tl_schema.specs.Schemas.{Slot}
use Rattle.tl_types.specs.Conditions.{stands_by}
use Rattle.tl_types.specs.Values.{ValueView}
use Rattle.tl_types.specs.Seen.{view}
use Rattle.tl_types.specs.inner.Reading.{Reader, at_field}
use Rattle.tl_types.specs.declared.value.Value.{Value}
use Rattle.tl_types.proofs.Closings.{closed_none}
use Rattle.tl_decode.specs.declared.fault.DecodeFault.{DecodeFault}
use Rattle.tl_decode.specs.inner.Steps.{ReadsAs}
use Rattle.tl_decode.proofs.Steps.{as_read}

pub field_as_it_is : (a b : Option (List ℕ)) (p q : ℕ) (res : Result Value DecodeFault) (f : Shape → Reader) (args : List Shape) (before : List ValueView) (k : Slot) → args ≡ [] → stands_by k.cond before ≡ true → ReadsAs view a b p q res (f k.of) → ReadsAs view a b p q res (at_field f args before k)
field_as_it_is a b p q res f args before k none there h = as_read view a b p q res (f k.of) (at_field f args before k) h (λ s. rw (there, none, closed_none k.of) refl)
