use Rattle.std.proofs.Common.{refl}
use Rattle.tl_types.proofs.Views.{view-Int, view-Long, view-Nat, view-Text}
use Rattle.tl_types.specs.inner.Plain.{of_int, of_long, of_nat, of_raw, of_str}
use Rattle.tl_types.proofs.nodes.is_plain.Goals as goal

pub returns-in-Int-Int : goal.returns-in-Int-Int
returns-in-Int-Int c = λ told. rw (c.in-Int-Int.is-0, c.in-Int-Int.is-1, view-Int c.in-Int-Int.field-0-1 c.in-Int-Int.field-0-1 refl) (of_int c.in-Int-Int.field-0-1)

pub returns-in-Long-Long : goal.returns-in-Long-Long
returns-in-Long-Long c = λ told. rw (c.in-Long-Long.is-0, c.in-Long-Long.is-1, view-Long c.in-Long-Long.field-0-1 c.in-Long-Long.field-0-1 refl) (of_long c.in-Long-Long.field-0-1)

pub returns-in-Nat-Nat : goal.returns-in-Nat-Nat
returns-in-Nat-Nat c = λ told. rw (c.in-Nat-Nat.is-0, c.in-Nat-Nat.is-1, view-Nat c.in-Nat-Nat.field-0-1 c.in-Nat-Nat.field-0-1 refl) (of_nat c.in-Nat-Nat.field-0-1)

pub returns-in-Str-Text : goal.returns-in-Str-Text
returns-in-Str-Text c = λ told. rw (c.in-Str-Text.is-0, c.in-Str-Text.is-1, view-Text c.in-Str-Text.field-0-1) (of_str _)

pub returns-in-Raw-Text : goal.returns-in-Raw-Text
returns-in-Raw-Text c = λ told. rw (c.in-Raw-Text.is-0, c.in-Raw-Text.is-1, view-Text c.in-Raw-Text.field-0-1) (of_raw _)
