-- What a handle owns says the same to every thread.
use mir.Raw.{raw}
use base.Fraction.{full_share}
use base.Shift.{Keyless}
use denote.Memory.{lone}
use denote.Param.Send.{IsSend, part_keyless, sendable}
use denote.RawPtr.{Ptr, block_ptr, null_ptr}
use Rattle.libc.specs.Heap.{chunk-Keyless}
use Rattle.std.specs.Prelude.{Option}
use Rattle.std.specs.declared.option.Option.TheVariants.{None, Some}
use Rattle.std.proofs.Crossing.{crosses}
use Rattle.tl_schema.proofs.schema.TypeRef.TheLaws.TheKnot.{send-TypeRef}
use Rattle.tlbox_c.specs.Owning.{owns}
use Rattle.tlbox_c.specs.declared.held.Held.{Held}
use Rattle.tlbox_c.specs.contracts.held.Held.{the_row as R}

-- `TypeRef` is the one type in it that reaches itself, so it has a proof of its own, which is named here
held_send : IsSend R
held_send = search (sendable, crosses, send-TypeRef) depth 40 fits 20000

pub owns_keyless : (p : Ptr) (h : Option Held) → Keyless (owns p h)
owns_keyless p None = tt
owns_keyless null_ptr (Some x) = (tt, chunk-Keyless (raw (lone R.mir)) null_ptr)
owns_keyless (block_ptr b o) (Some x) = (part_keyless R held_send full_share x b o, chunk-Keyless (raw (lone R.mir)) (block_ptr b o))
