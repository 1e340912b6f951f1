use Rattle.std.proofs.Common.{◌≡◌, drop}
use Rattle.tl_types.specs.inner.Reading.{first_from, is_member}
use Rattle.tl_decode.proofs.members.of_no_type.Given as goal

abbrev pub invariant-loop-i : goal.invariant-loop-i
invariant-loop-i l = first_from (is_member l.head l.number) l.i (drop l.i l.schema.decls) ≡ first_from (is_member l.head l.number) 0 l.schema.decls
