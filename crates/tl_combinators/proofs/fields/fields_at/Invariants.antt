use Rattle.std.proofs.Common.{◌≡◌, ◌≤◌, ◌+◌, ◌-◌, List, length, drop, map}
use Rattle.std.specs.Vec.{vec_len}
use Rattle.tl_program.specs.Program.{field_text}
use Rattle.tl_combinators.specs.Description.{Piece}
use Rattle.tl_combinators.specs.DescriptionSoFar.{so_far}
use Rattle.tl_combinators.proofs.EqualDescriptions.{CameDescribed}
use Rattle.tl_combinators.proofs.fields.fields_at.Given as goal

abbrev pub invariant-loop-alloc : goal.invariant-loop-alloc
invariant-loop-alloc l = record {
  far : l.fn.at ≤ l.at;
  inside : l.at ≤ length l.tokens;
  few : l.vars + vec_len l.fields ≤ 256;
  came : (ps : List Piece) → l.fn.described ≡ so_far ps → CameDescribed l.text l.function l.vars ps (drop l.fn.at l.tokens) (map field_text l.fields.items) l.described (drop l.at l.tokens);
}

abbrev pub decreases-loop-alloc : goal.decreases-loop-alloc
decreases-loop-alloc l = length l.tokens - l.at
