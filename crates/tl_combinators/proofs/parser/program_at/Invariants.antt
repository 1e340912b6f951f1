use Rattle.std.proofs.Common.{◌≡◌, ◌≤◌, ◌-◌, length, drop, [], map, false}
use Rattle.std.specs.Vec.{vec_len}
use Rattle.tl_lexer.proofs.Turns.{Came}
use Rattle.tl_program.specs.Program.{decl_text}
use Rattle.tl_combinators.specs.Sentences.{item, program_so_far}
use Rattle.tl_combinators.proofs.parser.program_at.Given as goal

abbrev pub invariant-loop-at : goal.invariant-loop-at
invariant-loop-at l = record {
  inside : l.at ≤ length l.tokens;
  few : vec_len l.decls ≤ 16384;
  came : Came (λ ts. ts ≡ [] → ⊥) (item l.text) (program_so_far [] false) l.tokens (program_so_far (map decl_text l.decls.items) l.function) (drop l.at l.tokens);
}

abbrev pub decreases-loop-at : goal.decreases-loop-at
decreases-loop-at l = length l.tokens - l.at
