use Rattle.std.proofs.Common.{◌≡◌, ◌≤◌, ◌-◌, length, drop, []}
use Rattle.tl_lexer.proofs.Turns.{Came}
use Rattle.tl_lexer.specs.Tokens.{more}
use Rattle.tl_lexer.proofs.lexer.pieces_of.Given as goal

abbrev pub invariant-loop-at : goal.invariant-loop-at
invariant-loop-at l = record {
  inside : l.at ≤ length l.text;
  came : Came (λ bs. bs ≡ [] → ⊥) (more (length l.text)) [] l.text l.tokens.items (drop l.at l.text);
}

abbrev pub decreases-loop-at : goal.decreases-loop-at
decreases-loop-at l = length l.text - l.at
