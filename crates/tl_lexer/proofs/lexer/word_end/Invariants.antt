use Rattle.std.proofs.Common.{◌≤◌, ◌-◌, length, drop}
use Rattle.tl_lexer.specs.Rule.{Next}
use Rattle.tl_lexer.proofs.Turns.{Came}
use Rattle.tl_lexer.specs.Tokens.{one_byte, Is, is_word}
use Rattle.tl_lexer.proofs.lexer.word_end.Given as goal

abbrev pub invariant-loop-at : goal.invariant-loop-at
invariant-loop-at l = record {
  far : l.from ≤ l.at;
  inside : l.at ≤ length l.text;
  came : Came (Next (Is is_word)) (one_byte (length l.text)) tt (drop l.from l.text) tt (drop l.at l.text);
}

abbrev pub decreases-loop-at : goal.decreases-loop-at
decreases-loop-at l = length l.text - l.at
