use Rattle.std.proofs.Common.{ap, ◌∙◌, arith}
use Rattle.std.specs.Int.{w32, from_le_bytes}
use Rattle.std.proofs.lemmas.List.{take_all}
use Rattle.tl_decode.proofs.HeldBytes.{word_whole}
use Rattle.tl_decode.proofs.held_items.whole_word.Goals as goal

pub returns : goal.returns
returns c = λ p more. word_whole p _ c.args.bytes.now more c.requires (c.word_in.ensures ∙ ap (from_le_bytes w32) (take_all 4 c.args.bytes.now (omega (arith, c.requires))))
