use Rattle.std.proofs.Common.{rules, Bool, List, ℕ, ◌+◌, refl, sym, ◌∙◌, ap, drop, get_or}
use Rattle.std.proofs.lemmas.List.{at_drop_more, at_drop_all}
use Rattle.tl_numbers.specs.Crc.{lowest_bits, text_bits}
use Rattle.tl_numbers.proofs.Division.{crc_is}
use Rattle.tl_numbers.proofs.Register.{run, run_on}
use Rattle.tl_numbers.proofs.Remainders.{remainders, byte_taken}
use Rattle.tl_numbers.proofs.crc.crc32.Goals as goal

pub loop-byte-init : goal.loop-byte-init
unfolding lowest_bits
loop-byte-init c = refl

pub loop-byte-preserved : goal.loop-byte-preserved
unfolding remainders
loop-byte-preserved c =
    let text = c.args.text.now in
    let i = c.loop-byte.byte-index in
    let rest = text_bits (drop (i + 1) text) in
    let b = get_or text i 0 in
    ap (λ (x : List Bool). run x rest) (byte_taken c.loop-byte.register c.from.result (search rules) ∙ ap (λ (x : ℕ). run (lowest_bits 32 c.loop-byte.register) (lowest_bits 8 x)) c.from.ensures)
    ∙ sym (run_on (lowest_bits 32 c.loop-byte.register) (lowest_bits 8 b) rest)
    ∙ sym (ap (run (lowest_bits 32 c.loop-byte.register)) (at_drop_more text_bits text i 0 c.loop-byte-test.true))
    ∙ c.loop-byte.invariant

pub returns : goal.returns
unfolding run
returns c =
    crc_is c.args.text.now c.loop-byte.register (search rules)
    (sym (at_drop_all (λ (xs : List ℕ). run (lowest_bits 32 c.loop-byte.register) (text_bits xs)) c.args.text.now c.loop-byte.byte-index c.loop-byte-test.false) ∙ c.loop-byte.invariant)
