use Rattle.std.proofs.Common.{Err, List, Ok, drop, subst, sym, ℕ}
use Rattle.tl_base.specs.MemoryLaws.{rest_bytes}
use Rattle.tl_schema.specs.Seen.{shape}
use Rattle.tl_decode.specs.Wholes.{ReadsWhole, whole_fault}
use Rattle.tl_decode.specs.declared.whole.WholeFault.{WholeFault}
use Rattle.tl_decode.specs.declared.whole.WholeFault.TheVariants.{Trailing}
use Rattle.tl_decode.proofs.WholeValues.{all_left, ends, fails, goes_on}
use Rattle.tl_decode.proofs.whole_bytes.decode_bytes_as.Goals as goal

pub returns-in-Err-clause-whole : goal.returns-in-Err-clause-whole
returns-in-Err-clause-whole c =
    let source = c.new-from.result in
    subst (λ (f : WholeFault). ReadsWhole c.args.schema.now (shape c.args.of.now) c.args.bytes.now (Err f)) (sym c.bytes_fault.ensures)
    (subst (λ (b : List ℕ). ReadsWhole c.args.schema.now (shape c.args.of.now) b (Err (whole_fault c.in-Err.fault))) (all_left source.at source.bytes.now c.args.bytes.now c.new-from.ensures.at c.new-from.ensures.bytes)
    (fails c.args.schema.now c.in-Err.ensures.sound (shape c.args.of.now) c.requires.formed (drop source.at source.bytes.now) (rest_bytes source.at source.bytes.now source.fits)
    (drop c.decode_walk.new.from.at c.decode_walk.new.from.bytes.now) c.decode_walk.new.at c.in-Err.fault c.in-Err.ensures.spelled c.in-Err.ensures.refused))

pub returns-then-not-is_empty-clause-whole : goal.returns-then-not-is_empty-clause-whole
returns-then-not-is_empty-clause-whole c =
    let source = c.new-from.result in
    let left = drop c.decode_walk.new.from.at c.decode_walk.new.from.bytes.now in
    subst (λ (b : List ℕ). ReadsWhole c.args.schema.now (shape c.args.of.now) b (Err (Trailing c.decode_walk.new.at))) (all_left source.at source.bytes.now c.args.bytes.now c.new-from.ensures.at c.new-from.ensures.bytes)
    (goes_on c.args.schema.now c.in-Ok.ensures.sound (shape c.args.of.now) c.requires.formed (drop source.at source.bytes.now) (rest_bytes source.at source.bytes.now source.fits)
    left c.decode_walk.new.at c.in-Ok.value c.in-Ok.ensures.spelled c.in-Ok.ensures.refused c.if-not-is_empty.ensures)

pub returns-clause-whole : goal.returns-clause-whole
returns-clause-whole c =
    let source = c.new-from.result in
    let left = drop c.decode_walk.new.from.at c.decode_walk.new.from.bytes.now in
    subst (λ (b : List ℕ). ReadsWhole c.args.schema.now (shape c.args.of.now) b (Ok c.in-Ok.value)) (all_left source.at source.bytes.now c.args.bytes.now c.new-from.ensures.at c.new-from.ensures.bytes)
    (ends c.args.schema.now c.in-Ok.ensures.sound (shape c.args.of.now) c.requires.formed (drop source.at source.bytes.now) (rest_bytes source.at source.bytes.now source.fits)
    left c.decode_walk.new.at c.in-Ok.value c.in-Ok.ensures.spelled c.in-Ok.ensures.refused c.if-not-is_empty.ensures)
