use Rattle.std.proofs.Common.{◌≡◌, ◌+◌, ◌-◌, length, take, drop, ap, arith}
use Rattle.std.proofs.lemmas.Result.{err_from_is_err_and}
use Rattle.tl_types.specs.Offsets.{moved}
use Rattle.tl_decode.specs.declared.stack.Found.TheVariants as found
use Rattle.tl_decode.specs.inner.Frames.{found_work, views}
use Rattle.tl_decode.specs.inner.Needs.{reads_on}
use Rattle.tl_decode.proofs.PieceSteps.{piece_done, piece_goes, word_error, word_taken, words_fail}
use Rattle.tl_decode.proofs.PieceWork.{falls}
use Rattle.tl_decode.proofs.feeding.take_words.Goals as goal

pub words-init : goal.words-init
words-init c =
    let taken = c.in_ok-used.ensures.takes in
    let less = c.in_ok-used.ensures.less in
    record { so_far = record { within = taken.0; order = taken.1.0; reads = taken.1.1 }; work = less.0; less = less.1 }

pub returns-in_err-value-clause-takes : goal.returns-in_err-value-clause-takes
returns-in_err-value-clause-takes c =
    let p = c.args.plan.now in
    let now = c.words.reading in
    let next = c.args.next.now in
    let x = rw c.deref.ensures.value at c.in-Some.ensures in
    let is : c.saturating_add.result ≡ moved c.words.at (length now.held.items + 4) = omega (arith, c.saturating_add.ensures, ap length x.1.0) in
    let q = err_from_is_err_and c.from_residual-in_err-value.result c.from_residual-in_err-value.ensures.1 in
    let t = word_error p now c.words.at c.saturating_add.result (take (length next - c.words.used) (drop c.words.used next)) c.after_value.new.frames x.0 c.in-Some.value x.1 (x.2 p) is _ c.in_err-value.ensures in
    rw (q.1, q.2) (words_fail p (reads_on p c.args.reading.now c.args.at.now) next c.words.used c.words.at now c.words.invariant.so_far (record now { frames = c.after_value.new.frames }) c.saturating_add.result 0 _ (found_work p (views p now.frames.items) (found.Wants now.wanted)) t)

pub returns-in-Done-clause-takes : goal.returns-in-Done-clause-takes
returns-in-Done-clause-takes c =
    let p = c.args.plan.now in
    let now = c.words.reading in
    let next = c.args.next.now in
    let x = rw c.deref.ensures.value at c.in-Some.ensures in
    let is : c.saturating_add.result ≡ moved c.words.at (length now.held.items + 4) = omega (arith, c.saturating_add.ensures, ap length x.1.0) in
    let g = c.in_ok-value.field-0 in
    let t = word_taken p now c.words.at c.saturating_add.result (take (length next - c.words.used) (drop c.words.used next)) c.after_value.new.frames x.0 c.in-Some.value x.1 (x.2 p) is g c.in_ok-value.ensures in
    piece_done p (reads_on p c.args.reading.now c.args.at.now) next c.words.used c.words.at now c.words.invariant.so_far (record now { frames = c.after_value.new.frames }) c.saturating_add.result g 4 t c.in-Done.value c.in-Done.is

pub words-smaller : goal.words-smaller
words-smaller c =
    let p = c.args.plan.now in
    let now = c.words.reading in
    let next = c.args.next.now in
    let x = rw c.deref.ensures.value at c.in-Some.ensures in
    let is : c.saturating_add.result ≡ moved c.words.at (length now.held.items + 4) = omega (arith, c.saturating_add.ensures, ap length x.1.0) in
    let g = c.in_ok-value.field-0 in
    let t = word_taken p now c.words.at c.saturating_add.result (take (length next - c.words.used) (drop c.words.used next)) c.after_value.new.frames x.0 c.in-Some.value x.1 (x.2 p) is g c.in_ok-value.ensures in
    (rw c.in-Wants.is at t).4

pub words-preserved : goal.words-preserved
words-preserved c =
    let p = c.args.plan.now in
    let i = c.words in
    let now = c.words.reading in
    let next = c.args.next.now in
    let x = rw c.deref.ensures.value at c.in-Some.ensures in
    let is : c.saturating_add.result ≡ moved c.words.at (length now.held.items + 4) = omega (arith, c.saturating_add.ensures, ap length x.1.0) in
    let g = c.in_ok-value.field-0 in
    let t = word_taken p now c.words.at c.saturating_add.result (take (length next - c.words.used) (drop c.words.used next)) c.after_value.new.frames x.0 c.in-Some.value x.1 (x.2 p) is g c.in_ok-value.ensures in
    let both = piece_goes p (reads_on p c.args.reading.now c.args.at.now) next c.words.used c.words.at now c.words.invariant.so_far (record now { frames = c.after_value.new.frames }) c.saturating_add.result g 4 t c.in-Wants.wanted c.in-Wants.is (omega (arith, now.held.ok.0)) in
    let fell = falls _ _ _ both.1 i.invariant.work in
    record { so_far = both.0; work = omega (arith, fell); less = λ some. fell }
