use Rattle.std.proofs.Common.{◌+◌, refl, arith}
use Rattle.tl_decode.specs.inner.Needs.{reads_on}
use Rattle.tl_decode.proofs.PieceSteps.{piece_done, piece_goes, words_done, words_go}
use Rattle.tl_decode.proofs.PieceWork.{falls}
use Rattle.tl_decode.proofs.feeding.take_piece.Goals as goal

pub items-init : goal.items-init
items-init c = record { so_far = record { within = omega arith; order = c.requires; reads = λ more. refl }; work = omega arith; less = λ some. omega (arith, some) }

pub returns-in-Some-clause-takes : goal.returns-in-Some-clause-takes
returns-in-Some-clause-takes c =
    let i = c.items in
    words_done c.args.plan.now (reads_on c.args.plan.now c.args.reading.now c.args.at.now) c.args.piece.now i.used i.at i.reading i.invariant.so_far c.take_words.new.reading c.take_words.new.at c.in_ok-value.words c.in_ok-value.value c.in-Some.value c.in-Some.is c.in_ok-value.ensures.takes.0 c.in_ok-value.ensures.takes.1

pub returns-in-Done-clause-takes : goal.returns-in-Done-clause-takes
returns-in-Done-clause-takes c =
    let p = c.args.plan.now in
    let i = c.items in
    let old = reads_on p c.args.reading.now c.args.at.now in
    let words = words_go p old c.args.piece.now i.used i.at i.reading i.invariant.so_far c.take_words.new.reading c.take_words.new.at c.in_ok-value.words c.in_ok-value.value c.in-None.is c.in_ok-value.ensures.takes.0 c.in_ok-value.ensures.takes.1 in
    piece_done p old c.args.piece.now (i.used + c.in_ok-value.words) c.take_words.new.at c.take_words.new.reading words c.take_item.new.reading c.take_item.new.at c.in-Some-2.found c.in-Some-2.count (rw c.in-Some-2.is at c.in_ok-take_item.ensures.takes) c.in-Done.value c.in-Done.is

pub items-preserved : goal.items-preserved
items-preserved c =
    let p = c.args.plan.now in
    let i = c.items in
    let old = reads_on p c.args.reading.now c.args.at.now in
    let words = words_go p old c.args.piece.now i.used i.at i.reading i.invariant.so_far c.take_words.new.reading c.take_words.new.at c.in_ok-value.words c.in_ok-value.value c.in-None.is c.in_ok-value.ensures.takes.0 c.in_ok-value.ensures.takes.1 in
    let both = piece_goes p old c.args.piece.now (i.used + c.in_ok-value.words) c.take_words.new.at c.take_words.new.reading words c.take_item.new.reading c.take_item.new.at c.in-Some-2.found c.in-Some-2.count (rw c.in-Some-2.is at c.in_ok-take_item.ensures.takes) c.in-Wants.wanted c.in-Wants.is
    (omega (arith, c.take_words.new.reading.held.ok.0)) in
    let less = (rw c.in-None.is at c.in_ok-value.ensures.less).0 in
    let mid = falls _ _ _ both.1 less in
    let fell = falls _ _ _ mid i.invariant.work in
    record { so_far = both.0; work = omega (arith, fell); less = λ some. fell }
