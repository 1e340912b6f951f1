use Rattle.std.proofs.Common.{◌≡◌, ◌+◌, ◌-◌, ◌++◌, List, ℕ, length, arith, rules, ap, ◌∙◌}
use Rattle.std.proofs.lemmas.Result.{err_from_is_err_and}
use Rattle.tl_decode.specs.inner.Needs.{needs}
use Rattle.tl_decode.proofs.SourceItems.{after_fails, after_whole, first_whole, whole_length}
use Rattle.tl_decode.proofs.items.item_after.Goals as goal

pub item_in-requires : goal.item_in-requires
item_in-requires g c =
    let four : length c.args.word ≡ 4 = search rules in
    let least = c.requires.four c.args.word in
    omega (arith, c.need_of-more.ensures, least, four, c.if-more-eq0.true)

pub returns-then-more-eq0-clause-read : goal.returns-then-more-eq0-clause-read
returns-then-more-eq0-clause-read g c = first_whole c.args.wanted c.args.word (search rules) c.args.place _ c.args.at.now c.item_in.result c.requires.at c.item_in.ensures

pub returns-in_err-exact_of-clause-read : goal.returns-in_err-exact_of-clause-read
returns-in_err-exact_of-clause-read g c =
    let p = err_from_is_err_and c.from_residual-in_err-exact_of.result c.from_residual-in_err-exact_of.ensures.1 in
    let four : length c.args.word ≡ 4 = search rules in
    let least = c.requires.four c.args.word in
    let all : 4 + (c.need_of-more.result - 4) ≡ needs c.args.wanted c.args.word = omega (arith, c.need_of-more.ensures, least) in
    rw (p.1, p.2) (after_fails c.args.wanted c.args.word four c.args.place (c.need_of-more.result - 4) all (λ _. c.exact_of.new.out.items) _ _ c.args.at.now c.exact_of.new.at c.exact_of.new.at _ (rw c.in_ok-bytes.ensures.items at c.in_err-exact_of.ensures.read))

pub item_in-requires-2 : goal.item_in-requires-2
item_in-requires-2 g c =
    let four : length c.args.word ≡ 4 = search rules in
    let least = c.requires.four c.args.word in
    let all : 4 + (c.need_of-more.result - 4) ≡ needs c.args.wanted c.args.word = omega (arith, c.need_of-more.ensures, least) in
    let grown = c.in_ok-exact_of.ensures.grows in
    let made : c.exact_of.new.out.items ≡ c.args.word ++ grown.0 = grown.1 ∙ ap (λ (z : List ℕ). z ++ grown.0) c.in_ok-bytes.ensures.items in
    rw c.deref.ensures.value (whole_length c.args.wanted c.args.word grown.0 c.exact_of.new.out.items (c.need_of-more.result - 4) four all made grown.2)

pub returns-clause-read : goal.returns-clause-read
returns-clause-read g c =
    let four : length c.args.word ≡ 4 = search rules in
    let least = c.requires.four c.args.word in
    let all : 4 + (c.need_of-more.result - 4) ≡ needs c.args.wanted c.args.word = omega (arith, c.need_of-more.ensures, least) in
    after_whole c.args.wanted c.args.word four c.args.place (c.need_of-more.result - 4) all c.exact_of.new.out.items _ _ c.args.at.now c.exact_of.new.at c.item_in-2.result c.requires.at (rw c.in_ok-bytes.ensures.items at c.in_ok-exact_of.ensures.read) (rw c.deref.ensures.value at c.item_in-2.ensures)
