use Rattle.std.proofs.lemmas.Result.{err_from_is_err_and}
use Rattle.tl_decode.proofs.SourceItems.{is_cut, is_fault, is_item}
use Rattle.tl_decode.proofs.items.item_of.Goals as goal

pub returns-in_err-item-clause-read : goal.returns-in_err-item-clause-read
returns-in_err-item-clause-read g c =
    let p = err_from_is_err_and c.from_residual.result c.from_residual.ensures.1 in
    rw (p.1, p.2) (is_fault c.args.wanted _ _ c.args.at.now c.item_or_end.new.at c.item_or_end.new.at _ c.in_err-item.ensures.read)

pub returns-in-Some-clause-read : goal.returns-in-Some-clause-read
returns-in-Some-clause-read g c = is_item c.args.wanted _ _ c.args.at.now c.item_or_end.new.at c.in-Some.item (rw c.in-Some.is at c.in_ok-item.ensures.read)

pub returns-in-None-clause-read : goal.returns-in-None-clause-read
returns-in-None-clause-read g c = is_cut c.args.wanted _ _ c.args.at.now c.item_or_end.new.at c.item_or_end.new.at c.requires (rw c.in-None.is at c.in_ok-item.ensures.read)
