use Rattle.tl_decode.proofs.items.item_in.Goals as goal

pub returns-in-Ok : goal.returns-in-Ok
returns-in-Ok c = c.in-Ok.ensures

pub returns-in-Err : goal.returns-in-Err
returns-in-Err c = (c.in-Err.stop, c.stopped.ensures, c.in-Err.ensures)
