use Rattle.serve_rooms.proofs.Opening.{opened_served, unopened_told}
use Rattle.serve_rooms.proofs.keep.open_and_serve.Goals as goal

pub returns-in-Err : goal.returns-in-Err
returns-in-Err g c =
    let o = c.open.ensures in
    unopened_told c.args.address.now c.args.sessions c.args.profile.now _ g.K.Keeper.state (g.K.Keeper.state c.args.keeper) c.open.result _ (record { opens = o.opens; entries = o.entries; used = o.used }) c.in-Err.unopened.keeper c.in-Err.unopened.fault _ _ c.in-Err.is c.tell_unopened-end.ensures

pub returns : goal.returns
returns g c =
    let o = c.open.ensures in
    rw c.into_keeper.ensures.keeper
    (opened_served c.args.address.now c.args.sessions c.args.profile.now _ g.K.Keeper.state (g.K.Keeper.state c.args.keeper) c.open.result _ (record { opens = o.opens; entries = o.entries; used = o.used }) c.in-Ok.store _ _ c.in-Ok.is c.serve_all-end.ensures)
