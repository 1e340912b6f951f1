use Rattle.std.proofs.Common.{refl, ap, []}
use Rattle.box_events.specs.BoxViews.{BoxView}
use Rattle.box_server.specs.declared.server.Server.TheInside.{Inside}
use Rattle.box_server.proofs.NewServers.{view_new, server_new}
use Rattle.box_server.proofs.server.Server.new.Goals as goal

abbrev none : BoxView
none = record { first = 0; events = []; spare = 0 }

pub invariant_of-result : goal.invariant_of-result
invariant_of-result c =
    let s : Inside = record { date = 0; common = c.new.result; secret = c.new-2.result; channels = c.new-3.result; settings = c.new-4.result; receipts = c.new-5.result } in
    server_new s (view_new s none refl c.new.ensures c.new-2.ensures refl c.new-3.ensures.items c.new-4.ensures c.new-5.ensures.empty) (ap (λ (b : BoxView). b.first) c.new.ensures) (ap (λ (b : BoxView). b.first) c.new-2.ensures) c.new-5.ensures.ordered

pub returns : goal.returns
returns c =
    let s : Inside = record { date = 0; common = c.new.result; secret = c.new-2.result; channels = c.new-3.result; settings = c.new-4.result; receipts = c.new-5.result } in
    view_new s none refl c.new.ensures c.new-2.ensures refl c.new-3.ensures.items c.new-4.ensures c.new-5.ensures.empty
