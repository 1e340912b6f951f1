use Rattle.std.proofs.Common.{◌≡◌, to_z, of_z, w64, rules, refl, false}
use Rattle.pts_machine.specs.Steps.{loaded}
use Rattle.box_events.specs.Events.{count_of}
use Rattle.channel_box.specs.Steps.{channel_of}
use Rattle.box_client.proofs.Loadings.{adds_new, adds_again, adds_too_many}
use Rattle.box_client.proofs.loading.add.Goals as goal

pub returns-in-Ok : goal.returns-in-Ok
returns-in-Ok c =
    let same : to_z w64 (of_z w64 c.args.saved.id) ≡ c.args.saved.id = (search rules) in
    adds_new c.args.channels.now c.add.new.self (channel_of c.args.saved.id (loaded count_of c.args.saved.lane.restart c.args.saved.lane.events) c.args.saved.recent) _
    (λ i. record { id = same i; lane = c.load_lane-lane.ensures i; flag = false; recent = c.args.saved.recent }) c.in-Ok.ensures.step

pub returns-in-Err-Already : goal.returns-in-Err-Already
returns-in-Err-Already c =
    let same : to_z w64 (of_z w64 c.args.saved.id) ≡ c.args.saved.id = (search rules) in
    adds_again c.args.channels.now c.add.new.self _ c.add.result c.in-Err-Already.field-0 c.args.saved.id _ c.ids.result.now c.add.ensures.step c.in-Err-Already.is c.in-Err-Already.field-0-is same c.ids.ensures.value refl

pub returns-in-Err-TooMany : goal.returns-in-Err-TooMany
returns-in-Err-TooMany c =
    adds_too_many c.args.channels.now c.add.new.self _ c.add.result c.in-Err-TooMany.field-0 c.args.saved.id _ c.ids.result.now c.add.ensures.step c.in-Err-TooMany.is c.in-Err-TooMany.field-0-is c.ids.ensures.value refl
