use Rattle.std.proofs.Common.{◌-◌, arith}
use Rattle.tl_decode.proofs.InPlace.{list_adds, record_adds}
use Rattle.tl_decode.proofs.parts.add.Goals as goal

pub returns-else-left-eq0 : goal.returns-else-left-eq0
returns-else-left-eq0 c =
    let x = c.in-List in
    rw x.is (list_adds c.args.plan.now x.item x.left (x.left - 1) x.items c.push.new.self c.args.value c.in_ok-push-in-List.ensures.items (rw x.is at c.requires) (omega (arith, c.if-left-eq0.false)))

pub returns-in-Field : goal.returns-in-Field
returns-in-Field c =
    let x = c.in-Record in
    rw x.is (record_adds c.args.plan.now x.of x.member c.in-Field.next x.fields c.push-in-Record.new.self c.args.value c.in_ok-push-in-Record.ensures.items (rw x.is at c.requires) (rw c.in-Field.is at c.coming.ensures))
