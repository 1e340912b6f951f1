use Rattle.std.proofs.Common.{[], refl}
use Rattle.tl_show.proofs.Putting.{leads_end, leads_more, leads_none}
use Rattle.codec_rooms.specs.inner.Output.{Puts, puts_both, puts_none, waiting}
use Rattle.codec_rooms.proofs.OutputLines.{two_parts}
use Rattle.codec_rooms.proofs.output.OutputLineTextSink.put.Goals as goal

pub loop-rest-init : goal.loop-rest-init
loop-rest-init g c =
    let s = c.args.self.now in
    leads_none Puts puts_none (waiting (g.H.Host.state s.host.now) s.piece.now.bytes.items s.failed s.host.ghost_name) c.args.bytes.now

pub loop-rest-preserved : goal.loop-rest-preserved
loop-rest-preserved g c =
    let state = g.H.Host.state in
    let s = c.args.self.now in
    let t = c.loop-rest.self in
    let u = c.hold.new.self in
    let v = c.flush.new.self in
    let start = waiting (state s.host.now) s.piece.now.bytes.items s.failed s.host.ghost_name in
    let now = waiting (state t.host.now) t.piece.now.bytes.items t.failed t.host.ghost_name in
    let held = waiting (state u.host.now) u.piece.now.bytes.items u.failed u.host.ghost_name in
    let next = waiting (state v.host.now) v.piece.now.bytes.items v.failed v.host.ghost_name in
    let rest = c.loop-rest.rest.now in
    let first = c.split_at.result.0.now in
    let more = c.split_at.result.1.now in
    leads_more Puts puts_both start held next [] more more c.args.bytes.now
    (leads_more Puts puts_both start now held first rest more c.args.bytes.now c.loop-rest.invariant c.hold.ensures (two_parts rest first more _ c.split_at.ensures.front c.split_at.ensures.back))
    c.flush.ensures.puts refl

pub returns : goal.returns
returns g c =
    let state = g.H.Host.state in
    let s = c.args.self.now in
    let t = c.loop-rest.self in
    let u = c.hold-2.new.self in
    leads_end Puts puts_both (waiting (state s.host.now) s.piece.now.bytes.items s.failed s.host.ghost_name) (waiting (state t.host.now) t.piece.now.bytes.items t.failed t.host.ghost_name)
    (waiting (state u.host.now) u.piece.now.bytes.items u.failed u.host.ghost_name) c.loop-rest.rest.now c.args.bytes.now c.loop-rest.invariant c.hold-2.ensures
