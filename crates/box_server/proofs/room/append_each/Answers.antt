use Rattle.std.proofs.Common.{arith, ap, sym, ◌∙◌, ◌≡◌, ◌++◌, length, map, List}
use Rattle.std.proofs.lemmas.List.{nil_from_length, length_push, length-set}
use Rattle.box_events.specs.Boxes.{ending}
use Rattle.box_events.specs.Events.{EventView}
use Rattle.box_server.specs.Posting.{cut}
use Rattle.box_server.specs.inner.Insides.{channel_view}
use Rattle.box_server.specs.inner.Rooms.{grown}
use Rattle.box_server.proofs.Roominess.{room_less, ends_less, last_meets, grown_one, grown_none}
use Rattle.box_server.proofs.room.append_each.Goals as goal

pub loop-tail-preserved : goal.loop-tail-preserved
loop-tail-preserved c =
    let i = c.loop-tail.invariant in
    let cs = c.loop-tail.channels.items in
    let all = c.loop-tail.tails.items in
    let ts = c.pop.new.self.items in
    let at : c.len.result ≡ length ts = c.len.ensures ∙ c.pop.new.self.ok.0 in
    let longer = ap length c.in-Some.ensures.items ∙ length_push ts c.in-Some.tail in
    let kept = length-set cs c.len.result c.append.new.self in
    record {
      all = let le = i.all in omega (arith, le, longer, kept);
      room = rw at (room_less cs all ts c.append.new.self c.in-Some.tail c.in-Some.ensures.items i.all i.room);
      ends = rw at (ends_less cs all ts c.append.new.self c.in-Some.tail c.in-Some.ensures.items i.all i.ends);
      goes = grown_one cs c.args.channels.now.items all ts c.args.tails.items c.append.new.self c.index_mut.result.now c.in-Some.tail c.len.result c.in-Some.ensures.items at i.all c.index_mut.ensures.value
          (c.append.ensures ∙ ap (λ (l : List EventView). cut (record (channel_view c.index_mut.result.now) { events = c.index_mut.result.now.events.events ++ l })) c.into_events.ensures.events) i.goes;
    }

pub append-requires : goal.append-requires
append-requires c =
    let i = c.loop-tail.invariant in
    let m = last_meets c.loop-tail.channels.items c.loop-tail.tails.items c.pop.new.self.items c.index_mut.result.now c.in-Some.tail c.len.result c.in-Some.ensures.items (c.len.ensures ∙ c.pop.new.self.ok.0) c.index_mut.ensures.value i.room i.ends in
    let room = m.0 in
    let stop = m.1 in
    record {
      room = omega (arith, room, ap length c.into_events.ensures.events);
      limit = omega (arith, stop, ap ending c.into_events.ensures.events, c.into_events.ensures.most);
    }

pub returns : goal.returns
returns c =
    let none = nil_from_length c.loop-tail.tails.items (sym c.loop-tail.tails.ok.0 ∙ c.in_default.ensures.cases.0) in
    sym (grown_none (map channel_view c.loop-tail.channels.items)) ∙ ap (grown (map channel_view c.loop-tail.channels.items)) (sym none) ∙ c.loop-tail.invariant.goes
