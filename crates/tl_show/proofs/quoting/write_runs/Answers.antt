use Rattle.std.proofs.Common.{get_or}
use Rattle.json.specs.Print.{escape, escape_byte}
use Rattle.tl_show.proofs.Escapes.{byte_put, run_last, run_put}
use Rattle.tl_show.proofs.Putting.{leads_end, leads_more, leads_none, same_put}
use Rattle.tl_show.proofs.quoting.write_runs.Goals as goal

pub loop-after-init : goal.loop-after-init
loop-after-init g c = leads_none g.S.TextSink.puts g.met.S.TextSink.puts_none c.args.out.now (escape c.args.text.now)

pub loop-after-preserved : goal.loop-after-preserved
loop-after-preserved g c =
    let puts = g.S.TextSink.puts in
    let both = g.met.S.TextSink.puts_both in
    let run = c.split_at.result.0.now in
    let after = c.split_at.result.1.now in
    let whole = escape c.args.text.now in
    let split = run_put c.loop-after.rest.now run after c.run_len.result c.run_len.ensures.within c.run_len.ensures.plain c.split_at.ensures.front c.split_at.ensures.back in
    leads_more puts both c.args.out.now c.put.new.self c.write_byte.new.out (escape_byte (get_or after 0 0)) (escape after) _ whole
    (leads_more puts both c.args.out.now c.loop-after.out c.put.new.self run (escape c.loop-after.rest.now) (escape after) whole c.loop-after.invariant c.put.ensures split)
    c.write_byte.ensures (byte_put after c.in-len1-up.len_at_least)

pub returns-in_default : goal.returns-in_default
returns-in_default g c =
    let puts = g.S.TextSink.puts in
    let rest = c.loop-after.rest.now in
    let run = c.split_at.result.0.now in
    let is = run_last rest run c.split_at.result.1.now c.run_len.result c.run_len.ensures.within c.run_len.ensures.plain c.split_at.ensures.front c.split_at.ensures.back c.in_default.len_below in
    leads_end puts g.met.S.TextSink.puts_both c.args.out.now c.loop-after.out c.put.new.self (escape rest) (escape c.args.text.now) c.loop-after.invariant
    (same_put puts c.loop-after.out c.put.new.self (escape rest) run is c.put.ensures)
