use Rattle.std.proofs.Common.{arith}
use Rattle.session_rooms.proofs.Posting.{is_short, text_called, text_refused}
use Rattle.session_rooms.proofs.post.post_json.Goals as goal

pub send_call-requires : goal.send_call-requires
send_call-requires g c = record { sound = c.requires.sound; short = is_short c.args.profile.now c.args.text.now c.in-Ok.call c.in-Ok.ensures }

pub returns-in-Ok : goal.returns-in-Ok
returns-in-Ok g c = text_called c.args.profile.now c.args.address.now c.args.text.now c.in-Ok.call _ _ _ c.in-Ok.ensures c.send_call.ensures

pub returns-in-Err : goal.returns-in-Err
returns-in-Err g c = text_refused c.args.profile.now c.args.address.now c.args.text.now c.in-Err.fault _ _ _ c.requires.sound (λ k. omega (arith, c.type_inv.text k)) c.in-Err.ensures c.print_made.ensures
