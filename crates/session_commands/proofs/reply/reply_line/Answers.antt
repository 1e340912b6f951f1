use Rattle.std.proofs.Common.{rules}
use Rattle.tl_types.specs.Seen.{view}
use Rattle.session_commands.specs.Post.{IsReplyTo}
use Rattle.session_commands.proofs.Replies.{is_reply, none_gives, not_reply, reply_gives, wrong_gives}
use Rattle.session_commands.proofs.reply.reply_line.Goals as goal

pub returns-in-Err : goal.returns-in-Err
returns-in-Err c = none_gives c.args.profile.now c.args.number c.args.frame c.in-Err.fault c.no_frame.result (rw c.as_slice.ensures.value at c.in-Err.ensures.refused) c.no_frame.ensures

pub returns-then-not-is_reply_to : goal.returns-then-not-is_reply_to
returns-then-not-is_reply_to c =
    let reads = c.in-Ok-frame_of_value.ensures c.args.frame (rw c.as_slice.ensures.value at c.in-Ok.ensures.bytes) (rw c.as_slice.ensures.value at c.in-Ok.ensures.value) in
    wrong_gives c.args.profile.now c.args.number c.args.frame c.in-Ok-frame_of_value.read c.wrong_reply.result reads.given
    (not_reply c.is_reply_to.result (IsReplyTo c.args.number c.in-Ok-frame_of_value.read) c.is_reply_to.ensures (search rules)) c.wrong_reply.ensures

pub returns-in-Ok-frame_of_value : goal.returns-in-Ok-frame_of_value
returns-in-Ok-frame_of_value c =
    let spelled = rw c.as_slice.ensures.value at c.in-Ok.ensures.value in
    let reads = c.in-Ok-frame_of_value.ensures c.args.frame (rw c.as_slice.ensures.value at c.in-Ok.ensures.bytes) spelled in
    reply_gives c.args.profile.now c.args.number c.args.frame c.in-Ok-frame_of_value.read (view c.in-Ok.value) c.in-Ok-frame_line.line reads.given
    (is_reply c.is_reply_to.result (IsReplyTo c.args.number c.in-Ok-frame_of_value.read) c.is_reply_to.ensures (search rules)) spelled c.in-Ok-frame_line.ensures

pub returns : goal.returns
returns c =
    let reads = c.in-Err-frame_of_value.ensures c.args.frame (rw c.as_slice.ensures.value at c.in-Ok.ensures.bytes) (rw c.as_slice.ensures.value at c.in-Ok.ensures.value) in
    none_gives c.args.profile.now c.args.number c.args.frame c.in-Err-frame_of_value.fault c.no_frame-in-Err-frame_of_value.result reads c.no_frame-in-Err-frame_of_value.ensures
