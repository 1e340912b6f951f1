use Rattle.std.proofs.Common.{◌∙◌, arith}
use Rattle.tl_types.specs.Seen.{view}
use Rattle.box_wire.proofs.Called.{called}
use Rattle.session_commands.proofs.Calls.{bytes_are, call_sends, long_sends, no_call_sends}
use Rattle.session_commands.proofs.sending.call_of.Goals as goal

pub returns-in_err-number : goal.returns-in_err-number
returns-in_err-number c = λ b s.
    let same = c.from_vec-bytes.ensures ∙ bytes_are c.args.profile.now.schema _ _ (view c.args.value.now) _ _ b c.new-spelling.ensures.items c.schema.ensures.schema called c.in_ok-spell.ensures s in
    no_call_sends c.args.profile.now b c.from_vec-bytes.result c.in_err-number.field-0.0 c.from_residual-in_err-number.result same c.in_err-number.ensures.bytes c.in_err-number.ensures.numbers c.from_residual-in_err-number.ensures.1

pub returns-then-length : goal.returns-then-length
returns-then-length c = λ b s.
    let same = c.from_vec-bytes.ensures ∙ bytes_are c.args.profile.now.schema _ _ (view c.args.value.now) _ _ b c.new-spelling.ensures.items c.schema.ensures.schema called c.in_ok-spell.ensures s in
    long_sends c.args.profile.now b c.from_vec-bytes.result c.in_ok-number.number c.long_call.result same c.in_ok-number.ensures.bytes c.in_ok-number.ensures.numbers (omega (arith, c.if-length.true, c.len-length.ensures)) (rw c.len-length.ensures at c.long_call.ensures)

pub returns : goal.returns
returns c = λ b s.
    let same = c.from_vec-bytes.ensures ∙ bytes_are c.args.profile.now.schema _ _ (view c.args.value.now) _ _ b c.new-spelling.ensures.items c.schema.ensures.schema called c.in_ok-spell.ensures s in
    call_sends c.args.profile.now c.schema.ensures.sound b _ same c.in_ok-number.ensures.bytes c.in_ok-number.ensures.numbers (omega (arith, c.if-length.false, c.len-length.ensures))
