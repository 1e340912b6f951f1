use Rattle.std.proofs.Common.{List, ℕ, sym, ◌∙◌}
use Rattle.serde_json.specs.View.{members_view}
use Rattle.tl_show.specs.declared.fault.FormCause.TheVariants.{WrongJson}
use Rattle.tl_show.proofs.FormSteps.{tells_here, tells_same}
use Rattle.tl_show.proofs.MembersFound.{hex_digits, hex_other, members_counted}
use Rattle.tl_show.proofs.plain.hex_of.Goals as goal

pub returns-then-len-ne1 : goal.returns-then-len-ne1
returns-then-len-ne1 c =
    let counted = members_counted c.args.members.now in
    rw (hex_other (members_view c.args.members.now.entries) (λ one. c.if-len-ne1.true (c.len.ensures.len ∙ sym counted ∙ one))) (tells_here (List ℕ) WrongJson c.refused.result c.refused.ensures)

pub returns-in-Some : goal.returns-in-Some
returns-in-Some c =
    let counted = members_counted c.args.members.now in
    tells_same (λ (b : List ℕ). b) _ _ c.bytes_of.result (hex_digits (members_view c.args.members.now.entries) c.in-Some.digits.now (counted ∙ sym c.len.ensures.len ∙ c.if-len-ne1.false) (sym c.in-Some.ensures)) c.bytes_of.ensures
