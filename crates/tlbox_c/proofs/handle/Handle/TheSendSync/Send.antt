use denote.Param.Send.{IsSend}
use Rattle.tlbox_c.specs.contracts.handle.Handle.{the_row}
use Rattle.tlbox_c.proofs.Sent.{owns_keyless}

pub send : IsSend the_row
send = record { owned = λ h vs. ((λ vss. (tt, (tt, tt))), owns_keyless h.at h.held); leaving = λ k x vs. tt }
