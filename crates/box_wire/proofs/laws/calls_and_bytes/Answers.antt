use Rattle.std.specs.Prelude.{⊤}
use Rattle.wire_values.specs.Carried.{FitsCall}
use Rattle.wire_values.specs.Calls.{call_in, call_tree}
use Rattle.wire_values.proofs.CallsAndValues.{call_fits}
use Rattle.box_wire.specs.Kinds.{calls}
use Rattle.box_wire.proofs.CallLaws.{call_laws, call_levels}
use Rattle.box_wire.proofs.ReadBack.{are_spelled, are_read_back}
use Rattle.box_wire.proofs.laws.calls_and_bytes.Goals as goal

pub returns-clause-spelled : goal.returns-clause-spelled
returns-clause-spelled c = are_spelled calls call_tree call_in (λ _. ⊤) FitsCall call_laws call_fits

pub returns-clause-read_back : goal.returns-clause-read_back
returns-clause-read_back c = are_read_back calls call_tree call_in (λ _. ⊤) FitsCall call_laws call_fits call_levels
