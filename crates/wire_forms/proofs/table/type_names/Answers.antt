use Rattle.std.proofs.Common.{refl}
use Rattle.wire_forms.specs.Forms.{type_names as listed}
use Rattle.wire_forms.proofs.table.type_names.Goals as goal

pub returns : goal.returns
unfolding listed
returns c = refl
