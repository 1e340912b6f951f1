use Rattle.std.proofs.Common.{refl}
use Rattle.wire_forms.specs.Forms.{forms as listed}
use Rattle.wire_forms.proofs.table.forms.Goals as goal

pub returns : goal.returns
unfolding listed
returns c = refl
