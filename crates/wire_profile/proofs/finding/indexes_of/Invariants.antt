use Rattle.std.proofs.Common.{◌≡◌, map, take}
use Rattle.wire_forms.specs.Forms.{form_view}
use Rattle.wire_profile.specs.Faults.{declaration_index}
use Rattle.wire_profile.proofs.finding.indexes_of.Given as goal

abbrev pub invariant-loop-form : goal.invariant-loop-form
invariant-loop-form l = l.indexes.items ≡ map (declaration_index l.schema) (map form_view (take l.form-index l.form-items))
