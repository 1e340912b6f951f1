use Rattle.std.proofs.Common.{refl}
use Rattle.wire_profile.specs.Indexes.{form_at, number_at}
use Rattle.wire_profile.specs.SpelledForms.{owned}
use Rattle.wire_profile.proofs.ProfileFacts.{own_again, index_again}
use Rattle.wire_profile.proofs.OwnValues.{own_of}
use Rattle.wire_profile.proofs.PlacedValues.{placed_of}
use Rattle.wire_profile.proofs.Renamings.{has_forms, renamed_again, renamed_back}
use Rattle.wire_profile.proofs.laws.forms_are_spelled.Goals as goal

pub returns : goal.returns
returns c p good cell alone = record {
  only = λ v b s served. own_of p good v cell b alone s served;
  from = λ v b s served. renamed_again (form_at p.indexes) (number_at p.indexes) v (λ e is. index_again p good e (form_at p.indexes e) is.0 refl is.1) (has_forms (owned p v) cell alone (own_of p good v cell b alone s served));
  each = λ t is. placed_of p good t cell alone is;
  back = λ t is. renamed_back (number_at p.indexes) (form_at p.indexes) t (λ k form. own_again p good k form.0 form.1) (has_forms t cell alone is);
}
