-- Steps and their values.
use Rattle.std.specs.Prelude.{⊤}
use Rattle.std.proofs.Common.{◌≡◌, ◌≤◌, true, refl, arith}
use Rattle.tl_schema.specs.Formed.{IsFormed}
use Rattle.tl_types.specs.Values.{ValueView, depth}
use Rattle.tl_types.specs.declared.value.TheConstants.{MAX_LEVELS}
use Rattle.wire_forms.specs.IsOf.{IsOf}
use Rattle.wire_forms.specs.Forms.{forms, constructs}
use Rattle.wire_forms.specs.declared.numbers.TheConstants.{STEP_TYPE, STEP_POST}
use Rattle.wire_profile.specs.Indexes.{ProfileView, cell_shape}
use Rattle.wire_profile.specs.Profiles.{IsProfile}
use Rattle.wire_values.specs.Steps.{step_tree, step_in}
use Rattle.wire_values.proofs.PostsAndSteps.{step_same, step_back}
use Rattle.box_wire.specs.Kinds.{steps}
use Rattle.box_wire.proofs.Exactly.{KindLaws}
use Rattle.box_wire.proofs.FormedTypes.{type_formed}
use Rattle.box_wire.proofs.Levels.{few_levels}

pub step_laws : KindLaws steps step_tree step_in (λ _. ⊤)
step_laws = record {
  alone = tt;
  served = λ t c. tt;
  same = λ t is c. step_same t is;
  back = λ m is. step_back m;
  read = λ t is c. tt;
}

made : constructs STEP_TYPE STEP_POST ≡ true
unfolding forms
made = refl

pub step_formed : (p : ProfileView) → IsProfile p → IsFormed p.schema (cell_shape p steps.cell)
step_formed p good = type_formed p good STEP_TYPE STEP_POST made

pub step_levels : (t : ValueView) → IsOf steps.cell t → depth t ≤ MAX_LEVELS
step_levels t is = let few = few_levels t steps.cell refl is in omega (arith, few)
