-- Saved clients and their values.
use Rattle.std.proofs.Common.{◌≡◌, ◌≤◌, true, refl, arith}
use Rattle.tl_schema.specs.Formed.{IsFormed}
use Rattle.tl_types.specs.Values.{ValueView, depth}
use Rattle.tl_types.specs.declared.value.TheConstants.{MAX_LEVELS}
use Rattle.wire_forms.specs.IsOf.{IsOf}
use Rattle.wire_forms.specs.Forms.{forms, constructs}
use Rattle.wire_forms.specs.declared.numbers.TheConstants.{CLIENT_TYPE, CLIENT}
use Rattle.wire_profile.specs.Indexes.{ProfileView, cell_shape}
use Rattle.wire_profile.specs.Profiles.{IsProfile}
use Rattle.wire_values.specs.Carried.{IsSaved}
use Rattle.wire_values.specs.SavedClients.{saved_tree, saved_in}
use Rattle.wire_values.proofs.SavedValues.{saved_same, saved_back, saved_is}
use Rattle.wire_profile.specs.declared.rule.Root.TheVariants.{Saved}
use Rattle.wire_profile.proofs.ClearValues.{clear_of}
use Rattle.box_wire.specs.Kinds.{saved_clients}
use Rattle.box_wire.proofs.Exactly.{KindLaws}
use Rattle.box_wire.proofs.KeptSaved.{saved_kept}
use Rattle.box_wire.proofs.FormedTypes.{type_formed}
use Rattle.box_wire.proofs.Levels.{few_levels}

pub saved_laws : KindLaws saved_clients saved_tree saved_in IsSaved
saved_laws = record {
  alone = tt;
  served = λ t c. tt;
  same = λ t is c. saved_same t is (saved_kept t saved_clients.cell refl is (clear_of Saved t c));
  back = saved_back;
  read = λ t is c. saved_is t;
}

made : constructs CLIENT_TYPE CLIENT ≡ true
unfolding forms
made = refl

pub saved_formed : (p : ProfileView) → IsProfile p → IsFormed p.schema (cell_shape p saved_clients.cell)
saved_formed p good = type_formed p good CLIENT_TYPE CLIENT made

pub saved_levels : (t : ValueView) → IsOf saved_clients.cell t → depth t ≤ MAX_LEVELS
saved_levels t is = let few = few_levels t saved_clients.cell refl is in omega (arith, few)
