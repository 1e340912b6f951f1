-- A saved client that is read again is the one that was saved.
use Rattle.std.proofs.Common.{◌≡◌, ℕ, ◌≤◌, List, [], append-nil, sym, ap, ◌∙◌, subst}
use Rattle.tl_numbers.specs.Bytes.{AreBytes}
use Rattle.tl_types.specs.Exactly.{BeginsWith, ExactlyOne}
use Rattle.tl_types.specs.Values.{ValueView}
use Rattle.tl_types.specs.declared.value.TheConstants.{MAX_LEVELS}
use Rattle.tl_types.proofs.Exactly.{exactly_one}
use Rattle.box_events.specs.declared.saved.Saved.{Saved}
use Rattle.wire_forms.specs.IsOf.{IsOf}
use Rattle.wire_profile.specs.Indexes.{ProfileView, cell_shape, form_at, number_at}
use Rattle.wire_profile.specs.Profiles.{IsProfile}
use Rattle.wire_profile.specs.SpelledForms.{owned, placed}
use Rattle.wire_profile.proofs.ProfileFacts.{own_again}
use Rattle.wire_profile.proofs.Renamings.{renamed_back}
use Rattle.wire_values.specs.Carried.{IsSaved}
use Rattle.wire_values.specs.SavedClients.{saved_in, saved_tree}
use Rattle.wire_values.proofs.SavedValues.{saved_back}
use Rattle.box_wire.specs.Framing.{Framed, Means}
use Rattle.box_wire.specs.Kinds.{saved_clients}
use Rattle.box_wire.proofs.Levels.{depth_same}
use Rattle.box_wire.proofs.SavedLaws.{saved_formed, saved_laws, saved_levels}
use Rattle.box_world.proofs.MessageForms.{saved_has}
use Rattle.box_world.proofs.SpelledMessages.{of_the_kind, read_of}

module _ (p : ProfileView) (good : IsProfile p) (bytes : List ℕ) (are : AreBytes bytes) where
  own_tree : (x : Saved) → owned p (placed p (saved_tree x)) ≡ saved_tree x
  own_tree x = renamed_back (number_at p.indexes) (form_at p.indexes) (saved_tree x) (λ k form. own_again p good k form.0 form.1) (saved_has x)

  begins : (v : ValueView) (x : Saved) → Framed p saved_clients (saved_tree x) bytes → BeginsWith p.schema MAX_LEVELS (cell_shape p saved_clients.cell) bytes (placed p (saved_tree x)) bytes
  begins v x spelled =
      let is : IsOf saved_clients.cell (saved_tree x) = of_the_kind saved_clients saved_tree saved_in IsSaved saved_laws saved_has (λ m. tt) p good x bytes spelled in
      ([], sym (append-nil bytes), spelled, subst (λ (n : ℕ). n ≤ MAX_LEVELS) (sym (depth_same (number_at p.indexes) (saved_tree x))) (saved_levels (saved_tree x) is))

  pub saved_again : (x s : Saved) → IsSaved x → IsSaved s → Framed p saved_clients (saved_tree x) bytes → Means p saved_clients (saved_tree s) bytes → s ≡ x
  saved_again x s was is spelled means =
      let one : ExactlyOne p.schema MAX_LEVELS (cell_shape p saved_clients.cell) bytes = exactly_one p.schema good.schema MAX_LEVELS (cell_shape p saved_clients.cell) bytes (saved_formed p good) are in
      let v : ValueView = means.v in
      let same : v ≡ placed p (saved_tree x) = (one.one_value v (placed p (saved_tree x)) bytes bytes ([], sym (append-nil bytes), means.spelled.0, means.spelled.1) (begins v x spelled)).0 in
      let read = read_of saved_clients saved_tree saved_in IsSaved saved_laws p good s bytes is means in
      sym read.message ∙ ap (λ (t : ValueView). saved_in (owned p t)) same ∙ ap saved_in (own_tree x) ∙ saved_back x was
