-- The client of a state file is one, or there is none for one line.
use Rattle.std.proofs.Common.{◌≡◌, ℕ, ◌<◌, ◌≤◌, List, [], length, Option, Some, None, sym, ap, ◌∙◌, codes, arith}
use Rattle.tl_numbers.specs.Bytes.{AreBytes}
use Rattle.box_events.specs.declared.saved.Saved.{Saved}
use Rattle.box_client.specs.declared.fault.LoadFault.{LoadFault}
use Rattle.box_client.specs.declared.fault.LoadFault.TheVariants as load
use Rattle.box_client.specs.Loads.{IsCauseOf}
use Rattle.box_client.specs.Saving.{LoadCause, bad_next, bad_lane, bad_settings, bad_channels, client_loaded, load_cause}
use Rattle.box_client.specs.States.{ClientState}
use Rattle.wire_profile.specs.declared.wire_fault.WireFault.{WireFault}
use Rattle.wire_profile.specs.Indexes.{ProfileView}
use Rattle.wire_profile.specs.Profiles.{IsProfile}
use Rattle.wire_values.specs.Carried.{IsSaved}
use Rattle.wire_values.specs.SavedClients.{saved_in, saved_tree}
use Rattle.box_wire.specs.Kinds.{saved_clients}
use Rattle.box_wire.specs.Framing.{WireRefused}
use Rattle.box_wire.proofs.Exactly as exactly
use Rattle.box_wire.proofs.SavedLaws.{saved_formed, saved_laws}
use Rattle.fault_lines.specs.Messages.{wire_line}
use Rattle.fault_lines.specs.SavedClients.{load_line}
use Rattle.session_commands.specs.Client.{HasSaved, HasClient, begins, loads, TellsNoClient, too_long, no_saved, not_loaded}
use Rattle.session_commands.specs.declared.state.TheConstants.{MAX_STATE_BYTES}

some_is : {A : Type 0} (x y : A) → Some x ≡ Some y → x ≡ y
some_is x y e = cc

none_some : {A : Type 0} (x : A) → None ≡ Some x → ⊥
none_some x e = cc

same_line : {F : Type 0} (f : F → Option (List ℕ)) (d e : F) (k l : List ℕ) → d ≡ e → f d ≡ Some k → f e ≡ Some l → k ≡ l
same_line f d e k l same is at = some_is k l (sym is ∙ ap f same ∙ at)

-- the cause that a fault tells
abbrev cause_of : LoadFault → Option LoadCause
cause_of (load.BadNext next) = Some (bad_next next)
cause_of (load.BadLane lane) = Some (bad_lane lane)
cause_of (load.BadSettings place) = Some (bad_settings place)
cause_of (load.BadChannels place) = Some (bad_channels place)
cause_of load.Memory = None

-- a fault that has a line is the first cause
told_cause : (s : Saved) (fault : LoadFault) (line : List ℕ) → IsCauseOf s fault → load_line fault ≡ Some line → load_cause s ≡ cause_of fault
told_cause s (load.BadNext next) line is tells = is
told_cause s (load.BadLane lane) line is tells = is
told_cause s (load.BadSettings place) line is tells = is
told_cause s (load.BadChannels place) line is tells = is
told_cause s load.Memory line is tells = absurd (none_some line tells)

-- it is a cause
has_cause : (fault : LoadFault) (line : List ℕ) → load_line fault ≡ Some line → None ≡ cause_of fault → ⊥
has_cause (load.BadNext next) line tells none = none_some (bad_next next) none
has_cause (load.BadLane lane) line tells none = none_some (bad_lane lane) none
has_cause (load.BadSettings place) line tells none = none_some (bad_settings place) none
has_cause (load.BadChannels place) line tells none = none_some (bad_channels place) none
has_cause load.Memory line tells none = none_some line tells

-- one cause is one fault
one_load_fault : (f g : LoadFault) (k l : List ℕ) → load_line f ≡ Some k → load_line g ≡ Some l → cause_of f ≡ cause_of g → f ≡ g
one_load_fault (load.BadNext m) (load.BadNext n) k l tells says e = cc
one_load_fault (load.BadLane m) (load.BadLane n) k l tells says e = cc
one_load_fault (load.BadSettings m) (load.BadSettings n) k l tells says e = cc
one_load_fault (load.BadChannels m) (load.BadChannels n) k l tells says e = cc
one_load_fault load.Memory g k l tells says e = absurd (none_some k tells)
one_load_fault f load.Memory k l tells says e = absurd (none_some l says)
one_load_fault (load.BadNext m) (load.BadLane n) k l tells says e = absurd cc
one_load_fault (load.BadNext m) (load.BadSettings n) k l tells says e = absurd cc
one_load_fault (load.BadNext m) (load.BadChannels n) k l tells says e = absurd cc
one_load_fault (load.BadLane m) (load.BadNext n) k l tells says e = absurd cc
one_load_fault (load.BadLane m) (load.BadSettings n) k l tells says e = absurd cc
one_load_fault (load.BadLane m) (load.BadChannels n) k l tells says e = absurd cc
one_load_fault (load.BadSettings m) (load.BadNext n) k l tells says e = absurd cc
one_load_fault (load.BadSettings m) (load.BadLane n) k l tells says e = absurd cc
one_load_fault (load.BadSettings m) (load.BadChannels n) k l tells says e = absurd cc
one_load_fault (load.BadChannels m) (load.BadNext n) k l tells says e = absurd cc
one_load_fault (load.BadChannels m) (load.BadLane n) k l tells says e = absurd cc
one_load_fault (load.BadChannels m) (load.BadSettings n) k l tells says e = absurd cc

module _ (p : ProfileView) (good : IsProfile p) (bytes : List ℕ) (are : AreBytes bytes) where
  one_saved : (s t : Saved) → HasSaved p bytes s → HasSaved p bytes t → s ≡ t
  one_saved s t h k = exactly.one_message p good saved_clients (saved_formed p good) bytes are saved_tree saved_in IsSaved saved_laws s t h.is k.is h.means k.means

  never_saved : (s : Saved) (fault : WireFault) → HasSaved p bytes s → WireRefused p saved_clients bytes fault → ⊥
  never_saved s fault h r = exactly.never_both p good saved_clients (saved_formed p good) bytes are (saved_tree s) h.means fault r

  one_cause : (d e : WireFault) → WireRefused p saved_clients bytes d → WireRefused p saved_clients bytes e → d ≡ e
  one_cause d e r s = exactly.one_fault p good saved_clients (saved_formed p good) bytes are d e r s

  not_empty : bytes ≡ [] → 0 < length bytes → ⊥
  not_empty none some = omega (arith, ap (λ (l : List ℕ). length l) none, some)

  pub one_client : (c d : ClientState) → HasClient p bytes c → HasClient p bytes d → c ≡ d
  one_client c d (begins none is) (begins also at) = is ∙ sym at
  one_client c d (begins none is) (loads t k m) = absurd (not_empty none k.some)
  one_client c d (loads s h l) (begins also at) = absurd (not_empty also h.some)
  one_client c d (loads s h l) (loads t k m) = l.client ∙ ap client_loaded (one_saved s t h k) ∙ sym m.client

  not_loaded_both : (s t : Saved) (fault : LoadFault) (line : List ℕ) → s ≡ t → load_cause s ≡ None → IsCauseOf t fault → load_line fault ≡ Some line → ⊥
  not_loaded_both s t fault line same clear is tells = has_cause fault line tells (sym clear ∙ ap load_cause same ∙ told_cause t fault line is tells)

  pub never_client : (c : ClientState) (line : List ℕ) → HasClient p bytes c → TellsNoClient p bytes line → ⊥
  never_client c line (begins none is) (too_long long at) = omega (arith, ap (λ (l : List ℕ). length l) none, long)
  never_client c line (begins none is) (no_saved fault some few r tells) = not_empty none some
  never_client c line (begins none is) (not_loaded t fault k at tells) = not_empty none k.some
  never_client c line (loads s h l) (too_long long at) = omega (arith, h.few, long)
  never_client c line (loads s h l) (no_saved fault some few r tells) = never_saved s fault h r
  never_client c line (loads s h l) (not_loaded t fault k at tells) = not_loaded_both s t fault line (one_saved s t h k) l.cause at tells

  not_long : length bytes ≤ MAX_STATE_BYTES → MAX_STATE_BYTES < length bytes → ⊥
  not_long few long = omega (arith, few, long)

  one_not_loaded : (s t : Saved) (f g : LoadFault) (k l : List ℕ) → s ≡ t → IsCauseOf s f → IsCauseOf t g → load_line f ≡ Some k → load_line g ≡ Some l → k ≡ l
  one_not_loaded s t f g k l same is at tells says =
      same_line load_line f g k l (one_load_fault f g k l tells says (sym (told_cause s f k is tells) ∙ ap load_cause same ∙ told_cause t g l at says)) tells says

  pub one_state_line : (k l : List ℕ) → TellsNoClient p bytes k → TellsNoClient p bytes l → k ≡ l
  one_state_line k l (too_long long is) (too_long also at) = is ∙ sym at
  one_state_line k l (too_long long is) (no_saved e any few s says) = absurd (not_long few long)
  one_state_line k l (too_long long is) (not_loaded t g h at says) = absurd (not_long h.few long)
  one_state_line k l (no_saved d some few r tells) (too_long long at) = absurd (not_long few long)
  one_state_line k l (no_saved d some few r tells) (no_saved e any less s says) = tells ∙ ap (wire_line (codes "state")) (one_cause d e r s) ∙ sym says
  one_state_line k l (no_saved d some few r tells) (not_loaded t g h at says) = absurd (never_saved t d h r)
  one_state_line k l (not_loaded s f h is tells) (too_long long at) = absurd (not_long h.few long)
  one_state_line k l (not_loaded s f h is tells) (no_saved e any few r says) = absurd (never_saved s e h r)
  one_state_line k l (not_loaded s f h is tells) (not_loaded t g j at says) = one_not_loaded s t f g k l (one_saved s t h j) is at tells says
