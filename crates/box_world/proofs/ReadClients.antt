-- Saved clients that are read are in a client's range.
use Rattle.std.specs.Prelude.{IsTrue}
use Rattle.std.proofs.Common.{ℕ, ◌≤◌, List, [], ◌∷◌, refl, subst}
use Rattle.tl_types.specs.Values.{ValueView, ValueViews, no_values, value}
use Rattle.box_events.specs.declared.limits.TheConstants.{MAX_END}
use Rattle.box_client.specs.Ranges.{AreChannelsInRange, IsSavedInRange}
use Rattle.wire_forms.specs.declared.form.Cell.{Cell}
use Rattle.wire_forms.specs.declared.form.Cell.TheVariants.{Whole, Long, Bodies, One, Bare, ManyBare}
use Rattle.wire_forms.specs.declared.numbers.TheConstants.{CLIENT_TYPE, LANE, SETTING, CHANNEL}
use Rattle.wire_forms.specs.Forms.{forms, constructs, cells_of}
use Rattle.wire_forms.specs.Parts.{first, at, parts_of, entry_of, word_of, each}
use Rattle.wire_forms.specs.IsOf.{IsOf, EachOf, AreOf}
use Rattle.wire_forms.proofs.Cells.{field_at, bare_are}
use Rattle.wire_forms.proofs.Records.{opened, opened_bare, by_member}
use Rattle.wire_profile.specs.SpelledForms.{owned}
use Rattle.wire_values.specs.SavedClients.{saved_channel_in, saved_at, saved_in, saved_tree}
use Rattle.wire_values.specs.Carried.{IsSaved}
use Rattle.wire_profile.specs.Clear.{IsClear, AreClear}
use Rattle.wire_profile.specs.declared.rule.Rule.TheVariants.{End}
use Rattle.wire_profile.specs.declared.rule.Root.TheVariants.{Saved}
use Rattle.wire_profile.proofs.ClearValues.{clear_of, clear_here, clear_fields, clear_first, clear_rest, clear_parts, clear_at, second_none}
use Rattle.wire_profile.proofs.RuleFacts.{end_is}
use Rattle.box_wire.specs.Kinds.{saved_clients}
use Rattle.box_wire.proofs.SavedLaws.{saved_laws}
use Rattle.box_world.proofs.SpelledMessages.{read_of}
use Rattle.box_world.specs.FrameLaws.{ReadClientsAreTaken}

lane_low : (t : ValueView) → IsOf (Bare LANE) t → IsClear Saved t → word_of (at 1 (parts_of t)) ≤ MAX_END
lane_low t s c =
    let o = opened_bare LANE t s in
    (end_is 0 (at 1 (parts_of t)) (second_none _ _ (clear_here Saved LANE (parts_of t) (subst (IsClear Saved) o.0 c) End refl))).1

channel_low : (t : ValueView) → IsOf (Bare CHANNEL) t → IsClear Saved t → word_of (at 1 (parts_of (at 1 (parts_of t)))) ≤ MAX_END
unfolding forms
channel_low t s c =
    let o = opened_bare CHANNEL t s in
    lane_low (at 1 (parts_of t)) (field_at (first (parts_of t)) 1 (Long ∷ Bare LANE ∷ Bodies ∷ []) (parts_of t) o.1) (clear_at Saved 1 (parts_of t) (clear_parts Saved t c))

channels_low : (ts : ValueViews) → EachOf (Bare CHANNEL) ts → AreClear Saved ts → AreChannelsInRange (each saved_channel_in ts)
channels_low no_values s c = tt
channels_low (value t ts) s c = (channel_low t s.0 (clear_first Saved (value t ts) c), channels_low ts s.1 (clear_rest Saved (value t ts) c))

abbrev client_cells : List Cell
client_cells = Whole ∷ Whole ∷ Bare LANE ∷ Bare LANE ∷ Whole ∷ Whole ∷ ManyBare SETTING ∷ ManyBare CHANNEL ∷ []

abbrev Taken : ℕ → List Cell → Type 0
Taken k cs = (ts : ValueViews) → AreOf (first ts) cs ts → AreClear Saved ts → IsSavedInRange (saved_at ts)

client_taken : (ts : ValueViews) → AreOf (first ts) client_cells ts → AreClear Saved ts → IsSavedInRange (saved_at ts)
client_taken ts s c = record {
  common = lane_low (at 2 ts) (field_at (first ts) 2 client_cells ts s) (clear_at Saved 2 ts c);
  secret = lane_low (at 3 ts) (field_at (first ts) 3 client_cells ts s) (clear_at Saved 3 ts c);
  channels = channels_low (parts_of (at 7 ts)) (bare_are CHANNEL (at 7 ts) (field_at (first ts) 7 client_cells ts s)).1 (clear_parts Saved (at 7 ts) (clear_at Saved 7 ts c));
}

client_forms : (k : ℕ) → IsTrue (constructs CLIENT_TYPE k) → Taken k (cells_of k)
unfolding forms
client_forms = by_member Taken CLIENT_TYPE (client_taken, tt)

saved_taken : (t : ValueView) → IsOf (One CLIENT_TYPE) t → IsClear Saved t → IsSavedInRange (saved_in t)
saved_taken t s c =
    let o = opened CLIENT_TYPE t s in
    client_forms (entry_of t) o.member (parts_of t) o.fields (clear_fields Saved (entry_of t) (parts_of t) (subst (IsClear Saved) o.is c))

pub clients_taken : ReadClientsAreTaken
clients_taken p good s b is means =
    let r = read_of saved_clients saved_tree saved_in IsSaved saved_laws p good s b is means in
    subst IsSavedInRange r.message (saved_taken (owned p means.v) r.kind_is (clear_of Saved (owned p means.v) r.clear))
