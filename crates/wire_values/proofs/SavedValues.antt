-- Saved clients and their values.
use Rattle.std.proofs.Common.{◌≡◌, ℕ, List, [], ◌∷◌, refl, sym, ap, ◌∙◌, subst, arith}
use Rattle.std.specs.Prelude.{ℤ, IsTrue, ◌==◌}
use Rattle.tl_types.specs.Values.{ValueView, long, list, node, ValueViews, value, values_of}
use Rattle.box_events.specs.Events.{EventView, added, edited, deleted, read}
use Rattle.box_events.specs.Views.{HasCount}
use Rattle.box_events.specs.declared.settings.Setting as settings
use Rattle.box_events.specs.declared.saved.Saved.{Saved}
use Rattle.box_events.specs.declared.saved.SavedLane.{SavedLane}
use Rattle.box_events.specs.declared.saved.SavedChannel.{SavedChannel}
use Rattle.wire_forms.specs.declared.form.Cell.{Cell}
use Rattle.wire_forms.specs.declared.form.Cell.TheVariants.{Whole, Signed, Long, Body, Key, Ids, Bodies, Many, One, Bare, ManyBare}
use Rattle.wire_forms.specs.declared.numbers.TheConstants.{EVENT_TYPE, CLIENT_TYPE, EVENT_NEW, EVENT_EDIT, EVENT_DELETE, EVENT_READ, LANE, SETTING, CHANNEL, CLIENT}
use Rattle.wire_forms.specs.Forms.{forms, constructs, cells_of}
use Rattle.wire_forms.specs.Parts.{first, rest, at, parts_of, entry_of, int_of, long_of, word_of, number, each, row}
use Rattle.wire_forms.specs.IsOf.{IsOf, AreOf}
use Rattle.wire_forms.proofs.Words.{again, number_is}
use Rattle.wire_forms.proofs.Cells.{fields_are, field_at, many_are, bare_are}
use Rattle.wire_forms.proofs.Records.{opened, opened_bare, by_member, list_same, list_back, each_back}
use Rattle.wire_values.specs.Updates.{has_ids, ids_in, setting_in}
use Rattle.wire_values.specs.Frames.{bodies_tree, bodies_in}
use Rattle.wire_values.specs.SavedClients.{event_tree, event_at, event_in, lane_tree, lane_at, saved_setting_tree, saved_channel_tree, saved_channel_at, saved_channel_in, saved_tree, saved_at, saved_in}
use Rattle.wire_values.specs.Normal.{normal_saved}
use Rattle.wire_values.specs.Kept.{IsKept, AllKept, EachKept}
use Rattle.wire_values.specs.CarriedFrames.{FitsEvent, FitsSetting}
use Rattle.wire_values.specs.Carried.{IsLane, IsSavedChannel, IsSaved, FitsLane, FitsSavedChannel, FitsSaved}
use Rattle.wire_values.specs.declared.saved_writer.TheConstants.{VERSION}
use Rattle.wire_values.proofs.KeptParts.{kept_parts, kept_at, kept_all, deletion_is}
use Rattle.wire_values.proofs.BackUpdates.{ids_back}
use Rattle.wire_values.proofs.BackFrames.{bodies_back}
use Rattle.wire_values.proofs.ReadFrames.{It, either, all_each, one, deletion_mark}
use Rattle.wire_values.proofs.FitFrames.{list_fits, ids_fit, bodies_fit}
use Rattle.wire_forms.proofs.Records.{length_each}

-- ---- events

delete_same : (ts : ValueViews) → AreOf (first ts) (Ids ∷ []) ts → IsKept EVENT_DELETE ts → event_tree (event_at EVENT_DELETE ts) ≡ node EVENT_DELETE ts
delete_same ts s c =
    ap event_tree (deletion_is (ids_in (at 0 ts)) (ap has_ids (length_each int_of (parts_of (at 0 ts))) ∙ c.saved_delete refl))
    ∙ ap (node EVENT_DELETE) (fields_are (first ts) (Ids ∷ []) ts s)

abbrev SameEvent : ℕ → List Cell → Type 0
SameEvent k cs = (ts : ValueViews) → AreOf (first ts) cs ts → IsKept k ts → event_tree (event_at k ts) ≡ node k ts

event_forms : (k : ℕ) → IsTrue (constructs EVENT_TYPE k) → SameEvent k (cells_of k)
unfolding forms
event_forms = by_member SameEvent EVENT_TYPE (
  (λ ts s c. ap (node EVENT_NEW) (fields_are (first ts) (Body ∷ []) ts s)),
  (
    (λ ts s c. ap (node EVENT_EDIT) (fields_are (first ts) (Body ∷ []) ts s)),
    (
      delete_same,
      (
        (λ ts s c. ap (node EVENT_READ) (fields_are (first ts) (Signed ∷ []) ts s)),
        tt,
      ),
    ),
  ),
)

event_same : (t : ValueView) → IsOf (One EVENT_TYPE) t → AllKept t → event_tree (event_in t) ≡ t
event_same t s c =
    let o = opened EVENT_TYPE t s in
    event_forms (entry_of t) o.member (parts_of t) o.fields (subst AllKept o.is c).0 ∙ sym o.is

events_same : (t : ValueView) → IsOf (Many EVENT_TYPE) t → AllKept t → row event_tree (each event_in (parts_of t)) ≡ parts_of t
events_same t s c = list_same (One EVENT_TYPE) AllKept event_in event_tree event_same (parts_of t) (many_are EVENT_TYPE t s).1 (kept_all (parts_of t) (kept_parts t c))

-- ---- lanes, settings, channels

lane_from : (ts : ValueViews) → AreOf (first ts) (Whole ∷ Whole ∷ Many EVENT_TYPE ∷ []) ts → EachKept ts → lane_tree (lane_at ts) ≡ node LANE ts
lane_from ts s c =
    let cells = Whole ∷ Whole ∷ Many EVENT_TYPE ∷ [] in
    ap (λ (u : ValueViews). node LANE (values_of (number (word_of (at 0 ts)) ∷ number (word_of (at 1 ts)) ∷ list u ∷ []))) (events_same (at 2 ts) (field_at (first ts) 2 cells ts s) (kept_at 2 ts c))
    ∙ ap (node LANE) (fields_are (first ts) cells ts s)

lane_same : (t : ValueView) → IsOf (Bare LANE) t → AllKept t → lane_tree (lane_at (parts_of t)) ≡ t
unfolding forms
lane_same t s c =
    let o = opened_bare LANE t s in
    lane_from (parts_of t) o.1 (kept_parts t c) ∙ sym o.0

setting_same : (t : ValueView) → IsOf (Bare SETTING) t → AllKept t → saved_setting_tree (setting_in t) ≡ t
unfolding forms
setting_same t s c =
    let o = opened_bare SETTING t s in
    ap (node SETTING) (fields_are (first (parts_of t)) (Key ∷ Body ∷ []) (parts_of t) o.1) ∙ sym o.0

channel_from : (ts : ValueViews) → AreOf (first ts) (Long ∷ Bare LANE ∷ Bodies ∷ []) ts → EachKept ts → saved_channel_tree (saved_channel_at ts) ≡ node CHANNEL ts
channel_from ts s c =
    let cells = Long ∷ Bare LANE ∷ Bodies ∷ [] in
    ap (λ (u : ValueView). node CHANNEL (values_of (long (long_of (at 0 ts)) ∷ u ∷ bodies_tree (bodies_in (at 2 ts)) ∷ []))) (lane_same (at 1 ts) (field_at (first ts) 1 cells ts s) (kept_at 1 ts c))
    ∙ ap (node CHANNEL) (fields_are (first ts) cells ts s)

channel_same : (t : ValueView) → IsOf (Bare CHANNEL) t → AllKept t → saved_channel_tree (saved_channel_in t) ≡ t
unfolding forms
channel_same t s c =
    let o = opened_bare CHANNEL t s in
    channel_from (parts_of t) o.1 (kept_parts t c) ∙ sym o.0

bare_same : {A : Type 0} (j : ℕ) (f : ValueView → A) (g : A → ValueView) → ((t : ValueView) → IsOf (Bare j) t → AllKept t → g (f t) ≡ t) → (t : ValueView) → IsOf (ManyBare j) t → AllKept t → row g (each f (parts_of t)) ≡ parts_of t
bare_same j f g law t s c = list_same (Bare j) AllKept f g law (parts_of t) (bare_are j t s).1 (kept_all (parts_of t) (kept_parts t c))

-- ---- saved clients

abbrev client_with : ValueViews → ValueView → ValueView → ValueViews → ValueViews → ValueView
client_with ts a b ss cs =
    node CLIENT (values_of
    (number VERSION ∷ number (word_of (at 1 ts)) ∷ a ∷ b ∷ number (word_of (at 4 ts)) ∷ number (word_of (at 5 ts)) ∷ list ss ∷ list cs ∷ []))

abbrev SameClient : ℕ → List Cell → Type 0
SameClient k cs = (ts : ValueViews) → AreOf (first ts) cs ts → EachKept ts → saved_tree (saved_at ts) ≡ node k (value (number VERSION) (rest ts))

client_same : SameClient CLIENT (Whole ∷ Whole ∷ Bare LANE ∷ Bare LANE ∷ Whole ∷ Whole ∷ ManyBare SETTING ∷ ManyBare CHANNEL ∷ [])
client_same ts s c =
    let cells = Whole ∷ Whole ∷ Bare LANE ∷ Bare LANE ∷ Whole ∷ Whole ∷ ManyBare SETTING ∷ ManyBare CHANNEL ∷ [] in
    let ss = bare_same SETTING setting_in saved_setting_tree setting_same (at 6 ts) (field_at (first ts) 6 cells ts s) (kept_at 6 ts c) in
    let cs = bare_same CHANNEL saved_channel_in saved_channel_tree channel_same (at 7 ts) (field_at (first ts) 7 cells ts s) (kept_at 7 ts c) in
    ap (λ (u : ValueView). client_with ts u (lane_tree (lane_at (parts_of (at 3 ts)))) (row saved_setting_tree (each setting_in (parts_of (at 6 ts)))) (row saved_channel_tree (each saved_channel_in (parts_of (at 7 ts))))) (lane_same (at 2 ts) (field_at (first ts) 2 cells ts s) (kept_at 2 ts c))
    ∙ ap (λ (u : ValueView). client_with ts (at 2 ts) u (row saved_setting_tree (each setting_in (parts_of (at 6 ts)))) (row saved_channel_tree (each saved_channel_in (parts_of (at 7 ts))))) (lane_same (at 3 ts) (field_at (first ts) 3 cells ts s) (kept_at 3 ts c))
    ∙ ap (λ (u : ValueViews). client_with ts (at 2 ts) (at 3 ts) u (row saved_channel_tree (each saved_channel_in (parts_of (at 7 ts))))) ss
    ∙ ap (λ (u : ValueViews). client_with ts (at 2 ts) (at 3 ts) (parts_of (at 6 ts)) u) cs
    ∙ ap (λ (u : ValueViews). node CLIENT (value (number VERSION) (rest u))) (fields_are (first ts) cells ts s)

client_forms : (k : ℕ) → IsTrue (constructs CLIENT_TYPE k) → SameClient k (cells_of k)
unfolding forms
client_forms = by_member SameClient CLIENT_TYPE (client_same, tt)

pub saved_same : (t : ValueView) → IsOf (One CLIENT_TYPE) t → AllKept t → saved_tree (saved_in t) ≡ normal_saved t
saved_same t s c =
    let o = opened CLIENT_TYPE t s in
    client_forms (entry_of t) o.member (parts_of t) o.fields (kept_parts t c)

-- ---- back

event_back : (e : EventView) → HasCount e → event_in (event_tree e) ≡ e
event_back (added body) c = refl
event_back (edited body) c = refl
event_back (deleted ids) c = ids_back ids c
event_back (read z) c = refl

abbrev lane_with : ℕ → ℕ → List EventView → SavedLane
lane_with restart end events = record { restart = restart; at = end; events = events }

lane_back : (l : SavedLane) → IsLane l → lane_at (parts_of (lane_tree l)) ≡ l
lane_back l is =
    ap (λ (n : ℕ). lane_with n (word_of (number l.at)) (each event_in (row event_tree l.events))) (again l.restart)
    ∙ ap (λ (n : ℕ). lane_with l.restart n (each event_in (row event_tree l.events))) (again l.at)
    ∙ ap (lane_with l.restart l.at) (list_back HasCount event_in event_tree event_back l.events is)

abbrev channel_with : ℤ → SavedLane → List (List ℕ) → SavedChannel
channel_with id lane recent = record { id = id; lane = lane; recent = recent }

channel_back : (c : SavedChannel) → IsSavedChannel c → saved_channel_in (saved_channel_tree c) ≡ c
channel_back c is =
    ap (λ (l : SavedLane). channel_with c.id l (bodies_in (bodies_tree c.recent))) (lane_back c.lane is)
    ∙ ap (channel_with c.id c.lane) (bodies_back c.recent)

abbrev saved_with : ℕ → SavedLane → SavedLane → ℕ → ℕ → List settings.Setting → List SavedChannel → Saved
saved_with next common secret date seq ss cs = record { next = next; common = common; secret = secret; date = date; seq = seq; settings = ss; channels = cs }

pub saved_back : (m : Saved) → IsSaved m → saved_in (saved_tree m) ≡ m
saved_back m is =
    let ss = each setting_in (row saved_setting_tree m.settings) in
    let cs = each saved_channel_in (row saved_channel_tree m.channels) in
    ap (λ (n : ℕ). saved_with n (lane_at (parts_of (lane_tree m.common))) (lane_at (parts_of (lane_tree m.secret))) (word_of (number m.date)) (word_of (number m.seq)) ss cs) (again m.next)
    ∙ ap (λ (l : SavedLane). saved_with m.next l (lane_at (parts_of (lane_tree m.secret))) (word_of (number m.date)) (word_of (number m.seq)) ss cs) (lane_back m.common is.0)
    ∙ ap (λ (l : SavedLane). saved_with m.next m.common l (word_of (number m.date)) (word_of (number m.seq)) ss cs) (lane_back m.secret is.1)
    ∙ ap (λ (n : ℕ). saved_with m.next m.common m.secret n (word_of (number m.seq)) ss cs) (again m.date)
    ∙ ap (λ (n : ℕ). saved_with m.next m.common m.secret m.date n ss cs) (again m.seq)
    ∙ ap (λ (l : List settings.Setting). saved_with m.next m.common m.secret m.date m.seq l cs) (each_back setting_in saved_setting_tree (λ s. refl) m.settings)
    ∙ ap (saved_with m.next m.common m.secret m.date m.seq m.settings) (list_back IsSavedChannel saved_channel_in saved_channel_tree channel_back m.channels is.2)

-- ---- what is read of any value comes back

event_is : (k : ℕ) (ts : ValueViews) → It HasCount (event_at k ts)
event_is k ts =
    either HasCount (k == EVENT_NEW) _ _ (record { it = one })
    (either HasCount (k == EVENT_EDIT) _ _ (record { it = one })
    (either HasCount (k == EVENT_DELETE) _ _ (record { it = (deletion_mark (ids_in (at 0 ts))).0 }) (record { it = one })))

lane_is : (ts : ValueViews) → IsLane (lane_at ts)
lane_is ts = all_each HasCount event_in (λ t. (event_is (entry_of t) (parts_of t)).it) (parts_of (at 2 ts))

pub saved_is : (t : ValueView) → IsSaved (saved_in t)
saved_is t =
    let ts = parts_of t in
    (lane_is (parts_of (at 2 ts)), lane_is (parts_of (at 3 ts)), all_each IsSavedChannel saved_channel_in (λ u. lane_is (parts_of (at 1 (parts_of u)))) (parts_of (at 7 ts)))

-- ---- with a spelling

event_fits : (e : EventView) → FitsEvent e → IsOf (One EVENT_TYPE) (event_tree e)
unfolding forms
event_fits (added body) s = (refl, (s, tt))
event_fits (edited body) s = (refl, (s, tt))
event_fits (deleted ids) s = (refl, (ids_fit ids s, tt))
event_fits (read z) s = (refl, (s, tt))

lane_fits : (l : SavedLane) → FitsLane l → IsOf (Bare LANE) (lane_tree l)
unfolding forms
lane_fits l s = (refl, (number_is l.restart s.0, (number_is l.at s.1, (list_fits FitsEvent (One EVENT_TYPE) event_tree event_fits l.events s.2, tt))))

setting_fits : (x : settings.Setting) → FitsSetting x → IsOf (Bare SETTING) (saved_setting_tree x)
unfolding forms
setting_fits x s = (refl, (s.0, (s.1, tt)))

channel_fits : (c : SavedChannel) → FitsSavedChannel c → IsOf (Bare CHANNEL) (saved_channel_tree c)
unfolding forms
channel_fits c s = (refl, (s.0, (lane_fits c.lane s.1, (bodies_fit c.recent s.2, tt))))

pub saved_fits : (m : Saved) → FitsSaved m → IsOf (One CLIENT_TYPE) (saved_tree m)
unfolding forms
saved_fits m s = (
  refl,
  (
    number_is VERSION (omega arith),
    (
      number_is m.next s.0,
      (
        lane_fits m.common s.1,
        (
          lane_fits m.secret s.2,
          (
            number_is m.date s.3,
            (
              number_is m.seq s.4,
              (list_fits FitsSetting (Bare SETTING) saved_setting_tree setting_fits m.settings s.5, (list_fits FitsSavedChannel (Bare CHANNEL) saved_channel_tree channel_fits m.channels s.6, tt)),
            ),
          ),
        ),
      ),
    ),
  ),
)
