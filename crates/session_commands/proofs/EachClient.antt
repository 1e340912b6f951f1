-- Each `client` whose files are there has an answer.
use Rattle.std.proofs.Common.{◌≡◌, ◌⊎◌, ℕ, zero, suc, ℤ, ◌+◌, ◌<◌, ◌≤◌, ◌^◌, List, [], ◌∷◌, ◌++◌, length, length-append, Bool, true, false, Option, Some, None, Result, Ok, Err, refl, ap, inl, inr, arith}
use Rattle.std.specs.List.{All, AllByRecursion}
use Rattle.std.proofs.lemmas.Bool.{cases_lt}
use Rattle.std.proofs.lemmas.List.Elements.{All-head, All-tail}
use Rattle.tl_numbers.specs.Bytes.{AreBytes}
use Rattle.tl_base.specs.Outside.{IsFile}
use Rattle.tl_base.specs.Contents.{Files, HoldBytes}
use Rattle.tl_base.specs.Packets.{packet}
use Rattle.tl_base.specs.declared.packet.PacketCause.{PacketCause}
use Rattle.tl_types.proofs.Numbers.{begins_word}
use Rattle.box_events.specs.declared.replies.Frame.{Frame}
use Rattle.box_events.specs.declared.requests.Numbered.{Numbered}
use Rattle.box_events.specs.declared.saved.Saved.{Saved}
use Rattle.box_client.specs.Asking.{is_one_asking, ticks, wakes}
use Rattle.box_client.specs.Saving.{LoadCause, bad_channels, bad_lane, bad_next, bad_settings, client_loaded, load_cause, saved_of}
use Rattle.box_client.specs.States.{ClientState, new_client}
use Rattle.box_client.specs.declared.fault.ClientFault.{ClientFault}
use Rattle.box_client.specs.declared.fault.LoadFault.TheVariants as load
use Rattle.box_world.specs.Streams.{begun}
use Rattle.wire_profile.specs.declared.wire_fault.WireFault.{WireFault}
use Rattle.wire_forms.specs.IsOf.{IsLong}
use Rattle.wire_profile.specs.Indexes.{ProfileView}
use Rattle.wire_profile.specs.Profiles.{IsProfile}
use Rattle.wire_values.specs.Calls.{call_in, call_tree}
use Rattle.wire_values.specs.Carried.{FitsCall, FitsSaved, IsSaved}
use Rattle.wire_values.specs.CarriedFrames.{IsFrame}
use Rattle.wire_values.specs.Frames.{frame_in, frame_tree}
use Rattle.wire_values.specs.SavedClients.{saved_in, saved_tree}
use Rattle.wire_values.proofs.CallsAndValues.{call_fits}
use Rattle.wire_values.proofs.SavedValues.{saved_fits}
use Rattle.box_wire.specs.Kinds.{calls, frames, saved_clients}
use Rattle.box_wire.specs.Framing.{WireRefused}
use Rattle.box_wire.proofs.CallLaws.{call_laws}
use Rattle.box_wire.proofs.FrameLaws.{frame_formed, frame_laws}
use Rattle.box_wire.proofs.ReadBack.{are_spelled}
use Rattle.box_wire.proofs.SavedLaws.{saved_formed, saved_laws}
use Rattle.update_sessions.specs.declared.fault.SessionFault.{SessionFault}
use Rattle.update_sessions.specs.declared.fault.SessionFault.TheVariants as fault
use Rattle.update_sessions.specs.declared.fault.TheConstants.{MAX_FRAMES}
use Rattle.update_sessions.specs.Exchanges.{Exchanged}
use Rattle.update_sessions.specs.Heard.{HearsOn, NoFrame, RefusedFrame, StillAsks, asked}
use Rattle.update_sessions.specs.Hearing.{IsTaken, cause_of, client_side, hears}
use Rattle.update_sessions.specs.Honest.{HearsHonestly}
use Rattle.update_sessions.specs.Packed.{MeansFrame, Packed, SpellsCall}
use Rattle.update_sessions.specs.Receiving.{ComesFirst, RefusedPacket}
use Rattle.update_sessions.proofs.Exchanging.{exchanged_none, exchanged_one, exchanged_then}
use Rattle.update_sessions.proofs.HonestFrames.{honestly}
use Rattle.outside.specs.Answer.{Answer, refused}
use Rattle.outside.proofs.SameFiles.{file_bytes}
use Rattle.fault_lines.proofs.Profiled.{each_profiled}
use Rattle.session_commands.specs.declared.state.TheConstants.{MAX_STATE_BYTES}
use Rattle.fault_lines.specs.Packets.{packet_line}
use Rattle.session_commands.specs.Post.{IsWordLong}
use Rattle.session_commands.specs.SessionEnds.{session_line, IsShort}
use Rattle.session_commands.specs.Client.{ClientsAreAnswered, HasClient, HasSaved, OfSession, OfState, OfStateFile, TellsNoClient, begins, failed, loads, no_client, no_saved, not_loaded, recovered, too_long, too_many, watches}
use Rattle.session_commands.proofs.BegunClients.{Watched, each_watched, going_loaded, going_new}
use Rattle.session_commands.proofs.BegunClients as begun_clients
use Rattle.session_commands.proofs.CountedSettings.{frame_brings, saved_brings}
use Rattle.session_commands.proofs.EachPost.{begins_so, each_message}
use Rattle.session_commands.proofs.GoingClients.{IsGoing, asks_fit, brought_by, going_hears, going_ticks, going_wakes, heard_of, saved_fit}
use Rattle.session_commands.proofs.OneExchange.{rest_bytes}
use Rattle.session_commands.proofs.OneReply.{body_bytes}

-- what a client's link may give, and its settings come to
abbrev MOST : ℕ
MOST = 1342177280

-- ---- an answer is waited for, or not; and a frame is taken, or refused

data Waits (c : ClientState) : Type 0 where
  asking : is_one_asking c ≡ true → Waits c
  calm : is_one_asking c ≡ false → Waits c

waits_by : (c : ClientState) (b : Bool) → is_one_asking c ≡ b → Waits c
waits_by c true is = asking is
waits_by c false is = calm is

data Fate (c : ClientState) (f : Frame) : Type 0 where
  taken : cause_of c f ≡ None → Fate c f
  refuses : (cause : ClientFault) → cause_of c f ≡ Some cause → Fate c f

fate_by : (c : ClientState) (f : Frame) (o : Option ClientFault) → cause_of c f ≡ o → Fate c f
fate_by c f None is = taken is
fate_by c f (Some cause) is = refuses cause is

module _ (p : ProfileView) (good : IsProfile p) where
  -- ---- what is sent

  each_packed : (ns : List Numbered) → All FitsCall ns → (out : List ℕ) × Packed (SpellsCall p) ns out
  each_packed [] all = ([], refl)
  each_packed (n ∷ ns) all =
      let first = are_spelled calls call_tree call_in (λ _. Unit {0}) FitsCall call_laws call_fits p good n (All-head FitsCall n ns all) in
      let rest = each_packed ns (All-tail FitsCall n ns all) in
      (packet first.0 ++ rest.0, (first.0, rest.0, first.1, refl, rest.1))

  -- ---- what is heard

  -- why no frame is taken after so many, of which n may be
  data HearEnd (left : List ℕ) (d : ClientState) (n k : ℕ) : Type 0 where
    ended : is_one_asking d ≡ false → k ≤ n → HearEnd left d n k
    full : is_one_asking d ≡ true → k ≡ n → HearEnd left d n k
    none : is_one_asking d ≡ true → k < n → (f : PacketCause) (line : List ℕ) → NoFrame left f → IsWordLong f → packet_line f ≡ line → HearEnd left d n k
    no_message : is_one_asking d ≡ true → k < n → (f : WireFault) → RefusedPacket (WireRefused p frames) left f → HearEnd left d n k
    no_answer : is_one_asking d ≡ true → k < n → (f : Frame) (e : ClientFault) → RefusedFrame p d left f e → HearEnd left d n k

  one_on : (left : List ℕ) (d : ClientState) (n k : ℕ) → HearEnd left d n k → HearEnd left d (suc n) (suc k)
  one_on left d n k (ended is le) = ended is (omega (arith, le))
  one_on left d n k (full asks is) = full asks (omega (arith, is))
  one_on left d n k (none asks less f line h few tells) = none asks (omega (arith, less)) f line h few tells
  one_on left d n k (no_message asks less f h) = no_message asks (omega (arith, less)) f h
  one_on left d n k (no_answer asks less f e h) = no_answer asks (omega (arith, less)) f e h

  record Hearing (n : ℕ) (c : ClientState) (bytes : List ℕ) : Type 0 where
    taken_frames : List Frame
    left : List ℕ
    out : List ℕ
    client_after : ClientState
    exchanged : Exchanged (client_side p) c bytes left out client_after taken_frames
    ends : HearEnd left client_after n (length taken_frames)
    ticks_many : ℕ
    settings_many : ℕ
    going : IsGoing ticks_many settings_many client_after
    few_ticks : ticks_many ≤ 1100000
    few_settings : settings_many ≤ MOST

  -- nothing more is heard
  stops : (n k d : ℕ) (c : ClientState) (bytes : List ℕ) → IsGoing k d c → k ≤ 1100000 → d ≤ MOST → HearEnd bytes c n 0 → Hearing n c bytes
  stops n k d c bytes h few small ends = record {
    taken_frames = [];
    left = bytes;
    out = [];
    client_after = c;
    exchanged = exchanged_none (client_side p) c bytes;
    ends = ends;
    ticks_many = k;
    settings_many = d;
    going = h;
    few_ticks = few;
    few_settings = small;
  }

  -- one frame is heard, and then others
  goes : (n : ℕ) (c : ClientState) (bytes rest first : List ℕ) (f : Frame) → ComesFirst (MeansFrame p) f bytes rest → IsTaken c f → Packed (SpellsCall p) (ticks (hears c f)).asks first → Hearing n (ticks (hears c f)).client rest → Hearing (suc n) c bytes
  goes n c bytes rest first f comes takes packed h = record {
    taken_frames = f ∷ h.taken_frames;
    left = h.left;
    out = first ++ h.out;
    client_after = h.client_after;
    exchanged = exchanged_then (client_side p) c (ticks (hears c f)).client h.client_after bytes rest h.left first h.out (f ∷ []) h.taken_frames
        (exchanged_one (client_side p) c (ticks (hears c f)).client bytes rest first f comes takes packed refl) h.exchanged;
    ends = one_on h.left h.client_after n (length h.taken_frames) h.ends;
    ticks_many = h.ticks_many;
    settings_many = h.settings_many;
    going = h.going;
    few_ticks = h.few_ticks;
    few_settings = h.few_settings;
  }

  shorter : (bytes body rest : List ℕ) → bytes ≡ packet body ++ rest → length body + length rest ≤ length bytes
  shorter bytes body rest is =
      let all = ap (λ (l : List ℕ). length l) is in
      omega (arith, all, length-append (packet body) rest)

  each_hearing : (n k d : ℕ) (c : ClientState) (bytes : List ℕ) → AreBytes bytes → IsGoing k d c → k + n ≤ 1100000 → d + length bytes ≤ MOST → Hearing n c bytes
  each_hearing zero k d c bytes are h few small =
      elim (waits_by c (is_one_asking c) refl) as (λ z. Hearing zero c bytes) [
        | calm is ↦ stops zero k d c bytes h (omega (arith, few)) (omega (arith, small)) (ended is (omega arith))
        | asking is ↦ stops zero k d c bytes h (omega (arith, few)) (omega (arith, small)) (full is refl)
      ]
  each_hearing (suc n) k d c bytes are h few small =
      elim (waits_by c (is_one_asking c) refl) as (λ z. Hearing (suc n) c bytes) [
        | calm is ↦ stops (suc n) k d c bytes h (omega (arith, few)) (omega (arith, small)) (ended is (omega arith))
        | asking asks ↦ elim (begins_so bytes (begins_word bytes are)) as (λ z. Hearing (suc n) c bytes) [
          | inl b ↦ elim (each_message p good frames (frame_formed p good) frame_tree frame_in IsFrame frame_laws b.body (body_bytes bytes b.body b.rest b.parts are)) as (λ z. Hearing (suc n) c bytes) [
            | inl m ↦
                (let means : MeansFrame p m.0 b.body = (m.1, m.2) in
                let comes : ComesFirst (MeansFrame p) m.0 bytes b.rest = record { body = b.body; fits = b.fits; parts = b.parts; means = means } in
                elim (fate_by c m.0 (cause_of c m.0) refl) as (λ z. Hearing (suc n) c bytes) [
                  | taken clear ↦
                      (let heard = going_hears k d c m.0 h (heard_of p good m.0 b.body means) in
                      let packed = each_packed (ticks (hears c m.0)).asks (asks_fit k (d + brought_by m.0) (hears c m.0) (omega (arith, few)) heard) in
                      let brings = frame_brings p good m.0 b.body means in
                      let long = shorter bytes b.body b.rest b.parts in
                      goes n c bytes b.rest packed.0 m.0 comes (record { asking = asks; clear = clear }) packed.1
                      (each_hearing n (suc k) (d + brought_by m.0) (ticks (hears c m.0)).client b.rest (rest_bytes bytes b.body b.rest b.parts are) (going_ticks k (d + brought_by m.0) (hears c m.0) heard) (omega (arith, few))
                      (omega (arith, small, brings, long))))
                  | refuses cause is ↦
                      stops (suc n) k d c bytes h (omega (arith, few)) (omega (arith, small))
                      (no_answer asks (omega arith) m.0 cause (record { rest = b.rest; comes = comes; refuses = is }))
                ])
            | inr r ↦
                stops (suc n) k d c bytes h (omega (arith, few)) (omega (arith, small))
                (no_message asks (omega arith) r.0 (record { body = b.body; rest = b.rest; fits = b.fits; parts = b.parts; refused = r.1 }))
          ]
          | inr b ↦ stops (suc n) k d c bytes h (omega (arith, few)) (omega (arith, small)) (none asks (omega arith) b.fault b.line b.none b.few b.tells)
        ]
      ]

  -- ---- sessions

  module _ (address name : List ℕ) (c : ClientState) (given first : List ℕ) (packed : Packed (SpellsCall p) (ticks (wakes c)).asks first) (g : Hearing MAX_FRAMES (begun c) given) where
    of_hears : (result : Result ℕ SessionFault) (last : List Frame) → HearsOn p (begun c) given g.out g.client_after result g.taken_frames last → HearsHonestly p c given (first ++ g.out) g.client_after result
    of_hears result last on = honestly p c g.client_after given (first ++ g.out) result g.taken_frames last (asked first g.out packed refl on)

    still : is_one_asking g.client_after ≡ true → length g.taken_frames < MAX_FRAMES → StillAsks p (begun c) given g.left g.out g.client_after g.taken_frames
    still asks less = record { exchanged = g.exchanged; asking = asks; few = less }

    fails : (e : SessionFault) (line : List ℕ) → HearsHonestly p c given (first ++ g.out) g.client_after (Err e) → IsShort e → session_line e ≡ Some line → (a : Answer) × OfSession p address name c given a
    fails e line h short tells = (_, failed e (first ++ g.out) line g.client_after h short tells refl)

    saves : (n : ℕ) → HearsHonestly p c given (first ++ g.out) g.client_after (Ok n) → (a : Answer) × OfSession p address name c given a
    saves n h =
        let few = g.few_settings in
        let fit = saved_fit g.ticks_many g.settings_many g.client_after g.few_ticks (omega (arith, few)) g.going in
        let saved = are_spelled saved_clients saved_tree saved_in IsSaved FitsSaved saved_laws saved_fits p good (saved_of g.client_after) fit in
        (_, recovered n (first ++ g.out) saved.0 g.client_after h saved.1 refl)

    by_end : HearEnd g.left g.client_after MAX_FRAMES (length g.taken_frames) → (a : Answer) × OfSession p address name c given a
    by_end (ended is le) = saves (length g.taken_frames) (of_hears (Ok (length g.taken_frames)) [] (g.left, g.exchanged, is, refl, le, refl))
    by_end (full asks is) = fails fault.TooManyFrames _ (of_hears (Err fault.TooManyFrames) [] (g.left, g.exchanged, asks, is, refl)) tt refl
    by_end (none asks less f line h short tells) = fails (fault.Packet f) line (of_hears (Err (fault.Packet f)) [] (g.left, still asks less, h, refl)) short (ap Some tells)
    by_end (no_message asks less f h) = fails (fault.Wire f) _ (of_hears (Err (fault.Wire f)) [] (g.left, still asks less, h, refl)) tt refl
    by_end (no_answer asks less f e h) = fails (fault.Client e) _ (of_hears (Err (fault.Client e)) (f ∷ []) (g.left, f, still asks less, h, refl)) tt refl

  each_session : (address name : List ℕ) (d : ℕ) (c : ClientState) (given : List ℕ) → AreBytes given → IsGoing 0 d c → d + length given ≤ MOST → (a : Answer) × OfSession p address name c given a
  each_session address name d c given are h small =
      let woken = going_wakes 0 d c h in
      let packed = each_packed (ticks (wakes c)).asks (asks_fit 0 d (wakes c) (omega arith) woken) in
      let g = each_hearing MAX_FRAMES 1 d (begun c) given are (going_ticks 0 d (wakes c) woken) (omega arith) small in
      by_end address name c given packed.0 packed.1 g g.ends

  -- ---- states

  -- a client of bytes, with so many settings at most
  record Begins (bytes : List ℕ) : Type 0 where
    first_client : ClientState
    has : HasClient p bytes first_client
    many : ℕ
    going : IsGoing 0 many first_client
    few : many ≤ MAX_STATE_BYTES

  abbrev Told : List ℕ → Type 0
  Told bytes = (line : List ℕ) × TellsNoClient p bytes line

  by_cause : (bytes : List ℕ) (s : Saved) → HasSaved p bytes s → (o : Option LoadCause) → load_cause s ≡ o → Begins bytes ⊎ Told bytes
  by_cause bytes s h None clear =
      let brings = saved_brings p good s bytes h.is h.means in
      let few = h.few in
      inl (record { first_client = client_loaded s; has = loads s h (record { cause = clear; client = refl }); many = length s.settings; going = going_loaded p good bytes s h.is h.means clear; few = omega (arith, brings, few) })
  by_cause bytes s h (Some (bad_next n)) is = inr (_, not_loaded s (load.BadNext n) h is refl)
  by_cause bytes s h (Some (bad_lane lane)) is = inr (_, not_loaded s (load.BadLane lane) h is refl)
  by_cause bytes s h (Some (bad_settings place)) is = inr (_, not_loaded s (load.BadSettings place) h is refl)
  by_cause bytes s h (Some (bad_channels place)) is = inr (_, not_loaded s (load.BadChannels place) h is refl)

  of_bytes : (bytes : List ℕ) → AreBytes bytes → length bytes ≤ MAX_STATE_BYTES → Begins bytes ⊎ Told bytes
  of_bytes [] are few = inl (record { first_client = new_client; has = begins refl refl; many = 0; going = going_new; few = omega arith })
  of_bytes (b ∷ bytes) are few =
      elim (each_message p good saved_clients (saved_formed p good) saved_tree saved_in IsSaved saved_laws (b ∷ bytes) are) as (λ z. Begins (b ∷ bytes) ⊎ Told (b ∷ bytes)) [
        | inl m ↦ by_cause (b ∷ bytes) m.0 (record { some = omega arith; few = few; is = m.1; means = m.2 }) (load_cause m.0) refl
        | inr r ↦ inr (_, no_saved r.0 (omega arith) few r.1 refl)
      ]

  each_begin : (bytes : List ℕ) → AreBytes bytes → Begins bytes ⊎ Told bytes
  each_begin bytes are = elim (cases_lt MAX_STATE_BYTES (length bytes)) as (λ z. Begins bytes ⊎ Told bytes) [
    | inl long ↦ inr (_, too_long long refl)
    | inr few ↦ of_bytes bytes are (omega (arith, few))
  ]

  module _ (address name : List ℕ) (channels : List ℤ) (long : AllByRecursion IsLong channels) (given : List ℕ) (all : AreBytes given) (small : length given < 2 ^ 30) where
    of_watched : (bytes : List ℕ) (b : Begins bytes) → Watched b.many channels b.first_client → (a : Answer) × OfState p address name channels bytes given a
    of_watched bytes b (begun_clients.watches d is going) =
        let few = b.few in
        let told = each_session address name b.many d given all going (omega (arith, few, small)) in
        (told.0, watches b.first_client d b.has is told.1)
    of_watched bytes b (begun_clients.no_place is) = (_, too_many b.first_client b.has is refl)

    each_state : (bytes : List ℕ) → AreBytes bytes → (a : Answer) × OfState p address name channels bytes given a
    each_state bytes are = elim (each_begin bytes are) as (λ z. (a : Answer) × OfState p address name channels bytes given a) [
      | inl b ↦ of_watched bytes b (each_watched b.many channels b.first_client long b.going)
      | inr t ↦ (refused t.0, no_client t.0 t.1 refl)
    ]

    each_file : (files : Files) → HoldBytes files → IsFile files name → (a : Answer) × OfStateFile address name channels files given p a
    each_file files hold (bytes, has) =
        let told = each_state bytes (file_bytes files name bytes hold has) in
        (told.0, (bytes, has, told.1))

pub each_client : ClientsAreAnswered
each_client files hold given all small schema address name channels long text there =
    each_profiled (OfStateFile address name channels files given) (λ p good. each_file p good address name channels long given all small files hold there) files schema text

-- a state's bytes have a client, or there is a line that says why not
pub has_or_told : (p : ProfileView) → IsProfile p → (bytes : List ℕ) → AreBytes bytes → ((c : ClientState) × HasClient p bytes c) ⊎ ((line : List ℕ) × TellsNoClient p bytes line)
has_or_told p good bytes are = elim (each_begin p good bytes are) as (λ z. ((c : ClientState) × HasClient p bytes c) ⊎ ((line : List ℕ) × TellsNoClient p bytes line)) [
  | inl b ↦ inl (b.first_client, b.has)
  | inr t ↦ inr t
]
