-- A loaded client waits for nothing, so what holds of one session holds of runs in turn.
use Rattle.std.proofs.Common.{◌≡◌, ℕ, ◌<◌, ◌^◌, ℤ, List, [], ◌∷◌, ◌++◌, map, length, length-append, Bool, true, false, ◌||◌, ltb, Some, refl, sym, ap, ◌∙◌, subst, arith}
use Rattle.tl_numbers.specs.Bytes.{AreBytes}
use Rattle.box_events.specs.declared.limits.TheConstants.{MAX_CHANNELS}
use Rattle.box_events.specs.declared.saved.SavedChannel.{SavedChannel}
use Rattle.pts_machine.specs.Steps.{new_lane}
use Rattle.channel_box.specs.Looks.{any_asks, is_waiting, waits}
use Rattle.channel_box.specs.States.{ChannelState}
use Rattle.channel_box.specs.Steps.{channel_of, is_watched}
use Rattle.box_client.specs.Asking.{is_one_asking}
use Rattle.box_client.specs.Saving.{channel_loaded, saved_of}
use Rattle.box_client.specs.States.{ClientState}
use Rattle.box_server.specs.Servers.{ServerState, dated_at}
use Rattle.box_server.specs.Sound.{IsSound}
use Rattle.box_world.specs.Streams.{Doing, dates, past_of}
use Rattle.box_world.proofs.Posting.{none_either}
use Rattle.wire_profile.specs.Indexes.{ProfileView}
use Rattle.wire_profile.specs.Profiles.{IsProfile}
use Rattle.wire_values.specs.SavedClients.{saved_tree}
use Rattle.box_wire.specs.Framing.{Framed}
use Rattle.box_wire.specs.Kinds.{saved_clients}
use Rattle.session_commands.specs.Client.{HasClient, begins, loads, watch_all, watch_one}
use Rattle.headline.specs.Answering.{IsUpToDate}
use Rattle.headline.specs.Recovered.{StateAgrees}
use Rattle.headline.specs.Histories.{HasHistory}
use Rattle.headline.specs.Meetings.{LoadedAskNothing, Meets, StatesMeetServers}
use Rattle.headline.specs.TwoPrograms.{Converse}
use Rattle.headline.proofs.Conversing.{two_programs_meet}
use Rattle.headline.proofs.LastAnswers.{AgreesAt}
use Rattle.headline.proofs.Recoveries.{all_agree, later_state, loaded_agrees, none_some, one_by, some_is, state_goes_on, watch_then}
use Rattle.headline.proofs.SessionHistories.{dated_history, histories_are_sound}

-- ---- a loaded client waits for nothing

loaded_channels : (cs : List SavedChannel) → any_asks (map channel_loaded cs) ≡ false
loaded_channels [] = refl
loaded_channels (c ∷ cs) = loaded_channels cs

opened_calm : (p : ProfileView) (bytes : List ℕ) (c : ClientState) → HasClient p bytes c → is_one_asking c ≡ false
opened_calm p bytes c (begins none is) = ap is_one_asking is
opened_calm p bytes c (loads s has l) = ap is_one_asking l.client ∙ loaded_channels s.channels

asks_last : (cs : List ChannelState) (d : ChannelState) → any_asks cs ≡ false → waits d ≡ false → any_asks (cs ++ d ∷ []) ≡ false
asks_last [] d e f = ap (λ (b : Bool). b || false) f
asks_last (c ∷ cs) d e f = let two = none_either (waits c) (any_asks cs) e in ap (λ (b : Bool). b || any_asks (cs ++ d ∷ [])) two.0 ∙ asks_last cs d two.1 f

both_calm : (a b : Bool) → a ≡ false → b ≡ false → (a || b) ≡ false
both_calm a b e f = ap (λ (x : Bool). x || b) e ∙ f

calm_by : (c d : ClientState) (id : ℤ) (old room : Bool) → one_by old room c id ≡ Some d → is_one_asking c ≡ false → is_one_asking d ≡ false
calm_by c d id true room e calm = ap is_one_asking (some_is c d e) ∙ calm
calm_by c d id false true e calm =
    let two = none_either (is_waiting c.common.mode) (any_asks c.channels) calm in
    ap is_one_asking (some_is _ d e) ∙ both_calm (is_waiting c.common.mode) (any_asks (c.channels ++ channel_of id new_lane [] ∷ [])) two.0 (asks_last c.channels (channel_of id new_lane []) two.1 refl)
calm_by c d id false false e calm = absurd (none_some d e)

watched_calm : (ids : List ℤ) (c d : ClientState) → watch_all ids c ≡ Some d → is_one_asking c ≡ false → is_one_asking d ≡ false
watched_calm [] c d e calm = ap is_one_asking (some_is c d e) ∙ calm
watched_calm (id ∷ ids) c d e calm =
    let (one, first, rest) = watch_then ids (watch_one c id) d e in
    watched_calm ids one d rest (calm_by c one id (is_watched c.channels id) (ltb (length c.channels) MAX_CHANNELS) first calm)

pub loaded_ask_nothing : LoadedAskNothing
loaded_ask_nothing p bytes channels opened c has watches = watched_calm channels opened c watches (opened_calm p bytes opened has)

-- ---- run after run

-- a state's client that converses with a server, and what is saved of it
pub meets_by : (p : ProfileView) → IsProfile p → (h : List Doing) (s : ServerState) (now : ℕ) (channels : List ℤ) (state saved : List ℕ) (t : ServerState) (opened c d : ClientState) → AreBytes state → HasHistory h s → now < 2 ^ 31 → StateAgrees p h (length h) state
    → HasClient p state opened → watch_all channels opened ≡ Some c → Converse p s now c t d → Framed p saved_clients (saved_tree (saved_of d)) saved
    → (t ≡ dated_at s now) × HasHistory (h ++ dates now ∷ []) t × IsUpToDate (h ++ dates now ∷ []) d × StateAgrees p (h ++ dates now ∷ []) (length (h ++ dates now ∷ [])) saved
meets_by p good h s now channels state saved t opened c d are a lt agrees has watches converse saves =
    let g : List Doing = h ++ dates now ∷ [] in
    let after : HasHistory g (dated_at s now) = dated_history h s now lt a in
    let here : dated_at s now ≡ dated_at (past_of h (length h)).server now = ap (λ (z : ServerState). dated_at z now) a.is in
    let sound : IsSound (dated_at (past_of h (length h)).server now) = subst IsSound here (histories_are_sound.sound g (dated_at s now) after) in
    let first : AgreesAt h (length h) c = all_agree (past_of h (length h)).server (past_of h (length h)).boxes channels opened c watches (agrees are opened has) in
    let met = two_programs_meet p good h now c d t sound first (loaded_ask_nothing p state channels opened c has watches) (subst (λ (z : ServerState). Converse p z now c t d) a.is converse) in
    let is : t ≡ dated_at s now = met.0 ∙ sym here in (
      is,
      subst (HasHistory g) (sym is) after,
      met.2,
      λ bytes e held. loaded_agrees p good g (length g) saved d e bytes met.2.agrees saves held,
    )

meet : (p : ProfileView) → IsProfile p → (h : List Doing) (s : ServerState) (now : ℕ) (channels : List ℤ) (state saved : List ℕ) (t : ServerState) (d : ClientState) → HasHistory h s → now < 2 ^ 31 → StateAgrees p h (length h) state
    → Meets p s now channels state saved t d → (t ≡ dated_at s now) × HasHistory (h ++ dates now ∷ []) t × IsUpToDate (h ++ dates now ∷ []) d × StateAgrees p (h ++ dates now ∷ []) (length (h ++ dates now ∷ [])) saved
meet p good h s now channels state saved t d a lt agrees m = meets_by p good h s now channels state saved t m.opened m.c d m.bytes.0 a lt agrees m.has m.watches m.converse m.saves

later : (p : ProfileView) (h more : List Doing) (state : List ℕ) → StateAgrees p h (length h) state → StateAgrees p (h ++ more) (length (h ++ more)) state
later p h more state agrees = later_state p (h ++ more) (length h) (length (h ++ more)) state (omega (arith, length-append h more)) (state_goes_on p h more state agrees)

pub states_meet_servers : StatesMeetServers
states_meet_servers = record { meet = meet; later = later }
