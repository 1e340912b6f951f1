-- Two clients of one server, in sessions one after the other.
use Rattle.std.proofs.Common.{◌≡◌, ℕ, ◌+◌, ◌<◌, ◌≤◌, ℤ, List, [], ◌∷◌, ◌++◌, length, length-append, get_or, refl, sym, ◌∙◌, subst, arith}
use Rattle.tl_numbers.specs.Bytes.{AreBytes}
use Rattle.tl_base.specs.Outside.{View}
use Rattle.box_client.specs.States.{ClientState}
use Rattle.channel_box.specs.States.{ChannelState}
use Rattle.box_server.specs.Servers.{ServerState, channel_end, channel_in, new_server}
use Rattle.box_world.specs.Agreeing.{Agrees, ChannelAgrees}
use Rattle.box_world.specs.Streams.{Doing, Past, dates, first_past, past_of}
use Rattle.box_world.proofs.ChannelReplying.{end_is}
use Rattle.box_world.proofs.Streams.{ordered}
use Rattle.box_world.proofs.Ticking.{stands_at}
use Rattle.wire_profile.specs.Indexes.{ProfileView}
use Rattle.wire_profile.specs.Profiles.{IsProfile}
use Rattle.fault_lines.specs.Profiled.{IsProfileText}
use Rattle.session_commands.specs.Linked.{next_link}
use Rattle.session_commands.specs.Serve.{Total}
use Rattle.headline.specs.Answering.{IsChannelPast, IsUpToDate}
use Rattle.headline.specs.Histories.{AreMoments, IsThere}
use Rattle.headline.specs.Recovered.{StateAgrees}
use Rattle.headline.specs.TwoClients.{BothAreUpToDate, IsNotBehind, LaterIsUpToDate, TwoClientsMeet}
use Rattle.headline.proofs.Channels.{each_index}
use Rattle.headline.proofs.ClientEnding.{Ran, profile_is}
use Rattle.headline.proofs.LastAnswers.{AgreesAt, grown}
use Rattle.headline.proofs.Recoveries.{past_front}
use Rattle.headline.proofs.RunsMeeting.{RanBy, ran_by, ran_over, saves_by, served_over}
use Rattle.headline.proofs.SessionAsks.{boundary_inside}
use Rattle.headline.proofs.ServeEnding.{IsAmong, is_among, written_at}

agrees_on : (h more : List Doing) (c : ClientState) → AgreesAt h (length h) c → AgreesAt (h ++ more) (length (h ++ more)) c
agrees_on h more c a =
    let moved : AgreesAt (h ++ more) (length h) c = subst (λ (q : Past). Agrees q.server q.boxes c) (sym (past_front first_past h more (length h) (omega arith))) a in
    grown (h ++ more) c (length h) (length (h ++ more)) (omega (arith, length-append h more)) moved

-- a client that agrees stands nowhere past the server, so not past one that is up to date
not_behind : (g : List Doing) (d e : ClientState) → AgreesAt g (length g) d → IsUpToDate g e → IsNotBehind d e
not_behind g d e a up =
    let s : Past = past_of g (length g) in
    let common = boundary_inside s.server.common d.common.at (stands_at s.server.common d.common a.common) in
    let secret = boundary_inside s.server.secret d.secret.at (stands_at s.server.secret d.secret a.secret) in
    let inside = a.settings.inside in
    let past = up.past in
    let far = past.common in
    let far_secret = past.secret in
    let far_settings = past.settings in
    record {
      common = omega (arith, common, far);
      secret = omega (arith, secret, far_secret);
      settings = omega (arith, inside, far_settings);
      channels = λ i k x y is at same.
          let here = each_index (λ (z : ChannelState). ChannelAgrees (s.boxes z.id) z) d.channels i x a.channels is in
          let low = boundary_inside (s.boxes x.id) x.lane.at (stands_at (s.boxes x.id) x.lane here.lane) in
          let kept = end_is (s.boxes x.id) (channel_in s.server.channels x.id) ((ordered g (length g)).kept x.id) in
          let there = subst (λ (n : ℤ). channel_end (channel_in s.server.channels n) ≤ y.lane.at) (sym same) (each_index (IsChannelPast s.server) e.channels k y up.channels at) in
          omega (arith, low, kept, there);
    }

-- from the earlier session on
later_meets : (f more : List Doing) (now : ℕ) (d e : ClientState) → IsUpToDate f d → IsUpToDate ((f ++ more) ++ dates now ∷ []) e → IsNotBehind d e
later_meets f more now d e first second = not_behind ((f ++ more) ++ dates now ∷ []) d e (agrees_on (f ++ more) (dates now ∷ []) d (agrees_on f more d first.agrees)) second

module _ (p : ProfileView) (good : IsProfile p) (first second asked answered then_asked then_answered : List ℕ) (first_channels second_channels : List ℤ) (base : ServerState) (j k : ℕ) (v x y a b : View) (total : Total) (low : AreMoments v.moments) (less : j < k)
    (own : AreBytes first) (other : AreBytes second) (heard : AreBytes asked) (given : AreBytes answered) (then_heard : AreBytes then_asked) (then_given : AreBytes then_answered)
    (r : RanBy p first_channels first x y) (q : RanBy p second_channels second a b) (late : IsAmong p base v.links v.moments k total) where
  abbrev early : IsAmong p base v.links v.moments j late.before
  early = is_among p base v.links v.moments k late.before late.sessions j less

  meets : get_or v.links j [] ≡ asked → early.out ≡ answered → next_link x ≡ answered → get_or y.written.links (length x.written.links) [] ≡ asked
      → get_or v.links k [] ≡ then_asked → late.out ≡ then_answered → next_link a ≡ then_answered → get_or b.written.links (length a.written.links) [] ≡ then_asked
      → (h : List Doing) (s : ServerState) (m : ℕ) → IsThere h s early.before.server (get_or v.moments j 0) → m ≤ length h → StateAgrees p h m first → let f : List Doing = h ++ dates (get_or v.moments j 0) ∷ [] in IsUpToDate f r.d × StateAgrees p f (length f) y.written.state
      × (more : List Doing) × LaterIsUpToDate p (f ++ more) second (get_or v.moments k 0) r.d q.d b.written.state
  meets came told next wrote then_came then_told then_next then_wrote h s m there le agrees =
      let f : List Doing = h ++ dates (get_or v.moments j 0) ∷ [] in
      let now : ℕ = get_or v.moments k 0 in
      let mine = saves_by p good first asked answered first_channels base j v x y late.before own heard given low r early came told next wrote h s m there.0 there.1 le agrees in
      let on = early.on low f mine.history in (
        mine.up_to_date,
        mine.agrees,
        on.0,
        λ n far agreed. (let also = saves_by p good second then_asked then_answered second_channels base k v a b total other then_heard then_given low q late then_came then_told then_next then_wrote (f ++ on.0) late.before.server n on.1 refl far agreed in
            (also.up_to_date, also.agrees, later_meets f on.0 now r.d q.d mine.up_to_date also.up_to_date)),
      )

-- by the run that both sessions are of
pub both_by : (schema first second asked answered then_asked then_answered first_name second_name : List ℕ) (first_channels second_channels : List ℤ) (base : ServerState) (j k : ℕ) (v w x y a b : View) (p : ProfileView) (total : Total) → AreMoments v.moments → j < k
    → AreBytes first → AreBytes second → AreBytes asked → AreBytes answered → AreBytes then_asked → AreBytes then_answered → Ran schema first_name first_channels first x y → Ran schema second_name second_channels second a b
    → IsProfileText schema p → IsAmong p base v.links v.moments k total → w.written.links ≡ v.written.links ++ total.sent
    → get_or v.links j [] ≡ asked → get_or w.written.links (length v.written.links + j) [] ≡ answered → next_link x ≡ answered → get_or y.written.links (length x.written.links) [] ≡ asked
    → get_or v.links k [] ≡ then_asked → get_or w.written.links (length v.written.links + k) [] ≡ then_answered → next_link a ≡ then_answered → get_or b.written.links (length a.written.links) [] ≡ then_asked
    → BothAreUpToDate schema first second base j k v y.written.state b.written.state
both_by schema first second asked answered then_asked then_answered first_name second_name first_channels second_channels base j k v w x y a b p total low less own other heard given then_heard then_given ran then_ran text late links came out next wrote then_came then_out then_next then_wrote =
    let early : IsAmong p base v.links v.moments j late.before = is_among p base v.links v.moments k late.before late.sessions j less in
    let r : RanBy p first_channels first x y = ran_by schema first_name first_channels first x y p text ran in
    let q : RanBy p second_channels second a b = ran_by schema second_name second_channels second a b p text then_ran in
    let told : early.out ≡ answered = sym early.at ∙ sym (late.earlier j less) ∙ sym (written_at v w total j links) ∙ out in
    let then_told : late.out ≡ then_answered = sym late.at ∙ sym (written_at v w total k links) ∙ then_out in
    record {
      p = p;
      profile = text;
      before = early.before;
      sessions = early.sessions;
      d = r.d;
      e = q.d;
      saves = (r.spelled, q.spelled);
      meet = meets p (profile_is schema p text) first second asked answered then_asked then_answered first_channels second_channels base j k v x y a b total low less own other heard given then_heard then_given r q late came told next wrote then_came then_told then_next then_wrote;
    }

pub two_clients_meet : TwoClientsMeet
two_clients_meet schema first second asked answered then_asked then_answered j k v w x y a b own other heard given then_heard then_given low less s t c e =
    let run = served_over schema k then_asked then_answered v w t in
    both_by schema first second asked answered then_asked then_answered c.state_name e.state_name c.channels e.channels new_server j k v w x y a b run.p run.total low less own other heard given then_heard then_given
    (ran_over schema first answered asked x y c) (ran_over schema second then_answered then_asked a b e) run.text run.among run.links s.given s.written c.given c.written t.given t.written e.given e.written
