-- A client of a state file can begin a session.
use Rattle.std.proofs.Common.{◌≡◌, ℕ, ◌≤◌, ℤ, List, [], ◌∷◌, length, Bool, true, false, ltb, Some, sym, ap, ◌∙◌, subst, arith}
use Rattle.std.specs.List.{All, AllByRecursion}
use Rattle.std.proofs.lemmas.Bool.Decides.{nat_tests}
use Rattle.std.proofs.lemmas.List.Elements.{All-head, All-tail}
use Rattle.box_events.specs.declared.limits.TheConstants.{MAX_CHANNELS}
use Rattle.channel_box.specs.States.{ChannelState, ids_of}
use Rattle.channel_box.specs.Steps.{is_watched}
use Rattle.box_client.specs.Saving.{is_next}
use Rattle.box_client.specs.States.{ClientState}
use Rattle.box_client.proofs.Loadings.{next_of}
use Rattle.wire_forms.specs.IsOf.{IsLong}
use Rattle.wire_profile.specs.Indexes.{ProfileView}
use Rattle.wire_profile.specs.Profiles.{IsProfile}
use Rattle.box_world.specs.Spelled.{FitsChannel}
use Rattle.session_commands.specs.Client.{HasClient, begins, loads, watch_all, watch_one}
use Rattle.session_commands.proofs.BegunClients.{Watched, each_watched, going_loaded, going_new, no_place, watches}
use Rattle.session_commands.proofs.GoingClients.{IsGoing}
use Rattle.headline.specs.Conversations.{LoadedCanBegin}
use Rattle.headline.proofs.Recoveries.{none_some, one_by, some_is, watch_then}

-- ---- a client that was opened

record Opened (c : ClientState) : Type 0 where
  some : 1 ≤ c.next
  many : ℕ
  going : IsGoing 0 many c

next_some : (n : ℕ) → is_next n ≡ true → 1 ≤ n
next_some n e = grind (arith, nat_tests)

opened_so : (p : ProfileView) → IsProfile p → (bytes : List ℕ) (c : ClientState) → HasClient p bytes c → Opened c
opened_so p good bytes c (begins none is) = subst Opened (sym is) (record { some = omega arith; many = 0; going = going_new })
opened_so p good bytes c (loads s has l) = subst Opened (sym l.client) (record { some = next_some s.next (next_of s l.cause); many = length s.settings; going = going_loaded p good bytes s has.is has.means l.cause })

-- ---- and watches further channels

next_by : (c d : ClientState) (id : ℤ) (old room : Bool) → one_by old room c id ≡ Some d → d.next ≡ c.next
next_by c d id true room e = ap (λ (x : ClientState). x.next) (some_is c d e)
next_by c d id false true e = ap (λ (x : ClientState). x.next) (some_is _ d e)
next_by c d id false false e = absurd (none_some d e)

watched_next : (ids : List ℤ) (c d : ClientState) → watch_all ids c ≡ Some d → d.next ≡ c.next
watched_next [] c d e = ap (λ (x : ClientState). x.next) (some_is c d e)
watched_next (id ∷ ids) c d e =
    let (one, first, rest) = watch_then ids (watch_one c id) d e in
    watched_next ids one d rest ∙ next_by c one id (is_watched c.channels id) (ltb (length c.channels) MAX_CHANNELS) first

ids_long : (cs : List ChannelState) → All FitsChannel cs → AllByRecursion IsLong (ids_of cs)
ids_long [] all = tt
ids_long (c ∷ cs) all = ((All-head FitsChannel c cs all).id, ids_long cs (All-tail FitsChannel c cs all))

going_on : (many : ℕ) (channels : List ℤ) (opened c : ClientState) → watch_all channels opened ≡ Some c → Watched many channels opened → IsGoing 0 many c
going_on many channels opened c e (watches d is going) = subst (IsGoing 0 many) (sym (some_is d c (sym is ∙ e))) going
going_on many channels opened c e (no_place is) = absurd (none_some c (sym is ∙ e))

pub loaded_can_begin : LoadedCanBegin
loaded_can_begin p good bytes channels opened c has long is =
    let o = opened_so p good bytes opened has in
    let g = going_on o.many channels opened c is (each_watched o.many channels opened long o.going) in
    let same = watched_next channels opened c is in
    let some = o.some in
    let most = g.next in
    record { next = (omega (arith, same, some), omega (arith, most)); few = g.low.few; ids = ids_long c.channels g.fits.channels }
