-- What follows of a state file, and that it can go on to its end.
use Rattle.std.proofs.Common.{◌≡◌, inl, inr, ℕ, ◌+◌, ℤ, List, [], ◌∷◌, Bool, true, false, Option, Some, None, Ok, Err, refl, subst}
use Rattle.tl_numbers.specs.Bytes.{AreBytes}
use Rattle.tl_base.specs.declared.host.Slot.{Slot}
use Rattle.tl_base.specs.declared.host.Slot.TheVariants as slots
use Rattle.box_client.specs.States.{ClientState}
use Rattle.wire_profile.specs.Indexes.{ProfileView}
use Rattle.wire_profile.specs.Profiles.{IsProfile}
use Rattle.outside.specs.Answer.{link_fault_line, refused}
use Rattle.outside.specs.Jobs.{of_fault}
use Rattle.outside.specs.Loading.{Gives}
use Rattle.outside.specs.declared.status.Status.{Status}
use Rattle.outside.specs.declared.status.Status.TheVariants.{LinkFault}
use Rattle.outside.specs.declared.stop.LoadError.{LoadError}
use Rattle.outside.specs.declared.stop.LoadError.TheVariants as load_error
use Rattle.outside.specs.Events.{Event, HostState, connected, opened}
use Rattle.outside.specs.Pieces.{ReadsFile, Takes, TakenView, full, short, broken, after_open, text_of}
use Rattle.outside.specs.Printing.{Prints, PrintsMade}
use Rattle.outside.specs.Begun.{DidIn, to_link}
use Rattle.outside.specs.Steps.{Begins}
use Rattle.outside.proofs.Piecewise.{can_tell}
use Rattle.outside.proofs.Printed.{can_print}
use Rattle.codec_rooms.proofs.Typing.{begun_as, did_as, refusal_done}
use Rattle.session_commands.specs.Client.{HasClient, TellsNoClient, watch_all, many_channels_line}
use Rattle.session_commands.specs.inner.Recovering.{Watches}
use Rattle.session_commands.specs.declared.state.TheConstants.{MAX_STATE_BYTES}
use Rattle.session_commands.proofs.EachClient.{has_or_told}
use Rattle.session_rooms.specs.Client.{OfState, no_client, too_many, watches, OfStateFile, Recovers, after_reading}
use Rattle.session_rooms.specs.inner.Ends.{MakesClient, TellsNone}

-- ---- what a file gives are bytes

given_bytes : (slot : Slot) (count : ℕ) (t : List Event) (taken : TakenView) (text : List ℕ) → Takes slot count t taken → Some text ≡ text_of taken → AreBytes text
given_bytes slot count t (full bytes) text h is = subst AreBytes (let same : bytes ≡ text = cc in same) h.2
given_bytes slot count t (short bytes) text h is = subst AreBytes (let same : bytes ≡ text = cc in same) h.2
given_bytes slot count t broken text h is = absurd (let no : Some text ≡ None = is in cc)

opened_bytes : (slot : Slot) (limit : ℕ) (ok : Bool) (t : List Event) (text : List ℕ) → after_open slot limit ok t (Some text) → AreBytes text
opened_bytes slot limit true t text h = given_bytes slot (limit + 1) h.first h.between text h.does h.goes.1
opened_bytes slot limit false t text h = absurd (let no : Some text ≡ None = h.1 in cc)

pub file_bytes : (slot : Slot) (name : List ℕ) (limit : ℕ) (t : List Event) (text : List ℕ) → ReadsFile slot name limit t (Some text) → AreBytes text
file_bytes slot name limit t text h = opened_bytes slot limit h.between h.rest text h.goes

-- ---- a client

-- no link may be made
pub can_recover : (p : ProfileView) (address name : List ℕ) (c : ClientState) → Begins (Recovers p address name c) []
can_recover p address name c =
    let m = can_tell link_fault_line LinkFault in
    record { rest = connected address false ∷ m.rest; answer = m.answer; whole = record { first = connected address false ∷ []; rest = m.rest; between = false; splits = refl; does = refl; goes = m.whole } }

module _ (p : ProfileView) (address name : List ℕ) (channels : List ℤ) where
  module _ (bytes : List ℕ) where
    can_watch : (c : ClientState) → HasClient p bytes c → (o : Option ClientState) → watch_all channels c ≡ o → Begins (OfState p address name channels bytes) []
    can_watch c has None is = begun_as (Prints (refused many_channels_line)) (OfState p address name channels bytes) (λ t s h. too_many c has is h) (can_print (refused many_channels_line))
    can_watch c has (Some d) is = begun_as (Recovers p address name d) (OfState p address name channels bytes) (λ t s h. watches c d has is h) (can_recover p address name d)

    pub can_state : IsProfile p → AreBytes bytes → Begins (OfState p address name channels bytes) []
    can_state good are = elim (has_or_told p good bytes are) as (λ z. Begins (OfState p address name channels bytes) []) [
      | inl (c, has) ↦ can_watch c has (watch_all channels c) refl
      | inr (line, told) ↦ begun_as (Prints (refused line)) (OfState p address name channels bytes) (λ t s h. no_client line told h) (can_print (refused line))
    ]

    refusal : (line : List ℕ) → TellsNone p channels bytes line → (t : List Event) (s : Status) → Prints (refused line) t s → OfState p address name channels bytes t s
    refusal line (inl told) t s h = no_client line told h
    refusal line (inr (c, has, none, is)) t s h = too_many c has none (subst (λ (l : List ℕ). Prints (refused l) t s) is h)

    pub state_refused : (u : LoadError) (q r : HostState) (answer : Option Status) → IsProfile p → AreBytes bytes → MakesClient p channels bytes (Err u) → PrintsMade (of_fault u) q r answer → DidIn to_link (OfState p address name channels bytes) q r answer
    state_refused u q r answer good are told = refusal_done (OfState p address name channels bytes) (TellsNone p channels bytes) u q r answer (can_state good are) refusal told

    pub state_made : (d : ClientState) (q r : HostState) (answer : Option Status) → MakesClient p channels bytes (Ok d) → DidIn to_link (Recovers p address name d) q r answer → DidIn to_link (OfState p address name channels bytes) q r answer
    state_made d q r answer (c, has, is) h = did_as (Recovers p address name d) (OfState p address name channels bytes) q r answer (λ t s w. watches c d has is w) h

  pub can_after_reading : IsProfile p → (t : List Event) (o : Option (List ℕ)) → ReadsFile slots.State name MAX_STATE_BYTES t o → Begins (after_reading p address name channels o) []
  can_after_reading good t (Some bytes) h = can_state bytes good (file_bytes slots.State name MAX_STATE_BYTES t bytes h)
  can_after_reading good t None h = can_tell _ _

  -- the file may be missing
  pub can_state_file : Begins (OfStateFile address name channels p) []
  can_state_file =
      let m = can_tell _ _ in
      record {
        rest = opened slots.State name false ∷ m.rest;
        answer = m.answer;
        whole = record {
          first = opened slots.State name false ∷ [];
          rest = m.rest;
          between = None;
          splits = refl;
          does = record { first = opened slots.State name false ∷ []; rest = []; between = false; splits = refl; does = refl; goes = (refl, refl) };
          goes = m.whole;
        };
      }

-- ---- the client of a state's bytes, with its channels

module _ (p : ProfileView) (channels : List ℤ) (bytes : List ℕ) where
  pub none_given : (u : LoadError) → Gives (HasClient p) (TellsNoClient p) bytes (Err u) → MakesClient p channels bytes (Err u)
  none_given (load_error.Refused line) h = inl h
  none_given load_error.ReadFault h = h
  none_given load_error.Memory h = h

  pub none_watched : (c d : ClientState) (u : LoadError) → HasClient p bytes c → Watches (watch_all channels c) (Err u) d → MakesClient p channels bytes (Err u)
  none_watched c d (load_error.Refused line) has h = inr (c, has, h.0, h.1)
  none_watched c d load_error.ReadFault has h = h
  none_watched c d load_error.Memory has h = h
