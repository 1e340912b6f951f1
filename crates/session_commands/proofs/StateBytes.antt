-- What is made of a state's bytes.
use Rattle.std.proofs.Common.{◌≡◌, ℕ, ◌<◌, ◌≤◌, List, [], ◌∷◌, length, Some, None, Bool, false, true≢false, ◌==◌, Result, Ok, Err, Vec, Global, sym, ap, ◌∙◌, subst, inl, inr, codes, arith}
use Rattle.std.proofs.lemmas.Bool.{cases_lt}
use Rattle.std.specs.Prelude.{IfOk, IsErrAnd}
use Rattle.std.specs.declared.alloc.AllocError.{AllocError}
use Rattle.box_events.specs.declared.saved.Saved.{Saved}
use Rattle.box_client.specs.Loads.{IsLoadedAs}
use Rattle.box_client.specs.Saving.{bad_next}
use Rattle.box_client.specs.States.{ClientState}
use Rattle.box_client.proofs.Loadings.{next_is_bad}
use Rattle.wire_profile.specs.declared.wire_fault.WireFault.{WireFault}
use Rattle.wire_profile.specs.Indexes.{ProfileView}
use Rattle.box_wire.specs.Framing.{WireRefused}
use Rattle.box_wire.specs.Kinds.{saved_clients}
use Rattle.outside.specs.Jobs.{RefusedBy}
use Rattle.outside.specs.Loading.{Gives, Refuses}
use Rattle.outside.specs.declared.stop.LoadError.{LoadError}
use Rattle.outside.proofs.Loaded.{memory_refuses, refuses_as}
use Rattle.fault_lines.specs.Messages.{wire_line}
use Rattle.session_commands.specs.Client.{HasClient, loads, TellsNoClient, no_saved, not_loaded}
use Rattle.session_commands.specs.inner.Recovering.{ReadsSaved, TellsNoSaved, LoadsClient, TellsNotLoaded}
use Rattle.session_commands.specs.declared.state.TheConstants.{MAX_STATE_BYTES}

none_some : {A : Type 0} (x : A) → None ≡ Some x → ⊥
none_some x e = cc

-- ---- bytes that are no saved client

pub no_saved_told : (p : ProfileView) (b : List ℕ) (fault : WireFault) (line : Result (Vec ℕ Global) AllocError) (u : LoadError) → WireRefused p saved_clients b fault → IfOk line (λ l. l.items ≡ wire_line (codes "state") fault)
    → RefusedBy line u → Refuses (TellsNoSaved p b) u
no_saved_told p b fault (Ok line) u refused tells is = subst (Refuses (TellsNoSaved p b)) (sym is) (fault, refused, tells)
no_saved_told p b fault (Err e) u refused tells is = memory_refuses (TellsNoSaved p b) u is

-- ---- what was saved isn't loaded

-- a client that is loaded has a number for its next request that leaves room for others
pub next_low : (s : Saved) (c : ClientState) → IsLoadedAs s c → c.next ≤ 2000000000
next_low s c h = elim (cases_lt 2000000000 s.next) [
  | inl many ↦ absurd (none_some (bad_next s.next) (sym h.cause ∙ next_is_bad s (inr ((λ z. omega (arith, z, many)), many))))
  | inr few ↦ omega (arith, few, ap (λ (x : ClientState). x.next) h.client)
]

-- ---- the bytes

pub some_bytes : (bytes : List ℕ) (none : Bool) → none ≡ (length bytes == 0) → none ≡ false → 0 < length bytes
some_bytes [] none is e = absurd (true≢false (sym is ∙ e))
some_bytes (b ∷ bytes) none is e = omega arith

module _ (p : ProfileView) (bytes : List ℕ) (some : 0 < length bytes) (few : length bytes ≤ MAX_STATE_BYTES) where
  pub saved_refused : (e : LoadError) (r : Result ClientState LoadError) → ReadsSaved p bytes (Err e) → IsErrAnd r (λ z. z ≡ e) → Gives (HasClient p) (TellsNoClient p) bytes r
  saved_refused e (Ok c) h is = absurd is
  saved_refused e (Err z) h is = subst (λ (u : LoadError). Refuses (TellsNoClient p bytes) u) (sym is) (refuses_as (TellsNoSaved p bytes) (TellsNoClient p bytes) e (λ line t. no_saved t.0 some few t.1 t.2) h)

  pub client_given : (s : Saved) (r : Result ClientState LoadError) → ReadsSaved p bytes (Ok s) → LoadsClient s r → Gives (HasClient p) (TellsNoClient p) bytes r
  client_given s (Ok c) h l = loads s (record { some = some; few = few; is = h.0; means = h.1 }) l
  client_given s (Err e) h l = refuses_as (TellsNotLoaded s) (TellsNoClient p bytes) e (λ line t. not_loaded s t.0 (record { some = some; few = few; is = h.0; means = h.1 }) t.1 t.2) l
