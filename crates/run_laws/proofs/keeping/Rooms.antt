-- Where there is room for what a run may add, no call to a sound keeper fails.
use Rattle.std.proofs.Common.{◌≡◌, ◌≢◌, ℕ, ◌<◌, ◌≤◌, List, [], ◌∷◌, ◌++◌, length, length-append, get_or, Some, refl, sym, ap, ◌∙◌, arith}
use Rattle.tl_base.specs.Outside.{View}
use Rattle.box_events.specs.declared.requests.Numbered.{Numbered}
use Rattle.box_server.specs.Servers.{ServerState, dated_at}
use Rattle.box_server.specs.declared.entry.Entry.{Entry}
use Rattle.wire_profile.specs.Indexes.{ProfileView}
use Rattle.update_sessions.specs.declared.fault.TheConstants.{MAX_FRAMES}
use Rattle.update_sessions.specs.Kept.{KeeperBroke, RoomFor, kept_for, kept_in}
use Rattle.update_sessions.specs.Packed.{Came, MeansCall}
use Rattle.update_sessions.proofs.Packets.{came_then}
use Rattle.update_sessions.proofs.ServerSteps.{kept_then}
use Rattle.session_commands.specs.Keep.{RoomForAll}
use Rattle.session_commands.specs.Serve.{IsAny, Sessions, Total}

some_entries : (es : List Entry) → es ≢ [] → 0 < length es
some_entries [] not = absurd (not refl)
some_entries (e ∷ es) not = omega arith

module _ (p : ProfileView) where
  -- there is room for one more where the keeper failed
  broke_early : (s : ServerState) (bytes out : List ℕ) (cs : List Numbered) (room : ℕ) (es : List Entry) → KeeperBroke p s bytes out cs → RoomFor p MAX_FRAMES s (Some bytes) (Some []) room es → length (es ++ kept_in s cs) < room
  broke_early s bytes out cs room es h fits =
      let new = kept_for h.between h.last.request in
      let one : Came (MeansCall p) h.left (h.last ∷ []) h.rest = (h.comes.body, h.rest, h.comes.fits, h.comes.parts, h.comes.means, refl) in
      let all = came_then (MeansCall p) bytes cs (h.last ∷ []) h.left h.rest h.exchanged.came one in
      let few = h.few in
      let most = fits (cs ++ h.last ∷ []) (h.rest, all) (omega (arith, length-append cs (h.last ∷ []), few)) in
      let is : kept_in s (cs ++ h.last ∷ []) ≡ kept_in s cs ++ (new ++ []) = kept_then p s cs (h.last ∷ []) ∙ ap (λ (v : ServerState). kept_in s cs ++ kept_in v (h.last ∷ [])) (sym h.exchanged.ends) in
      let some = some_entries new h.new in
      omega (arith, most, some, ap length is, length-append es (kept_in s (cs ++ h.last ∷ [])), length-append es (kept_in s cs), length-append (kept_in s cs) (new ++ []), length-append new [])

  -- after some sessions
  pub never_full : (s : ServerState) (n room : ℕ) (v : View) (es : List Entry) (k : ℕ) → k < n → (r : Total) → Sessions IsAny p s v.links v.moments k r → (sent : List ℕ) (cs : List Numbered)
      → KeeperBroke p (dated_at r.server (get_or v.moments k 0)) (get_or v.links k []) sent cs → RoomForAll p s n room v es → room ≤ length (es ++ (r.entries ++ kept_in (dated_at r.server (get_or v.moments k 0)) cs)) → ⊥
  never_full s n room v es k less r sessions sent cs broke fits full =
      let kept = kept_in (dated_at r.server (get_or v.moments k 0)) cs in
      let early = broke_early (dated_at r.server (get_or v.moments k 0)) (get_or v.links k []) sent cs room (es ++ r.entries) broke (fits k less r sessions) in
      omega (arith, early, full, length-append es (r.entries ++ kept), length-append r.entries kept, length-append (es ++ r.entries) kept, length-append es r.entries)
