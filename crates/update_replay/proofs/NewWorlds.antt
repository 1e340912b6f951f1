-- A world that was made new, with a profile and so many clients.
use Rattle.std.proofs.Common.{◌≡◌, ℕ, length, [], None, sym, ap, ◌∙◌, subst}
use Rattle.wire_profile.specs.Indexes.{ProfileView}
use Rattle.box_server.specs.Servers.{new_server}
use Rattle.box_world.specs.Worlds.{new_clients}
use Rattle.box_world.proofs.OneMore.{clients_stay}
use Rattle.update_world.specs.Shown.{Shown}
use Rattle.update_replay.specs.Replays.{IsNew}

abbrev new_world : ProfileView → ℕ → Shown
new_world p n = record { profile = p; server = new_server; clients = new_clients n; pool = []; spoiled = None }

module _ (p : ProfileView) (n : ℕ) (w : Shown) (is : w ≡ new_world p n) where
  same_profile : w.profile ≡ p
  same_profile = ap (λ (z : Shown). z.profile) is

  same_clients : length w.clients ≡ n
  same_clients = ap (λ (z : Shown). length z.clients) is ∙ clients_stay n []

  pub is_new : IsNew w
  is_new = is ∙ (λ i. new_world (sym same_profile i) (sym same_clients i))

  pub of_new : (P : ProfileView → ℕ → Type 0) → P w.profile (length w.clients) → P p n
  of_new P h = subst (P p) same_clients (subst (λ (q : ProfileView). P q (length w.clients)) same_profile h)
