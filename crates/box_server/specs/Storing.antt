-- What a store does: a server beside the keeper of its posts. This project's own.
use Rattle.std.specs.Prelude.{◌≡◌, ℤ, List, Option, Some, None, Ok, refl}
use Rattle.std.specs.Coded.{Coded, code_by, coded×}
use Rattle.box_events.specs.declared.requests.Post.{Post}
use Rattle.box_server.specs.Servers.{ServerState}
use Rattle.box_server.specs.Receiving.{post_answer, after_post}
use Rattle.box_server.specs.declared.posted.Posted.{Posted}
use Rattle.box_server.specs.inner.ServerCodes.{server_code}
use Rattle.box_server.specs.declared.entry.Entry.{Entry}
use Rattle.box_server.specs.Rebuilding.{Rebuilds}

-- a store: a keeper, and the server that its entries rebuild, its date aside
pub record StoredView (K : Type 0) : Type 0 where
  pub keeper : K
  pub server : ServerState

abbrev pub stored_code : {K : Type 0} → Coded K → Coded (StoredView K)
stored_code {K} code = code_by (K × ServerState) (coded× code server_code) (λ s. (s.keeper, s.server)) (λ p. record { keeper = p.0; server = p.1 }) (λ _. refl)

-- where entries are told, they rebuild the server
abbrev pub Tells : Option (List Entry) → ServerState → Type 0
Tells None s = Unit {0}
Tells (Some es) s = Rebuilds es s

-- a server takes posts, or refuses them for this
pub record Takes (s : ServerState) (random_id : ℤ) (posts : List Post) (posted : Posted) (t : ServerState) : Type 0 where
  pub answer : Ok posted ≡ post_answer s random_id posts
  pub server : t ≡ after_post s random_id posts
