-- A request for a difference whose positions are boundaries of the server's boxes. This project's own.
use Rattle.std.specs.Prelude.{◌≡◌, ◌≤◌, ℕ, pos, length}
use Rattle.box_events.specs.Boxes.{IsBoundary}
use Rattle.box_events.specs.declared.requests.Request.{Request}
use Rattle.box_events.specs.declared.requests.Request.TheVariants.{State, Difference, Channel, Post}
use Rattle.box_server.specs.Servers.{ServerState}
use Rattle.box_world.specs.Agreeing.{Boxes}

-- the positions of the common group, and the seq at which its settings stand
pub record GroupFits (s : ServerState) (p q seq : ℕ) : Type 0 where
  pub common : IsBoundary s.common p
  pub secret : IsBoundary s.secret q
  pub settings : seq ≤ length s.settings

-- clients ask for differences alone
abbrev pub RequestFits : ServerState → Boxes → Request → ℕ → Type 0
RequestFits s boxes State seq = ⊥
RequestFits s boxes (Difference pts qts date) seq = (p : ℕ) × (q : ℕ) × (pts ≡ pos p) × (qts ≡ pos q) × GroupFits s p q seq
RequestFits s boxes (Channel id pts) seq = (p : ℕ) × (pts ≡ pos p) × IsBoundary (boxes id) p
RequestFits s boxes (Post random_id posts) seq = ⊥
