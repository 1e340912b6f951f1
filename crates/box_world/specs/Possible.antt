-- Which steps are possible in a world, and why another is refused. This project's own.
use Rattle.std.specs.Prelude.{◌≡◌, ℕ, ◌+◌, List, [], ◌∷◌, length, Bool, true, false, ltb, eqb, cond, Option, Some, None, slice_get}
use Rattle.box_events.specs.declared.steps.Step.{Step}
use Rattle.box_events.specs.declared.steps.Step.TheVariants as step
use Rattle.box_world.specs.declared.fault.StepFault.{StepFault}
use Rattle.box_world.specs.declared.fault.StepFault.TheVariants.{NoClient, NoPacket, PoolFull, WrongEnd}
use Rattle.box_world.specs.Worlds.{Packet, push, request, reply, World, happens}

-- the packets of a pool have so many bytes at most
unfoldable pub most_bytes : ℕ
most_bytes = 67108864

abbrev pub client_of : Step → Option ℕ
client_of (step.Hear k m) = Some k
client_of (step.Tick k) = Some k
client_of (step.Wake k) = Some k
client_of (step.Watch k id) = Some k
client_of (step.Restart k) = Some k
client_of s = None

abbrev pub packet_of : Step → Option ℕ
packet_of (step.Serve m) = Some m
packet_of (step.Hear k m) = Some m
packet_of s = None

-- the cause, where a number is named that isn't below a count
abbrev pub past : (ℕ → StepFault) → ℕ → Option ℕ → Option StepFault
past cause count None = None
past cause count (Some n) = cond (ltb n count) None (Some (cause n))

-- the server answers requests alone
abbrev pub is_served : Option Packet → Bool
is_served None = true
is_served (Some (push p)) = false
is_served (Some (request k n)) = true
is_served (Some (reply k n r s)) = false

-- a client receives pushes and the replies to it
abbrev pub is_for : ℕ → Option Packet → Bool
is_for k None = true
is_for k (Some (push p)) = true
is_for k (Some (request j n)) = false
is_for k (Some (reply j n r s)) = eqb j k

abbrev pub wrong : Bool → ℕ → Option StepFault
wrong fits m = cond fits None (Some (WrongEnd m))

abbrev pub goes_wrong : World → Step → Option StepFault
goes_wrong w (step.Serve m) = wrong (is_served (slice_get w.pool m)) m
goes_wrong w (step.Hear k m) = wrong (is_for k (slice_get w.pool m)) m
goes_wrong w s = None

-- how many bytes packets have, each by its own
abbrev pub bytes_in : (Packet → ℕ) → List Packet → ℕ
bytes_in size [] = 0
bytes_in size (m ∷ ms) = size m + bytes_in size ms

abbrev pub overfull : (Packet → ℕ) → World → Option StepFault
overfull size w = cond (ltb most_bytes (bytes_in size w.pool)) (Some (PoolFull (bytes_in size w.pool))) None

-- the first of two
abbrev pub or_else : Option StepFault → Option StepFault → Option StepFault
or_else None o = o
or_else (Some cause) o = Some cause

-- why a step isn't possible, the first cause that holds; a packet's size is handed in
unfoldable pub refusal : (Packet → ℕ) → World → Step → Option StepFault
refusal size w s =
    or_else (past NoClient (length w.clients) (client_of s))
    (or_else (past NoPacket (length w.pool) (packet_of s))
    (or_else (goes_wrong w s) (overfull size (happens w s))))

abbrev pub Possible : (Packet → ℕ) → World → Step → Type 0
Possible size w s = refusal size w s ≡ None

-- each step is possible in the world before it
abbrev pub AllPossible : (Packet → ℕ) → World → List Step → Type 0
AllPossible size w [] = Unit {0}
AllPossible size w (s ∷ ss) = Possible size w s × AllPossible size (happens w s) ss
