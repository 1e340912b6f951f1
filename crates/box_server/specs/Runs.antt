-- What a difference carries of a box, and the recent messages of a channel.
-- From "Working with Updates" (core.telegram.org/api/updates), in that a difference may carry a part of what is new; the limits are this
-- project's own.
use Rattle.std.specs.Prelude.{ℕ, zero, suc, ◌-◌, List, [], ◌∷◌, length, reverse, leb, if◌then◌else◌, Option, Some, None}
use Rattle.box_events.specs.declared.limits.TheConstants.{RUN_EVENTS, RUN_BYTES, RECENT_EVENTS, RECENT_BYTES}
use Rattle.box_events.specs.Events.{EventView, count_of}
use Rattle.box_events.specs.Weaving.{bodies}
use Rattle.box_server.specs.Entries.{bytes_of}

-- the events after a boundary; none where the number is no boundary
abbrev pub events_after : List EventView → ℕ → Option (List EventView)
events_after es zero = Some es
events_after [] (suc p) = None
events_after (e ∷ es) (suc p) = if leb (count_of e) (suc p) then events_after es (suc p - count_of e) else None

-- the longest prefix of at most n items that have b bytes
unfoldable pub limited : {A : Type 0} → (A → ℕ) → ℕ → ℕ → List A → List A
limited size zero b xs = []
limited size (suc n) b [] = []
limited size (suc n) b (x ∷ xs) = if leb (size x) b then x ∷ limited size n (b - size x) xs else []

-- of the events after a position: those that a difference carries
abbrev pub run_of : List EventView → List EventView
run_of es = limited bytes_of RUN_EVENTS RUN_BYTES es

-- of messages, by their bodies: the last that are told of a channel, in order
abbrev pub last_bodies : List (List ℕ) → List (List ℕ)
last_bodies bs = reverse (limited length RECENT_EVENTS RECENT_BYTES (reverse bs))

-- the last messages of a box, by their bodies
abbrev pub recent_of : List EventView → List (List ℕ)
recent_of es = last_bodies (bodies es)
