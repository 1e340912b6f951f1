-- The first cause why a step isn't possible.
use Rattle.std.proofs.Common.{◌≡◌, ℕ, ◌<◌, ◌≤◌, length, Bool, true, false, ltb, cond, Option, Some, None, refl, sym, ap, ◌∙◌, arith}
use Rattle.std.proofs.lemmas.Option.{none-some}
use Rattle.std.proofs.lemmas.Bool.Decides.{nat_tests}
use Rattle.box_events.specs.declared.steps.Step.{Step}
use Rattle.box_world.specs.Worlds.{Packet, World, happens}
use Rattle.box_world.specs.declared.fault.StepFault.{StepFault}
use Rattle.box_world.specs.declared.fault.StepFault.TheVariants.{NoClient, NoPacket, PoolFull}
use Rattle.box_world.specs.Possible.{most_bytes, client_of, packet_of, past, goes_wrong, bytes_in, overfull, or_else, refusal}
use Rattle.update_world.specs.declared.limits.TheConstants.{MAX_POOL_BYTES}

-- the client and the packet of a step are there, and go together
pub record Reaches (w : World) (s : Step) : Type 0 where
  pub client : past NoClient (length w.clients) (client_of s) ≡ None
  pub packet : past NoPacket (length w.pool) (packet_of s) ≡ None
  pub right : goes_wrong w s ≡ None

below : (n m : ℕ) → n < m → ltb n m ≡ true
below n m lt = grind (arith, nat_tests)

not_below : (n m : ℕ) → m ≤ n → ltb n m ≡ false
not_below n m le = grind (arith, nat_tests)

-- a number that is there, and one that isn't
pub there : (cause : ℕ → StepFault) (count n : ℕ) → n < count → past cause count (Some n) ≡ None
there cause count n lt = ap (λ (b : Bool). cond b None (Some (cause n))) (below n count lt)

far : (cause : ℕ → StepFault) (count n : ℕ) (o : Option ℕ) → o ≡ Some n → count ≤ n → past cause count o ≡ Some (cause n)
far cause count n o is le = ap (past cause count) is ∙ ap (λ (b : Bool). cond b None (Some (cause n))) (not_below n count le)

-- ---- the causes in order

pub far_client : (size : Packet → ℕ) (w : World) (s : Step) (k : ℕ) → client_of s ≡ Some k → length w.clients ≤ k → refusal size w s ≡ Some (NoClient k)
unfolding refusal
far_client size w s k is le =
    ap (λ (o : Option StepFault). or_else o (or_else (past NoPacket (length w.pool) (packet_of s)) (or_else (goes_wrong w s) (overfull size (happens w s))))) (far NoClient (length w.clients) k (client_of s) is le)

pub far_packet : (size : Packet → ℕ) (w : World) (s : Step) (m : ℕ) → past NoClient (length w.clients) (client_of s) ≡ None → packet_of s ≡ Some m → length w.pool ≤ m → refusal size w s ≡ Some (NoPacket m)
unfolding refusal
far_packet size w s m client is le = λ i. or_else (client i) (or_else (far NoPacket (length w.pool) m (packet_of s) is le i) (or_else (goes_wrong w s) (overfull size (happens w s))))

pub wrong_packet : (size : Packet → ℕ) (w : World) (s : Step) (cause : StepFault) → past NoClient (length w.clients) (client_of s) ≡ None → past NoPacket (length w.pool) (packet_of s) ≡ None → goes_wrong w s ≡ Some cause → refusal size w s ≡ Some cause
unfolding refusal
wrong_packet size w s cause client packet wrong = λ i. or_else (client i) (or_else (packet i) (or_else (wrong i) (overfull size (happens w s))))

-- ---- the bytes

reached : (size : Packet → ℕ) (w : World) (s : Step) → Reaches w s → refusal size w s ≡ overfull size (happens w s)
unfolding refusal
reached size w s r = λ i. or_else (r.client i) (or_else (r.packet i) (or_else (r.right i) (overfull size (happens w s))))

by_bytes : (b : Bool) (n : ℕ) → ltb most_bytes n ≡ b → cond (ltb most_bytes n) (Some (PoolFull n)) None ≡ cond b (Some (PoolFull n)) None
by_bytes b n is = ap (λ (t : Bool). cond t (Some (PoolFull n)) None) is

few : (n : ℕ) → n ≤ MAX_POOL_BYTES → ltb most_bytes n ≡ false
unfolding most_bytes
few n le = not_below MAX_POOL_BYTES n le

many : (n : ℕ) → MAX_POOL_BYTES < n → ltb most_bytes n ≡ true
unfolding most_bytes
many n lt = below MAX_POOL_BYTES n lt

pub possible : (size : Packet → ℕ) (w : World) (s : Step) → Reaches w s → bytes_in size (happens w s).pool ≤ MAX_POOL_BYTES → refusal size w s ≡ None
possible size w s r le = reached size w s r ∙ by_bytes false (bytes_in size (happens w s).pool) (few (bytes_in size (happens w s).pool) le)

pub too_full : (size : Packet → ℕ) (w : World) (s : Step) → Reaches w s → MAX_POOL_BYTES < bytes_in size (happens w s).pool → refusal size w s ≡ Some (PoolFull (bytes_in size (happens w s).pool))
too_full size w s r lt = reached size w s r ∙ by_bytes true (bytes_in size (happens w s).pool) (many (bytes_in size (happens w s).pool) lt)

-- a possible step leaves a pool that isn't too full
none_else : (a b : Option StepFault) → or_else a b ≡ None → b ≡ None
none_else None b e = e
none_else (Some cause) b e = absurd (none-some cause (sym e))

few_by : (b : Bool) (n : ℕ) → ltb most_bytes n ≡ b → cond b (Some (PoolFull n)) None ≡ None → n ≤ MAX_POOL_BYTES
unfolding most_bytes
few_by true n is none = absurd (none-some (PoolFull n) (sym none))
few_by false n is none = grind (arith, nat_tests)

pub not_full : (size : Packet → ℕ) (w : World) (s : Step) → refusal size w s ≡ None → bytes_in size (happens w s).pool ≤ MAX_POOL_BYTES
unfolding refusal
not_full size w s none =
    let over : overfull size (happens w s) ≡ None =
    none_else (goes_wrong w s) (overfull size (happens w s)) (none_else (past NoPacket (length w.pool) (packet_of s)) (or_else (goes_wrong w s) (overfull size (happens w s))) (none_else (past NoClient (length w.clients) (client_of s)) _ none)) in
    few_by (ltb most_bytes (bytes_in size (happens w s).pool)) (bytes_in size (happens w s).pool) refl over

-- what a possible step names is there
first_none : (a b : Option StepFault) → or_else a b ≡ None → a ≡ None
first_none None b e = refl
first_none (Some cause) b e = absurd (none-some cause (sym e))

below_by : (b : Bool) (cause : ℕ → StepFault) (count n : ℕ) → ltb n count ≡ b → cond b None (Some (cause n)) ≡ None → n < count
below_by true cause count n is none = grind (arith, nat_tests)
below_by false cause count n is none = absurd (none-some (cause n) (sym none))

named : (cause : ℕ → StepFault) (count : ℕ) (o : Option ℕ) (n : ℕ) → past cause count o ≡ None → o ≡ Some n → n < count
named cause count o n none is = below_by (ltb n count) cause count n refl (ap (past cause count) (sym is) ∙ none)

pub named_client : (size : Packet → ℕ) (w : World) (s : Step) → refusal size w s ≡ None → (k : ℕ) → client_of s ≡ Some k → k < length w.clients
unfolding refusal
named_client size w s none k is = named NoClient (length w.clients) (client_of s) k (first_none (past NoClient (length w.clients) (client_of s)) _ none) is

pub named_packet : (size : Packet → ℕ) (w : World) (s : Step) → refusal size w s ≡ None → (m : ℕ) → packet_of s ≡ Some m → m < length w.pool
unfolding refusal
named_packet size w s none m is =
    let rest : or_else (past NoPacket (length w.pool) (packet_of s)) (or_else (goes_wrong w s) (overfull size (happens w s))) ≡ None = none_else (past NoClient (length w.clients) (client_of s)) _ none in
    named NoPacket (length w.pool) (packet_of s) m (first_none (past NoPacket (length w.pool) (packet_of s)) _ rest) is
