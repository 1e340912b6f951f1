-- What is drawn, and the steps that are made of it.
use Rattle.std.proofs.Common.{◌≡◌, ℕ, zero, suc, ◌+◌, ◌%◌, ◌<◌, ◌==◌, if◌then◌else◌, List, [], ◌∷◌, length, Bool, true, false, cond, ltb, Option, Some, None, refl, sym, ap, ◌∙◌, subst, arith}
use Rattle.std.specs.Prelude.{slice_get}
use Rattle.std.proofs.lemmas.Bool.Decides.{nat_tests}
use Rattle.std.proofs.lemmas.Nat.{mod_below}
use Rattle.std.proofs.lemmas.Option.{none-some, same_Some}
use Rattle.box_events.specs.declared.steps.Step.{Step}
use Rattle.box_events.specs.declared.steps.Step.TheVariants as step
use Rattle.box_world.specs.NumberWorlds.{numbers_of}
use Rattle.box_world.specs.declared.fault.StepFault.{StepFault}
use Rattle.box_world.specs.declared.fault.StepFault.TheVariants.{NoClient, NoPacket, PoolFull}
use Rattle.box_world.specs.Possible.{past, client_of, packet_of, goes_wrong, is_for, is_served, or_else, overfull, most_bytes, bytes_in, refusal}
use Rattle.box_world.specs.Worlds.{Packet, World, happens}
use Rattle.update_replay.specs.Draws.{drawn, draw_of}
use Rattle.update_replay.specs.Laws.{DrawsAreSmall, FirstDraw, IsPoolFull, MadeStepsAreRefusedByBytes}
use Rattle.update_replay.specs.Made.{Chosen, drawn_rest, hears_drawn, hears_if, hears_last, serves_last, last_where, or_last, or_date, or_dated, made_step}

pub draws_are_small : DrawsAreSmall
unfolding drawn draw_of
draws_are_small x = (omega arith, omega arith)

pub first_draw : FirstDraw
unfolding drawn draw_of
first_draw = (refl, refl, refl)

-- ---- steps that are refused for the pool's bytes alone

-- the client and the packet that a step names are there, and the packet goes where the step says
record Fits (w : World) (s : Step) : Type 0 where
  client : past NoClient (length w.clients) (client_of s) ≡ None
  packet : past NoPacket (length w.pool) (packet_of s) ≡ None
  way : goes_wrong w s ≡ None

full_if : (b : Bool) (bytes : ℕ) (cause : StepFault) → cond b (Some (PoolFull bytes)) None ≡ Some cause → IsPoolFull cause
full_if true bytes cause e = subst IsPoolFull (same_Some (PoolFull bytes) cause e) tt
full_if false bytes cause e = absurd (none-some cause e)

last_of_four : (a b c d : Option StepFault) → a ≡ None → b ≡ None → c ≡ None → or_else a (or_else b (or_else c d)) ≡ d
last_of_four a b c d p q r = rw (p, q, r) refl

refused_by_bytes : (size : Packet → ℕ) (w : World) (s : Step) (cause : StepFault) → Fits w s → refusal size w s ≡ Some cause → IsPoolFull cause
unfolding refusal
refused_by_bytes size w s cause f e =
    full_if (ltb most_bytes (bytes_in size (happens w s).pool)) (bytes_in size (happens w s).pool) cause (sym (last_of_four _ _ _ (overfull size (happens w s)) f.client f.packet f.way) ∙ e)

-- ---- numbers that are there

is_below : (k n : ℕ) → k < n → ltb k n ≡ true
is_below k n lt = grind (arith, nat_tests)

there : (cause : ℕ → StepFault) (k n : ℕ) → k < n → past cause n (Some k) ≡ None
there cause k n lt = rw (is_below k n lt) refl

in_range : (ps : List Packet) (i : ℕ) (p : Packet) → slice_get ps i ≡ Some p → i < length ps
in_range [] i p e = absurd (none-some p e)
in_range (q ∷ ps) zero p e = omega arith
in_range (q ∷ ps) (suc i) p e = omega (arith, in_range ps i p e)

-- a packet of which something holds
record Found (P : Packet → Bool) (first : ℕ) (ps : List Packet) (m : ℕ) : Type 0 where
  index : ℕ
  packet : Packet
  number : m ≡ first + index
  at : slice_get ps index ≡ Some packet
  holds : P packet ≡ true

found_or : (P : Packet → Bool) (first : ℕ) (p : Packet) (ps : List Packet) (m : ℕ) (o : Option ℕ) (b : Bool) → P p ≡ b → ((k : ℕ) → o ≡ Some k → Found P (first + 1) ps k) → or_last o b first ≡ Some m → Found P first (p ∷ ps) m
found_or P first p ps m (Some k) b holds later e =
    let f = later k refl in let same = same_Some k m e in record { index = suc f.index; packet = f.packet; number = omega (arith, f.number, same); at = f.at; holds = f.holds }
found_or P first p ps m None true holds later e = let same = same_Some first m e in record { index = 0; packet = p; number = omega (arith, same); at = refl; holds = holds }
found_or P first p ps m None false holds later e = absurd (none-some m e)

found : (P : Packet → Bool) (first : ℕ) (ps : List Packet) (m : ℕ) → last_where P first ps ≡ Some m → Found P first ps m
found P first [] m e = absurd (none-some m e)
found P first (p ∷ ps) m e = found_or P first p ps m (last_where P (first + 1) ps) (P p) refl (λ k is. found P (first + 1) ps k is) e

-- ---- each step that is made

date_fits : (w : World) (date : ℕ) → Fits w (step.Date date)
date_fits w date = record { client = refl; packet = refl; way = refl }

hear_fits : (w : World) (k m : ℕ) → k < length w.clients → m < length w.pool → is_for k (slice_get w.pool m) ≡ true → Fits w (step.Hear k m)
hear_fits w k m client packet goes = record { client = there NoClient k (length w.clients) client; packet = there NoPacket m (length w.pool) packet; way = rw goes refl }

serve_fits : (w : World) (m : ℕ) → m < length w.pool → is_served (slice_get w.pool m) ≡ true → Fits w (step.Serve m)
serve_fits w m packet goes = record { client = refl; packet = there NoPacket m (length w.pool) packet; way = rw goes refl }

hears_if_fits : (w : World) (date k m : ℕ) (b : Bool) → is_for k (slice_get w.pool m) ≡ b → k < length w.clients → m < length w.pool → Fits w (or_date date (hears_if b k m))
hears_if_fits w date k m true goes client packet = hear_fits w k m client packet goes
hears_if_fits w date k m false goes client packet = date_fits w (date + 1)

hears_drawn_fits : (w : World) (date k x : ℕ) (pool : List Packet) → w.pool ≡ pool → k < length w.clients → Fits w (or_dated date (hears_drawn pool k x)).it
hears_drawn_fits w date k x [] is client = date_fits w (date + 1)
hears_drawn_fits w date k x (p ∷ ps) is client =
    let m = draw_of x % length (p ∷ ps) in
    hears_if_fits w date k m (is_for k (slice_get (p ∷ ps) m)) (ap (λ (l : List Packet). is_for k (slice_get l m)) is) client (omega (arith, ap length is, mod_below (draw_of x) (length (p ∷ ps)) (omega arith)))

hears_last_fits : (w : World) (date k : ℕ) (o : Option ℕ) → last_where (λ p. is_for k (Some p)) 0 w.pool ≡ o → k < length w.clients → Fits w (or_date date (hears_last k o))
hears_last_fits w date k None is client = date_fits w (date + 1)
hears_last_fits w date k (Some m) is client =
    let f = found (λ p. is_for k (Some p)) 0 w.pool m is in
    let at : slice_get w.pool m ≡ Some f.packet = ap (λ (i : ℕ). slice_get w.pool i) (omega (arith, f.number)) ∙ f.at in
    hear_fits w k m client (in_range w.pool m f.packet at) (ap (λ (p : Option Packet). is_for k p) at ∙ f.holds)

serves_last_fits : (w : World) (date : ℕ) (o : Option ℕ) → last_where (λ p. is_served (Some p)) 0 w.pool ≡ o → Fits w (or_date date (serves_last o))
serves_last_fits w date None is = date_fits w (date + 1)
serves_last_fits w date (Some m) is =
    let f = found (λ p. is_served (Some p)) 0 w.pool m is in
    let at : slice_get w.pool m ≡ Some f.packet = ap (λ (i : ℕ). slice_get w.pool i) (omega (arith, f.number)) ∙ f.at in
    serve_fits w m (in_range w.pool m f.packet at) (ap is_served at ∙ f.holds)

-- either of two steps
pub either : (P : Step → Type 0) (b : Bool) (x y : Chosen Step) → P x.it → P y.it → P (if b then x else y).it
either P true x y is other = is
either P false x y other is = is

one_of_two : (w : World) (x : ℕ) → length w.clients ≡ 2 → draw_of x % 2 < length w.clients
one_of_two w x two = omega (arith, two)

rest_fits : (w : World) (x : ℕ) → length w.clients ≡ 2 → Fits w (drawn_rest x).it
rest_fits w x two =
    let client = there NoClient (draw_of (drawn x) % 2) (length w.clients) (one_of_two w (drawn x) two) in
    either (Fits w) (draw_of x % 16 == 0) _ _ (record { client = client; packet = refl; way = refl }) (either (Fits w) (draw_of x % 16 == 1) _ _ (record { client = refl; packet = refl; way = refl }) (record { client = client; packet = refl; way = refl }))

made_fits : (w : World) (n x : ℕ) → length w.clients ≡ 2 → Fits w (made_step (numbers_of w) n x).it
made_fits w n x two =
    let kind = draw_of x % 8 in
    let k = draw_of (drawn x) % 2 in
    let client = one_of_two w (drawn x) two in
    either (Fits w) (kind == 2) _ _ (date_fits w (w.server.date + 1))
    (either (Fits w) (kind == 3) _ _ (hears_drawn_fits w w.server.date k (drawn (drawn x)) w.pool refl client)
    (either (Fits w) (kind == 4) _ _ (hears_last_fits w w.server.date k (last_where (λ p. is_for k (Some p)) 0 w.pool) refl client)
    (either (Fits w) (kind == 5) _ _ (record { client = there NoClient k (length w.clients) client; packet = refl; way = refl })
    (either (Fits w) (kind == 6) _ _ (serves_last_fits w w.server.date (last_where (λ p. is_served (Some p)) 0 w.pool) refl)
    (either (Fits w) (kind == 7) _ _ (rest_fits w (drawn x) two) (record { client = refl; packet = refl; way = refl }))))))

pub made_steps_are_refused_by_bytes : MadeStepsAreRefusedByBytes
made_steps_are_refused_by_bytes size w n x cause two e = refused_by_bytes size w (made_step (numbers_of w) n x).it cause (made_fits w n x two) e
