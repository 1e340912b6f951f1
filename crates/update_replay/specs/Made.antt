-- The steps of a made run, each chosen by draws on the world as it stands. This project's own.
use Rattle.std.specs.Prelude.{ℕ, zero, suc, ◌+◌, ◌%◌, ℤ, pos, List, [], ◌∷◌, length, Bool, true, false, cond, Option, Some, None, slice_get, if◌then◌else◌, ◌==◌}
use Rattle.std.specs.Int.{w32, cast_signed, to_le_bytes}
use Rattle.box_events.specs.declared.requests.Post.{Post}
use Rattle.box_events.specs.declared.requests.Post.TheVariants.{Message, Delete, Secret, Setting}
use Rattle.box_events.specs.declared.steps.Step.{Step}
use Rattle.box_events.specs.declared.steps.Step.TheVariants as step
use Rattle.box_world.specs.Worlds.{Packet}
use Rattle.box_world.specs.Possible.{is_for, is_served}
use Rattle.box_world.specs.NumberWorlds.{NumberWorld, n_happens, n_run}
use Rattle.update_replay.specs.Draws.{drawn, draw_of}

-- what was chosen, and the generator's number after the draws that it took
pub record Chosen (A : Type 0) : Type 0 where
  pub it : A
  pub x : ℕ

-- a draw, modulo n
abbrev pub drawn_below : ℕ → ℕ → Chosen ℕ
drawn_below n x = record { it = draw_of x % n; x = drawn x }

-- a body of a draw in four bytes
abbrev pub drawn_body : ℕ → Chosen (List ℕ)
drawn_body x = record { it = to_le_bytes w32 (draw_of x); x = drawn x }

-- so many ids, each a draw
abbrev pub drawn_ids : ℕ → ℕ → Chosen (List ℤ)
drawn_ids zero x = record { it = []; x = x }
drawn_ids (suc n) x = let more = drawn_ids n (drawn x) in record { it = cast_signed w32 (draw_of x) ∷ more.it; x = more.x }

-- ---- posts

abbrev pub drawn_message : ℕ → Chosen Post
drawn_message x = let body = drawn_body x in record { it = Message body.it; x = body.x }

-- one to three ids
abbrev pub drawn_delete : ℕ → Chosen Post
drawn_delete x = let n = drawn_below 3 x in let ids = drawn_ids (1 + n.it) n.x in record { it = Delete ids.it; x = ids.x }

abbrev pub drawn_secret : ℕ → Chosen Post
drawn_secret x = let body = drawn_body x in record { it = Secret body.it; x = body.x }

-- the key is a letter from a to p
abbrev pub drawn_setting : ℕ → Chosen Post
drawn_setting x = let key = drawn_below 16 x in let body = drawn_body key.x in record { it = Setting ((97 + key.it) ∷ []) body.it; x = body.x }

abbrev pub drawn_post : ℕ → Chosen Post
drawn_post x =
    let kind = drawn_below 4 x in
    if kind.it == 0 then drawn_message kind.x
    else if kind.it == 1 then drawn_delete kind.x
    else if kind.it == 2 then drawn_secret kind.x
    else drawn_setting kind.x

-- ---- packets

abbrev pub or_last : Option ℕ → Bool → ℕ → Option ℕ
or_last (Some k) is m = Some k
or_last None is m = cond is (Some m) None

-- the number of the last packet of which something holds, where the first has number m
abbrev pub last_where : (Packet → Bool) → ℕ → List Packet → Option ℕ
last_where P m [] = None
last_where P m (p ∷ ps) = or_last (last_where P (m + 1) ps) (P p) m

abbrev pub hears_if : Bool → ℕ → ℕ → Option Step
hears_if true k m = Some (step.Hear k m)
hears_if false k m = None

abbrev pub hears_last : ℕ → Option ℕ → Option Step
hears_last k None = None
hears_last k (Some m) = Some (step.Hear k m)

abbrev pub serves_last : Option ℕ → Option Step
serves_last None = None
serves_last (Some m) = Some (step.Serve m)

-- client k hears a packet that is drawn, where it may; of an empty pool none is drawn
abbrev pub hears_drawn : List Packet → ℕ → ℕ → Chosen (Option Step)
hears_drawn [] k x = record { it = None; x = x }
hears_drawn (p ∷ ps) k x = let m = drawn_below (length (p ∷ ps)) x in record { it = hears_if (is_for k (slice_get (p ∷ ps) m.it)) k m.it; x = m.x }

-- ---- steps

-- the server's clock shows one second more where the step that was chosen can't be made
abbrev pub or_date : ℕ → Option Step → Step
or_date date None = step.Date (date + 1)
or_date date (Some s) = s

abbrev pub or_dated : ℕ → Chosen (Option Step) → Chosen Step
or_dated date c = record { it = or_date date c.it; x = c.x }

abbrev pub drawn_client : (ℕ → Step) → ℕ → Chosen Step
drawn_client f x = let k = drawn_below 2 x in record { it = f k.it; x = k.x }

-- what begins anew, or is pushed, or is woken
abbrev pub drawn_rest : ℕ → Chosen Step
drawn_rest x =
    let kind = drawn_below 16 x in
    if kind.it == 0 then drawn_client step.Restart kind.x
    else if kind.it == 1 then record { it = step.TooLong; x = kind.x }
    else drawn_client step.Wake kind.x

-- a client hears any packet
abbrev pub drawn_hear : NumberWorld → ℕ → Chosen Step
drawn_hear w x = let k = drawn_below 2 x in or_dated w.server.date (hears_drawn w.pool k.it k.x)

-- a client hears the last packet that it may
abbrev pub drawn_last : NumberWorld → ℕ → Chosen Step
drawn_last w x = let k = drawn_below 2 x in record { it = or_date w.server.date (hears_last k.it (last_where (λ p. is_for k.it (Some p)) 0 w.pool)); x = k.x }

-- one post, under the step's number
abbrev pub drawn_posted : ℕ → ℕ → Chosen Step
drawn_posted n x = let post = drawn_post x in record { it = step.Post (pos n) (post.it ∷ []); x = post.x }

-- the last request is answered
abbrev pub served_last : NumberWorld → Step
served_last w = or_date w.server.date (serves_last (last_where (λ p. is_served (Some p)) 0 w.pool))

-- step number n in a world with two clients
abbrev pub made_step : NumberWorld → ℕ → ℕ → Chosen Step
made_step w n x =
    let kind = drawn_below 8 x in
    if kind.it == 2 then record { it = or_date w.server.date None; x = kind.x }
    else if kind.it == 3 then drawn_hear w kind.x
    else if kind.it == 4 then drawn_last w kind.x
    else if kind.it == 5 then drawn_client step.Tick kind.x
    else if kind.it == 6 then record { it = served_last w; x = kind.x }
    else if kind.it == 7 then drawn_rest kind.x
    else drawn_posted n kind.x

-- so many steps from number n on, in a world and with the generator's number
abbrev pub made_from : ℕ → NumberWorld → ℕ → ℕ → List Step
made_from zero w n x = []
made_from (suc more) w n x = let s = made_step w n x in s.it ∷ made_from more (n_happens w s.it) (n + 1) s.x

-- the steps of a made run
abbrev pub made_steps : ℕ → ℕ → List Step
made_steps number count = made_from count (n_run 2 []) 0 number
