-- How many bytes made steps have in a journal.
use Rattle.std.proofs.Common.{◌≡◌, ℕ, zero, suc, ◌+◌, ◌*◌, ◌%◌, ◌≤◌, ◌==◌, if◌then◌else◌, ℤ, pos, List, [], ◌∷◌, length, Bool, true, false, Option, Some, None, refl, ap, arith}
use Rattle.std.specs.Prelude.{slice_get}
use Rattle.std.specs.Int.{w32, to_le_bytes}
use Rattle.tl_types.specs.Values.{int}
use Rattle.wire_forms.specs.declared.form.Cell.TheVariants.{Signed, One}
use Rattle.wire_forms.specs.declared.numbers.TheConstants.{POST_TYPE}
use Rattle.wire_forms.specs.Forms.{forms}
use Rattle.wire_forms.specs.Parts.{row}
use Rattle.wire_values.specs.Posts.{post_tree}
use Rattle.box_events.specs.declared.requests.Post.{Post}
use Rattle.box_events.specs.declared.requests.Post.TheVariants.{Message, Delete, Secret, Setting}
use Rattle.box_events.specs.declared.steps.Step.{Step}
use Rattle.box_events.specs.declared.steps.Step.TheVariants as step
use Rattle.box_world.specs.NumberWorlds.{NumberWorld}
use Rattle.box_world.specs.Possible.{is_for, is_served}
use Rattle.box_world.specs.Worlds.{Packet}
use Rattle.box_world.specs.Sizes.{size_in, sizes_of, step_size}
use Rattle.box_world.proofs.PartSizes.{text_size}
use Rattle.update_replay.specs.Draws.{drawn, draw_of}
use Rattle.update_replay.specs.Made.{Chosen, drawn_body, drawn_ids, drawn_post, drawn_rest, hears_drawn, hears_if, hears_last, serves_last, last_where, or_date, or_dated, made_step}
use Rattle.update_replay.proofs.DrawLaws.{either}

-- ---- posts

ids_size : (ids : List ℤ) → sizes_of Signed (row int ids) ≡ 4 * length ids
ids_size [] = refl
ids_size (x ∷ xs) = let e = ids_size xs in omega (arith, e)

four : (n : ℕ) → length (to_le_bytes w32 n) ≡ 4
four n = refl

so_many : (n x : ℕ) → length (drawn_ids n x).it ≡ n
so_many zero x = refl
so_many (suc n) x = ap suc (so_many n (drawn x))

abbrev PostIsShort : Post → Type 0
PostIsShort p = size_in (One POST_TYPE) (post_tree p) ≤ 28

message_short : (body : List ℕ) → length body ≡ 4 → PostIsShort (Message body)
unfolding forms
message_short body is = let t = text_size body in omega (arith, t, is)

secret_short : (body : List ℕ) → length body ≡ 4 → PostIsShort (Secret body)
unfolding forms
secret_short body is = let t = text_size body in omega (arith, t, is)

setting_short : (key content : List ℕ) → length key ≡ 1 → length content ≡ 4 → PostIsShort (Setting key content)
unfolding forms
setting_short key content one is = let k = text_size key in let t = text_size content in omega (arith, k, t, one, is)

delete_short : (ids : List ℤ) → length ids ≤ 3 → PostIsShort (Delete ids)
unfolding forms
delete_short ids few = let n = ids_size ids in omega (arith, n, few)

drawn_delete_short : (x : ℕ) → PostIsShort (Delete (drawn_ids (1 + draw_of x % 3) (drawn x)).it)
drawn_delete_short x = let many = so_many (1 + draw_of x % 3) (drawn x) in delete_short (drawn_ids (1 + draw_of x % 3) (drawn x)).it (omega (arith, many))

-- either of two posts
either_post : (b : Bool) (x y : Chosen Post) → PostIsShort x.it → PostIsShort y.it → PostIsShort (if b then x else y).it
either_post true x y is other = is
either_post false x y is other = other

drawn_post_short : (x : ℕ) → PostIsShort (drawn_post x).it
drawn_post_short x =
    let kind = draw_of x % 4 in
    either_post (kind == 0) _ _ (message_short (drawn_body (drawn x)).it (four (draw_of (drawn x))))
    (either_post (kind == 1) _ _ (drawn_delete_short (drawn x))
    (either_post (kind == 2) _ _ (secret_short (drawn_body (drawn x)).it (four (draw_of (drawn x))))
    (setting_short ((97 + draw_of (drawn x) % 16) ∷ []) (drawn_body (drawn (drawn x))).it refl (four (draw_of (drawn (drawn x)))))))

-- ---- steps

abbrev pub IsShort : Step → Type 0
IsShort s = step_size s ≤ 48

post_short : (id : ℤ) (p : Post) → PostIsShort p → IsShort (step.Post id (p ∷ []))
unfolding forms
post_short id p few = omega (arith, few)

date_short : (date : ℕ) → IsShort (step.Date date)
unfolding forms
date_short date = omega arith

serve_short : (m : ℕ) → IsShort (step.Serve m)
unfolding forms
serve_short m = omega arith

hear_short : (k m : ℕ) → IsShort (step.Hear k m)
unfolding forms
hear_short k m = omega arith

tick_short : (k : ℕ) → IsShort (step.Tick k)
unfolding forms
tick_short k = omega arith

wake_short : (k : ℕ) → IsShort (step.Wake k)
unfolding forms
wake_short k = omega arith

restart_short : (k : ℕ) → IsShort (step.Restart k)
unfolding forms
restart_short k = omega arith

too_long_short : IsShort step.TooLong
unfolding forms
too_long_short = omega arith

if_short : (date k m : ℕ) (b : Bool) → IsShort (or_date date (hears_if b k m))
if_short date k m true = hear_short k m
if_short date k m false = date_short (date + 1)

drawn_short : (date k x : ℕ) (pool : List Packet) → IsShort (or_dated date (hears_drawn pool k x)).it
drawn_short date k x [] = date_short (date + 1)
drawn_short date k x (p ∷ ps) = if_short date k _ (is_for k (slice_get (p ∷ ps) _))

last_short : (date k : ℕ) (o : Option ℕ) → IsShort (or_date date (hears_last k o))
last_short date k None = date_short (date + 1)
last_short date k (Some m) = hear_short k m

served_short : (date : ℕ) (o : Option ℕ) → IsShort (or_date date (serves_last o))
served_short date None = date_short (date + 1)
served_short date (Some m) = serve_short m

rest_short : (x : ℕ) → IsShort (drawn_rest x).it
rest_short x = either IsShort (draw_of x % 16 == 0) _ _ (restart_short (draw_of (drawn x) % 2)) (either IsShort (draw_of x % 16 == 1) _ _ too_long_short (wake_short (draw_of (drawn x) % 2)))

pub made_short : (w : NumberWorld) (n x : ℕ) → IsShort (made_step w n x).it
made_short w n x =
    let kind = draw_of x % 8 in
    let k = draw_of (drawn x) % 2 in
    either IsShort (kind == 2) _ _ (date_short (w.server.date + 1))
    (either IsShort (kind == 3) _ _ (drawn_short w.server.date k (drawn (drawn x)) w.pool)
    (either IsShort (kind == 4) _ _ (last_short w.server.date k (last_where (λ p. is_for k (Some p)) 0 w.pool))
    (either IsShort (kind == 5) _ _ (tick_short k)
    (either IsShort (kind == 6) _ _ (served_short w.server.date (last_where (λ p. is_served (Some p)) 0 w.pool))
    (either IsShort (kind == 7) _ _ (rest_short (drawn x)) (post_short (pos n) (drawn_post (drawn x)).it (drawn_post_short (drawn x))))))))

-- ---- runs

abbrev pub sizes : List Step → ℕ
sizes [] = 0
sizes (s ∷ ss) = step_size s + sizes ss
