-- Posts and steps, and their values.
use Rattle.std.proofs.Common.{◌≡◌, ℕ, List, [], ◌∷◌, refl, sym, ap, ◌∙◌}
use Rattle.std.specs.Prelude.{ℤ, IsTrue}
use Rattle.tl_types.specs.Values.{ValueView, int, long, list, node, ValueViews, no_values, value, values_of}
use Rattle.box_events.specs.declared.requests.Post.{Post}
use Rattle.box_events.specs.declared.requests.Post.TheVariants as post
use Rattle.box_events.specs.declared.steps.Step.{Step}
use Rattle.box_events.specs.declared.steps.Step.TheVariants as step
use Rattle.wire_forms.specs.declared.form.Cell.{Cell}
use Rattle.wire_forms.specs.declared.form.Cell.TheVariants.{Whole, Signed, Long, Body, Key, Ids, Many, One}
use Rattle.wire_forms.specs.declared.numbers.TheConstants.{POST_TYPE, POST_MESSAGE, POST_EDIT, POST_DELETE, POST_SECRET, POST_CHANNEL_MESSAGE, POST_CHANNEL_EDIT, POST_CHANNEL_DELETE, POST_SETTING, POST_READ, POST_CHANNEL_READ, STEP_TYPE, STEP_POST, STEP_DATE, STEP_SERVE, STEP_HEAR, STEP_TICK, STEP_WAKE, STEP_WATCH, STEP_RESTART, STEP_TOO_LONG, STEP_CHANNEL_TOO_LONG}
use Rattle.wire_forms.specs.Forms.{forms, constructs, cells_of}
use Rattle.wire_forms.specs.Parts.{first, at, parts_of, entry_of, int_of, long_of, word_of, number, each, row}
use Rattle.wire_forms.specs.IsOf.{IsOf, AreOf}
use Rattle.wire_forms.proofs.Words.{again, number_is}
use Rattle.wire_forms.proofs.Cells.{fields_are, field_at, many_are}
use Rattle.wire_forms.proofs.Records.{AllOf, opened, by_member, list_same, each_back}
use Rattle.wire_values.specs.Posts.{post_tree, post_at, post_in}
use Rattle.wire_values.specs.Steps.{step_tree, step_at, step_in}
use Rattle.wire_values.specs.CarriedFrames.{IsList}
use Rattle.wire_values.specs.Carried.{FitsPost, FitsStep}
use Rattle.wire_values.proofs.FitFrames.{list_fits, ids_fit}

-- ---- posts

abbrev SamePost : ℕ → List Cell → Type 0
SamePost k cs = (ts : ValueViews) → AreOf (first ts) cs ts → post_tree (post_at k ts) ≡ node k ts

post_forms : (k : ℕ) → IsTrue (constructs POST_TYPE k) → SamePost k (cells_of k)
unfolding forms
post_forms = by_member SamePost POST_TYPE (
  (λ ts s. ap (node POST_MESSAGE) (fields_are (first ts) (Body ∷ []) ts s)),
  (
    (λ ts s. ap (node POST_EDIT) (fields_are (first ts) (Body ∷ []) ts s)),
    (
      (λ ts s. ap (node POST_DELETE) (fields_are (first ts) (Ids ∷ []) ts s)),
      (
        (λ ts s. ap (node POST_SECRET) (fields_are (first ts) (Body ∷ []) ts s)),
        (
          (λ ts s. ap (node POST_CHANNEL_MESSAGE) (fields_are (first ts) (Long ∷ Body ∷ []) ts s)),
          (
            (λ ts s. ap (node POST_CHANNEL_EDIT) (fields_are (first ts) (Long ∷ Body ∷ []) ts s)),
            (
              (λ ts s. ap (node POST_CHANNEL_DELETE) (fields_are (first ts) (Long ∷ Ids ∷ []) ts s)),
              (
                (λ ts s. ap (node POST_SETTING) (fields_are (first ts) (Key ∷ Body ∷ []) ts s)),
                (
                  (λ ts s. ap (node POST_READ) (fields_are (first ts) (Signed ∷ []) ts s)),
                  (
                    (λ ts s. ap (node POST_CHANNEL_READ) (fields_are (first ts) (Long ∷ Signed ∷ []) ts s)),
                    tt,
                  ),
                ),
              ),
            ),
          ),
        ),
      ),
    ),
  ),
)

post_same : (t : ValueView) → IsOf (One POST_TYPE) t → post_tree (post_in t) ≡ t
post_same t s =
    let o = opened POST_TYPE t s in
    post_forms (entry_of t) o.member (parts_of t) o.fields ∙ sym o.is

abbrev Any : ValueView → Type 0
Any t = Unit {0}

any_all : (ts : ValueViews) → AllOf Any ts
any_all no_values = tt
any_all (value t ts) = (tt, any_all ts)

pub posts_same : (t : ValueView) → IsOf (Many POST_TYPE) t → row post_tree (each post_in (parts_of t)) ≡ parts_of t
posts_same t s = list_same (One POST_TYPE) Any post_in post_tree (λ u is a. post_same u is) (parts_of t) (many_are POST_TYPE t s).1 (any_all (parts_of t))

ids_again : (ids : List ℤ) → each int_of (row int ids) ≡ ids
ids_again ids = each_back int_of int (λ z. refl) ids

post_back : (p : Post) → post_in (post_tree p) ≡ p
post_back (post.Message body) = refl
post_back (post.Edit body) = refl
post_back (post.Delete ids) = ap post.Delete (ids_again ids)
post_back (post.Secret body) = refl
post_back (post.ChannelMessage id body) = refl
post_back (post.ChannelEdit id body) = refl
post_back (post.ChannelDelete id ids) = ap (post.ChannelDelete id) (ids_again ids)
post_back (post.Setting key content) = refl
post_back (post.Read max_id) = refl
post_back (post.ChannelRead id max_id) = refl

pub posts_back : (ps : List Post) → each post_in (row post_tree ps) ≡ ps
posts_back ps = each_back post_in post_tree post_back ps

post_fits : (p : Post) → FitsPost p → IsOf (One POST_TYPE) (post_tree p)
unfolding forms
post_fits (post.Message body) s = (refl, (s, tt))
post_fits (post.Edit body) s = (refl, (s, tt))
post_fits (post.Delete ids) s = (refl, (ids_fit ids s, tt))
post_fits (post.Secret body) s = (refl, (s, tt))
post_fits (post.ChannelMessage id body) s = (refl, (s.0, (s.1, tt)))
post_fits (post.ChannelEdit id body) s = (refl, (s.0, (s.1, tt)))
post_fits (post.ChannelDelete id ids) s = (refl, (s.0, (ids_fit ids s.1, tt)))
post_fits (post.Setting key content) s = (refl, (s.0, (s.1, tt)))
post_fits (post.Read max_id) s = (refl, (s, tt))
post_fits (post.ChannelRead id max_id) s = (refl, (s.0, (s.1, tt)))

pub posts_fit : (ps : List Post) → IsList FitsPost ps → IsOf (Many POST_TYPE) (list (row post_tree ps))
posts_fit ps s = list_fits FitsPost (One POST_TYPE) post_tree post_fits ps s

-- ---- steps

abbrev SameStep : ℕ → List Cell → Type 0
SameStep k cs = (ts : ValueViews) → AreOf (first ts) cs ts → step_tree (step_at k ts) ≡ node k ts

post_step : SameStep STEP_POST (Long ∷ Many POST_TYPE ∷ [])
post_step ts s =
    ap (λ (u : ValueViews). node STEP_POST (values_of (long (long_of (at 0 ts)) ∷ list u ∷ []))) (posts_same (at 1 ts) (field_at (first ts) 1 (Long ∷ Many POST_TYPE ∷ []) ts s))
    ∙ ap (node STEP_POST) (fields_are (first ts) (Long ∷ Many POST_TYPE ∷ []) ts s)

step_forms : (k : ℕ) → IsTrue (constructs STEP_TYPE k) → SameStep k (cells_of k)
unfolding forms
step_forms = by_member SameStep STEP_TYPE (
  post_step,
  (
    (λ ts s. ap (node STEP_DATE) (fields_are (first ts) (Whole ∷ []) ts s)),
    (
      (λ ts s. ap (node STEP_SERVE) (fields_are (first ts) (Whole ∷ []) ts s)),
      (
        (λ ts s. ap (node STEP_HEAR) (fields_are (first ts) (Whole ∷ Whole ∷ []) ts s)),
        (
          (λ ts s. ap (node STEP_TICK) (fields_are (first ts) (Whole ∷ []) ts s)),
          (
            (λ ts s. ap (node STEP_WAKE) (fields_are (first ts) (Whole ∷ []) ts s)),
            (
              (λ ts s. ap (node STEP_WATCH) (fields_are (first ts) (Whole ∷ Long ∷ []) ts s)),
              (
                (λ ts s. ap (node STEP_RESTART) (fields_are (first ts) (Whole ∷ []) ts s)),
                (
                  (λ ts s. ap (node STEP_TOO_LONG) (fields_are (first ts) [] ts s)),
                  (
                    (λ ts s. ap (node STEP_CHANNEL_TOO_LONG) (fields_are (first ts) (Long ∷ []) ts s)),
                    tt,
                  ),
                ),
              ),
            ),
          ),
        ),
      ),
    ),
  ),
)

pub step_same : (t : ValueView) → IsOf (One STEP_TYPE) t → step_tree (step_in t) ≡ t
step_same t s =
    let o = opened STEP_TYPE t s in
    step_forms (entry_of t) o.member (parts_of t) o.fields ∙ sym o.is

pub step_back : (m : Step) → step_in (step_tree m) ≡ m
step_back (step.Post random_id posts) = ap (step.Post random_id) (posts_back posts)
step_back (step.Date date) = ap step.Date (again date)
step_back (step.Serve packet) = ap step.Serve (again packet)
step_back (step.Hear client packet) = ap (λ (n : ℕ). step.Hear n (word_of (number packet))) (again client) ∙ ap (step.Hear client) (again packet)
step_back (step.Tick client) = ap step.Tick (again client)
step_back (step.Wake client) = ap step.Wake (again client)
step_back (step.Watch client id) = ap (λ (n : ℕ). step.Watch n id) (again client)
step_back (step.Restart client) = ap step.Restart (again client)
step_back step.TooLong = refl
step_back (step.ChannelTooLong id) = refl

pub step_fits : (m : Step) → FitsStep m → IsOf (One STEP_TYPE) (step_tree m)
unfolding forms
step_fits (step.Post random_id posts) s = (refl, (s.0, (posts_fit posts s.1, tt)))
step_fits (step.Date date) s = (refl, (number_is date s, tt))
step_fits (step.Serve packet) s = (refl, (number_is packet s, tt))
step_fits (step.Hear client packet) s = (refl, (number_is client s.0, (number_is packet s.1, tt)))
step_fits (step.Tick client) s = (refl, (number_is client s, tt))
step_fits (step.Wake client) s = (refl, (number_is client s, tt))
step_fits (step.Watch client id) s = (refl, (number_is client s.0, (s.1, tt)))
step_fits (step.Restart client) s = (refl, (number_is client s, tt))
step_fits step.TooLong s = (refl, tt)
step_fits (step.ChannelTooLong id) s = (refl, (s, tt))
