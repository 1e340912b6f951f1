-- The pushes of a sound server fit, and so do the warnings that more is new.
use Rattle.std.specs.Prelude.{◌==◌, ◌⊎◌, ltb, pos, if◌then◌else◌}
use Rattle.std.proofs.Common.{◌≡◌, ℕ, suc, ◌+◌, ◌<◌, ◌≤◌, ◌^◌, ℤ, List, [], ◌∷◌, length, None, Bool, true, false, refl, sym, ap, ◌∙◌, subst, inl, inr, arith}
use Rattle.std.specs.List.{All}
use Rattle.std.proofs.lemmas.Bool.{eqb-true}
use Rattle.std.proofs.lemmas.List.Elements.{All-nil, All-cons, All-weaker}
use Rattle.tl_types.specs.Values.{long, list, node, ValueViews, no_values, values_of}
use Rattle.box_events.specs.declared.limits.TheConstants.{MAX_END}
use Rattle.box_events.specs.declared.requests.Post.{Post}
use Rattle.box_events.specs.declared.settings.Setting as settings
use Rattle.box_events.specs.declared.updates.Update.{Update}
use Rattle.box_events.specs.declared.updates.Update.TheVariants as update
use Rattle.box_events.specs.declared.updates.Push.TheVariants as push
use Rattle.box_events.specs.declared.replies.Frame.TheVariants as frame
use Rattle.box_events.specs.Events.{EventView, added, edited, deleted, read}
use Rattle.box_server.specs.Servers.{ServerState, lane_end}
use Rattle.box_server.specs.Sound.{IsSound}
use Rattle.box_server.specs.Entries.{Entry, to_common, to_secret, to_channel, to_settings, entries_of, lane_of, raise_of}
use Rattle.box_server.specs.Posting.{applied, update_of, updates_of, settings_of, first_number, last_number, push_of, posted}
use Rattle.box_server.specs.Refusing.{box_full, post_cause}
use Rattle.box_server.specs.declared.fault.PostFault.TheVariants.{BoxFull}
use Rattle.box_server.proofs.Soundness.{IsFit, AreFit, fit_first, has_count, none_if, within, taken, posted_sound}
use Rattle.box_server.proofs.Growths.{last_posted}
use Rattle.wire_forms.specs.Parts.{row, number, word_of, entry_of}
use Rattle.wire_forms.specs.declared.numbers.TheConstants.{PUSH, UPDATES_TOO_LONG, UPDATES, UPDATES_COMBINED, UPDATE_CHANNEL_TOO_LONG, UPDATE_SETTING}
use Rattle.wire_forms.proofs.Words.{again}
use Rattle.wire_values.specs.Updates.{common_tree, channel_tree, update_tree}
use Rattle.wire_values.specs.Frames.{push_tree}
use Rattle.wire_values.specs.CarriedFrames.{IsUpdate}
use Rattle.wire_profile.specs.Updates as checks
use Rattle.wire_profile.specs.Clear.{IsClear, AreClear}
use Rattle.wire_profile.specs.declared.rule.Root.TheVariants.{Frame}
use Rattle.wire_profile.proofs.ClearValues.{clear_value}
use Rattle.wire_profile.proofs.RuleFacts.{Pack, container_of, unordered_of}
use Rattle.box_world.specs.Fitting.{FrameFits}
use Rattle.box_world.specs.FrameLaws.{PushesFit, WarningsFit}
use Rattle.box_world.proofs.ClearUpdates.{unbroken, record_clear, date_ok, all_clear, list_then, common_clear, channel_clear, secret_clear, setting_clear}
use Rattle.box_world.proofs.ClearReplies.{frame_fits}

-- ---- updates

-- its event counts, and its value breaks no rule
pub record IsGood (u : Update) : Type 0 where
  pub is : IsUpdate u
  pub clear : IsClear Frame (update_tree u)

update_good : (s : ServerState) (x : Entry) → IsFit x → lane_end s (lane_of x) + raise_of x ≤ MAX_END → IsGood (update_of s x)
update_good s (to_common e) fit le = let count = has_count e fit.some fit.few in record { is = count; clear = common_clear e _ (record { count = count; least = omega arith; most = le }) }
update_good s (to_secret body) fit le = record { is = tt; clear = secret_clear body _ (omega arith) le }
update_good s (to_channel id e) fit le = let count = has_count e fit.some fit.few in record { is = count; clear = channel_clear id e _ (record { count = count; least = omega arith; most = le }) }
update_good s (to_settings x) fit le = record { is = tt; clear = setting_clear x }

updates_good : (s : ServerState) (xs : List Entry) → AreFit xs → box_full s xs ≡ None → All IsGood (updates_of s xs)
updates_good s [] fit full = All-nil IsGood
updates_good s (x ∷ xs) fit full =
    let both = fit_first x xs fit in
    let none = none_if (ltb MAX_END (lane_end s (lane_of x) + raise_of x)) (BoxFull (lane_of x) (lane_end s (lane_of x))) (box_full (applied s x) xs) full in
    All-cons IsGood (update_of s x) (updates_of (applied s x) xs) (update_good s x both.0 (within MAX_END (lane_end s (lane_of x) + raise_of x) none.0)) (updates_good (applied s x) xs both.1 none.1)

-- ---- settings

common_form : (e : EventView) (pts : ℕ) → (entry_of (common_tree e pts) == UPDATE_SETTING) ≡ false
common_form (added body) pts = refl
common_form (edited body) pts = refl
common_form (deleted ids) pts = refl
common_form (read id) pts = refl

channel_form : (id : ℤ) (e : EventView) (pts : ℕ) → (entry_of (channel_tree id e pts) == UPDATE_SETTING) ≡ false
channel_form id (added body) pts = refl
channel_form id (edited body) pts = refl
channel_form id (deleted ids) pts = refl
channel_form id (read m) pts = refl

no_more : (b : Bool) (n m : ℕ) → b ≡ false → n ≡ m → (if b then 1 else 0) + n ≡ m
no_more true n m is e = absurd cc
no_more false n m is e = omega (arith, e)

one_more : (n m : ℕ) → n ≡ m → 1 + n ≡ suc m
one_more n m e = omega (arith, e)

-- a push has as many settings as its entries
settings_counted : (s : ServerState) (xs : List Entry) → checks.settings (row update_tree (updates_of s xs)) ≡ length (settings_of xs)
settings_counted s [] = refl
settings_counted s (to_common e ∷ xs) = no_more _ _ _ (common_form e _) (settings_counted (applied s (to_common e)) xs)
settings_counted s (to_secret body ∷ xs) = no_more false _ _ refl (settings_counted (applied s (to_secret body)) xs)
settings_counted s (to_channel id e ∷ xs) = no_more _ _ _ (channel_form id e _) (settings_counted (applied s (to_channel id e)) xs)
settings_counted s (to_settings x ∷ xs) = one_more _ _ (settings_counted (applied s (to_settings x)) xs)

-- so many settings have these numbers
pub record AreNumbers (many start seq : ℕ) : Type 0 where
  pub none : seq ≡ 0 → (start ≡ 0) × (many ≡ 0)
  pub pack : (seq ≡ 0) ⊎ Pack many start seq

numbers_by : (s : ServerState) (posts : List Post) (xs : List settings.Setting) → settings_of (entries_of posts) ≡ xs → IsSound s → post_cause s posts ≡ None → AreNumbers (length xs) (first_number (length s.settings) xs) (last_number (length s.settings) xs)
numbers_by s posts [] is h none = record { none = λ e. (refl, refl); pack = inl refl }
numbers_by s posts (x ∷ xs) is h none =
    let n : ℕ = length s.settings in
    let last : n + length (x ∷ xs) ≡ length (posted s (pos 0) posts).settings = ap (λ (l : List settings.Setting). last_number n l) (sym is) ∙ (last_posted s (pos 0) posts x xs is).1 in
    let limit = (posted_sound s (pos 0) posts h none).seq in
    record { none = λ e. absurd (omega (arith, e)); pack = inr (record { starts = omega arith; ends = omega arith; low = omega (arith, last, limit); same = omega arith }) }

pub numbers_are : (s : ServerState) (posts : List Post) → IsSound s → post_cause s posts ≡ None → AreNumbers (length (settings_of (entries_of posts))) (first_number (length s.settings) (settings_of (entries_of posts))) (last_number (length s.settings) (settings_of (entries_of posts)))
numbers_are s posts h none = numbers_by s posts (settings_of (entries_of posts)) refl h none

-- ---- containers

module _ (us : List Update) (date start seq : ℕ) (clear : AreClear Frame (row update_tree us)) (low : date < 2 ^ 31) (numbers : AreNumbers (checks.settings (row update_tree us)) start seq) where
  vs : ValueViews
  vs = row update_tree us

  order : (word_of (number seq) ≡ 0) ⊎ Pack (checks.settings (row update_tree us)) start seq → checks.unordered (list (row update_tree us)) (number seq) ≡ None
  order (inl z) = unordered_of (list (row update_tree us)) (number seq) (inr (numbers.none (sym (again seq) ∙ z)).1)
  order (inr p) = let a = p.starts in let b = p.ends in unordered_of (list (row update_tree us)) (number seq) (inl (subst (λ (m : ℕ). 1 ≤ m) (sym (again seq)) (omega (arith, a, b))))

  as_word : (seq ≡ 0) ⊎ Pack (checks.settings (row update_tree us)) start seq → (word_of (number seq) ≡ 0) ⊎ Pack (checks.settings (row update_tree us)) start seq
  as_word (inl z) = inl (again seq ∙ z)
  as_word (inr p) = inr p

  in_words : (first : ℕ) → first ≡ start → (seq ≡ 0) ⊎ Pack (checks.settings (row update_tree us)) start seq → checks.bad_pack (list (row update_tree us)) (number first) (number seq) ≡ None
  in_words first is (inl z) = container_of (list (row update_tree us)) (number first) (number seq) (inl (again seq ∙ z))
  in_words first is (inr p) =
      container_of (list (row update_tree us)) (number first) (number seq)
      (inr (subst (λ (m : ℕ). Pack (checks.settings (row update_tree us)) m (word_of (number seq))) (sym (again first ∙ is)) (subst (λ (m : ℕ). Pack (checks.settings (row update_tree us)) start m) (sym (again seq)) p)))

  container_clear : (b : Bool) → (start == seq) ≡ b
      → IsClear Frame (if b then node UPDATES (values_of (list (row update_tree us) ∷ number date ∷ number seq ∷ [])) else node UPDATES_COMBINED (values_of (list (row update_tree us) ∷ number date ∷ number start ∷ number seq ∷ [])))
  container_clear true is =
      record_clear Frame UPDATES (values_of (list (row update_tree us) ∷ number date ∷ number seq ∷ []))
      (unbroken _ _ refl refl refl refl refl (date_ok date low) (order (as_word numbers.pack)) (in_words seq (sym (eqb-true start seq is)) numbers.pack))
      (list_then Frame (row update_tree us) (values_of (number date ∷ number seq ∷ [])) clear (λ rule is. refl))
  container_clear false is =
      record_clear Frame UPDATES_COMBINED (values_of (list (row update_tree us) ∷ number date ∷ number start ∷ number seq ∷ []))
      (unbroken _ _ refl refl refl refl refl (date_ok date low) (order (as_word numbers.pack)) (in_words start refl numbers.pack))
      (list_then Frame (row update_tree us) (values_of (number date ∷ number start ∷ number seq ∷ [])) clear (λ rule is. refl))

  container_fits : All IsUpdate us → FrameFits (frame.Push (push.Container us date start seq))
  container_fits are =
      frame_fits (frame.Push (push.Container us date start seq)) (are, λ z. (numbers.none z).0)
      (record_clear Frame PUSH (values_of (push_tree (push.Container us date start seq) ∷ [])) (unbroken _ _ refl refl refl refl refl refl refl refl)
      (clear_value Frame (push_tree (push.Container us date start seq)) no_values (container_clear (start == seq) refl) (λ rule is. refl)))

pub pushes_fit : PushesFit
unfolding push_of
pushes_fit s posts h none =
    let xs : List Entry = entries_of posts in
    let k = taken s posts none in
    let good : All IsGood (updates_of s xs) = updates_good s xs k.fit k.full in
    let ss : List settings.Setting = settings_of xs in
    container_fits (updates_of s xs) s.date (first_number (length s.settings) ss) (last_number (length s.settings) ss) (all_clear Frame update_tree IsGood (λ u g. g.clear) (updates_of s xs) good) h.date
    (subst (λ (n : ℕ). AreNumbers n (first_number (length s.settings) ss) (last_number (length s.settings) ss)) (sym (settings_counted s xs)) (numbers_are s posts h none)) (All-weaker IsGood IsUpdate (λ u g. g.is) (updates_of s xs) good)

-- ---- warnings

too_long_fits : FrameFits (frame.Push push.TooLong)
too_long_fits =
    frame_fits (frame.Push push.TooLong) tt
    (record_clear Frame PUSH (values_of (node UPDATES_TOO_LONG no_values ∷ [])) (unbroken _ _ refl refl refl refl refl refl refl refl)
    (clear_value Frame (node UPDATES_TOO_LONG no_values) no_values (record_clear Frame UPDATES_TOO_LONG no_values (unbroken _ _ refl refl refl refl refl refl refl refl) (λ rule is. refl)) (λ rule is. refl)))

channel_long_clear : (id : ℤ) → IsClear Frame (node UPDATE_CHANNEL_TOO_LONG (values_of (long id ∷ [])))
channel_long_clear id = record_clear Frame UPDATE_CHANNEL_TOO_LONG (values_of (long id ∷ [])) (unbroken _ _ refl refl refl refl refl refl refl refl) (λ rule is. refl)

pub warnings_fit : WarningsFit
warnings_fit id date low = (
  too_long_fits,
  container_fits (update.ChannelTooLong id ∷ []) date 0 0 (clear_value Frame (node UPDATE_CHANNEL_TOO_LONG (values_of (long id ∷ []))) no_values (channel_long_clear id) (λ rule is. refl)) low
      (record { none = λ e. (refl, refl); pack = inl refl }) (All-cons IsUpdate (update.ChannelTooLong id) [] tt (All-nil IsUpdate)),
)
