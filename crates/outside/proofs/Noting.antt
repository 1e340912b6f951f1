-- An event more: what a call did fits what it was told to do.
use Rattle.std.proofs.Common.{◌≡◌, ℕ, ◌<◌, ◌≤◌, Bool, length, take, List, [], ◌∷◌, ◌++◌, Option, Some, None, Result, Ok, Err, refl, sym, ap, ◌∙◌, subst, arith, length-take-le}
use Rattle.std.specs.Prelude.{IfSome, is_ok}
use Rattle.tl_base.specs.Calls.{Opens, Gives, Creates, Listens, Connects, Accepts}
use Rattle.tl_base.specs.MemoryHost.{AnswersAsTold, host_view, host_script, host_counts}
use Rattle.tl_base.specs.Outside.{View, IsThere, left_of, with_left}
use Rattle.tl_base.specs.Scripts as scripts
use Rattle.tl_base.specs.declared.counts.Counts.{Counts}
use Rattle.tl_base.specs.declared.host.Slot.{Slot}
use Rattle.tl_base.specs.declared.host.Slot.TheVariants as slots
use Rattle.tl_base.specs.declared.host.Out.{Out}
use Rattle.tl_base.specs.declared.mem_host.MemHost.{MemHost}
use Rattle.tl_base.specs.declared.mem_script.HostCall.{HostCall}
use Rattle.tl_base.specs.declared.mem_script.HostCall.TheVariants.{Open, Read, Create, Listen, Connect, Accept}
use Rattle.outside.specs.Events.{Event, Outside, HostState, counted, given_event, read_event, read_events, write_event, write_events, opened, created, listened, connected, accepted}
use Rattle.outside.specs.Grown.{PastGrew, Grew}
use Rattle.outside.specs.Fits.{Happens, Fits, Answers, HasRoomFor, IsToFail, Made}
use Rattle.outside.specs.Logs.{LogsAs, Notes}
use Rattle.outside.specs.Memory.{MemView, outside_of, seen, past_of, host_state}
use Rattle.outside.specs.declared.logged.Logged.{Logged}

fits_push : (t : List Event) (e : Event) (s n m : Outside) → Fits t s n → Happens e n m → Fits (t ++ e ∷ []) s m
fits_push [] e s n m f h = (m, subst (λ k. Happens e k m) f h, refl)
fits_push (x ∷ t) e s n m f h = (f.0, f.1, fits_push t e f.0 n m f.2 h)

noted : {E : Type 0} (old new : Option (List Event)) (event : Result Logged E) (e : Event) (b n m : Outside) → Notes old event new → LogsAs e event → Happens e n m → IfSome old (λ t. Fits t b n) → IfSome new (λ t. Fits t b m)
noted None None event e b n m x l h f = tt
noted (Some old) None event e b n m x l h f = tt
noted None (Some new) event e b n m x l h f = absurd x
noted (Some old) (Some new) (Err y) e b n m x l h f = absurd x
noted (Some old) (Some new) (Ok event) e b n m x l h f = subst (λ t. Fits t b m) (sym (x ∙ ap (λ y. old ++ y ∷ []) l)) (fits_push old e b n m f h)

-- a call of a host in memory, which took its log out
pub kept : {E : Type 0} (old held new : Option (List Event)) (event : Result Logged E) (e : Event) (b n m : Outside) → held ≡ old → Notes held event new → LogsAs e event → Happens e n m → IfSome old (λ t. Fits t b n) → IfSome new (λ t. Fits t b m)
kept old held new event e b n m is x l h f = noted held new event e b n m x l h (subst (λ o. IfSome o (λ t. Fits t b n)) (sym is) f)

-- ---- what is told of it

uncounted_given : (slot : Slot) (piece : List ℕ) (c : Counts) → counted (given_event slot piece) c ≡ c
uncounted_given slot [] c = refl
uncounted_given slot (b ∷ piece) c = refl

pub uncounted : (slot : Slot) (piece : List ℕ) (c d : Counts) → d ≡ c → d ≡ counted (given_event slot piece) c
uncounted slot piece c d is = is ∙ sym (uncounted_given slot piece c)

past_noted : {E : Type 0} (old new : Option (List Event)) (event : Result Logged E) (e : Event) (b : Outside) → Notes old event new → LogsAs e event → PastGrew (past_of b old) (e ∷ []) (past_of b new)
past_noted None None event e b x l = tt
past_noted (Some old) None event e b x l = tt
past_noted None (Some new) event e b x l = absurd x
past_noted (Some old) (Some new) (Err y) e b x l = absurd x
past_noted (Some old) (Some new) (Ok event) e b x l = ap (λ (t : List Event). record { began = b; events = t }) (x ∙ ap (λ y. old ++ y ∷ []) l)

pub told_call : {E : Type 0} (s : MemView) (began shown after : MemHost) (old held new : Option (List Event)) (event : Result Logged E) (e : Event) → seen began shown old ≡ s → held ≡ old → Notes held event new → LogsAs e event → host_counts after ≡ counted e (host_counts shown) → Grew (host_state s) (e ∷ []) (host_state (seen began after new))
told_call s began shown after old held new event e shows is x l counts =
    subst (λ (m : MemView). Grew (host_state m) (e ∷ []) (host_state (seen began after new))) shows (record {
      past = subst (λ (o : Option (List Event)). PastGrew (past_of (outside_of began) o) (e ∷ []) (past_of (outside_of began) new)) is (past_noted held new event e (outside_of began) x l);
      counts = counts;
    })

pub read_told : {E : Type 0} (slot : Slot) (into : List ℕ) (r : Result ℕ E) (p q : HostState) → 0 < length into → Grew p (read_event slot into r ∷ []) q → Grew p (read_events slot into r) q
read_told slot [] r p q some h = absurd (omega (arith, some))
read_told slot (b ∷ into) r p q some h = h

pub write_told : {E : Type 0} (out : Out) (piece : List ℕ) (r : Result ℕ E) (p q : HostState) → 0 < length piece → Grew p (write_event out piece r ∷ []) q → Grew p (write_events out piece r) q
write_told out [] r p q some h = absurd (omega (arith, some))
write_told out (b ∷ piece) r p q some h = h

same_left : (slot : Slot) (v : View) → with_left slot (left_of slot v) v ≡ v
same_left slots.Schema v = refl
same_left slots.Input v = refl
same_left slots.State v = refl
same_left slots.Link v = refl

-- ---- what each call did

module _ (h k : MemHost) where
  answers : (E : Type 0) (call : HostCall) (P : View → Type 0) (r : Result (Unit {0}) E) → AnswersAsTold call P h r → host_script k ≡ scripts.counted call (host_script h) → Answers call P (is_ok r) (outside_of h) (outside_of k)
  answers E call P (Ok u) told made = (told, made)
  answers E call P (Err e) told made = (told, made)

  opens : (E : Type 0) (slot : Slot) (name : List ℕ) (r : Result (Unit {0}) E) → Opens slot name r (host_view h) (host_view k) → AnswersAsTold Open (IsThere name) h r → host_script k ≡ scripts.counted Open (host_script h) → Happens (opened slot name (is_ok r)) (outside_of h) (outside_of k)
  opens E slot name (Ok u) o told made = (o, answers E Open (IsThere name) (Ok u) told made)
  opens E slot name (Err e) o told made = (o, answers E Open (IsThere name) (Err e) told made)

  pub opened_so : (E : Type 0) (slot : Slot) (name : List ℕ) (r : Result (Unit {0}) E) (ok : Bool) → ok ≡ is_ok r → Opens slot name r (host_view h) (host_view k) → AnswersAsTold Open (IsThere name) h r → host_script k ≡ scripts.counted Open (host_script h) → Happens (opened slot name ok) (outside_of h) (outside_of k)
  opened_so E slot name r ok is o told made = subst (λ b. Happens (opened slot name b) (outside_of h) (outside_of k)) (sym is) (opens E slot name r o told made)

  creates : (E : Type 0) (out : Out) (name : List ℕ) (r : Result (Unit {0}) E) → Creates out name r (host_view h) (host_view k) → AnswersAsTold Create (HasRoomFor name) h r → host_script k ≡ scripts.counted Create (host_script h) → Happens (created out name (is_ok r)) (outside_of h) (outside_of k)
  creates E out name (Ok u) o told made = (o, answers E Create (HasRoomFor name) (Ok u) told made)
  creates E out name (Err e) o told made = (o, answers E Create (HasRoomFor name) (Err e) told made)

  pub created_so : (E : Type 0) (out : Out) (name : List ℕ) (r : Result (Unit {0}) E) (ok : Bool) → ok ≡ is_ok r → Creates out name r (host_view h) (host_view k) → AnswersAsTold Create (HasRoomFor name) h r → host_script k ≡ scripts.counted Create (host_script h) → Happens (created out name ok) (outside_of h) (outside_of k)
  created_so E out name r ok is o told made = subst (λ b. Happens (created out name b) (outside_of h) (outside_of k)) (sym is) (creates E out name r o told made)

  listens : (E : Type 0) (address : List ℕ) (r : Result (Unit {0}) E) → Listens address r (host_view h) (host_view k) → AnswersAsTold Listen (HasRoomFor address) h r → host_script k ≡ scripts.counted Listen (host_script h) → Happens (listened address (is_ok r)) (outside_of h) (outside_of k)
  listens E address (Ok u) o told made = (o, answers E Listen (HasRoomFor address) (Ok u) told made)
  listens E address (Err e) o told made = (o, answers E Listen (HasRoomFor address) (Err e) told made)

  pub listened_so : (E : Type 0) (address : List ℕ) (r : Result (Unit {0}) E) (ok : Bool) → ok ≡ is_ok r → Listens address r (host_view h) (host_view k) → AnswersAsTold Listen (HasRoomFor address) h r → host_script k ≡ scripts.counted Listen (host_script h) → Happens (listened address ok) (outside_of h) (outside_of k)
  listened_so E address r ok is o told made = subst (λ b. Happens (listened address b) (outside_of h) (outside_of k)) (sym is) (listens E address r o told made)

  connects : (E : Type 0) (address : List ℕ) (r : Result (Unit {0}) E) → Connects address r (host_view h) (host_view k) → AnswersAsTold Connect (λ v. (0 < length v.links) × HasRoomFor address v) h r → host_script k ≡ scripts.counted Connect (host_script h) → Happens (connected address (is_ok r)) (outside_of h) (outside_of k)
  connects E address (Ok u) o told made = (o, answers E Connect (λ v. (0 < length v.links) × HasRoomFor address v) (Ok u) told made)
  connects E address (Err e) o told made = (o, answers E Connect (λ v. (0 < length v.links) × HasRoomFor address v) (Err e) told made)

  pub connected_so : (E : Type 0) (address : List ℕ) (r : Result (Unit {0}) E) (ok : Bool) → ok ≡ is_ok r → Connects address r (host_view h) (host_view k) → AnswersAsTold Connect (λ v. (0 < length v.links) × HasRoomFor address v) h r → host_script k ≡ scripts.counted Connect (host_script h) → Happens (connected address ok) (outside_of h) (outside_of k)
  connected_so E address r ok is o told made = subst (λ b. Happens (connected address b) (outside_of h) (outside_of k)) (sym is) (connects E address r o told made)

  accepts : (E : Type 0) (r : Result (Unit {0}) E) → Accepts r (host_view h) (host_view k) → AnswersAsTold Accept (λ v. 0 < length v.links) h r → host_script k ≡ scripts.counted Accept (host_script h) → Happens (accepted (is_ok r)) (outside_of h) (outside_of k)
  accepts E (Ok u) o told made = (o, answers E Accept (λ v. 0 < length v.links) (Ok u) told made)
  accepts E (Err e) o told made = (o, answers E Accept (λ v. 0 < length v.links) (Err e) told made)

  pub accepted_so : (E : Type 0) (r : Result (Unit {0}) E) (ok : Bool) → ok ≡ is_ok r → Accepts r (host_view h) (host_view k) → AnswersAsTold Accept (λ v. 0 < length v.links) h r → host_script k ≡ scripts.counted Accept (host_script h) → Happens (accepted ok) (outside_of h) (outside_of k)
  accepted_so E r ok is o told made = subst (λ b. Happens (accepted b) (outside_of h) (outside_of k)) (sym is) (accepts E r o told made)

  -- what a read gave, none only at the end
  gave : (slot : Slot) (bytes : List ℕ) → left_of slot (host_view h) ≡ bytes ++ left_of slot (host_view k) → host_view k ≡ with_left slot (left_of slot (host_view k)) (host_view h) → (bytes ≡ [] → left_of slot (host_view k) ≡ []) → ¬ IsToFail (Read slot) (outside_of h) → Made (Read slot) (outside_of h) (outside_of k) → Happens (given_event slot bytes) (outside_of h) (outside_of k)
  gave slot [] had is end told made = (had ∙ end refl, is ∙ ap (λ (l : List ℕ). with_left slot l (host_view h)) (sym had) ∙ same_left slot (host_view h), told, made)
  gave slot (b ∷ bytes) had is end told made = (had, is, told, made)

  pub gave_so : (slot : Slot) (into : List ℕ) (n : ℕ) → 0 < length into → n ≤ length into → Gives slot into n (host_view h) (host_view k) → ¬ IsToFail (Read slot) (outside_of h) → Made (Read slot) (outside_of h) (outside_of k) → Happens (given_event slot (take n into)) (outside_of h) (outside_of k)
  gave_so slot into n some few o told made = gave slot (take n into) o.0 o.1 (λ none. o.2 (sym (length-take-le n into few) ∙ ap length none) some) told made
