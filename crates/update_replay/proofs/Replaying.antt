-- A replay whose lines are written as they are handed out.
use Rattle.std.proofs.Common.{◌≡◌, ◌⊎◌, inl, inr, ℕ, ◌-◌, ◌<◌, List, [], ◌∷◌, ◌++◌, append-nil, length, length-append, Bool, true, false, Option, Some, None, Result, Ok, Err, refl, sym, ap, ◌∙◌, subst, arith}
use Rattle.std.specs.Prelude.{IfSome, IsErrAnd, IsErrOf}
use Rattle.std.specs.Io.KnownBytes.{Appends}
use Rattle.std.proofs.KnownBytes.{Appends-nil, Appends-trans}
use Rattle.tl_base.specs.Writing.{AppendsPrefix}
use Rattle.tl_base.specs.declared.source.TextFault.{TextFault}
use Rattle.tl_base.specs.declared.source.TextFault.TheVariants as text
use Rattle.box_events.specs.declared.steps.Step.{Step}
use Rattle.wire_profile.specs.Indexes.{ProfileView}
use Rattle.update_world.specs.Shown.{Shown}
use Rattle.update_replay.specs.Endings.{Ending, whole, no_step, not_made, too_long, answer_of, of_text}
use Rattle.update_replay.specs.Handing.{HandsOut, HasMade, IsGoing}
use Rattle.update_replay.specs.Replays.{Next, nothing, Replayed, ReplaysOn, Settles, StandsThen, Stopped, Ends, IsNew, goes_on, seen_of}
use Rattle.update_replay.specs.Replays as replays
use Rattle.update_replay.specs.declared.fault.ReplayFault.{ReplayFault}
use Rattle.update_replay.specs.declared.fault.ReplayFault.TheVariants.{Wire, Step as NotMade, TooLong, ReadFault, WriteFault, Memory}
use Rattle.update_replay.specs.declared.limits.TheConstants.{MAX_STEPS}
use Rattle.update_replay.specs.declared.machine.Replay.{Replay}
use Rattle.update_replay.proofs.Handed.{few_made, new_stands}

-- ---- between two steps

-- some steps were made, and their lines written
pub record Writing (p : ProfileView) (n : ℕ) (journal : List ℕ) (w : Shown) (r : Replay) (a b : Option (List ℕ)) : Type 0 where
  pub steps : List Step
  pub output : List ℕ
  pub made : HasMade p n journal steps output w r
  pub wrote : Appends a b output

pub writing_none : (p : ProfileView) (n : ℕ) (journal : List ℕ) (w : Shown) (r : Replay) (a : Option (List ℕ)) → HasMade p n journal [] [] w r → Writing p n journal w r a a
writing_none p n journal w r a made = record { steps = []; output = []; made = made; wrote = Appends-nil a }

-- a fault that no replay of a journal in memory answers
abbrev IsUnanswered : ReplayFault → Type 0
IsUnanswered f = (f ≡ Memory → ⊥) × ((e : Ending) → answer_of e ≡ Err f → ⊥)

read_never : (e : Ending) → answer_of e ≡ Err ReadFault → ⊥
read_never (whole n) is = cc
read_never (no_step at f) is = cc
read_never (not_made at cause) is = cc
read_never (too_long at) is = cc

write_never : (e : Ending) → answer_of e ≡ Err WriteFault → ⊥
write_never (whole n) is = cc
write_never (no_step at f) is = cc
write_never (not_made at cause) is = cc
write_never (too_long at) is = cc

pub no_read : IsUnanswered ReadFault
no_read = (λ is. cc, read_never)

pub no_write : IsUnanswered WriteFault
no_write = (λ is. cc, write_never)

same_fault : {T : Type 0} (e f : ReplayFault) (x : Result T ReplayFault) → IsErrAnd x (λ z. z ≡ e) → IsErrOf x f → e ≡ f
same_fault e f (Ok z) is failed = absurd is
same_fault e f (Err z) is failed = grind arith

module _ (p : ProfileView) (n : ℕ) (journal : List ℕ) (w : Shown) (r : Replay) (a b : Option (List ℕ)) (g : Writing p n journal w r a b) where
  pub going : IsGoing w r
  going = (p, n, journal, g.steps, g.output, g.made)

  module _ (v : Shown) (new : Replay) where
    abbrev Handed : Result Bool ReplayFault → Type 0
    Handed x = HandsOut p n journal g.steps r.rest.now g.output v new x

    pub writing_more : (c : Option (List ℕ)) (lines : List ℕ) → Handed (Ok true) → lines ≡ new.lines.items → Appends b c lines → Writing p n journal v new a c
    writing_more c lines (s, made, comes) is wrote = record {
      steps = g.steps ++ s ∷ [];
      output = g.output ++ new.lines.items;
      made = made;
      wrote = Appends-trans a b c g.output new.lines.items g.wrote (subst (Appends b c) is wrote);
    }

    pub fewer : Handed (Ok true) → MAX_STEPS - new.steps < MAX_STEPS - r.steps
    fewer (s, made, comes) =
        omega (arith, few_made p n (seen_of journal) (g.steps ++ s ∷ []) new.at new.rest.now (g.output ++ new.lines.items) made.began, made.number, (g.made).number, length-append g.steps (s ∷ []))

    pub closes : (c : Option (List ℕ)) (lines : List ℕ) → Handed (Ok false) → lines ≡ new.lines.items → Appends b c lines → ReplaysOn p n journal v a c (Ok new.steps)
    closes c lines (made, replayed, comes) is wrote = (
      g.output ++ new.lines.items,
      Appends-trans a b c g.output new.lines.items g.wrote (subst (Appends b c) is wrote),
      record { steps = g.steps; ending = whole (length g.steps); replays = replayed; answered = ap Ok made.number; stands = made.stands },
    )

    -- ---- what stops it

    settles : (f : ReplayFault) (e : Ending) → Replayed p n journal g.steps g.output e → answer_of e ≡ Err f → StandsThen e p n v g.steps → Settles p n (seen_of journal) (goes_on journal) v g.output (Err f)
    settles f e replayed is stands = record { steps = g.steps; ending = e; replays = replayed; answered = sym is; stands = stands }

    stopped : (next front rest : List ℕ) → Next p n (goes_on journal) g.steps r.rest.now next → front ++ rest ≡ next → Stopped p n (seen_of journal) (goes_on journal) (g.output ++ front)
    stopped next front rest comes split = record { steps = g.steps; at = r.at; left = r.rest.now; lines = g.output; next = next; prefix = front; rest = rest; began = (g.made).began; comes = comes; split = split; written = refl }

    ends : (f : ReplayFault) → (f ≡ Memory) ⊎ ((e : Ending) × Replayed p n journal g.steps g.output e × (answer_of e ≡ Err f) × StandsThen e p n v g.steps) → Ends p n (seen_of journal) (goes_on journal) v g.output (Err f)
    ends (Wire at fault) (inl is) = absurd cc
    ends (Wire at fault) (inr (e, replayed, is, stands)) = settles (Wire at fault) e replayed is stands
    ends (NotMade at fault) (inl is) = absurd cc
    ends (NotMade at fault) (inr (e, replayed, is, stands)) = settles (NotMade at fault) e replayed is stands
    ends (TooLong at) (inl is) = absurd cc
    ends (TooLong at) (inr (e, replayed, is, stands)) = settles (TooLong at) e replayed is stands
    ends ReadFault (inl is) = absurd cc
    ends ReadFault (inr (e, replayed, is, stands)) = absurd (read_never e is)
    ends WriteFault (inl is) = absurd cc
    ends WriteFault (inr (e, replayed, is, stands)) = absurd (write_never e is)
    ends Memory why = subst (Stopped p n (seen_of journal) (goes_on journal)) (append-nil g.output) (stopped [] [] [] nothing refl)

    pub stops : (f : ReplayFault) (x : Result ℕ ReplayFault) → IsErrAnd x (λ z. z ≡ f) → Handed (Err f) → ReplaysOn p n journal v a b x
    stops f (Ok k) is handed = absurd is
    stops f (Err z) is (empty, why) = subst (λ (e : ReplayFault). ReplaysOn p n journal v a b (Err e)) (sym is) (g.output, g.wrote, ends f why)

    unanswered : (f bad : ReplayFault) → IsUnanswered bad → f ≡ bad → Handed (Err f) → ⊥
    unanswered f bad never same (empty, inl is) = never.0 (sym same ∙ is)
    unanswered f bad never same (empty, inr (e, replayed, is, stands)) = never.1 e (is ∙ ap Err same)

    pub stops_never : (f bad : ReplayFault) (x : Result ℕ ReplayFault) → IsUnanswered bad → IsErrAnd x (λ z. z ≡ f) → Handed (Err f) → IsErrOf x bad → ⊥
    stops_never f bad x never is handed failed = unanswered f bad never (same_fault f bad x is failed) handed

    pub next_lines : (more : Bool) → Handed (Ok more) → Next p n (goes_on journal) g.steps r.rest.now new.lines.items
    next_lines true (s, made, comes) = comes
    next_lines false (made, replayed, comes) = comes

    -- a write of its lines failed
    pub unwritten : (c : Option (List ℕ)) (more : Bool) (lines : List ℕ) (x : Result ℕ ReplayFault) → IsErrAnd x (λ z. z ≡ WriteFault) → Handed (Ok more) → lines ≡ new.lines.items → AppendsPrefix b c lines → ReplaysOn p n journal v a c x
    unwritten c more lines (Ok k) said handed is wrote = absurd said
    unwritten c more lines (Err z) said handed is (front, rest, split, wrote) =
        subst (λ (e : ReplayFault). ReplaysOn p n journal v a c (Err e)) (sym said) (g.output ++ front, Appends-trans a b c g.output front g.wrote wrote, stopped new.lines.items front rest (next_lines more handed) (split ∙ is))

-- ---- a journal that was not taken

pub not_taken : (w : Shown) (journal : List ℕ) (a : Option (List ℕ)) (e : TextFault) (x : Result ℕ ReplayFault) → IsNew w → IsErrAnd x (λ z. z ≡ of_text e) → ReplaysOn w.profile (length w.clients) journal w a a x
not_taken w journal a e (Ok k) new is = absurd is
not_taken w journal a text.ReadFault (Err z) new is = subst (λ (f : ReplayFault). ReplaysOn w.profile (length w.clients) journal w a a (Err f)) (sym is) ([], Appends-nil a, (refl, new_stands w new))
not_taken w journal a text.Memory (Err z) new is = subst (λ (f : ReplayFault). ReplaysOn w.profile (length w.clients) journal w a a (Err f)) (sym is) (
  [],
  Appends-nil a,
  record { steps = []; at = 0; left = seen_of journal; lines = []; next = []; prefix = []; rest = []; began = replays.none; comes = nothing; split = refl; written = refl },
)

pub text_unread : {T U : Type 0} (e : TextFault) (x : Result T ReplayFault) → IsErrAnd x (λ z. z ≡ of_text e) → IsErrOf x ReadFault → IsErrOf {T = U} (Err e) text.ReadFault
text_unread e (Ok z) is failed = absurd is
text_unread text.ReadFault (Err z) is failed = refl
text_unread text.Memory (Err z) is failed = absurd cc

pub text_never : {T : Type 0} (e : TextFault) (x : Result T ReplayFault) → IsErrAnd x (λ z. z ≡ of_text e) → IsErrOf x WriteFault → ⊥
text_never e (Ok z) is failed = is
text_never text.ReadFault (Err z) is failed = cc
text_never text.Memory (Err z) is failed = cc

-- ---- what is told of a source

pub map_told : {P Q : List ℕ → Type 0} (o : Option (List ℕ)) → ((journal : List ℕ) → P journal → Q journal) → IfSome o P → IfSome o Q
map_told None f h = tt
map_told (Some journal) f h = f journal h
