-- Beginnings of what is done: where the first part of a whole ends in one of its parts.
use Rattle.std.proofs.Common.{◌≡◌, ◌<◌, ◌≤◌, List, [], ◌∷◌, ◌++◌, length, drop, map, refl, sym, ap, ap₂, ◌∙◌, subst, arith}
use Rattle.std.proofs.lemmas.List.{length-append}
use Rattle.outside.specs.Events.{Event}
use Rattle.outside.specs.Steps.{Step, StepOf, Turn, again, Reaches, here, turn}
use Rattle.serve_rooms.specs.Acts.{Act, hosted, loaded, added, events_in}
use Rattle.serve_rooms.specs.Doing.{Hosted}
use Rattle.serve_rooms.proofs.Acting.{events_hosted, events_more}

module _ {E : Type 0} where
  pub heads : (a b : E) (x y : List E) → a ∷ x ≡ b ∷ y → a ≡ b
  heads a b x y e = cc

  pub tails : (a b : E) (x y : List E) → a ∷ x ≡ b ∷ y → x ≡ y
  tails a b x y e = ap (λ (l : List E). drop 1 l) e

  -- where two rows are one: the first part of the one ends within that of the other, or after it
  pub data Seam (t u first rest : List E) : Type 0 where
    within : (more : List E) → first ≡ t ++ more → u ≡ more ++ rest → 0 < length more → Seam t u first rest
    past : (more : List E) → t ≡ first ++ more → rest ≡ more ++ u → Seam t u first rest

  seam_on : (a b : E) (t u first rest : List E) → a ≡ b → Seam t u first rest → Seam (a ∷ t) u (b ∷ first) rest
  seam_on a b t u first rest same (within more is at some) = within more (ap₂ (λ (x : E) (l : List E). x ∷ l) (sym same) is) at some
  seam_on a b t u first rest same (past more is at) = past more (ap₂ (λ (x : E) (l : List E). x ∷ l) same is) at

  pub seam : (t u first rest : List E) → t ++ u ≡ first ++ rest → Seam t u first rest
  seam t u [] rest e = past t refl (sym e)
  seam [] u (b ∷ first) rest e = within (b ∷ first) refl e (omega arith)
  seam (a ∷ t) u (b ∷ first) rest e = seam_on a b t u first rest (heads a b (t ++ u) (first ++ rest) e) (seam t u first rest (tails a b (t ++ u) (first ++ rest) e))

  pub some_more : (u more rest : List E) → u ≡ more ++ rest → 0 < length more → 0 < length u
  some_more u more rest is some = omega (arith, some, ap length is, length-append more rest)

  pub nothing_follows : (t u : List E) → t ++ u ≡ [] → t ≡ []
  nothing_follows [] u e = refl
  nothing_follows (a ∷ t) u e = absurd (omega (arith, ap length e))

  pub nothing_after : (t u : List E) → t ++ u ≡ [] → u ≡ []
  nothing_after [] u e = e
  nothing_after (a ∷ t) u e = absurd (omega (arith, ap length e))

-- ---- events and acts

pub hosted_events : (t : List Act) (events : List Event) → t ≡ map (λ e. hosted e) events → events_in t ≡ events
hosted_events t events is = ap events_in is ∙ events_hosted events

pub events_few : (t : List Act) → length (events_in t) ≤ length t
events_few [] = omega arith
events_few (hosted e ∷ t) = omega (arith, events_few t)
events_few (loaded by ∷ t) = omega (arith, events_few t)
events_few (added e ok ∷ t) = omega (arith, events_few t)

-- what a host does alone, by the events of both parts
pub hosted_both : {A : Type 0} (S : Step A) (t u : List Act) (a : A) → Hosted S (t ++ u) a → S (events_in t ++ events_in u) a
hosted_both S t u a (events, is, h) = subst (λ (l : List Event). S l a) (sym (hosted_events (t ++ u) events is) ∙ events_more t u) h

-- acts whose first events are these
pub record Split (acts : List Act) (t : List Event) : Type 0 where
  pub first : List Act
  pub rest : List Act
  pub all : acts ≡ first ++ rest
  pub events : events_in first ≡ t

split_on : (a : Act) (acts : List Act) (t : List Event) → ((s : List Act) → events_in (a ∷ s) ≡ events_in s) → Split acts t → Split (a ∷ acts) t
split_on a acts t silent s = record { first = a ∷ s.first; rest = s.rest; all = ap (λ (l : List Act). a ∷ l) s.all; events = silent s.first ∙ s.events }

pub split : (acts : List Act) (t u : List Event) → events_in acts ≡ t ++ u → Split acts t
split acts [] u e = record { first = []; rest = acts; all = refl; events = refl }
split [] (x ∷ t) u e = absurd (omega (arith, ap length e))
split (hosted y ∷ acts) (x ∷ t) u e =
    let s = split acts t u (tails y x (events_in acts) (t ++ u) e) in
    record { first = hosted y ∷ s.first; rest = s.rest; all = ap (λ (l : List Act). hosted y ∷ l) s.all; events = ap₂ (λ (a : Event) (l : List Event). a ∷ l) (heads y x (events_in acts) (t ++ u) e) s.events }
split (loaded by ∷ acts) (x ∷ t) u e = split_on (loaded by) acts (x ∷ t) (λ s. refl) (split acts (x ∷ t) u e)
split (added y ok ∷ acts) (x ∷ t) u e = split_on (added y ok) acts (x ∷ t) (λ s. refl) (split acts (x ∷ t) u e)

-- ---- loops

-- turns were taken until here; or a turn was begun
pub data LoopBegun {E S A : Type 0} (body : S → StepOf E (Turn S A)) (start : S) (t : List E) : Type 0 where
  reached : (s : S) → Reaches body start t s → LoopBegun body start t
  turning : (first more later : List E) (between : S) (x : Turn S A) → t ≡ first ++ more → Reaches body start first between → body between (more ++ later) x → LoopBegun body start t

module _ {E S A : Type 0} (body : S → StepOf E (Turn S A)) (start : S) where
  turn_begun : (t more first rest : List E) (between : S) (x : Turn S A) → ((v w : List E) → first ≡ v ++ w → LoopBegun body start v) → Reaches body start first between → body between rest x → Seam t more first rest → LoopBegun body start t
  turn_begun t more first rest between x earlier before this (within w is at some) = earlier t w is
  turn_begun t more first rest between x earlier before this (past m is at) = turning first m more between x is before (subst (λ (l : List E). body between l x) at this)

  pub reaches_begun : (r : List E) (s : S) → Reaches body start r s → (t more : List E) → r ≡ t ++ more → LoopBegun body start t
  reaches_begun r s (here _ _ none is) t more e = reached start (here t start (nothing_follows t more (sym e ∙ none)) refl)
  reaches_begun r s (turn _ first rest between _ splits before this) t more e =
      turn_begun t more first rest between (again s) (reaches_begun first between before) before this (seam t more first rest (sym e ∙ splits))
