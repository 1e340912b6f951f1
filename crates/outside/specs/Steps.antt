-- What runs are made of: relations between what happened and what came of it. This project's own.
use Rattle.std.specs.Prelude.{◌≡◌, List, [], ◌∷◌, ◌++◌}
use Rattle.outside.specs.Events.{Event, HostState}
use Rattle.outside.specs.Grown.{Grew}

-- that this came of it, one after the other, with this answer
abbrev pub StepOf : Type 0 → Type 0 → Type 1
StepOf E A = List E → A → Type 0

-- likewise of a host's events
abbrev pub Step : Type 0 → Type 1
Step A = StepOf Event A

-- nothing happens, and this is the answer
abbrev pub Ends : {E A : Type 0} → A → StepOf E A
Ends a t b = (t ≡ []) × (b ≡ a)

-- one event, made by the answer
abbrev pub Calls : {E A : Type 0} → (A → E) → StepOf E A
Calls event t a = t ≡ event a ∷ []

-- first this, and then what follows of its answer
pub record Then {E A B : Type 0} (S : StepOf E A) (W : A → StepOf E B) (t : List E) (b : B) : Type 0 where
  pub first : List E
  pub rest : List E
  pub between : A
  pub splits : t ≡ first ++ rest
  pub does : S first between
  pub goes : W between rest b

-- how a turn of a loop ends: there is another from here, or the loop ends
pub data Turn (S A : Type 0) : Type 0 where
  again : S → Turn S A
  leave : A → Turn S A

-- turns, each from where the one before it ended, with another to come
pub data Reaches {E S A : Type 0} (body : S → StepOf E (Turn S A)) (start : S) : List E → S → Type 0 where
  here : (t : List E) (s : S) → t ≡ [] → s ≡ start → Reaches body start t s
  turn : (t first rest : List E) (between s : S) → t ≡ first ++ rest → Reaches body start first between → body between rest (again s) → Reaches body start t s

-- turns until one leaves
abbrev pub Loops : {E S A : Type 0} → (S → StepOf E (Turn S A)) → S → StepOf E A
Loops body start = Then (Reaches body start) (λ s t a. body s t (leave a))

-- these events are the beginning of what a step can be
pub record Begins {E A : Type 0} (S : StepOf E A) (t : List E) : Type 0 where
  pub rest : List E
  pub answer : A
  pub whole : S (t ++ rest) answer

-- the past grew by some such trace
pub record Grows (old new : HostState) (P : List Event → Type 0) : Type 0 where
  pub trace : List Event
  pub grew : Grew old trace new
  pub holds : P trace
