-- What of a result is judged without making it: how deep it is, whether it takes no bytes, and whether an argument in it takes none.
-- This project's own.
use Rattle.std.specs.Prelude.{◌≡◌, ◌-◌, ◌^◌, ◌↔◌, ℕ, min, List, [], ◌∷◌, map, false, IsTrue}
use Rattle.tl_schema.specs.Types.{Shape, shapes_of}
use Rattle.tl_schema.specs.Schemas.{Declared}
use Rattle.tl_schema.specs.Closing.{closed}
use Rattle.tl_schema.specs.Formed.{IsEmpty}
use Rattle.tl_plan.specs.Types.{levels, deepest}
use Rattle.tl_calls.specs.Results.{HasEmptyArgument, HasEmptyAmong}
use Rattle.tl_calls.specs.declared.traits.Traits.{Traits}

-- a number of levels, as far as it is counted
abbrev pub counted : ℕ → ℕ
counted n = min n (2 ^ 64 - 1)

-- those of a type of one level that takes bytes
abbrev pub plain : Traits
plain = record { levels = 1; empty = false; holds_empty = false }

-- the traits are the type's
pub record AreTraits (schema : Declared) (T : Shape) (t : Traits) : Type 0 where
  pub deep : t.levels ≡ counted (levels T)
  pub empty : IsTrue t.empty ↔ IsEmpty schema T
  pub holds_empty : IsTrue t.holds_empty ↔ HasEmptyArgument schema T

-- the traits are those of arguments: the levels of the deepest, and whether one takes no bytes or holds one that takes none
pub record AreTraitsAmong (schema : Declared) (Ts : List Shape) (t : Traits) : Type 0 where
  pub deep : t.levels ≡ counted (deepest (shapes_of Ts))
  pub holds_empty : IsTrue t.holds_empty ↔ HasEmptyAmong schema (shapes_of Ts)

-- each is the traits of the type at its index, and they are as many
abbrev pub KnowsTraits : Declared → List Shape → List Traits → Type 0
KnowsTraits schema [] [] = Unit {0}
KnowsTraits schema [] (t ∷ ts) = ⊥
KnowsTraits schema (T ∷ Ts) [] = ⊥
KnowsTraits schema (T ∷ Ts) (t ∷ ts) = AreTraits schema T t × KnowsTraits schema Ts ts

-- the traits of the type, whatever types of the known traits stand in place of its variables
abbrev pub TraitsStand : Declared → List Traits → Shape → Traits → Type 0
TraitsStand schema known T t = (Ts : List Shape) → KnowsTraits schema Ts known → AreTraits schema (closed Ts T) t

-- likewise of several
abbrev pub TraitsStandAmong : Declared → List Traits → List Shape → Traits → Type 0
TraitsStandAmong schema known args t = (Ts : List Shape) → KnowsTraits schema Ts known → AreTraitsAmong schema (map (closed Ts) args) t
