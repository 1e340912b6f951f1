-- What is made of a file, from what is made of the text that was read of it.
use Rattle.std.proofs.Common.{◌≡◌, ℕ, ◌<◌, List, ◌++◌, length, Result, sym, subst}
use Rattle.tl_base.specs.declared.host.Slot.{Slot}
use Rattle.outside.specs.declared.stop.LoadError.{LoadError}
use Rattle.outside.specs.declared.stop.LoadError.TheVariants as load_error
use Rattle.outside.specs.Loading.{Refuses, Gives}

-- ---- a refusal

pub refuses_as : (P Q : List ℕ → Type 0) (fault : LoadError) → ((line : List ℕ) → P line → Q line) → Refuses P fault → Refuses Q fault
refuses_as P Q (load_error.Refused line) f h = f _ h
refuses_as P Q load_error.ReadFault f h = absurd h
refuses_as P Q load_error.Memory f h = tt

pub memory_refuses : (P : List ℕ → Type 0) (fault : LoadError) → fault ≡ load_error.Memory → Refuses P fault
memory_refuses P fault is = subst (Refuses P) (sym is) tt

-- ---- a file

module _ {X : Type 0} (slot : Slot) (name : List ℕ) (limit : ℕ) (Is : List ℕ → X → Type 0) (Tells : List ℕ → List ℕ → Type 0) where
  -- what is made of a text that is too long is made of all that begin so
  abbrev pub StaysLong : Type 0
  StaysLong = (bytes read rest : List ℕ) (r : Result X LoadError) → bytes ≡ read ++ rest → limit < length read → Gives Is Tells read r → Gives Is Tells bytes r
