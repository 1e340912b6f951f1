-- Laws of messages and their bytes. This project's own.
use Rattle.std.specs.Prelude.{◌≡◌, ℕ, List, None}
use Rattle.tl_types.specs.Values.{ValueView}
use Rattle.wire_profile.specs.Indexes.{ProfileView}
use Rattle.wire_profile.specs.Profiles.{IsProfile}
use Rattle.box_wire.specs.Kinds.{Kind}
use Rattle.box_wire.specs.Framing.{Framed, Means}

-- the message is its value's again, its parts have a spelling, and its value has no cause
pub record IsInRange {M : Type 0} (kind : Kind) (tree : M → ValueView) (Is Fits : M → Type 0) (m : M) : Type 0 where
  pub is : Is m
  pub fits : Fits m
  pub clear : kind.cause (tree m) ≡ None

-- by each profile each message whose parts have a spelling has one
abbrev pub AreSpelled : {M : Type 0} → Kind → (M → ValueView) → (M → Type 0) → Type 0
AreSpelled {M} kind tree Fits = (p : ProfileView) → IsProfile p → (m : M) → Fits m → (b : List ℕ) × Framed p kind (tree m) b

-- by each profile the spelling of a message in range means it
abbrev pub AreReadBack : {M : Type 0} → Kind → (M → ValueView) → (M → Type 0) → (M → Type 0) → Type 0
AreReadBack {M} kind tree Is Fits = (p : ProfileView) → IsProfile p → (m : M) → IsInRange kind tree Is Fits m → (b : List ℕ) → Framed p kind (tree m) b → Means p kind (tree m) b
