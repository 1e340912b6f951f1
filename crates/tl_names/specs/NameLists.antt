-- Lists of names. This project's own.
use Rattle.std.specs.Prelude.{◌≡◌, ℕ, ◌<◌, List, [], ◌∷◌, ◌++◌, position, bytes_eq, slice_get, Option, Some, if◌then◌else◌}
use Rattle.std.specs.List.{list_any}

-- the names with this one at their end, if it isn't among them
abbrev pub with_name : List (List ℕ) → List ℕ → List (List ℕ)
with_name names name = if list_any (bytes_eq name) names then names else names ++ name ∷ []

-- the first index at which the name stands
abbrev pub position_of : List ℕ → List (List ℕ) → Option ℕ
position_of name names = position (bytes_eq name) names

-- element k of the list stands earlier in it too
pub record IsRepeat {X : Type 0} (xs : List X) (k : ℕ) : Type 0 where
  pub earlier : ℕ
  pub item : X
  pub before : earlier < k
  pub there : slice_get xs earlier ≡ Some item
  pub here : slice_get xs k ≡ Some item
