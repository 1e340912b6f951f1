-- At most so many bytes of another source. This project's own.
use Rattle.std.specs.Prelude.{ℕ, ◌-◌, List, [], ◌∷◌, length, take, drop, Option, Some, None, option_map}
use Rattle.tl_base.specs.Using.{SourceState}

-- what stands after the limit, where the other source tells it
abbrev pub after_limit : ℕ → Option (List ℕ) → List ℕ
after_limit rest None = []
after_limit rest (Some bytes) = drop rest bytes

-- by how many bytes the limit lies past the end, where the other source tells it
abbrev pub past_end : ℕ → Option (List ℕ) → ℕ
past_end rest None = 0
past_end rest (Some bytes) = rest - length bytes

-- The other source, of which at most `rest` more of `limit` bytes are given. Beside it stands what stands beside the other source, which
-- reference holds that, the limit, and where it lies.
abbrev pub limited_state : ℕ → ℕ → SourceState → ℕ → SourceState
limited_state limit rest s reference = record {
  left = option_map (take rest) s.left;
  faults = s.faults;
  aside = record s.aside { held = (reference ∷ limit ∷ past_end rest s.left ∷ []) ∷ after_limit rest s.left ∷ s.aside.held };
  sound = s.sound;
}
