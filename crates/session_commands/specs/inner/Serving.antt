-- What the parts of `serve` do. This project's own.
use Rattle.std.specs.Prelude.{◌≡◌, ℕ, List, ◌++◌, Bool, true, false}
use Rattle.outside.specs.Kept.{AddsPrefix}

-- ---- a session's end is told

-- What stands on Errors after one line more: the line, where all before it stand there whole, or a prefix of it where its writing failed; after that
-- no more.
abbrev pub GoesOn : Bool → Bool → List ℕ → List ℕ → List ℕ → Type 0
GoesOn true true old new line = new ≡ old ++ line
GoesOn true false old new line = AddsPrefix old new line
GoesOn false true old new line = ⊥
GoesOn false false old new line = new ≡ old
