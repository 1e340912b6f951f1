-- What a text that is held whole gets. This project's own.
use Rattle.std.specs.Prelude.{◌≡◌, ℕ, List, [], ◌++◌, false}
use Rattle.std.proofs.Common.{sym, ap, ◌∙◌, append-nil, append_assoc}
use Rattle.tl_show.specs.declared.held.HeldText.{HeldText}

-- these bytes were appended, unless memory ran out
abbrev pub Holds : HeldText → HeldText → List ℕ → Type 0
Holds x y bytes = y.is_lost ≡ false → (x.is_lost ≡ false) × (y.bytes.items ≡ x.bytes.items ++ bytes)

pub holds_none : (x : HeldText) → Holds x x []
holds_none x kept = (kept, sym (append-nil x.bytes.items))

pub holds_both : (x y z : HeldText) (a b : List ℕ) → Holds x y a → Holds y z b → Holds x z (a ++ b)
holds_both x y z a b first next kept =
    let later = next kept in
    let before = first later.0 in
    (before.0, later.1 ∙ ap (λ l. l ++ b) before.1 ∙ append_assoc x.bytes.items a b)
