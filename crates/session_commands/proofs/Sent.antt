-- What the next link gives are bytes, where an outside shows bytes.
use Rattle.std.proofs.Common.{◌≡◌, ℕ, List, [], ◌∷◌, get_or, refl, sym, ap, subst, arith}
use Rattle.tl_numbers.specs.Bytes.{AreBytes, ListsOfBytes}
use Rattle.tl_base.specs.Outside.{View, ShowsBytes}
use Rattle.session_commands.specs.Linked.{next_link}

-- ---- views with what they show

none_bytes : AreBytes []
none_bytes k = omega arith

first_bytes : (ls : List (List ℕ)) → ListsOfBytes ls → (v : View) → v.links ≡ ls → AreBytes (next_link v)
first_bytes [] all v is = subst AreBytes (sym (ap (λ (l : List (List ℕ)). get_or l 0 []) is)) none_bytes
first_bytes (x ∷ xs) all v is = subst AreBytes (sym (ap (λ (l : List (List ℕ)). get_or l 0 []) is)) all.0

pub link_bytes : (v : View) → ShowsBytes v → AreBytes (next_link v)
link_bytes v shown = first_bytes v.links shown.links v refl
