-- The innermost frame.
use Rattle.std.proofs.Common.{◌≡◌, ◌<◌, ◌≤◌, ◌-◌, ◌+◌, ◌^◌, ℕ, List, [], ◌∷◌, Some, length, take, get_or, reverse, ap, ◌∙◌, sym, arith, subst}
use Rattle.std.proofs.lemmas.List.{take_more, reverse-append}
use Rattle.tl_encode.specs.inner.Frames.{EachIsCounted, first_of}
use Rattle.tl_encode.specs.declared.frames.WalkFrame.{WalkFrame}

-- it stands first
pub top_first : (frames : List WalkFrame) (h : ℕ) (d : WalkFrame) → h < length frames → reverse (take (h + 1) frames) ≡ get_or frames h d ∷ reverse (take h frames)
top_first frames h d lt = ap reverse (take_more frames h d lt) ∙ reverse-append (take h frames) (get_or frames h d ∷ [])

top_of : (frames : List WalkFrame) (h : ℕ) (f : WalkFrame) → 0 < h → h ≤ length frames → f ≡ get_or frames (h - 1) f → reverse (take h frames) ≡ f ∷ reverse (take (h - 1) frames)
top_of frames h f some le is =
    let e : h ≡ h - 1 + 1 = omega arith in
    ap (λ (k : ℕ). reverse (take k frames)) e ∙ top_first frames (h - 1) f (omega arith) ∙ ap (λ (x : WalkFrame). x ∷ reverse (take (h - 1) frames)) (sym is)

pub top_is : (frames : List WalkFrame) (h : ℕ) (f : WalkFrame) → 0 < h → h ≤ length frames → f ≡ get_or frames (h - 1) f → first_of (reverse (take h frames)) ≡ Some f
top_is frames h f some le is = ap first_of (top_of frames h f some le is)

pub top_short : (frames : List WalkFrame) (h : ℕ) (f : WalkFrame) → 0 < h → h ≤ length frames → f ≡ get_or frames (h - 1) f → EachIsCounted (reverse (take h frames)) → length f.values.now < 2 ^ 32
top_short frames h f some le is counted = (subst EachIsCounted (top_of frames h f some le is) counted).0.0
