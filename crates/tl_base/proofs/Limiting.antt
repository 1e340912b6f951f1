-- A read within a limit is a read of what lies before it.
use Rattle.std.proofs.Common.{◌≡◌, ℕ, ◌+◌, ◌-◌, ◌<◌, ◌≤◌, min, List, [], ◌∷◌, ◌++◌, length, get_or, take, drop, Option, Some, None, refl, sym, ap, ◌∙◌, ap₂, append_assoc, subst, inl, inr, arith, length-drop, take-append-drop}
use Rattle.std.specs.Prelude.{option_map}
use Rattle.std.specs.Io.KnownBytes.{Consumes, IsAtEnd}
use Rattle.std.proofs.lemmas.List.{length-append, length-take-le, take_all, take-append-le, drop-drop, drop_at}
use Rattle.std.proofs.Math.Seq.{take-append-add}
use Rattle.std.proofs.lemmas.Bool.{cases_lt}
use Rattle.std.specs.Prelude.{IsSome}
use Rattle.tl_base.specs.Using.{Aside, SourceState, Used}
use Rattle.tl_base.specs.Outside.{View}
use Rattle.tl_base.specs.declared.counts.Counts.{Counts}
use Rattle.tl_base.specs.Limits.{after_limit, past_end, limited_state}

take_none : (n : ℕ) → take {A = ℕ} n [] ≡ []
take_none n = take_all n [] (omega arith)

-- the first of what comes after a prefix
pub take_past : (zs ys : List ℕ) (r : ℕ) → length zs ≤ r → take r (zs ++ ys) ≡ zs ++ take (r - length zs) ys
take_past zs ys r le = ap (λ (k : ℕ). take k (zs ++ ys)) (omega (arith, le)) ∙ take-append-add zs ys (r - length zs)

pub drop_past : (zs ys : List ℕ) (r : ℕ) → length zs ≤ r → drop r (zs ++ ys) ≡ drop (r - length zs) ys
drop_past zs ys r le = ap (λ (k : ℕ). drop k (zs ++ ys)) (omega (arith, le)) ∙ (sym (drop-drop (r - length zs) (length zs) (zs ++ ys)) ∙ ap (drop (r - length zs)) (drop_at zs ys (length zs) refl))

pub limited_bytes : (a b : Option (List ℕ)) (rest n : ℕ) (piece : List ℕ) → length piece ≡ n → n ≤ rest → Consumes a b piece → Consumes (option_map (take rest) a) (option_map (take (rest - n)) b) piece
limited_bytes None b rest n piece len le h = tt
limited_bytes (Some x) None rest n piece len le h = absurd h
limited_bytes (Some x) (Some y) rest n piece len le h = ap (take rest) h ∙ take_past piece y rest (omega (arith, len, le)) ∙ ap (λ (k : ℕ). piece ++ take (rest - k) y) len

pub limited_end : (b : Option (List ℕ)) (rest : ℕ) → IsAtEnd b → IsAtEnd (option_map (take rest) b)
limited_end None rest h = tt
limited_end (Some y) rest h = ap (take rest) h ∙ take_none rest

pub limit_end : (b : Option (List ℕ)) (rest : ℕ) → rest ≡ 0 → IsAtEnd (option_map (take rest) b)
limit_end None rest e = tt
limit_end (Some y) rest e = ap (λ (k : ℕ). take k y) e

pub after_limit_kept : (a b : Option (List ℕ)) (rest n : ℕ) (piece : List ℕ) → length piece ≡ n → n ≤ rest → (a ≡ None → b ≡ None) → Consumes a b piece → after_limit (rest - n) b ≡ after_limit rest a
after_limit_kept None b rest n piece len le none h = ap (after_limit (rest - n)) (none refl)
after_limit_kept (Some x) None rest n piece len le none h = absurd h
after_limit_kept (Some x) (Some y) rest n piece len le none h = sym (ap (drop rest) h ∙ drop_past piece y rest (omega (arith, len, le)) ∙ ap (λ (k : ℕ). drop (rest - k) y) len)

pub past_kept : (a b : Option (List ℕ)) (rest n : ℕ) (piece : List ℕ) → length piece ≡ n → n ≤ rest → (a ≡ None → b ≡ None) → Consumes a b piece → past_end (rest - n) b ≡ past_end rest a
past_kept None b rest n piece len le none h = ap (past_end (rest - n)) (none refl)
past_kept (Some x) None rest n piece len le none h = absurd h
past_kept (Some x) (Some y) rest n piece len le none h = omega (arith, ap length h, length-append piece y, len, le)

pub limited_read : (a b : Option (List ℕ)) (rest n room : ℕ) (piece more : List ℕ) → n ≤ length piece → length piece ≡ room → room ≡ min (length (piece ++ more)) rest
    → Consumes a b (take n piece) × (n ≡ 0 → 0 < length piece → IsAtEnd b)
    → Consumes (option_map (take rest) a) (option_map (take (rest - n)) b) (take n (piece ++ more)) × (n ≡ 0 → 0 < length (piece ++ more) → IsAtEnd (option_map (take (rest - n)) b))
limited_read a b rest n room piece more le wide small h = (
  subst (Consumes (option_map (take rest) a) (option_map (take (rest - n)) b)) (sym (take-append-le n piece more le))
      (limited_bytes a b rest n (take n piece) (length-take-le n piece le) (omega (arith, le, wide, small)) h.0),
  λ none some. elim (cases_lt 0 room) [
    | inl has ↦ limited_end b (rest - n) (h.1 none (omega (arith, wide, has)))
    | inr full ↦ limit_end b (rest - n) (omega (arith, full, small, some))
  ],
)

-- what stands beside a limited source
limited_aside : ℕ → ℕ → ℕ → List ℕ → Aside → Aside
limited_aside reference limit past bytes x = record x { held = (reference ∷ limit ∷ past ∷ []) ∷ bytes ∷ x.held }

same_aside : (reference limit : ℕ) (p q : ℕ) (b d : List ℕ) (x y : Aside) → p ≡ q → b ≡ d → x ≡ y → limited_aside reference limit p b x ≡ limited_aside reference limit q d y
same_aside reference limit p q b d x y e f g = cc

told_by : (f : List ℕ → List ℕ) (a : Option (List ℕ)) → IsSome (option_map f a) → IsSome a
told_by f None some = absurd cc
told_by f (Some x) some = refl

told_on : (f : List ℕ → List ℕ) (a : Option (List ℕ)) → IsSome a → IsSome (option_map f a)
told_on f None some = absurd cc
told_on f (Some x) some = refl

untold_by : (f : List ℕ → List ℕ) (a : Option (List ℕ)) → option_map f a ≡ None → a ≡ None
untold_by f None none = refl
untold_by f (Some x) none = absurd cc

untold_on : (f : List ℕ → List ℕ) (a : Option (List ℕ)) → a ≡ None → option_map f a ≡ None
untold_on f a none = ap (option_map f) none

pub limited_used : (limit rest reference n : ℕ) (s t : SourceState) (piece : List ℕ) (F : Type 0) → n ≤ length piece → length piece ≤ rest → Used s t F → Consumes s.left t.left (take n piece)
    → Used (limited_state limit rest s reference) (limited_state limit (rest - n) t reference) F
unfolding limited_aside
limited_used limit rest reference n s t piece F le small u h =
    let len : length (take n piece) ≡ n = length-take-le n piece le in
    let fits : n ≤ rest = omega (arith, le, small) in
    record {
      later = u.later;
      cause = u.cause;
      kept = same_aside reference limit _ _ _ _ t.aside s.aside (past_kept s.left t.left rest n (take n piece) len fits u.untold h) (after_limit_kept s.left t.left rest n (take n piece) len fits u.untold h) u.kept;
      told = λ some. told_on (take (rest - n)) t.left (u.told (told_by (take rest) s.left some));
      untold = λ none. untold_on (take (rest - n)) t.left (u.untold (untold_by (take rest) s.left none));
      stays = λ some sound. u.stays (told_by (take rest) s.left some) sound;
      never = λ some sound f. u.never (told_by (take rest) s.left some) sound f;
    }

-- ---- what a caller has of the other source: as many bytes as were taken within the limit, the same bytes

pub over_limit : (x y : List ℕ) (r s : ℕ) (piece : List ℕ) → take r x ≡ piece ++ take s y → drop s y ≡ drop r x → s - length y ≡ r - length x → (x ≡ piece ++ y) × (r ≡ length piece + s)
over_limit x y r s piece front back past =
    let whole : x ≡ piece ++ y =
    sym (take-append-drop r x) ∙ (ap₂ (λ (a b : List ℕ). a ++ b) front (sym back) ∙ (append_assoc piece (take s y) (drop s y) ∙ ap (λ (l : List ℕ). piece ++ l) (take-append-drop s y))) in
    (whole, omega (arith, ap length whole, length-append piece y, ap length back, length-drop s y, length-drop r x, past))

took_at : (a b : Option (List ℕ)) (r s : ℕ) (piece : List ℕ) → after_limit s b ≡ after_limit r a → past_end s b ≡ past_end r a → Consumes (option_map (take r) a) (option_map (take s) b) piece → Consumes a b piece × (IsSome a → r ≡ length piece + s)
took_at None b r s piece back past h = (tt, λ some. absurd cc)
took_at (Some x) None r s piece back past h = absurd h
took_at (Some x) (Some y) r s piece back past h = let both = over_limit x y r s piece h back past in (both.0, λ some. both.1)

abbrev made_of_parts : Counts → Option View → List (List ℕ) → Aside
made_of_parts counts view held = record { counts = counts; view = view; held = held }

same_parts : (a b : Aside) → a.counts ≡ b.counts → a.view ≡ b.view → a.held ≡ b.held → a ≡ b
same_parts a b p q r =
    ap (λ (x : Counts). made_of_parts x a.view a.held) p ∙ (ap (λ (x : Option View). made_of_parts b.counts x a.held) q ∙ ap (made_of_parts b.counts b.view) r)

inner_aside : (l k r s m n : ℕ) (x y : SourceState) → (limited_state k s y n).aside ≡ (limited_state l r x m).aside → y.aside ≡ x.aside
inner_aside l k r s m n x y e = same_parts y.aside x.aside (ap (λ (a : Aside). a.counts) e) (ap (λ (a : Aside). a.view) e) (ap (λ (a : Aside). drop 2 a.held) e)

-- what a call over a limited source took, it took of the other source; and the limit is nearer by as much
pub limited_took : (l k r s m n : ℕ) (x y : SourceState) (piece : List ℕ) → (limited_state k s y n).aside ≡ (limited_state l r x m).aside → Consumes (limited_state l r x m).left (limited_state k s y n).left piece
    → Consumes x.left y.left piece × (IsSome x.left → r ≡ length piece + s)
limited_took l k r s m n x y piece e h = took_at x.left y.left r s piece (ap (λ (a : Aside). get_or a.held 1 []) e) (ap (λ (a : Aside). get_or (get_or a.held 0 []) 2 0) e) h

-- the limit is the one that it was
pub limit_kept : (l k r s m n : ℕ) (x y : SourceState) → (limited_state k s y n).aside ≡ (limited_state l r x m).aside → k ≡ l
limit_kept l k r s m n x y e = ap (λ (a : Aside). get_or (get_or a.held 0 []) 1 0) e

-- what it did to the limited source beside that, it did to the other source
pub limited_back : (l k r s m n : ℕ) (x y : SourceState) (F : Type 0) → Used (limited_state l r x m) (limited_state k s y n) F → Used x y F
limited_back l k r s m n x y F u =
    record {
      later = u.later;
      cause = u.cause;
      kept = inner_aside l k r s m n x y u.kept;
      told = λ some. told_by (take s) y.left (u.told (told_on (take r) x.left some));
      untold = λ none. untold_by (take s) y.left (u.untold (untold_on (take r) x.left none));
      stays = λ some sound. u.stays (told_on (take r) x.left some) sound;
      never = λ some sound f. u.never (told_on (take r) x.left some) sound f;
    }
