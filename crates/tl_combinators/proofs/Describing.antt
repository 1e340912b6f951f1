-- Each list of pieces has one description, and it is what the code makes of them.
use Rattle.std.proofs.Common.{◌≡◌, ℕ, ◌<◌, ◌≤◌, subst, List, [], ◌∷◌, ◌++◌, Bool, true, false, refl, sym, ap, ◌∙◌, inl, inr, append_assoc, All, arith}
use Rattle.std.specs.Prelude.{◌⊎◌, ◌||◌, nat_lt}
use Rattle.std.specs.List.{fold}
use Rattle.std.proofs.lemmas.List.{append-nil}
use Rattle.std.proofs.lemmas.List.Elements.{All-nil, All-cons, All-head, All-tail}
use Rattle.std.proofs.lemmas.Bool.{cases_lt}
use Rattle.std.proofs.lemmas.Bool.Decides.{nat_tests}
use Rattle.tl_lexer.specs.declared.token.Token.{Token}
use Rattle.tl_lexer.proofs.Whole.{Decided}
use Rattle.tl_combinators.specs.Description.{Piece, kept, omitted, spaced, token_of, IsLeftOut, IsSpaced, AreApart, IsSpaceWhere, Describes, none_kept, one_kept, next_kept}
use Rattle.tl_combinators.specs.DescriptionSoFar.{space, put, so_far}
use Rattle.tl_combinators.proofs.Decided.{decided_or}

-- ---- what the code makes of pieces

-- after a kept piece, whose end this is
abbrev after : ℕ → Bool → List Piece → List ℕ
after edge gap [] = []
after edge gap (kept t bytes ∷ ps) = space (gap || nat_lt edge t.start) ++ (bytes ++ after t.end false ps)
after edge gap (omitted t ∷ ps) = after t.end (gap || nat_lt edge t.start) ps
after edge gap (spaced t ∷ ps) = after t.end true ps

-- from the first kept piece on
abbrev from_first : List Piece → List ℕ
from_first [] = []
from_first (kept t bytes ∷ ps) = bytes ++ after t.end false ps
from_first (omitted t ∷ ps) = from_first ps
from_first (spaced t ∷ ps) = from_first ps

begun_is : (ps : List Piece) (bytes : List ℕ) (edge : ℕ) (gap : Bool) → (fold put (record { bytes = bytes; edge = edge; gap = gap; begun = true }) ps).bytes ≡ bytes ++ after edge gap ps
begun_is [] bytes edge gap = sym (append-nil bytes)
begun_is (kept t b ∷ ps) bytes edge gap =
    let due = space (gap || nat_lt edge t.start) in
    begun_is ps ((bytes ++ due) ++ b) t.end false ∙ append_assoc (bytes ++ due) b (after t.end false ps) ∙ append_assoc bytes due (b ++ after t.end false ps)
begun_is (omitted t ∷ ps) bytes edge gap = begun_is ps bytes t.end (gap || nat_lt edge t.start)
begun_is (spaced t ∷ ps) bytes edge gap = begun_is ps bytes t.end true

not_begun_is : (ps : List Piece) (edge : ℕ) (gap : Bool) → (fold put (record { bytes = []; edge = edge; gap = gap; begun = false }) ps).bytes ≡ from_first ps
not_begun_is [] edge gap = refl
not_begun_is (kept t b ∷ ps) edge gap = begun_is ps b t.end false
not_begun_is (omitted t ∷ ps) edge gap = not_begun_is ps t.end (gap || nat_lt edge t.start)
not_begun_is (spaced t ∷ ps) edge gap = not_begun_is ps t.end true

-- ---- pieces that are left out

left_first : (before ps : List Piece) → All IsLeftOut before → from_first (before ++ ps) ≡ from_first ps
left_first [] ps h = refl
left_first (kept t b ∷ before) ps h = absurd (All-head IsLeftOut (kept t b) before h)
left_first (omitted t ∷ before) ps h = left_first before ps (All-tail IsLeftOut (omitted t) before h)
left_first (spaced t ∷ before) ps h = left_first before ps (All-tail IsLeftOut (spaced t) before h)

none_first : (ps : List Piece) → All IsLeftOut ps → from_first ps ≡ []
none_first [] h = refl
none_first (kept t b ∷ ps) h = absurd (All-head IsLeftOut (kept t b) ps h)
none_first (omitted t ∷ ps) h = none_first ps (All-tail IsLeftOut (omitted t) ps h)
none_first (spaced t ∷ ps) h = none_first ps (All-tail IsLeftOut (spaced t) ps h)

none_after : (edge : ℕ) (gap : Bool) (ps : List Piece) → All IsLeftOut ps → after edge gap ps ≡ []
none_after edge gap [] h = refl
none_after edge gap (kept t b ∷ ps) h = absurd (All-head IsLeftOut (kept t b) ps h)
none_after edge gap (omitted t ∷ ps) h = none_after t.end (gap || nat_lt edge t.start) ps (All-tail IsLeftOut (omitted t) ps h)
none_after edge gap (spaced t ∷ ps) h = none_after t.end true ps (All-tail IsLeftOut (spaced t) ps h)

-- ---- the space before the next kept piece

due : (gap : Bool) (x y : ℕ) → (gap ≡ true) ⊎ (x < y) → (gap || nat_lt x y) ≡ true
due true x y h = refl
due false x y (inl e) = absurd cc
due false x y (inr less) = grind (arith, nat_tests, less)

not_due : (gap : Bool) (x y : ℕ) → gap ≡ false → (x < y → ⊥) → (gap || nat_lt x y) ≡ false
not_due true x y e n = absurd cc
not_due false x y e n = grind (arith, nat_tests, n)

module _ (b : Token) (others : List ℕ) (rest : List Piece) where
  abbrev up_to_next : List Piece → List Piece
  up_to_next between = between ++ (kept b others ∷ rest)

  abbrev text_after : List ℕ
  text_after = others ++ after b.end false rest

  further : (a t : Token) (gap : Bool) (ps : List Piece) → (gap ≡ true) ⊎ AreApart a (omitted t ∷ ps) b → ((gap || nat_lt a.end t.start) ≡ true) ⊎ AreApart t ps b
  further a t gap ps (inl e) = inl (due gap a.end t.start (inl e))
  further a t gap ps (inr (inl less)) = inl (due gap a.end t.start (inr less))
  further a t gap ps (inr (inr (inl s))) = absurd s
  further a t gap ps (inr (inr (inr more))) = inr more

  apart_after : (a : Token) (gap : Bool) (between : List Piece) → All IsLeftOut between → (gap ≡ true) ⊎ AreApart a between b → after a.end gap (up_to_next between) ≡ 32 ∷ text_after
  apart_after a gap [] h w = ap (λ (g : Bool). space g ++ text_after) (due gap a.end b.start w)
  apart_after a gap (kept t c ∷ ps) h w = absurd (All-head IsLeftOut (kept t c) ps h)
  apart_after a gap (omitted t ∷ ps) h w = apart_after t (gap || nat_lt a.end t.start) ps (All-tail IsLeftOut (omitted t) ps h) (further a t gap ps w)
  apart_after a gap (spaced t ∷ ps) h w = apart_after t true ps (All-tail IsLeftOut (spaced t) ps h) (inl refl)

  joined_after : (a : Token) (gap : Bool) (between : List Piece) → All IsLeftOut between → gap ≡ false → (AreApart a between b → ⊥) → after a.end gap (up_to_next between) ≡ text_after
  joined_after a gap [] h e n = ap (λ (g : Bool). space g ++ text_after) (not_due gap a.end b.start e n)
  joined_after a gap (kept t c ∷ ps) h e n = absurd (All-head IsLeftOut (kept t c) ps h)
  joined_after a gap (omitted t ∷ ps) h e n =
      joined_after t (gap || nat_lt a.end t.start) ps (All-tail IsLeftOut (omitted t) ps h) (not_due gap a.end t.start e (λ less. n (inl less))) (λ more. n (inr (inr more)))
  joined_after a gap (spaced t ∷ ps) h e n = absurd (n (inr (inl tt)))

  space_after : (a : Token) (between : List Piece) (s : List ℕ) → All IsLeftOut between → IsSpaceWhere (AreApart a between b) s → after a.end false (up_to_next between) ≡ s ++ text_after
  space_after a between s h (inl (p, e)) = apart_after a false between h (inr p) ∙ ap (λ (x : List ℕ). x ++ text_after) (sym e)
  space_after a between s h (inr (n, e)) = joined_after a false between h refl n ∙ ap (λ (x : List ℕ). x ++ text_after) (sym e)

-- ---- at most one description

described_is : (ps : List Piece) (text : List ℕ) → Describes ps text → text ≡ from_first ps
described_is _ _ (none_kept ps h) = sym (none_first ps h)
described_is _ _ (one_kept before behind a bytes h k) =
    sym (left_first before (kept a bytes ∷ behind) h ∙ ap (λ (x : List ℕ). bytes ++ x) (none_after a.end false behind k) ∙ append-nil bytes)
described_is _ _ (next_kept before between behind a b bytes others s text h k w d) =
    sym
    (left_first before (kept a bytes ∷ (between ++ (kept b others ∷ behind))) h
    ∙ ap (λ (x : List ℕ). bytes ++ x) (space_after b others behind a between s k w ∙ ap (λ (x : List ℕ). s ++ x) (sym (described_is (kept b others ∷ behind) text d))))

-- ---- at least one

spaced_decided : (p : Piece) → Decided (IsSpaced p)
spaced_decided (kept t b) = inr (λ h. h)
spaced_decided (omitted t) = inr (λ h. h)
spaced_decided (spaced t) = inl tt

less_from : (m n : ℕ) → (m < n) ⊎ (n ≤ m) → Decided (m < n)
less_from m n (inl e) = inl e
less_from m n (inr e) = inr (λ f. omega (arith, e, f))

apart_decided : (a : Token) (ps : List Piece) (b : Token) → Decided (AreApart a ps b)
apart_decided a [] b = less_from a.end b.start (cases_lt a.end b.start)
apart_decided a (p ∷ ps) b = decided_or (less_from a.end (token_of p).start (cases_lt a.end (token_of p).start)) (decided_or (spaced_decided p) (apart_decided (token_of p) ps b))

space_where : {P : Type 0} → Decided P → (s : List ℕ) × IsSpaceWhere P s
space_where (inl p) = (32 ∷ [], inl (p, refl))
space_where (inr n) = ([], inr (n, refl))

left_more : (p : Piece) → IsLeftOut p → (ps : List Piece) (text : List ℕ) → Describes ps text → Describes (p ∷ ps) text
left_more p l _ _ (none_kept ps h) = none_kept (p ∷ ps) (All-cons IsLeftOut p ps l h)
left_more p l _ _ (one_kept before behind a bytes h k) = one_kept (p ∷ before) behind a bytes (All-cons IsLeftOut p before l h) k
left_more p l _ _ (next_kept before between behind a b bytes others s text h k w d) = next_kept (p ∷ before) between behind a b bytes others s text (All-cons IsLeftOut p before l h) k w d

abbrev HasDescription : List Piece → Type 0
HasDescription ps = (text : List ℕ) × Describes ps text

kept_more : (a : Token) (bytes : List ℕ) (ps : List Piece) (text : List ℕ) → Describes ps text → HasDescription (kept a bytes ∷ ps)
kept_more a bytes _ _ (none_kept ps h) = (bytes, one_kept [] ps a bytes (All-nil IsLeftOut) h)
kept_more a bytes _ _ (one_kept before behind b others h k) =
    let s = space_where (apart_decided a before b) in
    (_, next_kept [] before behind a b bytes others s.0 others (All-nil IsLeftOut) h s.1 (one_kept [] behind b others (All-nil IsLeftOut) k))
kept_more a bytes _ _ (next_kept before between behind b c others more t text h k w d) =
    let s = space_where (apart_decided a before b) in
    (_, next_kept [] before (between ++ (kept c more ∷ behind)) a b bytes others s.0 _ (All-nil IsLeftOut) h s.1 (next_kept [] between behind b c others more t text (All-nil IsLeftOut) k w d))

some_description : (ps : List Piece) → HasDescription ps
some_description [] = ([], none_kept [] (All-nil IsLeftOut))
some_description (kept t b ∷ ps) = let d = some_description ps in kept_more t b ps d.0 d.1
some_description (omitted t ∷ ps) = let d = some_description ps in (d.0, left_more (omitted t) tt ps d.0 d.1)
some_description (spaced t ∷ ps) = let d = some_description ps in (d.0, left_more (spaced t) tt ps d.0 d.1)

-- ---- the law

pub one_description : (ps : List Piece) (x y : List ℕ) → Describes ps x → Describes ps y → x ≡ y
one_description ps x y p q = described_is ps x p ∙ sym (described_is ps y q)

pub has_description : (ps : List Piece) → HasDescription ps
has_description ps = some_description ps

describes_as : (ps : List Piece) (x y : List ℕ) → x ≡ y → Describes ps x → Describes ps y
describes_as ps x y e d = subst (Describes ps) e d

pub describes_so_far : (ps : List Piece) → Describes ps (so_far ps).bytes
describes_so_far ps = let d = some_description ps in describes_as ps d.0 _ (described_is ps d.0 d.1 ∙ sym (not_begun_is ps 0 false)) d.1
