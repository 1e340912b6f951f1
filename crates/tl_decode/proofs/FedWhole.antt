-- A decoder that is fed with all the bytes, piece by piece.
use Rattle.std.proofs.Common.{◌≡◌, ◌⊎◌, ℕ, zero, suc, ◌-◌, ◌≤◌, ◌<◌, List, [], ◌∷◌, ◌++◌, length, take, drop, append-nil, append_assoc, take-append-drop, true≢false, Option, Some, None, Result, Ok, Err, Bool, true, false, refl, sym, ap, ◌∙◌, subst, inl, inr, arith, get_or, ltb}
use Rattle.std.specs.Prelude.{◌≢◌, IfSome}
use Rattle.std.specs.Io.KnownBytes.{ReadConsumes}
use Rattle.std.proofs.lemmas.Bool.{cases_lt}
use Rattle.std.proofs.lemmas.Bool.Decides.{nat_tests}
use Rattle.std.proofs.lemmas.List.{length-append, take-append-le, take_at}
use Rattle.tl_numbers.specs.Bytes.{AreBytes}
use Rattle.tl_base.specs.declared.fault.Failed.{Failed}
use Rattle.tl_schema.specs.Types.{Shape}
use Rattle.tl_schema.specs.Schemas.{Declared}
use Rattle.tl_schema.specs.Formed.{IsFormed}
use Rattle.tl_plan.specs.Plans.{IsPlan, PlanView}
use Rattle.tl_plan.specs.PlanLaws.{IsInstance}
use Rattle.tl_types.specs.Values.{ValueView, depth}
use Rattle.tl_types.specs.Seen.{view}
use Rattle.tl_types.specs.Spelling.{Spells}
use Rattle.tl_types.specs.Refusal.{Refused}
use Rattle.tl_types.specs.Exactly.{BeginsWith}
use Rattle.tl_types.specs.Offsets.{moved}
use Rattle.tl_types.specs.declared.cause.Cause.{Cause}
use Rattle.tl_types.specs.declared.cause.Cause.TheVariants as cause
use Rattle.tl_types.specs.declared.value.Value.{Value}
use Rattle.tl_types.specs.declared.value.TheConstants.{MAX_LEVELS}
use Rattle.tl_types.proofs.Exactly.{exactly_one}
use Rattle.tl_decode.specs.declared.fault.DecodeFault.{DecodeFault}
use Rattle.tl_decode.specs.declared.fault.DecodeFault.TheVariants as fault
use Rattle.tl_decode.specs.declared.stack.Fed.{Fed}
use Rattle.tl_decode.specs.declared.stack.Fed.TheVariants as fed
use Rattle.tl_decode.specs.Decoders.{DecoderView, Feeds, HasTaken, HasValue}
use Rattle.tl_decode.proofs.FedBytes.{each_refusal_stays}
use Rattle.tl_decode.specs.declared.whole.WholeFault.{WholeFault}
use Rattle.tl_decode.specs.declared.whole.WholeFault.TheVariants as whole
use Rattle.tl_decode.specs.Wholes.{whole_fault, ReadsWhole}
use Rattle.tl_decode.specs.inner.FedWholes.{EndsAfter, FeedsWhole}

-- ---- bytes

get_front : (xs ys : List ℕ) (k : ℕ) → get_or xs k 0 ≤ get_or (xs ++ ys) k 0
get_front [] ys k = omega arith
get_front (x ∷ xs) ys zero = omega arith
get_front (x ∷ xs) ys (suc k) = get_front xs ys k

-- the first of some bytes are bytes
front_bytes : (xs ys : List ℕ) → AreBytes (xs ++ ys) → AreBytes xs
front_bytes xs ys are k = let le = get_front xs ys k in let lt = are k in omega (arith, le, lt)

-- ---- one piece

truncated_or_not : (c : Cause) → (c ≡ cause.Truncated) ⊎ (c ≢ cause.Truncated)
truncated_or_not cause.Truncated = inl refl
truncated_or_not cause.TooDeep = inr (λ e. cc)
truncated_or_not cause.Packed = inr (λ e. cc)
truncated_or_not (cause.UnknownNumber w) = inr (λ e. cc)
truncated_or_not (cause.BadCount w) = inr (λ e. cc)
truncated_or_not cause.LongString = inr (λ e. cc)
truncated_or_not cause.LooseString = inr (λ e. cc)
truncated_or_not cause.BadPadding = inr (λ e. cc)

-- these bytes were taken, and the input would be cut off there
pub record IsCut (schema : Declared) (T : Shape) (d : DecoderView) (bytes : List ℕ) : Type 0 where
  pub taken : HasTaken d bytes
  pub offset : ℕ
  pub refused : Refused schema MAX_LEVELS T bytes offset cause.Truncated
  pub place : d.at ≡ moved 0 offset

-- the value ends in the piece
pub record EndsIn (schema : Declared) (T : Shape) (d : DecoderView) (front piece : List ℕ) (used : ℕ) : Type 0 where
  v : ValueView
  x : List ℕ
  rest : List ℕ
  split : front ++ piece ≡ x ++ rest
  spells : Spells schema T v x
  deep : depth v ≤ MAX_LEVELS
  count : used ≡ length x - length front
  has : HasValue d v

module _ (old new : DecoderView) (good : IsPlan old.plan) (T : Shape) (is : IsInstance old.plan old.root T) (formed : IsFormed old.plan.schema T) (front piece : List ℕ) (taken : HasTaken old front) where
  abbrev own_schema : Declared
  own_schema = old.plan.schema

  module _ (r : Result Fed DecodeFault) (f : Feeds old new piece r) (are : AreBytes (front ++ piece)) where
    either : ((v : ValueView) × (x : List ℕ) × BeginsWith own_schema MAX_LEVELS T (front ++ piece) v x) ⊎ ((at : ℕ) × (why : Cause) × Refused own_schema MAX_LEVELS T (front ++ piece) at why)
    either = (exactly_one own_schema good.schema MAX_LEVELS T (front ++ piece) formed are).either

  pub feeds_more : Feeds old new piece (Ok fed.More) → AreBytes (front ++ piece) → IsCut own_schema T new (front ++ piece)
  feeds_more f are = elim (either (Ok fed.More) f are) [
    | inl (v, x, (rest, split, spells, deep)) ↦ absurd (f.spelled front taken T is v x rest split spells deep)
    | inr (at, why, r) ↦ elim (truncated_or_not why) [
      | inl e ↦
          let cut = subst (Refused own_schema MAX_LEVELS T (front ++ piece) at) e r in
          record { taken = f.taken front taken; offset = at; refused = cut; place = f.cut_off front taken T is at cut }
      | inr e ↦ absurd (f.refused front taken T is at why e r)
    ]
  ]

  pub feeds_done : (used : ℕ) → Feeds old new piece (Ok (fed.Done used)) → AreBytes (front ++ piece) → EndsIn own_schema T new front piece used
  feeds_done used f are = elim (either (Ok (fed.Done used)) f are) [
    | inl (v, x, (rest, split, spells, deep)) ↦ (let got = f.spelled front taken T is v x rest split spells deep in record { v = v; x = x; rest = rest; split = split; spells = spells; deep = deep; count = got.0; has = got.1 })
    | inr (at, why, r) ↦ elim (truncated_or_not why) [
      | inl e ↦ absurd (f.cut_off front taken T is at (subst (Refused own_schema MAX_LEVELS T (front ++ piece) at) e r))
      | inr e ↦ absurd (f.refused front taken T is at why e r)
    ]
  ]

  -- a fault is one of all the bytes
  pub feeds_fault : (more : List ℕ) → AreBytes ((front ++ piece) ++ more) → (e : DecodeFault) → Feeds old new piece (Err e) → ReadsWhole own_schema T ((front ++ piece) ++ more) (Err (whole_fault e))
  feeds_fault more are (fault.Refused place why) f =
      let stays = each_refusal_stays new (subst IsPlan (sym f.plan) good) (front ++ piece) more are (f.taken front taken) T (subst (λ (k : ℕ). IsInstance new.plan k T) (sym f.root) (subst (λ (p : PlanView). IsInstance p old.root T) (sym f.plan) is)) (subst (λ (p : PlanView). IsFormed p.schema T) (sym f.plan) formed) place why f.fault in
      (stays.0, subst (λ (p : PlanView). Refused p.schema MAX_LEVELS T ((front ++ piece) ++ more) stays.0 why) f.plan stays.1, stays.2)
  feeds_fault more are fault.ReadFault f = tt
  feeds_fault more are fault.Memory f = tt

-- ---- the value's end

module _ (schema : Declared) (T : Shape) (d : DecoderView) (front piece left : List ℕ) (used at place : ℕ) (more : Bool) where
  -- the bytes after the value: those of its piece and those that are left
  after : (e : EndsIn schema T d front piece used) → (bytes : List ℕ) → bytes ≡ (front ++ piece) ++ left → bytes ≡ e.x ++ (e.rest ++ left)
  after e bytes split = split ∙ ap (λ (z : List ℕ). z ++ left) e.split ∙ append_assoc e.x e.rest left

  no_rest : (rest : List ℕ) → length rest ≡ 0 → rest ≡ []
  no_rest [] e = refl
  no_rest (b ∷ rest) e = absurd (omega (arith, e))

  pub ends : (e : EndsIn schema T d front piece used) → length front ≤ length e.x → (more ≡ false → length piece ≤ used) → (bytes : List ℕ) → bytes ≡ (front ++ piece) ++ left → EndsAfter place more left (Ok tt) → FeedsWhole schema T bytes d (Ok tt)
  ends e before all bytes split h =
      let few = all h.0 in
      let none : e.rest ≡ [] = no_rest e.rest (omega (arith, ap length e.split, length-append front piece, length-append e.x e.rest, e.count, few, before)) in
      let same : bytes ≡ e.x = after e bytes split ∙ ap (λ (z : List ℕ). e.x ++ (z ++ left)) none ∙ ap (λ (z : List ℕ). e.x ++ z) h.1 ∙ append-nil e.x in
      (e.v, e.has, subst (Spells schema T e.v) (sym same) e.spells, e.deep)

  pub goes_on : (e : EndsIn schema T d front piece used) → length front ≤ length e.x → place ≡ moved 0 (length e.x) → (more ≡ true → used < length piece) → (bytes : List ℕ) → bytes ≡ (front ++ piece) ++ left → (q : ℕ) → EndsAfter place more left (Err (whole.Trailing q)) → ReadsWhole schema T bytes (Err (whole.Trailing q))
  goes_on e before at_end some bytes split q h = (e.v, e.x, e.rest ++ left, after e bytes split, longer h.1, e.spells, e.deep, h.0 ∙ at_end)
    where
      longer : ((more ≡ true) ⊎ (0 < length left)) → 0 < length (e.rest ++ left)
      longer (inl e_more) = let few = some e_more in omega (arith, ap length e.split, length-append front piece, length-append e.x e.rest, length-append e.rest left, e.count, few, before)
      longer (inr some_left) = omega (arith, length-append e.rest left, some_left)

-- ---- all pieces

-- the bytes before a piece, the piece, and what is left after it
pub record Stands (bytes front piece left : List ℕ) (c : Option (List ℕ)) : Type 0 where
  pub split : bytes ≡ (front ++ piece) ++ left
  pub rest : c ≡ Some left

module _ (old new : DecoderView) (good : IsPlan old.plan) (T : Shape) (is : IsInstance old.plan old.root T) (formed : IsFormed old.plan.schema T) (bytes front piece left : List ℕ) (c : Option (List ℕ)) (s : Stands bytes front piece left c) (are : AreBytes bytes) (taken : HasTaken old front) where
  are_front : AreBytes (front ++ piece)
  are_front = front_bytes (front ++ piece) left (subst AreBytes s.split are)

  pub stands_fault : (e : DecodeFault) → Feeds old new piece (Err e) → ReadsWhole old.plan.schema T bytes (Err (whole_fault e))
  stands_fault e f = subst (λ (z : List ℕ). ReadsWhole old.plan.schema T z (Err (whole_fault e))) (sym s.split) (feeds_fault old new good T is formed front piece taken left (subst AreBytes s.split are) e f)

  pub stands_more : Feeds old new piece (Ok fed.More) → IsCut old.plan.schema T new (front ++ piece)
  stands_more f = feeds_more old new good T is formed front piece taken f are_front

  pub stands_done : (used at place : ℕ) (more : Bool) (r : Result (Unit {0}) WholeFault) → Feeds old new piece (Ok (fed.Done used)) → ((e : EndsIn old.plan.schema T new front piece used) → length front ≤ length e.x) → at ≡ moved 0 (length front) → place ≡ moved at used
      → (more ≡ false → length piece ≤ used) → (more ≡ true → used < length piece) → IfSome c (λ rest. EndsAfter place more rest r) → FeedsWhole old.plan.schema T bytes new r
  stands_done used at place more r f before start is_place all some h = by r (subst (λ (o : Option (List ℕ)). IfSome o (λ rest. EndsAfter place more rest r)) s.rest h)
    where
      e : EndsIn old.plan.schema T new front piece used
      e = feeds_done old new good T is formed front piece taken used f are_front

      at_end : place ≡ moved 0 (length e.x)
      at_end = let le = before e in omega (arith, is_place, start, e.count, le)

      by : (r : Result (Unit {0}) WholeFault) → EndsAfter place more left r → FeedsWhole old.plan.schema T bytes new r
      by (Ok u) h = ends old.plan.schema T new front piece left used at place more e (before e) all bytes s.split h
      by (Err (whole.Trailing q)) h = goes_on old.plan.schema T new front piece left used at place more e (before e) at_end some bytes s.split q h
      by (Err (whole.Refused q why)) h = absurd h
      by (Err whole.ReadFault) h = tt
      by (Err whole.Memory) h = absurd h

-- a value doesn't end among bytes that are cut off
pub ends_later : (old new : DecoderView) (good : IsPlan old.plan) (T : Shape) → IsFormed old.plan.schema T → (front piece : List ℕ) (used : ℕ) → AreBytes front → IsCut old.plan.schema T old front → (e : EndsIn old.plan.schema T new front piece used) → length front ≤ length e.x
ends_later old new good T formed front piece used are cut e = elim (cases_lt (length e.x) (length front)) [
  | inl lt ↦
      let le : length e.x ≤ length front = omega (arith, lt) in
      let first : take (length e.x) front ≡ e.x = sym (take-append-le (length e.x) front piece le) ∙ ap (take (length e.x)) e.split ∙ take_at e.x e.rest (length e.x) refl in
      let split : front ≡ e.x ++ drop (length e.x) front = sym (take-append-drop (length e.x) front) ∙ ap (λ (z : List ℕ). z ++ drop (length e.x) front) first in
      absurd ((exactly_one old.plan.schema good.schema MAX_LEVELS T front formed are).never_both e.v e.x cut.offset cause.Truncated (drop (length e.x) front, split, e.spells, e.deep) cut.refused)
  | inr le ↦ le
]

-- what was fed begins the bytes, and is cut off; the others are left
abbrev pub FedSoFar : Declared → Shape → Option (List ℕ) → Option (List ℕ) → DecoderView → ℕ → Type 0
FedSoFar schema T None b d at = Unit {0}
FedSoFar schema T (Some bytes) b d at = (front : List ℕ) × (rest : List ℕ) × (bytes ≡ front ++ rest) × (b ≡ Some rest) × IsCut schema T d front × (at ≡ moved 0 (length front))

abbrev pub Whole : Declared → Shape → Option (List ℕ) → DecoderView → Result (Unit {0}) WholeFault → Type 0
Whole schema T a d r = IfSome a (λ bytes. FeedsWhole schema T bytes d r)

module _ (old new : DecoderView) (good : IsPlan old.plan) (T : Shape) (is : IsInstance old.plan old.root T) (formed : IsFormed old.plan.schema T) where
  -- ---- no byte

  none_stands : (bytes : List ℕ) → Stands bytes [] [] bytes (Some bytes)
  none_stands bytes = record { split = refl; rest = refl }

  pub first_fault : (a : Option (List ℕ)) (e : DecodeFault) → IfSome a AreBytes → HasTaken old [] → Feeds old new [] (Err e) → Whole old.plan.schema T a new (Err (whole_fault e))
  first_fault None e are taken f = tt
  first_fault (Some bytes) e are taken f = stands_fault old new good T is formed bytes [] [] bytes (Some bytes) (none_stands bytes) are taken e f

  pub first_more : (a : Option (List ℕ)) → IfSome a AreBytes → HasTaken old [] → Feeds old new [] (Ok fed.More) → FedSoFar old.plan.schema T a a new 0
  first_more None are taken f = tt
  first_more (Some bytes) are taken f = ([], bytes, refl, refl, stands_more old new good T is formed bytes [] [] bytes (Some bytes) (none_stands bytes) are taken f, refl)

  pub first_done : (a : Option (List ℕ)) (used : ℕ) (r : Result (Unit {0}) WholeFault) → IfSome a AreBytes → HasTaken old [] → Feeds old new [] (Ok (fed.Done used)) → IfSome a (λ rest. EndsAfter 0 false rest r) → Whole old.plan.schema T a new r
  first_done None used r are taken f h = tt
  first_done (Some bytes) used r are taken f h =
      let zero_used = feeds_done old new good T is formed [] [] taken used f (λ k. omega arith) in
      stands_done old new good T is formed bytes [] [] bytes (Some bytes) (none_stands bytes) are taken used 0 0 false r f (λ e. omega arith) refl (nothing used zero_used) (λ e. omega arith) (λ e. absurd (true≢false (sym e))) h
    where
      nothing : (used : ℕ) → EndsIn old.plan.schema T new [] [] used → 0 ≡ moved 0 used
      nothing used e = omega (arith, e.count, ap length e.split, length-append e.x e.rest)

  -- ---- a piece

  module _ (bytes front rest piece : List ℕ) (b c : Option (List ℕ)) (size : ℕ) (buffer : List ℕ) (split : bytes ≡ front ++ rest) (left : b ≡ Some rest) (is_piece : piece ≡ take size buffer) where
    read_stands : (o : Option (List ℕ)) → c ≡ o → ReadConsumes {E = Failed} (Some rest) o (Ok size) buffer → (ys : List ℕ) × Stands bytes front piece ys c
    read_stands None e h = absurd h.0
    read_stands (Some ys) e h = (ys, record { split = split ∙ ap (λ (z : List ℕ). front ++ z) (h.0 ∙ ap (λ (z : List ℕ). z ++ ys) (sym is_piece)) ∙ sym (append_assoc front piece ys); rest = e })

    pub stands : ReadConsumes {E = Failed} b c (Ok size) buffer → (ys : List ℕ) × Stands bytes front piece ys c
    stands h = read_stands c refl (subst (λ (o : Option (List ℕ)). ReadConsumes {E = Failed} o c (Ok size) buffer) left h)

  module _ (b c : Option (List ℕ)) (size at : ℕ) (buffer piece : List ℕ) (is_piece : piece ≡ take size buffer) (consumes : ReadConsumes {E = Failed} b c (Ok size) buffer) where
    pub piece_fault : (a : Option (List ℕ)) (e : DecodeFault) → IfSome a AreBytes → FedSoFar old.plan.schema T a b old at → Feeds old new piece (Err e) → Whole old.plan.schema T a new (Err (whole_fault e))
    piece_fault None e are h f = tt
    piece_fault (Some bytes) e are (front, rest, split, left, cut, count) f =
        let s = stands bytes front rest piece b c size buffer split left is_piece consumes in
        stands_fault old new good T is formed bytes front piece s.0 c s.1 are cut.taken e f

    pub piece_more : (a : Option (List ℕ)) (then : ℕ) → IfSome a AreBytes → FedSoFar old.plan.schema T a b old at → Feeds old new piece (Ok fed.More) → then ≡ moved at (length piece) → FedSoFar old.plan.schema T a c new then
    piece_more None then are h f e = tt
    piece_more (Some bytes) then are (front, rest, split, left, cut, count) f e =
        let s = stands bytes front rest piece b c size buffer split left is_piece consumes in
        (front ++ piece, s.0, s.1.split, s.1.rest, stands_more old new good T is formed bytes front piece s.0 c s.1 are cut.taken f, omega (arith, e, count, length-append front piece))

    pub piece_done : (a : Option (List ℕ)) (used place : ℕ) (more : Bool) (r : Result (Unit {0}) WholeFault) → IfSome a AreBytes → FedSoFar old.plan.schema T a b old at → Feeds old new piece (Ok (fed.Done used)) → place ≡ moved at used
        → (more ≡ false → length piece ≤ used) → (more ≡ true → used < length piece) → IfSome c (λ rest. EndsAfter place more rest r) → Whole old.plan.schema T a new r
    piece_done None used place more r are h f e all some ends = tt
    piece_done (Some bytes) used place more r are (front, rest, split, left, cut, count) f e all some ends =
        let s = stands bytes front rest piece b c size buffer split left is_piece consumes in
        stands_done old new good T is formed bytes front piece s.0 c s.1 are cut.taken used at place more r f (ends_later old new good T formed front piece used (front_bytes front rest (subst AreBytes split are)) cut) count e all some ends

-- ---- how much of a piece was used

pub piece_moved : (at size next n : ℕ) → size ≡ n → next ≡ moved at size → next ≡ moved at n
piece_moved at size next n same e = e ∙ ap (moved at) same

pub all_used : (used size n : ℕ) → size ≡ n → ltb used size ≡ false → n ≤ used
all_used used size n same e = let le : size ≤ used = grind (arith, nat_tests) in omega (arith, le, same)

pub some_left : (used size n : ℕ) → size ≡ n → ltb used size ≡ true → used < n
some_left used size n same e = let lt : used < size = grind (arith, nat_tests) in omega (arith, lt, same)

-- ---- no piece more

end_is : (b c : Option (List ℕ)) (rest buffer : List ℕ) → b ≡ Some rest → 0 < length buffer → ReadConsumes {E = Failed} b c (Ok 0) buffer → rest ≡ []
end_is b c rest buffer left some h = by c (subst (λ (o : Option (List ℕ)). ReadConsumes {E = Failed} o c (Ok 0) buffer) left h)
  where
    by : (o : Option (List ℕ)) → ReadConsumes {E = Failed} (Some rest) o (Ok 0) buffer → rest ≡ []
    by None h = absurd h.0
    by (Some ys) h = h.0 ∙ h.1 refl some

pub fed_end : (schema : Declared) (T : Shape) (a b c : Option (List ℕ)) (d : DecoderView) (at size place : ℕ) (buffer : List ℕ) → FedSoFar schema T a b d at → 0 < length buffer → size ≡ 0 → ReadConsumes {E = Failed} b c (Ok size) buffer → place ≡ d.at
    → Whole schema T a d (Err (whole.Refused place cause.Truncated))
fed_end schema T None b c d at size place buffer h some zero_size read is = tt
fed_end schema T (Some bytes) b c d at size place buffer (front, rest, split, left, cut, count) some zero_size read is =
    let none = end_is b c rest buffer left some (subst (λ (n : ℕ). ReadConsumes {E = Failed} b c (Ok n) buffer) zero_size read) in
    let all : bytes ≡ front = split ∙ ap (λ (z : List ℕ). front ++ z) none ∙ append-nil front in
    (cut.offset, subst (λ (z : List ℕ). Refused schema MAX_LEVELS T z cut.offset cause.Truncated) (sym all) cut.refused, is ∙ cut.place)

module _ (old new : DecoderView) (good : IsPlan old.plan) (T : Shape) (is : IsInstance old.plan old.root T) (formed : IsFormed old.plan.schema T) where
  pub first_goes : (a : Option (List ℕ)) (r : Fed) → IfSome a AreBytes → HasTaken old [] → ((used : ℕ) → r ≡ fed.Done used → ⊥) → Feeds old new [] (Ok r) → FedSoFar old.plan.schema T a a new 0
  first_goes a fed.More are taken other f = first_more old new good T is formed a are taken f
  first_goes a (fed.Done used) are taken other f = absurd (other used refl)

-- the value that a decoder has is read
pub has_read : (schema : Declared) (T : Shape) (bytes : List ℕ) (d : DecoderView) (value : Value) → ((v : ValueView) → HasValue d v → view value ≡ v) → FeedsWhole schema T bytes d (Ok tt) → ReadsWhole schema T bytes (Ok value)
has_read schema T bytes d value seen h = let same = sym (seen h.0 h.1) in (subst (λ (v : ValueView). Spells schema T v bytes) same h.2, subst (λ (v : ValueView). depth v ≤ MAX_LEVELS) same h.3)

-- ---- pieces of a decoder for a root of a plan

module _ (p : PlanView) (k : ℕ) (good : IsPlan p) (T : Shape) (is : IsInstance p k T) (formed : IsFormed p.schema T) (old new : DecoderView) (plan : old.plan ≡ p) (root : old.root ≡ k) where
  own_good : IsPlan old.plan
  own_good = subst IsPlan (sym plan) good

  own_is : IsInstance old.plan old.root T
  own_is = subst (λ (q : PlanView). IsInstance q old.root T) (sym plan) (subst (λ (j : ℕ). IsInstance p j T) (sym root) is)

  own_formed : IsFormed old.plan.schema T
  own_formed = subst (λ (q : PlanView). IsFormed q.schema T) (sym plan) formed

  module _ (a b c : Option (List ℕ)) (size at : ℕ) (buffer piece : List ℕ) (are : IfSome a AreBytes) (is_piece : piece ≡ take size buffer) (read : ReadConsumes {E = Failed} b c (Ok size) buffer) (so_far : FedSoFar p.schema T a b old at) where
    own_fed : FedSoFar old.plan.schema T a b old at
    own_fed = subst (λ (q : PlanView). FedSoFar q.schema T a b old at) (sym plan) so_far

    pub next_fault : (e : DecodeFault) → Feeds old new piece (Err e) → Whole p.schema T a new (Err (whole_fault e))
    next_fault e f = subst (λ (q : PlanView). Whole q.schema T a new (Err (whole_fault e))) plan (piece_fault old new own_good T own_is own_formed b c size at buffer piece is_piece read a e are own_fed f)

    pub next_more : (then : ℕ) → Feeds old new piece (Ok fed.More) → then ≡ moved at (length piece) → FedSoFar p.schema T a c new then
    next_more then f e = subst (λ (q : PlanView). FedSoFar q.schema T a c new then) plan (piece_more old new own_good T own_is own_formed b c size at buffer piece is_piece read a then are own_fed f e)

    pub next_done : (used place : ℕ) (more : Bool) (r : Result (Unit {0}) WholeFault) → Feeds old new piece (Ok (fed.Done used)) → place ≡ moved at used → (more ≡ false → length piece ≤ used) → (more ≡ true → used < length piece) → IfSome c (λ rest. EndsAfter place more rest r) → Whole p.schema T a new r
    next_done used place more r f e all some ends = subst (λ (q : PlanView). Whole q.schema T a new r) plan (piece_done old new own_good T own_is own_formed b c size at buffer piece is_piece read a used place more r are own_fed f e all some ends)

  -- ---- all the bytes are one piece

  module _ (bytes : List ℕ) (are : AreBytes bytes) (taken : HasTaken old []) where
    one_piece : Stands bytes [] bytes [] (Some [])
    one_piece = record { split = sym (append-nil bytes); rest = refl }

    pub one_fault : (e : DecodeFault) → Feeds old new bytes (Err e) → ReadsWhole p.schema T bytes (Err (whole_fault e))
    one_fault e f = subst (λ (q : PlanView). ReadsWhole q.schema T bytes (Err (whole_fault e))) plan (stands_fault old new own_good T own_is own_formed bytes [] bytes [] (Some []) one_piece are taken e f)

    pub one_more : (place : ℕ) → Feeds old new bytes (Ok fed.More) → place ≡ new.at → ReadsWhole p.schema T bytes (Err (whole.Refused place cause.Truncated))
    one_more place f is =
        let cut = stands_more old new own_good T own_is own_formed bytes [] bytes [] (Some []) one_piece are taken f in
        (cut.offset, subst (λ (q : PlanView). Refused q.schema MAX_LEVELS T bytes cut.offset cause.Truncated) plan cut.refused, is ∙ cut.place)

    one_done : (used place : ℕ) → place ≡ moved 0 used → (more : Bool) (r : Result (Unit {0}) WholeFault) → Feeds old new bytes (Ok (fed.Done used)) → (more ≡ false → length bytes ≤ used) → (more ≡ true → used < length bytes) → EndsAfter place more [] r → FeedsWhole p.schema T bytes new r
    one_done used place is_place more r f all some h =
        subst (λ (q : PlanView). FeedsWhole q.schema T bytes new r) plan
        (stands_done old new own_good T own_is own_formed bytes [] bytes [] (Some []) one_piece are taken used 0 place more r f (λ e. omega arith) refl is_place all some h)

    pub one_trailing : (used place : ℕ) → place ≡ moved 0 used → Feeds old new bytes (Ok (fed.Done used)) → used < length bytes → ReadsWhole p.schema T bytes (Err (whole.Trailing place))
    one_trailing used place is_place f some = one_done used place is_place true (Err (whole.Trailing place)) f (λ e. absurd (true≢false e)) (λ _. some) (refl, inl refl)

    pub one_value : (used : ℕ) → Feeds old new bytes (Ok (fed.Done used)) → length bytes ≤ used → (value : Value) → ((v : ValueView) → HasValue new v → view value ≡ v) → ReadsWhole p.schema T bytes (Ok value)
    one_value used f all value seen = has_read p.schema T bytes new value seen (one_done used (moved 0 used) refl false (Ok tt) f (λ _. all) (λ e. absurd (true≢false (sym e))) (refl, refl))

-- a decoder never has a read fault
pub fault_unread : (X : Type 0) (d : DecodeFault) → (◌≡◌ {A = Result Fed DecodeFault} (Err d) (Err fault.ReadFault) → ⊥) → ◌≡◌ {A = Result X WholeFault} (Err (whole_fault d)) (Err whole.ReadFault) → ⊥
fault_unread X (fault.Refused place why) other e = cc
fault_unread X fault.ReadFault other e = other refl
fault_unread X fault.Memory other e = cc

-- ---- a decoder that was made for a root of a plan

module _ (p : PlanView) (k : ℕ) (made : DecoderView) (plan : made.plan ≡ p) (root : made.root ≡ k) (new : DecoderView) (a : Option (List ℕ)) where
  -- what feeding it answers, of each formed type of its root
  abbrev pub FeedsEach : Result (Unit {0}) WholeFault → Type 0
  FeedsEach r = (T : Shape) → IsInstance made.plan made.root T → IsFormed made.plan.schema T → Whole made.plan.schema T a new r

  abbrev pub ReadsEach : Result Value WholeFault → Type 0
  ReadsEach r = (T : Shape) → IsInstance p k T → IsFormed p.schema T → IfSome a (λ bytes. ReadsWhole p.schema T bytes r)

  -- what was fed is read
  reads_as : (r : Result (Unit {0}) WholeFault) (s : Result Value WholeFault) → ((schema : Declared) (T : Shape) (bytes : List ℕ) → FeedsWhole schema T bytes new r → ReadsWhole schema T bytes s) → FeedsEach r → ReadsEach s
  reads_as r s reads fed = λ T is formed.
      by T a (subst (λ (q : PlanView). Whole q.schema T a new r) plan
      (fed T (subst (λ (q : PlanView). IsInstance q made.root T) (sym plan) (subst (λ (j : ℕ). IsInstance p j T) (sym root) is)) (subst (λ (q : PlanView). IsFormed q.schema T) (sym plan) formed)))
    where
      by : (T : Shape) (o : Option (List ℕ)) → Whole p.schema T o new r → IfSome o (λ bytes. ReadsWhole p.schema T bytes s)
      by T None h = tt
      by T (Some bytes) h = reads p.schema T bytes h

  pub made_fault : (e : WholeFault) → FeedsEach (Err e) → ReadsEach (Err e)
  made_fault e = reads_as (Err e) (Err e) (λ schema T bytes h. h)

  pub made_value : (value : Value) → ((v : ValueView) → HasValue new v → view value ≡ v) → FeedsEach (Ok tt) → ReadsEach (Ok value)
  made_value value seen = reads_as (Ok tt) (Ok value) (λ schema T bytes h. has_read schema T bytes new value seen h)
