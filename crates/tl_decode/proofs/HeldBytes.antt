-- How many bytes an item needs, and items that are whole.
use Rattle.std.proofs.Common.{◌≡◌, inl, inr, ℕ, ◌+◌, ◌-◌, ◌<◌, ◌≤◌, List, [], ◌++◌, length, take, drop, get_or, Some, None, Ok, Err, Result, refl, ap, sym, ◌∙◌, arith, Bool, true, false, ◌==◌, if◌then◌else◌, ltb, lt-ltb, le-ltb, nat_le, take-append-drop, take-add, append_assoc}
use Rattle.std.specs.Int.{w32, w64, cast_signed, from_le_bytes}
use Rattle.std.proofs.lemmas.Bool.{cases_lt}
use Rattle.std.proofs.lemmas.List.{length-append, length-take-le, length-drop, drop-drop, drop-append-le, take-append-le, take_all}
use Rattle.tl_types.specs.Offsets.{moved}
use Rattle.tl_types.specs.Values as value
use Rattle.tl_types.specs.inner.Reading.{Head, Spot, spot, Read, ◌>>=◌, exact_at, word_at, double_at, plain_at, text_at, text_rest, text_head_of, text_more, text_end, all_zero, long_length}
use Rattle.tl_types.specs.declared.cause.Cause.{Cause}
use Rattle.tl_types.specs.declared.cause.Cause.TheVariants.{Truncated, LongString, LooseString, BadPadding}
use Rattle.tl_types.proofs.Numbers.{exact_again, exact_short, word_short, moved_moved}
use Rattle.tl_decode.specs.declared.stack.WantedItem.{WantedItem}
use Rattle.tl_decode.specs.declared.stack.WantedItem.TheVariants as wanted
use Rattle.tl_decode.specs.declared.stack.Item.{Item}
use Rattle.tl_decode.specs.declared.stack.Item.TheVariants as item
use Rattle.tl_base.specs.declared.fault.Fault.{Fault}
use Rattle.tl_base.specs.declared.fault.Fault.TheVariants as stop
use Rattle.tl_decode.specs.inner.Frames.{item_at, item_view, ItemView, word, plain, is_truncated}
use Rattle.tl_decode.specs.inner.Needs.{head_needs, needs, text_needs, IsWhole, Fills, FindsItem}

-- ---- heads

-- a head has a byte at least and four at most, and is the number of bytes of a text below 2^24, or the string is refused as a whole
head_cases : (P : Result Head Cause → Type 0) (w : List ℕ) → P (Err LongString) → P (Err LooseString) → P (Ok (4, long_length w)) → P (Ok (1, get_or w 0 0)) → P (text_head_of w)
head_cases P w a b c d = outer (get_or w 0 0 == 255)
  where
    inner : (x : Bool) → P (if x then Err LooseString else Ok (4, long_length w))
    inner true = b
    inner false = c

    middle : (x : Bool) → P (if x then (if nat_le (long_length w) 253 then Err LooseString else Ok (4, long_length w)) else Ok (1, get_or w 0 0))
    middle true = inner (nat_le (long_length w) 253)
    middle false = d

    outer : (x : Bool) → P (if x then Err LongString else if get_or w 0 0 == 254 then (if nat_le (long_length w) 253 then Err LooseString else Ok (4, long_length w)) else Ok (1, get_or w 0 0))
    outer true = a
    outer false = middle (get_or w 0 0 == 254)

pub head_least : (w : List ℕ) → 4 ≤ head_needs (text_head_of w)
head_least w = head_cases (λ (r : Result Head Cause). 4 ≤ head_needs r) w (omega arith) (omega arith) (omega arith) (omega arith)

-- ---- needs

pub text_four : (b : List ℕ) → length b < 4 → text_needs b ≡ 4
unfolding text_needs
text_four b few = let t : ltb (length b) 4 ≡ true = lt-ltb _ _ few in rw t refl

pub text_more_than : (b : List ℕ) → 4 ≤ length b → text_needs b ≡ head_needs (text_head_of (take 4 b))
unfolding text_needs
text_more_than b some = let t : ltb (length b) 4 ≡ false = le-ltb _ _ some in rw t refl

pub text_least : (b : List ℕ) → 4 ≤ text_needs b
text_least b = elim (cases_lt (length b) 4) [
  | inl few ↦ omega (arith, text_four b few)
  | inr some ↦ omega (arith, text_more_than b some, head_least (take 4 b))
]

text_grows : (b m : List ℕ) → text_needs b ≤ text_needs (b ++ m)
text_grows b m = elim (cases_lt (length b) 4) [
  | inl few ↦ omega (arith, text_four b few, text_least (b ++ m))
  | inr some ↦
      let long : 4 ≤ length (b ++ m) = omega (arith, length-append b m, some) in
      let same : take 4 (b ++ m) ≡ take 4 b = take-append-le 4 b m some in
      let e : head_needs (text_head_of (take 4 (b ++ m))) ≡ head_needs (text_head_of (take 4 b)) = ap (λ (w : List ℕ). head_needs (text_head_of w)) same in
      omega (arith, text_more_than b some, text_more_than (b ++ m) long, e)
]

-- more bytes tell of no fewer
pub needs_grow : (W : WantedItem) (b m : List ℕ) → needs W b ≤ needs W (b ++ m)
needs_grow wanted.Int b m = omega arith
needs_grow wanted.Nat b m = omega arith
needs_grow wanted.Long b m = omega arith
needs_grow (wanted.Opaque k) b m = omega arith
needs_grow wanted.Text b m = text_grows b m
needs_grow (wanted.Number j) b m = omega arith
needs_grow (wanted.ListNumber j) b m = omega arith
needs_grow (wanted.Count j) b m = omega arith

text_again : (b : List ℕ) → text_needs b ≤ length b → text_needs (take (text_needs b) b) ≡ text_needs b
text_again b le =
    let least = text_least b in
    let some : 4 ≤ length b = omega (arith, least, le) in
    let len : length (take (text_needs b) b) ≡ text_needs b = length-take-le (text_needs b) b le in
    let long : 4 ≤ length (take (text_needs b) b) = omega (arith, len, least) in
    let split : take (text_needs b) b ++ drop (text_needs b) b ≡ b = take-append-drop (text_needs b) b in
    let same : take 4 (take (text_needs b) b) ≡ take 4 b = sym (take-append-le 4 (take (text_needs b) b) (drop (text_needs b) b) long) ∙ ap (take 4) split in
    text_more_than (take (text_needs b) b) long ∙ ap (λ (w : List ℕ). head_needs (text_head_of w)) same ∙ sym (text_more_than b some)

-- an item that is cut off where it ends needs as many bytes
pub needs_again : (W : WantedItem) (b : List ℕ) → needs W b ≤ length b → needs W (take (needs W b) b) ≡ needs W b
needs_again wanted.Int b le = refl
needs_again wanted.Nat b le = refl
needs_again wanted.Long b le = refl
needs_again (wanted.Opaque k) b le = refl
needs_again wanted.Text b le = text_again b le
needs_again (wanted.Number j) b le = refl
needs_again (wanted.ListNumber j) b le = refl
needs_again (wanted.Count j) b le = refl

-- ---- items that aren't whole

word_cut : (p : ℕ) (b : List ℕ) → length b < 4 → ◌≡◌ {A = Read ItemView} (◌>>=◌ {A = ℕ × Spot} {B = ItemView × Spot} (word_at (spot p b)) (λ x. Ok (word x.0, x.1))) (Err (p, Truncated))
word_cut p b few = rw (word_short p b few) refl

-- a head that is refused needs four bytes
rest_cut : (h : Result Head Cause) (p : ℕ) (w t : List ℕ) → length t + 4 < head_needs h → text_rest p w h (spot (moved p 4) t) ≡ Err (p, Truncated)
unfolding text_rest
rest_cut (Ok h) p w t few = rw (exact_short p (moved p 4) (text_more h) t (omega (arith, few))) refl
rest_cut (Err cause) p w t few = absurd (omega (arith, few))

text_cut : (p : ℕ) (b : List ℕ) → length b < text_needs b → text_at (spot p b) ≡ Err (p, Truncated)
unfolding text_at
text_cut p b few = elim (cases_lt (length b) 4) [
  | inl less ↦ rw (exact_short p p 4 b less) refl
  | inr some ↦
      let split : b ≡ take 4 b ++ drop 4 b = sym (take-append-drop 4 b) in
      let read : exact_at p 4 (spot p b) ≡ Ok (take 4 b, spot (moved p 4) (drop 4 b)) = ap (λ (z : List ℕ). exact_at p 4 (spot p z)) split ∙ exact_again p p (take 4 b) (drop 4 b) 4 (length-take-le 4 b some) in
      rw read (rest_cut (text_head_of (take 4 b)) p (take 4 b) (drop 4 b) (omega (arith, few, text_more_than b some, length-drop 4 b, some)))
]

pub item_cut : (W : WantedItem) (p : ℕ) (b : List ℕ) → length b < needs W b → item_at W (spot p b) ≡ Err (p, Truncated)
unfolding item_at plain_at double_at
item_cut wanted.Int p b few = word_cut p b few
item_cut wanted.Nat p b few = word_cut p b few
item_cut wanted.Long p b few = rw (exact_short p p 8 b few) refl
item_cut (wanted.Opaque k) p b few = rw (exact_short p p k b few) refl
item_cut wanted.Text p b few = rw (text_cut p b few) refl
item_cut (wanted.Number j) p b few = word_cut p b few
item_cut (wanted.ListNumber j) p b few = word_cut p b few
item_cut (wanted.Count j) p b few = word_cut p b few

-- ---- items that are whole

pub word_whole : (p w : ℕ) (b more : List ℕ) → length b ≡ 4 → w ≡ from_le_bytes w32 b → item_at wanted.Nat (spot p (b ++ more)) ≡ Ok (word w, spot (moved p (length b)) more)
unfolding item_at word_at
word_whole p w b more four is = rw (four, exact_again p p b more 4 four, is) refl

pub long_whole : (p w : ℕ) (b more : List ℕ) → length b ≡ 8 → w ≡ from_le_bytes w64 b → item_at wanted.Long (spot p (b ++ more)) ≡ Ok (plain (value.long (cast_signed w64 w)), spot (moved p (length b)) more)
unfolding item_at plain_at double_at
long_whole p w b more eight is = rw (eight, exact_again p p b more 8 eight, is) refl

pub opaque_whole : (p k : ℕ) (b more : List ℕ) → length b ≡ k → item_at (wanted.Opaque k) (spot p (b ++ more)) ≡ Ok (plain (value.opaque b), spot (moved p (length b)) more)
unfolding item_at plain_at
opaque_whole p k b more len = rw (len, exact_again p p b more k len) refl

-- a string that is whole: its first four bytes, and the others
text_read : (p : ℕ) (b more : List ℕ) → 4 ≤ length b → text_at (spot p (b ++ more)) ≡ text_rest p (take 4 b) (text_head_of (take 4 b)) (spot (moved p 4) (drop 4 b ++ more))
unfolding text_at
text_read p b more some =
    let split : b ++ more ≡ take 4 b ++ (drop 4 b ++ more) = ap (λ (z : List ℕ). z ++ more) (sym (take-append-drop 4 b)) ∙ append_assoc (take 4 b) (drop 4 b) more in
    let read : exact_at p 4 (spot p (b ++ more)) ≡ Ok (take 4 b, spot (moved p 4) (drop 4 b ++ more)) = ap (λ (z : List ℕ). exact_at p 4 (spot p z)) split ∙ exact_again p p (take 4 b) (drop 4 b ++ more) 4 (length-take-le 4 b some) in
    rw read refl

text_parts : (p : ℕ) (h : Head) (b more : List ℕ) → 4 ≤ length b → h.0 ≤ 4 → length b ≡ head_needs (Ok h) → text_rest p (take 4 b) (Ok h) (spot (moved p 4) (drop 4 b ++ more)) ≡ text_end p h.1 (drop h.0 b) (spot (moved p (length b)) more)
unfolding text_rest
text_parts p h b more some few all =
    let len : length (drop 4 b) ≡ text_more h = omega (arith, length-drop 4 b, some, all) in
    let joined : drop h.0 (take 4 b) ++ drop 4 b ≡ drop h.0 b = sym (drop-append-le h.0 (take 4 b) (drop 4 b) (omega (arith, length-take-le 4 b some, few))) ∙ ap (drop h.0) (take-append-drop 4 b) in
    let sum : length b ≡ 4 + text_more h = omega (arith, len, length-drop 4 b, some) in
    let place : moved (moved p 4) (text_more h) ≡ moved p (length b) = moved_moved p 4 (text_more h) (length b) sum in
    rw (exact_again p (moved p 4) (drop 4 b) more (text_more h) len, joined, place) refl

pub text_wrong : (p : ℕ) (cause : Cause) (b more : List ℕ) → 4 ≤ length b → text_head_of (take 4 b) ≡ Err cause → item_at wanted.Text (spot p (b ++ more)) ≡ Err (p, cause)
unfolding item_at plain_at text_rest
text_wrong p cause b more some is = rw (text_read p b more some, is) refl

module _ (h : Head) (b : List ℕ) (some : 4 ≤ length b) (few : h.0 ≤ 4) (is : text_head_of (take 4 b) ≡ Ok h) (all : length b ≡ head_needs (Ok h)) where
  text_ends : (p : ℕ) (more : List ℕ) → text_at (spot p (b ++ more)) ≡ text_end p h.1 (drop h.0 b) (spot (moved p (length b)) more)
  text_ends p more = text_read p b more some ∙ ap (λ (r : Result Head Cause). text_rest p (take 4 b) r (spot (moved p 4) (drop 4 b ++ more))) is ∙ text_parts p h b more some few all

  pub text_padded : (p : ℕ) (more : List ℕ) → all_zero (drop h.1 (drop h.0 b)) ≡ false → item_at wanted.Text (spot p (b ++ more)) ≡ Err (p, BadPadding)
  unfolding item_at plain_at text_end
  text_padded p more bad = rw (text_ends p more, bad) refl

  pub text_whole : (p : ℕ) (more : List ℕ) → all_zero (drop h.1 (drop h.0 b)) ≡ true → item_at wanted.Text (spot p (b ++ more)) ≡ Ok (plain (value.text (take h.1 (drop h.0 b))), spot (moved p (length b)) more)
  unfolding item_at plain_at text_end
  text_whole p more good = rw (text_ends p more, good) refl

-- the causes of a head
pub head_whole : (w : List ℕ) (cause : Cause) → text_head_of w ≡ Err cause → is_truncated cause ≡ false
head_whole w cause is = head_cases (λ (r : Result Head Cause). r ≡ Err cause → is_truncated cause ≡ false) w (λ e. ap is_truncated (of_err e)) (λ e. ap is_truncated (of_err e)) (λ e. absurd (never e)) (λ e. absurd (never e)) is
  where
    of_err : {c : Cause} → ◌≡◌ {A = Result Head Cause} (Err c) (Err cause) → cause ≡ c
    of_err e = cc

    never : {x : Head} → ◌≡◌ {A = Result Head Cause} (Ok x) (Err cause) → ⊥
    never e = cc

pub padding_is : (r : Bool) (b slice : List ℕ) (head size : ℕ) → r ≡ all_zero slice → slice ≡ take (length b - (head + size)) (drop (head + size) b) → all_zero (drop size (drop head b)) ≡ r
padding_is r b slice head size is part = ap all_zero (drop-drop size head b) ∙ sym (ap all_zero (part ∙ take_all (length b - (head + size)) (drop (head + size) b) (omega (arith, length-drop (head + size) b)))) ∙ sym is

pub cut_fits : (W : WantedItem) (next : List ℕ) (size : ℕ) → size ≡ needs W next → size ≤ length next → length (take size next) ≡ needs W (take size next)
cut_fits W next size is le =
    let fits : needs W next ≤ length next = omega (arith, is, le) in
    ap (λ (n : ℕ). length (take n next)) is ∙ length-take-le (needs W next) next fits ∙ sym (needs_again W next fits) ∙ ap (λ (n : ℕ). needs W (take n next)) (sym is)

-- ---- held bytes and next ones

pub split_next : (old next more : List ℕ) (n : ℕ) → old ++ (next ++ more) ≡ (old ++ take n next) ++ (drop n next ++ more)
split_next old next more n =
    ap (λ (z : List ℕ). old ++ z) (ap (λ (z : List ℕ). z ++ more) (sym (take-append-drop n next)) ∙ append_assoc (take n next) (drop n next) more) ∙ sym (append_assoc old (take n next) (drop n next ++ more))

pub direct_item : (W : WantedItem) (old next : List ℕ) (size : ℕ) (x : Item) → old ≡ [] → size ≤ length next → IsWhole W (take size next) (Ok x) → FindsItem W old old next (Ok (Some (x, size)))
direct_item W old next size x none le whole =
    let len : length (take size next) ≡ length old + size = omega (arith, length-take-le size next le, ap length none) in (
      none,
      le,
      λ p more.
          ap (λ (z : List ℕ). item_at W (spot p z)) (split_next old next more size ∙ ap (λ (z : List ℕ). (z ++ take size next) ++ (drop size next ++ more)) none)
          ∙ whole p (drop size next ++ more) ∙ ap (λ (n : ℕ). Ok (item_view x, spot (moved p n) (drop size next ++ more))) len,
    )

pub word_next : (W : WantedItem) (old next : List ℕ) (w : ℕ) → ((s : Spot) → item_at W s ≡ item_at wanted.Nat s) → old ≡ [] → 4 ≤ length next → w ≡ from_le_bytes w32 (take 4 next) → FindsItem W old old next (Ok (Some (item.Word w, 4)))
word_next W old next w same none some is =
    direct_item W old next 4 (item.Word w) none some (λ p more. same (spot p (take 4 next ++ more)) ∙ word_whole p w (take 4 next) more (length-take-le 4 next some) is)

pub direct_stop : (W : WantedItem) (old new next : List ℕ) (size : ℕ) (st : Fault Cause) → old ≡ [] → IsWhole W (take size next) (Err st) → FindsItem W old new next (Err st)
direct_stop W old new next size (stop.Refused cause) none whole = (
  whole.0,
  λ p more.
      ap (λ (z : List ℕ). item_at W (spot p z)) (split_next old next more size ∙ ap (λ (z : List ℕ). (z ++ take size next) ++ (drop size next ++ more)) none) ∙ whole.1 p (drop size next ++ more),
)
direct_stop W old new next size stop.Memory none whole = tt

pub held_more : (W : WantedItem) (old new next : List ℕ) (count : ℕ) → Fills W old new next count → length new < needs W new → FindsItem W old new next (Ok None)
held_more W old new next count f few = let all = f.all few in (f.more ∙ ap (λ (z : List ℕ). old ++ z) (take_all count next (omega (arith, all))), few)

pub held_item : (W : WantedItem) (old mid new next : List ℕ) (count : ℕ) (x : Item) → Fills W old mid next count → IsWhole W mid (Ok x) → new ≡ [] → FindsItem W old new next (Ok (Some (x, count)))
held_item W old mid new next count x f whole none =
    let len : length mid ≡ length old + count = omega (arith, ap length f.more, length-append old (take count next), length-take-le count next f.within) in (
      none,
      f.within,
      λ p more.
          ap (λ (z : List ℕ). item_at W (spot p z)) (split_next old next more count ∙ ap (λ (z : List ℕ). z ++ (drop count next ++ more)) (sym f.more))
          ∙ whole p (drop count next ++ more) ∙ ap (λ (n : ℕ). Ok (item_view x, spot (moved p n) (drop count next ++ more))) len,
    )

pub held_stop : (W : WantedItem) (old mid new next : List ℕ) (count : ℕ) (st : Fault Cause) → Fills W old mid next count → IsWhole W mid (Err st) → FindsItem W old new next (Err st)
held_stop W old mid new next count (stop.Refused cause) f whole = (
  whole.0,
  λ p more.
      ap (λ (z : List ℕ). item_at W (spot p z)) (split_next old next more count ∙ ap (λ (z : List ℕ). z ++ (drop count next ++ more)) (sym f.more)) ∙ whole.1 p (drop count next ++ more),
)
held_stop W old mid new next count stop.Memory f whole = tt

pub filled : (W : WantedItem) (old held new next : List ℕ) (used count : ℕ) → held ≡ old ++ take used next → new ≡ held ++ take ((used + count) - used) (drop used next) → used + count ≤ length next → length held + count ≤ needs W held
    → (new ≡ old ++ take (used + count) next) × (length new ≤ needs W new)
filled W old held new next used count so is within few =
    let part : take ((used + count) - used) (drop used next) ≡ take count (drop used next) = ap (λ (n : ℕ). take n (drop used next)) (omega arith) in
    let now : new ≡ held ++ take count (drop used next) = is ∙ ap (λ (z : List ℕ). held ++ z) part in
    let more : needs W new ≡ needs W (held ++ take count (drop used next)) = ap (needs W) now in (
      now ∙ ap (λ (z : List ℕ). z ++ take count (drop used next)) so ∙ append_assoc old (take used next) (take count (drop used next)) ∙ ap (λ (z : List ℕ). old ++ z) (sym (take-add used count next)),
      omega (arith, needs_grow W held (take count (drop used next)), more, few, ap length now, length-append held (take count (drop used next)), length-take-le count (drop used next) (omega (arith, length-drop used next, within))),
    )
