-- Items of a source, of which four bytes are taken before it is known how many they have.
use Rattle.std.proofs.Common.{◌≡◌, ℕ, ◌+◌, ◌<◌, ◌≤◌, List, ◌++◌, length, take, drop, Option, Some, None, Result, Ok, Err, refl, ap, sym, ◌∙◌, subst, arith, inl, inr, take-append-drop, append_assoc}
use Rattle.std.specs.Prelude.{◌≢◌, IfSome}
use Rattle.std.proofs.lemmas.Bool.{cases_lt}
use Rattle.std.proofs.lemmas.List.{length-append, length-take-le, nil_from_length, take-append-le}
use Rattle.tl_base.specs.Taking.{TakesBytes}
use Rattle.tl_base.specs.declared.source.TakeFault.TheVariants as took
use Rattle.tl_plan.specs.Plans.{PlanView}
use Rattle.tl_types.specs.Offsets.{moved}
use Rattle.tl_types.specs.inner.Reading.{◌>>=◌, Fault, Spot, spot, Read, added_at, exact_at, plain_at, text_head_of, word_at}
use Rattle.tl_types.specs.declared.cause.Cause.TheVariants.{Truncated}
use Rattle.tl_schema.specs.Types.{Shape}
use Rattle.tl_schema.specs.Types as type
use Rattle.tl_types.specs.Seen.{view}
use Rattle.tl_types.specs.declared.value.Value.{Value}
use Rattle.tl_types.specs.Values.{ValueView}
use Rattle.tl_types.specs.Values as value
use Rattle.tl_types.proofs.Numbers.{exact_again, exact_short, moved_moved}
use Rattle.tl_decode.specs.declared.fault.DecodeFault.{DecodeFault}
use Rattle.tl_decode.specs.declared.fault.DecodeFault.TheVariants.{Refused, ReadFault, Memory}
use Rattle.tl_decode.specs.declared.stack.WantedItem.{WantedItem}
use Rattle.tl_decode.specs.declared.stack.WantedItem.TheVariants as wanted
use Rattle.tl_decode.specs.declared.stack.Item.{Item}
use Rattle.tl_base.specs.declared.fault.Fault.{Fault as ItemFault}
use Rattle.tl_base.specs.declared.fault.Fault.TheVariants as stop
use Rattle.tl_types.specs.declared.cause.Cause.{Cause}
use Rattle.tl_decode.specs.inner.Steps.{FailsAs, OrEnds, ReadsAs}
use Rattle.tl_decode.specs.inner.Frames.{ItemView, item_at, item_view, IsStop, IsWellWanted, item_value, item_value_at, plain, word}
use Rattle.tl_decode.specs.inner.Needs.{head_needs, needs, text_needs, IsWhole, IsWholeAt}
use Rattle.tl_decode.proofs.Steps.{as_read}
use Rattle.tl_decode.proofs.HeldBytes.{item_cut, text_least, text_more_than}

-- ---- how many bytes an item needs

-- each needs four at least
pub wide_item : (p : PlanView) (W : WantedItem) → IsWellWanted p W → (b : List ℕ) → 4 ≤ needs W b
wide_item p wanted.Int w b = omega arith
wide_item p wanted.Nat w b = omega arith
wide_item p wanted.Long w b = omega arith
wide_item p (wanted.Opaque k) w b = w
wide_item p wanted.Text w b = text_least b
wide_item p (wanted.Number j) w b = omega arith
wide_item p (wanted.ListNumber j) w b = omega arith
wide_item p (wanted.Count j) w b = omega arith

text_first : (w x : List ℕ) → length w ≡ 4 → text_needs (w ++ x) ≡ text_needs w
text_first w x four =
    let some : 4 ≤ length w = omega (arith, four) in
    text_more_than (w ++ x) (omega (arith, length-append w x, four)) ∙ ap (λ (z : List ℕ). head_needs (text_head_of z)) (take-append-le 4 w x some) ∙ sym (text_more_than w some)

-- the first four bytes tell
pub needs_first : (W : WantedItem) (w x : List ℕ) → length w ≡ 4 → needs W (w ++ x) ≡ needs W w
needs_first wanted.Int w x four = refl
needs_first wanted.Nat w x four = refl
needs_first wanted.Long w x four = refl
needs_first (wanted.Opaque k) w x four = refl
needs_first wanted.Text w x four = text_first w x four
needs_first (wanted.Number j) w x four = refl
needs_first (wanted.ListNumber j) w x four = refl
needs_first (wanted.Count j) w x four = refl

-- ---- the bytes after the first four

exact_whole : (place p n : ℕ) (b : List ℕ) → n ≤ length b → exact_at place n (spot p b) ≡ Ok (take n b, spot (moved p n) (drop n b))
exact_whole place p n b le = ap (λ (z : List ℕ). exact_at place n (spot p z)) (sym (take-append-drop n b)) ∙ exact_again place p (take n b) (drop n b) n (length-take-le n b le)

added_whole : (w : List ℕ) (place p n : ℕ) (b : List ℕ) → n ≤ length b → added_at w place n (spot p b) ≡ Ok (w ++ take n b, spot (moved p n) (drop n b))
added_whole w place p n b le = rw (exact_whole place p n b le) refl

added_short : (w : List ℕ) (place p n : ℕ) (b : List ℕ) → length b < n → added_at w place n (spot p b) ≡ Err (place, Truncated)
added_short w place p n b few = rw (exact_short place p n b few) refl

same_ok : {x y : List ℕ × Spot} → ◌≡◌ {A = Read (List ℕ)} (Ok x) (Ok y) → x ≡ y
same_ok e = cc

never : {P : Type 0} {f : Fault} {y : List ℕ × Spot} → ◌≡◌ {A = Read (List ℕ)} (Ok y) (Err f) → P
never e = absurd cc

as_item : {x y : Fault} → ◌≡◌ {A = Read (List ℕ)} (Err x) (Err y) → ◌≡◌ {A = Read ItemView} (Err x) (Err y)
as_item e = ap (λ (r : Read (List ℕ)). elim r as (λ _. Read ItemView) [ Ok y ↦ Err (0, Truncated) | Err f ↦ Err f ]) e

module _ (W : WantedItem) (w : List ℕ) (four : length w ≡ 4) (place n : ℕ) (all : 4 + n ≡ needs W w) where
  abbrev whole : Spot → Read ItemView
  whole s = item_at W (spot place (w ++ s.bytes))

  pub after_fails : (see : Unit {0} → List ℕ) (a b : Option (List ℕ)) (p q r : ℕ) (e : DecodeFault) → ReadsAs {X = Unit {0}} see a b p q (Err e) (added_at w place n) → ReadsAs {X = Item} item_view a b p r (Err e) whole
  after_fails see None b p q r e h = tt
  after_fails see (Some bytes) b p q r (Refused at cause) h = elim (cases_lt (length bytes) n) [
    | inl few ↦ item_cut W place (w ++ bytes) (omega (arith, length-append w bytes, four, all, needs_first W w bytes four, few)) ∙ as_item (sym (added_short w place p n bytes few) ∙ h)
    | inr le ↦ never (sym (added_whole w place p n bytes le) ∙ h)
  ]
  after_fails see (Some bytes) b p q r ReadFault h = tt
  after_fails see (Some bytes) b p q r Memory h = tt

  -- all of the item, and what is left
  record Joins (p q : ℕ) (bytes out rest : List ℕ) : Type 0 where
    split : w ++ bytes ≡ out ++ rest
    at : q ≡ moved place (length out)

  joins : (p q : ℕ) (bytes out rest : List ℕ) → p ≡ moved place 4 → added_at w place n (spot p bytes) ≡ Ok (out, spot q rest) → Joins p q bytes out rest
  joins p q bytes out rest start h = elim (cases_lt (length bytes) n) [
    | inl few ↦ never (sym h ∙ added_short w place p n bytes few)
    | inr le ↦
        let both = same_ok (sym (added_whole w place p n bytes le) ∙ h) in
        let made : w ++ take n bytes ≡ out = ap (λ (y : List ℕ × Spot). y.0) both in
        let left : drop n bytes ≡ rest = ap (λ (y : List ℕ × Spot). y.1.bytes) both in
        let then : moved p n ≡ q = ap (λ (y : List ℕ × Spot). y.1.place) both in
        let len : length out ≡ 4 + n = omega (arith, sym (ap length made), length-append w (take n bytes), four, length-take-le n bytes le) in
        record {
          split =
              ap (λ (z : List ℕ). w ++ z) (sym (take-append-drop n bytes)) ∙ sym (append_assoc w (take n bytes) (drop n bytes))
              ∙ ap (λ (z : List ℕ). z ++ drop n bytes) made ∙ ap (λ (z : List ℕ). out ++ z) left;
          at = sym then ∙ ap (λ (k : ℕ). moved k n) start ∙ moved_moved place 4 n (length out) len;
        }
  ]

  pub after_read : (out : List ℕ) (a b : Option (List ℕ)) (p q : ℕ) (x : Item) → p ≡ moved place 4 → ReadsAs {X = Unit {0}} (λ _. out) a b p q (Ok tt) (added_at w place n) → IsWhole W out (Ok x) → ReadsAs item_view a b p q (Ok x) whole
  after_read out None b p q x start h is = tt
  after_read out (Some bytes) b p q x start h is =
      let j = joins p q bytes out h.0 start h.2 in
      (h.0, h.1, ap (λ (z : List ℕ). item_at W (spot place z)) j.split ∙ is place h.0 ∙ ap (λ (k : ℕ). Ok (item_view x, spot k h.0)) (sym j.at))

  pub after_stop : (out : List ℕ) (a b : Option (List ℕ)) (p q r : ℕ) (st : ItemFault Cause) (e : DecodeFault) → p ≡ moved place 4 → ReadsAs {X = Unit {0}} (λ _. out) a b p q (Ok tt) (added_at w place n) → IsWhole W out (Err st) → IsStop st place e → ReadsAs {X = Item} item_view a b p r (Err e) whole
  after_stop out None b p q r st e start h is same = tt
  after_stop out (Some bytes) b p q r (stop.Refused cause) e start h is same =
      let j = joins p q bytes out h.0 start h.2 in
      subst (λ (f : DecodeFault). FailsAs f (whole (spot p bytes))) (sym same) (ap (λ (z : List ℕ). item_at W (spot place z)) j.split ∙ is.1 place h.0)
  after_stop out (Some bytes) b p q r stop.Memory e start h is same = subst (λ (f : DecodeFault). FailsAs f (whole (spot p bytes))) (sym same) tt

  pub after_whole : (out : List ℕ) (a b : Option (List ℕ)) (p q : ℕ) (r : Result Item DecodeFault) → p ≡ moved place 4 → ReadsAs {X = Unit {0}} (λ _. out) a b p q (Ok tt) (added_at w place n) → IsWholeAt W out place r → ReadsAs item_view a b p q r whole
  after_whole out a b p q (Ok x) start h is = after_read out a b p q x start h is
  after_whole out a b p q (Err e) start h is = after_stop out a b p q q is.0 e start h is.2 is.1

-- the first four bytes are all of it
module _ (W : WantedItem) (w : List ℕ) (four : length w ≡ 4) (place : ℕ) where
  pub first_whole : (a : Option (List ℕ)) (p : ℕ) (r : Result Item DecodeFault) → p ≡ moved place 4 → IsWholeAt W w place r → ReadsAs item_view a a p p r (λ s. item_at W (spot place (w ++ s.bytes)))
  first_whole None p r start is = tt
  first_whole (Some bytes) p (Ok x) start is = (bytes, refl, is place bytes ∙ ap (λ (k : ℕ). Ok (item_view x, spot k bytes)) (ap (moved place) four ∙ sym start))
  first_whole (Some bytes) p (Err e) start is = by is.0 is.1 is.2
    where
      by : (st : ItemFault Cause) → IsStop st place e → IsWhole W w (Err st) → FailsAs e (item_at W (spot place (w ++ bytes)))
      by (stop.Refused cause) same k = subst (λ (f : DecodeFault). FailsAs f (item_at W (spot place (w ++ bytes)))) (sym same) (k.1 place bytes)
      by stop.Memory same k = subst (λ (f : DecodeFault). FailsAs f (item_at W (spot place (w ++ bytes)))) (sym same) tt

-- the length of what was added to the first four bytes
pub whole_length : (W : WantedItem) (w x out : List ℕ) (n : ℕ) → length w ≡ 4 → 4 + n ≡ needs W w → out ≡ w ++ x → length x ≡ n → length out ≡ needs W out
whole_length W w x out n four all is len = omega (arith, ap length is, length-append w x, four, len, all, needs_first W w x four, ap (needs W) is)

-- ---- the item, or the end

module _ (W : WantedItem) (a : Option (List ℕ)) where
  pub or_item : (mid b : Option (List ℕ)) (p q r : ℕ) (w : List ℕ) (x : Item) → length w ≡ 4 → IfSome a (λ bytes. TakesBytes 4 bytes mid (Ok w)) → ReadsAs item_view mid b q r (Ok x) (λ s. item_at W (spot p (w ++ s.bytes))) → OrEnds item_view a b p r (Ok (Some x)) (item_at W)
  or_item = by a
    where
      by : (a mid b : Option (List ℕ)) (p q r : ℕ) (w : List ℕ) (x : Item) → length w ≡ 4 → IfSome a (λ bytes. TakesBytes 4 bytes mid (Ok w)) → ReadsAs item_view mid b q r (Ok x) (λ s. item_at W (spot p (w ++ s.bytes))) → OrEnds item_view a b p r (Ok (Some x)) (item_at W)
      by None mid b p q r w x four h k = tt
      by (Some bytes) None b p q r w x four h k = absurd h.1
      by (Some bytes) (Some rest) b p q r w x four h k =
          (omega (arith, ap length h.1, length-append w rest, four), (k.0, k.1, ap (λ (z : List ℕ). item_at W (spot p z)) h.1 ∙ k.2))

  pub or_fault : (mid b : Option (List ℕ)) (p q r : ℕ) (w : List ℕ) (e : DecodeFault) → length w ≡ 4 → IfSome a (λ bytes. TakesBytes 4 bytes mid (Ok w)) → ReadsAs {X = Item} item_view mid b q r (Err e) (λ s. item_at W (spot p (w ++ s.bytes))) → OrEnds {X = Item} item_view a b p r (Err e) (item_at W)
  or_fault = by a
    where
      by : (a mid b : Option (List ℕ)) (p q r : ℕ) (w : List ℕ) (e : DecodeFault) → length w ≡ 4 → IfSome a (λ bytes. TakesBytes 4 bytes mid (Ok w)) → ReadsAs {X = Item} item_view mid b q r (Err e) (λ s. item_at W (spot p (w ++ s.bytes))) → OrEnds {X = Item} item_view a b p r (Err e) (item_at W)
      by None mid b p q r w e four h k = tt
      by (Some bytes) None b p q r w e four h k = absurd h.1
      by (Some bytes) (Some rest) b p q r w (Refused at cause) four h k = (omega (arith, ap length h.1, length-append w rest, four), ap (λ (z : List ℕ). item_at W (spot p z)) h.1 ∙ k)
      by (Some bytes) (Some rest) b p q r w ReadFault four h k = tt
      by (Some bytes) (Some rest) b p q r w Memory four h k = tt

pub or_none : (W : WantedItem) (a b : Option (List ℕ)) (p had : ℕ) → had ≡ 0 → IfSome a (λ bytes. TakesBytes 4 bytes b (Err (took.Ended had))) → OrEnds {X = Item} item_view a b p p (Ok None) (item_at W)
or_none W None b p had zero h = tt
or_none W (Some bytes) b p had zero h = (nil_from_length bytes (h.0 ∙ zero), h.2, refl)

pub or_short : (W : WantedItem) (a b : Option (List ℕ)) (p q had : ℕ) → ((x : List ℕ) → 4 ≤ needs W x) → had ≢ 0 → IfSome a (λ bytes. TakesBytes 4 bytes b (Err (took.Ended had))) → OrEnds {X = Item} item_view a b p q (Err (Refused p Truncated)) (item_at W)
or_short W None b p q had wide some h = tt
or_short W (Some bytes) b p q had wide some h = (omega (arith, h.0, some), item_cut W p bytes (omega (arith, h.0, h.1, wide bytes)))

-- ---- the item, where the end cuts it off

pub is_item : (W : WantedItem) (a b : Option (List ℕ)) (p q : ℕ) (x : Item) → OrEnds item_view a b p q (Ok (Some x)) (item_at W) → ReadsAs item_view a b p q (Ok x) (item_at W)
is_item W None b p q x h = tt
is_item W (Some bytes) b p q x h = h.1

pub is_fault : (W : WantedItem) (a b : Option (List ℕ)) (p q r : ℕ) (e : DecodeFault) → OrEnds {X = Item} item_view a b p q (Err e) (item_at W) → ReadsAs {X = Item} item_view a b p r (Err e) (item_at W)
is_fault W None b p q r e h = tt
is_fault W (Some bytes) b p q r (Refused at cause) h = h.1
is_fault W (Some bytes) b p q r ReadFault h = tt
is_fault W (Some bytes) b p q r Memory h = tt

pub is_cut : (W : WantedItem) (a b : Option (List ℕ)) (p q r : ℕ) → ((x : List ℕ) → 4 ≤ needs W x) → OrEnds {X = Item} item_view a b p q (Ok None) (item_at W) → ReadsAs {X = Item} item_view a b p r (Err (Refused p Truncated)) (item_at W)
is_cut W None b p q r wide h = tt
is_cut W (Some bytes) b p q r wide h = item_cut W p bytes (omega (arith, ap length h.0, wide bytes))

-- ---- values that are one item

abbrev as_plain : ValueView × Spot → Read ItemView
as_plain x = Ok (plain x.0, x.1)

abbrev as_word : ℕ × Spot → Read ItemView
as_word x = Ok (word x.0, x.1)

abbrev as_value : ItemView × Spot → Read ValueView
as_value x = Ok (item_value x.0, x.1)

abbrev as_nat : ℕ × Spot → Read ValueView
as_nat x = Ok (value.nat x.0, x.1)

value_again : (r : Read ValueView) → ((r >>= as_plain) >>= as_value) ≡ r
value_again (Ok x) = refl
value_again (Err e) = refl

number_again : (r : Read ℕ) → ((r >>= as_word) >>= as_value) ≡ (r >>= as_nat)
number_again (Ok x) = refl
number_again (Err e) = refl

pub nat_item : (s : Spot) → plain_at type.nat s ≡ item_value_at wanted.Nat s
unfolding item_at plain_at
nat_item s = sym (number_again (word_at s))

pub long_item : (s : Spot) → plain_at type.long s ≡ item_value_at wanted.Long s
unfolding item_at
long_item s = sym (value_again (plain_at type.long s))

pub opaque_item : (k : ℕ) (s : Spot) → plain_at (type.opaque k) s ≡ item_value_at (wanted.Opaque k) s
unfolding item_at
opaque_item k s = sym (value_again (plain_at (type.opaque k) s))

pub text_item : (s : Spot) → plain_at type.str s ≡ item_value_at wanted.Text s
unfolding item_at
text_item s = sym (value_again (plain_at type.str s))

pub raw_item : (s : Spot) → plain_at type.raw s ≡ item_value_at wanted.Text s
unfolding plain_at
raw_item s = text_item s

pub plain_item : (a b : Option (List ℕ)) (p q : ℕ) (res : Result Value DecodeFault) (T U : Shape) (W : WantedItem) → T ≡ U → ((s : Spot) → plain_at U s ≡ item_value_at W s) → ReadsAs view a b p q res (item_value_at W) → ReadsAs view a b p q res (plain_at T)
plain_item a b p q res T U W is e h = as_read view a b p q res (item_value_at W) (plain_at T) h (λ s. ap (λ (t : Shape). plain_at t s) is ∙ e s)
