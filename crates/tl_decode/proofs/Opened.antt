-- A value that is opened: the item that it begins with, or its parts.
use Rattle.std.proofs.Common.{◌≡◌, inl, inr, ℕ, zero, suc, ◌+◌, ◌*◌, ◌^◌, ◌<◌, ◌≤◌, List, length, Ok, Err, refl, ap, sym, ◌∙◌, arith, Bool, true, false}
use Rattle.std.proofs.lemmas.List.{length-map}
use Rattle.tl_schema.specs.Types.{Shape, Shapes}
use Rattle.tl_schema.specs.Types as type
use Rattle.tl_schema.specs.Schemas.{Declaration}
use Rattle.tl_plan.specs.Plans.{PlanView}
use Rattle.tl_types.specs.Values.{ValueView, values_of}
use Rattle.tl_types.specs.Values as value
use Rattle.tl_types.specs.Seen.{view}
use Rattle.tl_types.specs.inner.Reading.{Spot, Read, Reader, ◌>>=◌, word_at, plain_at, deep_at, value_at, is_deep, long_list_at, list_at, by_number_at, record_at, bare_at}
use Rattle.tl_types.specs.declared.cause.Cause.TheVariants.{TooDeep}
use Rattle.tl_types.specs.declared.value.Value.{Value}
use Rattle.tl_types.specs.declared.value.TheConstants.{MAX_LEVELS}
use Rattle.tl_decode.specs.declared.stack.StackFrame.{StackFrame}
use Rattle.tl_decode.specs.declared.stack.WantedItem.{WantedItem}
use Rattle.tl_decode.specs.declared.stack.WantedItem.TheVariants as wanted
use Rattle.tl_decode.specs.declared.stack.Next.TheVariants as next
use Rattle.tl_decode.specs.declared.stack.Found.TheVariants as found
use Rattle.tl_decode.specs.declared.stack.Advance.TheVariants as step
use Rattle.tl_base.specs.declared.fault.Fault.TheVariants as stop
use Rattle.tl_decode.specs.inner.Frames.{StackFrameView, ItemView, word, plain, frame_view, views, type_in, entry_in, goes_on, resumes, item_at, after, number_at, wanted_at, levels_in, levels_below, next_at, found_at, next_work, found_work, wanted_work, cost, IsWellWanted, AreWell, IsWellFrame, IsFresh, IsList, IsNumbered, IsBare, StepsFrom, parts_left}
use Rattle.tl_decode.proofs.FrameLists.{resume_err, cost_least, cost_more, parts_few}

-- ---- items, read by parts

pub word_then : (r : Read ℕ) (g : ItemView → Reader) → ◌>>=◌ {A = ItemView × Spot} (◌>>=◌ {A = ℕ × Spot} {B = ItemView × Spot} r (λ x. Ok (word x.0, x.1))) (λ x. g x.0 x.1) ≡ (r >>= λ x. g (word x.0) x.1)
word_then (Ok x) g = refl
word_then (Err e) g = refl

pub plain_then : (r : Read ValueView) (g : ItemView → Reader) → ((v : ValueView) (s : Spot) → g (plain v) s ≡ Ok (v, s)) → ◌>>=◌ {A = ItemView × Spot} (◌>>=◌ {A = ValueView × Spot} {B = ItemView × Spot} r (λ x. Ok (plain x.0, x.1))) (λ x. g x.0 x.1) ≡ r
plain_then (Ok x) g e = e x.0 x.1
plain_then (Err f) g e = refl

int_wanted : (p : PlanView) (n : ℕ) (s : Spot) → plain_at type.int s ≡ wanted_at p n wanted.Int s
unfolding plain_at wanted_at item_at after
int_wanted p n s = sym (word_then (word_at s) (after p n wanted.Int s.place))

nat_wanted : (p : PlanView) (n : ℕ) (s : Spot) → plain_at type.nat s ≡ wanted_at p n wanted.Nat s
unfolding plain_at wanted_at item_at after
nat_wanted p n s = sym (word_then (word_at s) (after p n wanted.Nat s.place))

long_wanted : (p : PlanView) (n : ℕ) (s : Spot) → plain_at type.long s ≡ wanted_at p n wanted.Long s
unfolding wanted_at item_at after
long_wanted p n s = sym (plain_then (plain_at type.long s) (after p n wanted.Long s.place) (λ v r. refl))

opaque_wanted : (p : PlanView) (n k : ℕ) (s : Spot) → plain_at (type.opaque k) s ≡ wanted_at p n (wanted.Opaque k) s
unfolding wanted_at item_at after
opaque_wanted p n k s = sym (plain_then (plain_at (type.opaque k) s) (after p n (wanted.Opaque k) s.place) (λ v r. refl))

str_wanted : (p : PlanView) (n : ℕ) (s : Spot) → plain_at type.str s ≡ wanted_at p n wanted.Text s
unfolding wanted_at item_at after
str_wanted p n s = sym (plain_then (plain_at type.str s) (after p n wanted.Text s.place) (λ v r. refl))

raw_is_str : (s : Spot) → plain_at type.raw s ≡ plain_at type.str s
unfolding plain_at
raw_is_str s = refl

list_number_wanted : (p : PlanView) (n j : ℕ) (s : Spot) → long_list_at (value_at p.schema.decls n (type_in p j)) s ≡ wanted_at p n (wanted.ListNumber j) s
unfolding long_list_at wanted_at item_at after
list_number_wanted p n j s = sym (word_then (word_at s) (after p n (wanted.ListNumber j) s.place))

pub count_wanted : (p : PlanView) (n j : ℕ) (s : Spot) → list_at (value_at p.schema.decls n (type_in p j)) s ≡ wanted_at p n (wanted.Count j) s
unfolding list_at wanted_at item_at after
count_wanted p n j s = sym (word_then (word_at s) (after p n (wanted.Count j) s.place))

number_wanted : (p : PlanView) (n j : ℕ) (s : Spot) → (word_at s >>= λ x. number_at p n (type_in p j) s.place x.0 x.1) ≡ wanted_at p n (wanted.Number j) s
unfolding wanted_at item_at after
number_wanted p n j s = sym (word_then (word_at s) (after p n (wanted.Number j) s.place))

boxed_number : (p : PlanView) (n h : ℕ) (args : Shapes) (s : Spot) → deep_at p.schema.decls (value_at p.schema.decls n) (type.boxed h args) s ≡ (word_at s >>= λ x. number_at p n (type.boxed h args) s.place x.0 x.1)
unfolding deep_at by_number_at number_at
boxed_number p n h args s = refl

call_number : (p : PlanView) (n : ℕ) (s : Spot) → deep_at p.schema.decls (value_at p.schema.decls n) type.call s ≡ (word_at s >>= λ x. number_at p n type.call s.place x.0 x.1)
unfolding deep_at by_number_at number_at
call_number p n s = refl

vector_number : (ds : List Declaration) (n : ℕ) (U : Shape) (s : Spot) → deep_at ds (value_at ds n) (type.vector true U) s ≡ long_list_at (value_at ds n U) s
unfolding deep_at
vector_number ds n U s = refl

vector_count : (ds : List Declaration) (n : ℕ) (U : Shape) (s : Spot) → deep_at ds (value_at ds n) (type.vector false U) s ≡ list_at (value_at ds n U) s
unfolding deep_at
vector_count ds n U s = refl

-- ---- a value of a type

pub plain_is : (ds : List Declaration) (n : ℕ) (T : Shape) (s : Spot) → is_deep T ≡ false → value_at ds n T s ≡ plain_at T s
unfolding value_at
plain_is ds zero T s e = rw e refl
plain_is ds (suc n) T s e = rw e refl

deep_is : (ds : List Declaration) (n m : ℕ) (T : Shape) (s : Spot) → is_deep T ≡ true → n ≡ suc m → value_at ds n T s ≡ deep_at ds (value_at ds m) T s
unfolding value_at
deep_is ds n m T s e some = rw (some, e) refl

none_is : (ds : List Declaration) (n : ℕ) (T : Shape) (s : Spot) → is_deep T ≡ true → n ≡ 0 → value_at ds n T s ≡ Err (s.place, TooDeep)
unfolding value_at
none_is ds n T s e none = rw (none, e) refl

flag_is : (s : Spot) → plain_at type.flag s ≡ Ok (value.truth, s)
unfolding plain_at
flag_is s = refl

var_is : (i : ℕ) (s : Spot) → plain_at (type.var i) s ≡ Ok (value.absent, s)
unfolding plain_at
var_is i s = refl

-- a record that begins has fewer than 2^64 fields to come
pub fresh_left : (p : PlanView) (j m : ℕ) (f : StackFrame) → IsFresh p j m f → parts_left (frame_view p f) < 2 ^ 64
fresh_left p j m f (fields, made_so, none, few) = rw made_so (omega (arith, few))

module _ (p : PlanView) (fs : List StackFrame) (well : AreWell p fs) (j : ℕ) where
  abbrev vs : List StackFrameView
  vs = views p fs

  abbrev ds : List Declaration
  ds = p.schema.decls

  -- ---- values without parts

  looks : (T : Shape) (W : WantedItem) → type_in p j ≡ T → is_deep T ≡ false → ((s : Spot) → plain_at T s ≡ wanted_at p (levels_below vs) W s) → (s : Spot) → next_at p vs (next.Open j) s ≡ found_at p vs (found.Wants W) s
  looks T W is no_parts e s = ap (resumes p vs) (ap (λ (U : Shape). value_at ds (levels_in vs) U s) is ∙ plain_is ds (levels_in vs) T s no_parts ∙ e s)

  light : (W : WantedItem) → wanted_work (levels_below vs) W ≡ 2 → found_work p vs (found.Wants W) ≤ next_work p vs (next.Open j)
  light W e = let least = cost_least (levels_in vs) in omega (arith, e, least)

  stops : (T : Shape) (W : WantedItem) → type_in p j ≡ T → is_deep T ≡ false → ((s : Spot) → plain_at T s ≡ wanted_at p (levels_below vs) W s) → IsWellWanted p W → wanted_work (levels_below vs) W ≡ 2 → StepsFrom p fs (next.Open j) fs (Ok (step.Stops (found.Wants W)))
  stops T W is no_parts e ok two = (record { frames = well; is_well = ok; same = looks T W is no_parts e }, light W two)

  pub opens_int : type_in p j ≡ type.int → StepsFrom p fs (next.Open j) fs (Ok (step.Stops (found.Wants wanted.Int)))
  opens_int is = stops type.int wanted.Int is refl (int_wanted p (levels_below vs)) tt refl

  pub opens_nat : type_in p j ≡ type.nat → StepsFrom p fs (next.Open j) fs (Ok (step.Stops (found.Wants wanted.Nat)))
  opens_nat is = stops type.nat wanted.Nat is refl (nat_wanted p (levels_below vs)) tt refl

  pub opens_long : type_in p j ≡ type.long → StepsFrom p fs (next.Open j) fs (Ok (step.Stops (found.Wants wanted.Long)))
  opens_long is = stops type.long wanted.Long is refl (long_wanted p (levels_below vs)) tt refl

  pub opens_opaque : (k : ℕ) → 4 ≤ k → type_in p j ≡ type.opaque k → StepsFrom p fs (next.Open j) fs (Ok (step.Stops (found.Wants (wanted.Opaque k))))
  opens_opaque k some is = stops (type.opaque k) (wanted.Opaque k) is refl (opaque_wanted p (levels_below vs) k) some refl

  pub opens_str : type_in p j ≡ type.str → StepsFrom p fs (next.Open j) fs (Ok (step.Stops (found.Wants wanted.Text)))
  opens_str is = stops type.str wanted.Text is refl (str_wanted p (levels_below vs)) tt refl

  pub opens_raw : type_in p j ≡ type.raw → StepsFrom p fs (next.Open j) fs (Ok (step.Stops (found.Wants wanted.Text)))
  opens_raw is = stops type.raw wanted.Text is refl (λ s. raw_is_str s ∙ str_wanted p (levels_below vs) s) tt refl

  is_there : (T : Shape) (v : Value) (w : ValueView) → type_in p j ≡ T → is_deep T ≡ false → ((s : Spot) → plain_at T s ≡ Ok (w, s)) → view v ≡ w → StepsFrom p fs (next.Open j) fs (Ok (step.Goes (next.Close v)))
  is_there T v w is no_parts e seen =
      let least = cost_least (levels_in vs) in (
        record {
          frames = well;
          is_well = tt;
          same = λ s. ap (resumes p vs) (ap (λ (U : Shape). value_at ds (levels_in vs) U s) is ∙ plain_is ds (levels_in vs) T s no_parts ∙ e s ∙ ap (λ (x : ValueView). Ok (x, s)) (sym seen));
        },
        omega (arith, least),
      )

  pub opens_flag : (v : Value) → type_in p j ≡ type.flag → view v ≡ value.truth → StepsFrom p fs (next.Open j) fs (Ok (step.Goes (next.Close v)))
  opens_flag v is seen = is_there type.flag v value.truth is refl flag_is seen

  pub opens_var : (v : Value) (i : ℕ) → type_in p j ≡ type.var i → view v ≡ value.absent → StepsFrom p fs (next.Open j) fs (Ok (step.Goes (next.Close v)))
  opens_var v i is seen = is_there (type.var i) v value.absent is refl (var_is i) seen

  -- ---- values with parts

  deeper : length fs < MAX_LEVELS → levels_in vs ≡ suc (levels_below vs)
  deeper few = let len = length-map fs (frame_view p) in omega (arith, few, len)

  looks_deep : (T : Shape) (W : WantedItem) → length fs < MAX_LEVELS → type_in p j ≡ T → is_deep T ≡ true → ((s : Spot) → deep_at ds (value_at ds (levels_below vs)) T s ≡ wanted_at p (levels_below vs) W s) → (s : Spot) → next_at p vs (next.Open j) s ≡ found_at p vs (found.Wants W) s
  looks_deep T W few is parts e s = ap (resumes p vs) (ap (λ (U : Shape). value_at ds (levels_in vs) U s) is ∙ deep_is ds (levels_in vs) (levels_below vs) T s parts (deeper few) ∙ e s)

  stops_deep : (T : Shape) (W : WantedItem) → length fs < MAX_LEVELS → type_in p j ≡ T → is_deep T ≡ true → ((s : Spot) → deep_at ds (value_at ds (levels_below vs)) T s ≡ wanted_at p (levels_below vs) W s) → IsWellWanted p W
      → wanted_work (levels_below vs) W ≤ 2 ^ 64 * (cost (levels_below vs) + 1) + 6 → StepsFrom p fs (next.Open j) fs (Ok (step.Stops (found.Wants W)))
  stops_deep T W few is parts e ok less =
      let more = cost_more (levels_in vs) (levels_below vs) (deeper few) in
      (record { frames = well; is_well = ok; same = looks_deep T W few is parts e }, omega (arith, less, more))

  pub opens_boxed_list : (k : ℕ) (U : Shape) → length fs < MAX_LEVELS → type_in p j ≡ type.vector true U → type_in p k ≡ U → k < length p.instances → StepsFrom p fs (next.Open j) fs (Ok (step.Stops (found.Wants (wanted.ListNumber k))))
  opens_boxed_list k U few is item within =
      stops_deep (type.vector true U) (wanted.ListNumber k) few is refl
      (λ s. vector_number ds (levels_below vs) U s ∙ ap (λ (V : Shape). long_list_at (value_at ds (levels_below vs) V) s) (sym item) ∙ list_number_wanted p (levels_below vs) k s) within (omega arith)

  pub opens_list : (k : ℕ) (U : Shape) → length fs < MAX_LEVELS → type_in p j ≡ type.vector false U → type_in p k ≡ U → k < length p.instances → StepsFrom p fs (next.Open j) fs (Ok (step.Stops (found.Wants (wanted.Count k))))
  opens_list k U few is item within =
      stops_deep (type.vector false U) (wanted.Count k) few is refl
      (λ s. vector_count ds (levels_below vs) U s ∙ ap (λ (V : Shape). list_at (value_at ds (levels_below vs) V) s) (sym item) ∙ count_wanted p (levels_below vs) k s) within (omega arith)

  pub opens_numbered : length fs < MAX_LEVELS → IsNumbered (type_in p j) → j < length p.instances → StepsFrom p fs (next.Open j) fs (Ok (step.Stops (found.Wants (wanted.Number j))))
  opens_numbered few (inl (h, args, is)) within =
      stops_deep (type.boxed h args) (wanted.Number j) few is refl
      (λ s. boxed_number p (levels_below vs) h args s ∙ ap (λ (V : Shape). word_at s >>= λ x. number_at p (levels_below vs) V s.place x.0 x.1) (sym is) ∙ number_wanted p (levels_below vs) j s) within (omega arith)
  opens_numbered few (inr is) within =
      stops_deep type.call (wanted.Number j) few is refl
      (λ s. call_number p (levels_below vs) s ∙ ap (λ (V : Shape). word_at s >>= λ x. number_at p (levels_below vs) V s.place x.0 x.1) (sym is) ∙ number_wanted p (levels_below vs) j s) within (omega arith)

  too_deep : (T : Shape) → MAX_LEVELS ≤ length fs → type_in p j ≡ T → is_deep T ≡ true → StepsFrom p fs (next.Open j) fs (Err (stop.Refused TooDeep))
  too_deep T full is parts =
      let len = length-map fs (frame_view p) in
      let none : levels_in vs ≡ 0 = omega (arith, full, len) in
      (refl, λ s. ap (resumes p vs) (ap (λ (U : Shape). value_at ds (levels_in vs) U s) is ∙ none_is ds (levels_in vs) T s parts none) ∙ resume_err ds MAX_LEVELS vs _)

  pub deep_list : (is_boxed : Bool) → MAX_LEVELS ≤ length fs → IsList (type_in p j) is_boxed → StepsFrom p fs (next.Open j) fs (Err (stop.Refused TooDeep))
  deep_list is_boxed full (U, is) = too_deep (type.vector is_boxed U) full is refl

  pub deep_numbered : MAX_LEVELS ≤ length fs → IsNumbered (type_in p j) → StepsFrom p fs (next.Open j) fs (Err (stop.Refused TooDeep))
  deep_numbered full (inl (h, args, is)) = too_deep (type.boxed h args) full is refl
  deep_numbered full (inr is) = too_deep type.call full is refl

  pub deep_bare : (i : ℕ) → MAX_LEVELS ≤ length fs → IsBare (type_in p j) i → StepsFrom p fs (next.Open j) fs (Err (stop.Refused TooDeep))
  deep_bare i full (args, is) = too_deep (type.bare i args) full is refl

  -- a record begins: none of its fields is there
  begun : (i : ℕ) (args : Shapes) (n : ℕ) (f : StackFrame) (s : Spot) → type_in p j ≡ type.bare i args → entry_in p j 0 ≡ i → IsFresh p j 0 f → deep_at ds (value_at ds n) (type.bare i args) s ≡ goes_on ds n (frame_view p f) s
  unfolding deep_at bare_at record_at goes_on
  begun i args n f s is entry (fields, made_so, none, few) = rw (made_so, is, entry, none) refl

  pub opens_bare : (i : ℕ) (f : StackFrame) → length fs < MAX_LEVELS → IsBare (type_in p j) i → entry_in p j 0 ≡ i → IsFresh p j 0 f → IsWellFrame p f → StepsFrom p fs (next.Open j) fs (Ok (step.Goes (next.Part f)))
  opens_bare i f few (args, is) entry fresh ok =
      let more = cost_more (levels_in vs) (levels_below vs) (deeper few) in
      let c = cost (levels_below vs) + 1 in
      let left : parts_left (frame_view p f) < 2 ^ 64 = fresh_left p j 0 f fresh in
      let most = parts_few (parts_left (frame_view p f)) c left in (
        record {
          frames = well;
          is_well = ok;
          same = λ s. ap (resumes p vs) (ap (λ (U : Shape). value_at ds (levels_in vs) U s) is ∙ deep_is ds (levels_in vs) (levels_below vs) (type.bare i args) s refl (deeper few) ∙ begun i args (levels_below vs) f s is entry fresh);
        },
        omega (arith, more, most),
      )
