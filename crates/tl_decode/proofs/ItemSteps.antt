-- What comes after an item.
use Rattle.std.proofs.Common.{◌≡◌, ℕ, ◌+◌, ◌^◌, ◌<◌, ◌≤◌, [], Vec, Some, None, Ok, Err, refl, ap, sym, ◌∙◌, arith, Bool, true, false, ◌==◌, if◌then◌else◌, lt-ltb, le-ltb}
use Rattle.std.specs.Prelude.{◌≢◌}
use Rattle.std.specs.declared.alloc.Global.{Global}
use Rattle.std.specs.Int.{w32, cast_signed}
use Rattle.std.proofs.lemmas.Bool.{eq-eqb, ne_eqb}
use Rattle.tl_numbers.specs.declared.numbers.TheConstants.{BOXED_VECTOR, PACKED}
use Rattle.tl_plan.specs.Plans.{PlanView}
use Rattle.tl_types.specs.Values.{ValueView}
use Rattle.tl_types.specs.Values as value
use Rattle.tl_types.specs.Seen.{view}
use Rattle.tl_types.specs.inner.Reading.{Spot, Reader, wide_at, list_at, elements_at, numbered_at, record_at, value_at, wrong_number}
use Rattle.tl_types.specs.declared.cause.Cause.{Cause}
use Rattle.tl_types.specs.declared.cause.Cause.TheVariants.{BadCount, Packed, UnknownNumber}
use Rattle.tl_types.specs.declared.value.Value.{Value}
use Rattle.tl_decode.specs.declared.stack.StackFrame.{StackFrame}
use Rattle.tl_decode.specs.declared.stack.StackFrame.TheVariants as frame
use Rattle.tl_decode.specs.declared.stack.WantedItem.{WantedItem}
use Rattle.tl_decode.specs.declared.stack.WantedItem.TheVariants as wanted
use Rattle.tl_decode.specs.declared.stack.Next.TheVariants as next
use Rattle.tl_base.specs.declared.fault.Fault.TheVariants as stop
use Rattle.tl_decode.specs.inner.Frames.{word, plain, frame_view, type_in, entry_in, goes_on, resumes, after, number_at, find_in, levels_below, wanted_work, cost, parts_left, IsInPlan, IsFresh, IsWellFrame, Takes, is_truncated}
use Rattle.tl_decode.proofs.FrameLists.{parts_few}
use Rattle.tl_decode.proofs.Opened.{count_wanted, fresh_left}

some_work : (n : ℕ) (W : WantedItem) → 2 ≤ wanted_work n W
some_work n wanted.Int = omega arith
some_work n wanted.Nat = omega arith
some_work n wanted.Long = omega arith
some_work n (wanted.Opaque k) = omega arith
some_work n wanted.Text = omega arith
some_work n (wanted.Number j) = omega arith
some_work n (wanted.ListNumber j) = omega arith
some_work n (wanted.Count j) = omega arith

pub takes_plain : (p : PlanView) (W : WantedItem) (v : Value) → Takes p W (plain (view v)) (Ok (next.Close v))
unfolding after
takes_plain p W v = (tt, λ fs place s. refl, λ fs. let some = some_work (levels_below fs) W in omega (arith, some))

pub takes_int : (p : PlanView) (w : ℕ) (v : Value) → view v ≡ value.int (cast_signed w32 w) → Takes p wanted.Int (word w) (Ok (next.Close v))
unfolding after
takes_int p w v seen = (tt, λ fs place s. ap (λ (x : ValueView). resumes p fs (Ok (x, s))) (sym seen), λ fs. omega arith)

pub takes_nat : (p : PlanView) (w : ℕ) (v : Value) → view v ≡ value.nat w → Takes p wanted.Nat (word w) (Ok (next.Close v))
unfolding after
takes_nat p w v seen = (tt, λ fs place s. ap (λ (x : ValueView). resumes p fs (Ok (x, s))) (sym seen), λ fs. omega arith)

pub takes_long : (p : PlanView) (w : ℕ) (v : Value) → view v ≡ value.nat w → Takes p wanted.Long (word w) (Ok (next.Close v))
unfolding after
takes_long p w v seen = (tt, λ fs place s. ap (λ (x : ValueView). resumes p fs (Ok (x, s))) (sym seen), λ fs. omega arith)

pub takes_opaque : (p : PlanView) (k w : ℕ) (v : Value) → view v ≡ value.nat w → Takes p (wanted.Opaque k) (word w) (Ok (next.Close v))
unfolding after
takes_opaque p k w v seen = (tt, λ fs place s. ap (λ (x : ValueView). resumes p fs (Ok (x, s))) (sym seen), λ fs. omega arith)

pub takes_text : (p : PlanView) (w : ℕ) (v : Value) → view v ≡ value.nat w → Takes p wanted.Text (word w) (Ok (next.Close v))
unfolding after
takes_text p w v seen = (tt, λ fs place s. ap (λ (x : ValueView). resumes p fs (Ok (x, s))) (sym seen), λ fs. omega arith)

-- a wrong number is refused with the bytes that are there
wrong_whole : (w : ℕ) (cause : Cause) → cause ≡ wrong_number w → is_truncated cause ≡ false
wrong_whole w cause is = by (w == PACKED) (ap is_truncated is)
  where
    by : (b : Bool) → is_truncated cause ≡ is_truncated (if b then Packed else UnknownNumber w) → is_truncated cause ≡ false
    by true e = e
    by false e = e

-- ---- vectors

wide_goes : (f : Reader) (place w : ℕ) (s : Spot) → w ≡ BOXED_VECTOR → wide_at f place w s ≡ list_at f s
unfolding wide_at
wide_goes f place w s e = rw (eq-eqb w BOXED_VECTOR e) refl

wide_wrong : (f : Reader) (place w : ℕ) (s : Spot) → w ≢ BOXED_VECTOR → wide_at f place w s ≡ Err (place, wrong_number w)
unfolding wide_at
wide_wrong f place w s e = rw (ne_eqb w BOXED_VECTOR e) refl

pub takes_list_number : (p : PlanView) (j w : ℕ) → w ≡ BOXED_VECTOR → IsInPlan p j → Takes p (wanted.ListNumber j) (word w) (Ok (next.Begin j))
unfolding after
takes_list_number p j w e within = (
  within,
  λ fs place s. ap (resumes p fs) (wide_goes (value_at p.schema.decls (levels_below fs) (type_in p j)) place w s e ∙ count_wanted p (levels_below fs) j s),
  λ fs. omega arith,
)

pub takes_no_list : (p : PlanView) (j w : ℕ) (cause : Cause) → w ≢ BOXED_VECTOR → cause ≡ wrong_number w → Takes p (wanted.ListNumber j) (word w) (Err (stop.Refused cause))
unfolding after
takes_no_list p j w cause e is = (wrong_whole w cause is, λ n place s. wide_wrong (value_at p.schema.decls n (type_in p j)) place w s e ∙ ap (λ (c : Cause). Err (place, c)) (sym is))

few_goes : (p : PlanView) (n j place k : ℕ) (items : Vec Value Global) (s : Spot) → k < 2 ^ 31 → items.items ≡ [] → elements_at (value_at p.schema.decls n (type_in p j)) place k s ≡ goes_on p.schema.decls n (frame_view p (frame.List j k items)) s
unfolding elements_at goes_on
few_goes p n j place k items s few none = rw (lt-ltb k (2 ^ 31) few, none) refl

many_wrong : (f : Reader) (place k : ℕ) (s : Spot) → 2 ^ 31 ≤ k → elements_at f place k s ≡ Err (place, BadCount k)
unfolding elements_at
many_wrong f place k s many = rw (le-ltb k (2 ^ 31) many) refl

pub takes_count : (p : PlanView) (j k : ℕ) (items : Vec Value Global) → k < 2 ^ 31 → items.items ≡ [] → IsInPlan p j → Takes p (wanted.Count j) (word k) (Ok (next.Part (frame.List j k items)))
unfolding after
takes_count p j k items few none within = (
  within,
  λ fs place s. ap (resumes p fs) (few_goes p (levels_below fs) j place k items s few none),
  λ fs. let most = parts_few k (cost (levels_below fs) + 1) (omega (arith, few)) in omega (arith, most),
)

pub takes_too_many : (p : PlanView) (j k : ℕ) → 2 ^ 31 ≤ k → Takes p (wanted.Count j) (word k) (Err (stop.Refused (BadCount k)))
unfolding after
takes_too_many p j k many = (refl, λ n place s. many_wrong (value_at p.schema.decls n (type_in p j)) place k s many)

-- ---- numbers of declarations

number_goes : (p : PlanView) (n j place w m : ℕ) (f : StackFrame) (s : Spot) → find_in p.schema.decls (type_in p j) w ≡ Some (entry_in p j m) → IsFresh p j m f → number_at p n (type_in p j) place w s ≡ goes_on p.schema.decls n (frame_view p f) s
unfolding number_at numbered_at record_at goes_on
number_goes p n j place w m f s e (fields, is, none, few) = rw (e, is, none) refl

number_wrong : (p : PlanView) (n j place w : ℕ) (s : Spot) → find_in p.schema.decls (type_in p j) w ≡ None → number_at p n (type_in p j) place w s ≡ Err (place, wrong_number w)
unfolding number_at numbered_at
number_wrong p n j place w s e = rw e refl

pub takes_number : (p : PlanView) (j w m : ℕ) (f : StackFrame) → find_in p.schema.decls (type_in p j) w ≡ Some (entry_in p j m) → IsFresh p j m f → IsWellFrame p f → Takes p (wanted.Number j) (word w) (Ok (next.Part f))
unfolding after
takes_number p j w m f e fresh ok = (
  ok,
  λ fs place s. ap (resumes p fs) (number_goes p (levels_below fs) j place w m f s e fresh),
  λ fs. let most = parts_few (parts_left (frame_view p f)) (cost (levels_below fs) + 1) (fresh_left p j m f fresh) in omega (arith, most),
)

pub takes_no_number : (p : PlanView) (j w : ℕ) (cause : Cause) → find_in p.schema.decls (type_in p j) w ≡ None → cause ≡ wrong_number w → Takes p (wanted.Number j) (word w) (Err (stop.Refused cause))
unfolding after
takes_no_number p j w cause e is = (wrong_whole w cause is, λ n place s. number_wrong p n j place w s e ∙ ap (λ (c : Cause). Err (place, c)) (sym is))
