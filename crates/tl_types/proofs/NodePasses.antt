-- A value fits where it passes each test, and its parts fit.
use Rattle.std.proofs.Common.{◌≡◌, ℕ, zero, suc, ◌-◌, ◌<◌, ◌^◌, List, [], Bool, true, false, not, ◌||◌, if◌then◌else◌, Option, Some, None, refl, sym, ap, ◌∙◌, ltb-true, true≢false}
use Rattle.std.specs.Prelude.{slice_get}
use Rattle.tl_schema.specs.Types.{Shape}
use Rattle.tl_schema.specs.Types as type
use Rattle.tl_schema.specs.Schemas.{Declaration}
use Rattle.tl_types.specs.Parts.{arguments_of, fields_in, is_absent, item_of}
use Rattle.tl_types.specs.Values.{ValueView, ValueViews, absent, list, node, call, count}
use Rattle.tl_types.specs.Fitting.{Bit, MisfitView, each_misfit, field_misfit, has_constructor, has_count, has_flag, has_kind, has_level, inside, is_deep_value, is_in_range, is_kind, misfit, node_misfit, or_else, or_parts}
use Rattle.tl_types.specs.declared.misfit.MisfitCause.{MisfitCause}

-- ---- one value

pub record Passes (ds : List Declaration) (n : ℕ) (bit : Bit) (T : Shape) (v : ValueView) : Type 0 where
  pub kind : has_kind bit T v ≡ true
  pub constructor : has_constructor ds T v ≡ true
  pub count : has_count ds T v ≡ true
  pub flag : has_flag bit v ≡ true
  pub range : is_in_range v ≡ true
  pub level : has_level n v ≡ true

one_test : (b : Bool) (cause : MisfitCause) (later : Option MisfitCause) → (if not b then Some cause else later) ≡ None → (b ≡ true) × (later ≡ None)
one_test true cause later e = (refl, e)
one_test false cause later e = absurd cc

pub passes : (ds : List Declaration) (n : ℕ) (bit : Bit) (T : Shape) (v : ValueView) → node_misfit ds n bit T v ≡ None → Passes ds n bit T v
passes ds n bit T v none =
    let kind = one_test (has_kind bit T v) _ _ none in
    let constructor = one_test (has_constructor ds T v) _ _ kind.1 in
    let count = one_test (has_count ds T v) _ _ constructor.1 in
    let flag = one_test (has_flag bit v) _ _ count.1 in
    let range = one_test (is_in_range v) _ _ flag.1 in
    let level = one_test (has_level n v) _ _ range.1 in
    record { kind = kind.0; constructor = constructor.0; count = count.0; flag = flag.0; range = range.0; level = level.0 }

pub no_cause : (ds : List Declaration) (n : ℕ) (bit : Bit) (T : Shape) (v : ValueView) → Passes ds n bit T v → node_misfit ds n bit T v ≡ None
no_cause ds n bit T v p = rw (p.kind, p.constructor, p.count, p.flag, p.range, p.level) refl

-- a list without a cause of its own is short enough
pub few_elements : (ds : List Declaration) (n : ℕ) (bit : Bit) (T : Shape) (vs : ValueViews) → node_misfit ds n bit T (list vs) ≡ None → count vs < 2 ^ 31
few_elements ds n bit T vs none = ltb-true (count vs) (2 ^ 31) (passes ds n bit T (list vs) none).range

-- ---- a value and its parts

-- the misfit of the parts
abbrev pub parts_misfit : List Declaration → ℕ → Shape → ValueView → Option MisfitView
parts_misfit ds n T (list vs) = each_misfit ds (n - 1) (item_of T) 0 vs
parts_misfit ds n T (node i vs) = field_misfit ds (n - 1) (arguments_of T) [] 0 (fields_in (slice_get ds i)) vs
parts_misfit ds n T (call i vs) = field_misfit ds (n - 1) [] [] 0 (fields_in (slice_get ds i)) vs
parts_misfit ds n T v = None

by_parts : (ds : List Declaration) (n : ℕ) (bit : Bit) (T : Shape) (v : ValueView) → misfit ds n bit T v ≡ or_parts (node_misfit ds n bit T v) (parts_misfit ds n T v)
by_parts ds n bit T (list vs) = refl
by_parts ds n bit T (node i vs) = refl
by_parts ds n bit T (call i vs) = refl
by_parts ds n bit T v = refl

or_parts_none : (own : Option MisfitCause) (parts : Option MisfitView) → or_parts own parts ≡ None → (own ≡ None) × (parts ≡ None)
or_parts_none None parts e = (refl, e)
or_parts_none (Some cause) parts e = absurd cc

-- the value passes each test, and its parts have no misfit
pub record Fits (ds : List Declaration) (n : ℕ) (bit : Bit) (T : Shape) (v : ValueView) : Type 0 where
  pub own : Passes ds n bit T v
  pub parts : parts_misfit ds n T v ≡ None

pub fits_of : (ds : List Declaration) (n : ℕ) (bit : Bit) (T : Shape) (v : ValueView) → misfit ds n bit T v ≡ None → Fits ds n bit T v
fits_of ds n bit T v none =
    let both = or_parts_none (node_misfit ds n bit T v) (parts_misfit ds n T v) (sym (by_parts ds n bit T v) ∙ none) in
    record { own = passes ds n bit T v both.0; parts = both.1 }

pub no_misfit : (ds : List Declaration) (n : ℕ) (bit : Bit) (T : Shape) (v : ValueView) → Fits ds n bit T v → misfit ds n bit T v ≡ None
no_misfit ds n bit T v fits = by_parts ds n bit T v ∙ rw (no_cause ds n bit T v fits.own, fits.parts) refl

-- ---- the misfits of parts

pub or_else_none : (first later : Option MisfitView) → or_else first later ≡ None → (first ≡ None) × (later ≡ None)
or_else_none None later e = (refl, e)
or_else_none (Some m) later e = absurd cc

pub both_none : (first later : Option MisfitView) → first ≡ None → later ≡ None → or_else first later ≡ None
both_none first later e h = rw e h

pub inside_none : (i : ℕ) (m : Option MisfitView) → inside i m ≡ None → m ≡ None
inside_none i None e = refl
inside_none i (Some m) e = absurd cc

-- ---- values that stand by a bit

or_left : (a b : Bool) → b ≡ false → (a || b) ≡ a
or_left true b none = refl
or_left false b none = none

or_right : (a : Bool) → (a || true) ≡ true
or_right true = refl
or_right false = refl

not_true : (a : Bool) → not a ≡ true → a ≡ false
not_true true e = sym e
not_true false e = refl

absent_is : (v : ValueView) → is_absent v ≡ true → v ≡ absent
absent_is absent e = refl
absent_is v e = absurd (true≢false (sym e))

no_absent : (T : Shape) → is_kind T absent ≡ false
no_absent type.int = refl
no_absent T = refl

-- without a bit the value is of the type's kind
pub kind_of : (T : Shape) (v : ValueView) → has_kind None T v ≡ true → is_kind T v ≡ true
kind_of T v kind = sym (or_left (is_kind T v) false refl) ∙ kind

pub with_kind : (T : Shape) (v : ValueView) → is_kind T v ≡ true → has_kind None T v ≡ true
with_kind T v kind = or_left (is_kind T v) false refl ∙ kind

-- so it is there
pub there_of : (T : Shape) (v : ValueView) → is_kind T v ≡ true → is_absent v ≡ false
there_of T absent kind = absurd (true≢false (sym kind ∙ no_absent T))
there_of T v kind = refl

-- under a bit that is set a value fits exactly where it fits without one
pub set_fits : (ds : List Declaration) (n : ℕ) (T : Shape) (v : ValueView) → Fits ds n None T v → Fits ds n (Some true) T v
set_fits ds n T v fits =
    let kind = kind_of T v fits.own.kind in
    record {
      own = record {
        kind = rw kind refl;
        constructor = fits.own.constructor;
        count = fits.own.count;
        flag = ap not (there_of T v kind);
        range = fits.own.range;
        level = fits.own.level;
      };
      parts = fits.parts;
    }

pub fits_set : (ds : List Declaration) (n : ℕ) (T : Shape) (v : ValueView) → Fits ds n (Some true) T v → Fits ds n None T v
fits_set ds n T v fits =
    let there = not_true (is_absent v) fits.own.flag in
    record {
      own = record {
        kind = with_kind T v (sym (or_left (is_kind T v) (is_absent v) there) ∙ fits.own.kind);
        constructor = fits.own.constructor;
        count = fits.own.count;
        flag = refl;
        range = fits.own.range;
        level = fits.own.level;
      };
      parts = fits.parts;
    }

-- with n levels left there is one for a value without parts
pub shallow : (n : ℕ) (v : ValueView) → is_deep_value v ≡ false → has_level n v ≡ true
shallow zero v flat = ap not flat
shallow (suc n) v flat = refl

-- under a bit that is clear what isn't there fits, and nothing else
pub clear_fits : (ds : List Declaration) (n : ℕ) (T : Shape) → Fits ds n (Some false) T absent
clear_fits ds n T =
    record {
      own = record { kind = or_right (is_kind T absent); constructor = refl; count = refl; flag = refl; range = refl; level = shallow n absent refl };
      parts = refl;
    }

pub fits_clear : (ds : List Declaration) (n : ℕ) (T : Shape) (v : ValueView) → Fits ds n (Some false) T v → v ≡ absent
fits_clear ds n T v fits = absent_is v fits.own.flag
