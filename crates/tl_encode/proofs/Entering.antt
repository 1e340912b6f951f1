-- A walk stands in a part, and goes on.
use Rattle.std.proofs.Common.{◌≡◌, ℕ, zero, suc, ◌-◌, ◌<◌, List, [], ◌∷◌, ◌++◌, append_assoc, length, Option, Some, None, true, false, not, refl, sym, ap, ◌∙◌, arith, true≢false}
use Rattle.tl_schema.specs.Types.{Shape}
use Rattle.tl_schema.specs.Schemas.{Declaration}
use Rattle.tl_plan.specs.Plans.{PlanView}
use Rattle.tl_types.specs.Values.{ValueView, list, node, call}
use Rattle.tl_types.specs.Fitting.{Bit, MisfitView, has_level, is_deep_value, misfit, node_misfit, or_else, or_parts}
use Rattle.tl_types.specs.Seen.{view}
use Rattle.tl_types.specs.declared.value.TheConstants.{MAX_LEVELS}
use Rattle.tl_types.specs.declared.misfit.MisfitCause.{MisfitCause}
use Rattle.tl_types.proofs.NodePasses.{passes}
use Rattle.tl_encode.specs.declared.frames.WalkFrame.{WalkFrame}
use Rattle.tl_encode.specs.declared.frames.Part.{Part}
use Rattle.tl_encode.specs.inner.Bytes.{parts_bytes, spelling, start}
use Rattle.tl_encode.specs.inner.Frames.{path_of}
use Rattle.tl_encode.specs.inner.Walks.{AreOfPlan, Enters, FramesParts, GoesOn, IsFrameOf, StepsOver, bytes_left, levels_in, misfit_left, part_type, parts_misfit, under, weight}

by_parts : (ds : List Declaration) (n : ℕ) (bit : Bit) (T : Shape) (v : ValueView) → misfit ds n bit T v ≡ or_parts (node_misfit ds n bit T v) (parts_misfit ds (n - 1) T v)
by_parts ds n bit T (list vs) = refl
by_parts ds n bit T (node i vs) = refl
by_parts ds n bit T (call i vs) = refl
by_parts ds n bit T v = refl

-- a value that passes has the misfit of its parts
passed : (ds : List Declaration) (n : ℕ) (bit : Bit) (T : Shape) (v : ValueView) → node_misfit ds n bit T v ≡ None → misfit ds n bit T v ≡ parts_misfit ds (n - 1) T v
passed ds n bit T v none = by_parts ds n bit T v ∙ ap (λ (own : Option MisfitCause). or_parts own (parts_misfit ds (n - 1) T v)) none

-- one that doesn't has its own
pub failed : (ds : List Declaration) (n : ℕ) (bit : Bit) (T : Shape) (v : ValueView) (cause : MisfitCause) → node_misfit ds n bit T v ≡ Some cause → misfit ds n bit T v ≡ Some ([], cause)
failed ds n bit T v cause some = by_parts ds n bit T v ∙ ap (λ (own : Option MisfitCause). or_parts own (parts_misfit ds (n - 1) T v)) some

whole : (ds : List Declaration) (T : Shape) (v : ValueView) → spelling ds T v ≡ start ds T v ++ parts_bytes ds T v
whole ds T (list vs) = refl
whole ds T (node i vs) = refl
whole ds T (call i vs) = refl
whole ds T v = refl

-- ---- a value without parts

flat_misfit : (ds : List Declaration) (n : ℕ) (T : Shape) (v : ValueView) → is_deep_value v ≡ false → parts_misfit ds n T v ≡ None
flat_misfit ds n T (list vs) flat = absurd (true≢false flat)
flat_misfit ds n T (node i vs) flat = absurd (true≢false flat)
flat_misfit ds n T (call i vs) flat = absurd (true≢false flat)
flat_misfit ds n T v flat = refl

flat_bytes : (ds : List Declaration) (T : Shape) (v : ValueView) → is_deep_value v ≡ false → parts_bytes ds T v ≡ []
flat_bytes ds T (list vs) flat = absurd (true≢false flat)
flat_bytes ds T (node i vs) flat = absurd (true≢false flat)
flat_bytes ds T (call i vs) flat = absurd (true≢false flat)
flat_bytes ds T v flat = refl

some_weight : (v : ValueView) → 0 < weight v
some_weight (list vs) = omega arith
some_weight (node i vs) = omega arith
some_weight (call i vs) = omega arith
some_weight v = omega arith

-- ---- a value with parts

-- there is a level for it
some_level : (n : ℕ) (v : ValueView) → is_deep_value v ≡ true → has_level n v ≡ true → 0 < n
some_level zero v deep level = absurd (true≢false (sym level ∙ ap not deep))
some_level (suc n) v deep level = omega arith

module _ (p : PlanView) (x : Part) (fs : List WalkFrame) (none : node_misfit p.schema.decls (levels_in fs) x.bit (part_type p x) (view x.value.now) ≡ None) where
  abbrev ds : List Declaration
  ds = p.schema.decls

  abbrev T : Shape
  T = part_type p x

  abbrev v : ValueView
  v = view x.value.now

  own_misfit : misfit ds (levels_in fs) x.bit T v ≡ parts_misfit ds (levels_in fs - 1) T v
  own_misfit = passed ds (levels_in fs) x.bit T v none

  pub level_left : (f : WalkFrame) → IsFrameOf p T v f → length fs < MAX_LEVELS
  level_left f is = let some = some_level (levels_in fs) v is.deep (passes ds (levels_in fs) x.bit T v none).level in omega (arith, some)

  pub enter_none : FramesParts p T v None → AreOfPlan p fs → Enters p x fs fs
  enter_none flat all =
      record {
        frames = all;
        misfit = ap (λ (m : Option MisfitView). or_else (under (path_of fs) m) (misfit_left p fs)) (own_misfit ∙ flat_misfit ds (levels_in fs - 1) T v flat);
        bytes = ap (λ (b : List ℕ). b ++ bytes_left p fs) (whole ds T v) ∙ append_assoc (start ds T v) (parts_bytes ds T v) (bytes_left p fs)
            ∙ ap (λ (b : List ℕ). start ds T v ++ (b ++ bytes_left p fs)) (flat_bytes ds T v flat);
        less = let some = some_weight v in omega (arith, some);
      }

  pub enter_some : (f : WalkFrame) → IsFrameOf p T v f → AreOfPlan p fs → Enters p x fs (f ∷ fs)
  enter_some f is all =
      let n : levels_in fs - 1 ≡ levels_in (f ∷ fs) = omega arith in
      record {
        frames = (is.instances, all);
        misfit = ap (λ (m : Option MisfitView). or_else (under (path_of fs) m) (misfit_left p fs)) (own_misfit ∙ ap (λ (k : ℕ). parts_misfit ds k T v) n ∙ sym (is.misfit (levels_in (f ∷ fs))));
        bytes = ap (λ (b : List ℕ). b ++ bytes_left p fs) (whole ds T v) ∙ append_assoc (start ds T v) (parts_bytes ds T v) (bytes_left p fs)
            ∙ ap (λ (b : List ℕ). start ds T v ++ (b ++ bytes_left p fs)) (sym is.bytes);
        less = omega (arith, is.weight);
      }

pub steps_over : (p : PlanView) (x : Part) (old mid new : List WalkFrame) (next : Option Part) → Enters p x old mid → GoesOn p mid new next → StepsOver p x old new next
steps_over p x old mid new next enters goes =
    record {
      frames = goes.frames;
      part = goes.part;
      misfit = enters.misfit ∙ goes.misfit;
      bytes = enters.bytes ∙ ap (λ (b : List ℕ). start p.schema.decls (part_type p x) (view x.value.now) ++ b) goes.bytes;
      less = omega (arith, enters.less, goes.less);
    }
