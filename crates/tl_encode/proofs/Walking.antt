-- The walk over a whole value.
use Rattle.std.proofs.Common.{◌≡◌, ℕ, zero, suc, ap₂, ◌+◌, ◌-◌, ◌<◌, ◌≤◌, ◌^◌, List, [], ◌∷◌, ◌++◌, append-nil, append_assoc, length, min, Option, Some, None, refl, sym, subst, ap, true, ◌∙◌, arith}
use Rattle.std.specs.Prelude.{slice_get}
use Rattle.std.proofs.lemmas.List.{length-append}
use Rattle.tl_schema.specs.Types.{Shape}
use Rattle.tl_schema.specs.Schemas.{Declared}
use Rattle.tl_plan.specs.PlanLaws.{IsInstance}
use Rattle.tl_plan.specs.Plans.{InstanceView, PlanView}
use Rattle.tl_plan.specs.Seen.{Shows}
use Rattle.tl_plan.specs.declared.instances.Instance.{Instance}
use Rattle.tl_types.specs.Values.{ValueView, depth}
use Rattle.tl_types.specs.Spelling.{Spells}
use Rattle.tl_types.specs.Fitting.{Bit, MisfitView, is_in_range, misfit, node_misfit, or_else}
use Rattle.tl_types.specs.Seen.{view}
use Rattle.tl_types.specs.declared.value.TheConstants.{MAX_LEVELS}
use Rattle.tl_types.specs.declared.misfit.MisfitCause.{MisfitCause}
use Rattle.tl_types.proofs.NodePasses.{fits_of, no_cause, or_else_none, passes}
use Rattle.tl_encode.specs.declared.frames.WalkFrame.{WalkFrame}
use Rattle.tl_encode.specs.declared.frames.Part.{Part}
use Rattle.tl_encode.specs.Lengths.{FitsInstance}
use Rattle.tl_encode.specs.inner.Bytes.{spelling, start}
use Rattle.tl_schema.specs.Forms.{outermost}
use Rattle.tl_encode.specs.inner.Frames.{path_of}
use Rattle.tl_encode.specs.inner.Walks.{StepsOver, Walks, levels_in, misfit_left, part_misfit, part_type, type_at, type_in, under, whole_bytes}
use Rattle.tl_types.proofs.ByForm.{node_by_form}
use Rattle.tl_encode.proofs.ByForm.{start_by_form}
use Rattle.tl_encode.proofs.Entering.{failed}
use Rattle.tl_encode.proofs.Spelled.{spelling_is}
use Rattle.tl_types.proofs.SpelledFits.{spelled_fits}

-- ---- what is read off an instance's form

module _ (p : PlanView) (k : ℕ) (x : InstanceView) (at : slice_get p.instances k ≡ Some x) (inst : Instance) (shows : Shows x inst) where
  node_here : (n : ℕ) (bit : Bit) (v : ValueView) → node_misfit p.schema.decls n bit (outermost inst.form) v ≡ node_misfit p.schema.decls n bit (type_at p k) v
  node_here n bit v = node_by_form p.schema.decls n bit x.of inst.form v shows.form ∙ sym (ap (λ (o : Option InstanceView). node_misfit p.schema.decls n bit (type_in o) v) at)

  pub node_told : (S : Declared) (n m : ℕ) (bit : Bit) (v : ValueView) (told : Option MisfitCause) → S ≡ p.schema → n ≡ m → told ≡ node_misfit S.decls n bit (outermost inst.form) v
      → told ≡ node_misfit p.schema.decls m bit (type_at p k) v
  node_told S n m bit v told own same is = is ∙ ap₂ (λ (D : Declared) (l : ℕ). node_misfit D.decls l bit (outermost inst.form) v) own same ∙ node_here m bit v

  start_here : (v : ValueView) → start p.schema.decls (outermost inst.form) v ≡ start p.schema.decls (type_at p k) v
  start_here v = start_by_form p.schema.decls x.of inst.form v shows.form ∙ sym (ap (λ (o : Option InstanceView). start p.schema.decls (type_in o) v) at)

  pub start_told : (S : Declared) (v : ValueView) → S ≡ p.schema → start S.decls (outermost inst.form) v ≡ start p.schema.decls (type_at p k) v
  start_told S v own = ap (λ (D : Declared). start D.decls (outermost inst.form) v) own ∙ start_here v

pub instance_is : (p : PlanView) (k : ℕ) → k < length p.instances → IsInstance p k (type_at p k)
instance_is p k within = let x = at p.instances k within in (x.0, x.1, sym (ap type_in x.1))
  where
    at : (xs : List InstanceView) (i : ℕ) → i < length xs → (x : InstanceView) × (slice_get xs i ≡ Some x)
    at [] i lt = absurd (omega (arith, lt))
    at (x ∷ xs) zero lt = (x, refl)
    at (x ∷ xs) (suc i) lt = at xs i (omega (arith, lt))

pub type_of_instance : (p : PlanView) (k : ℕ) (T : Shape) → IsInstance p k T → type_at p k ≡ T
type_of_instance p k T (x, at, is) = ap type_in at ∙ is

-- what is a value's spelling, by whatever type of an instance, is each that spells it
pub whole_is : (p : PlanView) (k root : ℕ) (T : Shape) (v : ValueView) (bytes spelled : List ℕ) → bytes ≡ spelling p.schema.decls (type_at p k) v → k ≡ root → IsInstance p root T → Spells p.schema T v spelled → bytes ≡ spelled
whole_is p k root T v bytes spelled is same instance spells =
    is ∙ ap (λ (U : Shape). spelling p.schema.decls U v) (ap (type_at p) same ∙ type_of_instance p root T instance) ∙ sym (spelling_is p.schema v T spelled spells)

-- what has a spelling of so few levels fits the type of the instance
pub fits_instance : (p : PlanView) (k root : ℕ) (T : Shape) (v : ValueView) (spelled : List ℕ) → k ≡ root → IsInstance p root T → Spells p.schema T v spelled → depth v ≤ MAX_LEVELS → misfit p.schema.decls MAX_LEVELS None (type_at p k) v ≡ None
fits_instance p k root T v spelled same instance spells deep =
    ap (λ (U : Shape). misfit p.schema.decls MAX_LEVELS None U v) (ap (type_at p) same ∙ type_of_instance p root T instance) ∙ spelled_fits p.schema v T MAX_LEVELS spelled spells deep

-- lengths up to the highest
pub one_more : (len more total : ℕ) (put start : List ℕ) → total ≡ min (len + more) (2 ^ 64 - 1) → len ≡ min (length put) (2 ^ 64 - 1) → more ≡ length start → total ≡ min (length (put ++ start)) (2 ^ 64 - 1)
one_more len more total put start is len_is more_is = let both = length-append put start in omega (arith, is, len_is, more_is, both)

-- ---- the walk

under_none : (m : Option MisfitView) → m ≡ or_else (under [] m) None
under_none None = refl
under_none (Some m) = refl

no_misfit_under : (path : List ℕ) (m : Option MisfitView) → under path m ≡ None → m ≡ None
no_misfit_under path None e = refl
no_misfit_under path (Some m) e = absurd cc

module _ (p : PlanView) (k : ℕ) (v : ValueView) where
  -- it begins with the whole value
  pub starts : (put : List ℕ) (x : Part) (fs : List WalkFrame) → k < length p.instances → put ≡ [] → x.of ≡ k → x.bit ≡ None → view x.value.now ≡ v → fs ≡ [] → Walks p k v put (Some x) fs
  starts put x fs within empty of bit is none =
      record {
        frames = rw none tt;
        part = rw of within;
        misfit = rw (none, of, bit, is) (under_none (misfit p.schema.decls MAX_LEVELS None (type_at p k) v));
        bytes = rw (empty, none, of, is) (sym (append-nil (spelling p.schema.decls (type_at p k) v)));
      }

  -- a part that passes is put, and the walk goes on
  pub goes_on : (put more now : List ℕ) (x : Part) (next : Option Part) (fs new : List WalkFrame) → Walks p k v put (Some x) fs → StepsOver p x fs new next
      → more ≡ start p.schema.decls (part_type p x) (view x.value.now) → now ≡ put ++ more → Walks p k v now next new
  goes_on put more now x next fs new walks steps is now_is =
      record {
        frames = steps.frames;
        part = steps.part;
        misfit = walks.misfit ∙ steps.misfit;
        bytes = walks.bytes ∙ ap (λ (b : List ℕ). put ++ b) steps.bytes ∙ sym (append_assoc put _ (whole_bytes p next new)) ∙ ap (λ (b : List ℕ). (put ++ b) ++ whole_bytes p next new) (sym is) ∙ ap (λ (b : List ℕ). b ++ whole_bytes p next new) (sym now_is);
      }

  -- a part that doesn't pass is the first misfit
  pub fails : (put : List ℕ) (x : Part) (fs : List WalkFrame) (cause : MisfitCause) → Walks p k v put (Some x) fs → node_misfit p.schema.decls (levels_in fs) x.bit (part_type p x) (view x.value.now) ≡ Some cause
      → misfit p.schema.decls MAX_LEVELS None (type_at p k) v ≡ Some (path_of fs, cause)
  fails put x fs cause walks own =
      walks.misfit ∙ ap (λ (m : Option MisfitView). or_else (under (path_of fs) m) (misfit_left p fs)) (failed p.schema.decls (levels_in fs) x.bit (part_type p x) (view x.value.now) cause own)
      ∙ ap (λ (path : List ℕ). Some (path, cause)) (append-nil (path_of fs))

  -- at its end all was put, and nothing was a misfit
  pub ends : (put : List ℕ) (fs : List WalkFrame) → Walks p k v put None fs → (misfit p.schema.decls MAX_LEVELS None (type_at p k) v ≡ None) × (put ≡ spelling p.schema.decls (type_at p k) v)
  ends put fs walks = (walks.misfit, sym (walks.bytes ∙ append-nil put))

  -- where the whole fits, each part passes
  pub part_passes : (put : List ℕ) (x : Part) (fs : List WalkFrame) → Walks p k v put (Some x) fs → misfit p.schema.decls MAX_LEVELS None (type_at p k) v ≡ None
      → node_misfit p.schema.decls (levels_in fs) x.bit (part_type p x) (view x.value.now) ≡ None
  part_passes put x fs walks fits =
      let both = or_else_none (part_misfit p x fs) (misfit_left p fs) (sym walks.misfit ∙ fits) in
      let own = no_misfit_under (path_of fs) _ both.0 in
      no_cause p.schema.decls (levels_in fs) x.bit (part_type p x) (view x.value.now) (fits_of p.schema.decls (levels_in fs) x.bit (part_type p x) (view x.value.now) own).own

-- where the value fits the root's type, each part that the walk comes to passes
module _ (p : PlanView) (k root : ℕ) (v : ValueView) (put : List ℕ) (next : Option Part) (x : Part) (fs : List WalkFrame) where
  pub part_fits : k < length p.instances → k ≡ root → FitsInstance p root v → next ≡ Some x → Walks p k v put next fs → node_misfit p.schema.decls (levels_in fs) x.bit (part_type p x) (view x.value.now) ≡ None
  part_fits within same fits is walks =
      part_passes p k v put x fs (subst (λ (o : Option Part). Walks p k v put o fs) is walks) (fits (type_at p k) (subst (λ (i : ℕ). IsInstance p i (type_at p k)) same (instance_is p k within)))

  pub part_in_range : k < length p.instances → k ≡ root → FitsInstance p root v → next ≡ Some x → Walks p k v put next fs → is_in_range (view x.value.now) ≡ true
  part_in_range within same fits is walks = (passes p.schema.decls (levels_in fs) x.bit (part_type p x) (view x.value.now) (part_fits within same fits is walks)).range
