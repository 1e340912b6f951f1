-- What a decoder gives has few nodes.
use Rattle.std.proofs.Common.{◌≡◌, ℕ, ◌+◌, ◌*◌, ◌/◌, ◌^◌, ◌<◌, ◌≤◌, List, [], ◌++◌, length, Option, Some, None, Result, Ok, Err, refl, ap, sym, ◌∙◌, subst, arith, inl, inr}
use Rattle.std.specs.Prelude.{IfSome}
use Rattle.std.proofs.Math.Nat.{mul-le-mul_left}
use Rattle.std.proofs.lemmas.List.{length-append}
use Rattle.tl_numbers.specs.Bytes.{AreBytes}
use Rattle.tl_schema.specs.Types.{Shape}
use Rattle.tl_schema.specs.Types as type
use Rattle.tl_schema.specs.Schemas.{Declared}
use Rattle.tl_schema.specs.CheckedPrograms.{IsSchema}
use Rattle.tl_schema.specs.Formed.{IsFormed}
use Rattle.tl_plan.specs.Plans.{IsPlan, PlanView}
use Rattle.tl_plan.specs.PlanLaws.{IsInstance}
use Rattle.tl_types.specs.Values.{ValueView}
use Rattle.tl_types.specs.Values as value
use Rattle.tl_types.specs.Seen.{view}
use Rattle.tl_types.specs.inner.Reading.{Spot, spot, plain_at, value_at}
use Rattle.tl_types.specs.declared.value.Value.{Value}
use Rattle.tl_types.specs.declared.value.TheConstants.{MAX_LEVELS}
use Rattle.tl_types.proofs.Exactly.{exactly_one}
use Rattle.tl_types.proofs.FormedParts.{IsRead}
use Rattle.tl_decode.specs.declared.fault.DecodeFault.{DecodeFault}
use Rattle.tl_decode.specs.declared.stack.Progress.TheVariants as progress
use Rattle.tl_decode.specs.Decoders.{DecoderView, HasCome, HasTaken}
use Rattle.tl_decode.specs.Decoding.{GivesFew}
use Rattle.tl_decode.specs.Sizes.{HasFewNodes}
use Rattle.tl_decode.specs.inner.Steps.{ReadsAs}
use Rattle.tl_decode.specs.inner.Frames.{type_in}
use Rattle.tl_decode.proofs.FedBytes.{done_at}
use Rattle.tl_decode.proofs.Opened.{plain_is}
use Rattle.tl_decode.proofs.Outcomes.{fails, never_err, reads, root_read, same_ok}
use Rattle.tl_decode.proofs.PlanTypes.{instance_type}
use Rattle.tl_decode.proofs.SizesUsed.{each_size_is_bounded}

-- more bytes allow more nodes
pub few_more : (schema : Declared) (T : Shape) (n m : ℕ) (v : ValueView) → n ≤ m → HasFewNodes schema T n v → HasFewNodes schema T m v
few_more schema T n m v le few E a =
    let more : n / 4 + 1 ≤ m / 4 + 1 = omega (arith, le) in
    let own = few E a in
    let bound = mul-le-mul_left (32768 * E) more in
    omega (arith, own, bound)

module _ (schema : Declared) (good : IsSchema schema) (T : Shape) where
  -- bytes that begin with a spelling of few nodes
  abbrev pub BeginsFew : List ℕ → List ℕ → ValueView → Type 0
  BeginsFew bytes rest v = (x : List ℕ) × (bytes ≡ x ++ rest) × HasFewNodes schema T (length x) v

  one_node : (E : ℕ) → 1 ≤ E → 1 ≤ 32768 * E * (0 / 4 + 1)
  one_node E one = omega (arith, one)

  flag_few : (p q : ℕ) (bytes rest : List ℕ) (v : ValueView) → T ≡ type.flag → value_at schema.decls MAX_LEVELS T (spot p bytes) ≡ Ok (v, spot q rest) → BeginsFew bytes rest v
  unfolding plain_at
  flag_few p q bytes rest v is e =
      let both = same_ok (sym (ap (λ (U : Shape). value_at schema.decls MAX_LEVELS U (spot p bytes)) is ∙ plain_is schema.decls MAX_LEVELS type.flag (spot p bytes) refl) ∙ e) in
      let truth : value.truth ≡ v = ap (λ (y : ValueView × Spot). y.0) both in
      let same : bytes ≡ rest = ap (λ (y : ValueView × Spot). y.1.bytes) both in
      ([], same, subst (HasFewNodes schema T 0) truth (λ E a. one_node E a.one))

  formed_few : (p q : ℕ) → p < 2 ^ 64 → (bytes rest : List ℕ) → AreBytes bytes → (v : ValueView) → (formed : IsFormed schema T) → value_at schema.decls MAX_LEVELS T (spot p bytes) ≡ Ok (v, spot q rest) → BeginsFew bytes rest v
  formed_few p q lt bytes rest are v formed e = elim (exactly_one schema good MAX_LEVELS T bytes formed are).either [
    | inl (w, x, (others, split, spells, deep)) ↦
        let both = same_ok (sym (reads schema good T MAX_LEVELS p lt bytes w x others split spells deep) ∙ e) in
        let same : w ≡ v = ap (λ (y : ValueView × Spot). y.0) both in
        let left : others ≡ rest = ap (λ (y : ValueView × Spot). y.1.bytes) both in
        (x, split ∙ ap (λ (z : List ℕ). x ++ z) left, subst (HasFewNodes schema T (length x)) same (λ E a. each_size_is_bounded schema good a.fields a.flags T formed a.widths E a.one a.small w x spells deep))
    | inr (at, cause, r) ↦ never_err (sym (fails schema good T (inr formed) MAX_LEVELS p lt bytes at cause r) ∙ e)
  ]

  -- a value that was read
  pub few_read : IsRead schema T → (p q : ℕ) → p < 2 ^ 64 → (bytes rest : List ℕ) → AreBytes bytes → (v : ValueView) → value_at schema.decls MAX_LEVELS T (spot p bytes) ≡ Ok (v, spot q rest) → BeginsFew bytes rest v
  few_read (inl is) p q lt bytes rest are v e = flag_few p q bytes rest v is e
  few_read (inr formed) p q lt bytes rest are v e = formed_few p q lt bytes rest are v formed e

some_is : {x y : List ℕ} → Some x ≡ Some y → x ≡ y
some_is e = cc

pub gives_few_of : (schema : Declared) → IsSchema schema → (T : Shape) → IsRead schema T → (a b : Option (List ℕ)) (m q : ℕ) (r : Result Value DecodeFault) → m < 2 ^ 64 → IfSome a AreBytes → ReadsAs view a b m q r (value_at schema.decls MAX_LEVELS T)
    → IfSome a (λ bytes. GivesFew schema T bytes b r)
gives_few_of schema good T of None b m q r lt are h = tt
gives_few_of schema good T of (Some bytes) b m q (Ok value) lt are h = λ x rest split left.
    let few = few_read schema good T of m q lt bytes h.0 are (view value) h.2 in
    let same : h.0 ≡ rest = some_is (sym h.1 ∙ left) in
    let len : length few.0 ≡ length x = omega (arith, ap length split, ap length few.1, length-append x rest, length-append few.0 h.0, ap length same) in
    subst (λ (n : ℕ). HasFewNodes schema T n (view value)) len few.2
gives_few_of schema good T of (Some bytes) b m q (Err e) lt are h = tt

pub gives_few : (p : PlanView) → IsPlan p → (j : ℕ) (a b : Option (List ℕ)) (m q : ℕ) (r : Result Value DecodeFault) → m < 2 ^ 64 → IfSome a AreBytes → ReadsAs view a b m q r (value_at p.schema.decls MAX_LEVELS (type_in p j))
    → IfSome a (λ bytes. (T : Shape) → IsInstance p j T → GivesFew p.schema T bytes b r)
gives_few p good j None b m q r lt are h = tt
gives_few p good j (Some bytes) b m q r lt are h = λ T is.
    gives_few_of p.schema good.schema T (root_read p good j T is) (Some bytes) b m q r lt are (subst (λ (U : Shape). ReadsAs view (Some bytes) b m q r (value_at p.schema.decls MAX_LEVELS U)) (instance_type p j T is) h)

-- ---- a value that a decoder has found

module _ (d : DecoderView) (good : IsPlan d.plan) (bytes : List ℕ) (are : AreBytes bytes) where
  found_few : (value : Value) → HasCome d bytes (progress.Done value) → (T : Shape) → IsInstance d.plan d.root T → HasFewNodes d.plan.schema T (length bytes) (view value)
  found_few value h T root =
      let read : value_at d.plan.schema.decls MAX_LEVELS T (spot 0 bytes) ≡ Ok (view value, spot d.at h.0) =
      ap (λ (U : Shape). value_at d.plan.schema.decls MAX_LEVELS U (spot 0 bytes)) (sym (instance_type d.plan d.root T root)) ∙ done_at d bytes value h in
      let few = few_read d.plan.schema good.schema T (root_read d.plan good d.root T root) 0 d.at (omega arith) bytes h.0 are (view value) read in
      few_more d.plan.schema T (length few.0) (length bytes) (view value) (omega (arith, ap length few.1, length-append few.0 h.0)) few.2

  pub taken_few : HasTaken d bytes → (value : Value) → d.progress ≡ progress.Done value → (T : Shape) → IsInstance d.plan d.root T → HasFewNodes d.plan.schema T (length bytes) (view value)
  unfolding HasTaken
  taken_few h value is T root = found_few value (subst (HasCome d bytes) is h) T root
