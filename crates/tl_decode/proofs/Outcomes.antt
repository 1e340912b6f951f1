-- What decoding answers for bytes that begin with a spelling, and for bytes that are refused.
use Rattle.std.proofs.Common.{◌≡◌, ℕ, ◌^◌, ◌≤◌, ◌<◌, List, ◌++◌, length, Option, Some, None, Result, Ok, Err, sym, ap, ◌∙◌, subst}
use Rattle.std.specs.Prelude.{IfSome}
use Rattle.tl_schema.specs.Types.{Shape}
use Rattle.tl_schema.specs.Schemas.{Declared}
use Rattle.tl_schema.specs.CheckedPrograms.{IsSchema}
use Rattle.tl_types.proofs.FormedParts.{IsRead}
use Rattle.tl_types.specs.Values.{ValueView, depth}
use Rattle.tl_types.specs.Seen.{view}
use Rattle.tl_types.specs.Spelling.{Spells}
use Rattle.tl_types.specs.Refusal.{Refused}
use Rattle.tl_types.specs.Offsets.{moved}
use Rattle.tl_types.specs.inner.Reading.{Spot, spot, Fault, Read, value_at}
use Rattle.tl_types.specs.declared.cause.Cause.{Cause}
use Rattle.tl_types.specs.declared.cause.Cause.TheVariants.{TooDeep}
use Rattle.tl_types.specs.declared.value.Value.{Value}
use Rattle.tl_types.proofs.Spelling.{spelled}
use Rattle.tl_types.proofs.Refusal.{refused}
use Rattle.tl_types.proofs.SchemaTells.{schema_tells}
use Rattle.tl_decode.specs.declared.fault.DecodeFault.{DecodeFault}
use Rattle.tl_decode.specs.declared.fault.DecodeFault.TheVariants as fault
use Rattle.tl_decode.specs.Decoding.{GivesValue, GivesFault}
use Rattle.tl_decode.specs.inner.Steps.{ReadsAs}
use Rattle.tl_plan.specs.Plans.{IsPlan, PlanView}
use Rattle.tl_plan.specs.PlanLaws.{IsInstance}
use Rattle.tl_plan.proofs.PlanFacts.{instances_are_formed}
use Rattle.tl_decode.specs.inner.Frames.{type_in}
use Rattle.tl_decode.proofs.PlanTypes.{instance_type}

pub same_ok : {x y : ValueView × Spot} → ◌≡◌ {A = Read ValueView} (Ok x) (Ok y) → x ≡ y
same_ok e = cc

pub never_err : {P : Type 0} {f : Fault} {y : ValueView × Spot} → ◌≡◌ {A = Read ValueView} (Err f) (Ok y) → P
never_err e = absurd cc

pub same_err : {p q : ℕ} {c d : Cause} → ◌≡◌ {A = Read ValueView} (Err (p, c)) (Err (q, d)) → (p ≡ q) × (c ≡ d)
same_err e =
    (ap (λ (r : Read ValueView). elim r as (λ _. ℕ) [ Ok y ↦ 0 | Err f ↦ f.0 ]) e, ap (λ (r : Read ValueView). elim r as (λ _. Cause) [ Ok y ↦ TooDeep | Err f ↦ f.1 ]) e)

-- reading what begins with a spelling
pub reads : (schema : Declared) → IsSchema schema → (T : Shape) (n p : ℕ) → p < 2 ^ 64 → (bytes : List ℕ) (v : ValueView) (x rest : List ℕ) → bytes ≡ x ++ rest → Spells schema T v x → depth v ≤ n → value_at schema.decls n T (spot p bytes) ≡ Ok (v, spot (moved p (length x)) rest)
reads schema good T n p lt bytes v x rest split s deep = ap (λ (z : List ℕ). value_at schema.decls n T (spot p z)) split ∙ spelled schema (schema_tells schema good).numbers v T n x rest p lt s deep

pub gives_value : (schema : Declared) → IsSchema schema → (T : Shape) (n : ℕ) (a b : Option (List ℕ)) (p q : ℕ) (r : Result Value DecodeFault) → p < 2 ^ 64 → ReadsAs view a b p q r (value_at schema.decls n T)
    → IfSome a (λ bytes. (v : ValueView) (x rest : List ℕ) → bytes ≡ x ++ rest → Spells schema T v x → depth v ≤ n → GivesValue r b p q v x rest)
gives_value schema good T n None b p q r lt h = tt
gives_value schema good T n (Some bytes) b p q (Ok value) lt h = λ v x rest split s deep.
    let both = same_ok (sym h.2 ∙ reads schema good T n p lt bytes v x rest split s deep) in
    (ap (λ (y : ValueView × Spot). y.0) both, h.1 ∙ ap (λ (y : ValueView × Spot). Some y.1.bytes) both, ap (λ (y : ValueView × Spot). y.1.place) both)
gives_value schema good T n (Some bytes) b p q (Err (fault.Refused place cause)) lt h = λ v x rest split s deep.
    never_err (sym h ∙ reads schema good T n p lt bytes v x rest split s deep)
gives_value schema good T n (Some bytes) b p q (Err fault.ReadFault) lt h = λ v x rest split s deep. tt
gives_value schema good T n (Some bytes) b p q (Err fault.Memory) lt h = λ v x rest split s deep. tt

-- reading what is refused
pub fails : (schema : Declared) → IsSchema schema → (T : Shape) → IsRead schema T → (n p : ℕ) → p < 2 ^ 64 → (bytes : List ℕ) (offset : ℕ) (cause : Cause) → Refused schema n T bytes offset cause → value_at schema.decls n T (spot p bytes) ≡ Err (moved p offset, cause)
fails schema good T read n p lt bytes offset cause s = refused schema (schema_tells schema good) n T read bytes offset cause p lt s

pub gives_fault : (schema : Declared) → IsSchema schema → (T : Shape) → IsRead schema T → (n : ℕ) (a b : Option (List ℕ)) (p q : ℕ) (r : Result Value DecodeFault) → p < 2 ^ 64 → ReadsAs view a b p q r (value_at schema.decls n T)
    → IfSome a (λ bytes. (offset : ℕ) (cause : Cause) → Refused schema n T bytes offset cause → GivesFault r (moved p offset) cause)
gives_fault schema good T read n None b p q r lt h = tt
gives_fault schema good T read n (Some bytes) b p q (Ok value) lt h = λ offset cause s. never_err (sym (fails schema good T read n p lt bytes offset cause s) ∙ h.2)
gives_fault schema good T read n (Some bytes) b p q (Err (fault.Refused at why)) lt h = λ offset cause s. same_err (sym h ∙ fails schema good T read n p lt bytes offset cause s)
gives_fault schema good T read n (Some bytes) b p q (Err fault.ReadFault) lt h = λ offset cause s. tt
gives_fault schema good T read n (Some bytes) b p q (Err fault.Memory) lt h = λ offset cause s. tt

-- ---- roots of a plan

module _ (p : PlanView) (good : IsPlan p) (j : ℕ) where
  pub root_read : (T : Shape) → IsInstance p j T → IsRead p.schema T
  root_read T (x, there, is) = subst (IsRead p.schema) is (instances_are_formed p good j x there)

  as_type : (a b : Option (List ℕ)) (m q n : ℕ) (r : Result Value DecodeFault) (T : Shape) → IsInstance p j T → ReadsAs view a b m q r (value_at p.schema.decls n (type_in p j)) → ReadsAs view a b m q r (value_at p.schema.decls n T)
  as_type a b m q n r T is h = subst (λ (U : Shape). ReadsAs view a b m q r (value_at p.schema.decls n U)) (instance_type p j T is) h

  pub gives_root : (n : ℕ) (a b : Option (List ℕ)) (m q : ℕ) (r : Result Value DecodeFault) → m < 2 ^ 64 → ReadsAs view a b m q r (value_at p.schema.decls n (type_in p j))
      → IfSome a (λ bytes. (T : Shape) → IsInstance p j T → (v : ValueView) (x rest : List ℕ) → bytes ≡ x ++ rest → Spells p.schema T v x → depth v ≤ n → GivesValue r b m q v x rest)
  gives_root n None b m q r lt h = tt
  gives_root n (Some bytes) b m q r lt h = λ T is. gives_value p.schema good.schema T n (Some bytes) b m q r lt (as_type (Some bytes) b m q n r T is h)

  pub gives_root_fault : (n : ℕ) (a b : Option (List ℕ)) (m q : ℕ) (r : Result Value DecodeFault) → m < 2 ^ 64 → ReadsAs view a b m q r (value_at p.schema.decls n (type_in p j))
      → IfSome a (λ bytes. (T : Shape) → IsInstance p j T → (offset : ℕ) (cause : Cause) → Refused p.schema n T bytes offset cause → GivesFault r (moved m offset) cause)
  gives_root_fault n None b m q r lt h = tt
  gives_root_fault n (Some bytes) b m q r lt h = λ T is. gives_fault p.schema good.schema T (root_read T is) n (Some bytes) b m q r lt (as_type (Some bytes) b m q n r T is h)
