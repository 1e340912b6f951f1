-- A type is answered in, or has one cause: one of the two.
use Rattle.std.proofs.Common.{◌≡◌, ◌⊎◌, inl, inr, Some, None, Option, refl, arith}
use Rattle.std.proofs.lemmas.Bool.{cases_lt}
use Rattle.tl_combinators.proofs.Decided.{decided_or}
use Rattle.tl_plan.specs.Types.{levels}
use Rattle.tl_plan.specs.declared.fault.TheConstants.{MAX_LEVELS}
use Rattle.tl_schema.specs.Formed.{IsEmpty}
use Rattle.tl_schema.specs.Schemas.{Declared}
use Rattle.tl_schema.specs.Types.{Shape, Shapes, int, long, nat, opaque, str, raw, flag, call, var, vector, boxed, bare, no_shapes, shape}
use Rattle.tl_schema.proofs.TakesNoneDecided.{takes_none_decided}
use Rattle.tl_calls.specs.Results.{HasEmptyAmong, HasEmptyArgument, IsAnswerable, ResultHas, TellsCause}
use Rattle.tl_calls.specs.declared.fault.ResultCause.{ResultCause}
use Rattle.tl_calls.specs.declared.fault.ResultCause.TheVariants.{TypeTooDeep, EmptyElement}

abbrev Decided : Type 0 → Type 0
Decided P = P ⊎ (P → ⊥)

module _ (schema : Declared) where
  empty_decided : (T : Shape) → Decided (IsEmpty schema T)
  empty_decided int = inr (λ h. h)
  empty_decided long = inr (λ h. h)
  empty_decided nat = inr (λ h. h)
  empty_decided (opaque k) = inr (λ h. h)
  empty_decided str = inr (λ h. h)
  empty_decided raw = inr (λ h. h)
  empty_decided flag = inr (λ h. h)
  empty_decided call = inr (λ h. h)
  empty_decided (var i) = inr (λ h. h)
  empty_decided (vector is_boxed T) = inr (λ h. h)
  empty_decided (boxed h args) = inr (λ h. h)
  empty_decided (bare i args) = takes_none_decided schema.program i

  mutual
    argument_decided : (T : Shape) → Decided (HasEmptyArgument schema T)
    argument_decided int = inr (λ h. h)
    argument_decided long = inr (λ h. h)
    argument_decided nat = inr (λ h. h)
    argument_decided (opaque k) = inr (λ h. h)
    argument_decided str = inr (λ h. h)
    argument_decided raw = inr (λ h. h)
    argument_decided flag = inr (λ h. h)
    argument_decided call = inr (λ h. h)
    argument_decided (var i) = inr (λ h. h)
    argument_decided (vector is_boxed T) = decided_or (empty_decided T) (argument_decided T)
    argument_decided (boxed h args) = among_decided args
    argument_decided (bare i args) = among_decided args

    among_decided : (args : Shapes) → Decided (HasEmptyAmong schema args)
    among_decided no_shapes = inr (λ h. h)
    among_decided (shape T args) = decided_or (empty_decided T) (decided_or (argument_decided T) (among_decided args))

  pub cause_told : (T : Shape) → (o : Option ResultCause) × TellsCause schema T o
  cause_told T = elim (cases_lt MAX_LEVELS (levels T)) [
    | inl deep ↦ (Some TypeTooDeep, deep)
    | inr few ↦ elim (argument_decided T) [
      | inl empty ↦ (Some EmptyElement, (few, empty))
      | inr full ↦ (None, record { shallow = few; full = full })
    ]
  ]

  pub never_cause : (T : Shape) (cause : ResultCause) → IsAnswerable schema T → ResultHas schema T cause → ⊥
  never_cause T TypeTooDeep answerable deep = omega (arith, answerable.shallow, deep)
  never_cause T EmptyElement answerable has = answerable.full has.1

  pub one_cause : (T : Shape) (c d : ResultCause) → ResultHas schema T c → ResultHas schema T d → c ≡ d
  one_cause T TypeTooDeep TypeTooDeep h k = refl
  one_cause T TypeTooDeep EmptyElement h k = absurd (omega (arith, h, k.0))
  one_cause T EmptyElement TypeTooDeep h k = absurd (omega (arith, h.0, k))
  one_cause T EmptyElement EmptyElement h k = refl
