-- An answer that is refused gives nothing.
use Rattle.std.proofs.Common.{◌≡◌, ℕ, ◌<◌, ◌≤◌, List, [], ◌++◌, length, append-nil, length-append, Some, None, ap, sym, ◌∙◌, subst, arith}
use Rattle.tl_schema.specs.Schemas.{Declared}
use Rattle.tl_types.specs.Values.{ValueView, depth}
use Rattle.tl_types.specs.Spelling.{Spells}
use Rattle.tl_types.specs.Refusal.{Refused}
use Rattle.tl_types.specs.Exactly.{BeginsWith, ExactlyOne}
use Rattle.tl_types.specs.declared.cause.Cause.{Cause}
use Rattle.tl_types.specs.declared.value.TheConstants.{MAX_LEVELS}
use Rattle.tl_calls.specs.Results.{result_type}
use Rattle.tl_calls.specs.Events.{came, Log, IsOpen, IsAnswer, Gives}

some_is : {X : Type 0} (x y : X) → Some x ≡ Some y → x ≡ y
some_is x y same = cc

module _ (schema : Declared) (past : Log) (n : ℕ) (b : List ℕ) (c : ValueView) (here : IsOpen past n c) (one : ExactlyOne schema MAX_LEVELS (result_type schema.decls c) b) where
  -- a value that is given here is one of the call's result
  begins : (d w : ValueView) → IsOpen past n d → IsAnswer schema d b w → BeginsWith schema MAX_LEVELS (result_type schema.decls c) b w b
  begins d w other a =
      let same : d ≡ c = some_is d c (sym other.sent ∙ here.sent) in
      let is = subst (λ (z : ValueView). IsAnswer schema z b w) same a in ([], sym (append-nil b), is.0, is.1)

  pub refused_gives : (at : ℕ) (cause : Cause) → Refused schema MAX_LEVELS (result_type schema.decls c) b at cause → Gives schema past (came n b) None
  refused_gives at cause r = λ d w other a. one.never_both w b at cause (begins d w other a) r

  longer : (x rest : List ℕ) → 0 < length rest → b ≡ x ++ rest → x ≡ b → ⊥
  longer x rest some is same = let lengths = ap length (same ∙ is) in omega (arith, some, lengths, length-append x rest)

  pub trailing_gives : (v : ValueView) (x rest : List ℕ) → b ≡ x ++ rest → 0 < length rest → Spells schema (result_type schema.decls c) v x → depth v ≤ MAX_LEVELS → Gives schema past (came n b) None
  trailing_gives v x rest is some spells deep = λ d w other a. longer x rest some is (one.one_value v w x b (rest, is, spells, deep) (begins d w other a)).1
