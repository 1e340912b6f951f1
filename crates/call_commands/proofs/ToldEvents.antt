-- Packets that are told: a call that is sent, the value that an answer gives, and an answer to no open call.
use Rattle.std.proofs.Common.{◌≡◌, ◌≢◌, ℕ, ◌<◌, ◌^◌, List, ◌++◌, length, codes, Option, Some, None, Result, Ok, Vec, Global, refl, sym, ap, ◌∙◌, subst, arith}
use Rattle.tl_numbers.specs.Numbers.{word}
use Rattle.tl_schema.specs.Types as type
use Rattle.tl_schema.specs.Schemas.{Declared}
use Rattle.tl_schema.specs.Seen.{shape}
use Rattle.tl_schema.specs.declared.schema.TypeRef.TheVariants as ref
use Rattle.tl_types.specs.Values.{ValueView}
use Rattle.tl_types.specs.Seen.{view}
use Rattle.tl_types.specs.declared.value.Value.{Value}
use Rattle.tl_types.proofs.Views.{shape-Call}
use Rattle.tl_decode.specs.Wholes.{ReadsBytes}
use Rattle.tl_calls.specs.Calling.{CallsView, Sends, LogsSent, Answers, AnswersTo, ToCall, LogsCame, open_at}
use Rattle.tl_calls.specs.Events.{sent, came}
use Rattle.tl_calls.specs.Results.{result_type}
use Rattle.tl_base.specs.declared.fault.Fault.{Fault}
use Rattle.tl_decode.specs.declared.whole.WholeCause.{WholeCause}
use Rattle.tl_calls.proofs.Answers.{none_logs}
use Rattle.tl_calls.proofs.Stands.{found_open, open_found}
use Rattle.schema_files.specs.Lines.{line_text}
use Rattle.call_commands.specs.CallReports.{IsWhole, call, answer, stale, stale_line}
use Rattle.call_commands.specs.Answering.{TellsPacket}
use Rattle.call_commands.specs.inner.Tellings.{numbered_line}

-- ---- the type of calls

pub called : shape ref.Call ≡ type.call
called = shape-Call ref.Call refl

-- ---- calls

module _ (schema : Declared) (old new : CallsView) (at : ℕ) (b : List ℕ) where
  pub call_told : (v : ValueView) (n : ℕ) (line : Vec ℕ Global) → IsWhole schema type.call b v → Sends schema old new v (Ok n) → LogsSent schema old new v (Ok n) → line.items ≡ numbered_line (codes "call") n (line_text schema.decls type.call v)
      → TellsPacket schema old new at (word 0 ++ b) (Ok line)
  call_told v n line whole (few, has, number, same) logs is = λ past stands. (
    (sent v, None),
    call v b refl whole (omega (arith, few, ap length stands.calls)) has refl (is ∙ ap (λ (k : ℕ). numbered_line (codes "call") k (line_text schema.decls type.call v)) (number ∙ stands.next)),
    logs past stands,
  )

  -- ---- answers

  -- what an answer to an open call does
  pub to_call : (n : ℕ) (c : ValueView) (r : Result (Option Value) (Fault WholeCause)) → open_at old n ≡ Some c → Answers schema old new n b r → ToCall schema old new n c b r
  to_call n c r found answers = subst (AnswersTo schema old new n b r) found answers

  pub value_told : (n : ℕ) (c : ValueView) (value : Value) (line : Vec ℕ Global) → n < 2 ^ 32 → open_at old n ≡ Some c → ReadsBytes schema (result_type schema.decls c) b (Ok value) → LogsCame schema old new n b (Ok (Some value))
      → line.items ≡ numbered_line (codes "answer") n (line_text schema.decls (result_type schema.decls c) (view value)) → TellsPacket schema old new at (word n ++ b) (Ok line)
  value_told n c value line fits found whole logs is = λ past stands. (
    (came n b, Some (view value)),
    answer n b c (view value) fits refl (found_open schema old past n c stands found) whole refl is,
    logs past stands,
  )

none_some : {X : Type 0} (x : X) → None ≡ Some x → ⊥
none_some x e = cc

pub stale_told : (schema : Declared) (old : CallsView) (at n : ℕ) (b : List ℕ) (line : Vec ℕ Global) → n < 2 ^ 32 → n ≢ 0 → open_at old n ≡ None → line.items ≡ stale_line n → TellsPacket schema old old at (word n ++ b) (Ok line)
stale_told schema old at n b line fits some none is = λ past stands. (
  (came n b, None),
  stale n b fits some refl (λ c here. none_some c (sym none ∙ open_found schema old past n c stands here)) refl is,
  none_logs schema old n b none past stands,
)
