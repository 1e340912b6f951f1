use Rattle.std.proofs.Common.{refl, Ok}
use Rattle.std.proofs.lemmas.Result.{err_from_is_err_and}
use Rattle.tl_types.specs.Seen.{view}
use Rattle.tl_types.proofs.Views.{view-Nat}
use Rattle.tl_decode.specs.declared.stack.Item.TheVariants as item
use Rattle.tl_decode.specs.inner.Frames.{item_at, item_value, item_view}
use Rattle.tl_decode.proofs.Steps.{makes, then_fails}
use Rattle.tl_decode.proofs.plain.value_item.Goals as goal

pub returns-in_err-word-clause-read : goal.returns-in_err-word-clause-read
returns-in_err-word-clause-read g c =
    let p = err_from_is_err_and c.from_residual.result c.from_residual.ensures.1 in
    rw (p.1, p.2) (then_fails item_view view _ _ c.args.at.now _ _ _ (item_at c.args.wanted) (λ _ x. Ok (item_value x.0, x.1)) c.in_err-word.ensures.read)

pub returns-in-Word-clause-read : goal.returns-in-Word-clause-read
returns-in-Word-clause-read g c = makes item_view view _ _ c.args.at.now _ (item.Word c.in-Word.word) _ (item_at c.args.wanted) item_value (rw c.in-Word.is at c.in_ok-word.ensures.read) (view-Nat _ _ refl)

pub returns-in-Plain-clause-read : goal.returns-in-Plain-clause-read
returns-in-Plain-clause-read g c = makes item_view view _ _ c.args.at.now _ (item.Plain c.in-Plain.value) c.in-Plain.value (item_at c.args.wanted) item_value (rw c.in-Plain.is at c.in_ok-word.ensures.read) refl
