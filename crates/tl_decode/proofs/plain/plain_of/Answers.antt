use Rattle.std.proofs.Common.{refl, rules}
use Rattle.std.specs.Int.{w32, cast_signed}
use Rattle.std.proofs.lemmas.Result.{err_from_is_err_and}
use Rattle.tl_types.specs.Values as value
use Rattle.tl_schema.specs.Types.{str, raw, int, long, nat, opaque, flag}
use Rattle.tl_types.specs.inner.Reading.{plain_at, word_at}
use Rattle.tl_types.proofs.Views.{shape-Int, shape-Long, shape-Nat, shape-Double, shape-Int128, shape-Int256, shape-Str, shape-Raw, shape-Flag, shape-Var, shape-Vector, shape-Boxed, shape-Bare, shape-Call, view-Int, view-Truth, view-Absent}
use Rattle.tl_schema.specs.Seen.{shape}
use Rattle.tl_decode.proofs.HeldBytes.{text_least}
use Rattle.tl_decode.proofs.SourceItems.{long_item, nat_item, opaque_item, plain_item, raw_item, text_item}
use Rattle.tl_decode.proofs.Values.{plain_read, plain_fails, plain_gives}
use Rattle.tl_decode.proofs.plain.plain_of.Goals as goal

pub returns-in_err-word-in-Int-clause-read : goal.returns-in_err-word-in-Int-clause-read
unfolding plain_at
returns-in_err-word-in-Int-clause-read g c =
    let p = err_from_is_err_and c.from_residual.result c.from_residual.ensures.1 in
    rw (p.1, p.2) (plain_fails _ _ _ c.args.at.now _ _ _ word_at (λ w. value.int (cast_signed w32 w)) _ int (shape-Int _ c.in-Int.is) (λ s. refl) c.in_err-word-in-Int.ensures.read)

pub returns-in_ok-word-in-Int-clause-read : goal.returns-in_ok-word-in-Int-clause-read
unfolding plain_at
returns-in_ok-word-in-Int-clause-read g c = plain_read _ _ _ c.args.at.now _ c.in_ok-word-in-Int.word _ word_at (λ w. value.int (cast_signed w32 w)) _ int (shape-Int _ c.in-Int.is) (λ s. refl) c.in_ok-word-in-Int.ensures.read (view-Int _ _ (search rules))

pub returns-in-Flag-clause-read : goal.returns-in-Flag-clause-read
unfolding plain_at
returns-in-Flag-clause-read g c = plain_gives _ c.args.at.now _ value.truth _ flag (shape-Flag _ c.in-Flag.is) (λ s. refl) view-Truth

pub returns-in-Var-clause-read : goal.returns-in-Var-clause-read
unfolding plain_at
returns-in-Var-clause-read g c = plain_gives _ c.args.at.now _ value.absent _ _ (shape-Var _ _ c.in-Var.is) (λ s. refl) view-Absent

pub returns-in-Vector-clause-read : goal.returns-in-Vector-clause-read
unfolding plain_at
returns-in-Vector-clause-read g c = plain_gives _ c.args.at.now _ value.absent _ _ (shape-Vector _ _ _ c.in-Vector.is) (λ s. refl) view-Absent

pub returns-in-Boxed-clause-read : goal.returns-in-Boxed-clause-read
unfolding plain_at
returns-in-Boxed-clause-read g c = plain_gives _ c.args.at.now _ value.absent _ _ (shape-Boxed _ _ _ c.in-Boxed.is) (λ s. refl) view-Absent

pub returns-in-Bare-clause-read : goal.returns-in-Bare-clause-read
unfolding plain_at
returns-in-Bare-clause-read g c = plain_gives _ c.args.at.now _ value.absent _ _ (shape-Bare _ _ _ c.in-Bare.is) (λ s. refl) view-Absent

pub returns-in-Call-clause-read : goal.returns-in-Call-clause-read
unfolding plain_at
returns-in-Call-clause-read g c = plain_gives _ c.args.at.now _ value.absent _ _ (shape-Call _ c.in-Call.is) (λ s. refl) view-Absent

pub returns-in-Long-clause-read : goal.returns-in-Long-clause-read
returns-in-Long-clause-read g c = plain_item _ _ c.args.at.now _ _ (shape c.args.of.now) long _ (shape-Long _ c.in-Long.is) long_item c.value_item.ensures.read

pub returns-in-Nat-clause-read : goal.returns-in-Nat-clause-read
returns-in-Nat-clause-read g c = plain_item _ _ c.args.at.now _ _ (shape c.args.of.now) nat _ (shape-Nat _ c.in-Nat.is) nat_item c.value_item-in-Nat.ensures.read

pub returns-in-Double-clause-read : goal.returns-in-Double-clause-read
returns-in-Double-clause-read g c = plain_item _ _ c.args.at.now _ _ (shape c.args.of.now) (opaque 8) _ (shape-Double _ c.in-Double.is) (opaque_item 8) c.value_item-in-Double.ensures.read

pub returns-in-Int128-clause-read : goal.returns-in-Int128-clause-read
returns-in-Int128-clause-read g c = plain_item _ _ c.args.at.now _ _ (shape c.args.of.now) (opaque 16) _ (shape-Int128 _ c.in-Int128.is) (opaque_item 16) c.value_item-in-Int128.ensures.read

pub returns-in-Int256-clause-read : goal.returns-in-Int256-clause-read
returns-in-Int256-clause-read g c = plain_item _ _ c.args.at.now _ _ (shape c.args.of.now) (opaque 32) _ (shape-Int256 _ c.in-Int256.is) (opaque_item 32) c.value_item-in-Int256.ensures.read

pub returns-in-Str-clause-read : goal.returns-in-Str-clause-read
returns-in-Str-clause-read g c = plain_item _ _ c.args.at.now _ _ (shape c.args.of.now) str _ (shape-Str _ c.in-Str.is) text_item c.value_item-in-Str.ensures.read

pub returns-in-Raw-clause-read : goal.returns-in-Raw-clause-read
returns-in-Raw-clause-read g c = plain_item _ _ c.args.at.now _ _ (shape c.args.of.now) raw _ (shape-Raw _ c.in-Raw.is) raw_item c.value_item-in-Raw.ensures.read

pub value_item-requires-in-Str : goal.value_item-requires-in-Str
value_item-requires-in-Str g c = text_least

pub value_item-requires-in-Raw : goal.value_item-requires-in-Raw
value_item-requires-in-Raw g c = text_least
