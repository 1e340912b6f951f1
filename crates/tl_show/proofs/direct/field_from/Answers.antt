use Rattle.std.proofs.Common.{length, refl, sym, subst, ◌∙◌, arith, ◌≡◌, string_bytes}
use Rattle.std.specs.Prelude.{IsSomeAnd}
use Rattle.std.proofs.lemmas.Option.{slice_get_read}
use Rattle.std.proofs.lemmas.Slice.Eq.{bytes_eq-Decides}
use Rattle.tl_show.proofs.direct.field_from.Goals as goal

pub returns-then-eq : goal.returns-then-eq
returns-then-eq c =
    let f = c.index-fields-i.result in
    let there = slice_get_read c.args.fields.now (length c.args.fields.now) c.loop-i.i f refl (omega arith) c.index-fields-i.is in
    let same : c.args.key.now ≡ c.as_str.result.now = (bytes_eq-Decides c.args.key.now c.as_str.result.now).0 (sym c.eq.ensures ∙ c.if-eq.true) in
    let text : c.as_str.result.now ≡ string_bytes f.key = c.as_str.ensures.value ∙ rw (← c.index-fields-i.is) refl in
    subst (λ o. IsSomeAnd o (λ g. string_bytes g.key ≡ c.args.key.now)) (sym there) (sym (same ∙ text))
