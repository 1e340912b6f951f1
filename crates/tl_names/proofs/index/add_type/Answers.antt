use Rattle.std.proofs.Common.{◌≡◌, ◌∙◌, ap, length, refl, slice_get, Some, subst, sym, arith}
use Rattle.std.proofs.lemmas.Option.{slice_get_read}
use Rattle.tl_names.specs.NameIndexes.{Notes}
use Rattle.tl_names.specs.inner.Indexed.{one_more}
use Rattle.tl_names.proofs.ChangedTypes.{changes_known, changes_new}
use Rattle.tl_names.proofs.index.add_type.Goals as goal

pub returns-in-Some : goal.returns-in-Some
returns-in-Some c =
    let there = sym c.get.ensures ∙ c.in-Some.is in
    let families = c.args.families.now.items in
    let within = c.requires.numbered.within c.args.name.now c.in-Some.number there in
    let known : slice_get families c.in-Some.number ≡ Some c.index-known.result.now = slice_get_read families (length families) c.in-Some.number c.index-known.result.now refl within c.index-known.ensures in
    changes_known c.args.types.now families c.args.name.now (one_more c.args.at c.args.vars) c.requires.numbered c.in-Some.number c.one_more.result there (c.one_more.ensures ∙ ap (one_more c.args.at c.args.vars) (sym known))

pub returns-in_ok-push-in-None : goal.returns-in_ok-push-in-None
returns-in_ok-push-in-None c =
    let families = c.args.families.now.items in
    let next : c.len.result ≡ length families = omega (arith, c.len.ensures, c.args.families.now.ok.0) in
    rw (c.in_ok-push-in-None.ensures.items)
    (changes_new c.args.types.now families c.args.name.now (one_more c.args.at c.args.vars) c.requires.numbered c.note.new.self c.one_more-in-None.result (sym c.get.ensures ∙ c.in-None.is) (subst (Notes c.args.types.now c.note.new.self c.args.name.now) next c.in_ok-note-in-None.ensures.noted) c.one_more-in-None.ensures)
