use Rattle.std.proofs.Common.{ap, refl, sym, ◌∙◌, String, Global, string_bytes, string_cmp}
use Rattle.std.specs.BTreeMap.{BTreeMap, insert_entry}
use Rattle.tl_show.specs.inner.Forms.{members_at, put_part}
use Rattle.tl_show.specs.inner.FormViews.{entry_views, part_view}
use Rattle.tl_show.specs.declared.form.KeyParts.{KeyParts}
use Rattle.tl_show.proofs.KeyOrder.{added, inserted, one_part}
use Rattle.tl_show.proofs.LastParts.{parts_push}
use Rattle.tl_show.proofs.forms.add_part.Goals as goal

pub returns-in_ok-push-in-Some : goal.returns-in_ok-push-in-Some
returns-in_ok-push-in-Some c = λ n args at.
    let was = c.in-Some.there.now in
    let now : KeyParts = record { first = was.first; later = c.push.new.self } in
    ap (λ es. members_at n args at (entry_views es)) (c.get_mut.follows.holds now).0
    ∙ added n args at c.args.name (part_view c.args.part) was now (parts_push n args at was now c.args.part refl c.in_ok-push-in-Some.ensures.items) c.args.parts.now.entries
    c.get_mut.ensures.ordered (sym c.in-Some.ensures.value)

pub returns-in_ok-insert-in-None : goal.returns-in_ok-insert-in-None
returns-in_ok-insert-in-None c = λ n args at.
    let first : KeyParts = record { first = c.args.part; later = c.new.result } in
    let stay = ap (λ (m : BTreeMap (String Global) KeyParts). insert_entry string_cmp m.entries c.args.name first) c.get_mut.follows.holds-at-none in
    ap (λ es. members_at n args at (entry_views es)) (c.in_ok-insert-in-None.ensures.entries ∙ stay)
    ∙ inserted n args at c.args.name first c.args.parts.now.entries c.get_mut.ensures.ordered (sym c.in-None.ensures.value)
    ∙ ap (λ o. put_part (string_bytes c.args.name) o (members_at n args at (entry_views c.args.parts.now.entries))) (one_part n args at first c.new.ensures.items)
