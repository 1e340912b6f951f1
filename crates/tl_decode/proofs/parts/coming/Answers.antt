use Rattle.std.proofs.Common.{◌≡◌, ℕ, ◌<◌, List, length, map, slice_get, Some, refl, ap, sym, ◌∙◌, subst, arith, true, false}
use Rattle.std.specs.Option.{option_map}
use Rattle.std.proofs.lemmas.List.{length-map}
use Rattle.std.proofs.lemmas.Option.{slice_get-map, slice_get_within, slice_get_read, same_Some}
use Rattle.tl_schema.specs.Schemas.{Declaration, Declared}
use Rattle.tl_schema.specs.Closing.{closed}
use Rattle.tl_schema.specs.Seen.{declaration, slot}
use Rattle.tl_plan.specs.Types.{arguments_of}
use Rattle.tl_plan.specs.PlanLaws.{IsInstance}
use Rattle.tl_types.specs.Conditions.{stands_by}
use Rattle.tl_types.specs.Seen.{view}
use Rattle.tl_types.specs.declared.value.Value.{Value}
use Rattle.tl_decode.specs.inner.Frames.{type_in}
use Rattle.tl_decode.proofs.PartSteps.{record_closes, field_absent, field_opens}
use Rattle.tl_decode.proofs.PlanTypes.{shown_count, is_here}
use Rattle.tl_decode.proofs.parts.coming.Goals as goal

pub index-here-requires : goal.index-here-requires
index-here-requires c =
    let i = c.instance-instance in
    let count = shown_count c.args.plan.now c.args.of i.result.now i.ensures.shows in
    omega (arith, count, c.requires.1, i.result.now.members.ok.0)

pub returns-then-k-len : goal.returns-then-k-len
returns-then-k-len c =
    let p = c.args.plan.now in
    let i = c.instance-instance in
    let here = c.index-here.result.now in
    let count = shown_count p c.args.of i.result.now i.ensures.shows in
    let own = is_here p i.ensures.sound c.args.of i.result.now c.args.member here i.ensures.shows (omega (arith, count, c.requires.1)) c.index-here.ensures in
    λ fs well v seen. record_closes p fs well c.args.of c.args.member here own c.args.fields.now v (omega (arith, c.len.ensures, c.len-k.ensures, c.if-k-len.true, here.fields.ok.0, c.args.fields.now.ok.0)) seen

pub entry-requires : goal.entry-requires
entry-requires c =
    let p = c.args.plan.now in
    let i = c.instance-instance in
    let here = c.index-here.result.now in
    let count = shown_count p c.args.of i.result.now i.ensures.shows in
    let own = is_here p i.ensures.sound c.args.of i.result.now c.args.member here i.ensures.shows (omega (arith, count, c.requires.1)) c.index-here.ensures in
    rw c.schema.ensures (slice_get_within p.schema.decls here.entry own.d own.there)

pub index-slot-requires : goal.index-slot-requires
index-slot-requires c =
    let p = c.args.plan.now in
    let i = c.instance-instance in
    let here = c.index-here.result.now in
    let count = shown_count p c.args.of i.result.now i.ensures.shows in
    let own = is_here p i.ensures.sound c.args.of i.result.now c.args.member here i.ensures.shows (omega (arith, count, c.requires.1)) c.index-here.ensures in
    let d : own.d ≡ declaration c.entry.result.now = same_Some own.d (declaration c.entry.result.now) (sym own.there ∙ ap (λ (S : Declared). slice_get S.decls here.entry) (sym c.schema.ensures) ∙ c.entry.ensures) in
    let long : length here.fields.items ≡ length c.entry.result.now.fields.items = own.count ∙ ap (λ (x : Declaration). length x.fields) d ∙ length-map c.entry.result.now.fields.items slot in
    omega (arith, long, c.len.ensures, c.if-k-len.false, here.fields.ok.0, c.entry.result.now.fields.ok.0)

pub returns-then-not-stands : goal.returns-then-not-stands
returns-then-not-stands c =
    let p = c.args.plan.now in
    let i = c.instance-instance in
    let here = c.index-here.result.now in
    let count = shown_count p c.args.of i.result.now i.ensures.shows in
    let own = is_here p i.ensures.sound c.args.of i.result.now c.args.member here i.ensures.shows (omega (arith, count, c.requires.1)) c.index-here.ensures in
    let d : own.d ≡ declaration c.entry.result.now = same_Some own.d (declaration c.entry.result.now) (sym own.there ∙ ap (λ (S : Declared). slice_get S.decls here.entry) (sym c.schema.ensures) ∙ c.entry.ensures) in
    let long : length here.fields.items ≡ length c.entry.result.now.fields.items = own.count ∙ ap (λ (x : Declaration). length x.fields) d ∙ length-map c.entry.result.now.fields.items slot in
    let k : c.len-k.result ≡ length c.args.fields.now.items = omega (arith, c.len-k.ensures, c.args.fields.now.ok.0) in
    let lt : c.len-k.result < length here.fields.items = omega (arith, c.len.ensures, c.if-k-len.false, here.fields.ok.0) in
    let at : slice_get own.d.fields (length c.args.fields.now.items) ≡ Some (slot c.index-slot.result.now) =
    ap (λ (x : Declaration). slice_get x.fields (length c.args.fields.now.items)) d ∙ ap (slice_get (map slot c.entry.result.now.fields.items)) (sym k) ∙ slice_get-map slot c.entry.result.now.fields.items c.len-k.result
    ∙ ap (option_map slot) (slice_get_read c.entry.result.now.fields.items (length c.entry.result.now.fields.items) c.len-k.result c.index-slot.result.now refl (omega (arith, lt, long)) c.index-slot.ensures) in
    let off : stands_by (slot c.index-slot.result.now).cond (map view c.args.fields.now.items) ≡ false = ap (λ (xs : List Value). stands_by (slot c.index-slot.result.now).cond (map view xs)) (sym c.deref.ensures.value) ∙ sym c.stands.ensures ∙ c.if-not-stands.true in
    λ fs well v seen all more. field_absent p fs well c.args.of c.args.member here own c.args.fields.now (slot c.index-slot.result.now) at v all off seen more c.requires

pub returns : goal.returns
returns c =
    let p = c.args.plan.now in
    let i = c.instance-instance in
    let here = c.index-here.result.now in
    let count = shown_count p c.args.of i.result.now i.ensures.shows in
    let own = is_here p i.ensures.sound c.args.of i.result.now c.args.member here i.ensures.shows (omega (arith, count, c.requires.1)) c.index-here.ensures in
    let d : own.d ≡ declaration c.entry.result.now = same_Some own.d (declaration c.entry.result.now) (sym own.there ∙ ap (λ (S : Declared). slice_get S.decls here.entry) (sym c.schema.ensures) ∙ c.entry.ensures) in
    let long : length here.fields.items ≡ length c.entry.result.now.fields.items = own.count ∙ ap (λ (x : Declaration). length x.fields) d ∙ length-map c.entry.result.now.fields.items slot in
    let k : c.len-k.result ≡ length c.args.fields.now.items = omega (arith, c.len-k.ensures, c.args.fields.now.ok.0) in
    let lt : c.len-k.result < length here.fields.items = omega (arith, c.len.ensures, c.if-k-len.false, here.fields.ok.0) in
    let at : slice_get own.d.fields (length c.args.fields.now.items) ≡ Some (slot c.index-slot.result.now) =
    ap (λ (x : Declaration). slice_get x.fields (length c.args.fields.now.items)) d ∙ ap (slice_get (map slot c.entry.result.now.fields.items)) (sym k) ∙ slice_get-map slot c.entry.result.now.fields.items c.len-k.result
    ∙ ap (option_map slot) (slice_get_read c.entry.result.now.fields.items (length c.entry.result.now.fields.items) c.len-k.result c.index-slot.result.now refl (omega (arith, lt, long)) c.index-slot.ensures) in
    let on : stands_by (slot c.index-slot.result.now).cond (map view c.args.fields.now.items) ≡ true = ap (λ (xs : List Value). stands_by (slot c.index-slot.result.now).cond (map view xs)) (sym c.deref.ensures.value) ∙ sym c.stands.ensures ∙ c.if-not-stands.false in
    let h = own.fields (length c.args.fields.now.items) (slot c.index-slot.result.now) at in
    let same : h.0 ≡ c.index.result.now =
    same_Some h.0 c.index.result.now (sym h.1 ∙ ap (slice_get here.fields.items) (sym k) ∙ slice_get_read here.fields.items (length here.fields.items) c.len-k.result c.index.result.now refl lt c.index.ensures) in
    let is = subst (λ (n : ℕ). IsInstance p n (closed (arguments_of (type_in p c.args.of)) (slot c.index-slot.result.now).of)) same h.2 in
    λ fs well. field_opens p fs well c.args.of c.args.member here own c.args.fields.now (slot c.index-slot.result.now) at c.index.result.now _ on is refl c.requires
