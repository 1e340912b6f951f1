use Rattle.std.proofs.Common.{◌≡◌, ◌+◌, ◌++◌, ◌∷◌, [], ℕ, List, None, Ok, Err, map, take, drop, ap, sym, ◌∙◌, subst, get_or}
use Rattle.std.specs.List.{flat_map}
use Rattle.std.proofs.lemmas.List.{map_push}
use Rattle.std.proofs.lemmas.Result.{err_from_is_err_and}
use Rattle.tl_schema.specs.Types.{Shape}
use Rattle.tl_plan.specs.Reached.{fields_named}
use Rattle.tl_plan.specs.Plans.{member_of}
use Rattle.tl_plan.specs.Seen.{member_view}
use Rattle.tl_plan.specs.inner.Nodes.{types_at}
use Rattle.tl_plan.specs.inner.Walks.{Walks, find_all}
use Rattle.tl_plan.specs.declared.instances.Member.{Member}
use Rattle.tl_plan.specs.declared.instances.Instance.{Instance}
use Rattle.tl_plan.proofs.NodeTypes.{grows_below, grows_types}
use Rattle.tl_plan.proofs.ReadLists.{read_number, read_push, read_split}
use Rattle.tl_plan.proofs.WalkSteps.{MembersSoFar, member_fails, next_member}
use Rattle.tl_plan.proofs.walk.record.Goals as goal

pub member-requires-clause-below : goal.member-requires-clause-below
member-requires-clause-below c = grows_below c.args.table.now c.loop-entry.table c.args.args.now c.loop-entry.invariant.holds.grows c.requires.below

pub returns-in_err-member : goal.returns-in_err-member
returns-in_err-member c =
    let S = c.args.schema.now in
    let before = c.args.table.now in
    let first = c.args.queue.now in
    let at = c.loop-entry.entry-index in
    let is = c.args.of.entries.now in
    let i = get_or is at 0 in
    let Ts = c.loop-entry.table in
    let ns = c.loop-entry.queue in
    let Us = c.member.new.table in
    let ms = c.member.new.queue in
    let args = types_at before c.args.args.now in
    let e = c.in_err-member.field-0.0 in
    let same = grows_types before Ts c.args.args.now c.loop-entry.invariant.holds.grows c.requires.below in
    let one = subst (λ (As : List Shape). Walks (find_all (types_at Ts ns) (fields_named S As i)) Ts Us ms (Err e) (λ (m : Member). member_view m ≡ member_of S (types_at Us ms) As i)) same c.in_err-member.ensures in
    let p = err_from_is_err_and c.from_residual.result c.from_residual.ensures.1 in
    rw (p.1, p.2)
    (subst (λ (js : List ℕ). Walks (find_all (types_at before first) (flat_map (fields_named S args) js)) before Us ms (Err e) (λ (x : Instance). (x.form ≡ c.args.of.form) × (x.item ≡ None) × (map member_view x.members.items ≡ map (member_of S (types_at Us ms) args) is)))
    (sym (read_split is at i c.loop-entry-test.true (read_number is at c.loop-entry-test.true)))
    (member_fails S args before first (take at is) i Ts ns (map member_view c.loop-entry.members.items) c.loop-entry.invariant (drop (at + 1) is) Us Us ms ms e (λ (m : Member). member_view m ≡ member_of S (types_at Us ms) args i) (λ (x : Instance). (x.form ≡ c.args.of.form) × (x.item ≡ None) × (map member_view x.members.items ≡ map (member_of S (types_at Us ms) args) is)) one))

pub loop-entry-preserved : goal.loop-entry-preserved
loop-entry-preserved c =
    let S = c.args.schema.now in
    let before = c.args.table.now in
    let first = c.args.queue.now in
    let at = c.loop-entry.entry-index in
    let is = c.args.of.entries.now in
    let i = get_or is at 0 in
    let Ts = c.loop-entry.table in
    let ns = c.loop-entry.queue in
    let Us = c.member.new.table in
    let ms = c.member.new.queue in
    let args = types_at before c.args.args.now in
    let m = c.in_ok-member.field-0 in
    let same = grows_types before Ts c.args.args.now c.loop-entry.invariant.holds.grows c.requires.below in
    let one = subst (λ (As : List Shape). Walks (find_all (types_at Ts ns) (fields_named S As i)) Ts Us ms (Ok m) (λ (w : Member). member_view w ≡ member_of S (types_at Us ms) As i)) same c.in_ok-member.ensures in
    let views = ap (map member_view) c.in_ok-push.ensures.items ∙ map_push member_view c.loop-entry.members.items m in
    subst (λ (js : List ℕ). MembersSoFar S args before first js Us ms (map member_view c.push.new.self.items))
    (sym (read_push is at i c.loop-entry-test.true (read_number is at c.loop-entry-test.true)))
    (subst (MembersSoFar S args before first (take at is ++ i ∷ []) Us ms) (sym views)
    (next_member S args before first (take at is) i Ts ns (map member_view c.loop-entry.members.items) c.loop-entry.invariant Us ms (member_view m) (one.0, one.1, one.2, one.3)))
