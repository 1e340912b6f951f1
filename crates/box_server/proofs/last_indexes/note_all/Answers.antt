use Rattle.std.proofs.Common.{arith, ap, sym, List, ◌∙◌, ◌≡◌, ℕ, cond, Some, length}
use Rattle.std.proofs.lemmas.List.{nil_from_length}
use Rattle.box_events.specs.SettingLists.{same_key}
use Rattle.box_server.specs.inner.LastIndexes.{noted_in}
use Rattle.box_server.proofs.LastKeys.{noting_one, noting_has, noting_all}
use Rattle.box_server.proofs.last_indexes.note_all.Goals as goal

pub note-requires : goal.note-requires
note-requires c =
    rw (c.as_slice.ensures.value, c.setting.ensures) ((noting_has c.args.settings.now.items c.args.more.items c.loop-dated.settings.items c.loop-dated.last.entries c.in-Some.dated c.next.new.self.rest.items c.loop-dated.dated-iterator.rest.items c.in-Some.ensures.steps.0 c.loop-dated.invariant.0).0)

pub overflow_cast-len : goal.overflow_cast-len
overflow_cast-len c =
    let few = (noting_has c.args.settings.now.items c.args.more.items c.loop-dated.settings.items c.loop-dated.last.entries c.in-Some.dated c.next.new.self.rest.items c.loop-dated.dated-iterator.rest.items c.in-Some.ensures.steps.0 c.loop-dated.invariant.0).1 in
    omega (arith, few, c.len.ensures, c.loop-dated.settings.ok.0)

pub loop-dated-preserved : goal.loop-dated-preserved
loop-dated-preserved c =
    let key : c.as_slice.result.now ≡ c.in-Some.dated.setting.key = c.as_slice.ensures.value ∙ ap (λ s. s.key) c.setting.ensures in
    let index : c.len.result ≡ length c.loop-dated.settings.items = c.len.ensures ∙ c.loop-dated.settings.ok.0 in
    let is : (q : List ℕ) → noted_in c.note.new.last.entries q ≡ cond (same_key q c.in-Some.dated.setting.key) (Some (Some (length c.loop-dated.settings.items))) (noted_in c.loop-dated.last.entries q) = λ q.
    c.note.ensures q ∙ (λ i. cond (same_key q (key i)) (Some (Some (index i))) (noted_in c.loop-dated.last.entries q)) in (
      rw c.push_reserved.ensures.items (noting_one c.args.settings.now.items c.args.more.items c.loop-dated.settings.items c.loop-dated.last.entries c.note.new.last.entries c.in-Some.dated c.next.new.self.rest.items c.loop-dated.dated-iterator.rest.items c.in-Some.ensures.steps.0 is c.loop-dated.invariant.0),
      let room = c.loop-dated.invariant.1 in omega (arith, room, c.in-Some.ensures.steps.1, c.push_reserved.ensures.len, c.push_reserved.ensures.capacity),
    )

pub returns-clause-items : goal.returns-clause-items
returns-clause-items c =
    noting_all c.args.settings.now.items c.args.more.items c.loop-dated.settings.items c.loop-dated.last.entries c.loop-dated.dated-iterator.rest.items
    (nil_from_length c.loop-dated.dated-iterator.rest.items (sym c.loop-dated.dated-iterator.rest.ok.0 ∙ c.in-None.ensures.steps.0)) c.loop-dated.invariant.0

pub returns-clause-shows : goal.returns-clause-shows
returns-clause-shows c = c.loop-dated.invariant.0.shows

pub returns-clause-within : goal.returns-clause-within
returns-clause-within c = c.loop-dated.invariant.0.within
