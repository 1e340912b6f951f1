use Rattle.std.proofs.Common.{sym, ap, ◌∙◌, ◌≡◌, List, ℕ, cond, Some, None}
use Rattle.box_events.specs.SettingLists.{same_key}
use Rattle.box_server.specs.inner.LastIndexes.{noted_in}
use Rattle.box_server.proofs.LastKeys.{placed}
use Rattle.box_server.proofs.KeyCounts.{notes_has, notes_index, notes_new, longer_by}
use Rattle.box_server.proofs.setting_list.SettingList.note_fresh.Goals as goal

pub returns-then-has : goal.returns-then-has
returns-then-has c = notes_has c.args.self.now c.args.fresh.now.entries c.as_slice.result.now c.args.key.now c.as_slice.ensures.value c.if-has.ensures

pub returns-then-contains_key : goal.returns-then-contains_key
returns-then-contains_key c = notes_index c.args.self.now c.args.fresh.now.entries c.as_slice-2.result.now c.args.key.now c.as_slice-2.ensures.value c.if-contains_key.ensures

pub returns : goal.returns
returns c =
    let key : List ℕ = c.into_vec.result.items in
    let is : key ≡ c.args.key.now = c.into_vec.ensures ∙ c.in_ok-copy.ensures in
    let e = c.in_ok-insert.ensures in
    notes_new c.args.self.now c.args.fresh.now.entries c.insert.new.self.entries c.as_slice.result.now c.as_slice-2.result.now c.args.key.now c.as_slice.ensures.value c.as_slice-2.ensures.value c.if-has.ensures c.if-contains_key.ensures
    (λ q. placed key q c.args.fresh.now c.insert.new.self (Some None) e.updates ∙ ap (λ (k : List ℕ). cond (same_key q k) (Some None) (noted_in c.args.fresh.now.entries q)) is)
    (longer_by c.args.fresh.now.entries c.insert.new.self.entries key c.as_slice-2.result.now c.in_ok-insert.field-0 (is ∙ sym c.as_slice-2.ensures.value) e.old c.if-contains_key.ensures e.len)
