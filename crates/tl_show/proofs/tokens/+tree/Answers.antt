use Rattle.std.proofs.Common.{◌≡◌, ◌-◌, ◌<◌, ◌∷◌, length, Some, None, option_map, string_bytes, refl, sym, ap, ◌∙◌, arith, rules}
use Rattle.json.specs.Token.{Token}
use Rattle.json.specs.Json.{parse_map, after_end_array, read_key, items, members, value}
use Rattle.json.specs.Reads.{token_of}
use Rattle.json.proofs.Grammar.{value_is, value-begin_array, value-begin_object, read_key-shorter}
use Rattle.serde_json.specs.Data.{null, boolean, string, array, object, put}
use Rattle.serde_json.specs.Read.{of_json, of_items, of_members, converted}
use Rattle.serde_json.specs.View.{view, members_view}
use Rattle.serde_json.specs.declared.value.Value.{String, Bool, Null, the_lemmas}
use Rattle.serde_json.proofs.Views.{view-Array, view-Object, members_view-insert_entry}
use Rattle.tl_show.proofs.JsonTurns.{converted-array, converted-object, item_read, items_over, member_read, members_over, items_before, items_before-no_items, one_more_item, none_before}
use Rattle.tl_show.proofs.tokens.+tree.Goals as goal

pub tree_of-returns-in_ok-from_str-in-String-clause-ok : goal.tree_of-returns-in_ok-from_str-in-String-clause-ok
tree_of-returns-in_ok-from_str-in-String-clause-ok t c =
    let first : c.args.reader.now ≡ token_of c.in_ok-token.token ∷ c.next.new.self = grind arith in
    let is : c.args.reader.now ≡ Token.string c.in-String.text.now ∷ c.next.new.self = grind (arith, first) in
    let seen : view (String c.in_ok-from_str-in-String.field-0) ≡ string c.in-String.text.now = search (rules, the_lemmas) in
    ap (converted of_json) (ap (value c.args.depth) is ∙ value_is c.args.depth _) ∙ ap (λ d. Some (d, c.next.new.self)) (sym seen)

pub tree_of-returns-in-Bool-clause-ok : goal.tree_of-returns-in-Bool-clause-ok
tree_of-returns-in-Bool-clause-ok t c =
    let first : c.args.reader.now ≡ token_of c.in_ok-token.token ∷ c.next.new.self = grind arith in
    let is : c.args.reader.now ≡ Token.boolean c.in-Bool.b ∷ c.next.new.self = grind (arith, first) in
    let seen : view (Bool c.in-Bool.b) ≡ boolean c.in-Bool.b = search (rules, the_lemmas) in
    ap (converted of_json) (ap (value c.args.depth) is ∙ value_is c.args.depth _) ∙ ap (λ d. Some (d, c.next.new.self)) (sym seen)

pub tree_of-returns-in-Null-clause-ok : goal.tree_of-returns-in-Null-clause-ok
tree_of-returns-in-Null-clause-ok t c =
    let first : c.args.reader.now ≡ token_of c.in_ok-token.token ∷ c.next.new.self = grind arith in
    let is : c.args.reader.now ≡ Token.null ∷ c.next.new.self = grind (arith, first) in
    let seen : view (Null) ≡ null = search (rules, the_lemmas) in
    ap (converted of_json) (ap (value c.args.depth) is ∙ value_is c.args.depth _) ∙ ap (λ d. Some (d, c.next.new.self)) (sym seen)

pub tree_of-returns-in-Some-clause-ok : goal.tree_of-returns-in-Some-clause-ok
tree_of-returns-in-Some-clause-ok t c =
    let first : c.args.reader.now ≡ token_of c.in_ok-token.token ∷ c.next.new.self = grind arith in
    let is : c.args.reader.now ≡ Token.number c.in-Number.text.now ∷ c.next.new.self = grind (arith, first) in
    ap (converted of_json) (ap (value c.args.depth) is ∙ value_is c.args.depth _) ∙ ap (option_map (λ d. (d, c.next.new.self))) c.in-Some.ensures

pub tree_of-returns-in_ok-items_of-in-BeginArray-clause-ok : goal.tree_of-returns-in_ok-items_of-in-BeginArray-clause-ok
tree_of-returns-in_ok-items_of-in-BeginArray-clause-ok t c =
    let first : c.args.reader.now ≡ token_of c.in_ok-token.token ∷ c.next.new.self = grind arith in
    let opened = ap (converted of_json) (ap (value c.args.depth) (first ∙ ap (λ k. token_of k ∷ c.next.new.self) c.in-BeginArray.is) ∙ value-begin_array c.args.depth c.next.new.self (omega arith)) ∙ converted-array (items (value (c.args.depth - 1)) (length c.next.new.self) c.next.new.self) in
    let found = c.in_ok-items_of-in-BeginArray in
    opened ∙ ap (parse_map array) found.ensures.ok ∙ ap (λ d. Some (d, c.items_of.new.reader)) (sym (view-Array found.field-0))

pub tree_of-returns-in_ok-members_of-in-BeginObject-clause-ok : goal.tree_of-returns-in_ok-members_of-in-BeginObject-clause-ok
tree_of-returns-in_ok-members_of-in-BeginObject-clause-ok t c =
    let first : c.args.reader.now ≡ token_of c.in_ok-token.token ∷ c.next.new.self = grind arith in
    let opened = ap (converted of_json) (ap (value c.args.depth) (first ∙ ap (λ k. token_of k ∷ c.next.new.self) c.in-BeginObject.is) ∙ value-begin_object c.args.depth c.next.new.self (omega arith)) ∙ converted-object (members (value (c.args.depth - 1)) (length c.next.new.self) c.next.new.self) in
    let found = c.in_ok-members_of-in-BeginObject in
    opened ∙ ap (parse_map object) found.ensures.ok ∙ ap (λ d. Some (d, c.members_of.new.reader)) (sym (view-Object found.field-0))

pub items_of-items-init : goal.items_of-items-init
items_of-items-init t c =
    let all = converted of_items (items (value c.args.depth) (length c.args.reader.now) c.args.reader.now) in
    (length c.args.reader.now, omega arith, none_before all ∙ ap (λ vs. parse_map (items_before vs) all) (sym c.new-found.ensures.items), omega arith)

pub items_of-items-preserved : goal.items_of-items-preserved
items_of-items-preserved t c =
    let p = value c.args.depth in
    let l = c.items in
    let n = l.invariant.0 in
    let going : (after_end_array l.reader ≡ None) × (c.take_end_array.new.self ≡ l.reader) = grind arith in
    let done = c.in_ok-item.ensures in
    let v = c.in_ok-item.item in
    let r = c.tree_of.new.reader in
    let less : length r < length l.reader = rw (← going.1) done.shorter in
    let turn = item_read p n l.reader r (view v) (omega (arith, l.invariant.1)) going.0 (rw (← going.1) done.ok) in (
      n - 1,
      omega (arith, l.invariant.1),
      l.invariant.2 ∙ ap (parse_map (items_before l.found.items)) turn ∙ one_more_item l.found.items v _
          ∙ ap (λ vs. parse_map (items_before vs) (converted of_items (items p (n - 1) r))) (sym c.in_ok-push.ensures.items),
      omega (arith, l.invariant.3),
    )

pub items_of-returns-clause-ok : goal.items_of-returns-clause-ok
items_of-returns-clause-ok t c =
    let p = value c.args.depth in
    let l = c.items in
    let n = l.invariant.0 in
    let r = c.take_end_array.new.self in
    l.invariant.2 ∙ ap (parse_map (items_before l.found.items)) (items_over p n l.reader r l.invariant.1 (grind arith)) ∙ ap (λ ds. Some (ds, r)) (items_before-no_items l.found.items)

pub members_of-returns-clause-ok : goal.members_of-returns-clause-ok
members_of-returns-clause-ok t c =
    let goes = c.in_ok-add_members.ensures.ok (length c.args.reader.now) (omega arith) in
    rw c.new-found.ensures.empty at goes

pub add_members-members-init : goal.add_members-members-init
add_members-members-init t c = record { goes = λ n enough. (n, enough, refl); shorter = omega arith }

pub add_members-members-preserved : goal.add_members-members-preserved
add_members-members-preserved t c =
    let p = value c.args.depth in
    let l = c.members in
    let old = members_view l.found.entries in
    let k = c.in-Some.name.now in
    let s = c.next_key.new.self in
    let named : read_key l.reader ≡ Some (Some k, s) = grind arith in
    let done = c.in_ok-add_member.ensures in
    let r = c.add_member.new.reader in
    let less = read_key-shorter l.reader (Some k) s named in
    let lesser = done.shorter in
    record {
      goes = λ n enough.
          let before = l.invariant.goes n enough in (
            before.0 - 1,
            omega (arith, before.1, less, lesser),
            before.2 ∙ member_read p old before.0 k l.reader s r done.ok.0 (omega (arith, before.1, less)) named done.ok.1
                ∙ ap (λ found. converted (λ ms. of_members ms found) (members p (before.0 - 1) r)) (sym done.ok.2),
          );
      shorter = omega (arith, l.invariant.shorter, less, lesser);
    }

pub add_members-returns-clause-ok : goal.add_members-returns-clause-ok
add_members-returns-clause-ok t c = λ n enough.
    let p = value c.args.depth in
    let l = c.members in
    let before = l.invariant.goes n enough in
    before.2 ∙ members_over p (members_view l.found.entries) before.0 l.reader c.next_key.new.self before.1 (grind arith)

pub add_member-returns-clause-ok : goal.add_member-returns-clause-ok
add_member-returns-clause-ok t c =
    let old = members_view c.args.found.now.entries in
    let v = c.in_ok-member.member in
    let copied : string_bytes c.in_ok-key.key ≡ c.args.name.now = search rules in
    (view v, c.in_ok-member.ensures.ok, ap members_view c.in_ok-insert.ensures.entries ∙ members_view-insert_entry c.args.found.now.entries c.in_ok-key.key v ∙ ap (λ name. put name (view v) old) copied)
