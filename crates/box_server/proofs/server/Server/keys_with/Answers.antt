use Rattle.std.proofs.Common.{ap, sym, ◌∙◌, ◌≡◌, ◌++◌, map, inr}
use Rattle.box_server.specs.Entries.{entries_of}
use Rattle.box_server.specs.LastEntries.{keys_in}
use Rattle.box_server.specs.Posting.{applied_all, settings_of, dated_with}
use Rattle.box_server.specs.Servers.{ServerState}
use Rattle.box_server.specs.inner.Insides.{channel_view}
use Rattle.box_server.proofs.Growths.{settings_after}
use Rattle.box_server.proofs.Taken.{no_more, more_keys}
use Rattle.box_server.proofs.server.Server.keys_with.Goals as goal

pub returns-then-keys-gt-MAX_KEYS : goal.returns-then-keys-gt-MAX_KEYS
returns-then-keys-gt-MAX_KEYS c =
    let s : ServerState = c.args.self.now in
    let t : ServerState = applied_all s (entries_of c.args.posts.now) in
    let channels : s.channels ≡ map channel_view c.deref.result.now = sym (ap (λ (u : ServerState). u.channels) c.self.view_is) ∙ ap (map channel_view) (sym c.deref.ensures.value) in
    let keys : c.in_ok-keys.keys ≡ keys_in t.settings = c.in_ok-keys.ensures s.date ∙ ap keys_in (ap (λ (u : ServerState). u.settings ++ map (dated_with s.date) (settings_of (entries_of c.args.posts.now))) c.self.view_is ∙ sym (settings_after s (entries_of c.args.posts.now))) in
    inr (more_keys s t c.in_ok-keys.keys c.in_ok-opens_too_many.field-0 c.if-branch.false (c.in_ok-opens_too_many.ensures s channels) keys c.if-keys-gt-MAX_KEYS.true)

pub returns : goal.returns
returns c =
    let s : ServerState = c.args.self.now in
    let t : ServerState = applied_all s (entries_of c.args.posts.now) in
    let channels : s.channels ≡ map channel_view c.deref.result.now = sym (ap (λ (u : ServerState). u.channels) c.self.view_is) ∙ ap (map channel_view) (sym c.deref.ensures.value) in
    let keys : c.in_ok-keys.keys ≡ keys_in t.settings = c.in_ok-keys.ensures s.date ∙ ap keys_in (ap (λ (u : ServerState). u.settings ++ map (dated_with s.date) (settings_of (entries_of c.args.posts.now))) c.self.view_is ∙ sym (settings_after s (entries_of c.args.posts.now))) in
    (no_more s t c.in_ok-keys.keys c.in_ok-opens_too_many.field-0 c.if-branch.false (c.in_ok-opens_too_many.ensures s channels) keys c.if-keys-gt-MAX_KEYS.false, keys)
