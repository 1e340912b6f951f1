use Rattle.std.proofs.Common.{ap, ap₂, sym, refl, ◌∙◌, ◌&&◌, Bool, rules, w32}
use Rattle.std.proofs.lemmas.Int.{to_z-of_z}
use Rattle.std.proofs.lemmas.Result.{IfOk-weaker}
use Rattle.box_server.specs.Servers.{ServerState}
use Rattle.box_server.specs.LastEntries.{changed_since}
use Rattle.box_server.proofs.Replying.{HasBoxes, no_news, no_secrets, slice_reply, empty_reply, last_reply}
use Rattle.box_server.proofs.server.Server.difference.Goals as goal

pub returns-in_default-2 : goal.returns-in_default-2
returns-in_default-2 c =
    let has : HasBoxes c.args.self.now c.self.inside.common c.self.inside.secret = record {
      first = c.self.invariant.common;
      events = ap (λ (s : ServerState). s.common) c.self.view_is;
      secret_first = c.self.invariant.secret;
      secrets = ap (λ (s : ServerState). s.secret) c.self.view_is;
    } in
    IfOk-weaker c.refusal-in_default-2.result _ _ (λ r refuses. no_news c.args.self.now c.self.inside.common c.self.inside.secret c.args.pts c.args.qts c.in-Some-Some.pts c.in-Some-Some.qts c.args.date r has
    (sym (to_z-of_z w32 c.args.pts (search rules)) ∙ c.in-Some-Some.ensures) (sym (to_z-of_z w32 c.args.qts (search rules)) ∙ c.in-Some-Some.ensures') (rw c.in_default-2.is at c.in_ok-news.ensures) refuses) c.refusal-in_default-2.ensures

pub returns-in_default-3 : goal.returns-in_default-3
returns-in_default-3 c =
    let has : HasBoxes c.args.self.now c.self.inside.common c.self.inside.secret = record {
      first = c.self.invariant.common;
      events = ap (λ (s : ServerState). s.common) c.self.view_is;
      secret_first = c.self.invariant.secret;
      secrets = ap (λ (s : ServerState). s.secret) c.self.view_is;
    } in
    let news = rw c.in-Some.is at c.in_ok-news.ensures in
    IfOk-weaker c.refusal-in_default-3.result _ _ (λ r refuses. no_secrets c.args.self.now c.self.inside.common c.self.inside.secret c.args.pts c.args.qts c.in-Some-Some.pts c.in-Some-Some.qts c.args.date news.0.events r has
    (sym (to_z-of_z w32 c.args.pts (search rules)) ∙ c.in-Some-Some.ensures) (sym (to_z-of_z w32 c.args.qts (search rules)) ∙ c.in-Some-Some.ensures') news.0.after (rw c.in_default-3.is at c.in_ok-secrets.ensures) refuses) c.refusal-in_default-3.ensures

pub returns-then-not-are_whole : goal.returns-then-not-are_whole
returns-then-not-are_whole c =
    let news = rw c.in-Some.is at c.in_ok-news.ensures in
    let secrets = rw c.in-Some-2.is at c.in_ok-secrets.ensures in
    slice_reply c.args.self.now c.self.inside.common c.self.inside.secret c.args.pts c.args.qts c.in-Some-Some.pts c.in-Some-Some.qts c.args.date c.in-Some.news.end c.in-Some-2.secrets.end c.in-Some.news.parts c.in-Some-2.secrets.parts
    (record { has = record { first = c.self.invariant.common; events = ap (λ (s : ServerState). s.common) c.self.view_is; secret_first = c.self.invariant.secret; secrets = ap (λ (s : ServerState). s.secret) c.self.view_is }; news_are = news.0; secrets_are = secrets.0 })
    _ c.state.result _ c.difference.result (sym (to_z-of_z w32 c.args.pts (search rules)) ∙ c.in-Some-Some.ensures) (sym (to_z-of_z w32 c.args.qts (search rules)) ∙ c.in-Some-Some.ensures')
    (sym c.if-not-are_whole.true ∙ c.are_whole.ensures ∙ ap₂ (λ (x y : Bool). x && y) news.1 secrets.1) c.new.ensures c.state.ensures.value refl c.difference.ensures

pub returns-then-is_at : goal.returns-then-is_at
returns-then-is_at c =
    let news = rw c.in-Some.is at c.in_ok-news.ensures in
    let secrets = rw c.in-Some-2.is at c.in_ok-secrets.ensures in
    empty_reply c.args.self.now c.self.inside.common c.self.inside.secret c.args.pts c.args.qts c.in-Some-Some.pts c.in-Some-Some.qts c.args.date c.in-Some.news.end c.in-Some-2.secrets.end c.in-Some.news.parts c.in-Some-2.secrets.parts
    (record { has = record { first = c.self.invariant.common; events = ap (λ (s : ServerState). s.common) c.self.view_is; secret_first = c.self.invariant.secret; secrets = ap (λ (s : ServerState). s.secret) c.self.view_is }; news_are = news.0; secrets_are = secrets.0 })
    c.in_ok-settings.settings c.state.result _ (sym (to_z-of_z w32 c.args.pts (search rules)) ∙ c.in-Some-Some.ensures) (sym (to_z-of_z w32 c.args.qts (search rules)) ∙ c.in-Some-Some.ensures')
    (sym c.if-not-are_whole.false ∙ c.are_whole.ensures ∙ ap₂ (λ (x y : Bool). x && y) news.1 secrets.1) (c.in_ok-settings.ensures ∙ ap (λ (s : ServerState). changed_since s.settings c.args.date) c.self.view_is) c.state.ensures.value refl (sym c.if-is_at.true ∙ c.is_at.ensures)

pub returns : goal.returns
returns c =
    let news = rw c.in-Some.is at c.in_ok-news.ensures in
    let secrets = rw c.in-Some-2.is at c.in_ok-secrets.ensures in
    last_reply c.args.self.now c.self.inside.common c.self.inside.secret c.args.pts c.args.qts c.in-Some-Some.pts c.in-Some-Some.qts c.args.date c.in-Some.news.end c.in-Some-2.secrets.end c.in-Some.news.parts c.in-Some-2.secrets.parts
    (record { has = record { first = c.self.invariant.common; events = ap (λ (s : ServerState). s.common) c.self.view_is; secret_first = c.self.invariant.secret; secrets = ap (λ (s : ServerState). s.secret) c.self.view_is }; news_are = news.0; secrets_are = secrets.0 })
    c.in_ok-settings.settings c.state.result _ c.difference-2.result (sym (to_z-of_z w32 c.args.pts (search rules)) ∙ c.in-Some-Some.ensures) (sym (to_z-of_z w32 c.args.qts (search rules)) ∙ c.in-Some-Some.ensures')
    (sym c.if-not-are_whole.false ∙ c.are_whole.ensures ∙ ap₂ (λ (x y : Bool). x && y) news.1 secrets.1) (c.in_ok-settings.ensures ∙ ap (λ (s : ServerState). changed_since s.settings c.args.date) c.self.view_is) c.state.ensures.value refl (sym c.if-is_at.false ∙ c.is_at.ensures) c.difference-2.ensures
