use Rattle.std.proofs.Common.{◌∙◌, [], refl, rules, subst, take, ltb, Ok}
use Rattle.std.proofs.lemmas.Result.{err_from_is_err_and}
use Rattle.tl_base.proofs.Uses.{used_as, used_none, used_then}
use Rattle.tl_decode.specs.declared.stack.Fed.{Fed}
use Rattle.tl_decode.specs.Decoders.{Feeds}
use Rattle.tl_decode.proofs.FedWhole.{all_used, fault_unread, fed_end, first_done, first_fault, first_goes, next_done, next_fault, next_more, piece_moved, some_left}
use Rattle.tl_decode.proofs.whole.feed_all.Goals as goal

pub returns-in_err-feed-clause-whole : goal.returns-in_err-feed-clause-whole
returns-in_err-feed-clause-whole g c = λ T is formed.
    let old = c.args.decoder.now in
    let p = err_from_is_err_and c.from_residual.result c.from_residual.ensures.1 in
    rw (p.1, p.2) (first_fault old c.feed.new.self c.requires.sound T is formed _ c.in_err-feed.field-0.0 (g.met.S.Source.are_bytes c.args.from.now) c.requires.first c.in_err-feed.ensures)

pub returns-in_err-feed-clause-used : goal.returns-in_err-feed-clause-used
returns-in_err-feed-clause-used g c =
    let p = err_from_is_err_and c.from_residual.result c.from_residual.ensures.1 in
    rw (p.1, p.2) (used_none _ _ (fault_unread _ c.in_err-feed.field-0.0 c.in_err-feed.ensures.unread))

pub returns-in-Done-clause-whole : goal.returns-in-Done-clause-whole
returns-in-Done-clause-whole g c = λ T is formed.
    let old = c.args.decoder.now in
    first_done old c.feed.new.self c.requires.sound T is formed _ c.in-Done.used c.after_value.result (g.met.S.Source.are_bytes c.args.from.now) c.requires.first (subst (λ (r : Fed). Feeds old c.feed.new.self [] (Ok r)) c.in-Done.is c.in_ok-feed.ensures) c.after_value.ensures.end

pub pieces-init : goal.pieces-init
pieces-init g c = record {
  plan = c.in_ok-feed.ensures.plan;
  root = c.in_ok-feed.ensures.root;
  width = refl;
  fed = λ T is formed. first_goes c.args.decoder.now c.feed.new.self c.requires.sound T is formed _ c.in_ok-feed.field-0 (g.met.S.Source.are_bytes c.args.from.now) c.requires.first c.in_default.not-Done c.in_ok-feed.ensures;
  used = used_none _ ⊥ (λ f. f);
}

pub returns-then-size-eq0-clause-whole : goal.returns-then-size-eq0-clause-whole
returns-then-size-eq0-clause-whole g c = λ T is formed.
    let i = c.pieces.invariant in
    fed_end c.args.decoder.now.plan.schema T _ _ _ c.pieces.decoder c.pieces.at c.in_ok-size.size c.ended.result c.read.new.into (i.fed T is formed) (search rules) c.if-size-eq0.true c.in_ok-size.ensures.bytes c.ended.ensures.at

pub returns-in_err-feed-2-clause-whole : goal.returns-in_err-feed-2-clause-whole
returns-in_err-feed-2-clause-whole g c = λ T is formed.
    let i = c.pieces.invariant in
    let old = c.args.decoder.now in
    let p = err_from_is_err_and c.from_residual-in_err-feed-2.result c.from_residual-in_err-feed-2.ensures.1 in
    rw (p.1, p.2)
    (next_fault old.plan old.root c.requires.sound T is formed c.pieces.decoder c.feed-in-pieces.new.self i.plan i.root _ _ _ c.in_ok-size.size c.pieces.at c.read.new.into _ (g.met.S.Source.are_bytes c.args.from.now) refl c.in_ok-size.ensures.bytes (i.fed T is formed) c.in_err-feed-2.field-0.0 c.in_err-feed-2.ensures)

pub returns-in_err-feed-2-clause-used : goal.returns-in_err-feed-2-clause-used
returns-in_err-feed-2-clause-used g c =
    let p = err_from_is_err_and c.from_residual-in_err-feed-2.result c.from_residual-in_err-feed-2.ensures.1 in
    rw (p.1, p.2)
    (used_as _ _ ⊥ _ (used_then _ _ _ ⊥ ⊥ c.pieces.invariant.used (search rules)) (fault_unread _ c.in_err-feed-2.field-0.0 c.in_err-feed-2.ensures.unread))

pub pieces-preserved : goal.pieces-preserved
pieces-preserved g c =
    let i = c.pieces.invariant in
    let old = c.args.decoder.now in
    record {
      plan = c.in_ok-feed-2.ensures.plan ∙ i.plan;
      root = c.in_ok-feed-2.ensures.root ∙ i.root;
      width = search rules;
      fed = λ T is formed.
          next_more old.plan old.root c.requires.sound T is formed c.pieces.decoder c.feed-in-pieces.new.self i.plan i.root _ _ _ c.in_ok-size.size c.pieces.at c.read.new.into _ (g.met.S.Source.are_bytes c.args.from.now) refl c.in_ok-size.ensures.bytes (i.fed T is formed) c.saturating_add-at.result
          (subst (λ (r : Fed). Feeds c.pieces.decoder c.feed-in-pieces.new.self (take c.in_ok-size.size c.read.new.into) (Ok r)) c.in-More.is c.in_ok-feed-2.ensures) (piece_moved c.pieces.at c.in_ok-size.size c.saturating_add-at.result _ c.in_ok-size.ensures.bound.1 c.saturating_add-at.ensures);
      used = search rules;
    }

pub returns-in-Done-2-clause-whole : goal.returns-in-Done-2-clause-whole
returns-in-Done-2-clause-whole g c = λ T is formed.
    let i = c.pieces.invariant in
    let old = c.args.decoder.now in
    let same = c.in_ok-size.ensures.bound.1 in
    next_done old.plan old.root c.requires.sound T is formed c.pieces.decoder c.feed-in-pieces.new.self i.plan i.root _ _ _ c.in_ok-size.size c.pieces.at c.read.new.into _ (g.met.S.Source.are_bytes c.args.from.now) refl c.in_ok-size.ensures.bytes (i.fed T is formed) c.in-Done-2.used c.saturating_add.result (ltb c.in-Done-2.used c.in_ok-size.size) c.after_value-in-Done-2.result
    (subst (λ (r : Fed). Feeds c.pieces.decoder c.feed-in-pieces.new.self (take c.in_ok-size.size c.read.new.into) (Ok r)) c.in-Done-2.is c.in_ok-feed-2.ensures)
    c.saturating_add.ensures (all_used c.in-Done-2.used c.in_ok-size.size _ same) (some_left c.in-Done-2.used c.in_ok-size.size _ same) c.after_value-in-Done-2.ensures.end
