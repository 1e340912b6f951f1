use Rattle.std.proofs.Common.{List, refl, ap, ◌∙◌, rules, arith, ◌-◌, ◌++◌, [], ◌∷◌}
use Rattle.tl_lexer.proofs.Steps.{then_ok, then_err, gives_ok, yes, no, as_err}
use Rattle.tl_combinators.specs.Types.{in_parens, after_percent, application, applied, bare, terms, one_listed, listed}
use Rattle.tl_combinators.proofs.Levels.{core_as, after_as, core_none, core_bare, core_application, not_true}
use Rattle.tl_program.proofs.TreeViews.{view-Named, view-plain, view-Percent, views_push}
use Rattle.tl_combinators.proofs.Arguments.{term_ok, term_err, listed_one, listed_more, listed_ok, listed_err}
use Rattle.tl_lexer.proofs.Turns.{came_none, came_more, loop_ok, loop_err}
use Rattle.tl_program.specs.declared.tree.TypeTree.{TypeTree}
use Rattle.tl_program.specs.Trees.{views, view, Tree}
use Rattle.tl_combinators.proofs.types.+types.Goals as goal

pub type_at-returns-in_err-count-clause-read : goal.type_at-returns-in_err-count-clause-read
unfolding in_parens
type_at-returns-in_err-count-clause-read t c = as_err c.from_residual.ensures.1 (then_err _ c.in_err-count.ensures.read)

pub type_at-returns-in_err-tree-clause-read : goal.type_at-returns-in_err-tree-clause-read
unfolding in_parens
type_at-returns-in_err-tree-clause-read t c = as_err c.from_residual-in_err-tree.ensures.1 (then_ok _ c.in_ok-count.ensures.read (then_err _ (core_as _ _ c.may_head.ensures c.in_err-tree.ensures.read)))

pub type_at-returns-in_err-closes_at-clause-read : goal.type_at-returns-in_err-closes_at-clause-read
unfolding in_parens
type_at-returns-in_err-closes_at-clause-read t c = as_err c.from_residual-in_err-closes_at.ensures.1 (then_ok _ c.in_ok-count.ensures.read (then_ok _ (core_as _ _ c.may_head.ensures c.in_ok-tree.ensures.read) (then_err _ c.in_err-closes_at.ensures.read)))

pub type_at-returns-clause-read : goal.type_at-returns-clause-read
unfolding in_parens
type_at-returns-clause-read t c = then_ok _ c.in_ok-count.ensures.read (then_ok _ (core_as _ _ c.may_head.ensures c.in_ok-tree.ensures.read) (then_ok _ c.in_ok-closes_at.ensures.read (gives_ok refl)))

pub core_at-returns-then-levels-eq0-clause-read : goal.core_at-returns-then-levels-eq0-clause-read
core_at-returns-then-levels-eq0-clause-read t c = core_none c.args.text.now c.args.levels c.args.head (omega arith) c.no_level_at.ensures.read

pub core_at-returns-then-begins-clause-read : goal.core_at-returns-then-begins-clause-read
core_at-returns-then-begins-clause-read t c = core_bare c.args.text.now c.args.levels (c.args.levels - 1) c.args.head (omega arith) (c.begins.ensures.yes c.if-begins.true) c.bare_at.ensures.read

pub core_at-returns-clause-read : goal.core_at-returns-clause-read
core_at-returns-clause-read t c = core_application c.args.text.now c.args.levels (c.args.levels - 1) c.args.head (omega arith) (c.begins.ensures.no c.if-begins.false) c.application_at.ensures.read

pub bare_at-returns-in_err-take_token-clause-read : goal.bare_at-returns-in_err-take_token-clause-read
unfolding bare in_parens
bare_at-returns-in_err-take_token-clause-read t c = as_err c.from_residual.ensures.1 (then_err _ c.in_err-take_token.ensures.read)

pub bare_at-returns-in_err-count-clause-read : goal.bare_at-returns-in_err-count-clause-read
unfolding bare in_parens
bare_at-returns-in_err-count-clause-read t c = as_err c.from_residual-in_err-count.ensures.1 (then_ok _ c.in_ok-take_token.ensures.read (then_err {Y = TypeTree} {look = view} _ (then_err _ c.in_err-count.ensures.read)))

pub bare_at-returns-in_err-tree-clause-read : goal.bare_at-returns-in_err-tree-clause-read
unfolding bare in_parens
bare_at-returns-in_err-tree-clause-read t c = as_err c.from_residual-in_err-tree.ensures.1 (then_ok _ c.in_ok-take_token.ensures.read (then_err {Y = TypeTree} {look = view} _ (then_ok _ c.in_ok-count.ensures.read (then_err _ (after_as _ _ c.may_head.ensures c.in_err-tree.ensures.read)))))

pub bare_at-returns-in_err-closes_at-clause-read : goal.bare_at-returns-in_err-closes_at-clause-read
unfolding bare in_parens
bare_at-returns-in_err-closes_at-clause-read t c = as_err c.from_residual-in_err-closes_at.ensures.1 (then_ok _ c.in_ok-take_token.ensures.read (then_err {Y = TypeTree} {look = view} _ (then_ok _ c.in_ok-count.ensures.read (then_ok _ (after_as _ _ c.may_head.ensures c.in_ok-tree.ensures.read) (then_err _ c.in_err-closes_at.ensures.read)))))

pub bare_at-returns-clause-read : goal.bare_at-returns-clause-read
unfolding bare in_parens
bare_at-returns-clause-read t c = then_ok _ c.in_ok-take_token.ensures.read (then_ok {Y = TypeTree} {look = view} _ {y = c.in_ok-tree.tree} (then_ok _ c.in_ok-count.ensures.read (then_ok _ (after_as _ _ c.may_head.ensures c.in_ok-tree.ensures.read) (then_ok _ c.in_ok-closes_at.ensures.read (gives_ok refl)))) (gives_ok (view-Percent c.in_ok-tree.tree _ (search rules))))

pub after_percent_at-returns-then-begins-clause-read : goal.after_percent_at-returns-then-begins-clause-read
unfolding after_percent
after_percent_at-returns-then-begins-clause-read t c = yes _ _ (c.begins.ensures.yes c.if-begins.true) c.core_at.ensures.read

pub after_percent_at-returns-clause-read : goal.after_percent_at-returns-clause-read
unfolding after_percent
after_percent_at-returns-clause-read t c = no _ _ (c.begins.ensures.no c.if-begins.false) c.application_at.ensures.read

pub application_at-returns-in_err-name-clause-read : goal.application_at-returns-in_err-name-clause-read
unfolding application
application_at-returns-in_err-name-clause-read t c = as_err c.from_residual.ensures.1 (then_err _ c.in_err-name.ensures.read)

pub application_at-returns-clause-read : goal.application_at-returns-clause-read
unfolding application
application_at-returns-clause-read t c = then_ok _ c.in_ok-name.ensures.read c.applied_at.ensures.read

pub applied_at-returns-in_err-take_token-clause-read : goal.applied_at-returns-in_err-take_token-clause-read
unfolding applied
applied_at-returns-in_err-take_token-clause-read t c = as_err c.from_residual.ensures.1 (yes _ _ (c.begins.ensures.yes c.if-begins.true) (then_err _ c.in_err-take_token.ensures.read))

pub applied_at-returns-in_err-args-clause-read : goal.applied_at-returns-in_err-args-clause-read
unfolding applied
applied_at-returns-in_err-args-clause-read t c = as_err c.from_residual-in_err-args.ensures.1 (yes _ _ (c.begins.ensures.yes c.if-begins.true) (then_ok _ c.in_ok-take_token.ensures.read (then_err _ c.in_err-args.ensures.read)))

pub applied_at-returns-in_err-take_token-2-clause-read : goal.applied_at-returns-in_err-take_token-2-clause-read
unfolding applied
applied_at-returns-in_err-take_token-2-clause-read t c = as_err c.from_residual-in_err-take_token-2.ensures.1 (yes _ _ (c.begins.ensures.yes c.if-begins.true) (then_ok _ c.in_ok-take_token.ensures.read (then_ok _ c.in_ok-args.ensures.read (then_err _ c.in_err-take_token-2.ensures.read))))

pub applied_at-returns-then-begins-clause-read : goal.applied_at-returns-then-begins-clause-read
unfolding applied
applied_at-returns-then-begins-clause-read t c = yes _ _ (c.begins.ensures.yes c.if-begins.true) (then_ok _ c.in_ok-take_token.ensures.read (then_ok _ c.in_ok-args.ensures.read (then_ok _ c.in_ok-take_token-2.ensures.read (gives_ok (view-Named _ _)))))

pub applied_at-returns-in_err-args-2-clause-read : goal.applied_at-returns-in_err-args-2-clause-read
unfolding applied
applied_at-returns-in_err-args-2-clause-read t c = as_err c.from_residual-in_err-args-2.ensures.1 (no _ _ (c.begins.ensures.no c.if-begins.false) (yes _ _ c.if-head.true (then_err _ c.in_err-args-2.ensures.read)))

pub applied_at-returns-then-head-clause-read : goal.applied_at-returns-then-head-clause-read
unfolding applied
applied_at-returns-then-head-clause-read t c = no _ _ (c.begins.ensures.no c.if-begins.false) (yes _ _ c.if-head.true (then_ok _ c.in_ok-args-2.ensures.read (gives_ok (view-Named _ _))))

pub applied_at-returns-clause-read : goal.applied_at-returns-clause-read
unfolding applied
applied_at-returns-clause-read t c = no _ _ (c.begins.ensures.no c.if-begins.false) (no _ _ (not_true _ c.if-head.false) (gives_ok (view-plain _ _ c.new.ensures.items)))

pub listed_at-returns-in_err-first-clause-read : goal.listed_at-returns-in_err-first-clause-read
unfolding listed
listed_at-returns-in_err-first-clause-read t c = as_err c.from_residual.ensures.1 (then_err _ c.in_err-first.ensures.read)

pub listed_at-loop-alloc-init : goal.listed_at-loop-alloc-init
listed_at-loop-alloc-init t c = record {
  far = omega (arith, c.in_ok-first.ensures.on);
  inside = c.in_ok-first.ensures.inside;
  listed = listed_one c.args.text.now c.in_ok-first.ensures.read (ap views (c.in_ok-push.ensures.items ∙ ap (λ xs. xs ++ (c.in_ok-first.first ∷ [])) c.new-args.ensures.items));
}

pub listed_at-returns-in_err-take_token-clause-read : goal.listed_at-returns-in_err-take_token-clause-read
unfolding one_listed
listed_at-returns-in_err-take_token-clause-read t c = as_err c.from_residual-in_err-take_token.ensures.1 (listed_err c.loop-alloc.invariant.listed (c.begins.ensures.yes c.loop-alloc-test.true) (then_err _ c.in_err-take_token.ensures.read))

pub listed_at-returns-in_err-next-clause-read : goal.listed_at-returns-in_err-next-clause-read
unfolding one_listed
listed_at-returns-in_err-next-clause-read t c = as_err c.from_residual-in_err-next.ensures.1 (listed_err c.loop-alloc.invariant.listed (c.begins.ensures.yes c.loop-alloc-test.true) (then_ok _ c.in_ok-take_token.ensures.read (term_err _ c.in_err-next.ensures.read)))

pub listed_at-loop-alloc-preserved : goal.listed_at-loop-alloc-preserved
unfolding one_listed
listed_at-loop-alloc-preserved t c = record {
  far = omega (arith, c.in_ok-take_token.ensures.on, c.in_ok-next.ensures.on);
  inside = c.in_ok-next.ensures.inside;
  listed = listed_more c.loop-alloc.invariant.listed (c.begins.ensures.yes c.loop-alloc-test.true) (then_ok _ c.in_ok-take_token.ensures.read (term_ok _ c.in_ok-next.ensures.read)) (ap views c.in_ok-push-2.ensures.items ∙ views_push _ _);
}

pub listed_at-returns-clause-read : goal.listed_at-returns-clause-read
listed_at-returns-clause-read t c = listed_ok c.loop-alloc.invariant.listed (c.begins.ensures.no c.loop-alloc-test.false) refl

pub terms_at-loop-alloc-init : goal.terms_at-loop-alloc-init
terms_at-loop-alloc-init t c = record {
  far = omega arith;
  inside = λ h. h;
  further = came_none (ap views c.new-args.ensures.items);
}

pub terms_at-returns-in_err-next-clause-read : goal.terms_at-returns-in_err-next-clause-read
unfolding terms
terms_at-returns-in_err-next-clause-read t c = as_err c.from_residual.ensures.1 (loop_err {look = λ (ts : List Tree). ts} c.loop-alloc.invariant.further (c.begins_term.ensures.yes c.loop-alloc-test.true) (term_err _ c.in_err-next.ensures.read))

pub terms_at-loop-alloc-preserved : goal.terms_at-loop-alloc-preserved
terms_at-loop-alloc-preserved t c = record {
  far = omega (arith, c.in_ok-next.ensures.on);
  inside = λ h. c.in_ok-next.ensures.inside;
  further = came_more {look = λ (ts : List Tree). ts} c.loop-alloc.invariant.further (c.begins_term.ensures.yes c.loop-alloc-test.true) (term_ok _ c.in_ok-next.ensures.read) (ap views c.in_ok-push.ensures.items ∙ views_push _ _);
}

pub terms_at-returns-clause-read : goal.terms_at-returns-clause-read
unfolding terms
terms_at-returns-clause-read t c = loop_ok c.loop-alloc.invariant.further (c.begins_term.ensures.no c.loop-alloc-test.false) refl
