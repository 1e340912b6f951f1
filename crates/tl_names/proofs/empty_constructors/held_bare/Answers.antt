use Rattle.std.proofs.Common.{◌∙◌, None, ap, sym, subst}
use Rattle.tl_program.specs.Program.{KindText}
use Rattle.tl_names.specs.MeantViews.{kind_view, meant_view}
use Rattle.tl_names.specs.What.{what_of, variable_named}
use Rattle.tl_names.specs.inner.BareSteps.{HeldIs}
use Rattle.tl_names.proofs.BareFields.{holds_no_bare}
use Rattle.tl_names.proofs.ForTypes.{of_kind, nat_kind, flag_kind, call_kind}
use Rattle.tl_names.proofs.empty_constructors.held_bare.Goals as goal

pub returns-in-Of : goal.returns-in-Of
returns-in-Of c = λ d k same.
    let held = of_kind c.args.index.now d (meant_view c.in-Of.meant) k (sym (ap kind_view c.in-Of.is) ∙ same) in
    subst (λ (x : KindText). HeldIs c.args.index.now d x c.bare_of.result) (sym held.1) (c.bare_of.ensures d held.0 held.2)

pub returns-in-Nat : goal.returns-in-Nat
returns-in-Nat c = λ d k same.
    subst (λ (x : KindText). HeldIs c.args.index.now d x None) (sym (nat_kind (what_of c.args.index.now d) (variable_named d) k (sym (ap kind_view c.in-Nat.is) ∙ same))) (λ j. holds_no_bare j)

pub returns-in-Flag : goal.returns-in-Flag
returns-in-Flag c = λ d k same.
    subst (λ (x : KindText). HeldIs c.args.index.now d x None) (sym (flag_kind (what_of c.args.index.now d) (variable_named d) k (sym (ap kind_view c.in-Flag.is) ∙ same))) (λ j. holds_no_bare j)

pub returns-in-Call : goal.returns-in-Call
returns-in-Call c = λ d k same.
    let is = call_kind (what_of c.args.index.now d) (variable_named d) c.in-Call.variable k (sym (ap kind_view c.in-Call.is) ∙ same) in
    subst (λ (x : KindText). HeldIs c.args.index.now d x None) (sym is.1) (λ j. holds_no_bare j)
