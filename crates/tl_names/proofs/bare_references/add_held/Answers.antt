use Rattle.std.proofs.Common.{◌∙◌, ap, sym, subst}
use Rattle.std.proofs.lemmas.Result.{on_ok_weaker}
use Rattle.tl_program.specs.Program.{KindText}
use Rattle.tl_names.specs.MeantViews.{kind_view, meant_view}
use Rattle.tl_names.specs.Parts.{HeldBy}
use Rattle.tl_names.specs.What.{what_of, variable_named}
use Rattle.tl_names.specs.inner.BareSteps.{Adds}
use Rattle.tl_names.proofs.Adding.{adds_nothing}
use Rattle.tl_names.proofs.ForTypes.{of_kind, nat_kind, flag_kind, call_kind}
use Rattle.tl_names.proofs.bare_references.add_held.Goals as goal

pub returns-in-Of : goal.returns-in-Of
returns-in-Of c = on_ok_weaker c.add_parts.result (λ adds d k same.
    let held = of_kind c.args.index.now d (meant_view c.in-Of.meant) k (sym (ap kind_view c.in-Of.is) ∙ same) in
    subst (λ (x : KindText). Adds c.args.index.now d (λ u. HeldBy u x) c.args.nodes.now.items c.add_parts.new.nodes.items) (sym held.1) (adds d held.0 held.2)) c.add_parts.ensures

pub returns-in-Nat : goal.returns-in-Nat
returns-in-Nat c = λ d k same.
    adds_nothing c.args.index.now d (λ u. HeldBy u k) c.args.nodes.now.items (λ u h. subst (λ (x : KindText). HeldBy u x) (nat_kind (what_of c.args.index.now d) (variable_named d) k (sym (ap kind_view c.in-Nat.is) ∙ same)) h)

pub returns-in-Flag : goal.returns-in-Flag
returns-in-Flag c = λ d k same.
    adds_nothing c.args.index.now d (λ u. HeldBy u k) c.args.nodes.now.items (λ u h. subst (λ (x : KindText). HeldBy u x) (flag_kind (what_of c.args.index.now d) (variable_named d) k (sym (ap kind_view c.in-Flag.is) ∙ same)) h)

pub returns-in-Call : goal.returns-in-Call
returns-in-Call c = λ d k same.
    adds_nothing c.args.index.now d (λ u. HeldBy u k) c.args.nodes.now.items (λ u h. subst (λ (x : KindText). HeldBy u x) (call_kind (what_of c.args.index.now d) (variable_named d) c.in-Call.variable k (sym (ap kind_view c.in-Call.is) ∙ same)).1 h)
