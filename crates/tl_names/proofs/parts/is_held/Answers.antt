use Rattle.std.proofs.Common.{◌↔◌, ◌∙◌, false, ap, sym, subst, true≢false}
use Rattle.std.specs.Prelude.{IsTrue}
use Rattle.tl_program.specs.Program.{KindText}
use Rattle.tl_names.specs.What.{what_of, variable_named}
use Rattle.tl_names.specs.MeantViews.{kind_view, meant_view}
use Rattle.tl_names.specs.Parts.{SomeHeld}
use Rattle.tl_names.proofs.ForTypes.{nat_kind, flag_kind, call_kind, of_kind}
use Rattle.tl_names.proofs.parts.is_held.Goals as goal

pub returns-in-Of : goal.returns-in-Of
returns-in-Of g c = λ d k same.
    let held = of_kind c.args.index.now d (meant_view c.in-Of.meant) k (sym (ap kind_view c.in-Of.is) ∙ same) in
    subst (λ (x : KindText). IsTrue c.has_part.result ↔ SomeHeld (g.T.TypeTest.holds c.args.test.now c.args.index.now d) x) (sym held.1) (c.has_part.ensures d held.0 held.2)

pub returns-in-Nat : goal.returns-in-Nat
returns-in-Nat g c = λ d k same.
    let is = nat_kind (what_of c.args.index.now d) (variable_named d) k (sym (ap kind_view c.in-Nat.is) ∙ same) in
    subst (λ (x : KindText). IsTrue false ↔ SomeHeld (g.T.TypeTest.holds c.args.test.now c.args.index.now d) x) (sym is) (λ h. absurd (true≢false (sym h)), λ some. absurd some.1)

pub returns-in-Flag : goal.returns-in-Flag
returns-in-Flag g c = λ d k same.
    let is = flag_kind (what_of c.args.index.now d) (variable_named d) k (sym (ap kind_view c.in-Flag.is) ∙ same) in
    subst (λ (x : KindText). IsTrue false ↔ SomeHeld (g.T.TypeTest.holds c.args.test.now c.args.index.now d) x) (sym is) (λ h. absurd (true≢false (sym h)), λ some. absurd some.1)

pub returns-in-Call : goal.returns-in-Call
returns-in-Call g c = λ d k same.
    let is = call_kind (what_of c.args.index.now d) (variable_named d) c.in-Call.variable k (sym (ap kind_view c.in-Call.is) ∙ same) in
    subst (λ (x : KindText). IsTrue false ↔ SomeHeld (g.T.TypeTest.holds c.args.test.now c.args.index.now d) x) (sym is.1) (λ h. absurd (true≢false (sym h)), λ some. absurd some.1)
