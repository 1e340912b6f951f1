use Rattle.std.proofs.Common.{inl, refl, sym, subst}
use Rattle.std.proofs.lemmas.Bool.{iff_false}
use Rattle.std.specs.Prelude.{Result}
use Rattle.tl_schema.specs.AskedTypes.{asker}
use Rattle.tl_schema.specs.inner.TypeSteps.{PassesType}
use Rattle.tl_schema.specs.declared.fault.TypeFault.{TypeFault}
use Rattle.tl_schema.proofs.EmptyArguments.{part_applied}
use Rattle.tl_schema.proofs.TypeSteps.{wrong_arity, not_bare, empty_element}
use Rattle.tl_schema.proofs.pass_type.pass_type.Goals as goal

pub returns-then-has_part : goal.returns-then-has_part
returns-then-has_part c = λ t same.
    subst (λ (r : Result (Unit {0}) TypeFault). PassesType c.args.index.now t r) (sym c.refused.ensures) (inl (refl, (c.has_part.ensures asker t same).0 c.if-has_part.true))

pub returns-then-has_part-2 : goal.returns-then-has_part-2
returns-then-has_part-2 c = λ t same.
    let known = iff_false (c.has_part.ensures asker t same) c.if-has_part.false in
    subst (λ (r : Result (Unit {0}) TypeFault). PassesType c.args.index.now t r) (sym c.refused-then-has_part-2.ensures) (wrong_arity c.args.index.now t known ((c.has_part-2.ensures asker t same).0 c.if-has_part-2.true))

pub returns-then-has_part-3 : goal.returns-then-has_part-3
returns-then-has_part-3 c = λ t same.
    let known = iff_false (c.has_part.ensures asker t same) c.if-has_part.false in
    let right = iff_false (c.has_part-2.ensures asker t same) c.if-has_part-2.false in
    subst (λ (r : Result (Unit {0}) TypeFault). PassesType c.args.index.now t r) (sym c.refused-then-has_part-3.ensures) (not_bare c.args.index.now t known right ((c.has_part-3.ensures asker t same).0 c.if-has_part-3.true))

pub returns-then-has_part-4 : goal.returns-then-has_part-4
returns-then-has_part-4 c = λ t same.
    let known = iff_false (c.has_part.ensures asker t same) c.if-has_part.false in
    let right = iff_false (c.has_part-2.ensures asker t same) c.if-has_part-2.false in
    let bare = iff_false (c.has_part-3.ensures asker t same) c.if-has_part-3.false in
    let applied = part_applied c.args.index.now c.args.marks.now c.requires asker t in
    subst (λ (r : Result (Unit {0}) TypeFault). PassesType c.args.index.now t r) (sym c.refused-then-has_part-4.ensures) (empty_element c.args.index.now t known right bare (applied.0 ((c.has_part-4.ensures asker t same).0 c.if-has_part-4.true)))

pub returns : goal.returns
returns c = λ t same.
    let applied = part_applied c.args.index.now c.args.marks.now c.requires asker t in (
      iff_false (c.has_part.ensures asker t same) c.if-has_part.false,
      (
        iff_false (c.has_part-2.ensures asker t same) c.if-has_part-2.false,
        (
          iff_false (c.has_part-3.ensures asker t same) c.if-has_part-3.false,
          (λ empty. iff_false (c.has_part-4.ensures asker t same) c.if-has_part-4.false (applied.1 empty), tt),
        ),
      ),
    )
