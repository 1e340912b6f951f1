use Rattle.std.proofs.Common.{List, refl, subst}
use Rattle.tl_plan.specs.declared.instances.Member.{Member}
use Rattle.tl_encode.specs.inner.Openings.{IsNamed}
use Rattle.tl_encode.proofs.openings.fields_of.Goals as goal

pub returns : goal.returns
returns c =
    let m = c.member_of-member.result.now in
    record {
      values = refl;
      at = refl;
      parts = (m, subst (λ (ms : List Member). IsNamed ms c.args.entry m) c.deref.ensures.value c.member_of-member.ensures, c.deref-2.ensures.value, c.slots_of.ensures.fields, c.slots_of.ensures.few);
    }
