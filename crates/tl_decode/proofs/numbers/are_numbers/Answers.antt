use Rattle.std.proofs.Common.{inl, inr}
use Rattle.tl_schema.specs.declared.form.TypeForm.TheVariants as form
use Rattle.tl_decode.proofs.PlanTypes.{shown_type}
use Rattle.tl_decode.proofs.Opened.{opens_int, opens_nat}
use Rattle.tl_decode.proofs.numbers.are_numbers.Goals as goal

pub returns-in-Int-matches : goal.returns-in-Int-matches
returns-in-Int-matches c = λ same.
    let is = shown_type c.args.plan.now c.args.of c.instance.result.now form.Int c.instance.ensures.shows c.in-Int.is in
    (inl c.in-Int-matches.is, rw c.in-Int-matches.is (λ fs well. opens_int c.args.plan.now fs well c.args.of is))

pub returns-in-Nat-matches : goal.returns-in-Nat-matches
returns-in-Nat-matches c = λ same.
    let is = shown_type c.args.plan.now c.args.of c.instance.result.now form.Nat c.instance.ensures.shows c.in-Nat.is in
    (inr c.in-Nat-matches.is, rw c.in-Nat-matches.is (λ fs well. opens_nat c.args.plan.now fs well c.args.of is))
