use Rattle.std.proofs.Common.{◌∙◌, sym}
use Rattle.tl_types.specs.inner.Reading.{is_member}
use Rattle.tl_decode.proofs.FirstDeclarations.{first_here, first_later}
use Rattle.tl_decode.proofs.members.of_no_type.Goals as goal

pub returns-then-constructs-clause-found : goal.returns-then-constructs-clause-found
returns-then-constructs-clause-found c = sym (first_here (is_member c.args.head c.args.number) c.args.schema.now.decls c.loop-i.i _ c.entry.ensures (sym c.constructs.ensures ∙ c.if-constructs.true)) ∙ c.loop-i.invariant

pub loop-i-preserved : goal.loop-i-preserved
loop-i-preserved c = sym (first_later (is_member c.args.head c.args.number) c.args.schema.now.decls c.loop-i.i _ c.entry.ensures (sym c.constructs.ensures ∙ c.if-constructs.false)) ∙ c.loop-i.invariant
