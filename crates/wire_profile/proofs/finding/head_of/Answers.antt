use Rattle.std.proofs.Common.{List, ℕ, subst, inr}
use Rattle.tl_schema.specs.Types.{boxed, no_shapes}
use Rattle.tl_schema.specs.Seen.{shape}
use Rattle.wire_profile.specs.Profiles.{IsHead}
use Rattle.wire_profile.proofs.Found.{head_found}
use Rattle.wire_profile.proofs.finding.head_of.Goals as goal

pub returns-in-Ok : goal.returns-in-Ok
returns-in-Ok c =
    subst (λ (name : List ℕ). IsHead c.args.schema.now name c.unwrap_or.result) c.as_bytes.ensures.value
    (head_found c.args.schema.now c.as_bytes.result.now (shape c.in-Ok.of) c.head_in.result c.unwrap_or.result c.type_count.result c.in-Ok.ensures.names c.in-Ok.ensures.gives c.type_count.ensures c.head_in.ensures c.unwrap_or.ensures)

pub returns-in_default : goal.returns-in_default
returns-in_default c =
    subst (λ (name : List ℕ). IsHead c.args.schema.now name c.type_count-in_default.result) c.as_bytes.ensures.value
    (inr (c.type_count-in_default.ensures, λ g other. c.in_default.not-Memory (c.in-Err.ensures.gives (boxed g no_shapes) other)))
