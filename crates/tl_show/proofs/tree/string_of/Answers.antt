use Rattle.std.proofs.Common.{◌≡◌, IfOk, ap, ◌∙◌, subst}
use Rattle.serde_json.specs.Data.{Data, string}
use Rattle.serde_json.specs.View.{view}
use Rattle.tl_show.proofs.Strings.{as_text, as_hex, view-String}
use Rattle.tl_show.proofs.tree.string_of.Goals as goal

pub returns-in_ok-from_str-in-Ok : goal.returns-in_ok-from_str-in-Ok
returns-in_ok-from_str-in-Ok c =
    view-String c.in_ok-from_str-in-Ok.field-0 ∙ ap string (c.in_ok-from_str-in-Ok.ensures.ok ∙ c.in-Ok.ensures.cases.0) ∙ as_text c.args.bytes.now c.in-Ok.ensures.cases.1

pub returns-in-Err : goal.returns-in-Err
returns-in-Err c = subst (λ (d : Data). IfOk c.hex_object_of.result (λ json. view json ≡ d)) (as_hex c.args.bytes.now c.in-Err.ensures.cases.0) c.hex_object_of.ensures
