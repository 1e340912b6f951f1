use Rattle.std.proofs.Common.{◌∙◌, ap}
use Rattle.serde_json.specs.Data.{put}
use Rattle.serde_json.specs.View.{view as data_of, members_view}
use Rattle.serde_json.specs.declared.value.Value.{Object}
use Rattle.serde_json.proofs.Views.{view-Object}
use Rattle.tl_schema.specs.Seen.{shape}
use Rattle.tl_show.proofs.DirectTokens.{other_first, record_of_tree}
use Rattle.tl_show.proofs.direct.other_in.Goals as goal

pub returns-clause-record : goal.returns-clause-record
returns-clause-record c =
    let ds = c.args.schema.now.decls in
    let T = shape c.args.of.now in
    let k = c.args.key.now in
    let first = c.in_ok-add_member.ensures.ok in
    let all = c.add_members.new.found in
    let none = ap (λ es. put k first.0 (members_view es)) c.new-members.ensures.empty in
    let reads = record_of_tree ds T (members_view all.entries) (data_of (Object all)) _ (view-Object all) c.requires c.in_ok-value.ensures in
    other_first ds T c.args.depth k c.args.tokens.now c.add_member.new.reader _ first.0 (members_view c.add_member.new.found.entries) (members_view all.entries) _ first.1 c.in_ok-add_member.ensures.shorter (first.2 ∙ none) c.in_ok-add_members.ensures.ok reads
