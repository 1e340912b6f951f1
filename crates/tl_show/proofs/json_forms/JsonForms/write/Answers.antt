use Rattle.std.proofs.Common.{map}
use Rattle.tl_schema.specs.Schemas.{Declared}
use Rattle.tl_schema.specs.Seen.{shape}
use Rattle.tl_types.specs.Seen.{view}
use Rattle.tl_show.specs.inner.FormViews.{form_view}
use Rattle.tl_show.specs.inner.Lines.{PrintAsShown}
use Rattle.tl_show.proofs.LineTexts.{put_as_shown}
use Rattle.tl_show.proofs.json_forms.JsonForms.write.Goals as goal

pub returns : goal.returns
returns g c = record {
  text = λ (schema : Declared) made.
      let known : PrintAsShown schema (map form_view c.deref.result.now) = rw c.deref.ensures.value made in
      put_as_shown g.S.TextSink.puts c.args.out.now c.write_value.new.out schema (map form_view c.deref.result.now) (shape c.args.of.now) (view c.args.value.now) known c.write_value.ensures;
}
