use Rattle.std.proofs.Common.{◌∙◌, ap, map}
use Rattle.std.proofs.lemmas.List.{map_push}
use Rattle.std.proofs.lemmas.Result.{on_ok_weaker}
use Rattle.tl_schema.specs.Seen.{declaration}
use Rattle.tl_schema.proofs.checks.enter.Goals as goal

pub returns : goal.returns
returns c =
    on_ok_weaker c.note.result
    (λ noted. record {
      entry = declaration c.in_ok-entry_of.field-0;
      last = ap (map declaration) c.in_ok-push.ensures.items ∙ map_push declaration c.args.entered.now.entries.items c.in_ok-entry_of.field-0;
      is = c.in_ok-entry_of.ensures.entry;
      fits = c.in_ok-entry_of.ensures.fits;
      noted = noted;
    })
    c.note.ensures
