use Rattle.std.proofs.Common.{◌++◌, ◌∷◌, [], List, ap, sym, arith, vec_len}
use Rattle.std.proofs.lemmas.Bool.{eqb-true}
use Rattle.std.proofs.lemmas.List.{nil_from_length}
use Rattle.box_events.specs.BoxViews.{BoxView}
use Rattle.box_events.proofs.paging.drop_first.Goals as goal

pub drop_first-requires : goal.drop_first-requires
drop_first-requires c =
    let none = eqb-true (vec_len c.args.pages.now) 0 (sym c.if-is_empty.ensures) in
    record { some = c.requires.some c.args.last.now [] (ap (λ (l : List BoxView). l ++ c.args.last.now ∷ []) (nil_from_length c.args.pages.now.items (omega (arith, none, c.args.pages.now.ok.0)))) }
