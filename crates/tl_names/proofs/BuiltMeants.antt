-- Resolved types that were built, as the types that they stand for.
use Rattle.std.proofs.Common.{◌≡◌, map, Vec, Global, Box, rules}
use Rattle.std.specs.Box.{box_value}
use Rattle.tl_names.specs.declared.what.What.{What}
use Rattle.tl_names.specs.declared.meant.Meant.{Meant, Named, Percent, AnyCall, the_lemmas}
use Rattle.tl_names.specs.Meants.{named, percent, any_call, meants_of}
use Rattle.tl_names.specs.MeantViews.{meant_view}

pub view-Named : (what : What) (args : Vec Meant Global) → meant_view (Named what args) ≡ named what (meants_of (map meant_view args.items))
view-Named what args = search (rules, the_lemmas)

pub view-Percent : (m : Meant) (b : Box Meant Global) → box_value b ≡ m → meant_view (Percent b) ≡ percent (meant_view m)
view-Percent m b e = search (rules, the_lemmas)

pub view-AnyCall : meant_view AnyCall ≡ any_call
view-AnyCall = search (rules, the_lemmas)
