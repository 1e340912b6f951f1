use Rattle.std.proofs.Common.{◌≡◌, ◌<◌, ℕ, List, bytes_eq, take}
use Rattle.std.specs.List.{list_any}
use Rattle.tl_program.specs.Program.{decl_text}
use Rattle.tl_names.specs.NameLists.{IsRepeat}
use Rattle.tl_schema.specs.SameName.{part_names}
use Rattle.tl_schema.specs.inner.SameNameSteps.{is_noted}
use Rattle.tl_schema.proofs.same_name.repeats_one_of_many.Given as goal

abbrev pub invariant-loop-i : goal.invariant-loop-i
invariant-loop-i l =
    ((name : List ℕ) → is_noted l.names name ≡ list_any (bytes_eq name) (take l.i (part_names (decl_text l.decl)))) × ((k : ℕ) → k < l.i → ¬ IsRepeat (part_names (decl_text l.decl)) k)
