-- Entries of a keeper, where they are told, with others after them.
use Rattle.std.proofs.Common.{◌≡◌, List, [], ◌++◌, Option, Some, None, refl, sym, ap, append-nil, append_assoc}
use Rattle.box_server.specs.declared.entry.Entry.{Entry}
use Rattle.box_server.specs.Keeping.{with_more}

pub more_none : (o : Option (List Entry)) → o ≡ with_more [] o
more_none None = refl
more_none (Some es) = ap (λ (l : List Entry). Some l) (sym (append-nil es))

pub more_more : (o : Option (List Entry)) (xs ys : List Entry) → with_more ys (with_more xs o) ≡ with_more (xs ++ ys) o
more_more None xs ys = refl
more_more (Some es) xs ys = ap (λ (l : List Entry). Some l) (append_assoc es xs ys)
