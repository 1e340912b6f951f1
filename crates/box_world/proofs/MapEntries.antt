-- What holds of each entry of a map of byte strings still does with one more.
use Rattle.std.proofs.Common.{ℕ, List, [], ◌∷◌, sym, ◌∙◌, subst}
use Rattle.std.specs.List.{All}
use Rattle.std.specs.declared.cmp.Ordering.{Ordering}
use Rattle.std.specs.declared.cmp.Ordering.TheVariants.{Less, Equal, Greater}
use Rattle.std.specs.Cmp.Lexicographic.{nat_list_cmp_total}
use Rattle.std.specs.FinMap.{FinMap, entries, entries-insert, insert, put, empty, len-entries, len-empty}
use Rattle.std.specs.FinMap.Entries.{by_order}
use Rattle.std.proofs.lemmas.List.{nil_from_length}
use Rattle.std.proofs.lemmas.List.Elements.{All-nil, All-cons, All-head, All-tail}
use Rattle.box_server.proofs.LastLists.{order}

-- a key of one and a value of another are an entry again
module _ {X : Type 0} (Q : List ℕ × X → Type 0) (mix : (x y : List ℕ × X) → Q x → Q y → Q (x.0, y.1)) where
  all_by : (o : Ordering) (k : List ℕ) (e : X) (x : List ℕ × X) (xs rest : List (List ℕ × X)) → Q (k, e) → All Q (x ∷ xs) → All Q rest → All Q (by_order o ((k, e) ∷ x ∷ xs) ((x.0, e) ∷ xs) (x ∷ rest))
  all_by Less k e x xs rest is h r = All-cons Q (k, e) (x ∷ xs) is h
  all_by Equal k e x xs rest is h r = All-cons Q (x.0, e) xs (mix x (k, e) (All-head Q x xs h) is) (All-tail Q x xs h)
  all_by Greater k e x xs rest is h r = All-cons Q x rest (All-head Q x xs h) r

  all_put : (k : List ℕ) (e : X) (es : List (List ℕ × X)) → Q (k, e) → All Q es → All Q (put order k e es)
  all_put k e [] is h = All-cons Q (k, e) [] is h
  all_put k e (x ∷ xs) is h = all_by (order k x.0) k e x xs (put order k e xs) is h (all_put k e xs is (All-tail Q x xs h))

  pub all_insert : (m : FinMap order X) (k : List ℕ) (e : X) → Q (k, e) → All Q (entries m) → All Q (entries (insert m k e))
  all_insert m k e is h = subst (All Q) (sym (entries-insert nat_list_cmp_total m k e)) (all_put k e (entries m) is h)

  pub all_none : All Q (entries (empty {X = X} {R = order}))
  all_none = subst (All Q) (sym (nil_from_length (entries (empty {X = X} {R = order})) (sym (len-entries (empty {X = X} {R = order})) ∙ len-empty order X))) (All-nil Q)
