-- Held items with something else in place of each.
use Rattle.std.proofs.Common.{◌≡◌, ℕ, zero, suc, List, [], ◌∷◌, map, length, Option, Some, None, Bool, true, false, cond, leb, T, ◌&&◌, refl, sym, ap, ap₂, ◌∙◌, subst}
use Rattle.std.specs.Prelude.{is_some}
use Rattle.std.specs.Option.{option_map, option_map_or}
use Rattle.std.specs.Ordering.{nat_cmp, eq_by_cmp, is_lt}
use Rattle.std.specs.Cmp.{nat_cmp_total}
use Rattle.std.specs.FinMap.{get, len, empty, insert, entries, entries_sorted, entries-from_sorted, len-entries, get-entries, find, is_sorted, get-empty, get-insert, get-retain_keys, same_map, nat_cmp-IsAntisymmetric}
use Rattle.std.specs.FinMap.Entries.{below_all}
use Rattle.std.proofs.lemmas.List.{length-map}
use Rattle.pts_machine.specs.Holding.{Items, from}
use Rattle.pts_machine.specs.Chains.{chain, reach}
use Rattle.box_client.specs.Numbers.{mapped}

module _ {X Y : Type 0} (f : X → Y) where
  abbrev g : ℕ × X → ℕ × Y
  g x = (x.0, f x.1)

  abbrev over : ℕ × (ℕ × X) → ℕ × (ℕ × Y)
  over x = (x.0, g x.1)

  below_cut : (k : ℕ) (es : List (ℕ × (ℕ × X))) → below_all nat_cmp k (map over es) ≡ below_all nat_cmp k es
  below_cut k [] = refl
  below_cut k (e ∷ es) = ap (λ b. is_lt (nat_cmp k e.0) && b) (below_cut k es)

  sorted_cut : (es : List (ℕ × (ℕ × X))) → is_sorted nat_cmp (map over es) ≡ is_sorted nat_cmp es
  sorted_cut [] = refl
  sorted_cut (e ∷ es) = ap₂ (λ a b. a && b) (below_cut e.0 es) (sorted_cut es)

  cond_map : (b : Bool) (x : ℕ × X) (o : Option (ℕ × X)) → cond b (Some (g x)) (option_map g o) ≡ option_map g (cond b (Some x) o)
  cond_map true x o = refl
  cond_map false x o = refl

  cond_none : (b : Bool) (o : Option (ℕ × X)) → option_map g (cond b o None) ≡ cond b (option_map g o) None
  cond_none true o = refl
  cond_none false o = refl

  find_cut : (q : ℕ) (es : List (ℕ × (ℕ × X))) → find nat_cmp q (map over es) ≡ option_map g (find nat_cmp q es)
  find_cut q [] = refl
  find_cut q (e ∷ es) = ap (cond (eq_by_cmp nat_cmp q e.0) (Some (g e.1))) (find_cut q es) ∙ cond_map (eq_by_cmp nat_cmp q e.0) e.1 (find nat_cmp q es)

  entries_mapped : (m : Items X) → entries (mapped f m) ≡ map over (entries m)
  unfolding mapped
  entries_mapped m = entries-from_sorted nat_cmp (map over (entries m)) (subst T (sym (sorted_cut (entries m))) (entries_sorted m))

  pub get_mapped : (m : Items X) (q : ℕ) → get (mapped f m) q ≡ option_map g (get m q)
  get_mapped m q = get-entries (mapped f m) q ∙ ap (find nat_cmp q) (entries_mapped m) ∙ find_cut q (entries m) ∙ ap (option_map g) (sym (get-entries m q))

  pub len_mapped : (m : Items X) → len (mapped f m) ≡ len m
  len_mapped m = len-entries (mapped f m) ∙ ap length (entries_mapped m) ∙ length-map (entries m) over ∙ sym (len-entries m)

  pub mapped_insert : (m : Items X) (s e : ℕ) (x : X) → mapped f (insert m s (e, x)) ≡ insert (mapped f m) s (e, f x)
  mapped_insert m s e x = same_map nat_cmp_total nat_cmp-IsAntisymmetric _ _ (λ q.
      get_mapped (insert m s (e, x)) q
      ∙ ap (option_map g) (get-insert nat_cmp_total m s (e, x) q)
      ∙ sym (cond_map (eq_by_cmp nat_cmp q s) (e, x) (get m q))
      ∙ ap (cond (eq_by_cmp nat_cmp q s) (Some (g (e, x)))) (sym (get_mapped m q))
      ∙ sym (get-insert nat_cmp_total (mapped f m) s (e, f x) q))

  pub mapped_from : (m : Items X) (p : ℕ) → mapped f (from p m) ≡ from p (mapped f m)
  mapped_from m p = same_map nat_cmp_total nat_cmp-IsAntisymmetric _ _ (λ q.
      get_mapped (from p m) q
      ∙ ap (option_map g) (get-retain_keys m (leb p) q (λ x e. ap (leb p) (sym (nat_cmp-IsAntisymmetric q x e))))
      ∙ cond_none (leb p q) (get m q)
      ∙ ap (λ o. cond (leb p q) o None) (sym (get_mapped m q))
      ∙ sym (get-retain_keys (mapped f m) (leb p) q (λ x e. ap (leb p) (sym (nat_cmp-IsAntisymmetric q x e)))))

  pub mapped_empty : mapped f empty ≡ empty
  mapped_empty = same_map nat_cmp_total nat_cmp-IsAntisymmetric _ _ (λ q. get_mapped empty q ∙ ap (option_map g) (get-empty nat_cmp q) ∙ sym (get-empty nat_cmp q))

  some_over : (o : Option (ℕ × X)) → is_some (option_map g o) ≡ is_some o
  some_over None = refl
  some_over (Some x) = refl

  pub has_mapped : (m : Items X) (q : ℕ) → is_some (get (mapped f m) q) ≡ is_some (get m q)
  has_mapped m q = ap is_some (get_mapped m q) ∙ some_over (get m q)

  chain_over : (n : ℕ) (m : Items X) (o : Option (ℕ × X)) → ((q : ℕ) → map f (chain n q m) ≡ chain n q (mapped f m)) → map f (option_map_or (λ x. x.1 ∷ chain n x.0 m) o []) ≡ option_map_or (λ x. x.1 ∷ chain n x.0 (mapped f m)) (option_map g o) []
  chain_over n m None below = refl
  chain_over n m (Some x) below = ap (λ (ys : List Y). f x.1 ∷ ys) (below x.0)

  pub chain_mapped : (n p : ℕ) (m : Items X) → map f (chain n p m) ≡ chain n p (mapped f m)
  unfolding chain
  chain_mapped zero p m = refl
  chain_mapped (suc n) p m = chain_over n m (get m p) (λ q. chain_mapped n q m) ∙ ap (λ (o : Option (ℕ × Y)). option_map_or (λ x. x.1 ∷ chain n x.0 (mapped f m)) o []) (sym (get_mapped m p))

  reach_over : (n p : ℕ) (m : Items X) (o : Option (ℕ × X)) → ((q : ℕ) → reach n q m ≡ reach n q (mapped f m)) → option_map_or (λ x. reach n x.0 m) o p ≡ option_map_or (λ x. reach n x.0 (mapped f m)) (option_map g o) p
  reach_over n p m None below = refl
  reach_over n p m (Some x) below = below x.0

  pub reach_mapped : (n p : ℕ) (m : Items X) → reach n p m ≡ reach n p (mapped f m)
  unfolding reach
  reach_mapped zero p m = refl
  reach_mapped (suc n) p m = reach_over n p m (get m p) (λ q. reach_mapped n q m) ∙ ap (λ (o : Option (ℕ × Y)). option_map_or (λ x. reach n x.0 (mapped f m)) o p) (sym (get_mapped m p))
