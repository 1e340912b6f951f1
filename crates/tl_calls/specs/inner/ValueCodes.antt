-- How the logic stores values and open calls. This project's own. (The first part belongs to tl_types.)
use Rattle.std.specs.Prelude.{◌≡◌, ℕ, zero, suc, pos, negsuc, List, [], ◌∷◌, refl}
use Rattle.std.proofs.Common.{ap, ap₂}
use Rattle.std.specs.Coded.{Coded, code_by, coded×, coded_ℕ, coded_list}
use base.Stored.{Gv, gnil, gnum, gcons}
use denote.Struct.Codes.{itself}
use Rattle.tl_types.specs.Values.{ValueView, ValueViews, int, long, nat, opaque, text, truth, absent, list, node, call, no_values, value}
use Rattle.tl_calls.specs.Calling.{CallsView}

abbrev bytes_to : List ℕ → Gv
bytes_to [] = gnil
bytes_to (x ∷ xs) = gcons (gnum x) (bytes_to xs)

abbrev number_from : Gv → ℕ
number_from gnil = 0
number_from (gnum n) = n
number_from (gcons x y) = 0

abbrev bytes_from : Gv → List ℕ
bytes_from gnil = []
bytes_from (gnum n) = []
bytes_from (gcons x y) = number_from x ∷ bytes_from y

pub bytes_back : (xs : List ℕ) → bytes_from (bytes_to xs) ≡ xs
bytes_back [] = refl
bytes_back (x ∷ xs) = ap (λ (ys : List ℕ). x ∷ ys) (bytes_back xs)

abbrev mutual
  value_to : ValueView → Gv
  value_to truth = gnum 0
  value_to absent = gnum 1
  value_to (int (pos n)) = gcons (gnum 0) (gnum n)
  value_to (int (negsuc n)) = gcons (gnum 1) (gnum n)
  value_to (long (pos n)) = gcons (gnum 2) (gnum n)
  value_to (long (negsuc n)) = gcons (gnum 3) (gnum n)
  value_to (nat n) = gcons (gnum 4) (gnum n)
  value_to (opaque s) = gcons (gnum 5) (bytes_to s)
  value_to (text s) = gcons (gnum 6) (bytes_to s)
  value_to (list vs) = gcons (gnum 7) (values_to vs)
  value_to (node i vs) = gcons (gcons (gnum 0) (gnum i)) (values_to vs)
  value_to (call i vs) = gcons (gcons (gnum 1) (gnum i)) (values_to vs)

  values_to : ValueViews → Gv
  values_to no_values = gnil
  values_to (value v vs) = gcons (value_to v) (values_to vs)

abbrev mutual
  value_from : Gv → ValueView
  value_from gnil = absent
  value_from (gnum zero) = truth
  value_from (gnum (suc n)) = absent
  value_from (gcons gnil x) = absent
  value_from (gcons (gnum zero) x) = int (pos (number_from x))
  value_from (gcons (gnum (suc zero)) x) = int (negsuc (number_from x))
  value_from (gcons (gnum (suc (suc zero))) x) = long (pos (number_from x))
  value_from (gcons (gnum (suc (suc (suc zero)))) x) = long (negsuc (number_from x))
  value_from (gcons (gnum (suc (suc (suc (suc zero))))) x) = nat (number_from x)
  value_from (gcons (gnum (suc (suc (suc (suc (suc zero)))))) x) = opaque (bytes_from x)
  value_from (gcons (gnum (suc (suc (suc (suc (suc (suc zero))))))) x) = text (bytes_from x)
  value_from (gcons (gnum n) x) = list (values_from x)
  value_from (gcons (gcons gnil y) x) = absent
  value_from (gcons (gcons (gnum zero) y) x) = node (number_from y) (values_from x)
  value_from (gcons (gcons (gnum n) y) x) = call (number_from y) (values_from x)
  value_from (gcons (gcons (gcons a b) y) x) = absent

  values_from : Gv → ValueViews
  values_from gnil = no_values
  values_from (gnum n) = no_values
  values_from (gcons v vs) = value (value_from v) (values_from vs)

mutual
  pub value_back : (v : ValueView) → value_from (value_to v) ≡ v
  value_back truth = refl
  value_back absent = refl
  value_back (int (pos n)) = refl
  value_back (int (negsuc n)) = refl
  value_back (long (pos n)) = refl
  value_back (long (negsuc n)) = refl
  value_back (nat n) = refl
  value_back (opaque s) = ap opaque (bytes_back s)
  value_back (text s) = ap text (bytes_back s)
  value_back (list vs) = ap list (values_back vs)
  value_back (node i vs) = ap (node i) (values_back vs)
  value_back (call i vs) = ap (call i) (values_back vs)

  pub values_back : (vs : ValueViews) → values_from (values_to vs) ≡ vs
  values_back no_values = refl
  values_back (value v vs) = ap₂ value (value_back v) (values_back vs)

abbrev pub value_code : Coded ValueView
value_code = code_by Gv itself value_to value_from value_back

abbrev pub calls_code : Coded CallsView
calls_code =
    code_by (ℕ × List (ℕ × ValueView)) (coded× coded_ℕ (coded_list (coded× coded_ℕ value_code))) (λ c. (c.next, c.calls))
    (λ p. record { next = p.0; calls = p.1 }) (λ _. refl)
