-- The last settings of lists that are joined.
use Rattle.std.proofs.Common.{◌≡◌, ℕ, List, [], ◌∷◌, ◌++◌, Option, Some, None, Bool, true, false, cond, map as each, refl, sym, ap, ◌∙◌}
use Rattle.box_events.specs.SettingLists.{Dated, same_key, or_else, last_of, last_set, value_of}

pub else_assoc : {A : Type 0} (o p r : Option A) → or_else (or_else o p) r ≡ or_else o (or_else p r)
else_assoc None p r = refl
else_assoc (Some x) p r = refl

pub else_none : {A : Type 0} (o : Option A) → or_else o None ≡ o
else_none None = refl
else_none (Some x) = refl

pub last_append : (xs ys : List Dated) (q : List ℕ) → last_of (xs ++ ys) q ≡ or_else (last_of ys q) (last_of xs q)
last_append [] ys q = sym (else_none (last_of ys q))
last_append (x ∷ xs) ys q = ap (λ (o : Option Dated). or_else o (cond (same_key q x.setting.key) (Some x) None)) (last_append xs ys q) ∙ else_assoc (last_of ys q) (last_of xs q) (cond (same_key q x.setting.key) (Some x) None)

pub value_step : (o : Option Dated) (b : Bool) (x : Dated) → or_else (value_of o) (cond b (Some x.setting.value) None) ≡ value_of (or_else o (cond b (Some x) None))
value_step None true x = refl
value_step None false x = refl
value_step (Some e) b x = refl

pub value_else : (o p : Option Dated) → or_else (value_of o) (value_of p) ≡ value_of (or_else o p)
value_else None p = refl
value_else (Some e) p = refl

pub last_each : (xs : List Dated) (q : List ℕ) → last_set (each (λ e. e.setting) xs) q ≡ value_of (last_of xs q)
last_each [] q = refl
last_each (x ∷ xs) q =
    ap (λ (o : Option (List ℕ)). or_else o (cond (same_key q x.setting.key) (Some x.setting.value) None)) (last_each xs q)
    ∙ value_step (last_of xs q) (same_key q x.setting.key) x
