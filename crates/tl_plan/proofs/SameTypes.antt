-- `is_same` says which types are one.
use Rattle.std.proofs.Common.{◌≡◌, Bool, true, false, ◌&&◌, refl, ap, ap₂, sym, ◌∙◌, true≢false, eq-eqb, eqb-true, ◌==◌}
use Rattle.tl_schema.specs.Types.{Shape, int, long, nat, opaque, str, raw, flag, call, var, vector, boxed, bare, Shapes, no_shapes, shape}
use Rattle.tl_plan.specs.Types.{is_equal, is_same, are_same}
use Rattle.tl_plan.specs.PlanLaws.{SameTypes}

pub both : (a b : Bool) → a ≡ true → b ≡ true → (a && b) ≡ true
both true b e h = h
both false b e h = absurd (true≢false (sym e))

pub both_of : (a b : Bool) → (a && b) ≡ true → (a ≡ true) × (b ≡ true)
both_of true b e = (refl, e)
both_of false b e = absurd (true≢false (sym e))

equal_self : (b : Bool) → is_equal b b ≡ true
equal_self true = refl
equal_self false = refl

equal_is : (b c : Bool) → is_equal b c ≡ true → b ≡ c
equal_is true true e = refl
equal_is true false e = absurd (true≢false (sym e))
equal_is false true e = absurd (true≢false (sym e))
equal_is false false e = refl

mutual
  pub same_self : (T : Shape) → is_same T T ≡ true
  same_self int = refl
  same_self long = refl
  same_self nat = refl
  same_self (opaque n) = eq-eqb n n refl
  same_self str = refl
  same_self raw = refl
  same_self flag = refl
  same_self call = refl
  same_self (var i) = eq-eqb i i refl
  same_self (vector b T) = both (is_equal b b) (is_same T T) (equal_self b) (same_self T)
  same_self (boxed h args) = both (h == h) (are_same args args) (eq-eqb h h refl) (same_selves args)
  same_self (bare i args) = both (i == i) (are_same args args) (eq-eqb i i refl) (same_selves args)

  same_selves : (args : Shapes) → are_same args args ≡ true
  same_selves no_shapes = refl
  same_selves (shape T args) = both (is_same T T) (are_same args args) (same_self T) (same_selves args)

mutual
  pub same_is : (T U : Shape) → is_same T U ≡ true → T ≡ U
  same_is int int e = refl
  same_is long long e = refl
  same_is nat nat e = refl
  same_is (opaque m) (opaque n) e = ap opaque (eqb-true m n e)
  same_is str str e = refl
  same_is raw raw e = refl
  same_is flag flag e = refl
  same_is call call e = refl
  same_is (var i) (var j) e = ap var (eqb-true i j e)
  same_is (vector b T) (vector c U) e = let p = both_of (is_equal b c) (is_same T U) e in ap₂ vector (equal_is b c p.0) (same_is T U p.1)
  same_is (boxed h args) (boxed k brgs) e = let p = both_of (h == k) (are_same args brgs) e in ap₂ boxed (eqb-true h k p.0) (same_are args brgs p.1)
  same_is (bare i args) (bare j brgs) e = let p = both_of (i == j) (are_same args brgs) e in ap₂ bare (eqb-true i j p.0) (same_are args brgs p.1)
  same_is T U e = absurd (true≢false (sym e))

  same_are : (args brgs : Shapes) → are_same args brgs ≡ true → args ≡ brgs
  same_are no_shapes no_shapes e = refl
  same_are (shape T args) (shape U brgs) e = let p = both_of (is_same T U) (are_same args brgs) e in ap₂ shape (same_is T U p.0) (same_are args brgs p.1)
  same_are args brgs e = absurd (true≢false (sym e))

pub same_types : SameTypes
same_types T U = (same_is T U, λ e. ap (is_same T) (sym e) ∙ same_self T)
