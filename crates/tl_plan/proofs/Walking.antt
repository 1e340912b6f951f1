-- Walks: one after another, and what they came to.
use Rattle.std.proofs.Common.{◌≡◌, List, [], ◌∷◌, ◌++◌, length, Ok, Err, Result, Bool, true, false, refl, ap, sym, ◌∙◌, append_assoc, nat_lt, if◌then◌else◌}
use Rattle.std.proofs.lemmas.List.{append-nil}
use Rattle.tl_schema.specs.Types.{Shape}
use Rattle.tl_plan.specs.Types.{is_among, levels}
use Rattle.tl_plan.specs.Reached.{Named}
use Rattle.tl_plan.specs.Plans.{AreAmong}
use Rattle.tl_plan.specs.declared.fault.PlanFault.TheVariants.{TypeTooDeep, TooManyInstances}
use Rattle.tl_plan.specs.declared.fault.TheConstants.{MAX_INSTANCES, MAX_LEVELS}
use Rattle.tl_plan.specs.inner.Walks.{Walk, then_walk, add, add_all, find, find_all}
use Rattle.tl_plan.proofs.TypeLists.{among_here, among_more}

pub ok_is : {A E : Type 0} (x y : A) → ◌≡◌ {A = Result A E} (Ok x) (Ok y) → x ≡ y
ok_is x y e = cc

pub err_ok : {A E : Type 0} (x : A) (e : E) → ◌≡◌ {A = Result A E} (Err e) (Ok x) → ⊥
err_ok x e h = cc

-- ---- one after another

pub find_all_append : (ts : List Shape) (ns ms : List Named) → find_all ts (ns ++ ms) ≡ then_walk (find_all ts ns) (λ us. find_all us ms)
find_all_append ts [] ms = refl
find_all_append ts (n ∷ ns) ms = by (find ts n) (λ us. find_all_append us ns ms)
  where
    by : (w : Walk) → ((us : List Shape) → find_all us (ns ++ ms) ≡ then_walk (find_all us ns) (λ vs. find_all vs ms)) → then_walk w (λ us. find_all us (ns ++ ms)) ≡ then_walk (then_walk w (λ us. find_all us ns)) (λ us. find_all us ms)
    by (Ok us) later = later us
    by (Err e) later = refl

pub add_all_append : (ts : List Shape) (ns ms : List Named) → add_all ts (ns ++ ms) ≡ then_walk (add_all ts ns) (λ us. add_all us ms)
add_all_append ts [] ms = refl
add_all_append ts (n ∷ ns) ms = by (add ts n) (λ us. add_all_append us ns ms)
  where
    by : (w : Walk) → ((us : List Shape) → add_all us (ns ++ ms) ≡ then_walk (add_all us ns) (λ vs. add_all vs ms)) → then_walk w (λ us. add_all us (ns ++ ms)) ≡ then_walk (then_walk w (λ us. add_all us ns)) (λ us. add_all us ms)
    by (Ok us) later = later us
    by (Err e) later = refl

-- ---- what was found

pub record Found (ts : List Shape) (ns : List Named) (us : List Shape) : Type 0 where
  pub more : List Shape
  pub starts : us ≡ ts ++ more
  pub each : AreAmong us ns

pub all_among_more : (ns : List Named) (ts us : List Shape) → AreAmong ts ns → AreAmong (ts ++ us) ns
all_among_more [] ts us are = tt
all_among_more (n ∷ ns) ts us are = (among_more n.of ts us are.0, all_among_more ns ts us are.1)

pub added : (ts us : List Shape) (n : Named) → add ts n ≡ Ok us → us ≡ ts ++ n.of ∷ []
added ts us n e = by (nat_lt MAX_LEVELS (levels n.of)) (nat_lt (length ts) MAX_INSTANCES) e
  where
    by : (a b : Bool) → (if a then Err (TypeTooDeep n.decl) else if b then Ok (ts ++ n.of ∷ []) else Err TooManyInstances) ≡ Ok us → us ≡ ts ++ n.of ∷ []
    by true b h = absurd (err_ok us _ h)
    by false true h = sym (ok_is _ us h)
    by false false h = absurd (err_ok us _ h)

found_one : (ts us : List Shape) (n : Named) → find ts n ≡ Ok us → (more : List Shape) × (us ≡ ts ++ more) × (is_among n.of us ≡ true)
found_one ts us n e = by (is_among n.of ts) refl e
  where
    by : (b : Bool) → is_among n.of ts ≡ b → (if b then Ok ts else add ts n) ≡ Ok us → (more : List Shape) × (us ≡ ts ++ more) × (is_among n.of us ≡ true)
    by true there h = let same : ts ≡ us = ok_is ts us h in ([], sym same ∙ sym (append-nil ts), ap (is_among n.of) (sym same) ∙ there)
    by false other h = let new = added ts us n h in (n.of ∷ [], new, ap (is_among n.of) new ∙ among_here n.of ts [])

pub found_all : (ns : List Named) (ts us : List Shape) → find_all ts ns ≡ Ok us → Found ts ns us
found_all [] ts us e = record { more = []; starts = sym (ok_is ts us e) ∙ sym (append-nil ts); each = tt }
found_all (n ∷ ns) ts us e = by (find ts n) refl e (λ vs h. found_all ns vs us h)
  where
    by : (w : Walk) → find ts n ≡ w → then_walk w (λ vs. find_all vs ns) ≡ Ok us → ((vs : List Shape) → find_all vs ns ≡ Ok us → Found vs ns us) → Found ts (n ∷ ns) us
    by (Ok vs) is h later =
        let one = found_one ts vs n is in
        let f = later vs h in
        record {
          more = one.0 ++ f.more;
          starts = f.starts ∙ ap (λ (xs : List Shape). xs ++ f.more) one.1 ∙ append_assoc ts one.0 f.more;
          each = (ap (is_among n.of) f.starts ∙ among_more n.of vs f.more one.2, f.each);
        }
    by (Err f) is h later = absurd (err_ok us f h)
