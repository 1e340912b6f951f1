-- The checks, one after another.
use Rattle.std.proofs.Common.{◌≡◌, ℕ, List, [], ◌∷◌, ◌++◌, Option, Some, None, Result, Ok, Err, refl, sym, subst, inl, inr}
use Rattle.std.specs.Prelude.{IfErr, IfOk, IsErrAnd}
use Rattle.tl_program.specs.Program.{DeclText}
use Rattle.tl_graph.specs.Firsts.{First}
use Rattle.tl_schema.specs.CheckCauses.{HasCause, NoneHas, PassesBy, RefusedBy}
use Rattle.tl_schema.specs.inner.CheckSteps.{ChecksBy, Found}
use Rattle.tl_schema.specs.declared.fault.CheckCause.{CheckCause}
use Rattle.tl_schema.specs.declared.fault.CheckFault.{CheckFault}
use Rattle.tl_schema.specs.declared.fault.CheckFault.TheVariants.{Refused, Memory}

module _ (ds : List DeclText) (c : CheckCause) where
  none_of : (o : Option ℕ) {u : Unit {0}} → First (HasCause ds c) o → Found o c (Ok u) → NoneHas ds c
  none_of None first found = first
  none_of (Some k) {u} first found = absurd (let e : ◌≡◌ {A = Result (Unit {0}) CheckFault} (Ok u) (Err (Refused k c)) = found in cc)

  next : (cs : List CheckCause) (r : Result (Unit {0}) CheckFault) → NoneHas ds c → ChecksBy ds cs r → ChecksBy ds (c ∷ cs) r
  next cs (Ok u) none h = (none, h)
  next cs (Err (Refused k cause)) none h = inr (none, h)
  next cs (Err Memory) none h = tt

  at_fault : (cs : List CheckCause) (o : Option ℕ) (e : CheckFault) → First (HasCause ds c) o → Found o c (Err e) → ChecksBy ds (c ∷ cs) (Err e)
  at_fault cs None e first found = absurd (let f : ◌≡◌ {A = Result (Unit {0}) CheckFault} (Err e) (Ok tt) = found in cc)
  at_fault cs (Some k) e first found = subst (ChecksBy ds (c ∷ cs)) (sym found) (inl (refl, first))

  at_exit : (cs : List CheckCause) (o : Option ℕ) (e : CheckFault) (r : Result (Unit {0}) CheckFault) → First (HasCause ds c) o → Found o c (Err e) → IsErrAnd r (λ z. z ≡ e) → ChecksBy ds (c ∷ cs) r
  at_exit cs o e (Ok u) first found is = absurd is
  at_exit cs o e (Err z) first found is = subst (λ (y : CheckFault). ChecksBy ds (c ∷ cs) (Err y)) (sym is) (at_fault cs o e first found)

  at_end : (o : Option ℕ) (r : Result (Unit {0}) CheckFault) → First (HasCause ds c) o → Found o c r → ChecksBy ds (c ∷ []) r
  at_end None r first found = subst (ChecksBy ds (c ∷ [])) (sym found) (first, tt)
  at_end (Some k) r first found = subst (ChecksBy ds (c ∷ [])) (sym found) (inl (refl, first))

-- the result of some checks, with the causes that they look for
pub record Answered (ds : List DeclText) (cs : List CheckCause) (result : Result (Unit {0}) CheckFault) : Type 0 where
  pub is : ChecksBy ds cs result

pub answer : (ds : List DeclText) (cs : List CheckCause) (result : Result (Unit {0}) CheckFault) → Answered ds cs result → ChecksBy ds cs result
answer ds cs result a = a.is

module _ {ds : List DeclText} {c : CheckCause} {r : Result (Unit {0}) CheckFault} where
  -- no declaration was found, and the checks go on
  pub goes_on : {cs : List CheckCause} (o : Option ℕ) {u : Unit {0}} → First (HasCause ds c) o → Found o c (Ok u) → Answered ds cs r → Answered ds (c ∷ cs) r
  goes_on {cs} o {u} first found rest = record { is = next ds c cs r (none_of ds c o {u = u} first found) rest.is }

  -- a declaration was found
  pub stop : {cs : List CheckCause} (o : Option ℕ) (e : CheckFault) → First (HasCause ds c) o → Found o c (Err e) → IsErrAnd r (λ z. z ≡ e) → Answered ds (c ∷ cs) r
  stop {cs} o e first found is = record { is = at_exit ds c cs o e r first found is }

  -- the last check
  pub last : (o : Option ℕ) → First (HasCause ds c) o → Found o c r → Answered ds (c ∷ []) r
  last o first found = record { is = at_end ds c o r first found }

-- ---- the causes of one list, and then those of another

module _ (ds : List DeclText) where
  passed_both : (cs more : List CheckCause) → PassesBy ds cs → PassesBy ds more → PassesBy ds (cs ++ more)
  passed_both [] more p q = q
  passed_both (c ∷ cs) more p q = (p.0, passed_both cs more p.1 q)

  refused_first : (cs more : List CheckCause) (k : ℕ) (found : CheckCause) → RefusedBy ds cs k found → RefusedBy ds (cs ++ more) k found
  refused_first [] more k found r = absurd r
  refused_first (c ∷ cs) more k found (inl here) = inl here
  refused_first (c ∷ cs) more k found (inr later) = inr (later.0, refused_first cs more k found later.1)

  refused_then : (cs more : List CheckCause) (k : ℕ) (found : CheckCause) → PassesBy ds cs → RefusedBy ds more k found → RefusedBy ds (cs ++ more) k found
  refused_then [] more k found p r = r
  refused_then (c ∷ cs) more k found p r = inr (p.0, refused_then cs more k found p.1 r)

  -- the first list was passed
  pub checked_then : (cs more : List CheckCause) (r : Result (Unit {0}) CheckFault) → PassesBy ds cs → ChecksBy ds more r → ChecksBy ds (cs ++ more) r
  checked_then cs more (Ok u) p h = passed_both cs more p h
  checked_then cs more (Err (Refused k found)) p h = refused_then cs more k found p h
  checked_then cs more (Err Memory) p h = tt

  -- it was not
  pub checked_first : (cs more : List CheckCause) (e : CheckFault) (r : Result (Unit {0}) CheckFault) → ChecksBy ds cs (Err e) → IsErrAnd r (λ z. z ≡ e) → ChecksBy ds (cs ++ more) r
  checked_first cs more e (Ok u) h is = absurd is
  checked_first cs more e (Err z) h is = subst (λ (y : CheckFault). ChecksBy ds (cs ++ more) (Err y)) (sym is) (of_fault cs more e h)
    where
      of_fault : (cs more : List CheckCause) (e : CheckFault) → ChecksBy ds cs (Err e) → ChecksBy ds (cs ++ more) (Err e)
      of_fault cs more (Refused k found) h = refused_first cs more k found h
      of_fault cs more Memory h = tt

-- ---- checks that give more where they are passed

module _ (ds : List DeclText) {X : Type 0} (cs : List CheckCause) where
  -- the fault of a check is the answer
  pub gives_fault : (e : CheckFault) (r : Result X CheckFault) → ChecksBy ds cs (Err e) → IsErrAnd r (λ z. z ≡ e) → IfErr r (λ f. ChecksBy ds cs (Err f))
  gives_fault e (Ok x) h is = tt
  gives_fault e (Err z) h is = subst (λ (y : CheckFault). ChecksBy ds cs (Err y)) (sym is) h

  pub fault_then : (before : List CheckCause) (r : Result X CheckFault) → PassesBy ds before → IfErr r (λ f. ChecksBy ds cs (Err f)) → IfErr r (λ f. ChecksBy ds (before ++ cs) (Err f))
  fault_then before (Ok x) p h = tt
  fault_then before (Err e) p h = checked_then ds before cs (Err e) p h

  pub passed_then : (before : List CheckCause) (Q : X → Type 0) (r : Result X CheckFault) → PassesBy ds before → IfOk r (λ x. PassesBy ds cs × Q x) → IfOk r (λ x. PassesBy ds (before ++ cs) × Q x)
  passed_then before Q (Ok x) p h = (passed_both ds before cs p h.0, h.1)
  passed_then before Q (Err e) p h = tt

  pub fault_first : (before : List CheckCause) (e : CheckFault) (r : Result X CheckFault) → ChecksBy ds before (Err e) → IsErrAnd r (λ z. z ≡ e) → IfErr r (λ f. ChecksBy ds (before ++ cs) (Err f))
  fault_first before e (Ok x) h is = tt
  fault_first before e (Err z) h is = checked_first ds before cs e (Err z) h is

-- the last of two checks gives more
module _ (ds : List DeclText) (c d : CheckCause) (o p : Option ℕ) (first : First (HasCause ds c) o) (second : First (HasCause ds d) p) where
  pub both_passed : {u v : Unit {0}} → Found o c (Ok u) → Found p d (Ok v) → PassesBy ds (c ∷ d ∷ [])
  both_passed {u} {v} one other = (none_of ds c o {u = u} first one, (none_of ds d p {u = v} second other, tt))

  pub second_fault : {u : Unit {0}} (e : CheckFault) → Found o c (Ok u) → Found p d (Err e) → ChecksBy ds (c ∷ d ∷ []) (Err e)
  second_fault {u} e one other = next ds c (d ∷ []) (Err e) (none_of ds c o {u = u} first one) (at_fault ds d [] p e second other)

pub first_fault : (ds : List DeclText) (c : CheckCause) (cs : List CheckCause) (o : Option ℕ) (e : CheckFault) → First (HasCause ds c) o → Found o c (Err e) → ChecksBy ds (c ∷ cs) (Err e)
first_fault ds c cs o e first found = at_fault ds c cs o e first found

-- what was found in the same program
pub of_same : {ds es : List DeclText} → ds ≡ es → (c : CheckCause) (o : Option ℕ) → First (HasCause es c) o → First (HasCause ds c) o
of_same {ds} {es} same c o first = subst (λ (x : List DeclText). First (HasCause x c) o) (sym same) first
