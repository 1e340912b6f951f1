-- Differences, looked for one after the other.
use Rattle.std.proofs.Common.{◌≡◌, ℕ, zero, suc, ◌<◌, ◌≤◌, ◌^◌, List, [], ◌∷◌, length, map, drop, get_or, Option, Some, None, Result, Err, Bool, true, false, ◌&&◌, ◌||◌, ◌==◌, refl, sym, ap, ◌∙◌, subst, arith}
use Rattle.std.proofs.lemmas.List.{length-map}
use Rattle.std.proofs.lemmas.Option.{slice_get-get_or}
use Rattle.std.specs.Prelude.{slice_get, not, if◌then◌else◌}
use Rattle.tl_schema.specs.Schemas.{Declaration}
use Rattle.wire_forms.specs.Forms.{form_view, forms, constructs}
use Rattle.wire_forms.specs.declared.form.Form.{Form}
use Rattle.wire_profile.specs.Indexes.{ProfileView, form_at}
use Rattle.wire_profile.specs.Faults.{FaultView, TellsFault, differs, first_fault, first_further, form_fault, is_further, or_else, declaration_index, IsFound}
use Rattle.wire_profile.proofs.ProfileFacts.{few_forms}
use Rattle.wire_profile.specs.declared.fault.ProfileFault.{ProfileFault}
use Rattle.wire_profile.specs.declared.fault.ProfileFault.TheVariants as fault

-- ---- what is told

-- a fault that is told is the first
pub tells_first : (m later : Option FaultView) (e : ProfileFault) → TellsFault m (Err e) → TellsFault (or_else m later) (Err e)
tells_first m later (fault.Missing name) is = ap (λ (o : Option FaultView). or_else o later) is
tells_first m later (fault.Differs name) is = ap (λ (o : Option FaultView). or_else o later) is
tells_first m later fault.Memory is = tt

-- after none
pub tells_later : (m later : Option FaultView) (r : Result (Unit {0}) ProfileFault) → m ≡ None → TellsFault later r → TellsFault (or_else m later) r
tells_later m later r none is = subst (λ (o : Option FaultView). TellsFault (or_else o later) r) (sym none) is

-- ---- forms

abbrev pub faults_from : ProfileView → List Form → ℕ → Option FaultView
faults_from p fs i = first_fault p (map form_view (drop i fs))

pub faults_more : (p : ProfileView) (i index : ℕ) (d : Form) (fs : List Form) → i < length fs → index ≡ get_or (map (declaration_index p.schema) (map form_view fs)) i 0
    → faults_from p fs i ≡ or_else (form_fault p (form_view (get_or fs i d)) (slice_get p.schema.decls index)) (faults_from p fs (suc i))
faults_more p i index d [] lt is = absurd (omega arith)
faults_more p zero index d (f ∷ fs) lt is = ap (λ (n : ℕ). or_else (form_fault p (form_view f) (slice_get p.schema.decls n)) (faults_from p fs 0)) (sym is)
faults_more p (suc i) index d (f ∷ fs) lt is = faults_more p i index d fs (omega arith) is

pub faults_none : (p : ProfileView) (i : ℕ) (fs : List Form) → length fs ≤ i → faults_from p fs i ≡ None
faults_none p zero [] le = refl
faults_none p (suc i) [] le = refl
faults_none p zero (f ∷ fs) le = absurd (omega arith)
faults_none p (suc i) (f ∷ fs) le = faults_none p i fs (omega arith)

-- ---- further constructors

abbrev pub heads_from : List ℕ → ℕ → ℕ → ℕ → Bool
heads_from heads head k h = is_further h (drop h heads) head k

heads_drop : (heads : List ℕ) (head k i h : ℕ) (d : ℕ) → i < length heads → is_further h (drop i heads) head k ≡ (((get_or heads i d == head) && not (constructs h k)) || is_further (suc h) (drop (suc i) heads) head k)
heads_drop [] head k i h d lt = absurd (omega arith)
heads_drop (n ∷ ns) head k zero h d lt = refl
heads_drop (n ∷ ns) head k (suc i) h d lt = heads_drop ns head k i h d (omega arith)

pub heads_more : (heads : List ℕ) (head k h d : ℕ) → h < length heads → heads_from heads head k h ≡ (((get_or heads h d == head) && not (constructs h k)) || heads_from heads head k (suc h))
heads_more heads head k h d lt = heads_drop heads head k h h d lt

heads_past : (heads : List ℕ) (head k i h : ℕ) → length heads ≤ i → is_further h (drop i heads) head k ≡ false
heads_past [] head k zero h le = refl
heads_past [] head k (suc i) h le = refl
heads_past (n ∷ ns) head k zero h le = absurd (omega arith)
heads_past (n ∷ ns) head k (suc i) h le = heads_past ns head k i h (omega arith)

pub heads_none : (heads : List ℕ) (head k h : ℕ) → length heads ≤ h → heads_from heads head k h ≡ false
heads_none heads head k h le = heads_past heads head k h h le

abbrev pub further_from : ProfileView → ℕ → Option FaultView
further_from p i = first_further p i (drop i p.schema.decls)

further_drop : (p : ProfileView) (ds : List Declaration) (i j : ℕ) (d : Declaration) → slice_get ds i ≡ Some d → first_further p j (drop i ds) ≡ (if is_further 0 p.heads d.head (form_at p.indexes j) then Some (differs d.name) else first_further p (suc j) (drop (suc i) ds))
further_drop p [] i j d at = absurd cc
further_drop p (e ∷ ds) zero j d at =
    let same : e ≡ d = some_is e d at in
    ap (λ (x : Declaration). if is_further 0 p.heads x.head (form_at p.indexes j) then Some (differs x.name) else first_further p (suc j) ds) same
  where
    some_is : (x y : Declaration) → Some x ≡ Some y → x ≡ y
    some_is x y e = cc
further_drop p (e ∷ ds) (suc i) j d at = further_drop p ds i j d at

pub further_more : (p : ProfileView) (i : ℕ) (d : Declaration) → slice_get p.schema.decls i ≡ Some d → further_from p i ≡ (if is_further 0 p.heads d.head (form_at p.indexes i) then Some (differs d.name) else further_from p (suc i))
further_more p i d at = further_drop p p.schema.decls i i d at

further_past : (p : ProfileView) (ds : List Declaration) (i j : ℕ) → length ds ≤ i → first_further p j (drop i ds) ≡ None
further_past p [] zero j le = refl
further_past p [] (suc i) j le = refl
further_past p (d ∷ ds) zero j le = absurd (omega arith)
further_past p (d ∷ ds) (suc i) j le = further_past p ds i j (omega arith)

pub further_none : (p : ProfileView) (i : ℕ) → length p.schema.decls ≤ i → further_from p i ≡ None
further_none p i le = further_past p p.schema.decls i i le

pub further_at : (p : ProfileView) (i : ℕ) (d : Declaration) (b : Bool) (name : List ℕ) → slice_get p.schema.decls i ≡ Some d → b ≡ is_further 0 p.heads d.head (form_at p.indexes i) → b ≡ true → name ≡ d.name → further_from p i ≡ Some (differs name)
further_at p i d b name at is yes_ same = further_more p i d at ∙ ap (λ (t : Bool). if t then Some (differs d.name) else further_from p (suc i)) (sym is ∙ yes_) ∙ ap (λ (n : List ℕ). Some (differs n)) (sym same)

pub further_not : (p : ProfileView) (i : ℕ) (d : Declaration) (b : Bool) → slice_get p.schema.decls i ≡ Some d → b ≡ is_further 0 p.heads d.head (form_at p.indexes i) → b ≡ false → further_from p i ≡ further_from p (suc i)
further_not p i d b at is other = further_more p i d at ∙ ap (λ (t : Bool). if t then Some (differs d.name) else further_from p (suc i)) (sym is ∙ other)

-- ---- of what is found

some_is : {A : Type 0} (x y : A) → Some x ≡ Some y → x ≡ y
some_is x y e = cc

same_default : (xs : List ℕ) (i d e : ℕ) → i < length xs → get_or xs i d ≡ get_or xs i e
same_default xs i d e lt = some_is _ _ (sym (slice_get-get_or xs i d lt) ∙ slice_get-get_or xs i e lt)

place_is : (p : ProfileView) (i index : ℕ) (fs : List Form) → i < length fs → IsFound p → map form_view fs ≡ forms → index ≡ get_or p.indexes i index → index ≡ get_or (map (declaration_index p.schema) (map form_view fs)) i 0
place_is p i index fs lt found same is =
    let xs = map (declaration_index p.schema) (map form_view fs) in
    let inside : i < length xs = omega (arith, lt, length-map (map form_view fs) (declaration_index p.schema), length-map fs form_view) in
    is ∙ ap (λ (ys : List ℕ). get_or ys i index) (found.indexes ∙ ap (map (declaration_index p.schema)) (sym same)) ∙ same_default xs i index 0 inside

pub form_none : (p : ProfileView) (i index : ℕ) (d : Form) (fs : List Form) → i < length fs → IsFound p → map form_view fs ≡ forms → index ≡ get_or p.indexes i index → form_fault p (form_view (get_or fs i d)) (slice_get p.schema.decls index) ≡ None
    → faults_from p fs i ≡ faults_from p fs (suc i)
form_none p i index d fs lt found same is none = faults_more p i index d fs lt (place_is p i index fs lt found same is) ∙ ap (λ (o : Option FaultView). or_else o (faults_from p fs (suc i))) none

pub form_told : (p : ProfileView) (i index : ℕ) (d : Form) (fs : List Form) (e : ProfileFault) → i < length fs → IsFound p → map form_view fs ≡ forms → index ≡ get_or p.indexes i index → TellsFault (form_fault p (form_view (get_or fs i d)) (slice_get p.schema.decls index)) (Err e)
    → faults_from p fs 0 ≡ faults_from p fs i → TellsFault (first_fault p forms) (Err e)
form_told p i index d fs e lt found same is told so_far =
    subst (λ (o : Option FaultView). TellsFault o (Err e)) (sym (faults_more p i index d fs lt (place_is p i index fs lt found same is)) ∙ sym so_far ∙ ap (first_fault p) same)
    (tells_first (form_fault p (form_view (get_or fs i d)) (slice_get p.schema.decls index)) (faults_from p fs (suc i)) e told)

pub few_indexes : (p : ProfileView) (xs : List ℕ) → IsFound p → xs ≡ p.indexes → length xs < 2 ^ 32
few_indexes p xs found same = let e : length xs ≡ length (map (declaration_index p.schema) forms) = ap length (same ∙ found.indexes) in omega (arith, few_forms, e, length-map forms (declaration_index p.schema))
