-- A schema in which no difference is found is a profile.
use Rattle.std.proofs.Common.{◌≡◌, ℕ, zero, suc, ◌+◌, ◌<◌, List, [], ◌∷◌, length, map, Option, Some, None, Result, Ok, Err, Bool, true, false, ◌&&◌, ◌||◌, ◌==◌, refl, sym, ap, ap₂, ◌∙◌, subst, arith, true≢false, eq-eqb, eqb-true}
use Rattle.std.specs.Prelude.{IsTrue, slice_get, not, nat_lt, if◌then◌else◌, OnOk}
use Rattle.std.proofs.lemmas.Bool.Decides.{nat_tests}
use Rattle.std.proofs.lemmas.List.{length-map}
use Rattle.std.proofs.lemmas.List.Sums.{passes_at_first}
use Rattle.std.proofs.lemmas.Option.{get_or_from_slice_get}
use Rattle.std.proofs.lemmas.Slice.Eq.{bytes_eq-Decides}
use Rattle.tl_schema.specs.Schemas.{Slot, Declaration, Declared}
use Rattle.tl_schema.specs.CheckedPrograms.{IsSchema}
use Rattle.tl_names.specs.Indexes.{types_of}
use Rattle.tl_plan.proofs.SameTypes.{same_is}
use Rattle.wire_forms.specs.Forms.{FormView, PartView, forms, constructs}
use Rattle.wire_profile.specs.Indexes.{ProfileView, number_at, form_at, cell_cond, cell_shape, cell_var, slot_of, result_shape, variables_of}
use Rattle.wire_profile.specs.Profiles.{IsForm, HasForm, IsProfile}
use Rattle.wire_profile.specs.Faults.{AnswersProfile, FaultView, IsAnswer, IsFound, TellsFault, are_slots, declares, differs, first_fault, first_further, form_fault, has_head, has_name, is_condition, is_further, is_slot, is_variable, missing, or_else, declaration_index, profile_answer, profile_fault, profile_of, told_by}
use Rattle.wire_profile.specs.declared.fault.ProfileFault.{ProfileFault}
use Rattle.wire_profile.specs.declared.fault.ProfileFault.TheVariants as fault
use Rattle.wire_profile.proofs.FormTable.{some_is, clash, within}
use Rattle.wire_profile.proofs.Found.{name_is}

both_of : (a b : Bool) → (a && b) ≡ true → (a ≡ true) × (b ≡ true)
both_of true b e = (refl, e)
both_of false b e = absurd (clash e)

neither : (a b : Bool) → (a || b) ≡ false → (a ≡ false) × (b ≡ false)
neither true b e = absurd (true≢false e)
neither false b e = (refl, e)

none_some : {A : Type 0} (x : A) → None ≡ Some x → ⊥
none_some x e = cc

-- ---- fields

condition_is : (c d : Option (ℕ × ℕ)) → is_condition c d ≡ true → d ≡ c
condition_is None None e = refl
condition_is None (Some d) e = absurd (clash e)
condition_is (Some c) None e = absurd (clash e)
condition_is (Some (a, b)) (Some (x, y)) e = let both = both_of _ _ e in ap₂ (λ (m n : ℕ). Some (m, n)) (sym (eqb-true a x both.0)) (sym (eqb-true b y both.1))

variable_is : (c d : Option ℕ) → is_variable c d ≡ true → d ≡ c
variable_is None None e = refl
variable_is None (Some d) e = absurd (clash e)
variable_is (Some c) None e = absurd (clash e)
variable_is (Some i) (Some j) e = ap Some (sym (eqb-true i j e))

slot_is : (p : ProfileView) (part : PartView) (s : Slot) → is_slot p part s ≡ true → s ≡ slot_of p part
slot_is p part s e =
    let last = both_of _ _ e in
    let third = both_of _ _ last.0 in
    let second = both_of _ _ third.0 in
    let name : s.name ≡ part.name = sym ((bytes_eq-Decides part.name s.name).0 second.0) in
    let cond = condition_is (cell_cond part.cell) s.cond second.1 in
    let var = variable_is (cell_var part.cell) s.var third.1 in
    let of = sym (same_is (cell_shape p part.cell) s.of last.1) in
    rw (← name, ← cond, ← var, ← of) refl

slots_are : (p : ProfileView) (parts : List PartView) (slots : List Slot) → are_slots p parts slots ≡ true → slots ≡ map (slot_of p) parts
slots_are p [] [] e = refl
slots_are p [] (s ∷ ss) e = absurd (clash e)
slots_are p (part ∷ parts) [] e = absurd (clash e)
slots_are p (part ∷ parts) (s ∷ ss) e = let both = both_of _ _ e in ap₂ ◌∷◌ (slot_is p part s both.0) (slots_are p parts ss both.1)

below : (m n : ℕ) → nat_lt m n ≡ true → m < n
below m n e = grind (arith, nat_tests)

head_is : (p : ProfileView) (is_function : Bool) (made : Option ℕ) (head h : ℕ) → has_head p is_function made head ≡ true → is_function ≡ false → made ≡ Some h → (head ≡ number_at p.heads h) × (head < length (types_of p.schema.program))
head_is p true made head h e own is = absurd (true≢false own)
head_is p false None head h e own is = absurd (none_some h is)
head_is p false (Some g) head h e own is =
    let both = both_of _ _ e in
    (eqb-true head (number_at p.heads g) both.0 ∙ ap (number_at p.heads) (some_is g h is), below head _ both.1)

form_is : (p : ProfileView) (f : FormView) (d : Declaration) → has_name f d ≡ true → declares p f d ≡ true → IsForm p f d
form_is p f d named e =
    let last = both_of _ _ e in
    let third = both_of _ _ last.0 in
    let second = both_of _ _ third.0 in
    record {
      name = (name_is f d named).0;
      function = (name_is f d named).1;
      vars = eqb-true d.vars (variables_of f.result) second.0;
      fields = slots_are p f.parts d.fields second.1;
      result = sym (same_is (result_shape p f.result) d.result third.1);
      head = λ h own is. head_is p f.function f.result d.head h last.1 own is;
    }

-- ---- forms

none_first : (m later : Option FaultView) → or_else m later ≡ None → (m ≡ None) × (later ≡ None)
none_first None later e = (refl, e)
none_first (Some found) later e = absurd (none_some found (sym e))

none_faulty : (p : ProfileView) (fs : List FormView) → first_fault p fs ≡ None → (k : ℕ) (f : FormView) → slice_get fs k ≡ Some f → form_fault p f (slice_get p.schema.decls (declaration_index p.schema f)) ≡ None
none_faulty p [] e k f at = absurd (none_some f at)
none_faulty p (g ∷ fs) e zero f at =
    subst (λ (h : FormView). form_fault p h (slice_get p.schema.decls (declaration_index p.schema h)) ≡ None) (some_is g f at) (none_first _ _ e).0
none_faulty p (g ∷ fs) e (suc k) f at = none_faulty p fs (none_first _ _ e).1 k f at

passes : (b : Bool) (found : FaultView) → (if b then None else Some found) ≡ None → b ≡ true
passes true found e = refl
passes false found e = absurd (none_some found (sym e))

declared_by : (p : ProfileView) (f : FormView) (o : Option Declaration) → form_fault p f o ≡ None → (d : Declaration) × (o ≡ Some d) × (declares p f d ≡ true)
declared_by p f None e = absurd (none_some (missing f.name) (sym e))
declared_by p f (Some d) e = (d, refl, passes (declares p f d) (differs f.name) e)

index_at : (p : ProfileView) (k : ℕ) (f : FormView) (fs : List FormView) → slice_get fs k ≡ Some f → number_at (map (declaration_index p.schema) fs) k ≡ declaration_index p.schema f
index_at p k f [] at = absurd (none_some f at)
index_at p zero f (g ∷ fs) at = ap (declaration_index p.schema) (some_is g f at)
index_at p (suc k) f (g ∷ fs) at = index_at p k f fs at

form_there : (p : ProfileView) → IsFound p → first_fault p forms ≡ None → (k : ℕ) (f : FormView) → slice_get forms k ≡ Some f → HasForm p k f
form_there p found none k f at =
    let has = declared_by p f (slice_get p.schema.decls (declaration_index p.schema f)) (none_faulty p forms none k f at) in
    let index : number_at p.indexes k ≡ declaration_index p.schema f = ap (λ (xs : List ℕ). number_at xs k) found.indexes ∙ index_at p k f forms at in
    let inside = within p.schema.decls (declaration_index p.schema f) has.0 has.1 in
    let named : has_name f has.0 ≡ true = ap (has_name f) (sym (get_or_from_slice_get p.schema.decls (declaration_index p.schema f) has.0 has.0 has.1)) ∙ passes_at_first (has_name f) p.schema.decls has.0 inside in
    record { d = has.0; there = ap (slice_get p.schema.decls) index ∙ has.1; is = form_is p f has.0 named has.2 }

-- ---- further constructors

none_further : (p : ProfileView) (j : ℕ) (ds : List Declaration) → first_further p j ds ≡ None → (i : ℕ) (d : Declaration) → slice_get ds i ≡ Some d → (k : ℕ) → k ≡ j + i → is_further 0 p.heads d.head (form_at p.indexes k) ≡ false
none_further p j [] e i d at k is = absurd (none_some d at)
none_further p j (g ∷ ds) e zero d at k is =
    let here = by (is_further 0 p.heads g.head (form_at p.indexes j)) (differs g.name) (first_further p (suc j) ds) e in
    let same : j ≡ k = omega (arith, is) in
    subst (λ (n : ℕ). is_further 0 p.heads d.head (form_at p.indexes n) ≡ false) same (subst (λ (x : Declaration). is_further 0 p.heads x.head (form_at p.indexes j) ≡ false) (some_is g d at) here.0)
  where
    by : (b : Bool) (found : FaultView) (later : Option FaultView) → (if b then Some found else later) ≡ None → (b ≡ false) × (later ≡ None)
    by true found later e = absurd (none_some found (sym e))
    by false found later e = (refl, e)
none_further p j (g ∷ ds) e (suc i) d at k is =
    none_further p (suc j) ds (by (is_further 0 p.heads g.head (form_at p.indexes j)) (differs g.name) (first_further p (suc j) ds) e).1 i d at k (omega (arith, is))
  where
    by : (b : Bool) (found : FaultView) (later : Option FaultView) → (if b then Some found else later) ≡ None → (b ≡ false) × (later ≡ None)
    by true found later e = absurd (none_some found (sym e))
    by false found later e = (refl, e)

made : (b c : Bool) → (b && not c) ≡ false → b ≡ true → c ≡ true
made true true e is = refl
made true false e is = absurd (true≢false e)
made false c e is = absurd (clash is)

is_made : (g : ℕ) (heads : List ℕ) (head k : ℕ) → is_further g heads head k ≡ false → (h : ℕ) (n : ℕ) → slice_get heads h ≡ Some n → head ≡ n → (i : ℕ) → i ≡ g + h → IsTrue (constructs i k)
is_made g [] head k e h n at same i is = absurd (none_some n at)
is_made g (m ∷ ms) head k e zero n at same i is =
    let here : (m == head) ≡ true = eq-eqb m head (some_is m n at ∙ sym same) in
    let e_is : g ≡ i = omega (arith, is) in
    subst (λ (x : ℕ). IsTrue (constructs x k)) e_is (made (m == head) (constructs g k) (neither _ _ e).0 here)
is_made g (m ∷ ms) head k e (suc h) n at same i is = is_made (suc g) ms head k (neither _ _ e).1 h n at same i (omega (arith, is))

pub is_profile : (p : ProfileView) → IsSchema p.schema → IsFound p → profile_fault p ≡ None → IsProfile p
is_profile p sound found none =
    let both = none_first (first_fault p forms) (first_further p 0 p.schema.decls) none in
    record {
      schema = sound;
      count = ap length found.indexes ∙ length-map forms (declaration_index p.schema);
      heads = found.heads;
      forms_there = form_there p found both.0;
      no_more = λ i h head d at there same. is_made 0 p.heads d.head (form_at p.indexes i) (none_further p 0 p.schema.decls both.1 i d at i (omega arith)) h head there same h (omega arith);
    }

pub checked : (p : ProfileView) (r : Result (Unit {0}) ProfileFault) → first_fault p forms ≡ None → IsSchema p.schema → IsFound p → TellsFault (first_further p 0 p.schema.decls) r → OnOk r (IsProfile p)
checked p (Ok x) none sound found told = is_profile p sound found (ap (λ (o : Option FaultView). or_else o (first_further p 0 p.schema.decls)) none ∙ told)
checked p (Err e) none sound found told = tt

-- ---- the answer

-- what is found is determined by the numbers of the types
found_is : (p : ProfileView) → IsFound p → profile_of p.schema p.heads ≡ p
unfolding profile_of
found_is p found = ap (λ (xs : List ℕ). record { schema = p.schema; indexes = xs; heads = p.heads }) (sym found.indexes)

pub answered : (p : ProfileView) (o : Option FaultView) → IsFound p → profile_fault p ≡ o → IsAnswer p.schema (told_by p o)
unfolding profile_answer
answered p o found is = (p.heads, found.heads, ap (λ (q : ProfileView). told_by q (profile_fault q)) (found_is p found) ∙ ap (told_by p) is)

pub answers_fault : (S : Declared) (p : ProfileView) (e : ProfileFault) → IsFound p → p.schema ≡ S → TellsFault (profile_fault p) (Err e) → AnswersProfile S (Err e)
answers_fault S p (fault.Missing name) found same told = subst (λ (T : Declared). IsAnswer T (Err (missing name))) same (answered p (Some (missing name)) found told)
answers_fault S p (fault.Differs name) found same told = subst (λ (T : Declared). IsAnswer T (Err (differs name))) same (answered p (Some (differs name)) found told)
answers_fault S p fault.Memory found same told = tt

pub answers_profile : (S : Declared) (p : ProfileView) → IsFound p → p.schema ≡ S → profile_fault p ≡ None → AnswersProfile S (Ok p)
answers_profile S p found same none = subst (λ (T : Declared). IsAnswer T (Ok p)) same (answered p None found none)
