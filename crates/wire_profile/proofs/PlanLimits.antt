-- The plan of a profile keeps within the limits: the types that its roots reach are those of cells of the forms.
use Rattle.std.proofs.Common.{◌≡◌, ℕ, zero, suc, ◌+◌, ◌<◌, ◌≤◌, List, [], ◌∷◌, ◌++◌, length, map, take, Option, Some, None, Ok, Err, Bool, true, false, ◌||◌, refl, sym, ap, ◌∙◌, subst, arith, true≢false, if◌then◌else◌}
use Rattle.std.specs.Prelude.{slice_get, nat_lt}
use Rattle.std.specs.List.{flat_map}
use Rattle.std.proofs.lemmas.Bool.Decides.{nat_tests}
use Rattle.std.proofs.lemmas.List.{length-map, map-append, length-append}
use Rattle.tl_schema.specs.Types.{Shape, no_shapes}
use Rattle.tl_schema.specs.Closing.{closed}
use Rattle.tl_schema.specs.Schemas.{Slot, Declaration}
use Rattle.tl_types.proofs.Closings.{closed_none}
use Rattle.tl_plan.specs.Types.{is_among, levels}
use Rattle.tl_plan.specs.Entries.{constructors_of, fields_in}
use Rattle.tl_plan.specs.Reached.{Named, all_reached, fields_named, first_too_deep, meet, meet_all, named_by, names_of, reached, types_in, unnamed}
use Rattle.tl_plan.specs.Plans.{answer, answer_by, plan_of}
use Rattle.tl_plan.specs.declared.fault.PlanFault.TheVariants.{TooManyInstances}
use Rattle.tl_plan.specs.declared.fault.TheConstants.{MAX_INSTANCES, MAX_LEVELS}
use Rattle.tl_plan.proofs.EntryLists.{entries_are_declared}
use Rattle.tl_plan.proofs.TypeLists.{among_here, among_more}
use Rattle.wire_forms.specs.declared.form.Cell.{Cell}
use Rattle.wire_forms.specs.declared.form.Cell.TheVariants.{Whole, Signed, Long, Body, Key, Ids, Bodies, Flags, Final, Many, One, Bare, ManyBare, Query}
use Rattle.wire_forms.specs.declared.numbers.TheConstants.{FRAME_TYPE, STEP_TYPE, CLIENT_TYPE}
use Rattle.wire_forms.specs.Forms.{FormView, PartView, forms}
use Rattle.wire_profile.specs.Indexes.{ProfileView, number_at, form_at, cell_shape, slot_of}
use Rattle.wire_profile.specs.Profiles.{IsProfile, IsForm, root_shapes}
use Rattle.wire_profile.specs.SpelledForms.{StandsAlone}
use Rattle.wire_profile.proofs.FormTable.{IsFormAt, AreGood, clash, form_is_good, has_query, is_query, member_form, no_query, some_is}
use Rattle.wire_profile.proofs.ProfileFacts.{declared, is_member, member}
use Rattle.wire_profile.proofs.OwnValues.{cells}

none_some : {A : Type 0} (x : A) → None ≡ Some x → ⊥
none_some x e = cc

neither : (a b : Bool) → (a || b) ≡ false → (a ≡ false) × (b ≡ false)
neither true b e = absurd (true≢false e)
neither false b e = (refl, e)

-- ---- cells that are reached

item_cell : Cell → Cell
item_cell Ids = Signed
item_cell Bodies = Body
item_cell (Many h) = One h
item_cell (ManyBare j) = Bare j
item_cell c = c

root_cells : List Cell
root_cells = One FRAME_TYPE ∷ One STEP_TYPE ∷ One CLIENT_TYPE ∷ []

-- a root's, or a field's of a constructor, or its elements'
data Reaches (c : Cell) : Type 0 where
  root : (i : ℕ) → slice_get root_cells i ≡ Some c → Reaches c
  field : (k i : ℕ) (f : FormView) (q : PartView) → IsFormAt k f → f.function ≡ false → slice_get f.parts i ≡ Some q → q.cell ≡ c → Reaches c
  element : (k i : ℕ) (f : FormView) (q : PartView) → IsFormAt k f → f.function ≡ false → slice_get f.parts i ≡ Some q → item_cell q.cell ≡ c → Reaches c

item_again : (c : Cell) → item_cell (item_cell c) ≡ item_cell c
unfolding item_cell
item_again Whole = refl
item_again Signed = refl
item_again Long = refl
item_again Body = refl
item_again Key = refl
item_again Ids = refl
item_again Bodies = refl
item_again Flags = refl
item_again Final = refl
item_again (Many h) = refl
item_again (One h) = refl
item_again (Bare j) = refl
item_again (ManyBare j) = refl
item_again Query = refl

root_item : (i : ℕ) (c : Cell) → slice_get root_cells i ≡ Some c → slice_get root_cells i ≡ Some (item_cell c)
unfolding root_cells item_cell
root_item zero c at = at ∙ ap Some (sym (ap item_cell (sym (some_is _ c at)) ∙ some_is _ c at))
root_item (suc zero) c at = at ∙ ap Some (sym (ap item_cell (sym (some_is _ c at)) ∙ some_is _ c at))
root_item (suc (suc zero)) c at = at ∙ ap Some (sym (ap item_cell (sym (some_is _ c at)) ∙ some_is _ c at))
root_item (suc (suc (suc i))) c at = absurd (none_some c at)

reaches_item : (c : Cell) → Reaches c → Reaches (item_cell c)
reaches_item c (root i at) = root i (root_item i c at)
reaches_item c (field k i f q form own at is) = element k i f q form own at (ap item_cell is)
reaches_item c (element k i f q form own at is) = element k i f q form own at (sym (item_again q.cell) ∙ ap item_cell is)

-- a flag, or it stands alone
IsAlone : Cell → Type 0
IsAlone Final = Unit {0}
IsAlone (Bare j) = StandsAlone (Bare j)
IsAlone (ManyBare j) = StandsAlone (ManyBare j)
IsAlone c = Unit {0}

alone_at : (parts : List PartView) → AreGood (cells parts) → (i : ℕ) (q : PartView) → slice_get parts i ≡ Some q → IsAlone q.cell
unfolding IsAlone
alone_at [] good i q at = absurd (none_some q at)
alone_at (part ∷ parts) good zero q at = subst (λ (x : PartView). IsAlone x.cell) (some_is part q at) (here part.cell good)
  where
    here : (c : Cell) → AreGood (c ∷ cells parts) → IsAlone c
    here Final good = tt
    here (Bare j) good = good.0
    here (ManyBare j) good = good.0
    here c good = tt
alone_at (part ∷ parts) good (suc i) q at = alone_at parts (later part.cell good) i q at
  where
    later : (c : Cell) → AreGood (c ∷ cells parts) → AreGood (cells parts)
    later Final good = good
    later c good = good.1

alone_item : (c : Cell) → IsAlone c → IsAlone (item_cell c)
unfolding IsAlone item_cell
alone_item (ManyBare j) is = is
alone_item (Bare j) is = is
alone_item c is = tt

root_alone : (i : ℕ) (c : Cell) → slice_get root_cells i ≡ Some c → IsAlone c
unfolding root_cells IsAlone
root_alone zero c at = subst IsAlone (some_is _ c at) tt
root_alone (suc zero) c at = subst IsAlone (some_is _ c at) tt
root_alone (suc (suc zero)) c at = subst IsAlone (some_is _ c at) tt
root_alone (suc (suc (suc i))) c at = absurd (none_some c at)

alone : (c : Cell) → Reaches c → IsAlone c
alone c (root i at) = root_alone i c at
alone c (field k i f q form own at is) = subst IsAlone is (alone_at f.parts (form_is_good k f form) i q at)
alone c (element k i f q form own at is) = subst IsAlone is (alone_item q.cell (alone_at f.parts (form_is_good k f form) i q at))

-- no query is reached
asks_at : (parts : List PartView) → has_query parts ≡ false → (i : ℕ) (q : PartView) → slice_get parts i ≡ Some q → is_query q.cell ≡ false
asks_at [] none i q at = absurd (none_some q at)
asks_at (part ∷ parts) none zero q at = ap (λ (x : PartView). is_query x.cell) (sym (some_is part q at)) ∙ (neither (is_query part.cell) (has_query parts) none).0
asks_at (part ∷ parts) none (suc i) q at = asks_at parts (neither (is_query part.cell) (has_query parts) none).1 i q at

asks_item : (c : Cell) → is_query c ≡ false → is_query (item_cell c) ≡ false
unfolding item_cell
asks_item Ids e = refl
asks_item Bodies e = refl
asks_item (Many h) e = refl
asks_item (ManyBare j) e = refl
asks_item Query e = e
asks_item c e = refl

root_asks : (i : ℕ) (c : Cell) → slice_get root_cells i ≡ Some c → is_query c ≡ false
unfolding root_cells
root_asks zero c at = ap is_query (sym (some_is _ c at))
root_asks (suc zero) c at = ap is_query (sym (some_is _ c at))
root_asks (suc (suc zero)) c at = ap is_query (sym (some_is _ c at))
root_asks (suc (suc (suc i))) c at = absurd (none_some c at)

asks : (c : Cell) → Reaches c → is_query c ≡ false
asks c (root i at) = root_asks i c at
asks c (field k i f q form own at is) = subst (λ (x : Cell). is_query x ≡ false) is (asks_at f.parts (no_query k f form own) i q at)
asks c (element k i f q form own at is) = subst (λ (x : Cell). is_query x ≡ false) is (asks_item q.cell (asks_at f.parts (no_query k f form own) i q at))

-- ---- types that are reached

IsReached : ProfileView → Shape → Type 0
IsReached p T = (c : Cell) × Reaches c × (T ≡ cell_shape p c)

abbrev AllReached : ProfileView → List Named → Type 0
AllReached p [] = Unit {0}
AllReached p (n ∷ ns) = IsReached p n.of × AllReached p ns

all_append : (p : ProfileView) (ns ms : List Named) → AllReached p ns → AllReached p ms → AllReached p (ns ++ ms)
all_append p [] ms all more = more
all_append p (n ∷ ns) ms all more = (all.0, all_append p ns ms all.1 more)

all_flat : (p : ProfileView) (g : ℕ → List Named) (is : List ℕ) → ((k i : ℕ) → slice_get is k ≡ Some i → AllReached p (g i)) → AllReached p (flat_map g is)
all_flat p g [] law = tt
all_flat p g (i ∷ is) law = all_append p (g i) (flat_map g is) (law 0 i refl) (all_flat p g is (λ k j at. law (suc k) j at))

reached_at : (p : ProfileView) (ns : List Named) → AllReached p ns → (k : ℕ) (n : Named) → slice_get ns k ≡ Some n → IsReached p n.of
reached_at p [] all k n at = absurd (none_some n at)
reached_at p (m ∷ ns) all zero n at = subst (λ (x : Named). IsReached p x.of) (some_is m n at) all.0
reached_at p (m ∷ ns) all (suc k) n at = reached_at p ns all.1 k n at

-- what the fields of a form name
fields_reached : (p : ProfileView) (e : ℕ) (parts : List PartView) → ((i : ℕ) (q : PartView) → slice_get parts i ≡ Some q → Reaches q.cell) → AllReached p (map (λ (f : Slot). record { of = closed [] f.of; decl = e }) (map (slot_of p) parts))
unfolding IsReached
fields_reached p e [] law = tt
fields_reached p e (part ∷ parts) law = ((part.cell, law 0 part refl, closed_none (cell_shape p part.cell)), fields_reached p e parts (λ i q at. law (suc i) q at))

named_reached : (p : ProfileView) (e k : ℕ) (f : FormView) (d : Declaration) → IsFormAt k f → f.function ≡ false → slice_get p.schema.decls e ≡ Some d → IsForm p f d → AllReached p (fields_named p.schema [] e)
named_reached p e k f d form own there is =
    subst (λ (fs : List Slot). AllReached p (map (λ (x : Slot). record { of = closed [] x.of; decl = e }) fs)) (sym (ap fields_in there ∙ is.fields))
    (fields_reached p e f.parts (λ i q at. field k i f q form own at refl))

-- what a type names that is reached
element_reached : (p : ProfileView) (c d : Cell) → Reaches c → item_cell c ≡ d → AllReached p (unnamed p.schema (cell_shape p d ∷ []))
unfolding IsReached
element_reached p c d is e = ((d, subst Reaches e (reaches_item c is), refl), tt)

names_reached : (p : ProfileView) → IsProfile p → (c : Cell) → Reaches c → AllReached p (names_of p.schema (cell_shape p c))
unfolding item_cell IsAlone
names_reached p good Whole is = tt
names_reached p good Signed is = tt
names_reached p good Long is = tt
names_reached p good Body is = tt
names_reached p good Key is = tt
names_reached p good Flags is = tt
names_reached p good Final is = tt
names_reached p good Query is = absurd (true≢false (asks Query is))
names_reached p good Ids is = element_reached p Ids Signed is refl
names_reached p good Bodies is = element_reached p Bodies Body is refl
names_reached p good (Many h) is = element_reached p (Many h) (One h) is refl
names_reached p good (ManyBare j) is = element_reached p (ManyBare j) (Bare j) is refl
names_reached p good (Bare j) is =
    let made = alone (Bare j) is in
    let f = member_form made.0 j made.1 in
    let m = is_member p good made.0 j f.0 f.1 in
    all_append p (fields_named p.schema [] (number_at p.indexes j)) [] (named_reached p (number_at p.indexes j) j f.0 m.0 f.1.there f.1.function m.1.there m.2) tt
names_reached p good (One h) is =
    all_flat p (fields_named p.schema []) (constructors_of p.schema (number_at p.heads h))
    (λ n e at.
    let m = (entries_are_declared p.schema).constructors (number_at p.heads h) no_shapes in
    let d = m.only e (n, at) in
    let f = member_form h (form_at p.indexes e) (member p good h e d.0 d.1) in
    named_reached p e (form_at p.indexes e) f.0 d.0 f.1.there f.1.function d.1.there (declared p good e (form_at p.indexes e) f.0 d.0 refl f.1.there d.1.there))

-- ---- how many they are

with_items : List PartView → List Cell
with_items [] = []
with_items (part ∷ parts) = part.cell ∷ item_cell part.cell ∷ with_items parts

all_cells : List FormView → List Cell
all_cells [] = []
all_cells (f ∷ fs) = with_items f.parts ++ all_cells fs

plan_cells : List Cell
plan_cells = root_cells ++ all_cells forms

IsIn : Cell → List Cell → Type 0
IsIn c cs = (i : ℕ) × (slice_get cs i ≡ Some c)

in_left : (c : Cell) (cs ds : List Cell) (i : ℕ) → slice_get cs i ≡ Some c → IsIn c (cs ++ ds)
unfolding IsIn
in_left c [] ds i at = absurd (none_some c at)
in_left c (x ∷ cs) ds zero at = (0, at)
in_left c (x ∷ cs) ds (suc i) at = let more = in_left c cs ds i at in (suc more.0, more.1)

in_right : (c : Cell) (cs ds : List Cell) → IsIn c ds → IsIn c (cs ++ ds)
unfolding IsIn
in_right c [] ds is = is
in_right c (x ∷ cs) ds is = let more = in_right c cs ds is in (suc more.0, more.1)

items_in : (parts : List PartView) (i : ℕ) (q : PartView) → slice_get parts i ≡ Some q → IsIn q.cell (with_items parts) × IsIn (item_cell q.cell) (with_items parts)
unfolding IsIn with_items
items_in [] i q at = absurd (none_some q at)
items_in (part ∷ parts) zero q at = let e = some_is part q at in ((0, ap (λ (x : PartView). Some x.cell) e), (1, ap (λ (x : PartView). Some (item_cell x.cell)) e))
items_in (part ∷ parts) (suc i) q at = let more = items_in parts i q at in ((suc (suc more.0.0), more.0.1), (suc (suc more.1.0), more.1.1))

forms_in : (c : Cell) (fs : List FormView) (k : ℕ) (f : FormView) → slice_get fs k ≡ Some f → IsIn c (with_items f.parts) → IsIn c (all_cells fs)
unfolding IsIn all_cells
forms_in c [] k f at is = absurd (none_some f at)
forms_in c (g ∷ fs) zero f at is = let here : IsIn c (with_items g.parts) = subst (λ (x : FormView). IsIn c (with_items x.parts)) (sym (some_is g f at)) is in in_left c (with_items g.parts) (all_cells fs) here.0 here.1
forms_in c (g ∷ fs) (suc k) f at is = in_right c (with_items g.parts) (all_cells fs) (forms_in c fs k f at is)

cell_in : (c : Cell) → Reaches c → IsIn c plan_cells
unfolding plan_cells
cell_in c (root i at) = in_left c root_cells (all_cells forms) i at
cell_in c (field k i f q form own at is) = in_right c root_cells (all_cells forms) (forms_in c forms k f form (subst (λ (x : Cell). IsIn x (with_items f.parts)) is (items_in f.parts i q at).0))
cell_in c (element k i f q form own at is) = in_right c root_cells (all_cells forms) (forms_in c forms k f form (subst (λ (x : Cell). IsIn x (with_items f.parts)) is (items_in f.parts i q at).1))

few_cells : length plan_cells < 1000
unfolding plan_cells root_cells all_cells with_items forms
few_cells = omega arith

-- how many of these types don't stand in ts
fresh : List Shape → List Shape → ℕ
fresh [] ts = 0
fresh (T ∷ Ts) ts = if is_among T ts then fresh Ts ts else suc (fresh Ts ts)

fresh_least : (Ts ts : List Shape) → fresh Ts ts ≤ length Ts
unfolding fresh
fresh_least [] ts = omega arith
fresh_least (T ∷ Ts) ts = by (is_among T ts) (fresh_least Ts ts)
  where
    by : (b : Bool) → fresh Ts ts ≤ length Ts → (if b then fresh Ts ts else suc (fresh Ts ts)) ≤ suc (length Ts)
    by true le = omega (arith, le)
    by false le = omega (arith, le)

fresh_more : (Ts ts us : List Shape) → fresh Ts (ts ++ us) ≤ fresh Ts ts
unfolding fresh
fresh_more [] ts us = omega arith
fresh_more (T ∷ Ts) ts us = by (is_among T ts) (is_among T (ts ++ us)) (among_more T ts us) (fresh_more Ts ts us)
  where
    by : (a b : Bool) → (a ≡ true → b ≡ true) → fresh Ts (ts ++ us) ≤ fresh Ts ts → (if b then fresh Ts (ts ++ us) else suc (fresh Ts (ts ++ us))) ≤ (if a then fresh Ts ts else suc (fresh Ts ts))
    by true true law le = le
    by true false law le = absurd (clash (law refl))
    by false true law le = omega (arith, le)
    by false false law le = omega (arith, le)

fresh_less : (Ts ts : List Shape) (U : Shape) (i : ℕ) → slice_get Ts i ≡ Some U → is_among U ts ≡ false → suc (fresh Ts (ts ++ U ∷ [])) ≤ fresh Ts ts
unfolding fresh
fresh_less [] ts U i at new = absurd (none_some U at)
fresh_less (T ∷ Ts) ts U zero at new = by (is_among T ts) (is_among T (ts ++ U ∷ [])) (ap (λ (V : Shape). is_among V ts) (some_is T U at) ∙ new) (ap (λ (V : Shape). is_among V (ts ++ U ∷ [])) (some_is T U at) ∙ among_here U ts []) (fresh_more Ts ts (U ∷ []))
  where
    by : (a b : Bool) → a ≡ false → b ≡ true → fresh Ts (ts ++ U ∷ []) ≤ fresh Ts ts → suc (if b then fresh Ts (ts ++ U ∷ []) else suc (fresh Ts (ts ++ U ∷ []))) ≤ (if a then fresh Ts ts else suc (fresh Ts ts))
    by true b e h le = absurd (true≢false e)
    by false false e h le = absurd (clash h)
    by false true e h le = omega (arith, le)
fresh_less (T ∷ Ts) ts U (suc i) at new = by (is_among T ts) (is_among T (ts ++ U ∷ [])) (among_more T ts (U ∷ [])) (fresh_less Ts ts U i at new)
  where
    by : (a b : Bool) → (a ≡ true → b ≡ true) → suc (fresh Ts (ts ++ U ∷ [])) ≤ fresh Ts ts → suc (if b then fresh Ts (ts ++ U ∷ []) else suc (fresh Ts (ts ++ U ∷ []))) ≤ (if a then fresh Ts ts else suc (fresh Ts ts))
    by true true law le = le
    by true false law le = absurd (clash (law refl))
    by false true law le = omega (arith, le)
    by false false law le = omega (arith, le)

plan_types : ProfileView → List Shape
plan_types p = map (cell_shape p) plan_cells

type_in : (p : ProfileView) (cs : List Cell) (T : Shape) (c : Cell) (i : ℕ) → slice_get cs i ≡ Some c → T ≡ cell_shape p c → slice_get (map (cell_shape p) cs) i ≡ Some T
type_in p [] T c i at is = absurd (none_some c at)
type_in p (d ∷ cs) T c zero at is = ap (λ (x : Cell). Some (cell_shape p x)) (some_is d c at) ∙ ap Some (sym is)
type_in p (d ∷ cs) T c (suc i) at is = type_in p cs T c i at is

-- those that are reached, and those that aren't yet
weight : ProfileView → List Named → ℕ
weight p ns = length ns + fresh (plan_types p) (types_in ns)

meet_weighs : (p : ProfileView) (ns : List Named) (n : Named) → IsReached p n.of → weight p (meet ns n) ≤ weight p ns
unfolding weight plan_types IsReached IsIn
meet_weighs p ns n (c, is, e) = by (is_among n.of (types_in ns)) refl
  where
    by : (b : Bool) → is_among n.of (types_in ns) ≡ b → weight p (if b then ns else ns ++ n ∷ []) ≤ weight p ns
    by true old = omega arith
    by false new =
        let i = cell_in c is in
        let at = type_in p plan_cells n.of c i.0 i.1 e in
        let less = fresh_less (map (cell_shape p) plan_cells) (types_in ns) n.of i.0 at new in
        let long = length-append ns (n ∷ []) in
        rw (map-append (λ (m : Named). m.of) ns (n ∷ [])) (omega (arith, less, long))

meet_reached : (p : ProfileView) (ns : List Named) (n : Named) → AllReached p ns → IsReached p n.of → AllReached p (meet ns n)
meet_reached p ns n all is = by (is_among n.of (types_in ns))
  where
    by : (b : Bool) → AllReached p (if b then ns else ns ++ n ∷ [])
    by true = all
    by false = all_append p ns (n ∷ []) all (is, tt)

all_met : (p : ProfileView) (ms ns : List Named) → AllReached p ns → AllReached p ms → AllReached p (meet_all ns ms) × (weight p (meet_all ns ms) ≤ weight p ns)
all_met p [] ns all more = (all, omega arith)
all_met p (m ∷ ms) ns all more =
    let rest = all_met p ms (meet ns m) (meet_reached p ns m all more.0) more.1 in
    let here = meet_weighs p ns m more.0 in
    (rest.0, omega (arith, rest.1, here))

named_all : (p : ProfileView) → IsProfile p → (ns : List Named) → AllReached p ns → (k : ℕ) (o : Option Named) → slice_get ns k ≡ o → AllReached p (named_by p.schema o)
unfolding IsReached
named_all p good ns all k None at = tt
named_all p good ns all k (Some n) at =
    let r = reached_at p ns all k n at in
    subst (λ (T : Shape). AllReached p (names_of p.schema T)) (sym r.2) (names_reached p good r.0 r.1)

roots_reached : (p : ProfileView) → AllReached p (unnamed p.schema (root_shapes p))
unfolding IsReached root_cells
roots_reached p = ((One FRAME_TYPE, root 0 refl, refl), ((One STEP_TYPE, root 1 refl, refl), ((One CLIENT_TYPE, root 2 refl, refl), tt)))

steps_reached : (p : ProfileView) → IsProfile p → (n : ℕ) → AllReached p (reached p.schema (root_shapes p) n) × (weight p (reached p.schema (root_shapes p) n) ≤ weight p (unnamed p.schema (root_shapes p)))
unfolding reached
steps_reached p good zero = (roots_reached p, omega arith)
steps_reached p good (suc n) =
    let before = steps_reached p good n in
    let ns = reached p.schema (root_shapes p) n in
    let more = all_met p (named_by p.schema (slice_get ns n)) ns before.0 (named_all p good ns before.0 n (slice_get ns n) refl) in
    (more.0, omega (arith, more.1, before.1))

few_reached : (p : ProfileView) → IsProfile p → (n : ℕ) → length (reached p.schema (root_shapes p) n) ≤ 1003
unfolding weight plan_types
few_reached p good n =
    let steps = steps_reached p good n in
    let least = fresh_least (map (cell_shape p) plan_cells) (types_in (unnamed p.schema (root_shapes p))) in
    omega (arith, steps.1, least, length-map plan_cells (cell_shape p), few_cells)

-- ---- how deep

shallow : (p : ProfileView) (c : Cell) → nat_lt MAX_LEVELS (levels (cell_shape p c)) ≡ false
shallow p Whole = refl
shallow p Signed = refl
shallow p Long = refl
shallow p Body = refl
shallow p Key = refl
shallow p Ids = refl
shallow p Bodies = refl
shallow p Flags = refl
shallow p Final = refl
shallow p (Many h) = refl
shallow p (One h) = refl
shallow p (Bare j) = refl
shallow p (ManyBare j) = refl
shallow p Query = refl

none_deep : (p : ProfileView) (ns : List Named) (n : ℕ) → AllReached p ns → first_too_deep (take n ns) ≡ None
unfolding IsReached
none_deep p ns zero all = refl
none_deep p [] (suc n) all = refl
none_deep p (m ∷ ns) (suc n) all =
    ap (λ (b : Bool). if b then Some m.decl else first_too_deep (take n ns)) (ap (λ (T : Shape). nat_lt MAX_LEVELS (levels T)) all.0.2 ∙ shallow p all.0.0) ∙ none_deep p ns n all.1

-- ---- the answer

pub has_plan : (p : ProfileView) → IsProfile p → answer p.schema (root_shapes p) ≡ Ok (plan_of p.schema (length (root_shapes p)) (types_in (all_reached p.schema (root_shapes p))))
unfolding answer all_reached
has_plan p good =
    let ns = reached p.schema (root_shapes p) (MAX_INSTANCES + 1) in
    let few : nat_lt MAX_INSTANCES (length ns) ≡ false = grind (arith, nat_tests, few_reached p good (MAX_INSTANCES + 1)) in
    ap (answer_by p.schema (length (root_shapes p)) ns) (none_deep p ns (MAX_INSTANCES + 1) (steps_reached p good (MAX_INSTANCES + 1)).0)
    ∙ ap (λ (b : Bool). if b then Err TooManyInstances else Ok (plan_of p.schema (length (root_shapes p)) (types_in ns))) few
