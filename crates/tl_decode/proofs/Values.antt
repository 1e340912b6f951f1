-- Values, read by parts.
use Rattle.std.proofs.Common.{◌≡◌, ℕ, zero, suc, ◌<◌, ◌≤◌, ◌^◌, List, [], ◌∷◌, length, map, Option, Some, None, Result, Ok, Err, refl, ap, ◌∙◌, arith, Bool, true, false, lt-ltb, le-ltb}
use Rattle.std.proofs.lemmas.Bool.{eq-eqb, ne_eqb}
use Rattle.std.specs.Prelude.{◌≢◌, slice_get}
use Rattle.tl_types.specs.Values.{ValueView, ValueViews, list, values_of, no_values}
use Rattle.tl_types.specs.Values as value
use Rattle.tl_schema.specs.Types.{Shape, shapes_of}
use Rattle.tl_schema.specs.Closing.{list_of_shapes}
use Rattle.tl_schema.specs.Schemas.{Slot, Declaration}
use Rattle.tl_schema.specs.Types as type
use Rattle.tl_schema.specs.Seen.{slot, declaration}
use Rattle.tl_types.proofs.Members.{fields_there}
use Rattle.tl_types.specs.Seen.{view}
use Rattle.tl_numbers.specs.declared.numbers.TheConstants.{BOXED_VECTOR}
use Rattle.tl_types.specs.inner.Reading.{Spot, Read, Reader, ◌>>=◌, word_at, plain_at, deep_at, value_at, is_deep, long_list_at, wide_at, list_at, elements_at, each_at, fields_at, boxed_at, by_number_at, numbered_at, record_at, bare_at, fields_in, wrong_number}
use Rattle.tl_types.specs.declared.cause.Cause.{Cause}
use Rattle.tl_types.specs.declared.cause.Cause.TheVariants.{TooDeep, BadCount}
use Rattle.tl_schema.specs.declared.schema.Entry.{Entry}
use Rattle.tl_types.specs.declared.value.Value.{Value}
use Rattle.tl_decode.specs.declared.fault.DecodeFault.{DecodeFault}
use Rattle.tl_decode.specs.declared.fault.DecodeFault.TheVariants.{Refused}
use Rattle.tl_decode.specs.inner.Steps.{ReadsAs}
use Rattle.tl_decode.proofs.Steps.{then_read, then_fails, makes, gives, refuses, as_read}

abbrev Word : Option (List ℕ) → Option (List ℕ) → ℕ → ℕ → Result ℕ DecodeFault → Type 0
Word a b p q res = ReadsAs (λ (w : ℕ). w) a b p q res word_at

-- ---- any type

pub plain_read : {X Y : Type 0} (see : X → Y) (a b : Option (List ℕ)) (p q : ℕ) (x : X) (z : Value) (f : Spot → Read Y) (make : Y → ValueView) (T U : Shape) → T ≡ U → ((s : Spot) → plain_at U s ≡ (f s >>= λ y. Ok (make y.0, y.1))) → ReadsAs see a b p q (Ok x) f → view z ≡ make (see x) → ReadsAs view a b p q (Ok z) (plain_at T)
plain_read see a b p q x z f make T U is e h seen =
    as_read view a b p q (Ok z) _ (plain_at T) (makes see view a b p q x z f make h seen) (λ s. ap (λ (t : Shape). plain_at t s) is ∙ e s)

pub plain_fails : {X Y : Type 0} (see : X → Y) (a b : Option (List ℕ)) (p q r : ℕ) (e : DecodeFault) (f : Spot → Read Y) (make : Y → ValueView) (T U : Shape) → T ≡ U → ((s : Spot) → plain_at U s ≡ (f s >>= λ y. Ok (make y.0, y.1))) → ReadsAs {X = X} see a b p q (Err e) f → ReadsAs view a b p r (Err e) (plain_at T)
plain_fails see a b p q r e f make T U is eq h =
    as_read view a b p r (Err e) _ (plain_at T) (then_fails see view a b p q r e f (λ _ y. Ok (make y.0, y.1)) h) (λ s. ap (λ (t : Shape). plain_at t s) is ∙ eq s)

pub plain_gives : (a : Option (List ℕ)) (p : ℕ) (z : Value) (t : ValueView) (T U : Shape) → T ≡ U → ((s : Spot) → plain_at U s ≡ Ok (t, s)) → view z ≡ t → ReadsAs view a a p p (Ok z) (plain_at T)
plain_gives a p z t T U is e seen = as_read view a a p p (Ok z) _ (plain_at T) (gives view a p z t seen) (λ s. ap (λ (u : Shape). plain_at u s) is ∙ e s)

pub plain_as : (a b : Option (List ℕ)) (p q : ℕ) (res : Result Value DecodeFault) (T U : Shape) → T ≡ U → ReadsAs view a b p q res (plain_at U) → ReadsAs view a b p q res (plain_at T)
plain_as a b p q res T U is h = as_read view a b p q res (plain_at U) (plain_at T) h (λ s. ap (λ (u : Shape). plain_at u s) is)

pub deep_as : (a b : Option (List ℕ)) (p q : ℕ) (res : Result Value DecodeFault) (ds : List Declaration) (f : Shape → Reader) (T U : Shape) → T ≡ U → ReadsAs view a b p q res (deep_at ds f U) → ReadsAs view a b p q res (deep_at ds f T)
deep_as a b p q res ds f T U is h = as_read view a b p q res (deep_at ds f U) (deep_at ds f T) h (λ s. ap (λ (u : Shape). deep_at ds f u s) is)

pub value_plain : (a b : Option (List ℕ)) (p q n : ℕ) (res : Result Value DecodeFault) (ds : List Declaration) (T : Shape) → is_deep T ≡ false → ReadsAs view a b p q res (plain_at T) → ReadsAs view a b p q res (value_at ds n T)
unfolding value_at
value_plain a b p q zero res ds T plain h = as_read view a b p q res (plain_at T) (value_at ds zero T) h (λ s. rw plain refl)
value_plain a b p q (suc n) res ds T plain h = as_read view a b p q res (plain_at T) (value_at ds (suc n) T) h (λ s. rw plain refl)

pub value_too_deep : (a : Option (List ℕ)) (p q n : ℕ) (ds : List Declaration) (T : Shape) → is_deep T ≡ true → n ≡ 0 → ReadsAs view a a p q (Err (Refused p TooDeep)) (value_at ds n T)
unfolding value_at
value_too_deep None p q n ds T deep none = tt
value_too_deep (Some bytes) p q n ds T deep none = rw (none, deep) refl

pub value_deep : (a b : Option (List ℕ)) (p q n m : ℕ) (res : Result Value DecodeFault) (ds : List Declaration) (T : Shape) → is_deep T ≡ true → n ≡ suc m → ReadsAs view a b p q res (deep_at ds (value_at ds m) T) → ReadsAs view a b p q res (value_at ds n T)
unfolding value_at
value_deep a b p q n m res ds T deep some h = as_read view a b p q res (deep_at ds (value_at ds m) T) (value_at ds n T) h (λ s. rw (some, deep) refl)

-- ---- lists

pub wide_fails : (a b : Option (List ℕ)) (p q r : ℕ) (e : DecodeFault) (f : Reader) → Word a b p q (Err e) → ReadsAs view a b p r (Err e) (long_list_at f)
unfolding long_list_at
wide_fails a b p q r e f h = then_fails (λ (w : ℕ). w) view a b p q r e word_at (λ place w. wide_at f place w.0 w.1) h

pub wide_wrong : (a b : Option (List ℕ)) (p q r w : ℕ) (cause : Cause) (f : Reader) → Word a b p q (Ok w) → w ≢ BOXED_VECTOR → cause ≡ wrong_number w → ReadsAs view a b p r (Err (Refused p cause)) (long_list_at f)
unfolding long_list_at wide_at
wide_wrong a b p q r w cause f h other is =
    then_read (λ (w : ℕ). w) view a b b p q r w (Err (Refused p cause)) word_at (λ place w. wide_at f place w.0 w.1) h (rw (ne_eqb w BOXED_VECTOR other, is) (refuses view b q r p (wrong_number w)))

pub wide_read : (a b c : Option (List ℕ)) (p q r w : ℕ) (res : Result Value DecodeFault) (f : Reader) → Word a b p q (Ok w) → w ≡ BOXED_VECTOR → ReadsAs view b c q r res (list_at f) → ReadsAs view a c p r res (long_list_at f)
unfolding long_list_at wide_at
wide_read a b c p q r w res f h is rest =
    then_read (λ (w : ℕ). w) view a b c p q r w res word_at (λ place w. wide_at f place w.0 w.1) h (rw (eq-eqb w BOXED_VECTOR is) rest)

pub list_fails : (a b : Option (List ℕ)) (p q r : ℕ) (e : DecodeFault) (f : Reader) → Word a b p q (Err e) → ReadsAs view a b p r (Err e) (list_at f)
unfolding list_at
list_fails a b p q r e f h = then_fails (λ (w : ℕ). w) view a b p q r e word_at (λ place w. elements_at f place w.0 w.1) h

pub list_many : (a b : Option (List ℕ)) (p q r k : ℕ) (f : Reader) → Word a b p q (Ok k) → 2 ^ 31 ≤ k → ReadsAs view a b p r (Err (Refused p (BadCount k))) (list_at f)
unfolding list_at elements_at
list_many a b p q r k f h many =
    then_read (λ (w : ℕ). w) view a b b p q r k (Err (Refused p (BadCount k))) word_at (λ place w. elements_at f place w.0 w.1) h (rw (le-ltb k (2 ^ 31) many) (refuses view b q r p (BadCount k)))

pub list_inner : {X : Type 0} (see : X → List ValueView) (a b c : Option (List ℕ)) (p q r s k : ℕ) (e : DecodeFault) (f : Reader) → Word a b p q (Ok k) → k < 2 ^ 31 → ReadsAs {X = X} see b c q r (Err e) (each_at f k []) → ReadsAs view a c p s (Err e) (list_at f)
unfolding list_at elements_at
list_inner see a b c p q r s k e f h few got =
    then_read (λ (w : ℕ). w) view a b c p q s k (Err e) word_at (λ place w. elements_at f place w.0 w.1) h (rw (lt-ltb k (2 ^ 31) few) (then_fails see view b c q r s e (each_at f k []) (λ _ x. Ok (list (values_of x.0), x.1)) got))

pub list_read : {X : Type 0} (see : X → List ValueView) (a b c : Option (List ℕ)) (p q r k : ℕ) (x : X) (z : Value) (f : Reader) → Word a b p q (Ok k) → k < 2 ^ 31 → ReadsAs see b c q r (Ok x) (each_at f k []) → view z ≡ list (values_of (see x)) → ReadsAs view a c p r (Ok z) (list_at f)
unfolding list_at elements_at
list_read see a b c p q r k x z f h few got seen =
    then_read (λ (w : ℕ). w) view a b c p q r k (Ok z) word_at (λ place w. elements_at f place w.0 w.1) h (rw (lt-ltb k (2 ^ 31) few) (makes see view b c q r x z (each_at f k []) (λ ts. list (values_of ts)) got seen))

-- ---- records and calls

abbrev pub Fields : Type 0
Fields = List Slot → Spot → Read (List ValueView)

pub number_fails : (a b : Option (List ℕ)) (p q r : ℕ) (e : DecodeFault) (f : Fields) (make : ℕ → ValueViews → ValueView) (ds : List Declaration) (find : ℕ → Option ℕ) → Word a b p q (Err e) → ReadsAs view a b p r (Err e) (by_number_at f make ds find)
unfolding by_number_at
number_fails a b p q r e f make ds find h = then_fails (λ (w : ℕ). w) view a b p q r e word_at (λ place w. numbered_at f make ds place w.0 (find w.0) w.1) h

pub number_wrong : (a b : Option (List ℕ)) (p q r w : ℕ) (cause : Cause) (f : Fields) (make : ℕ → ValueViews → ValueView) (ds : List Declaration) (find : ℕ → Option ℕ) → Word a b p q (Ok w) → None ≡ find w → cause ≡ wrong_number w → ReadsAs view a b p r (Err (Refused p cause)) (by_number_at f make ds find)
unfolding by_number_at numbered_at
number_wrong a b p q r w cause f make ds find h none is =
    then_read (λ (w : ℕ). w) view a b b p q r w (Err (Refused p cause)) word_at (λ place w. numbered_at f make ds place w.0 (find w.0) w.1) h (rw (← none, is) (refuses view b q r p (wrong_number w)))

pub number_inner : {X : Type 0} (see : X → List ValueView) (a b c : Option (List ℕ)) (p q r s w i : ℕ) (e : DecodeFault) (f : Fields) (make : ℕ → ValueViews → ValueView) (ds : List Declaration) (find : ℕ → Option ℕ) (ks : List Slot) → Word a b p q (Ok w) → Some i ≡ find w → fields_in ds i ≡ ks → ReadsAs {X = X} see b c q r (Err e) (f ks) → ReadsAs view a c p s (Err e) (by_number_at f make ds find)
unfolding by_number_at numbered_at record_at
number_inner see a b c p q r s w i e f make ds find ks h some kinds got =
    then_read (λ (w : ℕ). w) view a b c p q s w (Err e) word_at (λ place w. numbered_at f make ds place w.0 (find w.0) w.1) h (rw (← some, kinds) (then_fails see view b c q r s e (f ks) (λ _ x. Ok (make i (values_of x.0), x.1)) got))

pub number_read : {X : Type 0} (see : X → List ValueView) (a b c : Option (List ℕ)) (p q r w i : ℕ) (x : X) (z : Value) (f : Fields) (make : ℕ → ValueViews → ValueView) (ds : List Declaration) (find : ℕ → Option ℕ) (ks : List Slot) → Word a b p q (Ok w) → Some i ≡ find w → fields_in ds i ≡ ks → ReadsAs see b c q r (Ok x) (f ks) → view z ≡ make i (values_of (see x)) → ReadsAs view a c p r (Ok z) (by_number_at f make ds find)
unfolding by_number_at numbered_at record_at
number_read see a b c p q r w i x z f make ds find ks h some kinds got seen =
    then_read (λ (w : ℕ). w) view a b c p q r w (Ok z) word_at (λ place w. numbered_at f make ds place w.0 (find w.0) w.1) h (rw (← some, kinds) (makes see view b c q r x z (f ks) (λ ts. make i (values_of ts)) got seen))

pub bare_fails : {X : Type 0} (see : X → List ValueView) (a b : Option (List ℕ)) (p q r i : ℕ) (e : DecodeFault) (f : Fields) (ds : List Declaration) (ks : List Slot) → fields_in ds i ≡ ks → ReadsAs {X = X} see a b p q (Err e) (f ks) → ReadsAs view a b p r (Err e) (bare_at ds f i)
unfolding bare_at record_at
bare_fails see a b p q r i e f ds ks kinds got =
    as_read view a b p r (Err e) _ (bare_at ds f i) (then_fails see view a b p q r e (f ks) (λ _ x. Ok (value.node i (values_of x.0), x.1)) got) (λ s. rw kinds refl)

pub bare_read : {X : Type 0} (see : X → List ValueView) (a b : Option (List ℕ)) (p q i : ℕ) (x : X) (z : Value) (f : Fields) (ds : List Declaration) (ks : List Slot) → fields_in ds i ≡ ks → ReadsAs see a b p q (Ok x) (f ks) → view z ≡ value.node i (values_of (see x)) → ReadsAs view a b p q (Ok z) (bare_at ds f i)
unfolding bare_at record_at
bare_read see a b p q i x z f ds ks kinds got seen =
    as_read view a b p q (Ok z) _ (bare_at ds f i) (makes see view a b p q x z (f ks) (λ ts. value.node i (values_of ts)) got seen) (λ s. rw kinds refl)

pub bare_none : (a : Option (List ℕ)) (p i : ℕ) (z : Value) (f : Fields) (ds : List Declaration) → fields_in ds i ≡ [] → ((s : Spot) → f [] s ≡ Ok ([], s)) → view z ≡ value.node i no_values → ReadsAs view a a p p (Ok z) (bare_at ds f i)
unfolding bare_at record_at
bare_none a p i z f ds kinds none seen = as_read view a a p p (Ok z) _ (bare_at ds f i) (gives view a p z (value.node i no_values) seen) (λ s. rw (kinds, none s) refl)

-- the fields of the entry at i
pub fields_are : (ds : List Declaration) (i : ℕ) (e : Entry) → slice_get ds i ≡ Some (declaration e) → fields_in ds i ≡ map slot e.fields.items
fields_are ds i e there = fields_there ds i (declaration e) there

pub fields_past : (ds : List Declaration) (i : ℕ) → length ds ≤ i → fields_in ds i ≡ []
fields_past [] i le = refl
fields_past (d ∷ ds) zero le = absurd (omega arith)
fields_past (d ∷ ds) (suc i) le = fields_past ds i (omega arith)

deep_is : {P : Type 0} (b : Bool) → b ≡ true → b ≡ false → P
deep_is true e f = absurd cc
deep_is false e f = absurd cc

pub deep_plain : (a b : Option (List ℕ)) (p q : ℕ) (res : Result Value DecodeFault) (ds : List Declaration) (f : Shape → Reader) (T : Shape) → is_deep T ≡ false → ReadsAs view a b p q res (plain_at T) → ReadsAs view a b p q res (deep_at ds f T)
unfolding deep_at
deep_plain a b p q res ds f (type.vector wide T) e h = deep_is true refl e
deep_plain a b p q res ds f (type.boxed h args) e got = deep_is true refl e
deep_plain a b p q res ds f (type.bare i args) e h = deep_is true refl e
deep_plain a b p q res ds f type.call e h = deep_is true refl e
deep_plain a b p q res ds f T e h = h

list_again : (ts : List Shape) → list_of_shapes (shapes_of ts) ≡ ts
list_again [] = refl
list_again (t ∷ ts) = ap (λ (us : List Shape). t ∷ us) (list_again ts)

pub deep_boxed : (a b : Option (List ℕ)) (p q : ℕ) (res : Result Value DecodeFault) (ds : List Declaration) (f : Shape → Reader) (h : ℕ) (args : List Shape) → ReadsAs view a b p q res (boxed_at ds (fields_at f args []) h) → ReadsAs view a b p q res (deep_at ds f (type.boxed h (shapes_of args)))
unfolding deep_at
deep_boxed a b p q res ds f h args got = as_read view a b p q res (boxed_at ds (fields_at f args []) h) (deep_at ds f (type.boxed h (shapes_of args))) got (λ s. ap (λ (us : List Shape). boxed_at ds (fields_at f us []) h s) (list_again args))

pub deep_bare : (a b : Option (List ℕ)) (p q : ℕ) (res : Result Value DecodeFault) (ds : List Declaration) (f : Shape → Reader) (i : ℕ) (args : List Shape) → ReadsAs view a b p q res (bare_at ds (fields_at f args []) i) → ReadsAs view a b p q res (deep_at ds f (type.bare i (shapes_of args)))
unfolding deep_at
deep_bare a b p q res ds f i args got = as_read view a b p q res (bare_at ds (fields_at f args []) i) (deep_at ds f (type.bare i (shapes_of args))) got (λ s. ap (λ (us : List Shape). bare_at ds (fields_at f us []) i s) (list_again args))
