-- Names of declarations: which are known, and whether one more is taken.
use Rattle.std.proofs.Common.{◌≡◌, ◌⊎◌, inl, inr, ℕ, ◌+◌, ◌-◌, ◌<◌, ◌≤◌, Bool, true, false, not, ◌||◌, Option, None, if◌then◌else◌, List, [], ◌++◌, map, length, bytes_eq, slice_get, Some, refl, ap, sym, ◌∙◌, subst, true≢false, get_or, length-append, arith}
use Rattle.std.specs.Bool.{Decides}
use Rattle.std.specs.Option.{is_none, is_some, unwrap_or}
use Rattle.std.proofs.lemmas.Bool.{cases_eq, or_cases}
use Rattle.std.proofs.lemmas.Option.{slice_get_within, same_Some}
use Rattle.std.proofs.lemmas.Slice.Eq.{bytes_eq-Decides}
use Rattle.tl_program.specs.Program.{DeclText, FieldText, field_text}
use Rattle.tl_program.specs.declared.program.Field.{Field}
use Rattle.tl_names.specs.Writing.{At}
use Rattle.tl_names.specs.NameLists.{IsRepeat}
use Rattle.tl_names.specs.NameIndexes.{Notes, index_among}
use Rattle.tl_schema.specs.SameName.{SameName, declared, part, vector, part_names}
use Rattle.tl_schema.specs.inner.SameNameSteps.{is_noted, names_among, AddsName, MakesVector, NotesName}
use Rattle.tl_schema.specs.declared.same_name.Known.{Known}
use Rattle.std.proofs.lemmas.List.{length-map}
use Rattle.tl_names.proofs.Maps.{slice_get_made, slice_get_item}
use Rattle.tl_schema.proofs.ListParts.{slice_get_after}

-- ---- names that are known

-- one of the first i declarations is of this kind and has this name
pub record IsKnown (ds : List DeclText) (i : ℕ) (function : Bool) (name : List ℕ) : Type 0 where
  pub j : ℕ
  pub c : DeclText
  pub before : j < i
  pub there : At ds j c
  pub kind : c.function ≡ function
  pub named : c.name ≡ name

-- the names of the first i declarations are known
abbrev pub KnowsFirst : List DeclText → ℕ → Known → Type 0
KnowsFirst ds i known = (function : Bool) (name : List ℕ) → Decides (is_noted (names_among function known) name) (IsKnown ds i function name)

pub knows_none : (ds : List DeclText) (known : Known) → known.functions ≡ [] → known.constructors ≡ [] → KnowsFirst ds 0 known
knows_none ds known no_functions no_constructors true name = (λ h. absurd (true≢false (sym h ∙ ap (λ ns. is_noted ns name) no_functions)), λ k. absurd (let b = k.before in omega arith))
knows_none ds known no_functions no_constructors false name = (λ h. absurd (true≢false (sym h ∙ ap (λ ns. is_noted ns name) no_constructors)), λ k. absurd (let b = k.before in omega arith))

-- what noting a name tells of each
pub notes_name : (old new : List (List ℕ × ℕ)) (name : List ℕ) (at : ℕ) → Notes old new name at → NotesName old new name
notes_name old new name at notes n = ap is_some (notes n) ∙ by (bytes_eq n name)
  where
    by : (b : Bool) → is_some (if b then Some (unwrap_or (index_among old n) at) else index_among old n) ≡ (b || is_noted old n)
    by true = refl
    by false = refl

pub known_before : (o : Option ℕ) (fresh : Bool) → fresh ≡ is_none o → not fresh ≡ is_some o
known_before None fresh is = ap not is
known_before (Some k) fresh is = ap not is

pub or_last : (a b : Bool) → (a || b) ≡ (b || (a || false))
or_last true true = refl
or_last true false = refl
or_last false true = refl
or_last false false = refl

or_true : (b : Bool) → (b || true) ≡ true
or_true true = refl
or_true false = refl

same_or_not : (f g : Bool) → (f ≡ g) ⊎ (f ≡ not g)
same_or_not true true = inl refl
same_or_not true false = inr refl
same_or_not false true = inr refl
same_or_not false false = inl refl

never_not : (b : Bool) → b ≡ not b → ⊥
never_not true e = true≢false e
never_not false e = true≢false (sym e)

module _ (ds : List DeclText) (i : ℕ) (d : DeclText) (at : At ds i d) (old new : Known) (is_old : Bool) (adds : AddsName old new d is_old) (knows : KnowsFirst ds i old) where
  same_here : (c : DeclText) → At ds i c → c ≡ d
  same_here c there = same_Some c d (sym there ∙ at)

  before_more : (function : Bool) (name : List ℕ) → IsKnown ds i function name → IsKnown ds (i + 1) function name
  before_more function name k = record { j = k.j; c = k.c; before = (let b = k.before in omega arith); there = k.there; kind = k.kind; named = k.named }

  module _ (function : Bool) (name : List ℕ) where
    -- what is known of one more is known of those before it, or is that one
    earlier_or_last : IsKnown ds (i + 1) function name → IsKnown ds i function name ⊎ ((d.function ≡ function) × (d.name ≡ name))
    earlier_or_last k = elim (cases_eq k.j i) [
      | inl e ↦ inr (let same : k.c ≡ d = same_here k.c (sym (ap (slice_get ds) e) ∙ k.there) in (ap (λ (x : DeclText). x.function) (sym same) ∙ k.kind, ap (λ (x : DeclText). x.name) (sym same) ∙ k.named))
      | inr ne ↦ inl (record { j = k.j; c = k.c; before = (let b = k.before in omega arith); there = k.there; kind = k.kind; named = k.named })
    ]

    of_its_kind : function ≡ d.function → Decides (is_noted (names_among function new) name) (IsKnown ds (i + 1) function name)
    of_its_kind e =
        let now : NotesName (names_among function old) (names_among function new) d.name = subst (λ f. NotesName (names_among f old) (names_among f new) d.name) (sym e) adds.added in (
          λ h. elim (or_cases _ _ (sym (now name) ∙ h)) [
            | inl is ↦ record { j = i; c = d; before = omega arith; there = at; kind = sym e; named = sym ((bytes_eq-Decides name d.name).0 is) }
            | inr there ↦ before_more function name ((knows function name).0 there)
          ],
          λ k. now name ∙ elim (earlier_or_last k) [
            | inl before ↦ ap (λ b. bytes_eq name d.name || b) ((knows function name).1 before) ∙ or_true (bytes_eq name d.name)
            | inr last ↦ ap (λ b. b || is_noted (names_among function old) name) ((bytes_eq-Decides name d.name).1 (sym last.1))
          ],
        )

    of_the_other : function ≡ not d.function → Decides (is_noted (names_among function new) name) (IsKnown ds (i + 1) function name)
    of_the_other e =
        let now : names_among function new ≡ names_among function old = ap (λ f. names_among f new) e ∙ adds.others ∙ ap (λ f. names_among f old) (sym e) in (
          λ h. before_more function name ((knows function name).0 (sym (ap (λ ns. is_noted ns name) now) ∙ h)),
          λ k. ap (λ ns. is_noted ns name) now ∙ elim (earlier_or_last k) [
            | inl before ↦ (knows function name).1 before
            | inr last ↦ absurd (never_not d.function (last.0 ∙ e))
          ],
        )

  pub knows_more : KnowsFirst ds (i + 1) new
  knows_more function name = elim (same_or_not function d.function) [ inl e ↦ of_its_kind function name e | inr e ↦ of_the_other function name e ]

  -- ---- whether the name is taken

  pub taken : is_old ≡ true → SameName ds i
  taken h =
      let k = (knows d.function d.name).0 (sym adds.known ∙ h) in
      declared (record { earlier = k.j; c = k.c; d = d; before = k.before; there = k.there; here = at; kind = k.kind; name = k.named })

  pub free : is_old ≡ false → ((n : ℕ) → ¬ IsRepeat (part_names d) n) → ¬ MakesVector d → ¬ SameName ds i
  free new_name apart other (declared b) =
      let same : b.d ≡ d = same_here b.d b.here in
      let k : IsKnown ds i d.function d.name = record { j = b.earlier; c = b.c; before = b.before; there = b.there; kind = b.kind ∙ ap (λ (x : DeclText). x.function) same; named = b.name ∙ ap (λ (x : DeclText). x.name) same } in
      true≢false (sym ((knows d.function d.name).1 k) ∙ sym adds.known ∙ new_name)
  free new_name apart other (part c n here r) = apart n (subst (λ (x : DeclText). IsRepeat (part_names x) n) (same_here c here) r)
  free new_name apart other (vector c args here constructor own no_variable made) =
      other (subst MakesVector (same_here c here) (record { constructor = constructor; own = own; no_variable = no_variable; made = (args, made) }))

-- ---- names of variables and fields

pub variable_or_field : (vars : List (List ℕ)) (fields : List Field) (n i : ℕ) (f : Field) → n ≡ length vars → n ≤ i → i < length (vars ++ map (λ (g : FieldText). g.name) (map field_text fields)) → f ≡ get_or fields (i - n) f → slice_get (vars ++ map (λ (g : FieldText). g.name) (map field_text fields)) i ≡ Some f.name
variable_or_field vars fields n i f count past within is =
    let all = map (λ (g : FieldText). g.name) (map field_text fields) in
    let below : i - n < length fields = omega (arith, within, length-append vars all, length-map fields field_text, length-map (map field_text fields) (λ (g : FieldText). g.name)) in
    slice_get_after vars all i (omega arith) ∙ ap (λ k. slice_get all (i - k)) (sym count) ∙ slice_get_made (λ (g : FieldText). g.name) (map field_text fields) (i - n) (field_text f) (slice_get_item field_text fields (i - n) f below is)

-- ---- constructors of `Vector`

pub makes_vector : (ds : List DeclText) (i : ℕ) (d : DeclText) → At ds i d → MakesVector d → SameName ds i
makes_vector ds i d at m = vector d m.made.0 at m.constructor m.own m.no_variable m.made.1

pub same_name_within : (ds : List DeclText) (k : ℕ) → SameName ds k → k < length ds
same_name_within ds k (declared b) = slice_get_within ds k b.d b.here
same_name_within ds k (part d i at r) = slice_get_within ds k d at
same_name_within ds k (vector d args at constructor own no_variable made) = slice_get_within ds k d at
