-- Where nothing that a type reaches breaks, each declaration that it reaches has moved.
use Rattle.std.proofs.Common.{◌≡◌, ◌≢◌, ◌⊎◌, inl, inr, ℕ, zero, suc, ◌+◌, ◌<◌, List, [], ◌∷◌, map, length, position, get_or, slice_get, Option, Some, None, unwrap_or, refl, ap, sym, ◌∙◌, subst, Bool, true, false, ◌&&◌, ◌==◌, not, true≢false, nat_lt, bytes_eq, if◌then◌else◌, arith, eqb-true, eq-eqb}
use Rattle.std.proofs.lemmas.Bool.{cases_eq, cases_order, or_cases, ltb-true}
use Rattle.std.proofs.lemmas.List.Quantifiers.{position-Some}
use Rattle.std.proofs.lemmas.Option.{none-some, same_Some, slice_get_within, slice_get-get_or}
use Rattle.tl_graph.specs.Firsts.{First}
use Rattle.tl_program.specs.Program.{DeclText, FieldText}
use Rattle.tl_names.specs.Writing.{At}
use Rattle.tl_names.specs.Indexes.{types_of}
use Rattle.tl_names.proofs.Indexes.{HoldsAt}
use Rattle.tl_names.proofs.Positions.{first_position}
use Rattle.tl_schema.specs.CheckedPrograms.{IsSchema}
use Rattle.tl_schema.specs.Formed.{IsMember, IsFunction, IsOwn, IsFormed, IsFormedOver, AreArguments, field_variables}
use Rattle.tl_schema.specs.Meanings.{slot_of}
use Rattle.tl_schema.specs.SameName.{part_names}
use Rattle.tl_schema.specs.SameName as same_name
use Rattle.tl_schema.specs.Schemas.{Slot, Declaration, Declared}
use Rattle.tl_schema.specs.Types.{Shape, Shapes, no_shapes, shape}
use Rattle.tl_schema.specs.Types as type
use Rattle.tl_schema.proofs.FieldsFormed.{fields_are_formed}
use Rattle.tl_schema.proofs.Members.{declaration_at}
use Rattle.tl_types.proofs.Members.{NumbersTell}
use Rattle.tl_types.proofs.SchemaNumbers.{numbers_tell}
use Rattle.tl_layers.specs.Reached.{Names, NamesInOne, Reached, named, further}
use Rattle.tl_layers.specs.Counterparts.{is_namesake, is_own, if_own, counterpart, namesake, entry_image, head_image, head_at, head_in, first_constructor, counterpart_in, image}
use Rattle.tl_layers.specs.Breaks.{ArePair, field_index, named_condition, LacksField, IsBefore, IsChanged, IsAdded, HasBreak}
use Rattle.tl_layers.specs.declared.fault.Break.{Break}
use Rattle.tl_layers.specs.declared.fault.Break.TheVariants.{Gone, NewNumber, NewVars, TypeSplit, FieldGone, FieldOrder, FieldChanged, FieldAdded}
use Rattle.tl_layers.specs.LayerLaws.{AreLayers, ReadsOldBytes}
use Rattle.tl_layers.proofs.LiftedValues.{AreApart, index_some, same_count}
use Rattle.tl_layers.proofs.NodeLists.{get_after}
use Rattle.tl_layers.proofs.PlacedFields.{AreSettled, all_woven}
use Rattle.tl_layers.proofs.OldBytes.{HasMoved, reads}
use Rattle.tl_layers.proofs.DecidedBreaks.{lacks_decided, before_decided, changed_decided, added_decided, spare_decided, shape_decided, named_equal, none_first}

-- ---- the fields of a schema's declaration have names of their own

pub get_of : {X Y : Type 0} (f : X → Y) (xs : List X) (k : ℕ) (y : Y) → slice_get (map f xs) k ≡ Some y → (x : X) × (slice_get xs k ≡ Some x) × (f x ≡ y)
get_of f [] k y at = absurd (none-some y at)
get_of f (x ∷ xs) zero y at = (x, refl, same_Some (f x) y at)
get_of f (x ∷ xs) (suc k) y at = get_of f xs k y at

get_to : {X Y : Type 0} (f : X → Y) (xs : List X) (k : ℕ) (x : X) → slice_get xs k ≡ Some x → slice_get (map f xs) k ≡ Some (f x)
get_to f [] k x at = absurd (none-some x at)
get_to f (z ∷ xs) zero x at = ap (λ y. Some (f y)) (same_Some z x at)
get_to f (z ∷ xs) (suc k) x at = get_to f xs k x at

module _ (schema : Declared) (good : IsSchema schema) (i : ℕ) (d : Declaration) (there : slice_get schema.decls i ≡ Some d) where
  abbrev text : DeclText
  text = (declaration_at schema good i d there).0

  text_at : At schema.program i text
  text_at = (declaration_at schema good i d there).1

  field_at : (k : ℕ) (f : Slot) → slice_get d.fields k ≡ Some f → (g : FieldText) × (slice_get text.fields k ≡ Some g) × (slot_of schema.program text g ≡ f)
  field_at k f at = get_of (slot_of schema.program text) text.fields k f (sym (ap (λ (x : Declaration). slice_get x.fields k) (declaration_at schema good i d there).2.1) ∙ at)

  name_at : (k : ℕ) (f : Slot) → slice_get d.fields k ≡ Some f → slice_get (part_names text) (length text.vars + k) ≡ Some f.name
  name_at k f at =
      let g = field_at k f at in
      get_after text.vars (map (λ (x : FieldText). x.name) text.fields) k ∙ get_to (λ (x : FieldText). x.name) text.fields k g.0 g.1 ∙ ap (λ (x : Slot). Some x.name) g.2

  apart_below : (j k : ℕ) (f g : Slot) → slice_get d.fields j ≡ Some f → slice_get d.fields k ≡ Some g → f.name ≡ g.name → j < k → ⊥
  apart_below j k f g at_j at_k same less =
      good.passes.0 i (same_name.part text (length text.vars + k) text_at (record {
        earlier = length text.vars + j;
        item = g.name;
        before = omega (arith, less);
        there = name_at j f at_j ∙ ap Some same;
        here = name_at k g at_k;
      }))

  pub fields_apart : AreApart d.fields
  fields_apart j k f g at_j at_k same = elim (cases_order j k) [
    | inl e ↦ e
    | inr (inl less) ↦ absurd (apart_below j k f g at_j at_k same less)
    | inr (inr more) ↦ absurd (apart_below k j g f at_k at_j (sym same) more)
  ]

-- ---- what is reached is own

module _ (schema : Declared) (good : IsSchema schema) where
  tell : NumbersTell schema
  tell = numbers_tell schema good

  mutual
    names_own : (n : ℕ) (T : Shape) (i : ℕ) → IsFormedOver schema n T → Names schema T i → IsOwn schema i
    names_own n type.int i formed is = elim is [ ]
    names_own n type.long i formed is = elim is [ ]
    names_own n type.nat i formed is = elim is [ ]
    names_own n (type.opaque k) i formed is = elim is [ ]
    names_own n type.str i formed is = elim is [ ]
    names_own n type.raw i formed is = elim is [ ]
    names_own n type.flag i formed is = elim is [ ]
    names_own n type.call i formed is = tell.own_functions i is.0 is.1
    names_own n (type.var k) i formed is = elim is [ ]
    names_own n (type.vector is_boxed T) i formed is = names_own n T i formed.0 is
    names_own n (type.boxed h args) i formed (inl is) = tell.own_members h i is.0 is.1
    names_own n (type.boxed h args) i formed (inr is) = one_own n args i formed.1 is
    names_own n (type.bare j args) i formed (inl is) = let a = formed.0 in subst (IsOwn schema) (sym is) (tell.own_members a.h j a.d a.member)
    names_own n (type.bare j args) i formed (inr is) = one_own n args i formed.1 is

    one_own : (n : ℕ) (args : Shapes) (i : ℕ) → AreArguments schema n args → NamesInOne schema args i → IsOwn schema i
    one_own n no_shapes i formed is = elim is [ ]
    one_own n (shape T args) i formed (inl is) = names_own n T i formed.0 is
    one_own n (shape T args) i formed (inr is) = one_own n args i formed.2 is

  flag_names_none : (T : Shape) (i : ℕ) → T ≡ type.flag → Names schema T i → ⊥
  flag_names_none T i is n = subst (λ S. Names schema S i) is n

  pub reached_own : (T : Shape) (i : ℕ) → IsFormed schema T → Reached schema T i → IsOwn schema i
  reached_own T i formed (named _ is) = names_own 0 T i formed is
  reached_own T i formed (further j _ k d f before there at is) =
      elim (fields_are_formed schema good j d k f (reached_own T j formed before) there at).type [
        | inl flag ↦ absurd (flag_names_none f.of i flag is)
        | inr field ↦ names_own (field_variables d) f.of i field is
      ]

-- ---- counterparts

module _ (old new : Declared) (i j : ℕ) (d : Declaration) (here : slice_get old.decls i ≡ Some d) where
  -- what a counterpart is
  pub record IsMoved : Type 0 where
    pub e : Declaration
    pub there : slice_get new.decls j ≡ Some e
    pub function : e.function ≡ d.function
    pub own : is_own new (Some e) ≡ true

  own_some : (o : Option ℕ) → if_own new o ≡ Some j → (o ≡ Some j) × (is_own new (slice_get new.decls j) ≡ true)
  own_some None is = absurd (none-some j is)
  own_some (Some k) is = by (is_own new (slice_get new.decls k)) refl is
    where
      by : (b : Bool) → is_own new (slice_get new.decls k) ≡ b → (if b then Some k else None) ≡ Some j → (Some k ≡ Some j) × (is_own new (slice_get new.decls j) ≡ true)
      by true e at = (at, ap (λ n. is_own new (slice_get new.decls n)) (sym (same_Some k j at)) ∙ e)
      by false e at = absurd (none-some j at)

  kind_of : (a b c : Bool) → (a && (if b then c else not c)) ≡ true → c ≡ b
  kind_of true true c e = e
  kind_of true false true e = absurd (true≢false (sym e))
  kind_of true false false e = refl
  kind_of false b c e = absurd (true≢false (sym e))

  pub counterpart_tells : counterpart old new i ≡ Some j → IsMoved
  counterpart_tells is =
      let found = own_some (position (is_namesake d) new.decls) (sym (ap (namesake new) here) ∙ is) in
      let p = position-Some (is_namesake d) new.decls j d found.0 in
      let e = get_or new.decls j d in
      let at : slice_get new.decls j ≡ Some e = slice_get-get_or new.decls j d p.0 in
      record { e = e; there = at; function = kind_of (bytes_eq d.name e.name) d.function e.function p.1; own = sym (ap (is_own new) at) ∙ found.1 }

-- an own entry is a function, or a constructor of a type
pub own_cases : (new : Declared) (j : ℕ) (e : Declaration) → slice_get new.decls j ≡ Some e → is_own new (Some e) ≡ true → IsFunction new j e ⊎ IsMember new e.head j e
own_cases new j e there own = elim (or_cases e.function (nat_lt e.head (length (types_of new.program))) own) [
  | inl is ↦ inl (record { there = there; function = is })
  | inr below ↦ inr (record { there = there; head = refl; known = ltb-true _ _ below })
]

own_is : (new : Declared) (good : IsSchema new) (j : ℕ) (e : Declaration) → slice_get new.decls j ≡ Some e → is_own new (Some e) ≡ true → IsOwn new j
own_is new good j e there own = elim (own_cases new j e there own) [
  | inl f ↦ (numbers_tell new good).own_functions j e f
  | inr m ↦ (numbers_tell new good).own_members e.head j e m
]

-- ---- declarations without a break

module _ (old new : Declared) (T : Shape) (layers : AreLayers old new T) where
  module _ (i : ℕ) (d : Declaration) (reached : Reached old T i) (here : slice_get old.decls i ≡ Some d) where
    never : (cause : Break) → HasBreak old new i cause → ⊥
    never cause has = layers.unbroken i cause reached has

    pub some_counterpart : (o : Option ℕ) → counterpart old new i ≡ o → (j : ℕ) × (counterpart old new i ≡ Some j)
    some_counterpart None gone = absurd (never Gone gone)
    some_counterpart (Some j) is = (j, is)

    abbrev pub j : ℕ
    j = (some_counterpart (counterpart old new i) refl).0

    pub at_j : counterpart old new i ≡ Some j
    at_j = (some_counterpart (counterpart old new i) refl).1

    pub moved : IsMoved old new i j d here
    moved = counterpart_tells old new i j d here at_j

    abbrev pub e : Declaration
    e = moved.e

    pair : ArePair old new i d e
    pair = record { here = here; j = j; counterpart = at_j; there = moved.there }

    equal : (m n : ℕ) → (m ≢ n → ⊥) → m ≡ n
    equal m n not_apart = elim (cases_eq m n) [ inl same ↦ same | inr other ↦ absurd (not_apart other) ]

    same_number : e.number ≡ d.number
    same_number = equal e.number d.number (λ other. never NewNumber (d, e, pair, other))

    pub same_vars : e.vars ≡ d.vars
    same_vars = equal e.vars d.vars (λ other. never NewVars (d, e, pair, other))

    pub at_image : slice_get new.decls (entry_image old new i) ≡ Some e
    at_image = ap (λ o. slice_get new.decls (unwrap_or o (length new.decls))) at_j ∙ moved.there

    -- fields

    none_lacks : (k : ℕ) → LacksField d.fields e.fields k → ⊥
    none_lacks = none_first (LacksField d.fields e.fields) (length d.fields) (lacks_decided d.fields e.fields) (λ k h. slice_get_within d.fields k h.0 h.1) (λ k first. never (FieldGone k) (d, e, pair, first))

    none_before : (k : ℕ) → IsBefore d.fields e.fields k → ⊥
    none_before = none_first (IsBefore d.fields e.fields) (length d.fields) (before_decided d.fields e.fields) (λ k h. slice_get_within d.fields k h.2 h.7) (λ k first. never (FieldOrder k) (d, e, pair, first))

    none_changed : (k : ℕ) → IsChanged old new d.fields e.fields k → ⊥
    none_changed = none_first (IsChanged old new d.fields e.fields) (length d.fields) (changed_decided old new d.fields e.fields) (λ k h. slice_get_within d.fields k h.0 h.3) (λ k first. never (FieldChanged k) (d, e, pair, first))

    none_added : (m : ℕ) → IsAdded d.fields e.fields m → ⊥
    none_added = none_first (IsAdded d.fields e.fields) (length e.fields) (added_decided d.fields e.fields) (λ m h. slice_get_within e.fields m h.0 h.1) (λ m first. never (FieldAdded m) (d, e, pair, first))

    constructor_index : (k : ℕ) (f : Slot) → slice_get d.fields k ≡ Some f → (o : Option ℕ) → field_index e.fields f.name ≡ o → (m : ℕ) × (field_index e.fields f.name ≡ Some m)
    constructor_index k f at None none = absurd (none_lacks k (f, at, none))
    constructor_index k f at (Some m) is = (m, is)

    own_old : IsOwn old i
    own_old = reached_own old layers.old_is T i layers.formed reached

    own_new : IsOwn new j
    own_new = own_is new layers.new_is j e moved.there moved.own

    pub settled : AreSettled old new d.fields e.fields
    settled = record {
      olds = fields_apart old layers.old_is i d here;
      news = fields_apart new layers.new_is j e moved.there;
      old_conditions = λ k f at. (fields_are_formed old layers.old_is i d k f own_old here at).cond;
      new_conditions = λ m g at. (fields_are_formed new layers.new_is j e m g own_new moved.there at).cond;
      keeps = λ k f at.
          let m = constructor_index k f at (field_index e.fields f.name) refl in
          let g = index_some e.fields f.name m.0 m.1 in (
            m.0,
            g.0,
            (m.1, g.1),
            elim (shape_decided g.0.of (image old new f.of)) [ inl same ↦ same | inr other ↦ absurd (none_changed k (f, m.0, g.0, at, (m.1, g.1), inl other)) ],
            elim (named_equal (named_condition e.fields g.0.cond) (named_condition d.fields f.cond)) [ inl same ↦ same | inr other ↦ absurd (none_changed k (f, m.0, g.0, at, (m.1, g.1), inr other)) ],
          );
      ordered = λ p m n f g at next at_m at_n. elim (cases_order m n) [
        | inl same ↦ omega (arith, same)
        | inr (inl less) ↦ omega (arith, less)
        | inr (inr more) ↦ absurd (none_before (suc p) (p, f, g, m, n, refl, at, next, at_m, at_n, more))
      ];
      spare = λ m g at none. elim (spare_decided d.fields e.fields g.cond) [ inl spare ↦ spare | inr other ↦ absurd (none_added m (g, at, none, other)) ];
    }

    pub fields_known : (k : ℕ) (f : Slot) → slice_get d.fields k ≡ Some f → (n : ℕ) → Names old f.of n → Reached old T n
    fields_known k f at n is = further i n k d f reached here at is

  -- the first constructor of a type
  first_of : (h i : ℕ) (d : Declaration) → IsMember old h i d → (o : Option ℕ) → First (HoldsAt (λ x. x.head ≡ h) old.decls) o → first_constructor old h ≡ o → (c : ℕ) × (b : Declaration) × (first_constructor old h ≡ Some c) × IsMember old h c b
  first_of h i d m None none is = absurd (none i (record { x = d; there = m.there; has = m.head }))
  first_of h i d m (Some c) first is = let p = first.0 in (c, p.x, is, record { there = p.there; head = p.has; known = m.known })

  module _ (h i : ℕ) (d : Declaration) (reached : Reached old T i) (here : slice_get old.decls i ≡ Some d) (m : IsMember old h i d) (all : (k : ℕ) (c : Declaration) → IsMember old h k c → Reached old T k) where
    first : (c : ℕ) × (b : Declaration) × (first_constructor old h ≡ Some c) × IsMember old h c b
    first = first_of h i d m (first_constructor old h) (first_position (λ x. x.head == h) (λ x. x.head ≡ h) (λ x. (λ t. eqb-true x.head h t, λ e. eq-eqb x.head h e)) old.decls) refl

    abbrev c : ℕ
    c = first.0

    first_reached : Reached old T c
    first_reached = all c first.1 first.3

    image_is : head_image old new h ≡ (e c first.1 first_reached (first.3).there).head
    image_is =
        ap (λ o. head_at new (counterpart_in old new o)) first.2 ∙ ap (head_at new) (at_j c first.1 first_reached (first.3).there)
        ∙ ap (head_in new) (moved c first.1 first_reached (first.3).there).there

    no_function : d.function ≡ false
    no_function = (numbers_tell old layers.old_is).constructs h i d m

    same_head : (e i d reached here).head ≡ (e c first.1 first_reached (first.3).there).head
    same_head = equal i d reached here (e i d reached here).head (e c first.1 first_reached (first.3).there).head
        (λ other. never i d reached here TypeSplit (d, e i d reached here, pair i d reached here, (no_function, c, ap (first_constructor old) m.head ∙ first.2, (first.1, e c first.1 first_reached (first.3).there, pair c first.1 first_reached (first.3).there, other))))

    below_types : (e i d reached here).head < length (types_of new.program)
    below_types = elim (own_cases new (j i d reached here) (e i d reached here) (moved i d reached here).there (moved i d reached here).own) [
      | inl f ↦ absurd (true≢false (sym f.function ∙ (moved i d reached here).function ∙ no_function))
      | inr made ↦ made.known
    ]

    pub head_moves : ((e i d reached here).head ≡ head_image old new h) × (head_image old new h < length (types_of new.program))
    head_moves = (same_head ∙ sym image_is, subst (λ n. n < length (types_of new.program)) (same_head ∙ sym image_is) below_types)

  pub has_moved : (i : ℕ) (d : Declaration) → Reached old T i → slice_get old.decls i ≡ Some d → HasMoved old new (Reached old T) i d
  has_moved i d reached here = record {
    e = e i d reached here;
    there = at_image i d reached here;
    number = same_number i d reached here;
    function = (moved i d reached here).function;
    head = λ h m all. head_moves h i d reached here m all;
    fields = λ args vs b spelled bits. all_woven old new d.fields (e i d reached here).fields (settled i d reached here) vs (same_count old args [] d.fields vs b spelled) bits;
    known = λ k f at n is. fields_known i d reached here k f at n is;
  }

pub reads_old_bytes : ReadsOldBytes
reads_old_bytes old new T layers v b plain spelled = reads old new (Reached old T) (has_moved old new T layers) v T b (λ i is. named i is) plain spelled
