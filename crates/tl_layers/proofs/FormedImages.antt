-- The image of a type has values, by what a schema tells of its types and of constructors without bytes.
use Rattle.std.proofs.Common.{◌≡◌, inl, inr, ℕ, suc, ◌<◌, length, slice_get, Option, Some, None, refl, ap, sym, ◌∙◌, subst, true≢false, arith}
use Rattle.std.proofs.lemmas.Option.{same_Some, slice_get_within}
use Rattle.tl_names.specs.BareFields.{TakesNone}
use Rattle.tl_names.specs.Indexes.{types_of}
use Rattle.tl_schema.specs.Types.{Shape, Shapes, no_shapes, shape}
use Rattle.tl_schema.specs.Types as type
use Rattle.tl_schema.specs.Schemas.{Slot, Declaration, Declared}
use Rattle.tl_schema.specs.Formed.{IsMember, IsFormedOver, AreArguments, AppliesType, AppliesBare, IsEmpty, count_of}
use Rattle.tl_types.proofs.SchemaNumbers.{numbers_tell}
use Rattle.tl_layers.specs.Counterparts.{image, image_each, head_image, entry_image}
use Rattle.tl_layers.specs.LayerLaws.{AreLayers}
use Rattle.tl_layers.specs.Reached.{Names, NamesInOne, Reached, named, further}
use Rattle.tl_layers.proofs.LiftedValues.{get_some}
use Rattle.tl_layers.proofs.MovedDeclarations.{reached_own, own_cases, moved, e, same_vars, at_image, settled, head_moves}

abbrev pub IsBareAt : Shape → ℕ → Type 0
IsBareAt S j = (args : Shapes) × (S ≡ type.bare j args)

-- each field of constructor i is a bare constructor that takes no bytes
pub data HasNoBytes (schema : Declared) : ℕ → Type 0 where
  no_bytes : (i : ℕ) (d : Declaration) (at : ℕ → ℕ) → slice_get schema.decls i ≡ Some d → ((k : ℕ) (f : Slot) → slice_get d.fields k ≡ Some f → IsBareAt f.of (at k))
      → ((k : ℕ) (f : Slot) → slice_get d.fields k ≡ Some f → HasNoBytes schema (at k)) → HasNoBytes schema i

-- what a schema tells of its types and of constructors without bytes
pub record EmptiesTell (schema : Declared) : Type 0 where
  pub to : (j : ℕ) → TakesNone schema.program j → HasNoBytes schema j
  pub from : (h i : ℕ) (d : Declaration) → IsMember schema h i d → HasNoBytes schema i → TakesNone schema.program i
  pub made : (h : ℕ) → h < length (types_of schema.program) → (i : ℕ) × (d : Declaration) × IsMember schema h i d
  pub even : (h i j : ℕ) (d e : Declaration) → IsMember schema h i d → IsMember schema h j e → d.vars ≡ e.vars

-- ---- bare types

abbrev pub index_in : Shape → ℕ
index_in (type.bare i args) = i
index_in S = 0

abbrev args_in : Shape → Shapes
args_in (type.bare i args) = args
args_in S = no_shapes

abbrev index_at : Option Slot → ℕ
index_at None = 0
index_at (Some f) = index_in f.of

module _ (old new : Declared) where
  bare_back : (S : Shape) (j : ℕ) → IsBareAt (image old new S) j → IsBareAt S (index_in S) × (entry_image old new (index_in S) ≡ j)
  bare_back (type.bare i args) j (made, is) = ((args, refl), ap index_in is)
  bare_back type.int j (made, is) = absurd cc
  bare_back type.long j (made, is) = absurd cc
  bare_back type.nat j (made, is) = absurd cc
  bare_back (type.opaque n) j (made, is) = absurd cc
  bare_back type.str j (made, is) = absurd cc
  bare_back type.raw j (made, is) = absurd cc
  bare_back type.flag j (made, is) = absurd cc
  bare_back type.call j (made, is) = absurd cc
  bare_back (type.var k) j (made, is) = absurd cc
  bare_back (type.vector b S) j (made, is) = absurd cc
  bare_back (type.boxed h args) j (made, is) = absurd cc

  count_images : (args : Shapes) → count_of (image_each old new args) ≡ count_of args
  count_images no_shapes = refl
  count_images (shape S args) = ap suc (count_images args)

  module _ (T : Shape) (layers : AreLayers old new T) (olds : EmptiesTell old) (news : EmptiesTell new) where
    entry_there : (i : ℕ) → Reached old T i → (d : Declaration) × (slice_get old.decls i ≡ Some d)
    entry_there i reached =
        let own = reached_own old layers.old_is T i layers.formed reached in
        let within = slice_get_within old.program i own.0 own.1 in
        let count = layers.old_is.count in get_some old.decls i (omega (arith, within, count))

    empty_back : (j : ℕ) → HasNoBytes new j → (i : ℕ) (d : Declaration) → Reached old T i → slice_get old.decls i ≡ Some d → entry_image old new i ≡ j → HasNoBytes old i
    empty_back _ (no_bytes j c at there bare rest) i d reached here is = no_bytes i d (λ k. index_at (slice_get d.fields k)) here own_bare (own_rest (λ m g g_at i2 d2 r2 h2 is2. empty_back (at m) (rest m g g_at) i2 d2 r2 h2 is2))
      where
        one : c ≡ e old new T layers i d reached here
        one = same_Some c _ (sym there ∙ ap (slice_get new.decls) (sym is) ∙ at_image old new T layers i d reached here)

        -- the new field of an old one is a bare constructor
        held : (k : ℕ) (f : Slot) → slice_get d.fields k ≡ Some f → (m : ℕ) × (g : Slot) × (slice_get c.fields m ≡ Some g) × IsBareAt (image old new f.of) (at m)
        held k f fat =
            let t = (settled old new T layers i d reached here).keeps k f fat in
            let there_g : slice_get c.fields t.0 ≡ Some t.1 = ap (λ (x : Declaration). slice_get x.fields t.0) one ∙ t.2.1 in
            let b = bare t.0 t.1 there_g in (t.0, t.1, there_g, (b.0, sym t.3 ∙ b.1))

        own_bare : (k : ℕ) (f : Slot) → slice_get d.fields k ≡ Some f → IsBareAt f.of (index_at (slice_get d.fields k))
        own_bare k f fat =
            let h = held k f fat in
            subst (IsBareAt f.of) (ap index_at (sym fat)) (bare_back f.of (at h.0) h.3).0

        own_rest : ((m : ℕ) (g : Slot) → slice_get c.fields m ≡ Some g → (i2 : ℕ) (d2 : Declaration) → Reached old T i2 → slice_get old.decls i2 ≡ Some d2 → entry_image old new i2 ≡ at m → HasNoBytes old i2) → (k : ℕ) (f : Slot) → slice_get d.fields k ≡ Some f → HasNoBytes old (index_at (slice_get d.fields k))
        own_rest again k f fat =
            let h = held k f fat in
            let b = bare_back f.of (at h.0) h.3 in
            let names : Names old f.of (index_in f.of) = subst (λ S. Names old S (index_in f.of)) (sym b.0.1) (inl refl) in
            let inner : Reached old T (index_in f.of) = further i (index_in f.of) k d f reached here fat names in
            let x = entry_there (index_in f.of) inner in
            subst (HasNoBytes old) (ap index_at (sym fat)) (again h.0 h.1 h.2 (index_in f.of) x.0 inner x.1 b.1)

    abbrev IsAllReached : Shape → Type 0
    IsAllReached S = (i : ℕ) → Names old S i → Reached old T i

    not_empty : (n : ℕ) (S : Shape) → IsFormedOver old n S → IsAllReached S → (IsEmpty old S → ⊥) → IsEmpty new (image old new S) → ⊥
    not_empty n (type.bare i args) formed known full none =
        let a = formed.0 in
        full (olds.from a.h i a.d a.member (empty_back (entry_image old new i) (news.to (entry_image old new i) none) i a.d (known i (inl refl)) a.member.there refl))
    not_empty n type.int formed known full none = none
    not_empty n type.long formed known full none = none
    not_empty n type.nat formed known full none = none
    not_empty n (type.opaque k) formed known full none = none
    not_empty n type.str formed known full none = none
    not_empty n type.raw formed known full none = none
    not_empty n type.flag formed known full none = none
    not_empty n type.call formed known full none = none
    not_empty n (type.var k) formed known full none = none
    not_empty n (type.vector b S) formed known full none = none
    not_empty n (type.boxed h args) formed known full none = none

    applies_type : (h count : ℕ) → AppliesType old h count → ((i : ℕ) (d : Declaration) → IsMember old h i d → Reached old T i) → AppliesType new (head_image old new h) count
    applies_type h count a all =
        let m = olds.made h a.known in
        let reached = all m.0 m.1 m.2 in
        let here = (m.2).there in
        let moves = head_moves old new T layers h m.0 m.1 reached here m.2 all in
        record {
          known = moves.1;
          arity = λ k c member.
              news.even (head_image old new h) k (entry_image old new m.0) c (e old new T layers m.0 m.1 reached here) member
              (record { there = at_image old new T layers m.0 m.1 reached here; head = moves.0; known = moves.1 })
              ∙ same_vars old new T layers m.0 m.1 reached here ∙ a.arity m.0 m.1 m.2;
        }

    applies_bare : (i count : ℕ) → AppliesBare old i count → Reached old T i → AppliesBare new (entry_image old new i) count
    applies_bare i count a reached =
        let here = (a.member).there in
        let no_function = (numbers_tell old layers.old_is).constructs a.h i a.d a.member in
        let b = moved old new T layers i a.d reached here in
        record {
          h = (e old new T layers i a.d reached here).head;
          d = e old new T layers i a.d reached here;
          member = elim (own_cases new _ (e old new T layers i a.d reached here) b.there b.own) [
            | inl f ↦ absurd (true≢false (sym f.function ∙ b.function ∙ no_function))
            | inr made ↦ record { there = at_image old new T layers i a.d reached here; head = refl; known = made.known }
          ];
          arity = same_vars old new T layers i a.d reached here ∙ a.arity;
        }

    mutual
      image_formed : (n : ℕ) (S : Shape) → IsFormedOver old n S → IsAllReached S → IsFormedOver new n (image old new S)
      image_formed n type.int formed known = tt
      image_formed n type.long formed known = tt
      image_formed n type.nat formed known = tt
      image_formed n (type.opaque k) formed known = tt
      image_formed n type.str formed known = tt
      image_formed n type.raw formed known = tt
      image_formed n type.flag formed known = formed
      image_formed n type.call formed known = tt
      image_formed n (type.var k) formed known = formed
      image_formed n (type.vector b S) formed known = (image_formed n S formed.0 known, not_empty n S formed.0 known formed.1)
      image_formed n (type.boxed h args) formed known =
          (subst (AppliesType new (head_image old new h)) (sym (count_images args)) (applies_type h (count_of args) formed.0 (λ i d m. known i (inl (d, m)))), images_formed n args formed.1 (λ i is. known i (inr is)))
      image_formed n (type.bare i args) formed known =
          (subst (AppliesBare new (entry_image old new i)) (sym (count_images args)) (applies_bare i (count_of args) formed.0 (known i (inl refl))), images_formed n args formed.1 (λ j is. known j (inr is)))

      images_formed : (n : ℕ) (args : Shapes) → AreArguments old n args → ((i : ℕ) → NamesInOne old args i → Reached old T i) → AreArguments new n (image_each old new args)
      images_formed n no_shapes formed known = tt
      images_formed n (shape S args) formed known =
          (image_formed n S formed.0 (λ i is. known i (inl is)), not_empty n S formed.0 (λ i is. known i (inl is)) formed.1, images_formed n args formed.2 (λ i is. known i (inr is)))

-- by what each schema tells
pub image_has_values : (old new : Declared) (T : Shape) → AreLayers old new T → EmptiesTell old → EmptiesTell new → IsFormedOver new 0 (image old new T)
image_has_values old new T layers olds news = image_formed old new T layers olds news 0 T layers.formed (λ i is. named i is)
