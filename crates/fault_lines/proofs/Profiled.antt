-- A schema is a profile or lacks a form, and that in one way; so is a text.
use Rattle.std.proofs.Common.{◌≡◌, ◌⊎◌, ℕ, List, [], ◌∷◌, length, codes, Option, Some, None, Result, Ok, Err, Vec, Global, refl, sym, ap, ap₂, ◌∙◌, subst, inl, inr}
use Rattle.std.specs.Prelude.{IfOk, unwrap_or}
use Rattle.std.specs.declared.alloc.AllocError.{AllocError}
use Rattle.tl_base.specs.Contents.{Files}
use Rattle.tl_base.specs.Outside.{HasFile}
use Rattle.tl_schema.specs.Types.{Shape, boxed, no_shapes}
use Rattle.tl_schema.specs.Schemas.{Declared}
use Rattle.tl_schema.specs.CheckedPrograms.{IsSchema}
use Rattle.tl_schema.specs.AskedTypes.{IsTypeText}
use Rattle.tl_schema.proofs.OneType.{one_meaning}
use Rattle.tl_names.specs.Indexes.{types_of}
use Rattle.wire_forms.specs.Forms.{type_names}
use Rattle.wire_profile.specs.Indexes.{ProfileView}
use Rattle.wire_profile.specs.Profiles.{IsHead, AreHeads, IsProfile}
use Rattle.wire_profile.specs.declared.fault.ProfileFault.{ProfileFault}
use Rattle.wire_profile.specs.declared.fault.ProfileFault.TheVariants as profile
use Rattle.wire_profile.specs.Faults.{FaultView, missing, differs, AnswersProfile, IsAnswer, IsFound, told_by, profile_answer, profile_fault, profile_of}
use Rattle.wire_profile.specs.inner.Heads.{head_in}
use Rattle.wire_profile.proofs.Found.{head_found}
use Rattle.wire_profile.proofs.Passing.{is_profile}
use Rattle.outside.specs.Answer.{Answer, refused}
use Rattle.outside.specs.Jobs.{RefusedBy}
use Rattle.outside.specs.Loading.{Refuses}
use Rattle.outside.specs.declared.stop.LoadError.{LoadError}
use Rattle.outside.proofs.Loaded.{memory_refuses}
use Rattle.schema_files.specs.Causes.{TypeNameCause}
use Rattle.schema_files.specs.Loaded.{IsSchemaText, TypeNameRefused}
use Rattle.schema_files.proofs.Answering.{each_of_file, of_schema, one_of_file}
use Rattle.schema_files.proofs.OneTypeName.{never_type, type_or_refused}
use Rattle.fault_lines.specs.Profiles.{profile_line}
use Rattle.fault_lines.specs.Profiled.{TellsProfile, form_line, OfProfile, no_profile, profiled, OfProfileFile, SchemasAreAnswered, SchemasHaveOneAnswer, AnswersAreProfiles}

some_line : (a b : List ℕ) → Some a ≡ Some b → a ≡ b
some_line a b e = cc

-- ---- the numbers of types are one

module _ (S : Declared) where
  same_head : (h g : ℕ) → boxed h no_shapes ≡ boxed g no_shapes → h ≡ g
  same_head h g e = cc

  one_head : (name : List ℕ) (h g : ℕ) → IsHead S name h → IsHead S name g → h ≡ g
  one_head name h g (inl is) (inl also) = same_head h g (one_meaning S.program name (boxed h no_shapes) (boxed g no_shapes) is also)
  one_head name h g (inl is) (inr (end, none)) = absurd (none h is)
  one_head name h g (inr (end, none)) (inl is) = absurd (none g is)
  one_head name h g (inr (end, none)) (inr (also, nor)) = end ∙ sym also

  one_heads : (names : List (List ℕ)) (hs gs : List ℕ) → AreHeads S names hs → AreHeads S names gs → hs ≡ gs
  one_heads [] [] [] is also = refl
  one_heads [] [] (g ∷ gs) is also = absurd also
  one_heads [] (h ∷ hs) gs is also = absurd is
  one_heads (name ∷ names) [] gs is also = absurd is
  one_heads (name ∷ names) (h ∷ hs) [] is also = absurd also
  one_heads (name ∷ names) (h ∷ hs) (g ∷ gs) is also = ap₂ (λ (k : ℕ) (ks : List ℕ). k ∷ ks) (one_head name h g is.0 also.0) (one_heads names hs gs is.1 also.1)

  head_of : (name : List ℕ) → ((T : Shape) × IsTypeText S.program name T) ⊎ ((cause : TypeNameCause) × TypeNameRefused S name cause) → (h : ℕ) × IsHead S name h
  head_of name (inl (T, is)) = (_, head_found S name T (head_in T) (unwrap_or (head_in T) (length (types_of S.program))) _ is (λ U also. one_meaning S.program name T U is also) refl refl refl)
  head_of name (inr (cause, not)) = (length (types_of S.program), inr (refl, λ g is. never_type S name (boxed g no_shapes) cause is not))

  heads_of : (names : List (List ℕ)) → (hs : List ℕ) × AreHeads S names hs
  heads_of [] = ([], tt)
  heads_of (name ∷ names) =
      let first = head_of name (type_or_refused S name) in
      let more = heads_of names in
      (first.0 ∷ more.0, (first.1, more.1))

-- ---- schemas

pub each_schema : SchemasAreAnswered
each_schema S good = let heads = heads_of S type_names in (profile_answer S heads.0, (heads.0, heads.1, refl))

pub one_schema : SchemasHaveOneAnswer
one_schema S a b (hs, are, is) (gs, also, at) = sym is ∙ ap (profile_answer S) (one_heads S type_names hs gs are also) ∙ at

ok_is : (p q : ProfileView) (o : Option FaultView) → told_by q o ≡ Ok p → (q ≡ p) × (o ≡ None)
ok_is p q None e = (cc, refl)
ok_is p q (Some fault) e = absurd cc

module _ (S : Declared) (heads : List ℕ) where
  found : AreHeads S type_names heads → IsFound (profile_of S heads)
  unfolding profile_of
  found are = record { indexes = refl; heads = are }

  own : IsSchema S → IsSchema (profile_of S heads).schema
  unfolding profile_of
  own good = good

  own_schema : (profile_of S heads).schema ≡ S
  unfolding profile_of
  own_schema = refl

  passed : (p : ProfileView) → profile_answer S heads ≡ Ok p → (profile_of S heads ≡ p) × (profile_fault (profile_of S heads) ≡ None)
  unfolding profile_answer
  passed p is = ok_is p (profile_of S heads) (profile_fault (profile_of S heads)) is

pub are_profiles : AnswersAreProfiles
are_profiles S p good (heads, are, is) =
    let passes = passed S heads p is in
    let whole = is_profile (profile_of S heads) (own S heads good) (found S heads are) passes.1 in
    (subst IsProfile passes.0 whole, ap (λ (q : ProfileView). q.schema) (sym passes.0) ∙ own_schema S heads)

-- ---- what is answered

same_fault : (S : Declared) (f g : FaultView) → IsAnswer S (Err f) → IsAnswer S (Err g) → f ≡ g
same_fault S f g is at = let one = one_schema S (Err f) (Err g) is at in cc

same_profile : (S : Declared) (p q : ProfileView) → IsAnswer S (Ok p) → IsAnswer S (Ok q) → p ≡ q
same_profile S p q is at = let one = one_schema S (Ok p) (Ok q) is at in cc

never_both : (S : Declared) (p : ProfileView) (f : FaultView) → IsAnswer S (Ok p) → IsAnswer S (Err f) → ⊥
never_both S p f is lacks = let one = one_schema S (Ok p) (Err f) is lacks in cc

module _ (Then : ProfileView → Answer → Type 0) where
  -- one answer
  module _ (one : (p : ProfileView) → IsProfile p → (a b : Answer) → Then p a → Then p b → a ≡ b) where
    one_of_schema : (S : Declared) → IsSchema S → (a b : Answer) → OfProfile Then S a → OfProfile Then S b → a ≡ b
    one_of_schema S good a b (no_profile f lacks is) (no_profile g misses at) = is ∙ ap (λ (x : FaultView). refused (form_line x)) (same_fault S f g lacks misses) ∙ sym at
    one_of_schema S good a b (no_profile f lacks is) (profiled p h then) = absurd (never_both S p f h lacks)
    one_of_schema S good a b (profiled p h then) (no_profile f lacks is) = absurd (never_both S p f h lacks)
    one_of_schema S good a b (profiled p h then) (profiled q k next) = one p (are_profiles S p good h).0 a b then (subst (λ (x : ProfileView). Then x b) (same_profile S q p k h) next)

    pub one_profiled : (files : Files) (schema : List ℕ) (a b : Answer) → OfProfileFile Then files schema a → OfProfileFile Then files schema b → a ≡ b
    one_profiled = one_of_file (codes "schema") (OfProfile Then) one_of_schema

  -- an answer
  module _ (each : (p : ProfileView) → IsProfile p → (a : Answer) × Then p a) where
    answered : (S : Declared) → IsSchema S → (told : Result ProfileView FaultView) → IsAnswer S told → (a : Answer) × OfProfile Then S a
    answered S good (Ok p) is = let then = each p (are_profiles S p good is).0 in (then.0, profiled p is then.1)
    answered S good (Err fault) is = (_, no_profile fault is refl)

    each_of_schema : (S : Declared) → IsSchema S → (a : Answer) × OfProfile Then S a
    each_of_schema S good = let told = each_schema S good in answered S good told.0 told.1

    pub each_profiled : (files : Files) (schema : List ℕ) → (text : List ℕ) × HasFile files schema text → (a : Answer) × OfProfileFile Then files schema a
    each_profiled = each_of_file (codes "schema") (OfProfile Then) each_of_schema

  -- the profile that was found is the answer's
  then_told : (S : Declared) (p : ProfileView) (a : Answer) → IsAnswer S (Ok p) → OfProfile Then S a → Then p a
  then_told S p a is (no_profile f lacks at) = absurd (never_both S p f is lacks)
  then_told S p a is (profiled q also then) = subst (λ (x : ProfileView). Then x a) (same_profile S q p also is) then

  pub profile_tells : (files : Files) (schema text : List ℕ) (S : Declared) (p : ProfileView) (a : Answer) → HasFile files schema text → IsSchemaText text S → IsAnswer S (Ok p) → OfProfileFile Then files schema a → Then p a
  profile_tells files schema text S p a has read is h = then_told S p a is (of_schema (codes "schema") (OfProfile Then) files schema text S a has read h)

-- ---- what is told of a schema that is none

pub refused_profile : (S : Declared) (fault : ProfileFault) (line : Result (Vec ℕ Global) AllocError) (e : LoadError) → AnswersProfile S (Err fault) → IfOk line (λ l. profile_line fault ≡ Some l.items) → RefusedBy line e → Refuses (TellsProfile S) e
refused_profile S fault (Err x) e answers tells is = memory_refuses (TellsProfile S) e is
refused_profile S (profile.Missing name) (Ok line) e answers tells is = subst (Refuses (TellsProfile S)) (sym is) (missing name, answers, sym (some_line _ _ tells))
refused_profile S (profile.Differs name) (Ok line) e answers tells is = subst (Refuses (TellsProfile S)) (sym is) (differs name, answers, sym (some_line _ _ tells))
refused_profile S profile.Memory (Ok line) e answers tells is = absurd cc
